use Rattle.std.proofs.Common.{◌≡◌, ◌+◌, ℕ, List, length, sym, ap, ◌∙◌, subst, arith, drop, Err, Result, true, false}
use Rattle.clip_regions.specs.declared.region.Region.{Region}
use Rattle.mesh_model.specs.Watertight.{covered}
use Rattle.mesh_lists.specs.Lines.{LeavesBehind, whole_lines}
use Rattle.mesh_lists.specs.Lists.{Lists, are_near, body_lists, kept_lines}
use Rattle.mesh_lists.proofs.Heads.{opened_is, no_level, far_level, near_levels, leaves_more}
use Rattle.mesh_lists.proofs.head.read_head.Goals as goal

pub returns-then-count-eq0-clause-lists : goal.returns-then-count-eq0-clause-lists
returns-then-count-eq0-clause-lists c =
    let levels = c.in_ok-levels.levels in
    let told = c.in_ok-levels.ensures in
    c.in-Ok.ensures.lists
    ∙ opened_is (whole_lines c.in-Ok.rest.now) (whole_lines levels.text.now) levels.regions.items told.regions (sym told.left.lines)
    ∙ no_level levels.regions.items (whole_lines levels.text.now) (omega arith)

pub returns-in-None-clause-lists : goal.returns-in-None-clause-lists
returns-in-None-clause-lists c =
    let levels = c.in_ok-levels.levels in
    let told = c.in_ok-levels.ensures in
    let P : List Region → Type 0 = λ regions. are_near (covered regions) ≡ false in
    let far = subst P c.deref.ensures.value c.in-None.ensures.near in
    let count : 2 + length levels.regions.items ≡ 2 + c.len-count.result = omega arith in
    let number : ◌≡◌ {A = Result Lists ℕ} (Err (2 + length levels.regions.items)) (Err (2 + c.len-count.result)) = ap Err count in
    c.in-Ok.ensures.lists
    ∙ opened_is (whole_lines c.in-Ok.rest.now) (whole_lines levels.text.now) levels.regions.items told.regions (sym told.left.lines)
    ∙ far_level levels.regions.items (whole_lines levels.text.now) (omega arith) far
    ∙ number

pub returns-clause-lists : goal.returns-clause-lists
returns-clause-lists c =
    let levels = c.in_ok-levels.levels in
    let told = c.in_ok-levels.ensures in
    let lines = whole_lines levels.text.now in
    let P : List Region → Type 0 = λ regions. (are_near (covered regions) ≡ true) × (c.in-Some.border ≡ covered regions) in
    let near = subst P c.deref.ensures.value c.in-Some.ensures.near in
    let count : 2 + length levels.regions.items + kept_lines lines ≡ 2 + c.len-count.result + kept_lines lines = omega arith in
    c.in-Ok.ensures.lists
    ∙ opened_is (whole_lines c.in-Ok.rest.now) lines levels.regions.items told.regions (sym told.left.lines)
    ∙ near_levels levels.regions.items lines (omega arith) near.0
    ∙ ap (λ (head : ℕ). body_lists head (covered levels.regions.items) (drop (kept_lines lines) lines)) count
    ∙ ap (λ (border : Region). body_lists (2 + c.len-count.result + kept_lines lines) border (drop (kept_lines lines) lines)) (sym near.1)
    ∙ c.head_behind.ensures.lists

pub returns-clause-left : goal.returns-clause-left
returns-clause-left c =
    let levels = c.in_ok-levels.levels in
    let told = c.in_ok-levels.ensures in
    let count : 2 + length levels.regions.items ≡ 2 + c.len-count.result = omega arith in
    let P : ℕ → Type 0 = λ n. LeavesBehind n c.args.text.now levels.text.now in
    c.head_behind.ensures.left c.args.text.now (subst P count (leaves_more 2 (length levels.regions.items) c.args.text.now c.in-Ok.rest.now levels.text.now c.in-Ok.ensures.left told.left))
