-- The head of a text, line by line.
use Rattle.std.proofs.Common.{◌≡◌, ℕ, suc, ◌+◌, ◌-◌, ◌<◌, Bool, true, false, ◌&&◌, nat_eq, List, [], ◌∷◌, ◌++◌, length, drop, Option, Some, None, Err, refl, sym, ap, ◌∙◌, subst, arith, All, ℤ, pos, ◌^◌, get_or}
use Rattle.std.specs.Option.{is_some, option_and_then, MatchOption}
use Rattle.std.proofs.lemmas.Bool.Decides.{nat_tests}
use Rattle.std.proofs.lemmas.List.{drop-drop, get_or_default}
use Rattle.std.proofs.lemmas.List.Elements.{All-append, All-cons, All-nil}
use Rattle.clip_regions.specs.declared.region.Region.{Region}
use Rattle.mesh_model.specs.Watertight.{covered, scaled}
use Rattle.mesh_model.specs.Height.{active_at}
use Rattle.clip_regions.specs.Regions.{empty_region}
use Rattle.mesh_lists.specs.Lines.{Follows, LeavesBehind, cut_line, leading, onto, parts_at, whole_lines}
use Rattle.mesh_lists.specs.Says.{frame_of, viewer_of, kept_of, level_of, behind, where_true}
use Rattle.mesh_lists.specs.Lists.{line_at, lists_of_lines, opened_lists, levels_lists, level_regions, kept_lines, body_lists, are_near, is_near, near_region}

-- an empty line says nothing
pub no_frame : is_some (frame_of []) ≡ false
unfolding frame_of behind parts_at
no_frame = refl

pub no_viewer : is_some (viewer_of []) ≡ false
unfolding viewer_of behind parts_at
no_viewer = refl

pub no_kept : is_some (kept_of []) ≡ false
unfolding kept_of behind parts_at
no_kept = refl

-- what the first line says
onto_none : {A : Type 0} (said : Option A) (more : List A) → onto said more ≡ [] → is_some said ≡ false
onto_none None more none = refl
onto_none (Some a) more none = cc

pub leading_none : {A : Type 0} (says : List ℕ → Option A) (lines : List (List ℕ)) → is_some (says []) ≡ false → leading says lines ≡ [] → is_some (says (line_at lines 0)) ≡ false
leading_none says [] empty none = empty
leading_none says (line ∷ lines) empty none = onto_none (says line) (leading says lines) none

onto_some : {A : Type 0} (said : Option A) (rest : List A) (a : A) (more : List A) → onto said rest ≡ a ∷ more → said ≡ Some a
onto_some None rest a more is = cc
onto_some (Some b) rest a more is = cc

pub leading_some : {A : Type 0} (says : List ℕ → Option A) (lines : List (List ℕ)) (a : A) (more : List A) → leading says lines ≡ a ∷ more → says (line_at lines 0) ≡ Some a
leading_some says [] a more is = cc
leading_some says (line ∷ lines) a more is = onto_some (says line) (leading says lines) a more is

pub leading_is_some : {A : Type 0} (says : List ℕ → Option A) (lines : List (List ℕ)) (a : A) (more : List A) → leading says lines ≡ a ∷ more → is_some (says (line_at lines 0)) ≡ true
leading_is_some says lines a more is = ap is_some (leading_some says lines a more is)

-- the first two lines
pub bad_first : (lines : List (List ℕ)) → is_some (frame_of (line_at lines 0)) ≡ false → lists_of_lines lines ≡ Err 1
unfolding lists_of_lines
bad_first lines bad = rw bad refl

line_next : (lines rest : List (List ℕ)) → drop 1 lines ≡ rest → line_at lines 1 ≡ line_at rest 0
line_next [] rest is = ap (λ (lines : List (List ℕ)). line_at lines 0) is
line_next (line ∷ lines) rest is = ap (λ (lines : List (List ℕ)). line_at lines 0) is

pub bad_second : (lines rest : List (List ℕ)) → drop 1 lines ≡ rest → is_some (frame_of (line_at lines 0)) ≡ true → is_some (viewer_of (line_at rest 0)) ≡ false → lists_of_lines lines ≡ Err 2
unfolding lists_of_lines
bad_second lines rest is good bad =
    let seen : is_some (viewer_of (line_at lines 1)) ≡ false = ap (λ (line : List ℕ). is_some (viewer_of line)) (line_next lines rest is) ∙ bad in
    rw (good, seen) refl

pub good_opening : (lines rest more : List (List ℕ)) → drop 1 lines ≡ rest → drop 1 rest ≡ more → is_some (frame_of (line_at lines 0)) ≡ true → is_some (viewer_of (line_at rest 0)) ≡ true →
    lists_of_lines lines ≡ opened_lists more
unfolding lists_of_lines
good_opening lines rest more is then good seen =
    let viewed : is_some (viewer_of (line_at lines 1)) ≡ true = ap (λ (line : List ℕ). is_some (viewer_of line)) (line_next lines rest is) ∙ seen in
    let behind : drop 2 lines ≡ more = sym (drop-drop 1 1 lines) ∙ ap (drop 1) is ∙ then in
    rw (good, viewed) (ap opened_lists behind)

-- the next level
onto_other : {A : Type 0} (said : Option A) (more other : List A) → onto said more ≡ [] → onto said other ≡ []
onto_other None more other none = refl
onto_other (Some a) more other none = cc

pub level_none : (most level : ℕ) (lines : List (List ℕ)) → leading (level_of level) lines ≡ [] → level_regions (suc most) level lines ≡ []
level_none most level [] none = refl
level_none most level (line ∷ lines) none = onto_other (level_of level line) (leading (level_of level) lines) (level_regions most (level + 1) lines) none

pub level_next : (most level : ℕ) (lines rest : List (List ℕ)) (region : Region) (more : List Region) → leading (level_of level) lines ≡ region ∷ more → drop 1 lines ≡ rest →
    level_regions (suc most) level lines ≡ region ∷ level_regions most (level + 1) rest
level_next most level [] rest region more is then = cc
level_next most level (line ∷ lines) rest region more is then =
    let said : level_of level line ≡ Some region = onto_some (level_of level line) (leading (level_of level) lines) region more is in
    ap (λ (said : Option Region). onto said (level_regions most (level + 1) lines)) said ∙ ap (λ (lines : List (List ℕ)). region ∷ level_regions most (level + 1) lines) then

-- lines left behind
pub follows_line : (text front rest : List ℕ) → whole_lines text ≡ front ∷ whole_lines rest → cut_line text ≡ cut_line rest → length rest < length text → Follows text rest
follows_line text front rest is end less = record { lines = ap (drop 1) is; counted = omega (arith, ap length is); end = end; shorter = omega arith }

pub leaves_none : (text : List ℕ) → LeavesBehind 0 text text
leaves_none text = record { lines = refl; counted = omega arith; end = refl; shorter = omega arith }

pub leaves_more : (m n : ℕ) (text middle rest : List ℕ) → LeavesBehind m text middle → LeavesBehind n middle rest → LeavesBehind (m + n) text rest
leaves_more m n text middle rest first second =
    record {
      lines = sym (drop-drop n m (whole_lines text)) ∙ ap (drop n) first.lines ∙ second.lines;
      counted = omega (arith, first.counted, second.counted);
      end = first.end ∙ second.end;
      shorter = omega (arith, first.shorter, second.shorter);
    }

-- a line of kept parts
pub kept_none : (lines : List (List ℕ)) → is_some (kept_of (line_at lines 0)) ≡ false → kept_lines lines ≡ 0
unfolding kept_lines
kept_none lines none = rw none refl

pub kept_some : (lines : List (List ℕ)) → is_some (kept_of (line_at lines 0)) ≡ true → kept_lines lines ≡ 1
unfolding kept_lines
kept_some lines some = rw some refl

-- the lists behind the level lines
pub opened_is : (lines rest : List (List ℕ)) (regions : List Region) → regions ≡ level_regions 12 0 lines → rest ≡ drop (length regions) lines →
    opened_lists lines ≡ levels_lists regions rest
unfolding opened_lists
opened_is lines rest regions is behind =
    let P : List Region → Type 0 = λ regions. opened_lists lines ≡ levels_lists regions (drop (length regions) lines) in
    subst P (sym is) refl ∙ ap (levels_lists regions) (sym behind)

pub no_level : (regions : List Region) (lines : List (List ℕ)) → length regions ≡ 0 → levels_lists regions lines ≡ Err 3
unfolding levels_lists
no_level regions lines none = let test : nat_eq (length regions) 0 ≡ true = grind (arith, nat_tests) in rw test refl

pub far_level : (regions : List Region) (lines : List (List ℕ)) → 0 < length regions → are_near (covered regions) ≡ false → levels_lists regions lines ≡ Err (2 + length regions)
unfolding levels_lists
far_level regions lines some far = let test : nat_eq (length regions) 0 ≡ false = grind (arith, nat_tests) in rw (test, far) refl

pub near_levels : (regions : List Region) (lines : List (List ℕ)) → 0 < length regions → are_near (covered regions) ≡ true →
    levels_lists regions lines ≡ body_lists (2 + length regions + kept_lines lines) (covered regions) (drop (kept_lines lines) lines)
unfolding levels_lists
near_levels regions lines some near = let test : nat_eq (length regions) 0 ≡ false = grind (arith, nat_tests) in rw (test, near) refl

-- a region is near where each of its corners is
near_by : (a b c d : Bool) (r : Region) →
    option_and_then (λ x0. option_and_then (λ y0. option_and_then (λ x1. option_and_then (λ y1. Some (record { x0 = x0; y0 = y0; x1 = x1; y1 = y1 }))
    (where_true d r.y1)) (where_true c r.x1)) (where_true b r.y0)) (where_true a r.x0) ≡ where_true ((a && b) && (c && d)) r
near_by false b c d r = refl
near_by true false c d r = refl
near_by true true false d r = refl
near_by true true true false r = refl
near_by true true true true r = refl

pub near_is : (r : Region) → near_region r ≡ where_true (are_near r) r
unfolding near_region are_near
near_is r = near_by (is_near r.x0) (is_near r.y0) (is_near r.x1) (is_near r.y1) r

-- one more that fits
pub all_more : {A : Type 0} (P : A → Type 0) (xs : List A) (x : A) → All P xs → P x → All P (xs ++ x ∷ [])
all_more P xs x before here = All-append P xs (x ∷ []) before (All-cons P x [] here (All-nil P))

pub all_none : {A : Type 0} (P : A → Type 0) → All P []
all_none P = All-nil P

-- what an answer tells that is there where a test holds
told_by : {A : Type 0} (test : Bool) (value : A) (answer : Option A) → answer ≡ where_true test value → MatchOption answer (test ≡ false) (λ a. (test ≡ true) × (a ≡ value))
told_by {A} true value answer is =
    let P : Option A → Type 0 = λ answer. MatchOption answer (true ≡ false) (λ a. (true ≡ true) × (a ≡ value)) in subst P (sym is) (refl, refl)
told_by {A} false value answer is =
    let P : Option A → Type 0 = λ answer. MatchOption answer (false ≡ false) (λ a. (false ≡ true) × (a ≡ value)) in subst P (sym is) refl

pub near_told : (r : Region) (answer : Option Region) → answer ≡ near_region r → MatchOption answer (are_near r ≡ false) (λ a. (are_near r ≡ true) × (a ≡ r))
near_told r answer is = told_by (are_near r) r answer (is ∙ near_is r)

-- the last of some regions by positions
pub covered_is : (regions : List Region) (spacing : ℤ) (d : Region) → 0 < length regions → spacing ≡ pos (2 ^ (length regions - 1)) →
    scaled spacing (get_or regions (length regions - 1) d) ≡ covered regions
unfolding covered active_at
covered_is regions spacing d some is =
    let region : get_or regions (length regions - 1) d ≡ get_or regions (length regions - 1) empty_region = get_or_default regions (length regions - 1) d empty_region (omega arith) in
    ap (λ (r : Region). scaled spacing r) region ∙ ap (λ (s : ℤ). scaled s (get_or regions (length regions - 1) empty_region)) is
