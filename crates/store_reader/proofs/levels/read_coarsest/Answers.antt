use Rattle.std.proofs.Common.{◌≡◌, ◌+◌, ◌-◌, ◌≤◌, ℕ, pos, ◌++◌, ◌∙◌, drop, ap, sym, refl, subst, arith, rules, length}
use Rattle.std.proofs.lemmas.Bool.{false≢true}
use Rattle.store_model.specs.Format.{head_bytes}
use Rattle.store_reader.specs.Headers.{head_of}
use Rattle.store_reader.specs.Reading.{LevelsRead}
use Rattle.store_reader.proofs.CellNumbers.{if_ok, if_err}
use Rattle.store_reader.proofs.Stores.{front_of_head, level_more, level_fails}
use Rattle.store_reader.proofs.levels.read_coarsest.Goals as goal

pub returns-clause-read : goal.returns-clause-read
returns-clause-read g c =
    let h = c.args.header in
    let bytes = c.args.bytes.now in
    let head = head_of h in
    let some = c.requires.header.readable.sound.some_levels in
    let start = 12 + c.from.result in
    let version : c.from.result ≡ h.version = c.from.ensures in
    let given = c.requires.header.whole in
    let whole : start ≤ length bytes = omega arith in
    let spelled : bytes ≡ head_bytes head ++ drop start bytes = c.requires.header.opens.spelled ∙ ap (λ (v : ℕ). head_bytes head ++ drop (12 + v) bytes) (sym version) in
    let one : h.levels - (h.levels - 1) ≡ 1 = omega arith in
    if_ok _ _ c.read_level.result
    (λ reached x.
    subst (λ (n : ℕ). LevelsRead head n bytes reached.at reached.grid) one
    (level_more c.finest_level.ensures c.level_outside.ensures c.fronts_of_like_heights.ensures head _ (λ m i j. pos 0) (h.levels - 1) bytes start (omega arith) (search rules) whole
    (front_of_head head bytes start (h.levels - 1) some refl spelled) (λ e. absurd (false≢true (sym e))) reached.at reached.grid x))
    c.read_level.ensures.read

pub returns-clause-fault : goal.returns-clause-fault
returns-clause-fault g c =
    let h = c.args.header in
    let bytes = c.args.bytes.now in
    let head = head_of h in
    let some = c.requires.header.readable.sound.some_levels in
    let start = 12 + c.from.result in
    let version : c.from.result ≡ h.version = c.from.ensures in
    let given = c.requires.header.whole in
    let whole : start ≤ length bytes = omega arith in
    let spelled : bytes ≡ head_bytes head ++ drop start bytes = c.requires.header.opens.spelled ∙ ap (λ (v : ℕ). head_bytes head ++ drop (12 + v) bytes) (sym version) in
    if_err _ _ c.read_level.result
    (λ fault x.
    level_fails c.finest_level.ensures c.level_outside.ensures c.fronts_of_like_heights.ensures head _ (λ m i j. pos 0) (h.levels - 1) bytes start (omega arith) (search rules) whole
    (front_of_head head bytes start (h.levels - 1) some refl spelled) (λ e. absurd (false≢true (sym e))) c.requires.header.readable.sound fault x)
    c.read_level.ensures.fault
