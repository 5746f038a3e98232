use Rattle.std.proofs.Common.{◌≡◌, ◌+◌, ◌-◌, ℕ, refl, subst, arith, rules}
use Rattle.store_reader.specs.Headers.{head_of}
use Rattle.store_reader.specs.Reading.{LevelsRead}
use Rattle.store_reader.proofs.CellNumbers.{if_ok, if_err}
use Rattle.store_reader.proofs.Stores.{front_of_levels, coarser_of_levels, level_more, level_fails}
use Rattle.store_reader.proofs.levels.read_next.Goals as goal

pub returns-clause-read : goal.returns-clause-read
returns-clause-read g c =
    let h = c.args.header in
    let n = c.args.n in
    let bytes = c.args.bytes.now in
    let head = head_of h in
    let last = c.requires.last in
    let few = c.requires.few in
    let at = c.args.last.now.at in
    let grid = c.args.last.now.grid in
    let level = h.levels - n - 1 in
    let one : h.levels - level ≡ n + 1 = omega arith in
    if_ok _ _ c.read_level.result
    (λ reached x.
    subst (λ (m : ℕ). LevelsRead head m bytes reached.at reached.grid) one
    (level_more c.finest_level.ensures c.level_outside.ensures c.fronts_of_like_heights.ensures head _ last.heights level bytes at (omega arith) (search rules) last.ends
    (front_of_levels head n level bytes at grid few refl last) (λ e. coarser_of_levels head n level bytes at grid few refl last) reached.at reached.grid x))
    c.read_level.ensures.read

pub returns-clause-fault : goal.returns-clause-fault
returns-clause-fault g c =
    let h = c.args.header in
    let n = c.args.n in
    let bytes = c.args.bytes.now in
    let head = head_of h in
    let last = c.requires.last in
    let few = c.requires.few in
    let at = c.args.last.now.at in
    let grid = c.args.last.now.grid in
    let level = h.levels - n - 1 in
    if_err _ _ c.read_level.result
    (λ fault x.
    level_fails c.finest_level.ensures c.level_outside.ensures c.fronts_of_like_heights.ensures head _ last.heights level bytes at (omega arith) (search rules) last.ends
    (front_of_levels head n level bytes at grid few refl last) (λ e. coarser_of_levels head n level bytes at grid few refl last) c.requires.header.readable.sound fault x)
    c.read_level.ensures.fault
