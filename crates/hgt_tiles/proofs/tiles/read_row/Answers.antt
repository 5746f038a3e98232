use Rattle.std.proofs.Common.{◌≡◌, ℕ, ℤ, ◌+◌, ◌<◌, length, get_or, set, FitsSigned, subst, sym, ap, ◌∙◌, pos, arith, rules}
use Rattle.std.specs.Int.{w16}
use Rattle.std.proofs.lemmas.Int.{to_z-of_z}
use Rattle.std.proofs.lemmas.List.{length-set}
use Rattle.std.proofs.lemmas.List.Edits.{fill_by_more}
use mir.Val.{to_z, of_z}
use Rattle.terrain_model.specs.Voids.{is_void}
use Rattle.terrain_model.specs.Tile.{raw_sample}
use Rattle.hgt_tiles.proofs.TileLemmas.{no_samples, any_more, samples_read}
use Rattle.hgt_tiles.proofs.tiles.read_row.Goals as goal

pub loop-n-init : goal.loop-n-init
loop-n-init c = record { length = λ t. length c.args.row.now; read = λ k low. absurd (omega (arith, low)); voids = no_samples c.args.bytes.now c.args.first }

pub loop-n-preserved : goal.loop-n-preserved
loop-n-preserved c =
    let bytes = c.args.bytes.now in
    let first = c.args.first in
    let n = c.loop-n.n in
    let row = c.loop-n.row in
    let sample = c.sample_at-sample.result in
    let fits : FitsSigned w16 sample = search rules in
    let same : to_z w16 (of_z w16 sample) ≡ sample = to_z-of_z w16 sample fits in
    let inside : n < length row = omega (arith, c.loop-n-test.true, c.loop-n.auto.n-end, c.loop-n.invariant.length) in
    let written : to_z w16 (of_z w16 sample) ≡ raw_sample bytes (first + n) = same ∙ c.sample_at-sample.ensures in
    record {
      length = length-set row n (to_z w16 (of_z w16 sample)) ∙ c.loop-n.invariant.length;
      read = subst (λ (x : ℤ). (k : ℕ) → k < n + 1 → get_or (set row n x) k (pos 0) ≡ raw_sample bytes (first + k)) (sym written) (fill_by_more (λ k. raw_sample bytes (first + k)) row n (pos 0) inside c.loop-n.invariant.read);
      voids = any_more bytes first n c.loop-n.has_void c.is_void-has_void.result c.loop-n.invariant.voids (c.is_void-has_void.ensures ∙ ap is_void written);
    }

pub returns-clause-row : goal.returns-clause-row
returns-clause-row c =
    samples_read c.args.bytes.now c.args.first (length c.args.row.now) c.loop-n.row c.loop-n.invariant.length
    (λ k inside. c.loop-n.invariant.read k (omega (arith, inside, c.loop-n-test.false, c.loop-n.auto.n-end, c.loop-n.invariant.length)))
