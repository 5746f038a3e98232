use Rattle.std.proofs.Common.{◌≡◌, ◌+◌, true, false, FitsSigned, sym, ap, ◌∙◌, rules, arith}
use Rattle.std.specs.Int.{w16}
use Rattle.std.proofs.lemmas.Int.{to_z-of_z}
use Rattle.terrain_model.specs.Voids.{is_void}
use Rattle.terrain_model.specs.Tile.{raw_sample, samples_from}
use mir.Val.{to_z, of_z}
use Rattle.hgt_tiles.proofs.TileLemmas.{first_found, none_more, none_known}
use Rattle.hgt_tiles.proofs.tiles.first_known.Goals as goal

pub loop-n-init : goal.loop-n-init
unfolding samples_from
loop-n-init c = search rules

pub returns-then-not-is_void : goal.returns-then-not-is_void
returns-then-not-is_void c =
    let sample = c.sample_at-sample.result in
    let fits : FitsSigned w16 sample = search rules in
    let same : to_z w16 (of_z w16 sample) ≡ sample = to_z-of_z w16 sample fits in
    let read : sample ≡ raw_sample c.args.bytes.now (c.args.first + c.loop-n.n) = c.sample_at-sample.ensures in
    let tested : is_void (to_z w16 (of_z w16 sample)) ≡ false = sym c.is_void.ensures ∙ c.if-not-is_void.true in
    let known : is_void (raw_sample c.args.bytes.now (c.args.first + c.loop-n.n)) ≡ false = sym (ap is_void (same ∙ read)) ∙ tested in
    same ∙ read ∙ first_found c.args.bytes.now c.args.first c.args.side c.loop-n.n c.loop-n.invariant c.loop-n-test.true known

pub loop-n-preserved : goal.loop-n-preserved
loop-n-preserved c =
    let sample = c.sample_at-sample.result in
    let fits : FitsSigned w16 sample = search rules in
    let same : to_z w16 (of_z w16 sample) ≡ sample = to_z-of_z w16 sample fits in
    let read : sample ≡ raw_sample c.args.bytes.now (c.args.first + c.loop-n.n) = c.sample_at-sample.ensures in
    let tested : is_void (to_z w16 (of_z w16 sample)) ≡ true = sym c.is_void.ensures ∙ c.if-not-is_void.false in
    none_more c.args.bytes.now c.args.first c.loop-n.n c.loop-n.invariant (sym (ap is_void (same ∙ read)) ∙ tested)

pub returns : goal.returns
returns c = none_known c.args.bytes.now c.args.first c.args.side c.loop-n.n c.loop-n.invariant (omega (arith, c.loop-n-test.false, c.loop-n.auto.n-end))
