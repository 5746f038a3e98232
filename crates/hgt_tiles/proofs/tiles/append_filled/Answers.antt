use Rattle.std.proofs.Common.{◌≡◌, ◌+◌, ◌<◌, ◌++◌, true, false, map, get_or, length, FitsSigned, append-nil, subst, sym, ap, ◌∙◌, pos, arith, rules, refl}
use Rattle.std.specs.Int.{w16}
use Rattle.std.specs.List.{range_with_len}
use Rattle.std.proofs.lemmas.Int.{to_z-of_z}
use mir.Val.{to_z, of_z}
use Rattle.terrain_model.specs.Voids.{is_void, first_known, known_at}
use Rattle.terrain_model.specs.Tile.{raw_sample, samples_from}
use Rattle.hgt_tiles.proofs.TileLemmas.{latest, latest_none, latest_void, latest_known, latest_stands, sample_is, samples_count, count_more, heights_more, row_filled}
use Rattle.hgt_tiles.proofs.tiles.append_filled.Goals as goal
use Rattle.hgt_tiles.proofs.tiles.append_filled.Goals.{then-is_void, else-is_void}

pub loop-n-init : goal.loop-n-init
unfolding samples_from
loop-n-init c =
    let first = c.first_known-known.result in
    let row = samples_from c.args.bytes.now c.args.first c.args.side in
    let fits : FitsSigned w16 first = search rules in
    record {
      known = to_z-of_z w16 first fits ∙ c.first_known-known.ensures ∙ latest_none row (first_known row);
      heights = sym (append-nil c.args.heights.now.items);
      voids = refl;
      few_voids = omega arith;
    }

pub loop-n-preserved : goal.loop-n-preserved
loop-n-preserved c =
    let bytes = c.args.bytes.now in
    let n = c.loop-n.n in
    let row = samples_from bytes c.args.first c.args.side in
    let sample = c.sample_at-sample.result in
    let fits : FitsSigned w16 sample = search rules in
    let same : to_z w16 (of_z w16 sample) ≡ sample = to_z-of_z w16 sample fits in
    let inside : n < length row = subst (λ m. n < m) (sym (samples_count bytes c.args.first c.args.side)) c.loop-n-test.true in
    let here : get_or row n (pos 0) ≡ sample = sample_is bytes c.args.first c.args.side n c.loop-n-test.true ∙ sym c.sample_at-sample.ensures in
    let read : raw_sample bytes (c.args.first + n) ≡ sample = sym c.sample_at-sample.ensures in
    let known : to_z w16 c.if-is_void.known-bits ≡ latest row (n + 1) (first_known row) =
    elim c.if-is_void.branch [
      | then-is_void w ↦ w.known-is ∙ c.loop-n.invariant.known ∙ latest_void row n (first_known row) inside (ap is_void (here ∙ sym same) ∙ sym w.if-is_void.ensures)
      | else-is_void w ↦ w.known-is ∙ same ∙ sym here ∙ latest_known row n (first_known row) inside (ap is_void (here ∙ sym same) ∙ sym w.if-is_void.ensures)
    ] in
    record {
      known = known;
      heights = heights_more c.args.heights.now.items row n c.loop-n.heights.items c.push.new.self.items (to_z w16 c.if-is_void.known-bits) c.loop-n.invariant.heights c.in_ok-push.ensures.items (known ∙ latest_stands row n);
      voids =
          elim c.if-is_void.branch [
            | then-is_void w ↦
                let counted = count_more bytes c.args.first n true (ap is_void (read ∙ sym same) ∙ sym w.if-is_void.ensures) in
                omega (arith, counted, w.voids-is, c.loop-n.invariant.voids)
            | else-is_void w ↦
                let counted = count_more bytes c.args.first n false (ap is_void (read ∙ sym same) ∙ sym w.if-is_void.ensures) in
                omega (arith, counted, w.voids-is, c.loop-n.invariant.voids)
          ];
      few_voids =
          elim c.if-is_void.branch [ then-is_void w ↦ omega (arith, w.voids-is, c.loop-n.invariant.few_voids) | else-is_void w ↦ omega (arith, w.voids-is, c.loop-n.invariant.few_voids) ];
    }

pub returns-clause-heights : goal.returns-clause-heights
returns-clause-heights c =
    let row = samples_from c.args.bytes.now c.args.first c.args.side in
    let whole : c.loop-n.n ≡ c.args.side = omega (arith, c.loop-n-test.false, c.loop-n.auto.n-end) in
    row_filled c.args.heights.now.items c.args.bytes.now c.args.first c.args.side c.loop-n.heights.items (c.loop-n.invariant.heights ∙ ap (λ m. c.args.heights.now.items ++ map (known_at row) (range_with_len 0 m)) whole)
