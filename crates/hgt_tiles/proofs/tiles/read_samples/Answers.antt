use Rattle.std.proofs.Common.{◌≡◌, ℕ, ◌≤◌, ◌*◌, ◌+◌, subst, flat_map, count_by, ap, ◌∙◌, arith, rules}
use Rattle.std.specs.List.{range_with_len}
use Rattle.terrain_model.specs.Voids.{is_void, without_voids}
use Rattle.terrain_model.specs.Tile.{tile_row, tile_terrain, void_count}
use Rattle.hgt_tiles.proofs.TileLemmas.{rows_more, counted_more}
use Rattle.hgt_tiles.proofs.tiles.read_samples.Goals as goal

pub loop-v-preserved : goal.loop-v-preserved
loop-v-preserved c =
    let bytes = c.args.bytes.now in
    let side = c.args.side in
    let v = c.loop-v.v in
    record {
      heights = rows_more (λ v. without_voids (tile_row bytes side v)) v c.loop-v.heights.items c.append_row.new.heights.items c.loop-v.invariant.heights c.in_ok-voids.ensures.heights;
      voids = counted_more (tile_row bytes side) v c.loop-v.voids c.in_ok-voids.field-0 c.loop-v.invariant.voids c.in_ok-voids.ensures.voids;
      row = search rules;
      few_voids = (let e : (v + 1) * side ≡ v * side + side = grind arith in omega (arith, e, c.loop-v.invariant.few_voids, c.in_ok-voids.ensures.few));
    }

pub returns-clause-heights : goal.returns-clause-heights
unfolding tile_terrain
returns-clause-heights c =
    let whole : c.loop-v.v ≡ c.args.side = omega (arith, c.loop-v-test.false, c.loop-v.auto.v-end) in
    c.loop-v.invariant.heights ∙ ap (λ n. flat_map (λ v. without_voids (tile_row c.args.bytes.now c.args.side v)) (range_with_len 0 n)) whole

pub returns-clause-voids : goal.returns-clause-voids
unfolding void_count
returns-clause-voids c =
    let whole : c.loop-v.v ≡ c.args.side = omega (arith, c.loop-v-test.false, c.loop-v.auto.v-end) in
    c.loop-v.invariant.voids ∙ ap (λ n. count_by is_void (flat_map (tile_row c.args.bytes.now c.args.side) (range_with_len 0 n))) whole

pub returns-clause-few_voids : goal.returns-clause-few_voids
returns-clause-few_voids c =
    let whole : c.loop-v.v ≡ c.args.side = omega (arith, c.loop-v-test.false, c.loop-v.auto.v-end) in
    let Few : ℕ → Type 0 = λ n. c.loop-v.voids ≤ n * c.args.side in
    subst Few whole c.loop-v.invariant.few_voids
