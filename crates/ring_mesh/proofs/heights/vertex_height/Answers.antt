-- The height takes something of the coarser heights, or they don't count.
use Rattle.std.proofs.Common.{◌≡◌, ℕ, ◌+◌, ◌<◌, ◌==◌, Bool, true, false, List, length, ℤ, pos, int_lt, ap, ◌∙◌, sym, w32, rules, arith}
use Rattle.std.specs.Int.{w16}
use Rattle.std.proofs.lemmas.Int.{to_z-of_z}
use Rattle.clip_regions.specs.declared.region.Region.{Region}
use Rattle.clip_regions.specs.Regions.{contains}
use Rattle.terrain_model.specs.Terrain.{Terrain, level_height}
use Rattle.mesh_model.specs.Height.{active_at, lower_end, upper_end, blend_share, blended_height, vertex_height}
use Rattle.ring_mesh.specs.Listed.{coarser_mean}
use Rattle.ring_mesh.proofs.Blends.{unmixed, coarsest_share, no_share}
use Rattle.ring_mesh.proofs.heights.vertex_height.Goals as goal
use Rattle.ring_mesh.proofs.heights.vertex_height.Goals.{else-level-levels-via-then-level-levels+else-is_blended, else-level-levels-via-else-level-levels}
use mir.Val.{to_z, of_z}

pub is_blended-requires-clause-inside : goal.is_blended-requires-clause-inside
unfolding active_at
is_blended-requires-clause-inside g c =
    (λ t. contains (c.at-active.ensures.value t) (to_z-of_z w32 c.args.i c.ranges.i t) (to_z-of_z w32 c.args.j c.ranges.j t))
    ∙ c.holes_are_in_regions.ensures.contained (active_at c.args.actives.now c.args.level) c.args.i c.args.j c.requires.cell

pub blended-requires-clause-inside : goal.blended-requires-clause-inside
unfolding active_at
blended-requires-clause-inside g c =
    (λ t. contains (c.at-active.ensures.value t) (to_z-of_z w32 c.args.i c.ranges.i t) (to_z-of_z w32 c.args.j c.ranges.j t))
    ∙ c.holes_are_in_regions.ensures.contained (active_at c.args.actives.now c.args.level) c.args.i c.args.j c.requires.cell

finer_than : (level n : ℕ) → level + 1 < n → (level + 1 == n) ≡ false
finer_than level n h = grind arith

by_ends : (terrain : Terrain) (k : ℕ) (actives : List Region) (level : ℕ) (i j : ℤ) → level + 1 < length actives →
    coarser_mean terrain k actives level i j (level_height terrain level i j) ≡ vertex_height terrain k actives level i j
unfolding coarser_mean vertex_height
by_ends terrain k actives level i j low =
    ap (λ (b : Bool). blended_height k b (active_at actives level) i j (level_height terrain level i j) (level_height terrain (level + 1) (lower_end i) (lower_end j)) (level_height terrain (level + 1) (upper_end i) (upper_end j))) (sym (finer_than level (length actives) low))

coarsest_is : (level n : ℕ) → level < n → (level + 1 < n → ⊥) → (level + 1 == n) ≡ true
coarsest_is level n h last = grind arith

-- the share of the coarser level, where the level isn't the coarsest but nothing is taken, or where it is the coarsest
none_inside : (k level n : ℕ) (r q : Region) (i j i' j' : ℤ) (test : Bool) → q ≡ r → i' ≡ i → j' ≡ j → level + 1 < n → test ≡ int_lt (pos 0) (blend_share k false q i' j') → test ≡ false →
    blend_share k (level + 1 == n) r i j ≡ pos 0
none_inside k level n r q i j i' j' test eq ei ej low et off =
    ap (λ (b : Bool). blend_share k b r i j) (finer_than level n low)
    ∙ no_share k r i j ((λ t. int_lt (pos 0) (blend_share k false (sym eq t) (sym ei t) (sym ej t))) ∙ sym et ∙ off)

none_last : (k level n : ℕ) (r : Region) (i j : ℤ) → level < n → (level + 1 < n → ⊥) → blend_share k (level + 1 == n) r i j ≡ pos 0
none_last k level n r i j low last = ap (λ (b : Bool). blend_share k b r i j) (coarsest_is level n low last) ∙ coarsest_share k r i j

own_only : (terrain : Terrain) (k : ℕ) (actives : List Region) (level : ℕ) (i j : ℤ) → blend_share k (level + 1 == length actives) (active_at actives level) i j ≡ pos 0 →
    blended_height k true (active_at actives level) i j (level_height terrain level i j) (pos 0) (pos 0) ≡ vertex_height terrain k actives level i j
unfolding vertex_height
own_only terrain k actives level i j none =
    sym (unmixed k (level + 1 == length actives) (active_at actives level) i j (level_height terrain level i j) (level_height terrain (level + 1) (lower_end i) (lower_end j)) (level_height terrain (level + 1) (upper_end i) (upper_end j)) none)

pub returns-then-is_blended : goal.returns-then-is_blended
returns-then-is_blended g c =
    let terrain = g.G.Heights.terrain c.args.heights.now in
    let actives = c.args.actives.now in
    let i = to_z-of_z w32 c.args.i c.ranges.i in
    let j = to_z-of_z w32 c.args.j c.ranges.j in
    let low : c.args.level + 1 < length actives = search rules in
    let own = to_z-of_z w16 c.height-own.result (record { sfits = c.height-own.type_inv }) ∙ c.height-own.ensures.value ∙ (λ t. level_height terrain c.args.level (i t) (j t)) in
    record {
      value = to_z-of_z w32 c.height_by_ends.result (record { sfits = c.height_by_ends.type_inv }) ∙ c.height_by_ends.ensures.value
          ∙ (λ t. coarser_mean terrain c.args.k actives c.args.level (i t) (j t) (own t)) ∙ by_ends terrain c.args.k actives c.args.level c.args.i c.args.j low;
    }

pub returns : goal.returns
unfolding active_at
returns g c =
    let terrain = g.G.Heights.terrain c.args.heights.now in
    let actives = c.args.actives.now in
    let i = to_z-of_z w32 c.args.i c.ranges.i in
    let j = to_z-of_z w32 c.args.j c.ranges.j in
    let own = to_z-of_z w16 c.height-own.result (record { sfits = c.height-own.type_inv }) ∙ c.height-own.ensures.value ∙ (λ t. level_height terrain c.args.level (i t) (j t)) in
    let none : blend_share c.args.k (c.args.level + 1 == length actives) (active_at actives c.args.level) c.args.i c.args.j ≡ pos 0 =
    elim c.else-level-levels.branch [
      | else-level-levels-via-then-level-levels+else-is_blended w ↦
          let low : c.args.level + 1 < length actives = search rules in
          none_inside c.args.k c.args.level (length actives) (active_at actives c.args.level) c.at-active.result c.args.i c.args.j (to_z w32 (of_z w32 c.args.i)) (to_z w32 (of_z w32 c.args.j)) w.is_blended.result c.at-active.ensures.value i j low w.is_blended.ensures.value w.if-is_blended.false
      | else-level-levels-via-else-level-levels w ↦
          let last : c.args.level + 1 < length actives → ⊥ = λ low. search rules in
          none_last c.args.k c.args.level (length actives) (active_at actives c.args.level) c.args.i c.args.j c.requires.heights.low last
    ] in
    record {
      value = to_z-of_z w32 c.blended.result (record { sfits = c.blended.type_inv }) ∙ c.blended.ensures.value
          ∙ (λ t. blended_height c.args.k true (c.at-active.ensures.value t) (i t) (j t) (own t) (pos 0) (pos 0)) ∙ own_only terrain c.args.k actives c.args.level c.args.i c.args.j none;
    }
