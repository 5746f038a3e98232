-- A block that is found in a store.
use Rattle.std.proofs.Common.{◌≡◌, ℕ, ◌+◌, ◌-◌, ◌*◌, ◌/◌, ◌%◌, ◌<◌, List, ℤ, pos, ap, sym, ◌∙◌, subst, arith}
use Rattle.std.proofs.lemmas.Int.{ints}
use Rattle.std.proofs.lemmas.Nat.{div_below, mod_below}
use Rattle.clip_regions.specs.declared.region.Region.{Region}
use Rattle.terrain_model.specs.Terrain.{level_height}
use Rattle.block_heights.specs.declared.block.Kind.{Kind}
use Rattle.block_heights.specs.declared.block.Kind.TheVariants.{Outside, Plain, Words}
use Rattle.four_point.specs.declared.patch.Patch.{Patch}
use Rattle.block_heights.specs.Decoded.{IsPartOf, IsPatchOf, HasKind}
use Rattle.store_model.specs.Sizes.{cells_on, blocks_on, block_count, block_column, block_row, cells_in_block, block_region}
use Rattle.store_model.specs.Format.{Head}
use Rattle.store_model.specs.Store.{region_of}
use Rattle.store_index.specs.declared.sizes.Place.{Place}
use Rattle.store_index.specs.Laws.{BlocksAreFound, NumbersAreBelow}
use Rattle.store_index.specs.Places.{block_total, stored_block, IsBlockAt, IsPlaceOf, IsBlockIn}
use Rattle.terrain_store.specs.Stores.{Stored, IsStored}
use Rattle.terrain_store.specs.Blocks.{IsStoredBlock, HasBlock, IsKindOf}

pub number_low : NumbersAreBelow → (head : Head) (level : ℕ) (bx by : ℤ) (place : Place) → IsPlaceOf head level bx by place → place.number < block_total head
number_low below head level bx by place p =
    subst (λ (n : ℕ). n < block_total head) (sym p.number) (below head level p.k p.at.in_store p.at.below)

pub stored_is : BlocksAreFound → (store : Stored) → IsStored store → (level : ℕ) (bx by : ℤ) (place : Place) (content : List ℕ) → IsPlaceOf store.head level bx by place → content ≡ stored_block store.head store.bytes place.number → IsStoredBlock store level bx by place.cells content
stored_is found store stands level bx by place content p e =
    let there = found store.head store.terrain store.bytes level p.k stands p.at.in_store p.at.below in
    let same = e ∙ ap (stored_block store.head store.bytes) p.number in
    record {
      k = p.k;
      at = p.at;
      cells = p.cells;
      stored = subst (λ (xs : List ℕ). IsBlockIn store.head (level_height store.terrain) store.bytes level p.k xs) (sym same) there;
    }

pub kind_is : (kind : Kind) (store : Stored) (level : ℕ) (bx by : ℤ) (inside : Region) (content : List ℕ) → IsKindOf kind level store.head.levels content → IsStoredBlock store level bx by inside content → HasBlock kind store level bx by inside
kind_is Outside store level bx by inside content k s = absurd k
kind_is (Plain bytes) store level bx by inside content k s = (k.0, subst (λ (xs : List ℕ). IsStoredBlock store level bx by inside xs) (sym k.1) s)
kind_is (Words bytes) store level bx by inside content k s = (k.0, subst (λ (xs : List ℕ). IsStoredBlock store level bx by inside xs) (sym k.1) s)

-- ---- what decoding asks of a block
part_of : (head : Head) (level k : ℕ) (bx by : ℤ) → IsBlockAt head level bx by k → IsPartOf bx by (region_of head level k)
unfolding block_count block_region cells_in_block block_column block_row blocks_on
part_of head level k bx by at =
    let across = (cells_on head.width level - 1) / 8 + 1 in
    let down = (cells_on head.height level - 1) / 8 + 1 in
    let below : k < across * down = at.below in
    let turned : k < down * across = omega arith in
    let column : k % across < across = mod_below k across (omega arith) in
    let row : k / across < down = div_below k across down (omega arith) turned in
    let x : bx ≡ pos (k % across) = at.column in
    let y : by ≡ pos (k / across) = at.row in
    record {
      west = omega (arith, ints);
      across = omega (arith, ints);
      east = omega (arith, ints);
      north = omega (arith, ints);
      down = omega (arith, ints);
      south = omega (arith, ints);
    }

part_is : (store : Stored) (level : ℕ) (bx by : ℤ) (inside : Region) (content : List ℕ) → IsStoredBlock store level bx by inside content → IsPartOf bx by inside
part_is store level bx by inside content s =
    subst (λ (r : Region). IsPartOf bx by r) (sym s.cells) (part_of store.head level s.k bx by s.at)

pub decodes : (kind : Kind) (store : Stored) (level : ℕ) (bx by : ℤ) (inside : Region) → HasBlock kind store level bx by inside → (patch : Patch) → IsPatchOf bx by patch → HasKind kind bx by inside patch
decodes Outside store level bx by inside h patch p = h.0
decodes (Plain bytes) store level bx by inside h patch p = (part_is store level bx by inside bytes.now h.1, h.1.stored.short)
decodes (Words bytes) store level bx by inside h patch p = (part_is store level bx by inside bytes.now h.1, h.1.stored.short, p)
