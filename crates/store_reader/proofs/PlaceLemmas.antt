-- The places of blocks.
use Rattle.std.proofs.Common.{◌≡◌, min, ℕ, ◌+◌, ◌-◌, ◌*◌, ◌/◌, ◌%◌, ◌^◌, ◌<◌, ◌≤◌, ℤ, pos, refl, ap, ap₂, sym, ◌∙◌, subst, arith}
use Rattle.std.proofs.Math.Nat.{mul-le-mul_right, mul-le-mul, div-le_self}
use Rattle.clip_regions.specs.declared.region.Region.{Region}
use Rattle.store_model.specs.Sizes.{cells_on, blocks_on, block_count, block_column, block_row, cells_in_block, block_region}
use Rattle.store_reader.specs.declared.header.Header.{Header}
use Rattle.store_reader.specs.Headers.{head_of}
use Rattle.store_reader.specs.Places.{IsPlaceOf}

pub count_at : (width height level k columns rows across down : ℕ) → columns ≡ cells_on width level → rows ≡ cells_on height level → across ≡ blocks_on columns → down ≡ blocks_on rows → k < block_count width height level → k < across * down
unfolding block_count
count_at width height level k columns rows across down c r a d h =
    subst (λ (n : ℕ). k < n) (sym (ap₂ (λ (m n : ℕ). m * n) (a ∙ ap blocks_on c) (d ∙ ap blocks_on r))) h

same_region : (r : Region) (a b c d : ℤ) → r.x0 ≡ a → r.y0 ≡ b → r.x1 ≡ c → r.y1 ≡ d → r ≡ record { x0 = a; y0 = b; x1 = c; y1 = d }
same_region r a b c d p q s t = λ i. record { x0 = p i; y0 = q i; x1 = s i; y1 = t i }

pub place_is : (header : Header) (level k columns rows across bx by : ℕ) (cells : Region) → columns ≡ cells_on header.width level → rows ≡ cells_on header.height level → across ≡ blocks_on columns → bx ≡ k % across → by ≡ k / across → cells.x0 ≡ pos (8 * bx) → cells.y0 ≡ pos (8 * by) → cells.x1 ≡ pos (min (8 * bx + 7) (columns - 1)) → cells.y1 ≡ pos (min (8 * by + 7) (rows - 1)) → IsPlaceOf (head_of header) level k (record { level = level; bx = bx; by = by; cells = cells })
unfolding block_region cells_in_block block_column block_row
place_is header level k columns rows across bx by cells c r a x y w n e s =
    let wide = a ∙ ap blocks_on c in
    let column : bx ≡ block_column header.width level k = x ∙ ap (λ (m : ℕ). k % m) wide in
    let row : by ≡ block_row header.width level k = y ∙ ap (λ (m : ℕ). k / m) wide in
    let bxs = block_column header.width level k in
    let bys = block_row header.width level k in
    record {
      at_level = refl;
      column = column;
      row = row;
      cells =
          same_region cells (pos (8 * bxs)) (pos (8 * bys)) (pos (min (8 * bxs + 7) (cells_on header.width level - 1))) (pos (min (8 * bys + 7) (cells_on header.height level - 1)))
          (w ∙ ap (λ (b : ℕ). pos (8 * b)) column)
          (n ∙ ap (λ (b : ℕ). pos (8 * b)) row)
          (e ∙ ap₂ (λ (b m : ℕ). pos (min (8 * b + 7) (m - 1))) column c)
          (s ∙ ap₂ (λ (b m : ℕ). pos (min (8 * b + 7) (m - 1))) row r);
    }

-- ---- sizes
pub cells_below : (side level : ℕ) → 1 ≤ side → cells_on side level ≤ side
unfolding cells_on
cells_below side level some = (let h = div-le_self (side - 1) (2 ^ level) in omega arith)

pub cells_few : (width height level : ℕ) → 1 ≤ width → 1 ≤ height → width * height ≤ 2 ^ 26 → cells_on width level * cells_on height level ≤ 2 ^ 26
cells_few width height level some some_rows few =
    let h = mul-le-mul (cells_below width level some) (cells_below height level some_rows) in
    omega arith

-- ---- rows of blocks
blocks_fit : (cells : ℕ) → 1 ≤ cells → blocks_on cells ≤ cells
unfolding blocks_on
blocks_fit cells some = omega arith

pub blocks_few : (width height level row : ℕ) → 1 ≤ width → 1 ≤ height → width * height ≤ 2 ^ 26 → row ≤ blocks_on (cells_on height level) → blocks_on (cells_on width level) * row ≤ 2 ^ 26
unfolding cells_on
blocks_few width height level row some some_rows few h =
    let wide = blocks_fit (cells_on width level) (omega arith) in
    let high = blocks_fit (cells_on height level) (omega arith) in
    let all = cells_few width height level some some_rows few in
    let part : blocks_on (cells_on width level) * row ≤ cells_on width level * cells_on height level = mul-le-mul wide (omega arith) in
    omega arith

pub rows_short : (height level row : ℕ) → 1 ≤ height → row ≤ blocks_on (cells_on height level) → 8 * row ≤ height + 7
unfolding blocks_on
rows_short height level row some h =
    let few = cells_below height level some in
    omega arith

pub rows_few : (width height level row : ℕ) → 1 ≤ width → 1 ≤ height → width * height ≤ 2 ^ 26 → min (8 * row) (cells_on height level) * cells_on width level ≤ 2 ^ 26
rows_few width height level row some some_rows few =
    let all = cells_few width height level some some_rows few in
    let part : min (8 * row) (cells_on height level) * cells_on width level ≤ cells_on height level * cells_on width level = mul-le-mul_right (cells_on width level) (omega arith) in
    omega arith
