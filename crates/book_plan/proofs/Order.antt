-- Tiles in their order: by row, then by column.
use Rattle.std.proofs.Common.{◌≡◌, ℕ, zero, suc, ◌+◌, ◌<◌, ◌≤◌, Bool, true, false, cond, List, [], ◌∷◌, ◌++◌, map, Some, None, refl, ap, sym, ◌∙◌, subst, inl, inr, arith}
use Rattle.std.proofs.lemmas.Bool.{cases_Bool, true≢false}
use Rattle.std.proofs.lemmas.Bool.Decides.{nat_tests}
use Rattle.std.specs.List.{filter, flat_map, range_with_len}
use mathlib.Core.Path.{ap₂}
use Rattle.plan_model.specs.Strips.{first_of}
use Rattle.plan_model.specs.Blocks.{tiles_per_side}
use Rattle.plan_model.specs.Tiles.{tiles}
use Rattle.plan_model.specs.declared.tiles.TileId.{TileId}
use Rattle.book_plan.specs.Found.{comes_before}
use Rattle.plan_holds.proofs.Members.{Among, passed, either_among, map_of, flat_of, ranged_of}

abbrev pub at : ℕ → ℕ → TileId
at x y = record { tx = x; ty = y }

-- t doesn't come before u where its row is later, or it is the same row and no earlier column
pub later_row : (t u : TileId) → u.ty < t.ty → comes_before t u ≡ false
unfolding comes_before
later_row t u h = grind (arith, nat_tests)

pub later_column : (t u : TileId) → t.ty ≡ u.ty → u.tx ≤ t.tx → comes_before t u ≡ false
unfolding comes_before
later_column t u e h = grind (arith, nat_tests)

pub not_self : (t : TileId) → comes_before t t ≡ false
not_self t = later_column t t refl (omega arith)

pub not_back : (t u : TileId) → comes_before t u ≡ true → comes_before u t ≡ false
unfolding comes_before
not_back t u h = grind (arith, nat_tests)

-- what comes neither before nor after another is that tile
columns_same : (t u : TileId) → comes_before t u ≡ false → comes_before u t ≡ false → t.tx ≡ u.tx
unfolding comes_before
columns_same t u a b = grind (arith, nat_tests)

rows_same : (t u : TileId) → comes_before t u ≡ false → comes_before u t ≡ false → t.ty ≡ u.ty
unfolding comes_before
rows_same t u a b = grind (arith, nat_tests)

pub one_place : (t u : TileId) → comes_before t u ≡ false → comes_before u t ≡ false → t ≡ u
one_place t u a b = ap₂ at (columns_same t u a b) (rows_same t u a b)

pub passes_on : (t u v : TileId) → comes_before t u ≡ false → comes_before u v ≡ false → comes_before t v ≡ false
unfolding comes_before
passes_on t u v a b = grind (arith, nat_tests)

-- no tile of a list comes before an earlier one
abbrev pub Ordered : List TileId → Type 0
Ordered [] = Unit {0}
Ordered (t ∷ ts) = ((u : TileId) → Among u ts → comes_before u t ≡ false) × Ordered ts

joined : (xs ys : List TileId) → Ordered xs → Ordered ys → ((x y : TileId) → Among x xs → Among y ys → comes_before y x ≡ false) → Ordered (xs ++ ys)
joined [] ys a b h = b
joined (x ∷ xs) ys a b h = (
  (λ u k. elim (either_among xs ys u k) [
    | inl l ↦ a.0 u l
    | inr r ↦ h x u (inl refl) r
  ]),
  joined xs ys a.1 b (λ y z k l. h y z (inr k) l),
)

row_ordered : (y a n : ℕ) → Ordered (map (λ x. at x y) (range_with_len a n))
row_ordered y a zero = tt
row_ordered y a (suc n) = (
  (λ u k.
      let r : (x : ℕ) × Among x (range_with_len (a + 1) n) × (at x y ≡ u) = map_of (λ x. at x y) (range_with_len (a + 1) n) u k in
      let low : a + 1 ≤ r.0 = (ranged_of (a + 1) n r.0 r.1).0 in
      subst (λ (t : TileId). comes_before t (at a y) ≡ false) r.2 (later_column (at r.0 y) (at a y) refl (omega arith))),
  row_ordered y (a + 1) n,
)

abbrev row : ℕ → ℕ → List TileId
row side y = map (λ x. at x y) (range_with_len 0 side)

in_row : (side y : ℕ) (t : TileId) → Among t (row side y) → t.ty ≡ y
in_row side y t h =
    let r : (x : ℕ) × Among x (range_with_len 0 side) × (at x y ≡ t) = map_of (λ x. at x y) (range_with_len 0 side) t h in
    ap (λ (u : TileId). u.ty) (sym r.2)

rows_ordered : (side a n : ℕ) → Ordered (flat_map (row side) (range_with_len a n))
rows_ordered side a zero = tt
rows_ordered side a (suc n) =
    joined (row side a) (flat_map (row side) (range_with_len (a + 1) n)) (row_ordered a 0 side) (rows_ordered side (a + 1) n)
    (λ x y h k.
    let r : (b : ℕ) × Among b (range_with_len (a + 1) n) × Among y (row side b) = flat_of (row side) (range_with_len (a + 1) n) y k in
    let low : a + 1 ≤ r.0 = (ranged_of (a + 1) n r.0 r.1).0 in
    let here : x.ty ≡ a = in_row side a x h in
    let there : y.ty ≡ r.0 = in_row side r.0 y r.2 in
    later_row y x (omega arith))

pub tiles_ordered : (k : ℕ) → Ordered (tiles k)
unfolding tiles
tiles_ordered k = rows_ordered (tiles_per_side k) 0 (tiles_per_side k)

kept_cond : (b : Bool) (t : TileId) (ts : List TileId) → ((u : TileId) → Among u ts → comes_before u t ≡ false) → Ordered ts → Ordered (cond b (t ∷ ts) ts)
kept_cond true t ts h k = (h, k)
kept_cond false t ts h k = k

pub filter_ordered : (p : TileId → Bool) (ts : List TileId) → Ordered ts → Ordered (filter p ts)
filter_ordered p [] h = tt
filter_ordered p (t ∷ ts) h =
    kept_cond (p t) t (filter p ts) (λ u k. h.0 u (passed p ts u k).0) (filter_ordered p ts h.1)

-- the first of an ordered list that passes is the one that no other that passes comes before
pub first_ordered : (p : TileId → Bool) (ts : List TileId) (u : TileId) → Ordered ts → Among u ts → p u ≡ true → ((t : TileId) → Among t ts → p t ≡ true → comes_before t u ≡ false) → first_of (filter p ts) ≡ Some u
first_ordered p [] u o h e least = absurd h
first_ordered p (t ∷ ts) u o h e least =
    elim (cases_Bool (p t)) [
      | inl here ↦
          ap (λ (b : Bool). first_of (cond b (t ∷ filter p ts) (filter p ts))) here ∙ ap Some (elim h [
            | inl same ↦ same
            | inr after ↦ one_place t u (least t (inl refl) here) (o.0 u after)
          ])
      | inr other ↦
          ap (λ (b : Bool). first_of (cond b (t ∷ filter p ts) (filter p ts))) other ∙ elim h [
            | inl same ↦ absurd (true≢false (sym e ∙ ap p (sym same) ∙ other))
            | inr after ↦ first_ordered p ts u o.1 after e (λ v k f. least v (inr k) f)
          ]
    ]

pub none_first : (p : TileId → Bool) (ts : List TileId) → ((t : TileId) → Among t ts → p t ≡ true → ⊥) → first_of (filter p ts) ≡ None
none_first p [] h = refl
none_first p (t ∷ ts) h =
    elim (cases_Bool (p t)) [
      | inl e ↦ absurd (h t (inl refl) e)
      | inr e ↦ ap (λ (b : Bool). first_of (cond b (t ∷ filter p ts) (filter p ts))) e ∙ none_first p ts (λ u k. h u (inr k))
    ]
