-- The tiles of a torus by their numbers.
use Rattle.std.proofs.Common.{◌≡◌, ℕ, ◌+◌, ◌*◌, ◌<◌, ◌≤◌, Bool, true, false, cond, ◌&&◌, ℤ, List, [], ◌∷◌, ◌++◌, map, replicate, length, get_or, set, Option, Some, None, refl, ap, sym, ◌∙◌, subst, inl, inr, arith, length-set, get_or-set_same, get_or-set_other}
use Rattle.std.specs.Prelude.{nat_lt, is_some, Box}
use Rattle.std.proofs.lemmas.Bool.{cases_Bool, and_parts, and_left, true≢false}
use Rattle.std.proofs.lemmas.Bool.Decides.{nat_tests}
use Rattle.std.proofs.lemmas.List.{get_or-map, map-set, map_push, replicate_more}
use Rattle.std.proofs.Math.Nat.{mul-le-mul_left}
use mathlib.Core.Path.{ap₂}
use Rattle.plan_model.specs.Blocks.{tiles_per_side}
use Rattle.plan_model.specs.declared.tiles.TileId.{TileId}
use Rattle.torus_grid.specs.Grids.{Grid, has_tile, tile_number, tile_at, is_home, SameBut}
use Rattle.torus_grid.specs.Shown.{shown}
use Rattle.strip_planner.proofs.Rings.{by_order, less_is, less_of}

-- ---- which tiles there are
pub not_less : (a b : ℕ) → b ≤ a → nat_lt a b ≡ false
not_less a b h = grind (arith, nat_tests)

pub column_of : (k : ℕ) (t : TileId) → has_tile k t ≡ true → t.tx < tiles_per_side k
unfolding has_tile
column_of k t e = less_is t.tx (tiles_per_side k) (and_parts (nat_lt t.tx (tiles_per_side k)) (nat_lt t.ty (tiles_per_side k)) e).0

pub row_of : (k : ℕ) (t : TileId) → has_tile k t ≡ true → t.ty < tiles_per_side k
unfolding has_tile
row_of k t e = less_is t.ty (tiles_per_side k) (and_parts (nat_lt t.tx (tiles_per_side k)) (nat_lt t.ty (tiles_per_side k)) e).1

pub has_by_row : (k side : ℕ) (t : TileId) → side ≡ tiles_per_side k → t.tx < side → nat_lt t.ty side ≡ has_tile k t
unfolding has_tile
has_by_row k side t e h =
    ap (λ (n : ℕ). nat_lt t.ty n) e ∙ sym (ap (λ (b : Bool). b && nat_lt t.ty (tiles_per_side k)) (less_of t.tx (tiles_per_side k) (omega arith)))

pub has_none : (k side : ℕ) (t : TileId) → side ≡ tiles_per_side k → side ≤ t.tx → has_tile k t ≡ false
unfolding has_tile
has_none k side t e h = and_left (nat_lt t.tx (tiles_per_side k)) (nat_lt t.ty (tiles_per_side k)) (not_less t.tx (tiles_per_side k) (omega arith))

pub has_by_none : (k side : ℕ) (t : TileId) → side ≡ tiles_per_side k → side ≤ t.tx → nat_lt t.tx side ≡ has_tile k t
has_by_none k side t e h = not_less t.tx side h ∙ sym (has_none k side t e h)

abbrev tile : ℕ → ℕ → TileId
tile tx ty = record { tx = tx; ty = ty }

-- tiles of one number are one
same_row : (side x y x' y' : ℕ) → x < side → x' < side → side * y + x ≡ side * y' + x' → y ≤ y'
same_row side x y x' y' h k e =
    by_order y y' (λ (l : y ≤ y'). l) (λ (l : y' < y). let apart : side * (y' + 1) ≤ side * y = mul-le-mul_left side (omega arith) in absurd (omega (arith, apart)))

pub same_from_number : (k : ℕ) (t u : TileId) → has_tile k t ≡ true → has_tile k u ≡ true → tile_number k t ≡ tile_number k u → t ≡ u
unfolding tile_number
same_from_number k t u h l e =
    let down : t.ty ≤ u.ty = same_row (tiles_per_side k) t.tx t.ty u.tx u.ty (column_of k t h) (column_of k u l) e in
    let up : u.ty ≤ t.ty = same_row (tiles_per_side k) u.tx u.ty t.tx t.ty (column_of k u l) (column_of k t h) (sym e) in
    let row : t.ty ≡ u.ty = omega arith in
    let rows : tiles_per_side k * t.ty ≡ tiles_per_side k * u.ty = ap (λ (n : ℕ). tiles_per_side k * n) row in
    let column : t.tx ≡ u.tx = omega (arith, rows, e) in
    ap₂ tile column row

-- ---- a torus of some places for boxed tiles
abbrev pub grid_of : {Z : Type 0} → ℕ → List (Option (Box (List ℤ) Z)) → Grid
grid_of k items = record { k = k; tiles = map shown items }

pub at_tile : (g : Grid) (t : TileId) → has_tile g.k t ≡ true → tile_at g t ≡ get_or g.tiles (tile_number g.k t) None
unfolding tile_at
at_tile g t e = ap (λ (b : Bool). cond b (get_or g.tiles (tile_number g.k t) None) None) e

at_none : (g : Grid) (t : TileId) → has_tile g.k t ≡ false → tile_at g t ≡ None
unfolding tile_at
at_none g t e = ap (λ (b : Bool). cond b (get_or g.tiles (tile_number g.k t) None) None) e

pub home_has : (g : Grid) (t : TileId) → is_home g t ≡ true → has_tile g.k t ≡ true
unfolding is_home
home_has g t e =
    elim (cases_Bool (has_tile g.k t)) [
      | inl h ↦ h
      | inr h ↦ absurd (true≢false (sym e ∙ ap is_some (at_none g t h)))
    ]

pub shown_some : {Z : Type 0} (o : Option (Box (List ℤ) Z)) → is_some (shown o) ≡ is_some o
shown_some None = refl
shown_some (Some b) = refl

pub away : (g : Grid) (t : TileId) → has_tile g.k t ≡ false → is_home g t ≡ false
unfolding is_home
away g t e = ap is_some (at_none g t e)

module _ {Z : Type 0} (k : ℕ) (items : List (Option (Box (List ℤ) Z))) (t : TileId) (n : ℕ) (has : has_tile k t ≡ true) (number : n ≡ tile_number k t) (inside : n < length items) where
  pub tile_is : tile_at (grid_of k items) t ≡ shown (get_or items n None)
  tile_is =
      at_tile (grid_of k items) t has ∙ ap (λ (m : ℕ). get_or (map shown items) m None) (sym number) ∙ get_or-map shown items n None None inside

  pub home_is : is_some (get_or items n None) ≡ is_home (grid_of k items) t
  unfolding is_home
  home_is = sym (ap is_some tile_is ∙ shown_some (get_or items n None))

  pub tile_set : (v : Option (Box (List ℤ) Z)) → tile_at (grid_of k (set items n v)) t ≡ shown v
  tile_set v =
      at_tile (grid_of k (set items n v)) t has ∙ ap (λ (m : ℕ). get_or (map shown (set items n v)) m None) (sym number) ∙ get_or-map shown (set items n v) n None None (omega (arith, length-set items n v)) ∙ ap shown (get_or-set_same items n v None inside)

  other_set : (v : Option (Box (List ℤ) Z)) (u : TileId) → ¬ (u ≡ t) → has_tile k u ≡ true → tile_at (grid_of k (set items n v)) u ≡ tile_at (grid_of k items) u
  other_set v u ne h =
      let apart : ¬ (tile_number k u ≡ n) = λ e. ne (same_from_number k u t h has (e ∙ number)) in
      at_tile (grid_of k (set items n v)) u h ∙ ap (λ (xs : List (Option (List ℤ))). get_or xs (tile_number k u) None) (map-set shown items n v) ∙ get_or-set_other (map shown items) n (tile_number k u) (shown v) None apart ∙ sym (at_tile (grid_of k items) u h)

  others_set : (v : Option (Box (List ℤ) Z)) (u : TileId) → ¬ (u ≡ t) → tile_at (grid_of k (set items n v)) u ≡ tile_at (grid_of k items) u
  others_set v u ne =
      elim (cases_Bool (has_tile k u)) [
        | inl h ↦ other_set v u ne h
        | inr h ↦ at_none (grid_of k (set items n v)) u h ∙ sym (at_none (grid_of k items) u h)
      ]

  pub same_but : (v : Option (Box (List ℤ) Z)) (old : Grid) → grid_of k items ≡ old → SameBut t old (grid_of k (set items n v))
  same_but v old e =
      subst (λ (g : Grid). SameBut t g (grid_of k (set items n v))) e (record { size = refl; others = others_set v })

-- one more flat tile
pub flat_more : {Z : Type 0} (n : ℕ) (hs : List ℤ) (xs ys : List (Option (Box (List ℤ) Z))) (v : Option (Box (List ℤ) Z)) → map shown xs ≡ replicate n (Some hs) → ys ≡ xs ++ v ∷ [] → shown v ≡ Some hs → map shown ys ≡ replicate (n + 1) (Some hs)
flat_more n hs xs ys v so_far e here =
    ap (map shown) e ∙ map_push shown xs v ∙ ap₂ (λ (zs : List (Option (List ℤ))) (z : Option (List ℤ)). zs ++ z ∷ []) so_far here ∙ replicate_more n (Some hs)
