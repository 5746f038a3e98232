-- Sets of tiles that make a mosaic: where their tiles lie, and why others make none.
use Rattle.std.proofs.Common.{◌≡◌, ℕ, zero, suc, ◌+◌, ◌-◌, ◌*◌, ◌^◌, ◌<◌, ◌≤◌, ◌≤ℤ◌, Bool, true, false, not, ℤ, pos, List, [], ◌∷◌, ◌++◌, length, get_or, map, fold, find, take, drop, Option, Some, None, option_map, All, refl, ap, sym, subst, ◌∙◌, arith, eqb, ltb, take_all, length-drop}
use Rattle.std.specs.Option.{option_or}
use Rattle.std.specs.Int.{int_min, int_max}
use Rattle.std.proofs.lemmas.Int.{ints}
use Rattle.std.proofs.lemmas.Bool.Decides.{nat_tests}
use Rattle.std.proofs.lemmas.List.{take_more, get_or-map, length-map, take-append-drop, map-append}
use Rattle.std.proofs.lemmas.List.Folds.{find-append}
use Rattle.std.proofs.lemmas.List.Elements.{All-push}
use Rattle.terrain_model.specs.Mosaic.{Bounds, PlacedTile, bounds_of, mosaic_width, mosaic_height}
use Rattle.hgt_tiles.specs.TileView.{TileView, placed}
use Rattle.mosaic.specs.Faults.{HasSide, twin_after, other_side, sample_count, mosaic_fault}
use Rattle.mosaic.specs.Painting.{IsPlacedIn}
use Rattle.mosaic.specs.declared.fault.MosaicFault.TheVariants.{TooLarge}

-- ---- the least and the greatest of some numbers
min_left : (a b c : ℤ) → c ≤ℤ int_min a b → (c ≤ℤ a) × (c ≤ℤ b)
min_left a b c h = (grind (arith, ints), grind (arith, ints))

max_right : (a b c : ℤ) → int_max a b ≤ℤ c → (a ≤ℤ c) × (b ≤ℤ c)
max_right a b c h = (grind (arith, ints), grind (arith, ints))

none_lower : (x : ℤ) (xs : List ℤ) (k : ℕ) (d : ℤ) → k < length (x ∷ xs) → fold int_min x xs ≤ℤ get_or (x ∷ xs) k d
none_lower x [] zero d inside = omega (arith, ints)
none_lower x [] (suc k) d inside = absurd (omega (arith, inside))
none_lower x (y ∷ ys) zero d inside = (min_left x y (fold int_min (int_min x y) ys) (none_lower (int_min x y) ys zero d (omega arith))).0
none_lower x (y ∷ ys) (suc zero) d inside = (min_left x y (fold int_min (int_min x y) ys) (none_lower (int_min x y) ys zero d (omega arith))).1
none_lower x (y ∷ ys) (suc (suc k)) d inside = none_lower (int_min x y) ys (suc k) d (omega (arith, inside))

none_higher : (x : ℤ) (xs : List ℤ) (k : ℕ) (d : ℤ) → k < length (x ∷ xs) → get_or (x ∷ xs) k d ≤ℤ fold int_max x xs
none_higher x [] zero d inside = omega (arith, ints)
none_higher x [] (suc k) d inside = absurd (omega (arith, inside))
none_higher x (y ∷ ys) zero d inside = (max_right x y (fold int_max (int_max x y) ys) (none_higher (int_max x y) ys zero d (omega arith))).0
none_higher x (y ∷ ys) (suc zero) d inside = (max_right x y (fold int_max (int_max x y) ys) (none_higher (int_max x y) ys zero d (omega arith))).1
none_higher x (y ∷ ys) (suc (suc k)) d inside = none_higher (int_max x y) ys (suc k) d (omega (arith, inside))

-- ---- where the tiles lie
abbrev lons : List TileView → List ℤ
lons tiles = map (λ (tile : PlacedTile). tile.corner.lon) (map placed tiles)

abbrev lats : List TileView → List ℤ
lats tiles = map (λ (tile : PlacedTile). tile.corner.lat) (map placed tiles)

number_at : (f : PlacedTile → ℤ) (tiles : List TileView) (k : ℕ) (d : TileView) (e : ℤ) → k < length tiles → get_or (map f (map placed tiles)) k e ≡ f (placed (get_or tiles k d))
number_at f tiles k d e inside =
    let long : length (map placed tiles) ≡ length tiles = length-map tiles placed in
    get_or-map f (map placed tiles) k (placed d) e (omega (arith, inside, long)) ∙ ap f (get_or-map placed tiles k d (placed d) inside)

number_count : (f : PlacedTile → ℤ) (tiles : List TileView) → length (map f (map placed tiles)) ≡ length tiles
number_count f tiles = length-map (map placed tiles) f ∙ length-map tiles placed

pub all_placed : (first : TileView) (rest : List TileView) → All (HasSide first.terrain.width) (first ∷ rest) → All (IsPlacedIn (bounds_of (map placed (first ∷ rest)))) (first ∷ rest)
unfolding bounds_of placed
all_placed first rest sides k d inside =
    let tiles : List TileView = first ∷ rest in
    let lon : PlacedTile → ℤ = λ tile. tile.corner.lon in
    let lat : PlacedTile → ℤ = λ tile. tile.corner.lat in
    let lon_in : k < length (map lon (map placed tiles)) = omega (arith, inside, number_count lon tiles) in
    let lat_in : k < length (map lat (map placed tiles)) = omega (arith, inside, number_count lat tiles) in
    let lon_at : get_or (map lon (map placed tiles)) k (pos 0) ≡ (get_or tiles k d).corner.lon = number_at lon tiles k d (pos 0) inside in
    let lat_at : get_or (map lat (map placed tiles)) k (pos 0) ≡ (get_or tiles k d).corner.lat = number_at lat tiles k d (pos 0) inside in
    record {
      west = subst (λ (v : ℤ). fold int_min first.corner.lon (map lon (map placed rest)) ≤ℤ v) lon_at (none_lower first.corner.lon (map lon (map placed rest)) k (pos 0) lon_in);
      east = subst (λ (v : ℤ). v ≤ℤ fold int_max first.corner.lon (map lon (map placed rest))) lon_at (none_higher first.corner.lon (map lon (map placed rest)) k (pos 0) lon_in);
      south = subst (λ (v : ℤ). fold int_min first.corner.lat (map lat (map placed rest)) ≤ℤ v) lat_at (none_lower first.corner.lat (map lat (map placed rest)) k (pos 0) lat_in);
      north = subst (λ (v : ℤ). v ≤ℤ fold int_max first.corner.lat (map lat (map placed rest))) lat_at (none_higher first.corner.lat (map lat (map placed rest)) k (pos 0) lat_in);
      columns = (sides k d inside).columns;
      rows = (sides k d inside).rows;
    }

-- a list with an element is that element and the rest
pub split_first : (tiles : List TileView) (first : TileView) → 1 ≤ length tiles → first ≡ get_or tiles 0 first → tiles ≡ first ∷ drop 1 tiles
split_first [] first some here = absurd (omega (arith, some))
split_first (tile ∷ rest) first some here = ap (λ t. t ∷ rest) (sym here)

pub rest_is : (tiles : List TileView) (first : TileView) → bounds_of (map placed (first ∷ take (length tiles - 1) (drop 1 tiles))) ≡ bounds_of (map placed (first ∷ drop 1 tiles))
rest_is tiles first =
    let long : length (drop 1 tiles) ≡ length tiles - 1 = length-drop 1 tiles in
    ap (λ rest. bounds_of (map placed (first ∷ rest))) (take_all (length tiles - 1) (drop 1 tiles) (omega (arith, long)))

pub mapped_none : {X Y : Type 0} (f : X → Y) (o : Option X) → option_map f o ≡ None → o ≡ None
mapped_none f None e = refl
mapped_none f (Some x) e = cc

-- ---- sides
abbrev is_other : ℕ → ℕ → Bool
is_other side other = not (eqb other side)

sides_more : (tiles : List TileView) (n : ℕ) (tile : TileView) → n < length tiles → tile ≡ get_or tiles n tile → map (λ t. t.terrain.width) (take (n + 1) tiles) ≡ map (λ t. t.terrain.width) (take n tiles) ++ tile.terrain.width ∷ []
sides_more tiles n tile inside here =
    ap (map (λ t. t.terrain.width)) (take_more tiles n tile inside ∙ ap (λ t. take n tiles ++ t ∷ []) (sym here)) ∙ map-append (λ t. t.terrain.width) (take n tiles) (tile ∷ [])

pub no_other_none : (side : ℕ) (tiles : List TileView) → other_side side (take 0 tiles) ≡ None
unfolding other_side
no_other_none side tiles = refl

pub no_other_more : (side : ℕ) (tiles : List TileView) (n : ℕ) (tile : TileView) → n < length tiles → tile ≡ get_or tiles n tile → other_side side (take n tiles) ≡ None → tile.terrain.width ≡ side → other_side side (take (n + 1) tiles) ≡ None
unfolding other_side
no_other_more side tiles n tile inside here none same =
    let test : is_other side tile.terrain.width ≡ false = grind (arith, nat_tests) in
    ap (find (is_other side)) (sides_more tiles n tile inside here)
    ∙ find-append (is_other side) (map (λ t. t.terrain.width) (take n tiles)) (tile.terrain.width ∷ [])
    ∙ ap (λ o. option_or o (find (is_other side) (tile.terrain.width ∷ []))) none ∙ rw test refl

pub other_found : (side : ℕ) (tiles : List TileView) (n : ℕ) (tile : TileView) → n < length tiles → tile ≡ get_or tiles n tile → other_side side (take n tiles) ≡ None → (tile.terrain.width ≡ side → ⊥) → other_side side tiles ≡ Some tile.terrain.width
unfolding other_side
other_found side tiles n tile inside here none differs =
    let test : is_other side tile.terrain.width ≡ true = grind (arith, nat_tests) in
    let widths = λ (ts : List TileView). map (λ (t : TileView). t.terrain.width) ts in
    let split : tiles ≡ take (n + 1) tiles ++ drop (n + 1) tiles = sym (take-append-drop (n + 1) tiles) in
    let front : find (is_other side) (widths (take (n + 1) tiles)) ≡ Some tile.terrain.width =
    ap (find (is_other side)) (sides_more tiles n tile inside here)
    ∙ find-append (is_other side) (widths (take n tiles)) (tile.terrain.width ∷ [])
    ∙ ap (λ o. option_or o (find (is_other side) (tile.terrain.width ∷ []))) none ∙ rw test refl in
    ap (λ ts. find (is_other side) (widths ts)) split ∙ ap (find (is_other side)) (map-append (λ t. t.terrain.width) (take (n + 1) tiles) (drop (n + 1) tiles))
    ∙ find-append (is_other side) (widths (take (n + 1) tiles)) (widths (drop (n + 1) tiles))
    ∙ ap (λ o. option_or o (find (is_other side) (widths (drop (n + 1) tiles)))) front

pub squares_more : (side : ℕ) (tiles : List TileView) (n : ℕ) (tile : TileView) → n < length tiles → tile ≡ get_or tiles n tile → All (HasSide side) (take n tiles) → HasSide side tile → All (HasSide side) (take (n + 1) tiles)
squares_more side tiles n tile inside here all one =
    subst (λ (ts : List TileView). All (HasSide side) ts) (sym (take_more tiles n tile inside ∙ ap (λ t. take n tiles ++ t ∷ []) (sym here))) (All-push (HasSide side) (take n tiles) tile all one)

-- ---- faults
pub accepted : (first : TileView) (rest : List TileView) → twin_after [] (first ∷ rest) ≡ None → other_side first.terrain.width (first ∷ rest) ≡ None → mosaic_width (bounds_of (map placed (first ∷ rest))) * mosaic_height (bounds_of (map placed (first ∷ rest))) ≤ 2 ^ 26 → mosaic_fault (first ∷ rest) ≡ None
unfolding sample_count
accepted first rest twins others few =
    let test : ltb (2 ^ 26) (mosaic_width (bounds_of (map placed (first ∷ rest))) * mosaic_height (bounds_of (map placed (first ∷ rest)))) ≡ false = grind (arith, nat_tests) in
    rw (twins, others, test) refl

pub too_large : (first : TileView) (rest : List TileView) (samples : ℕ) → twin_after [] (first ∷ rest) ≡ None → other_side first.terrain.width (first ∷ rest) ≡ None → samples ≡ mosaic_width (bounds_of (map placed (first ∷ rest))) * mosaic_height (bounds_of (map placed (first ∷ rest))) → 2 ^ 26 < samples → mosaic_fault (first ∷ rest) ≡ Some (TooLarge samples)
unfolding sample_count
too_large first rest samples twins others count many =
    let test : ltb (2 ^ 26) samples ≡ true = grind (arith, nat_tests) in
    rw (twins, others, sym count, test) refl

-- ---- the same of a list that is a first tile and the rest
abbrev product : Bounds → ℕ
product bounds = mosaic_width bounds * mosaic_height bounds

pub too_large_of : (tiles : List TileView) (first : TileView) (rest : List TileView) (extent : Bounds) (w h : ℕ) → tiles ≡ first ∷ rest → twin_after [] tiles ≡ None → other_side first.terrain.width tiles ≡ None → extent ≡ bounds_of (map placed (first ∷ rest)) → w ≡ mosaic_width extent → h ≡ mosaic_height extent → 2 ^ 26 < w * h → mosaic_fault tiles ≡ Some (TooLarge (w * h))
too_large_of tiles first rest extent w h split twins others round wide high many =
    let count : w * h ≡ product (bounds_of (map placed (first ∷ rest))) = ap (λ n. n * h) wide ∙ ap (λ n. mosaic_width extent * n) high ∙ ap product round in
    ap mosaic_fault split ∙ too_large first rest (w * h) (subst (λ (ts : List TileView). twin_after [] ts ≡ None) split twins) (subst (λ (ts : List TileView). other_side first.terrain.width ts ≡ None) split others) count many

pub accepted_of : (tiles : List TileView) (first : TileView) (rest : List TileView) (extent : Bounds) (w h : ℕ) → tiles ≡ first ∷ rest → twin_after [] tiles ≡ None → other_side first.terrain.width tiles ≡ None → extent ≡ bounds_of (map placed (first ∷ rest)) → w ≡ mosaic_width extent → h ≡ mosaic_height extent → w * h ≤ 2 ^ 26 → mosaic_fault tiles ≡ None
accepted_of tiles first rest extent w h split twins others round wide high few =
    let count : w * h ≡ product (bounds_of (map placed (first ∷ rest))) = ap (λ n. n * h) wide ∙ ap (λ n. mosaic_width extent * n) high ∙ ap product round in
    ap mosaic_fault split ∙ accepted first rest (subst (λ (ts : List TileView). twin_after [] ts ≡ None) split twins) (subst (λ (ts : List TileView). other_side first.terrain.width ts ≡ None) split others) (subst (λ (n : ℕ). n ≤ 2 ^ 26) count few)

pub placed_of : (tiles : List TileView) (first : TileView) (rest : List TileView) (extent : Bounds) → tiles ≡ first ∷ rest → All (HasSide first.terrain.width) tiles → extent ≡ bounds_of (map placed (first ∷ rest)) → All (IsPlacedIn extent) tiles
placed_of tiles first rest extent split sides round =
    let whole : All (IsPlacedIn (bounds_of (map placed (first ∷ rest)))) (first ∷ rest) = all_placed first rest (subst (λ (ts : List TileView). All (HasSide first.terrain.width) ts) split sides) in
    subst (λ (ts : List TileView). All (IsPlacedIn extent) ts) (sym split) (subst (λ (b : Bounds). All (IsPlacedIn b) (first ∷ rest)) (sym round) whole)
