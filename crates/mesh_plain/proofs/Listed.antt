-- Cells outside a gap, as pairs and as cells of a level.
use Rattle.std.proofs.Common.{◌≡◌, ℕ, ◌+◌, ◌<◌, Bool, true, false, not, List, [], ◌∷◌, ◌++◌, length, get_or, drop, map, ℤ, sym, refl, ap, ◌∙◌, append_assoc}
use Rattle.std.specs.List.{filter}
use Rattle.std.proofs.lemmas.List.{at_drop_more}
use Rattle.clip_regions.specs.declared.region.Region.{Region}
use Rattle.clip_regions.specs.Regions.{contains, cells}
use Rattle.mesh_model.specs.Vertices.{LevelCell, hole, cells_outside, listed_from}
use Rattle.std.proofs.lemmas.List.{map-append}
use Rattle.mesh_plain_heights.specs.declared.places.Cell.{Cell}
use Rattle.mesh_plain.specs.Cells.{named}
use Rattle.mesh_plain.specs.Rings.{is_outside, level_cell}
use Rattle.mesh_model.proofs.Ranges.{map_of_map}

-- where the test holds, the element stays, and elsewhere it is left out
pub kept : {A : Type 0} (p : A → Bool) (xs : List A) (i : ℕ) (d : A) → i < length xs → p (get_or xs i d) ≡ true → filter p (drop i xs) ≡ get_or xs i d ∷ filter p (drop (i + 1) xs)
kept p xs i d here holds = at_drop_more (filter p) xs i d here ∙ rw holds refl

pub left_out : {A : Type 0} (p : A → Bool) (xs : List A) (i : ℕ) (d : A) → i < length xs → p (get_or xs i d) ≡ false → filter p (drop i xs) ≡ filter p (drop (i + 1) xs)
left_out p xs i d here fails = at_drop_more (filter p) xs i d here ∙ rw fails refl

one_named : (level : ℕ) (gap : Region) (cell : ℤ × ℤ) (cells : List (ℤ × ℤ)) (b : Bool) → not (contains gap cell.0 cell.1) ≡ b → filter (is_outside gap) (map (named level) cells) ≡ map (named level) (filter (λ cell. not (contains gap cell.0 cell.1)) cells) → filter (is_outside gap) (map (named level) (cell ∷ cells)) ≡ map (named level) (filter (λ cell. not (contains gap cell.0 cell.1)) (cell ∷ cells))
unfolding is_outside
one_named level gap cell cells true e rest = rw e (ap (λ later. named level cell ∷ later) rest)
one_named level gap cell cells false e rest = rw e rest

pub filter_named : (level : ℕ) (gap : Region) (cells : List (ℤ × ℤ)) → filter (is_outside gap) (map (named level) cells) ≡ map (named level) (filter (λ cell. not (contains gap cell.0 cell.1)) cells)
filter_named level gap [] = refl
filter_named level gap (cell ∷ cells) = one_named level gap cell cells (not (contains gap cell.0 cell.1)) refl (filter_named level gap cells)

-- the cells of a level that are added are those of the definition
pub level_more : (level : ℕ) (finer active gap : Region) (found : List Cell) → gap ≡ hole finer → found ≡ map (named level) (cells active) → filter (is_outside gap) found ≡ map (named level) (cells_outside finer active)
unfolding cells_outside
level_more level finer active gap found same all =
    ap (filter (is_outside gap)) all
    ∙ filter_named level gap (cells active)
    ∙ ap (λ (g : Region). map (named level) (filter (λ cell. not (contains g cell.0 cell.1)) (cells active))) same

-- one level more is listed
pub level_listed : (actives : List Region) (i level : ℕ) (finer d : Region) (before after : List Cell) (whole : List LevelCell) → i < length actives → after ≡ before ++ map (named level) (cells_outside finer (get_or actives i d)) → map level_cell before ++ listed_from level finer (drop i actives) ≡ whole → map level_cell after ++ listed_from (level + 1) (get_or actives i d) (drop (i + 1) actives) ≡ whole
level_listed actives i level finer d before after whole here added listed =
    let out = cells_outside finer (get_or actives i d) in
    let rest : List LevelCell = listed_from (level + 1) (get_or actives i d) (drop (i + 1) actives) in
    let more : List LevelCell = map (λ x. level_cell (named level x)) out in
    ap (λ (cells : List Cell). map level_cell cells ++ rest) added
    ∙ ap (λ (cells : List LevelCell). cells ++ rest) (map-append level_cell before (map (named level) out) ∙ ap (λ (new : List LevelCell). map level_cell before ++ new) (map_of_map level_cell (named level) out))
    ∙ append_assoc (map level_cell before) more rest
    ∙ ap (λ (later : List LevelCell). map level_cell before ++ later) (sym (at_drop_more (listed_from level finer) actives i d here))
    ∙ listed
