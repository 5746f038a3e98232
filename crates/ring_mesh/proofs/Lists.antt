-- How lists over a range grow, and lists over the cells of a region.
use Rattle.std.proofs.Common.{◌≡◌, ℕ, ◌+◌, List, [], ◌∷◌, ◌++◌, ℤ, pos, ◌+ℤ◌, map, refl, ap, sym, ◌∙◌, append_assoc, arith}
use Rattle.std.specs.List.{flat_map, range_with_len}
use Rattle.std.proofs.lemmas.List.{append-nil}
use Rattle.std.proofs.lemmas.List.FromFn.{map-range_with_len_more}
use Rattle.std.proofs.lemmas.List.Concat.{flat_map-append}
use Rattle.clip_regions.specs.declared.region.Region.{Region}
use Rattle.clip_regions.specs.Regions.{columns, rows, cells, numbers_from}
use Rattle.mesh_model.proofs.Ranges.{flat_map_of_map, map_of_flat_map, flat_map_of_flat_map}

map_id : (xs : List ℕ) → map (λ x. x) xs ≡ xs
map_id [] = refl
map_id (x ∷ xs) = ap (λ rest. x ∷ rest) (map_id xs)

-- a range with one more number
range_more : (n : ℕ) → range_with_len 0 (n + 1) ≡ range_with_len 0 n ++ n ∷ []
range_more n = sym (map_id (range_with_len 0 (n + 1))) ∙ map-range_with_len_more (λ x. x) 0 n n (omega arith) ∙ ap (λ xs. xs ++ n ∷ []) (map_id (range_with_len 0 n))

-- one more image of a range
pub map_more : {A : Type 0} (f : ℕ → A) (base now next : List A) (n : ℕ) (x : A) → now ≡ base ++ map f (range_with_len 0 n) → next ≡ now ++ x ∷ [] → x ≡ f n →
    next ≡ base ++ map f (range_with_len 0 (n + 1))
map_more f base now next n x so_far pushed same =
    pushed ∙ ap (λ xs. xs ++ x ∷ []) so_far ∙ append_assoc base (map f (range_with_len 0 n)) (x ∷ [])
    ∙ ap (λ last. base ++ (map f (range_with_len 0 n) ++ last ∷ [])) same
    ∙ ap (λ xs. base ++ xs) (sym (map-range_with_len_more f 0 n n (omega arith)))

-- one more piece of a range
pub flat_map_more : {A : Type 0} (f : ℕ → List A) (base now next : List A) (n : ℕ) → now ≡ base ++ flat_map f (range_with_len 0 n) → next ≡ now ++ f n →
    next ≡ base ++ flat_map f (range_with_len 0 (n + 1))
flat_map_more f base now next n so_far appended =
    let last : flat_map f (range_with_len 0 (n + 1)) ≡ flat_map f (range_with_len 0 n) ++ f n = ap (flat_map f) (range_more n) ∙ flat_map-append f (range_with_len 0 n) (n ∷ []) ∙ ap (λ piece. flat_map f (range_with_len 0 n) ++ piece) (append-nil (f n)) in
    appended ∙ ap (λ xs. xs ++ f n) so_far ∙ append_assoc base (flat_map f (range_with_len 0 n)) (f n) ∙ ap (λ xs. base ++ xs) (sym last)

-- a list for each cell of a region, row by row
pub flat_map_cells : {A : Type 0} (f : ℤ × ℤ → List A) (r : Region) →
    flat_map f (cells r) ≡ flat_map (λ v. flat_map (λ u. f (r.x0 +ℤ pos u, r.y0 +ℤ pos v)) (range_with_len 0 (columns r))) (range_with_len 0 (rows r))
flat_map_cells f r =
    flat_map_of_flat_map f (λ j. map (λ i. (i, j)) (numbers_from r.x0 (columns r))) (numbers_from r.y0 (rows r))
    ∙ flat_map_of_map (λ j. flat_map f (map (λ i. (i, j)) (numbers_from r.x0 (columns r)))) (λ v. r.y0 +ℤ pos v) (range_with_len 0 (rows r))
    ∙ (λ i. flat_map (λ v. row v i) (range_with_len 0 (rows r)))
  where
    row : (v : ℕ) → flat_map f (map (λ i. (i, r.y0 +ℤ pos v)) (numbers_from r.x0 (columns r))) ≡ flat_map (λ u. f (r.x0 +ℤ pos u, r.y0 +ℤ pos v)) (range_with_len 0 (columns r))
    row v = flat_map_of_map f (λ i. (i, r.y0 +ℤ pos v)) (numbers_from r.x0 (columns r)) ∙ flat_map_of_map (λ i. f (i, r.y0 +ℤ pos v)) (λ u. r.x0 +ℤ pos u) (range_with_len 0 (columns r))

-- the images of rows, row by row
pub map_of_rows : {B C : Type 0} (f : B → C) (g : ℤ → List B) (a : ℤ) (n : ℕ) →
    map f (flat_map g (numbers_from a n)) ≡ flat_map (λ v. map f (g (a +ℤ pos v))) (range_with_len 0 n)
map_of_rows f g a n = map_of_flat_map f g (numbers_from a n) ∙ flat_map_of_map (λ j. map f (g j)) (λ v. a +ℤ pos v) (range_with_len 0 n)
