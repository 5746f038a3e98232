-- Parts that are kept, and vertices that are numbered anew, one more at a time.
use Rattle.std.proofs.Common.{◌≡◌, ℕ, zero, suc, ◌+◌, ◌<◌, ◌≤◌, Bool, true, false, ◌||◌, List, [], ◌∷◌, ◌++◌, length, map, take, drop, get_or, set, replicate, refl, ap, sym, ◌∙◌, inl, inr, append_assoc, append-nil, pos, arith}
use Rattle.std.specs.Prelude.{◌==◌, nat_eq, if◌then◌else◌}
use Rattle.std.specs.List.{All, flat_map, list_any, range_with_len}
use Rattle.std.proofs.lemmas.Bool.{cases_Bool, eqb-true, eqb-false}
use Rattle.std.proofs.lemmas.List.{take_more, length-take-le, length-set, get_or-set_same, get_or-set_other, get_or-replicate, length-replicate}
use Rattle.std.proofs.lemmas.List.FromFn.{fill_by_all, get_or-map-range_with_len, length-map-range_with_len}
use Rattle.std.proofs.lemmas.List.Folds.{list_any_more}
use Rattle.std.proofs.lemmas.List.Elements.{All-head, All-tail, All-take, All-drop}
use Rattle.std.proofs.lemmas.List.Concat.{flat_map-append}
use Rattle.mesh_model.specs.declared.shapes.Part.{Part}
use Rattle.mesh_model.specs.declared.shapes.Vertex.{Vertex}
use Rattle.mesh_model.specs.Conditions.{CoverInOrder, NameVertices, triangles_of_part}
use Rattle.mesh_model.specs.Text.{triangle_line, vertex_line}
use Rattle.mesh_model.specs.Seen.{flagged_parts, triangles_of_parts, is_named, new_place, named_places}
use Rattle.mesh_model.proofs.Outside.{all_flat}
use Rattle.mesh_model.proofs.NewPlaces.{place_more, place_same, named_more}
use Rattle.obj_frames.specs.Renumbering.{marked, mark_at, numbered, vertex_lines}

-- ---- parts
flagged_push : (flags : List Bool) (parts : List Part) (flag : Bool) (part : Part) → length flags ≡ length parts →
    flagged_parts (flags ++ flag ∷ []) (parts ++ part ∷ []) ≡ flagged_parts flags parts ++ (if flag then part ∷ [] else [])
flagged_push [] [] true part e = refl
flagged_push [] [] false part e = refl
flagged_push [] (q ∷ parts) flag part e = absurd (omega (arith, e))
flagged_push (f ∷ flags) [] flag part e = absurd (omega (arith, e))
flagged_push (true ∷ flags) (q ∷ parts) flag part e = ap (λ rest. q ∷ rest) (flagged_push flags parts flag part (omega (arith, e)))
flagged_push (false ∷ flags) (q ∷ parts) flag part e = flagged_push flags parts flag part (omega (arith, e))

-- one part more
pub flagged_more : (flags : List Bool) (parts : List Part) (i : ℕ) (d : Part) → i < length flags → length flags ≡ length parts →
    flagged_parts (take (i + 1) flags) (take (i + 1) parts) ≡ flagged_parts (take i flags) (take i parts) ++ (if get_or flags i false then get_or parts i d ∷ [] else [])
flagged_more flags parts i d low e =
    ap (λ fs. flagged_parts fs (take (i + 1) parts)) (take_more flags i false low)
    ∙ ap (flagged_parts (take i flags ++ get_or flags i false ∷ [])) (take_more parts i d (omega (arith, e)))
    ∙ flagged_push (take i flags) (take i parts) (get_or flags i false) (get_or parts i d)
    (length-take-le i flags (omega arith) ∙ sym (length-take-le i parts (omega (arith, e))))

pub kept_more : (flags : List Bool) (parts : List Part) (i : ℕ) (d : Part) → i < length flags → length flags ≡ length parts → get_or flags i false ≡ true →
    flagged_parts (take (i + 1) flags) (take (i + 1) parts) ≡ flagged_parts (take i flags) (take i parts) ++ get_or parts i d ∷ []
kept_more flags parts i d low e set' =
    flagged_more flags parts i d low e ∙ ap (λ b. flagged_parts (take i flags) (take i parts) ++ (if b then get_or parts i d ∷ [] else [])) set'

pub kept_same : (flags : List Bool) (parts : List Part) (i : ℕ) (d : Part) → i < length flags → length flags ≡ length parts → get_or flags i false ≡ false →
    flagged_parts (take (i + 1) flags) (take (i + 1) parts) ≡ flagged_parts (take i flags) (take i parts)
kept_same flags parts i d low e unset =
    flagged_more flags parts i d low e ∙ ap (λ b. flagged_parts (take i flags) (take i parts) ++ (if b then get_or parts i d ∷ [] else [])) unset
    ∙ append-nil (flagged_parts (take i flags) (take i parts))

pub triangles_more : (triangles : List (List ℕ)) (old new : List Part) (part : Part) (items piece after : List (List ℕ)) →
    items ≡ triangles_of_parts triangles old → piece ≡ triangles_of_part triangles part → after ≡ items ++ piece → new ≡ old ++ part ∷ [] → after ≡ triangles_of_parts triangles new
triangles_more triangles old new part items piece after before here last grown =
    last ∙ (λ t. before t ++ here t)
    ∙ ap (λ rest. triangles_of_parts triangles old ++ rest) (sym (append-nil (triangles_of_part triangles part)))
    ∙ sym (flat_map-append (triangles_of_part triangles) old (part ∷ []))
    ∙ ap (triangles_of_parts triangles) (sym grown)

-- the last part ends where the parts do
cover_grows : (from to : ℕ) (parts : List Part) → CoverInOrder from to parts → from ≤ to
cover_grows from to [] e = omega (arith, e)
cover_grows from to (part ∷ parts) h = omega (arith, cover_grows (from + part.count) to parts h.1)

-- each part ends there or before
pub part_ends : (from to : ℕ) (parts : List Part) → CoverInOrder from to parts → (i : ℕ) (d : Part) → i < length parts → (get_or parts i d).first + (get_or parts i d).count ≤ to
part_ends from to [] h i d low = absurd (omega arith)
part_ends from to (part ∷ parts) h zero d low = omega (arith, h.0, cover_grows (from + part.count) to parts h.1)
part_ends from to (part ∷ parts) h (suc i) d low = part_ends (from + part.count) to parts h.1 i d (omega arith)

-- the triangles of parts name vertices as all do
pub parts_name : (count : ℕ) (triangles : List (List ℕ)) (parts : List Part) → NameVertices count triangles → NameVertices count (triangles_of_parts triangles parts)
parts_name count triangles parts named =
    all_flat Named (triangles_of_part triangles) parts (λ k d low. All-take Named (get_or parts k d).count (drop (get_or parts k d).first triangles) (All-drop Named (get_or parts k d).first triangles named))
  where
    Named : List ℕ → Type 0
    Named triangle = All (λ place. place < count) triangle

-- ---- marks
pub length_marked : (table places : List ℕ) → length (marked table places) ≡ length table
length_marked table [] = refl
length_marked table (place ∷ places) = length_marked (set table place 1) places ∙ length-set table place 1

marked_at : (table places : List ℕ) (p : ℕ) → p < length table → get_or (marked table places) p 0 ≡ (if list_any (λ corner. corner == p) places then 1 else get_or table p 0)
marked_at table [] p low = refl
marked_at table (q ∷ places) p low =
    marked_at (set table q 1) places p (omega (arith, length-set table q 1))
    ∙ elim (cases_Bool (q == p)) [
      | inl same ↦
          let here : q ≡ p = eqb-true q p same in
          rw same (elim (cases_Bool (list_any (λ corner. corner == p) places)) [
            | inl more ↦ rw more refl
            | inr none ↦ rw none (ap (λ r. get_or (set table r 1) p 0) here ∙ get_or-set_same table p 1 0 low)
          ])
      | inr other ↦ rw other (ap (λ n. if list_any (λ corner. corner == p) places then 1 else n) (get_or-set_other table q p 1 0 (λ e. eqb-false q p other (sym e))))
    ]

-- one triangle more
pub marks_more : (triangles : List (List ℕ)) (count i : ℕ) (d : List ℕ) (table new : List ℕ) → i < length triangles →
    table ≡ map (mark_at (take i triangles)) (range_with_len 0 count) → new ≡ marked table (get_or triangles i d) →
    new ≡ map (mark_at (take (i + 1) triangles)) (range_with_len 0 count)
unfolding mark_at is_named
marks_more triangles count i d table new low before here =
    let long : length table ≡ count = ap length before ∙ length-map-range_with_len (mark_at (take i triangles)) 0 count in
    here
    ∙ fill_by_all (mark_at (take (i + 1) triangles)) (marked table (get_or triangles i d)) count 0
    (length_marked table (get_or triangles i d) ∙ long)
    (λ k inside.
    marked_at table (get_or triangles i d) k (omega (arith, long))
    ∙ ap (λ n. if list_any (λ corner. corner == k) (get_or triangles i d) then 1 else n) (ap (λ t. get_or t k 0) before ∙ get_or-map-range_with_len (mark_at (take i triangles)) 0 count k k 0 inside (omega arith))
    ∙ either (list_any (λ triangle. list_any (λ corner. corner == k) triangle) (take i triangles)) (list_any (λ corner. corner == k) (get_or triangles i d))
    ∙ ap (λ b. if b then 1 else 0) (sym (list_any_more (λ triangle. list_any (λ corner. corner == k) triangle) triangles i d low)))
  where
    either : (a b : Bool) → ◌≡◌ {A = ℕ} (if b then 1 else (if a then 1 else 0)) (if a || b then 1 else 0)
    either true true = refl
    either true false = refl
    either false true = refl
    either false false = refl

pub no_marks : (count : ℕ) → replicate count 0 ≡ map (mark_at []) (range_with_len 0 count)
unfolding mark_at is_named
no_marks count = fill_by_all (mark_at []) (replicate count 0) count 0 (length-replicate count 0) (λ k inside. get_or-replicate count k 0 0 inside)

-- a mark tells whether the triangles have the place
pub mark_tells : (triangles : List (List ℕ)) (place n : ℕ) → n ≡ mark_at triangles place → nat_eq n 1 ≡ is_named triangles place
unfolding mark_at
mark_tells triangles place n e =
    ap (λ m. nat_eq m 1) e ∙ elim (cases_Bool (is_named triangles place)) [ inl has ↦ rw has refl | inr lacks ↦ rw lacks refl ]

-- ---- lines of vertices
pub taken_more : (triangles : List (List ℕ)) (place taken next : ℕ) (flag : Bool) → flag ≡ is_named triangles place → taken ≡ new_place triangles place →
    next ≡ taken + (if flag then 1 else 0) → next ≡ new_place triangles (place + 1)
taken_more triangles place taken next flag same before last =
    last ∙ ap (λ n. n + (if flag then 1 else 0)) before ∙ ap (λ b. new_place triangles place + (if b then 1 else 0)) same
    ∙ elim (cases_Bool (is_named triangles place)) [
      | inl has ↦ rw has (sym (place_more triangles place has))
      | inr lacks ↦ rw lacks (omega (arith, place_same triangles place lacks))
    ]

none : Vertex
none = record { x = pos 0; z = pos 0; height = pos 0 }

one_line : (vertices : List Vertex) (place : ℕ) (flag : Bool) → vertex_lines vertices (if flag then place ∷ [] else []) ≡ (if flag then vertex_line (get_or vertices place none) else [])
unfolding none
one_line vertices place true = append-nil (vertex_line (get_or vertices place (record { x = pos 0; z = pos 0; height = pos 0 })))
one_line vertices place false = refl

pub lines_more : (triangles : List (List ℕ)) (vertices : List Vertex) (place : ℕ) (flag : Bool) (old mid new : List ℕ) → flag ≡ is_named triangles place →
    mid ≡ old ++ vertex_lines vertices (named_places triangles place) →
    new ≡ mid ++ (if flag then vertex_line (get_or vertices place (record { x = pos 0; z = pos 0; height = pos 0 })) else []) →
    new ≡ old ++ vertex_lines vertices (named_places triangles (place + 1))
unfolding none
lines_more triangles vertices place flag old mid new same before last =
    last
    ∙ ap (λ text. text ++ (if flag then vertex_line (get_or vertices place none) else [])) before
    ∙ append_assoc old (vertex_lines vertices (named_places triangles place)) (if flag then vertex_line (get_or vertices place none) else [])
    ∙ ap (λ rest. old ++ (vertex_lines vertices (named_places triangles place) ++ rest)) (sym (one_line vertices place flag))
    ∙ ap (λ b. old ++ (vertex_lines vertices (named_places triangles place) ++ vertex_lines vertices (if b then place ∷ [] else []))) same
    ∙ ap (λ lines. old ++ lines) (sym (flat_map-append (λ p. vertex_line (get_or vertices p none)) (named_places triangles place) (if is_named triangles place then place ∷ [] else [])))
    ∙ ap (λ places. old ++ vertex_lines vertices places) (sym (named_more triangles place))

-- ---- lines of triangles
pub renumbered_lines : (seen triangles : List (List ℕ)) (count : ℕ) (table : List ℕ) → table ≡ map (new_place seen) (range_with_len 0 count) → NameVertices count triangles →
    flat_map (λ triangle. triangle_line (map (numbered table) triangle)) triangles ≡ flat_map (λ triangle. triangle_line (map (new_place seen) triangle)) triangles
renumbered_lines seen [] count table is named = refl
renumbered_lines seen (triangle ∷ triangles) count table is named =
    (λ t. triangle_line (places triangle (All-head Named triangle triangles named) t) ++ renumbered_lines seen triangles count table is (All-tail Named triangle triangles named) t)
  where
    Named : List ℕ → Type 0
    Named triangle = All (λ place. place < count) triangle

    places : (ps : List ℕ) → Named ps → map (numbered table) ps ≡ map (new_place seen) ps
    places [] h = refl
    places (p ∷ ps) h =
        (λ t. ((ap (λ u. get_or u p 0) is ∙ get_or-map-range_with_len (new_place seen) 0 count p p 0 (All-head (λ place. place < count) p ps h) (omega arith)) t)
        ∷ places ps (All-tail (λ place. place < count) p ps h) t)
