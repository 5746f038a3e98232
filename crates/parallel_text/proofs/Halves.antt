-- The lines of two parts are those of the whole.
use Rattle.std.proofs.Common.{◌≡◌, List, ℕ, [], ◌++◌, flat_map, ap, sym, ◌∙◌, append_assoc, append-nil}
use Rattle.std.proofs.lemmas.Grind.{flat_map-append}
use Rattle.mesh_model.specs.declared.shapes.Vertex.{Vertex}
use Rattle.mesh_model.specs.Text.{vertex_line, triangle_line}
use Rattle.parallel_text.specs.Lines.{lines_text}

pub cut_in_vertices : (vs ws : List Vertex) (ts : List (List ℕ)) → lines_text (vs ++ ws) ts ≡ lines_text vs [] ++ lines_text ws ts
unfolding lines_text
cut_in_vertices vs ws ts =
    let front = flat_map vertex_line vs in
    let back = flat_map vertex_line ws in
    let rest = flat_map triangle_line ts in
    ap (λ xs. xs ++ rest) (flat_map-append vertex_line vs ws) ∙ append_assoc front back rest ∙ ap (λ xs. xs ++ (back ++ rest)) (sym (append-nil front))

pub cut_in_triangles : (vs : List Vertex) (ts us : List (List ℕ)) → lines_text vs (ts ++ us) ≡ lines_text vs ts ++ lines_text [] us
unfolding lines_text
cut_in_triangles vs ts us =
    let front = flat_map vertex_line vs in
    ap (λ xs. front ++ xs) (flat_map-append triangle_line ts us) ∙ sym (append_assoc front (flat_map triangle_line ts) (flat_map triangle_line us))

pub in_vertices : (V vs ws : List Vertex) (T ts us : List (List ℕ)) → vs ++ ws ≡ V → ts ≡ [] → us ≡ T → lines_text V T ≡ lines_text vs ts ++ lines_text ws us
in_vertices V vs ws T ts us all none same =
    ap (λ xs. lines_text xs T) (sym all) ∙ cut_in_vertices vs ws T
    ∙ ap (λ xs. lines_text vs xs ++ lines_text ws T) (sym none) ∙ ap (λ xs. lines_text vs ts ++ lines_text ws xs) (sym same)

pub in_triangles : (V vs ws : List Vertex) (T ts us : List (List ℕ)) → vs ≡ V → ws ≡ [] → ts ++ us ≡ T → lines_text V T ≡ lines_text vs ts ++ lines_text ws us
in_triangles V vs ws T ts us same none all =
    ap (λ xs. lines_text V xs) (sym all) ∙ cut_in_triangles V ts us
    ∙ ap (λ xs. lines_text xs ts ++ lines_text [] us) (sym same) ∙ ap (λ xs. lines_text vs ts ++ lines_text xs us) (sym none)
