-- The parts of one level more.
use Rattle.std.proofs.Common.{◌≡◌, ℕ, ◌+◌, ◌<◌, List, [], ◌∷◌, ◌++◌, length, get_or, drop, refl, ap, sym, subst, ◌∙◌, append_assoc, arith}
use Rattle.std.proofs.lemmas.List.{at_drop_more, drop_more}
use Rattle.clip_regions.specs.declared.region.Region.{Region}
use Rattle.mesh_model.specs.declared.shapes.Vertex.{Vertex}
use Rattle.mesh_model.specs.Parts.{PartTriangles, square_parts, square_parts_from, stitch_parts, stitch_parts_from, all_stitch_parts}
use Rattle.mesh_plain.specs.Frames.{IsDrawn, AreDrawn}

pub drawn_next : (actives : List Region) (i level : ℕ) (d : Region) → i < length actives → AreDrawn level (drop i actives) → IsDrawn level (get_or actives i d) × AreDrawn (level + 1) (drop (i + 1) actives)
drawn_next actives i level d here drawn =
    subst (λ (rest : List Region). AreDrawn level rest) (drop_more actives i d here) drawn

-- what is made and what the rest makes is the whole
pub one_more : (before after part rest both whole : List PartTriangles) → after ≡ before ++ part → both ≡ part ++ rest → before ++ both ≡ whole → after ++ rest ≡ whole
one_more before after part rest both whole added next made =
    ap (λ (now : List PartTriangles). now ++ rest) added
    ∙ append_assoc before part rest
    ∙ ap (λ (later : List PartTriangles). before ++ later) (sym next)
    ∙ made

pub squares_more : (vertices : List Vertex) (actives : List Region) (i level : ℕ) (finer d : Region) (before after whole : List PartTriangles) → i < length actives → after ≡ before ++ square_parts vertices level finer (get_or actives i d) → before ++ square_parts_from vertices level finer (drop i actives) ≡ whole → after ++ square_parts_from vertices (level + 1) (get_or actives i d) (drop (i + 1) actives) ≡ whole
squares_more vertices actives i level finer d before after whole here added made =
    one_more before after (square_parts vertices level finer (get_or actives i d)) (square_parts_from vertices (level + 1) (get_or actives i d) (drop (i + 1) actives)) (square_parts_from vertices level finer (drop i actives)) whole added (at_drop_more (square_parts_from vertices level finer) actives i d here) made

pub stitches_more : (vertices : List Vertex) (coarser : List Region) (i level : ℕ) (active d : Region) (before after whole : List PartTriangles) → i < length coarser → after ≡ before ++ stitch_parts vertices level active → before ++ stitch_parts_from vertices level active (drop i coarser) ≡ whole → after ++ stitch_parts_from vertices (level + 1) (get_or coarser i d) (drop (i + 1) coarser) ≡ whole
stitches_more vertices coarser i level active d before after whole here added made =
    one_more before after (stitch_parts vertices level active) (stitch_parts_from vertices (level + 1) (get_or coarser i d) (drop (i + 1) coarser)) (stitch_parts_from vertices level active (drop i coarser)) whole added (at_drop_more (stitch_parts_from vertices level active) coarser i d here) made

-- a list that isn't empty has a finest region and the others
pub stitches_from_finest : (vertices : List Vertex) (actives : List Region) (d : Region) → 0 < length actives → all_stitch_parts vertices actives ≡ stitch_parts_from vertices 0 (get_or actives 0 d) (drop 1 actives)
stitches_from_finest vertices [] d some = absurd (omega arith)
stitches_from_finest vertices (active ∷ coarser) d some = refl

pub no_stitches : (vertices : List Vertex) (actives : List Region) → length actives ≡ 0 → all_stitch_parts vertices actives ≡ []
no_stitches vertices [] none = refl
no_stitches vertices (active ∷ coarser) none = absurd (omega arith)
