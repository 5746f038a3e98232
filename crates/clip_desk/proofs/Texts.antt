-- Texts of frames and lines, of equal numbers and equal meshes.
use Rattle.std.proofs.Common.{◌≡◌, ℕ, ℤ, Bool, cond, List, [], ◌∷◌, map, length, Result, refl, ap, ◌∙◌, subst}
use Rattle.std.specs.Prelude.{IfOk, string_bytes}
use Rattle.plan_model.specs.States.{OpenFrame}
use Rattle.clip_regions.specs.declared.region.Region.{Region}
use Rattle.mesh_model.specs.Mesh.{MeshLists}
use Rattle.mesh_model.specs.declared.shapes.Part.{Part}
use Rattle.mesh_model.specs.declared.shapes.HalfSpace.{HalfSpace}
use Rattle.mesh_model.specs.Text.{frame_text}
use Rattle.mesh_model.specs.Seen.{flagged_parts, is_kept, kept_parts, named_places, parts_text, seen_text, triangles_of_parts}
use Rattle.clip_desk.specs.Frames.{whole_text_of}
use Rattle.clip_desk.specs.Lines.{closed_seen_line, mesh_line, seen_line}
use Rattle.clip_desk.specs.declared.drawn.Drawn.{Drawn}

-- the text of a frame
pub text_is : (text : List ℕ) (n n' : ℕ) (x x' y y' : ℤ) (a a' : List Region) (m m' : MeshLists) → text ≡ frame_text n x y a m → n ≡ n' → x ≡ x' → y ≡ y' → a ≡ a' → m ≡ m' →
    text ≡ frame_text n' x' y' a' m'
text_is text n n' x x' y y' a a' m m' t en ex ey ea em =
    t ∙ ap (λ it. frame_text it x y a m) en ∙ ap (λ it. frame_text n' it y a m) ex ∙ ap (λ it. frame_text n' x' it a m) ey ∙ ap (λ it. frame_text n' x' y' it m) ea ∙ ap (frame_text n' x' y' a') em

-- a line that tells two lengths
pub counts_are : {A B : Type 0} (line : List ℕ) (told : ℕ → ℕ → List ℕ) (vs vs' : List A) (ts ts' : List B) → line ≡ told (length vs) (length ts) → vs ≡ vs' → ts ≡ ts' →
    line ≡ told (length vs') (length ts')
counts_are line told vs vs' ts ts' l ev et = l ∙ ap (λ it. told (length it) (length ts)) ev ∙ ap (λ it. told (length vs') (length it)) et

-- the parts whose flags a view sets are those that it keeps
kept_flagged : (view : List HalfSpace) (parts : List Part) → flagged_parts (map (is_kept view) parts) parts ≡ kept_parts view parts
kept_flagged view [] = refl
kept_flagged view (part ∷ parts) = ap (λ (rest : List Part). cond (is_kept view part) (part ∷ rest) rest) (kept_flagged view parts)

pub flags_keep : (view : List HalfSpace) (keep : List Bool) (parts : List Part) (m : MeshLists) → keep ≡ map (is_kept view) parts → parts ≡ m.parts → flagged_parts keep m.parts ≡ kept_parts view m.parts
flags_keep view keep parts m flags are =
    ap (λ it. flagged_parts it m.parts) (flags ∙ ap (map (is_kept view)) are) ∙ kept_flagged view m.parts

-- the text of the parts that a view keeps
pub seen_is : (text : List ℕ) (n n' : ℕ) (x x' y y' : ℤ) (a a' : List Region) (m m' : MeshLists) (flagged : List Part) (view : List HalfSpace) → text ≡ parts_text n x y a m flagged →
    flagged ≡ kept_parts view m.parts → n ≡ n' → x ≡ x' → y ≡ y' → a ≡ a' → m ≡ m' → text ≡ seen_text n' x' y' a' m' view
seen_is text n n' x x' y y' a a' m m' flagged view t kept en ex ey ea em =
    t ∙ ap (parts_text n x y a m) kept ∙ ap (λ it. seen_text it x y a m view) en ∙ ap (λ it. seen_text n' it y a m view) ex ∙ ap (λ it. seen_text n' x' it a m view) ey
    ∙ ap (λ it. seen_text n' x' y' it m view) ea ∙ ap (λ it. seen_text n' x' y' a' it view) em

-- the line of such a frame
pub seen_line_is : (line : List ℕ) (p n kept parts vertices triangles : ℕ) (m m' : MeshLists) (flagged : List Part) (view : List HalfSpace) → line ≡ closed_seen_line p n kept parts vertices triangles →
    kept ≡ length flagged → parts ≡ length m.parts → vertices ≡ length (named_places (triangles_of_parts m.triangles flagged) (length m.vertices)) →
    triangles ≡ length (triangles_of_parts m.triangles flagged) → flagged ≡ kept_parts view m.parts → m ≡ m' → line ≡ seen_line p n view m'
seen_line_is line p n kept parts vertices triangles m m' flagged view l ek ep ev et are em =
    l ∙ ap (λ it. closed_seen_line p n it parts vertices triangles) ek ∙ ap (λ it. closed_seen_line p n (length flagged) it vertices triangles) ep
    ∙ ap (λ it. closed_seen_line p n (length flagged) (length m.parts) it triangles) ev
    ∙ ap (closed_seen_line p n (length flagged) (length m.parts) (length (named_places (triangles_of_parts m.triangles flagged) (length m.vertices)))) et
    ∙ ap (λ (it : List Part). closed_seen_line p n (length it) (length m.parts) (length (named_places (triangles_of_parts m.triangles it) (length m.vertices))) (length (triangles_of_parts m.triangles it))) are
    ∙ ap (seen_line p n view) em

-- a frame that was printed from a mesh, where the mesh is another one too
pub text_of : {E : Type 0} (r : Result Drawn E) (frame : OpenFrame) (m m' : MeshLists) → IfOk r (λ (drawn : Drawn). drawn.text.items ≡ whole_text_of frame m) → m ≡ m' →
    IfOk r (λ (drawn : Drawn). drawn.text.items ≡ whole_text_of frame m')
text_of r frame m m' h e = subst (λ (it : MeshLists). IfOk r (λ (drawn : Drawn). drawn.text.items ≡ whole_text_of frame it)) e h

pub line_of : {E : Type 0} (r : Result Drawn E) (p n : ℕ) (m m' : MeshLists) → IfOk r (λ (drawn : Drawn). string_bytes drawn.line ≡ mesh_line p n m) → m ≡ m' →
    IfOk r (λ (drawn : Drawn). string_bytes drawn.line ≡ mesh_line p n m')
line_of r p n m m' h e = subst (λ (it : MeshLists). IfOk r (λ (drawn : Drawn). string_bytes drawn.line ≡ mesh_line p n it)) e h
