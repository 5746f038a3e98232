-- Lists whose edges are all closed and of which no face is tilted are watertight.
use Rattle.std.proofs.Common.{◌≡◌, ℕ, ◌+◌, Bool, true, false, not, List, [], ◌∷◌, cond, nat_lt, length, None, refl, ap, ◌∙◌, arith, All, IsTrue}
use Rattle.std.specs.List.{filter, position_or_len}
use Rattle.std.proofs.lemmas.Bool.{false_from_ne_true}
use Rattle.std.proofs.lemmas.Bool.Decides.{nat_tests}
use Rattle.std.proofs.lemmas.List.Sums.{position_or_len_is}
use Rattle.clip_regions.specs.declared.region.Region.{Region}
use Rattle.terrain_model.specs.Terrain.{Terrain}
use Rattle.mesh_model.specs.Mesh.{mesh}
use Rattle.mesh_model.specs.Conditions.{NameVertices}
use Rattle.mesh_model.specs.Watertight.{is_closed, IsWatertight}
use Rattle.mesh_laws.specs.Laws.{PartSquares}
use Rattle.mesh_lists.specs.Lists.{Lists}
use Rattle.mesh_check.specs.Verdict.{pairs, first_of, is_open, first_open, is_tilted_face, closed_verdict, open_verdict, verdict_of_lists}
use Rattle.mesh_check.specs.declared.verdict.Verdict.TheVariants.{Watertight, Tilted}
use Rattle.frame_verdicts.specs.Laws.{lists_of_mesh, IsJudgedWatertight}
use Rattle.frame_verdicts.proofs.Faces.{none_tilted}

not_open : (b : Bool) → IsTrue b → not b ≡ false
not_open true is = refl
not_open false is = cc

not_above : (n : ℕ) → nat_lt n n ≡ false
not_above n = false_from_ne_true (nat_lt n n) (λ t. grind (arith, nat_tests))

none_kept : {A : Type 0} (test : A → Bool) (xs : List A) → ((x : A) → test x ≡ false) → filter test xs ≡ []
none_kept test [] fails = refl
none_kept test (x ∷ xs) fails = ap (λ b. cond b (x ∷ filter test xs) (filter test xs)) (fails x) ∙ none_kept test xs fails

none_open : (lists : Lists) → ((a b : ℕ) → IsTrue (is_closed lists.border lists.vertices lists.triangles a b)) → first_open lists ≡ None
unfolding first_open
none_open lists closed =
    ap first_of (none_kept (is_open lists) (pairs (length lists.vertices)) (λ pair.
    not_open (is_closed lists.border lists.vertices lists.triangles pair.0 pair.1) (closed pair.0 pair.1)))

closed_watertight : (lists : Lists) → All (λ triangle. is_tilted_face lists.vertices triangle ≡ false) lists.triangles → closed_verdict lists ≡ Watertight (length lists.triangles)
unfolding closed_verdict
closed_watertight lists flat =
    let count = length lists.triangles in
    let face : position_or_len (is_tilted_face lists.vertices) lists.triangles ≡ count =
    position_or_len_is (is_tilted_face lists.vertices) lists.triangles count [] (omega arith) (λ k low. flat k [] low) (λ low. absurd (omega (arith, low))) in
    ap (λ n. cond (nat_lt n count) (Tilted (n + 1)) (Watertight count)) face ∙ ap (λ b. cond b (Tilted (count + 1)) (Watertight count)) (not_above count)

lists_judged : (lists : Lists) → ((a b : ℕ) → IsTrue (is_closed lists.border lists.vertices lists.triangles a b)) →
    All (λ triangle. is_tilted_face lists.vertices triangle ≡ false) lists.triangles → verdict_of_lists lists ≡ Watertight (length lists.triangles)
unfolding verdict_of_lists open_verdict
lists_judged lists closed flat = ap (open_verdict lists) (none_open lists closed) ∙ closed_watertight lists flat

-- the lists of a watertight mesh whose triangles name its vertices
pub mesh_judged : PartSquares → (terrain : Terrain) (k : ℕ) (actives : List Region) → NameVertices (length (mesh terrain k actives).vertices) (mesh terrain k actives).triangles →
    IsWatertight terrain k actives → IsJudgedWatertight terrain k actives
mesh_judged parts terrain k actives named tight =
    lists_judged (lists_of_mesh terrain k actives) tight.edges (none_tilted parts terrain k actives tight.stitches named)
