-- Heights that are read row by row, of a frame that a pass has.
use Rattle.std.proofs.Common.{◌≡◌, ◌≢◌, ℕ, ◌+◌, ◌*◌, ◌%◌, ◌/◌, ◌<◌, ◌≤◌, ℤ, pos, ◌+ℤ◌, List, [], ◌∷◌, ◌++◌, length, get_or, sym, refl, ap, ◌∙◌, subst, arith, length-append}
use Rattle.std.specs.Prelude.{Option, Some, None, option_map}
use Rattle.std.specs.Option.{IsSome}
use Rattle.std.proofs.Math.ListN.{get_or-append}
use Rattle.std.proofs.Math.Seq.{get_or-append_seam}
use mathlib.Core.Path.{ap₂}
use mathlib.Core.Logic.{dite}
use native.Mathlib.Decide.{ℕ_discrete}
use Rattle.atomic_table.specs.Seated.{TableId}
use Rattle.clip_regions.specs.declared.region.Region.{Region}
use Rattle.clip_regions.specs.Regions.{empty_region, columns, rows, area}
use Rattle.terrain_model.specs.Terrain.{level_height}
use Rattle.active_region.specs.Active.{AreActive}
use Rattle.plan_laws.specs.Drawn.{ActivesAreAsMany}
use Rattle.plan_holds.specs.Laws.{StepsGoOn}
use Rattle.plan_model.specs.States.{State, Pass, OpenFrame, pass_at, frame_of}
use Rattle.book_plan.specs.Notes.{open_frame}
use Rattle.book_plan.specs.declared.plan.FrameNote.{FrameNote}
use Rattle.clip_book.specs.Books.{BookView}
use Rattle.clip_book.specs.Laws.{StandByPlaces}
use Rattle.gate_rule.specs.Rule.{ground_of, state_in}
use Rattle.gate_rule.specs.Plays.{Sat}
use Rattle.gate_rule.specs.Steps.{Rests, Entered}
use Rattle.gate_rule.specs.declared.journal.Desk.{Desk}
use Rattle.clip_gate.specs.Passes.{PassView, pass_of, part_of, region_in, shown_by}
use Rattle.clip_gate.specs.Reading.{IsShown, AreFirst}
use Rattle.clip_gate.proofs.Promises.{part_now}
use Rattle.clip_gate.proofs.Frames.{frames_many}

-- ---- one height more
stand_more : (height : ℤ → ℤ → ℤ) (r : Region) (out : List ℤ) (n : ℕ) (h : ℤ) → length out ≡ n → StandByPlaces height r out → h ≡ height (r.x0 +ℤ pos (n % columns r)) (r.y0 +ℤ pos (n / columns r)) → StandByPlaces height r (out ++ h ∷ [])
stand_more height r out n h long stand is k near =
    let longer : length (out ++ h ∷ []) ≡ length out + 1 = length-append out (h ∷ []) in
    dite (ℕ_discrete k n)
    (λ (same : k ≡ n).
    ap (λ (i : ℕ). get_or (out ++ h ∷ []) i (pos 0)) (same ∙ sym long) ∙ get_or-append_seam out h [] (pos 0) ∙ is
    ∙ ap (λ (i : ℕ). height (r.x0 +ℤ pos (i % columns r)) (r.y0 +ℤ pos (i / columns r))) (sym same))
    (λ (ne : k ≢ n). get_or-append out (h ∷ []) (pos 0) k (omega arith) ∙ stand k (omega arith))

pub first_more : (book : BookView) (level : ℕ) (r : Region) (n : ℕ) (out : List ℤ) (h : ℤ) → AreFirst book level r n out → h ≡ level_height book.land.terrain level (r.x0 +ℤ pos (n % columns r)) (r.y0 +ℤ pos (n / columns r)) → AreFirst book level r (n + 1) (out ++ h ∷ [])
first_more book level r n out h first is =
    let long = first.many in
    let longer : length (out ++ h ∷ []) ≡ length out + 1 = length-append out (h ∷ []) in
    record { many = omega arith; right = stand_more (level_height book.land.terrain level) r out n h first.many first.right is }

pub none_first : (book : BookView) (level : ℕ) (r : Region) → AreFirst book level r 0 []
none_first book level r = record { many = refl; right = λ k near. absurd (omega arith) }

-- ---- the frame of a pass
pub frame_now : (table : TableId) (m seat : Sat) (desk : Desk) (number : ℕ) (pass : PassView) → Rests m → number ≡ m.0.own → (e : Entered m seat desk) → pass_of table m.0 ≡ pass → frame_of (pass_at desk.book.plan.state number) ≡ frame_of (part_of pass)
frame_now table m seat desk number pass r own e is =
    ap (λ (st : State). frame_of (pass_at st number)) e.stands.state
    ∙ ap (λ (n : ℕ). frame_of (pass_at (state_in (ground_of m.0) e.log) n)) own
    ∙ ap (λ (w : Pass). frame_of w) (part_now m seat desk r e)
    ∙ ap (λ (q : PassView). frame_of (part_of q)) is

pub some_note : (told : Option FrameNote) → IsSome (option_map open_frame told) → IsSome told
some_note None some = some
some_note (Some note) some = refl

pub shown_of : (book : BookView) (p level : ℕ) (note : FrameNote) (r : Region) → frame_of (pass_at book.plan.state p) ≡ Some (open_frame note) → r ≡ get_or note.actives level empty_region → AreActive note.actives → level < length note.actives → IsShown book p level r
shown_of book p level note r has is active near = subst (IsShown book p level) (sym is) (record {
  cells = λ i j cell. record { frame = open_frame note; has = has; cell = cell };
  near = active.drawn.near level empty_region near;
})

pub levels_of : ActivesAreAsMany → StepsGoOn → (m seat : Sat) (desk : Desk) (number : ℕ) (note : FrameNote) → number ≡ m.0.own → (e : Entered m seat desk) → frame_of (pass_at desk.book.plan.state number) ≡ Some (open_frame note) → length note.actives ≡ m.0.about.levels
levels_of law go m seat desk number note own e has =
    frames_many law go (ground_of m.0) e.log number (open_frame note) (ap (λ (st : State). frame_of (pass_at st number)) (sym e.stands.state) ∙ has)

pub region_of : (pass : PassView) (level : ℕ) (note : FrameNote) (r : Region) → frame_of (part_of pass) ≡ Some (open_frame note) → r ≡ get_or note.actives level empty_region → r ≡ shown_by pass level
region_of pass level note r has is = is ∙ ap (λ (o : Option OpenFrame). region_in o level) (sym has)

pub area_is : (r : Region) (across down : ℕ) → across ≡ columns r → down ≡ rows r → across * down ≡ area r
unfolding area
area_is r across down a b = ap₂ (λ (m n : ℕ). m * n) a b

pub count_is : (len place total all : ℕ) → len ≡ place → place ≤ total → total ≤ place → total ≡ all → len ≡ all
count_is len place total all a b c d = omega arith
