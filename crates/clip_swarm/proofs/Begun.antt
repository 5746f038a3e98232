-- Frames of a renderer: begun, printed and ended.
use Rattle.std.proofs.Common.{◌≡◌, ℕ, Option, Some, None, List, [], ◌∷◌, ◌++◌, sym, ap, ◌∙◌, arith}
use Rattle.std.specs.Prelude.{option_map}
use Rattle.plan_model.specs.States.{OpenFrame, frame_of}
use Rattle.mesh_model.specs.Mesh.{mesh}
use Rattle.book_plan.specs.declared.plan.FrameNote.{FrameNote}
use Rattle.book_plan.specs.Notes.{open_frame}
use Rattle.gate_rule.specs.Rule.{places_in}
use Rattle.clip_gate.specs.Passes.{PassView, ClipView, ground_of_clip, part_of, IsSound}
use Rattle.clip_gate.specs.Calls.{IsFull, places_of_pass, places_to_end}
use Rattle.swarm_passes.specs.Frames.{FrameView, printed}
use Rattle.swarm_passes.specs.Drawing.{HasOpen}

-- the frame that a pass tells is the one that it has, and it tells one where it has one
pub has_told : (pass : PassView) (told : Option FrameNote) (note : FrameNote) → option_map open_frame told ≡ frame_of (part_of pass) → told ≡ Some note → HasOpen pass (open_frame note)
has_told pass told note value is = sym value ∙ ap (option_map open_frame) is

pub none_told : (pass : PassView) (told : Option FrameNote) (frame : OpenFrame) → option_map open_frame told ≡ frame_of (part_of pass) → told ≡ None → HasOpen pass frame → ⊥
none_told pass told frame value is has =
    let e : None ≡ Some frame = sym (ap (option_map open_frame) is) ∙ value ∙ has in
    absurd (cc)

-- there is always room for the end of a frame
pub end_fits : (frame : OpenFrame) (old new : PassView) → HasOpen old frame → IsSound new → IsFull (places_to_end (frame_of (part_of old))) old new → ⊥
end_fits frame old new has sound f =
    let none : places_to_end (frame_of (part_of old)) ≡ 0 = ap places_to_end has in
    let e : places_of_pass new new.history ≡ places_of_pass old new.history = ap (λ (c : ClipView). places_in (ground_of_clip c) new.history) f.waits.same.clip in
    let over = f.full in
    let short = sound.short in
    omega arith

-- what is printed of a frame of the clip
pub prints_one : (frame : OpenFrame) (view : FrameView) (clip : ClipView) (k : ℕ) (old : PassView) (frames frames' : List FrameView) → old.clip ≡ clip → k ≡ clip.size → view ≡ printed frame (mesh clip.land.terrain k frame.actives)
    → frames' ≡ frames ++ view ∷ [] → frames' ≡ frames ++ printed frame (mesh old.clip.land.terrain old.clip.size frame.actives) ∷ []
prints_one frame view clip k old frames frames' on same is last =
    last ∙ ap (λ (v : FrameView). frames ++ v ∷ [])
    (is ∙ ap (λ (n : ℕ). printed frame (mesh clip.land.terrain n frame.actives)) same ∙ sym (ap (λ (c : ClipView). printed frame (mesh c.land.terrain c.size frame.actives)) on))
