-- A pass's frame shows the cells of its active regions.
use Rattle.std.proofs.Common.{◌≡◌, ℕ, true, ℤ, List, Option, Some, None, refl, ap, ◌∙◌}
use Rattle.std.specs.Option.{option_map}
use Rattle.clip_regions.specs.declared.region.Region.{Region}
use Rattle.clip_regions.specs.Regions.{contains}
use Rattle.plan_model.specs.States.{State, OpenFrame, pass_at, frame_of}
use Rattle.plan_holds.proofs.Passes.{none_some, some_same}
use Rattle.mesh_model.specs.Height.{active_at}
use Rattle.clip_book.specs.Books.{Shows}

frame_from : (found : Option OpenFrame) (actives : List Region) → option_map (λ frame. frame.actives) found ≡ Some actives → (frame : OpenFrame) × (found ≡ Some frame) × (frame.actives ≡ actives)
frame_from None actives e = none_some _ actives e
frame_from (Some frame) actives e = (frame, refl, some_same e)

pub shows : (state : State) (p level : ℕ) (i j : ℤ) (actives : List Region) → option_map (λ frame. frame.actives) (frame_of (pass_at state p)) ≡ Some actives → contains (active_at actives level) i j ≡ true → Shows state p level i j
unfolding active_at
shows state p level i j actives e there =
    let found = frame_from (frame_of (pass_at state p)) actives e in
    record { frame = found.0; has = found.1; cell = ap (λ (rs : List Region). contains (active_at rs level) i j) found.2 ∙ there }
