-- Where the windows of the levels lie, and what lies in them.
use Rattle.std.proofs.Common.{ℕ, ◌^◌, ◌≤◌, ℤ, subst, sym, inl, inr, arith}
use Rattle.std.specs.List.{All}
use Rattle.std.specs.Option.{IfSome}
use Rattle.std.proofs.lemmas.Int.{ints}
use Rattle.clip_regions.specs.declared.region.Region.{Region}
use Rattle.clip_regions.specs.Regions.{IsWithin}
use Rattle.plan_model.specs.Window.{window, half_width}
use Rattle.plan_model.specs.States.{OpenFrame, Pass, frame_of}
use Rattle.plan_model.specs.Sound.{IsPartOf, IsSoundFrame, IsSoundPass}
use Rattle.plan_model.specs.declared.events.Work.TheVariants.{Free, Fills, Draws}
use Rattle.plan_plain_pieces.specs.Placed.{IsShort}
use Rattle.plan_sound.proofs.Placed.{half_small, inside_near, empty_near}

-- a window isn't long
pub window_short : (k level : ℕ) (x y : ℤ) → k ≤ 8 → IsShort (window k level x y)
unfolding window
window_short k level x y h =
    let half : half_width k ≤ 127 = half_small k h in
    record { columns = omega (arith, ints); rows = omega (arith, ints) }

-- so does an even part of it
pub part_near : (n : ℕ) (window r : Region) → 1 ≤ n → IsWithin n window → IsPartOf window r → IsWithin n r
part_near n window r h w (inl e) = subst (IsWithin n) (sym e) (empty_near n h)
part_near n window r h w (inr i) = inside_near n window r w i.inside

-- where each pass of a sound state has its frame, the active regions are near the mosaic's corner
pub frame_near : (k count : ℕ) (pass : Pass) → ((frame : OpenFrame) → IsSoundFrame k count frame → All (IsWithin (2 ^ 24)) frame.actives) → IsSoundPass k count pass → IfSome (frame_of pass) (λ (frame : OpenFrame). All (IsWithin (2 ^ 24)) frame.actives)
frame_near k count Free near h = tt
frame_near k count (Fills job) near h = tt
frame_near k count (Draws frame) near h = near frame h
