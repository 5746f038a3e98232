-- Levels of a frame that are read one after the other.
use Rattle.std.proofs.Common.{◌≡◌, ◌≢◌, ℕ, ◌+◌, ◌<◌, ◌≤◌, ⊎_elim, Bool, List, ◌++◌, length, refl, sym, ap, ◌∙◌, subst, arith, append_assoc}
use Rattle.std.proofs.lemmas.List.{length-set, get_or-set_same, get_or-set_other}
use Rattle.std.proofs.lemmas.Bool.{cases_eq}
use Rattle.std.specs.Prelude.{Option, Vec, vec_capacity, ℤ}
use Rattle.std.specs.Option.{IsSome}
use Rattle.std.specs.Global.{Global}
use Rattle.clip_regions.specs.declared.region.Region.{Region}
use Rattle.clip_regions.specs.Regions.{area}
use Rattle.terrain_model.specs.Terrain.{Terrain}
use Rattle.plan_laws.specs.Drawn.{ActivesAreAsMany}
use Rattle.plan_holds.specs.Laws.{StepsGoOn}
use Rattle.plan_model.specs.States.{OpenFrame, Pass, frame_of}
use Rattle.plan_model.specs.declared.events.Entry.{Entry}
use Rattle.plan_histories.proofs.PassLaws.{no_entry_in_two}
use Rattle.mesh_model.specs.Height.{active_at}
use Rattle.gate_rule.specs.Rule.{GoesOn, IsLegal}
use Rattle.gate_rule.proofs.Moved.{goes_on_from_itself}
use Rattle.decode_workers.specs.Copies.{CopiesView, LevelCopy, no_copy, copy_in, copy_of, with_copy, heights_in, IsRoom, AreCopies, AreCopiesOf}
use Rattle.clip_gate.specs.Passes.{PassView, ClipView, ground_of_clip, part_of, region_in, shown_by, IsSound}
use Rattle.clip_gate.specs.Calls.{HasWaited}
use Rattle.clip_gate.proofs.Frames.{frames_many}
use Rattle.clip_frames.specs.Reading.{HasOpen, AreRead}

-- ---- turns without an event
pub waited_none : (pass : PassView) → IsSound pass → HasWaited pass pass
waited_none pass sound = record {
  waited = goes_on_from_itself pass.numbers pass.history;
  legal = sound.legal;
  same = record { clip = refl; number = refl; numbers = refl; left = refl };
  part = refl;
  heights = refl;
}

goes_on_then : (flags : List Bool) (a b c : List Entry) → GoesOn flags a b → GoesOn flags b c → GoesOn flags a c
goes_on_then flags a b c first then_ = record {
  between = first.between ++ then_.between;
  is = then_.is ∙ ap (λ (l : List Entry). l ++ then_.between) first.is ∙ append_assoc a first.between then_.between;
  others = λ p is. (no_entry_in_two p first.between then_.between).1 (first.others p is, then_.others p is);
}

pub waited_then : (a b c : PassView) → HasWaited a b → HasWaited b c → HasWaited a c
waited_then a b c v w = record {
  waited = goes_on_then a.numbers a.history b.history c.history v.waited (subst (λ (flags : List Bool). GoesOn flags b.history c.history) v.same.numbers w.waited);
  legal = subst (λ (clip : ClipView). IsLegal (ground_of_clip clip) c.history) v.same.clip w.legal;
  same = record {
    clip = w.same.clip ∙ v.same.clip;
    number = w.same.number ∙ v.same.number;
    numbers = w.same.numbers ∙ v.same.numbers;
    left = w.same.left ∙ v.same.left;
  };
  part = w.part ∙ v.part;
  heights = w.heights ∙ v.heights;
}

pub still_open : (old new : PassView) (frame : OpenFrame) → HasWaited old new → HasOpen old frame → HasOpen new frame
still_open old new frame w has = ap (λ (part : Pass). frame_of part) w.part ∙ has

-- ---- what a frame shows
pub as_many : ActivesAreAsMany → StepsGoOn → (pass : PassView) (frame : OpenFrame) → HasOpen pass frame → length frame.actives ≡ pass.clip.land.levels
as_many law go pass frame has = frames_many law go (ground_of_clip pass.clip) pass.history pass.number frame has

shown_is : (pass : PassView) (frame : OpenFrame) (level : ℕ) → HasOpen pass frame → shown_by pass level ≡ active_at frame.actives level
unfolding active_at
shown_is pass frame level has = ap (λ (o : Option OpenFrame). region_in o level) has

pub is_shown : (pass : PassView) (frame : OpenFrame) (actives : List Region) (level : ℕ) → HasOpen pass frame → actives ≡ frame.actives → shown_by pass level ≡ active_at actives level
is_shown pass frame actives level has same = shown_is pass frame level has ∙ ap (λ (l : List Region). active_at l level) (sym same)

pub some_frame : (pass : PassView) (frame : OpenFrame) → HasOpen pass frame → IsSome (frame_of (part_of pass))
some_frame pass frame has = subst (λ (o : Option OpenFrame). IsSome o) (sym has) refl

-- there is room for a level
pub room_for : (terrain : Terrain) (pass : PassView) (frame : OpenFrame) (copies : CopiesView) (level : ℕ) (v : Vec ℤ Global) → AreRead terrain level copies → level < length copies.actives → HasOpen pass frame → copies.actives ≡ frame.actives → copy_in v ≡ copy_of copies level → area (shown_by pass level) ≤ vec_capacity v
room_for terrain pass frame copies level v read low has same is =
    subst (λ (r : Region). area r ≤ vec_capacity v) (sym (is_shown pass frame copies.actives level has same))
    (subst (λ (room : ℕ). area (active_at copies.actives level) ≤ room) (sym (ap (λ (c : LevelCopy). c.room) is)) (read.room level (omega arith) low))

-- ---- one level more is read
pub read_more : (terrain : Terrain) (copies : CopiesView) (n : ℕ) (v : Vec ℤ Global) → AreRead terrain n copies → n < length copies.actives → v.items ≡ heights_in terrain n (active_at copies.actives n) → AreRead terrain (n + 1) (with_copy copies n v)
read_more terrain copies n v read low right =
    let there : n < length copies.levels = subst (λ (m : ℕ). n < m) (sym read.many) low in
    record {
      many = length-set copies.levels n (copy_in v) ∙ read.many;
      right = λ level below. ⊎_elim
          (λ (same : level ≡ n). subst (λ (l : ℕ). (copy_of (with_copy copies n v) l).heights ≡ heights_in terrain l (active_at copies.actives l)) (sym same) (ap (λ (c : LevelCopy). c.heights) (get_or-set_same copies.levels n (copy_in v) no_copy there) ∙ right))
          (λ (other : level ≢ n). ap (λ (c : LevelCopy). c.heights) (get_or-set_other copies.levels n level (copy_in v) no_copy other) ∙ read.right level (omega arith))
          (cases_eq level n);
      room = λ level from near.
          let other : level ≢ n = (λ (same : level ≡ n). omega arith) in
          subst (λ (c : LevelCopy). area (active_at copies.actives level) ≤ c.room) (sym (get_or-set_other copies.levels n level (copy_in v) no_copy other)) (read.room level (omega arith) near);
    }

-- at first nothing is read, and at last all
pub read_none : (terrain : Terrain) (k : ℕ) (actives : List Region) (copies : CopiesView) → IsRoom k actives copies → AreRead terrain 0 copies
read_none terrain k actives copies room = record {
  many = room.levels.many ∙ ap (λ (l : List Region). length l) (sym room.regions);
  right = λ level below. absurd (omega arith);
  room = λ level from near.
      let low : level < length actives = subst (λ (l : List Region). level < length l) room.regions near in
      subst (λ (l : List Region). area (active_at l level) ≤ (copy_of copies level).room) (sym room.regions) (room.levels.room level low);
}

pub copies_are : (terrain : Terrain) (copies : CopiesView) → AreCopiesOf terrain copies → AreCopies copies
copies_are terrain copies right = record { terrain = terrain; right = right }
