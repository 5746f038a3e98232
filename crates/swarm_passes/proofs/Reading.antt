-- Levels of a frame that are read one after the other.
use Rattle.std.proofs.Common.{◌≡◌, ◌≢◌, ℕ, ◌+◌, ◌<◌, ◌≤◌, inl, inr, true, List, length, refl, sym, ap, ◌∙◌, subst, arith}
use Rattle.std.proofs.lemmas.List.{length-set, get_or-set_same, get_or-set_other}
use Rattle.std.proofs.lemmas.Bool.{cases_eq}
use Rattle.std.specs.Prelude.{Option, Vec, vec_capacity, ℤ}
use Rattle.std.specs.Global.{Global}
use Rattle.clip_regions.specs.declared.region.Region.{Region}
use Rattle.clip_regions.specs.Regions.{area}
use Rattle.terrain_model.specs.Terrain.{Terrain}
use Rattle.plan_model.specs.States.{OpenFrame, frame_of}
use Rattle.mesh_model.specs.Height.{active_at}
use Rattle.gate_rule.specs.Flags.{flag}
use Rattle.decode_workers.specs.Copies.{CopiesView, LevelCopy, no_copy, copy_in, copy_of, with_copy, heights_in, IsRoom, AreCopies, AreCopiesOf}
use Rattle.clip_gate.specs.Passes.{PassView, region_in, shown_by}
use Rattle.clip_gate.specs.Calls.{HasWaited}
use Rattle.swarm_passes.specs.Drawing.{HasOpen, Waits, AreRead}
use Rattle.swarm_passes.proofs.Since.{waited_stays}
use Rattle.swarm_passes.proofs.Events.{same_then, same_itself}

-- ---- waits
pub waits_by : (old new : PassView) → flag old.numbers old.number ≡ true → HasWaited old new → Waits old new
waits_by old new mine w = let s = waited_stays old new mine w in record { same = w.same; part = w.part; own = s.own; closes = s.closes }

pub waits_none : (a : PassView) → Waits a a
waits_none a = record { same = same_itself a; part = refl; own = refl; closes = refl }

pub waits_then : (a b c : PassView) → Waits a b → Waits b c → Waits a c
waits_then a b c v w = record { same = same_then a b c v.same w.same; part = w.part ∙ v.part; own = w.own ∙ v.own; closes = w.closes ∙ v.closes }

pub still_open : (old new : PassView) (frame : OpenFrame) → Waits old new → HasOpen old frame → HasOpen new frame
still_open old new frame w open_ = ap frame_of w.part ∙ open_

-- ---- regions
pub shown_is : (pass : PassView) (frame : OpenFrame) (level : ℕ) → HasOpen pass frame → shown_by pass level ≡ active_at frame.actives level
unfolding active_at
shown_is pass frame level is = ap (λ (o : Option OpenFrame). region_in o level) is

-- there is room for a level
pub room_for : (terrain : Terrain) (pass : PassView) (frame : OpenFrame) (copies : CopiesView) (level : ℕ) (v : Vec ℤ Global) → AreRead terrain level copies → level < length copies.actives → HasOpen pass frame → copies.actives ≡ frame.actives → copy_in v ≡ copy_of copies level → area (shown_by pass level) ≤ vec_capacity v
room_for terrain pass frame copies level v read low has same is =
    subst (λ (r : Region). area r ≤ vec_capacity v) (sym (shown_is pass frame level has ∙ ap (λ (l : List Region). active_at l level) (sym same)))
    (subst (λ (room : ℕ). area (active_at copies.actives level) ≤ room) (sym (ap (λ (c : LevelCopy). c.room) is)) (read.room level (omega arith) low))

-- one level more is read
pub read_more : (terrain : Terrain) (copies : CopiesView) (n : ℕ) (v : Vec ℤ Global) → AreRead terrain n copies → n < length copies.actives → v.items ≡ heights_in terrain n (active_at copies.actives n) → AreRead terrain (n + 1) (with_copy copies n v)
read_more terrain copies n v read low right =
    let there : n < length copies.levels = subst (λ (m : ℕ). n < m) (sym read.many) low in
    record {
      many = length-set copies.levels n (copy_in v) ∙ read.many;
      right = λ level below. elim (cases_eq level n) as (λ _. (copy_of (with_copy copies n v) level).heights ≡ heights_in terrain level (active_at copies.actives level)) [
        | inl same ↦ subst (λ (l : ℕ). (copy_of (with_copy copies n v) l).heights ≡ heights_in terrain l (active_at copies.actives l)) (sym same) (ap (λ (c : LevelCopy). c.heights) (get_or-set_same copies.levels n (copy_in v) no_copy there) ∙ right)
        | inr other ↦ ap (λ (c : LevelCopy). c.heights) (get_or-set_other copies.levels n level (copy_in v) no_copy other) ∙ read.right level (omega arith)
      ];
      room = λ level from near.
          let other : level ≢ n = (λ (same : level ≡ n). omega arith) in
          subst (λ (c : LevelCopy). area (active_at copies.actives level) ≤ c.room) (sym (get_or-set_other copies.levels n level (copy_in v) no_copy other)) (read.room level (omega arith) near);
    }

-- at first nothing is read
pub read_none : (terrain : Terrain) (k : ℕ) (actives : List Region) (copies : CopiesView) → IsRoom k actives copies → AreRead terrain 0 copies
read_none terrain k actives copies room = record {
  many = room.levels.many ∙ ap (λ (l : List Region). length l) (sym room.regions);
  right = λ level below. absurd (omega arith);
  room = λ level from near.
      let low : level < length actives = subst (λ (l : List Region). level < length l) room.regions near in
      subst (λ (l : List Region). area (active_at l level) ≤ (copy_of copies level).room) (sym room.regions) (room.levels.room level low);
}

pub copies_are : (terrain : Terrain) (copies : CopiesView) → AreCopiesOf terrain copies → AreCopies copies
copies_are terrain copies right = record { terrain = terrain; right = right }
