-- What the start, the end, a split and a join of passes promise, of plain seats.
use Rattle.std.proofs.Common.{◌≡◌, ℕ, suc, ◌+◌, Bool, true, false, not, List, [], ◌∷◌, length, sym, refl, ap, ◌∙◌, subst, arith}
use Rattle.std.proofs.lemmas.Bool.{true≢false}
use mathlib.Core.Path.{ap₂}
use Rattle.atomic_table.specs.Seated.{TableId}
use Rattle.plan_model.specs.States.{Pass, start_state, pass_at, job_of, has_work}
use Rattle.plan_model.specs.Histories.{moves}
use Rattle.plan_model.specs.declared.events.Entry.{Entry}
use Rattle.plan_model.specs.declared.events.Work.TheVariants.{Free, Fills, Draws}
use Rattle.plan_histories.proofs.LegalLaws.{after_none}
use Rattle.plan_histories.proofs.PassLaws.{no_entry_no_part}
use Rattle.plan_histories.proofs.PlaceLaws.{no_entry_no_place}
use Rattle.terrain_store.specs.Shapes.{Land}
use Rattle.clip_book.specs.Books.{started}
use Rattle.gate_rule.specs.Flags.{flag, no_flags, all_but_first, either_flags, least, how_many}
use Rattle.gate_rule.specs.Rule.{Ground, ground_of, IsLegal, state_in, GoesOn, Stands, first_view, kept_back, given_away, joined}
use Rattle.gate_rule.specs.Plays.{Sat, HasAll}
use Rattle.gate_rule.specs.Steps.{Rests, TakesOver, EndsWith, rested}
use Rattle.gate_rule.specs.declared.view.View.{View}
use Rattle.gate_rule.specs.declared.journal.Desk.{Desk}
use Rattle.gate_rule.proofs.Moved.{no_entry_of_none}
use Rattle.gate_rule.proofs.Seats.{part_since}
use Rattle.clip_gate.specs.declared.part.Part.{Part}
use Rattle.clip_gate.specs.Parts.{IsPart, no_part}
use Rattle.clip_gate.specs.Passes.{PassView, pass_of, part_of, HasAllNumbers, IsPass, IsSound}
use Rattle.clip_gate.specs.Calls.{IsSplit, IsJoined}
use Rattle.clip_gate.specs.Closing.{Closes}

-- ---- flags
pub none_flagged : (flags : List Bool) → least flags ≡ length flags → how_many flags ≡ 0
none_flagged [] e = refl
none_flagged (true ∷ rest) e = absurd (omega arith)
none_flagged (false ∷ rest) e = let none : how_many rest ≡ 0 = none_flagged rest (omega arith) in omega arith

pub least_there : (flags : List Bool) → (least flags ≡ length flags → ⊥) → flag flags (least flags) ≡ true
least_there [] ne = absurd (ne refl)
least_there (true ∷ rest) ne = refl
least_there (false ∷ rest) ne = ap (λ (n : ℕ). flag (false ∷ rest) n) (one_more (least rest)) ∙ least_there rest (λ e. ne (omega arith))
  where
    one_more : (n : ℕ) → 1 + n ≡ suc n
    one_more n = omega arith

-- ---- parts
pub free_part : (w : Pass) → not (has_work w) ≡ true → w ≡ Free
free_part Free e = refl
free_part (Fills note) e = absurd (true≢false (sym e))
free_part (Draws frame) e = absurd (true≢false (sym e))

none_held : IsPart no_part Free
none_held = record { idle = refl; frame = refl }

-- ---- the start
pub first_stands : (land shape : Land) (k : ℕ) (desk : Desk) → land ≡ shape → desk.book.plan ≡ started k shape → desk.book.land ≡ shape → desk.journal ≡ [] → desk.taken ≡ 0 → Stands (record { land = land; size = k }) [] desk.book.handed desk
unfolding moves
first_stands land shape k desk same plan book journal taken =
    let g : Ground = record { land = shape; size = k } in
    subst (λ (l : Land). Stands (record { land = l; size = k }) [] desk.book.handed desk) (sym same) (record {
      state = ap (λ p. p.state) plan ∙ sym (after_none (start_state k shape.levels));
      moves = ap (λ p. p.moves) plan;
      land = book;
      handed = refl;
      journal = journal;
      taken = taken ∙ sym (no_entry_no_place k shape.levels);
    })

pub first_whole : (table : TableId) (g : Ground) (m : Sat) (left : List Bool) → Rests m → m ≡ (first_view g, []) → left ≡ all_but_first → IsPass table m 0 left no_part
first_whole table g m left rests is flags = record {
  rests = rests;
  own = sym (ap (λ (u : Sat). u.0.own) is);
  giving = flags ∙ sym (ap (λ (u : Sat). u.0.left) is);
  holds = subst (IsPart no_part) (sym (no_entry_no_part g.size g.land.levels [] 0 (no_entry_of_none 0)) ∙ sym (ap (λ (u : Sat). part_of (pass_of table u.0)) is)) none_held;
}

-- ---- a pass is split
given_idle : (m : Sat) → Rests m → flag m.0.left (least m.0.left) ≡ true → pass_at (state_in (ground_of m.0) m.0.seen) (least m.0.left) ≡ Free
given_idle m rests some = no_entry_no_part m.0.size m.0.about.levels m.0.seen (least m.0.left) (rests.history.unused (least m.0.left) some)

pub given_whole : (table : TableId) (m seat : Sat) (number : ℕ) (left : List Bool) → Rests m → Rests seat → flag m.0.left (least m.0.left) ≡ true → seat ≡ (given_away m.0, []) → number ≡ least m.0.left → left ≡ no_flags → IsPass table seat number left no_part
given_whole table m seat number left rests given some is own flags = record {
  rests = given;
  own = own ∙ sym (ap (λ (u : Sat). u.0.own) is);
  giving = flags ∙ sym (ap (λ (u : Sat). u.0.left) is);
  holds = subst (IsPart no_part) (sym (given_idle m rests some) ∙ sym (ap (λ (u : Sat). part_of (pass_of table u.0)) is)) none_held;
}

pub split_is : (table kept given : TableId) (m seat new : Sat) → kept ≡ table → given ≡ table → Rests m → flag m.0.left (least m.0.left) ≡ true → seat ≡ (kept_back m.0, []) → new ≡ (given_away m.0, []) → IsSplit (pass_of table m.0) (pass_of kept seat.0) (pass_of given new.0)
split_is table kept given m seat new k g rests some one two =
    subst (λ (t : TableId). IsSplit (pass_of table m.0) (pass_of t seat.0) (pass_of given new.0)) (sym k)
    (subst (λ (t : TableId). IsSplit (pass_of table m.0) (pass_of table seat.0) (pass_of t new.0)) (sym g)
    (subst (λ (u : Sat). IsSplit (pass_of table m.0) (pass_of table u.0) (pass_of table new.0)) (sym one)
    (subst (λ (u : Sat). IsSplit (pass_of table m.0) (pass_of table (kept_back m.0)) (pass_of table u.0)) (sym two) (record {
      had = some;
      number = refl;
      numbers = refl;
      left = refl;
      history = refl;
      clip = refl;
      unused = rests.history.unused (least m.0.left) some;
      idle = given_idle m rests some;
      loses = refl;
    }))))

-- ---- a pass is joined
pub joined_whole : (table table' : TableId) (m other after : Sat) (number : ℕ) (left more flags : List Bool) (part : Part) → IsPass table m number left part → more ≡ other.0.left → TakesOver m other after → flags ≡ either_flags left more → IsPass table' after number flags part
joined_whole table table' m other after number left more flags part p theirs t is = record {
  rests = t.rests;
  own = p.own ∙ sym (ap (λ (u : Sat). u.0.own) t.seat);
  giving = is ∙ ap₂ either_flags p.giving theirs ∙ sym (ap (λ (u : Sat). u.0.left) t.seat);
  holds = subst (IsPart part) (sym (part_since (ground_of m.0) m.0.numbers m.0.seen t.log m.0.own t.own p.rests.history.mine) ∙ sym (ap (λ (u : Sat). part_of (pass_of table' u.0)) t.seat)) p.holds;
}

pub joined_is : (table table' theirs : TableId) (m other after : Sat) → table' ≡ table → Rests m → TakesOver m other after → IsJoined (pass_of table m.0) (pass_of theirs other.0) (pass_of table' after.0)
joined_is table table' theirs m other after same r t =
    let w : View = rested (joined m.0 other.0) t.log m.0.heights in
    let legal : IsLegal (ground_of w) w.seen = subst (λ (u : Sat). IsLegal (ground_of u.0) u.0.seen) t.seat t.rests.history.legal in
    subst (λ (i : TableId). IsJoined (pass_of table m.0) (pass_of theirs other.0) (pass_of i after.0)) (sym same)
    (subst (λ (u : Sat). IsJoined (pass_of table m.0) (pass_of theirs other.0) (pass_of table u.0)) (sym t.seat) (record {
      own = t.own;
      theirs = t.theirs;
      numbers = refl;
      left = refl;
      legal = legal;
      clip = refl;
      number = refl;
      part = part_since (ground_of m.0) m.0.numbers m.0.seen t.log m.0.own t.own r.history.mine;
      heights = refl;
    }))

-- ---- what is true of every pass
pub sound_of : (table : TableId) (m : Sat) (pass : PassView) → Rests m → pass_of table m.0 ≡ pass → IsSound pass
sound_of table m pass r is = subst IsSound is (record {
  low = r.history.low;
  own = r.history.mine;
  legal = r.history.legal;
  short = r.history.short;
  idle = r.history.free;
  flags = r.history.flags_left;
  unused = λ p left. record {
    entries = r.history.unused p left;
    idle = no_entry_no_part m.0.size m.0.about.levels m.0.seen p (r.history.unused p left);
  };
})

-- ---- the end
pub closes_of : (table : TableId) (v : View) (pass : PassView) (desk : Desk) → pass_of table v ≡ pass → EndsWith v desk → Closes pass desk.book desk.journal
closes_of table v pass desk is e =
    let back : e.log ≡ desk.journal = sym e.stands.journal in
    subst (λ (q : PassView). Closes q desk.book desk.journal) is (record {
      goes_on = subst (GoesOn v.numbers v.seen) back e.goes_on;
      legal = subst (λ (l : List Entry). IsLegal (ground_of v) l) back e.history.legal;
      land = e.stands.land;
      state = e.stands.state ∙ ap (λ (l : List Entry). state_in (ground_of v) l) back;
      moves = e.stands.moves ∙ ap (λ (l : List Entry). moves l) back;
      heights = λ note has. e.heights note (ap job_of (part_since (ground_of v) v.numbers v.seen e.log v.own e.goes_on e.history.mine) ∙ has);
    })

pub all_of : (table : TableId) (v : View) (pass : PassView) → pass_of table v ≡ pass → HasAllNumbers pass → HasAll v
all_of table v pass is all = subst (λ (q : PassView). HasAllNumbers q) (sym is) all
