-- The rule holds at the start and tells what a clip ends with; passes are split and joined.
use Rattle.std.proofs.Common.{◌≡◌, ◌≢◌, ℕ, zero, suc, ◌+◌, ◌%◌, ◌^◌, ◌<◌, ◌≤◌, ◌⊎◌, Bool, true, false, ◌||◌, List, [], ◌∷◌, ◌++◌, length, set, get_or, replicate, append-nil, sym, refl, ap, ◌∙◌, subst, inl, inr, ⊎_elim, arith, length-set, length-append}
use Rattle.std.proofs.lemmas.Bool.{true≢false, cases_Bool}
use Rattle.std.specs.Prelude.{Option, Some, None}
use mathlib.Core.Logic.{dite}
use mathlib.Core.Option.{some, some-injective, some-ne-none}
use native.Mathlib.Decide.{ℕ_discrete}
use lib.ListN.{get_elem?}
use Rattle.atomic_table.specs.Table.{Splits, Joins, Final, Seen, opening}
use Rattle.atomic_table.proofs.Lists.{at_set, at_snoc, at_longer, set_here, set_else, one_turn}
use Rattle.plan_model.specs.States.{State, start_state, pass_at, job_of}
use Rattle.plan_model.specs.Histories.{HasNoEntryOf, IsLegalFrom}
use Rattle.plan_model.specs.declared.events.Entry.{Entry}
use Rattle.plan_model.specs.declared.events.JobNote.{JobNote}
use Rattle.plan_model.specs.declared.events.Work.TheVariants.{Free}
use Rattle.plan_histories.proofs.LegalLaws.{states_after_two, legal_together}
use Rattle.plan_histories.proofs.PassLaws.{entries_of_others_leave_parts, no_entry_in_two, no_entry_no_part}
use Rattle.plan_histories.proofs.PlaceLaws.{no_entry_no_place}
use Rattle.clip_book.specs.Tiles.{handed_to}
use Rattle.gate_rule.specs.Flags.{flag, no_flags, only, all_but_first, without, either_flags, least, one_if, how_many, HasNoneOf}
use Rattle.gate_rule.specs.Rule.{Ground, state_in, places_in, GoesOn, Stands, Standing, Homes, ground_of, first_view, spent, kept_back, given_away, joined, total, has_number, one_ticket, has_ticket, left_count, HasTurn, Fits, IsHome, IsOut, Kept}
use Rattle.gate_rule.specs.Plays.{IsLive, IsHistory, HasAll, Ends}
use Rattle.gate_rule.specs.declared.view.View.{View}
use Rattle.gate_rule.specs.declared.journal.Desk.{Desk}
use Rattle.gate_rule.proofs.Sums.{elem_low, total-append, total-set, term_le, terms_le, total_none}
use Rattle.gate_rule.proofs.FlagLaws.{flag_low, one_if_true, one_if_false, no_flag, only_same, only_other, without_same, without_other, without_less, how_many_without, either_flag, either_length, how_many_either, one_of_four, or_cases, or_left}
use Rattle.gate_rule.proofs.Moved.{Tab, live_fits, turned_fits, ground_is, few_out, no_entry_of_none, not_first, sixteen_passes}
use Rattle.gate_rule.proofs.TurnSteps.{none_is, history_of}

no_job : (st : State) (p : ℕ) (note : JobNote) → pass_at st p ≡ Free → job_of (pass_at st p) ≡ Some note → ⊥
no_job st p note free has = cc

-- ---- the start
all_flagged : (n p : ℕ) → p < n → get_or (replicate n true) p false ≡ true
all_flagged zero p h = absurd (omega arith)
all_flagged (suc n) zero h = refl
all_flagged (suc n) (suc p) h = all_flagged n p (omega arith)

none_of : (n p : ℕ) → get_or (replicate n false) p false ≡ false
none_of zero p = refl
none_of (suc n) zero = refl
none_of (suc n) (suc p) = none_of n p

first_numbers : (g : Ground) (p : ℕ) → p < 16 → total (has_number p) (first_view g ∷ []) ≡ 1
first_numbers g zero low = refl
first_numbers g (suc p) low =
    let a : one_if (flag (only 0) (suc p)) ≡ 0 = one_if_false (flag (only 0) (suc p)) (none_of 15 p) in
    let b : one_if (flag all_but_first (suc p)) ≡ 1 = one_if_true (flag all_but_first (suc p)) (all_flagged 15 p (omega arith)) in
    omega arith

first_fits : (g : Ground) (st : Standing) (hs : Homes) → st.log ≡ [] → Fits g st hs (first_view g)
first_fits g st hs empty = record {
  about = refl;
  size = refl;
  low = omega arith;
  mine = refl;
  flags = refl;
  flags_left = refl;
  seen = record { between = []; is = empty; others = λ p is. no_entry_of_none p };
  free = λ p is ne. ap (λ (l : List Entry). pass_at (state_in g l) p) empty ∙ no_entry_no_part g.size g.land.levels [] p (no_entry_of_none p);
  unused = λ p is. subst (HasNoEntryOf p) (sym empty) (no_entry_of_none p);
  heights = λ note has. absurd (no_job (state_in g st.log) 0 note (ap (λ (l : List Entry). pass_at (state_in g l) 0) empty ∙ no_entry_no_part g.size g.land.levels [] 0 (no_entry_of_none 0)) has);
  ticket = λ t e. absurd (none_is t e);
  turn = λ turn. absurd (true≢false (sym turn));
}

pub opens : (g : Ground) (desk : Desk) → Stands g [] desk.book.handed desk → Kept g (opening (0 ∷ 0 ∷ 0 ∷ []) (Some desk ∷ []) (first_view g))
opens g desk stands = record {
  st = record { log = []; out = desk.book.handed; serving = 0; next = 0 };
  words = refl;
  short = (let none : places_in g [] ≡ 0 = no_entry_no_place g.size g.land.levels in omega arith);
  legal = tt;
  each = first;
  apart = λ i j v w t at_i at_j of_v of_w. absurd (idle i v t at_i of_v);
  numbers = first_numbers g;
  seats = omega arith;
  tickets = refl;
  place = inl (record { desk = desk; stands = stands; slot = refl });
}
  where
    first : (i : ℕ) (v : View) → get_elem? (first_view g ∷ []) i ≡ some v → (v ≡ spent) ⊎ Fits g (record { log = []; out = desk.book.handed; serving = 0; next = 0 }) (some (Some desk) ∷ []) v
    first zero v e = inr (subst (Fits g (record { log = []; out = desk.book.handed; serving = 0; next = 0 }) (some (Some desk) ∷ [])) (some-injective (first_view g) v e) (first_fits g (record { log = []; out = desk.book.handed; serving = 0; next = 0 }) (some (Some desk) ∷ []) refl))
    first (suc i) v e = absurd (some-ne-none v (sym e))

    idle : (i : ℕ) (v : View) (t : ℕ) → get_elem? (first_view g ∷ []) i ≡ some v → v.ticket ≡ Some t → ⊥
    idle zero v t e is = none_is t (ap (λ (x : View). x.ticket) (some-injective (first_view g) v e) ∙ is)
    idle (suc i) v t e is = absurd (some-ne-none v (sym e))

-- ---- a pass is split
split_numbers : (v : View) (q p : ℕ) → q < 16 → flag v.left q ≡ true
    → (one_if (flag v.numbers p) + one_if (flag (without v.left q) p)) + (one_if (flag (only q) p) + one_if (flag no_flags p)) ≡ one_if (flag v.numbers p) + one_if (flag v.left p)
split_numbers v q p low is =
    let z : one_if (flag no_flags p) ≡ 0 = one_if_false (flag no_flags p) (no_flag p) in
    dite (ℕ_discrete p q)
    (λ (same : p ≡ q).
    let a : one_if (flag (without v.left q) p) ≡ 0 = one_if_false (flag (without v.left q) p) (ap (flag (without v.left q)) same ∙ without_same v.left q) in
    let b : one_if (flag (only q) p) ≡ 1 = one_if_true (flag (only q) p) (ap (flag (only q)) same ∙ only_same q low) in
    let c : one_if (flag v.left p) ≡ 1 = one_if_true (flag v.left p) (ap (flag v.left) same ∙ is) in
    omega arith)
    (λ (ne : p ≢ q).
    let a : one_if (flag (without v.left q) p) ≡ one_if (flag v.left p) = ap one_if (without_other v.left q p ne) in
    let b : one_if (flag (only q) p) ≡ 0 = one_if_false (flag (only q) p) (only_other q p ne) in
    omega arith)

kept_fits : (g : Ground) (st : Standing) (hs : Homes) (v : View) → Fits g st hs v → v.turn ≡ false → Fits g st hs (kept_back v)
kept_fits g st hs v f idle = record {
  about = f.about;
  size = f.size;
  low = f.low;
  mine = f.mine;
  flags = f.flags;
  flags_left = length-set v.left (least v.left) false ∙ f.flags_left;
  seen = f.seen;
  free = f.free;
  unused = λ p is. f.unused p (without_less v.left (least v.left) p is);
  heights = f.heights;
  ticket = f.ticket;
  turn = λ turn. absurd (true≢false (sym turn ∙ idle));
}

given_fits : (g : Ground) (st : Standing) (hs : Homes) (v : View) → Fits g st hs v → flag v.left (least v.left) ≡ true → Fits g st hs (given_away v)
given_fits g st hs v f some-left =
    let q : ℕ = least v.left in
    let near : q < length v.left = flag_low v.left q some-left in
    let long = f.flags_left in
    let low : q < 16 = omega arith in
    let none : HasNoEntryOf q st.log = f.unused q some-left in
    let is_q : (p : ℕ) → flag (only q) p ≡ true → p ≡ q = λ p is. dite (ℕ_discrete p q) (λ same. same) (λ ne. absurd (true≢false (sym is ∙ only_other q p ne))) in
    record {
      about = f.about;
      size = f.size;
      low = low;
      mine = only_same q low;
      flags = length-set no_flags q true;
      flags_left = refl;
      seen = record {
        between = f.seen.between;
        is = f.seen.is;
        others = λ p is. subst (λ (x : ℕ). HasNoEntryOf x f.seen.between) (sym (is_q p is)) ((no_entry_in_two q v.seen f.seen.between).0 (subst (HasNoEntryOf q) f.seen.is none)).1;
      };
      free = λ p is ne. absurd (ne (is_q p is));
      unused = λ p is. absurd (true≢false (sym is ∙ no_flag p));
      heights = λ note has. absurd (no_job (state_in g st.log) q note (no_entry_no_part g.size g.land.levels st.log q none) has);
      ticket = λ t e. absurd (none_is t e);
      turn = λ turn. absurd (true≢false (sym turn));
    }

pub splits : (g : Ground) (id : ℕ) (v : View) → IsLive v → v.ticket ≡ None → flag v.left (least v.left) ≡ true → Splits (Kept g) id v (kept_back v) (given_away v)
splits g id v live none-yet some-left s o me =
    let f : Fits g o.st s.homes v = live_fits g o.st s.homes v (o.each id v me) live.mine in
    let a : View = kept_back v in
    let b : View = given_away v in
    let q : ℕ = least v.left in
    let near : q < length v.left = flag_low v.left q some-left in
    let long = f.flags_left in
    let low : q < 16 = omega arith in
    let vs : List View = set s.views id a in
    record {
      st = o.st;
      words = o.words;
      short = o.short;
      legal = o.legal;
      each = λ i u e. ⊎_elim
          (λ (old : get_elem? vs i ≡ some u). ⊎_elim (λ t. inr (subst (Fits g o.st s.homes) t.1 (kept_fits g o.st s.homes v f live.turn))) (λ t. o.each i u t.1) (at_set s.views id i a u old))
          (λ (new : b ≡ u). inr (subst (Fits g o.st s.homes) new (given_fits g o.st s.homes v f some-left)))
          (at_snoc vs b u i e);
      apart = λ i j x y t at_i at_j of_x of_y.
          let there : (k : ℕ) (z : View) → get_elem? (vs ++ b ∷ []) k ≡ some z → z.ticket ≡ Some t → get_elem? s.views k ≡ some z = λ k z e of_z. ⊎_elim
          (λ (old : get_elem? vs k ≡ some z). ⊎_elim (λ c. absurd (none_is t (sym none-yet ∙ ap (λ (w : View). w.ticket) c.1 ∙ of_z))) (λ c. c.1) (at_set s.views id k a z old))
          (λ (new : b ≡ z). absurd (none_is t (ap (λ (w : View). w.ticket) new ∙ of_z)))
          (at_snoc vs b z k e) in
          o.apart i j x y t (there i x at_i of_x) (there j y at_j of_y) of_x of_y;
      numbers = λ p near.
          let m = total-append (has_number p) vs (b ∷ []) in
          let n = total-set (has_number p) s.views id v a me in
          let c = split_numbers v q p low some-left in
          let one = o.numbers p near in
          omega arith;
      seats =
          let m = total-append left_count vs (b ∷ []) in
          let n = total-set left_count s.views id v a me in
          let c = how_many_without v.left q some-left in
          let d : length (vs ++ b ∷ []) ≡ length vs + 1 = length-append vs (b ∷ []) in
          let e : length vs ≡ length s.views = length-set s.views id a in
          let z : how_many no_flags ≡ 0 = refl in
          let h = o.seats in
          omega arith;
      tickets =
          let m = total-append has_ticket vs (b ∷ []) in
          let n = total-set has_ticket s.views id v a me in
          let h = o.tickets in
          omega arith;
      place = ⊎_elim (λ (h : IsHome g o.st s.homes). inl h)
          (λ (out : IsOut s.views). inr (dite (ℕ_discrete out.seat id)
          (λ (same : out.seat ≡ id). absurd (true≢false (sym out.turn ∙ ap (λ (x : View). x.turn) (some-injective _ _ (sym out.there ∙ ap (get_elem? s.views) same ∙ me)) ∙ live.turn)))
          (λ (ne : out.seat ≢ id). record { seat = out.seat; view = out.view; there = at_longer vs (b ∷ []) out.seat out.view (set_else s.views id out.seat a ne ∙ out.there); turn = out.turn })))
          o.place;
    }

-- ---- a pass is joined
pub part_since : (g : Ground) (flags : List Bool) (seen log : List Entry) (p : ℕ) → GoesOn flags seen log → flag flags p ≡ true → pass_at (state_in g log) p ≡ pass_at (state_in g seen) p
part_since g flags seen log p on is =
    ap (λ (l : List Entry). pass_at (state_in g l) p) on.is
    ∙ ap (λ (st : State). pass_at st p) (states_after_two (start_state g.size g.land.levels) seen on.between)
    ∙ entries_of_others_leave_parts (state_in g seen) on.between p (on.others p is)

joined_fits : (g : Ground) (st : Standing) (hs : Homes) (v u : View) → Fits g st hs v → HasTurn st hs v → Fits g st hs u → pass_at (state_in g u.seen) u.own ≡ Free → Fits g st hs (joined v u)
joined_fits g st hs v u f h fu idle =
    let numbers = either_flag v.numbers u.numbers in
    let left = either_flag v.left u.left in
    record {
      about = f.about;
      size = f.size;
      low = f.low;
      mine = numbers v.own ∙ or_left (flag v.numbers v.own) (flag u.numbers v.own) f.mine;
      flags = either_length v.numbers u.numbers (f.flags ∙ sym fu.flags) ∙ f.flags;
      flags_left = either_length v.left u.left (f.flags_left ∙ sym fu.flags_left) ∙ f.flags_left;
      seen = record { between = []; is = sym h.seen ∙ sym (append-nil v.seen); others = λ p is. no_entry_of_none p };
      free = λ p is ne. ⊎_elim
          (λ (yes : flag v.numbers p ≡ true). f.free p yes ne)
          (λ (no : flag v.numbers p ≡ false).
          let theirs : flag u.numbers p ≡ true = or_cases (flag v.numbers p) (flag u.numbers p) (sym (numbers p) ∙ is) (λ yes. true≢false (sym yes ∙ no)) in
          dite (ℕ_discrete p u.own)
          (λ (same : p ≡ u.own). ap (pass_at (state_in g st.log)) same ∙ part_since g u.numbers u.seen st.log u.own fu.seen fu.mine ∙ idle)
          (λ (other : p ≢ u.own). fu.free p theirs other))
          (cases_Bool (flag v.numbers p));
      unused = λ p is. ⊎_elim
          (λ (yes : flag v.left p ≡ true). f.unused p yes)
          (λ (no : flag v.left p ≡ false). fu.unused p (or_cases (flag v.left p) (flag u.left p) (sym (left p) ∙ is) (λ yes. true≢false (sym yes ∙ no))))
          (cases_Bool (flag v.left p));
      heights = f.heights;
      ticket = f.ticket;
      turn = λ _. record { ticket = h.ticket; seen = h.seen; handed = h.handed; slot = h.slot; told = fu.seen };
    }

joined_numbers : (v u : View) (p : ℕ) → has_number p v + has_number p u ≤ 1 → has_number p (joined v u) ≡ has_number p v + has_number p u
joined_numbers v u p few =
    let a : one_if (flag (either_flags v.numbers u.numbers) p) ≡ one_if (flag v.numbers p || flag u.numbers p) = ap one_if (either_flag v.numbers u.numbers p) in
    let b : one_if (flag (either_flags v.left u.left) p) ≡ one_if (flag v.left p || flag u.left p) = ap one_if (either_flag v.left u.left p) in
    let c = one_of_four (flag v.numbers p) (flag v.left p) (flag u.numbers p) (flag u.left p) few in
    omega arith

pub joins : (g : Ground) (id other : ℕ) (v u : View) → v.turn ≡ true → IsLive u → u.ticket ≡ None → pass_at (state_in (ground_of u) u.seen) u.own ≡ Free → Joins (Kept g) id v other u (joined v u) spent
joins g id other v u turn live none-yet idle s o me ne at_set_other =
    let w : View = joined v u in
    let at : get_elem? s.views other ≡ some u = sym (set_else s.views id other w ne) ∙ at_set_other in
    let f : Fits g o.st s.homes v = turned_fits g o.st s.homes v (o.each id v me) turn in
    let h : HasTurn o.st s.homes v = f.turn turn in
    let fu : Fits g o.st s.homes u = live_fits g o.st s.homes u (o.each other u at) live.mine in
    let idle_here : pass_at (state_in g u.seen) u.own ≡ Free = subst (λ (x : Ground). pass_at (state_in x u.seen) u.own ≡ Free) (ground_is g o.st s.homes u fu) idle in
    let vs : List View = set s.views id w in
    record {
      st = o.st;
      words = o.words;
      short = o.short;
      legal = o.legal;
      each = λ i x e. ⊎_elim (λ t. inl (sym t.1))
          (λ t. ⊎_elim (λ r. inr (subst (Fits g o.st s.homes) r.1 (joined_fits g o.st s.homes v u f h fu idle_here))) (λ r. o.each i x r.1) (at_set s.views id i w x t.1))
          (at_set vs other i spent x e);
      apart = λ i j x y t at_i at_j of_x of_y.
          let there : (k : ℕ) (z : View) → get_elem? (set vs other spent) k ≡ some z → z.ticket ≡ Some t → (z₀ : View) × (get_elem? s.views k ≡ some z₀) × (z₀.ticket ≡ Some t) = λ k z e of_z. ⊎_elim
          (λ c. absurd (none_is t (ap (λ (n : View). n.ticket) c.1 ∙ of_z)))
          (λ c. ⊎_elim (λ r. (v, ap (get_elem? s.views) r.0 ∙ me, ap (λ (n : View). n.ticket) r.1 ∙ of_z)) (λ r. (z, r.1, of_z)) (at_set s.views id k w z c.1))
          (at_set vs other k spent z e) in
          let a = there i x at_i of_x in
          let b = there j y at_j of_y in
          o.apart i j a.0 b.0 t a.1 b.1 a.2 b.2;
      numbers = λ p near.
          let both = terms_le (has_number p) s.views id other v u ne me at in
          let one = o.numbers p near in
          let few : has_number p v + has_number p u ≤ 1 = omega arith in
          let c = joined_numbers v u p few in
          let m = total-set (has_number p) vs other u spent at_set_other in
          let n = total-set (has_number p) s.views id v w me in
          omega arith;
      seats =
          let m = total-set left_count vs other u spent at_set_other in
          let n = total-set left_count s.views id v w me in
          let c = how_many_either v.left u.left in
          let d : length (set vs other spent) ≡ length vs = length-set vs other spent in
          let e : length vs ≡ length s.views = length-set s.views id w in
          let b = o.seats in
          omega arith;
      tickets =
          let m = total-set has_ticket vs other u spent at_set_other in
          let n = total-set has_ticket s.views id v w me in
          let z : has_ticket u ≡ 0 = ap one_ticket none-yet in
          let b = o.tickets in
          omega arith;
      place = inr (record { seat = id; view = w; there = set_else vs other id spent (λ same. ne (sym same)) ∙ set_here s.views id w (elem_low s.views id v me); turn = turn });
    }

-- ---- the end
-- no ticket is out where the two words are equal
pub all_served : (g : Ground) (s : Tab) (o : Kept g s) → get_or s.words 0 0 ≡ get_or s.words 1 0 → o.st.serving ≡ o.st.next
all_served g s o e =
    let first : get_or s.words 0 0 ≡ o.st.next % 2 ^ 64 = ap (λ (ws : List ℕ). get_or ws 0 0) o.words in
    let second : get_or s.words 1 0 ≡ o.st.serving % 2 ^ 64 = ap (λ (ws : List ℕ). get_or ws 1 0) o.words in
    let few = few_out g s o in
    let low : o.st.serving ≤ o.st.next = few.0 in
    let high = few.1 in
    let near : o.st.next < o.st.serving + 2 ^ 64 = omega arith in
    one_turn o.st.serving o.st.next (2 ^ 64) low near (sym second ∙ sym e ∙ first)

home_when_served : (g : Ground) (s : Tab) (o : Kept g s) → o.st.serving ≡ o.st.next → IsHome g o.st s.homes
home_when_served g s o served =
    ⊎_elim (λ (h : IsHome g o.st s.homes). h)
    (λ (out : IsOut s.views).
    let f = turned_fits g o.st s.homes out.view (o.each out.seat out.view out.there) out.turn in
    let one : has_ticket out.view ≡ 1 = ap one_ticket (f.turn out.turn).ticket in
    let part = term_le has_ticket s.views out.seat out.view out.there in
    let sum = o.tickets in
    absurd (omega arith))
    o.place

pub ends : (g : Ground) (id : ℕ) (v : View) (ws : List ℕ) (xs : List (Option Desk)) → IsLive v → get_or ws 0 0 ≡ get_or ws 1 0 → Final (Seen (Kept g) id v) ws xs → Ends v xs
ends g id v ws xs live e final =
    let s : Tab = final.0 in
    let o : Kept g s = final.1.0 in
    let me = final.1.1 in
    let f : Fits g o.st s.homes v = live_fits g o.st s.homes v (o.each id v me) live.mine in
    let here : ground_of v ≡ g = ground_is g o.st s.homes v f in
    let h = home_when_served g s o (all_served g s o (ap (λ (l : List ℕ). get_or l 0 0) final.2 ∙ e ∙ ap (λ (l : List ℕ). get_or l 1 0) (sym final.2))) in
    let desk : Desk = h.desk in
    let stands : Stands g o.st.log desk.book.handed desk = record { state = h.stands.state; moves = h.stands.moves; land = h.stands.land; handed = refl; journal = h.stands.journal; taken = h.stands.taken } in
    record {
      desk = desk;
      log = o.st.log;
      slot = final.4 0 (Some desk) (ap (λ (hs : Homes). get_elem? hs 0) h.slot);
      goes_on = f.seen;
      history = history_of g s o id v me f;
      stands = subst (λ (x : Ground). Stands x o.st.log desk.book.handed desk) (sym here) stands;
      heights = λ note has. ap (λ out. handed_to out v.own) h.stands.handed ∙ f.heights note (subst (λ (x : Ground). job_of (pass_at (state_in x o.st.log) v.own) ≡ Some note) here has);
    }

-- a pass that has all numbers is the only one
spent_beside : (g : Ground) (s : Tab) (o : Kept g s) (id i : ℕ) (v u : View) → get_elem? s.views id ≡ some v → get_elem? s.views i ≡ some u → i ≢ id → HasAll v → u ≡ spent
spent_beside g s o id i v u me at ne all =
    ⊎_elim (λ (gone : u ≡ spent). gone)
    (λ (f : Fits g o.st s.homes u).
    let both = terms_le (has_number u.own) s.views id i v u ne me at in
    let one = o.numbers u.own f.low in
    let theirs : one_if (flag u.numbers u.own) ≡ 1 = one_if_true (flag u.numbers u.own) f.mine in
    ⊎_elim
    (λ (is : flag v.numbers u.own ≡ true). let mine : one_if (flag v.numbers u.own) ≡ 1 = one_if_true (flag v.numbers u.own) is in absurd (omega arith))
    (λ (is : flag v.left u.own ≡ true). let mine : one_if (flag v.left u.own) ≡ 1 = one_if_true (flag v.left u.own) is in absurd (omega arith))
    (all u.own f.low))
    (o.each i u at)

pub never_out : (g : Ground) (id : ℕ) (v : View) (ws : List ℕ) (xs : List (Option Desk)) → v.ticket ≡ None → HasAll v → Final (Seen (Kept g) id v) ws xs → get_or ws 0 0 ≡ get_or ws 1 0
never_out g id v ws xs none-yet all final =
    let s : Tab = final.0 in
    let o : Kept g s = final.1.0 in
    let me = final.1.1 in
    let idle : (i : ℕ) (u : View) → get_elem? s.views i ≡ some u → has_ticket u ≡ 0 = λ i u at. dite (ℕ_discrete i id)
    (λ (same : i ≡ id). ap has_ticket (some-injective _ _ (sym at ∙ ap (get_elem? s.views) same ∙ me)) ∙ ap one_ticket none-yet)
    (λ (ne : i ≢ id). ap has_ticket (spent_beside g s o id i v u me at ne all)) in
    let zero_out = total_none has_ticket s.views idle in
    let sum = o.tickets in
    let same : o.st.next ≡ o.st.serving = omega arith in
    ap (λ (l : List ℕ). get_or l 0 0) (sym final.2) ∙ ap (λ (l : List ℕ). get_or l 0 0) o.words ∙ ap (λ (n : ℕ). n % 2 ^ 64) same ∙ ap (λ (l : List ℕ). get_or l 1 0) (sym o.words) ∙ ap (λ (l : List ℕ). get_or l 1 0) final.2

-- its history is the whole one
nothing_more : (v : View) (log between : List Entry) → HasAll v → IsHistory v log → log ≡ v.seen ++ between → HasNoneOf v.numbers between → between ≡ []
nothing_more v log [] all is e clear = refl
nothing_more v log (x ∷ rest) all is e clear =
    let start : State = start_state v.size v.about.levels in
    let legal = (legal_together start v.seen (x ∷ rest)).0 (subst (λ (l : List Entry). IsLegalFrom start l) e is.legal) in
    let many = sixteen_passes (ground_of v) v.seen in
    let near = legal.1.0 in
    let low : x.pass < 16 = omega arith in
    ⊎_elim (λ (mine : flag v.numbers x.pass ≡ true). absurd (not_first x.pass x rest (clear x.pass mine) refl))
    (λ (left : flag v.left x.pass ≡ true). absurd (not_first x.pass x rest ((no_entry_in_two x.pass v.seen (x ∷ rest)).0 (subst (HasNoEntryOf x.pass) e (is.unused x.pass left))).1 refl))
    (all x.pass low)

pub whole_history : (v : View) (log : List Entry) → HasAll v → IsHistory v log → GoesOn v.numbers v.seen log → log ≡ v.seen
whole_history v log all is on =
    on.is ∙ ap (λ (l : List Entry). v.seen ++ l) (nothing_more v log on.between all is on.is on.others) ∙ append-nil v.seen
