-- One view changes, and the rule is kept.
use Rattle.std.proofs.Common.{◌≡◌, ◌≢◌, ℕ, zero, suc, ◌+◌, ◌/◌, ◌*◌, ◌%◌, ◌^◌, ◌<◌, ◌≤◌, ◌⊎◌, Bool, true, false, List, [], ◌∷◌, length, set, append-nil, sym, ap, ◌∙◌, subst, inl, inr, ⊎_elim, arith, length-set}
use Rattle.std.proofs.lemmas.Bool.{true≢false}
use Rattle.std.proofs.Math.Nat.{add-mul-mod_self_right, mod-add-div'}
use Rattle.std.specs.Prelude.{Option, Some, None}
use mathlib.Core.Path.{ap₂}
use mathlib.Core.Option.{some, none, some-injective, some-ne-none}
use lib.ListN.{get_elem?}
use Rattle.atomic_table.specs.Table.{State as Table}
use Rattle.atomic_table.proofs.Lists.{at_set}
use Rattle.plan_model.specs.States.{State, start_state}
use Rattle.plan_model.specs.Steps.{step}
use Rattle.plan_model.specs.Histories.{HasNoEntryOf, state_after}
use Rattle.plan_model.specs.declared.events.Entry.{Entry}
use Rattle.plan_histories.proofs.LegalLaws.{after_none, after_first}
use Rattle.plan_histories.proofs.PassLaws.{passes_are_kept}
use Rattle.gate_rule.specs.Flags.{flag, one_if}
use Rattle.gate_rule.specs.Rule.{Ground, IsLegal, state_in, places_in, GoesOn, Standing, Homes, ground_of, spent, has_number, one_ticket, has_ticket, left_count, HasTurn, Fits, IsHome, IsOut, Kept}
use Rattle.gate_rule.specs.declared.view.View.{View}
use Rattle.gate_rule.specs.declared.journal.Desk.{Desk}
use Rattle.gate_rule.proofs.Sums.{total-set, terms_le, total_few}
use Rattle.gate_rule.proofs.FlagLaws.{one_if_true, zero_if}

abbrev pub Tab : Type 0
Tab = Table (Option Desk) View

abbrev pub table : List ℕ → Homes → List View → Tab
table ws hs vs = record { words = ws; homes = hs; views = vs }

abbrev pub words_of : Standing → List ℕ
words_of st = st.next % 2 ^ 64 ∷ st.serving % 2 ^ 64 ∷ length st.log ∷ []

pub next_mod : (n : ℕ) → (n % 2 ^ 64 + 1) % 2 ^ 64 ≡ (n + 1) % 2 ^ 64
next_mod n =
    let a : ℕ = n % 2 ^ 64 in
    let b : ℕ = n / 2 ^ 64 in
    let whole : a + b * 2 ^ 64 ≡ n = mod-add-div' n (2 ^ 64) in
    let more : (a + 1) + b * 2 ^ 64 ≡ n + 1 = omega arith in
    sym (add-mul-mod_self_right (a + 1) b (2 ^ 64)) ∙ ap (λ (x : ℕ). x % 2 ^ 64) more

-- ---- views that fit
pub live_fits : (g : Ground) (st : Standing) (hs : Homes) (v : View) → (v ≡ spent) ⊎ Fits g st hs v → flag v.numbers v.own ≡ true → Fits g st hs v
live_fits g st hs v (inl e) mine = absurd (true≢false (sym mine ∙ ap (λ (u : View). flag u.numbers u.own) e))
live_fits g st hs v (inr f) mine = f

pub turned_fits : (g : Ground) (st : Standing) (hs : Homes) (v : View) → (v ≡ spent) ⊎ Fits g st hs v → v.turn ≡ true → Fits g st hs v
turned_fits g st hs v (inl e) turn = absurd (true≢false (sym turn ∙ ap (λ (u : View). u.turn) e))
turned_fits g st hs v (inr f) turn = f

pub ground_is : (g : Ground) (st : Standing) (hs : Homes) (v : View) → Fits g st hs v → ground_of v ≡ g
ground_is g st hs v f = ap₂ (λ land size. record { land = land; size = size }) f.about f.size

-- a view that fits, where only the tickets and the slot are others
pub refit : (g : Ground) (st : Standing) (serving next : ℕ) (hs new : Homes) (v : View) → Fits g st hs v
    → ((t : ℕ) → v.ticket ≡ Some t → (serving ≤ t) × (t < next))
    → (v.turn ≡ true → HasTurn (record st { serving = serving; next = next }) new v)
    → Fits g (record st { serving = serving; next = next }) new v
refit g st serving next hs new v f ticket turn = record {
  about = f.about;
  size = f.size;
  low = f.low;
  mine = f.mine;
  flags = f.flags;
  flags_left = f.flags_left;
  seen = f.seen;
  free = f.free;
  unused = f.unused;
  heights = f.heights;
  ticket = ticket;
  turn = turn;
}

pub no_entry_of_none : (p : ℕ) → HasNoEntryOf p []
no_entry_of_none p k d h = absurd (omega arith)

pub no_entry_of_one : (p : ℕ) (e : Entry) → (e.pass ≡ p → ⊥) → HasNoEntryOf p (e ∷ [])
no_entry_of_one p e ne zero d h = ne
no_entry_of_one p e ne (suc k) d h = absurd (omega arith)

pub not_first : (p : ℕ) (e : Entry) (rest : List Entry) → HasNoEntryOf p (e ∷ rest) → e.pass ≡ p → ⊥
not_first p e rest h = h 0 e (omega arith)

-- there are 16 passes after any history
passes_after : (st : State) (log : List Entry) → length (state_after st log).passes ≡ length st.passes
passes_after st [] = ap (λ (s : State). length s.passes) (after_none st)
passes_after st (e ∷ rest) = ap (λ (s : State). length s.passes) (after_first st e rest) ∙ passes_after (step st e.pass e.event).state rest ∙ passes_are_kept st e.pass e.event

pub sixteen_passes : (g : Ground) (log : List Entry) → length (state_in g log).passes ≡ 16
unfolding start_state
sixteen_passes g log = passes_after (start_state g.size g.land.levels) log

pub goes_on_from_itself : (flags : List Bool) (log : List Entry) → GoesOn flags log log
goes_on_from_itself flags log = record { between = []; is = sym (append-nil log); others = λ p e. no_entry_of_none p }

-- ---- one view changes
pub record Change (g : Ground) (s : Tab) (o : Kept g s) (id : ℕ) (v w : View) (hs : Homes) (st : Standing) : Type 0 where
  pub me : get_elem? s.views id ≡ some v
  pub short : places_in g st.log ≤ 1048576
  pub legal : IsLegal g st.log
  pub fits : Fits g st hs w
  pub others : (i : ℕ) (u : View) → i ≢ id → get_elem? s.views i ≡ some u → Fits g o.st s.homes u → Fits g st hs u
  pub alone : (i : ℕ) (u : View) (t : ℕ) → i ≢ id → get_elem? s.views i ≡ some u → u.ticket ≡ Some t → w.ticket ≡ Some t → ⊥
  pub numbers : (p : ℕ) → has_number p w ≡ has_number p v
  pub left : left_count w ≡ left_count v
  pub tickets : st.serving + o.st.next + has_ticket w ≡ st.next + o.st.serving + has_ticket v
  pub place : IsHome g st hs ⊎ IsOut (set s.views id w)

pub moved : (g : Ground) (s : Tab) (o : Kept g s) (id : ℕ) (v w : View) (ws : List ℕ) (hs : Homes) (st : Standing)
    → ws ≡ words_of st → Change g s o id v w hs st → Kept g (table ws hs (set s.views id w))
moved g s o id v w ws hs st words c = record {
  st = st;
  words = words;
  short = c.short;
  legal = c.legal;
  each = λ i u e. ⊎_elim
      (λ t. inr (subst (Fits g st hs) t.1 c.fits))
      (λ t. ⊎_elim (λ (gone : u ≡ spent). inl gone) (λ (f : Fits g o.st s.homes u). inr (c.others i u t.0 t.1 f)) (o.each i u t.1))
      (at_set s.views id i w u e);
  apart = λ i j a b t at_i at_j of_a of_b. ⊎_elim
      (λ x. ⊎_elim (λ y. x.0 ∙ sym y.0) (λ y. absurd (c.alone j b t y.0 y.1 of_b (ap (λ (u : View). u.ticket) x.1 ∙ of_a))) (at_set s.views id j w b at_j))
      (λ x. ⊎_elim (λ y. absurd (c.alone i a t x.0 x.1 of_a (ap (λ (u : View). u.ticket) y.1 ∙ of_b))) (λ y. o.apart i j a b t x.1 y.1 of_a of_b) (at_set s.views id j w b at_j))
      (at_set s.views id i w a at_i);
  numbers = λ p low.
      let a = total-set (has_number p) s.views id v w c.me in
      let b = o.numbers p low in
      let n = c.numbers p in
      omega arith;
  seats =
      let a = total-set left_count s.views id v w c.me in
      let b = o.seats in
      let n = c.left in
      let long : length (set s.views id w) ≡ length s.views = length-set s.views id w in
      omega arith;
  tickets =
      let a = total-set has_ticket s.views id v w c.me in
      let b = o.tickets in
      let n = c.tickets in
      omega arith;
  place = c.place;
}

-- ---- what follows of the rule
one_ticket_few : (o : Option ℕ) → one_ticket o ≤ 1
one_ticket_few None = omega arith
one_ticket_few (Some t) = omega arith

pub few_out : (g : Ground) (s : Tab) (o : Kept g s) → (o.st.serving ≤ o.st.next) × (o.st.next ≤ o.st.serving + 16)
few_out g s o =
    let a = total_few has_ticket s.views (λ v. one_ticket_few v.ticket) in
    let b = o.tickets in
    let c = o.seats in
    (omega arith, omega arith)

-- the one view with the ticket that is served
pub only_one : (g : Ground) (s : Tab) (o : Kept g s) (id i : ℕ) (v u : View) → get_elem? s.views id ≡ some v → get_elem? s.views i ≡ some u → v.ticket ≡ Some o.st.serving → u.turn ≡ true → i ≡ id
only_one g s o id i v u me at mine turn =
    let f = turned_fits g o.st s.homes u (o.each i u at) turn in
    o.apart i id u v o.st.serving at me (f.turn turn).ticket mine

-- no other view has a number of this one
pub not_theirs : (g : Ground) (s : Tab) (o : Kept g s) (id i : ℕ) (v u : View) (p : ℕ) → p < 16 → i ≢ id → get_elem? s.views id ≡ some v → get_elem? s.views i ≡ some u → flag v.numbers p ≡ true → (flag u.numbers p ≡ false) × (flag u.left p ≡ false)
not_theirs g s o id i v u p low ne me at mine =
    let both = terms_le (has_number p) s.views id i v u ne me at in
    let one = o.numbers p low in
    let has : one_if (flag v.numbers p) ≡ 1 = one_if_true (flag v.numbers p) mine in
    let none_own : one_if (flag u.numbers p) ≡ 0 = omega arith in
    let none_left : one_if (flag u.left p) ≡ 0 = omega arith in
    (zero_if (flag u.numbers p) none_own, zero_if (flag u.left p) none_left)

some_same : (a b : Desk) → some (Some a) ≡ some (Some b) → a ≡ b
some_same a b e = cc

-- the slot isn't at home while a pass has the turn
pub never_home : (g : Ground) (st : Standing) (hs : Homes) → hs ≡ none ∷ [] → IsHome g st hs → ⊥
never_home g st hs out home = some-ne-none (Some home.desk) (some-injective _ _ (ap (λ (xs : Homes). get_elem? xs 0) (sym home.slot ∙ out)))
