-- Each step of a turn keeps the rule.
use Rattle.std.proofs.Common.{◌≡◌, ◌≢◌, ℕ, ◌+◌, ◌%◌, ◌^◌, ◌<◌, ◌≤◌, Bool, true, false, List, [], ◌∷◌, ◌++◌, length, set, get_or, append_assoc, length-append, mod-eq_of_lt, sym, refl, ap, ◌∙◌, subst, inl, inr, ⊎_elim, arith}
use Rattle.std.proofs.lemmas.Bool.{true≢false}
use Rattle.std.specs.Prelude.{Option, Some, None}
use mathlib.Core.Path.{ap₂}
use mathlib.Core.Logic.{dite}
use mathlib.Core.Option.{some, none, some-injective}
use native.Mathlib.Decide.{ℕ_discrete}
use lib.ListN.{get_elem?}
use lib.Seq.{set-get_or}
use Rattle.atomic_table.specs.Table.{Act, keeps, takes, gives, Valid, Allows, carried_after, put_back, stepped}
use Rattle.atomic_table.proofs.Lists.{set_here, set_else, set_again, one_turn}
use Rattle.plan_model.specs.States.{State, start_state, pass_at, job_of}
use Rattle.plan_model.specs.Histories.{places}
use Rattle.plan_model.specs.declared.events.Entry.{Entry}
use Rattle.plan_model.specs.declared.events.Work.TheVariants.{Free}
use Rattle.plan_holds.specs.Kept.{HasJob}
use Rattle.plan_histories.proofs.LegalLaws.{states_after_one_more}
use Rattle.plan_histories.proofs.PassLaws.{others_keep_parts, no_entry_in_two}
use Rattle.clip_book.specs.Tiles.{handed_to}
use Rattle.gate_rule.specs.Flags.{flag, HasNoneOf, one_if}
use Rattle.gate_rule.specs.Rule.{Ground, IsLegal, state_in, places_in, GoesOn, Stands, Standing, Homes, ground_of, with_ticket, spent, has_number, one_ticket, has_ticket, HasTurn, Fits, IsHome, IsOut, Kept}
use Rattle.gate_rule.specs.Plays.{Sat, in_turn, out_of_turn, with_entry, IsLive, Drawn, IsHistory, Taken, Looked, Adds, Counted, MayPass, PassedOn}
use Rattle.gate_rule.specs.declared.view.View.{View}
use Rattle.gate_rule.specs.declared.journal.Desk.{Desk}
use Rattle.gate_rule.proofs.Sums.{elem_low, term_le}
use Rattle.gate_rule.proofs.Moved.{Tab, table, next_mod, live_fits, turned_fits, ground_is, refit, goes_on_from_itself, moved, few_out, only_one, not_theirs, no_entry_of_one}
use Rattle.gate_rule.proofs.FlagLaws.{one_if_true}

pub none_is : (t : ℕ) → None ≡ Some t → ⊥
none_is t e = cc

some_is : (a b : ℕ) → Some a ≡ Some b → a ≡ b
some_is a b e = cc

-- ---- a ticket is drawn
pub draws : (g : Ground) (slots id : ℕ) (m : Sat) → IsLive m.0 → m.0.ticket ≡ None → Allows (Kept g) slots id m 0 (λ n. (n + 1) % 2 ^ 64) (Drawn m)
draws g slots id m live none-yet s o wide me _ =
    let v : View = m.0 in
    let t : ℕ = o.st.next in
    let w : View = with_ticket v t in
    let f : Fits g o.st s.homes v = live_fits g o.st s.homes v (o.each id v me) live.mine in
    let few = few_out g s o in
    let le : o.st.serving ≤ t = few.0 in
    let had : has_ticket v ≡ 0 = ap one_ticket none-yet in
    let st : Standing = record o.st { serving = o.st.serving; next = t + 1 } in (
      w,
      keeps,
      tt,
      moved g s o id v w (set s.words 0 ((get_or s.words 0 0 + 1) % 2 ^ 64)) s.homes st
          (ap (λ (ws : List ℕ). set ws 0 ((get_or ws 0 0 + 1) % 2 ^ 64)) o.words ∙ ap (λ (n : ℕ). n ∷ o.st.serving % 2 ^ 64 ∷ length o.st.log ∷ []) (next_mod t))
          (record {
            me = me;
            short = o.short;
            legal = o.legal;
            fits = record {
              about = f.about;
              size = f.size;
              low = f.low;
              mine = f.mine;
              flags = f.flags;
              flags_left = f.flags_left;
              seen = f.seen;
              free = f.free;
              unused = f.unused;
              heights = f.heights;
              ticket = λ k e. let is : t ≡ k = some_is t k e in (omega arith, omega arith);
              turn = λ turn. absurd (true≢false (sym turn ∙ live.turn));
            };
            others = λ i u ne at fu. refit g o.st o.st.serving (t + 1) s.homes s.homes u fu
                (λ k e. let b = fu.ticket k e in let b0 = b.0 in let b1 = b.1 in (omega arith, omega arith))
                (λ turn. let h = fu.turn turn in record { ticket = h.ticket; seen = h.seen; handed = h.handed; slot = h.slot; told = h.told });
            alone = λ i u k ne at of_u of_w. let is : t ≡ k = some_is t k of_w in
                ⊎_elim (λ (gone : u ≡ spent). absurd (none_is k (sym (ap (λ (x : View). x.ticket) gone) ∙ of_u))) (λ (fu : Fits g o.st s.homes u). let b = (fu.ticket k of_u).1 in absurd (omega arith)) (o.each i u at);
            numbers = λ p. refl;
            left = refl;
            tickets = omega arith;
            place = ⊎_elim (λ (h : IsHome g o.st s.homes). inl (record { desk = h.desk; stands = h.stands; slot = h.slot })) (λ (out : IsOut s.views). inr (still_out g s o id v w me out live.turn)) o.place;
          }),
      record { ticket = t; word = ap (λ (ws : List ℕ). get_or ws 0 0) o.words; seat = refl },
    )
  where
    still_out : (g : Ground) (s : Tab) (o : Kept g s) (id : ℕ) (v w : View) → get_elem? s.views id ≡ some v → IsOut s.views → v.turn ≡ false → IsOut (set s.views id w)
    still_out g s o id v w me out idle = dite (ℕ_discrete out.seat id)
        (λ (same : out.seat ≡ id). absurd (true≢false (sym out.turn ∙ ap (λ (x : View). x.turn) (some-injective _ _ (sym out.there ∙ ap (get_elem? s.views) same ∙ me)) ∙ idle)))
        (λ (ne : out.seat ≢ id). record { seat = out.seat; view = out.view; there = set_else s.views id out.seat w ne ∙ out.there; turn = out.turn })

-- ---- the pass looks which ticket is served
-- a step that changes nothing
pub kept_again : (g : Ground) (s : Tab) (i id : ℕ) (v : View) → get_elem? s.views id ≡ some v → Kept g s → Kept g (table (set s.words i (get_or s.words i 0)) s.homes (set s.views id v))
kept_again g s i id v me o =
    subst (λ (vs : List View). Kept g (table (set s.words i (get_or s.words i 0)) s.homes vs)) (sym (set_again s.views id v me))
    (subst (λ (ws : List ℕ). Kept g (table ws s.homes s.views)) (sym (set-get_or s.words i 0)) o)

-- nothing was told before
pub goes_nowhere : (log : List Entry) → GoesOn [] [] log
goes_nowhere log = record { between = log; is = refl; others = λ p e. absurd (true≢false (sym e)) }

-- what is true of the history for a pass
pub history_of : (g : Ground) (s : Tab) (o : Kept g s) (id : ℕ) (v : View) → get_elem? s.views id ≡ some v → Fits g o.st s.homes v → IsHistory v o.st.log
history_of g s o id v me f =
    let back : g ≡ ground_of v = sym (ground_is g o.st s.homes v f) in
    record {
      low = f.low;
      mine = f.mine;
      flags_left = f.flags_left;
      legal = subst (λ (x : Ground). IsLegal x o.st.log) back o.legal;
      short = subst (λ (x : Ground). places_in x o.st.log ≤ 1048576) back o.short;
      unused = f.unused;
      free = subst (λ (x : Ground). (p : ℕ) → flag v.numbers p ≡ true → (p ≡ v.own → ⊥) → pass_at (state_in x o.st.log) p ≡ Free) back f.free;
    }

same_view : (a b : View) → some a ≡ some b → a ≡ b
same_view a b e = some-injective a b e

-- the book is at home where the ticket of a pass that hasn't its turn is served
home_of : (g : Ground) (s : Tab) (o : Kept g s) (id : ℕ) (v : View) → get_elem? s.views id ≡ some v → v.turn ≡ false → v.ticket ≡ Some o.st.serving → IsHome g o.st s.homes
home_of g s o id v me idle mine =
    ⊎_elim (λ (h : IsHome g o.st s.homes). h)
    (λ (out : IsOut s.views).
    let i : out.seat ≡ id = only_one g s o id out.seat v out.view me out.there mine out.turn in
    let same : out.view ≡ v = same_view out.view v (sym out.there ∙ ap (get_elem? s.views) i ∙ me) in
    absurd (true≢false (sym out.turn ∙ ap (λ (x : View). x.turn) same ∙ idle)))
    o.place

looks_home : (g : Ground) (s : Tab) (o : Kept g s) (id : ℕ) (m : Sat) → get_elem? s.views id ≡ some m.0 → IsLive m.0 → Fits g o.st s.homes m.0 → m.0.ticket ≡ Some o.st.serving → IsHome g o.st s.homes
    → (w : View) × (a : Act (Option Desk)) × Valid s.homes m.1 a × Kept g (stepped s 1 (get_or s.words 1 0) id m.1 w a) × Taken m (w, carried_after m.1 a)
looks_home g s o id m me live f mine h =
    let v : View = m.0 in
    let desk : Desk = h.desk in
    let w : View = in_turn v o.st.log desk.book.handed in
    let homes : set s.homes 0 none ≡ none ∷ [] = ap (λ (hs : Homes). set hs 0 none) h.slot in
    let here : ground_of v ≡ g = ground_is g o.st s.homes v f in
    let stands : Stands g o.st.log desk.book.handed desk = record { state = h.stands.state; moves = h.stands.moves; land = h.stands.land; handed = refl; journal = h.stands.journal; taken = h.stands.taken } in (
      w,
      takes 0 (Some desk),
      ap (λ (hs : Homes). get_elem? hs 0) h.slot,
      moved g s o id v w (set s.words 1 (get_or s.words 1 0)) (set s.homes 0 none) o.st (set-get_or s.words 1 0 ∙ o.words)
          (record {
            me = me;
            short = o.short;
            legal = o.legal;
            fits = record {
              about = f.about;
              size = f.size;
              low = f.low;
              mine = f.mine;
              flags = f.flags;
              flags_left = f.flags_left;
              seen = goes_on_from_itself v.numbers o.st.log;
              free = f.free;
              unused = f.unused;
              heights = f.heights;
              ticket = f.ticket;
              turn = λ turn. record { ticket = mine; seen = refl; handed = h.stands.handed; slot = homes; told = goes_nowhere o.st.log };
            };
            others = λ i u ne at fu. refit g o.st o.st.serving o.st.next s.homes (set s.homes 0 none) u fu fu.ticket (λ turn. absurd (ne (only_one g s o id i v u me at mine turn)));
            alone = λ i u k ne at of_u of_w. ne (o.apart i id u v k at me of_u of_w);
            numbers = λ p. refl;
            left = refl;
            tickets = omega arith;
            place = inr (record { seat = id; view = w; there = set_here s.views id w (elem_low s.views id v me); turn = refl });
          }),
      record {
        desk = desk;
        log = o.st.log;
        goes_on = f.seen;
        history = history_of g s o id v me f;
        stands = subst (λ (x : Ground). Stands x o.st.log desk.book.handed desk) (sym here) stands;
        heights = λ note has. ap (λ out. handed_to out v.own) h.stands.handed ∙ f.heights note (subst (λ (x : Ground). HasJob (state_in x o.st.log) v.own note) here has);
        seat = refl;
      },
    )

pub looks : (g : Ground) (slots id : ℕ) (m : Sat) (t : ℕ) → IsLive m.0 → m.0.ticket ≡ Some t → Allows (Kept g) slots id m 1 (λ n. n) (Looked m)
looks g slots id m t live mine s o wide me _ =
    let v : View = m.0 in
    let f : Fits g o.st s.homes v = live_fits g o.st s.homes v (o.each id v me) live.mine in
    let found : get_or s.words 1 0 ≡ o.st.serving % 2 ^ 64 = ap (λ (ws : List ℕ). get_or ws 1 0) o.words in
    dite (ℕ_discrete (get_or s.words 1 0) (t % 2 ^ 64))
    (λ (hit : get_or s.words 1 0 ≡ t % 2 ^ 64).
    let b = f.ticket t mine in
    let low : o.st.serving ≤ t = b.0 in
    let high : t < o.st.next = b.1 in
    let few : o.st.next ≤ o.st.serving + 16 = (few_out g s o).1 in
    let near : t < o.st.serving + 2 ^ 64 = omega arith in
    let is : o.st.serving ≡ t = one_turn o.st.serving t (2 ^ 64) low near (sym found ∙ hit) in
    let served : v.ticket ≡ Some o.st.serving = mine ∙ ap (λ (n : ℕ). Some n) (sym is) in
    let h = looks_home g s o id m me live f served (home_of g s o id v me live.turn served) in
    (h.0, h.1, h.2, h.3, record { mine = λ k e found. h.4; other = λ k e not. absurd (not (hit ∙ ap (λ (n : ℕ). n % 2 ^ 64) (some_is t k (sym mine ∙ e)))) }))
    (λ (miss : get_or s.words 1 0 ≢ t % 2 ^ 64). (
      v,
      keeps,
      tt,
      kept_again g s 1 id v me o,
      record { mine = λ k e hit. absurd (miss (hit ∙ ap (λ (n : ℕ). n % 2 ^ 64) (some_is k t (sym e ∙ mine)))); other = λ k e not. refl },
    ))

-- ---- the entry is counted
part_kept : (g : Ground) (log : List Entry) (e : Entry) (q : ℕ) → (e.pass ≡ q → ⊥) → pass_at (state_in g (log ++ e ∷ [])) q ≡ pass_at (state_in g log) q
part_kept g log e q ne =
    ap (λ (st : State). pass_at st q) (states_after_one_more (start_state g.size g.land.levels) log e) ∙ others_keep_parts (state_in g log) e.pass q e.event ne

none_more : (flags : List Bool) (log : List Entry) (e : Entry) → HasNoneOf flags log → (flag flags e.pass ≡ true → ⊥) → HasNoneOf flags (log ++ e ∷ [])
none_more flags log e before ne p is = (no_entry_in_two p log (e ∷ [])).1 (before p is, no_entry_of_one p e (λ same. ne (ap (flag flags) same ∙ is)))

goes_on_more : (flags : List Bool) (seen log : List Entry) (e : Entry) → GoesOn flags seen log → (flag flags e.pass ≡ true → ⊥) → GoesOn flags seen (log ++ e ∷ [])
goes_on_more flags seen log e on ne = record {
  between = on.between ++ e ∷ [];
  is = ap (λ (xs : List Entry). xs ++ e ∷ []) on.is ∙ append_assoc seen on.between (e ∷ []);
  others = none_more flags on.between e on.others ne;
}

not_true : (b : Bool) → b ≡ false → b ≡ true → ⊥
not_true b off is_on = true≢false (sym is_on ∙ off)

-- another view fits the history with the entry too
fits_more : (g : Ground) (st new : Standing) (hs : Homes) (e : Entry) (u : View) → Fits g st hs u → new.log ≡ st.log ++ e ∷ [] → new.serving ≡ st.serving → new.next ≡ st.next
    → ((q : ℕ) → (q ≡ e.pass → ⊥) → handed_to new.out q ≡ handed_to st.out q) → flag u.numbers e.pass ≡ false → flag u.left e.pass ≡ false → (u.turn ≡ true → ⊥) → Fits g new hs u
fits_more g st new hs e u f log serving next out own left idle =
    let others : (q : ℕ) → flag u.numbers q ≡ true → e.pass ≡ q → ⊥ = λ q is same. not_true _ own (ap (flag u.numbers) same ∙ is) in
    record {
      about = f.about;
      size = f.size;
      low = f.low;
      mine = f.mine;
      flags = f.flags;
      flags_left = f.flags_left;
      seen = subst (GoesOn u.numbers u.seen) (sym log) (goes_on_more u.numbers u.seen st.log e f.seen (not_true _ own));
      free = λ p is ne. ap (λ (l : List Entry). pass_at (state_in g l) p) log ∙ part_kept g st.log e p (others p is) ∙ f.free p is ne;
      unused = subst (HasNoneOf u.left) (sym log) (none_more u.left st.log e f.unused (not_true _ left));
      heights = λ note has.
          let same : pass_at (state_in g new.log) u.own ≡ pass_at (state_in g st.log) u.own = ap (λ (l : List Entry). pass_at (state_in g l) u.own) log ∙ part_kept g st.log e u.own (others u.own f.mine) in
          out u.own (λ is. others u.own f.mine (sym is)) ∙ f.heights note (ap job_of (sym same) ∙ has);
      ticket = λ t is. let b = f.ticket t is in (subst (λ (n : ℕ). n ≤ t) (sym serving) b.0, subst (λ (n : ℕ). t < n) (sym next) b.1);
      turn = λ turn. absurd (idle turn);
    }

pub long_enough : (g : Ground) (log : List Entry) → length log ≤ places_in g log
unfolding places
long_enough g log = omega arith

mod_small : (n : ℕ) → n ≤ 1048576 → n % 2 ^ 64 ≡ n
mod_small n h = mod-eq_of_lt (omega arith)

length_more : (log : List Entry) (e : Entry) → length (log ++ e ∷ []) ≡ length log + 1
length_more log e = length-append log (e ∷ [])

-- its own number isn't one that it has left to give
left_not_own : (g : Ground) (s : Tab) (o : Kept g s) (id : ℕ) (v : View) → get_elem? s.views id ≡ some v → Fits g o.st s.homes v → flag v.left v.own ≡ true → ⊥
left_not_own g s o id v me f left =
    let part = term_le (has_number v.own) s.views id v me in
    let one = o.numbers v.own f.low in
    let a : one_if (flag v.numbers v.own) ≡ 1 = one_if_true (flag v.numbers v.own) f.mine in
    let b : one_if (flag v.left v.own) ≡ 1 = one_if_true (flag v.left v.own) left in
    absurd (omega arith)

pub counts : (g : Ground) (slots id : ℕ) (m : Sat) (e : Entry) (desk : Desk) → m.0.turn ≡ true → Adds m.0 e desk → Allows (Kept g) slots id m 2 (λ n. (n + 1) % 2 ^ 64) (λ found after. Counted desk m after)
counts g slots id m e desk turn adds s o wide me _ =
    let v : View = m.0 in
    let f : Fits g o.st s.homes v = turned_fits g o.st s.homes v (o.each id v me) turn in
    let h : HasTurn o.st s.homes v = f.turn turn in
    let here : ground_of v ≡ g = ground_is g o.st s.homes v f in
    let w : View = with_entry v desk in
    let new : Standing = record { log = desk.journal; out = desk.book.handed; serving = o.st.serving; next = o.st.next } in
    let log : desk.journal ≡ o.st.log ++ e ∷ [] = adds.stands.journal ∙ ap (λ (l : List Entry). l ++ e ∷ []) h.seen in
    let seen : v.seen ++ e ∷ [] ≡ desk.journal = sym adds.stands.journal in
    let short : places_in g desk.journal ≤ 1048576 = subst (λ (l : List Entry). places_in g l ≤ 1048576) seen (subst (λ (x : Ground). places_in x (v.seen ++ e ∷ []) ≤ 1048576) here adds.room) in
    let legal : IsLegal g desk.journal = subst (λ (l : List Entry). IsLegal g l) seen (subst (λ (x : Ground). IsLegal x (v.seen ++ e ∷ [])) here adds.legal) in
    let out : (q : ℕ) → (q ≡ e.pass → ⊥) → handed_to desk.book.handed q ≡ handed_to o.st.out q = λ q ne. adds.others q (λ is. ne (is ∙ sym adds.own)) ∙ ap (λ o. handed_to o q) h.handed in
    let many : length desk.journal ≡ length o.st.log + 1 = ap (λ (l : List Entry). length l) log ∙ length_more o.st.log e in
    let few : length desk.journal ≤ 1048576 = (let a = long_enough g desk.journal in omega arith) in
    let word : (length o.st.log + 1) % 2 ^ 64 ≡ length desk.journal = ap (λ (n : ℕ). n % 2 ^ 64) (sym many) ∙ mod_small (length desk.journal) few in
    let fits : Fits g new s.homes w = record {
      about = f.about;
      size = f.size;
      low = f.low;
      mine = f.mine;
      flags = f.flags;
      flags_left = f.flags_left;
      seen = goes_on_from_itself v.numbers desk.journal;
      free = λ p is ne. ap (λ (l : List Entry). pass_at (state_in g l) p) log ∙ part_kept g o.st.log e p (λ same. ne (sym same ∙ adds.own)) ∙ f.free p is ne;
      unused = subst (HasNoneOf v.left) (sym log) (none_more v.left o.st.log e f.unused (λ is. left_not_own g s o id v me f (ap (flag v.left) (sym adds.own) ∙ is)));
      heights = λ note has. refl;
      ticket = f.ticket;
      turn = λ _. record { ticket = h.ticket; seen = refl; handed = refl; slot = h.slot; told = goes_nowhere desk.journal };
    } in (
      w,
      keeps,
      tt,
      moved g s o id v w (set s.words 2 ((get_or s.words 2 0 + 1) % 2 ^ 64)) s.homes new
          (ap (λ (ws : List ℕ). set ws 2 ((get_or ws 2 0 + 1) % 2 ^ 64)) o.words ∙ ap (λ (n : ℕ). o.st.next % 2 ^ 64 ∷ o.st.serving % 2 ^ 64 ∷ n ∷ []) word)
          (record {
            me = me;
            short = short;
            legal = legal;
            fits = fits;
            others = λ i u ne at fu.
                let not_own = not_theirs g s o id i v u v.own f.low ne me at f.mine in
                fits_more g o.st new s.homes e u fu log refl refl out (ap (flag u.numbers) adds.own ∙ not_own.0) (ap (flag u.left) adds.own ∙ not_own.1) (λ theirs. ne (only_one g s o id i v u me at h.ticket theirs));
            alone = λ i u k ne at of_u of_w. ne (o.apart i id u v k at me of_u of_w);
            numbers = λ p. refl;
            left = refl;
            tickets = omega arith;
            place = inr (record { seat = id; view = w; there = set_here s.views id w (elem_low s.views id v me); turn = turn });
          }),
      record {
        seat = refl;
        history = record {
          low = f.low;
          mine = f.mine;
          flags_left = f.flags_left;
          legal = subst (λ (l : List Entry). IsLegal (ground_of v) l) seen adds.legal;
          short = subst (λ (l : List Entry). places_in (ground_of v) l ≤ 1048576) seen adds.room;
          unused = fits.unused;
          free = subst (λ (x : Ground). (p : ℕ) → flag v.numbers p ≡ true → (p ≡ v.own → ⊥) → pass_at (state_in x desk.journal) p ≡ Free) (sym here) fits.free;
        };
      },
    )

-- ---- the turn is passed on
pub passes_on : (g : Ground) (slots id : ℕ) (m : Sat) → MayPass m → Allows (Kept g) slots id m 1 (λ n. (n + 1) % 2 ^ 64) (λ found after. PassedOn m after)
passes_on g slots id m may s o wide me _ =
    let v : View = m.0 in
    let f : Fits g o.st s.homes v = turned_fits g o.st s.homes v (o.each id v me) may.turn in
    let h : HasTurn o.st s.homes v = f.turn may.turn in
    let here : ground_of v ≡ g = ground_is g o.st s.homes v f in
    let w : View = out_of_turn v in
    let st : Standing = record o.st { serving = o.st.serving + 1; next = o.st.next } in
    let hs : Homes = put_back s.homes m.1 in
    let homes : hs ≡ some (Some may.desk) ∷ [] = ap₂ put_back h.slot may.slot in
    let stands₀ : Stands g v.seen v.handed may.desk = subst (λ (x : Ground). Stands x v.seen v.handed may.desk) here may.stands in
    let stands : Stands g o.st.log o.st.out may.desk = subst (λ (l : List Entry). Stands g l o.st.out may.desk) h.seen (subst (λ out. Stands g v.seen out may.desk) h.handed stands₀) in
    let had : has_ticket v ≡ 1 = ap one_ticket h.ticket in
    let mine = f.ticket o.st.serving h.ticket in
    let later : o.st.serving < o.st.next = mine.1 in (
      w,
      gives,
      tt,
      moved g s o id v w (set s.words 1 ((get_or s.words 1 0 + 1) % 2 ^ 64)) hs st
          (ap (λ (ws : List ℕ). set ws 1 ((get_or ws 1 0 + 1) % 2 ^ 64)) o.words ∙ ap (λ (n : ℕ). o.st.next % 2 ^ 64 ∷ n ∷ length o.st.log ∷ []) (next_mod o.st.serving))
          (record {
            me = me;
            short = o.short;
            legal = o.legal;
            fits = record {
              about = f.about;
              size = f.size;
              low = f.low;
              mine = f.mine;
              flags = f.flags;
              flags_left = f.flags_left;
              seen = f.seen;
              free = f.free;
              unused = f.unused;
              heights = f.heights;
              ticket = λ t e. absurd (none_is t e);
              turn = λ turn. absurd (true≢false (sym turn));
            };
            others = λ i u ne at fu. refit g o.st (o.st.serving + 1) o.st.next s.homes hs u fu
                (λ t e.
                let b = fu.ticket t e in
                let b0 = b.0 in
                let b1 = b.1 in
                let differ : t ≢ o.st.serving = λ is. ne (o.apart i id u v o.st.serving at me (e ∙ ap (λ (n : ℕ). Some n) is) h.ticket) in
                (omega arith, omega arith))
                (λ turn. absurd (ne (only_one g s o id i v u me at h.ticket turn)));
            alone = λ i u k ne at of_u of_w. none_is k of_w;
            numbers = λ p. refl;
            left = refl;
            tickets = omega arith;
            place = inl (record { desk = may.desk; stands = record { state = stands.state; moves = stands.moves; land = stands.land; handed = stands.handed; journal = stands.journal; taken = stands.taken }; slot = homes });
          }),
      record {
        seat = ap (λ c. (w, Rattle.atomic_table.specs.Table.rest c)) may.slot;
        history = subst (IsHistory v) (sym h.seen) (history_of g s o id v me f);
        told = subst (GoesOn v.told_of v.told) (sym h.seen) h.told;
      },
    )
