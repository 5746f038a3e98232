-- What the passes of a run have done together.
use Rattle.std.proofs.Common.{◌≡◌, ℕ, zero, suc, ◌+◌, ◌<◌, ◌≤◌, Bool, true, ◌||◌, List, ◌++◌, map, inl, inr, refl, sym, ap, ◌∙◌, subst, arith, append-nil}
use Rattle.std.proofs.lemmas.Bool.{cases_lt, or_parts, or_cases, or_left, or_right}
use Rattle.std.proofs.lemmas.List.{map-append}
use mathlib.Core.Path.{ap₂}
use Rattle.plan_model.specs.Histories.{IsLegalHistory, places}
use Rattle.plan_model.specs.declared.events.Entry.{Entry}
use Rattle.gate_rule.specs.Flags.{flag}
use Rattle.gate_rule.specs.Rule.{GoesOn, IsLegal, places_in}
use Rattle.gate_rule.proofs.FlagLaws.{either_flag}
use Rattle.clip_gate.specs.Passes.{PassView, ClipView, ground_of_clip}
use Rattle.clip_gate.specs.Calls.{IsJoined, places_of_pass}
use Rattle.swarm_laws.specs.Runs.{Orders, entries_of}
use Rattle.swarm_laws.specs.Shares.{share_of, DoAll, DoLess, IsPart}
use Rattle.swarm_laws.specs.Closings.{Closing, closings_in, closings_of, closings_by}
use Rattle.swarm_laws.proofs.Frames.{passes_more}
use Rattle.swarm_laws.proofs.Lengths.{places_grow}
use Rattle.swarm_passes.specs.Frames.{FrameView, shown}
use Rattle.swarm_passes.specs.Going.{own_of, closed_of}
use Rattle.swarm_passes.specs.Playing.{PlayedBy, GatheredBy, LacksOf}
use Rattle.swarm_passes.proofs.Since.{own_since, closed_since}

-- ---- the first pass
only_first : (q : ℕ) → q < 1 → q ≡ 0
only_first q low = omega arith

pub gathered_first : (orders : Orders) (clip : ClipView) (m : ℕ) (pass : PassView) (full : Bool) (frames : List FrameView) → PlayedBy orders clip 0 pass full frames → flag pass.numbers pass.number ≡ true
    → ((q : ℕ) → m ≤ q → q < 16 → flag pass.left q ≡ true) → GatheredBy orders clip m 1 pass full frames
gathered_first orders clip m pass full frames p mine left = record {
  clip = p.clip;
  number = p.number;
  free = p.free;
  numbers = λ q low. subst (λ n. flag pass.numbers n ≡ true) (p.number ∙ sym (only_first q low)) mine;
  left = left;
  part = λ q low. subst (λ n. IsPart (share_of orders n) (entries_of n pass.history)) (sym (only_first q low)) (subst (λ n. IsPart (share_of orders 0) (entries_of n pass.history)) p.number p.part);
  all = λ e q low. subst (λ n. DoAll (share_of orders n) (entries_of n pass.history)) (sym (only_first q low)) (subst (λ n. DoAll (share_of orders 0) (entries_of n pass.history)) p.number (p.all e));
  less = λ e. record { number = 0; low = omega arith; less = subst (λ n. DoLess (share_of orders 0) (entries_of n pass.history)) p.number (p.less e) };
  long = p.long;
  prints = p.prints ∙ ap (map (shown clip.land.terrain clip.size))
      (ap (λ (c : ClipView). closings_of pass.number (closings_in c.size c.land.levels pass.history)) p.clip
      ∙ ap (λ (n : ℕ). closings_of n (closings_in clip.size clip.land.levels pass.history)) p.number
      ∙ sym (append-nil (closings_of 0 (closings_in clip.size clip.land.levels pass.history))));
}

-- ---- one pass more
-- places don't become fewer
places_after : (clip : ClipView) (flags : List Bool) (seen log : List Entry) → GoesOn flags seen log → IsLegal (ground_of_clip clip) log → places_in (ground_of_clip clip) seen ≤ places_in (ground_of_clip clip) log
places_after clip flags seen log on legal =
    let all : IsLegalHistory clip.size clip.land.levels (seen ++ on.between) = subst (IsLegalHistory clip.size clip.land.levels) on.is legal in
    let more = places_grow clip.size clip.land.levels seen on.between all in
    let e = ap (places clip.size clip.land.levels) on.is in
    omega arith

module _ (orders : Orders) (clip : ClipView) (m n : ℕ) (old other new : PassView) (full more : Bool) (frames others : List FrameView)
    (g : GatheredBy orders clip m n old full frames) (p : PlayedBy orders clip n other more others) (j : IsJoined old other new) (mine : flag other.numbers other.number ≡ true) where
  log : List Entry
  log = new.history

  own_old : (q : ℕ) → q < n → entries_of q old.history ≡ entries_of q new.history
  own_old q low = sym (own_since old.numbers old.history new.history q j.own (g.numbers q low))

  own_other : entries_of other.number other.history ≡ entries_of n new.history
  own_other = sym (own_since other.numbers other.history new.history other.number j.theirs mine) ∙ ap (λ (q : ℕ). entries_of q new.history) p.number

  last : (q : ℕ) → q < n + 1 → n ≤ q → n ≡ q
  last q low high = omega arith

  by_two : (P : ℕ → List Entry → Type 0) → ((q : ℕ) → q < n → P q (entries_of q old.history)) → P n (own_of other) → (q : ℕ) → q < n + 1 → P q (entries_of q new.history)
  by_two P before here q low = elim (cases_lt q n) as (λ _. P q (entries_of q new.history)) [
    | inl under ↦ subst (P q) (own_old q under) (before q under)
    | inr over ↦ subst (λ r. P r (entries_of r new.history)) (last q low over) (subst (P n) own_other here)
  ]

  clip_new : new.clip ≡ clip
  clip_new = j.clip ∙ g.clip

  places_old : places_of_pass old old.history ≤ places_of_pass new new.history
  places_old =
      let grow = places_after old.clip old.numbers old.history new.history j.own j.legal in
      let e : places_of_pass new new.history ≡ places_of_pass old new.history = ap (λ (c : ClipView). places_in (ground_of_clip c) new.history) j.clip in
      omega arith

  places_other : places_of_pass other other.history ≤ places_of_pass new new.history
  places_other =
      let same : other.clip ≡ old.clip = p.clip ∙ sym g.clip in
      let grow : places_in (ground_of_clip old.clip) other.history ≤ places_in (ground_of_clip old.clip) new.history = places_after old.clip other.numbers other.history new.history j.theirs j.legal in
      let a : places_of_pass other other.history ≡ places_in (ground_of_clip old.clip) other.history = ap (λ (c : ClipView). places_in (ground_of_clip c) other.history) same in
      let e : places_of_pass new new.history ≡ places_in (ground_of_clip old.clip) new.history = ap (λ (c : ClipView). places_in (ground_of_clip c) new.history) j.clip in
      omega arith

  closed_all : List Closing
  closed_all = closings_in clip.size clip.land.levels new.history

  by_old : (k : ℕ) → k ≤ n → closings_by k (closings_in clip.size clip.land.levels old.history) ≡ closings_by k (closings_in clip.size clip.land.levels new.history)
  by_old zero low = refl
  by_old (suc k) low =
      let so : closings_by k (closings_in clip.size clip.land.levels old.history) ≡ closings_by k (closings_in clip.size clip.land.levels new.history) = by_old k (omega arith) in
      let here : closings_of k (closings_in clip.size clip.land.levels old.history) ≡ closings_of k (closings_in clip.size clip.land.levels new.history) =
      sym (closed_since clip.size clip.land.levels old.numbers old.history new.history k j.own (g.numbers k (omega arith))) in
      passes_more k (closings_in clip.size clip.land.levels old.history) ∙ ap₂ (λ (xs ys : List Closing). xs ++ ys) so here ∙ sym (passes_more k (closings_in clip.size clip.land.levels new.history))

  of_other : closed_of other ≡ closings_of n (closings_in clip.size clip.land.levels new.history)
  of_other =
      ap (λ (c : ClipView). closings_of other.number (closings_in c.size c.land.levels other.history)) p.clip
      ∙ sym (closed_since clip.size clip.land.levels other.numbers other.history new.history other.number j.theirs mine)
      ∙ ap (λ (q : ℕ). closings_of q (closings_in clip.size clip.land.levels new.history)) p.number

  next : n + 1 ≡ suc n
  next = omega arith

  all_prints : frames ++ others ≡ map (shown clip.land.terrain clip.size) (closings_by (n + 1) (closings_in clip.size clip.land.levels new.history))
  all_prints =
      let f = shown clip.land.terrain clip.size in
      ap₂ (λ (xs ys : List FrameView). xs ++ ys)
      (g.prints ∙ ap (map (shown clip.land.terrain clip.size)) (by_old n (omega arith)))
      (p.prints ∙ ap (map (shown clip.land.terrain clip.size)) of_other)
      ∙ sym (map-append f (closings_by n (closings_in clip.size clip.land.levels new.history)) (closings_of n (closings_in clip.size clip.land.levels new.history)))
      ∙ ap (map f) (sym (passes_more n (closings_in clip.size clip.land.levels new.history)))
      ∙ ap (λ (k : ℕ). map f (closings_by k (closings_in clip.size clip.land.levels new.history))) (sym next)

  lacks : full || more ≡ true → LacksOf orders (n + 1) new
  lacks e = elim (or_cases full more e) as (λ _. LacksOf orders (n + 1) new) [
    | inl first ↦ let l = g.less first in record {
      number = l.number;
      low = let b = l.low in omega arith;
      less = subst (DoLess (share_of orders l.number)) (own_old l.number l.low) l.less;
    }
    | inr second ↦ record { number = n; low = omega arith; less = subst (DoLess (share_of orders n)) own_other (p.less second) }
  ]

  long_all : full || more ≡ true → 1048575 ≤ places_of_pass new new.history
  long_all e = elim (or_cases full more e) as (λ _. 1048575 ≤ places_of_pass new new.history) [
    | inl first ↦ let l = g.long first in let grow = places_old in omega arith
    | inr second ↦ let l = p.long second in let grow = places_other in omega arith
  ]

  pub gathered_more : GatheredBy orders clip m (n + 1) new (full || more) (frames ++ others)
  gathered_more = record {
    clip = clip_new;
    number = j.number ∙ g.number;
    free = j.part ∙ g.free;
    numbers = λ q low. elim (cases_lt q n) as (λ _. flag new.numbers q ≡ true) [
      | inl under ↦ ap (λ (fs : List Bool). flag fs q) j.numbers ∙ either_flag old.numbers other.numbers q ∙ or_left (flag old.numbers q) (flag other.numbers q) (g.numbers q under)
      | inr over ↦ ap (λ (fs : List Bool). flag fs q) j.numbers ∙ either_flag old.numbers other.numbers q ∙ or_right (flag old.numbers q) (flag other.numbers q) (subst (λ r. flag other.numbers r ≡ true) (p.number ∙ last q low over) mine)
    ];
    left = λ q low high. ap (λ (fs : List Bool). flag fs q) j.left ∙ either_flag old.left other.left q ∙ or_left (flag old.left q) (flag other.left q) (g.left q low high);
    part = by_two (λ q own. IsPart (share_of orders q) own) g.part p.part;
    all = λ e. by_two (λ q own. DoAll (share_of orders q) own) (g.all (or_parts full more e).0) (p.all (or_parts full more e).1);
    less = lacks;
    long = long_all;
    prints = all_prints;
  }
