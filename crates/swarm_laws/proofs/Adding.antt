-- Entries of a pass one after another: what they do of its share.
use Rattle.std.proofs.Common.{◌≡◌, ℕ, ◌+◌, ◌≤◌, ◌==◌, ◌&&◌, List, [], ◌∷◌, ◌++◌, length, length-append, Some, inl, inr, refl, sym, ap, ◌∙◌, subst, arith, append_assoc, append-nil}
use Rattle.std.proofs.lemmas.List.Elements.{All-nil, All-append, filter-append}
use Rattle.std.proofs.lemmas.List.Sums.{sum_by-append}
use Rattle.std.proofs.lemmas.List.Concat.{flat_map-append}
use mathlib.Core.Path.{ap₂}
use Rattle.std.specs.List.{filter}
use Rattle.std.specs.Prelude.{cond, option_map}
use Rattle.plan_model.specs.Strips.{first_of}
use Rattle.plan_model.specs.declared.events.Event.{Event}
use Rattle.plan_model.specs.declared.events.Event.TheVariants.{Finish, End}
use Rattle.plan_model.specs.declared.events.Answer.{Answer}
use Rattle.plan_model.specs.declared.events.Answer.TheVariants.{Job, Frame}
use Rattle.plan_model.specs.declared.events.Entry.{Entry}
use Rattle.swarm_laws.specs.Runs.{Place, entries_of, moved_by, moves_made, is_claim, is_begin, publishes, says_ripe, claims_in, begins_in, publications_in, ripes_in, is_of_pass, next_of, IsFollowed, AreFollowed, IsApt, IsOrderly, IsFront}
use Rattle.swarm_laws.specs.Shares.{Share, both_shares, no_share, DoAll, DoNoMore, DoLess}

-- ---- two lists together
pub own_append : (p : ℕ) (xs ys : List Entry) → entries_of p (xs ++ ys) ≡ entries_of p xs ++ entries_of p ys
own_append p xs ys = filter-append (λ (e : Entry). e.pass == p) xs ys

pub moves_append : (xs ys : List Entry) → moves_made (xs ++ ys) ≡ moves_made xs ++ moves_made ys
moves_append xs ys = flat_map-append (λ (e : Entry). moved_by e.event) xs ys

pub claims_append : (xs ys : List Entry) → claims_in (xs ++ ys) ≡ claims_in xs + claims_in ys
claims_append xs ys = sum_by-append (λ (e : Entry). cond (is_claim e.event) 1 0) xs ys

pub begins_append : (xs ys : List Entry) → begins_in (xs ++ ys) ≡ begins_in xs + begins_in ys
begins_append xs ys = sum_by-append (λ (e : Entry). cond (is_begin e.event) 1 0) xs ys

pub publications_append : (level : ℕ) (xs ys : List Entry) → publications_in level (xs ++ ys) ≡ publications_in level xs + publications_in level ys
publications_append level xs ys = sum_by-append (λ (e : Entry). cond (publishes level e.event) 1 0) xs ys

pub ripes_append : (level : ℕ) (xs ys : List Entry) → ripes_in level (xs ++ ys) ≡ ripes_in level xs + ripes_in level ys
ripes_append level xs ys = sum_by-append (λ (e : Entry). cond (says_ripe level e.answer) 1 0) xs ys

-- ---- order
first_kept : (xs ys : List Entry) (event : Event) → option_map (λ (e : Entry). e.event) (first_of xs) ≡ Some event → option_map (λ (e : Entry). e.event) (first_of (xs ++ ys)) ≡ Some event
first_kept [] ys event h = absurd (cc)
first_kept (x ∷ xs) ys event h = h

next_kept : (p : ℕ) (xs ys : List Entry) (event : Event) → next_of p xs ≡ Some event → next_of p (xs ++ ys) ≡ Some event
next_kept p xs ys event h =
    let f = λ (e : Entry). (e.pass == p) && is_of_pass e.event in
    ap (λ (zs : List Entry). option_map (λ (e : Entry). e.event) (first_of zs)) (filter-append f xs ys) ∙ first_kept (filter f xs) (filter f ys) event h

followed_kept : (answer : Answer) (p : ℕ) (xs ys : List Entry) → IsFollowed answer p xs → IsFollowed answer p (xs ++ ys)
followed_kept (Job level bx by cells plan) p xs ys h = next_kept p xs ys Finish h
followed_kept (Frame number) p xs ys h = next_kept p xs ys End h
followed_kept _ p xs ys h = tt

followed_append : (xs ys : List Entry) → AreFollowed xs → AreFollowed ys → AreFollowed (xs ++ ys)
followed_append [] ys h k = k
followed_append (e ∷ xs) ys h k = (followed_kept e.answer e.pass xs ys h.0, followed_append xs ys h.1 k)

pub orderly_none : IsOrderly []
orderly_none = record { followed = tt; apt = All-nil (λ (e : Entry). IsApt e.event e.answer) }

pub orderly_append : (xs ys : List Entry) → IsOrderly xs → IsOrderly ys → IsOrderly (xs ++ ys)
orderly_append xs ys a b = record {
  followed = followed_append xs ys a.followed b.followed;
  apt = All-append (λ (e : Entry). IsApt e.event e.answer) xs ys a.apt b.apt;
}

-- ---- shares
pub none_all : DoAll no_share []
none_all = record { moves = refl; claims = refl; begins = refl; publications = λ level. refl }

pub all_append : (a b : Share) (xs ys : List Entry) → DoAll a xs → DoAll b ys → DoAll (both_shares a b) (xs ++ ys)
all_append a b xs ys f g = record {
  moves = moves_append xs ys ∙ ap₂ (λ (ms ns : List Place). ms ++ ns) f.moves g.moves;
  claims = claims_append xs ys ∙ ap₂ (λ (m n : ℕ). m + n) f.claims g.claims;
  begins = begins_append xs ys ∙ ap₂ (λ (m n : ℕ). m + n) f.begins g.begins;
  publications = λ level. publications_append level xs ys ∙ ap₂ (λ (m n : ℕ). m + n) (f.publications level) (g.publications level) ∙ sym (ripes_append level xs ys);
}

pub all_bound : (a : Share) (xs : List Entry) → DoAll a xs → DoNoMore a xs
all_bound a xs f = record {
  moves = record { rest = []; is = sym f.moves ∙ sym (append-nil (moves_made xs)) };
  claims = let e = f.claims in omega arith;
  begins = let e = f.begins in omega arith;
  publications = λ level. let e = f.publications level in omega arith;
}

pub front_append : (a b : List Place) (xs ys : List Place) → a ≡ xs → IsFront ys b → IsFront (xs ++ ys) (a ++ b)
front_append a b xs ys e f = record {
  rest = f.rest;
  is = ap₂ (λ (ms ns : List Place). ms ++ ns) e f.is ∙ sym (append_assoc xs ys f.rest);
}

pub bound_append : (a b : Share) (xs ys : List Entry) → DoAll a xs → DoNoMore b ys → DoNoMore (both_shares a b) (xs ++ ys)
bound_append a b xs ys f g = record {
  moves = subst (λ (ms : List Place). IsFront ms (a.moves ++ b.moves)) (sym (moves_append xs ys)) (front_append a.moves b.moves (moves_made xs) (moves_made ys) (sym f.moves) g.moves);
  claims = let e = claims_append xs ys in let h = f.claims in let k = g.claims in omega arith;
  begins = let e = begins_append xs ys in let h = f.begins in let k = g.begins in omega arith;
  publications = λ level. let e = publications_append level xs ys in let r = ripes_append level xs ys in let h = f.publications level in let k = g.publications level in omega arith;
}

pub less_append : (a b : Share) (xs ys : List Entry) → DoAll a xs → DoLess b ys → DoLess (both_shares a b) (xs ++ ys)
less_append a b xs ys f (inl less) =
    inl (let e = ap length (moves_append xs ys) in
    let l = length-append (moves_made xs) (moves_made ys) in
    let m = length-append a.moves b.moves in
    let s = ap length f.moves in
    omega arith)
less_append a b xs ys f (inr (inl less)) = inr (inl (let e = claims_append xs ys in let h = f.claims in omega arith))
less_append a b xs ys f (inr (inr (inl less))) = inr (inr (inl (let e = begins_append xs ys in let h = f.begins in omega arith)))
less_append a b xs ys f (inr (inr (inr (level, less)))) =
    inr (inr (inr (level, let e = publications_append level xs ys in let r = ripes_append level xs ys in let h = f.publications level in omega arith)))

-- ---- more than a share
pub record IsWithin (a b : Share) : Type 0 where
  pub moves : IsFront a.moves b.moves
  pub claims : a.claims ≤ b.claims
  pub begins : a.begins ≤ b.begins

front_longer : (a b : List Place) → IsFront a b → length a ≤ length b
front_longer a b f = let e = ap length f.is in let l = length-append a f.rest in omega arith

pub within_bound : (a b : Share) (xs : List Entry) → IsWithin a b → DoNoMore a xs → DoNoMore b xs
within_bound a b xs w g = record {
  moves = record { rest = g.moves.rest ++ w.moves.rest; is = w.moves.is ∙ ap (λ (ms : List Place). ms ++ w.moves.rest) g.moves.is ∙ append_assoc (moves_made xs) g.moves.rest w.moves.rest };
  claims = let k = g.claims in let l = w.claims in omega arith;
  begins = let k = g.begins in let l = w.begins in omega arith;
  publications = g.publications;
}

pub within_less : (a b : Share) (xs : List Entry) → IsWithin a b → DoLess a xs → DoLess b xs
within_less a b xs w (inl less) = inl (let l = front_longer a.moves b.moves w.moves in omega arith)
within_less a b xs w (inr (inl less)) = inr (inl (let l = w.claims in omega arith))
within_less a b xs w (inr (inr (inl less))) = inr (inr (inl (let l = w.begins in omega arith)))
within_less a b xs w (inr (inr (inr less))) = inr (inr (inr less))
