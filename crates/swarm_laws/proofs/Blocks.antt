-- Small lists of entries of one pass, and what they do of a share.
use Rattle.std.proofs.Common.{◌≡◌, ℕ, ◌+◌, ◌==◌, Bool, true, false, cond, ◌&&◌, Some, List, [], ◌∷◌, inl, inr, refl, sym, ap, ◌∙◌, arith}
use Rattle.std.proofs.lemmas.Bool.{cond-true, eq-eqb, and_from}
use Rattle.std.proofs.lemmas.List.Elements.{All-nil, All-cons}
use Rattle.std.specs.Prelude.{option_map}
use Rattle.plan_model.specs.Strips.{first_of}
use Rattle.plan_model.specs.declared.events.Event.TheVariants.{Move, Claim, Finish, Publish, Begin, End}
use Rattle.plan_model.specs.declared.events.Answer.{Answer}
use Rattle.plan_model.specs.declared.events.Answer.TheVariants.{Ripe, Frame, Closed, Moved}
use Rattle.plan_model.specs.declared.events.Entry.{Entry}
use Rattle.swarm_laws.specs.Runs.{Place, says_ripe, is_of_pass, next_of, IsFollowed, IsApt, IsOrderly}
use Rattle.swarm_laws.specs.Shares.{Share, moves_share, claims_share, begins_share, DoAll, DoNoMore, DoLess}

-- ---- order
abbrev pub Ends : Answer → Type 0
Ends answer = (p : ℕ) (rest : List Entry) → IsFollowed answer p rest

pub one_orderly : (e : Entry) → IsApt e.event e.answer → Ends e.answer → IsOrderly (e ∷ [])
one_orderly e apt ends = record {
  followed = (ends e.pass [], tt);
  apt = All-cons (λ (d : Entry). IsApt d.event d.answer) e [] apt (All-nil (λ (d : Entry). IsApt d.event d.answer));
}

pub two_orderly : (e d : Entry) → IsApt e.event e.answer → IsFollowed e.answer e.pass (d ∷ []) → IsApt d.event d.answer → Ends d.answer → IsOrderly (e ∷ d ∷ [])
two_orderly e d apt follows apt' ends = record {
  followed = (follows, (ends d.pass [], tt));
  apt = All-cons (λ (c : Entry). IsApt c.event c.answer) e (d ∷ []) apt (All-cons (λ (c : Entry). IsApt c.event c.answer) d [] apt' (All-nil (λ (c : Entry). IsApt c.event c.answer)));
}

pub next_here : (p : ℕ) (e : Entry) → e.pass ≡ p → is_of_pass e.event ≡ true → next_of p (e ∷ []) ≡ Some e.event
next_here p e own of =
    ap (λ (xs : List Entry). option_map (λ (d : Entry). d.event) (first_of xs)) (cond-true ((e.pass == p) && is_of_pass e.event) (e ∷ []) [] (and_from (e.pass == p) (is_of_pass e.event) (eq-eqb e.pass p own) of))

-- ---- nothing
pub nothing_bound : (share : Share) → DoNoMore share []
nothing_bound share = record {
  moves = record { rest = share.moves; is = refl };
  claims = omega arith;
  begins = omega arith;
  publications = λ level. omega arith;
}

-- ---- a claim
abbrev pub IsNotRipe : Answer → Type 0
IsNotRipe answer = (level : ℕ) → says_ripe level answer ≡ false

no_ripe : (b : Bool) → b ≡ false → 0 ≡ 0 + cond b 1 0
no_ripe b is = sym (ap (λ (t : Bool). 0 + cond t 1 0) is)

pub claim_all : (p : ℕ) (answer : Answer) → IsNotRipe answer → DoAll (claims_share 1) (record { pass = p; event = Claim; answer = answer } ∷ [])
claim_all p answer none = record { moves = refl; claims = refl; begins = refl; publications = λ level. no_ripe (says_ripe level answer) (none level) }

no_ripes : (a b : Bool) → a ≡ false → b ≡ false → 0 ≡ (0 + cond a 1 0) + cond b 1 0
no_ripes a b is is' = sym (ap (λ (t : Bool). (0 + cond a 1 0) + cond t 1 0) is' ∙ ap (λ (t : Bool). (0 + cond t 1 0) + 0) is)

-- a claim of a job, which is given back
pub job_all : (p q : ℕ) (answer given : Answer) → IsNotRipe answer → IsNotRipe given → DoAll (claims_share 1) (record { pass = p; event = Claim; answer = answer } ∷ record { pass = q; event = Finish; answer = given } ∷ [])
job_all p q answer given none none' = record {
  moves = refl;
  claims = refl;
  begins = refl;
  publications = λ level. no_ripes (says_ripe level answer) (says_ripe level given) (none level) (none' level);
}

-- a claim that is told of a ripe level, which is published
ripe_and : (a b c : Bool) → c ≡ a → b ≡ false → (0 + 0) + cond c 1 0 ≡ (0 + cond a 1 0) + cond b 1 0
ripe_and true b true is none = sym (ap (λ (t : Bool). (0 + 1) + cond t 1 0) none)
ripe_and true b false is none = absurd (cc)
ripe_and false b true is none = absurd (cc)
ripe_and false b false is none = sym (ap (λ (t : Bool). (0 + 0) + cond t 1 0) none)

pub ripe_all : (p q level : ℕ) (answer : Answer) → IsNotRipe answer → DoAll (claims_share 1) (record { pass = p; event = Claim; answer = Ripe level } ∷ record { pass = q; event = Publish level; answer = answer } ∷ [])
ripe_all p q level answer none = record {
  moves = refl;
  claims = refl;
  begins = refl;
  publications = λ l. ripe_and (level == l) (says_ripe l answer) (level == l) refl (none l);
}

-- a claim that is told of a ripe level, which isn't published
pub ripe_bound : (p level : ℕ) → DoNoMore (claims_share 1) (record { pass = p; event = Claim; answer = Ripe level } ∷ [])
ripe_bound p level = record {
  moves = record { rest = []; is = refl };
  claims = omega arith;
  begins = omega arith;
  publications = λ l. omega arith;
}

pub ripe_less : (p level : ℕ) → DoLess (claims_share 1) (record { pass = p; event = Claim; answer = Ripe level } ∷ [])
ripe_less p level = inr (inr (inr (level, let one : 0 + cond (level == level) 1 0 ≡ 1 = ap (λ (t : Bool). 0 + cond t 1 0) (eq-eqb level level refl) in omega arith)))

pub claim_less : DoLess (claims_share 1) []
claim_less = inr (inl (omega arith))

-- ---- a beginning
pub begin_all : (p : ℕ) (answer : Answer) → IsNotRipe answer → DoAll (begins_share 1) (record { pass = p; event = Begin; answer = answer } ∷ [])
begin_all p answer none = record { moves = refl; claims = refl; begins = refl; publications = λ level. no_ripe (says_ripe level answer) (none level) }

pub frame_all : (p q number closed : ℕ) → DoAll (begins_share 1) (record { pass = p; event = Begin; answer = Frame number } ∷ record { pass = q; event = End; answer = Closed closed } ∷ [])
frame_all p q number closed = record { moves = refl; claims = refl; begins = refl; publications = λ level. refl }

pub begin_less : DoLess (begins_share 1) []
begin_less = inr (inr (inl (omega arith)))

-- ---- a move
pub move_all : (p : ℕ) (place : Place) → DoAll (moves_share (place ∷ [])) (record { pass = p; event = Move place.0 place.1 place.2; answer = Moved } ∷ [])
move_all p place = record { moves = refl; claims = refl; begins = refl; publications = λ level. refl }

pub move_less : (place : Place) → DoLess (moves_share (place ∷ [])) []
move_less place = inl (omega arith)
