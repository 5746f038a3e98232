-- Events of a pass of a run, and what they do of its share.
use Rattle.std.proofs.Common.{◌≡◌, ℕ, zero, suc, ◌<◌, ◌≤◌, Bool, true, false, Some, None, List, [], ◌∷◌, ◌++◌, length, slice_index_or, refl, sym, ap, ◌∙◌, subst, arith, append-nil, append_assoc}
use Rattle.std.proofs.lemmas.Bool.{true≢false, false≢true}
use Rattle.std.proofs.lemmas.List.{length-replicate}
use Rattle.std.specs.Prelude.{is_some}
use Rattle.std.specs.Option.{IsSome}
use Rattle.plan_model.specs.States.{State, Level, Pass, empty_level, start_state, pass_at, job_of, frame_of}
use Rattle.plan_model.specs.Steps.{step, job_answer}
use Rattle.plan_model.specs.Histories.{state_of_history}
use Rattle.plan_model.specs.declared.events.Event.{Event}
use Rattle.plan_model.specs.declared.events.Event.TheVariants.{Move, Claim, Finish, Publish, Begin, End}
use Rattle.plan_model.specs.declared.events.Answer.{Answer}
use Rattle.plan_model.specs.declared.events.Answer.TheVariants.{Moved, Ripe}
use Rattle.plan_model.specs.declared.events.Entry.{Entry}
use Rattle.plan_model.specs.declared.events.JobNote.{JobNote}
use Rattle.plan_model.specs.declared.events.Work.TheVariants.{Free}
use Rattle.plan_holds.specs.Laws.{HistoriesGoOn}
use Rattle.plan_histories.proofs.PassLaws.{moves_leave_parts, publications_leave_parts}
use Rattle.clip_book.specs.Answers.{said_of_given, said_of_published}
use Rattle.clip_book.specs.declared.answers.Given.{Given}
use Rattle.clip_book.specs.declared.answers.Given.TheVariants as G
use Rattle.clip_book.specs.declared.answers.Published.{Published}
use Rattle.clip_book.specs.declared.answers.Published.TheVariants as P
use Rattle.gate_rule.specs.Flags.{flag}
use Rattle.gate_rule.specs.Rule.{places_in}
use Rattle.clip_gate.specs.Passes.{PassView, ClipView, ground_of_clip, part_of}
use Rattle.clip_gate.specs.Calls.{IsSamePass, HasMade, IsFull, places_of_pass}
use Rattle.swarm_laws.specs.Runs.{Place, IsApt}
use Rattle.swarm_laws.specs.Shares.{Share, both_shares, no_share, moves_share, claims_share, DoAll, DoLess}
use Rattle.swarm_laws.specs.Closings.{Closing, closed_by, closings_of}
use Rattle.swarm_laws.specs.Turns.{IsAfterClaim}
use Rattle.swarm_laws.proofs.Adding.{IsWithin, orderly_none, orderly_append, none_all, all_append, all_bound, bound_append, less_append, within_bound, within_less}
use Rattle.swarm_laws.proofs.Blocks.{Ends, one_orderly, two_orderly, next_here, nothing_bound, IsNotRipe, claim_all, job_all, ripe_all, ripe_bound, ripe_less, move_all}
use Rattle.swarm_laws.proofs.Turns.{claim_of_free, finish_of_job}
use Rattle.swarm_passes.specs.Going.{own_of, closed_of, Goes}
use Rattle.swarm_passes.proofs.Since.{Stays, waited_stays, Makes, made_makes}

-- ---- passes that stay the same
pub mine_kept : (old new : PassView) → IsSamePass old new → flag old.numbers old.number ≡ true → flag new.numbers new.number ≡ true
mine_kept old new s mine = ap (λ (fs : List Bool). flag fs new.number) s.numbers ∙ ap (λ (n : ℕ). flag old.numbers n) s.number ∙ mine

pub same_then : (a b c : PassView) → IsSamePass a b → IsSamePass b c → IsSamePass a c
same_then a b c s t = record { clip = t.clip ∙ s.clip; number = t.number ∙ s.number; numbers = t.numbers ∙ s.numbers; left = t.left ∙ s.left }

pub same_itself : (a : PassView) → IsSamePass a a
same_itself a = record { clip = refl; number = refl; numbers = refl; left = refl }

-- ---- what goes on
pub goes_none : (a : PassView) → part_of a ≡ Free → Goes no_share false [] a a
goes_none a free = record {
  same = same_itself a;
  free = free;
  entries = [];
  own = sym (append-nil (own_of a));
  closes = sym (append-nil (closed_of a));
  orderly = orderly_none;
  bound = nothing_bound no_share;
  all = λ _. none_all;
  less = λ e. absurd (false≢true e);
  long = λ e. absurd (false≢true e);
}

pub goes_then : (s t : Share) (full : Bool) (cs ds : List Closing) (a b c : PassView) → Goes s false cs a b → Goes t full ds b c → Goes (both_shares s t) full (cs ++ ds) a c
goes_then s t full cs ds a b c g h = record {
  same = same_then a b c g.same h.same;
  free = h.free;
  entries = g.entries ++ h.entries;
  own = h.own ∙ ap (λ (xs : List Entry). xs ++ h.entries) g.own ∙ append_assoc (own_of a) g.entries h.entries;
  closes = h.closes ∙ ap (λ (xs : List Closing). xs ++ ds) g.closes ∙ append_assoc (closed_of a) cs ds;
  orderly = orderly_append g.entries h.entries g.orderly h.orderly;
  bound = bound_append s t g.entries h.entries (g.all refl) h.bound;
  all = λ e. all_append s t g.entries h.entries (g.all refl) (h.all e);
  less = λ e. less_append s t g.entries h.entries (g.all refl) (h.less e);
  long = h.long;
}

pub goes_within : (s t : Share) (cs : List Closing) (a b : PassView) → IsWithin s t → Goes s true cs a b → Goes t true cs a b
goes_within s t cs a b w g = record {
  same = g.same;
  free = g.free;
  entries = g.entries;
  own = g.own;
  closes = g.closes;
  orderly = g.orderly;
  bound = within_bound s t g.entries w g.bound;
  all = λ e. absurd (true≢false e);
  less = λ e. within_less s t g.entries w (g.less e);
  long = g.long;
}

-- ---- a full journal
pub long_by : (asked : ℕ) (old new : PassView) → asked ≤ 2 → IsFull asked old new → 1048575 ≤ places_of_pass new new.history
long_by asked old new few f =
    let e : places_of_pass new new.history ≡ places_of_pass old new.history = ap (λ (c : ClipView). places_in (ground_of_clip c) new.history) f.waits.same.clip in
    let over = f.full in
    omega arith

pub full_goes : (share : Share) (asked : ℕ) (old new : PassView) → flag old.numbers old.number ≡ true → part_of old ≡ Free → asked ≤ 2 → DoLess share [] → IsFull asked old new → Goes share true [] old new
full_goes share asked old new mine free few less f =
    let stays : Stays old new = waited_stays old new mine f.waits in
    record {
      same = f.waits.same;
      free = f.waits.part ∙ free;
      entries = [];
      own = stays.own ∙ sym (append-nil (own_of old));
      closes = stays.closes ∙ sym (append-nil (closed_of old));
      orderly = orderly_none;
      bound = nothing_bound share;
      all = λ e. absurd (true≢false e);
      less = λ _. less;
      long = λ _. long_by asked old new few f;
    }

-- ---- one event
closes_of_none : (event : Event) (p : ℕ) → closings_of p (closed_by event p None) ≡ []
closes_of_none (Move x y a) p = refl
closes_of_none Claim p = refl
closes_of_none Finish p = refl
closes_of_none (Publish level) p = refl
closes_of_none Begin p = refl
closes_of_none End p = refl

pub closes_nothing : (event : Event) (answer : Answer) (old new : PassView) → part_of old ≡ Free → Makes event answer old new → closed_of new ≡ closed_of old ++ []
closes_nothing event answer old new free m =
    m.closes ∙ ap (λ (w : Pass). closed_of old ++ closings_of old.number (closed_by event old.number (frame_of w))) free ∙ ap (λ (xs : List Closing). closed_of old ++ xs) (closes_of_none event old.number)

pub one_goes : (share : Share) (event : Event) (answer : Answer) (old new : PassView) → part_of old ≡ Free → Makes event answer old new → part_of new ≡ Free → IsApt event answer → Ends answer
    → DoAll share (record { pass = old.number; event = event; answer = answer } ∷ []) → Goes share false [] old new
one_goes share event answer old new free m free' apt ends all = record {
  same = m.same;
  free = free';
  entries = record { pass = old.number; event = event; answer = answer } ∷ [];
  own = m.own;
  closes = closes_nothing event answer old new free m;
  orderly = one_orderly (record { pass = old.number; event = event; answer = answer }) apt ends;
  bound = all_bound share (record { pass = old.number; event = event; answer = answer } ∷ []) all;
  all = λ _. all;
  less = λ e. absurd (false≢true e);
  long = λ e. absurd (false≢true e);
}

abbrev pass_in : List Pass → ℕ → Pass
pass_in ps p = slice_index_or ps p Free

pub move_goes : (place : Place) (old new : PassView) → flag old.numbers old.number ≡ true → part_of old ≡ Free → HasMade (Move place.0 place.1 place.2) Moved 1 old new → Goes (moves_share (place ∷ [])) false [] old new
move_goes place old new mine free made =
    let m = made_makes (Move place.0 place.1 place.2) Moved 1 old new mine made in
    one_goes (moves_share (place ∷ [])) (Move place.0 place.1 place.2) Moved old new free m
    (m.part ∙ ap (λ (ps : List Pass). pass_in ps old.number) (moves_leave_parts m.state old.number place.0 place.1 place.2) ∙ m.found ∙ free) tt (λ _ _. tt) (move_all old.number place)

-- ---- a claim
pub many_levels : HistoriesGoOn → (k levels : ℕ) (log : List Entry) → length (state_of_history k levels log).levels ≡ levels
unfolding start_state
many_levels go k levels log = (go (start_state k levels) log).levels ∙ length-replicate {A = Level} levels empty_level

pub after_claim : HistoriesGoOn → (answer : Answer) (old new : PassView) → part_of old ≡ Free → Makes Claim answer old new → IsAfterClaim old.clip.land.levels (part_of new) answer
after_claim go answer old new free m =
    let levels : length m.state.levels ≡ old.clip.land.levels = ap (λ (s : State). length s.levels) m.is ∙ many_levels go old.clip.size old.clip.land.levels m.history in
    let raw : IsAfterClaim (length m.state.levels) (pass_at (step m.state old.number Claim).state old.number) (step m.state old.number Claim).answer = claim_of_free m.state old.number (m.found ∙ free) in
    subst (λ (n : ℕ). IsAfterClaim n (part_of new) answer) levels
    (subst (λ (a : Answer). IsAfterClaim (length m.state.levels) (part_of new) a) m.answered
    (subst (λ (w : Pass). IsAfterClaim (length m.state.levels) w (step m.state old.number Claim).answer) (sym m.part) raw))

-- a claim whose answer asks for nothing more
pub plain_claim : (answer : Answer) (old new : PassView) → flag old.numbers old.number ≡ true → part_of old ≡ Free → HasMade Claim answer 2 old new → part_of new ≡ Free → IsApt Claim answer → Ends answer → IsNotRipe answer → Goes (claims_share 1) false [] old new
plain_claim answer old new mine free made free' apt ends none =
    one_goes (claims_share 1) Claim answer old new free (made_makes Claim answer 2 old new mine made) free' apt ends (claim_all old.number answer none)

-- ---- a claim of a job, which is given back
apt_given : (given : Given) → IsApt Finish (said_of_given given)
apt_given G.Kept = tt
apt_given (G.Stale plan now) = tt

ends_given : (given : Given) → Ends (said_of_given given)
ends_given G.Kept p rest = tt
ends_given (G.Stale plan now) p rest = tt

no_ripe_given : (given : Given) → IsNotRipe (said_of_given given)
no_ripe_given G.Kept level = refl
no_ripe_given (G.Stale plan now) level = refl

some_job : (st : Pass) (note : JobNote) → job_of st ≡ Some note → IsSome (job_of st)
some_job st note is = ap is_some is

-- a pass that has something is there
low_pass : (ps : List Pass) (p : ℕ) → IsSome (job_of (slice_index_or ps p Free)) → p < length ps
low_pass [] p some = absurd (true≢false (sym some))
low_pass (w ∷ ps) zero some = omega arith
low_pass (w ∷ ps) (suc p) some = let so = low_pass ps p some in omega arith

pub job_goes : (note : JobNote) (given : Given) (old mid new : PassView) → flag old.numbers old.number ≡ true → part_of old ≡ Free → HasMade Claim (job_answer note) 2 old mid → job_of (part_of mid) ≡ Some note → HasMade Finish (said_of_given given) 0 mid new → Goes (claims_share 1) false [] old new
job_goes note given old mid new mine free made has made' =
    let m = made_makes Claim (job_answer note) 2 old mid mine made in
    let n = made_makes Finish (said_of_given given) 0 mid new (mine_kept old mid m.same mine) made' in
    let e : Entry = record { pass = old.number; event = Claim; answer = job_answer note } in
    let d : Entry = record { pass = mid.number; event = Finish; answer = said_of_given given } in
    let all : DoAll (claims_share 1) (record { pass = old.number; event = Claim; answer = job_answer note } ∷ record { pass = mid.number; event = Finish; answer = said_of_given given } ∷ []) =
    job_all old.number mid.number (job_answer note) (said_of_given given) (λ level. refl) (no_ripe_given given) in
    let low : mid.number < length n.state.passes = low_pass n.state.passes mid.number (ap (λ (w : Pass). is_some (job_of w)) n.found ∙ some_job (part_of mid) note has) in
    record {
      same = same_then old mid new m.same n.same;
      free = n.part ∙ finish_of_job n.state mid.number low (ap (λ (w : Pass). is_some (job_of w)) n.found ∙ some_job (part_of mid) note has);
      entries = record { pass = old.number; event = Claim; answer = job_answer note } ∷ record { pass = mid.number; event = Finish; answer = said_of_given given } ∷ [];
      own = n.own ∙ ap (λ (xs : List Entry). xs ++ d ∷ []) m.own ∙ append_assoc (own_of old) (e ∷ []) (d ∷ []);
      closes = n.closes ∙ append-nil (closed_of mid) ∙ closes_nothing Claim (job_answer note) old mid free m;
      orderly = two_orderly e d tt (next_here old.number d m.same.number refl) (apt_given given) (ends_given given);
      bound = all_bound (claims_share 1) (record { pass = old.number; event = Claim; answer = job_answer note } ∷ record { pass = mid.number; event = Finish; answer = said_of_given given } ∷ []) all;
      all = λ _. all;
      less = λ e. absurd (false≢true e);
      long = λ e. absurd (false≢true e);
    }

-- ---- a claim that is told of a ripe level, and its publication
apt_published : (level : ℕ) (published : Published) → IsApt (Publish level) (said_of_published published)
apt_published level (P.Grown region) = tt
apt_published level (P.Waiting pieces) = tt
apt_published level P.Whole = tt

ends_published : (published : Published) → Ends (said_of_published published)
ends_published (P.Grown region) p rest = tt
ends_published (P.Waiting pieces) p rest = tt
ends_published P.Whole p rest = tt

no_ripe_published : (published : Published) → IsNotRipe (said_of_published published)
no_ripe_published (P.Grown region) level = refl
no_ripe_published (P.Waiting pieces) level = refl
no_ripe_published P.Whole level = refl

pub ripe_goes : (level : ℕ) (published : Published) (old mid new : PassView) → flag old.numbers old.number ≡ true → part_of old ≡ Free → HasMade Claim (Ripe level) 2 old mid → part_of mid ≡ Free → HasMade (Publish level) (said_of_published published) 1 mid new → Goes (claims_share 1) false [] old new
ripe_goes level published old mid new mine free made free' made' =
    let m = made_makes Claim (Ripe level) 2 old mid mine made in
    let n = made_makes (Publish level) (said_of_published published) 1 mid new (mine_kept old mid m.same mine) made' in
    let e : Entry = record { pass = old.number; event = Claim; answer = Ripe level } in
    let d : Entry = record { pass = mid.number; event = Publish level; answer = said_of_published published } in
    let all : DoAll (claims_share 1) (record { pass = old.number; event = Claim; answer = Ripe level } ∷ record { pass = mid.number; event = Publish level; answer = said_of_published published } ∷ []) =
    ripe_all old.number mid.number level (said_of_published published) (no_ripe_published published) in
    record {
      same = same_then old mid new m.same n.same;
      free = n.part ∙ ap (λ (ps : List Pass). pass_in ps mid.number) (publications_leave_parts n.state mid.number level) ∙ n.found ∙ free';
      entries = record { pass = old.number; event = Claim; answer = Ripe level } ∷ record { pass = mid.number; event = Publish level; answer = said_of_published published } ∷ [];
      own = n.own ∙ ap (λ (xs : List Entry). xs ++ d ∷ []) m.own ∙ append_assoc (own_of old) (e ∷ []) (d ∷ []);
      closes = n.closes ∙ append-nil (closed_of mid) ∙ closes_nothing Claim (Ripe level) old mid free m;
      orderly = two_orderly e d tt tt (apt_published level published) (ends_published published);
      bound = all_bound (claims_share 1) (record { pass = old.number; event = Claim; answer = Ripe level } ∷ record { pass = mid.number; event = Publish level; answer = said_of_published published } ∷ []) all;
      all = λ _. all;
      less = λ e. absurd (false≢true e);
      long = λ e. absurd (false≢true e);
    }

pub ripe_full : (level : ℕ) (old mid new : PassView) → flag old.numbers old.number ≡ true → part_of old ≡ Free → HasMade Claim (Ripe level) 2 old mid → part_of mid ≡ Free → IsFull 1 mid new → Goes (claims_share 1) true [] old new
ripe_full level old mid new mine free made free' f =
    let m = made_makes Claim (Ripe level) 2 old mid mine made in
    let stays : Stays mid new = waited_stays mid new (mine_kept old mid m.same mine) f.waits in
    let e : Entry = record { pass = old.number; event = Claim; answer = Ripe level } in
    record {
      same = same_then old mid new m.same f.waits.same;
      free = f.waits.part ∙ free';
      entries = record { pass = old.number; event = Claim; answer = Ripe level } ∷ [];
      own = stays.own ∙ m.own;
      closes = stays.closes ∙ closes_nothing Claim (Ripe level) old mid free m;
      orderly = one_orderly e tt (λ _ _. tt);
      bound = ripe_bound old.number level;
      all = λ e. absurd (true≢false e);
      less = λ _. ripe_less old.number level;
      long = λ _. long_by 1 mid new (omega arith) f;
    }
