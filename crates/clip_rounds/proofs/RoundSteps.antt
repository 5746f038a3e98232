-- The steps of a round.
use Rattle.std.proofs.Common.{◌≡◌, ℕ, zero, suc, ◌+◌, ◌-◌, ◌<◌, ◌≤◌, true, false, List, [], ◌∷◌, ◌++◌, length, reverse, Option, Some, None, is_some, Ok, Err, refl, ap, sym, ◌∙◌, subst, inl, inr, arith}
use Rattle.std.proofs.lemmas.Bool.{cases_Bool, cond_both, cond-true, cond-false, true≢false}
use Rattle.std.proofs.lemmas.List.{length_push, reverse-append}
use Rattle.std.specs.List.{AllZip, fold, range_with_len}
use Rattle.std.specs.Prelude.{IsSome, option_to_list}
use Rattle.outer_shelf.specs.Outside.{ShelfTold, SinkTold}
use Rattle.mesh_model.specs.Mesh.{MeshLists, mesh}
use Rattle.plan_model.specs.States.{State, Pass, pass_at, job_of, frame_of, has_work}
use Rattle.plan_model.specs.Claims.{Offer, offers}
use Rattle.plan_model.specs.Strips.{first_of}
use Rattle.plan_model.specs.Steps.{Step, claimed, claim_step, unchanged, step}
use Rattle.plan_model.specs.Histories.{Run, run_from, then_step}
use Rattle.plan_model.specs.Rounds.{frame_pass, is_job, claims, finish_of, finishes, ending, is_ripe, publish_of, publishes}
use Rattle.plan_model.specs.declared.events.Event.{Event}
use Rattle.plan_model.specs.declared.events.Event.TheVariants.{Claim, Finish, Publish, End}
use Rattle.plan_model.specs.declared.events.Answer.{Answer}
use Rattle.plan_model.specs.declared.events.Answer.TheVariants.{HasWork}
use Rattle.plan_histories.specs.Parts.{OthersKeepParts}
use Rattle.plan_holds.specs.Laws.{StepsGoOn}
use Rattle.plan_plain.proofs.Flown.{claims_on, claims_end, claims_none}
use Rattle.plan_plain_pieces.proofs.Rows.{ranged}
use Rattle.terrain_store.specs.Shapes.{Land}
use Rattle.clip_book.specs.Books.{BookView, Does, IsJobOf}
use Rattle.clip_book.specs.Jobs.{JobView, FilledView}
use Rattle.decode_workers.specs.Fills.{FilledJobsGoBack}
use Rattle.decode_rounds.specs.declared.tasks.Task.{Task}
use Rattle.decode_rounds.specs.declared.tasks.Task.TheVariants as T
use Rattle.decode_rounds.specs.declared.tasks.Done.{Done}
use Rattle.decode_rounds.specs.declared.tasks.Done.TheVariants as D
use Rattle.decode_rounds.specs.Rounds.{IsDoneOf}
use Rattle.decode_rounds.specs.Homes.{AreJobTasks, AllGoBack}
use Rattle.decode_rounds.proofs.Homes.{job_more, none_back, rest_stays, tasks_stay}
use Rattle.run_actions.specs.Runs.{Leaving}
use Rattle.run_actions.specs.declared.halt.Halt.{Halt}
use Rattle.run_actions.specs.declared.halt.Halt.TheVariants as halt
use Rattle.book_plan.specs.Books.{adds}
use Rattle.book_plan.proofs.Plans.{opens}
use Rattle.clip_desk.specs.Desks.{Goes, Stays}
use Rattle.clip_desk.proofs.Stays.{event_stays, stays_none, stays_then}
use Rattle.clip_rounds.specs.Parts.{Flew, one, place_of}
use Rattle.clip_rounds.specs.Rounds.{AreClaims, AreFills, AreHomeward, HaveNoJobs, IsDrawn}
use Rattle.clip_rounds.specs.declared.flight.Flight.{Flight}
use Rattle.clip_rounds.proofs.Parts.{claims_part, finish_part, fold_part, none_part, one_part, publish_part}
use Rattle.clip_rounds.proofs.Flown.{IsOn, flew_same, on_end, on_halt, on_more, on_start, on_want}

-- ---- a book after an event of a pass
module _ (others : OthersKeepParts) (p : ℕ) (event : Event) (answer : Answer) (old new : BookView) (does : Does p event answer old new) where
  other_part : (q : ℕ) → ¬ (q ≡ p) → pass_at new.plan.state q ≡ pass_at old.plan.state q
  other_part q apart = ap (λ (st : State). pass_at st q) does.plan.state ∙ others old.plan.state p q event (λ e. apart (sym e))

  -- the passes behind the acting one have no jobs still
  pub jobless_after : (from : ℕ) → p < from → HaveNoJobs old from → HaveNoJobs new from
  jobless_after from low none q far =
      let apart : ¬ (q ≡ p) = λ e. absurd (omega arith) in
      ap job_of (other_part q apart) ∙ none q far

-- ---- claims
nothing_claimed : (st : State) (p : ℕ) (o : Option Offer) → is_job (claimed st p o).answer ≡ false → (claimed st p o).state ≡ st
nothing_claimed st p None e = refl
nothing_claimed st p (Some o) e = absurd (true≢false e)

-- a claim that gave no job leaves the state
pub refused_leaves : (st : State) (p : ℕ) → is_job (step st p Claim).answer ≡ false → (step st p Claim).state ≡ st
unfolding claim_step
refused_leaves st p =
    cond_both (has_work (pass_at st p)) (unchanged st HasWork) (claimed st p (first_of (offers st))) (λ (next : Step). is_job next.answer ≡ false → next.state ≡ st)
    (λ _ _. refl) (λ _. nothing_claimed st p (first_of (offers st)))

-- the claims of the passes from i on are left
pub record IsClaiming (A : Type 0) (leaves : Leaving) (start now : Flight) (workers i : ℕ) (tasks : List Task) (k0 k : SinkTold) : Type 0 where
  pub fly : (s : ShelfTold) (name : List ℕ) → IsOn A leaves start.book.land.terrain name (λ run. claims run (range_with_len 0 workers)) (λ run. claims run (range_with_len i (workers - i))) (place_of start) (place_of now) s s k0 k
  pub stays : Stays start.book now.book
  pub taken : AreClaims now.book tasks
  pub many : length tasks ≡ i

pub claiming_start : {A : Type 0} (leaves : Leaving) (start : Flight) (workers : ℕ) (k : SinkTold) → HaveNoJobs start.book 0 → IsClaiming A leaves start start workers 0 [] k k
claiming_start leaves start workers k none = record {
  fly = λ s name. on_start leaves start.book.land.terrain name _ _ (place_of start) s k (ap (λ (n : ℕ). claims (run_from start.book.plan.state) (range_with_len 0 n)) (from_none workers));
  stays = stays_none start.book;
  taken = record { jobs = tt; few = omega arith; others = none };
  many = refl;
} where
  from_none : (n : ℕ) → n ≡ n - 0
  from_none n = omega arith

module _ {A : Type 0} (leaves : Leaving) (start now next : Flight) (workers i : ℕ) (tasks : List Task) (k0 k k1 : SinkTold) (go_on : StepsGoOn) (others : OthersKeepParts)
    (few : workers ≤ 15) (there : i < workers) (h : IsClaiming A leaves start now workers i tasks k0 k)
    (does : Does i Claim (step now.book.plan.state i Claim).answer now.book next.book) where
  claim_stays : Stays now.book next.book
  claim_stays = event_stays go_on i Claim (step now.book.plan.state i Claim).answer now.book next.book refl refl (record { plan = does.plan; land = does.land })

  pub claim_on : Stays start.book next.book
  claim_on = stays_then start.book now.book next.book h.stays claim_stays

  low : 0 + length tasks ≤ i
  low = let many : length tasks ≡ i = h.many in omega arith

  -- the pass was given a job
  pub claiming_more : {B : Type 0} (x : B) (job : JobView) (tasks' : List Task) → is_job (step now.book.plan.state i Claim).answer ≡ true → IsJobOf next.book i job → tasks' ≡ tasks ++ T.Fill i job ∷ [] →
      ((s : ShelfTold) (name : List ℕ) → Flew {A = B} leaves now.book.land.terrain name (one i Claim) (Ok x) (place_of now) (place_of next) s s k k1) →
      IsClaiming A leaves start next workers (i + 1) tasks' k0 k1
  claiming_more {B} x job tasks' given its are flew =
      let many : length tasks ≡ i = h.many in
      let same : 0 + length tasks ≡ i = omega arith in
      let old : AreJobTasks next.book 0 tasks = tasks_stay i Claim (step now.book.plan.state i Claim).answer now.book next.book does others 0 tasks low h.taken.jobs in
      let more : AreJobTasks next.book 0 (tasks ++ T.Fill i job ∷ []) =
      subst (λ (n : ℕ). AreJobTasks next.book 0 (tasks ++ T.Fill n job ∷ [])) same (job_more next.book 0 tasks job old (subst (λ (n : ℕ). IsJobOf next.book n job) (sym same) its)) in
      let count : length tasks' ≡ i + 1 = ap length are ∙ length_push tasks (T.Fill i job) ∙ ap (λ (n : ℕ). n + 1) many in
      record {
        fly = λ s name.
            on_more leaves start.book.land.terrain name _ _ (place_of start) (place_of now) s s k0 k (h.fly s name) (one i Claim) (λ run. claims run (range_with_len (i + 1) (workers - (i + 1))))
            (one_part i Claim) (claims_part (range_with_len (i + 1) (workers - (i + 1)))) (sym (claims_on (run_from now.book.plan.state) i workers there given)) x (place_of next) s k1
            (subst (λ (l : Land). Flew {A = B} leaves l.terrain name (one i Claim) (Ok x) (place_of now) (place_of next) s s k k1) h.stays.land (flew s name));
        stays = claim_on;
        taken = record {
          jobs = subst (AreJobTasks next.book 0) (sym are) more;
          few = omega (arith, count, few, there);
          others = subst (HaveNoJobs next.book) (sym count) (jobless_after others i Claim (step now.book.plan.state i Claim).answer now.book next.book does (i + 1) (omega arith) (λ q far. h.taken.others q (omega arith)));
        };
        many = count;
      }

  -- the pass was given none
  pub claiming_last : {B : Type 0} (x : B) (y : A) → is_job (step now.book.plan.state i Claim).answer ≡ false →
      ((s : ShelfTold) (name : List ℕ) → Flew {A = B} leaves now.book.land.terrain name (one i Claim) (Ok x) (place_of now) (place_of next) s s k k1) →
      (s : ShelfTold) (name : List ℕ) → Flew {A = A} leaves start.book.land.terrain name (λ run. claims run (range_with_len 0 workers)) (Ok y) (place_of start) (place_of next) s s k0 k1
  claiming_last {B} x y none flew s name =
      (h.fly s name).go_on (Ok y) (place_of next) s k1
      (flew_same leaves start.book.land.terrain name (one i Claim) (λ run. claims run (range_with_len i (workers - i))) (Ok y) (place_of now) (place_of next) s s k k1
      (sym (claims_end (run_from now.book.plan.state) i workers there none))
      (let f : Flew {A = B} leaves start.book.land.terrain name (one i Claim) (Ok x) (place_of now) (place_of next) s s k k1 = subst (λ (l : Land). Flew {A = B} leaves l.terrain name (one i Claim) (Ok x) (place_of now) (place_of next) s s k k1) h.stays.land (flew s name) in
      record {
        ran = record { did = f.ran.did; shelf_calls = f.ran.shelf_calls; sink_calls = f.ran.sink_calls };
        reason = record { reason = tt; shelf_stays = f.reason.shelf_stays; sink_stays = f.reason.sink_stays };
        leads = f.leads;
      }))

  pub last_claims : is_job (step now.book.plan.state i Claim).answer ≡ false → AreClaims next.book tasks
  last_claims none = record {
    jobs = tasks_stay i Claim (step now.book.plan.state i Claim).answer now.book next.book does others 0 tasks low h.taken.jobs;
    few = h.taken.few;
    others = λ q far. ap (λ (st : State). job_of (pass_at st q)) (does.plan.state ∙ refused_leaves now.book.plan.state i none) ∙ h.taken.others q far;
  }

  -- the run halted
  pub claiming_halted : {B : Type 0} (e : Halt) → ((s : ShelfTold) (name : List ℕ) → Flew {A = B} leaves now.book.land.terrain name (one i Claim) (Err e) (place_of now) (place_of next) s s k k1) →
      (s : ShelfTold) (name : List ℕ) → Flew {A = A} leaves start.book.land.terrain name (λ run. claims run (range_with_len 0 workers)) (Err e) (place_of start) (place_of next) s s k0 k1
  claiming_halted {B} e flew s name =
      elim (cases_Bool (is_job (step now.book.plan.state i Claim).answer)) [
        | inl given ↦
            on_halt leaves start.book.land.terrain name _ _ (place_of start) (place_of now) s s k0 k (h.fly s name) (one i Claim) (λ run. claims run (range_with_len (i + 1) (workers - (i + 1))))
            (one_part i Claim) (claims_part (range_with_len (i + 1) (workers - (i + 1)))) (sym (claims_on (run_from now.book.plan.state) i workers there given)) e (place_of next) (place_of next) s k1 (over s name)
        | inr none ↦
            on_halt leaves start.book.land.terrain name _ _ (place_of start) (place_of now) s s k0 k (h.fly s name) (one i Claim) (λ run. run)
            (one_part i Claim) none_part (sym (claims_end (run_from now.book.plan.state) i workers there none)) e (place_of next) (place_of next) s k1 (over s name)
      ]
    where
      over : (s : ShelfTold) (name : List ℕ) → Flew {A = B} leaves start.book.land.terrain name (one i Claim) (Err e) (place_of now) (place_of next) s s k k1
      over s name = subst (λ (l : Land). Flew {A = B} leaves l.terrain name (one i Claim) (Err e) (place_of now) (place_of next) s s k k1) h.stays.land (flew s name)

-- there was no memory for the job that was given
module _ {A : Type 0} (leaves : Leaving) (start now next : Flight) (workers i : ℕ) (tasks : List Task) (k0 k k1 : SinkTold) (there : i < workers) (h : IsClaiming A leaves start now workers i tasks k0 k) where
  pub claiming_want : {B : Type 0} (x : B) → is_job (step now.book.plan.state i Claim).answer ≡ true →
      ((s : ShelfTold) (name : List ℕ) → Flew {A = B} leaves now.book.land.terrain name (one i Claim) (Ok x) (place_of now) (place_of next) s s k k1) →
      (s : ShelfTold) (name : List ℕ) → Flew {A = A} leaves start.book.land.terrain name (λ run. claims run (range_with_len 0 workers)) (Err halt.NoMemory) (place_of start) (place_of next) s s k0 k1
  claiming_want {B} x given flew s name =
      on_want leaves start.book.land.terrain name _ _ (place_of start) (place_of next) s s k0 k1
      (on_more leaves start.book.land.terrain name _ _ (place_of start) (place_of now) s s k0 k (h.fly s name) (one i Claim) (λ run. claims run (range_with_len (i + 1) (workers - (i + 1))))
      (one_part i Claim) (claims_part (range_with_len (i + 1) (workers - (i + 1)))) (sym (claims_on (run_from now.book.plan.state) i workers there given)) x (place_of next) s k1
      (subst (λ (l : Land). Flew {A = B} leaves l.terrain name (one i Claim) (Ok x) (place_of now) (place_of next) s s k k1) h.stays.land (flew s name))) (place_of next)

-- all passes claimed
pub claiming_end : {A : Type 0} (leaves : Leaving) (start now : Flight) (workers i : ℕ) (tasks : List Task) (k0 k : SinkTold) (y : A) → workers ≤ i → IsClaiming A leaves start now workers i tasks k0 k →
    (s : ShelfTold) (name : List ℕ) → Flew {A = A} leaves start.book.land.terrain name (λ run. claims run (range_with_len 0 workers)) (Ok y) (place_of start) (place_of now) s s k0 k
claiming_end leaves start now workers i tasks k0 k y all h s name =
    on_end leaves start.book.land.terrain name _ _ (place_of start) (place_of now) s s k0 k (h.fly s name) y (claims_none (run_from now.book.plan.state) i workers all)

-- ---- what is filled and drawn
-- the results of fills are fills
all_fills : (book : BookView) (q : ℕ) (tasks : List Task) (dones : List Done) → AreJobTasks book q tasks → AllZip (IsDoneOf book) tasks dones → AreFills dones
all_fills book q [] [] h z = tt
all_fills book q [] (done ∷ dones) h z = absurd z
all_fills book q (T.Draw by ∷ tasks) dones h z = absurd h.0
all_fills book q (T.Fill by job ∷ tasks) [] h z = absurd z
all_fills book q (T.Fill by job ∷ tasks) (D.Drawn other made ∷ dones) h z = absurd z.0
all_fills book q (T.Fill by job ∷ tasks) (D.Filled other filled ∷ dones) h z = (tt, all_fills book (q + 1) tasks dones h.1 z.1)

as_many : (book : BookView) (tasks : List Task) (dones : List Done) → AllZip (IsDoneOf book) tasks dones → length dones ≡ length tasks
as_many book [] [] z = refl
as_many book [] (done ∷ dones) z = absurd z
as_many book (task ∷ tasks) [] z = absurd z
as_many book (task ∷ tasks) (done ∷ dones) z = ap suc (as_many book tasks dones z.1)

all_home : (book : BookView) → FilledJobsGoBack → (q : ℕ) (tasks : List Task) (dones : List Done) → AreJobTasks book q tasks → AllZip (IsDoneOf book) tasks dones → AllGoBack book q dones
all_home book law q [] dones h z = none_back book q dones z
all_home book law q (T.Draw by ∷ tasks) dones h z = absurd h.0
all_home book law q (T.Fill by job ∷ tasks) [] h z = absurd z
all_home book law q (T.Fill by job ∷ tasks) (D.Drawn other made ∷ dones) h z = absurd z.0
all_home book law q (T.Fill by job ∷ tasks) (D.Filled other filled ∷ dones) h z = ((z.0.0 ∙ h.0.0, law book q job filled h.0.1 z.0.1), all_home book law (q + 1) tasks dones h.1 z.1)

pub homeward : (book : BookView) → FilledJobsGoBack → (tasks : List Task) (dones : List Done) → AreClaims book tasks → AllZip (IsDoneOf book) tasks dones → AreHomeward book 0 dones
homeward book law tasks dones h z =
    let many : length dones ≡ length tasks = as_many book tasks dones z in
    record {
      back = all_home book law 0 tasks dones h.jobs z;
      fills = all_fills book 0 tasks dones h.jobs z;
      few = omega (arith, many, h.few);
      others = λ q far. h.others q (omega (arith, many));
    }

-- the last of the tasks, and its result
pub zip_last : (R : Task → Done → Type 0) (tasks : List Task) (task : Task) (dones : List Done) (done : Done) → AllZip R (tasks ++ task ∷ []) (dones ++ done ∷ []) → AllZip R tasks dones × R task done
zip_last R [] task [] done z = (tt, z.0)
zip_last R [] task (other ∷ []) done z = absurd z.1
zip_last R [] task (other ∷ (another ∷ dones)) done z = absurd z.1
zip_last R (t ∷ []) task [] done z = absurd z.1
zip_last R (t ∷ (u ∷ tasks)) task [] done z = absurd z.1
zip_last R (t ∷ tasks) task (d ∷ dones) done z =
    let rest : AllZip R tasks dones × R task done = zip_last R tasks task dones done z.1 in
    ((z.0, rest.0), rest.1)

pub zip_some : (R : Task → Done → Type 0) (tasks : List Task) (task : Task) (dones : List Done) → AllZip R (tasks ++ task ∷ []) dones → dones ≡ [] → ⊥
zip_some R [] task [] z e = z
zip_some R [] task (d ∷ dones) z e = absurd (cc)
zip_some R (t ∷ tasks) task [] z e = z
zip_some R (t ∷ tasks) task (d ∷ dones) z e = absurd (cc)

-- what is popped of the results is that of the task that was pushed
pub popped_last : (R : Task → Done → Type 0) (tasks pushed : List Task) (task : Task) (jobs rest : List Done) (popped : Option Done) (done : Done) → pushed ≡ tasks ++ task ∷ [] → AllZip R pushed jobs →
    jobs ≡ rest ++ option_to_list popped → popped ≡ Some done → AllZip R tasks rest × R task done
popped_last R tasks pushed task jobs rest popped done more zip left is =
    let last : jobs ≡ rest ++ done ∷ [] = left ∙ ap (λ (o : Option Done). rest ++ option_to_list o) is in
    zip_last R tasks task rest done (subst (λ (them : List Done). AllZip R (tasks ++ task ∷ []) them) last (subst (λ (them : List Task). AllZip R them jobs) more zip))

pub popped_some : (R : Task → Done → Type 0) (tasks pushed : List Task) (task : Task) (jobs : List Done) → pushed ≡ tasks ++ task ∷ [] → AllZip R pushed jobs → length jobs ≡ 0 → ⊥
popped_some R tasks pushed task [] more zip none = zip_some R tasks task [] (subst (λ (them : List Task). AllZip R them []) more zip) refl
popped_some R tasks pushed task (job ∷ jobs) more zip none = absurd (omega (arith, none))

pub drawn_is : (book : BookView) (by : ℕ) (made : MeshLists) → IsSome (frame_of (pass_at book.plan.state frame_pass)) → IsDoneOf book (T.Draw frame_pass) (D.Drawn by made) → IsDrawn book (Some made)
drawn_is book by made some done = (some, done.1)

-- a draw's result is no fill
pub drawn_only : (book : BookView) (by : ℕ) (job : FilledView) → IsDoneOf book (T.Draw frame_pass) (D.Filled by job) → ⊥
drawn_only book by job done = done

-- ---- jobs that go back
-- the first of the passes that are left
front : (p w : ℕ) → p < w → range_with_len p (w - p) ≡ p ∷ range_with_len (p + 1) (w - (p + 1))
front p w there =
    let left : w - p ≡ suc (w - (p + 1)) = omega arith in
    ap (range_with_len p) left

finish_one : (r : Run) (p : ℕ) → is_some (job_of (pass_at r.state p)) ≡ true → finish_of r p ≡ then_step r p Finish
unfolding finish_of
finish_one r p some = cond-true (is_some (job_of (pass_at r.state p))) (then_step r p Finish) r some

finish_none : (r : Run) (p : ℕ) → job_of (pass_at r.state p) ≡ None → finish_of r p ≡ r
unfolding finish_of
finish_none r p none = cond-false (is_some (job_of (pass_at r.state p))) (then_step r p Finish) r (ap is_some none)

-- passes that have no jobs give none back
none_left : (r : Run) (p n : ℕ) → ((q : ℕ) → p ≤ q → job_of (pass_at r.state q) ≡ None) → fold finish_of r (range_with_len p n) ≡ r
none_left r p zero none = refl
none_left r p (suc n) none =
    ap (λ (next : Run). fold finish_of next (range_with_len (p + 1) n)) (finish_none r p (none p (omega arith)))
    ∙ none_left r (p + 1) n (λ q far. none q (omega arith))

-- the jobs of the passes from i on are left
pub record IsGiving (A : Type 0) (leaves : Leaving) (start now : Flight) (i : ℕ) (jobs : List Done) (k0 k : SinkTold) : Type 0 where
  pub fly : (s : ShelfTold) (name : List ℕ) → IsOn A leaves start.book.land.terrain name finishes (λ run. fold finish_of run (range_with_len i (16 - i))) (place_of start) (place_of now) s s k0 k
  pub stays : Stays start.book now.book
  pub frame : pass_at now.book.plan.state frame_pass ≡ pass_at start.book.plan.state frame_pass
  pub homes : AreHomeward now.book i jobs

pub giving_start : {A : Type 0} (leaves : Leaving) (start : Flight) (jobs : List Done) (k : SinkTold) → length start.book.plan.state.passes ≡ 16 → AreHomeward start.book 0 jobs → IsGiving A leaves start start 0 jobs k k
unfolding finishes
giving_start leaves start jobs k many home = record {
  fly = λ s name. on_start leaves start.book.land.terrain name _ _ (place_of start) s k (ap (λ (n : ℕ). fold finish_of (run_from start.book.plan.state) (range_with_len 0 n)) many);
  stays = stays_none start.book;
  frame = refl;
  homes = home;
}

module _ {A : Type 0} (leaves : Leaving) (start now next : Flight) (i : ℕ) (done : Done) (jobs : List Done) (k0 k k1 : SinkTold) (go_on : StepsGoOn) (others : OthersKeepParts)
    (h : IsGiving A leaves start now i (done ∷ jobs) k0 k) where
  -- the pass that gives back is none of those behind it, and none that draws
  pub giving_low : i < 15
  giving_low = omega (arith, h.homes.few)

  module _ (does : Does i Finish (step now.book.plan.state i Finish).answer now.book next.book) (had : is_some (job_of (pass_at now.book.plan.state i)) ≡ true) where
    give_stays : Stays now.book next.book
    give_stays = event_stays go_on i Finish (step now.book.plan.state i Finish).answer now.book next.book refl refl (record { plan = does.plan; land = does.land })

    pub giving_on : Stays start.book next.book
    giving_on = stays_then start.book now.book next.book h.stays give_stays

    pub giving_frame : pass_at next.book.plan.state frame_pass ≡ pass_at start.book.plan.state frame_pass
    giving_frame =
        let low : i < 15 = giving_low in
        other_part others i Finish (step now.book.plan.state i Finish).answer now.book next.book does frame_pass (λ e. absurd (omega arith)) ∙ h.frame

    here : fold finish_of (run_from now.book.plan.state) (range_with_len i (16 - i)) ≡ fold finish_of (then_step (run_from now.book.plan.state) i Finish) (range_with_len (i + 1) (16 - (i + 1)))
    here =
        let low : i < 15 = giving_low in
        ap (fold finish_of (run_from now.book.plan.state)) (front i 16 (omega arith))
        ∙ ap (λ (r : Run). fold finish_of r (range_with_len (i + 1) (16 - (i + 1)))) (finish_one (run_from now.book.plan.state) i had)

    -- one pass more gave its job back
    pub giving_more : {B : Type 0} (x : B) → ((s : ShelfTold) (name : List ℕ) → Flew {A = B} leaves now.book.land.terrain name (one i Finish) (Ok x) (place_of now) (place_of next) s s k k1) →
        IsGiving A leaves start next (i + 1) jobs k0 k1
    giving_more {B} x flew =
        let many : i + length (done ∷ jobs) ≡ (i + 1) + length jobs = omega arith in
        let few : i + length (done ∷ jobs) ≤ 15 = h.homes.few in
        record {
          fly = λ s name.
              on_more leaves start.book.land.terrain name _ _ (place_of start) (place_of now) s s k0 k (h.fly s name) (one i Finish) (λ run. fold finish_of run (range_with_len (i + 1) (16 - (i + 1))))
              (one_part i Finish) (fold_part finish_of finish_part (range_with_len (i + 1) (16 - (i + 1)))) here x (place_of next) s k1
              (subst (λ (l : Land). Flew {A = B} leaves l.terrain name (one i Finish) (Ok x) (place_of now) (place_of next) s s k k1) h.stays.land (flew s name));
          stays = giving_on;
          frame = giving_frame;
          homes = record {
            back = rest_stays i Finish (step now.book.plan.state i Finish).answer now.book next.book does others (i + 1) jobs (omega arith) h.homes.back.1;
            fills = h.homes.fills.1;
            few = omega arith;
            others = jobless_after others i Finish (step now.book.plan.state i Finish).answer now.book next.book does ((i + 1) + length jobs) (omega arith) (λ q far. h.homes.others q (omega arith));
          };
        }

    pub giving_halted : {B : Type 0} (e : Halt) → ((s : ShelfTold) (name : List ℕ) → Flew {A = B} leaves now.book.land.terrain name (one i Finish) (Err e) (place_of now) (place_of next) s s k k1) →
        (s : ShelfTold) (name : List ℕ) → Flew {A = A} leaves start.book.land.terrain name finishes (Err e) (place_of start) (place_of next) s s k0 k1
    giving_halted {B} e flew s name =
        on_halt leaves start.book.land.terrain name _ _ (place_of start) (place_of now) s s k0 k (h.fly s name) (one i Finish) (λ run. fold finish_of run (range_with_len (i + 1) (16 - (i + 1))))
        (one_part i Finish) (fold_part finish_of finish_part (range_with_len (i + 1) (16 - (i + 1)))) here e (place_of next) (place_of next) s k1
        (subst (λ (l : Land). Flew {A = B} leaves l.terrain name (one i Finish) (Err e) (place_of now) (place_of next) s s k k1) h.stays.land (flew s name))

-- all jobs went back
pub giving_end : {A : Type 0} (leaves : Leaving) (start now : Flight) (i : ℕ) (k0 k : SinkTold) (x : A) → IsGiving A leaves start now i [] k0 k →
    (s : ShelfTold) (name : List ℕ) → Flew {A = A} leaves start.book.land.terrain name finishes (Ok x) (place_of start) (place_of now) s s k0 k
giving_end leaves start now i k0 k x h s name =
    on_end leaves start.book.land.terrain name _ _ (place_of start) (place_of now) s s k0 k (h.fly s name) x
    (none_left (run_from now.book.plan.state) i (16 - i) (λ q far. h.homes.others q (omega arith)))

-- the mesh that was drawn is that of the frame still
pub drawn_stays : (old new : BookView) (mesh' : Option MeshLists) → Stays old new → pass_at new.plan.state frame_pass ≡ pass_at old.plan.state frame_pass → IsDrawn old mesh' → IsDrawn new mesh'
drawn_stays old new None stays part h = ap frame_of part ∙ h
drawn_stays old new (Some made) stays part h = (
  subst (λ (pass : Pass). IsSome (frame_of pass)) (sym part) h.0,
  λ frame has.
      h.1 frame (subst (λ (pass : Pass). frame_of pass ≡ Some frame) part has)
      ∙ ap (λ (l : Land). mesh l.terrain old.plan.state.k frame.actives) (sym stays.land)
      ∙ ap (λ (k : ℕ). mesh new.land.terrain k frame.actives) (sym stays.size),
)

-- ---- the end of the frame
pub goes_stays : StepsGoOn → (p : ℕ) (event : Event) (old new : BookView) → adds event ≡ 0 → opens event ≡ 0 → Goes p event old new → Stays old new
goes_stays go_on p event old new no_move no_frame goes =
    event_stays go_on p event (step old.plan.state p event).answer old new no_move no_frame (record { plan = record { state = goes.state; answered = refl; moves = goes.moves }; land = goes.land })

pub no_ending : (st : State) → frame_of (pass_at st frame_pass) ≡ None → ending (run_from st) ≡ run_from st
unfolding ending
no_ending st none = cond-false (is_some (frame_of (pass_at st frame_pass))) (then_step (run_from st) frame_pass End) (run_from st) (ap is_some none)

pub the_ending : (st : State) → is_some (frame_of (pass_at st frame_pass)) ≡ true → ending (run_from st) ≡ then_step (run_from st) frame_pass End
unfolding ending
the_ending st some = cond-true (is_some (frame_of (pass_at st frame_pass))) (then_step (run_from st) frame_pass End) (run_from st) some

-- ---- publications
pub no_publication : (st : State) (level : ℕ) → is_ripe st level ≡ false → publish_of (run_from st) level ≡ run_from st
unfolding publish_of
no_publication st level none = cond-false (is_ripe st level) (then_step (run_from st) 0 (Publish level)) (run_from st) none

pub the_publication : (st : State) (level : ℕ) → is_ripe st level ≡ true → publish_of (run_from st) level ≡ then_step (run_from st) 0 (Publish level)
unfolding publish_of
the_publication st level ripe = cond-true (is_ripe st level) (then_step (run_from st) 0 (Publish level)) (run_from st) ripe

-- the levels below j, of which the highest comes first
down : (j : ℕ) → 0 < j → reverse (range_with_len 0 j) ≡ (j - 1) ∷ reverse (range_with_len 0 (j - 1))
down j some =
    let back : j ≡ (j - 1) + 1 = omega arith in
    ap (λ (n : ℕ). reverse (range_with_len 0 n)) back ∙ ap reverse (ranged (j - 1)) ∙ reverse-append (range_with_len 0 (j - 1)) ((j - 1) ∷ [])

-- the levels below j are left
pub record IsPublishing (A : Type 0) (leaves : Leaving) (start now : Flight) (j : ℕ) (k0 k : SinkTold) : Type 0 where
  pub fly : (s : ShelfTold) (name : List ℕ) → IsOn A leaves start.book.land.terrain name publishes (λ run. fold publish_of run (reverse (range_with_len 0 j))) (place_of start) (place_of now) s s k0 k
  pub stays : Stays start.book now.book

pub publishing_start : {A : Type 0} (leaves : Leaving) (start : Flight) (n : ℕ) (k : SinkTold) → n ≡ length start.book.plan.state.levels → IsPublishing A leaves start start n k k
unfolding publishes
publishing_start leaves start n k is = record {
  fly = λ s name. on_start leaves start.book.land.terrain name _ _ (place_of start) s k (ap (λ (m : ℕ). fold publish_of (run_from start.book.plan.state) (reverse (range_with_len 0 m))) (sym is));
  stays = stays_none start.book;
}

module _ {A : Type 0} (leaves : Leaving) (start now next : Flight) (j : ℕ) (k0 k k1 : SinkTold) (some : 0 < j) (h : IsPublishing A leaves start now j k0 k) where
  next_down : fold publish_of (run_from now.book.plan.state) (reverse (range_with_len 0 j)) ≡ fold publish_of (publish_of (run_from now.book.plan.state) (j - 1)) (reverse (range_with_len 0 (j - 1)))
  next_down = ap (fold publish_of (run_from now.book.plan.state)) (down j some)

  pub publishing_more : {B : Type 0} (x : B) → Stays now.book next.book →
      ((s : ShelfTold) (name : List ℕ) → Flew {A = B} leaves now.book.land.terrain name (λ run. publish_of run (j - 1)) (Ok x) (place_of now) (place_of next) s s k k1) →
      IsPublishing A leaves start next (j - 1) k0 k1
  publishing_more {B} x stays flew = record {
    fly = λ s name.
        on_more leaves start.book.land.terrain name _ _ (place_of start) (place_of now) s s k0 k (h.fly s name) (λ run. publish_of run (j - 1)) (λ run. fold publish_of run (reverse (range_with_len 0 (j - 1))))
        (publish_part (j - 1)) (fold_part publish_of publish_part (reverse (range_with_len 0 (j - 1)))) next_down x (place_of next) s k1
        (subst (λ (l : Land). Flew {A = B} leaves l.terrain name (λ run. publish_of run (j - 1)) (Ok x) (place_of now) (place_of next) s s k k1) h.stays.land (flew s name));
    stays = stays_then start.book now.book next.book h.stays stays;
  }

  pub publishing_halted : {B : Type 0} (e : Halt) →
      ((s : ShelfTold) (name : List ℕ) → Flew {A = B} leaves now.book.land.terrain name (λ run. publish_of run (j - 1)) (Err e) (place_of now) (place_of next) s s k k1) →
      (s : ShelfTold) (name : List ℕ) → Flew {A = A} leaves start.book.land.terrain name publishes (Err e) (place_of start) (place_of next) s s k0 k1
  publishing_halted {B} e flew s name =
      on_halt leaves start.book.land.terrain name _ _ (place_of start) (place_of now) s s k0 k (h.fly s name) (λ run. publish_of run (j - 1)) (λ run. fold publish_of run (reverse (range_with_len 0 (j - 1))))
      (publish_part (j - 1)) (fold_part publish_of publish_part (reverse (range_with_len 0 (j - 1)))) next_down e (place_of next) (place_of next) s k1
      (subst (λ (l : Land). Flew {A = B} leaves l.terrain name (λ run. publish_of run (j - 1)) (Err e) (place_of now) (place_of next) s s k k1) h.stays.land (flew s name))

pub publishing_end : {A : Type 0} (leaves : Leaving) (start now : Flight) (j : ℕ) (k0 k : SinkTold) (x : A) → j ≡ 0 → IsPublishing A leaves start now j k0 k →
    (s : ShelfTold) (name : List ℕ) → Flew {A = A} leaves start.book.land.terrain name publishes (Ok x) (place_of start) (place_of now) s s k0 k
publishing_end leaves start now j k0 k x e h s name =
    on_end leaves start.book.land.terrain name _ _ (place_of start) (place_of now) s s k0 k (h.fly s name) x
    (ap (λ (m : ℕ). fold publish_of (run_from now.book.plan.state) (reverse (range_with_len 0 m))) e)
