-- Jobs of passes while other passes claim and give back, and the results of their tasks.
use Rattle.std.proofs.Common.{◌≡◌, ℕ, ◌+◌, ◌<◌, ◌≤◌, ℤ, List, [], ◌∷◌, ◌++◌, length, All, arith, sym, ap, subst, ◌∙◌}
use Rattle.std.specs.List.{AllZip, AllByRecursion}
use Rattle.std.proofs.lemmas.List.Elements.{All-from_recursion}
use Rattle.plan_model.specs.States.{State, pass_at, job_of}
use Rattle.plan_model.specs.declared.events.Event.{Event}
use Rattle.plan_model.specs.declared.events.Answer.{Answer}
use Rattle.plan_histories.specs.Parts.{OthersKeepParts}
use Rattle.terrain_store.specs.Shapes.{Land}
use Rattle.book_cells.specs.Cells.{IsPainted}
use Rattle.clip_book.specs.Jobs.{JobView, FilledView}
use Rattle.clip_book.specs.Tiles.{handed_to}
use Rattle.clip_book.specs.Books.{BookView, Does, IsJobOf, IsFilledOf}
use Rattle.decode_workers.specs.Fills.{FilledJobsGoBack}
use Rattle.grid_fills.proofs.Holding.{other_stays}
use Rattle.decode_rounds.specs.declared.tasks.Task.{Task}
use Rattle.decode_rounds.specs.declared.tasks.Task.TheVariants as T
use Rattle.decode_rounds.specs.declared.tasks.Done.{Done}
use Rattle.decode_rounds.specs.declared.tasks.Done.TheVariants as D
use Rattle.decode_rounds.specs.Rounds.{IsTaskOf, IsDoneOf}
use Rattle.decode_rounds.specs.Homes.{IsJobTask, AreJobTasks, GoesBack, AllGoBack}

module _ (p : ℕ) (event : Event) (answer : Answer) (old new : BookView) (does : Does p event answer old new) (others : OthersKeepParts) where
  -- another pass's filled job still goes back
  filled_stays : (q : ℕ) (job : FilledView) → (q ≡ p → ⊥) → IsFilledOf old q job → IsFilledOf new q job
  filled_stays q job ne its = record {
    land = its.land ∙ sym does.land;
    note = ap job_of (ap (λ (st : State). pass_at st q) does.plan.state ∙ others old.plan.state p q event (λ e. ne (sym e))) ∙ its.note;
    painted = subst (λ (tile : List ℤ). IsPainted new.land.terrain job.note.level job.note.piece.cells tile job.tile) (sym (does.others q ne))
        (subst (λ (land : Land). IsPainted land.terrain job.note.level job.note.piece.cells (handed_to old.handed q) job.tile) (sym does.land) its.painted);
  }

  task_stays : (q : ℕ) (task : Task) → (q ≡ p → ⊥) → IsJobTask old q task → IsJobTask new q task
  task_stays q (T.Draw by) ne h = absurd h
  task_stays q (T.Fill by job) ne h = (h.0, other_stays p event answer old new does others q job ne h.1)

  -- a pass behind those of the tasks
  pub tasks_stay : (q : ℕ) (tasks : List Task) → q + length tasks ≤ p → AreJobTasks old q tasks → AreJobTasks new q tasks
  tasks_stay q [] low h = tt
  tasks_stay q (task ∷ tasks) low h = (task_stays q task (λ e. absurd (omega arith)) h.0, tasks_stay (q + 1) tasks (omega arith) h.1)

  done_stays : (q : ℕ) (done : Done) → (q ≡ p → ⊥) → GoesBack old q done → GoesBack new q done
  done_stays q (D.Drawn by made) ne h = tt
  done_stays q (D.Filled by filled) ne h = (h.0, filled_stays q filled ne h.1)

  -- a pass before those of what is left
  pub rest_stays : (q : ℕ) (rest : List Done) → p < q → AllGoBack old q rest → AllGoBack new q rest
  rest_stays q [] low h = tt
  rest_stays q (done ∷ rest) low h = (done_stays q done (λ e. absurd (omega arith)) h.0, rest_stays (q + 1) rest (omega arith) h.1)

module _ (book : BookView) where
  -- one job more, of the next pass
  pub job_more : (q : ℕ) (tasks : List Task) (job : JobView) → AreJobTasks book q tasks → IsJobOf book (q + length tasks) job
      → AreJobTasks book q (tasks ++ T.Fill (q + length tasks) job ∷ [])
  job_more q [] job h its =
      let same : q ≡ q + 0 = omega arith in
      ((sym same, subst (λ (n : ℕ). IsJobOf book n job) (sym same) its), tt)
  job_more q (task ∷ tasks) job h its =
      let same : q + length (task ∷ tasks) ≡ (q + 1) + length tasks = omega arith in (
        h.0,
        subst (λ (n : ℕ). AreJobTasks book (q + 1) (tasks ++ T.Fill n job ∷ [])) (sym same)
            (job_more (q + 1) tasks job h.1 (subst (λ (n : ℕ). IsJobOf book n job) same its)),
      )

  is_task : (q : ℕ) (task : Task) → IsJobTask book q task → IsTaskOf book task
  is_task q (T.Draw by) h = absurd h
  is_task q (T.Fill by job) h = h.1.land

  each_task : (q : ℕ) (tasks : List Task) → AreJobTasks book q tasks → AllByRecursion (IsTaskOf book) tasks
  each_task q [] h = tt
  each_task q (task ∷ tasks) h = (is_task q task h.0, each_task (q + 1) tasks h.1)

  -- they are tasks of the book
  pub are_tasks : (q : ℕ) (tasks : List Task) → AreJobTasks book q tasks → All (IsTaskOf book) tasks
  are_tasks q tasks h = All-from_recursion (IsTaskOf book) tasks (each_task q tasks h)

  module _ (law : FilledJobsGoBack) where
    back : (q : ℕ) (task : Task) (done : Done) → IsJobTask book q task → IsDoneOf book task done → GoesBack book q done
    back q (T.Draw by) done h d = absurd h
    back q (T.Fill by job) (D.Drawn other made) h d = absurd d
    back q (T.Fill by job) (D.Filled other filled) h d = (d.0 ∙ h.0, law book q job filled h.1 d.1)

    -- what is done of them goes back, also where draws come behind them
    pub all_back : (q : ℕ) (tasks more : List Task) (dones : List Done) → AreJobTasks book q tasks
        → ((r : ℕ) (rest : List Done) → AllZip (IsDoneOf book) more rest → AllGoBack book r rest)
        → AllZip (IsDoneOf book) (tasks ++ more) dones → AllGoBack book q dones
    all_back q [] more dones h f z = f q dones z
    all_back q (task ∷ tasks) more [] h f z = absurd z
    all_back q (task ∷ tasks) more (done ∷ dones) h f z = (back q task done h.0 z.0, all_back (q + 1) tasks more dones h.1 f z.1)

  drawn_back : (r : ℕ) (by : ℕ) (done : Done) → IsDoneOf book (T.Draw by) done → GoesBack book r done
  drawn_back r by (D.Drawn other made) d = tt
  drawn_back r by (D.Filled other filled) d = absurd d

  -- one draw
  pub draw_back : (by : ℕ) (r : ℕ) (rest : List Done) → AllZip (IsDoneOf book) (T.Draw by ∷ []) rest → AllGoBack book r rest
  draw_back by r [] z = absurd z
  draw_back by r (done ∷ []) z = (drawn_back r by done z.0, tt)
  draw_back by r (done ∷ (other ∷ rest)) z = absurd z.1

  -- or nothing
  pub none_back : (r : ℕ) (rest : List Done) → AllZip (IsDoneOf book) [] rest → AllGoBack book r rest
  none_back r [] z = tt
  none_back r (done ∷ rest) z = absurd z
