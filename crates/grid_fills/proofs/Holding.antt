-- The jobs of a book's passes after an event.
use Rattle.std.proofs.Common.{◌≡◌, ℕ, zero, suc, replicate, refl, ◌<◌, [], ◌∷◌, ◌++◌, take, arith, true, List, length, get_or, set, Option, Some, None, ap, sym, ◌∙◌, subst, inl, inr}
use Rattle.std.proofs.lemmas.Bool.{cases_eq}
use Rattle.std.proofs.lemmas.List.{get_or-set_same, get_or-set_other}
use Rattle.plan_model.specs.States.{State, Pass, pass_at, job_of}
use Rattle.plan_model.specs.declared.events.Work.TheVariants.{Free}
use Rattle.plan_model.specs.Steps.{step}
use Rattle.plan_model.specs.Laws.{is_refusal, RefusalsChangeNothing}
use Rattle.plan_model.specs.declared.events.Event.{Event}
use Rattle.plan_model.specs.declared.events.Answer.{Answer}
use Rattle.plan_histories.specs.Parts.{OthersKeepParts}
use Rattle.plan_holds.proofs.Passes.{some_same}
use Rattle.terrain_model.specs.Terrain.{Terrain}
use Rattle.terrain_store.specs.Shapes.{Land, IsLand}
use Rattle.terrain_store.specs.Stores.{Stored, land_of}
use Rattle.clip_book.specs.Tiles.{handed_to}
use Rattle.clip_book.specs.Jobs.{JobView}
use Rattle.clip_book.specs.Books.{BookView, Does, IsJobOf}
use Rattle.grid_fills.specs.Holding.{HoldsJobs, AreKept}

module _ (p : ℕ) (event : Event) (answer : Answer) (old new : BookView) (does : Does p event answer old new) where
  -- another pass's job is the book's still
  pub other_stays : OthersKeepParts → (q : ℕ) (job : JobView) → (q ≡ p → ⊥) → IsJobOf old q job → IsJobOf new q job
  other_stays others q job ne its = record {
    land = its.land ∙ sym does.land;
    note = ap job_of (ap (λ (st : State). pass_at st q) does.plan.state ∙ others old.plan.state p q event (λ e. ne (sym e))) ∙ its.note;
    tile = its.tile ∙ sym (does.others q ne);
  }

  -- where the pass has no job
  pub others_stay : OthersKeepParts → (jobs : List (Option JobView)) → get_or jobs p None ≡ None → HoldsJobs old jobs → HoldsJobs new jobs
  others_stay others jobs none holds q job e =
      elim (cases_eq q p) [
        | inl same ↦ absurd (some_none job (sym e ∙ ap (λ (n : ℕ). get_or jobs n None) same ∙ none))
        | inr ne ↦ other_stays others q job ne (holds q job e)
      ]
    where
      some_none : (job : JobView) → Some job ≡ None → ⊥
      some_none job e = cc

  -- where the pass has a new one, or none any more
  pub set_stays : OthersKeepParts → (jobs : List (Option JobView)) (its : Option JobView) → p < length jobs → ((job : JobView) → its ≡ Some job → IsJobOf new p job) → HoldsJobs old jobs → HoldsJobs new (set jobs p its)
  set_stays others jobs its there given holds q job e =
      elim (cases_eq q p) [
        | inl same ↦ subst (λ (n : ℕ). IsJobOf new n job) (sym same) (given job (sym (get_or-set_same jobs p its None there) ∙ ap (λ (n : ℕ). get_or (set jobs p its) n None) (sym same) ∙ e))
        | inr ne ↦ other_stays others q job ne (holds q job (sym (get_or-set_other jobs p q its None ne) ∙ e))
      ]

  pub new_stays : OthersKeepParts → (jobs : List (Option JobView)) (its : JobView) → p < length jobs → IsJobOf new p its → HoldsJobs old jobs → HoldsJobs new (set jobs p (Some its))
  new_stays others jobs its there given holds =
      set_stays others jobs (Some its) there (λ job e. subst (IsJobOf new p) (some_same e) given) holds

  -- where nothing changes
  pub refused_stays : RefusalsChangeNothing → (jobs : List (Option JobView)) → is_refusal answer ≡ true → new.handed ≡ old.handed → HoldsJobs old jobs → HoldsJobs new jobs
  refused_stays law jobs r same holds q job e =
      let its : IsJobOf old q job = holds q job e in
      let st : new.plan.state ≡ old.plan.state = does.plan.state ∙ law old.plan.state p event (ap is_refusal does.plan.answered ∙ r) in
      record {
        land = its.land ∙ sym does.land;
        note = ap (λ (s : State). job_of (pass_at s q)) st ∙ its.note;
        tile = its.tile ∙ sym (ap (λ h. handed_to h q) same);
      }

  -- where no pass's part changes
  pub quiet_stays : (jobs : List (Option JobView)) → (step old.plan.state p event).state.passes ≡ old.plan.state.passes → new.handed ≡ old.handed → HoldsJobs old jobs → HoldsJobs new jobs
  quiet_stays jobs parts same holds q job e =
      let its : IsJobOf old q job = holds q job e in
      let st : new.plan.state.passes ≡ old.plan.state.passes = ap (λ (s : State). s.passes) does.plan.state ∙ parts in
      record {
        land = its.land ∙ sym does.land;
        note = ap (λ (l : List Pass). job_of (get_or l q Free)) st ∙ its.note;
        tile = its.tile ∙ sym (ap (λ h. handed_to h q) same);
      }

-- ---- a book with its jobs
pub next_kept : (grid : Terrain) (old new : BookView) (jobs jobs' : List (Option JobView)) → AreKept (record { terrain = grid; book = old; jobs = jobs }) → new.land ≡ old.land → length jobs' ≡ 16 → HoldsJobs new jobs' → AreKept (record { terrain = grid; book = new; jobs = jobs' })
next_kept grid old new jobs jobs' kept land many holds = record {
  terrain = ap (λ (l : Land). l.terrain) land ∙ kept.terrain;
  land = subst IsLand (sym land) kept.land;
  many = many;
  jobs = holds;
}

abbrev no_job : Option JobView
no_job = None

none_there : (n p : ℕ) → get_or (replicate n no_job) p None ≡ None
none_there zero p = refl
none_there (suc n) zero = refl
none_there (suc n) (suc p) = none_there n p

length_none : (n : ℕ) → length (replicate n no_job) ≡ n
length_none zero = refl
length_none (suc n) = ap suc (length_none n)

none_is : (job : JobView) → None ≡ Some job → ⊥
none_is job e = cc

pub start_kept : (grid : Terrain) (store : Stored) (shape : Land) (book : BookView) (jobs : List (Option JobView)) → grid ≡ store.terrain → shape ≡ land_of store → IsLand shape → book.land ≡ shape → jobs ≡ replicate 16 None → AreKept (record { terrain = grid; book = book; jobs = jobs })
start_kept grid store shape book jobs g s sound b j = record {
  terrain = ap (λ (l : Land). l.terrain) (b ∙ s) ∙ sym g;
  land = subst IsLand (sym b) sound;
  many = ap (λ (l : List (Option JobView)). length l) j ∙ length_none 16;
  jobs = λ p job e. absurd (none_is job (sym (none_there 16 p) ∙ ap (λ (l : List (Option JobView)). get_or l p None) (sym j) ∙ e));
}

-- a list that was lent and handed back whole
pub buffer_is : {X : Type 0} (n : ℕ) (new rest : List X) → n ≡ length new → take n (new ++ rest) ≡ new
buffer_is n [] rest e = ap (λ m. take m rest) e
buffer_is n (x ∷ new) rest e =
    ap (λ m. take m (x ∷ new ++ rest)) e ∙ ap (λ xs. x ∷ xs) (buffer_is (length new) new rest refl)

-- what is there is read with any default
pub any_default : {X : Type 0} (xs : List X) (n : ℕ) (d e : X) → n < length xs → get_or xs n d ≡ get_or xs n e
any_default [] n d e l = absurd (omega arith)
any_default (x ∷ xs) zero d e l = refl
any_default (x ∷ xs) (suc n) d e l = any_default xs n d e (omega arith)
