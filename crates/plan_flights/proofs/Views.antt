-- What two states share that have one viewer, one K and as many levels: the levels in use, the windows, and the strips of what is filled alike.
use Rattle.std.proofs.Common.{◌≡◌, ℕ, ◌-◌, ◌==◌, Bool, not, cond, ◌&&◌, List, length, length-set, Option, Some, None, refl, ap, ◌∙◌}
use Rattle.std.proofs.lemmas.Bool.{cond_both}
use Rattle.std.specs.List.{filter}
use Rattle.std.specs.Option.{is_some}
use mathlib.Core.Path.{ap₂}
use Rattle.clip_regions.specs.declared.region.Region.{Region}
use Rattle.clip_regions.specs.Regions.{area, meet}
use Rattle.plan_model.specs.Strips.{first_of, current_strip}
use Rattle.plan_model.specs.States.{State, Level, OpenFrame, level_at, pass_at, window_at, filled_at, finest_at, is_used, levels_used, job_of, frame_of, has_work}
use Rattle.plan_model.specs.Claims.{Offer, offers, strip_at, strip_pieces, is_finished, unfinished_pieces}
use Rattle.plan_model.specs.Steps.{Step, claimed, claim_step, finished_job, given_back, finish_step, published, publish_step, ended, end_step}
use Rattle.plan_model.specs.Rounds.{is_ripe, unfilled_cells}
use Rattle.plan_model.specs.declared.tiles.Piece.{Piece}
use Rattle.plan_model.specs.declared.events.JobNote.{JobNote}

pub record SameView (a b : State) : Type 0 where
  pub k : b.k ≡ a.k
  pub x : b.x ≡ a.x
  pub y : b.y ≡ a.y
  pub altitude : b.altitude ≡ a.altitude
  pub count : length b.levels ≡ length a.levels

pub same_view : (a : State) → SameView a a
same_view a = record { k = refl; x = refl; y = refl; altitude = refl; count = refl }

pub view_then : (a b c : State) → SameView a b → SameView b c → SameView a c
view_then a b c v w = record { k = w.k ∙ v.k; x = w.x ∙ v.x; y = w.y ∙ v.y; altitude = w.altitude ∙ v.altitude; count = w.count ∙ v.count }

-- ---- what they share
pub finest_same : (a b : State) → SameView a b → finest_at b ≡ finest_at a
finest_same a b v = cc

pub used_same : (a b : State) (level : ℕ) → SameView a b → is_used b level ≡ is_used a level
unfolding is_used
used_same a b level v = let f : finest_at b ≡ finest_at a = finest_same a b v in cc

pub levels_same : (a b : State) → SameView a b → levels_used b ≡ levels_used a
levels_same a b v = let f : finest_at b ≡ finest_at a = finest_same a b v in cc

pub window_same : (a b : State) (level : ℕ) → SameView a b → window_at b level ≡ window_at a level
window_same a b level v = cc

pub strip_same : (a b : State) (level : ℕ) → SameView a b → filled_at b level ≡ filled_at a level → strip_at b level ≡ strip_at a level
unfolding strip_at
strip_same a b level v f =
    let u : is_used b level ≡ is_used a level = used_same a b level v in
    let w : window_at b level ≡ window_at a level = window_same a b level v in
    ap₂ (λ (used : Bool) (strip : Option Region). cond used strip None) u (ap₂ current_strip f w)

pub unfinished_same : (a b : State) (level : ℕ) → SameView a b → level_at b level ≡ level_at a level → unfinished_pieces b level ≡ unfinished_pieces a level
unfolding unfinished_pieces
unfinished_same a b level v e =
    ap₂ (λ (l : Level) (strip : Option Region). filter (λ (piece : Piece). not (is_finished l.finished piece)) (strip_pieces strip)) e (strip_same a b level v (ap (λ (l : Level). l.filled) e))

pub ripe_same : (a b : State) (level : ℕ) → SameView a b → level_at b level ≡ level_at a level → is_ripe b level ≡ is_ripe a level
unfolding is_ripe
ripe_same a b level v e =
    ap₂ (λ (strip : Option Region) (pieces : List Piece). is_some strip && (length pieces == 0)) (strip_same a b level v (ap (λ (l : Level). l.filled) e)) (unfinished_same a b level v e)

pub unfilled_same : (a b : State) (level : ℕ) → SameView a b → filled_at b level ≡ filled_at a level → unfilled_cells b level ≡ unfilled_cells a level
unfolding unfilled_cells
unfilled_same a b level v f =
    ap₂ (λ (w r : Region). area w - area (meet w r)) (window_same a b level v) f

-- ---- the events that keep the view
abbrev Views : State → Step → Type 0
Views st next = SameView st next.state

view_claimed : (st : State) (p : ℕ) (offer : Option Offer) → Views st (claimed st p offer)
view_claimed st p None = same_view st
view_claimed st p (Some offer) = record { k = refl; x = refl; y = refl; altitude = refl; count = refl }

pub view_claim : (st : State) (p : ℕ) → Views st (claim_step st p)
unfolding claim_step
view_claim st p =
    cond_both (has_work (pass_at st p)) _ _ (Views st) (λ _. same_view st) (λ _. view_claimed st p (first_of (offers st)))

view_given_back : (st : State) (p : ℕ) (job : Option JobNote) → Views st (given_back st p job)
unfolding finished_job
view_given_back st p None = same_view st
view_given_back st p (Some job) =
    cond_both (job.plan == (level_at st job.level).plan) _ _ (Views st) (λ _. record { k = refl; x = refl; y = refl; altitude = refl; count = length-set st.levels job.level _ }) (λ _. record { k = refl; x = refl; y = refl; altitude = refl; count = refl })

pub view_finish : (st : State) (p : ℕ) → Views st (finish_step st p)
unfolding finish_step
view_finish st p = view_given_back st p (job_of (pass_at st p))

view_published : (st : State) (level : ℕ) (strip : Option Region) → Views st (published st level strip)
view_published st level None = same_view st
view_published st level (Some strip) =
    cond_both (length (unfinished_pieces st level) == 0) _ _ (Views st) (λ _. record { k = refl; x = refl; y = refl; altitude = refl; count = length-set st.levels level _ }) (λ _. same_view st)

pub view_publish : (st : State) (level : ℕ) → Views st (publish_step st level)
unfolding publish_step
view_publish st level = view_published st level (strip_at st level)

view_ended : (st : State) (p : ℕ) (frame : Option OpenFrame) → Views st (ended st p frame)
view_ended st p None = same_view st
view_ended st p (Some frame) = record { k = refl; x = refl; y = refl; altitude = refl; count = refl }

pub view_end : (st : State) (p : ℕ) → Views st (end_step st p)
unfolding end_step
view_end st p = view_ended st p (frame_of (pass_at st p))
