-- What lasts over some events of a run, one after the other.
use Rattle.std.proofs.Common.{◌≡◌, ℕ, suc, ◌+◌, ◌-◌, ◌<◌, ◌≤◌, Bool, true, false, ◌&&◌, [], ◌∷◌, ◌++◌, fold, reverse, sum_by, zero-add, refl, ap, sym, ◌∙◌, arith}
use mathlib.Core.Path.{ap₂}
use Rattle.std.specs.List.{range_with_len, list_all}
use Rattle.std.proofs.Math.Bool.{and-true}
use Rattle.std.proofs.lemmas.List.Folds.{list_all-append}
use Rattle.std.proofs.lemmas.List.Sums.{fold-append, sum_by-append}
use Rattle.plan_model.specs.Steps.{step}
use Rattle.plan_model.specs.Histories.{Run, then_step}
use Rattle.plan_model.specs.Rounds.{is_job, claims, is_settled, rounds, round}
use Rattle.plan_model.specs.declared.events.Event.TheVariants.{Claim}
use Rattle.plan_plain.specs.SoundRuns.{IsSoundRun}
use Rattle.plan_plain.specs.Flights.{IsAfter}
use Rattle.plan_plain.proofs.Ranges.{ranged_from}
use Rattle.plan_plain_pieces.proofs.Rows.{ranged}
use Rattle.plan_plain_steps.proofs.Ranges.{down}

pub after_none : (run : Run) → IsSoundRun run → IsAfter 0 run run
after_none run h = record { sound = h; few = omega arith; k = refl; levels = refl }

pub after_both : (m n most : ℕ) (a b c : Run) → m + n ≤ most → IsAfter m a b → IsAfter n b c → IsAfter most a c
after_both m n most a b c h f g = record {
  sound = g.sound;
  few = omega (arith, f.few, g.few, h);
  k = g.k ∙ f.k;
  levels = g.levels ∙ f.levels;
}

pub after_more : (m n : ℕ) (a b : Run) → m ≤ n → IsAfter m a b → IsAfter n a b
after_more m n a b h f = record { sound = f.sound; few = omega (arith, f.few, h); k = f.k; levels = f.levels }

-- ---- claims, by the passes that are left
front : (p w : ℕ) → p < w → range_with_len p (w - p) ≡ p ∷ range_with_len (p + 1) (w - (p + 1))
front p w h =
    let e : w - p ≡ suc (w - (p + 1)) = omega arith in
    ap (λ (m : ℕ). range_with_len p m) e

pub claims_on : (run : Run) (p w : ℕ) → p < w → is_job (step run.state p Claim).answer ≡ true → claims (then_step run p Claim) (range_with_len (p + 1) (w - (p + 1))) ≡ claims run (range_with_len p (w - p))
claims_on run p w h job = rw (front p w h, job) refl

pub claims_end : (run : Run) (p w : ℕ) → p < w → is_job (step run.state p Claim).answer ≡ false → then_step run p Claim ≡ claims run (range_with_len p (w - p))
claims_end run p w h job = rw (front p w h, job) refl

pub claims_none : (run : Run) (p w : ℕ) → w ≤ p → claims run (range_with_len p (w - p)) ≡ run
claims_none run p w h =
    let e : w - p ≡ 0 = omega arith in
    ap (λ (m : ℕ). claims run (range_with_len p m)) e

-- ---- a fold over passes or over levels
pub folded_more : (f : Run → ℕ → Run) (start old new : Run) (i : ℕ) → old ≡ fold f start (range_with_len 0 i) → new ≡ f old i → new ≡ fold f start (range_with_len 0 (i + 1))
folded_more f start old new i e g =
    g ∙ ap (λ (run : Run). f run i) e ∙ sym (fold-append f start (range_with_len 0 i) (i ∷ [])) ∙ ap (fold f start) (sym (ranged i))

pub folded_down : (f : Run → ℕ → Run) (start old new : Run) (j n : ℕ) → 0 < j → j ≤ n → old ≡ fold f start (reverse (range_with_len j (n - j))) → new ≡ f old (j - 1) → new ≡ fold f start (reverse (range_with_len (j - 1) (n - (j - 1))))
folded_down f start old new j n some few e g =
    let back : j ≡ (j - 1) + 1 = omega arith in
    let below : j - 1 < n = omega arith in
    g ∙ ap (λ (run : Run). f run (j - 1)) e ∙ sym (fold-append f start (reverse (range_with_len j (n - j))) ((j - 1) ∷ [])) ∙ ap (λ (i : ℕ). fold f start (reverse (range_with_len i (n - i)) ++ (j - 1) ∷ [])) back ∙ ap (fold f start) (sym (down (j - 1) n below))

-- ---- the levels in use
pub settled_more : (p : ℕ → Bool) (a i : ℕ) (old whole : Bool) → a ≤ i → whole ≡ p i → old ≡ list_all p (range_with_len a (i - a)) → (old && whole) ≡ list_all p (range_with_len a (i + 1 - a))
settled_more p a i old whole h e g =
    ap₂ (λ (x y : Bool). x && y) g (e ∙ sym (and-true (p i))) ∙ sym (list_all-append p (range_with_len a (i - a)) (i ∷ [])) ∙ ap (list_all p) (sym (ranged_from a i h))

one_summed : (f : ℕ → ℕ) (i : ℕ) → f i ≡ sum_by f (i ∷ [])
one_summed f i = sym (zero-add (f i))

pub summed_more : (f : ℕ → ℕ) (a i old cells : ℕ) → a ≤ i → cells ≡ f i → old ≡ sum_by f (range_with_len a (i - a)) → old + cells ≡ sum_by f (range_with_len a (i + 1 - a))
summed_more f a i old cells h e g =
    ap₂ (λ (x y : ℕ). x + y) g (e ∙ one_summed f i) ∙ sym (sum_by-append f (range_with_len a (i - a)) (i ∷ [])) ∙ ap (sum_by f) (sym (ranged_from a i h))

-- ---- rounds, by those that are left
pub rounds_on : (workers i most : ℕ) (run : Run) → i < most → is_settled run.state ≡ false → rounds (most - (i + 1)) workers (round workers run) ≡ rounds (most - i) workers run
rounds_on workers i most run h e =
    let left : most - i ≡ suc (most - (i + 1)) = omega arith in
    rw (left, e) refl

pub rounds_end : (workers i most : ℕ) (run : Run) → i < most → is_settled run.state ≡ true → rounds (most - i) workers run ≡ run
rounds_end workers i most run h e =
    let left : most - i ≡ suc (most - (i + 1)) = omega arith in
    rw (left, e) refl

pub rounds_none : (workers i most : ℕ) (run : Run) → most ≤ i → rounds (most - i) workers run ≡ run
rounds_none workers i most run h =
    let left : most - i ≡ 0 = omega arith in
    ap (λ (m : ℕ). rounds m workers run) left
