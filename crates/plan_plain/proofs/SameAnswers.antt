-- Two answers are one exactly where the derived comparison says so.
use Rattle.std.proofs.Common.{◌≡◌, ℕ, ℤ, Bool, true, false, ◌&&◌, eqb, int_eq, refl, sym, ap, ◌∙◌, rules}
use Rattle.std.proofs.lemmas.Bool.{true≢false, and_parts}
use mathlib.Core.Path.{ap₂}
use Rattle.plan_model.specs.contracts.events.AnswerPartialEq.TheImpl as answers
use Rattle.clip_regions.specs.declared.region.Region.{Region}
use Rattle.plan_model.specs.declared.tiles.TileId.{TileId}
use Rattle.plan_model.specs.declared.events.Answer.{Answer}
use Rattle.plan_model.specs.declared.events.Answer.TheVariants.{Moved, Job, Idle, Ripe, Busy, Held, HasWork, Kept, Stale, Grown, Waiting, Whole, Frame, Closed, NoFrame}
use Rattle.clip_regions.proofs.Cells.{corners}

abbrev Same : Answer → Answer → Type 0
Same a b = ((answers.ghosts).eq a b ≡ true → a ≡ b) × (a ≡ b → (answers.ghosts).eq a b ≡ true)

same_integer : (a b : ℤ) → (int_eq a b ≡ true → a ≡ b) × (a ≡ b → int_eq a b ≡ true)
same_integer a b = search rules

same_natural : (a b : ℕ) → (eqb a b ≡ true → a ≡ b) × (a ≡ b → eqb a b ≡ true)
same_natural a b = search rules

both_true : (a b : Bool) → a ≡ true → b ≡ true → (a && b) ≡ true
both_true a b e g = ap₂ (λ (x y : Bool). x && y) e g

-- regions are one where their corners are
abbrev corners_eq : Region → Region → Bool
corners_eq r r' = int_eq r.x0 r'.x0 && (int_eq r.y0 r'.y0 && (int_eq r.x1 r'.x1 && int_eq r.y1 r'.y1))

region_from : (r r' : Region) → corners_eq r r' ≡ true → r ≡ r'
region_from r r' e =
    let west : (int_eq r.x0 r'.x0 ≡ true) × ((int_eq r.y0 r'.y0 && (int_eq r.x1 r'.x1 && int_eq r.y1 r'.y1)) ≡ true) = and_parts (int_eq r.x0 r'.x0) (int_eq r.y0 r'.y0 && (int_eq r.x1 r'.x1 && int_eq r.y1 r'.y1)) e in
    let north : (int_eq r.y0 r'.y0 ≡ true) × ((int_eq r.x1 r'.x1 && int_eq r.y1 r'.y1) ≡ true) = and_parts (int_eq r.y0 r'.y0) (int_eq r.x1 r'.x1 && int_eq r.y1 r'.y1) west.1 in
    let east : (int_eq r.x1 r'.x1 ≡ true) × (int_eq r.y1 r'.y1 ≡ true) = and_parts (int_eq r.x1 r'.x1) (int_eq r.y1 r'.y1) north.1 in
    ap (λ (v : ℤ). corners v r.y0 r.x1 r.y1) ((same_integer r.x0 r'.x0).0 west.0) ∙ ap (λ (v : ℤ). corners r'.x0 v r.x1 r.y1) ((same_integer r.y0 r'.y0).0 north.0) ∙ ap (λ (v : ℤ). corners r'.x0 r'.y0 v r.y1) ((same_integer r.x1 r'.x1).0 east.0) ∙ ap (λ (v : ℤ). corners r'.x0 r'.y0 r'.x1 v) ((same_integer r.y1 r'.y1).0 east.1)

region_to : (r r' : Region) → r ≡ r' → corners_eq r r' ≡ true
region_to r r' e =
    both_true (int_eq r.x0 r'.x0) (int_eq r.y0 r'.y0 && (int_eq r.x1 r'.x1 && int_eq r.y1 r'.y1)) ((same_integer r.x0 r'.x0).1 (ap (λ (q : Region). q.x0) e)) (both_true (int_eq r.y0 r'.y0) (int_eq r.x1 r'.x1 && int_eq r.y1 r'.y1) ((same_integer r.y0 r'.y0).1 (ap (λ (q : Region). q.y0) e)) (both_true (int_eq r.x1 r'.x1) (int_eq r.y1 r'.y1) ((same_integer r.x1 r'.x1).1 (ap (λ (q : Region). q.x1) e)) ((same_integer r.y1 r'.y1).1 (ap (λ (q : Region). q.y1) e))))

job_from : (level plan level' plan' : ℕ) (bx by bx' by' : ℤ) (cells cells' : Region) → (eqb level level' && (int_eq bx bx' && (int_eq by by' && (corners_eq cells cells' && eqb plan plan')))) ≡ true → Job level bx by cells plan ≡ Job level' bx' by' cells' plan'
job_from level plan level' plan' bx by bx' by' cells cells' e =
    let first : (eqb level level' ≡ true) × ((int_eq bx bx' && (int_eq by by' && (corners_eq cells cells' && eqb plan plan'))) ≡ true) = and_parts (eqb level level') (int_eq bx bx' && (int_eq by by' && (corners_eq cells cells' && eqb plan plan'))) e in
    let second : (int_eq bx bx' ≡ true) × ((int_eq by by' && (corners_eq cells cells' && eqb plan plan')) ≡ true) = and_parts (int_eq bx bx') (int_eq by by' && (corners_eq cells cells' && eqb plan plan')) first.1 in
    let third : (int_eq by by' ≡ true) × ((corners_eq cells cells' && eqb plan plan') ≡ true) = and_parts (int_eq by by') (corners_eq cells cells' && eqb plan plan') second.1 in
    let fourth : (corners_eq cells cells' ≡ true) × (eqb plan plan' ≡ true) = and_parts (corners_eq cells cells') (eqb plan plan') third.1 in
    let a : level ≡ level' = (same_natural level level').0 first.0 in
    let b : bx ≡ bx' = (same_integer bx bx').0 second.0 in
    let d : by ≡ by' = (same_integer by by').0 third.0 in
    let f : cells ≡ cells' = region_from cells cells' fourth.0 in
    let g : plan ≡ plan' = (same_natural plan plan').0 fourth.1 in
    cc

job_to : (level plan level' plan' : ℕ) (bx by bx' by' : ℤ) (cells cells' : Region) → Job level bx by cells plan ≡ Job level' bx' by' cells' plan' → (eqb level level' && (int_eq bx bx' && (int_eq by by' && (corners_eq cells cells' && eqb plan plan')))) ≡ true
job_to level plan level' plan' bx by bx' by' cells cells' e =
    let a : level ≡ level' = cc in
    let b : bx ≡ bx' = cc in
    let d : by ≡ by' = cc in
    let f : cells ≡ cells' = cc in
    let g : plan ≡ plan' = cc in
    both_true (eqb level level') (int_eq bx bx' && (int_eq by by' && (corners_eq cells cells' && eqb plan plan'))) ((same_natural level level').1 a) (both_true (int_eq bx bx') (int_eq by by' && (corners_eq cells cells' && eqb plan plan')) ((same_integer bx bx').1 b) (both_true (int_eq by by') (corners_eq cells cells' && eqb plan plan') ((same_integer by by').1 d) (both_true (corners_eq cells cells') (eqb plan plan') (region_to cells cells' f) ((same_natural plan plan').1 g))))

same_job : (level plan level' plan' : ℕ) (bx by bx' by' : ℤ) (cells cells' : Region) → Same (Job level bx by cells plan) (Job level' bx' by' cells' plan')
same_job level plan level' plan' bx by bx' by' cells cells' =
    (job_from level plan level' plan' bx by bx' by' cells cells', job_to level plan level' plan' bx by bx' by' cells cells')

same_busy : (level frame level' frame' : ℕ) (tile tile' : TileId) → Same (Busy level tile frame) (Busy level' tile' frame')
same_busy level frame level' frame' tile tile' = search rules

same_held : (level pass level' pass' : ℕ) (tile tile' : TileId) → Same (Held level tile pass) (Held level' tile' pass')
same_held level pass level' pass' tile tile' = search rules

same_stale : (plan now plan' now' : ℕ) → Same (Stale plan now) (Stale plan' now')
same_stale plan now plan' now' = search rules

same_grown : (r r' : Region) → Same (Grown r) (Grown r')
same_grown r r' = (λ e. ap Grown (region_from r r' e), λ e. region_to r r' (cc))

same_ripe : (n n' : ℕ) → Same (Ripe n) (Ripe n')
same_ripe n n' = search rules

same_waiting : (n n' : ℕ) → Same (Waiting n) (Waiting n')
same_waiting n n' = search rules

same_frame : (n n' : ℕ) → Same (Frame n) (Frame n')
same_frame n n' = search rules

same_closed : (n n' : ℕ) → Same (Closed n) (Closed n')
same_closed n n' = search rules

-- answers of two kinds differ
other : (P : Type 0) → (P → ⊥) → (false ≡ true → P) × (P → false ≡ true)
other P h = (λ e. absurd (true≢false (sym e)), λ p. absurd (h p))

pub same_answers : (a b : Answer) → Same a b
same_answers Moved Moved = (λ e. refl, λ e. refl)
same_answers (Job level bx by cells plan) (Job level' bx' by' cells' plan') = same_job level plan level' plan' bx by bx' by' cells cells'
same_answers Idle Idle = (λ e. refl, λ e. refl)
same_answers (Ripe n) (Ripe n') = same_ripe n n'
same_answers (Busy level tile frame) (Busy level' tile' frame') = same_busy level frame level' frame' tile tile'
same_answers (Held level tile pass) (Held level' tile' pass') = same_held level pass level' pass' tile tile'
same_answers HasWork HasWork = (λ e. refl, λ e. refl)
same_answers Kept Kept = (λ e. refl, λ e. refl)
same_answers (Stale plan now) (Stale plan' now') = same_stale plan now plan' now'
same_answers (Grown r) (Grown r') = same_grown r r'
same_answers (Waiting n) (Waiting n') = same_waiting n n'
same_answers Whole Whole = (λ e. refl, λ e. refl)
same_answers (Frame n) (Frame n') = same_frame n n'
same_answers (Closed n) (Closed n') = same_closed n n'
same_answers NoFrame NoFrame = (λ e. refl, λ e. refl)
same_answers a b = other (a ≡ b) (λ e. cc)
