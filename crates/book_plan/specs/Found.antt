-- The first of two that may be there, and the earlier of two tiles.
use Rattle.std.specs.Prelude.{◌≡◌, ◌≤◌, ℕ, Bool, true, false, ◌&&◌, ◌||◌, ◌==◌, nat_lt, List, [], ◌∷◌, map, fold, slice_index_or, unwrap_or, Option, Some, None, if◌then◌else◌}
use Rattle.clip_regions.specs.declared.region.Region.{Region}
use Rattle.clip_regions.specs.Regions.{empty_region}
use Rattle.plan_model.specs.Blocks.{tile_of}
use Rattle.plan_model.specs.Tiles.{meets_tile, lesser}
use Rattle.plan_model.specs.States.{State, Pass, OpenFrame, job_of}
use Rattle.plan_model.specs.Claims.{held_tiles, held_answer}
use Rattle.plan_model.specs.declared.events.Answer.{Answer}
use Rattle.plan_model.specs.declared.events.Answer.TheVariants.{Idle}
use Rattle.plan_model.specs.declared.tiles.TileId.{TileId}
use Rattle.plan_model.specs.declared.events.JobNote.{JobNote}
use Rattle.plan_model.specs.declared.events.Work.TheVariants.{Free}

-- what was found first: the earlier one, where there is one, and else the later one, where it passes
abbrev pub or_found : {X : Type 0} → Option X → Bool → X → Option X
or_found (Some y) b x = Some y
or_found None true x = Some x
or_found None false x = None

-- all passes from number n on are free
abbrev pub AreFreeFrom : List Pass → ℕ → Type 0
AreFreeFrom passes n = (p : ℕ) → n ≤ p → slice_index_or passes p Free ≡ Free

-- a number that may be there, as a list
abbrev pub listed : Option ℕ → List ℕ
listed None = []
listed (Some n) = n ∷ []

-- the lesser of two numbers that may be there
abbrev pub lesser_of : Option ℕ → Option ℕ → Option ℕ
lesser_of least None = least
lesser_of least (Some n) = lesser least n

-- the number of a frame, where there is one
abbrev pub number_of : Option OpenFrame → Option ℕ
number_of None = None
number_of (Some frame) = Some frame.number

-- tile t comes before tile u: by row, then by column
unfoldable pub comes_before : TileId → TileId → Bool
comes_before t u = nat_lt t.ty u.ty || ((t.ty == u.ty) && nat_lt t.tx u.tx)

-- the earlier of two tiles that may be there
abbrev pub earlier : Option TileId → Option TileId → Option TileId
earlier first None = first
earlier None (Some t) = Some t
earlier (Some u) (Some t) = if comes_before t u then Some t else Some u

-- the tile of a job on a level, where a region meets it
abbrev pub job_under : ℕ → ℕ → Region → Option JobNote → Option TileId
job_under k level r None = None
job_under k level r (Some job) =
    if (job.level == level) && meets_tile k r (tile_of k job.piece.bx job.piece.by)
    then Some (tile_of k job.piece.bx job.piece.by) else None

-- the earliest tile of a level that a region meets and that a pass's job has
unfoldable pub first_under : ℕ → ℕ → Region → List Pass → Option TileId
first_under k level r passes = fold (λ first pass. earlier first (job_under k level r (job_of pass))) None passes

-- the answers that tell of the held tiles of a level that a region meets, and of those that its active region meets
abbrev pub answers_on : State → ℕ → Region → List Answer
answers_on st level r = map (λ t. unwrap_or (held_answer st level t) Idle) (held_tiles st level r)

abbrev pub answers_under : State → List Region → ℕ → List Answer
answers_under st active level = answers_on st level (slice_index_or active level empty_region)
