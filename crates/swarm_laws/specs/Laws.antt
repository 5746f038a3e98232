-- What is true of a swarm's runs, as statements: each is the contract of a law of this crate.
use Rattle.std.specs.Prelude.{ℕ, ◌<◌, List, All}
use Rattle.std.specs.List.Sorted.{IsPermutation}
use Rattle.plan_model.specs.declared.events.Entry.{Entry}
use Rattle.swarm_laws.specs.Runs.{Orders, entries_of, IsOrderly, IsSwarmRun, IsCutRun}
use Rattle.swarm_laws.specs.Shares.{share_of, DoAll, DoLess, IsPart}
use Rattle.swarm_laws.specs.Closings.{closings_in, closings_by}

-- where each pass's entries are in order and do all of its share, the history is a whole run
abbrev pub WholeSharesAreRuns : Type 0
WholeSharesAreRuns =
    (orders : Orders) (log : List Entry) → All (λ e. e.pass < 16) log →
    ((p : ℕ) → IsOrderly (entries_of p log)) → ((p : ℕ) → DoAll (share_of orders p) (entries_of p log)) →
    IsSwarmRun orders log

-- where each pass's entries are in order and do no more than its share, and those of one pass do less, it is a cut run
abbrev pub CutSharesAreCutRuns : Type 0
CutSharesAreCutRuns =
    (orders : Orders) (log : List Entry) → All (λ e. e.pass < 16) log →
    ((p : ℕ) → IsPart (share_of orders p) (entries_of p log)) →
    (p : ℕ) → p < 16 → DoLess (share_of orders p) (entries_of p log) → IsCutRun orders log

-- the frames that a history closes are those of its passes below n, where all of its passes are, in another order
abbrev pub FramesAreThoseOfPasses : Type 0
FramesAreThoseOfPasses =
    (k levels n : ℕ) (log : List Entry) → All (λ e. e.pass < n) log →
    IsPermutation (closings_by n (closings_in k levels log)) (closings_in k levels log)
