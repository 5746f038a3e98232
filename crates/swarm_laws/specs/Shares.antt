-- What each pass of a swarm is asked, and what its own entries make of it.
use Rattle.std.specs.Prelude.{◌≡◌, ℕ, ◌+◌, ◌<◌, ◌≤◌, ◌&&◌, ◌==◌, nat_le, nat_lt, ◌⊎◌, List, [], ◌++◌, length, if◌then◌else◌}
use Rattle.plan_model.specs.declared.events.Entry.{Entry}
use Rattle.swarm_laws.specs.Runs.{Place, Orders, moves_made, claims_in, begins_in, publications_in, ripes_in, IsOrderly, IsFront}

-- what a pass is asked: moves, a number of claims, and a number of beginnings
pub record Share : Type 0 where
  pub moves : List Place
  pub claims : ℕ
  pub begins : ℕ

-- what two shares ask together
abbrev pub both_shares : Share → Share → Share
both_shares a b = record { moves = a.moves ++ b.moves; claims = a.claims + b.claims; begins = a.begins + b.begins }

-- no share, and shares of moves alone, of claims alone and of beginnings alone
abbrev pub no_share : Share
no_share = record { moves = []; claims = 0; begins = 0 }

abbrev pub moves_share : List Place → Share
moves_share moves = record { moves = moves; claims = 0; begins = 0 }

abbrev pub claims_share : ℕ → Share
claims_share claims = record { moves = []; claims = claims; begins = 0 }

abbrev pub begins_share : ℕ → Share
begins_share begins = record { moves = []; claims = 0; begins = begins }

-- pass 0 is the mover, the workers come after it, and then the renderers; the other passes are asked nothing
abbrev pub share_of : Orders → ℕ → Share
share_of orders p = record {
  moves = if p == 0 then orders.moves else [];
  claims = if nat_le 1 p && nat_lt p (1 + orders.workers) then orders.claims else 0;
  begins =
      if nat_le (1 + orders.workers) p && nat_lt p ((1 + orders.workers) + orders.renderers) then orders.begins else 0;
}

-- a pass's entries do all of its share
pub record DoAll (share : Share) (own : List Entry) : Type 0 where
  pub moves : moves_made own ≡ share.moves
  pub claims : claims_in own ≡ share.claims
  pub begins : begins_in own ≡ share.begins
  pub publications : (level : ℕ) → publications_in level own ≡ ripes_in level own

-- they do no more than it
pub record DoNoMore (share : Share) (own : List Entry) : Type 0 where
  pub moves : IsFront (moves_made own) share.moves
  pub claims : claims_in own ≤ share.claims
  pub begins : begins_in own ≤ share.begins
  pub publications : (level : ℕ) → publications_in level own ≤ ripes_in level own

-- some of it is lacking
abbrev pub DoLess : Share → List Entry → Type 0
DoLess share own =
    (length (moves_made own) < length share.moves)
    ⊎ ((claims_in own < share.claims)
    ⊎ ((begins_in own < share.begins)
    ⊎ ((level : ℕ) × (publications_in level own < ripes_in level own))))

-- they are in order, and do no more than the share
pub record IsPart (share : Share) (own : List Entry) : Type 0 where
  pub orderly : IsOrderly own
  pub bound : DoNoMore share own
