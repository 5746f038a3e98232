-- A level of copies that is lent to be written.
use denote.RattleType.{RattleType}
use Rattle.std.specs.Prelude.{ℕ, ℤ, Vec}
use Rattle.std.specs.Global.{Global}
use Rattle.std.specs.Borrow.{Lends, MutBor, Fml, i16}
use Rattle.std.specs.contracts.alloc.Global as global
use Rattle.std.specs.contracts.vec.Vec as vec
use Rattle.std.specs.contracts.impls.GlobalAllocator.TheImpl.{ghosts}
use Rattle.decode_workers.specs.Copies.{CopiesView, with_copy}
use Rattle.decode_workers.specs.contracts.copies.LevelCopies.{the_row}

-- a vector of heights, as the logic names it
abbrev pub heights_row : RattleType
heights_row = vec.the_row i16 global.the_row ghosts

-- the copies end with the last value behind the result as those of the level
abbrev pub LendsLevel : MutBor CopiesView → ℕ → MutBor (Vec ℤ Global) → Fml
LendsLevel copies level r = Lends the_row heights_row copies r (with_copy copies.now level)
