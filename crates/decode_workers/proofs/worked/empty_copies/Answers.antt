use Rattle.decode_workers.specs.Copies.{IsRoom, AreCopies}
use Rattle.decode_workers.proofs.Copying.{nothing_copied, where_ok}
use Rattle.decode_workers.proofs.worked.empty_copies.Goals as goal

pub returns : goal.returns
returns c =
    where_ok (IsRoom 4 c.args.actives.now) AreCopies c.room.result (λ copies room. nothing_copied 4 c.args.actives.now copies c.requires room) c.room.ensures.room
