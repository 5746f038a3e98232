-- A pass may go to another thread, and a clip may be shared.
use denote.Param.Send.{IsSend, IsSync, sendable}
use Rattle.std.proofs.Crossing.{crosses}
use Rattle.std.specs.contracts.option.Option as option
use Rattle.atomic_table.specs.contracts.shared.Seat as seat
use Rattle.atomic_table.proofs.shared.Seat.TheSendSync as seats
use Rattle.atomic_table.proofs.shared.Shared.TheSendSync as shares
use Rattle.atomic_table.proofs.owned.Table.TheSendSync as tables
use Rattle.atomic_table.proofs.send_lease.SendLease.TheSendSync as leases
use Rattle.clip_book.specs.contracts.book.Book as book
use Rattle.gate_rule.specs.contracts.journal.Desk as desk
use Rattle.gate_rule.specs.contracts.journal.Journal as journal
use Rattle.gate_rule.specs.contracts.view.View as view
use Rattle.clip_gate.specs.contracts.pass.Pass as pass
use Rattle.clip_gate.specs.contracts.clip.Clip as clip

-- these searches try more lemmas than the check's own do
journal_send : IsSend journal.the_row
journal_send = search (sendable, crosses) depth 60 fits 20000

book_send : IsSend book.the_row
book_send = search (sendable, crosses) depth 60 fits 100000

desk_send : IsSend desk.the_row
desk_send = search (sendable, crosses, journal_send, book_send) depth 20 fits 10000

slot_send : IsSend (option.the_row desk.the_row)
slot_send = search (sendable, desk_send) depth 10

seat_send : IsSend (seat.the_row (option.the_row desk.the_row) view.the_row)
seat_send = seats.the_send (option.the_row desk.the_row) view.the_row slot_send

pub pass_send : IsSend pass.the_row
pass_send = search (sendable, crosses, seat_send) depth 100 fits 20000

pub clip_sync : IsSync clip.the_row
clip_sync = search (sendable, crosses, tables.the_sync, shares.the_sync, leases.the_sync, slot_send) depth 100 fits 50000
