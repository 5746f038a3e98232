use Rattle.std.proofs.Common.{rules, ◌≡◌, [], refl}
use Rattle.clip_book.specs.Books.{started}
use Rattle.gate_rule.specs.Rule.{first_view}
use Rattle.gate_rule.specs.Steps.{ground_in, Rests}
use Rattle.clip_gate.proofs.Seatings.{first_stands, first_whole}
use Rattle.clip_gate.proofs.clip.Clip.start.Goals as goal

pub open-requires : goal.open-requires
open-requires c =
    let plan : c.in_ok-book.book.plan ≡ started c.args.k c.args.shape = search rules in
    let land : c.in_ok-book.book.land ≡ c.args.shape = search rules in
    let empty : c.in_ok-journal.journal ≡ [] = search rules in
    first_stands c.of.result.value c.args.shape c.args.k (record { book = c.in_ok-book.book; journal = c.in_ok-journal.journal; taken = 0 }) c.of.ensures plan land empty refl

pub invariant_of-pass : goal.invariant_of-pass
invariant_of-pass c =
    let about = ground_in (record { about = c.of.result; size = c.args.k }) in
    let is : c.in_ok-table.seat.me ≡ (first_view about, []) = search rules in
    let rests : Rests c.in_ok-table.seat.me = search rules in
    first_whole c.in_ok-table.seat.table_id about c.in_ok-table.seat.me _ rests is refl
