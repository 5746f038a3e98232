use Rattle.std.proofs.Common.{rules, length}
use Rattle.store_reader.proofs.Bands.{ends_both}
use Rattle.store_reader.proofs.beside.+fn-read_parts-join_mut+arg2+fn-read_parts-join_mut+arg3+read_parts.Goals as goal

pub returns : goal.returns
returns g t c =
    ends_both c.args.reading c.args.band c.in-Some.front c.in-Some.back c.north-1.given.0 c.south-1.given.0 c.in_ok-first.field-0 c.join_mut-first.result.0 c.join_mut-first.result.1 (length c.args.table.now) c.requires.band c.in-Some.ensures
    (search rules) c.in_ok-first.was (search rules) (search rules)
