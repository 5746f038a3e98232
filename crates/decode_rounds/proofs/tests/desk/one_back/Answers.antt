use Rattle.std.proofs.Common.{◌+◌, ◌<◌, arith}
use Rattle.decode_rounds.proofs.Homes.{rest_stays}
use Rattle.decode_rounds.proofs.tests.desk.one_back.Goals as goal

pub returns-in-Filled-clause-rest : goal.returns-in-Filled-clause-rest
returns-in-Filled-clause-rest g c =
    let low : c.args.pass < c.args.pass + 1 = omega arith in
    λ rest h. rest_stays c.args.pass _ _ c.args.book.now c.give_back.new.self c.give_back.ensures.does c.others_keep_parts.ensures (c.args.pass + 1) rest low h
