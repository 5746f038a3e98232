use Rattle.std.proofs.Common.{arith, sym, map, string_bytes}
use Rattle.std.proofs.lemmas.List.{length-map}
use Rattle.clipmap_words.proofs.Lists.{swarm_of_few}
use Rattle.clipmap_words.proofs.swarm.read_named.Goals as goal

pub returns-in_default-clause-value : goal.returns-in_default-clause-value
returns-in_default-clause-value c = sym (swarm_of_few (map string_bytes c.args.words.now) (omega (arith, length-map c.args.words.now string_bytes, c.in_default.len_below)))
