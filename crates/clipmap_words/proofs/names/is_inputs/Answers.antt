use Rattle.std.proofs.Common.{string_bytes, arith}
use Rattle.std.proofs.lemmas.Bool.Decides.{nat_tests}
use Rattle.clipmap_words.proofs.Lists.{is_inputs-map}
use Rattle.clipmap_words.proofs.names.is_inputs.Goals as goal

pub returns-then-is_empty : goal.returns-then-is_empty
returns-then-is_empty c = record { value = rw (is_inputs-map string_bytes c.args.words.now) (grind (arith, nat_tests)) }

pub returns-then-words-eq1 : goal.returns-then-words-eq1
returns-then-words-eq1 c = record { value = rw (is_inputs-map string_bytes c.args.words.now) (grind (arith, nat_tests)) }

pub returns-else-words-eq1 : goal.returns-else-words-eq1
returns-else-words-eq1 c = record { value = rw (is_inputs-map string_bytes c.args.words.now) (grind (arith, nat_tests)) }
