use Rattle.std.proofs.Common.{◌∙◌, lit<, arith}
use Rattle.std.proofs.lemmas.Grind.{common_steps}
use Rattle.std.proofs.lemmas.Str.Pattern.{rfind_char}
use Rattle.std.specs.Prelude.{Some, None}
use Rattle.hgt_tiles.proofs.NameLemmas.{after_slash, no_slash}
use Rattle.hgt_tiles.proofs.names.name_in.Goals as goal

pub returns-in-Some : goal.returns-in-Some
returns-in-Some c =
    let word = c.args.word.now in
    let slash = c.in-Some.slash in
    let found = rfind_char 47 word (Some slash) c.in-Some.ensures.cases (lit< tt) in
    let name = after_slash word slash found.0 found.1 found.2 in
    rw c.as_bytes-bytes.ensures.value (grind (arith, common_steps))

pub returns-in-None : goal.returns-in-None
returns-in-None c =
    let word = c.args.word.now in
    c.as_bytes-bytes.ensures.value ∙ no_slash word (rfind_char 47 word None c.in-None.ensures.cases (lit< tt))
