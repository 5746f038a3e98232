use Rattle.std.proofs.Common.{◌∙◌, sym}
use Rattle.store_reader.proofs.HeaderBytes.{FirstFour, four_of_few, four_of_many, begins_from, begins_to}
use Rattle.store_reader.proofs.header.begins_as.Goals as goal
use Rattle.store_reader.proofs.header.begins_as.Goals.{then-bytes-lt4, else-bytes-lt4}

pub returns : goal.returns
returns c =
    let n = c.if-bytes-lt4.length in
    let bytes = c.args.bytes.now in
    let four : FirstFour n bytes = elim c.if-bytes-lt4.branch [ then-bytes-lt4 w ↦ four_of_few n bytes w.length-is w.if-bytes-lt4.true | else-bytes-lt4 w ↦ four_of_many n bytes w.length-is w.if-bytes-lt4.false ] in
    ((λ t. begins_from n c.args.version bytes four (sym (sym c.eq.ensures ∙ t))), (λ b. c.eq.ensures ∙ begins_to n c.args.version bytes four b))
