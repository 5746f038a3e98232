use Rattle.rice_residuals.specs.declared.fault.BlockFault.TheVariants.{CutShort, LongForm, TooWide, BadPadding, Excess}
use Rattle.rice_residuals.proofs.WordRead.{accepts_from, exact_fault}
use Rattle.rice_residuals.proofs.decoding.read_block.Goals as goal

pub returns-clause-accepts : goal.returns-clause-accepts
returns-clause-accepts c =
    let e = c.read_word.ensures in
    accepts_from c.read_word.result c.args.count c.args.bytes.now e.length e.word e.fault

pub returns-clause-cut_short : goal.returns-clause-cut_short
returns-clause-cut_short c = λ bit.
    let e = c.read_word.ensures in
    exact_fault c.read_word.result c.args.count c.args.bytes.now e.length e.word e.fault (CutShort bit)

pub returns-clause-long_form : goal.returns-clause-long_form
returns-clause-long_form c = λ bit.
    let e = c.read_word.ensures in
    exact_fault c.read_word.result c.args.count c.args.bytes.now e.length e.word e.fault (LongForm bit)

pub returns-clause-too_wide : goal.returns-clause-too_wide
returns-clause-too_wide c = λ bit.
    let e = c.read_word.ensures in
    exact_fault c.read_word.result c.args.count c.args.bytes.now e.length e.word e.fault (TooWide bit)

pub returns-clause-bad_padding : goal.returns-clause-bad_padding
returns-clause-bad_padding c = λ bit.
    let e = c.read_word.ensures in
    exact_fault c.read_word.result c.args.count c.args.bytes.now e.length e.word e.fault (BadPadding bit)

pub returns-clause-excess : goal.returns-clause-excess
returns-clause-excess c = λ n.
    let e = c.read_word.ensures in
    exact_fault c.read_word.result c.args.count c.args.bytes.now e.length e.word e.fault (Excess n)
