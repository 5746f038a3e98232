use Rattle.std.proofs.Common.{◌≡◌, ◌∙◌, ℕ, ℤ, List, length, sym, subst, arith}
use Rattle.std.proofs.lemmas.Bool.Decides.{nat_tests}
use Rattle.std.proofs.lemmas.Result.{IfErr-weaker}
use mathlib.Core.Path.{ap₂}
use Rattle.four_point.specs.Patches.{patch_height}
use Rattle.rice_residuals.specs.Faults.{HasFault}
use Rattle.rice_residuals.specs.Word.{IsWordOf}
use Rattle.store_model.specs.Blocks.{IsCoding, code_count}
use Rattle.block_heights.specs.Rows.{coded_before, table_code}
use Rattle.block_heights.specs.Pieces.{within, coded_height, IsPieceUpTo, AreNearUpTo, HasOut}
use Rattle.block_heights.specs.Decoded.{HasCodedHeights, HasWordFault}
use Rattle.block_heights.proofs.Codings.{count_is, table_coding}
use Rattle.block_heights.proofs.Parts.{on_ok_both, word_fault, out_is_fault}
use Rattle.block_heights.proofs.pieces.word_piece.Goals as goal

pub returns-in-Err-clause-fault : goal.returns-in-Err-clause-fault
returns-in-Err-clause-fault c =
    let e = c.sides_of-sides.ensures in
    let r = c.read_block.ensures in
    let count : c.count_of.result ≡ code_count c.args.inside =
    c.count_of.ensures.count ∙ ap₂ (coded_before c.args.inside) e.columns e.rows ∙ sym (count_is c.args.inside) in
    subst (λ (n : ℕ). HasFault n c.args.bytes.now c.in-Err.fault) count
    (word_fault c.count_of.result c.args.bytes.now c.read_block.result c.in-Err.fault c.in-Err.is r.cut_short r.long_form r.too_wide r.bad_padding r.excess)

pub returns-then-is_empty-clause-heights : goal.returns-then-is_empty-clause-heights
returns-then-is_empty-clause-heights c =
    let sides = c.sides_of-sides in
    let table = c.code_table-table in
    let code = table_code c.args.inside table.result in
    let bytes = c.args.bytes.now in
    let word : IsWordOf c.used.result.now bytes = subst (λ (xs : List ℤ). IsWordOf xs bytes) (sym c.used.ensures.list) c.in-Ok.ensures.word in
    let coding : IsCoding code c.args.inside bytes =
    table_coding c.args.inside table.result c.used.result.now bytes sides.result.columns sides.result.rows sides.ensures.columns sides.ensures.rows word table.ensures.codes table.ensures.even in
    let none : length c.args.out.now ≡ 0 = grind (arith, nat_tests) in
    record {
      code = code;
      coding = coding;
      near = λ k h. absurd (omega arith);
      heights = λ k h. absurd (omega arith);
    }

pub returns-clause-heights : goal.returns-clause-heights
returns-clause-heights c =
    let sides = c.sides_of-sides in
    let table = c.code_table-table in
    let code = table_code c.args.inside table.result in
    let bytes = c.args.bytes.now in
    let word : IsWordOf c.used.result.now bytes = subst (λ (xs : List ℤ). IsWordOf xs bytes) (sym c.used.ensures.list) c.in-Ok.ensures.word in
    let coding : IsCoding code c.args.inside bytes =
    table_coding c.args.inside table.result c.used.result.now bytes sides.result.columns sides.result.rows sides.ensures.columns sides.ensures.rows word table.ensures.codes table.ensures.even in
    let coarser = patch_height c.args.patch.now in
    let step = c.args.step in
    let inside = c.args.inside in
    let cells = c.args.cells in
    let out = c.fill_coded.new.out in
    on_ok_both
    (IsPieceUpTo (length out) (within inside (coded_height coarser step code)) cells out)
    (AreNearUpTo (length out) coarser step code inside cells)
    (HasCodedHeights coarser step inside cells bytes out)
    c.fill_coded.result
    (λ heights near. record { code = code; coding = coding; near = near; heights = heights })
    c.fill_coded.ensures.heights
    c.fill_coded.ensures.near

pub returns-clause-fault : goal.returns-clause-fault
returns-clause-fault c =
    let sides = c.sides_of-sides in
    let table = c.code_table-table in
    let code = table_code c.args.inside table.result in
    let bytes = c.args.bytes.now in
    let word : IsWordOf c.used.result.now bytes = subst (λ (xs : List ℤ). IsWordOf xs bytes) (sym c.used.ensures.list) c.in-Ok.ensures.word in
    let coding : IsCoding code c.args.inside bytes =
    table_coding c.args.inside table.result c.used.result.now bytes sides.result.columns sides.result.rows sides.ensures.columns sides.ensures.rows word table.ensures.codes table.ensures.even in
    let coarser = patch_height c.args.patch.now in
    let step = c.args.step in
    let inside = c.args.inside in
    let cells = c.args.cells in
    let n = length c.args.out.now in
    IfErr-weaker c.fill_coded.result (HasOut coarser step code inside cells n) (HasWordFault coarser step inside cells bytes n)
    (λ fault out. out_is_fault coarser step code inside cells bytes n fault coding out)
    c.fill_coded.ensures.far
