use Rattle.std.proofs.Common.{◌≡◌, ◌+◌, ◌*◌, arith, ◌∙◌}
use Rattle.store_index.proofs.Marks.{there_behind, behind_more, behind_none, one_more_mark}
use Rattle.store_index.proofs.index.push_marks.Goals as goal

pub loop-m-init : goal.loop-m-init
loop-m-init c = record { place = behind_none c.args.bytes.now c.args.first; marks = c.requires.empty }

pub skip-at-requires : goal.skip-at-requires
skip-at-requires c =
    let i = c.loop-m in
    let test = c.loop-m-test.true in
    there_behind c.args.bytes.now c.args.first i.at (32 * i._m) (32 * c.args.count) 32 c.requires.there i.invariant.place (omega arith)

pub loop-m-preserved : goal.loop-m-preserved
loop-m-preserved c =
    let i = c.loop-m in
    let next : 32 * i._m + 32 ≡ 32 * (i._m + 1) = omega arith in
    let same : 32 * i._m + 32 ≡ 32 * i._m + 32 = omega arith in
    record {
      place = c.skip-at.ensures ∙ behind_more c.args.bytes.now c.args.first i.at (32 * i._m) (32 * (i._m + 1)) 32 i.invariant.place next;
      marks =
          c.in_ok-push_mark.ensures
          ∙ one_more_mark c.args.bytes.now c.args.first c.skip-at.result i._m i.marks.items i.invariant.marks (c.skip-at.ensures ∙ behind_more c.args.bytes.now c.args.first i.at (32 * i._m) (32 * i._m + 32) 32 i.invariant.place same);
    }
