-- The verdict on a text is that on its lists.
use Rattle.std.proofs.Common.{ap, ◌∙◌}
use Rattle.mesh_check.specs.Verdict.{verdict, verdict_of}
use Rattle.frame_lists.specs.Laws.{FramesSayMesh}
use Rattle.frame_verdicts.specs.Laws.{FramesAreJudgedWatertight, FrameTextsAreJudgedWatertight}

pub text_judged : FramesSayMesh → FramesAreJudgedWatertight → FrameTextsAreJudgedWatertight
unfolding verdict
text_judged say judged terrain k number x y actives is size small column row drawn =
    ap verdict_of (say terrain k number x y actives is size (record { k = k; size = size; drawn = drawn }) small column row)
    ∙ judged terrain k actives size drawn
