-- Lines of a script that can be flown can be flown by the plain program.
use Rattle.std.specs.Prelude.{List, [], ◌∷◌}
use Rattle.std.specs.List.{All}
use Rattle.std.proofs.lemmas.List.Elements.{All-nil, All-cons, All-head, All-tail}
use Rattle.plan_model.specs.declared.events.FlyLine.{FlyLine}
use Rattle.plan_model.specs.declared.events.FlyLine.TheVariants.{Move as FlyMove, Frame as FlyFrame, Settle}
use Rattle.clip_script.specs.Ranges.{IsFlown}
use Rattle.plan_plain.specs.SoundRuns.{IsFlown as IsPlainlyFlown}

pub plainly_flown : (line : FlyLine) → IsFlown line → IsPlainlyFlown line
plainly_flown (FlyMove x y a) h = h
plainly_flown FlyFrame h = tt
plainly_flown Settle h = tt

pub all_plainly_flown : (lines : List FlyLine) → All IsFlown lines → All IsPlainlyFlown lines
all_plainly_flown [] h = All-nil IsPlainlyFlown
all_plainly_flown (l ∷ lines) h =
    All-cons IsPlainlyFlown l lines (plainly_flown l (All-head IsFlown l lines h)) (all_plainly_flown lines (All-tail IsFlown l lines h))
