-- Rounds of a settling and lines of a flight are parts of it.
use Rattle.std.proofs.Common.{ℕ, zero, suc, List}
use Rattle.plan_model.specs.Rounds.{frame_pass, is_settled, round, rounds, cells_to_fill, settle, fly_line}
use Rattle.plan_model.specs.declared.events.Event.TheVariants.{Begin, Move}
use Rattle.plan_model.specs.declared.events.FlyLine.{FlyLine}
use Rattle.plan_model.specs.declared.events.FlyLine.TheVariants.{Move as FlyMove, Frame as FlyFrame, Settle}
use Rattle.clip_rounds.specs.Parts.{one}
use Rattle.clip_rounds.proofs.Parts.{IsPart, chosen_part, fold_part, none_part, one_part, round_part, tested_part, then_part}
use Rattle.clip_flights.specs.Lines.{lines_of}

pub rounds_part : (n workers : ℕ) → IsPart (rounds n workers)
rounds_part zero workers = none_part
rounds_part (suc n) workers =
    tested_part is_settled (λ run. run) (λ run. rounds n workers (round workers run)) none_part (then_part (round workers) (rounds n workers) (round_part workers) (rounds_part n workers))

pub settle_part : (workers : ℕ) → IsPart (settle workers)
unfolding settle
settle_part workers = chosen_part (λ st. rounds (cells_to_fill st) workers) (λ st. rounds_part (cells_to_fill st) workers)

pub line_part : (workers : ℕ) (line : FlyLine) → IsPart (λ run. fly_line workers run line)
line_part workers (FlyMove x y a) = one_part 0 (Move x y a)
line_part workers FlyFrame = then_part (one frame_pass Begin) (round workers) (one_part frame_pass Begin) (round_part workers)
line_part workers Settle = settle_part workers

pub lines_part : (workers : ℕ) (lines : List FlyLine) → IsPart (lines_of workers lines)
lines_part workers lines = fold_part (fly_line workers) (line_part workers) lines
