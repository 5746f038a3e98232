use Rattle.clip_frames.proofs.Begun.{begun}
use Rattle.clip_frames.proofs.laws.frames_are_those_of_their_beginning.Goals as goal

pub returns : goal.returns
returns c = record { law = begun }
