-- Line by line, and number by number.
use Rattle.frame_lists.proofs.Frames.{texts_say_lists}
use Rattle.frame_lists.proofs.laws.texts_say_their_lists.Goals as goal

pub returns : goal.returns
returns c = texts_say_lists c.natural_texts_are_read.ensures c.whole_texts_are_read.ensures
