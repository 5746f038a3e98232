-- Parts of a round, and their results.
use Rattle.std.specs.Prelude.{◌≡◌, List, [], flat_map, All, Vec, Result, Ok, Err, IsOk}
use Rattle.std.specs.Global.{Global}
use Rattle.obj_frames.specs.declared.memory.NoMemory.{NoMemory}
use Rattle.decode_rounds.specs.declared.tasks.Task.{Task}
use Rattle.decode_rounds.specs.declared.tasks.Done.{Done}
use Rattle.decode_rounds.specs.declared.parts.Part.{Part}

-- the tasks of a part
abbrev pub tasks_in : Part → List Task
tasks_in part = part.tasks.items

-- what a part has done, if there was memory for it
abbrev pub done_in : Result (Vec Done Global) NoMemory → List Done
done_in (Ok done) = done.items
done_in (Err _) = []

-- there was memory for each part, and all is what they have done, one part behind the other
abbrev pub JoinsAll : List (Result (Vec Done Global) NoMemory) → List Done → Type 0
JoinsAll parts all = All IsOk parts × (all ≡ flat_map done_in parts)
