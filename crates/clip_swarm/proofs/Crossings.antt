-- What all activities have in common may be shared among threads.
use denote.RattleType.{RattleType}
use mir.Syntax.{Sym}
use denote.Param.Send.{IsSync, recorded_sync, sendable, struct_sync}
use denote.Struct.Declared.{shape}
use denote.Struct.Struct.{Struct}
use denote.Struct.Tuple.{TupleAt, type_at}
use denote.Ref.{NamedLft}
use Rattle.std.proofs.Common.{[], ◌∷◌}
use Rattle.std.proofs.Crossing.{crosses}
use Rattle.clip_gate.proofs.Crossings.{clip_sync}
use Rattle.clip_script.specs.contracts.swarm.SwarmScript as script
use Rattle.clip_swarm.specs.contracts.crew.Ground as ground

-- these searches try more lemmas than the check's own do
script_sync : IsSync script.the_row
script_sync = search (sendable, crosses) depth 60 fits 20000

pub ground_sync : (life : NamedLft) → IsSync (ground.the_row life)
ground_sync life = search (sendable, crosses, clip_sync, script_sync) depth 30 fits 20000

-- a closure of four captures is shared where they are
pub captures_sync : (name : Sym) (A B C D : RattleType) → IsSync A → IsSync B → IsSync C → IsSync D → IsSync (TupleAt name (A ∷ B ∷ C ∷ D ∷ []))
captures_sync name A B C D a b c d =
    let T = type_at name (A ∷ B ∷ C ∷ D ∷ []) in
    recorded_sync (Struct (shape T)) T.D T.to T.to_one (struct_sync (shape T) (a, (b, (c, (d, tt)))))
