-- The lines of the verdicts on a frame's text.
use Rattle.std.specs.Prelude.{ℕ, List, [], ◌++◌, codes, decimal}
use Rattle.mesh_check.specs.declared.verdict.Verdict.{Verdict}
use Rattle.mesh_check.specs.declared.verdict.Verdict.TheVariants as verdict

-- the line of a watertight mesh with so many triangles
abbrev pub watertight_line : ℕ → List ℕ
watertight_line triangles = codes "watertight " ++ (decimal triangles ++ codes "\n")

-- the line of a verdict. Want of memory is none of a text, and has no line
abbrev pub verdict_line : Verdict → List ℕ
verdict_line (verdict.Watertight triangles) = watertight_line triangles
verdict_line (verdict.Crack a b count) =
    codes "fault: crack " ++
    (decimal a ++ (codes " " ++ (decimal b ++ (codes " count " ++ (decimal count ++ codes "\n")))))
verdict_line (verdict.Tilted face) = codes "fault: tilted face " ++ (decimal face ++ codes "\n")
verdict_line (verdict.Bad line) = codes "fault: bad line " ++ (decimal line ++ codes "\n")
verdict_line verdict.NoMemory = []
