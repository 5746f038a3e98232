-- Pieces of a line, one before another.
use Rattle.std.proofs.Common.{◌≡◌, ℕ, List, ◌++◌, codes, rules, append_assoc}

pub triangle_pieces : (a b d : List ℕ) → codes "f" ++ (codes " " ++ (a ++ (codes " " ++ (b ++ (codes " " ++ (d ++ codes "\n")))))) ≡ codes "f " ++ a ++ codes " " ++ b ++ codes " " ++ d ++ codes "\n"
triangle_pieces a b d = search (rules, append_assoc)

pub vertex_pieces : (x y z : List ℕ) → codes "v" ++ (codes " " ++ (x ++ (codes " " ++ (y ++ (codes " " ++ (z ++ codes "\n")))))) ≡ codes "v " ++ x ++ codes " " ++ y ++ codes " " ++ z ++ codes "\n"
vertex_pieces x y z = search (rules, append_assoc)
