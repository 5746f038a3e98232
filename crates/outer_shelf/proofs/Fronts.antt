-- What a front of a reader's bytes is, once the reading ended.
use Rattle.std.proofs.Common.{◌≡◌, ℕ, ◌+◌, ◌≤◌, List, ◌++◌, Option, Some, None, IfSome, length, take, sym, ap, ◌∙◌, append-nil, subst, arith}
use Rattle.std.proofs.lemmas.List.{take_all, length-append, length-take}
use Rattle.std.proofs.Math.Seq.{take-append_seam}
use Rattle.std.proofs.KnownBytes.{Consumes-trans, Consumes-kept}
use Rattle.std.specs.Io.KnownBytes.{Consumes, IsAtEnd, Keeps}
use Rattle.outer_shelf.specs.Outside.{TakesFront}

-- as many bytes as were asked for are the front of what there was
pub front_full : (a b : Option (List ℕ)) (piece : List ℕ) (most : ℕ) → Consumes a b piece → length piece ≡ most → IfSome a (λ rest. piece ≡ take most rest)
front_full None b piece most taken full = tt
front_full (Some xs) None piece most taken full = absurd taken
front_full (Some xs) (Some ys) piece most taken full =
    sym (take-append_seam piece ys) ∙ ap (λ n. take n (piece ++ ys)) full ∙ ap (take most) (sym taken)

-- all bytes that there were are their own front, where there were no more than were asked for
pub front_end : (a b : Option (List ℕ)) (piece : List ℕ) (most : ℕ) → Consumes a b piece → IsAtEnd b → length piece ≤ most → IfSome a (λ rest. piece ≡ take most rest)
front_end None b piece most taken end few = tt
front_end (Some xs) None piece most taken end few = absurd taken
front_end (Some xs) (Some ys) piece most taken end few =
    let all : xs ≡ piece = taken ∙ ap (λ l. piece ++ l) end ∙ append-nil piece in
    sym (take_all most piece few) ∙ ap (take most) (sym all)

-- one more piece of a reader's bytes
pub taken_more : (a b c : Option (List ℕ)) (front chunk all : List ℕ) (count : ℕ) → Consumes a b front → Consumes b c (take count chunk) → all ≡ front ++ take count chunk → Consumes a c all
taken_more a b c front chunk all count taken more is = subst (Consumes a c) (sym is) (Consumes-trans a b c front (take count chunk) taken more)

pub taken_kept : (a b c : Option (List ℕ)) (front all : List ℕ) → Consumes a b front → Keeps b c → all ≡ front → Consumes a c all
taken_kept a b c front all taken kept is = subst (Consumes a c) (sym is) (Consumes-kept a b c front taken kept)

-- a piece that isn't kept was taken all the same
pub takes_front : (a b c : Option (List ℕ)) (front chunk : List ℕ) (count most : ℕ) → Consumes a b front → Consumes b c (take count chunk) → length front + count ≤ most → TakesFront most a c
takes_front a b c front chunk count most taken more few = record {
  piece = front ++ take count chunk;
  few = omega (arith, length-append front (take count chunk), length-take count chunk);
  taken = Consumes-trans a b c front (take count chunk) taken more;
}
