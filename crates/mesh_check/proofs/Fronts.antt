-- The run at the front of sorted numbers, and the pairs that are judged.
use Rattle.std.proofs.Common.{◌≡◌, ◌⊎◌, inl, inr, ℕ, ◌+◌, ◌*◌, ◌/◌, ◌<◌, ◌≤◌, Bool, true, List, length, take, drop, get_or, refl, sym, ◌∙◌, subst, arith, IsTrue, length-drop}
use Rattle.std.specs.List.Sorted.{IsNonDecreasing}
use Rattle.std.proofs.lemmas.Bool.{cases_lt}
use Rattle.std.proofs.lemmas.List.{length-take, get_or-drop, get_or-take}
use Rattle.clip_regions.specs.declared.region.Region.{Region}
use Rattle.mesh_model.specs.declared.shapes.Vertex.{Vertex}
use Rattle.mesh_model.specs.Watertight.{is_closed_by}
use Rattle.mesh_check.specs.Keys.{is_closed_pair, on_side}
use Rattle.mesh_check.proofs.Counts.{times, times_split, times_none}

-- the first so many numbers are those of one pair, and the others are greater
pub record IsRun (keys : List ℕ) (pair there back : ℕ) : Type 0 where
  pub within : there + back ≤ length keys
  pub there_is : there ≡ times (2 * pair) (take (there + back) keys)
  pub back_is : back ≡ times (2 * pair + 1) (take (there + back) keys)
  pub front : (k : ℕ) → k < there + back → get_or keys k 0 / 2 ≡ pair
  pub above : (k : ℕ) → there + back ≤ k → k < length keys → 2 * pair + 1 < get_or keys k 0

-- a number at most that pair's isn't behind the run
none_behind : (keys : List ℕ) (pair there back n : ℕ) → IsRun keys pair there back → n ≤ 2 * pair + 1 → times n (drop (there + back) keys) ≡ 0
none_behind keys pair there back n run low =
    times_none n (drop (there + back) keys) (λ k h is.
    let place : get_or (drop (there + back) keys) k 0 ≡ get_or keys (there + back + k) 0 = get_or-drop (there + back) keys k 0 in
    let within : there + back + k < length keys = omega (arith, length-drop (there + back) keys) in
    let more = run.above (there + back + k) (omega arith) within in
    omega arith)

pub run_there : (keys : List ℕ) (pair there back : ℕ) → IsRun keys pair there back → there ≡ times (2 * pair) keys
run_there keys pair there back run =
    let split = times_split (2 * pair) (there + back) keys in
    let none = none_behind keys pair there back (2 * pair) run (omega arith) in
    let front = run.there_is in
    omega (arith, split, none, front)

pub run_back : (keys : List ℕ) (pair there back : ℕ) → IsRun keys pair there back → back ≡ times (2 * pair + 1) keys
run_back keys pair there back run =
    let split = times_split (2 * pair + 1) (there + back) keys in
    let none = none_behind keys pair there back (2 * pair + 1) run (omega arith) in
    let front = run.back_is in
    omega (arith, split, none, front)

-- a greater number stands only behind the run
pub run_others : (keys : List ℕ) (pair there back n : ℕ) → IsRun keys pair there back → 2 * pair + 1 < n → times n (drop (there + back) keys) ≡ times n keys
run_others keys pair there back n run high =
    let within = run.within in
    let none : times n (take (there + back) keys) ≡ 0 = times_none n (take (there + back) keys) (λ k h is.
    let few : k < there + back = omega (arith, length-take (there + back) keys) in
    let place : get_or (take (there + back) keys) k 0 ≡ get_or keys k 0 = get_or-take (there + back) keys k 0 few in
    let of = run.front k few in
    omega arith) in
    omega (arith, times_split n (there + back) keys, none)

-- what is known once the pairs below a number are judged: they close, and what is left is what stands among the numbers from there on
pub record Judged (border : Region) (vertices : List Vertex) (keys rest : List ℕ) (next : ℕ) : Type 0 where
  pub closed : (pair : ℕ) → pair < next → IsTrue (is_closed_pair border vertices keys pair)
  pub above : (k : ℕ) → k < length rest → 2 * next ≤ get_or rest k 0
  pub counts : (n : ℕ) → 2 * next ≤ n → times n rest ≡ times n keys

-- a pair without edges closes
no_edges : (border : Bool) → is_closed_by 0 0 border ≡ true
unfolding is_closed_by
no_edges border = refl

pub closed_none : (border : Region) (vertices : List Vertex) (keys : List ℕ) (pair : ℕ) → times (2 * pair) keys ≡ 0 → times (2 * pair + 1) keys ≡ 0 →
    IsTrue (is_closed_pair border vertices keys pair)
unfolding is_closed_pair
closed_none border vertices keys pair there back = rw (there, back) (no_edges (on_side border vertices pair))

-- pairs that none of the rest has close
pub closed_between : (border : Region) (vertices : List Vertex) (keys rest : List ℕ) (next pair : ℕ) → Judged border vertices keys rest next → next ≤ pair →
    ((k : ℕ) → k < length rest → 2 * pair + 1 < get_or rest k 0) → IsTrue (is_closed_pair border vertices keys pair)
closed_between border vertices keys rest next pair judged low above =
    let there : times (2 * pair) rest ≡ 0 = times_none (2 * pair) rest (λ k h is. let more = above k h in omega arith) in
    let back : times (2 * pair + 1) rest ≡ 0 = times_none (2 * pair + 1) rest (λ k h is. let more = above k h in omega arith) in
    let same = judged.counts (2 * pair) (omega arith) in
    let also = judged.counts (2 * pair + 1) (omega arith) in
    closed_none border vertices keys pair (sym same ∙ there) (sym also ∙ back)

-- the pair of a run, by all the numbers
pub closed_run : (border : Region) (vertices : List Vertex) (keys rest : List ℕ) (next pair there back : ℕ) → Judged border vertices keys rest next → next ≤ pair →
    there ≡ times (2 * pair) rest → back ≡ times (2 * pair + 1) rest →
    is_closed_pair border vertices keys pair ≡ is_closed_by there back (on_side border vertices pair)
unfolding is_closed_pair
closed_run border vertices keys rest next pair there back judged low first second =
    let same : times (2 * pair) keys ≡ there = sym (judged.counts (2 * pair) (omega arith)) ∙ sym first in
    let also : times (2 * pair + 1) keys ≡ back = sym (judged.counts (2 * pair + 1) (omega arith)) ∙ sym second in
    rw (same, also) refl

pub judged_start : (border : Region) (vertices : List Vertex) (keys : List ℕ) → Judged border vertices keys keys 0
judged_start border vertices keys = record { closed = λ pair below. absurd (omega arith); above = λ k h. omega arith; counts = λ n h. refl }

below_by : (border : Region) (vertices : List Vertex) (keys rest : List ℕ) (next pair : ℕ) → Judged border vertices keys rest next →
    ((k : ℕ) → k < length rest → 2 * pair + 1 < get_or rest k 0) → (pair < next) ⊎ (next ≤ pair) → IsTrue (is_closed_pair border vertices keys pair)
below_by border vertices keys rest next pair judged above (inl h) = judged.closed pair h
below_by border vertices keys rest next pair judged above (inr h) = closed_between border vertices keys rest next pair judged h above

-- the pairs below a run close
pub closed_below : (border : Region) (vertices : List Vertex) (keys rest : List ℕ) (next pair : ℕ) → Judged border vertices keys rest next → IsNonDecreasing rest → 0 < length rest →
    pair < get_or rest 0 0 / 2 → IsTrue (is_closed_pair border vertices keys pair)
closed_below border vertices keys rest next pair judged sorted some below =
    below_by border vertices keys rest next pair judged (λ k h. let up = sorted 0 k 0 (omega arith) h in omega arith) (cases_lt pair next)

more_by : (border : Region) (vertices : List Vertex) (keys : List ℕ) (other pair : ℕ) → (other < pair → IsTrue (is_closed_pair border vertices keys other)) →
    IsTrue (is_closed_pair border vertices keys pair) → (other < pair) ⊎ (pair ≤ other) → other < pair + 1 → IsTrue (is_closed_pair border vertices keys other)
more_by border vertices keys other pair before here (inl less) below = before less
more_by border vertices keys other pair before here (inr more) below =
    let same : pair ≡ other = omega arith in
    subst (λ (p : ℕ). IsTrue (is_closed_pair border vertices keys p)) same here

-- one more pair is judged
pub judged_more : (border : Region) (vertices : List Vertex) (keys rest behind : List ℕ) (next pair there back : ℕ) → Judged border vertices keys rest next → IsNonDecreasing rest → 0 < length rest →
    pair ≡ get_or rest 0 0 / 2 → there ≡ times (2 * pair) rest → back ≡ times (2 * pair + 1) rest →
    ((k : ℕ) → there + back ≤ k → k < length rest → 2 * pair + 1 < get_or rest k 0) →
    ((n : ℕ) → 2 * pair + 1 < n → times n (drop (there + back) rest) ≡ times n rest) →
    behind ≡ drop (there + back) rest →
    IsTrue (is_closed_by there back (on_side border vertices pair)) → Judged border vertices keys behind (pair + 1)
judged_more border vertices keys rest behind next pair there back judged sorted some is first second above others left closed =
    let low : next ≤ pair = let h = judged.above 0 some in omega arith in
    let Q : List ℕ → Type 0 = λ behind. Judged border vertices keys behind (pair + 1) in
    subst Q (sym left) (record {
      closed = λ other below. more_by border vertices keys other pair
          (λ less. closed_below border vertices keys rest next other judged sorted some (omega arith))
          (subst (λ (b : Bool). IsTrue b) (sym (closed_run border vertices keys rest next pair there back judged low first second)) closed) (cases_lt other pair) below;
      above = λ k h.
          let place : get_or (drop (there + back) rest) k 0 ≡ get_or rest (there + back + k) 0 = get_or-drop (there + back) rest k 0 in
          let within : there + back + k < length rest = omega (arith, length-drop (there + back) rest) in
          let more = above (there + back + k) (omega arith) within in
          omega arith;
      counts = λ n h. others n (omega arith) ∙ judged.counts n (omega arith);
    })

-- nothing is left
pub judged_all : (border : Region) (vertices : List Vertex) (keys rest : List ℕ) (next : ℕ) → Judged border vertices keys rest next → length rest ≡ 0 →
    (pair : ℕ) → IsTrue (is_closed_pair border vertices keys pair)
judged_all border vertices keys rest next judged none pair = below_by border vertices keys rest next pair judged (λ k h. absurd (omega arith)) (cases_lt pair next)

-- the run that ends at a place
pub run_from : (keys : List ℕ) (pair n there back : ℕ) → IsNonDecreasing keys → there + back ≡ n → n ≤ length keys → there ≡ times (2 * pair) (take n keys) → back ≡ times (2 * pair + 1) (take n keys) →
    ((k : ℕ) → k < n → get_or keys k 0 / 2 ≡ pair) → (n < length keys → 2 * pair + 1 < get_or keys n 0) → IsRun keys pair there back
run_from keys pair n there back sorted counted within first second front after =
    let P : ℕ → Type 0 = λ m. there ≡ times (2 * pair) (take m keys) in
    let Q : ℕ → Type 0 = λ m. back ≡ times (2 * pair + 1) (take m keys) in
    record {
      within = omega arith;
      there_is = subst P (sym counted) first;
      back_is = subst Q (sym counted) second;
      front = λ k h. front k (omega arith);
      above = λ k low h. let more = after (omega arith) in let up = sorted n k 0 (omega arith) h in omega arith;
    }

-- a number that is another pair's is greater
pub after_run : (keys : List ℕ) (pair n : ℕ) → IsNonDecreasing keys → n < length keys → pair ≡ get_or keys 0 0 / 2 → (get_or keys n 0 ≡ 2 * pair → ⊥) → (get_or keys n 0 ≡ 2 * pair + 1 → ⊥) →
    2 * pair + 1 < get_or keys n 0
after_run keys pair n sorted within is one two = let up = sorted 0 n 0 (omega arith) within in omega (arith, one, two)
