-- Each turn numbers one vertex, and prints it where the triangles have it.
use Rattle.std.proofs.Common.{◌≡◌, ℕ, ◌+◌, ◌<◌, ◌≤◌, Bool, true, false, List, length, get_or, set, ap, sym, ◌∙◌, inl, inr, append-nil, arith}
use Rattle.std.specs.Prelude.{nat_eq, if◌then◌else◌}
use Rattle.std.proofs.lemmas.Bool.{cases_eq}
use Rattle.std.proofs.lemmas.List.{get_or_default, length-set, get_or-set_same, get_or-set_other}
use Rattle.std.proofs.lemmas.List.FromFn.{fill_by_all, get_or-map-range_with_len, length-map-range_with_len}
use Rattle.mesh_model.specs.Seen.{is_named, new_place, named_places}
use Rattle.mesh_model.proofs.NewPlaces.{no_place}
use Rattle.obj_frames.specs.Renumbering.{mark_at}
use Rattle.obj_frames.proofs.Renumbered.{mark_tells, taken_more, lines_more}
use Rattle.obj_frames.proofs.views.append_vertices.Goals as goal

pub loop-place-init : goal.loop-place-init
unfolding named_places
loop-place-init c = record {
  few = omega arith;
  taken = no_place c.args.triangles.now;
  whole = ap length c.in_ok-table.ensures ∙ length-map-range_with_len (mark_at c.args.triangles.now) 0 (length c.args.vertices.now);
  before = λ p low. absurd (omega arith);
  after = λ p from low. ap (λ t. get_or t p 0) c.in_ok-table.ensures ∙ get_or-map-range_with_len (mark_at c.args.triangles.now) 0 (length c.args.vertices.now) p p 0 low (omega arith);
  text = sym (append-nil c.args.text.now.items);
}

few_more : (place taken next : ℕ) (flag : Bool) → taken ≤ place → next ≡ taken + (if flag then 1 else 0) → next ≤ place + 1
few_more place taken next true few e = omega (arith, e)
few_more place taken next false few e = omega (arith, e)

set_before : (table : List ℕ) (place n : ℕ) (f : ℕ → ℕ) → place < length table → ((p : ℕ) → p < place → get_or table p 0 ≡ f p) → n ≡ f place → (p : ℕ) → p < place + 1 → get_or (set table place n) p 0 ≡ f p
set_before table place n f inside before here p low =
    elim (cases_eq p place) [
      | inl same ↦ ap (λ q. get_or (set table place n) q 0) same ∙ get_or-set_same table place n 0 inside ∙ here ∙ ap f (sym same)
      | inr other ↦ get_or-set_other table place p n 0 other ∙ before p (omega arith)
    ]

pub loop-place-preserved : goal.loop-place-preserved
loop-place-preserved c =
    let here : nat_eq c.index.result.now 1 ≡ is_named c.args.triangles.now c.loop-place.place =
    ap (λ n. nat_eq n 1) (c.index.ensures ∙ get_or_default c.loop-place.table.items c.loop-place.place c.index.result.now 0 (omega arith)) ∙ mark_tells c.args.triangles.now c.loop-place.place (get_or c.loop-place.table.items c.loop-place.place 0) (c.loop-place.invariant.after c.loop-place.place (omega arith) (omega arith)) in
    let next = taken_more c.args.triangles.now c.loop-place.place c.loop-place.taken c.in_ok-taken.taken (nat_eq c.index.result.now 1) here c.loop-place.invariant.taken c.in_ok-taken.ensures.next in
    record {
      few = few_more c.loop-place.place c.loop-place.taken c.in_ok-taken.taken (nat_eq c.index.result.now 1) c.loop-place.invariant.few c.in_ok-taken.ensures.next;
      taken = next;
      whole = length-set c.loop-place.table.items c.loop-place.place c.loop-place.taken ∙ c.loop-place.invariant.whole;
      before = set_before c.loop-place.table.items c.loop-place.place c.loop-place.taken (new_place c.args.triangles.now) (omega arith) c.loop-place.invariant.before c.loop-place.invariant.taken;
      after = λ p from low. get_or-set_other c.loop-place.table.items c.loop-place.place p c.loop-place.taken 0 (λ same. omega arith) ∙ c.loop-place.invariant.after p (omega arith) low;
      text = lines_more c.args.triangles.now c.args.vertices.now c.loop-place.place (nat_eq c.index.result.now 1) c.args.text.now.items c.loop-place.text.items c.append_named.new.text.items here c.loop-place.invariant.text c.in_ok-taken.ensures.text;
    }

pub returns-clause-table : goal.returns-clause-table
returns-clause-table c =
    fill_by_all (new_place c.args.triangles.now) c.loop-place.table.items (length c.args.vertices.now) 0 c.loop-place.invariant.whole (λ k low. c.loop-place.invariant.before k (omega arith))

pub returns-clause-taken : goal.returns-clause-taken
unfolding new_place
returns-clause-taken c = c.loop-place.invariant.taken ∙ ap (λ n. length (named_places c.args.triangles.now n)) (omega arith)
