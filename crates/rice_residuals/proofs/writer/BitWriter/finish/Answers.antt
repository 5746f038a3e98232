use Rattle.std.proofs.Common.{◌≡◌, ◌+◌, ◌-◌, ◌*◌, ◌/◌, ◌%◌, ◌^◌, ◌<◌, ◌++◌, ◌∙◌, true, is_ok, List, ℕ, length, take, get_or, bit_and, refl, ap, rules}
use Rattle.rice_residuals.specs.Bits.{packed}
use Rattle.rice_residuals.proofs.Writing.{below_all, finished, grown}
use Rattle.rice_residuals.proofs.writer.BitWriter.finish.Goals as goal

pub returns : goal.returns
returns c =
    let w = c.self.inside in
    let count = (w.held + 7) / 8 in
    let all = c.extend_from_slice.new.self.items in
    let ok : is_ok c.extend_from_slice.result ≡ true = rw c.unwrap.ensures refl in
    let grew = grown (is_ok c.extend_from_slice.result) w.bytes.items all (take count c.to_be_bytes-tail.result) ok c.extend_from_slice.ensures.items in
    let fits : (k : ℕ) (d : ℕ) → k < length all → get_or all k d < 256 = search rules in
    finished w.bytes.items all w.held w.pending (bit_and ((w.pending * 2 ^ (32 - w.held)) % 2 ^ 64) 4294967295) count c.self.invariant.0 refl refl (below_all all fits) (grew ∙ ap (λ (x : List ℕ). w.bytes.items ++ take count x) c.to_be_bytes-tail.ensures)
    ∙ ap packed c.self.view_is
