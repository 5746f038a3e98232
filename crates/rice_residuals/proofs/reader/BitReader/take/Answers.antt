use Rattle.std.proofs.Common.{arith, ◌≡◌, ◌∙◌, true≢false, refl, ap, ℕ, ◌+◌, ◌-◌, ◌++◌, subst}
use Rattle.rice_residuals.specs.Reading.{reading}
use Rattle.rice_residuals.specs.Bits.{low_bits}
use Rattle.rice_residuals.proofs.Readings.{too_few, not_too_few, taken_left, taken_place, shorter}
use Rattle.rice_residuals.proofs.reader.BitReader.take.Goals as goal

pub returns-then-register-count-clause-none : goal.returns-then-register-count-clause-none
returns-then-register-count-clause-none c =
    let r = c.ready-register in
    let few = too_few c.self.inside.bytes.now r.result c.args.self.now c.from-count.result (r.ensures.same ∙ c.self.view_is) c.if-register-count.true r.ensures.enough in
    (λ e. omega arith, λ h. refl)

pub returns-clause-none : goal.returns-clause-none
returns-clause-none c =
    let r = c.ready-register in
    (λ e. absurd (true≢false e), λ h. absurd (not_too_few c.self.inside.bytes.now r.result c.args.self.now c.from-count.result (r.ensures.same ∙ c.self.view_is) c.if-register-count.false (omega arith)))

pub returns-clause-bits : goal.returns-clause-bits
returns-clause-bits c =
    let r = c.ready-register in
    let held = r.result.held - c.from-count.result in
    let value = c.low_of.result in
    let taken = taken_left c.self.inside.bytes.now r.result c.args.self.now c.from-count.result held value (r.ensures.same ∙ c.self.view_is) c.if-register-count.false refl c.low_of.ensures.value in
    subst (λ (n : ℕ). c.args.self.now.left ≡ low_bits n value ++ (reading c.self.inside.bytes.now (shorter r.result held)).left) c.from-count.ensures taken

pub returns-clause-place : goal.returns-clause-place
returns-clause-place c =
    let r = c.ready-register in
    let held = r.result.held - c.from-count.result in
    taken_place c.self.inside.bytes.now r.result c.args.self.now c.from-count.result held r.ensures.sound (r.ensures.same ∙ c.self.view_is) c.if-register-count.false refl
    ∙ ap (λ (n : ℕ). c.args.self.now.place + n) c.from-count.ensures
