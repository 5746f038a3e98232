use Rattle.std.proofs.Common.{◌≡◌, ◌-◌, length}
use Rattle.clip_script.specs.Lines.{words_after}
use Rattle.clip_script.specs.Steps.{spaces_of}
use Rattle.clip_script.proofs.Halves.{after_spaces}
use Rattle.clip_script.proofs.spaces.view_of.Given as goal

abbrev pub invariant-groups : goal.invariant-groups
invariant-groups l = record {
  counted : length l.view ≡ l._seen;
  same : spaces_of 6 (words_after l.fn.words) ≡ after_spaces l.view (spaces_of (6 - l._seen) (words_after l.rest));
}
