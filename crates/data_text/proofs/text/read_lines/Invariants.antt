use Rattle.std.proofs.Common.{◌≡◌, ◌+◌, ◌<◌, ◌^◌, drop, length}
use Rattle.data_text.specs.Texts.{data_lines, arrays_of}
use Rattle.data_text.proofs.TextFacts.{with_front}
use Rattle.data_text.proofs.text.read_lines.Given as goal

abbrev pub invariant-loop-base : goal.invariant-loop-base
invariant-loop-base l = (with_front l.arrays.items (arrays_of (data_lines l.before l.rest) (drop l.base-index l.bases)) ≡ arrays_of (data_lines 0 l.text) l.bases) × (l.before + length l.rest < 2 ^ 64)
