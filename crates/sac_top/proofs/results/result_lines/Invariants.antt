use Rattle.std.proofs.Common.{◌≡◌, ◌++◌, drop}
use Rattle.std.specs.Prelude.{flat_map}
use Rattle.sac_words.specs.Meaning.{input_meant}
use Rattle.sac_due.specs.Due.{result_line}
use Rattle.sac_top.proofs.results.result_lines.Given as goal

abbrev pub invariant-loop-value : goal.invariant-loop-value
invariant-loop-value l = l.text.items ++ flat_map (result_line (input_meant l.input)) (drop l.value-index l.values) ≡ flat_map (result_line (input_meant l.input)) l.values
