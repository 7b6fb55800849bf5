use Rattle.counted_code.specs.View.{code_program}
use Rattle.reach_checks.specs.Groups.{clear_in, IsGreatest}
use Rattle.reach_checks.proofs.groups.clear_groups.Given as goal

abbrev pub invariant-loop-round : goal.invariant-loop-round
invariant-loop-round l = IsGreatest (code_program l.code) (clear_in l.table.items)
