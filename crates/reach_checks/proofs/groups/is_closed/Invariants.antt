use Rattle.std.proofs.Common.{◌≡◌, drop}
use Rattle.counted_code.specs.View.{code_program}
use Rattle.reach_checks.specs.Groups.{all_clear, clear_in, groups_are_clear}
use Rattle.reach_checks.proofs.groups.is_closed.Given as goal

abbrev pub invariant-loop-group : goal.invariant-loop-group
invariant-loop-group l =
    let code = code_program l.code in
    groups_are_clear (clear_in l.groups) code.functions l.group (drop l.group code.groups) ≡ all_clear code (clear_in l.groups)
