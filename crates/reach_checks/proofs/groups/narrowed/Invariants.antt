use Rattle.std.proofs.Common.{◌≡◌, ◌++◌, zero, drop}
use Rattle.counted_code.specs.View.{code_program}
use Rattle.reach_checks.specs.Groups.{clear_in, narrowed}
use Rattle.reach_checks.proofs.groups.narrowed.Given as goal

abbrev pub invariant-loop-group : goal.invariant-loop-group
invariant-loop-group l =
    let code = code_program l.code in
    l.table.items ++ narrowed (clear_in l.groups) code.functions l.group (drop l.group code.groups) ≡ narrowed (clear_in l.groups) code.functions zero code.groups
