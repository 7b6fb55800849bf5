use Rattle.std.proofs.Common.{◌≡◌, drop, map}
use Rattle.counted_code.specs.View.{code_fun_term}
use Rattle.reach_checks.specs.Groups.{clear_in, members_are_clear}
use Rattle.reach_checks.proofs.groups.members_are_clear.Given as goal

abbrev pub invariant-loop-place : goal.invariant-loop-place
invariant-loop-place l =
    members_are_clear (clear_in l.groups) (map code_fun_term l.functions) (drop l.place-index l.places) ≡ members_are_clear (clear_in l.groups) (map code_fun_term l.functions) l.places
