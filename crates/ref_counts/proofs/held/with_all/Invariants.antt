use Rattle.std.proofs.Common.{◌≡◌, ◌++◌, ◌≤◌, drop, take, length}
use Rattle.ref_counts.specs.Owning.{owned_vars, IsSound}
use Rattle.ref_counts.proofs.held.with_all.Given as goal

abbrev pub invariant-loop-left : goal.invariant-loop-left
invariant-loop-left l = record {
  within : l.left ≤ length l.xs;
  vars : owned_vars l.tree ≡ drop l.left l.xs ++ owned_vars l.initial.tree;
  sound : IsSound (take l.end l.uses) l.initial.tree → IsSound (take l.end l.uses) l.tree;
}

abbrev pub decreases-loop-left : goal.decreases-loop-left
decreases-loop-left l = l.left
