use Rattle.std.proofs.Common.{◌≡◌, ◌++◌, map, take}
use Rattle.run_values.specs.Scopes.{current}
use Rattle.run_values.specs.Shown.{value_of}
use Rattle.run_loops.proofs.bindings.push_values.Given as goal

abbrev pub invariant-loop-x : goal.invariant-loop-x
invariant-loop-x l = map value_of l.values.items ≡ map value_of l.initial.values.items ++ map (current l.state.frames) (take l.x-index l.vars)
