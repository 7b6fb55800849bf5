use Rattle.std.proofs.Common.{◌≡◌, map, drop}
use Rattle.counted_code.specs.Machine.{bind_values}
use Rattle.run_values.specs.Scopes.{current, outer}
use Rattle.run_values.specs.Shown.{value_of}
use Rattle.run_loops.specs.Running.{vars_of}
use Rattle.run_loops.proofs.bindings.bind_params.Given as goal

abbrev pub invariant-loop-k : goal.invariant-loop-k
invariant-loop-k l = record {
  inside : bind_values (current l.state.frames) (drop l.k (vars_of l.params)) (drop l.k (map value_of l.args)) ≡ bind_values (current l.initial.state.frames) (vars_of l.params) (map value_of l.args);
  outside : outer l.state.frames ≡ outer l.initial.state.frames;
  heap : l.state.heap ≡ l.initial.state.heap;
  phases : l.state.phases ≡ l.initial.state.phases;
}
