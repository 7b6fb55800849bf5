use Rattle.std.proofs.Common.{◌≡◌, map, drop}
use Rattle.sac_base.specs.declared.base.Base.TheVariants.{Int}
use Rattle.sac_base.specs.Arrays.{scalar}
use Rattle.counted_code.specs.Machine.{bind_values}
use Rattle.counted_code.specs.Values.{Small}
use Rattle.run_values.specs.Scopes.{current, outer}
use Rattle.run_loops.proofs.bindings.bind_index.Given as goal

abbrev pub invariant-loop-k : goal.invariant-loop-k
invariant-loop-k l = record {
  inside : bind_values (current l.state.frames) (drop l.k l.names) (drop l.k (map (λ z. Small (scalar Int z)) l.v)) ≡ bind_values (current l.initial.state.frames) l.names (map (λ z. Small (scalar Int z)) l.v);
  outside : outer l.state.frames ≡ outer l.initial.state.frames;
  heap : l.state.heap ≡ l.initial.state.heap;
  phases : l.state.phases ≡ l.initial.state.phases;
}
