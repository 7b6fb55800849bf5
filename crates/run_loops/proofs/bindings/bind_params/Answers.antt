use Rattle.std.proofs.Common.{◌<◌, length, get_or, map, arith, ◌∙◌}
use Rattle.run_values.specs.Scopes.{current}
use Rattle.run_values.specs.Shown.{value_of}
use Rattle.run_loops.specs.Running.{vars_of}
use Rattle.run_loops.proofs.Binding.{bind_more, var_at, vars_length}
use Rattle.run_loops.proofs.bindings.bind_params.Goals as goal

pub loop-k-preserved : goal.loop-k-preserved
loop-k-preserved c =
    let ps = c.args.params.now in
    let k = c.loop-k.k in
    let p = c.index-params-k.result in
    let inside' : k < length (vars_of ps) = omega (arith, c.loop-k-test.true, vars_length ps) in
    record {
      inside = bind_more (current c.loop-k.state.frames) (current c.bind.new.self) (vars_of ps) (map value_of c.args.args.now) k p.0 (get_or ps k p).0 (value_of c.value_at.result) inside' (var_at ps k p) c.value_at.ensures c.in_ok-bind.ensures.current ∙ c.loop-k.invariant.inside;
      outside = c.in_ok-bind.ensures.outer ∙ c.loop-k.invariant.outside;
      heap = c.loop-k.invariant.heap;
      phases = c.loop-k.invariant.phases;
    }
