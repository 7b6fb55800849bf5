use Rattle.std.proofs.Common.{map, refl, ◌∙◌}
use Rattle.run_values.specs.Scopes.{current}
use Rattle.run_values.specs.Shown.{value_of}
use Rattle.run_loops.proofs.Binding.{bind_more}
use Rattle.run_loops.proofs.bindings.bind_all.Goals as goal

pub loop-k-preserved : goal.loop-k-preserved
loop-k-preserved c =
    record {
      inside = bind_more (current c.loop-k.state.frames) (current c.bind.new.self) c.args.vars.now (map value_of c.args.values.now) c.loop-k.k (record { 0 = 0 }) _ (value_of c.value_at.result) c.loop-k-test.true refl c.value_at.ensures c.in_ok-bind.ensures.current ∙ c.loop-k.invariant.inside;
      outside = c.in_ok-bind.ensures.outer ∙ c.loop-k.invariant.outside;
      heap = c.loop-k.invariant.heap;
      phases = c.loop-k.invariant.phases;
    }
