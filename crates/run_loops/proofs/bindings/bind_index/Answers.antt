use Rattle.std.proofs.Common.{map, refl, ◌∙◌}
use Rattle.sac_base.specs.declared.base.Base.TheVariants.{Int}
use Rattle.sac_base.specs.Arrays.{scalar}
use Rattle.counted_code.specs.Values.{Small}
use Rattle.run_values.specs.Scopes.{current}
use Rattle.run_values.specs.Shown.{value_of}
use Rattle.run_loops.proofs.Binding.{bind_more}
use Rattle.run_loops.proofs.bindings.bind_index.Goals as goal

pub loop-k-preserved : goal.loop-k-preserved
loop-k-preserved c =
    record {
      inside = bind_more (current c.loop-k.state.frames) (current c.bind-in-loop-k.new.self) c.args.names.now (map (λ z. Small (scalar Int z)) c.args.v.now) c.loop-k.k (record { 0 = 0 }) _ (value_of c.component.result) c.loop-k-test.true refl c.component.ensures (c.in_ok-bind-2).ensures.current ∙ c.loop-k.invariant.inside;
      outside = (c.in_ok-bind-2).ensures.outer ∙ c.loop-k.invariant.outside;
      heap = c.loop-k.invariant.heap;
      phases = c.loop-k.invariant.phases;
    }
