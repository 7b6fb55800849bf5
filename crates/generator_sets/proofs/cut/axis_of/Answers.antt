use Rattle.std.specs.List.{slice_get}
use Rattle.std.specs.Option.{option_to_list}
use Rattle.generator_sets.proofs.Growing.{grown}
use Rattle.generator_sets.proofs.cut.axis_of.Goals as goal

pub loop-generator-preserved : goal.loop-generator-preserved
loop-generator-preserved c =
    grown (λ g. option_to_list (slice_get g c.args.axis)) c.args.generators.now _ c.loop-generator.grids.items c.push_axis.new.grids.items c.loop-generator.generator-index c.generator-item.result
    c.generator-item.is c.loop-generator-test.true c.in_ok-push_axis.ensures c.loop-generator.invariant
