use Rattle.std.proofs.Common.{◌≡◌, drop}
use Rattle.sac_base.specs.Types.{below_others}
use Rattle.shape_types.specs.Instances.{types_of}
use Rattle.shape_types.proofs.choice.is_below_others.Given as goal

abbrev pub invariant-loop-other : goal.invariant-loop-other
invariant-loop-other l =
    below_others (types_of (drop l.other-index l.instances)) l.args l.instance.params.items ≡ below_others (types_of l.instances) l.args l.instance.params.items
