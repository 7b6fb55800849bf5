use Rattle.std.proofs.Common.{◌≡◌, ◌+◌, drop}
use Rattle.std.specs.List.{position_or_len}
use Rattle.sac_base.specs.Types.{is_least}
use Rattle.shape_types.specs.Instances.{types_of}
use Rattle.shape_types.proofs.choice.first_least.Given as goal

abbrev pub invariant-loop-k : goal.invariant-loop-k
invariant-loop-k l =
    let lists = types_of l.instances in
    l.k + position_or_len (is_least lists l.args) (drop l.k lists) ≡ position_or_len (is_least lists l.args) lists
