use Rattle.std.proofs.Common.{◌≡◌, ◌++◌, drop, map}
use Rattle.sac_base.specs.Arrays.{form_of}
use Rattle.sac_top.proofs.arguments.forms_of.Given as goal

abbrev pub invariant-loop-array : goal.invariant-loop-array
invariant-loop-array l = l.forms.items ++ map form_of (drop l.array-index l.args) ≡ map form_of l.args
