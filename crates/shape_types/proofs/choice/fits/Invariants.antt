use Rattle.std.proofs.Common.{◌≡◌, drop}
use Rattle.sac_base.specs.Types.{all_have_forms}
use Rattle.shape_types.proofs.choice.fits.Given as goal

abbrev pub invariant-loop-k : goal.invariant-loop-k
invariant-loop-k l = all_have_forms (drop l.k l.params) (drop l.k l.args) ≡ all_have_forms l.params l.args
