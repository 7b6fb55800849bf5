use Rattle.std.proofs.Common.{◌≡◌, drop}
use Rattle.sac_bases.specs.Generators.{fitting}
use Rattle.sac_bases.proofs.base.with_base.Given as goal

abbrev pub invariant-loop-one : goal.invariant-loop-one
invariant-loop-one l = fitting l.wanted (drop l.one-index l.given) ≡ fitting l.wanted l.given
