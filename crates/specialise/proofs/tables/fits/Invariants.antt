use Rattle.std.proofs.Common.{◌≡◌, drop}
use Rattle.specialise.specs.Progress.{fit}
use Rattle.specialise.proofs.tables.fits.Given as goal

abbrev pub invariant-loop-k : goal.invariant-loop-k
invariant-loop-k l = fit (drop l.k l.types) (drop l.k l.shapes) ≡ fit l.types l.shapes
