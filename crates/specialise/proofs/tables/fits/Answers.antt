use Rattle.std.proofs.Common.{sym}
use Rattle.std.proofs.lemmas.Bool.{false_from_ne_true}
use Rattle.specialise.proofs.Progress.{length-fit}
use Rattle.specialise.proofs.tables.fits.Goals as goal

pub returns-then-types-shapes : goal.returns-then-types-shapes
returns-then-types-shapes c = sym (false_from_ne_true _ (λ e. c.if-types-shapes.true (length-fit c.args.types.now c.args.shapes.now e)))
