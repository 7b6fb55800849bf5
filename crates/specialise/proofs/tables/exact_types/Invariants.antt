use Rattle.std.proofs.Common.{◌≡◌, take}
use Rattle.specialise.specs.Tables.{exact}
use Rattle.specialise.proofs.tables.exact_types.Given as goal

abbrev pub invariant-loop-form : goal.invariant-loop-form
invariant-loop-form l = l.types.items ≡ exact (take l.form-index l.forms)
