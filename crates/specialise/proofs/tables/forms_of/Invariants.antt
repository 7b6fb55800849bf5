use Rattle.std.proofs.Common.{◌≡◌, ◌++◌, drop}
use Rattle.specialise.specs.Tables.{forms_by}
use Rattle.specialise.proofs.tables.forms_of.Given as goal

abbrev pub invariant-loop-k : goal.invariant-loop-k
invariant-loop-k l = l.forms.items ++ forms_by (drop l.k l.types) (drop l.k l.shapes) ≡ forms_by l.types l.shapes
