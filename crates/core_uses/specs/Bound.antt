-- How many variables a term binds.
use Rattle.std.specs.Prelude.{ℕ, length}
use Rattle.core_ir.specs.Terms.{BlockTerm, RightTerm}
use Rattle.core_ir.specs.Binders.{bound_in, bound_in_right}

abbrev pub bound_count : BlockTerm → ℕ
bound_count b = length (bound_in b)

abbrev pub bound_count_right : RightTerm → ℕ
bound_count_right r = length (bound_in_right r)
