-- Literal values of right sides, by what is known of their operands.
use Rattle.std.specs.Prelude.{◌≡◌, true, false, ◌&&◌, ◌||◌, List, map, Option, Some, None, Vec, Ok}
use Rattle.std.specs.declared.alloc.Global.{Global}
use Rattle.sac_base.specs.declared.op.Op.{Op}
use Rattle.sac_base.specs.declared.types.ArrayType.{ArrayType}
use Rattle.sac_base.specs.Arrays.{ArrayValue}
use Rattle.sac_base.specs.Operators.{unary, binary}
use Rattle.core_ir.specs.declared.tree.Var.{Var}
use Rattle.core_ir.specs.Meaning.{checked}
use Rattle.core_facts.specs.Facts.{Fact, Facts, values, are_literal, are_scalars, when, small, found, is_negation, is_sum}

abbrev pub negated_of : Op → Option ArrayValue → Option ArrayValue
negated_of o None = None
negated_of o (Some a) = when (is_negation o) (small (Ok (unary o a)))

abbrev pub combined : Op → Option ArrayValue → Option ArrayValue → Option ArrayValue
combined o (Some a) (Some b) = small (binary o a b)
combined o _ _ = None

abbrev pub combined_of : Op → Fact → Fact → Option ArrayValue
combined_of o f g = when (is_sum o && (f.constant || g.constant)) (combined o f.literal g.literal)

abbrev pub checked_of : ArrayType → Option ArrayValue → Option ArrayValue
checked_of ty None = None
checked_of ty (Some a) = found (checked ty a)

-- the values of variables, or none exactly where one of them is no literal scalar
abbrev pub AreScalars : Facts → List Var → Option (Vec ArrayValue Global) → Type 0
AreScalars k xs None = (are_literal k xs && are_scalars k xs) ≡ false
AreScalars k xs (Some items) = ((are_literal k xs && are_scalars k xs) ≡ true) × (items.items ≡ map (values k) xs)
