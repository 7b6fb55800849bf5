-- Operators whose operands may change places.
use Rattle.std.specs.Prelude.{◌≡◌, ℤ}
use Rattle.sac_base.specs.declared.op.Op.{Op}
use Rattle.sac_base.specs.Operators.{apply_two, result_base}

-- the other operator has the same value where the operands have changed places
pub record IsMirror (op other : Op) : Type 0 where
  pub base : result_base op ≡ result_base other
  pub value : (x y : ℤ) → apply_two op x y ≡ apply_two other y x
