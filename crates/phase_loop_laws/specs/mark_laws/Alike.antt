-- Environments that differ in an array of which a cell reads its own element alone.
use Rattle.std.specs.Prelude.{◌≡◌, false, eqb, List, ℤ}
use Rattle.sac_base.specs.declared.base.Base.TheVariants.{Int}
use Rattle.sac_base.specs.Arrays.{vector}
use Rattle.sac_base.specs.Parts.{select}
use Rattle.core_ir.specs.declared.tree.Var.{Var}
use Rattle.core_ir.specs.Meaning.{Env}

-- the second environment may have another array for the variable, with the same element at the index
pub record AlikeAt (v : Var) (index : List ℤ) (e f : Env) : Type 0 where
  pub others : (y : Var) → eqb v.0 y.0 ≡ false → f y ≡ e y
  pub element : select (f v) (vector Int index) ≡ select (e v) (vector Int index)
