-- What a contract sees of a table.
use Rattle.std.specs.Prelude.{cond, eqb, List, [], ◌∷◌, Option, None}
use Rattle.core_ir.specs.declared.tree.Var.{Var}

-- a variable, and what is noted of it from there on
pub record Note (T : Type 0) : Type 0 where
  pub variable : Var
  pub value : Option T

module _ {T : Type 0} where
  -- what is noted of a variable, by the latest note of it
  abbrev pub noted : List (Note T) → Var → Option T
  noted [] x = None
  noted (n ∷ rest) x = cond (eqb n.variable.0 x.0) n.value (noted rest x)
