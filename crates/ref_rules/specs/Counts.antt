-- How often variables stand in a list, in a table by their numbers.
use Rattle.std.specs.Prelude.{◌≡◌, ℕ, nat_eq, List, Option, Some, None}
use Rattle.std.specs.HashMap.{get, HashMap}
use Rattle.core_ir.specs.declared.tree.Var.{Var}
use Rattle.counted_code.specs.Prompt.{times}

abbrev pub or_none : Option ℕ → ℕ
or_none None = 0
or_none (Some count) = count

module _ {S : Type 0} where
  -- what the table has for a variable, where no entry counts as none
  abbrev pub count_of : HashMap ℕ ℕ S → Var → ℕ
  count_of counts x = or_none (get nat_eq counts x.0)

  -- the table stands for the list
  abbrev pub AreCounts : HashMap ℕ ℕ S → List Var → Type 0
  AreCounts counts xs = (x : Var) → count_of counts x ≡ times x xs
