-- Whose references end in a right side.
use Rattle.std.specs.Prelude.{◌+◌, ◌-◌, ◌^◌, ◌&&◌, min, length, ℕ, Bool, true, false, List}
use Rattle.core_ir.specs.declared.tree.Var.{Var}
use Rattle.core_ir.specs.Terms.{PlainTerm, RightTerm, Plain}
use Rattle.ref_rules.specs.declared.listed_uses.list.Entry.{Entry}
use Rattle.ref_counts.specs.Owning.{ends}

-- it hands on what it uses first, or is a conditional
abbrev pub ends_some : RightTerm → Bool
ends_some (Plain (PlainTerm.Copy x)) = true
ends_some (Plain (PlainTerm.Check x t)) = true
ends_some (RightTerm.If c a b) = true
ends_some (RightTerm.Loop first start params test body s) = true
ends_some (RightTerm.Call g xs) = true
ends_some _ = false

-- the place of the first use that a right side does not hand on, where its section lies between these places
abbrev pub read_place : RightTerm → ℕ → ℕ → ℕ
read_place (RightTerm.Loop first start params test body s) from to = min (min (from + 1) (2 ^ 64 - 1) + length start) (2 ^ 64 - 1)
read_place _ from to = to

-- of the variables that are used by the right side or later, those that it does not leave to what follows
abbrev pub ends_in : List Entry → RightTerm → (from to : ℕ) → Var → Bool
ends_in es r from to x = ends_some r && ends es (read_place r from to) x
