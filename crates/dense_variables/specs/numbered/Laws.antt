-- The statements of the laws.
use Rattle.std.specs.Prelude.{◌≡◌, ℕ, ◌<◌, true, eqb, List, ◌++◌, map, All}
use Rattle.core_ir.specs.declared.tree.Var.{Var}
use Rattle.core_ir.specs.Binders.{NoneIn, is_in}
use Rattle.core_ir.specs.WellFormed.{Distinct}
use Rattle.core_forms.specs.norm.Copied.{AreFrom}
use Rattle.parted_bodies.specs.Numbering.{numbered}

-- the new numbers of a list that has each variable once are in order
abbrev pub NumbersAreInOrder : Type 0
NumbersAreInOrder = (xs : List Var) (f : Var → Var) (n : ℕ) → Distinct xs → AreFrom n (map (numbered f xs n) xs)

-- new numbers, above those of all variables in scope, keep the variables of the list and those in scope apart
abbrev pub NumbersKeepApart : Type 0
NumbersKeepApart =
    (xs scope : List Var) (n : ℕ) → Distinct xs → NoneIn xs scope → All (λ (x : Var). x.0 < n) scope →
    (a b : Var) → is_in a (xs ++ scope) ≡ true → is_in b (xs ++ scope) ≡ true → eqb (numbered (λ x. x) xs n a).0 (numbered (λ x. x) xs n b).0 ≡ eqb a.0 b.0
