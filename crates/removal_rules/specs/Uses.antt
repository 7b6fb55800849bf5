-- Sets of variables.
use Rattle.std.specs.Prelude.{ℕ, Bool, false, not, ◌||◌, List, [], ◌∷◌, ◌++◌}
use Rattle.std.specs.Ordering.{nat_cmp}
use Rattle.std.specs.BTreeSet.{BTreeSet, contains}
use Rattle.core_ir.specs.declared.tree.Var.{Var}
use Rattle.core_ir.specs.Binders.{is_in}
use Rattle.core_ir.specs.Scopes.{head_uses}
use Rattle.core_ir.specs.Terms.{GenTerm}
use Rattle.core_subst.specs.Names.{used_in}

-- the variables whose numbers are in the set
abbrev pub used_of : BTreeSet ℕ → Var → Bool
used_of numbers x = contains nat_cmp numbers x.0

-- the variables of the list
abbrev pub among : List Var → Var → Bool
among xs x = is_in x xs

-- those of both
abbrev pub either : (Var → Bool) → (Var → Bool) → Var → Bool
either these those x = these x || those x

-- the variables that a generator uses, nested uses included
abbrev pub used_in_gen : GenTerm → List Var
used_in_gen g = head_uses g.head ++ used_in g.body

-- the only variable of the list is not used
abbrev pub is_not_used : List Var → (Var → Bool) → Bool
is_not_used (x ∷ []) used = not (used x)
is_not_used xs used = false
