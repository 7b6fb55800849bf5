-- The variables of a tree, and those whose references end.
use Rattle.std.specs.Prelude.{◌≡◌, ◌<◌, ℕ, Bool, true, not, filter, List, [], ◌∷◌, ◌++◌}
use Rattle.core_ir.specs.declared.tree.Var.{Var}
use Rattle.core_ir.specs.Binders.{is_in}
use Rattle.ref_rules.specs.declared.listed_uses.list.Entry.{Entry}
use Rattle.ref_rules.specs.listed_uses.Latest.{is_used, IsLast}
use Rattle.ref_counts.specs.declared.held.Owned.{Owned, Gone, One, Fork'}

-- from the first to the last
abbrev pub owned_vars : Owned → List Var
owned_vars Gone = []
owned_vars (One x behind) = x ∷ []
owned_vars (Fork' leaves used_before p first q second) = owned_vars first ++ owned_vars second

-- before this place each of the variables is used at the place or later
abbrev pub IsBound : List Entry → List Var → ℕ → Type 0
IsBound es xs bound = (x : Var) (from : ℕ) → is_in x xs ≡ true → from < bound → is_used es from x ≡ true

-- each place is right
abbrev pub IsSound : List Entry → Owned → Type 0
IsSound es Gone = Unit {0}
IsSound es (One x behind) = IsLast es x behind
IsSound es (Fork' leaves used_before p first q second) = IsBound es (owned_vars first ++ owned_vars second) used_before × IsSound es first × IsSound es second

-- it is not used at this place or later
abbrev pub ends : List Entry → ℕ → Var → Bool
ends es from x = not (is_used es from x)

-- of a tree's variables, those that end are taken out and appended
pub record EndsOf (es : List Entry) (end : Var → Bool) (tree rest : Owned) (before after : List Var) : Type 0 where
  pub taken : after ≡ before ++ filter end (owned_vars tree)
  pub left : owned_vars rest ≡ filter (λ x. not (end x)) (owned_vars tree)
  pub sound : IsSound es rest
