-- Copies of the body of a generator, whose variables are numbered in order.
use Rattle.std.specs.Prelude.{◌≡◌, ℕ, suc, ◌<◌, List, [], ◌∷◌, All, pos}
use Rattle.sac_base.specs.declared.base.Base.TheVariants.{Int}
use Rattle.sac_base.specs.declared.site.Site.{Site}
use Rattle.sac_base.specs.Arrays.{scalar}
use Rattle.core_ir.specs.declared.tree.Var.{Var}
use Rattle.core_ir.specs.Binders.{bound_in}
use Rattle.core_ir.specs.Scopes.{Scoped}
use Rattle.core_ir.specs.Terms.{PlainTerm, BlockTerm, Bind, Plain}
use Rattle.core_ir.specs.WellFormed.{Distinct}

-- the numbers of the variables, one after another
abbrev pub AreFrom : ℕ → List Var → Type 0
AreFrom n [] = Unit {0}
AreFrom n (x ∷ xs) = (x.0 ≡ n) × AreFrom (suc n) xs

-- a block at its place in a function all of whose variables are below a number
pub record IsPlaced (low : ℕ) (scope : List Var) (b : BlockTerm) : Type 0 where
  pub scoped : Scoped scope b
  pub once : Distinct (bound_in b)
  pub scope_below : All (λ (x : Var). x.0 < low) scope
  pub bound_below : All (λ (x : Var). x.0 < low) (bound_in b)

-- the components of the index i from the j-th on, each by a constant c and a selection that stands for a name
abbrev pub components : Site → Var → ℕ → (Var → Var) → List Var → List Var → BlockTerm → BlockTerm
components s i j f (x ∷ xs) (c ∷ cs) b =
    Bind (c ∷ []) s (Plain (PlainTerm.Const (scalar Int (pos j)))) (Bind (f x ∷ []) s (Plain (PlainTerm.Select i c)) (components s i (suc j) f xs cs b))
components s i j f _ _ b = b
