-- A right side and a function alone, whose selections by scalars go by vectors.
use Rattle.std.specs.Prelude.{◌≡◌, ℕ, ◌-◌, List, [], ◌∷◌, Option, Some, None, map}
use Rattle.std.specs.List.{sum}
use Rattle.sac_base.specs.declared.site.Site.{Site}
use Rattle.core_ir.specs.declared.tree.Var.{Var}
use Rattle.core_ir.specs.Terms.{PlainTerm, RightTerm, LetTerm, FunTerm, CoreTerm, Plain}
use Rattle.core_subst.specs.Names.{above_function, variable}
use Rattle.core_facts.specs.Facts.{Fact, Facts}
use Rattle.core_facts.specs.constants.Called.{called as called_in, params_facts}
use Rattle.core_forms.specs.selections.Vectors.{Selection, behind, by_scalar, next, vectored}

-- the binding of the variable of this number to the vector of a number
abbrev pub vector_let : ℕ → Site → Var → LetTerm
vector_let n s i = record { targets = variable n ∷ []; site = s; right = Plain (PlainTerm.Literal (i ∷ [])) }

-- the binding before a selection for which this choice was made, and the selection
abbrev pub before_choice : Option Selection → ℕ → Site → List LetTerm
before_choice None n s = []
before_choice (Some x) n s = vector_let n s x.index ∷ []

abbrev pub by_choice : Option Selection → ℕ → RightTerm → RightTerm
by_choice None n r = r
by_choice (Some x) n r = Plain (PlainTerm.Select x.array (variable n))

-- what the walk does with a right side
pub record VectorStep (k : Facts) (n m : ℕ) (xs : List Var) (s : Site) (r : RightTerm) (vs : List Fact) (ms : List LetTerm) (t : RightTerm) (ws : List Fact) :
    Type 0 where
  pub known : ws ≡ vs
  pub number : m ≡ behind (by_scalar r k) n
  pub before : ms ≡ before_choice (by_scalar r k) n s
  pub right : t ≡ by_choice (by_scalar r k) n r

module _ (called : ℕ → List (Option (List ℕ))) where
  abbrev pub vectored_function : FunTerm → FunTerm
  vectored_function f = record f { body = vectored called f.body (params_facts f) (above_function f) }

  -- how many vectors are new in a function
  abbrev pub vectors_in : FunTerm → ℕ
  vectors_in f = next called f.body (params_facts f) (above_function f) - above_function f

-- how many are new in the functions of a core
abbrev pub vectors_in_core : CoreTerm → ℕ
vectors_in_core core = sum (map (vectors_in (called_in core)) core.functions)
