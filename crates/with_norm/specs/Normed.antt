-- Functions in which with-loops became parted loops, and cores.
use Rattle.std.specs.Prelude.{◌≡◌, ℕ, ◌+◌, ◌≤◌, List, [], ◌∷◌, All, Option}
use Rattle.core_ir.specs.Outcome.{SameOutside}
use Rattle.core_ir.specs.Terms.{BlockTerm, FunTerm, CoreTerm}
use Rattle.core_ir.specs.WellFormed.{IsWellFormed}
use Rattle.core_facts.specs.calls.Arrays.{SameOutcomeOnArrays}
use Rattle.core_facts.specs.constants.Called.{called, params_facts}
use Rattle.core_subst.specs.Names.{above_function}
use Rattle.core_forms.specs.norm.Walks.{NormSteps, core_weight}
use Rattle.variable_bases.specs.declared.signatures.Signatures.{Signatures}
use Rattle.variable_bases.specs.declared.table.BaseTable.{BaseTable}
use Rattle.partable_loops.specs.Planned.{IsPlannable}
use Rattle.variable_bases.specs.Instances.{HasInstances, OnlyInstances}
use Rattle.variable_bases.specs.Sources.{AllMayEnd}
use Rattle.variable_bases.specs.Table.{base_in, HasSources, TellsOf}
use Rattle.norm_walk.specs.Replacing.{BlockWalked, EachWith}

-- one walk over a function; so many with-loops had been replaced before, and so many are after
pub record FunctionNormed (calls : ℕ → List (Option (List ℕ))) (signatures : Signatures) (before after : ℕ) (f g : FunTerm) : Type 0 where
  pub table : BaseTable
  pub tells : TellsOf f signatures table
  pub sources : HasSources f signatures table
  pub first : ℕ
  pub above : first ≡ above_function f
  pub last : ℕ
  pub body : BlockTerm
  pub walked : BlockWalked calls (base_in table) first (params_facts f) (record { next = first; replaced = before }) (record { next = last; replaced = after })
      f.body body
  pub new : g ≡ record f { body = body }

-- over one function after another
abbrev pub AllNormed : (ℕ → List (Option (List ℕ))) → Signatures → ℕ → List FunTerm → List FunTerm → ℕ → Type 0
AllNormed calls signatures n [] [] m = m ≡ n
AllNormed calls signatures n (f ∷ fs) (g ∷ gs) m = (k : ℕ) × (FunctionNormed calls signatures n k f g × AllNormed calls signatures k fs gs m)
AllNormed calls signatures n _ _ m = ⊥

-- one round over a core
pub record Round (a b : CoreTerm) (count : ℕ) : Type 0 where
  pub signatures : Signatures
  pub has : HasInstances signatures a
  pub only : OnlyInstances signatures a
  pub groups : b.groups ≡ a.groups
  pub main : b.main ≡ a.main
  pub functions : AllNormed (called a) signatures 0 a.functions b.functions count

-- in a function in which no right side always faults, no with-loop is left that can become a parted loop
abbrev pub IsNormal : CoreTerm → FunTerm → Type 0
IsNormal core f = AllMayEnd f.body → EachWith (λ k s op gens. IsPlannable k (above_function f) s op gens → ⊥) (called core) f.body (params_facts f)

abbrev pub AllNormal : CoreTerm → Type 0
AllNormal core = All (IsNormal core) core.functions

-- what so many steps keep
pub record Kept (a b : CoreTerm) (count : ℕ) : Type 0 where
  pub outcome : SameOutcomeOnArrays a b
  pub well : IsWellFormed b
  pub lighter : core_weight b + count ≤ core_weight a
  pub steps : NormSteps count a b

pub record Normalised (a b : CoreTerm) (count : ℕ) : Type 0 where
  pub outside : SameOutside a b
  pub kept : IsWellFormed a → Kept a b count
