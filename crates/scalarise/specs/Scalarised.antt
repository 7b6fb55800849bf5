-- Functions in which loops were merged with the loops in their cells, and cores.
use Rattle.std.specs.Prelude.{◌≡◌, ℕ, ◌+◌, ◌≤◌, List, [], ◌∷◌, All, Option}
use Rattle.core_ir.specs.Outcome.{SameOutside}
use Rattle.core_ir.specs.Terms.{BlockTerm, FunTerm, CoreTerm}
use Rattle.core_ir.specs.WellFormed.{IsWellFormed}
use Rattle.core_facts.specs.calls.Arrays.{SameOutcomeOnArrays}
use Rattle.core_facts.specs.constants.Called.{called, params_facts}
use Rattle.core_subst.specs.Names.{above_function}
use Rattle.core_forms.specs.norm.Walks.{core_weight}
use Rattle.core_forms.specs.merge.Walks.{MergeSteps, core_parted}
use Rattle.merge_walk.specs.NoneLeft.{NoneMergeable}
use Rattle.merge_walk.specs.Walking.{BlockWalked}

-- one walk over a function; so many loops had been merged before, and so many are after
pub record FunctionMerged (calls : ℕ → List (Option (List ℕ))) (before after : ℕ) (f g : FunTerm) : Type 0 where
  pub first : ℕ
  pub above : first ≡ above_function f
  pub last : ℕ
  pub body : BlockTerm
  pub walked : BlockWalked calls (params_facts f) (record { next = first; replaced = before }) (record { next = last; replaced = after }) f.body body
  pub new : g ≡ record f { body = body }

-- over one function after another
abbrev pub AllMerged : (ℕ → List (Option (List ℕ))) → ℕ → List FunTerm → List FunTerm → ℕ → Type 0
AllMerged calls n [] [] m = m ≡ n
AllMerged calls n (f ∷ fs) (g ∷ gs) m = (k : ℕ) × (FunctionMerged calls n k f g × AllMerged calls k fs gs m)
AllMerged calls n _ _ m = ⊥

-- one round over a core
pub record Round (a b : CoreTerm) (count : ℕ) : Type 0 where
  pub groups : b.groups ≡ a.groups
  pub main : b.main ≡ a.main
  pub functions : AllMerged (called a) 0 a.functions b.functions count

-- no loop of a function can be merged with the loops in its cells
abbrev pub NoneLeftIn : CoreTerm → FunTerm → Type 0
NoneLeftIn core f = NoneMergeable (called core) (above_function f) f.body (params_facts f)

abbrev pub NoneLeft : CoreTerm → Type 0
NoneLeft core = All (NoneLeftIn core) core.functions

-- what so many merges keep
pub record Kept (a b : CoreTerm) (count : ℕ) : Type 0 where
  pub outcome : SameOutcomeOnArrays a b
  pub well : IsWellFormed b
  pub weight : core_weight b ≤ core_weight a
  pub parted : core_parted b + count ≤ core_parted a
  pub steps : MergeSteps count a b

pub record Scalarised (a b : CoreTerm) (count : ℕ) : Type 0 where
  pub outside : SameOutside a b
  pub same : count ≡ 0 → b ≡ a
  pub kept : IsWellFormed a → Kept a b count
