-- Functions and cores in which pairs of parted loops were folded.
use Rattle.std.specs.Prelude.{◌≡◌, ℕ, suc, ◌+◌, ◌≤◌, List, [], ◌∷◌, All, Option, length, map}
use Rattle.core_ir.specs.Outcome.{SameOutside}
use Rattle.core_ir.specs.Terms.{BlockTerm, FunTerm, CoreTerm}
use Rattle.core_ir.specs.WellFormed.{IsWellFormed}
use Rattle.core_facts.specs.calls.Arrays.{SameOutcomeOnArrays}
use Rattle.core_facts.specs.constants.Called.{called, params_facts}
use Rattle.core_subst.specs.Names.{above_function}
use Rattle.core_forms.specs.norm.Walks.{core_weight}
use Rattle.core_forms.specs.fold.Walks.{Entry, FoldSteps, parted_count}
use Rattle.fold_walk.specs.declared.state.Fold.{Fold}
use Rattle.core_walk.specs.Editing.{EachBinding}
use Rattle.fold_walk.specs.Left.{NoPairAt}
use Rattle.fold_walk.specs.Walking.{BlockWalked}

-- ---- the log

-- the place of a function, and the pair
abbrev pub entry_of : Fold → Entry
entry_of f = (f.function, record { producer = f.producer; consumer = f.consumer })

abbrev pub entries_of : List Fold → List Entry
entries_of folds = map entry_of folds

-- ---- nothing left to do

-- In no block of the function is a pair of parted loops left that can be folded. Two kinds of pairs may be left: those whose producer has a bound too far
-- from 0 to be moved or a frame with gaps, and those whose consumer would get more than 64 parts.
abbrev pub HasNoPair : CoreTerm → FunTerm → Type 0
HasNoPair core f = EachBinding (called core) (NoPairAt (called core) (above_function f)) f.body (params_facts f)

abbrev pub HasNoPairs : CoreTerm → Type 0
HasNoPairs core = All (HasNoPair core) core.functions

-- ---- a round

-- one walk over the function at a place; these pairs had been folded before, and those were after
pub record FunctionWalked (calls : ℕ → List (Option (List ℕ))) (place : ℕ) (before after : List Fold) (f g : FunTerm) : Type 0 where
  pub first : ℕ
  pub above : first ≡ above_function f
  pub last : ℕ
  pub body : BlockTerm
  pub walked : BlockWalked calls place (params_facts f) (record { next = first; folds = before }) (record { next = last; folds = after }) f.body body
  pub new : g ≡ record f { body = body }

-- over one function after another, the first of which is at this place
abbrev pub AllWalked : (ℕ → List (Option (List ℕ))) → ℕ → List Fold → List FunTerm → List FunTerm → List Fold → Type 0
AllWalked calls place before [] [] after = after ≡ before
AllWalked calls place before (f ∷ fs) (g ∷ gs) after =
    (between : List Fold) × (FunctionWalked calls place before between f g × AllWalked calls (suc place) between fs gs after)
AllWalked calls place before _ _ after = ⊥

-- one round over a core, in which these pairs were folded
pub record Round (a b : CoreTerm) (folds : List Fold) : Type 0 where
  pub groups : b.groups ≡ a.groups
  pub main : b.main ≡ a.main
  pub functions : AllWalked (called a) 0 [] a.functions b.functions folds

-- ---- rounds

-- what folds of these pairs keep
pub record Kept (a b : CoreTerm) (folds : List Fold) : Type 0 where
  pub outcome : SameOutcomeOnArrays a b
  pub well : IsWellFormed b
  pub weight : core_weight b ≤ core_weight a
  pub parted : parted_count b + length folds ≡ parted_count a
  pub steps : FoldSteps (entries_of folds) a b

pub record CoreFolded (a b : CoreTerm) (folds : List Fold) : Type 0 where
  pub outside : SameOutside a b
  pub kept : IsWellFormed a → Kept a b folds
  pub unchanged : folds ≡ [] → b ≡ a
