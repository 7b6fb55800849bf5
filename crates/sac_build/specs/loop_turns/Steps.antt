-- Turns, in each of which loops are normalised, folded and merged.
use Rattle.std.specs.Prelude.{◌≡◌, ℕ, ◌+◌, List, length}
use Rattle.core_ir.specs.Outcome.{SameOutside}
use Rattle.core_ir.specs.Terms.{CoreTerm}
use Rattle.core_ir.specs.WellFormed.{IsWellFormed}
use Rattle.core_facts.specs.calls.Arrays.{SameOutcomeOnArrays}
use Rattle.core_forms.specs.fold.Walks.{Entry, FoldSteps}
use Rattle.core_forms.specs.merge.Walks.{MergeSteps}
use Rattle.core_forms.specs.norm.Walks.{NormSteps}
use Rattle.dense_variables.specs.Dense.{dense_core}
use Rattle.scalarise.specs.Scalarised.{NoneLeft}
use Rattle.with_norm.specs.Normed.{AllNormal}
use Rattle.wl_folding.specs.Folded.{HasNoPairs}

-- ---- turns

-- one turn: variables are numbered one after another, and then come normalising steps, so many fold steps and so many merge steps
pub record Turn (a b : CoreTerm) (folded scalarised : ℕ) : Type 0 where
  pub normal : CoreTerm
  pub single : CoreTerm
  pub replaced : ℕ
  pub pairs : List Entry
  pub normalised : NormSteps replaced (dense_core a) normal
  pub folds : FoldSteps pairs normal single
  pub count : length pairs ≡ folded
  pub merges : MergeSteps scalarised single b

-- one turn after another; the numbers count the fold steps and the merge steps of all
pub data Turns : ℕ → ℕ → CoreTerm → CoreTerm → Type 0 where
  no_turn : {a : CoreTerm} → Turns 0 0 a a
  turn : {folded scalarised pairs nests : ℕ} {a b c : CoreTerm} → Turns folded scalarised a b → Turn b c pairs nests →
      Turns (folded + pairs) (scalarised + nests) a c

-- ---- what turns keep

pub record Kept (a b : CoreTerm) (folded scalarised : ℕ) : Type 0 where
  pub outcome : SameOutcomeOnArrays a b
  pub well : IsWellFormed b
  pub turns : Turns folded scalarised a b

pub record Turned (a b : CoreTerm) (folded scalarised : ℕ) : Type 0 where
  pub outside : SameOutside a b
  pub kept : IsWellFormed a → Kept a b folded scalarised

-- a core in which no with-loop, no pair and no nest is left
pub record AreSettled (core : CoreTerm) : Type 0 where
  pub normal : AllNormal core
  pub pairs : HasNoPairs core
  pub nests : NoneLeft core

pub record TurnKept (a b : CoreTerm) (folded scalarised : ℕ) : Type 0 where
  pub outcome : SameOutcomeOnArrays a b
  pub well : IsWellFormed b
  pub turn : Turn a b folded scalarised
  pub settled : folded ≡ 0 → scalarised ≡ 0 → AreSettled b

pub record TurnMade (a b : CoreTerm) (folded scalarised : ℕ) : Type 0 where
  pub outside : SameOutside a b
  pub kept : IsWellFormed a → TurnKept a b folded scalarised

-- it came by turns, with so many fold steps and merge steps in all, from a core that has the same outcome on arrays
pub record CameByTurns (a b : CoreTerm) (folded scalarised : ℕ) : Type 0 where
  pub core : CoreTerm
  pub well : IsWellFormed core
  pub same : SameOutcomeOnArrays a core
  pub turns : Turns folded scalarised core b
