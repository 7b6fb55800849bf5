-- Many loops of a function and the loops in their cells become one, one after another.
use Rattle.std.specs.Prelude.{◌≡◌, ℕ, suc, ◌+◌, ◌≤◌, List, [], ◌∷◌, Option, Some, slice_get}
use Rattle.core_ir.specs.Edits.{Edited, EditedRight, EditedGens, EditedParts}
use Rattle.core_ir.specs.Terms.{BlockTerm, RightTerm, GensTerm, PartsTerm, FunTerm, CoreTerm}
use Rattle.core_facts.specs.Facts.{Facts}
use Rattle.core_facts.specs.calls.Replaced.{replaced_at}
use Rattle.core_loops.specs.Loops.{parted_in}
use Rattle.core_loops.specs.Steps.{fact_ways}
use Rattle.core_facts.specs.constants.Called.{called, params_facts}
use Rattle.core_subst.specs.Names.{above_function}
use Rattle.core_loops.specs.merge_steps.Step.{MergeStep}
use Rattle.core_forms.specs.norm.Walks.{Steps}
use Rattle.core_forms.specs.merge.Fresh.{MergesFresh}

-- loops anywhere in a term are merged with the ones in their cells
module _ (calls : ℕ → List (Option (List ℕ))) where
  abbrev pub BlockMerges : Facts → ℕ → ℕ → ℕ → BlockTerm → BlockTerm → Type 0
  BlockMerges k = Steps BlockTerm (λ low high b c. Edited Facts (fact_ways calls) (MergesFresh calls low high) k b c)

  abbrev pub RightMerges : Facts → ℕ → ℕ → ℕ → RightTerm → RightTerm → Type 0
  RightMerges k = Steps RightTerm (λ low high r q. EditedRight Facts (fact_ways calls) (MergesFresh calls low high) k r q)

  abbrev pub GensMerges : Facts → ℕ → ℕ → ℕ → GensTerm → GensTerm → Type 0
  GensMerges k = Steps GensTerm (λ low high g h. EditedGens Facts (fact_ways calls) (MergesFresh calls low high) k g h)

  abbrev pub PartsMerges : Facts → ℕ → ℕ → ℕ → PartsTerm → PartsTerm → Type 0
  PartsMerges k = Steps PartsTerm (λ low high p q. EditedParts Facts (fact_ways calls) (MergesFresh calls low high) k p q)

-- The function at a place, in whose body so many loops were merged. The new variables are from `low` on and below `high`.
pub record FunctionMerges (a b : CoreTerm) (count : ℕ) : Type 0 where
  pub place : ℕ
  pub function : FunTerm
  pub body : BlockTerm
  pub found : slice_get a.functions place ≡ Some function
  pub low : ℕ
  pub high : ℕ
  pub below : above_function function ≤ low
  pub walk : BlockMerges (called a) (params_facts function) count low high function.body body
  pub changed : b ≡ record a { functions = replaced_at a.functions place (record function { body = body }) }

-- so many merge steps of a whole core, one after another
pub data MergeSteps : ℕ → CoreTerm → CoreTerm → Type 0 where
  no_step : {a : CoreTerm} → MergeSteps 0 a a
  one_more : {count : ℕ} {a b c : CoreTerm} → MergeStep above_function a b → MergeSteps count b c → MergeSteps (suc count) a c

-- the number of parted loops of a core
abbrev pub functions_parted : List FunTerm → ℕ
functions_parted [] = 0
functions_parted (f ∷ fs) = parted_in f.body + functions_parted fs

abbrev pub core_parted : CoreTerm → ℕ
core_parted core = functions_parted core.functions
