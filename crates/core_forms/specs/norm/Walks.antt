-- Many with-loops of a function become parted loops, one after another.
use Rattle.std.specs.Prelude.{◌≡◌, ℕ, suc, ◌+◌, ◌≤◌, List, [], ◌∷◌, Option, Some, slice_get}
use Rattle.core_ir.specs.Edits.{Edited, EditedRight, EditedGens, EditedParts}
use Rattle.core_ir.specs.Terms.{BlockTerm, RightTerm, GensTerm, PartsTerm, FunTerm, CoreTerm}
use Rattle.core_ir.specs.WellFormed.{BlockBases, bases, param_bases}
use Rattle.core_facts.specs.Facts.{Facts}
use Rattle.core_facts.specs.calls.Replaced.{replaced_at}
use Rattle.core_loops.specs.Loops.{weight}
use Rattle.core_loops.specs.Steps.{fact_ways}
use Rattle.core_facts.specs.constants.Called.{called, params_facts}
use Rattle.core_subst.specs.Names.{above_function}
use Rattle.core_loops.specs.norm_steps.Step.{BaseTable, Within, Follows, NormStep}
use Rattle.core_forms.specs.norm.Fresh.{FreshHere}

-- So many steps, one after another. Each begins at the number at which the one before ended.
module _ (A : Type 0) (Step : ℕ → ℕ → A → A → Type 0) where
  pub data Steps : ℕ → ℕ → ℕ → A → A → Type 0 where
    done : {low high : ℕ} {a : A} → low ≤ high → Steps 0 low high a a
    step : {count low mid high : ℕ} {a b c : A} → Step low mid a b → Steps count mid high b c → Steps (suc count) low high a c

-- with-loops anywhere in a term become parted loops with new variables
module _ (calls : ℕ → List (Option (List ℕ))) (first : ℕ) (m : BaseTable) where
  abbrev pub BlockWalk : Facts → ℕ → ℕ → ℕ → BlockTerm → BlockTerm → Type 0
  BlockWalk k = Steps BlockTerm (λ low high b c. Edited Facts (fact_ways calls) (FreshHere first low high m) k b c)

  abbrev pub RightWalk : Facts → ℕ → ℕ → ℕ → RightTerm → RightTerm → Type 0
  RightWalk k = Steps RightTerm (λ low high r q. EditedRight Facts (fact_ways calls) (FreshHere first low high m) k r q)

  abbrev pub GensWalk : Facts → ℕ → ℕ → ℕ → GensTerm → GensTerm → Type 0
  GensWalk k = Steps GensTerm (λ low high g h. EditedGens Facts (fact_ways calls) (FreshHere first low high m) k g h)

  abbrev pub PartsWalk : Facts → ℕ → ℕ → ℕ → PartsTerm → PartsTerm → Type 0
  PartsWalk k = Steps PartsTerm (λ low high p q. EditedParts Facts (fact_ways calls) (FreshHere first low high m) k p q)

-- The function at a place, in whose body so many with-loops became parted loops. The new variables are from `low` on and below `high`.
pub record FunctionWalk (a b : CoreTerm) (count : ℕ) : Type 0 where
  pub place : ℕ
  pub function : FunTerm
  pub body : BlockTerm
  pub found : slice_get a.functions place ≡ Some function
  -- the bases of the function's variables
  pub table : BaseTable
  pub params : Within table (param_bases function)
  pub agreeing : BlockBases a (param_bases function) function.body (bases function.results)
  pub follows : Follows a table function.body (param_bases function) (bases function.results) agreeing
  pub low : ℕ
  pub high : ℕ
  pub below : above_function function ≤ low
  pub walk : BlockWalk (called a) low table (params_facts function) count low high function.body body
  pub changed : b ≡ record a { functions = replaced_at a.functions place (record function { body = body }) }

-- so many normalising steps of a whole core, one after another
pub data NormSteps : ℕ → CoreTerm → CoreTerm → Type 0 where
  no_step : {a : CoreTerm} → NormSteps 0 a a
  one_more : {count : ℕ} {a b c : CoreTerm} → NormStep above_function a b → NormSteps count b c → NormSteps (suc count) a c

-- the weight of a core
abbrev pub functions_weight : List FunTerm → ℕ
functions_weight [] = 0
functions_weight (f ∷ fs) = weight f.body + functions_weight fs

abbrev pub core_weight : CoreTerm → ℕ
core_weight core = functions_weight core.functions
