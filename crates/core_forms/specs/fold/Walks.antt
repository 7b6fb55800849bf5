-- Many pairs are folded, one after another.
use Rattle.std.specs.Prelude.{◌≡◌, ℕ, ◌+◌, ◌≤◌, List, [], ◌∷◌, map, Option, Some, slice_get}
use Rattle.core_ir.specs.declared.tree.Var.{Var}
use Rattle.core_ir.specs.Edits.{Edited}
use Rattle.core_ir.specs.Terms.{BlockTerm, FunTerm, CoreTerm}
use Rattle.core_facts.specs.Facts.{Facts}
use Rattle.core_facts.specs.calls.Replaced.{replaced_at}
use Rattle.core_loops.specs.Loops.{parted_in}
use Rattle.core_loops.specs.Steps.{fact_ways}
use Rattle.core_facts.specs.constants.Called.{called, params_facts}
use Rattle.core_subst.specs.Names.{above_function}
use Rattle.core_forms.specs.fold.Fresh.{Folds, FreshFoldOf}

-- a producer and the consumer into which it is folded
pub record Pair : Type 0 where
  pub producer : Var
  pub consumer : Var

-- pairs of a block, in the order in which they are folded; each step begins at the number at which the one before ended
module _ (calls : ℕ → List (Option (List ℕ))) (k : Facts) where
  pub data BlockFolds : List Pair → ℕ → ℕ → BlockTerm → BlockTerm → Type 0 where
    done : {low high : ℕ} {b : BlockTerm} → low ≤ high → BlockFolds [] low high b b
    step : {p : Pair} {ps : List Pair} {low mid high : ℕ} {b c d : BlockTerm} →
        Edited Facts (fact_ways calls) (FreshFoldOf calls p.producer p.consumer low mid) k b c → BlockFolds ps mid high c d → BlockFolds (p ∷ ps) low high b d

-- The function at a place, in whose body these pairs were folded. The new variables are from `low` on and below `high`.
pub record FunctionFolds (a b : CoreTerm) (pairs : List Pair) : Type 0 where
  pub place : ℕ
  pub function : FunTerm
  pub body : BlockTerm
  pub found : slice_get a.functions place ≡ Some function
  pub low : ℕ
  pub high : ℕ
  pub below : above_function function ≤ low
  pub walk : BlockFolds (called a) (params_facts function) pairs low high function.body body
  pub changed : b ≡ record a { functions = replaced_at a.functions place (record function { body = body }) }

-- a pair of the function at a place
abbrev pub Entry : Type 0
Entry = ℕ × Pair

-- a fold step of a whole core, on the pair of an entry
pub record FoldOf (entry : Entry) (a b : CoreTerm) : Type 0 where
  pub function : FunTerm
  pub body : BlockTerm
  pub found : slice_get a.functions entry.0 ≡ Some function
  pub edited : Edited Facts (fact_ways (called a)) (Folds (called a) entry.1.producer entry.1.consumer (above_function function)) (params_facts function)
      function.body body
  pub changed : b ≡ record a { functions = replaced_at a.functions entry.0 (record function { body = body }) }

-- a fold step of a whole core for each entry, in order
pub data FoldSteps : List Entry → CoreTerm → CoreTerm → Type 0 where
  no_fold : {a : CoreTerm} → FoldSteps [] a a
  one_fold : {entry : Entry} {entries : List Entry} {a b c : CoreTerm} → FoldOf entry a b → FoldSteps entries b c → FoldSteps (entry ∷ entries) a c

-- the entries of the pairs of one function
abbrev pub entries_at : ℕ → List Pair → List Entry
entries_at place pairs = map (λ (p : Pair). (place, p)) pairs

-- how many parted loops a core has
abbrev pub functions_parted : List FunTerm → ℕ
functions_parted [] = 0
functions_parted (f ∷ fs) = parted_in f.body + functions_parted fs

abbrev pub parted_count : CoreTerm → ℕ
parted_count core = functions_parted core.functions
