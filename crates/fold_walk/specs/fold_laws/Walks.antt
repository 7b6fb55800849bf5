-- Functions in which pairs were folded by their plans, one after another.
use Rattle.std.specs.Prelude.{◌≡◌, ℕ, ◌≤◌, List, [], ◌∷◌, Option, Some, slice_get}
use Rattle.core_ir.specs.Edits.{Edited}
use Rattle.core_ir.specs.Terms.{BlockTerm, FunTerm, CoreTerm}
use Rattle.core_facts.specs.Facts.{Facts}
use Rattle.core_facts.specs.calls.Replaced.{replaced_at}
use Rattle.core_loops.specs.Steps.{fact_ways}
use Rattle.core_facts.specs.constants.Called.{called, params_facts}
use Rattle.core_subst.specs.Names.{above_function}
use Rattle.core_forms.specs.fold.Walks.{Pair}
use Rattle.fold_walk.specs.fold_laws.Made.{FoldMadeOf}

-- pairs of a block, in the order in which they are folded; each fold begins at the number at which the one before ended
module _ (calls : ℕ → List (Option (List ℕ))) (k : Facts) where
  pub data PairsFolded : List Pair → ℕ → ℕ → BlockTerm → BlockTerm → Type 0 where
    stays : {n : ℕ} {b : BlockTerm} → PairsFolded [] n n b b
    folds : {p : Pair} {ps : List Pair} {low mid high : ℕ} {b c d : BlockTerm} →
        Edited Facts (fact_ways calls) (FoldMadeOf calls p.producer p.consumer low mid) k b c → PairsFolded ps mid high c d →
        PairsFolded (p ∷ ps) low high b d

-- the function at a place, in whose body these pairs were folded
pub record FunctionFolded (a b : CoreTerm) (place : ℕ) (pairs : List Pair) : Type 0 where
  pub function : FunTerm
  pub body : BlockTerm
  pub found : slice_get a.functions place ≡ Some function
  pub low : ℕ
  pub high : ℕ
  pub below : above_function function ≤ low
  pub walk : PairsFolded (called a) (params_facts function) pairs low high function.body body
  pub changed : b ≡ record a { functions = replaced_at a.functions place (record function { body = body }) }
