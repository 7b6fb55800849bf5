-- Steps of a rule that asks what is in scope where it is used.
use Rattle.std.proofs.Common.{ℕ, List, Option}
use Rattle.core_ir.specs.declared.tree.Var.{Var}
use Rattle.core_ir.specs.Binders.{bound_in}
use Rattle.core_ir.specs.Edits.{Edited}
use Rattle.core_ir.specs.Terms.{BlockTerm}
use Rattle.core_facts.specs.Facts.{Facts}
use Rattle.core_loops.specs.Steps.{fact_ways}
use Rattle.core_loops.specs.norm_steps.Step.{BaseTable}
use Rattle.core_forms.specs.norm.Copied.{IsPlaced}
use Rattle.core_forms.specs.norm.Fresh.{FreshHere}
use Rattle.core_forms.specs.norm.Walks.{Steps, done, step, BlockWalk}
use Rattle.core_forms.proofs.norm.Laws.{still_rises, names_after, fresh_from}
use Rattle.core_forms.proofs.norm.Placement.{placed_below, step_placed, still_at_place}
use Rattle.core_forms.proofs.norm.Places.{place_scoped}
use Rattle.core_forms.proofs.norm.Walking.{scoped_kept}

-- the rule makes a step of new variables wherever it is used
module _ (calls : ℕ → List (Option (List ℕ))) (first : ℕ) (m : BaseTable) (Rule : ℕ → ℕ → Facts → BlockTerm → BlockTerm → Type 0) (make : (low high : ℕ) (k : Facts) (b c : BlockTerm) → Rule low high k b c → (scope : List Var) → IsPlaced low scope b → FreshHere first low high m k b c) where
  -- after it the block is at its place
  pub place_kept : {low high : ℕ} {k : Facts} {b c : BlockTerm} → Edited Facts (fact_ways calls) (FreshHere first low high m) k b c → (scope : List Var) → IsPlaced low scope b → IsPlaced high scope c
  place_kept {low = low} {high = high} {k = k} {b = b} {c = c} h scope p =
      let f = fresh_from low scope p.scope_below in
      let v = fresh_from low (bound_in b) p.bound_below in
      still_at_place low high b c scope (still_rises calls first low high m k b c h) (names_after calls first low high m k b c h)
      (scoped_kept Facts (fact_ways calls) (FreshHere first low high m) low (λ k b c h. place_scoped first low high m k b c h) h scope p.scoped f v) p

  -- many steps
  pub walk_placed :
      {k : Facts} {count low high : ℕ} {b d : BlockTerm} → Steps BlockTerm (λ low high b c. Edited Facts (fact_ways calls) (Rule low high) k b c) count low high b d → (scope : List Var) → IsPlaced low scope b →
      BlockWalk calls first m k count low high b d
  walk_placed (done l) scope p = done l
  walk_placed (step {low = low} {mid = mid} h rest) scope p =
      let g = step_placed calls low (Rule low mid) (FreshHere first low mid m) (make low mid) h scope p in
      step g (walk_placed rest scope (place_kept g scope p))

-- a walk of such steps themselves
pub still_placed :
    (calls : ℕ → List (Option (List ℕ))) (first : ℕ) (m : BaseTable) (k : Facts) (count low high : ℕ) (b c : BlockTerm) → BlockWalk calls first m k count low high b c → (scope : List Var) → IsPlaced low scope b → IsPlaced high scope c
still_placed calls first m k count low high b c walk scope p = go walk p
  where
    go : {count low high : ℕ} {b c : BlockTerm} → BlockWalk calls first m k count low high b c → IsPlaced low scope b → IsPlaced high scope c
    go (done {low = low} {high = high} {a = b} l) p = placed_below low high b scope l p
    go (step h rest) p = go rest (place_kept calls first m (λ low high. FreshHere first low high m) (λ low high k b c h scope p. h) h scope p)
