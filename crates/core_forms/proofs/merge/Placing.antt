-- Merge steps of a rule that asks what is in scope where it is used.
use Rattle.std.proofs.Common.{ℕ, List, Option}
use Rattle.core_ir.specs.declared.tree.Var.{Var}
use Rattle.core_ir.specs.Binders.{bound_in}
use Rattle.core_ir.specs.Edits.{Edited}
use Rattle.core_ir.specs.Terms.{BlockTerm}
use Rattle.core_facts.specs.Facts.{Facts}
use Rattle.core_loops.specs.Steps.{fact_ways}
use Rattle.core_forms.specs.norm.Copied.{IsPlaced}
use Rattle.core_forms.specs.norm.Walks.{done, step}
use Rattle.core_forms.proofs.norm.Laws.{fresh_from}
use Rattle.core_forms.proofs.norm.Placement.{placed_below, still_at_place}
use Rattle.core_forms.proofs.norm.Walking.{scoped_kept}
use Rattle.core_forms.specs.merge.Fresh.{MergesFresh}
use Rattle.core_forms.specs.merge.Walks.{BlockMerges}
use Rattle.core_forms.proofs.merge.Laws.{names_after, place_scoped, still_rises}

-- after a step a block at its place is at its place
pub place_kept :
    (calls : ℕ → List (Option (List ℕ))) {low high : ℕ} {k : Facts} {b c : BlockTerm} → Edited Facts (fact_ways calls) (MergesFresh calls low high) k b c → (scope : List Var) → IsPlaced low scope b → IsPlaced high scope c
place_kept calls {low = low} {high = high} {k = k} {b = b} {c = c} h scope p =
    let f = fresh_from low scope p.scope_below in
    let v = fresh_from low (bound_in b) p.bound_below in
    still_at_place low high b c scope (still_rises calls low high k b c h) (names_after calls low high k b c h)
    (scoped_kept Facts (fact_ways calls) (MergesFresh calls low high) low (λ k b c h. place_scoped calls low high k b c h) h scope p.scoped f v) p

pub still_placed :
    (calls : ℕ → List (Option (List ℕ))) (k : Facts) (count low high : ℕ) (b c : BlockTerm) → BlockMerges calls k count low high b c → (scope : List Var) → IsPlaced low scope b → IsPlaced high scope c
still_placed calls k count low high b c walk scope p = go walk p
  where
    go : {count low high : ℕ} {b c : BlockTerm} → BlockMerges calls k count low high b c → IsPlaced low scope b → IsPlaced high scope c
    go (done {low = low} {high = high} {a = b} l) p = placed_below low high b scope l p
    go (step h rest) p = go rest (place_kept calls h scope p)
