-- Merges in a term, one after another, whose numbers have no gaps.
use Rattle.std.specs.Prelude.{◌≡◌, ℕ, suc, ◌+◌, List, Option}
use Rattle.sac_base.specs.declared.site.Site.{Site}
use Rattle.core_ir.specs.declared.tree.Var.{Var}
use Rattle.core_ir.specs.Edits.{Edited}
use Rattle.core_ir.specs.Terms.{BlockTerm, RightTerm, LetTerm}
use Rattle.core_facts.specs.Facts.{Fact, Facts}
use Rattle.core_loops.specs.Steps.{fact_ways}
use Rattle.core_walk.specs.Editing.{EditStep}
use Rattle.parted_bodies.specs.declared.names.Progress.{Progress}
use Rattle.merge_walk.specs.planned_merges.Planned.{MergesPlanned}
use Rattle.merge_walk.specs.NoneLeft.{NoneFirst, NoneMergeable}

-- So many steps, each from the number at which the one before ended.
module _ (A : Type 0) (Step : ℕ → ℕ → A → A → Type 0) where
  pub data Walk : ℕ → ℕ → ℕ → A → A → Type 0 where
    stays : {low : ℕ} {a : A} → Walk 0 low low a a
    goes : {count low mid high : ℕ} {a b c : A} → Step low mid a b → Walk count mid high b c → Walk (suc count) low high a c

-- What was done with a term: its merges were counted, and where there was none, none could be made. `W` are merges, `N` says that no loop can be merged.
pub record Walked (A : Type 0) (W : ℕ → ℕ → ℕ → A → A → Type 0) (N : ℕ → A → Type 0) (old new : Progress) (a b : A) : Type 0 where
  pub count : ℕ
  pub walk : W count old.next new.next a b
  pub counted : new.replaced ≡ old.replaced + count
  pub none : count ≡ 0 → N old.next b

module _ (called : ℕ → List (Option (List ℕ))) (k : Facts) where
  abbrev pub BlockStep : ℕ → ℕ → BlockTerm → BlockTerm → Type 0
  BlockStep low high b c = Edited Facts (fact_ways called) (MergesPlanned called low high) k b c

  -- a block
  abbrev pub BlockWalked : Progress → Progress → BlockTerm → BlockTerm → Type 0
  BlockWalked = Walked BlockTerm (Walk BlockTerm BlockStep) (λ above b. NoneMergeable called above b k)

-- no loop that can be merged is bound first
abbrev pub NoneAt : (ℕ → List (Option (List ℕ))) → Progress → Facts → BlockTerm → Type 0
NoneAt called p = NoneFirst called p.next

-- what the walk does with a right side
abbrev pub MergeStep :
    (ℕ → List (Option (List ℕ))) → Facts → Progress → Progress → List Var → Site → RightTerm → List Fact → List LetTerm → RightTerm → List Fact → Type 0
MergeStep called = EditStep called Progress (λ p. p.replaced) (λ p q. MergesPlanned called p.next q.next) (NoneAt called)
