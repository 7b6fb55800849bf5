-- A loop whose cells are loops becomes one loop whose variables are new.
use Rattle.std.specs.Prelude.{ℕ, ◌≤◌, List, ◌++◌, length, All, Option}
use Rattle.sac_base.specs.declared.base.Base.{Base}
use Rattle.sac_base.specs.declared.grid.Grid1.{Grid1}
use Rattle.core_ir.specs.Binders.{bound_in_parts}
use Rattle.core_ir.specs.Terms.{BlockTerm, PartsTerm, LetTerm, PartHead, NoParts, Part, chain}
use Rattle.core_ir.specs.WellFormed.{Distinct, part_grids}
use Rattle.core_facts.specs.Facts.{Facts}
use Rattle.core_loops.specs.Pairs.{Nests}
use Rattle.core_loops.specs.merge_steps.Step.{InnerMerged, MergedParts, MergesHere}
use Rattle.core_forms.specs.norm.Alike.{Alike}
use Rattle.core_forms.specs.norm.Fresh.{IsBetween}

-- merged bodies bind what the outer bindings and the inner parts do, below the two old indices
abbrev pub AlikeInner : (h : PartHead) (before after : List LetTerm) (inner pieces : PartsTerm) → InnerMerged h before after inner pieces → Type 0
AlikeInner h before after NoParts pieces m = Unit {0}
AlikeInner h before after (Part g c rest) NoParts m = ⊥
AlikeInner h before after (Part g c rest) (Part j d pieces) m = Alike (chain (before ++ after) c) m.2.body × AlikeInner h before after rest pieces m.3

module _ (called : ℕ → List (Option (List ℕ))) (k : Facts) (frame : List Grid1) (base : Base) where
  abbrev pub AlikeMerged : (old : PartsTerm) (count : ℕ) (w : Nests called k frame base old count) (new : PartsTerm) →
      MergedParts called k frame base old count w new → Type 0
  AlikeMerged NoParts count w new m = Unit {0}
  AlikeMerged (Part h b rest) count w new m =
      AlikeInner h w.1.1.0.before w.1.1.0.after w.0 m.0 m.1.1.2 × AlikeMerged rest w.1.0 w.1.1.1 m.1.0 m.1.1.3

-- One loop of a block and the loops in its cells become one loop. All variables of the function are below `low`, and those that the new loop binds are
-- from `low` on and below `high`.
pub record MergesFresh (called : ℕ → List (Option (List ℕ))) (low high : ℕ) (k : Facts) (b c : BlockTerm) : Type 0 where
  pub step : MergesHere called low k b c
  pub rises : low ≤ high
  -- what the new loop binds
  pub once : Distinct (bound_in_parts step.new)
  pub between : All (IsBetween low high) (bound_in_parts step.new)
  -- the new index has few components
  pub axes : All (λ (g : List Grid1). length g ≤ 8) (part_grids step.new)
  -- bodies are copies
  pub alike : AlikeMerged called k step.scalarisable.frame step.base step.old step.scalarisable.count step.scalarisable.nests step.new step.parts
