-- A loop that becomes the loop of a plan, with the parts that are made for it.
use Rattle.std.specs.Prelude.{◌≡◌, ℕ, ◌+◌, List, [], ◌∷◌, ◌++◌, Option}
use Rattle.sac_base.specs.declared.base.Base.{Base}
use Rattle.sac_base.specs.declared.grid.Grid1.{Grid1}
use Rattle.sac_base.specs.declared.site.Site.{Site}
use Rattle.core_ir.specs.declared.tree.Var.{Var}
use Rattle.core_ir.specs.declared.tree.PartedOp.TheVariants as parted
use Rattle.core_ir.specs.Edits.{Edited}
use Rattle.core_ir.specs.Terms.{BlockTerm, PartTerm, Bind, Parted, parts_of}
use Rattle.core_facts.specs.Facts.{Facts}
use Rattle.core_loops.specs.Steps.{fact_ways}
use Rattle.core_forms.specs.norm.Walks.{Steps}
use Rattle.parted_bodies.specs.Making.{binds_of}
use Rattle.merge_plans.specs.Mergeable.{IsMergeable}
use Rattle.merged_parts.specs.Merging.{merged_all}

-- One loop of a block is merged, and the variables of its new parts have the numbers from `low` on and below `high`.
pub record MergesPlanned (called : ℕ → List (Option (List ℕ))) (low high : ℕ) (k : Facts) (b c : BlockTerm) : Type 0 where
  pub target : Var
  pub site : Site
  pub frame : List Grid1
  pub base : Base
  pub cell : List ℕ
  pub old : List PartTerm
  pub rest : BlockTerm
  pub mergeable : IsMergeable called low k frame base cell (parts_of old)
  pub next : high ≡ low + binds_of (merged_all old low)
  pub before : b ≡ Bind (target ∷ []) site (Parted frame base cell parted.Genarray (parts_of old)) rest
  pub after : c ≡ Bind (target ∷ []) site
      (Parted (frame ++ mergeable.scalarisable.frame) base [] parted.Genarray (parts_of (merged_all old low))) rest

-- loops anywhere in a block are merged, one after another
abbrev pub PlannedMerges : (ℕ → List (Option (List ℕ))) → Facts → ℕ → ℕ → ℕ → BlockTerm → BlockTerm → Type 0
PlannedMerges called k = Steps BlockTerm (λ low high b c. Edited Facts (fact_ways called) (MergesPlanned called low high) k b c)
