-- One loop is merged with the loops in its cells, or cannot be.
use Rattle.std.specs.Prelude.{◌≡◌, ◌⊎◌, ℕ, suc, List, [], ◌∷◌, Option}
use Rattle.sac_base.specs.declared.site.Site.{Site}
use Rattle.core_ir.specs.declared.tree.Var.{Var}
use Rattle.core_ir.specs.Terms.{BlockTerm, RightTerm, Bind}
use Rattle.core_facts.specs.Facts.{Facts}
use Rattle.parted_bodies.specs.declared.names.Progress.{Progress}
use Rattle.merge_plans.specs.Mergeable.{CanMerge}
use Rattle.merge_walk.specs.planned_merges.Planned.{MergesPlanned}

module _ (called : ℕ → List (Option (List ℕ))) (k : Facts) (old new : Progress) where
  pub record IsMerged (r q : RightTerm) : Type 0 where
    pub step : (target : Var) (site : Site) (rest : BlockTerm) → MergesPlanned called old.next new.next k (Bind (target ∷ []) site r rest)
        (Bind (target ∷ []) site q rest)
    pub counted : new.replaced ≡ suc old.replaced

  abbrev pub MergedOrNot : RightTerm → RightTerm → Type 0
  MergedOrNot r q = IsMerged r q ⊎ ((new ≡ old) × (q ≡ r) × (CanMerge called old.next k r → ⊥))

  -- the same of a binding, which is left where it has not one variable
  abbrev pub BindingMerged : List Var → RightTerm → RightTerm → Type 0
  BindingMerged (x ∷ []) r q = MergedOrNot r q
  BindingMerged xs r q = (new ≡ old) × (q ≡ r)
