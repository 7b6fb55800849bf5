-- A fold with-loop and the parted loop in its place.
use Rattle.std.specs.List.{list_any}
use Rattle.std.specs.Prelude.{◌≡◌, ◌⊎◌, ℕ, true, false, eqb, List, [], ◌∷◌, map, length, ℤ, Option, Some, None}
use Rattle.sac_base.specs.declared.grid.Grid1.{Grid1}
use Rattle.sac_base.specs.declared.op.Op.{Op}
use Rattle.sac_base.specs.declared.site.Site.{Site}
use Rattle.sac_base.specs.Grids.{has_vector, times_vector}
use Rattle.core_ir.specs.declared.tree.Var.{Var}
use Rattle.core_ir.specs.declared.tree.CoreOp.TheVariants as making
use Rattle.core_ir.specs.declared.tree.PartedOp.TheVariants as parted
use Rattle.core_ir.specs.Renaming.{under}
use Rattle.core_ir.specs.Terms.{BlockTerm, RightTerm, GensTerm, PartsTerm, GenHead, PartHead, NoParts, Part, Parted}
use Rattle.core_facts.specs.Facts.{Facts}
use Rattle.core_loops.specs.norm.Norm.{NameFirst}
use Rattle.core_loops.specs.Loops.{IsPartable}
use Rattle.core_loops.specs.Steps.{itself}
use Rattle.core_loops.specs.norm_steps.Genarray.{GenAt, count_gens, NamedBody}

-- a part of a generator
abbrev pub FoldPartOf : ℕ → GensTerm → Option ℕ → PartHead → BlockTerm → Type 0
FoldPartOf n gens None h b = ⊥
FoldPartOf n gens (Some m) h b =
    (head : GenHead) × ((body : BlockTerm) ×
    (GenAt gens m head body × (h.site ≡ head.site) × ((head.names ≡ []) ⊎ (length head.names ≡ n)) ×
    NamedBody (under itself head.index h.index) h.index 0 head.names body b))

abbrev pub FoldLabelled : ℕ → GensTerm → List (List Grid1 × Option ℕ) → PartsTerm → Type 0
FoldLabelled n gens [] NoParts = Unit {0}
FoldLabelled n gens (p ∷ ps) (Part h b rest) = (h.grid ≡ p.0) × FoldPartOf n gens p.1 h b × FoldLabelled n gens ps rest
FoldLabelled n gens _ _ = ⊥

pub record FoldParted (k : Facts) (above : ℕ) (s : Site) (o : Op) (neutral : Var) (gens : GensTerm) (right : RightTerm) : Type 0 where
  pub partable : IsPartable k above s (making.Fold o neutral) gens
  pub cell : List ℕ
  pub known : (k neutral).shape ≡ Some cell
  pub form : partable.planned.form ≡ record { base = partable.base; shape = cell }
  pub count : length partable.planned.ranges ≡ count_gens gens
  -- the pieces of a partition of the frame that some generator has
  pub labels : List (List Grid1 × Option ℕ)
  pub cover : (v : List ℤ) → has_vector partable.frame v ≡ true → (times_vector (map (λ (p : List Grid1 × Option ℕ). p.0) labels) v ≡ 1) ⊎
      ((list_any (λ g. has_vector g v) partable.grids ≡ false) × (list_any (λ (p : List Grid1 × Option ℕ). has_vector p.0 v) labels ≡ false))
  pub first : NameFirst partable.grids labels
  pub parts : PartsTerm
  pub labelled : FoldLabelled (length partable.frame) gens labels parts
  pub made : right ≡ Parted partable.frame partable.base cell (parted.Fold o neutral) parts
