-- A modarray with-loop and the parted loop in its place.
use Rattle.std.specs.Prelude.{◌≡◌, ◌⊎◌, ℕ, true, false, eqb, List, [], ◌∷◌, ◌++◌, map, length, ℤ, Option, Some, None}
use Rattle.sac_base.specs.declared.grid.Grid1.{Grid1}
use Rattle.sac_base.specs.declared.site.Site.{Site}
use Rattle.sac_base.specs.Grids.{has_vector, times_vector}
use Rattle.sac_base.specs.Parts.{Part as ArrayPart, part_at}
use Rattle.core_ir.specs.declared.tree.Var.{Var}
use Rattle.core_ir.specs.declared.tree.CoreOp.TheVariants as making
use Rattle.core_ir.specs.declared.tree.PartedOp.TheVariants as parted
use Rattle.core_ir.specs.Meaning.{extents}
use Rattle.core_ir.specs.Renaming.{under}
use Rattle.core_ir.specs.Terms.{PlainTerm, BlockTerm, RightTerm, GensTerm, PartsTerm, GenHead, PartHead, Gives, Bind, Plain, NoParts, Part, Parted}
use Rattle.core_facts.specs.Facts.{Facts}
use Rattle.core_loops.specs.norm.Norm.{NameFirst}
use Rattle.core_loops.specs.Loops.{IsPartable}
use Rattle.core_loops.specs.Steps.{itself}
use Rattle.core_loops.specs.norm_steps.Genarray.{GenAt, count_gens, NamedBody}

-- a part of a generator, or of old cells
abbrev pub OldPartOf : Var → ℕ → GensTerm → Option ℕ → PartHead → BlockTerm → Type 0
OldPartOf array n gens None h b = (z : Var) ×
    ((s : Site) × ((b ≡ Bind (z ∷ []) s (Plain (PlainTerm.Select array h.index)) (Gives (z ∷ []))) × (eqb h.index.0 array.0 ≡ false)))
OldPartOf array n gens (Some m) h b =
    (head : GenHead) × ((body : BlockTerm) ×
    (GenAt gens m head body × (h.site ≡ head.site) × ((head.names ≡ []) ⊎ (length head.names ≡ n)) ×
    NamedBody (under itself head.index h.index) h.index 0 head.names body b))

abbrev pub OldLabelled : Var → ℕ → GensTerm → List (List Grid1 × Option ℕ) → PartsTerm → Type 0
OldLabelled array n gens [] NoParts = Unit {0}
OldLabelled array n gens (p ∷ ps) (Part h b rest) = (h.grid ≡ p.0) × OldPartOf array n gens p.1 h b × OldLabelled array n gens ps rest
OldLabelled array n gens _ _ = ⊥

pub record ModarrayParted (k : Facts) (above : ℕ) (s : Site) (array : Var) (gens : GensTerm) (right : RightTerm) : Type 0 where
  pub partable : IsPartable k above s (making.Modarray array) gens
  pub shape : List ℕ
  pub cell : List ℕ
  pub known : (k array).shape ≡ Some shape
  pub form : partable.planned.form ≡ record { base = partable.base; shape = cell }
  pub whole : partable.planned.shape ≡ extents partable.frame ++ cell
  pub count : length partable.planned.ranges ≡ count_gens gens
  -- each index of the frame has an old cell
  pub old : (v : List ℤ) → has_vector partable.frame v ≡ true → (q : ArrayPart) × ((part_at shape v ≡ Some q) × (q.shape ≡ cell))
  -- what a partition of the frame gives
  pub labels : List (List Grid1 × Option ℕ)
  pub cover : (v : List ℤ) → has_vector partable.frame v ≡ true → times_vector (map (λ (p : List Grid1 × Option ℕ). p.0) labels) v ≡ 1
  pub first : NameFirst partable.grids labels
  pub parts : PartsTerm
  pub labelled : OldLabelled array (length partable.frame) gens labels parts
  pub made : right ≡ Parted partable.frame partable.base cell (parted.Modarray array) parts
