-- A genarray with-loop and the parted loop in its place.
use Rattle.std.specs.Prelude.{◌≡◌, ◌⊎◌, ℕ, zero, suc, true, false, eqb, List, [], ◌∷◌, ◌++◌, map, length, ℤ, pos, Option, Some, None}
use Rattle.sac_base.specs.declared.base.Base.TheVariants.{Int}
use Rattle.sac_base.specs.declared.grid.Grid1.{Grid1}
use Rattle.sac_base.specs.declared.site.Site.{Site}
use Rattle.sac_base.specs.Arrays.{scalar}
use Rattle.sac_base.specs.Grids.{has_vector, times_vector}
use Rattle.core_ir.specs.declared.tree.Var.{Var}
use Rattle.core_ir.specs.declared.tree.CoreOp.TheVariants as making
use Rattle.core_ir.specs.declared.tree.PartedOp.TheVariants as parted
use Rattle.core_ir.specs.Meaning.{extents}
use Rattle.core_ir.specs.Renaming.{Link, Renamed, under}
use Rattle.core_ir.specs.Terms.{PlainTerm, BlockTerm, RightTerm, GensTerm, PartsTerm, GenHead, PartHead, Gives, Bind, Plain, NoGens, Gen, NoParts, Part, Parted}
use Rattle.core_ir.specs.Uses.{Avoids}
use Rattle.core_facts.specs.Facts.{Facts}
use Rattle.core_loops.specs.norm.Norm.{NameFirst}
use Rattle.core_loops.specs.Loops.{IsPartable}
use Rattle.core_loops.specs.Steps.{itself}

abbrev pub GenAt : GensTerm → ℕ → GenHead → BlockTerm → Type 0
GenAt NoGens n h b = ⊥
GenAt (Gen g c rest) zero h b = (g ≡ h) × (c ≡ b)
GenAt (Gen g c rest) (suc n) h b = GenAt rest n h b

abbrev pub count_gens : GensTerm → ℕ
count_gens NoGens = 0
count_gens (Gen h b rest) = suc (count_gens rest)

-- Below bindings of the index's components from the j-th on, each by a constant and a selection, the body with other variables.
abbrev pub NamedBody : Link → Var → ℕ → List Var → BlockTerm → BlockTerm → Type 0
NamedBody S i j [] body b = Renamed S body b
NamedBody S i j (x ∷ xs) body b =
    (c : Var) × ((y : Var) × ((s : Site) ×
    ((t : Site) × ((rest : BlockTerm) ×
    ((b ≡ Bind (c ∷ []) s (Plain (PlainTerm.Const (scalar Int (pos j)))) (Bind (y ∷ []) t (Plain (PlainTerm.Select i c)) rest))
    × (eqb c.0 i.0 ≡ false) × (eqb y.0 i.0 ≡ false) × Avoids c rest × NamedBody (under S x y) i (suc j) xs body rest)))))

-- a part of a generator, or of the default
abbrev pub PartOf : Var → ℕ → GensTerm → Option ℕ → PartHead → BlockTerm → Type 0
PartOf default n gens None h b = (b ≡ Gives (default ∷ [])) × (eqb h.index.0 default.0 ≡ false)
PartOf default n gens (Some m) h b =
    (head : GenHead) × ((body : BlockTerm) ×
    (GenAt gens m head body × (h.site ≡ head.site) × ((head.names ≡ []) ⊎ (length head.names ≡ n)) ×
    NamedBody (under itself head.index h.index) h.index 0 head.names body b))

abbrev pub LabelledParts : Var → ℕ → GensTerm → List (List Grid1 × Option ℕ) → PartsTerm → Type 0
LabelledParts default n gens [] NoParts = Unit {0}
LabelledParts default n gens (p ∷ ps) (Part h b rest) = (h.grid ≡ p.0) × PartOf default n gens p.1 h b × LabelledParts default n gens ps rest
LabelledParts default n gens _ _ = ⊥

pub record GenarrayParted (k : Facts) (above : ℕ) (s : Site) (shape default : Var) (gens : GensTerm) (right : RightTerm) : Type 0 where
  pub partable : IsPartable k above s (making.Genarray shape default) gens
  pub cell : List ℕ
  pub known : (k default).shape ≡ Some cell
  pub form : partable.planned.form ≡ record { base = partable.base; shape = cell }
  pub whole : partable.planned.shape ≡ extents partable.frame ++ cell
  pub count : length partable.planned.ranges ≡ count_gens gens
  -- what a partition of the frame gives
  pub labels : List (List Grid1 × Option ℕ)
  pub cover : (v : List ℤ) → has_vector partable.frame v ≡ true → times_vector (map (λ (p : List Grid1 × Option ℕ). p.0) labels) v ≡ 1
  pub first : NameFirst partable.grids labels
  pub parts : PartsTerm
  pub labelled : LabelledParts default (length partable.frame) gens labels parts
  pub made : right ≡ Parted partable.frame partable.base cell parted.Genarray parts
