-- The parts of a loop that stands for a with-loop, whatever its operation.
use Rattle.std.proofs.Common.{◌≡◌, ℕ, zero, suc, ◌≤◌, false, eqb, List, [], ◌∷◌, length, Option, Some, None, sym, ap, subst, ◌∙◌, ◌⊎◌, inl, inr, arith}
use Rattle.sac_base.specs.declared.grid.Grid1.{Grid1}
use Rattle.sac_base.specs.declared.site.Site.{Site}
use Rattle.core_ir.specs.declared.tree.Var.{Var}
use Rattle.core_ir.specs.Renaming.{under}
use Rattle.core_ir.specs.Terms.{PlainTerm, BlockTerm, GensTerm, PartsTerm, GenHead, PartHead, Gives, Bind, Plain, NoGens, Gen, NoParts, Part}
use Rattle.core_loops.specs.Steps.{itself}
use Rattle.core_loops.specs.norm_steps.Genarray.{GenAt, NamedBody, LabelledParts}
use Rattle.core_loops.specs.norm_steps.Modarray.{OldLabelled}
use Rattle.core_loops.specs.norm_steps.Fold.{FoldLabelled}
use Rattle.core_forms.specs.norm.Alike.{NamedAlike, LabelledAlike}

-- a copy of a generator's body, in a loop of so many axes
pub record Copied (axes : ℕ) (gens : GensTerm) (h : PartHead) (b : BlockTerm) : Type 0 where
  pub place : ℕ
  pub head : GenHead
  pub body : BlockTerm
  pub stands : GenAt gens place head body
  pub few : length head.names ≤ axes
  pub named : NamedBody (under itself head.index h.index) h.index 0 head.names body b
  pub alike : NamedAlike head.names body b

-- the default cell, or an old one
abbrev pub Default : Var → PartHead → BlockTerm → Type 0
Default v h b = (b ≡ Gives (v ∷ [])) × (eqb h.index.0 v.0 ≡ false)

abbrev pub OldCell : Var → PartHead → BlockTerm → Type 0
OldCell v h b = (z : Var) × ((s : Site) × ((b ≡ Bind (z ∷ []) s (Plain (PlainTerm.Select v h.index)) (Gives (z ∷ []))) × (eqb h.index.0 v.0 ≡ false)))

abbrev pub Made : ℕ → Var → GensTerm → PartHead → BlockTerm → Type 0
Made axes v gens h b = Copied axes gens h b ⊎ (Default v h b ⊎ OldCell v h b)

abbrev pub MadeParts : ℕ → Var → GensTerm → PartsTerm → Type 0
MadeParts axes v gens NoParts = Unit {0}
MadeParts axes v gens (Part h b rest) = Made axes v gens h b × MadeParts axes v gens rest

-- ---- one generator at a place

same_head : (gens : GensTerm) (n : ℕ) (h g : GenHead) (b c : BlockTerm) → GenAt gens n h b → GenAt gens n g c → (h ≡ g) × (b ≡ c)
same_head NoGens n h g b c p q = absurd p
same_head (Gen x y rest) zero h g b c p q = (sym p.0 ∙ q.0, sym p.1 ∙ q.1)
same_head (Gen x y rest) (suc n) h g b c p q = same_head rest n h g b c p q

no_more_names : (axes : ℕ) (names : List Var) → (names ≡ []) ⊎ (length names ≡ axes) → length names ≤ axes
no_more_names axes names (inl e) = subst (λ (n : ℕ). n ≤ axes) (sym (ap length e)) (omega arith)
no_more_names axes names (inr e) = omega (arith, e)

copied :
    (axes : ℕ) (gens : GensTerm) (n : ℕ) (h : PartHead) (b : BlockTerm) (head : GenHead) (body : BlockTerm) → GenAt gens n head body →
    (head.names ≡ []) ⊎ (length head.names ≡ axes) → NamedBody (under itself head.index h.index) h.index 0 head.names body b →
    ((g : GenHead) × ((c : BlockTerm) × (GenAt gens n g c × NamedAlike g.names c b))) → Copied axes gens h b
copied axes gens n h b head body stands names named w =
    let same = same_head gens n w.0 head w.1.0 body w.1.1.0 stands in
    record {
      place = n;
      head = head;
      body = body;
      stands = stands;
      few = no_more_names axes head.names names;
      named = named;
      alike = subst (λ (c : BlockTerm). NamedAlike head.names c b) same.1 (subst (λ (g : GenHead). NamedAlike g.names w.1.0 b) same.0 w.1.1.1);
    }

-- ---- each operation

pub made_genarray : (v : Var) (n : ℕ) (gens : GensTerm) (labels : List (List Grid1 × Option ℕ)) (parts : PartsTerm) → LabelledParts v n gens labels parts → LabelledAlike gens labels parts → MadeParts n v gens parts
made_genarray v n gens [] NoParts l a = tt
made_genarray v n gens ((g, None) ∷ ps) (Part h b rest) l a = (inr (inl l.1), made_genarray v n gens ps rest l.2 a)
made_genarray v n gens ((g, Some k) ∷ ps) (Part h b rest) l a =
    (inl (copied n gens k h b l.1.0 l.1.1.0 l.1.1.1.0 l.1.1.1.2 l.1.1.1.3 a.0), made_genarray v n gens ps rest l.2 a.1)
made_genarray v n gens [] (Part h b rest) l a = absurd l
made_genarray v n gens (p ∷ ps) NoParts l a = absurd l

pub made_modarray : (v : Var) (n : ℕ) (gens : GensTerm) (labels : List (List Grid1 × Option ℕ)) (parts : PartsTerm) → OldLabelled v n gens labels parts → LabelledAlike gens labels parts → MadeParts n v gens parts
made_modarray v n gens [] NoParts l a = tt
made_modarray v n gens ((g, None) ∷ ps) (Part h b rest) l a = (inr (inr l.1), made_modarray v n gens ps rest l.2 a)
made_modarray v n gens ((g, Some k) ∷ ps) (Part h b rest) l a =
    (inl (copied n gens k h b l.1.0 l.1.1.0 l.1.1.1.0 l.1.1.1.2 l.1.1.1.3 a.0), made_modarray v n gens ps rest l.2 a.1)
made_modarray v n gens [] (Part h b rest) l a = absurd l
made_modarray v n gens (p ∷ ps) NoParts l a = absurd l

pub made_fold : (v : Var) (n : ℕ) (gens : GensTerm) (labels : List (List Grid1 × Option ℕ)) (parts : PartsTerm) → FoldLabelled n gens labels parts → LabelledAlike gens labels parts → MadeParts n v gens parts
made_fold v n gens [] NoParts l a = tt
made_fold v n gens ((g, None) ∷ ps) (Part h b rest) l a = absurd l.1
made_fold v n gens ((g, Some k) ∷ ps) (Part h b rest) l a =
    (inl (copied n gens k h b l.1.0 l.1.1.0 l.1.1.1.0 l.1.1.1.2 l.1.1.1.3 a.0), made_fold v n gens ps rest l.2 a.1)
made_fold v n gens [] (Part h b rest) l a = absurd l
made_fold v n gens (p ∷ ps) NoParts l a = absurd l
