-- Blocks whose bindings and loops bind equally many variables.
use Rattle.std.specs.Prelude.{◌≡◌, ℕ, List, [], ◌∷◌, length, Option, Some, None}
use Rattle.sac_base.specs.declared.grid.Grid1.{Grid1}
use Rattle.core_ir.specs.declared.tree.Var.{Var}
use Rattle.core_ir.specs.Terms.{BlockTerm, RightTerm, GensTerm, PartsTerm, GenHead, Gives, Bind, Plain, NoGens, Gen, NoParts, Part}
use Rattle.core_loops.specs.norm_steps.Genarray.{GenAt}

abbrev mutual
  pub Alike : BlockTerm → BlockTerm → Type 0
  Alike (Gives xs) (Gives ys) = Unit {0}
  Alike (Bind xs s r b) (Bind ys t q c) = (length ys ≡ length xs) × AlikeRight r q × Alike b c
  Alike _ _ = ⊥

  pub AlikeRight : RightTerm → RightTerm → Type 0
  AlikeRight (Plain p) (Plain q) = Unit {0}
  AlikeRight (RightTerm.If x a b) (RightTerm.If y c d) = Alike a c × Alike b d
  AlikeRight (RightTerm.Loop f xs ps a b s) (RightTerm.Loop g ys qs c d t) = (length qs ≡ length ps) × Alike a c × Alike b d
  AlikeRight (RightTerm.Call g xs) (RightTerm.Call h ys) = Unit {0}
  AlikeRight (RightTerm.With o g) (RightTerm.With p h) = AlikeGens g h
  AlikeRight (RightTerm.Parted f b c o p) (RightTerm.Parted f' b' c' o' q) = AlikeParts p q
  AlikeRight _ _ = ⊥

  pub AlikeGens : GensTerm → GensTerm → Type 0
  AlikeGens NoGens NoGens = Unit {0}
  AlikeGens (Gen h b r) (Gen g c q) = Alike b c × AlikeGens r q
  AlikeGens _ _ = ⊥

  pub AlikeParts : PartsTerm → PartsTerm → Type 0
  AlikeParts NoParts NoParts = Unit {0}
  AlikeParts (Part h b r) (Part g c q) = Alike b c × AlikeParts r q
  AlikeParts _ _ = ⊥

-- below two bindings for each name
abbrev pub NamedAlike : List Var → BlockTerm → BlockTerm → Type 0
NamedAlike [] body b = Alike body b
NamedAlike (x ∷ xs) body (Bind cs s r (Bind ys t q rest)) = NamedAlike xs body rest
NamedAlike (x ∷ xs) body _ = ⊥

-- each part of a generator binds what the generator's body does, below its names
abbrev pub LabelledAlike : GensTerm → List (List Grid1 × Option ℕ) → PartsTerm → Type 0
LabelledAlike gens [] parts = Unit {0}
LabelledAlike gens ((grid, None) ∷ ps) (Part h b rest) = LabelledAlike gens ps rest
LabelledAlike gens ((grid, Some n) ∷ ps) (Part h b rest) =
    ((head : GenHead) × ((body : BlockTerm) × (GenAt gens n head body × NamedAlike head.names body b))) × LabelledAlike gens ps rest
LabelledAlike gens (p ∷ ps) NoParts = ⊥
