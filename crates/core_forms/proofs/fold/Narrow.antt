-- Bases of a block agree without a variable that it does not use.
use Rattle.std.proofs.Common.{◌≡◌, Bool, true, false, cond, eqb, List, [], ◌∷◌, ◌++◌, Option, Some, None, sym, ◌∙◌}
use Rattle.std.specs.Prelude.{zip, option_to_list}
use Rattle.sac_base.specs.declared.base.Base.{Base}
use Rattle.sac_base.specs.declared.base.Base.TheVariants.{Int, Bool as Truth}
use Rattle.core_ir.specs.declared.tree.Var.{Var}
use Rattle.core_ir.specs.declared.tree.CoreOp.{CoreOp}
use Rattle.core_ir.specs.declared.tree.CoreOp.TheVariants as making
use Rattle.core_ir.specs.declared.tree.PartedOp.{PartedOp}
use Rattle.core_ir.specs.declared.tree.PartedOp.TheVariants as parted
use Rattle.core_ir.specs.Scopes.{plain_uses, op_uses, parted_uses}
use Rattle.core_ir.specs.Terms.{PlainTerm, BlockTerm, RightTerm, GensTerm, PartsTerm, CoreTerm, Gives, Bind, Plain, NoGens, Gen, NoParts, Part}
use Rattle.core_ir.specs.Uses.{AvoidsAll, Avoids, AvoidsRight, AvoidsGens, AvoidsParts}
use Rattle.core_ir.specs.WellFormed.{Bases, base_of, HasBases, AllHave, OptionHas, ints, LiteralBase, PlainBases, OperationBase, PartedBase, BlockBases, RightBases, GensBases, PartsBases}

-- all but the variable have the bases that they had
abbrev pub NarrowBases : Var → Bases → Bases → Type 0
NarrowBases x g narrow = (y : Var) (t : Base) → eqb x.0 y.0 ≡ false → base_of g y ≡ Some t → base_of narrow y ≡ Some t

base_more : (b : Bool) (t : Base) (s p q : Option Base) → (p ≡ Some t → q ≡ Some t) → cond b s p ≡ Some t → cond b s q ≡ Some t
base_more true t s p q k h = h
base_more false t s p q k h = k h

narrow_below : (x : Var) (zs g narrow : Bases) → NarrowBases x g narrow → NarrowBases x (zs ++ g) (zs ++ narrow)
narrow_below x [] g narrow k y t n h = k y t n h
narrow_below x (z ∷ zs) g narrow k y t n h = base_more (eqb z.0.0 y.0) t (Some z.1) (base_of (zs ++ g) y) (base_of (zs ++ narrow) y) (narrow_below x zs g narrow k y t n) h

avoids_front : (x : Var) (ys zs : List Var) → AvoidsAll x (ys ++ zs) → AvoidsAll x ys
avoids_front x [] zs h = tt
avoids_front x (y ∷ ys) zs h = (h.0, avoids_front x ys zs h.1)

avoids_back : (x : Var) (ys zs : List Var) → AvoidsAll x (ys ++ zs) → AvoidsAll x zs
avoids_back x [] zs h = h
avoids_back x (y ∷ ys) zs h = avoids_back x ys zs h.1

module _ (x : Var) (g narrow : Bases) (k : NarrowBases x g narrow) where
  has_narrow : (ys : List Var) (ts : List Base) → AvoidsAll x ys → HasBases g ys ts → HasBases narrow ys ts
  has_narrow [] [] a h = tt
  has_narrow (y ∷ ys) (t ∷ ts) a h = (k y t a.0 h.0, has_narrow ys ts a.1 h.1)
  has_narrow [] (t ∷ ts) a h = absurd h
  has_narrow (y ∷ ys) [] a h = absurd h

  all_narrow : (ys : List Var) (t : Base) → AvoidsAll x ys → AllHave g ys t → AllHave narrow ys t
  all_narrow [] t a h = tt
  all_narrow (y ∷ ys) t a h = (k y t a.0 h.0, all_narrow ys t a.1 h.1)

  literal_narrow : (ys : List Var) (t : Base) → AvoidsAll x ys → LiteralBase g ys t → LiteralBase narrow ys t
  literal_narrow [] t a h = h
  literal_narrow (y ∷ ys) t a h = all_narrow (y ∷ ys) t a h

  option_narrow : (y : Option Var) (t : Base) → AvoidsAll x (option_to_list y) → OptionHas g y t → OptionHas narrow y t
  option_narrow None t a h = tt
  option_narrow (Some y) t a h = k y t a.0 h

  plain_narrow : (p : PlainTerm) (ts : List Base) → AvoidsAll x (plain_uses p) → PlainBases g p ts → PlainBases narrow p ts
  plain_narrow (PlainTerm.Const c) ts a h = h
  plain_narrow (PlainTerm.Copy y) ts a h = (h.0, k y h.0 a.0 h.1, h.2)
  plain_narrow (PlainTerm.Unary o y) ts a h = (h.0, (h.1.0, k y h.0 a.0 h.1.1, h.1.2, h.1.3))
  plain_narrow (PlainTerm.Binary o y z) ts a h = (h.0, (h.1.0, k y h.0 a.0 h.1.1, k z h.0 a.1.0 h.1.2, h.1.3, h.1.4))
  plain_narrow (PlainTerm.Literal ys) ts a h = (h.0, literal_narrow ys h.0 a h.1, h.2)
  plain_narrow (PlainTerm.Dim y) ts a h = (h.0, k y h.0 a.0 h.1, h.2)
  plain_narrow (PlainTerm.ShapeOf y) ts a h = (h.0, k y h.0 a.0 h.1, h.2)
  plain_narrow (PlainTerm.Reshape y z) ts a h = (h.0, k y Int a.0 h.1, k z h.0 a.1.0 h.2, h.3)
  plain_narrow (PlainTerm.Select y z) ts a h = (h.0, k y h.0 a.0 h.1, k z Int a.1.0 h.2, h.3)
  plain_narrow (PlainTerm.Replace y z w) ts a h = (h.0, k y h.0 a.0 h.1, k z Int a.1.0 h.2, k w h.0 a.1.1.0 h.3, h.4)
  plain_narrow (PlainTerm.Always kind) ts a h = tt
  plain_narrow (PlainTerm.Check y ty) ts a h = (k y ty.base a.0 h.0, h.1)

  operation_narrow : (o : CoreOp) (t : Base) → AvoidsAll x (op_uses o) → OperationBase g o t → OperationBase narrow o t
  operation_narrow (making.Genarray y z) t a h = (k y Int a.0 h.0, k z t a.1.0 h.1)
  operation_narrow (making.Modarray y) t a h = k y t a.0 h
  operation_narrow (making.Fold o y) t a h = (k y t a.0 h.0, h.1)

  parted_narrow : (o : PartedOp) (t : Base) → AvoidsAll x (parted_uses o) → PartedBase g o t → PartedBase narrow o t
  parted_narrow parted.Genarray t a h = tt
  parted_narrow (parted.Modarray y) t a h = k y t a.0 h
  parted_narrow (parted.Fold o y) t a h = (k y t a.0 h.0, h.1)

module _ (core : CoreTerm) (x : Var) where
  mutual
    pub narrow_bases : (b : BlockTerm) (g narrow : Bases) (ts : List Base) → NarrowBases x g narrow → Avoids x b → BlockBases core g b ts → BlockBases core narrow b ts
    narrow_bases (Gives ys) g narrow ts k a h = has_narrow x g narrow k ys ts a h
    narrow_bases (Bind xs s r b) g narrow ts k a h =
        (h.0, (narrow_right r g narrow h.0 k a.0 h.1.0, h.1.1, narrow_bases b (zip xs h.0 ++ g) (zip xs h.0 ++ narrow) ts (narrow_below x (zip xs h.0) g narrow k) a.1 h.1.2))

    narrow_right : (r : RightTerm) (g narrow : Bases) (ts : List Base) → NarrowBases x g narrow → AvoidsRight x r → RightBases core g r ts → RightBases core narrow r ts
    narrow_right (Plain p) g narrow ts k a h = plain_narrow x g narrow k p ts a h
    narrow_right (RightTerm.If y u v) g narrow ts k a h = (k y Truth a.0 h.0, narrow_bases u g narrow ts k a.1 h.1, narrow_bases v g narrow ts k a.2 h.2)
    narrow_right (RightTerm.Loop first start params test body s) g narrow ts k a h =
        let j = narrow_below x (zip params ts) g narrow k in (
          has_narrow x g narrow k start ts a.0 h.0,
          h.1,
          narrow_bases test (zip params ts ++ g) (zip params ts ++ narrow) (Truth ∷ []) j a.1 h.2,
          narrow_bases body (zip params ts ++ g) (zip params ts ++ narrow) ts j a.2 h.3,
        )
    narrow_right (RightTerm.Call group ys) g narrow ts k a h = (h.0, (has_narrow x g narrow k ys h.0 a h.1.0, h.1.1))
    narrow_right (RightTerm.With o gens) g narrow ts k a h = (h.0, (operation_narrow x g narrow k o h.0 a.0 h.1.0, narrow_gens gens g narrow h.0 k a.1 h.1.1, h.1.2))
    narrow_right (RightTerm.Parted frame t cell o parts) g narrow ts k a h = (parted_narrow x g narrow k o t a.0 h.0, narrow_parts parts g narrow t k a.1 h.1, h.2, h.3)

    narrow_gens : (gs : GensTerm) (g narrow : Bases) (t : Base) → NarrowBases x g narrow → AvoidsGens x gs → GensBases core g gs t → GensBases core narrow gs t
    narrow_gens NoGens g narrow t k a h = tt
    narrow_gens (Gen j b rest) g narrow t k a h =
        let a1 = avoids_back x (option_to_list j.lower) (option_to_list j.upper ++ (option_to_list j.step ++ option_to_list j.width)) a.0 in
        let a2 = avoids_back x (option_to_list j.upper) (option_to_list j.step ++ option_to_list j.width) a1 in
        let zs = ints (j.index ∷ j.names) in (
          option_narrow x g narrow k j.lower Int (avoids_front x (option_to_list j.lower) (option_to_list j.upper ++ (option_to_list j.step ++ option_to_list j.width)) a.0) h.0,
          option_narrow x g narrow k j.upper Int (avoids_front x (option_to_list j.upper) (option_to_list j.step ++ option_to_list j.width) a1) h.1,
          option_narrow x g narrow k j.step Int (avoids_front x (option_to_list j.step) (option_to_list j.width) a2) h.2,
          option_narrow x g narrow k j.width Int (avoids_back x (option_to_list j.step) (option_to_list j.width) a2) h.3,
          narrow_bases b (zs ++ g) (zs ++ narrow) (t ∷ []) (narrow_below x zs g narrow k) a.1 h.4,
          narrow_gens rest g narrow t k a.2 h.5,
        )

    narrow_parts : (ps : PartsTerm) (g narrow : Bases) (t : Base) → NarrowBases x g narrow → AvoidsParts x ps → PartsBases core g ps t → PartsBases core narrow ps t
    narrow_parts NoParts g narrow t k a h = tt
    narrow_parts (Part j b rest) g narrow t k a h =
        (narrow_bases b ((j.index, Int) ∷ g) ((j.index, Int) ∷ narrow) (t ∷ []) (narrow_below x ((j.index, Int) ∷ []) g narrow k) a.0 h.0, narrow_parts rest g narrow t k a.1 h.1)

-- the bases before a binding
pub before_binding : (x : Var) (u : Base) (g : Bases) → NarrowBases x ((x, u) ∷ g) g
before_binding x u g y t n h = sym (λ i. cond (n i) (Some u) (base_of g y)) ∙ h
