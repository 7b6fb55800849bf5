-- Terms that agree in all but the numbers of variables.
use Rattle.std.specs.Prelude.{◌≡◌, Bool, true, false, not, ◌&&◌, if◌then◌else◌, eqb, List, [], ◌∷◌, Option, Some, None}
use Rattle.core_ir.specs.declared.tree.Var.{Var}
use Rattle.core_ir.specs.declared.tree.CoreOp.{CoreOp}
use Rattle.core_ir.specs.declared.tree.CoreOp.TheVariants as making
use Rattle.core_ir.specs.declared.tree.PartedOp.{PartedOp}
use Rattle.core_ir.specs.declared.tree.PartedOp.TheVariants as parted
use Rattle.core_ir.specs.Terms.{PlainTerm, BlockTerm, RightTerm, GensTerm, PartsTerm, GenHead, Gives, Bind, Plain, NoGens, Gen, NoParts, Part}
use Rattle.core_ir.specs.Meaning.{Env, name_count}

-- which variables of the second term may stand for which of the first
abbrev pub Link : Type 0
Link = Var → Var → Bool

-- environments that agree along a link
abbrev pub Agree : Link → Env → Env → Type 0
Agree S e f = (x y : Var) → S x y ≡ true → e x ≡ f y

abbrev pub Linked : Link → List Var → List Var → Type 0
Linked S [] [] = Unit {0}
Linked S (x ∷ xs) (y ∷ ys) = (S x y ≡ true) × Linked S xs ys
Linked S _ _ = ⊥

abbrev pub LinkedOption : Link → Option Var → Option Var → Type 0
LinkedOption S None None = Unit {0}
LinkedOption S (Some x) (Some y) = (S x y ≡ true)
LinkedOption S _ _ = ⊥

-- the link below binders: the two are linked, and hide what they hid
abbrev pub under : Link → Var → Var → Link
under S x y a b = if eqb x.0 a.0 then eqb y.0 b.0 else (not (eqb y.0 b.0) && S a b)

abbrev pub under_all : Link → List Var → List Var → Link
under_all S [] [] = S
under_all S (x ∷ xs) (y ∷ ys) = under_all (under S x y) xs ys
under_all S _ _ = λ a b. false

abbrev pub RenamedPlain : Link → PlainTerm → PlainTerm → Type 0
RenamedPlain S (PlainTerm.Const a) (PlainTerm.Const b) = a ≡ b
RenamedPlain S (PlainTerm.Copy x) (PlainTerm.Copy y) = (S x y ≡ true)
RenamedPlain S (PlainTerm.Unary o x) (PlainTerm.Unary o' y) = (o ≡ o') × (S x y ≡ true)
RenamedPlain S (PlainTerm.Binary o x x') (PlainTerm.Binary o' y y') = (o ≡ o') × (S x y ≡ true) × (S x' y' ≡ true)
RenamedPlain S (PlainTerm.Literal xs) (PlainTerm.Literal ys) = Linked S xs ys
RenamedPlain S (PlainTerm.Dim x) (PlainTerm.Dim y) = (S x y ≡ true)
RenamedPlain S (PlainTerm.ShapeOf x) (PlainTerm.ShapeOf y) = (S x y ≡ true)
RenamedPlain S (PlainTerm.Reshape x x') (PlainTerm.Reshape y y') = (S x y ≡ true) × (S x' y' ≡ true)
RenamedPlain S (PlainTerm.Select x x') (PlainTerm.Select y y') = (S x y ≡ true) × (S x' y' ≡ true)
RenamedPlain S (PlainTerm.Replace x x' x'') (PlainTerm.Replace y y' y'') = (S x y ≡ true) × (S x' y' ≡ true) × (S x'' y'' ≡ true)
RenamedPlain S (PlainTerm.Always k) (PlainTerm.Always l) = k ≡ l
RenamedPlain S (PlainTerm.Check x t) (PlainTerm.Check y u) = (t ≡ u) × (S x y ≡ true)
RenamedPlain S _ _ = ⊥

abbrev pub RenamedGenHead : Link → GenHead → GenHead → Type 0
RenamedGenHead S h g =
    (h.lower_closed ≡ g.lower_closed) × (h.upper_closed ≡ g.upper_closed) × (h.site ≡ g.site) × (name_count h.names ≡ name_count g.names)
    × LinkedOption S h.lower g.lower × LinkedOption S h.upper g.upper × LinkedOption S h.step g.step × LinkedOption S h.width g.width

abbrev pub RenamedCoreOp : Link → CoreOp → CoreOp → Type 0
RenamedCoreOp S (making.Genarray x x') (making.Genarray y y') = (S x y ≡ true) × (S x' y' ≡ true)
RenamedCoreOp S (making.Modarray x) (making.Modarray y) = (S x y ≡ true)
RenamedCoreOp S (making.Fold o x) (making.Fold o' y) = (o ≡ o') × (S x y ≡ true)
RenamedCoreOp S _ _ = ⊥

abbrev pub RenamedPartedOp : Link → PartedOp → PartedOp → Type 0
RenamedPartedOp S parted.Genarray parted.Genarray = Unit {0}
RenamedPartedOp S (parted.Modarray x) (parted.Modarray y) = (S x y ≡ true)
RenamedPartedOp S (parted.Fold o x) (parted.Fold o' y) = (o ≡ o') × (S x y ≡ true)
RenamedPartedOp S _ _ = ⊥

abbrev mutual
  pub Renamed : Link → BlockTerm → BlockTerm → Type 0
  Renamed S (Gives xs) (Gives ys) = Linked S xs ys
  Renamed S (Bind xs s r b) (Bind ys t q c) = (s ≡ t) × RenamedRight S r q × Renamed (under_all S xs ys) b c
  Renamed S _ _ = ⊥

  pub RenamedRight : Link → RightTerm → RightTerm → Type 0
  RenamedRight S (Plain p) (Plain q) = RenamedPlain S p q
  RenamedRight S (RightTerm.If x a b) (RightTerm.If y c d) = (S x y ≡ true) × Renamed S a c × Renamed S b d
  RenamedRight S (RightTerm.Loop f xs ps a b s) (RightTerm.Loop g ys qs c d t) =
      (f ≡ g) × (s ≡ t) × Linked S xs ys × Renamed (under_all S ps qs) a c × Renamed (under_all S ps qs) b d
  RenamedRight S (RightTerm.Call g xs) (RightTerm.Call h ys) = (g ≡ h) × Linked S xs ys
  RenamedRight S (RightTerm.With o g) (RightTerm.With p h) = RenamedCoreOp S o p × RenamedGens S g h
  RenamedRight S (RightTerm.Parted f b c o p) (RightTerm.Parted f' b' c' o' q) =
      (f ≡ f') × (b ≡ b') × (c ≡ c') × RenamedPartedOp S o o' × RenamedParts S p q
  RenamedRight S _ _ = ⊥

  pub RenamedGens : Link → GensTerm → GensTerm → Type 0
  RenamedGens S NoGens NoGens = Unit {0}
  RenamedGens S (Gen h b r) (Gen g c q) =
      RenamedGenHead S h g × Renamed (under_all (under S h.index g.index) h.names g.names) b c × RenamedGens S r q
  RenamedGens S _ _ = ⊥

  pub RenamedParts : Link → PartsTerm → PartsTerm → Type 0
  RenamedParts S NoParts NoParts = Unit {0}
  RenamedParts S (Part h b r) (Part g c q) =
      (h.grid ≡ g.grid) × (h.site ≡ g.site) × Renamed (under S h.index g.index) b c × RenamedParts S r q
  RenamedParts S _ _ = ⊥
