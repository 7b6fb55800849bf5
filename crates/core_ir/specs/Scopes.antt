-- Scopes: every use is of a variable in scope, and no binder hides one.
use Rattle.std.specs.Prelude.{◌≡◌, true, false, List, [], ◌∷◌, ◌++◌, map, option_to_list}
use Rattle.core_ir.specs.declared.tree.Var.{Var}
use Rattle.core_ir.specs.declared.tree.CoreOp.{CoreOp}
use Rattle.core_ir.specs.declared.tree.CoreOp.TheVariants as making
use Rattle.core_ir.specs.declared.tree.PartedOp.{PartedOp}
use Rattle.core_ir.specs.declared.tree.PartedOp.TheVariants as parted
use Rattle.core_ir.specs.Terms.{PlainTerm, BlockTerm, RightTerm, GensTerm, PartsTerm, GenHead, FunTerm, Gives, Bind, Plain, NoGens, Gen, NoParts, Part}
use Rattle.core_ir.specs.Meaning.{Env}
use Rattle.core_ir.specs.Binders.{is_in, NoneIn}

-- each of the first list stands in the second
abbrev pub AllIn : List Var → List Var → Type 0
AllIn [] zs = Unit {0}
AllIn (y ∷ ys) zs = (is_in y zs ≡ true) × AllIn ys zs

abbrev pub plain_uses : PlainTerm → List Var
plain_uses (PlainTerm.Const a) = []
plain_uses (PlainTerm.Copy x) = x ∷ []
plain_uses (PlainTerm.Unary op x) = x ∷ []
plain_uses (PlainTerm.Binary op x y) = x ∷ y ∷ []
plain_uses (PlainTerm.Literal xs) = xs
plain_uses (PlainTerm.Dim x) = x ∷ []
plain_uses (PlainTerm.ShapeOf x) = x ∷ []
plain_uses (PlainTerm.Reshape x y) = x ∷ y ∷ []
plain_uses (PlainTerm.Select x y) = x ∷ y ∷ []
plain_uses (PlainTerm.Replace x y z) = x ∷ y ∷ z ∷ []
plain_uses (PlainTerm.Always k) = []
plain_uses (PlainTerm.Check x t) = x ∷ []

abbrev pub op_uses : CoreOp → List Var
op_uses (making.Genarray x y) = x ∷ y ∷ []
op_uses (making.Modarray x) = x ∷ []
op_uses (making.Fold op x) = x ∷ []

abbrev pub parted_uses : PartedOp → List Var
parted_uses parted.Genarray = []
parted_uses (parted.Modarray x) = x ∷ []
parted_uses (parted.Fold op x) = x ∷ []

abbrev pub head_uses : GenHead → List Var
head_uses h = option_to_list h.lower ++ (option_to_list h.upper ++ (option_to_list h.step ++ option_to_list h.width))

-- the variables that a right side uses itself, those that only its blocks use left out
abbrev pub right_uses : RightTerm → List Var
right_uses (Plain p) = plain_uses p
right_uses (RightTerm.If x a b) = x ∷ []
right_uses (RightTerm.Loop first start params test body s) = start
right_uses (RightTerm.Call g xs) = xs
right_uses (RightTerm.With op gens) = op_uses op
right_uses (RightTerm.Parted f b c op parts) = parted_uses op

abbrev mutual
  pub Scoped : List Var → BlockTerm → Type 0
  Scoped scope (Gives xs) = AllIn xs scope
  Scoped scope (Bind xs s r b) = ScopedRight scope r × NoneIn xs scope × Scoped (xs ++ scope) b

  pub ScopedRight : List Var → RightTerm → Type 0
  ScopedRight scope (Plain p) = AllIn (plain_uses p) scope
  ScopedRight scope (RightTerm.If x a b) = (is_in x scope ≡ true) × Scoped scope a × Scoped scope b
  ScopedRight scope (RightTerm.Loop first start params test body s) =
      AllIn start scope × NoneIn params scope × Scoped (params ++ scope) test × Scoped (params ++ scope) body
  ScopedRight scope (RightTerm.Call g xs) = AllIn xs scope
  ScopedRight scope (RightTerm.With op gens) = AllIn (op_uses op) scope × ScopedGens scope gens
  ScopedRight scope (RightTerm.Parted f b c op parts) = AllIn (parted_uses op) scope × ScopedParts scope parts

  pub ScopedGens : List Var → GensTerm → Type 0
  ScopedGens scope NoGens = Unit {0}
  ScopedGens scope (Gen h b rest) =
      AllIn (head_uses h) scope × NoneIn (h.index ∷ h.names) scope × Scoped ((h.index ∷ h.names) ++ scope) b × ScopedGens scope rest

  pub ScopedParts : List Var → PartsTerm → Type 0
  ScopedParts scope NoParts = Unit {0}
  ScopedParts scope (Part h b rest) = (is_in h.index scope ≡ false) × Scoped (h.index ∷ scope) b × ScopedParts scope rest

-- a function's body is scoped below its parameters
abbrev pub ScopedFunction : FunTerm → Type 0
ScopedFunction f = Scoped (map (λ p. p.0) f.params) f.body

abbrev pub ScopedFunctions : List FunTerm → Type 0
ScopedFunctions [] = Unit {0}
ScopedFunctions (f ∷ fs) = ScopedFunction f × ScopedFunctions fs

-- environments that agree on the scope
abbrev pub AgreeOn : List Var → Env → Env → Type 0
AgreeOn scope e f = (y : Var) → is_in y scope ≡ true → e y ≡ f y
