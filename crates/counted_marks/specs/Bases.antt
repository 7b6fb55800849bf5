-- The bases of variables before a run.
use Rattle.std.specs.Prelude.{ℕ, if◌then◌else◌, cond, eqb, List, [], ◌∷◌, map, Option, Some, None, slice_get}
use Rattle.sac_base.specs.declared.base.Base.{Base}
use Rattle.sac_base.specs.declared.base.Base.TheVariants.{Int}
use Rattle.sac_base.specs.declared.types.ArrayType.{ArrayType}
use Rattle.sac_base.specs.Arrays.{same_base}
use Rattle.sac_base.specs.Operators.{result_base}
use Rattle.core_ir.specs.declared.tree.Var.{Var}
use Rattle.core_ir.specs.declared.tree.CoreOp.{CoreOp}
use Rattle.core_ir.specs.declared.tree.CoreOp.TheVariants as making
use Rattle.core_ir.specs.Outcome.{group_at}
use Rattle.core_ir.specs.Terms.{PlainTerm, BlockTerm, RightTerm, FunTerm, CoreTerm, Gives, Bind, Plain}

-- the base of each variable, where it is known
abbrev pub BaseFacts : Type 0
BaseFacts = Var → Option Base

abbrev pub no_bases : BaseFacts
no_bases x = None

abbrev pub note_base : BaseFacts → Var → Option Base → BaseFacts
note_base g x t y = cond (eqb x.0 y.0) t (g y)

-- a variable without a base is unknown
abbrev pub note_bases : BaseFacts → List Var → List (Option Base) → BaseFacts
note_bases g [] ts = g
note_bases g (x ∷ xs) [] = note_bases (note_base g x None) xs []
note_bases g (x ∷ xs) (t ∷ ts) = note_bases (note_base g x t) xs ts

-- each of them is a number, or a vector of numbers
abbrev pub note_ints : BaseFacts → List Var → BaseFacts
note_ints g [] = g
note_ints g (x ∷ xs) = note_ints (note_base g x (Some Int)) xs

-- an empty literal is of numbers
abbrev pub literal_base : List Var → BaseFacts → Option Base
literal_base [] g = Some Int
literal_base (x ∷ xs) g = g x

abbrev pub plain_base : PlainTerm → BaseFacts → Option Base
plain_base (PlainTerm.Const a) g = Some a.base
plain_base (PlainTerm.Copy x) g = g x
plain_base (PlainTerm.Unary o x) g = Some (result_base o)
plain_base (PlainTerm.Binary o x y) g = Some (result_base o)
plain_base (PlainTerm.Literal xs) g = literal_base xs g
plain_base (PlainTerm.Dim x) g = Some Int
plain_base (PlainTerm.ShapeOf x) g = Some Int
plain_base (PlainTerm.Reshape x y) g = g y
plain_base (PlainTerm.Select x y) g = g x
plain_base (PlainTerm.Replace x y z) g = g x
plain_base (PlainTerm.Always k) g = None
plain_base (PlainTerm.Check x ty) g = Some ty.base

abbrev pub op_base : CoreOp → BaseFacts → Option Base
op_base (making.Genarray x y) g = g y
op_base (making.Modarray x) g = g x
op_base (making.Fold o x) g = g x

-- what one of two branches tells
abbrev pub either_base : Option Base → Option Base → Option Base
either_base None t = t
either_base (Some s) t = Some s

abbrev pub either_bases : List (Option Base) → List (Option Base) → List (Option Base)
either_bases (s ∷ ss) (t ∷ ts) = either_base s t ∷ either_bases ss ts
either_bases _ _ = []

-- `typed` has the bases of the results of each group, in all instances
module _ (typed : ℕ → List (Option Base)) where
  abbrev mutual
    pub block_bases : BlockTerm → BaseFacts → List (Option Base)
    block_bases (Gives xs) g = map g xs
    block_bases (Bind xs s r b) g = block_bases b (note_bases g xs (right_bases r g))

    pub right_bases : RightTerm → BaseFacts → List (Option Base)
    right_bases (Plain p) g = plain_base p g ∷ []
    right_bases (RightTerm.If x a b) g = either_bases (block_bases a g) (block_bases b g)
    right_bases (RightTerm.Loop first start params test body s) g = map g start
    right_bases (RightTerm.Call group xs) g = typed group
    right_bases (RightTerm.With o gens) g = op_base o g ∷ []
    right_bases (RightTerm.Parted frame t cell o parts) g = Some t ∷ []

-- ---- functions

abbrev pub both_bases : Option Base → Option Base → Option Base
both_bases (Some s) (Some t) = if same_base s t then Some s else None
both_bases _ _ = None

abbrev pub common_bases : List (Option Base) → List (Option Base) → List (Option Base)
common_bases (s ∷ ss) (t ∷ ts) = both_bases s t ∷ common_bases ss ts
common_bases _ _ = []

abbrev pub result_bases : Option FunTerm → List (Option Base)
result_bases None = []
result_bases (Some f) = map (λ (ty : ArrayType). Some ty.base) f.results

-- those that all of the places have
abbrev pub bases_at : List FunTerm → List ℕ → List (Option Base)
bases_at fs [] = []
bases_at fs (p ∷ []) = result_bases (slice_get fs p)
bases_at fs (p ∷ q ∷ ps) = common_bases (result_bases (slice_get fs p)) (bases_at fs (q ∷ ps))

-- the bases of the results of a group, where all instances have the same
abbrev pub typed : CoreTerm → ℕ → List (Option Base)
typed core g = bases_at core.functions (group_at core g)

-- what is known where a function begins
abbrev pub params_bases : FunTerm → BaseFacts
params_bases f =
    note_bases no_bases (map (λ (p : Var × ArrayType). p.0) f.params) (map (λ (p : Var × ArrayType). Some p.1.base) f.params)
