-- What is known of variables before a run: the shape of each, and the value of a literal one.
use Rattle.std.specs.Prelude.{◌≡◌, ℕ, ◌&&◌, ◌||◌, Bool, true, false, cond, eqb, if◌then◌else◌, List, [], ◌∷◌, ◌++◌, map, length, drop, nat_le, nat_lt, pos}
use Rattle.std.specs.Prelude.{Option, Some, None, Result, Ok, Err, unwrap_or}
use Rattle.std.specs.List.{list_all}
use Rattle.sac_base.specs.declared.base.Base.TheVariants.{Int}
use Rattle.sac_base.specs.declared.faults.FaultKind.{FaultKind}
use Rattle.sac_base.specs.declared.grid.Grid1.{Grid1}
use Rattle.sac_base.specs.declared.op.Op.{Op}
use Rattle.sac_base.specs.declared.op.Op.TheVariants as op
use Rattle.sac_base.specs.declared.types.Part.{Part as TypePart}
use Rattle.sac_base.specs.declared.types.Part.TheVariants as part
use Rattle.sac_base.specs.Arrays.{ArrayValue, IsFull, vector, same_shape}
use Rattle.sac_base.specs.Operators.{common_shape}
use Rattle.sac_base.specs.Parts.{vector_of, shape_of_numbers}
use Rattle.sac_base.specs.Types.{has_shape}
use Rattle.core_ir.specs.declared.tree.Var.{Var}
use Rattle.core_ir.specs.declared.tree.PartedOp.{PartedOp}
use Rattle.core_ir.specs.declared.tree.PartedOp.TheVariants as parted
use Rattle.core_ir.specs.Terms.{PlainTerm, BlockTerm, RightTerm, PartHead, Gives, Bind, Plain}
use Rattle.core_ir.specs.Meaning.{Env, CallMeaning, missing, plain_value, extents}

-- ---- facts

pub record Fact : Type 0 where
  pub shape : Option (List ℕ)
  pub literal : Option ArrayValue
  -- bound by a constant
  pub constant : Bool

abbrev pub unknown : Fact
unknown = record { shape = None; literal = None; constant = false }

abbrev pub shape_fact : Option (List ℕ) → Fact
shape_fact shape = record { shape = shape; literal = None; constant = false }

-- the facts of each variable
abbrev pub Facts : Type 0
Facts = Var → Fact

abbrev pub no_facts : Facts
no_facts x = unknown

abbrev pub note : Facts → Var → Fact → Facts
note k x f y = cond (eqb x.0 y.0) f (k y)

-- a variable without a fact is unknown
abbrev pub note_all : Facts → List Var → List Fact → Facts
note_all k [] fs = k
note_all k (x ∷ xs) [] = note_all (note k x unknown) xs []
note_all k (x ∷ xs) (f ∷ fs) = note_all (note k x f) xs fs

-- ---- what facts say

abbrev pub ShapeIs : Option (List ℕ) → ArrayValue → Type 0
ShapeIs None a = Unit {0}
ShapeIs (Some shape) a = a.shape ≡ shape

abbrev pub ValueIs : Option ArrayValue → ArrayValue → Type 0
ValueIs None a = Unit {0}
ValueIs (Some v) a = a ≡ v

pub record Describes (f : Fact) (a : ArrayValue) : Type 0 where
  pub shape : ShapeIs f.shape a
  pub literal : ValueIs f.literal a
  -- each value has as many cells as its shape says
  pub full : IsFull a

-- values as their facts say, further ones of any shape; what is not there is the number 0
abbrev pub DescribeAll : List Fact → List ArrayValue → Type 0
DescribeAll [] [] = Unit {0}
DescribeAll [] (v ∷ vs) = IsFull v × DescribeAll [] vs
DescribeAll (f ∷ fs) [] = Describes f missing × DescribeAll fs []
DescribeAll (f ∷ fs) (v ∷ vs) = Describes f v × DescribeAll fs vs

abbrev pub AreSound : Facts → Env → Type 0
AreSound k e = (x : Var) → Describes (k x) (e x)

-- ---- known shapes of right sides without blocks and calls

abbrev pub both_shapes : Option (List ℕ) → Option (List ℕ) → Option (List ℕ)
both_shapes (Some s) (Some t) = common_shape s t
both_shapes _ _ = None

abbrev pub one_shape : Option (List ℕ) → Option (List ℕ) → Option (List ℕ)
one_shape (Some s) (Some t) = if same_shape s t then Some s else None
one_shape _ _ = None

-- the shape that all of them have
abbrev pub shared_shape : Option (List ℕ) → List (Option (List ℕ)) → Option (List ℕ)
shared_shape first [] = first
shared_shape first (s ∷ rest) = shared_shape (one_shape first s) rest

-- no array has more than 8 extents, or one of 2 ^ 31 or more
abbrev pub row_of : ℕ → Option (List ℕ) → Option (List ℕ)
row_of n None = None
row_of n (Some shape) = if nat_lt n 2147483648 && nat_le (length (n ∷ shape)) 8 then Some (n ∷ shape) else None

abbrev pub row_shape : List (Option (List ℕ)) → Option (List ℕ)
row_shape [] = Some (0 ∷ [])
row_shape (s ∷ rest) = row_of (length (s ∷ rest)) (shared_shape s rest)

abbrev pub shape_literal : Option ArrayValue → Option (List ℕ)
shape_literal None = None
shape_literal (Some a) = shape_of_numbers (vector_of a)

-- the number of components of an index of this shape
abbrev pub index_count : List ℕ → Option ℕ
index_count [] = Some 1
index_count (n ∷ []) = Some n
index_count _ = None

abbrev pub rest_of : List ℕ → Option ℕ → Option (List ℕ)
rest_of shape None = None
rest_of shape (Some n) = if nat_le n (length shape) then Some (drop n shape) else None

abbrev pub selected_shape : Option (List ℕ) → Option (List ℕ) → Option (List ℕ)
selected_shape (Some shape) (Some index) = rest_of shape (index_count index)
selected_shape _ _ = None

abbrev pub type_shape : TypePart → Option (List ℕ) → Option (List ℕ)
type_shape (part.Known s) known = Some s
type_shape p None = None
type_shape p (Some s) = if has_shape p s then Some s else None

abbrev pub rank_of : Option (List ℕ) → Option (List ℕ)
rank_of None = None
rank_of (Some s) = Some (length s ∷ [])

abbrev pub is_scalar_of : Option (List ℕ) → Option (List ℕ)
is_scalar_of None = None
is_scalar_of (Some s) = Some []

abbrev pub plain_shape : PlainTerm → Facts → Option (List ℕ)
plain_shape (PlainTerm.Const a) k = Some a.shape
plain_shape (PlainTerm.Copy x) k = (k x).shape
plain_shape (PlainTerm.Unary o x) k = (k x).shape
plain_shape (PlainTerm.Binary o x y) k = both_shapes (k x).shape (k y).shape
plain_shape (PlainTerm.Literal xs) k = row_shape (map (λ x. (k x).shape) xs)
plain_shape (PlainTerm.Dim x) k = is_scalar_of (k x).shape
plain_shape (PlainTerm.ShapeOf x) k = rank_of (k x).shape
plain_shape (PlainTerm.Reshape x y) k = shape_literal (k x).literal
plain_shape (PlainTerm.Select x y) k = selected_shape (k x).shape (k y).shape
plain_shape (PlainTerm.Replace x y z) k = (k x).shape
plain_shape (PlainTerm.Always kind) k = None
plain_shape (PlainTerm.Check x ty) k = type_shape ty.part (k x).shape

-- ---- literal values

-- the values of literal variables
abbrev pub values : Facts → Env
values k x = unwrap_or (k x).literal missing

abbrev pub is_some : {A : Type 0} → Option A → Bool
is_some None = false
is_some (Some a) = true

abbrev pub are_literal : Facts → List Var → Bool
are_literal k [] = true
are_literal k (x ∷ xs) = is_some (k x).literal && are_literal k xs

abbrev pub is_small_shape : List ℕ → Bool
is_small_shape [] = true
is_small_shape (n ∷ []) = nat_le n 8
is_small_shape _ = false

abbrev pub small : Result ArrayValue FaultKind → Option ArrayValue
small (Err kind) = None
small (Ok a) = if is_small_shape a.shape then Some a else None

abbrev pub found : Result ArrayValue FaultKind → Option ArrayValue
found (Err kind) = None
found (Ok a) = Some a

abbrev pub is_scalar : ArrayValue → Bool
is_scalar a = same_shape a.shape []

abbrev pub are_scalars : Facts → List Var → Bool
are_scalars k xs = list_all (λ x. is_scalar (values k x)) xs

abbrev pub is_sum : Op → Bool
is_sum op.Add = true
is_sum op.Sub = true
is_sum op.Mul = true
is_sum _ = false

abbrev pub is_negation : Op → Bool
is_negation op.Neg = true
is_negation _ = false

abbrev pub when : Bool → Option ArrayValue → Option ArrayValue
when true v = v
when false v = None

-- at most 8 extents that an array may have
abbrev pub is_shape : List ℕ → Bool
is_shape s = nat_le (length s) 8 && list_all (λ n. nat_lt n 2147483648) s

-- no array has a known shape that is none, so nothing is literal by it
abbrev pub shape_value : Option (List ℕ) → Option ArrayValue
shape_value None = None
shape_value (Some s) = if is_shape s then Some (vector Int (map pos s)) else None

abbrev pub plain_literal : PlainTerm → Facts → Option ArrayValue
plain_literal (PlainTerm.Const a) k = Some a
plain_literal (PlainTerm.Copy x) k = (k x).literal
plain_literal (PlainTerm.Unary o x) k = when (is_negation o && are_literal k (x ∷ [])) (small (plain_value (PlainTerm.Unary o x) (values k)))
plain_literal (PlainTerm.Binary o x y) k =
    when (is_sum o && ((k x).constant || (k y).constant) && are_literal k (x ∷ y ∷ [])) (small (plain_value (PlainTerm.Binary o x y) (values k)))
plain_literal (PlainTerm.Literal xs) k = when (are_literal k xs && are_scalars k xs) (small (plain_value (PlainTerm.Literal xs) (values k)))
plain_literal (PlainTerm.ShapeOf x) k = shape_value (k x).shape
plain_literal (PlainTerm.Check x ty) k = when (are_literal k (x ∷ [])) (found (plain_value (PlainTerm.Check x ty) (values k)))
plain_literal _ k = None

abbrev pub is_constant : PlainTerm → Bool
is_constant (PlainTerm.Const a) = true
is_constant _ = false

abbrev pub plain_fact : PlainTerm → Facts → Fact
plain_fact p k = record { shape = plain_shape p k; literal = plain_literal p k; constant = is_constant p }

-- ---- right sides and blocks

abbrev pub common_facts : List Fact → List Fact → List Fact
common_facts (f ∷ fs) (g ∷ gs) = shape_fact (one_shape f.shape g.shape) ∷ common_facts fs gs
common_facts _ _ = []

abbrev pub parted_shape : List Grid1 → List ℕ → PartedOp → List ℕ
parted_shape frame cell (parted.Fold o x) = cell
parted_shape frame cell _ = extents frame ++ cell

-- the shape, if it is one that an array may have
abbrev pub known_shape : List ℕ → Option (List ℕ)
known_shape s = if is_shape s then Some s else None

-- what is known in the body of a part: the length of the index
abbrev pub in_part : Facts → PartHead → Facts
in_part k h = note k h.index (shape_fact (Some (length h.grid ∷ [])))

-- `called` has the known shapes of the results of each group, in all instances
module _ (called : ℕ → List (Option (List ℕ))) where
  abbrev mutual
    pub block_facts : BlockTerm → Facts → List Fact
    block_facts (Gives xs) k = map k xs
    block_facts (Bind xs s r b) k = block_facts b (note_all k xs (right_facts r k))

    pub right_facts : RightTerm → Facts → List Fact
    right_facts (Plain p) k = plain_fact p k ∷ []
    right_facts (RightTerm.If x a b) k = common_facts (block_facts a k) (block_facts b k)
    right_facts (RightTerm.Loop first start params test body s) k = []
    right_facts (RightTerm.Call g xs) k = map shape_fact (called g)
    right_facts (RightTerm.With o gens) k = []
    right_facts (RightTerm.Parted frame base cell o parts) k = shape_fact (known_shape (parted_shape frame cell o)) ∷ []

  -- results of calls of arrays have these shapes
  abbrev pub CallsFit : CallMeaning → Type 0
  CallsFit calls = (g : ℕ) (args vs : List ArrayValue)
      (s : Rattle.sac_base.specs.declared.site.Site.Site) → DescribeAll [] args → calls g args s ≡ Ok vs → DescribeAll (map shape_fact (called g)) vs
