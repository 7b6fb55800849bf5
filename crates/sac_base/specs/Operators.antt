-- What the operators give.
use Rattle.std.specs.Prelude.{ℕ, List, [], ◌∷◌, ℤ, pos, ◌+ℤ◌, ◌-ℤ◌, ◌*ℤ◌, neg_ℤ, int_lt, int_le, int_div, int_rem, Bool, true, false, not, ◌&&◌, ◌||◌}
use Rattle.std.specs.Prelude.{if◌then◌else◌, Option, Some, None, Result, Ok, Err, map, replicate}
use Rattle.std.specs.List.{zip}
use Rattle.std.specs.Int.{int_wrap, int_min, int_max}
use Rattle.std.specs.Ordering.{int_eq}
use mir.Syntax.{w32}
use Rattle.sac_base.specs.declared.base.Base.{Base}
use Rattle.sac_base.specs.declared.base.Base.TheVariants.{Int, Bool as Truth}
use Rattle.sac_base.specs.declared.op.Op.{Op}
use Rattle.sac_base.specs.declared.op.Op.TheVariants.{Add, Sub, Mul, Div, Rem, Min, Max, Neg, Not, Eq, Ne, Lt, Le, Gt, Ge, And, Or}
use Rattle.sac_base.specs.declared.op.ZeroDivisor.{ZeroDivisor}
use Rattle.sac_base.specs.declared.faults.FaultKind.{FaultKind}
use Rattle.sac_base.specs.declared.faults.FaultKind.TheVariants.{F2, F3}
use Rattle.sac_base.specs.Arrays.{ArrayValue, size, first_cell, same_shape, is_true}

-- a whole number brought back to 32 bits
abbrev pub wrap : ℤ → ℤ
wrap z = int_wrap w32 z

abbrev pub of_truth : Bool → ℤ
of_truth true = pos 1
of_truth false = pos 0

-- what the elements of an operator's result are
abbrev pub result_base : Op → Base
result_base Add = Int
result_base Sub = Int
result_base Mul = Int
result_base Div = Int
result_base Rem = Int
result_base Min = Int
result_base Max = Int
result_base Neg = Int
result_base _ = Truth

-- an operator of one number
abbrev pub apply_one : Op → ℤ → ℤ
apply_one Neg a = wrap (neg_ℤ a)
apply_one Not a = of_truth (not (is_true a))
apply_one _ a = a

-- an operator of two numbers, or an error where it divides by zero
abbrev pub apply_two : Op → ℤ → ℤ → Result ℤ ZeroDivisor
apply_two Add a b = Ok (wrap (a +ℤ b))
apply_two Sub a b = Ok (wrap (a -ℤ b))
apply_two Mul a b = Ok (wrap (a *ℤ b))
apply_two Div a b = if int_eq b (pos 0) then Err (record {}) else Ok (wrap (int_div a b))
apply_two Rem a b = if int_eq b (pos 0) then Err (record {}) else Ok (int_rem a b)
apply_two Min a b = Ok (int_min a b)
apply_two Max a b = Ok (int_max a b)
apply_two Eq a b = Ok (of_truth (int_eq a b))
apply_two Ne a b = Ok (of_truth (not (int_eq a b)))
apply_two Lt a b = Ok (of_truth (int_lt a b))
apply_two Le a b = Ok (of_truth (int_le a b))
apply_two Gt a b = Ok (of_truth (int_lt b a))
apply_two Ge a b = Ok (of_truth (int_le b a))
apply_two And a b = Ok (of_truth (is_true a && is_true b))
apply_two Or a b = Ok (of_truth (is_true a || is_true b))
apply_two Neg a b = Ok a
apply_two Not a b = Ok a

-- the value before those of a list
abbrev pub with_first : {A E : Type 0} → A → Result (List A) E → Result (List A) E
with_first a (Ok rest) = Ok (a ∷ rest)
with_first a (Err e) = Err e

-- the values, or the first error
abbrev pub all_of : {A E : Type 0} → List (Result A E) → Result (List A) E
all_of [] = Ok []
all_of (Err e ∷ rest) = Err e
all_of (Ok a ∷ rest) = with_first a (all_of rest)

-- the shape of an operator's result: that of both operands, or that of the one that is no scalar
abbrev pub common_shape : List ℕ → List ℕ → Option (List ℕ)
common_shape [] shape = Some shape
common_shape (m ∷ ms) [] = Some (m ∷ ms)
common_shape (m ∷ ms) (n ∷ ns) = if same_shape (m ∷ ms) (n ∷ ns) then Some (m ∷ ms) else None

-- the cells of an operand, those of a scalar as often as there are elements
abbrev pub stretched : ℕ → List ℕ → List ℤ → List ℤ
stretched n [] cells = replicate n (first_cell cells)
stretched n (m ∷ ms) cells = cells

abbrev pub unary : Op → ArrayValue → ArrayValue
unary op a = record { base = result_base op; shape = a.shape; cells = map (apply_one op) a.cells }

abbrev pub with_cells : Op → List ℕ → Result (List ℤ) ZeroDivisor → Result ArrayValue FaultKind
with_cells op shape (Err zero) = Err F2
with_cells op shape (Ok cells) = Ok (record { base = result_base op; shape = shape; cells = cells })

-- the operator at each pair of cells, or an error where one divides by zero
abbrev pub combined : Op → List ℤ → List ℤ → Result (List ℤ) ZeroDivisor
combined op xs ys = all_of (map (λ (p : ℤ × ℤ). apply_two op p.0 p.1) (zip xs ys))

abbrev pub in_shape : Op → Option (List ℕ) → ArrayValue → ArrayValue → Result ArrayValue FaultKind
in_shape op None a b = Err F3
in_shape op (Some shape) a b =
    let xs = stretched (size shape) a.shape a.cells in
    let ys = stretched (size shape) b.shape b.cells in
    with_cells op shape (combined op xs ys)

-- an operator of two arrays, element by element
abbrev pub binary : Op → ArrayValue → ArrayValue → Result ArrayValue FaultKind
binary op a b = in_shape op (common_shape a.shape b.shape) a b
