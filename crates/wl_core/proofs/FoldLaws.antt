-- The operations of folds are associative and commutative on all whole numbers.
use Rattle.std.proofs.Common.{◌≡◌, ℕ, zero, suc, ◌*◌, Bool, true, false, List, [], ◌∷◌, ℤ, pos, negsuc, refl, sym, ap, ◌∙◌, arith, w32, IsTrue}
use Rattle.std.proofs.Math.IntN.{*ℤ_comm}
use Rattle.std.proofs.Math.Nat.{mul_assoc}
use Rattle.std.specs.Prelude.{neg_ℤ, not, ◌&&◌, ◌||◌, ◌+ℤ◌, ◌*ℤ◌}
use Rattle.std.specs.Int.{int_wrap, int_min, int_max}
use Rattle.std.proofs.lemmas.Int.{int_wrap-add_left, int_wrap-add_right, int_wrap-mul_left, int_wrap-mul_right, ints, clamps}
use Rattle.sac_base.specs.declared.base.Base.{Base}
use Rattle.sac_base.specs.declared.base.Base.TheVariants.{Int, Bool as Truth}
use Rattle.sac_base.specs.declared.op.Op.{Op}
use Rattle.sac_base.specs.declared.op.Op.TheVariants.{Add, Mul, Min, Max, And, Or}
use Rattle.sac_base.specs.Arrays.{is_true}
use Rattle.sac_base.specs.Operators.{wrap, of_truth}
use Rattle.sac_base.specs.Verdict.{elementwise, folds, fold_op}
use Rattle.wl_core.specs.Combining.{IsFoldable}

plus : (x y z : ℤ) → wrap (wrap (x +ℤ y) +ℤ z) ≡ wrap (x +ℤ wrap (y +ℤ z))
plus x y z =
    let e : (x +ℤ y) +ℤ z ≡ x +ℤ (y +ℤ z) = omega (arith, ints) in
    int_wrap-add_left w32 (x +ℤ y) z ∙ ap (int_wrap w32) e ∙ sym (int_wrap-add_right w32 x (y +ℤ z))

plus_comm : (x y : ℤ) → wrap (x +ℤ y) ≡ wrap (y +ℤ x)
plus_comm x y = let e : x +ℤ y ≡ y +ℤ x = omega (arith, ints) in ap (int_wrap w32) e

of_truth-is : (b : Bool) → is_true (of_truth b) ≡ b
of_truth-is true = refl
of_truth-is false = refl

and_assoc : (a b c : Bool) → (a && b) && c ≡ a && (b && c)
and_assoc true b c = refl
and_assoc false b c = refl

or_assoc : (a b c : Bool) → (a || b) || c ≡ a || (b || c)
or_assoc true b c = refl
or_assoc false b c = refl

and_comm : (a b : Bool) → a && b ≡ b && a
and_comm true true = refl
and_comm true false = refl
and_comm false true = refl
and_comm false false = refl

or_comm : (a b : Bool) → a || b ≡ b || a
or_comm true true = refl
or_comm true false = refl
or_comm false true = refl
or_comm false false = refl

min_assoc : (x y z : ℤ) → int_min (int_min x y) z ≡ int_min x (int_min y z)
min_assoc x y z = omega (arith, ints, clamps)

min_comm : (x y : ℤ) → int_min x y ≡ int_min y x
min_comm x y = omega (arith, ints, clamps)

max_assoc : (x y z : ℤ) → int_max (int_max x y) z ≡ int_max x (int_max y z)
max_assoc x y z = omega (arith, ints, clamps)

max_comm : (x y : ℤ) → int_max x y ≡ int_max y x
max_comm x y = omega (arith, ints, clamps)

-- a number by its sign and its size
abbrev signed : Bool → ℕ → ℤ
signed false n = pos n
signed true n = neg_ℤ (pos n)

abbrev other : Bool → Bool → Bool
other false b = b
other true b = not b

by_size : (z : ℤ) → (b : Bool) × (n : ℕ) × (z ≡ signed b n)
by_size (pos n) = (false, n, refl)
by_size (negsuc n) = (true, suc n, refl)

product : (a b : Bool) (m n : ℕ) → signed a m *ℤ signed b n ≡ signed (other a b) (m * n)
product false false m n = refl
product false true m zero = let e : m * 0 ≡ 0 = omega arith in (λ j. pos (e j)) ∙ sym (λ j. neg_ℤ (pos (e j)))
product false true m (suc n) = refl
product true false zero n = let e : 0 * n ≡ 0 = omega arith in (λ j. pos (e j)) ∙ sym (λ j. neg_ℤ (pos (e j)))
product true false (suc m) n = refl
product true true zero zero = refl
product true true zero (suc n) = let e : 0 * suc n ≡ 0 = omega arith in (λ j. neg_ℤ (pos (e j))) ∙ sym (λ j. pos (e j))
product true true (suc m) zero = let e : suc m * 0 ≡ 0 = omega arith in (λ j. neg_ℤ (pos (e j))) ∙ sym (λ j. pos (e j))
product true true (suc m) (suc n) = refl

other_assoc : (a b c : Bool) → other (other a b) c ≡ other a (other b c)
other_assoc false b c = refl
other_assoc true false c = refl
other_assoc true true false = refl
other_assoc true true true = refl

product_assoc : (x y z : ℤ) → (x *ℤ y) *ℤ z ≡ x *ℤ (y *ℤ z)
product_assoc x y z =
    let u = by_size x in
    let v = by_size y in
    let w = by_size z in
    (λ j. (u.2 j *ℤ v.2 j) *ℤ w.2 j) ∙ ap (λ (k : ℤ). k *ℤ signed w.0 w.1) (product u.0 v.0 u.1 v.1) ∙ product (other u.0 v.0) w.0 (u.1 * v.1) w.1
    ∙ (λ j. signed (other_assoc u.0 v.0 w.0 j) (mul_assoc u.1 v.1 w.1 j))
    ∙ sym ((λ j. u.2 j *ℤ (v.2 j *ℤ w.2 j)) ∙ ap (λ (k : ℤ). signed u.0 u.1 *ℤ k) (product v.0 w.0 v.1 w.1) ∙ product u.0 (other v.0 w.0) u.1 (v.1 * w.1))

times : (x y z : ℤ) → wrap (wrap (x *ℤ y) *ℤ z) ≡ wrap (x *ℤ wrap (y *ℤ z))
times x y z = int_wrap-mul_left w32 (x *ℤ y) z ∙ ap (int_wrap w32) (product_assoc x y z) ∙ sym (int_wrap-mul_right w32 x (y *ℤ z))

times_comm : (x y : ℤ) → wrap (x *ℤ y) ≡ wrap (y *ℤ x)
times_comm x y = ap (int_wrap w32) (*ℤ_comm x y)

pub foldable : (base : Base) (op : Op) → IsTrue (folds base op) → IsFoldable (fold_op op)
foldable Int Add h = record { assoc = plus; comm = plus_comm }
foldable Int Mul h = record { assoc = times; comm = times_comm }
foldable Int Min h = record { assoc = min_assoc; comm = min_comm }
foldable Int Max h = record { assoc = max_assoc; comm = max_comm }
foldable Truth And h = record {
  assoc = λ x y z. ap of_truth (ap (λ b. b && is_true z) (of_truth-is (is_true x && is_true y)) ∙ and_assoc (is_true x) (is_true y) (is_true z) ∙ ap (λ b. is_true x && b) (sym (of_truth-is (is_true y && is_true z))));
  comm = λ x y. ap of_truth (and_comm (is_true x) (is_true y));
}
foldable Truth Or h = record {
  assoc = λ x y z. ap of_truth (ap (λ b. b || is_true z) (of_truth-is (is_true x || is_true y)) ∙ or_assoc (is_true x) (is_true y) (is_true z) ∙ ap (λ b. is_true x || b) (sym (of_truth-is (is_true y || is_true z))));
  comm = λ x y. ap of_truth (or_comm (is_true x) (is_true y));
}
foldable _ _ h = cc

-- and so are they on lists, element by element
pub elementwise-foldable : (op : ℤ → ℤ → ℤ) → IsFoldable op → IsFoldable (elementwise op)
elementwise-foldable op laws = record { assoc = assoc; comm = comm }
  where
    assoc : (xs ys zs : List ℤ) → elementwise op (elementwise op xs ys) zs ≡ elementwise op xs (elementwise op ys zs)
    assoc [] ys zs = refl
    assoc (x ∷ xs) [] zs = refl
    assoc (x ∷ xs) (y ∷ ys) [] = refl
    assoc (x ∷ xs) (y ∷ ys) (z ∷ zs) = λ j. laws.assoc x y z j ∷ assoc xs ys zs j

    comm : (xs ys : List ℤ) → elementwise op xs ys ≡ elementwise op ys xs
    comm [] [] = refl
    comm [] (y ∷ ys) = refl
    comm (x ∷ xs) [] = refl
    comm (x ∷ xs) (y ∷ ys) = λ j. laws.comm x y j ∷ comm xs ys j
