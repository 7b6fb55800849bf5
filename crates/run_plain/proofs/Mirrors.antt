-- Operators whose operands change places.
use Rattle.std.proofs.Common.{◌≡◌, ℤ, ℕ, pos, Bool, true, false, List, [], ◌∷◌, map, replicate, Result, Ok, Err, Option, Some, None, IfOk, IfSome, refl, sym, ap, ◌∙◌, ◌&&◌, ◌||◌, not, arith}
use Rattle.std.proofs.lemmas.Bool.{false≢true}
use Rattle.std.proofs.lemmas.Bool.Decides.{Decides-int_eq}
use Rattle.std.proofs.lemmas.Int.{int_max_is, int_min_is, ints}
use Rattle.std.specs.Int.{int_min, int_max}
use Rattle.std.specs.List.{zip}
use Rattle.std.specs.Ordering.{int_eq}
use lib.IntN.{+ℤ_comm, *ℤ_comm}
use Rattle.sac_base.specs.declared.base.Base.{Base}
use Rattle.sac_base.specs.declared.op.Op.{Op}
use Rattle.sac_base.specs.declared.op.Op.TheVariants.{Add, Mul, Min, Max, Eq, Ne, Lt, Le, Gt, Ge, And, Or}
use Rattle.sac_base.specs.declared.op.ZeroDivisor.{ZeroDivisor}
use Rattle.sac_base.specs.Arrays.{ArrayValue, first_cell, is_true, scalar, size}
use Rattle.sac_base.specs.Operators.{all_of, apply_two, binary, combined, of_truth, with_cells, wrap}
use Rattle.run_plain.specs.Mirrors.{IsMirror}

and_swapped : (a b : Bool) → (a && b) ≡ (b && a)
and_swapped true true = refl
and_swapped true false = refl
and_swapped false true = refl
and_swapped false false = refl

or_swapped : (a b : Bool) → (a || b) ≡ (b || a)
or_swapped true true = refl
or_swapped true false = refl
or_swapped false true = refl
or_swapped false false = refl

eq_swapped : (x y : ℤ) → int_eq x y ≡ int_eq y x
eq_swapped x y = by (int_eq x y) refl
  where
    no : (t : Bool) → int_eq y x ≡ t → int_eq x y ≡ false → false ≡ t
    no true q p = absurd (false≢true (sym p ∙ (Decides-int_eq x y).1 (sym ((Decides-int_eq y x).0 q))))
    no false q p = refl

    by : (t : Bool) → int_eq x y ≡ t → int_eq x y ≡ int_eq y x
    by true p = p ∙ sym ((Decides-int_eq y x).1 (sym ((Decides-int_eq x y).0 p)))
    by false p = p ∙ no (int_eq y x) refl p

min_swapped : (x y : ℤ) → int_min x y ≡ int_min y x
min_swapped x y = let one = int_min_is x y in let two = int_min_is y x in omega (arith, ints, one, two)

max_swapped : (x y : ℤ) → int_max x y ≡ int_max y x
max_swapped x y = let one = int_max_is x y in let two = int_max_is y x in omega (arith, ints, one, two)

pub add : IsMirror Add Add
add = record { base = refl; value = λ x y. ap (λ (z : ℤ). Ok (wrap z)) (+ℤ_comm x y) }

pub mul : IsMirror Mul Mul
mul = record { base = refl; value = λ x y. ap (λ (z : ℤ). Ok (wrap z)) (*ℤ_comm x y) }

pub min_of : IsMirror Min Min
min_of = record { base = refl; value = λ x y. ap (λ (z : ℤ). Ok z) (min_swapped x y) }

pub max_of : IsMirror Max Max
max_of = record { base = refl; value = λ x y. ap (λ (z : ℤ). Ok z) (max_swapped x y) }

pub eq : IsMirror Eq Eq
eq = record { base = refl; value = λ x y. ap (λ (t : Bool). Ok (of_truth t)) (eq_swapped x y) }

pub ne : IsMirror Ne Ne
ne = record { base = refl; value = λ x y. ap (λ (t : Bool). Ok (of_truth (not t))) (eq_swapped x y) }

pub lt : IsMirror Lt Gt
lt = record { base = refl; value = λ x y. refl }

pub le : IsMirror Le Ge
le = record { base = refl; value = λ x y. refl }

pub gt : IsMirror Gt Lt
gt = record { base = refl; value = λ x y. refl }

pub ge : IsMirror Ge Le
ge = record { base = refl; value = λ x y. refl }

pub both_true : IsMirror And And
both_true = record { base = refl; value = λ x y. ap (λ (t : Bool). Ok (of_truth t)) (and_swapped (is_true x) (is_true y)) }

pub either_true : IsMirror Or Or
either_true = record { base = refl; value = λ x y. ap (λ (t : Bool). Ok (of_truth t)) (or_swapped (is_true x) (is_true y)) }

-- ---- arrays

-- what holds of what is found
pub found_through : {A E : Type 0} {P Q : A → Type 0} (r : Result (Option A) E) → ((a : A) → P a → Q a) → IfOk r (λ o. IfSome o P) → IfOk r (λ o. IfSome o Q)
found_through (Ok (Some a)) f h = f a h
found_through (Ok None) f h = tt
found_through (Err e) f h = tt

module _ (op other : Op) (mirror : IsMirror op other) where
  swapped : (xs ys : List ℤ) → combined op xs ys ≡ combined other ys xs
  swapped xs ys = ap all_of (go xs ys)
    where
      go : (xs ys : List ℤ) → map (λ (p : ℤ × ℤ). apply_two op p.0 p.1) (zip xs ys) ≡ map (λ (p : ℤ × ℤ). apply_two other p.0 p.1) (zip ys xs)
      go [] [] = refl
      go [] (y ∷ ys) = refl
      go (x ∷ xs) [] = refl
      go (x ∷ xs) (y ∷ ys) = λ i. mirror.value x y i ∷ go xs ys i

  same_base : (shape : List ℕ) (r : Result (List ℤ) ZeroDivisor) → with_cells op shape r ≡ with_cells other shape r
  same_base shape (Ok cells) = ap (λ (b : Base). Ok (record { base = b; shape = shape; cells = cells })) mirror.base
  same_base shape (Err zero) = refl

  -- a number in front of an array is one behind it
  pub number_first : (s : Base) (n : ℤ) (a : ArrayValue) → binary other a (scalar s n) ≡ binary op (scalar s n) a
  number_first s n a = sym (go a.base a.shape a.cells)
    where
      go : (t : Base) (shape : List ℕ) (cells : List ℤ) →
          binary op (scalar s n) (record { base = t; shape = shape; cells = cells }) ≡ binary other (record { base = t; shape = shape; cells = cells }) (scalar s n)
      go t [] cells = ap (with_cells op []) (swapped (replicate (size []) n) (replicate (size []) (first_cell cells))) ∙ same_base [] (combined other (replicate (size []) (first_cell cells)) (replicate (size []) n))
      go t (k ∷ ks) cells = ap (with_cells op (k ∷ ks)) (swapped (replicate (size (k ∷ ks)) n) cells) ∙ same_base (k ∷ ks) (combined other cells (replicate (size (k ∷ ks)) n))
