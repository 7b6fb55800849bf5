-- Operators of whole buffers.
use Rattle.std.proofs.Common.{◌≡◌, ◌≢◌, ℕ, suc, zero, ◌≤◌, ◌<◌, ℤ, pos, Bool, true, false, List, [], ◌∷◌, length, map, replicate, Result, Ok, Err, Some, None, refl, sym, ap, ◌∙◌, arith, if◌then◌else◌}
use Rattle.std.specs.Result.{result_unwrap_or}
use Rattle.std.specs.Ordering.{int_eq}
use Rattle.std.proofs.lemmas.Bool.{false≢true}
use Rattle.std.proofs.lemmas.Bool.Decides.{Decides-int_eq}
use Rattle.sac_base.specs.declared.base.Base.{Base}
use Rattle.sac_base.specs.declared.op.Op.{Op}
use Rattle.sac_base.specs.declared.op.Op.TheVariants.{Add, Sub, Mul, Div, Rem, Min, Max, Neg, Not, Eq, Ne, Lt, Le, Gt, Ge, And, Or}
use Rattle.sac_base.specs.declared.op.ZeroDivisor.{ZeroDivisor}
use Rattle.sac_base.specs.Arrays.{ArrayValue, scalar, same_shape, size}
use Rattle.sac_base.specs.Operators.{all_of, apply_two, binary, combined, in_shape, result_base, with_cells, with_first}
use Rattle.sac_base.specs.Verdict.{fold_op}
use Rattle.lane_ops.specs.Lanes.{IsEach, lane}

-- ---- cells

-- the operator has a value for this second operand
abbrev pub HasValue : Op → ℤ → Type 0
HasValue op y = (x : ℤ) → apply_two op x y ≡ Ok (fold_op op x y)

chosen : (t : Bool) (q : ℤ) (e : Result ℤ ZeroDivisor) → (t ≡ true → ⊥) → (if t then e else Ok q) ≡ Ok (result_unwrap_or (if t then e else Ok q) (pos 0))
chosen true q e never = absurd (never refl)
chosen false q e never = refl

pub has_value : (op : Op) (y : ℤ) → y ≢ pos 0 → HasValue op y
has_value Div y ne x = chosen (int_eq y (pos 0)) _ _ (λ t. ne ((Decides-int_eq y (pos 0)).0 t))
has_value Rem y ne x = chosen (int_eq y (pos 0)) _ _ (λ t. ne ((Decides-int_eq y (pos 0)).0 t))
has_value Add y ne x = refl
has_value Sub y ne x = refl
has_value Mul y ne x = refl
has_value Min y ne x = refl
has_value Max y ne x = refl
has_value Neg y ne x = refl
has_value Not y ne x = refl
has_value Eq y ne x = refl
has_value Ne y ne x = refl
has_value Lt y ne x = refl
has_value Le y ne x = refl
has_value Gt y ne x = refl
has_value Ge y ne x = refl
has_value And y ne x = refl
has_value Or y ne x = refl

-- one more cell in front
one_more : (op : Op) (x y c : ℤ) (rest : List (Result ℤ ZeroDivisor)) (cells : List ℤ) → apply_two op x y ≡ Ok c → all_of rest ≡ Ok cells → all_of (apply_two op x y ∷ rest) ≡ Ok (c ∷ cells)
one_more op x y c rest cells is later = ap (λ r. all_of (r ∷ rest)) is ∙ ap (with_first c) later

pub pairs : (op : Op) (xs ys cells : List ℤ) → length xs ≡ length cells → length ys ≡ length cells → IsEach cells (λ k. fold_op op (lane xs k) (lane ys k))
    → ((k : ℕ) → k < length ys → HasValue op (lane ys k)) → combined op xs ys ≡ Ok cells
pairs op [] [] [] p q each has = refl
pairs op [] (y ∷ ys) [] p q each has = absurd (omega (arith, q))
pairs op [] ys (c ∷ cells) p q each has = absurd (omega (arith, p))
pairs op (x ∷ xs) ys [] p q each has = absurd (omega (arith, p))
pairs op (x ∷ xs) [] (c ∷ cells) p q each has = absurd (omega (arith, q))
pairs op (x ∷ xs) (y ∷ ys) (c ∷ cells) p q each has =
    one_more op x y c _ cells (has 0 (omega arith) x ∙ ap (λ v. Ok v) (sym (each 0 (omega arith))))
    (pairs op xs ys cells (omega (arith, p)) (omega (arith, q)) (λ k lt. each (suc k) (omega (arith, lt))) (λ k lt. has (suc k) (omega (arith, lt))))

pub with_number : (op : Op) (xs : List ℤ) (n : ℤ) (cells : List ℤ) → length xs ≡ length cells → IsEach cells (λ k. fold_op op (lane xs k) n) → HasValue op n
    → combined op xs (replicate (length xs) n) ≡ Ok cells
with_number op [] n [] p each has = refl
with_number op [] n (c ∷ cells) p each has = absurd (omega (arith, p))
with_number op (x ∷ xs) n [] p each has = absurd (omega (arith, p))
with_number op (x ∷ xs) n (c ∷ cells) p each has =
    one_more op x n c _ cells (has x ∙ ap (λ v. Ok v) (sym (each 0 (omega arith))))
    (with_number op xs n cells (omega (arith, p)) (λ k lt. each (suc k) (omega (arith, lt))) has)

-- ---- arrays

pub whole_pairs : (op : Op) (s t : Base) (shape other : List ℕ) (xs ys cells : List ℤ) → 1 ≤ length shape → same_shape shape other ≡ true → combined op xs ys ≡ Ok cells
    → binary op (record { base = s; shape = shape; cells = xs }) (record { base = t; shape = other; cells = ys }) ≡ Ok (record { base = result_base op; shape = shape; cells = cells })
whole_pairs op s t [] other xs ys cells some same is = absurd (omega (arith, some))
whole_pairs op s t (m ∷ ms) [] xs ys cells some same is = absurd (false≢true same)
whole_pairs op s t (m ∷ ms) (n ∷ ns) xs ys cells some same is =
    ap (λ b. in_shape op (if b then Some (m ∷ ms) else None) (record { base = s; shape = m ∷ ms; cells = xs }) (record { base = t; shape = n ∷ ns; cells = ys })) same
    ∙ ap (with_cells op (m ∷ ms)) is

pub whole_number : (op : Op) (s t : Base) (shape : List ℕ) (xs : List ℤ) (n : ℤ) (cells : List ℤ) → 1 ≤ length shape → size shape ≡ length xs
    → combined op xs (replicate (length xs) n) ≡ Ok cells
    → binary op (record { base = s; shape = shape; cells = xs }) (scalar t n) ≡ Ok (record { base = result_base op; shape = shape; cells = cells })
whole_number op s t [] xs n cells some count is = absurd (omega (arith, some))
whole_number op s t (m ∷ ms) xs n cells some count is = ap (λ k. with_cells op (m ∷ ms) (combined op xs (replicate k n))) count ∙ ap (with_cells op (m ∷ ms)) is
