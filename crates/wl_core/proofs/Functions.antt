-- Functions of a number that change at one place, their sums and their lists.
use Rattle.std.proofs.Common.{◌≡◌, ◌≢◌, ℕ, zero, suc, ◌+◌, ◌<◌, ◌≤◌, true, false, eqb, List, [], ◌∷◌, ◌++◌, refl, sym, ap, ◌∙◌, ⊎_elim, arith, append_assoc}
use Rattle.std.proofs.lemmas.Bool.{eq-eqb, ne_eqb, cases_eq}
use Rattle.sac_base.specs.Verdict.{joined}
use Rattle.wl_core.specs.Machine.{put, sum_below, listed}

pub put_same : {X : Type 0} (f : ℕ → X) (k : ℕ) (x : X) (i : ℕ) → i ≡ k → put f k x i ≡ x
put_same f k x i e = let t : eqb i k ≡ true = eq-eqb i k e in rw t refl

pub put_other : {X : Type 0} (f : ℕ → X) (k : ℕ) (x : X) (i : ℕ) → i ≢ k → put f k x i ≡ f i
put_other f k x i ne = let t : eqb i k ≡ false = ne_eqb i k ne in rw t refl

-- a function that has the value x at k and is f elsewhere
pub put_is : {X : Type 0} (g f : ℕ → X) (k : ℕ) (x : X) → g k ≡ x → ((i : ℕ) → i ≢ k → g i ≡ f i) → g ≡ put f k x
put_is g f k x here there = λ j i. at i j
  where
    at : (i : ℕ) → g i ≡ put f k x i
    at i = ⊎_elim (λ (e : i ≡ k). ap g e ∙ here ∙ sym (put_same f k x i e)) (λ (ne : i ≢ k). there i ne ∙ sym (put_other f k x i ne)) (cases_eq i k)

pub put_id : {X : Type 0} (f : ℕ → X) (k : ℕ) (x : X) → f k ≡ x → f ≡ put f k x
put_id f k x e = put_is f f k x e (λ i ne. refl)

pub sum-same : (f g : ℕ → ℕ) (n : ℕ) → ((i : ℕ) → i < n → f i ≡ g i) → sum_below f n ≡ sum_below g n
sum-same f g zero e = refl
sum-same f g (suc n) e = let a = sum-same f g n (λ i lt. e i (omega arith)) in let b = e n (omega arith) in omega arith

pub sum-put : (f : ℕ → ℕ) (k x n : ℕ) → k < n → sum_below (put f k x) n + f k ≡ sum_below f n + x
sum-put f k x zero lt = absurd (omega arith)
sum-put f k x (suc n) lt = ⊎_elim
    (λ (e : k ≡ n). let a = sum-same (put f k x) f n (λ i l. put_other f k x i (λ e'. omega arith)) in let b = put_same f k x n (sym e) in let c = ap f e in omega arith)
    (λ (ne : k ≢ n). let a = sum-put f k x n (omega arith) in let b = put_other f k x n (λ e'. ne (sym e')) in omega arith)
    (cases_eq k n)

pub sum-none : (f : ℕ → ℕ) (n : ℕ) → ((i : ℕ) → i < n → f i ≡ 0) → sum_below f n ≡ 0
sum-none f zero e = refl
sum-none f (suc n) e = let a = sum-none f n (λ i lt. e i (omega arith)) in let b = e n (omega arith) in omega arith

pub one-le : (f : ℕ → ℕ) (k n : ℕ) → k < n → f k ≤ sum_below f n
one-le f k zero lt = absurd (omega arith)
one-le f k (suc n) lt = ⊎_elim (λ (e : k ≡ n). let a = ap f e in omega arith) (λ (ne : k ≢ n). let a = one-le f k n (omega arith) in omega arith) (cases_eq k n)

pub listed-same : {X : Type 0} (f g : ℕ → X) (n : ℕ) → ((i : ℕ) → i < n → f i ≡ g i) → listed f n ≡ listed g n
listed-same f g zero e = refl
listed-same f g (suc n) e = let a = listed-same f g n (λ i lt. e i (omega arith)) in let b = e n (omega arith) in λ j. a j ++ b j ∷ []

pub joined-append : {X : Type 0} (xs ys : List (List X)) → joined (xs ++ ys) ≡ joined xs ++ joined ys
joined-append [] ys = refl
joined-append (x ∷ xs) ys = ap (λ l. x ++ l) (joined-append xs ys) ∙ sym (append_assoc x (joined xs) (joined ys))
