-- Lists with the same variables, each as often.
use Rattle.std.proofs.Common.{◌≡◌, ℕ, zero, suc, ◌+◌, ◌≤◌, Bool, true, false, cond, eqb, List, [], ◌∷◌, ◌++◌, refl, ap, ◌∙◌, sym, subst, arith, true≢false}
use Rattle.std.specs.Prelude.{◌||◌}
use Rattle.core_ir.specs.declared.tree.Var.{Var}
use Rattle.core_ir.specs.Binders.{is_in}
use Rattle.counted_code.specs.Counts.{Reordered, none, stays, swaps, through}
use Rattle.counted_code.specs.Prompt.{times}
use Rattle.counted_laws.specs.placing.Placing.{without}
use Rattle.counted_laws.proofs.placing.Lists.{Within, self, same_var}
use Rattle.counted_laws.proofs.placing.Orders.{reversed, same_order, reordered_in, nothing_left}

abbrev pub SameTimes : List Var → List Var → Type 0
SameTimes xs ys = (x : Var) → times x xs ≡ times x ys

more : (b : Bool) (m n : ℕ) → m ≡ n → cond b (suc m) m ≡ cond b (suc n) n
more true m n e = ap suc e
more false m n e = e

turn : (a b : Bool) (n : ℕ) → cond a (suc (cond b (suc n) n)) (cond b (suc n) n) ≡ cond b (suc (cond a (suc n) n)) (cond a (suc n) n)
turn true true n = refl
turn true false n = refl
turn false true n = refl
turn false false n = refl

pub order_times : {xs ys : List Var} → Reordered xs ys → SameTimes xs ys
order_times none z = refl
order_times (stays {x} {xs} {ys} r) z = more (eqb x.0 z.0) (times z xs) (times z ys) (order_times r z)
order_times (swaps {x} {y} {xs}) z = turn (eqb x.0 z.0) (eqb y.0 z.0) (times z xs)
order_times (through r s) z = order_times r z ∙ order_times s z

in_times : (x : Var) (xs : List Var) → 1 ≤ times x xs → is_in x xs ≡ true
in_times x [] p = elim (below p) [ ]
  where
    below : 1 ≤ 0 → ⊥
    below q = omega (arith, q)
in_times x (z ∷ zs) p = go (eqb z.0 x.0) p (in_times x zs)
  where
    go : (b : Bool) → 1 ≤ cond b (suc (times x zs)) (times x zs) → (1 ≤ times x zs → is_in x zs ≡ true) → (b || is_in x zs) ≡ true
    go true q rest = refl
    go false q rest = rest q

times_without : (x y : Var) (xs : List Var) → is_in y xs ≡ true → times x xs ≡ cond (eqb y.0 x.0) 1 0 + times x (without y xs)
times_without x y [] p = elim (true≢false (sym p)) [ ]
times_without x y (z ∷ zs) p = go (eqb z.0 y.0) refl p (times_without x y zs)
  where
    also : (b c : Bool) (m n : ℕ) → m ≡ cond c 1 0 + n → cond b (suc m) m ≡ cond c 1 0 + cond b (suc n) n
    also true c m n q = omega (arith, q)
    also false c m n q = q

    same : (c : Bool) → cond c (suc (times x zs)) (times x zs) ≡ cond c 1 0 + times x zs
    same true = omega arith
    same false = omega arith

    go : (b : Bool) → eqb z.0 y.0 ≡ b → (b || is_in y zs) ≡ true → (is_in y zs ≡ true → times x zs ≡ cond (eqb y.0 x.0) 1 0 + times x (without y zs)) → cond (eqb z.0 x.0) (suc (times x zs)) (times x zs) ≡ cond (eqb y.0 x.0) 1 0 + times x (cond b zs (z ∷ without y zs))
    go true e q rest = subst (λ (v : Var). cond (eqb z.0 x.0) (suc (times x zs)) (times x zs) ≡ cond (eqb v.0 x.0) 1 0 + times x zs) (same_var z y e) (same (eqb z.0 x.0))
    go false e q rest = also (eqb z.0 x.0) (eqb y.0 x.0) (times x zs) (times x (without y zs)) (rest q)

-- the place of a variable is at the front
pub taken_out : (y : Var) (xs : List Var) → is_in y xs ≡ true → Reordered xs (y ∷ without y xs)
taken_out y [] p = elim (true≢false (sym p)) [ ]
taken_out y (z ∷ zs) p = go (eqb z.0 y.0) refl p (taken_out y zs)
  where
    go : (b : Bool) → eqb z.0 y.0 ≡ b → (b || is_in y zs) ≡ true → (is_in y zs ≡ true → Reordered zs (y ∷ without y zs)) → Reordered (z ∷ zs) (y ∷ cond b zs (z ∷ without y zs))
    go true e q rest = subst (λ (v : Var). Reordered (z ∷ zs) (v ∷ zs)) (same_var z y e) (same_order (z ∷ zs))
    go false e q rest = through (stays (rest q)) swaps

front_once : (x : Var) (xs : List Var) → times x (x ∷ xs) ≡ suc (times x xs)
front_once x xs = ap (λ b. cond b (suc (times x xs)) (times x xs)) (self x)

pub times_order : (xs ys : List Var) → SameTimes xs ys → Reordered xs ys
times_order [] ys e = subst (λ l. Reordered [] l) (sym (nothing_left ys (λ x. (let q = e x in omega (arith, q))))) none
times_order (x ∷ xs) ys e =
    let there : is_in x ys ≡ true = in_times x ys (let a = e x in let b = front_once x xs in omega (arith, a, b)) in
    through (stays (times_order xs (without x ys) (λ z. (let a = e z in let b = times_without z x ys there in less (eqb x.0 z.0) (times z xs) (times z (without x ys)) (a ∙ b))))) (reversed (taken_out x ys there))
  where
    less : (b : Bool) (m n : ℕ) → cond b (suc m) m ≡ cond b 1 0 + n → m ≡ n
    less true m n q = omega (arith, q)
    less false m n q = omega (arith, q)

front_times : (x z : Var) (xs : List Var) → times z (x ∷ xs) ≡ cond (eqb x.0 z.0) 1 0 + times z xs
front_times x z xs = go (eqb x.0 z.0)
  where
    go : (b : Bool) → cond b (suc (times z xs)) (times z xs) ≡ cond b 1 0 + times z xs
    go true = omega arith
    go false = omega arith

-- the same front goes from both
pub same_front : (x : Var) (xs ys : List Var) → Reordered (x ∷ xs) (x ∷ ys) → Reordered xs ys
same_front x xs ys r =
    times_order xs ys (λ z. (let a = order_times r z in let b = front_times x z xs in let c = front_times x z ys in omega (arith, a, b, c)))

-- one list with v at the front, and with x at the front: what is left without v has x at the front
pub two_fronts : (v x : Var) (refs left after rest : List Var) → Reordered refs (v ∷ left) → Reordered refs (x ∷ after) → Reordered after (v ∷ rest) → Reordered left (x ∷ rest)
two_fronts v x refs left after rest p q r =
    same_front v left (x ∷ rest) (through (reversed p) (through q (through (stays r) swaps)))

pub within_order : {xs ys : List Var} → Reordered xs ys → Within xs ys
within_order r x p = reordered_in r x p

-- lists behind the same in another order
pub before : {xs ys : List Var} (zs : List Var) → Reordered xs ys → Reordered (xs ++ zs) (ys ++ zs)
before zs none = same_order zs
before zs (stays r) = stays (before zs r)
before zs swaps = swaps
before zs (through r s) = through (before zs r) (before zs s)
