-- The same variables in another order.
use Rattle.std.proofs.Common.{◌≡◌, ℕ, suc, ◌+◌, ◌≤◌, Bool, true, false, cond, eqb, not, List, [], ◌∷◌, ◌++◌, refl, ap, sym, subst, arith, true≢false}
use Rattle.std.specs.Prelude.{◌||◌, filter}
use Rattle.core_ir.specs.declared.tree.Var.{Var}
use Rattle.core_ir.specs.Binders.{is_in}
use Rattle.core_ir.specs.WellFormed.{Distinct}
use Rattle.counted_code.specs.Counts.{Reordered, none, stays, swaps, through}
use Rattle.counted_code.specs.Prompt.{times}
use Rattle.counted_laws.specs.placing.Placing.{without, surplus}
use Rattle.counted_laws.proofs.placing.Lists.{same_var, self, or_right}

pub same_order : (xs : List Var) → Reordered xs xs
same_order [] = none
same_order (x ∷ xs) = stays (same_order xs)

pub to_front : (xs : List Var) (x : Var) (ys : List Var) → Reordered (xs ++ x ∷ ys) (x ∷ (xs ++ ys))
to_front [] x ys = same_order (x ∷ ys)
to_front (y ∷ xs) x ys = through (stays (to_front xs x ys)) swaps

pub turned : (xs ys : List Var) → Reordered (xs ++ ys) (ys ++ xs)
turned xs [] = subst (λ l. Reordered l xs) (sym (append_nil xs)) (same_order xs)
  where
    append_nil : (l : List Var) → l ++ [] ≡ l
    append_nil [] = refl
    append_nil (z ∷ l) = ap (λ r. z ∷ r) (append_nil l)
turned xs (y ∷ ys) = through (to_front xs y ys) (stays (turned xs ys))

pub behind : (xs : List Var) {ys zs : List Var} → Reordered ys zs → Reordered (xs ++ ys) (xs ++ zs)
behind [] r = r
behind (x ∷ xs) r = stays (behind xs r)

pub reversed : {xs ys : List Var} → Reordered xs ys → Reordered ys xs
reversed none = none
reversed (stays r) = stays (reversed r)
reversed swaps = swaps
reversed (through r s) = through (reversed s) (reversed r)

behind_front : (xs : List Var) (x : Var) (ys : List Var) → Reordered (x ∷ (xs ++ ys)) (xs ++ x ∷ ys)
behind_front [] x ys = same_order (x ∷ ys)
behind_front (y ∷ xs) x ys = through swaps (stays (behind_front xs x ys))

-- those that pass, and those that do not
pub parted : (p : Var → Bool) (xs : List Var) → Reordered xs (filter p xs ++ filter (λ x. not (p x)) xs)
parted p [] = none
parted p (z ∷ zs) = go (p z) (parted p zs)
  where
    go : (k : Bool) → Reordered zs (filter p zs ++ filter (λ x. not (p x)) zs) → Reordered (z ∷ zs) (cond k (z ∷ filter p zs) (filter p zs) ++ cond (not k) (z ∷ filter (λ x. not (p x)) zs) (filter (λ x. not (p x)) zs))
    go true r = stays r
    go false r = through (stays r) (behind_front (filter p zs) z (filter (λ x. not (p x)) zs))

-- what stands in a list stands in it in any order
pub reordered_in : {xs ys : List Var} → Reordered xs ys → (x : Var) → is_in x xs ≡ true → is_in x ys ≡ true
reordered_in none x p = p
reordered_in (stays {x = z} {xs = zs} {ys = ys} r) x p = go (eqb z.0 x.0) p (reordered_in r x)
  where
    go : (b : Bool) → (b || is_in x zs) ≡ true → (is_in x zs ≡ true → is_in x ys ≡ true) → (b || is_in x ys) ≡ true
    go true q rest = refl
    go false q rest = rest q
reordered_in (swaps {x = y} {y = z} {xs = zs}) x p = go (eqb y.0 x.0) (eqb z.0 x.0) p
  where
    go : (a b : Bool) → (a || (b || is_in x zs)) ≡ true → (b || (a || is_in x zs)) ≡ true
    go true true q = refl
    go true false q = refl
    go false true q = refl
    go false false q = q
reordered_in (through r s) x p = reordered_in s x (reordered_in r x p)

-- ---- how often a variable stands in a list

pub times_append : (x : Var) (xs ys : List Var) → times x (xs ++ ys) ≡ times x xs + times x ys
times_append x [] ys = omega arith
times_append x (z ∷ zs) ys = go (eqb z.0 x.0) (times_append x zs ys)
  where
    go : (b : Bool) → times x (zs ++ ys) ≡ times x zs + times x ys → cond b (suc (times x (zs ++ ys))) (times x (zs ++ ys)) ≡ cond b (suc (times x zs)) (times x zs) + times x ys
    go true e = omega (arith, e)
    go false e = e

pub times_in : (x : Var) (xs : List Var) → is_in x xs ≡ true → 1 ≤ times x xs
times_in x [] p = elim (true≢false (sym p)) [ ]
times_in x (z ∷ zs) p = go (eqb z.0 x.0) p (times_in x zs)
  where
    go : (b : Bool) → (b || is_in x zs) ≡ true → (is_in x zs ≡ true → 1 ≤ times x zs) → 1 ≤ cond b (suc (times x zs)) (times x zs)
    go true q rest = omega arith
    go false q rest = rest q

pub times_out : (x : Var) (xs : List Var) → is_in x xs ≡ false → times x xs ≡ 0
times_out x [] p = refl
times_out x (z ∷ zs) p = go (eqb z.0 x.0) p (times_out x zs)
  where
    go : (b : Bool) → (b || is_in x zs) ≡ false → (is_in x zs ≡ false → times x zs ≡ 0) → cond b (suc (times x zs)) (times x zs) ≡ 0
    go true q rest = elim (true≢false q) [ ]
    go false q rest = rest q

-- once at most
pub times_distinct : (x : Var) (xs : List Var) → Distinct xs → times x xs ≤ 1
times_distinct x [] d = omega arith
times_distinct x (z ∷ zs) d = go (eqb z.0 x.0) refl (times_distinct x zs d.1)
  where
    go : (b : Bool) → eqb z.0 x.0 ≡ b → times x zs ≤ 1 → cond b (suc (times x zs)) (times x zs) ≤ 1
    go true e le = let o = times_out x zs (subst (λ v. is_in v zs ≡ false) (same_var z x e) d.0) in omega (arith, o)
    go false e le = le

-- a list without repetitions stands as often in one that has all of it
pub times_fewer : (xs ys : List Var) → Distinct xs → ((x : Var) → is_in x xs ≡ true → is_in x ys ≡ true) → (x : Var) → times x xs ≤ times x ys
times_fewer xs ys d w x = go (is_in x xs) refl
  where
    go : (b : Bool) → is_in x xs ≡ b → times x xs ≤ times x ys
    go true e = let a = times_distinct x xs d in let b = times_in x ys (w x e) in omega (arith, a, b)
    go false e = let o = times_out x xs e in omega (arith, o)

times_without : (x y : Var) (xs : List Var) → is_in y xs ≡ true → times x xs ≡ cond (eqb y.0 x.0) 1 0 + times x (without y xs)
times_without x y [] p = elim (true≢false (sym p)) [ ]
times_without x y (z ∷ zs) p = go (eqb z.0 y.0) refl p (times_without x y zs)
  where
    more : (b : Bool) → eqb z.0 x.0 ≡ b → times x zs ≡ cond (eqb y.0 x.0) 1 0 + times x (without y zs) → cond b (suc (times x zs)) (times x zs) ≡ cond (eqb y.0 x.0) 1 0 + cond b (suc (times x (without y zs))) (times x (without y zs))
    more true e q = omega (arith, q)
    more false e q = q

    go : (b : Bool) → eqb z.0 y.0 ≡ b → (b || is_in y zs) ≡ true → (is_in y zs ≡ true → times x zs ≡ cond (eqb y.0 x.0) 1 0 + times x (without y zs)) → cond (eqb z.0 x.0) (suc (times x zs)) (times x zs) ≡ cond (eqb y.0 x.0) 1 0 + times x (cond b zs (z ∷ without y zs))
    go true e q rest = subst (λ (v : Var). cond (eqb z.0 x.0) (suc (times x zs)) (times x zs) ≡ cond (eqb v.0 x.0) 1 0 + times x zs) (same_var z y e) (same (eqb z.0 x.0))
      where
        same : (c : Bool) → cond c (suc (times x zs)) (times x zs) ≡ cond c 1 0 + times x zs
        same true = omega arith
        same false = omega arith
    go false e q rest = more (eqb z.0 x.0) refl (rest q)

without_order : (y : Var) (xs : List Var) → is_in y xs ≡ true → Reordered xs (y ∷ without y xs)
without_order y [] p = elim (true≢false (sym p)) [ ]
without_order y (z ∷ zs) p = go (eqb z.0 y.0) refl p (without_order y zs)
  where
    go : (b : Bool) → eqb z.0 y.0 ≡ b → (b || is_in y zs) ≡ true → (is_in y zs ≡ true → Reordered zs (y ∷ without y zs)) → Reordered (z ∷ zs) (y ∷ cond b zs (z ∷ without y zs))
    go true e q rest = subst (λ (v : Var). Reordered (z ∷ zs) (v ∷ zs)) (same_var z y e) (same_order (z ∷ zs))
    go false e q rest = through (stays (rest q)) swaps

pub nothing_left : (xs : List Var) → ((x : Var) → times x xs ≤ 0) → xs ≡ []
nothing_left [] f = refl
nothing_left (x ∷ xs) f = elim (impossible (subst (λ b. cond b (suc (times x xs)) (times x xs) ≤ 0) (self x) (f x))) [ ]
  where
    impossible : {n : ℕ} → suc n ≤ 0 → ⊥
    impossible {n} p = omega (arith, p)

-- the places that need one reference more, and the references that there are
pub surplus_order : (ys own : List Var) → ((x : Var) → times x own ≤ times x ys) → Reordered (surplus ys own ++ own) ys
surplus_order [] own f = subst (λ l. Reordered l []) (sym (nothing_left own f)) none
surplus_order (y ∷ ys) own f = go (λ e. surplus_order ys (without y own) (less e)) (λ e. surplus_order ys own (same e)) (is_in y own) refl
  where
    less : is_in y own ≡ true → (x : Var) → times x (without y own) ≤ times x ys
    less p x = step (eqb y.0 x.0) (f x) (times_without x y own p)
      where
        step : (b : Bool) → times x own ≤ cond b (suc (times x ys)) (times x ys) → times x own ≡ cond b 1 0 + times x (without y own) → times x (without y own) ≤ times x ys
        step true a e = omega (arith, a, e)
        step false a e = omega (arith, a, e)

    same : is_in y own ≡ false → (x : Var) → times x own ≤ times x ys
    same p x = step (eqb y.0 x.0) refl (f x)
      where
        step : (b : Bool) → eqb y.0 x.0 ≡ b → times x own ≤ cond b (suc (times x ys)) (times x ys) → times x own ≤ times x ys
        step true e a = let o = times_out x own (subst (λ v. is_in v own ≡ false) (same_var y x e) p) in omega (arith, o)
        step false e a = a

    go : (is_in y own ≡ true → Reordered (surplus ys (without y own) ++ without y own) ys) → (is_in y own ≡ false → Reordered (surplus ys own ++ own) ys) → (b : Bool) → is_in y own ≡ b → Reordered (cond b (surplus ys (without y own)) (y ∷ surplus ys own) ++ own) (y ∷ ys)
    go taken kept true e =
        through (behind (surplus ys (without y own)) (without_order y own e))
        (through (to_front (surplus ys (without y own)) y (without y own))
        (stays (taken e)))
    go taken kept false e = stays (kept e)

-- what needs one reference more stands in the list, and twice where it has one of its own
pub surplus_in : (x : Var) (ys own : List Var) → is_in x (surplus ys own) ≡ true → is_in x ys ≡ true
surplus_in x [] own p = p
surplus_in x (y ∷ ys) own p = go (surplus_in x ys (without y own)) (surplus_in x ys own) (is_in y own) p
  where
    kept : (is_in x (surplus ys own) ≡ true → is_in x ys ≡ true) → (c : Bool) → (c || is_in x (surplus ys own)) ≡ true → (c || is_in x ys) ≡ true
    kept rest true r = refl
    kept rest false r = rest r

    go : (is_in x (surplus ys (without y own)) ≡ true → is_in x ys ≡ true) → (is_in x (surplus ys own) ≡ true → is_in x ys ≡ true) → (b : Bool) → is_in x (cond b (surplus ys (without y own)) (y ∷ surplus ys own)) ≡ true → (eqb y.0 x.0 || is_in x ys) ≡ true
    go taken rest true q = or_right (eqb y.0 x.0) (is_in x ys) (taken q)
    go taken rest false q = kept rest (eqb y.0 x.0) q
