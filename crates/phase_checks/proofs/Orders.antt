-- Lists in some order: what they have in common goes from both. Scopes with the same variables.
use Rattle.std.proofs.Common.{◌≡◌, ℕ, ◌+◌, ◌<◌, ◌≤◌, Bool, true, false, cond, eqb, true≢false, List, [], ◌∷◌, ◌++◌, length, take, drop, refl, ap, ◌∙◌, sym, subst}
use Rattle.std.specs.Prelude.{◌||◌, slice_index_or}
use Rattle.std.proofs.lemmas.List.{drop_all, drop_more, take-append-drop}
use Rattle.core_ir.specs.declared.tree.Var.{Var}
use Rattle.core_ir.specs.Binders.{is_in, NoneIn}
use Rattle.core_ir.specs.Scopes.{AllIn}
use Rattle.core_ir.specs.WellFormed.{Distinct}
use Rattle.counted_code.specs.Counts.{Reordered, none, stays, swaps, through}
use Rattle.counted_laws.specs.placing.Placing.{without}
use Rattle.counted_laws.proofs.placing.Lists.{same_var, self, here, append_assoc}
use Rattle.counted_laws.proofs.placing.Orders.{same_order, reversed, reordered_in}
use Rattle.phase_checks.proofs.Taken.{in_either}

-- ---- what two lists have in common

-- the first place of a variable goes from both
without_both : {xs ys : List Var} → Reordered xs ys → (x : Var) → Reordered (without x xs) (without x ys)
without_both none x = none
without_both (stays {x = z} {xs = zs} {ys = ws} r) x = go (eqb z.0 x.0) (without_both r x)
  where
    go : (b : Bool) → Reordered (without x zs) (without x ws) → Reordered (cond b zs (z ∷ without x zs)) (cond b ws (z ∷ without x ws))
    go true q = r
    go false q = stays q
without_both (swaps {x = y} {y = z} {xs = zs}) x = go (eqb y.0 x.0) refl (eqb z.0 x.0) refl
  where
    go : (a : Bool) → eqb y.0 x.0 ≡ a → (b : Bool) → eqb z.0 x.0 ≡ b → Reordered (cond a (z ∷ zs) (y ∷ cond b zs (z ∷ without x zs))) (cond b (y ∷ zs) (z ∷ cond a zs (y ∷ without x zs)))
    go true e true f = subst (λ (v : Var). Reordered (z ∷ zs) (v ∷ zs)) (same_var z x f ∙ sym (same_var y x e)) (same_order (z ∷ zs))
    go true e false f = same_order (z ∷ zs)
    go false e true f = same_order (y ∷ zs)
    go false e false f = swaps
without_both (through r s) x = through (without_both r x) (without_both s x)

without_first : (x : Var) (xs : List Var) → without x (x ∷ xs) ≡ xs
without_first x xs = ap (λ b. cond b xs (x ∷ without x xs)) (self x)

pub front_gone : (x : Var) (xs ys : List Var) → Reordered (x ∷ xs) (x ∷ ys) → Reordered xs ys
front_gone x xs ys r =
    subst (λ l. Reordered l ys) (without_first x xs) (subst (λ l. Reordered (without x (x ∷ xs)) l) (without_first x ys) (without_both r x))

pub fronts_gone : (zs xs ys : List Var) → Reordered (zs ++ xs) (zs ++ ys) → Reordered xs ys
fronts_gone [] xs ys r = r
fronts_gone (z ∷ zs) xs ys r = fronts_gone zs xs ys (front_gone z (zs ++ xs) (zs ++ ys) r)

pub nothing : (xs : List Var) → Reordered xs [] → xs ≡ []
nothing [] r = refl
nothing (x ∷ xs) r = elim (true≢false (sym (reordered_in r x (here x xs)))) [ ]

nothing_behind : (xs : List Var) → xs ≡ xs ++ []
nothing_behind [] = refl
nothing_behind (x ∷ xs) = ap (λ l. x ∷ l) (nothing_behind xs)

-- ---- references that are taken one by one

-- what is left is what the rest of the list still takes
pub left_over : (whole xs refs rest : List Var) (i : ℕ) → Reordered whole (take i xs ++ refs) → Reordered whole (xs ++ rest) → Reordered refs (drop i xs ++ rest)
left_over whole xs refs rest i taken all =
    let halves : xs ++ rest ≡ take i xs ++ (drop i xs ++ rest) = ap (λ l. l ++ rest) (sym (take-append-drop i xs)) ∙ sym (append_assoc (take i xs) (drop i xs) rest) in
    fronts_gone (take i xs) refs (drop i xs ++ rest) (through (reversed taken) (subst (λ l. Reordered whole l) halves all))

-- the next that is to be taken is there
pub next_there : (whole xs refs rest : List Var) (i : ℕ) (d : Var) → i < length xs → Reordered whole (take i xs ++ refs) → Reordered whole (xs ++ rest) → is_in (slice_index_or xs i d) refs ≡ true
next_there whole xs refs rest i d lt taken all =
    let x = slice_index_or xs i d in
    let order = subst (λ l. Reordered refs (l ++ rest)) (drop_more xs i d lt) (left_over whole xs refs rest i taken all) in
    reordered_in (reversed order) x (here x (drop (i + 1) xs ++ rest))

pub all_left : (whole xs refs rest : List Var) (i : ℕ) → length xs ≤ i → Reordered whole (take i xs ++ refs) → Reordered whole (xs ++ rest) → Reordered rest refs
all_left whole xs refs rest i past taken all =
    reversed (subst (λ l. Reordered refs (l ++ rest)) (drop_all i xs past) (left_over whole xs refs rest i taken all))

-- all of two lists is the same
pub all_taken_back : (refs own : List Var) → Reordered own refs → Reordered refs (own ++ [])
all_taken_back refs own o = subst (λ l. Reordered refs l) (nothing_behind own) (reversed o)

-- ---- scopes with the same variables

pub record SameIn (xs ys : List Var) : Type 0 where
  pub at : (x : Var) → is_in x xs ≡ is_in x ys

both_ways : (a b : Bool) → (a ≡ true → b ≡ true) → (b ≡ true → a ≡ true) → a ≡ b
both_ways true b f g = sym (f refl)
both_ways false true f g = g refl
both_ways false false f g = refl

pub in_order : (xs ys : List Var) → Reordered xs ys → SameIn xs ys
in_order xs ys r = record { at = λ x. both_ways (is_in x xs) (is_in x ys) (reordered_in r x) (reordered_in (reversed r) x) }

pub same_behind : (zs : List Var) {xs ys : List Var} → SameIn xs ys → SameIn (zs ++ xs) (zs ++ ys)
same_behind zs {xs} {ys} s = record { at = λ x. in_either x zs xs ∙ ap (λ b. is_in x zs || b) (s.at x) ∙ sym (in_either x zs ys) }

pub same_before : {xs ys : List Var} (zs : List Var) → SameIn xs ys → SameIn (xs ++ zs) (ys ++ zs)
same_before {xs} {ys} zs s = record { at = λ x. in_either x xs zs ∙ ap (λ b. b || is_in x zs) (s.at x) ∙ sym (in_either x ys zs) }

pub all_in_same : (zs : List Var) {xs ys : List Var} → SameIn xs ys → AllIn zs xs → AllIn zs ys
all_in_same [] s a = tt
all_in_same (z ∷ zs) s a = (sym (s.at z) ∙ a.0, all_in_same zs s a.1)

pub none_in_same : (zs : List Var) {xs ys : List Var} → SameIn xs ys → NoneIn zs xs → NoneIn zs ys
none_in_same [] s a = tt
none_in_same (z ∷ zs) s a = (sym (s.at z) ∙ a.0, none_in_same zs s a.1)

-- ---- lists that are gone through

pub opposite : {b : Bool} → b ≡ true → b ≡ false → ⊥
opposite p q = true≢false (sym p ∙ q)

pub one_outside : (xs scope : List Var) (i : ℕ) (d : Var) → i < length xs → AllIn (drop i xs) scope → is_in (slice_index_or xs i d) scope ≡ false → ⊥
one_outside xs scope i d lt a out = opposite (subst (λ l. AllIn l scope) (drop_more xs i d lt) a).0 out

pub one_inside : (xs scope : List Var) (i : ℕ) (d : Var) → i < length xs → NoneIn (drop i xs) scope → is_in (slice_index_or xs i d) scope ≡ true → ⊥
one_inside xs scope i d lt a there = opposite there (subst (λ l. NoneIn l scope) (drop_more xs i d lt) a).0

pub one_twice : (xs : List Var) (i : ℕ) (d : Var) → i < length xs → Distinct (drop i xs) → is_in (slice_index_or xs i d) (drop (i + 1) xs) ≡ true → ⊥
one_twice xs i d lt a there = opposite there (subst Distinct (drop_more xs i d lt) a).0
