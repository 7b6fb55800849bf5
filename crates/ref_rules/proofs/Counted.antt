-- Tables that stand for lists of variables.
use Rattle.std.proofs.Common.{◌≡◌, ℕ, zero, suc, ◌+◌, ◌-◌, ◌<◌, ◌≤◌, Bool, true, false, cond, eqb, List, [], ◌∷◌, ◌++◌, length, drop, Some, refl, ap, ◌∙◌, sym, subst, arith, true≢false}
use Rattle.std.specs.Prelude.{◌||◌, nat_eq, nat_lt}
use Rattle.std.specs.HashMap.{get, HashMap}
use Rattle.std.proofs.lemmas.Bool.{le-leb}
use Rattle.std.proofs.lemmas.List.{at_drop_all}
use Rattle.core_ir.specs.declared.tree.Var.{Var}
use Rattle.core_ir.specs.Binders.{is_in}
use Rattle.counted_code.specs.Prompt.{times}
use Rattle.counted_laws.specs.placing.Placing.{without, surplus}
use Rattle.counted_laws.proofs.placing.Lists.{same_var, self}
use Rattle.ref_rules.specs.Counts.{or_none, count_of, AreCounts}
use Rattle.ref_rules.proofs.Taken.{without_none, more_needed}

-- ---- counts in lists

abbrev is_some_more : ℕ → Bool
is_some_more zero = false
is_some_more (suc n) = true

counted_first : (b t : Bool) (n : ℕ) → t ≡ is_some_more n → (b || t) ≡ is_some_more (cond b (suc n) n)
counted_first true t n p = refl
counted_first false t n p = p

in_counted : (x : Var) (xs : List Var) → is_in x xs ≡ is_some_more (times x xs)
in_counted x [] = refl
in_counted x (y ∷ ys) = counted_first (eqb y.0 x.0) (is_in x ys) (times x ys) (in_counted x ys)

some_more : (n : ℕ) → 0 < n → is_some_more n ≡ true
some_more zero p = elim (no p) [ ]
  where
    no : 0 < 0 → ⊥
    no q = omega (arith, q)
some_more (suc n) p = refl

swapped : (e f : Bool) (n : ℕ) → cond f (suc (cond e (suc n) n)) (cond e (suc n) n) ≡ cond e (suc (cond f (suc n) n)) (cond f (suc n) n)
swapped true true n = refl
swapped true false n = refl
swapped false true n = refl
swapped false false n = refl

-- the first place of a variable counts for it alone
without_counted : (x y : Var) (xs : List Var) → is_in x xs ≡ true → times y xs ≡ cond (eqb x.0 y.0) (suc (times y (without x xs))) (times y (without x xs))
without_counted x y [] p = elim (true≢false (sym p)) [ ]
without_counted x y (z ∷ zs) p = go (eqb z.0 x.0) refl p (λ q. without_counted x y zs q)
  where
    go : (b : Bool) → eqb z.0 x.0 ≡ b → (b || is_in x zs) ≡ true →
        (is_in x zs ≡ true → times y zs ≡ cond (eqb x.0 y.0) (suc (times y (without x zs))) (times y (without x zs))) →
        times y (z ∷ zs) ≡ cond (eqb x.0 y.0) (suc (times y (cond b zs (z ∷ without x zs)))) (times y (cond b zs (z ∷ without x zs)))
    go true e q rest = ap (λ v. cond (eqb v.0 y.0) (suc (times y zs)) (times y zs)) (same_var z x e)
    go false e q rest = ap (λ n. cond (eqb z.0 y.0) (suc n) n) (rest q) ∙ swapped (eqb x.0 y.0) (eqb z.0 y.0) (times y (without x zs))

one_at_most : (b : Bool) (n k : ℕ) → n ≤ k → cond b (suc n) n ≤ suc k
one_at_most true n k p = omega (arith, p)
one_at_most false n k p = omega (arith, p)

at_most : (x : Var) (xs : List Var) → times x xs ≤ length xs
at_most x [] = omega arith
at_most x (y ∷ ys) = one_at_most (eqb y.0 x.0) (times x ys) (length ys) (at_most x ys)

module _ {S : Type 0} where
  -- ---- one place is taken

  pub is_there : (m : HashMap ℕ ℕ S) (x : Var) (xs : List Var) (c : ℕ) → count_of m x ≡ c → AreCounts m xs → nat_lt 0 c ≡ is_in x xs
  is_there m x xs zero e counts = sym (in_counted x xs ∙ ap is_some_more (sym (counts x) ∙ e))
  is_there m x xs (suc c) e counts = le-leb 1 (suc c) (omega arith) ∙ sym (in_counted x xs ∙ ap is_some_more (sym (counts x) ∙ e))

  pub none_taken : (m n : HashMap ℕ ℕ S) (x : Var) (xs : List Var) → count_of m x ≡ 0 → ((y : Var) → count_of n y ≡ count_of m y) → AreCounts m xs → AreCounts n (without x xs)
  none_taken m n x xs none same counts =
      subst (AreCounts n) (sym (without_none x xs (in_counted x xs ∙ ap is_some_more (sym (counts x) ∙ none)))) (λ y. same y ∙ counts y)

  pub one_taken : (m n : HashMap ℕ ℕ S) (x : Var) (xs : List Var) (left : ℕ) → left + 1 ≡ count_of m x → ((q : ℕ) → get nat_eq n q ≡ cond (nat_eq x.0 q) (Some left) (get nat_eq m q)) → AreCounts m xs → AreCounts n (without x xs)
  one_taken m n x xs left one writes counts y = ap or_none (writes y.0) ∙ go (eqb x.0 y.0) refl
    where
      less : times y xs ≡ cond (eqb x.0 y.0) (suc (times y (without x xs))) (times y (without x xs))
      less = without_counted x y xs (in_counted x xs ∙ some_more (times x xs) (let n = counts x in omega (arith, one, n)))

      go : (b : Bool) → eqb x.0 y.0 ≡ b → or_none (cond b (Some left) (get nat_eq m y.0)) ≡ times y (without x xs)
      go true e =
          let whole = one ∙ ap (count_of m) (same_var x y e) ∙ counts y ∙ less ∙ ap (λ b. cond b (suc (times y (without x xs))) (times y (without x xs))) e in
          omega (arith, whole)
      go false e = counts y ∙ less ∙ ap (λ b. cond b (suc (times y (without x xs))) (times y (without x xs))) e

  -- what the table has for the variable is one less, or none again
  pub taken : (m n : HashMap ℕ ℕ S) (x : Var) (xs : List Var) (c left : ℕ) → get nat_eq m x.0 ≡ Some c → left ≡ c - 1 → ((q : ℕ) → get nat_eq n q ≡ cond (nat_eq x.0 q) (Some left) (get nat_eq m q)) → AreCounts m xs → AreCounts n (without x xs)
  taken m n x xs zero left found less writes counts = none_taken m n x xs (ap or_none found) (λ y. ap or_none (writes y.0) ∙ go y (eqb x.0 y.0) refl) counts
    where
      go : (y : Var) (b : Bool) → eqb x.0 y.0 ≡ b → or_none (cond b (Some left) (get nat_eq m y.0)) ≡ count_of m y
      go y true e =
          let none = ap (count_of m) (sym (same_var x y e)) ∙ ap or_none found in
          omega (arith, none, less)
      go y false e = refl
  taken m n x xs (suc c) left found less writes counts =
      let one = ap or_none found in
      one_taken m n x xs left (omega (arith, one, less)) writes counts

  -- ---- a table is made

  -- the table stands for the list, but for what is left of it
  abbrev pub AreCountsBut : HashMap ℕ ℕ S → List Var → List Var → Type 0
  AreCountsBut m more xs = (x : Var) → count_of m x + times x more ≡ times x xs

  pub counted_more : (m n : HashMap ℕ ℕ S) (xs here more : List Var) (y : Var) → here ≡ y ∷ more → ((q : ℕ) → get nat_eq n q ≡ cond (nat_eq y.0 q) (Some (count_of m y + 1)) (get nat_eq m q)) → AreCountsBut m here xs → AreCountsBut n more xs
  counted_more m n xs here more y h writes was x = ap (λ o. or_none o + times x more) (writes x.0) ∙ go (eqb y.0 x.0) refl
    where
      before : count_of m x + cond (eqb y.0 x.0) (suc (times x more)) (times x more) ≡ times x xs
      before = ap (λ l. count_of m x + times x l) (sym h) ∙ was x

      go : (b : Bool) → eqb y.0 x.0 ≡ b → or_none (cond b (Some (count_of m y + 1)) (get nat_eq m x.0)) + times x more ≡ times x xs
      go true e =
          let same = ap (count_of m) (same_var y x e) in
          let all = ap (λ b. count_of m x + cond b (suc (times x more)) (times x more)) (sym e) ∙ before in
          omega (arith, same, all)
      go false e = ap (λ b. count_of m x + cond b (suc (times x more)) (times x more)) (sym e) ∙ before

  pub count_fits : (m : HashMap ℕ ℕ S) (xs here more : List Var) (y : Var) (n : ℕ) → here ≡ y ∷ more → n ≡ count_of m y → AreCountsBut m here xs → n + 1 ≤ length xs
  count_fits m xs here more y n h e was =
      let one = ap (λ b. cond b (suc (times y more)) (times y more)) (self y) in
      let all = ap (λ l. count_of m y + times y l) (sym h) ∙ was y in
      let most = at_most y xs in
      omega (arith, e, one, all, most)

  pub all_counted : (m : HashMap ℕ ℕ S) (xs : List Var) (i : ℕ) → length xs ≤ i → AreCountsBut m (drop i xs) xs → AreCounts m xs
  all_counted m xs i over was x =
      let none = at_drop_all (times x) xs i over in
      let all = was x in
      omega (arith, none, all)

  -- ---- places that need a reference more

  -- what is added so far, and what is due for the rest of the places by what is left in the table
  abbrev pub Due : HashMap ℕ ℕ S → (more here whole : List Var) → Type 0
  Due m more here whole = (left : List Var) × AreCounts m left × (more ++ surplus here left ≡ whole)

  pub due_more : (m n : HashMap ℕ ℕ S) (whole here rest more next : List Var) (x : Var) (found : Bool) → here ≡ x ∷ rest → ((xs : List Var) → AreCounts m xs → found ≡ is_in x xs) → ((xs : List Var) → AreCounts m xs → AreCounts n (without x xs)) →
      next ≡ cond found more (more ++ (x ∷ [])) → Due m more here whole → Due n next rest whole
  due_more m n whole here rest more next x found h is taken e due =
      (without x due.0, taken due.0 due.1, more_needed whole here rest due.0 (without x due.0) more next x found h (is due.0 due.1) refl e due.2)

  pub all_due : (m : HashMap ℕ ℕ S) (more places whole : List Var) (i : ℕ) → length places ≤ i → Due m more (drop i places) whole → more ≡ whole
  all_due m more places whole i over due =
      sym (nothing_more more) ∙ ap (λ ys. more ++ ys) (sym (at_drop_all (λ ys. surplus ys due.0) places i over)) ∙ due.2
    where
      nothing_more : (xs : List Var) → xs ++ [] ≡ xs
      nothing_more [] = refl
      nothing_more (x ∷ xs) = ap (λ l. x ∷ l) (nothing_more xs)
