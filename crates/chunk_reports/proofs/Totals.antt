-- What is made of numbers that are each there once, in whatever order.
use Rattle.std.proofs.Common.{◌≡◌, ℕ, zero, suc, ◌+◌, ◌<◌, Bool, true, false, cond, eqb, ltb, List, [], ◌∷◌, Option, None, Some, refl, sym, ap, ◌∙◌, arith}
use Rattle.std.proofs.lemmas.Bool.{eq-eqb, eqb-true}
use Rattle.std.proofs.lemmas.Bool.Decides.{nat_tests}
use Rattle.count_table.specs.Views.{times, without}
use Rattle.count_table.proofs.Totals.{times-without}
use Rattle.wl_core.specs.Combining.{IsFoldable}
use Rattle.wl_core.specs.Machine.{both}
use Rattle.chunk_reports.specs.Orders.{EachOnce, sum_over, sum_upto, combined_over, combined_upto}

head_once : (n y : ℕ) (ys : List ℕ) → EachOnce n (y ∷ ys) → y < n
head_once n y ys each =
    let t : eqb y y ≡ true = eq-eqb y y refl in let one : cond {A = ℕ} (eqb y y) 1 0 ≡ 1 = rw t refl in
    let e = each y in by (ltb y n) refl (omega arith)
  where
    by : (b : Bool) → ltb y n ≡ b → 0 < cond {A = ℕ} b 1 0 → y < n
    by true e some = grind (arith, nat_tests)
    by false e some = absurd (omega arith)

-- one number less
one_less : (n : ℕ) (xs : List ℕ) → EachOnce (suc n) xs → (0 < times n xs) × EachOnce n (without n xs)
one_less n xs each =
    let one : cond {A = ℕ} (ltb n (suc n)) 1 0 ≡ 1 = grind (arith, nat_tests) in
    let has : 0 < times n xs = (let e = each n in omega arith) in
    (has, λ x. let t = times-without n x xs has in let e = each x in let s : cond {A = ℕ} (ltb x (suc n)) 1 0 ≡ cond {A = ℕ} (ltb x n) 1 0 + cond {A = ℕ} (eqb n x) 1 0 = grind (arith, nat_tests) in omega arith)

module _ (f : ℕ → ℕ) where
  sum_at : (b : Bool) (x y : ℕ) (ys : List ℕ) → eqb y x ≡ b → (0 < times x ys → sum_over f ys ≡ f x + sum_over f (without x ys)) → 0 < cond {A = ℕ} b 1 0 + times x ys
      → f y + sum_over f ys ≡ f x + sum_over f (cond b ys (y ∷ without x ys))
  sum_at true x y ys e ih some = ap (λ (z : ℕ). f z + sum_over f ys) (eqb-true y x e)
  sum_at false x y ys e ih some = omega (arith, ih (omega arith))

  sum_pulled : (x : ℕ) (xs : List ℕ) → 0 < times x xs → sum_over f xs ≡ f x + sum_over f (without x xs)
  sum_pulled x [] some = absurd (omega arith)
  sum_pulled x (y ∷ ys) some = sum_at (eqb y x) x y ys refl (sum_pulled x ys) some

  pub sum_once : (n : ℕ) (xs : List ℕ) → EachOnce n xs → sum_over f xs ≡ sum_upto f n
  sum_once zero [] each = refl
  sum_once zero (y ∷ ys) each = absurd (let lt = head_once zero y ys each in omega arith)
  sum_once (suc n) xs each =
      let less = one_less n xs each in let pulled = sum_pulled n xs less.0 in let rest = sum_once n (without n xs) less.1 in omega arith

module _ {A : Type 0} (op : A → A → A) (laws : IsFoldable op) where
  none-right : (a : Option A) → both op a None ≡ a
  none-right None = refl
  none-right (Some x) = refl

  both-comm : (a b : Option A) → both op a b ≡ both op b a
  both-comm None b = sym (none-right b)
  both-comm (Some x) None = refl
  both-comm (Some x) (Some y) = ap (λ (w : A). Some w) (laws.comm x y)

  pub both-assoc : (a b c : Option A) → both op (both op a b) c ≡ both op a (both op b c)
  both-assoc None b c = refl
  both-assoc (Some x) None c = refl
  both-assoc (Some x) (Some y) None = refl
  both-assoc (Some x) (Some y) (Some z) = ap (λ (w : A). Some w) (laws.assoc x y z)

  both-turn : (a b c : Option A) → both op a (both op b c) ≡ both op b (both op a c)
  both-turn a b c = sym (both-assoc a b c) ∙ ap (λ (d : Option A). both op d c) (both-comm a b) ∙ both-assoc b a c

  module _ (f : ℕ → Option A) where
    combined_at : (b : Bool) (x y : ℕ) (ys : List ℕ) → eqb y x ≡ b → (0 < times x ys → combined_over op f ys ≡ both op (f x) (combined_over op f (without x ys))) → 0 < cond {A = ℕ} b 1 0 + times x ys
        → both op (f y) (combined_over op f ys) ≡ both op (f x) (combined_over op f (cond b ys (y ∷ without x ys)))
    combined_at true x y ys e ih some = ap (λ (z : ℕ). both op (f z) (combined_over op f ys)) (eqb-true y x e)
    combined_at false x y ys e ih some = ap (λ (d : Option A). both op (f y) d) (ih (omega arith)) ∙ both-turn (f y) (f x) (combined_over op f (without x ys))

    combined_pulled : (x : ℕ) (xs : List ℕ) → 0 < times x xs → combined_over op f xs ≡ both op (f x) (combined_over op f (without x xs))
    combined_pulled x [] some = absurd (omega arith)
    combined_pulled x (y ∷ ys) some = combined_at (eqb y x) x y ys refl (combined_pulled x ys) some

    pub combined_once : (n : ℕ) (xs : List ℕ) → EachOnce n xs → combined_over op f xs ≡ combined_upto op f n
    combined_once zero [] each = refl
    combined_once zero (y ∷ ys) each = absurd (let lt = head_once zero y ys each in omega arith)
    combined_once (suc n) xs each =
        let less = one_less n xs each in
        combined_pulled n xs less.0 ∙ ap (λ (d : Option A). both op (f n) d) (combined_once n (without n xs) less.1) ∙ both-comm (f n) (combined_upto op f n)
