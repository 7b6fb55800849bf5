-- Values that may be missing, combined in any order.
use Rattle.std.proofs.Common.{◌≡◌, ◌≢◌, ℕ, zero, suc, ◌+◌, ◌<◌, Bool, true, false, cond, eqb, List, [], ◌∷◌, ◌++◌, refl, sym, ap, ◌∙◌, ⊎_elim, arith, Option, None, Some}
use Rattle.std.proofs.lemmas.Bool.{eq-eqb, ne_eqb, cases_eq}
use Rattle.std.proofs.lemmas.List.Sums.{fold_push}
use Rattle.sac_base.specs.Verdict.{present, combined}
use Rattle.wl_core.specs.Machine.{put, listed, both}
use Rattle.wl_core.specs.Combining.{IsFoldable}
use Rattle.wl_core.proofs.Functions.{put_same, put_other}

pub present-append : {A : Type 0} (xs ys : List (Option A)) → present (xs ++ ys) ≡ present xs ++ present ys
present-append [] ys = refl
present-append (None ∷ xs) ys = present-append xs ys
present-append (Some x ∷ xs) ys = λ j. x ∷ present-append xs ys j

module _ {A : Type 0} (op : A → A → A) where
  -- the values below n, combined in order
  abbrev pub gathered : (ℕ → Option A) → ℕ → Option A
  gathered f zero = None
  gathered f (suc n) = both op (gathered f n) (f n)

  combined_push : (xs : List A) (x : A) → combined op (xs ++ x ∷ []) ≡ both op (combined op xs) (Some x)
  combined_push [] x = refl
  combined_push (y ∷ ys) x = ap (λ (z : A). Some z) (fold_push op y ys x)

  more : (xs : List (Option A)) (x : Option A) → combined op (present (xs ++ x ∷ [])) ≡ both op (combined op (present xs)) x
  more xs None = ap (combined op) (present-append xs (None ∷ []) ∙ no_more (present xs)) ∙ sym (both-none (combined op (present xs)))
    where
      no_more : (l : List A) → l ++ [] ≡ l
      no_more [] = refl
      no_more (y ∷ l) = λ j. y ∷ no_more l j

      both-none : (a : Option A) → both op a None ≡ a
      both-none None = refl
      both-none (Some a) = refl
  more xs (Some x) = ap (combined op) (present-append xs (Some x ∷ [])) ∙ combined_push (present xs) x

  pub gathered_is : (f : ℕ → Option A) (n : ℕ) → combined op (present (listed f n)) ≡ gathered f n
  gathered_is f zero = refl
  gathered_is f (suc n) = more (listed f n) (f n) ∙ ap (λ (x : Option A). both op x (f n)) (gathered_is f n)

  pub same : (f g : ℕ → Option A) (n : ℕ) → ((i : ℕ) → i < n → f i ≡ g i) → gathered f n ≡ gathered g n
  same f g zero h = refl
  same f g (suc n) h = λ j. both op (same f g n (λ i lt. h i (omega arith)) j) (h n (omega arith) j)

  both-nothing : (a : Option A) → both op a None ≡ a
  both-nothing None = refl
  both-nothing (Some x) = refl

  -- a loop's step
  pub gathered_more : (f : ℕ → Option A) (n : ℕ) → gathered f (n + 1) ≡ both op (gathered f n) (f n)
  gathered_more f n = let e : n + 1 ≡ suc n = omega arith in ap (gathered f) e

  pub gathered_skips : (f : ℕ → Option A) (n : ℕ) → f n ≡ None → gathered f (n + 1) ≡ gathered f n
  gathered_skips f n none = gathered_more f n ∙ ap (λ (x : Option A). both op (gathered f n) x) none ∙ both-nothing (gathered f n)

  module _ (laws : IsFoldable op) where
    both-none : (a : Option A) → both op a None ≡ a
    both-none None = refl
    both-none (Some x) = refl

    pub both-comm : (a b : Option A) → both op a b ≡ both op b a
    both-comm None b = sym (both-none b)
    both-comm (Some x) None = refl
    both-comm (Some x) (Some y) = ap (λ (z : A). Some z) (laws.comm x y)

    pub both-assoc : (a b c : Option A) → both op (both op a b) c ≡ both op a (both op b c)
    both-assoc None b c = refl
    both-assoc (Some x) None c = refl
    both-assoc (Some x) (Some y) None = refl
    both-assoc (Some x) (Some y) (Some z) = ap (λ (v : A). Some v) (laws.assoc x y z)

    -- (a b) (c d) as (a c) (b d)
    swapped : (a b c d : Option A) → both op (both op a b) (both op c d) ≡ both op (both op a c) (both op b d)
    swapped a b c d =
        both-assoc a b (both op c d) ∙ ap (λ (x : Option A). both op a x) (sym (both-assoc b c d) ∙ ap (λ (x : Option A). both op x d) (both-comm b c) ∙ both-assoc c b d) ∙ sym (both-assoc a c (both op b d))

    none : (n : ℕ) → gathered (λ i. None) n ≡ None
    none zero = refl
    none (suc n) = both-none (gathered (λ i. None) n) ∙ none n

    -- combined place by place
    along : (f g : ℕ → Option A) (n : ℕ) → gathered (λ i. both op (f i) (g i)) n ≡ both op (gathered f n) (gathered g n)
    along f g zero = refl
    along f g (suc n) = ap (λ (x : Option A). both op x (both op (f n) (g n))) (along f g n) ∙ swapped (gathered f n) (gathered g n) (f n) (g n)

    -- by rows or by columns
    pub exchange : (g : ℕ → ℕ → Option A) (m n : ℕ) → gathered (λ w. gathered (g w) n) m ≡ gathered (λ p. gathered (λ w. g w p) m) n
    exchange g zero n = sym (none n)
    exchange g (suc m) n = ap (λ (x : Option A). both op x (gathered (g m) n)) (exchange g m n) ∙ sym (along (λ p. gathered (λ w. g w p) m) (g m) n)

    -- one place alone has a value
    pub one : (o : ℕ) (x : Option A) (m : ℕ) → o < m → gathered (λ w. cond (eqb o w) x None) m ≡ x
    one o x zero lt = absurd (omega arith)
    one o x (suc m) lt = ⊎_elim
        (λ (e : o ≡ m). let t : eqb o m ≡ true = eq-eqb o m e in
        ap (λ (y : Option A). both op y (cond (eqb o m) x None)) (same (λ w. cond (eqb o w) x None) (λ w. None) m (λ i l. let f : eqb o i ≡ false = ne_eqb o i (λ q. omega arith) in ap (λ (b : Bool). cond b x None) f) ∙ none m) ∙ ap (λ (b : Bool). cond b x None) t)
        (λ (ne : o ≢ m). let t : eqb o m ≡ false = ne_eqb o m ne in
        ap (λ (b : Bool). both op (gathered (λ w. cond (eqb o w) x None) m) (cond b x None)) t ∙ both-none (gathered (λ w. cond (eqb o w) x None) m) ∙ one o x m (omega arith))
        (cases_eq o m)

    -- one value more, at a place that had none
    pub adds : (f : ℕ → Option A) (q : ℕ) (x : Option A) (n : ℕ) → q < n → f q ≡ None → gathered (put f q x) n ≡ both op (gathered f n) x
    adds f q x zero lt empty = absurd (omega arith)
    adds f q x (suc n) lt empty = ⊎_elim
        (λ (e : q ≡ n).
        ap (λ (y : Option A). both op y (put f q x n)) (same (put f q x) f n (λ i l. put_other f q x i (λ k. omega arith))) ∙ ap (λ (y : Option A). both op (gathered f n) y) (put_same f q x n (sym e))
        ∙ sym (ap (λ (y : Option A). both op y x) (ap (λ (y : Option A). both op (gathered f n) y) (ap f (sym e) ∙ empty) ∙ both-none (gathered f n))))
        (λ (ne : q ≢ n).
        ap (λ (y : Option A). both op y (put f q x n)) (adds f q x n (omega arith) empty) ∙ ap (λ (y : Option A). both op (both op (gathered f n) x) y) (put_other f q x n (λ k. ne (sym k)))
        ∙ both-assoc (gathered f n) x (f n) ∙ ap (λ (y : Option A). both op (gathered f n) y) (both-comm x (f n)) ∙ sym (both-assoc (gathered f n) (f n) x))
        (cases_eq q n)

-- values that are all there
pub present-all : {A : Type 0} (f : ℕ → Option A) (g : ℕ → A) (n : ℕ) → ((i : ℕ) → i < n → f i ≡ Some (g i)) → present (listed f n) ≡ listed g n
present-all f g zero h = refl
present-all f g (suc n) h = present-append (listed f n) (f n ∷ []) ∙ (λ j. present-all f g n (λ i lt. h i (omega arith)) j ++ present (h n (omega arith) j ∷ []))
