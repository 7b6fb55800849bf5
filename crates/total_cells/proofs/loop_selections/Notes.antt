-- Notes that go.
use Rattle.std.proofs.Common.{◌≡◌, ℕ, zero, suc, ◌+◌, ◌-◌, List, [], ◌∷◌, length, drop, refl, sym, ap, ◌∙◌, arith}
use Rattle.std.proofs.lemmas.List.{length-drop}

module _ {A : Type 0} where
  drop_nothing : (k : ℕ) → ◌≡◌ {A = List A} (drop k []) []
  drop_nothing zero = refl
  drop_nothing (suc k) = refl

  drop_twice : (m n : ℕ) (xs : List A) → drop m (drop n xs) ≡ drop (n + m) xs
  drop_twice m zero xs = ap (λ j. drop j xs) (let e : m ≡ 0 + m = omega arith in e)
  drop_twice m (suc n) [] = drop_nothing m ∙ sym (drop_nothing (suc n + m))
  drop_twice m (suc n) (x ∷ xs) = drop_twice m n xs ∙ ap (λ j. drop j (x ∷ xs)) (let e : suc (n + m) ≡ suc n + m = omega arith in e)

  -- what two note one after the other goes at once
  pub earlier_on : (a b c : List A) → drop (length b - length a) b ≡ a → drop (length c - length b) c ≡ b → drop (length c - length a) c ≡ a
  earlier_on a b c p q =
      let la = sym (length-drop (length b - length a) b) ∙ ap length p in
      let lb = sym (length-drop (length c - length b) c) ∙ ap length q in
      let sum : length c - length a ≡ (length c - length b) + (length b - length a) = omega (arith, la, lb) in
      ap (λ n. drop n c) sum ∙ sym (drop_twice (length b - length a) (length c - length b) c) ∙ ap (drop (length b - length a)) q ∙ p

  -- where nothing was noted nothing goes
  pub none_gone : (a : List A) → drop (length a - length a) a ≡ a
  none_gone a = let e : length a - length a ≡ 0 = omega arith in ap (λ n. drop n a) e

  -- one note more goes alone
  pub one_gone : (n : A) (a b : List A) → b ≡ n ∷ a → drop (length b - length a) b ≡ a
  one_gone n a b e = ap (λ l. drop (length l - length a) l) e ∙ (let one : suc (length a) - length a ≡ 1 = omega arith in ap (λ m. drop m (n ∷ a)) one)
