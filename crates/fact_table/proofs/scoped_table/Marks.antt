-- Notes that are taken back to a mark.
use Rattle.std.proofs.Common.{◌≡◌, ℕ, zero, suc, ◌+◌, ◌-◌, ◌≤◌, List, [], ◌∷◌, length, refl, sym, ap, ◌∙◌, arith}
use Rattle.std.specs.Prelude.{drop}
use Rattle.std.proofs.lemmas.List.{length-drop}

drop_nothing : {A : Type 0} (k : ℕ) → ◌≡◌ {A = List A} (drop k []) []
drop_nothing zero = refl
drop_nothing (suc k) = refl

drop_twice : {A : Type 0} (m n : ℕ) (xs : List A) → drop m (drop n xs) ≡ drop (n + m) xs
drop_twice m zero xs = ap (λ j. drop j xs) (let e : m ≡ 0 + m = omega arith in e)
drop_twice m (suc n) [] = drop_nothing m ∙ sym (drop_nothing (suc n + m))
drop_twice m (suc n) (x ∷ xs) = drop_twice m n xs ∙ ap (λ j. drop j (x ∷ xs)) (let e : suc (n + m) ≡ suc n + m = omega arith in e)

-- what two note one after the other goes at once
pub earlier_on : {A : Type 0} (a b c : List A) → drop (length b - length a) b ≡ a → drop (length c - length b) c ≡ b → drop (length c - length a) c ≡ a
earlier_on a b c p q =
    let la = sym (length-drop (length b - length a) b) ∙ ap length p in
    let lb = sym (length-drop (length c - length b) c) ∙ ap length q in
    let sum : length c - length a ≡ (length c - length b) + (length b - length a) = omega (arith, la, lb) in
    ap (λ n. drop n c) sum ∙ sym (drop_twice (length b - length a) (length c - length b) c) ∙ ap (drop (length b - length a)) q ∙ p

pub one_earlier : {A : Type 0} (n : A) (a b c : List A) → b ≡ n ∷ a → drop (length c - length b) c ≡ b → drop (length c - length a) c ≡ a
one_earlier n a b c e q = earlier_on a b c (ap (λ l. drop (length l - length a) l) e ∙ first) q
  where
    first : drop (length (n ∷ a) - length a) (n ∷ a) ≡ a
    first = let one : suc (length a) - length a ≡ 1 = omega arith in ap (λ m. drop m (n ∷ a)) one

-- where nothing was noted nothing goes
pub none_gone : {A : Type 0} (a : List A) → drop (length a - length a) a ≡ a
none_gone a = let e : length a - length a ≡ 0 = omega arith in ap (λ n. drop n a) e

-- one note more does not change what stands behind
pub behind_more : {A : Type 0} (a : A) (xs old : List A) → length old ≤ length xs → drop (length xs - length old) xs ≡ old → drop (length (a ∷ xs) - length old) (a ∷ xs) ≡ old
behind_more a xs old le is =
    let e : suc (length xs) - length old ≡ suc (length xs - length old) = omega (arith, le) in
    ap (λ (n : ℕ). drop n (a ∷ xs)) e ∙ is
