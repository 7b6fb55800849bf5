-- The first place of a list at which a test passes.
use Rattle.std.proofs.Common.{◌≡◌, ℕ, zero, suc, ◌+◌, ◌<◌, List, [], ◌∷◌, length, get_or, map, Bool, true, false, refl, ap, ◌∙◌, arith, Some, None, cond}
use Rattle.std.specs.Prelude.{position, nat_lt, not}
use Rattle.std.specs.List.{position_or_len}
use Rattle.std.proofs.lemmas.Bool.Decides.{nat_tests}

-- the first place at which a test passes
pub position_here : {A B : Type 0} (p : B → Bool) (f : A → B) (xs : List A) (i : ℕ) (d : A) → i < length xs → p (f (get_or xs i d)) ≡ true → ((k : ℕ) (e : A) → k < i → p (f (get_or xs k e)) ≡ false) → position_or_len p (map f xs) ≡ i
position_here p f [] i d h here before = absurd (omega arith)
position_here p f (x ∷ xs) zero d h here before = ap (λ b. cond (not b) (1 + position_or_len p (map f xs)) 0) here
position_here p f (x ∷ xs) (suc i) d h here before =
    ap (λ b. cond (not b) (1 + position_or_len p (map f xs)) 0) (before 0 x (omega arith))
    ∙ ap (λ n. 1 + n) (position_here p f xs i d (omega arith) here (λ k e lt. before (suc k) e (omega arith))) ∙ omega arith

length_map : {A B : Type 0} (f : A → B) (xs : List A) → length (map f xs) ≡ length xs
length_map f [] = refl
length_map f (x ∷ xs) = ap suc (length_map f xs)

pub position_at : {A B : Type 0} (p : B → Bool) (f : A → B) (xs : List A) (i : ℕ) (d : A) → i < length xs → p (f (get_or xs i d)) ≡ true → ((k : ℕ) (e : A) → k < i → p (f (get_or xs k e)) ≡ false) → position p (map f xs) ≡ Some i
position_at p f xs i d h here before =
    let at = position_here p f xs i d h here before in
    let inside : nat_lt i (length (map f xs)) ≡ true = let n = length_map f xs in grind (arith, nat_tests) in
    ap (λ n. cond (nat_lt n (length (map f xs))) (Some n) None) at ∙ ap (λ b. cond b (Some i) None) inside

position_past : {A B : Type 0} (p : B → Bool) (f : A → B) (xs : List A) → ((k : ℕ) (e : A) → k < length xs → p (f (get_or xs k e)) ≡ false) → position_or_len p (map f xs) ≡ length xs
position_past p f [] none = refl
position_past p f (x ∷ xs) none =
    ap (λ b. cond (not b) (1 + position_or_len p (map f xs)) 0) (none 0 x (omega arith))
    ∙ ap (λ n. 1 + n) (position_past p f xs (λ k e lt. none (suc k) e (omega arith))) ∙ omega arith

pub position_none : {A B : Type 0} (p : B → Bool) (f : A → B) (xs : List A) → ((k : ℕ) (e : A) → k < length xs → p (f (get_or xs k e)) ≡ false) → position p (map f xs) ≡ None
position_none p f xs none =
    let at = position_past p f xs none in
    let outside : nat_lt (length xs) (length (map f xs)) ≡ false = let n = length_map f xs in grind (arith, nat_tests) in
    ap (λ n. cond (nat_lt n (length (map f xs))) (Some n) None) at ∙ ap (λ b. cond b (Some (length xs)) None) outside
