-- Lists of buffers and chunks, and sums over views.
use Rattle.std.proofs.Common.{◌≡◌, ℕ, zero, suc, ◌+◌, ◌*◌, ◌<◌, ◌≤◌, Bool, true, false, cond, ltb, eqb, min, List, map, [], ◌∷◌, ◌++◌, length, set, get_or, sym, refl, ap, arith, length-append}
use Rattle.std.proofs.lemmas.Bool.{le-ltb, eq-eqb}
use Rattle.std.proofs.lemmas.Bool.Decides.{nat_tests}
use mathlib.Core.Option.{some, some-injective, some-ne-none}
use lib.ListN.{get_elem?}
use Rattle.std.specs.Prelude.{All}
use Rattle.count_table.specs.Views.{times, without, total}

pub times-append : (x : ℕ) (xs ys : List ℕ) → times x (xs ++ ys) ≡ times x xs + times x ys
times-append x [] ys = omega arith
times-append x (y ∷ xs) ys = omega (arith, times-append x xs ys)

pub times-length : (x : ℕ) (xs : List ℕ) → times x xs ≤ length xs
times-length x [] = omega arith
times-length x (y ∷ xs) = elim (eqb y x) as (λ b. cond b 1 0 + times x xs ≤ suc (length xs)) [ true ↦ omega (arith, times-length x xs) | false ↦ omega (arith, times-length x xs) ]

without_at : (b : Bool) (x y : ℕ) (xs : List ℕ) → eqb y x ≡ b → 0 < cond b 1 0 + times x xs
    → (0 < times x xs → length (without x xs) + 1 ≡ length xs)
    → length (cond b xs (y ∷ without x xs)) + 1 ≡ suc (length xs)
without_at true x y xs e h ih = omega arith
without_at false x y xs e h ih = omega (arith, ih (omega arith))

pub length-without : (x : ℕ) (xs : List ℕ) → 0 < times x xs → length (without x xs) + 1 ≡ length xs
length-without x [] h = absurd (omega arith)
length-without x (y ∷ xs) h = without_at (eqb y x) x y xs refl h (length-without x xs)

times_without_at : (b : Bool) (x z y : ℕ) (xs : List ℕ) → eqb y x ≡ b → 0 < cond b 1 0 + times x xs
    → (0 < times x xs → times z (without x xs) + cond (eqb x z) 1 0 ≡ times z xs)
    → times z (cond b xs (y ∷ without x xs)) + cond (eqb x z) 1 0 ≡ cond (eqb y z) 1 0 + times z xs
times_without_at true x z y xs e h ih = grind (arith, nat_tests)
times_without_at false x z y xs e h ih = omega (arith, ih (omega arith))

pub times-without : (x z : ℕ) (xs : List ℕ) → 0 < times x xs → times z (without x xs) + cond (eqb x z) 1 0 ≡ times z xs
times-without x z [] h = absurd (omega arith)
times-without x z (y ∷ xs) h = times_without_at (eqb y x) x z y xs refl h (times-without x z xs)

pub total-set : {V : Type 0} (f : V → ℕ) (vs : List V) (k : ℕ) (v w : V) → get_elem? vs k ≡ some v → total f (set vs k w) + f v ≡ total f vs + f w
total-set f [] k v w e = absurd (some-ne-none v (sym e))
total-set f (u ∷ vs) zero v w e = let s = ap f (some-injective u v e) in omega arith
total-set f (u ∷ vs) (suc k) v w e = omega (arith, total-set f vs k v w e)

pub total-push : {V : Type 0} (f : V → ℕ) (vs : List V) (w : V) → total f (vs ++ w ∷ []) ≡ total f vs + f w
total-push f [] w = omega arith
total-push f (u ∷ vs) w = omega (arith, total-push f vs w)

-- one of the summands
pub total_at : {V : Type 0} (f : V → ℕ) (vs : List V) (k : ℕ) (v : V) → get_elem? vs k ≡ some v → f v ≤ total f vs
total_at f [] k v e = absurd (some-ne-none v (sym e))
total_at f (u ∷ vs) zero v e = let s = ap f (some-injective u v e) in omega arith
total_at f (u ∷ vs) (suc k) v e = omega (arith, total_at f vs k v e)

-- one sum against another, by their summands
pub total-le : {V : Type 0} (f g : V → ℕ) (m : ℕ) (vs : List V) → ((k : ℕ) (v : V) → get_elem? vs k ≡ some v → f v ≤ m * g v) → total f vs ≤ m * total g vs
total-le f g m [] h = omega arith
total-le f g m (u ∷ vs) h = let a : f u ≤ m * g u = h 0 u refl in let b = total-le f g m vs (λ k. h (suc k)) in omega arith

pub total-zero : {V : Type 0} (f : V → ℕ) (vs : List V) → ((k : ℕ) (v : V) → get_elem? vs k ≡ some v → f v ≡ 0) → total f vs ≡ 0
total-zero f [] h = refl
total-zero f (u ∷ vs) h = let a = h 0 u refl in let b = total-zero f vs (λ k. h (suc k)) in omega arith

pub times-without-le : (x z : ℕ) (xs : List ℕ) → times z (without x xs) ≤ times z xs
times-without-le x z [] = omega arith
times-without-le x z (y ∷ xs) =
    elim (eqb y x) as (λ b. times z (cond b xs (y ∷ without x xs)) ≤ cond (eqb y z) 1 0 + times z xs) [ true ↦ omega arith | false ↦ omega (arith, times-without-le x z xs) ]

pub get_at : (xs : List ℕ) (i x : ℕ) → get_elem? xs i ≡ some x → get_or xs i 0 ≡ x
get_at [] i x e = absurd (some-ne-none x (sym e))
get_at (y ∷ xs) zero x e = some-injective y x e
get_at (y ∷ xs) (suc i) x e = get_at xs i x e

pub once_next : (x n c : ℕ) → n < c → cond (ltb x (min (n + 1) c)) 1 0 ≡ cond (ltb x (min n c)) 1 0 + cond (eqb n x) 1 0
once_next x n c h = grind (arith, nat_tests)

pub is_one : (b : Bool) → cond {A = ℕ} b 1 0 ≤ 1
is_one true = omega arith
is_one false = omega arith

pub firsts : (xs : List (ℕ × ℕ)) (ys : List ℕ) (k : ℕ) → map (λ (p : ℕ × ℕ). p.0) (xs ++ map (λ (c : ℕ). (c, k)) ys) ≡ map (λ (p : ℕ × ℕ). p.0) xs ++ ys
firsts [] [] k = refl
firsts [] (y ∷ ys) k = ap (λ l. y ∷ l) (firsts [] ys k)
firsts (x ∷ xs) ys k = ap (λ l. x.0 ∷ l) (firsts xs ys k)

pub seconds : (ys : List ℕ) (k m : ℕ) → k < m → All (λ (p : ℕ × ℕ). p.1 < m) (map (λ (c : ℕ). (c, k)) ys)
seconds [] k m lt i d h = absurd (omega arith)
seconds (y ∷ ys) k m lt zero d h = lt
seconds (y ∷ ys) k m lt (suc i) d h = seconds ys k m lt i d (omega arith)

-- the lists of all views, one after another
abbrev pub all_of : {V : Type 0} → (V → List ℕ) → List V → List ℕ
all_of g [] = []
all_of g (v ∷ vs) = g v ++ all_of g vs

pub total-times : {V : Type 0} (g : V → List ℕ) (vs : List V) (x : ℕ) → total (λ v. times x (g v)) vs ≡ times x (all_of g vs)
total-times g [] x = refl
total-times g (v ∷ vs) x = let a = times-append x (g v) (all_of g vs) in let ih = total-times g vs x in omega arith

pub total-length : {V : Type 0} (g : V → List ℕ) (vs : List V) → total (λ v. length (g v)) vs ≡ length (all_of g vs)
total-length g [] = refl
total-length g (v ∷ vs) = let a = length-append (g v) (all_of g vs) in let ih = total-length g vs in omega arith

-- a list with each number below n once, and no other, has n elements
pub initial : (n : ℕ) (xs : List ℕ) → ((x : ℕ) → times x xs ≡ cond (ltb x n) 1 0) → length xs ≡ n
initial zero [] h = refl
initial zero (y ∷ ys) h = absurd (let e = h y in let t : eqb y y ≡ true = eq-eqb y y refl in let one : cond {A = ℕ} (eqb y y) 1 0 ≡ 1 = rw t refl in let z : cond {A = ℕ} (ltb y zero) 1 0 ≡ 0 = rw (le-ltb y 0 (omega arith)) refl in omega arith)
initial (suc n) xs h =
    let one : cond {A = ℕ} (ltb n (suc n)) 1 0 ≡ 1 = grind (arith, nat_tests) in
    let has : 0 < times n xs = (let e = h n in omega arith) in
    let l = length-without n xs has in
    let ih = initial n (without n xs) (λ x. let t = times-without n x xs has in let e = h x in let s : cond {A = ℕ} (ltb x (suc n)) 1 0 ≡ cond {A = ℕ} (ltb x n) 1 0 + cond {A = ℕ} (eqb n x) 1 0 = grind (arith, nat_tests) in omega arith) in omega arith
