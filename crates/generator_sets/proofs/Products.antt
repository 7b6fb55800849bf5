-- The grids that are made of an axis and the other axes' grids.
use Rattle.std.proofs.Common.{◌≡◌, ℕ, suc, ◌+◌, ◌*◌, arith, refl, sym, ap, ◌∙◌, List, [], ◌∷◌, ◌++◌, length}
use Rattle.std.proofs.Math.Nat.{suc-mul}
use Rattle.std.specs.Prelude.{ℤ, Bool, true, false, ◌&&◌, cond, map, count_by}
use Rattle.std.specs.List.{All}
use Rattle.std.proofs.lemmas.List.{length-append}
use Rattle.std.proofs.lemmas.List.Sums.{sum_by-append}
use Rattle.std.proofs.lemmas.List.Elements.{All-nil, All-cons, All-head, All-tail, All-append}
use Rattle.sac_base.specs.declared.grid.Grid1.{Grid1}
use Rattle.sac_base.specs.Grids.{has_index, has_vector, within, times, Splits, times_vector, SplitsVectors}
use Rattle.grid_sets.proofs.Keeping.{count_cons}
use Rattle.generator_sets.specs.Pieces.{products, in_box}

-- one grid with each of the others
abbrev pub with_each : Grid1 → List (List Grid1) → List (List Grid1)
with_each first rests = map (λ rest. first ∷ rest) rests

count_append : {P : Type 0} (q : P → Bool) (xs ys : List P) → count_by q (xs ++ ys) ≡ count_by q xs + count_by q ys
count_append q xs ys = sum_by-append (λ x. cond (q x) 1 0) xs ys

one_more : (h k : Bool) (t u : ℕ) → t ≡ cond h 1 0 * u → cond (h && k) 1 0 + t ≡ cond h 1 0 * (cond k 1 0 + u)
one_more true k t u e = omega arith
one_more false k t u e = omega arith

none_times : (h : Bool) → let none : ℕ = 0 in none ≡ cond h 1 0 * none
none_times true = refl
none_times false = refl

times_with : (first : Grid1) (rests : List (List Grid1)) (x : ℤ) (xs : List ℤ) → times_vector (with_each first rests) (x ∷ xs) ≡ cond (has_index first x) 1 0 * times_vector rests xs
times_with first [] x xs = none_times (has_index first x)
times_with first (r ∷ rs) x xs =
    count_cons (λ p. has_vector p (x ∷ xs)) (first ∷ r) (with_each first rs)
    ∙ one_more (has_index first x) (has_vector r xs) _ _ (times_with first rs x xs)
    ∙ ap (λ n. cond (has_index first x) 1 0 * n) (sym (count_cons (λ p. has_vector p xs) r rs))

nothing : (n : ℕ) → let none : ℕ = 0 in none ≡ 0 * n
nothing n = omega arith

step_sum : (a b c d e : ℕ) → a ≡ b * d → c ≡ e * d → a + c ≡ (b + e) * d
step_sum a b c d e h k = omega (arith, h, k)

-- in how many of the products a vector is
pub times_products : (firsts : List Grid1) (rests : List (List Grid1)) (x : ℤ) (xs : List ℤ) → times_vector (products firsts rests) (x ∷ xs) ≡ times firsts x * times_vector rests xs
times_products [] rests x xs = nothing (times_vector rests xs)
times_products (f ∷ fs) rests x xs =
    count_append (λ p. has_vector p (x ∷ xs)) (with_each f rests) (products fs rests)
    ∙ step_sum _ (cond (has_index f x) 1 0) _ (times_vector rests xs) (times fs x) (times_with f rests x xs) (times_products fs rests x xs)
    ∙ ap (λ n. n * times_vector rests xs) (sym (count_cons (λ p. has_index p x) f fs))

nothing_with : (first : Grid1) (rests : List (List Grid1)) → times_vector (with_each first rests) [] ≡ 0
nothing_with first [] = refl
nothing_with first (r ∷ rs) = count_cons (λ p. has_vector p []) (first ∷ r) (with_each first rs) ∙ ap (λ n. 0 + n) (nothing_with first rs)

nothing_products : (firsts : List Grid1) (rests : List (List Grid1)) → times_vector (products firsts rests) [] ≡ 0
nothing_products [] rests = refl
nothing_products (f ∷ fs) rests =
    count_append (λ p. has_vector p []) (with_each f rests) (products fs rests)
    ∙ ap (λ n. n + times_vector (products fs rests) []) (nothing_with f rests) ∙ ap (λ n. 0 + n) (nothing_products fs rests)

both_counts : (s t : Bool) → let one : ℕ = 1 in let none : ℕ = 0 in cond s one none * cond t one none ≡ cond (s && t) one none
both_counts true true = refl
both_counts true false = refl
both_counts false t = sym (nothing (cond t 1 0))

-- products of pieces that split an axis and the other axes split all of them
pub products_split : (axis : Grid1) (axes firsts : List Grid1) (rests : List (List Grid1)) → Splits firsts (within axis.lo axis.hi) → SplitsVectors rests (in_box axes)
    → SplitsVectors (products firsts rests) (in_box (axis ∷ axes))
products_split axis axes firsts rests h k [] = nothing_products firsts rests
products_split axis axes firsts rests h k (x ∷ xs) =
    times_products firsts rests x xs ∙ ap (λ n. n * times_vector rests xs) (h x) ∙ ap (λ n. cond (within axis.lo axis.hi x) 1 0 * n) (k xs)
    ∙ both_counts (within axis.lo axis.hi x) (in_box axes xs)

no_number : (t : Bool) → let none : ℕ = 0 in none ≡ cond t 1 none → t ≡ false
no_number true e = absurd (omega arith)
no_number false e = refl

-- an axis without numbers
pub nothing_split : (axis : Grid1) (axes firsts : List Grid1) (rests : List (List Grid1)) → firsts ≡ [] → Splits firsts (within axis.lo axis.hi)
    → SplitsVectors (products firsts rests) (in_box (axis ∷ axes))
nothing_split axis axes firsts rests e h [] = nothing_products firsts rests
nothing_split axis axes firsts rests e h (x ∷ xs) =
    let off : within axis.lo axis.hi x ≡ false = no_number _ (sym (ap (λ l. times l x) e) ∙ h x) in
    ap (λ l. times_vector (products l rests) (x ∷ xs)) e ∙ sym (rw off)

all_with : (Q : List Grid1 → Type 0) (first : Grid1) (rests : List (List Grid1)) → All (λ r. Q (first ∷ r)) rests → All Q (with_each first rests)
all_with Q first [] h = All-nil Q
all_with Q first (r ∷ rs) h = All-cons Q (first ∷ r) (with_each first rs) (All-head (λ r. Q (first ∷ r)) r rs h) (all_with Q first rs (All-tail (λ r. Q (first ∷ r)) r rs h))

-- what holds of each made of a first and a rest
pub all_products : (Q : List Grid1 → Type 0) (firsts : List Grid1) (rests : List (List Grid1)) → All (λ f. All (λ r. Q (f ∷ r)) rests) firsts → All Q (products firsts rests)
all_products Q [] rests h = All-nil Q
all_products Q (f ∷ fs) rests h =
    All-append Q (with_each f rests) (products fs rests) (all_with Q f rests (All-head (λ f. All (λ r. Q (f ∷ r)) rests) f fs h))
    (all_products Q fs rests (All-tail (λ f. All (λ r. Q (f ∷ r)) rests) f fs h))

length_with : (first : Grid1) (rests : List (List Grid1)) → length (with_each first rests) ≡ length rests
length_with first [] = refl
length_with first (r ∷ rs) = ap suc (length_with first rs)

one_length : (m n : ℕ) → n + m * n ≡ suc m * n
one_length m n = omega (arith, suc-mul m n)

pub length_products : (firsts : List Grid1) (rests : List (List Grid1)) → length (products firsts rests) ≡ length firsts * length rests
length_products [] rests = nothing (length rests)
length_products (f ∷ fs) rests =
    length-append (with_each f rests) (products fs rests) ∙ ap (λ n. n + length (products fs rests)) (length_with f rests) ∙ ap (λ n. length rests + n) (length_products fs rests)
    ∙ one_length (length fs) (length rests)
