use Rattle.std.proofs.Common.{◌≡◌, pos, ℕ, ◌+◌, arith, inl, inr, refl, sym, ap, ◌∙◌, List, [], ◌∷◌}
use Rattle.std.specs.Prelude.{ℤ, ◌≤ℤ◌, Bool, true, false, ◌&&◌, cond, slice_index_or}
use Rattle.std.specs.List.{count_by, All, filter}
use Rattle.std.proofs.lemmas.List.Sums.{sum_by-append}
use Rattle.std.proofs.lemmas.List.Elements.{All-head, All-tail}
use Rattle.std.proofs.lemmas.Int.{ints}
use Rattle.sac_base.specs.Grids.{has_index, within, times, Splits}
use Rattle.grid_sets.specs.Segments.{IsUniform}
use Rattle.grid_sets.proofs.Likeness.{even_at}
use Rattle.sac_base.specs.declared.grid.Grid1.{Grid1}
use Rattle.sac_base.proofs.GridFacts.{within_is, has_facts}

plain : (n : ℕ) → 0 + n ≡ n
plain n = omega arith

pub count_cons : {P : Type 0} (q : P → Bool) (p : P) (xs : List P) → count_by q (p ∷ xs) ≡ cond (q p) 1 0 + count_by q xs
count_cons q p xs = sum_by-append (λ x. cond (q x) 1 0) (p ∷ []) xs ∙ ap (λ n. n + count_by q xs) (plain (cond (q p) 1 0))

count_cond : {P : Type 0} (q : P → Bool) (t : Bool) (xs ys : List P) → count_by q (cond t xs ys) ≡ cond t (count_by q xs) (count_by q ys)
count_cond q true xs ys = refl
count_cond q false xs ys = refl

one_more : (t u k : Bool) (n m : ℕ) → (u ≡ true → t ≡ k) → m ≡ cond k n 0 → cond t (cond u 1 0 + m) m ≡ cond k (cond u 1 0 + n) 0
one_more true true true n m h e = ap (λ l. 1 + l) e
one_more true true false n m h e = let r : true ≡ false = h refl in cc
one_more true false true n m h e = ap (λ l. 0 + l) e
one_more true false false n m h e = omega arith
one_more false true true n m h e = let r : false ≡ true = h refl in cc
one_more false true false n m h e = e
one_more false false true n m h e = omega arith
one_more false false false n m h e = e

none_kept : (k : Bool) → let zero_count : ℕ = 0 in zero_count ≡ cond k 0 0
none_kept true = refl
none_kept false = refl

-- a filter that judges all pieces of one number alike keeps or drops the count
pub count_filter : {P : Type 0} (q test : P → Bool) (k : Bool) (xs : List P) → All (λ p. q p ≡ true → test p ≡ k) xs
    → count_by q (filter test xs) ≡ cond k (count_by q xs) 0
count_filter q test k [] h = none_kept k
count_filter q test k (p ∷ xs) h =
    let before = count_filter q test k xs (All-tail (λ p. q p ≡ true → test p ≡ k) p xs h) in
    count_cond q (test p) (p ∷ filter test xs) (filter test xs)
    ∙ ap (λ n. cond (test p) n (count_by q (filter test xs))) (count_cons q p (filter test xs))
    ∙ one_more (test p) (q p) k (count_by q xs) (count_by q (filter test xs)) (All-head (λ p. q p ≡ true → test p ≡ k) p xs h) before
    ∙ ap (λ n. cond k n 0) (sym (count_cons q p xs))

both_tests : (w k : Bool) → let one : ℕ = 1 in let none : ℕ = 0 in cond k (cond w one none) none ≡ cond (w && k) one none
both_tests true true = refl
both_tests true false = refl
both_tests false true = refl
both_tests false false = refl

-- whether a piece that is even for both grids has only numbers that both judge alike
judged : (f : Bool → Bool → Bool) (a b p : Grid1) (x : ℤ) → IsUniform (a ∷ b ∷ []) p → has_index p x ≡ true
    → f (has_index a p.lo) (has_index b p.lo) ≡ f (has_index a x) (has_index b x)
judged f a b p x even h =
    let e : has_index a p.lo ≡ has_index a x = even_at (a ∷ b ∷ []) p x 0 a even h (omega arith) in
    let g : has_index b p.lo ≡ has_index b x = even_at (a ∷ b ∷ []) p x 1 a even h (omega arith) in
    ap (λ t. f t (has_index b p.lo)) e ∙ ap (f (has_index a x)) g

-- a set inside the first grid, told by whether either grid has the number
abbrev pub picked : (Bool → Bool → Bool) → Grid1 → Grid1 → ℤ → Bool
picked f a b x = f (has_index a x) (has_index b x)

only_inside : (f : Bool → Bool → Bool) (a b : Grid1) (x : ℤ) → pos 1 ≤ℤ a.width → ((t : Bool) → f false t ≡ false)
    → (within a.lo a.hi x && picked f a b x) ≡ picked f a b x
only_inside f a b x wide none = elim (within_is a.lo a.hi x) [
  | inl at ↦ rw at.2
  | inr off ↦ elim (has_facts a x wide) [
    | inr out ↦ rw (off.1, out.1) (sym (none (has_index b x)))
    | inl xa ↦ absurd (elim off.0 [ inl l ↦ omega (arith, ints) | inr l ↦ omega (arith, ints) ])
  ]
]

-- of even pieces those are kept whose first number is picked
pub kept_split : (f : Bool → Bool → Bool) (a b : Grid1) (xs ys : List Grid1) → pos 1 ≤ℤ a.width → ((t : Bool) → f false t ≡ false)
    → ys ≡ filter (λ p. picked f a b p.lo) xs → Splits xs (within a.lo a.hi) → All (IsUniform (a ∷ b ∷ [])) xs → Splits ys (picked f a b)
kept_split f a b xs ys wide none e split even x =
    ap (λ l. times l x) e
    ∙ count_filter (λ p. has_index p x) (λ p. picked f a b p.lo) (picked f a b x) xs (λ k d l h. judged f a b (slice_index_or xs k d) x (even k d l) h)
    ∙ ap (λ n. cond (picked f a b x) n 0) (split x)
    ∙ both_tests (within a.lo a.hi x) (picked f a b x)
    ∙ ap (λ t. cond t 1 0) (only_inside f a b x wide none)
