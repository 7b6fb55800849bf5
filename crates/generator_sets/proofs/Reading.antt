-- What a count of pieces says of their members.
use Rattle.std.proofs.Common.{◌≡◌, ◌↔◌, ℕ, suc, ◌+◌, ◌<◌, ◌≤◌, inl, inr, arith, refl, ap, ◌∙◌, List, [], ◌∷◌}
use Rattle.std.specs.Prelude.{ℤ, Bool, true, false, ◌&&◌, cond, slice_index_or, count_by}
use Rattle.std.specs.List.{All, Any, AllPairs}
use Rattle.std.proofs.lemmas.Bool.{cases_Bool}
use Rattle.std.proofs.lemmas.List.Elements.{All-nil, All-cons}
use Rattle.std.proofs.lemmas.List.Kept.{AllPairs-cons}
use Rattle.sac_base.specs.declared.grid.Grid1.{Grid1}
use Rattle.sac_base.specs.Grids.{has_vector, times_vector, SplitsVectors, AreDisjoint}
use Rattle.grid_sets.proofs.Keeping.{count_cons}

counted_cons : {P : Type 0} (q : P → Bool) (p : P) (xs : List P) (t : Bool) → q p ≡ t → count_by q (p ∷ xs) ≡ cond t 1 0 + count_by q xs
counted_cons q p xs t e = count_cons q p xs ∙ ap (λ t. cond t 1 0 + count_by q xs) e

none_of : {P : Type 0} (q : P → Bool) (xs : List P) → count_by q xs ≡ 0 → All (λ p. q p ≡ false) xs
none_of q [] e = All-nil _
none_of q (p ∷ xs) e = elim (cases_Bool (q p)) [
  | inl on ↦ let c = counted_cons q p xs true on in absurd (omega (arith, c, e))
  | inr off ↦ let c = counted_cons q p xs false off in All-cons (λ p. q p ≡ false) p xs off (none_of q xs (omega (arith, c, e)))
]

later : {P : Type 0} (Q : P → Type 0) (p : P) (xs : List P) → Any Q xs → Any Q (p ∷ xs)
later Q p xs (k, x, low, is, holds) = (suc k, x, omega arith, is, holds)

some_of : {P : Type 0} (q : P → Bool) (xs : List P) → 0 < count_by q xs → Any (λ p. q p ≡ true) xs
some_of q [] h = absurd (omega arith)
some_of q (p ∷ xs) h = elim (cases_Bool (q p)) [
  | inl on ↦ (0, p, omega arith, refl, on)
  | inr off ↦ let c = counted_cons q p xs false off in later (λ p. q p ≡ true) p xs (some_of q xs (omega (arith, c, h)))
]

true_false : {A : Type 0} (t : Bool) → t ≡ true → t ≡ false → A
true_false t e f = absurd (cc)

any_of : {P : Type 0} (q : P → Bool) (xs : List P) → Any (λ p. q p ≡ true) xs → count_by q xs ≡ 0 → ⊥
any_of q xs (k, x, low, is, on) e = true_false (q (slice_index_or xs k x)) (ap q is ∙ on) (none_of q xs e k x low)

-- A piece has the vector where it is in the set, and only there.
pub read_members : (pieces : List (List Grid1)) (set : List ℤ → Bool) (v : List ℤ) → SplitsVectors pieces set → Any (λ p. has_vector p v ≡ true) pieces ↔ (set v ≡ true)
read_members pieces set v split = elim (cases_Bool (set v)) [
  | inl on ↦
      let one = split v ∙ ap (λ t. cond t 1 0) on in
      (λ any. on, λ e. some_of (λ p. has_vector p v) pieces (omega (arith, one)))
  | inr off ↦
      let none = split v ∙ ap (λ t. cond t 1 0) off in
      (λ any. absurd (any_of (λ p. has_vector p v) pieces any none), λ on. true_false (set v) on off)
]

both_false : (s t : Bool) → (s ≡ true → t ≡ false) → (s && t) ≡ false
both_false true t h = h refl
both_false false t h = refl

apart : (pieces : List (List Grid1)) → ((v : List ℤ) → times_vector pieces v ≤ 1) → AllPairs AreDisjoint pieces
apart [] h = λ i j d l m. absurd (omega arith)
apart (p ∷ ps) h =
    AllPairs-cons AreDisjoint p ps
    (λ k d l v. both_false (has_vector p v) _ (λ on.
    let c = counted_cons (λ p. has_vector p v) p ps true on in
    let most = h v in
    none_of (λ p. has_vector p v) ps (omega (arith, c, most)) k d l))
    (apart ps (λ v. let c = count_cons (λ p. has_vector p v) p ps in let most = h v in omega (arith, c, most)))

at_most_one : (t : Bool) → let one : ℕ = 1 in let none : ℕ = 0 in cond t one none ≤ 1
at_most_one true = omega arith
at_most_one false = omega arith

-- No two pieces share a vector.
pub read_disjoint : (pieces : List (List Grid1)) (set : List ℤ → Bool) → SplitsVectors pieces set → AllPairs AreDisjoint pieces
read_disjoint pieces set split = apart pieces (λ v. let e = split v in let most = at_most_one (set v) in omega (arith, e, most))
