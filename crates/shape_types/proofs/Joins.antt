-- The least part above two parts.
use Rattle.std.proofs.Common.{◌≡◌, ℕ, ◌∙◌, sym, refl, subst, Bool, true, false, List, if◌then◌else◌, length, eqb, leb, arith, inl, inr, ◌⊎◌}
use Rattle.std.proofs.lemmas.Bool.{false≢true}
use Rattle.std.proofs.lemmas.Bool.Decides.{nat_tests, Decides-eqb}
use Rattle.sac_base.specs.declared.types.Part.{Part}
use Rattle.sac_base.specs.declared.types.Part.TheVariants.{Known, Rank, Plus, Star}
use Rattle.sac_base.specs.Types.{has_shape, part_below}
use Rattle.shape_types.specs.Bounds.{part_join, rank_of, wider_part}
use Rattle.shape_types.proofs.Inclusion.{Included, same-shape, included, below_from_included, some_shape}

pub record IsPartJoin (p q r : Part) : Type 0 where
  pub first : part_below p r ≡ true
  pub second : part_below q r ≡ true
  pub least : (u : Part) → part_below p u ≡ true → part_below q u ≡ true → part_below r u ≡ true

pub part_itself : (p : Part) → part_below p p ≡ true
part_itself p = below_from_included p p (λ s e. e)

-- two parts that a known shape is above are the same, as sets
no_known : (p q : Part) (c : List ℕ) → part_below p q ≡ false → part_below p (Known c) ≡ true → part_below q (Known c) ≡ true → ⊥
no_known p q c h f g =
    let w = some_shape q in
    let here = same-shape c w.0 (included q (Known c) g w.0 w.1) in
    let inside : Included p q = λ s e. subst (λ x. has_shape q x ≡ true) (sym here ∙ same-shape c s (included p (Known c) f s e)) w.1 in
    false≢true (sym h ∙ below_from_included p q inside)

-- a part whose shapes have one rank
record HasRank (p : Part) (m : ℕ) : Type 0 where
  rank : (k : ℕ) → part_below p (Rank k) ≡ eqb m k
  plus : part_below p Plus ≡ leb 1 m
  star : part_below p Star ≡ true

known : (a : List ℕ) → HasRank (Known a) (length a)
known a = record { rank = λ k. refl; plus = refl; star = refl }

of_rank : (m : ℕ) → HasRank (Rank m) m
of_rank m = record { rank = λ k. refl; plus = refl; star = refl }

turned : {p q r : Part} → IsPartJoin p q r → IsPartJoin q p r
turned j = record { first = j.second; second = j.first; least = λ u x y. j.least u y x }

above_rank : (p q : Part) (m : ℕ) (u : Part) → part_below p q ≡ false → HasRank p m → part_below p u ≡ true → part_below q u ≡ true → part_below (Rank m) u ≡ true
above_rank p q m (Known c) h P x y = absurd (no_known p q c h x y)
above_rank p q m (Rank k) h P x y = sym (P.rank k) ∙ x
above_rank p q m Plus h P x y = sym P.plus ∙ x
above_rank p q m Star h P x y = refl

two_ranks : (m n k : ℕ) → eqb m n ≡ false → eqb m k ≡ true → eqb n k ≡ true → ⊥
two_ranks m n k e x y = grind (arith, nat_tests)

no_plus : (m n : ℕ) → (eqb m 0 ≡ true) ⊎ (eqb n 0 ≡ true) → leb 1 m ≡ true → leb 1 n ≡ true → ⊥
no_plus m n (inl e) x y = grind (arith, nat_tests)
no_plus m n (inr e) x y = grind (arith, nat_tests)

only_star : (p q : Part) (m n : ℕ) (u : Part) → part_below p q ≡ false → HasRank p m → HasRank q n → eqb m n ≡ false → (eqb m 0 ≡ true) ⊎ (eqb n 0 ≡ true) → part_below p u ≡ true → part_below q u ≡ true → part_below Star u ≡ true
only_star p q m n (Known c) h P Q e o x y = absurd (no_known p q c h x y)
only_star p q m n (Rank k) h P Q e o x y = absurd (two_ranks m n k e (sym (P.rank k) ∙ x) (sym (Q.rank k) ∙ y))
only_star p q m n Plus h P Q e o x y = absurd (no_plus m n o (sym P.plus ∙ x) (sym Q.plus ∙ y))
only_star p q m n Star h P Q e o x y = refl

above_plus : (p q : Part) (m n : ℕ) (u : Part) → part_below p q ≡ false → HasRank p m → HasRank q n → eqb m n ≡ false → part_below p u ≡ true → part_below q u ≡ true → part_below Plus u ≡ true
above_plus p q m n (Known c) h P Q e x y = absurd (no_known p q c h x y)
above_plus p q m n (Rank k) h P Q e x y = absurd (two_ranks m n k e (sym (P.rank k) ∙ x) (sym (Q.rank k) ∙ y))
above_plus p q m n Plus h P Q e x y = refl
above_plus p q m n Star h P Q e x y = refl

some_rank : (m : ℕ) → eqb m 0 ≡ false → leb 1 m ≡ true
some_rank m e = grind (arith, nat_tests)

with_plus_least : (p : Part) (u : Part) → part_below p Plus ≡ false → part_below p u ≡ true → part_below Plus u ≡ true → part_below Star u ≡ true
with_plus_least p (Known c) h x y = absurd (false≢true y)
with_plus_least p (Rank k) h x y = absurd (false≢true y)
with_plus_least p Plus h x y = absurd (false≢true (sym h ∙ x))
with_plus_least p Star h x y = refl

with_plus : (p : Part) (m : ℕ) (b : Bool) → part_below p Plus ≡ false → HasRank p m → eqb m 0 ≡ b → IsPartJoin p Plus (if b then Star else Plus)
with_plus p m true h P e = record { first = P.star; second = refl; least = λ u x y. with_plus_least p u h x y }
with_plus p m false h P e = absurd (false≢true (sym h ∙ P.plus ∙ some_rank m e))

ranked : (p q : Part) (m n : ℕ) (a b c : Bool) → part_below p q ≡ false → HasRank p m → HasRank q n → eqb m n ≡ a → eqb m 0 ≡ b → eqb n 0 ≡ c
    → IsPartJoin p q (if a then Rank m else (if b then Star else (if c then Star else Plus)))
ranked p q m n true b c h P Q e f g = record {
  first = P.rank m ∙ (Decides-eqb m m).1 refl;
  second = Q.rank m ∙ (Decides-eqb n m).1 (sym ((Decides-eqb m n).0 e));
  least = λ u x y. above_rank p q m u h P x y;
}
ranked p q m n false true c h P Q e f g = record {
  first = P.star;
  second = Q.star;
  least = λ u x y. only_star p q m n u h P Q e (inl f) x y;
}
ranked p q m n false false true h P Q e f g = record {
  first = P.star;
  second = Q.star;
  least = λ u x y. only_star p q m n u h P Q e (inr g) x y;
}
ranked p q m n false false false h P Q e f g = record {
  first = P.plus ∙ some_rank m f;
  second = Q.plus ∙ some_rank n g;
  least = λ u x y. above_plus p q m n u h P Q e x y;
}

apart_parts : (p q : Part) → part_below p q ≡ false → part_below q p ≡ false → IsPartJoin p q (wider_part (rank_of p) (rank_of q))
apart_parts (Known a) (Known b) h g = ranked (Known a) (Known b) (length a) (length b) _ _ _ h (known a) (known b) refl refl refl
apart_parts (Known a) (Rank n) h g = ranked (Known a) (Rank n) (length a) n _ _ _ h (known a) (of_rank n) refl refl refl
apart_parts (Known a) Plus h g = with_plus (Known a) (length a) _ h (known a) refl
apart_parts (Known a) Star h g = absurd (false≢true (sym h))
apart_parts (Rank m) (Known b) h g = ranked (Rank m) (Known b) m (length b) _ _ _ h (of_rank m) (known b) refl refl refl
apart_parts (Rank m) (Rank n) h g = ranked (Rank m) (Rank n) m n _ _ _ h (of_rank m) (of_rank n) refl refl refl
apart_parts (Rank m) Plus h g = with_plus (Rank m) m _ h (of_rank m) refl
apart_parts (Rank m) Star h g = absurd (false≢true (sym h))
apart_parts Plus (Known b) h g = turned (with_plus (Known b) (length b) _ g (known b) refl)
apart_parts Plus (Rank n) h g = turned (with_plus (Rank n) n _ g (of_rank n) refl)
apart_parts Plus Plus h g = absurd (false≢true (sym h))
apart_parts Plus Star h g = absurd (false≢true (sym h))
apart_parts Star (Known b) h g = absurd (false≢true (sym g))
apart_parts Star (Rank n) h g = absurd (false≢true (sym g))
apart_parts Star Plus h g = absurd (false≢true (sym g))
apart_parts Star Star h g = absurd (false≢true (sym h))

join_by : (p q : Part) (b c : Bool) → part_below p q ≡ b → part_below q p ≡ c → IsPartJoin p q (if b then q else (if c then p else wider_part (rank_of p) (rank_of q)))
join_by p q true c e f = record { first = e; second = part_itself q; least = λ u x y. y }
join_by p q false true e f = record { first = part_itself p; second = f; least = λ u x y. x }
join_by p q false false e f = apart_parts p q e f

pub join_of_parts : (p q : Part) → IsPartJoin p q (part_join p q)
join_of_parts p q = join_by p q (part_below p q) (part_below q p) refl refl
