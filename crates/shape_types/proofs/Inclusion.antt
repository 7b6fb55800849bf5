-- The order of parts as tests, and as inclusion of sets of shapes.
use Rattle.std.proofs.Common.{◌≡◌, ℕ, zero, suc, ap, ◌∙◌, sym, refl, subst, List, [], ◌∷◌, length, replicate, Bool, true, false, ◌&&◌, eqb, leb, arith, get_or, inl, inr, ◌⊎◌}
use Rattle.std.proofs.lemmas.List.{length-replicate}
use Rattle.std.proofs.lemmas.Bool.{false≢true}
use Rattle.std.proofs.lemmas.Bool.Decides.{nat_tests, Decides-eqb}
use Rattle.std.proofs.lemmas.Slice.Eq.{bytes_eq-Decides}
use Rattle.sac_base.specs.declared.types.Part.{Part}
use Rattle.sac_base.specs.declared.types.Part.TheVariants.{Known, Rank, Plus, Star}
use Rattle.sac_base.specs.Arrays.{same_shape}
use Rattle.sac_base.specs.Types.{has_shape, part_below, parts_overlap}

pub same-shape : (a b : List ℕ) → same_shape a b ≡ true → a ≡ b
same-shape a b h = (bytes_eq-Decides a b).0 h

pub same_itself : (a : List ℕ) → same_shape a a ≡ true
same_itself a = (bytes_eq-Decides a a).1 refl

no_both : (b : List ℕ) (xs ys : List ℕ) → same_shape b (0 ∷ xs) ≡ true → same_shape b (1 ∷ ys) ≡ true → ⊥
no_both b xs ys h g =
    let e : 0 ≡ 1 = ap (λ zs. get_or zs 0 0) (sym (same-shape b (0 ∷ xs) h) ∙ same-shape b (1 ∷ ys) g) in
    omega (arith, e)

eq-eqb : (m n : ℕ) → m ≡ n → eqb m n ≡ true
eq-eqb m n e = (Decides-eqb m n).1 e

eqb-eq : (m n : ℕ) → eqb m n ≡ true → m ≡ n
eqb-eq m n e = (Decides-eqb m n).0 e

pub and_left : (b c : Bool) → (b && c) ≡ true → b ≡ true
and_left true c h = refl
and_left false c h = h

pub and_right : (b c : Bool) → (b && c) ≡ true → c ≡ true
and_right true c h = h
and_right false c h = absurd (false≢true h)

pub and_both : (b c : Bool) → b ≡ true → c ≡ true → (b && c) ≡ true
and_both true c h g = g
and_both false c h g = h

-- a shape of each rank
pub of_rank : (m d : ℕ) → has_shape (Rank m) (replicate m d) ≡ true
of_rank m d = eq-eqb (length (replicate m d)) m (length-replicate m d)

nil_is : (b : List ℕ) → length b ≡ 0 → b ≡ []
nil_is [] h = refl
nil_is (n ∷ b) h = absurd (omega arith)

abbrev pub Included : Part → Part → Type 0
Included p q = (s : List ℕ) → has_shape p s ≡ true → has_shape q s ≡ true

pub included : (p q : Part) → part_below p q ≡ true → Included p q
included (Known a) q h s e = subst (λ x. has_shape q x ≡ true) (same-shape a s e) h
included (Rank m) (Known b) h s e =
    let none = eqb-eq m 0 (and_left (eqb m 0) (eqb (length b) 0) h) in
    let first = nil_is b (eqb-eq (length b) 0 (and_right (eqb m 0) (eqb (length b) 0) h)) in
    let second = nil_is s (omega (arith, eqb-eq (length s) m e)) in
    (bytes_eq-Decides b s).1 (first ∙ sym second)
included (Rank m) (Rank n) h s e = grind (arith, nat_tests)
included (Rank m) Plus h s e = grind (arith, nat_tests)
included (Rank m) Star h s e = refl
included Plus (Known b) h s e = absurd (false≢true h)
included Plus (Rank n) h s e = absurd (false≢true h)
included Plus Plus h s e = e
included Plus Star h s e = refl
included Star (Known b) h s e = absurd (false≢true h)
included Star (Rank n) h s e = absurd (false≢true h)
included Star Plus h s e = absurd (false≢true h)
included Star Star h s e = refl

pub below_from_included : (p q : Part) → Included p q → part_below p q ≡ true
below_from_included (Known a) q h = h a (same_itself a)
below_from_included (Rank zero) (Known b) h = and_both true (eqb (length b) 0) refl (eq-eqb (length b) 0 (ap length (same-shape b [] (h [] refl))))
below_from_included (Rank (suc m)) (Known b) h = absurd (no_both b (replicate m 0) (replicate m 1) (h (replicate (suc m) 0) (of_rank (suc m) 0)) (h (replicate (suc m) 1) (of_rank (suc m) 1)))
below_from_included (Rank m) (Rank n) h =
    eq-eqb m n (sym (length-replicate m 0) ∙ eqb-eq (length (replicate m 0)) n (h (replicate m 0) (of_rank m 0)))
below_from_included (Rank m) Plus h =
    subst (λ k. leb 1 k ≡ true) (length-replicate m 0) (h (replicate m 0) (of_rank m 0))
below_from_included (Rank m) Star h = refl
below_from_included Plus (Known b) h = absurd (no_both b [] [] (h (0 ∷ []) refl) (h (1 ∷ []) refl))
below_from_included Plus (Rank n) h = let one = h (0 ∷ []) refl in let two = h (0 ∷ 0 ∷ []) refl in grind (arith, nat_tests)
below_from_included Plus Plus h = refl
below_from_included Plus Star h = refl
below_from_included Star (Known b) h = absurd (no_both b [] [] (h (0 ∷ []) refl) (h (1 ∷ []) refl))
below_from_included Star (Rank n) h = let none = h [] refl in let one = h (0 ∷ []) refl in grind (arith, nat_tests)
below_from_included Star Plus h = h [] refl
below_from_included Star Star h = refl

-- some shape is one of both parts
abbrev pub Share : Part → Part → Type 0
Share p q = (s : List ℕ) × (has_shape p s ≡ true) × (has_shape q s ≡ true)

pub share : (p q : Part) → parts_overlap p q ≡ true → Share p q
share (Known a) q h = (a, same_itself a, h)
share (Rank m) (Known b) h = (b, h, same_itself b)
share (Rank m) (Rank n) h = (replicate m 0, of_rank m 0, subst (λ k. has_shape (Rank k) (replicate m 0) ≡ true) (eqb-eq m n h) (of_rank m 0))
share (Rank m) Plus h = (replicate m 0, of_rank m 0, subst (λ k. leb 1 k ≡ true) (sym (length-replicate m 0)) h)
share (Rank m) Star h = (replicate m 0, of_rank m 0, refl)
share Plus (Known b) h = (b, h, same_itself b)
share Plus (Rank n) h = (replicate n 0, subst (λ k. leb 1 k ≡ true) (sym (length-replicate n 0)) h, of_rank n 0)
share Plus Plus h = (0 ∷ [], refl, refl)
share Plus Star h = (0 ∷ [], refl, refl)
share Star (Known b) h = (b, refl, same_itself b)
share Star (Rank n) h = (replicate n 0, refl, of_rank n 0)
share Star Plus h = (0 ∷ [], refl, refl)
share Star Star h = ([], refl, refl)

pub overlap_from_share : (p q : Part) → Share p q → parts_overlap p q ≡ true
overlap_from_share (Known a) q w = subst (λ x. has_shape q x ≡ true) (sym (same-shape a w.0 w.1)) w.2
overlap_from_share (Rank m) (Known b) w = subst (λ x. has_shape (Rank m) x ≡ true) (sym (same-shape b w.0 w.2)) w.1
overlap_from_share (Rank m) (Rank n) w = eq-eqb m n (sym (eqb-eq (length w.0) m w.1) ∙ eqb-eq (length w.0) n w.2)
overlap_from_share (Rank m) Plus w = subst (λ k. leb 1 k ≡ true) (eqb-eq (length w.0) m w.1) w.2
overlap_from_share (Rank m) Star w = refl
overlap_from_share Plus (Known b) w = subst (λ x. has_shape Plus x ≡ true) (sym (same-shape b w.0 w.2)) w.1
overlap_from_share Plus (Rank n) w = subst (λ k. leb 1 k ≡ true) (eqb-eq (length w.0) n w.2) w.1
overlap_from_share Plus Plus w = refl
overlap_from_share Plus Star w = refl
overlap_from_share Star (Known b) w = refl
overlap_from_share Star (Rank n) w = refl
overlap_from_share Star Plus w = refl
overlap_from_share Star Star w = refl

-- parts that share a shape lie one in the other
pub one_below : (p q : Part) → parts_overlap p q ≡ true → (part_below p q ≡ true) ⊎ (part_below q p ≡ true)
one_below (Known a) q h = inl h
one_below (Rank m) (Known b) h = inr h
one_below (Rank m) (Rank n) h = inl h
one_below (Rank m) Plus h = inl h
one_below (Rank m) Star h = inl refl
one_below Plus (Known b) h = inr h
one_below Plus (Rank n) h = inr h
one_below Plus Plus h = inl refl
one_below Plus Star h = inl refl
one_below Star (Known b) h = inr refl
one_below Star (Rank n) h = inr refl
one_below Star Plus h = inr refl
one_below Star Star h = inl refl

-- a part has a shape
pub some_shape : (p : Part) → (s : List ℕ) × (has_shape p s ≡ true)
some_shape (Known a) = (a, same_itself a)
some_shape (Rank m) = (replicate m 0, of_rank m 0)
some_shape Plus = (0 ∷ [], refl)
some_shape Star = ([], refl)
