-- Products of extents, and places in row-major order.
use Rattle.std.proofs.Common.{◌≡◌, ℕ, zero, suc, ◌+◌, ◌*◌, ◌/◌, ◌%◌, ◌-◌, ◌<◌, ◌≤◌, ◌^◌, min, ap, ◌∙◌, sym, subst, refl, List, [], ◌∷◌, ◌++◌, length, get_or, set, take, drop, map, ℤ, pos, negsuc, Option, Some, None, Bool, true, false, ltb, arith, mul_comm, mul_assoc, inl, inr, ◌⊎◌, if◌then◌else◌, lt-ltb}
use Rattle.std.proofs.Math.Nat.{mod-eq_of_lt, mul-le-mul_left, mul-le-mul_right, le-mul_of_pos_right, div-div-eq-div-mul}
use Rattle.std.proofs.Math.Arith.{mod-mul}
use Rattle.std.proofs.lemmas.Nat.{div-mul-add, mod-mul-add, mod_below, div_below, div-add-mod'}
use Rattle.std.proofs.lemmas.List.{drop_more, take_more, map_more, drop-set, append_assoc, take_rest, drop-map, drop_all}
use Rattle.std.proofs.lemmas.Bool.{cases_lt, false≢true}
use Rattle.std.proofs.lemmas.Bool.Decides.{Decides-ltb, nat_tests}
use lib.IntN.{nat_abs}
use Rattle.sac_base.specs.Arrays.{size, MOST}
use Rattle.sac_base.specs.Parts.{Part, part_at, further}
use Rattle.sac_base.specs.Places.{place_of, start_of, vector_at, is_below}
use Rattle.sac_base.proofs.Extents.{abs_pos}

pub size-append : (ms ns : List ℕ) → size (ms ++ ns) ≡ size ms * size ns
size-append [] ns = omega arith
size-append (m ∷ ms) ns = ap (λ k. m * k) (size-append ms ns) ∙ sym (mul_assoc m (size ms) (size ns))

pub size-push : (ns : List ℕ) (n : ℕ) → size (ns ++ n ∷ []) ≡ size ns * n
size-push ns n = size-append ns (n ∷ []) ∙ ap (λ k. size ns * k) (omega arith)

-- a product that is capped at each step is the product capped at the end
pub capped_step : (c a n : ℕ) → min (min c a * n) c ≡ min c (a * n)
capped_step c a zero = omega arith
capped_step c a (suc n) =
    let more = le-mul_of_pos_right {m = suc n} in
    elim (cases_lt c a) [
      | inl lt ↦ let e : min c a ≡ c = omega arith in rw e (omega (arith, more c (omega arith), more a (omega arith)))
      | inr le ↦ let e : min c a ≡ a = omega arith in rw e (omega arith)
    ]

pub size_take : (ns : List ℕ) (i d : ℕ) → i < length ns → size (take (i + 1) ns) ≡ size (take i ns) * get_or ns i d
size_take ns i d h = ap size (take_more ns i d h) ∙ size-push (take i ns) (get_or ns i d)

none_here : (b : Bool) (i : ℕ) (ns : List ℕ) (o : Option Part) → o ≡ None → (if b then further i ns o else None) ≡ None
none_here true i ns o e = ap (further i ns) e
none_here false i ns o e = refl

pub size_read : (xs : List ℤ) (i : ℕ) → i < length xs → size (map nat_abs (take (i + 1) xs)) ≡ size (map nat_abs (take i xs)) * nat_abs (get_or xs i (pos 0))
size_read xs i h = ap size (map_more nat_abs xs i (pos 0) h) ∙ size-push (map nat_abs (take i xs)) (nat_abs (get_or xs i (pos 0)))

-- a vector that is longer than the shape
pub too_long : (ns : List ℕ) (is : List ℤ) → length ns < length is → part_at ns is ≡ None
too_long ns [] h = absurd (omega arith)
too_long [] (i ∷ is) h = refl
too_long (n ∷ ns) (negsuc i ∷ is) h = refl
too_long (n ∷ ns) (pos i ∷ is) h = none_here (ltb i n) i ns (part_at ns is) (too_long ns is (omega arith))

-- a component that is no index makes the vector none
pub none_at : (ns : List ℕ) (is : List ℤ) (k : ℕ) → k ≤ length ns → k ≤ length is → part_at (drop k ns) (drop k is) ≡ None → part_at ns is ≡ None
none_at ns is zero a b h = h
none_at [] is (suc k) a b h = absurd (omega arith)
none_at (n ∷ ns) [] (suc k) a b h = absurd (omega arith)
none_at (n ∷ ns) (negsuc i ∷ is) (suc k) a b h = refl
none_at (n ∷ ns) (pos i ∷ is) (suc k) a b h =
    none_here (ltb i n) i ns (part_at ns is) (none_at ns is k (omega arith) (omega arith) h)

pub none_from : (ns : List ℕ) (is : List ℤ) (j n : ℕ) (z : ℤ) → j < length ns → j < length is → get_or ns j 0 ≡ n → get_or is j (pos 0) ≡ z
    → part_at (n ∷ drop (j + 1) ns) (z ∷ drop (j + 1) is) ≡ None → part_at ns is ≡ None
none_from ns is j n z a b en ez h =
    let as' = drop_more ns j 0 a ∙ ap (λ x. x ∷ drop (j + 1) ns) en in
    let bs = drop_more is j (pos 0) b ∙ ap (λ x. x ∷ drop (j + 1) is) ez in
    none_at ns is j (omega arith) (omega arith) (ap (λ xs. part_at xs (drop j is)) as' ∙ ap (part_at (n ∷ drop (j + 1) ns)) bs ∙ h)

part_here : (n i : ℕ) (ms : List ℕ) (is : List ℤ) (stride start : ℕ) (rest : List ℕ) → i < n
    → (stride ≡ size ms) × (part_at ms is ≡ Some (record { start = start; shape = rest }))
    → part_at (n ∷ ms) (pos i ∷ is) ≡ Some (record { start = start + i * stride; shape = rest })
part_here n i ms is stride start rest lt h =
    let e : start + i * stride ≡ i * size ms + start = omega (arith, ap (λ x. i * x) h.0) in
    ap (λ b. if b then further i ms (part_at ms is) else None) (lt-ltb i n lt) ∙ ap (further i ms) h.1
    ∙ ap (λ x. Some (record { start = x; shape = rest })) (sym e)

mul-le-mul : (a b c d : ℕ) → a ≤ b → c ≤ d → a * c ≤ b * d
mul-le-mul a b c d h g = omega (arith, mul-le-mul_right {m = a} {n = b} c h, mul-le-mul_left {m = c} {n = d} b g)

-- one component more, from the right to the left
pub place_step : (ns : List ℕ) (is : List ℤ) (k j stride start i n : ℕ) (rest : List ℕ) → k ≡ j + 1 → j < length ns → j < length is
    → get_or ns j 0 ≡ n → get_or is j (pos 0) ≡ pos i → i < n
    → (size (drop k ns) ≤ MOST → (stride ≡ size (drop k ns)) × (part_at (drop k ns) (drop k is) ≡ Some (record { start = start; shape = rest })))
    → size (drop j ns) ≤ MOST → (min (stride * n) (MOST + 1) ≡ size (drop j ns)) × (part_at (drop j ns) (drop j is) ≡ Some (record { start = start + i * stride; shape = rest }))
place_step ns is k j stride start i n rest ek a b en ei lt h small =
    let ms = drop (j + 1) ns in
    let whole : drop j ns ≡ n ∷ ms = drop_more ns j 0 a ∙ ap (λ x. x ∷ ms) en in
    let bs : drop j is ≡ pos i ∷ drop (j + 1) is = drop_more is j (pos 0) b ∙ ap (λ x. x ∷ drop (j + 1) is) ei in
    let here : n * size ms ≤ MOST = subst (λ xs. size xs ≤ MOST) whole small in
    let P : ℕ → Type 0 = λ q. size (drop q ns) ≤ MOST → (stride ≡ size (drop q ns)) × (part_at (drop q ns) (drop q is) ≡ Some (record { start = start; shape = rest })) in
    let inner = subst P ek h (omega (arith, le-mul_of_pos_right {m = n} (size ms) (omega arith), mul_comm n (size ms))) in
    let swapped : stride * n ≡ n * size ms = mul_comm stride n ∙ ap (λ x. n * x) inner.0 in
    let capped : min (stride * n) (MOST + 1) ≡ n * size ms = omega arith in (
      capped ∙ sym (ap size whole),
      ap (λ xs. part_at xs (drop j is)) whole ∙ ap (part_at (n ∷ ms)) bs ∙ part_here n i ms (drop (j + 1) is) stride start rest lt inner,
    )

div_one : (p : ℕ) → p / 1 ≡ p
div_one p = omega arith

positive_left : (a b : ℕ) → 0 < a * b → 0 < b
positive_left a zero h = absurd (omega arith)
positive_left a (suc b) h = omega arith

positive_right : (m s n p : ℕ) → p < m * s * n → 0 < s * n
positive_right m s n p h = positive_left m (s * n) (omega (arith, mul_assoc m s n))

-- the last component of an index vector
pub vector_at-push : (ns : List ℕ) (n p : ℕ) → p < size ns * n → vector_at (ns ++ n ∷ []) p ≡ vector_at ns (p / n) ++ pos (p % n) ∷ []
vector_at-push [] n p h = ap (λ x. pos x ∷ []) (div_one p ∙ sym (mod-eq_of_lt (omega arith)))
vector_at-push (m ∷ ms) n p h =
    let S = size ms in
    let positive : 0 < S * n = positive_right m S n p h in
    let N = positive_left S n positive in
    let size_is : size (ms ++ n ∷ []) ≡ n * S = size-push ms n ∙ mul_comm S n in
    let low : p % n < n = mod_below p n N in
    let digits : p % (S * n) ≡ (p / n % S) * n + p % n = mod-mul p (positive_left n S (subst (λ x. 0 < x) (mul_comm S n) positive)) N in
    let head : p / size (ms ++ n ∷ []) ≡ p / n / S = ap (λ x. p / x) size_is ∙ sym (div-div-eq-div-mul p n S) in
    let q = p % (S * n) in
    let front : q / n ≡ p / n % S = ap (λ x. x / n) digits ∙ div-mul-add (p / n % S) n (p % n) low in
    let back : q % n ≡ p % n = ap (λ x. x % n) digits ∙ mod-mul-add (p / n % S) n (p % n) low in
    let tail : vector_at (ms ++ n ∷ []) (p % size (ms ++ n ∷ [])) ≡ vector_at ms (p / n % S) ++ pos (p % n) ∷ [] =
    ap (λ x. vector_at (ms ++ n ∷ []) (p % x)) (size-push ms n) ∙ vector_at-push ms n q (mod_below p (S * n) positive)
    ∙ ap (λ x. vector_at ms x ++ pos (q % n) ∷ []) front ∙ ap (λ x. vector_at ms (p / n % S) ++ pos x ∷ []) back in
    ap (λ x. pos x ∷ vector_at (ms ++ n ∷ []) (p % size (ms ++ n ∷ []))) head ∙ ap (λ xs. pos (p / n / S) ∷ xs) tail

-- the place of the index vector of a place
pub part_at-vector_at : (ns : List ℕ) (p : ℕ) → p < size ns → part_at ns (vector_at ns p) ≡ Some (record { start = p; shape = [] })
part_at-vector_at [] p h = ap (λ x. Some (record { start = x; shape = [] })) (omega arith)
part_at-vector_at (n ∷ ns) p h =
    let S = size ns in
    let positive : 0 < S = positive_left n S (omega arith) in
    let inner = part_at-vector_at ns (p % S) (mod_below p S positive) in
    let sum : p / S * S + p % S ≡ p = div-add-mod' p S in
    ap (λ b. if b then further (p / S) ns (part_at ns (vector_at ns (p % S))) else None) (lt-ltb (p / S) n (div_below p S n positive h))
    ∙ ap (further (p / S) ns) inner ∙ ap (λ x. Some (record { start = x; shape = [] })) sum

taken : (ns : List ℕ) (k j n : ℕ) → k ≡ j + 1 → j < length ns → get_or ns j 0 ≡ n → take k ns ≡ take j ns ++ n ∷ []
taken ns k j n ek a en = ap (λ x. take x ns) ek ∙ take_more ns j 0 a ∙ ap (λ x. take j ns ++ x ∷ []) en

pub some_extent : (ns : List ℕ) (k j n rest : ℕ) → k ≡ j + 1 → j < length ns → get_or ns j 0 ≡ n → rest < size (take k ns) → 0 < n
some_extent ns k j n rest ek a en h =
    positive_left (size (take j ns)) n (omega (arith, ap size (taken ns k j n ek a en) ∙ size-push (take j ns) n))

-- one component more, from the right to the left
pub vector_step : (ns : List ℕ) (into whole : List ℤ) (k j n rest : ℕ) → k ≡ j + 1 → j < length ns → length into ≡ length ns → get_or ns j 0 ≡ n
    → rest < size (take k ns) → vector_at (take k ns) rest ++ drop k into ≡ whole
    → (rest / n < size (take j ns)) × (vector_at (take j ns) (rest / n) ++ drop j (set into j (pos (rest % n))) ≡ whole)
vector_step ns into whole k j n rest ek a l en h e =
    let front = taken ns k j n ek a en in
    let below : rest < size (take j ns) * n = omega (arith, ap size front ∙ size-push (take j ns) n) in
    let positive = some_extent ns k j n rest ek a en h in
    let split : vector_at (take k ns) rest ≡ vector_at (take j ns) (rest / n) ++ pos (rest % n) ∷ [] =
    ap (λ x. vector_at x rest) front ∙ vector_at-push (take j ns) n rest below in
    let written : drop j (set into j (pos (rest % n))) ≡ pos (rest % n) ∷ drop k into =
    drop-set into j (pos (rest % n)) (omega arith) ∙ ap (λ x. pos (rest % n) ∷ drop x into) (sym ek) in (
      div_below rest n (size (take j ns)) positive below,
      ap (λ x. vector_at (take j ns) (rest / n) ++ x) written ∙ sym (append_assoc (vector_at (take j ns) (rest / n)) (pos (rest % n) ∷ []) (drop k into))
          ∙ ap (λ x. x ++ drop k into) (sym split) ∙ e,
    )

pub first_stride : (ns : List ℕ) (zs is : List ℤ) (stride : ℕ) → zs ≡ map pos ns
    → stride ≡ min (MOST + 1) (size (map nat_abs (take (length zs - length is) (drop (length is) zs))))
    → (length is ≤ length is) × (stride ≤ MOST + 1) × (0 ≤ (length is - length is) * 2 ^ 56)
    × (size (drop (length is) ns) ≤ MOST → (stride ≡ size (drop (length is) ns)) × (part_at (drop (length is) ns) (drop (length is) is) ≡ Some (record { start = 0; shape = drop (length is) ns })))
first_stride ns zs is stride e h =
    let k = length is in
    let rest : map nat_abs (take (length zs - k) (drop k zs)) ≡ drop k ns =
    ap (map nat_abs) (take_rest zs k ∙ ap (drop k) e ∙ drop-map (λ x. pos x) k ns) ∙ abs_pos (drop k ns) in
    let capped : stride ≡ min (MOST + 1) (size (drop k ns)) = h ∙ ap (λ xs. min (MOST + 1) (size xs)) rest in
    (omega arith, omega arith, omega arith, λ small. (omega arith, ap (part_at (drop k ns)) (drop_all k is (omega arith))))

-- a component that is no index of its extent
pub not_below : (ns : List ℕ) (is : List ℤ) (j n : ℕ) (z : ℤ) → j < length ns → j < length is → get_or ns j 0 ≡ n → get_or is j (pos 0) ≡ z → is_below z n ≡ false → part_at ns is ≡ None
not_below ns is j n (negsuc i) a b en ez h = none_from ns is j n (negsuc i) a b en ez refl
not_below ns is j n (pos i) a b en ez h =
    none_from ns is j n (pos i) a b en ez (ap (λ t. if t then further i (drop (j + 1) ns) (part_at (drop (j + 1) ns) (drop (j + 1) is)) else None) h)

-- a component that is an index of its extent
component : (z : ℤ) (n : ℕ) → is_below z n ≡ true → (z ≡ pos (nat_abs z)) × (nat_abs z < n)
component (pos i) n h = (refl, (Decides-ltb i n).0 h)
component (negsuc i) n h = absurd (false≢true h)

-- the turn of the loop that adds up the place
pub place_turn : (ns : List ℕ) (is : List ℤ) (k j stride start i n : ℕ) (z : ℤ) → k ≡ j + 1 → k ≤ length is → j < length ns → get_or ns j 0 ≡ n → n < 2 ^ 31 → get_or is j (pos 0) ≡ z → i ≡ nat_abs z → is_below z n ≡ true
    → (k ≤ length is) × (stride ≤ MOST + 1) × (start ≤ (length is - k) * 2 ^ 56)
    × (size (drop k ns) ≤ MOST → (stride ≡ size (drop k ns)) × (part_at (drop k ns) (drop k is) ≡ Some (record { start = start; shape = drop (length is) ns })))
    → (j ≤ length is) × (min (stride * n) (MOST + 1) ≤ MOST + 1) × (start + i * stride ≤ (length is - j) * 2 ^ 56)
    × (size (drop j ns) ≤ MOST → (min (stride * n) (MOST + 1) ≡ size (drop j ns)) × (part_at (drop j ns) (drop j is) ≡ Some (record { start = start + i * stride; shape = drop (length is) ns })))
place_turn ns is k j stride start i n z ek l a en small ez ei t h =
    let at = component z n t in
    let below : i < n = omega (arith, at.1) in
    let term : i * stride ≤ 2 ^ 31 * (MOST + 1) = omega (arith, mul-le-mul i (2 ^ 31) stride (MOST + 1) (omega arith) h.1) in
    let read : get_or is j (pos 0) ≡ pos i = ez ∙ at.0 ∙ ap (λ x. pos x) (sym ei) in (
      omega arith,
      omega arith,
      omega arith,
      place_step ns is k j stride start i n (drop (length is) ns) ek a (omega arith) en read below h.3,
    )

not_ltb : (m n : ℕ) → n ≤ m → ltb m n ≡ false
not_ltb m n h = grind (arith, nat_tests)

abbrev or_nothing : ℕ → Option ℕ → ℕ
or_nothing d None = d
or_nothing d (Some x) = x

no_place : (s : ℕ) → None ≡ Some s → ⊥
no_place s e = cc

-- there is no part at an index vector, or it lies within the array
part_or_none : (ns : List ℕ) (is : List ℤ) → (part_at ns is ≡ None)
    ⊎ ((s : ℕ) × (part_at ns is ≡ Some (record { start = s; shape = drop (length is) ns })) × (length is ≤ length ns) × (s + size (drop (length is) ns) ≤ size ns))
part_or_none ns [] = inr (0, refl, omega arith, omega arith)
part_or_none [] (i ∷ is) = inl refl
part_or_none (n ∷ ns) (negsuc i ∷ is) = inl refl
part_or_none (n ∷ ns) (pos i ∷ is) =
    elim (cases_lt i n) [
      | inl lt ↦
          elim (part_or_none ns is) [
            | inl e ↦ inl (none_here (ltb i n) i ns (part_at ns is) e)
            | inr w ↦ inr (
              i * size ns + w.0,
              ap (λ b. if b then further i ns (part_at ns is) else None) (lt-ltb i n lt) ∙ ap (further i ns) w.1,
              omega (arith, w.2),
              omega (arith, w.3, mul-le-mul_right {m = suc i} {n = n} (size ns) lt),
            )
          ]
      | inr le ↦ inl (ap (λ b. if b then further i ns (part_at ns is) else None) (not_ltb i n le))
    ]

-- where a place is given, the part begins there and lies within the array
pub part_from_place : (ns : List ℕ) (is : List ℤ) (s : ℕ) → place_of ns is ≡ Some s
    → (part_at ns is ≡ Some (record { start = s; shape = drop (length is) ns })) × (length is ≤ length ns) × (s + size (drop (length is) ns) ≤ size ns)
part_from_place ns is s h =
    elim (part_or_none ns is) [
      | inl e ↦ absurd (no_place s (sym (ap start_of e) ∙ h))
      | inr w ↦
          let same : w.0 ≡ s = ap (or_nothing 0) (sym (ap start_of w.1) ∙ h) in
          (w.1 ∙ ap (λ x. Some (record { start = x; shape = drop (length is) ns })) same, w.2, omega (arith, w.3, same))
    ]
