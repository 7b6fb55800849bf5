-- The places of elements in row-major order, and arrays by their parts.
use Rattle.std.proofs.Common.{◌≡◌, ℕ, zero, ◌+◌, ◌*◌, ◌<◌, Bool, true, false, List, [], ◌∷◌, ◌++◌, length, map, ℤ, pos, negsuc, Option, Some, None, refl, ap, ◌∙◌, sym, subst, take, drop, get_or, ◌≤◌, ◌≤ℤ◌, ◌<ℤ◌, arith}
use Rattle.std.specs.Prelude.{nat_lt, if◌then◌else◌, IfSome, Ok}
use Rattle.std.proofs.lemmas.Bool.{lt-ltb}
use Rattle.std.proofs.lemmas.Int.{ints}
use Rattle.std.proofs.lemmas.List.{take_more, map-append, length-map, length-take-le}
use Rattle.std.proofs.Math.Seq.{take-length}
use lib.IntN.{nat_abs}
use Rattle.sac_base.specs.Arrays.{ArrayValue, size, scalar}
use Rattle.sac_base.specs.Parts.{Part, part_at, further, selected}
use Rattle.sac_base.proofs.RowMajor.{size-append}

abbrev element : ℕ → Option Part
element k = Some (record { start = k; shape = [] })

abbrev start_or : ℕ → Option Part → ℕ
start_or d None = d
start_or d (Some part) = part.start

abbrev shape_or : List ℕ → Option Part → List ℕ
shape_or d None = d
shape_or d (Some part) = part.shape

abbrev IsNothing : Option Part → Type 0
IsNothing None = Unit {0}
IsNothing (Some x) = ⊥

no_element : (k : ℕ) → None ≡ element k → ⊥
no_element k p = subst IsNothing p tt

further_start : (j size q n i k larger : ℕ) → larger ≡ size * (n * 1) → j * size + q ≡ k → j * larger + (q * n + i) ≡ k * n + i
further_start j size q n i k larger l p = ap (λ m. j * m + (q * n + i)) l ∙ spread ∙ ap (λ m. m * n + i) p
  where
    spread : j * (size * (n * 1)) + (q * n + i) ≡ (j * size + q) * n + i
    spread = omega arith

-- one axis more, the innermost
pub further_axis : (ns : List ℕ) (is : List ℤ) (k n i : ℕ) → length ns ≡ length is → part_at ns is ≡ element k → i < n → part_at (ns ++ n ∷ []) (is ++ pos i ∷ []) ≡ element (k * n + i)
further_axis [] [] k n i same here below =
    ap (λ t. if t then further i [] (part_at [] []) else None) (lt-ltb i n below)
    ∙ ap element (first k (sym (ap (start_or k) here)))
  where
    none : i * 1 + 0 ≡ zero * n + i
    none = omega arith

    first : (j : ℕ) → j ≡ zero → i * 1 + 0 ≡ j * n + i
    first j e = none ∙ ap (λ q. q * n + i) (sym e)
further_axis [] (j ∷ is) k n i same here below = absurd (omega (arith, same))
further_axis (m ∷ ns) [] k n i same here below = absurd (omega (arith, same))
further_axis (m ∷ ns) (negsuc j ∷ is) k n i same here below = absurd (no_element k here)
further_axis (m ∷ ns) (pos j ∷ is) k n i same here below = go (nat_lt j m) here (λ q inside. further_axis ns is q n i (omega (arith, same)) inside below)
  where
    start_is : (q : ℕ) → j * size ns + q ≡ k → j * size (ns ++ n ∷ []) + (q * n + i) ≡ k * n + i
    start_is q p = further_start j (size ns) q n i k (size (ns ++ n ∷ [])) (size-append ns (n ∷ [])) p

    inner : (o : Option Part) → part_at ns is ≡ o → further j ns o ≡ element k → ((q : ℕ) → part_at ns is ≡ element q → part_at (ns ++ n ∷ []) (is ++ pos i ∷ []) ≡ element (q * n + i)) → further j (ns ++ n ∷ []) (part_at (ns ++ n ∷ []) (is ++ pos i ∷ [])) ≡ element (k * n + i)
    inner None p e rest = absurd (no_element k e)
    inner (Some part) p e rest =
        ap (further j (ns ++ n ∷ [])) (rest part.start (p ∙ ap (λ s. Some (record { start = part.start; shape = s })) (ap (shape_or []) e)))
        ∙ ap element (start_is part.start (ap (start_or k) e))

    go : (t : Bool) → (if t then further j ns (part_at ns is) else None) ≡ element k → ((q : ℕ) → part_at ns is ≡ element q → part_at (ns ++ n ∷ []) (is ++ pos i ∷ []) ≡ element (q * n + i)) → (if t then further j (ns ++ n ∷ []) (part_at (ns ++ n ∷ []) (is ++ pos i ∷ [])) else None) ≡ element (k * n + i)
    go false e rest = absurd (no_element k e)
    go true e rest = inner (part_at ns is) refl e rest

between : (n i : ℤ) → pos 0 ≤ℤ i → i <ℤ n → (pos (nat_abs i) ≡ i) × (nat_abs i < nat_abs n)
between (pos n) (pos i) low high = (refl, omega (arith, ints, high))
between (negsuc n) (pos i) low high = absurd (omega (arith, ints, high))
between n (negsuc i) low high = absurd (omega (arith, ints, low))

-- the place of one component more
pub place_step : (es is : List ℤ) (k p a b : ℕ) → k < length es → k < length is → a ≡ nat_abs (get_or es k (pos 0)) → b ≡ nat_abs (get_or is k (pos 0)) → pos 0 ≤ℤ get_or is k (pos 0) → get_or is k (pos 0) <ℤ get_or es k (pos 0)
    → part_at (map nat_abs (take k es)) (take k is) ≡ element p → part_at (map nat_abs (take (k + 1) es)) (take (k + 1) is) ≡ element (p * a + b)
place_step es is k p a b ke ki na ib low high here =
    let d = between (get_or es k (pos 0)) (get_or is k (pos 0)) low high in
    let extents = ap (map nat_abs) (take_more es k (pos 0) ke) ∙ map-append nat_abs (take k es) (get_or es k (pos 0) ∷ []) in
    let index = take_more is k (pos 0) ki ∙ ap (λ z. take k is ++ z ∷ []) (sym d.0) in
    let same = length-map (take k es) nat_abs ∙ length-take-le k es (omega (arith, ke)) ∙ sym (length-take-le k is (omega (arith, ki))) in
    (λ t. part_at (extents t) (index t))
    ∙ further_axis (map nat_abs (take k es)) (take k is) p (nat_abs (get_or es k (pos 0))) (nat_abs (get_or is k (pos 0))) same here d.1
    ∙ sym (λ t. element (p * na t + ib t))

-- and of the whole index
pub place_end : (es is : List ℤ) (k p : ℕ) → length es ≡ length is → length es ≤ k → k ≤ length es → part_at (map nat_abs (take k es)) (take k is) ≡ element p → part_at (map nat_abs es) is ≡ element p
place_end es is k p same over under here =
    let all : k ≡ length es = omega (arith, over, under) in
    let extents = ap (λ j. take j es) all ∙ take-length es in
    let index = ap (λ j. take j is) (all ∙ same) ∙ take-length is in
    sym (λ t. part_at (map nat_abs (extents t)) (index t)) ∙ here

-- ---- elements

-- the part that is one element
pub chosen : (a : ArrayValue) (part : Option Part) (k : ℕ) (o : Option ℤ) → part ≡ element k → IfSome o (λ n. take 1 (drop k a.cells) ≡ n ∷ []) → IfSome o (λ n. selected a part ≡ Ok (scalar a.base n))
chosen a part k None p q = q
chosen a part k (Some n) p q = ap (selected a) p ∙ (λ i. Ok (record { base = a.base; shape = []; cells = q i }))
