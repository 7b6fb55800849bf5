-- The indices of a box by their places.
use Rattle.std.proofs.Common.{◌≡◌, ℕ, zero, suc, ◌+◌, ◌-◌, ◌*◌, ◌%◌, ◌/◌, ◌<◌, ◌≤◌, List, [], ◌∷◌, ◌++◌, length, get_or, drop, map, replicate, refl, sym, ap, ◌∙◌, subst, arith, ℤ, pos, negsuc, ◌+ℤ◌, ◌≤ℤ◌, inl, inr, length-append, All, ◌^◌, FitsSigned, w32, append_assoc, append-nil, to_z, of_z}
use lib.IntN.{nat_abs}
use Rattle.std.proofs.lemmas.List.Elements.{All-head, All-tail}
use Rattle.std.specs.Prelude.{flat_map}
use Rattle.std.proofs.lemmas.Int.{ints, to_z-of_z, to_z_pos}
use Rattle.std.proofs.lemmas.Bool.{cases_lt}
use Rattle.std.proofs.lemmas.List.{get_or_append_left, get_or-append_right, length-map, drop_more, drop_all, length-replicate}
use Rattle.std.proofs.lemmas.Nat.{mod_below, div_below}
use Rattle.std.proofs.Math.Nat.{div-eq-sub-div, mod-eq-sub-mod, mod-eq_of_lt, div-eq_of_lt, add-mul, mul-div_cancel_left}
use Rattle.sac_base.specs.Arrays.{size, MOST}
use Rattle.sac_base.specs.Shapes.{IsShape}
use Rattle.sac_base.specs.Places.{vector_at}
use Rattle.sac_base.specs.WithLoops.{Span, box, box_size, numbers_from, shape_spans}
use Rattle.array_with_loops.specs.Frames.{spans, EachFits, IsFrame, added}

abbrev block : List (List ℤ) → ℤ → List (List ℤ)
block rest v = map (λ w. v ∷ w) rest

length_blocks : (rest : List (List ℤ)) (z : ℤ) (n : ℕ) → length (flat_map (block rest) (numbers_from z n)) ≡ n * length rest
length_blocks rest z zero = omega arith
length_blocks rest z (suc n) =
    length-append (block rest z) (flat_map (block rest) (numbers_from (z +ℤ pos 1) n))
    ∙ omega (arith, length-map rest (λ (w : List ℤ). z ∷ w), length_blocks rest (z +ℤ pos 1) n)

pub length-box : (ss : List Span) → length (box ss) ≡ box_size ss
length-box [] = refl
length-box (a ∷ rest) = length_blocks (box rest) a.low a.extent ∙ ap (λ m. a.extent * m) (length-box rest)

get_or-block : (rest : List (List ℤ)) (z : ℤ) (p : ℕ) (d e : List ℤ) → p < length rest → get_or (block rest z) p d ≡ z ∷ get_or rest p e
get_or-block [] z p d e h = absurd (omega arith)
get_or-block (w ∷ rest) z zero d e h = refl
get_or-block (w ∷ rest) z (suc p) d e h = get_or-block rest z p d e (omega arith)

positive : (a m p : ℕ) → p < a * m → 0 < m
positive a zero p h = absurd (omega arith)
positive a (suc m) p h = omega arith

one_block_less : (n m p : ℕ) → p < suc n * m → m ≤ p → p - m < n * m
one_block_less n m p h le = let e : suc n * m ≡ n * m + m = omega (arith, add-mul n 1 m) in omega arith

at_block : (rest : List (List ℤ)) (z : ℤ) (n p : ℕ) (d e : List ℤ) → p < n * length rest → get_or (flat_map (block rest) (numbers_from z n)) p d ≡ (z +ℤ pos (p / length rest)) ∷ get_or rest (p % length rest) e
at_block rest z zero p d e h = absurd (omega arith)
at_block rest z (suc n) p d e h =
    elim (cases_lt p (length rest)) [
      | inl lt ↦
          let q : p / length rest ≡ 0 = div-eq_of_lt lt in
          let r : p % length rest ≡ p = mod-eq_of_lt lt in
          let nought : z ≡ z +ℤ pos 0 = omega (arith, ints) in
          let zz : z ≡ z +ℤ pos (p / length rest) = nought ∙ ap (λ x. z +ℤ pos x) (sym q) in
          get_or_append_left (block rest z) (flat_map (block rest) (numbers_from (z +ℤ pos 1) n)) d p (omega (arith, length-map rest (λ (w : List ℤ). z ∷ w)))
          ∙ get_or-block rest z p d e lt
          ∙ ap (λ x. x ∷ get_or rest p e) zz ∙ ap (λ x. (z +ℤ pos (p / length rest)) ∷ get_or rest x e) (sym r)
      | inr le ↦
          let m = length rest in
          let k = p - m in
          let some : 0 < m = positive (suc n) m p h in
          let q : p / m ≡ suc (k / m) = div-eq-sub-div {m = m} {n = p} some le ∙ omega arith in
          let r : k % m ≡ p % m = sym (mod-eq-sub-mod {n = p} {m = m} le) in
          let shifted : (z +ℤ pos 1) +ℤ pos (k / m) ≡ z +ℤ pos (suc (k / m)) = omega (arith, ints) in
          let zz : (z +ℤ pos 1) +ℤ pos (k / m) ≡ z +ℤ pos (p / m) = shifted ∙ ap (λ x. z +ℤ pos x) (sym q) in
          get_or-append_right (block rest z) (flat_map (block rest) (numbers_from (z +ℤ pos 1) n)) m p d (length-map rest (λ (w : List ℤ). z ∷ w)) le
          ∙ at_block rest (z +ℤ pos 1) n k d e (one_block_less n m p h le)
          ∙ ap (λ x. x ∷ get_or rest (k % m) e) zz ∙ ap (λ x. (z +ℤ pos (p / m)) ∷ get_or rest x e) r
    ]

abbrev pub vector_in : List Span → ℕ → List ℤ
vector_in [] p = []
vector_in (a ∷ rest) p = (a.low +ℤ pos (p / box_size rest)) ∷ vector_in rest (p % box_size rest)

pub box_at : (ss : List Span) (p : ℕ) (d : List ℤ) → p < box_size ss → get_or (box ss) p d ≡ vector_in ss p
box_at [] zero d h = refl
box_at [] (suc p) d h = absurd (omega arith)
box_at (a ∷ rest) p d h =
    let m = length-box rest in
    let inside : p < a.extent * length (box rest) = subst (λ x. p < a.extent * x) (sym m) h in
    let some : 0 < box_size rest = positive a.extent (box_size rest) p h in
    at_block (box rest) a.low a.extent p d [] inside
    ∙ ap (λ x. (a.low +ℤ pos (p / x)) ∷ get_or (box rest) (p % x) []) m
    ∙ ap (λ xs. (a.low +ℤ pos (p / box_size rest)) ∷ xs) (box_at rest (p % box_size rest) [] (mod_below p (box_size rest) some))

extents_of_spans : (ls : List ℤ) (ns : List ℕ) → length ls ≡ length ns → map (λ (a : Span). a.extent) (spans ls ns) ≡ ns
extents_of_spans [] [] e = refl
extents_of_spans [] (n ∷ ns) e = absurd (omega arith)
extents_of_spans (l ∷ ls) [] e = absurd (omega arith)
extents_of_spans (l ∷ ls) (n ∷ ns) e = ap (λ xs. n ∷ xs) (extents_of_spans ls ns (omega arith))

pub size_of_spans : (ls : List ℤ) (ns : List ℕ) → length ls ≡ length ns → box_size (spans ls ns) ≡ size ns
size_of_spans ls ns e = ap size (extents_of_spans ls ns e)

pub vector_of_spans : (ls : List ℤ) (ns : List ℕ) (p : ℕ) → length ls ≡ length ns → vector_in (spans ls ns) p ≡ added ls (vector_at ns p)
vector_of_spans [] [] p e = refl
vector_of_spans [] (n ∷ ns) p e = absurd (omega arith)
vector_of_spans (l ∷ ls) [] p e = absurd (omega arith)
vector_of_spans (l ∷ ls) (n ∷ ns) p e =
    let s = size_of_spans ls ns (omega arith) in
    ap (λ m. (l +ℤ pos (p / m)) ∷ vector_in (spans ls ns) (p % m)) s
    ∙ ap (λ xs. (l +ℤ pos (p / size ns)) ∷ xs) (vector_of_spans ls ns (p % size ns) (omega arith))

pub zero_spans : (ns : List ℕ) → spans (replicate (length ns) (pos 0)) ns ≡ shape_spans ns
zero_spans [] = refl
zero_spans (n ∷ ns) = ap (λ xs. record { low = pos 0; extent = n } ∷ xs) (zero_spans ns)

pub zeros_fit : (ns : List ℕ) → All (λ n. n < 2 ^ 31) ns → EachFits (replicate (length ns) (pos 0)) ns
zeros_fit [] h = tt
zeros_fit (n ∷ ns) h = (let small : n < 2 ^ 31 = All-head (λ n. n < 2 ^ 31) n ns h in omega (arith, ints), zeros_fit ns (All-tail (λ n. n < 2 ^ 31) n ns h))

pub zero_frame : (ns : List ℕ) (low : List ℤ) (ext : List ℕ) (count : ℕ) → IsShape ns → size ns ≤ MOST → low ≡ replicate (length ns) (pos 0) → ext ≡ ns → count ≡ size ns → IsFrame low ext count
zero_frame ns low ext count shape small el ee ec =
    subst (λ ls. IsFrame ls ext count) (sym el) (subst (λ es. IsFrame (replicate (length ns) (pos 0)) es count) (sym ee) (record {
      ranks = length-replicate (length ns) (pos 0);
      all = sym ec;
      most = omega (arith, ec);
      fits = zeros_fit ns shape.each;
    }))

pub zero_box : (ns : List ℕ) (low : List ℤ) (ext : List ℕ) → low ≡ replicate (length ns) (pos 0) → ext ≡ ns → box (spans low ext) ≡ box (shape_spans ns)
zero_box ns low ext el ee = ap (λ ls. box (spans ls ext)) el ∙ ap (λ es. box (spans (replicate (length ns) (pos 0)) es)) ee ∙ ap box (zero_spans ns)

-- ---- one component more

each_fits_at : (ls : List ℤ) (ns : List ℕ) (k : ℕ) (d : ℤ) → EachFits ls ns → k < length ls → length ls ≡ length ns → (get_or ls k d +ℤ pos (get_or ns k 0)) ≤ℤ pos 2147483648
each_fits_at [] ns k d f h e = absurd (omega arith)
each_fits_at (l ∷ ls) [] k d f h e = absurd (omega arith)
each_fits_at (l ∷ ls) (n ∷ ns) zero d f h e = f.0
each_fits_at (l ∷ ls) (n ∷ ns) (suc k) d f h e = each_fits_at ls ns k d f.1 (omega arith) (omega arith)

fits_between : (z : ℤ) → negsuc 2147483647 ≤ℤ z → z ≤ℤ pos 2147483647 → FitsSigned w32 z
fits_between (pos n) a b = record { sfits = omega (arith, ints) }
fits_between (negsuc n) a b = record { sfits = omega (arith, ints) }

least_of : (z : ℤ) → FitsSigned w32 z → negsuc 2147483647 ≤ℤ z
least_of (pos n) f = omega (arith, ints)
least_of (negsuc n) f = let h : n < 2 ^ 31 = f.sfits in omega (arith, ints)

pub sum_fits : (ls : List ℤ) (ns : List ℕ) (k q : ℕ) (d : ℤ) → EachFits ls ns → k < length ls → length ls ≡ length ns → FitsSigned w32 (get_or ls k d) → q < get_or ns k 0 → FitsSigned w32 (get_or ls k d +ℤ pos q)
sum_fits ls ns k q d f h e s lt =
    let most = each_fits_at ls ns k d f h e in
    let least = least_of (get_or ls k d) s in
    fits_between (get_or ls k d +ℤ pos q) (omega (arith, ints)) (omega (arith, ints))

-- where a place below the size of the rest is left
pub record Left (ls : List ℤ) (ns : List ℕ) (k weight rest : ℕ) (done all : List ℤ) : Type 0 where
  pub size : weight ≡ size (drop k ns)
  pub inside : rest < weight
  pub whole : done ++ added (drop k ls) (vector_at (drop k ns) rest) ≡ all

positive_left : (a b : ℕ) → 0 < a * b → 0 < a
positive_left zero b h = absurd (omega arith)
positive_left (suc a) b h = omega arith

module _ (ls : List ℤ) (ns : List ℕ) (k weight rest : ℕ) (done all : List ℤ) (h : k < length ns) (e : length ls ≡ length ns) (left : Left ls ns k weight rest done all) where
  n : ℕ
  n = get_or ns k 0

  split : drop k ns ≡ get_or ns k 0 ∷ drop (k + 1) ns
  split = drop_more ns k 0 h

  product : weight ≡ get_or ns k 0 * size (drop (k + 1) ns)
  product = left.size ∙ ap size split

  pub extent_some : 0 < get_or ns k 0
  extent_some = positive_left (get_or ns k 0) (size (drop (k + 1) ns)) (omega (arith, left.inside, product))

  pub weight_next : weight / get_or ns k 0 ≡ size (drop (k + 1) ns)
  weight_next = ap (λ x. x / get_or ns k 0) product ∙ mul-div_cancel_left (size (drop (k + 1) ns)) extent_some

  pub weight_some : 0 < weight / get_or ns k 0
  weight_some = subst (λ x. 0 < x) (sym weight_next) (positive (get_or ns k 0) (size (drop (k + 1) ns)) rest (subst (λ x. rest < x) product left.inside))

  pub quotient_below : rest / (weight / get_or ns k 0) < get_or ns k 0
  quotient_below = div_below rest (weight / get_or ns k 0) (get_or ns k 0) weight_some (subst (λ x. rest < get_or ns k 0 * x) (sym weight_next) (subst (λ x. rest < x) product left.inside))

  pub left_next : Left ls ns (k + 1) (weight / get_or ns k 0) (rest % (weight / get_or ns k 0)) (done ++ (get_or ls k (pos 0) +ℤ pos (rest / (weight / get_or ns k 0))) ∷ []) all
  left_next = record {
    size = weight_next;
    inside = mod_below rest (weight / get_or ns k 0) weight_some;
    whole = append_assoc done ((get_or ls k (pos 0) +ℤ pos (rest / (weight / get_or ns k 0))) ∷ []) (added (drop (k + 1) ls) (vector_at (drop (k + 1) ns) (rest % (weight / get_or ns k 0))))
        ∙ ap (λ m. done ++ (get_or ls k (pos 0) +ℤ pos (rest / m)) ∷ added (drop (k + 1) ls) (vector_at (drop (k + 1) ns) (rest % m))) weight_next
        ∙ ap (λ xs. done ++ xs) (sym (ap (λ xs. added xs (vector_at (drop k ns) rest)) (drop_more ls k (pos 0) (omega arith)) ∙ ap (λ xs. added (get_or ls k (pos 0) ∷ drop (k + 1) ls) (vector_at xs rest)) split))
        ∙ left.whole;
  }

pub left_first : (ls : List ℤ) (ns : List ℕ) (p count : ℕ) → size ns ≡ count → p < count → Left ls ns 0 count p [] (added ls (vector_at ns p))
left_first ls ns p count e h = record { size = sym e; inside = h; whole = refl }

pub left_last : (ls : List ℤ) (ns : List ℕ) (k weight rest : ℕ) (done all : List ℤ) → length ls ≤ k → Left ls ns k weight rest done all → done ≡ all
left_last ls ns k weight rest done all h left = sym (append-nil done) ∙ ap (λ xs. done ++ xs) (sym (ap (λ xs. added xs (vector_at (drop k ns) rest)) (drop_all k ls h) ∙ none (vector_at (drop k ns) rest))) ∙ left.whole
  where
    none : (zs : List ℤ) → added [] zs ≡ []
    none [] = refl
    none (z ∷ zs) = refl

-- ---- as the code has them

get_or-pos : (ns : List ℕ) (k : ℕ) → k < length ns → get_or (map pos ns) k (pos 0) ≡ pos (get_or ns k 0)
get_or-pos [] k h = absurd (omega arith)
get_or-pos (n ∷ ns) zero h = refl
get_or-pos (n ∷ ns) (suc k) h = get_or-pos ns k (omega arith)

pub extent_small : (ns : List ℕ) (k : ℕ) → All (λ n. n < 2 ^ 31) ns → k < length ns → get_or ns k 0 < 2 ^ 31
extent_small ns k each h = each k 0 h

pub extent_read : (ns : List ℕ) (items : List ℤ) (k a : ℕ) → items ≡ map pos ns → All (λ n. n < 2 ^ 31) ns → k < length ns → a ≡ nat_abs (to_z w32 (of_z w32 (get_or items k (pos 0)))) → a ≡ get_or ns k 0
extent_read ns items k a e each h read =
    let small = extent_small ns k each h in
    read ∙ ap (λ zs. nat_abs (to_z w32 (of_z w32 (get_or zs k (pos 0))))) e ∙ ap (λ z. nat_abs (to_z w32 (of_z w32 z))) (get_or-pos ns k h)
    ∙ ap nat_abs (to_z-of_z w32 (pos (get_or ns k 0)) (record { sfits = small }))

pub sum_kept : (i l : ℤ) (q : ℕ) → FitsSigned w32 i → i ≡ l → q < 2 ^ 31 → FitsSigned w32 (l +ℤ pos q)
    → (to_z w32 (of_z w32 i) +ℤ to_z w32 q ≡ l +ℤ pos q) × (to_z w32 (of_z w32 (to_z w32 (of_z w32 i) +ℤ to_z w32 q)) ≡ l +ℤ pos q)
sum_kept i l q f e h g =
    let inner : to_z w32 (of_z w32 i) +ℤ to_z w32 q ≡ l +ℤ pos q = ap (λ z. z +ℤ to_z w32 q) (to_z-of_z w32 i f ∙ e) ∙ ap (λ z. l +ℤ z) (to_z_pos w32 q h) in
    (inner, ap (λ z. to_z w32 (of_z w32 z)) inner ∙ to_z-of_z w32 (l +ℤ pos q) g)

pub at_place : (ls : List ℤ) (ns : List ℕ) (p : ℕ) (d : List ℤ) → length ls ≡ length ns → p < size ns → added ls (vector_at ns p) ≡ get_or (box (spans ls ns)) p d
at_place ls ns p d e h = sym (vector_of_spans ls ns p e) ∙ sym (box_at (spans ls ns) p d (subst (λ x. p < x) (sym (size_of_spans ls ns e)) h))
