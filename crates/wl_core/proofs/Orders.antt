-- Values combined part by part, or in another order.
use Rattle.std.proofs.Common.{◌≡◌, ◌≢◌, ℕ, zero, suc, ◌<◌, List, [], ◌∷◌, ◌++◌, length, map, set, get_or, refl, sym, ap, ◌∙◌, ⊎_elim, arith, Option, None, Some}
use Rattle.std.proofs.lemmas.Bool.{cases_eq}
use Rattle.std.proofs.lemmas.List.{map-append, length-set}
use Rattle.std.proofs.lemmas.List.Sums.{fold-append}
use Rattle.std.proofs.lemmas.List.Sorted.{IsPermutation-keeps}
use Rattle.std.specs.Prelude.{slice_get, fold, swap, IsPermutation}
use Rattle.sac_base.specs.Verdict.{joined, combined}
use Rattle.wl_core.specs.Machine.{put, listed, both}
use Rattle.wl_core.specs.Combining.{IsFoldable, all_combined, all_taken}
use Rattle.wl_core.proofs.Functions.{put_is, put_same, put_other, put_id, joined-append}
use Rattle.wl_core.proofs.Combining.{gathered, adds, both-assoc, both-comm}

module _ {A : Type 0} (op : A → A → A) (laws : IsFoldable op) where
  shift : (s y : A) (ys : List A) → fold op (op s y) ys ≡ op s (fold op y ys)
  shift s y [] = refl
  shift s y (z ∷ zs) = ap (λ (x : A). fold op x zs) (laws.assoc s y z) ∙ shift s (op y z) zs

  combined-append : (xs ys : List A) → combined op (xs ++ ys) ≡ both op (combined op xs) (combined op ys)
  combined-append [] ys = refl
  combined-append (x ∷ xs) [] = ap (λ (z : A). Some z) (fold-append op x xs [])
  combined-append (x ∷ xs) (y ∷ ys) = ap (λ (z : A). Some z) (fold-append op x xs (y ∷ ys) ∙ shift (fold op x xs) y ys)

  pub parts : (ps : List (List A)) → combined op (all_combined op ps) ≡ combined op (joined ps)
  parts [] = refl
  parts ([] ∷ rest) = parts rest
  parts ((x ∷ xs) ∷ rest) = combined-append (fold op x xs ∷ []) (all_combined op rest) ∙ ap (λ (o : Option A). both op (Some (fold op x xs)) o) (parts rest) ∙ sym (combined-append (x ∷ xs) (joined rest))

  module _ {X : Type 0} (val : X → Option A) where
    -- the values of the elements, combined
    abbrev over : List X → Option A
    over [] = None
    over (x ∷ xs) = both op (val x) (over xs)

    abbrev at : Option X → Option A
    at None = None
    at (Some x) = val x

    from_front : (f : ℕ → Option A) (n : ℕ) → gathered op f (suc n) ≡ both op (f 0) (gathered op (λ i. f (suc i)) n)
    from_front f zero = both-comm op laws None (f 0)
    from_front f (suc n) = ap (λ (o : Option A). both op o (f (suc n))) (from_front f n) ∙ both-assoc op laws (f 0) (gathered op (λ i. f (suc i)) n) (f (suc n))

    over_is : (l : List X) → over l ≡ gathered op (λ p. at (slice_get l p)) (length l)
    over_is [] = refl
    over_is (x ∷ xs) = ap (λ (o : Option A). both op (val x) o) (over_is xs) ∙ sym (from_front (λ p. at (slice_get (x ∷ xs) p)) (length xs))

    set_here : (l : List X) (i : ℕ) (a : X) → i < length l → slice_get (set l i a) i ≡ Some a
    set_here [] i a lt = absurd (omega arith)
    set_here (x ∷ xs) zero a lt = refl
    set_here (x ∷ xs) (suc i) a lt = set_here xs i a (omega arith)

    set_there : (l : List X) (i p : ℕ) (a : X) → p ≢ i → slice_get (set l i a) p ≡ slice_get l p
    set_there [] i p a ne = refl
    set_there (x ∷ xs) zero zero a ne = absurd (ne refl)
    set_there (x ∷ xs) zero (suc p) a ne = refl
    set_there (x ∷ xs) (suc i) zero a ne = refl
    set_there (x ∷ xs) (suc i) (suc p) a ne = set_there xs i p a (λ e. ne (ap suc e))

    read : (l : List X) (i : ℕ) (d : X) → i < length l → slice_get l i ≡ Some (get_or l i d)
    read [] i d lt = absurd (omega arith)
    read (x ∷ xs) zero d lt = refl
    read (x ∷ xs) (suc i) d lt = read xs i d (omega arith)

    set_is : (l : List X) (i : ℕ) (a : X) → i < length l → (λ p. at (slice_get (set l i a) p)) ≡ put (λ p. at (slice_get l p)) i (val a)
    set_is l i a lt = put_is (λ p. at (slice_get (set l i a) p)) (λ p. at (slice_get l p)) i (val a) (ap at (set_here l i a lt)) (λ p ne. ap at (set_there l i p a ne))

    -- a value is put at each of two places that had none
    two : (f : ℕ → Option A) (i j n : ℕ) (x y : Option A) → i < n → j < n → i ≢ j → f i ≡ None → f j ≡ None → gathered op (put (put f i x) j y) n ≡ both op (both op (gathered op f n) x) y
    two f i j n x y li lj ne fi fj = adds op laws (put f i x) j y n lj (put_other f i x j (λ e. ne (sym e)) ∙ fj) ∙ ap (λ (o : Option A). both op o y) (adds op laws f i x n li fi)

    exchanged : (f : ℕ → Option A) (i j n : ℕ) → i < n → j < n → gathered op (put (put f i (f j)) j (f i)) n ≡ gathered op f n
    exchanged f i j n li lj = ⊎_elim
        (λ (e : i ≡ j). ap (λ (g : ℕ → Option A). gathered op g n) (sym (put_id f i (f j) (ap f e) ∙ put_id (put f i (f j)) j (f i) (put_same f i (f j) j (sym e) ∙ ap f (sym e)))))
        (λ (ne : i ≢ j).
        let h : ℕ → Option A = put (put f i None) j None in
        let hi : h i ≡ None = put_other (put f i None) j None i ne ∙ put_same f i None i refl in
        let hj : h j ≡ None = put_same (put f i None) j None j refl in
        let again : (x y : Option A) (g : ℕ → Option A) → g i ≡ x → g j ≡ y → ((p : ℕ) → p ≢ i → p ≢ j → g p ≡ f p) → g ≡ put (put h i x) j y =
        (λ x y g gi gj rest. put_is g (put h i x) j y gj (λ p nj. ⊎_elim (λ (e : p ≡ i). ap g e ∙ gi ∙ sym (put_same h i x p e))
        (λ (ni : p ≢ i). rest p ni nj ∙ sym (put_other h i x p ni ∙ put_other (put f i None) j None p nj ∙ put_other f i None p ni)) (cases_eq p i))) in
        let now = again (f j) (f i) (put (put f i (f j)) j (f i)) (put_other (put f i (f j)) j (f i) i ne ∙ put_same f i (f j) i refl) (put_same (put f i (f j)) j (f i) j refl) (λ p ni nj. put_other (put f i (f j)) j (f i) p nj ∙ put_other f i (f j) p ni) in
        let was = again (f i) (f j) f refl refl (λ p ni nj. refl) in
        ap (λ (g : ℕ → Option A). gathered op g n) now ∙ two h i j n (f j) (f i) li lj ne hi hj
        ∙ (both-assoc op laws (gathered op h n) (f j) (f i) ∙ ap (λ (o : Option A). both op (gathered op h n) o) (both-comm op laws (f j) (f i)) ∙ sym (both-assoc op laws (gathered op h n) (f i) (f j)))
        ∙ sym (ap (λ (g : ℕ → Option A). gathered op g n) was ∙ two h i j n (f i) (f j) li lj ne hi hj))
        (cases_eq i j)

    swapped : (l : List X) (i j : ℕ) → i < length l → j < length l → over (swap l i j) ≡ over l
    swapped [] i j li lj = refl
    swapped (d ∷ ys) i j li lj =
        let l : List X = d ∷ ys in
        let x : X = get_or l i d in
        let y : X = get_or l j d in
        let f : ℕ → Option A = λ p. at (slice_get l p) in
        let w : List X = set l i y in
        let n : ℕ = length l in
        let long : length (set w j x) ≡ n = length-set w j x ∙ length-set l i y in
        over_is (set w j x) ∙ ap (gathered op (λ p. at (slice_get (set w j x) p))) long
        ∙ ap (λ (g : ℕ → Option A). gathered op g n) (set_is w j x (let e = length-set l i y in omega arith) ∙ ap (λ (g : ℕ → Option A). put g j (val x)) (set_is l i y li) ∙ (λ k. put (put f i (ap at (sym (read l j d lj)) k)) j (ap at (sym (read l i d li)) k)))
        ∙ exchanged f i j n li lj ∙ sym (over_is l)

    pub over_permutation : (xs ys : List X) → IsPermutation xs ys → over ys ≡ over xs
    over_permutation xs ys p = IsPermutation-keeps xs (λ l. over l ≡ over xs) refl (λ l i j li lj e. swapped l i j li lj ∙ e) ys p

  combined_over : (l : List A) → combined op l ≡ over (λ x. Some x) l
  combined_over [] = refl
  combined_over (x ∷ xs) = combined-append (x ∷ []) xs ∙ ap (λ (o : Option A). both op (Some x) o) (combined_over xs)

  joined_over : (cells : ℕ → List A) (l : List ℕ) → combined op (joined (map cells l)) ≡ over (λ c. combined op (cells c)) l
  joined_over cells [] = refl
  joined_over cells (c ∷ cs) = combined-append (cells c) (joined (map cells cs)) ∙ ap (λ (o : Option A). both op (combined op (cells c)) o) (joined_over cells cs)

  pub order : (xs ys : List A) → IsPermutation xs ys → combined op xs ≡ combined op ys
  order xs ys p = combined_over xs ∙ sym (over_permutation (λ x. Some x) xs ys p) ∙ sym (combined_over ys)

  taken : (cells : ℕ → List A) (drawn : List (List ℕ)) → joined (all_taken cells drawn) ≡ joined (map cells (joined drawn))
  taken cells [] = refl
  taken cells (cs ∷ rest) = ap (λ (l : List A). joined (map cells cs) ++ l) (taken cells rest) ∙ sym (ap joined (map-append cells cs (joined rest)) ∙ joined-append (map cells cs) (map cells (joined rest)))

  map-listed : (cells : ℕ → List A) (n : ℕ) → map cells (listed (λ c. c) n) ≡ listed cells n
  map-listed cells zero = refl
  map-listed cells (suc n) = map-append cells (listed (λ c. c) n) (n ∷ []) ∙ ap (λ (l : List (List A)). l ++ cells n ∷ []) (map-listed cells n)

  pub chunks_combined : (cells : ℕ → List A) (count : ℕ) (drawn : List (List ℕ)) → IsPermutation (listed (λ c. c) count) (joined drawn) → combined op (all_combined op (all_taken cells drawn)) ≡ combined op (joined (listed cells count))
  chunks_combined cells count drawn p =
      parts (all_taken cells drawn) ∙ ap (combined op) (taken cells drawn) ∙ joined_over cells (joined drawn) ∙ over_permutation (λ c. combined op (cells c)) (listed (λ c. c) count) (joined drawn) p
      ∙ sym (joined_over cells (listed (λ c. c) count)) ∙ ap (λ (l : List (List A)). combined op (joined l)) (map-listed cells count)
