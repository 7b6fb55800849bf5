-- The parts of generators as lists.
use Rattle.std.proofs.Common.{◌≡◌, ℕ, ◌+◌, ◌<◌, ◌≤◌, ◌^◌, List, [], ◌∷◌, ◌++◌, length, get_or, drop, take, map, Bool, true, false, refl, sym, ap, ◌∙◌, subst, arith, ℤ, pos, negsuc, ◌+ℤ◌, ◌-ℤ◌, FitsSigned, w32, w64, to_z, of_z, Option, Some, None, true≢false, min, inl, inr}
use Rattle.std.proofs.lemmas.Int.{ints, to_z-of_z}
use Rattle.std.proofs.lemmas.List.{drop_more, take_more, take_all, drop_all}
use Rattle.std.proofs.lemmas.Bool.{cases_lt}
use Rattle.std.proofs.lemmas.Bool.Decides.{nat_tests}
use mir.Val.{bool_byte}
use Rattle.std.specs.Prelude.{flat_map, int_lt, int_le}
use Rattle.sac_base.specs.Operators.{of_truth}
use Rattle.sac_base.specs.WithLoops.{Bounds, raised, index_length, first_of, counts, Range, joined_range}
use Rattle.array_with_loops.specs.Plans.{raised_list, first_some}
use Rattle.array_with_loops.specs.Ranges.{IsBound, IsStep}

pub last_all : (ns : List ℕ) (k : ℕ) (items : List ℤ) → items ≡ map pos ns → length items ≤ k → map (λ z. z -ℤ pos 1) (take k items) ≡ map (λ m. pos m -ℤ pos 1) ns
last_all ns k items e h = ap (map (λ z. z -ℤ pos 1)) (take_all k items h ∙ e) ∙ each ns
  where
    each : (ns : List ℕ) → map (λ z. z -ℤ pos 1) (map pos ns) ≡ map (λ m. pos m -ℤ pos 1) ns
    each [] = refl
    each (n ∷ ns) = ap (λ zs. (pos n -ℤ pos 1) ∷ zs) (each ns)

pub raised_is : (b : Bool) (zs : List ℤ) → raised b (Some zs) ≡ Some (raised_list b zs)
raised_is true zs = refl
raised_is false zs = ap Some (sym (same zs))
  where
    same : (zs : List ℤ) → map (λ z. z +ℤ pos 0) zs ≡ zs
    same [] = refl
    same (z ∷ zs) = let e : z +ℤ pos 0 ≡ z = omega (arith, ints) in ap (λ x. x ∷ map (λ z. z +ℤ pos 0) zs) e ∙ ap (λ xs. z ∷ xs) (same zs)

pub raised_more : (b : Bool) (zs : List ℤ) (k : ℕ) (x : ℤ) → k < length zs → x ≡ get_or zs k (pos 0) +ℤ of_truth b → raised_list b (take k zs) ++ x ∷ [] ≡ raised_list b (take (k + 1) zs)
raised_more b zs k x h e = ap (λ y. raised_list b (take k zs) ++ y ∷ []) e ∙ sym (ap (raised_list b) (take_more zs k (pos 0) h) ∙ pushed (take k zs) (get_or zs k (pos 0)))
  where
    pushed : (xs : List ℤ) (y : ℤ) → raised_list b (xs ++ y ∷ []) ≡ raised_list b xs ++ (y +ℤ of_truth b) ∷ []
    pushed [] y = refl
    pushed (x ∷ xs) y = ap (λ ys. (x +ℤ of_truth b) ∷ ys) (pushed xs y)

-- the first part that is given, among those of all generators
pub first_of_some : (xs : List (Option ℕ)) (rest : List (Option ℕ)) (o n : ℕ) → first_some xs ≡ Some n → first_of (xs ++ rest) o ≡ n
first_of_some [] rest o n e = cc
first_of_some (None ∷ xs) rest o n e = first_of_some xs rest o n e
first_of_some (Some m ∷ xs) rest o n e = cc

pub first_of_none : (xs : List (Option ℕ)) (rest : List (Option ℕ)) (o : ℕ) → first_some xs ≡ None → first_of (xs ++ rest) o ≡ first_of rest o
first_of_none [] rest o e = refl
first_of_none (None ∷ xs) rest o e = first_of_none xs rest o e
first_of_none (Some m ∷ xs) rest o e = cc

pub length_here : (gs : List Bounds) (k n o : ℕ) (g : Bounds) → k < length gs → g ≡ get_or gs k g → first_some (counts g) ≡ Some n → index_length (drop k gs) o ≡ n
length_here gs k n o g h e s = ap (λ xs. index_length xs o) (drop_more gs k g h) ∙ ap (λ x. index_length (x ∷ drop (k + 1) gs) o) (sym e) ∙ first_of_some (counts g) (flat_map counts (drop (k + 1) gs)) o n s

pub length_next : (gs : List Bounds) (k o : ℕ) (g : Bounds) → k < length gs → g ≡ get_or gs k g → first_some (counts g) ≡ None → index_length (drop k gs) o ≡ index_length (drop (k + 1) gs) o
length_next gs k o g h e s = ap (λ xs. index_length xs o) (drop_more gs k g h) ∙ ap (λ x. index_length (x ∷ drop (k + 1) gs) o) (sym e) ∙ first_of_none (counts g) (flat_map counts (drop (k + 1) gs)) o s

pub step_here : (x : ℤ) → FitsSigned w32 x → int_lt (to_z w32 (of_z w32 x)) (pos 1) ≡ false → IsStep x × (int_le (pos 1) x ≡ true)
step_here x f e = by x f (subst (λ y. int_lt y (pos 1) ≡ false) (to_z-of_z w32 x f) e)
  where
    by : (x : ℤ) → FitsSigned w32 x → int_lt x (pos 1) ≡ false → IsStep x × (int_le (pos 1) x ≡ true)
    by (negsuc n) f e = absurd (true≢false e)
    by (pos n) f e =
        let low : 1 ≤ n = grind (arith, nat_tests) in
        let small : n < 2 ^ 31 = f.sfits in
        (record { least = omega (arith, ints); most = omega (arith, ints) }, grind (arith, nat_tests))

pub raised_here : (x z m : ℤ) (b : Bool) → FitsSigned w32 x → z ≡ to_z w32 (of_z w32 x) → m ≡ pos (bool_byte b)
    → (to_z w64 (of_z w64 (to_z w64 (of_z w64 z) +ℤ to_z w64 (of_z w64 m))) ≡ x +ℤ of_truth b) × IsBound (to_z w64 (of_z w64 (to_z w64 (of_z w64 z) +ℤ to_z w64 (of_z w64 m))))
raised_here x z m true f e g = (omega (arith, ints), record { least = omega (arith, ints); most = omega (arith, ints) })
raised_here x z m false f e g = (omega (arith, ints), record { least = omega (arith, ints); most = omega (arith, ints) })

joined_none : (bs : Range) → joined_range [] bs ≡ []
joined_none [] = refl
joined_none (b ∷ bs) = refl

joined_none_right : (as' : Range) → joined_range as' [] ≡ []
joined_none_right [] = refl
joined_none_right (a ∷ as') = refl

pub joined_ends : (as' bs : Range) (k : ℕ) → min (length as') (length bs) ≤ k → joined_range (drop k as') (drop k bs) ≡ []
joined_ends as' bs k h = elim (cases_lt (length as') (length bs)) [
  | inl lt ↦ ap (λ xs. joined_range xs (drop k bs)) (drop_all k as' (omega arith)) ∙ joined_none (drop k bs)
  | inr le ↦ ap (λ xs. joined_range (drop k as') xs) (drop_all k bs (omega arith)) ∙ joined_none_right (drop k as')
]

pub raised_part : (b : Bool) (o : Option (List ℤ)) (zs out : List ℤ) → Some zs ≡ o → out ≡ raised_list b zs → Some out ≡ raised b o
raised_part b o zs out h e = ap Some e ∙ sym (raised_is b zs) ∙ ap (raised b) h
