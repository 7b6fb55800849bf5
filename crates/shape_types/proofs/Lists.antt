-- Lists of types, position by position.
use Rattle.std.proofs.Common.{◌≡◌, ℕ, zero, suc, ◌+◌, ◌<◌, ap, ◌∙◌, sym, refl, Bool, true, false, not, ◌||◌, List, [], ◌∷◌, length, get_or, drop, Option, Some, None, arith, All, inl, inr, ◌⊎◌, cond, ltb, lt-ltb, IfSome, IsNone}
use Rattle.std.specs.List.{list_all, position_or_len, position}
use Rattle.std.proofs.lemmas.Bool.{false≢true}
use Rattle.std.proofs.lemmas.List.{drop_more}
use Rattle.std.proofs.lemmas.List.Quantifiers.{position-Some}
use Rattle.std.proofs.lemmas.List.Elements.{All-nil, All-cons, All-head, All-tail}
use Rattle.sac_base.specs.declared.form.Form.{Form}
use Rattle.sac_base.specs.declared.types.ArrayType.{ArrayType}
use Rattle.sac_base.specs.Types.{has_form, below, all_have_forms, all_below, apart, strictly_below, compatible, all_compatible, below_others, is_least, least_place}
use Rattle.shape_types.specs.Instances.{IsLeastPlace}
use Rattle.shape_types.proofs.Inclusion.{and_left, and_right, and_both}
use Rattle.shape_types.proofs.Orders.{inclusion, below_from_inclusion, overlap_from_common}

pub length-all_have : (ts : List ArrayType) (fs : List Form) → all_have_forms ts fs ≡ true → length ts ≡ length fs
length-all_have [] [] h = refl
length-all_have [] (f ∷ fs) h = absurd (false≢true h)
length-all_have (t ∷ ts) [] h = absurd (false≢true h)
length-all_have (t ∷ ts) (f ∷ fs) h = ap suc (length-all_have ts fs (and_right (has_form t f) (all_have_forms ts fs) h))

pub length-all_below : (as' bs : List ArrayType) → all_below as' bs ≡ true → length as' ≡ length bs
length-all_below [] [] h = refl
length-all_below [] (b ∷ bs) h = absurd (false≢true h)
length-all_below (a ∷ as') [] h = absurd (false≢true h)
length-all_below (a ∷ as') (b ∷ bs) h = ap suc (length-all_below as' bs (and_right (below a b) (all_below as' bs) h))

below_itself : (a : ArrayType) → below a a ≡ true
below_itself a = below_from_inclusion a a (λ form e. e)

below_trans : (a b c : ArrayType) → below a b ≡ true → below b c ≡ true → below a c ≡ true
below_trans a b c h g = below_from_inclusion a c (λ form e. inclusion b c g form (inclusion a b h form e))

all_below_itself : (as' : List ArrayType) → all_below as' as' ≡ true
all_below_itself [] = refl
all_below_itself (a ∷ as') = and_both (below a a) (all_below as' as') (below_itself a) (all_below_itself as')

all_below_trans : (as' bs cs : List ArrayType) → all_below as' bs ≡ true → all_below bs cs ≡ true → all_below as' cs ≡ true
all_below_trans [] [] cs h g = g
all_below_trans [] (b ∷ bs) cs h g = absurd (false≢true h)
all_below_trans (a ∷ as') [] cs h g = absurd (false≢true h)
all_below_trans (a ∷ as') (b ∷ bs) [] h g = absurd (false≢true g)
all_below_trans (a ∷ as') (b ∷ bs) (c ∷ cs) h g =
    and_both (below a c) (all_below as' cs) (below_trans a b c (and_left (below a b) (all_below as' bs) h) (and_left (below b c) (all_below bs cs) g))
    (all_below_trans as' bs cs (and_right (below a b) (all_below as' bs) h) (and_right (below b c) (all_below bs cs) g))

-- lists that contain the same forms are not apart
not_apart : (as' bs : List ArrayType) (fs : List Form) → all_have_forms as' fs ≡ true → all_have_forms bs fs ≡ true → apart as' bs ≡ false
not_apart [] bs fs h g = refl
not_apart (a ∷ as') [] fs h g = refl
not_apart (a ∷ as') (b ∷ bs) [] h g = absurd (false≢true h)
not_apart (a ∷ as') (b ∷ bs) (f ∷ fs) h g =
    let both = overlap_from_common a b (f, and_left (has_form a f) (all_have_forms as' fs) h, and_left (has_form b f) (all_have_forms bs fs) g) in
    ap (λ x. not x || apart as' bs) both ∙ not_apart as' bs fs (and_right (has_form a f) (all_have_forms as' fs) h) (and_right (has_form b f) (all_have_forms bs fs) g)

or_cases : (b c : Bool) → (b || c) ≡ true → (b ≡ true) ⊎ (c ≡ true)
or_cases true c h = inl refl
or_cases false c h = inr h

-- of two lists that may stand together and contain the same forms one is below the other
pub comparable : (as' bs : List ArrayType) (fs : List Form) → compatible as' bs ≡ true → all_have_forms as' fs ≡ true → all_have_forms bs fs ≡ true → (all_below as' bs ≡ true) ⊎ (all_below bs as' ≡ true)
comparable as' bs fs h f g =
    elim (or_cases (apart as' bs) (strictly_below as' bs || strictly_below bs as') h) [
      | inl e ↦ absurd (false≢true (sym (not_apart as' bs fs f g) ∙ e))
      | inr e ↦ elim (or_cases (strictly_below as' bs) (strictly_below bs as') e) [
        | inl x ↦ inl (and_left (all_below as' bs) (not (all_below bs as')) x)
        | inr x ↦ inr (and_left (all_below bs as') (not (all_below as' bs)) x)
      ]
    ]

-- ---- tests of all elements, and the first that passes

or_left : (b c : Bool) → b ≡ true → (b || c) ≡ true
or_left true c h = refl
or_left false c h = absurd (false≢true h)

or_right : (b c : Bool) → c ≡ true → (b || c) ≡ true
or_right true c h = refl
or_right false c h = h

module _ {X : Type 0} where
  passes_at : (test : X → Bool) (xs : List X) (k : ℕ) (d : X) → list_all test xs ≡ true → k < length xs → test (get_or xs k d) ≡ true
  passes_at test [] k d h lt = absurd (omega arith)
  passes_at test (x ∷ xs) zero d h lt = and_left (test x) (list_all test xs) h
  passes_at test (x ∷ xs) (suc k) d h lt = passes_at test xs k d (and_right (test x) (list_all test xs) h) (omega arith)

  all_weaker : (test other : X → Bool) → ((x : X) → test x ≡ true → other x ≡ true) → (xs : List X) → list_all test xs ≡ true → list_all other xs ≡ true
  all_weaker test other w [] h = refl
  all_weaker test other w (x ∷ xs) h =
      and_both (other x) (list_all other xs) (w x (and_left (test x) (list_all test xs) h)) (all_weaker test other w xs (and_right (test x) (list_all test xs) h))

  implied : (f g : X → Bool) (xs : List X) → list_all (λ x. not (f x) || g x) xs ≡ true → All (λ x. f x ≡ true → g x ≡ true) xs
  implied f g xs h k d lt e =
      elim (or_cases (not (f (get_or xs k d))) (g (get_or xs k d)) (passes_at (λ x. not (f x) || g x) xs k d h lt)) [
        | inl x ↦ absurd (false≢true (sym (ap not e) ∙ x))
        | inr x ↦ x
      ]

  unfit : (f g : X → Bool) (xs : List X) → All (λ x. f x ≡ false) xs → list_all (λ x. not (f x) || g x) xs ≡ true
  unfit f g [] h = refl
  unfit f g (x ∷ xs) h =
      and_both (not (f x) || g x) (list_all (λ y. not (f y) || g y) xs) (or_left (not (f x)) (g x) (ap not (All-head (λ y. f y ≡ false) x xs h)))
      (unfit f g xs (All-tail (λ y. f y ≡ false) x xs h))

  found_by : (p : X → Bool) (x : X) (xs : List X) (b : Bool) → p x ≡ b → (b ≡ false → position_or_len p xs < length xs) → position_or_len p (x ∷ xs) < suc (length xs)
  found_by p x xs true h later =
      let here : position_or_len p (x ∷ xs) ≡ 0 = ap (λ b. cond (not b) (1 + position_or_len p xs) 0) h in
      omega (arith, here)
  found_by p x xs false h later =
      let further : position_or_len p (x ∷ xs) ≡ 1 + position_or_len p xs = ap (λ b. cond (not b) (1 + position_or_len p xs) 0) h in
      omega (arith, further, later refl)

  found : (p : X → Bool) (xs : List X) (k : ℕ) (d : X) → k < length xs → p (get_or xs k d) ≡ true → position_or_len p xs < length xs
  found p [] k d lt e = absurd (omega arith)
  found p (x ∷ xs) zero d lt e = found_by p x xs true e (λ f. absurd (false≢true (sym f)))
  found p (x ∷ xs) (suc k) d lt e = found_by p x xs (p x) refl (λ _. found p xs k d (omega arith) e)

  some_found : (p : X → Bool) (xs : List X) (k : ℕ) (d : X) → k < length xs → p (get_or xs k d) ≡ true → position p xs ≡ Some (position_or_len p xs)
  some_found p xs k d lt e = ap (λ b. cond b (Some (position_or_len p xs)) None) (lt-ltb (position_or_len p xs) (length xs) (found p xs k d lt e))

  -- the loop that looks for the first element that passes
  pub turn : (p : X → Bool) (xs : List X) (k n : ℕ) (x d : X) → k < length xs → get_or xs k d ≡ x → p x ≡ false → k + position_or_len p (drop k xs) ≡ n → (k + 1) + position_or_len p (drop (k + 1) xs) ≡ n
  turn p xs k n x d lt e fails h =
      let whole : position_or_len p (drop k xs) ≡ 1 + position_or_len p (drop (k + 1) xs) =
      ap (position_or_len p) (drop_more xs k d lt ∙ ap (λ y. y ∷ drop (k + 1) xs) e) ∙ ap (λ b. cond (not b) (1 + position_or_len p (drop (k + 1) xs)) 0) fails in
      omega (arith, whole, h)

  pub hit : (p : X → Bool) (xs : List X) (k : ℕ) (x d : X) → k < length xs → get_or xs k d ≡ x → p x ≡ true → k + position_or_len p (drop k xs) ≡ position_or_len p xs → Some k ≡ position p xs
  hit p xs k x d lt e ok h =
      let none : position_or_len p (drop k xs) ≡ 0 =
      ap (position_or_len p) (drop_more xs k d lt ∙ ap (λ y. y ∷ drop (k + 1) xs) e) ∙ ap (λ b. cond (not b) (1 + position_or_len p (drop (k + 1) xs)) 0) ok in
      let here : position_or_len p xs ≡ k = omega (arith, none, h) in
      sym (ap (λ n. cond (ltb n (length xs)) (Some n) None) here ∙ ap (λ b. cond b (Some k) None) (lt-ltb k (length xs) lt))

-- ---- the least list

abbrev NoneFits : List (List ArrayType) → List Form → Type 0
NoneFits lists fs = All (λ types. all_have_forms types fs ≡ false) lists

abbrev SomeLeast : List (List ArrayType) → List Form → Type 0
SomeLeast lists fs = (k : ℕ) × (k < length lists) × (all_have_forms (get_or lists k []) fs ≡ true) × (below_others lists fs (get_or lists k []) ≡ true)

below_test : List Form → List ArrayType → List ArrayType → Bool
below_test fs types others = not (all_have_forms others fs) || all_below types others

one_more : (x : List ArrayType) (xs : List (List ArrayType)) (fs : List Form) (b : Bool) → all_have_forms x fs ≡ b → list_all (compatible x) xs ≡ true
    → NoneFits xs fs ⊎ SomeLeast xs fs → NoneFits (x ∷ xs) fs ⊎ SomeLeast (x ∷ xs) fs
one_more x xs fs false e c (inl none) = inl (All-cons (λ types. all_have_forms types fs ≡ false) x xs e none)
one_more x xs fs false e c (inr w) =
    inr (
      suc w.0,
      omega (arith, w.1),
      w.2,
      and_both (not (all_have_forms x fs) || all_below (get_or xs w.0 []) x) (below_others xs fs (get_or xs w.0 []))
          (or_left (not (all_have_forms x fs)) (all_below (get_or xs w.0 []) x) (ap not e)) w.3,
    )
one_more x xs fs true e c (inl none) =
    inr (
      0,
      omega arith,
      e,
      and_both (not (all_have_forms x fs) || all_below x x) (below_others xs fs x)
          (or_right (not (all_have_forms x fs)) (all_below x x) (all_below_itself x)) (unfit (λ types. all_have_forms types fs) (all_below x) xs none),
    )
one_more x xs fs true e c (inr w) =
    let least = get_or xs w.0 [] in
    elim (comparable x least fs (passes_at (compatible x) xs w.0 [] c w.1) e w.2) [
      | inl le ↦ inr (
        0,
        omega arith,
        e,
        and_both (not (all_have_forms x fs) || all_below x x) (below_others xs fs x)
            (or_right (not (all_have_forms x fs)) (all_below x x) (all_below_itself x))
            (all_weaker (λ others. not (all_have_forms others fs) || all_below least others) (λ others. not (all_have_forms others fs) || all_below x others)
            (λ others h. elim (or_cases (not (all_have_forms others fs)) (all_below least others) h) [
              | inl y ↦ or_left (not (all_have_forms others fs)) (all_below x others) y
              | inr y ↦ or_right (not (all_have_forms others fs)) (all_below x others) (all_below_trans x least others le y)
            ]) xs w.3),
      )
      | inr le ↦ inr (
        suc w.0,
        omega (arith, w.1),
        w.2,
        and_both (not (all_have_forms x fs) || all_below least x) (below_others xs fs least)
            (or_right (not (all_have_forms x fs)) (all_below least x) le) w.3,
      )
    ]

-- among lists that may stand together, either none contains the forms or one of them is below all that do
none_or_least : (lists : List (List ArrayType)) (fs : List Form) → all_compatible lists ≡ true → NoneFits lists fs ⊎ SomeLeast lists fs
none_or_least [] fs h = inl (All-nil (λ types. all_have_forms types fs ≡ false))
none_or_least (x ∷ xs) fs h =
    one_more x xs fs (all_have_forms x fs) refl (and_left (list_all (compatible x) xs) (all_compatible xs) h)
    (none_or_least xs fs (and_right (list_all (compatible x) xs) (all_compatible xs) h))

pub least_is : (lists : List (List ArrayType)) (fs : List Form) (place : ℕ) → least_place lists fs ≡ Some place → IsLeastPlace lists fs place
least_is lists fs place e = record {
  there = (position-Some (is_least lists fs) lists place [] e).0;
  fits = λ d. and_left (all_have_forms (get_or lists place d) fs) (below_others lists fs (get_or lists place d)) (position-Some (is_least lists fs) lists place d e).1;
  least = λ d. implied (λ types. all_have_forms types fs) (all_below (get_or lists place d)) lists
      (and_right (all_have_forms (get_or lists place d) fs) (below_others lists fs (get_or lists place d)) (position-Some (is_least lists fs) lists place d e).1);
}

pub if_least : (lists : List (List ArrayType)) (fs : List Form) (r : Option ℕ) → r ≡ least_place lists fs → IfSome r (IsLeastPlace lists fs)
if_least lists fs None e = tt
if_least lists fs (Some place) e = least_is lists fs place (sym e)

no_option : (n : ℕ) → None ≡ Some n → ⊥
no_option n e = cc

none_of : (lists : List (List ArrayType)) (fs : List Form) → None ≡ least_place lists fs → NoneFits lists fs ⊎ SomeLeast lists fs → NoneFits lists fs
none_of lists fs e (inl none) = none
none_of lists fs e (inr w) =
    absurd (no_option _ (e ∙ some_found (is_least lists fs) lists w.0 [] w.1
    (and_both (all_have_forms (get_or lists w.0 []) fs) (below_others lists fs (get_or lists w.0 [])) w.2 w.3)))

-- no list contains the forms exactly where there is no least one
pub none_exactly : (lists : List (List ArrayType)) (fs : List Form) (r : Option ℕ) → r ≡ least_place lists fs → all_compatible lists ≡ true → (IsNone r → NoneFits lists fs) × (NoneFits lists fs → IsNone r)
none_exactly lists fs (Some place) e h =
    let is = least_is lists fs place (sym e) in
    (λ x. absurd (false≢true (sym x)), λ none. absurd (false≢true (sym (none place [] is.there) ∙ is.fits [])))
none_exactly lists fs None e h = (λ _. none_of lists fs e (none_or_least lists fs h), λ _. refl)
