-- One turn of the loops, and their ends.
use Rattle.std.proofs.Common.{◌≡◌, ℕ, zero, suc, ◌+◌, ◌<◌, ◌≤◌, true, List, [], ◌∷◌, ◌++◌, map, zip, drop, set, length, get_or, min, Option, Some, None, All, refl, sym, ap, subst, ◌∙◌, append_assoc, append-nil, arith, ◌⊎◌, inl, inr, Vec, Global, IsTrue}
use Rattle.std.specs.Prelude.{slice_get, unwrap_or, Contains, IsFalse}
use Rattle.std.specs.List.Sorted.{IsPermutation}
use Rattle.std.proofs.lemmas.Bool.{false≢true}
use Rattle.std.proofs.lemmas.List.{length-map, drop_more, get_or-map}
use Rattle.std.proofs.lemmas.List.Elements.{All-nil, All-cons}
use Rattle.std.proofs.lemmas.List.Sorted.{length_permutation, All-permutation, Contains-permutation}
use Rattle.std.proofs.lemmas.Option.{slice_get_within, slice_get-get_or}
use Rattle.sac_base.specs.declared.form.Form.{Form}
use Rattle.sac_base.specs.declared.types.ArrayType.{ArrayType}
use Rattle.sac_base.specs.Types.{all_have_forms, all_below, all_compatible}
use Rattle.shape_types.specs.Instances.{IsLeastPlace}
use Rattle.core_ir.specs.declared.tree.Var.{Var}
use Rattle.core_ir.specs.declared.tree.CoreFun.{CoreFun}
use Rattle.core_ir.specs.Outcome.{param_types}
use Rattle.core_ir.specs.Terms.{FunTerm, CoreTerm}
use Rattle.core_ir.specs.View.{fun_term}
use Rattle.core_facts.specs.calls.Nests.{StandsIn}
use Rattle.specialise.proofs.groups.Lists.{some_same, none_some, stands_at, stands_there}
use Rattle.specialise.specs.declared.plan.Item.{Item}
use Rattle.specialise.specs.declared.order.Key.{Key}
use Rattle.specialise.specs.Plans.{Entry, entry, entries, members, owns, joined}
use Rattle.specialise.specs.Tables.{types_at, forms_by}
use Rattle.specialise.specs.Orders.{keys_from, AreKeys, numbers}
use Rattle.specialise.specs.Serving.{IsSource, NoSource}
use Rattle.specialise.proofs.Planning.{same_or}

-- ---- lists side by side

no_pairs : {A B : Type 0} (xs : List A) → ◌≡◌ {A = List (A × B)} (zip xs []) []
no_pairs [] = refl
no_pairs (x ∷ xs) = refl

pub zip_end : (ps : List (Var × ArrayType)) (ts : List ArrayType) (k : ℕ) → min (length ps) (length ts) ≤ k → zip (map (λ (p : Var × ArrayType). p.0) (drop k ps)) (drop k ts) ≡ []
zip_end [] ts zero le = refl
zip_end [] ts (suc k) le = refl
zip_end (p ∷ ps) [] zero le = refl
zip_end (p ∷ ps) [] (suc k) le = no_pairs (map (λ (q : Var × ArrayType). q.0) (drop k ps))
zip_end (p ∷ ps) (t ∷ ts) zero le = absurd (omega (arith, le))
zip_end (p ∷ ps) (t ∷ ts) (suc k) le = zip_end ps ts k (omega (arith, le))

no_forms : (ts : List ArrayType) → forms_by ts [] ≡ []
no_forms [] = refl
no_forms (t ∷ ts) = refl

pub forms_end : (ts : List ArrayType) (ss : List (List ℕ)) (k : ℕ) → min (length ts) (length ss) ≤ k → forms_by (drop k ts) (drop k ss) ≡ []
forms_end [] ss zero le = refl
forms_end [] ss (suc k) le = refl
forms_end (t ∷ ts) [] zero le = refl
forms_end (t ∷ ts) [] (suc k) le = no_forms (drop k ts)
forms_end (t ∷ ts) (s ∷ ss) zero le = absurd (omega (arith, le))
forms_end (t ∷ ts) (s ∷ ss) (suc k) le = forms_end ts ss k (omega (arith, le))

-- ---- own entries

entries_append : (xs ys : List Item) → entries (xs ++ ys) ≡ entries xs ++ entries ys
entries_append [] ys = refl
entries_append (x ∷ xs) ys = λ i. entry x ∷ entries_append xs ys i

pub own_turn : (fs : List CoreFun) (i : ℕ) (f : CoreFun) (items new : List Item) (x : Item) (whole : List Entry) → i < length fs → f ≡ get_or fs i f → entries items ++ owns (length items) (map fun_term (drop i fs)) ≡ whole
    → new ≡ items ++ (x ∷ []) → x.source ≡ length items → x.types.items ≡ param_types (fun_term f) → entries new ++ owns (length new) (map fun_term (drop (i + 1) fs)) ≡ whole
own_turn fs i f items new x whole lt is p e s t =
    let first : entry x ≡ record { source = length items; types = param_types (fun_term f) } = λ j. record { source = s j; types = t j } in
    let front : owns (length items) (map fun_term (drop i fs)) ≡ record { source = length items; types = param_types (fun_term f) } ∷ owns (suc (length items)) (map fun_term (drop (i + 1) fs)) =
    ap (λ gs. owns (length items) (map fun_term gs)) (drop_more fs i f lt) ∙ ap (λ (g : CoreFun). record { source = length items; types = param_types (fun_term g) } ∷ owns (suc (length items)) (map fun_term (drop (i + 1) fs))) (sym is) in
    let long : length new ≡ suc (length items) = ap length e ∙ more items in
    (λ j. entries (e j) ++ owns (long j) (map fun_term (drop (i + 1) fs)))
    ∙ ap (λ xs. xs ++ owns (suc (length items)) (map fun_term (drop (i + 1) fs))) (entries_append items (x ∷ []))
    ∙ append_assoc (entries items) (entry x ∷ []) (owns (suc (length items)) (map fun_term (drop (i + 1) fs)))
    ∙ (λ j. entries items ++ (first j ∷ owns (suc (length items)) (map fun_term (drop (i + 1) fs))))
    ∙ ap (λ xs. entries items ++ xs) (sym front) ∙ p
  where
    more : (xs : List Item) → length (xs ++ (x ∷ [])) ≡ suc (length xs)
    more [] = refl
    more (y ∷ xs) = ap suc (more xs)

-- ---- groups

pub joined_set : (gs : List (Vec ℕ Global)) (g : ℕ) (v : Vec ℕ Global) (n : ℕ) (d : Vec ℕ Global) → g < length gs → v.items ≡ (get_or gs g d).items ++ (n ∷ []) → members (set gs g v) ≡ joined (members gs) g n
joined_set [] g v n d lt e = absurd (omega (arith, lt))
joined_set (x ∷ gs) zero v n d lt e = λ i. e i ∷ members gs
joined_set (x ∷ gs) (suc g) v n d lt e = λ i. x.items ∷ joined_set gs g v n d (omega (arith, lt)) e i

pub joined_beyond : (gs : List (Vec ℕ Global)) (g n : ℕ) → length gs ≤ g → members gs ≡ joined (members gs) g n
joined_beyond [] g n le = refl
joined_beyond (x ∷ gs) zero n le = absurd (omega (arith, le))
joined_beyond (x ∷ gs) (suc g) n le = λ i. x.items ∷ joined_beyond gs g n (omega (arith, le)) i

-- ---- keys

key_count : (n : ℕ) (es : List Entry) → length (keys_from n es) ≡ length es
key_count n [] = refl
key_count n (e ∷ es) = ap suc (key_count (suc n) es)

abbrev Tells : List Entry → Key → Type 0
Tells es k = (e : Entry) × ((slice_get es k.number ≡ Some e) × (k.source ≡ e.source))

keys_tell : (es : List Entry) (n : ℕ) (rest : List Entry) → ((i : ℕ) (e : Entry) → slice_get rest i ≡ Some e → slice_get es (n + i) ≡ Some e) → All (Tells es) (keys_from n rest)
keys_tell es n [] h = All-nil (Tells es)
keys_tell es n (e ∷ rest) h =
    All-cons (Tells es) (record { source = e.source; number = n }) (keys_from (suc n) rest)
    (e, (subst (λ m. slice_get es m ≡ Some e) (let q : n + 0 ≡ n = omega arith in q) (h 0 e refl), refl))
    (keys_tell es (suc n) rest (λ i d q. subst (λ m. slice_get es m ≡ Some d) (let r : n + suc i ≡ suc n + i = omega arith in r) (h (suc i) d q)))

keys_have : (n : ℕ) (es : List Entry) (i : ℕ) → i < length es → (k : Key) × (Contains (keys_from n es) k × (k.number ≡ n + i))
keys_have n [] i lt = absurd (omega (arith, lt))
keys_have n (e ∷ es) zero lt = (record { source = e.source; number = n }, ((0, omega arith, refl), omega arith))
keys_have n (e ∷ es) (suc i) lt =
    let w = keys_have (suc n) es i (omega (arith, lt)) in
    (w.0, ((suc w.1.0.0, omega (arith, w.1.0.1), w.1.0.2), w.1.1 ∙ (let r : suc n + i ≡ n + suc i = omega arith in r)))

pub keys_permuted : (es : List Entry) (ks ms : List Key) → ks ≡ keys_from 0 es → IsPermutation ks ms → AreKeys es ms
keys_permuted es ks ms e p = record {
  told = All-permutation (Tells es) ks ms p (subst (All (Tells es)) (sym e) (keys_tell es 0 es (λ i d q. subst (λ m. slice_get es m ≡ Some d) (let r : i ≡ 0 + i = omega arith in r) q)));
  count = length_permutation ks ms p ∙ ap length e ∙ key_count 0 es;
  all = λ n lt.
      let w = keys_have 0 es n lt in
      (w.0, (Contains-permutation ks ms w.0 p (subst (λ xs. Contains xs w.0) (sym e) w.1.0), w.1.1 ∙ (let r : 0 + n ≡ n = omega arith in r)));
}

-- ---- places

set_here : (xs : List ℕ) (i y : ℕ) → i < length xs → slice_get (set xs i y) i ≡ Some y
set_here [] i y lt = absurd (omega (arith, lt))
set_here (x ∷ xs) zero y lt = refl
set_here (x ∷ xs) (suc i) y lt = set_here xs i y (omega (arith, lt))

set_else : (xs : List ℕ) (i j y : ℕ) → (j ≡ i → ⊥) → slice_get (set xs i y) j ≡ slice_get xs j
set_else [] i j y h = refl
set_else (x ∷ xs) zero zero y h = absurd (h refl)
set_else (x ∷ xs) zero (suc j) y h = refl
set_else (x ∷ xs) (suc i) zero y h = refl
set_else (x ∷ xs) (suc i) (suc j) y h = set_else xs i j y (λ e. h (ap suc e))

pub set_long : (xs : List ℕ) (i y : ℕ) → length (set xs i y) ≡ length xs
set_long [] i y = refl
set_long (x ∷ xs) zero y = refl
set_long (x ∷ xs) (suc i) y = ap suc (set_long xs i y)

pub set_over : (xs : List ℕ) (i y : ℕ) → length xs ≤ i → xs ≡ set xs i y
set_over [] i y le = refl
set_over (x ∷ xs) zero y le = absurd (omega (arith, le))
set_over (x ∷ xs) (suc i) y le = ap (λ ys. x ∷ ys) (set_over xs i y (omega (arith, le)))

abbrev pub PlacesUpTo : List Key → List ℕ → ℕ → Type 0
PlacesUpTo keys places k =
    (i n : ℕ) → i < k → slice_get (numbers keys) i ≡ Some n → n < length keys → (place : ℕ) × ((slice_get places n ≡ Some place) × (slice_get (numbers keys) place ≡ Some n))

pub place_turn : (keys : List Key) (places new : List ℕ) (k v p : ℕ) → length places ≡ length keys → slice_get (numbers keys) k ≡ Some v → p ≡ k → new ≡ set places v p → PlacesUpTo keys places k → PlacesUpTo keys new (k + 1)
place_turn keys places new k v p long at same e h i n lt o within = elim (same_or n v) [
  | inl q ↦ (p, (ap (λ xs. slice_get xs n) e ∙ ap (slice_get (set places v p)) q ∙ set_here places v p (omega (arith, within, long, q)), ap (slice_get (numbers keys)) same ∙ at ∙ ap Some (sym q)))
  | inr other ↦
      let w = h i n (before i (same_or i k) lt o other) o within in
      (w.0, (ap (λ xs. slice_get xs n) e ∙ set_else places v n p other ∙ w.1.0, w.1.1))
]
  where
    before : (i : ℕ) → (i ≡ k) ⊎ (i ≡ k → ⊥) → i < k + 1 → slice_get (numbers keys) i ≡ Some n → (n ≡ v → ⊥) → i < k
    before i c lt o other = elim c [
      | inl q ↦ absurd (other (some_same n v (sym o ∙ ap (slice_get (numbers keys)) q ∙ at)))
      | inr d ↦ omega (arith, lt, apart i k d)
    ]
      where
        apart : (i k : ℕ) → (i ≡ k → ⊥) → (i < k) ⊎ (k < i)
        apart zero zero f = absurd (f refl)
        apart zero (suc k) f = inl (omega arith)
        apart (suc i) zero f = inr (omega arith)
        apart (suc i) (suc k) f = elim (apart i k (λ e. f (ap suc e))) [ inl l ↦ inl (omega (arith, l)) | inr l ↦ inr (omega (arith, l)) ]

-- what an index of the keys reads
pub number_at : (keys : List Key) (k : ℕ) (d : Key) → k < length keys → slice_get (numbers keys) k ≡ Some (get_or keys k d).number
number_at [] k d lt = absurd (omega (arith, lt))
number_at (y ∷ keys) zero d lt = refl
number_at (y ∷ keys) (suc k) d lt = number_at keys k d (omega (arith, lt))

-- ---- the least instance

abbrev lists_of : List Entry → List ℕ → List (List ArrayType)
lists_of es own = map (types_at es) own

pub source_is : (es : List Entry) (own : List ℕ) (forms : List Form) (k : ℕ) → IsLeastPlace (map (types_at es) own) forms k → k < length own → IsSource es own forms (get_or own k 0)
source_is es own forms k l lt =
    let here : get_or (map (types_at es) own) k [] ≡ types_at es (get_or own k 0) = get_or-map (types_at es) own k 0 [] lt in
    record {
      stands = stands_there own k lt;
      fits = ap (λ ts. all_have_forms ts forms) (sym here) ∙ l.fits [];
      least = λ other s fits.
          let w = stands_at own other s in
          let there : get_or (map (types_at es) own) w.0 [] ≡ types_at es other = get_or-map (types_at es) own w.0 0 [] w.1 ∙ ap (types_at es) w.2 in
          let inside : w.0 < length (map (types_at es) own) = omega (arith, w.1, length-map own (types_at es)) in
          (λ i. all_below (sym here i) (sym there i)) ∙ l.least [] w.0 [] inside (ap (λ ts. all_have_forms ts forms) there ∙ fits);
    }

pub none_is : (es : List Entry) (own : List ℕ) (forms : List Form) → All (λ types. IsFalse (all_have_forms types forms)) (map (types_at es) own) → NoSource es own forms
none_is es own forms h place s fits =
    let w = stands_at own place s in
    let there : get_or (map (types_at es) own) w.0 [] ≡ types_at es place = get_or-map (types_at es) own w.0 0 [] w.1 ∙ ap (types_at es) w.2 in
    let inside : w.0 < length (map (types_at es) own) = omega (arith, w.1, length-map own (types_at es)) in
    false≢true (sym (h w.0 [] inside) ∙ ap (λ ts. all_have_forms ts forms) there ∙ fits)
