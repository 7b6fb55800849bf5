-- What an input gives are arrays with as many elements as their shapes say, each of their base.
use Rattle.std.proofs.Common.{◌≡◌, ◌<◌, ◌==◌, ◌+◌, ◌*◌, ◌%◌, ℕ, zero, suc, Bool, true, false, not, List, [], ◌∷◌, map, length, refl, sym, subst, Option, Some, None, Result, Ok, Err, IfOk, ℤ, pos, inl, inr, arith, slice_index_or, Vec, Global}
use Rattle.std.specs.Prelude.{if◌then◌else◌, ◌||◌, nat_lt}
use Rattle.std.specs.List.{range_with_len}
use Rattle.std.proofs.lemmas.Bool.Decides.{nat_tests}
use Rattle.std.proofs.lemmas.Int.{ints}
use Rattle.std.proofs.lemmas.List.FromFn.{length-map-range_with_len}
use Rattle.sac_base.specs.declared.base.Base.{Base}
use Rattle.sac_base.specs.declared.base.Base.TheVariants.{Int, Bool as Truth}
use Rattle.sac_base.specs.declared.types.ArrayType.{ArrayType}
use Rattle.sac_base.specs.Arrays.{ArrayValue, IsCell, IsFull, IsWellTyped, size, same_base, MOST}
use Rattle.data_text.specs.declared.error.DataCode.{DataCode}
use Rattle.data_text.specs.declared.error.DataCode.TheVariants.{I2, I3, I4, I5, I6}
use Rattle.data_text.specs.declared.error.DataError.{DataError}
use Rattle.data_text.specs.Found.{Tells}
use Rattle.data_text.specs.Generated.{generated, generated_all, generated_cells, generated_element, generated_number, generated_of, generated_shape, with_array}
use Rattle.data_text.specs.Lines.{LineValue, is_in_range, is_too_large, judged_form, line_at, line_value}
use Rattle.data_text.specs.Pieces.{pieces}
use Rattle.data_text.specs.Texts.{Numbered, Refusal, arrays_of, before_others, data_lines, text_value}
use Rattle.data_text.specs.Typed.{AreArguments}
use Rattle.data_text.proofs.TypedFacts.{text_typed}
use Rattle.sac_build.specs.Arguments.{AreArrays}

-- ---- arrays that were read

-- what holds where no test refuses
record Passed (u : Bool) (x a : ArrayValue) : Type 0 where
  full : u ≡ true
  same : x ≡ a

passed : (p r u w : Bool) (x a : ArrayValue) → (if not p then Err I3 else (if r then Err I6 else (if not u then Err I4 else (if not w then Err I5 else Ok x)))) ≡ Ok a → Passed u x a
passed false r u w x a ok = absurd (cc)
passed true true u w x a ok = absurd (cc)
passed true false false w x a ok = absurd (cc)
passed true false true false x a ok = absurd (cc)
passed true false true true x a ok = record { full = refl; same = cc }

abbrev array_of : LineValue → ArrayValue
array_of v = record { base = v.base; shape = v.extents; cells = v.elements }

equal : (m n : ℕ) → (m == n) ≡ true → m ≡ n
equal m n is = grind (arith, nat_tests)

form_full : (base : Base) (o : Option LineValue) (a : ArrayValue) → judged_form base o ≡ Ok a → IsFull a
form_full base None a ok = absurd (cc)
form_full base (Some v) a ok =
    let p = passed (is_in_range v) (is_too_large v) (length v.elements == size v.extents) (same_base v.base base) (array_of v) a ok in
    let full : IsFull (array_of v) = equal (length v.elements) (size v.extents) p.full in
    subst (λ (x : ArrayValue). IsFull x) p.same full

before_ok : (number : ℕ) (one : Result ArrayValue DataCode) (others : Result (List ArrayValue) Refusal) (all : List ArrayValue) → before_others number one others ≡ Ok all → (a : ArrayValue) × (as' : List ArrayValue) × (one ≡ Ok a) × (others ≡ Ok as') × (a ∷ as' ≡ all)
before_ok number (Err code) others all ok = absurd (cc)
before_ok number (Ok a) (Err refusal) all ok = absurd (cc)
before_ok number (Ok a) (Ok as') all ok = (a, as', refl, refl, cc)

lines_arrays : (ls : List Numbered) (bases : List Base) (all : List ArrayValue) → arrays_of ls bases ≡ Ok all → AreArguments bases all → AreArrays all
lines_arrays [] bases all ok typed = let none : [] ≡ all = cc in subst (λ (x : List ArrayValue). AreArrays x) none tt
lines_arrays (l ∷ ls) [] all ok typed = let none : [] ≡ all = cc in subst (λ (x : List ArrayValue). AreArrays x) none tt
lines_arrays (l ∷ ls) (base ∷ bases) all ok typed =
    let b = before_ok l.number (line_value base l.line) (arrays_of ls bases) all ok in
    let each = subst (λ (x : List ArrayValue). AreArguments (base ∷ bases) x) (sym b.4) typed in
    let first = form_full base (line_at (pieces l.line)) b.0 b.2 in
    subst (λ (x : List ArrayValue). AreArrays x) b.4 ((first, each.1.0), lines_arrays ls bases b.1 b.3 each.1.1)

text_at : (t : Bool) (text : List ℕ) (bases : List Base) (all : List ArrayValue) → (if not t then Err (record { code = I2; number = 0 }) else arrays_of (data_lines 0 text) bases) ≡ Ok all → AreArguments bases all → AreArrays all
text_at false text bases all ok typed = absurd (cc)
text_at true text bases all ok typed = lines_arrays (data_lines 0 text) bases all ok typed

text_arrays : (text : List ℕ) (bases : List Base) (all : List ArrayValue) → text_value text bases ≡ Ok all → AreArrays all
text_arrays text bases all ok = text_at (length (data_lines 0 text) == length bases) text bases all ok (text_typed text bases all ok)

-- ---- arrays that were generated

element_typed : (base : Base) (m : ℕ) → m < 1000 → IsCell base (generated_element base m)
element_typed Int m small = omega (arith, ints)
element_typed Truth m small = either (m % 2 == 0)
  where
    either : (t : Bool) → IsCell Truth (if t then pos 1 else pos 0)
    either true = inr refl
    either false = inl refl

below : (n : ℕ) → n % 1000 < 1000
below n = omega arith

cells_typed : (base : Base) (p : ℕ) (ks : List ℕ) (k : ℕ) (d : ℤ) → k < length (map (λ i. generated_element base (generated_number p i)) ks)
    → IsCell base (slice_index_or (map (λ i. generated_element base (generated_number p i)) ks) k d)
cells_typed base p [] k d inside = absurd (omega (arith, inside))
cells_typed base p (i ∷ ks) zero d inside = element_typed base (generated_number p i) (below (i * 1103 + p * 12345 + 7))
cells_typed base p (i ∷ ks) (suc k) d inside = cells_typed base p ks k d (omega (arith, inside))

abbrev made_of : Base → ℕ → List ℕ → ArrayValue
made_of base p shape = record { base = base; shape = shape; cells = generated_cells base p (size shape) }

made_typed : (base : Base) (p : ℕ) (shape : List ℕ) → IsFull (made_of base p shape) × IsWellTyped (made_of base p shape)
made_typed base p shape =
    (length-map-range_with_len (λ k. generated_element base (generated_number p k)) 0 (size shape), cells_typed base p (range_with_len 0 (size shape)))

not_refused : (t : Bool) (refusal : Refusal) (x a : ArrayValue) → (if t then Err refusal else Ok x) ≡ Ok a → x ≡ a
not_refused true refusal x a ok = absurd (cc)
not_refused false refusal x a ok = cc

made_array : (base : Base) (p : ℕ) (shape : List ℕ) (a : ArrayValue) → generated_of base p shape ≡ Ok a → IsFull a × IsWellTyped a
made_array base p shape a ok =
    let same = not_refused (nat_lt 8 (length shape) || nat_lt MOST (size shape)) (record { code = I6; number = p + 1 }) (made_of base p shape) a ok in
    subst (λ (x : ArrayValue). IsFull x × IsWellTyped x) same (made_typed base p shape)

with_ok : (one : Result ArrayValue Refusal) (others : Result (List ArrayValue) Refusal) (all : List ArrayValue) → with_array one others ≡ Ok all → (a : ArrayValue) × (as' : List ArrayValue) × (one ≡ Ok a) × (others ≡ Ok as') × (a ∷ as' ≡ all)
with_ok (Err refusal) others all ok = absurd (cc)
with_ok (Ok a) (Err refusal) all ok = absurd (cc)
with_ok (Ok a) (Ok as') all ok = (a, as', refl, refl, cc)

generated_arrays : (tys : List ArrayType) (p n : ℕ) (all : List ArrayValue) → generated_all tys p n ≡ Ok all → AreArrays all
generated_arrays [] p n all ok = let none : [] ≡ all = cc in subst (λ (x : List ArrayValue). AreArrays x) none tt
generated_arrays (ty ∷ tys) p n all ok =
    let b = with_ok (generated ty p n) (generated_all tys (p + 1) n) all ok in
    let first = made_array ty.base p (generated_shape ty.part n) b.0 b.2 in
    subst (λ (x : List ArrayValue). AreArrays x) b.4 (first, generated_arrays tys (p + 1) n b.1 b.3)

-- ---- the same of the code's arrays

pub read_arrays : (r : Result (Vec ArrayValue Global) DataError) (text : List ℕ) (bases : List Base) → Tells r (text_value text bases) → IfOk r (λ v. AreArrays v.items)
read_arrays (Ok v) text bases tells = text_arrays text bases v.items tells
read_arrays (Err e) text bases tells = tt

pub made_arrays : (r : Result (Vec ArrayValue Global) DataError) (tys : List ArrayType) (n : ℕ) → Tells r (generated_all tys 0 n) → IfOk r (λ v. AreArrays v.items)
made_arrays (Ok v) tys n tells = generated_arrays tys 0 n v.items tells
made_arrays (Err e) tys n tells = tt
