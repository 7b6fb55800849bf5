-- Arrays that were read may be arguments.
use Rattle.std.proofs.Common.{◌≡◌, ◌<◌, ◌^◌, ◌==◌, ℕ, zero, suc, Bool, true, false, not, ◌&&◌, List, [], ◌∷◌, map, length, refl, subst, Option, Some, None, Result, Ok, Err, ℤ, pos, negsuc, inl, inr, arith, slice_index_or, rules, Vec, Global}
use Rattle.std.specs.Prelude.{if◌then◌else◌, IfOk}
use Rattle.std.specs.List.{list_all}
use Rattle.std.proofs.lemmas.Bool.Decides.{nat_tests}
use Rattle.std.proofs.lemmas.Int.{ints}
use Rattle.sac_base.specs.declared.base.Base.{Base}
use Rattle.sac_base.specs.declared.base.Base.TheVariants.{Int, Bool as Truth}
use Rattle.sac_base.specs.Arrays.{ArrayValue, IsWellTyped, IsCell, size, same_base}
use Rattle.data_text.specs.declared.error.DataCode.{DataCode}
use Rattle.data_text.specs.declared.error.DataCode.TheVariants.{I2, I3, I4, I5, I6}
use Rattle.data_text.specs.Pieces.{pieces}
use Rattle.data_text.specs.Numbers.{in_range}
use Rattle.data_text.specs.Lines.{LineValue, line_at, is_in_range, is_too_large, judged_form, line_value}
use Rattle.data_text.specs.Texts.{Numbered, Refusal, data_lines, before_others, arrays_of, text_value}
use Rattle.data_text.specs.Spelled.{SpellsElement, EachSpells}
use Rattle.data_text.specs.declared.error.DataError.{DataError}
use Rattle.data_text.specs.Found.{Tells}
use Rattle.data_text.specs.Typed.{AreArguments}
use Rattle.data_text.proofs.FormFacts.{read_form}
use Rattle.data_text.proofs.PrintFacts.{AreCells}

both_true : (s t : Bool) → (s && t) ≡ true → (s ≡ true) × (t ≡ true)
both_true true t both = (refl, both)
both_true false t both = absurd (cc)

-- what holds where no test refuses
record Passed (p w : Bool) (x a : ArrayValue) : Type 0 where
  range : p ≡ true
  base : w ≡ true
  same : x ≡ a

passed : (p r u w : Bool) (x a : ArrayValue) → (if not p then Err I3 else (if r then Err I6 else (if not u then Err I4 else (if not w then Err I5 else Ok x)))) ≡ Ok a → Passed p w x a
passed false r u w x a ok = absurd (cc)
passed true true u w x a ok = absurd (cc)
passed true false false w x a ok = absurd (cc)
passed true false true false x a ok = absurd (cc)
passed true false true true x a ok = record { range = refl; base = refl; same = cc }

base_same : (a b : Base) → same_base a b ≡ true → a ≡ b
base_same Int Int is = refl
base_same Truth Truth is = refl
base_same Int Truth is = absurd (cc)
base_same Truth Int is = absurd (cc)

cell_of : (z : ℤ) → in_range z ≡ true → IsCell Int z
cell_of (pos n) is = let low : n < 2 ^ 31 = grind (arith, nat_tests) in omega (arith, ints)
cell_of (negsuc n) is = let low : n < 2 ^ 31 = grind (arith, nat_tests) in omega (arith, ints)

cells_of : (base : Base) (ws : List (List ℕ)) (zs : List ℤ) → EachSpells (SpellsElement base) ws zs → list_all in_range zs ≡ true → AreCells base zs
cells_of base [] [] each range = tt
cells_of base [] (z ∷ zs) each range = elim each [ ]
cells_of base (w ∷ ws) [] each range = elim each [ ]
cells_of Int (w ∷ ws) (z ∷ zs) each range =
    let parts = both_true (in_range z) (list_all in_range zs) range in
    (cell_of z parts.0, cells_of Int ws zs each.1 parts.1)
cells_of Truth (w ∷ ws) (z ∷ zs) (inl spelled, rest) range =
    let parts = both_true (in_range z) (list_all in_range zs) range in
    (inr spelled.1, cells_of Truth ws zs rest parts.1)
cells_of Truth (w ∷ ws) (z ∷ zs) (inr spelled, rest) range =
    let parts = both_true (in_range z) (list_all in_range zs) range in
    (inl spelled.1, cells_of Truth ws zs rest parts.1)

each_cell : (base : Base) (zs : List ℤ) → AreCells base zs → (k : ℕ) (d : ℤ) → k < length zs → IsCell base (slice_index_or zs k d)
each_cell base [] cells k d inside = absurd (omega (arith, inside))
each_cell base (z ∷ zs) cells zero d inside = cells.0
each_cell base (z ∷ zs) cells (suc k) d inside = each_cell base zs cells.1 k d (omega (arith, inside))

-- an array of a base, with elements of that base
abbrev IsFor : Base → ArrayValue → Type 0
IsFor base a = (a.base ≡ base) × IsWellTyped a

array_of : LineValue → ArrayValue
array_of v = record { base = v.base; shape = v.extents; cells = v.elements }

form_typed : (base : Base) (line : List ℕ) (o : Option LineValue) (a : ArrayValue) → line_at (pieces line) ≡ o → judged_form base o ≡ Ok a → IsFor base a
unfolding array_of
form_typed base line None a is ok = absurd (cc)
form_typed base line (Some v) a is ok =
    let h = read_form line v is in
    let p = passed (is_in_range v) (is_too_large v) (length v.elements == size v.extents) (same_base v.base base) (array_of v) a ok in
    let range = both_true (list_all in_range (map pos v.extents)) (list_all in_range v.elements) p.range in
    let cells = cells_of v.base h.elements v.elements h.elements_are range.1 in
    let typed : IsFor base (array_of v) = (base_same v.base base p.base, each_cell v.base v.elements cells) in
    subst (λ (x : ArrayValue). IsFor base x) p.same typed

line_typed : (base : Base) (line : List ℕ) (a : ArrayValue) → line_value base line ≡ Ok a → IsFor base a
line_typed base line a ok = form_typed base line (line_at (pieces line)) a refl ok

before_ok : (number : ℕ) (one : Result ArrayValue DataCode) (others : Result (List ArrayValue) Refusal) (all : List ArrayValue) → before_others number one others ≡ Ok all → (a : ArrayValue) × (as' : List ArrayValue) × (one ≡ Ok a) × (others ≡ Ok as') × (a ∷ as' ≡ all)
before_ok number (Err code) others all ok = absurd (cc)
before_ok number (Ok a) (Err refusal) all ok = absurd (cc)
before_ok number (Ok a) (Ok as') all ok = (a, as', refl, refl, cc)

lines_typed : (ls : List Numbered) (bases : List Base) (all : List ArrayValue) → length ls ≡ length bases → arrays_of ls bases ≡ Ok all → AreArguments bases all
lines_typed [] [] all same ok = let none : [] ≡ all = cc in subst (λ (x : List ArrayValue). AreArguments [] x) none tt
lines_typed [] (base ∷ bases) all same ok = absurd (omega (arith, same))
lines_typed (l ∷ ls) [] all same ok = absurd (omega (arith, same))
lines_typed (l ∷ ls) (base ∷ bases) all same ok =
    let b = before_ok l.number (line_value base l.line) (arrays_of ls bases) all ok in
    let first = line_typed base l.line b.0 b.2 in
    let rest = lines_typed ls bases b.1 (omega (arith, same)) b.3 in
    subst (λ (x : List ArrayValue). AreArguments (base ∷ bases) x) b.4 (first.0, (first.1, rest))

text_at : (t : Bool) (text : List ℕ) (bases : List Base) (all : List ArrayValue) → (length (data_lines 0 text) == length bases) ≡ t → (if not t then Err (record { code = I2; number = 0 }) else arrays_of (data_lines 0 text) bases) ≡ Ok all → AreArguments bases all
text_at false text bases all is ok = absurd (cc)
text_at true text bases all is ok =
    let same : length (data_lines 0 text) ≡ length bases = grind (arith, nat_tests) in
    lines_typed (data_lines 0 text) bases all same ok

-- the arrays of a text may be arguments of parameters of these bases
pub text_typed : (text : List ℕ) (bases : List Base) (all : List ArrayValue) → text_value text bases ≡ Ok all → AreArguments bases all
text_typed text bases all ok = text_at (length (data_lines 0 text) == length bases) text bases all refl ok

-- the same of what was read
pub read_typed : (text : List ℕ) (bases : List Base) (read : Result (Vec ArrayValue Global) DataError) → Tells read (text_value text bases) → IfOk read (λ arrays. AreArguments bases arrays.items)
read_typed text bases (Ok arrays) tells = text_typed text bases arrays.items tells
read_typed text bases (Err error) tells = search rules
