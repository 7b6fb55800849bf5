-- The line of an array has the form of that array, and no byte of it ends a line.
use Rattle.std.proofs.Common.{◌≡◌, ◌<◌, ◌≤◌, ◌^◌, ◌==◌, ℕ, suc, Bool, true, false, not, ◌&&◌, ◌||◌, List, [], ◌∷◌, ◌++◌, map, length, refl, ap, sym, ◌∙◌, Some, None, ℤ, pos, negsuc, inl, inr, arith, append_assoc, rules}
use Rattle.std.specs.Prelude.{if◌then◌else◌, is_some}
use Rattle.std.specs.List.{list_all, flat_map}
use Rattle.std.specs.Str.{all_ascii_digits}
use Rattle.std.specs.Char.{is_ascii_digit}
use Rattle.std.specs.Fmt.{decimal, signed_decimal}
use Rattle.std.proofs.lemmas.Fmt.{digits_decimal, digits_value-decimal, decimal_nonempty}
use Rattle.std.proofs.lemmas.Str.Parse.{IsNumeralModel, numerals_by_fold}
use Rattle.std.proofs.lemmas.Bool.Decides.{nat_tests}
use Rattle.sac_base.specs.declared.base.Base.{Base}
use Rattle.sac_base.specs.declared.base.Base.TheVariants.{Int, Bool as Truth}
use Rattle.sac_base.specs.Arrays.{IsCell, is_true}
use Rattle.data_text.specs.Pieces.{Word, Open, Comma, Close, Colon, is_blank, sign, ends_word, starts_word, spell, pieces}
use Rattle.data_text.specs.Numbers.{value_after, base_text, truth_text}
use Rattle.data_text.specs.Printed.{further, commas, element_text, spaced}
use Rattle.data_text.specs.Spelled.{SpellsNumber, SpellsElement, EachSpells, with_commas, HasForm}
use Rattle.data_text.proofs.PieceFacts.{spelled}

own : IsNumeralModel (λ ds. all_ascii_digits ds ≡ true) (value_after 0)
own = numerals_by_fold _ (search rules) value_after (search rules)

-- a number in decimal spells it
pub decimal_spells : (n : ℕ) → n < 2 ^ 64 → SpellsNumber (decimal n) n
decimal_spells n fits = record {
  some = decimal_nonempty n fits;
  digits = digits_decimal own n fits;
  value = sym (digits_value-decimal own n fits);
}

-- ---- words and signs of a text

-- a byte of a word
abbrev in_word : ℕ → Bool
in_word b = not (ends_word b)

digit_in_word : (b : ℕ) → is_ascii_digit b ≡ true → in_word b ≡ true
unfolding ends_word is_blank sign
digit_in_word b digit =
    let low : 48 ≤ b = grind (arith, nat_tests) in
    let high : b ≤ 57 = grind (arith, nat_tests) in
    let e32 : (b == 32) ≡ false = grind (arith, nat_tests, low) in
    let e9 : (b == 9) ≡ false = grind (arith, nat_tests, low) in
    let e91 : (b == 91) ≡ false = grind (arith, nat_tests, high) in
    let e44 : (b == 44) ≡ false = grind (arith, nat_tests, low) in
    let e93 : (b == 93) ≡ false = grind (arith, nat_tests, high) in
    let e58 : (b == 58) ≡ false = grind (arith, nat_tests, high) in
    (λ i. not ((e32 i || e9 i) || is_some (if e91 i then Some Open else (if e44 i then Some Comma else (if e93 i then Some Close else (if e58 i then Some Colon else None))))))

both_true : (s t : Bool) → (s && t) ≡ true → (s ≡ true) × (t ≡ true)
both_true true t both = (refl, both)
both_true false t both = absurd (cc)

not_true : (t : Bool) → not t ≡ true → t ≡ false
not_true true is = absurd (cc)
not_true false is = refl

digits_in_word : (ds : List ℕ) → all_ascii_digits ds ≡ true → list_all in_word ds ≡ true
digits_in_word [] digits = refl
digits_in_word (d ∷ ds) digits =
    let parts = both_true (is_ascii_digit d) (all_ascii_digits ds) digits in
    (λ i. digit_in_word d parts.0 i && list_all in_word ds) ∙ digits_in_word ds parts.1

word_whole : (w rest : List ℕ) → 0 < length w → list_all in_word w ≡ true → starts_word rest ≡ false → pieces (w ++ rest) ≡ Word w ∷ pieces rest
word_whole [] rest some all end = absurd (omega (arith, some))
word_whole (b ∷ []) rest some all end =
    let parts = both_true (in_word b) true all in
    spelled b rest (not_true (ends_word b) parts.0) ∙ ap (λ t. spell b t (pieces rest)) end
word_whole (b ∷ c ∷ w) rest some all end =
    let parts = both_true (in_word b) (in_word c && list_all in_word w) all in
    let next = both_true (in_word c) (list_all in_word w) parts.1 in
    spelled b (c ∷ (w ++ rest)) (not_true (ends_word b) parts.0)
    ∙ (λ i. spell b (next.0 i) (word_whole (c ∷ w) rest (omega arith) parts.1 end i))

open_first : (rest : List ℕ) → pieces (91 ∷ rest) ≡ Open ∷ pieces rest
unfolding is_blank sign
open_first rest = refl

comma_first : (rest : List ℕ) → pieces (44 ∷ rest) ≡ Comma ∷ pieces rest
unfolding is_blank sign
comma_first rest = refl

close_first : (rest : List ℕ) → pieces (93 ∷ rest) ≡ Close ∷ pieces rest
unfolding is_blank sign
close_first rest = refl

colon_first : (rest : List ℕ) → pieces (58 ∷ rest) ≡ Colon ∷ pieces rest
unfolding is_blank sign
colon_first rest = refl

space_first : (rest : List ℕ) → pieces (32 ∷ rest) ≡ pieces rest
unfolding is_blank
space_first rest = refl

open_ends : (rest : List ℕ) → starts_word (91 ∷ rest) ≡ false
unfolding ends_word is_blank sign
open_ends rest = refl

comma_ends : (rest : List ℕ) → starts_word (44 ∷ rest) ≡ false
unfolding ends_word is_blank sign
comma_ends rest = refl

close_ends : (rest : List ℕ) → starts_word (93 ∷ rest) ≡ false
unfolding ends_word is_blank sign
close_ends rest = refl

space_ends : (rest : List ℕ) → starts_word (32 ∷ rest) ≡ false
unfolding ends_word is_blank sign
space_ends rest = refl

-- ---- the parts of a line

decimal_word : (n : ℕ) (rest : List ℕ) → n < 2 ^ 64 → starts_word rest ≡ false → pieces (decimal n ++ rest) ≡ Word (decimal n) ∷ pieces rest
decimal_word n rest fits end = word_whole (decimal n) rest (decimal_nonempty n fits) (digits_in_word (decimal n) (digits_decimal own n fits)) end

-- each number has a decimal of at most 20 digits
abbrev pub AreSmall : List ℕ → Type 0
AreSmall [] = Unit {0}
AreSmall (n ∷ ns) = (n < 2 ^ 64) × AreSmall ns

further_pieces : (n : ℕ) (ns rest : List ℕ) → n < 2 ^ 64 → AreSmall ns → pieces ((decimal n ++ flat_map further ns) ++ 93 ∷ rest) ≡ with_commas (map decimal (n ∷ ns)) ++ Close ∷ pieces rest
further_pieces n [] rest fits small =
    ap pieces (append_assoc (decimal n) [] (93 ∷ rest))
    ∙ decimal_word n (93 ∷ rest) fits (close_ends rest)
    ∙ ap (λ ps. Word (decimal n) ∷ ps) (close_first rest)
further_pieces n (m ∷ ns) rest fits small =
    ap pieces (append_assoc (decimal n) (flat_map further (m ∷ ns)) (93 ∷ rest))
    ∙ decimal_word n (44 ∷ ((decimal m ++ flat_map further ns) ++ 93 ∷ rest)) fits (comma_ends ((decimal m ++ flat_map further ns) ++ 93 ∷ rest))
    ∙ ap (λ ps. Word (decimal n) ∷ ps) (comma_first ((decimal m ++ flat_map further ns) ++ 93 ∷ rest))
    ∙ ap (λ ps. Word (decimal n) ∷ Comma ∷ ps) (further_pieces m ns rest small.0 small.1)

commas_pieces : (ns rest : List ℕ) → AreSmall ns → pieces (commas ns ++ 93 ∷ rest) ≡ with_commas (map decimal ns) ++ Close ∷ pieces rest
commas_pieces [] rest small = close_first rest
commas_pieces (n ∷ ns) rest small = further_pieces n ns rest small.0 small.1

-- an element's text is a word
record IsWord (w : List ℕ) : Type 0 where
  some : 0 < length w
  all : list_all in_word w ≡ true

truth_word : (b : Bool) → IsWord (truth_text b)
unfolding ends_word is_blank sign
truth_word true = record { some = omega arith; all = refl }
truth_word false = record { some = omega arith; all = refl }

minus_word : in_word 45 ≡ true
unfolding ends_word is_blank sign
minus_word = refl

integer_word : (z : ℤ) → IsCell Int z → IsWord (signed_decimal z)
integer_word (pos n) fits = let s = decimal_spells n (omega (arith, fits)) in record { some = s.some; all = digits_in_word (decimal n) s.digits }
integer_word (negsuc n) fits = let s = decimal_spells (suc n) (omega (arith, fits)) in record { some = omega arith; all = (λ i. minus_word i && list_all in_word (decimal (suc n))) ∙ digits_in_word (decimal (suc n)) s.digits }

element_word : (base : Base) (z : ℤ) → IsCell base z → IsWord (element_text base z)
element_word Int z fits = integer_word z fits
element_word Truth z fits = truth_word (is_true z)

abbrev pub AreCells : Base → List ℤ → Type 0
AreCells base [] = Unit {0}
AreCells base (z ∷ zs) = IsCell base z × AreCells base zs

cells_end : (base : Base) (zs : List ℤ) → starts_word (flat_map (spaced base) zs) ≡ false
cells_end base [] = refl
cells_end base (z ∷ zs) = space_ends (element_text base z ++ flat_map (spaced base) zs)

cells_pieces : (base : Base) (zs : List ℤ) → AreCells base zs → pieces (flat_map (spaced base) zs) ≡ map Word (map (element_text base) zs)
cells_pieces base [] cells = refl
cells_pieces base (z ∷ zs) cells =
    let w = element_word base z cells.0 in
    space_first (element_text base z ++ flat_map (spaced base) zs)
    ∙ word_whole (element_text base z) (flat_map (spaced base) zs) w.some w.all (cells_end base zs)
    ∙ ap (λ ps. Word (element_text base z) ∷ ps) (cells_pieces base zs cells.1)

base_word : (base : Base) → IsWord (base_text base)
unfolding ends_word is_blank sign
base_word Int = record { some = omega arith; all = refl }
base_word Truth = record { some = omega arith; all = refl }

-- the line without its line feed
abbrev pub bare_line : Base → List ℕ → List ℤ → List ℕ
bare_line base ns zs = base_text base ++ 91 ∷ (commas ns ++ 93 ∷ 58 ∷ flat_map (spaced base) zs)

line_pieces : (base : Base) (ns : List ℕ) (zs : List ℤ) → AreSmall ns → AreCells base zs → pieces (bare_line base ns zs) ≡ Word (base_text base) ∷ Open ∷ (with_commas (map decimal ns) ++ Close ∷ Colon ∷ map Word (map (element_text base) zs))
line_pieces base ns zs small cells =
    let w = base_word base in
    let cut = flat_map (spaced base) zs in
    word_whole (base_text base) (91 ∷ (commas ns ++ 93 ∷ 58 ∷ cut)) w.some w.all (open_ends (commas ns ++ 93 ∷ 58 ∷ cut))
    ∙ ap (λ ps. Word (base_text base) ∷ ps) (open_first (commas ns ++ 93 ∷ 58 ∷ cut))
    ∙ ap (λ ps. Word (base_text base) ∷ Open ∷ ps) (commas_pieces ns (58 ∷ cut) small)
    ∙ ap (λ ps. Word (base_text base) ∷ Open ∷ (with_commas (map decimal ns) ++ Close ∷ ps)) (colon_first cut ∙ ap (λ ps. Colon ∷ ps) (cells_pieces base zs cells))

decimals_spell : (ns : List ℕ) → AreSmall ns → EachSpells SpellsNumber (map decimal ns) ns
decimals_spell [] small = tt
decimals_spell (n ∷ ns) small = (decimal_spells n small.0, decimals_spell ns small.1)

element_spells : (base : Base) (z : ℤ) → IsCell base z → SpellsElement base (element_text base z) z
element_spells Int (pos n) fits = inl (n, decimal_spells n (omega (arith, fits)), refl)
element_spells Int (negsuc n) fits = inr (decimal (suc n), suc n, refl, decimal_spells (suc n) (omega (arith, fits)), refl)
element_spells Truth z (inl none) = inr (ap (λ y. truth_text (is_true y)) none, none)
element_spells Truth z (inr one) = inl (ap (λ y. truth_text (is_true y)) one, one)

elements_spell : (base : Base) (zs : List ℤ) → AreCells base zs → EachSpells (SpellsElement base) (map (element_text base) zs) zs
elements_spell base [] cells = tt
elements_spell base (z ∷ zs) cells = (element_spells base z cells.0, elements_spell base zs cells.1)

-- the line of an array has the form of that array
pub line_has_form : (base : Base) (ns : List ℕ) (zs : List ℤ) → AreSmall ns → AreCells base zs → HasForm (bare_line base ns zs) (record { base = base; extents = ns; elements = zs })
line_has_form base ns zs small cells = record {
  extents = map decimal ns;
  elements = map (element_text base) zs;
  words = line_pieces base ns zs small cells;
  extents_are = decimals_spell ns small;
  elements_are = elements_spell base zs cells;
}
