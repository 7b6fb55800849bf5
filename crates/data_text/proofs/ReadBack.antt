-- The line of an array is read as that array.
use Rattle.std.proofs.Common.{◌≡◌, ◌<◌, ◌≤◌, ◌^◌, ◌==◌, ◌-◌, ℕ, zero, suc, Bool, true, false, not, ◌&&◌, ◌||◌, List, [], ◌∷◌, ◌++◌, map, take, length, refl, ap, sym, ◌∙◌, subst, Ok, Err, ℤ, pos, negsuc, inl, inr, arith, append_assoc, lt-ltb, le-ltb}
use Rattle.std.specs.Prelude.{if◌then◌else◌, nat_le, All, slice_index}
use Rattle.std.specs.List.{list_all, flat_map, slice_split, onto_first}
use Rattle.std.specs.Str.{all_ascii_digits}
use Rattle.std.specs.Str.Lines.{strip_carriage_return}
use Rattle.std.specs.Char.{is_ascii_digit}
use Rattle.std.specs.Fmt.{decimal}
use Rattle.std.proofs.lemmas.Bool.Decides.{nat_tests}
use Rattle.sac_base.specs.declared.base.Base.{Base}
use Rattle.sac_base.specs.declared.base.Base.TheVariants.{Int, Bool as Truth}
use Rattle.sac_base.specs.Arrays.{ArrayValue, IsArray, IsWellTyped, IsCell, is_true, size, MOST, same_base}
use Rattle.data_text.specs.declared.error.DataCode.TheVariants.{I2, I3, I4, I5, I6}
use Rattle.data_text.specs.Pieces.{is_blank}
use Rattle.data_text.specs.Numbers.{base_text, truth_text, in_range}
use Rattle.data_text.specs.Lines.{judged, judged_form}
use Rattle.data_text.specs.Texts.{is_passed_over, with_line, data_lines, data_lines_of, before_others, arrays_of, text_value}
use Rattle.data_text.specs.Printed.{further, commas, element_text, spaced, line_text, array_line}
use Rattle.data_text.proofs.SpellFacts.{form_read}
use Rattle.data_text.proofs.PrintFacts.{decimal_spells, AreSmall, AreCells, bare_line, line_has_form}

-- ---- no byte of a line ends a line

abbrev visible : ℕ → Bool
visible b = nat_le 32 b

both_true : (s t : Bool) → (s && t) ≡ true → (s ≡ true) × (t ≡ true)
both_true true t both = (refl, both)
both_true false t both = absurd (cc)

visible_append : (xs ys : List ℕ) → list_all visible xs ≡ true → list_all visible ys ≡ true → list_all visible (xs ++ ys) ≡ true
visible_append [] ys front back = back
visible_append (x ∷ xs) ys front back =
    let parts = both_true (visible x) (list_all visible xs) front in
    (λ i. parts.0 i && list_all visible (xs ++ ys)) ∙ visible_append xs ys parts.1 back

visible_digits : (ds : List ℕ) → all_ascii_digits ds ≡ true → list_all visible ds ≡ true
visible_digits [] digits = refl
visible_digits (d ∷ ds) digits =
    let parts = both_true (is_ascii_digit d) (all_ascii_digits ds) digits in
    let digit : is_ascii_digit d ≡ true = parts.0 in
    let seen : visible d ≡ true = grind (arith, nat_tests) in
    (λ i. seen i && list_all visible ds) ∙ visible_digits ds parts.1

visible_decimal : (n : ℕ) → n < 2 ^ 64 → list_all visible (decimal n) ≡ true
visible_decimal n fits = visible_digits (decimal n) (decimal_spells n fits).digits

visible_further : (ns : List ℕ) → AreSmall ns → list_all visible (flat_map further ns) ≡ true
visible_further [] small = refl
visible_further (n ∷ ns) small = visible_append (further n) (flat_map further ns) (visible_decimal n small.0) (visible_further ns small.1)

visible_commas : (ns : List ℕ) → AreSmall ns → list_all visible (commas ns) ≡ true
visible_commas [] small = refl
visible_commas (n ∷ ns) small = visible_append (decimal n) (flat_map further ns) (visible_decimal n small.0) (visible_further ns small.1)

visible_truth : (b : Bool) → list_all visible (truth_text b) ≡ true
visible_truth true = refl
visible_truth false = refl

visible_element : (base : Base) (z : ℤ) → IsCell base z → list_all visible (element_text base z) ≡ true
visible_element Int (pos n) fits = visible_decimal n (omega (arith, fits))
visible_element Int (negsuc n) fits = visible_decimal (suc n) (omega (arith, fits))
visible_element Truth z fits = visible_truth (is_true z)

visible_cells : (base : Base) (zs : List ℤ) → AreCells base zs → list_all visible (flat_map (spaced base) zs) ≡ true
visible_cells base [] cells = refl
visible_cells base (z ∷ zs) cells = visible_append (spaced base z) (flat_map (spaced base) zs) (visible_element base z cells.0) (visible_cells base zs cells.1)

visible_base : (base : Base) → list_all visible (base_text base) ≡ true
visible_base Int = refl
visible_base Truth = refl

visible_line : (base : Base) (ns : List ℕ) (zs : List ℤ) → AreSmall ns → AreCells base zs → list_all visible (bare_line base ns zs) ≡ true
visible_line base ns zs small cells =
    visible_append (base_text base) (91 ∷ (commas ns ++ 93 ∷ 58 ∷ flat_map (spaced base) zs)) (visible_base base)
    (visible_append (commas ns) (93 ∷ 58 ∷ flat_map (spaced base) zs) (visible_commas ns small) (visible_cells base zs cells))

-- ---- the lines of the text

abbrev feed : ℕ → Bool
feed b = b == 10

one_line : (xs : List ℕ) → list_all visible xs ≡ true → slice_split feed (xs ++ 10 ∷ []) ≡ xs ∷ [] ∷ []
one_line [] all = refl
one_line (x ∷ xs) all =
    let parts = both_true (visible x) (list_all visible xs) all in
    let seen : visible x ≡ true = parts.0 in
    let other : (x == 10) ≡ false = grind (arith, nat_tests) in
    (λ i. if other i then [] ∷ slice_split feed (xs ++ 10 ∷ []) else onto_first x (slice_split feed (xs ++ 10 ∷ [])))
    ∙ ap (onto_first x) (one_line xs parts.1)

no_return : (xs : List ℕ) (i : ℕ) → list_all visible xs ≡ true → (slice_index xs i == 13) ≡ false
no_return [] i all = refl
no_return (x ∷ xs) zero all =
    let parts = both_true (visible x) (list_all visible xs) all in
    let seen : visible x ≡ true = parts.0 in
    grind (arith, nat_tests)
no_return (x ∷ xs) (suc i) all = no_return xs i (both_true (visible x) (list_all visible xs) all).1

kept_whole : (xs : List ℕ) → list_all visible xs ≡ true → strip_carriage_return xs ≡ xs
kept_whole xs all = ap (λ t. if t then take (length xs - 1) xs else xs) (no_return xs (length xs - 1) all)

not_passed : (base : Base) (ns : List ℕ) (zs : List ℤ) → is_passed_over (bare_line base ns zs) ≡ false
unfolding is_passed_over is_blank
not_passed Int ns zs = refl
not_passed Truth ns zs = refl

nothing_more : (before : ℕ) → with_line before (strip_carriage_return []) [] ≡ []
unfolding is_passed_over
nothing_more before = refl

line_is : (base : Base) (ns : List ℕ) (zs : List ℤ) → line_text base ns zs ≡ bare_line base ns zs ++ 10 ∷ []
line_is base ns zs =
    let cut = flat_map (spaced base) zs in
    append_assoc (base_text base) (91 ∷ (commas ns ++ 93 ∷ [])) (58 ∷ (cut ++ 10 ∷ []))
    ∙ ap (λ t. base_text base ++ 91 ∷ t) (append_assoc (commas ns) (93 ∷ []) (58 ∷ (cut ++ 10 ∷ [])) ∙ sym (append_assoc (commas ns) (93 ∷ 58 ∷ cut) (10 ∷ [])))
    ∙ sym (append_assoc (base_text base) (91 ∷ (commas ns ++ 93 ∷ 58 ∷ cut)) (10 ∷ []))

lines_are : (base : Base) (ns : List ℕ) (zs : List ℤ) → AreSmall ns → AreCells base zs → data_lines 0 (line_text base ns zs) ≡ record { number = 1; line = bare_line base ns zs } ∷ []
lines_are base ns zs small cells =
    let line = bare_line base ns zs in
    let seen = visible_line base ns zs small cells in
    ap (data_lines 0) (line_is base ns zs)
    ∙ ap (data_lines_of 0) (one_line line seen)
    ∙ (λ i. with_line 0 (kept_whole line seen i) (nothing_more 1 i))
    ∙ ap (λ t. if t then [] else (record { number = 1; line = line }) ∷ []) (not_passed base ns zs)

-- ---- the array

all_small : (ns : List ℕ) → All (λ n. n < 2 ^ 31) ns → AreSmall ns
all_small [] each = tt
all_small (n ∷ ns) each = (let first : n < 2 ^ 31 = each 0 0 (omega arith) in omega arith, all_small ns (λ k d inside. each (suc k) d (omega (arith, inside))))

extents_in_range : (ns : List ℕ) → All (λ n. n < 2 ^ 31) ns → list_all in_range (map pos ns) ≡ true
extents_in_range [] each = refl
extents_in_range (n ∷ ns) each =
    (λ i. lt-ltb n (2 ^ 31) (each 0 0 (omega arith)) i && list_all in_range (map pos ns))
    ∙ extents_in_range ns (λ k d inside. each (suc k) d (omega (arith, inside)))

cell_in_range : (base : Base) (z : ℤ) → IsCell base z → in_range z ≡ true
cell_in_range Int (pos n) fits = lt-ltb n (2 ^ 31) (omega (arith, fits))
cell_in_range Int (negsuc n) fits = lt-ltb n (2 ^ 31) (omega (arith, fits))
cell_in_range Truth z (inl none) = ap in_range none
cell_in_range Truth z (inr one) = ap in_range one

all_cells : (base : Base) (zs : List ℤ) → All (IsCell base) zs → AreCells base zs
all_cells base [] each = tt
all_cells base (z ∷ zs) each = (each 0 (pos 0) (omega arith), all_cells base zs (λ k d inside. each (suc k) d (omega (arith, inside))))

cells_in_range : (base : Base) (zs : List ℤ) → AreCells base zs → list_all in_range zs ≡ true
cells_in_range base [] cells = refl
cells_in_range base (z ∷ zs) cells = (λ i. cell_in_range base z cells.0 i && list_all in_range zs) ∙ cells_in_range base zs cells.1

own_base : (base : Base) → same_base base base ≡ true
own_base Int = refl
own_base Truth = refl

judged_again : (a : ArrayValue) → IsArray a → IsWellTyped a → judged a.base (record { base = a.base; extents = a.shape; elements = a.cells }) ≡ Ok a
judged_again a array typed =
    let p = extents_in_range a.shape array.shape.each in
    let q = cells_in_range a.base a.cells (all_cells a.base a.cells typed) in
    let s = le-ltb 8 (length a.shape) array.shape.rank in
    let few : length a.cells ≤ MOST = subst (λ n. n ≤ MOST) (sym array.full) array.most in
    let t = le-ltb MOST (length a.cells) few in
    let full : length a.cells ≡ size a.shape = array.full in
    let u : (length a.cells == size a.shape) ≡ true = grind (arith, nat_tests) in
    let w = own_base a.base in
    (λ i. if not (p i && q i) then Err I3 else (if s i || t i then Err I6 else (if not (u i) then Err I4 else (if not (w i) then Err I5 else Ok a))))

-- the line of an array is read as that array
pub read_back : (a : ArrayValue) → IsArray a → IsWellTyped a → text_value (array_line a) (a.base ∷ []) ≡ Ok (a ∷ [])
read_back a array typed =
    let small = all_small a.shape array.shape.each in
    let cells = all_cells a.base a.cells typed in
    let line = bare_line a.base a.shape a.cells in
    ap (λ ls. if not (length ls == 1) then Err (record { code = I2; number = 0 }) else arrays_of ls (a.base ∷ [])) (lines_are a.base a.shape a.cells small cells)
    ∙ ap (λ o. before_others 1 (judged_form a.base o) (Ok [])) (form_read line (record { base = a.base; extents = a.shape; elements = a.cells }) (line_has_form a.base a.shape a.cells small cells))
    ∙ ap (λ r. before_others 1 r (Ok [])) (judged_again a array typed)
