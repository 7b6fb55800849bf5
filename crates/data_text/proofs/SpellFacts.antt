-- A line of the form of a line is read.
use Rattle.std.proofs.Common.{◌≡◌, ◌<◌, ◌==◌, ℕ, Bool, true, false, not, ◌&&◌, List, [], ◌∷◌, ◌++◌, map, length, refl, ap, sym, ◌∙◌, Option, Some, None, ℤ, pos, neg_ℤ, inl, inr, arith, eqb-true}
use Rattle.std.specs.Prelude.{if◌then◌else◌, option_map, option_and_then}
use Rattle.std.specs.Str.{all_ascii_digits}
use Rattle.std.specs.Char.{is_ascii_digit}
use Rattle.std.proofs.lemmas.Bool.Decides.{nat_tests}
use Rattle.sac_base.specs.declared.base.Base.{Base}
use Rattle.sac_base.specs.declared.base.Base.TheVariants.{Int, Bool as Truth}
use Rattle.data_text.specs.Pieces.{Piece, Word, Close, Colon, pieces}
use Rattle.data_text.specs.Numbers.{value_after, numeral, signed_numeral, truth_value, element, base_text, base_named}
use Rattle.data_text.specs.Lines.{LineValue, more_extents, extents_at, elements_at, colon_at, rest_at, line_at}
use Rattle.data_text.specs.Spelled.{SpellsNumber, SpellsElement, EachSpells, with_commas, HasForm}

not_none : (n : ℕ) → 0 < n → not (n == 0) ≡ true
not_none n some = grind (arith, nat_tests)

pub numeral_spelled : (w : List ℕ) (n : ℕ) → SpellsNumber w n → numeral w ≡ Some n
numeral_spelled w n s =
    ap (λ t. if t && all_ascii_digits w then Some (value_after 0 w) else None) (not_none (length w) s.some)
    ∙ ap (λ t. if t then Some (value_after 0 w) else None) s.digits
    ∙ ap Some (sym s.value)

abbrev minus_at : Bool → ℕ → List ℕ → Option ℤ
minus_at t b bs = if t then option_map (λ n. neg_ℤ (pos n)) (numeral bs) else option_map pos (numeral (b ∷ bs))

digit_no_minus : (t : Bool) (b : ℕ) (bs : List ℕ) → (b == 45) ≡ t → all_ascii_digits (b ∷ bs) ≡ true → (b == 45) ≡ false
digit_no_minus false b bs is digits = is
digit_no_minus true b bs is digits =
    let same : b ≡ 45 = eqb-true b 45 is in
    let none : false ≡ true = ap (λ c. is_ascii_digit c && all_ascii_digits bs) (sym same) ∙ digits in
    absurd (cc)

integer_spelled : (w : List ℕ) (n : ℕ) → SpellsNumber w n → signed_numeral w ≡ Some (pos n)
integer_spelled [] n s = absurd (omega (arith, s.some))
integer_spelled (b ∷ bs) n s =
    ap (λ t. minus_at t b bs) (digit_no_minus (b == 45) b bs refl s.digits)
    ∙ ap (option_map pos) (numeral_spelled (b ∷ bs) n s)

pub element_spelled : (base : Base) (w : List ℕ) (z : ℤ) → SpellsElement base w z → element base w ≡ Some z
element_spelled Int w z (inl (n, s, is)) = integer_spelled w n s ∙ ap Some (sym is)
element_spelled Int w z (inr (ds, n, word, s, is)) =
    ap signed_numeral word
    ∙ ap (option_map (λ m. neg_ℤ (pos m))) (numeral_spelled ds n s)
    ∙ ap Some (sym is)
element_spelled Truth w z (inl (word, is)) = ap truth_value word ∙ ap Some (sym is)
element_spelled Truth w z (inr (word, is)) = ap truth_value word ∙ ap Some (sym is)

more_spelled : (w : List ℕ) (ws : List (List ℕ)) (n : ℕ) (ns : List ℕ) (rest : List Piece) → SpellsNumber w n → EachSpells SpellsNumber ws ns → more_extents (with_commas (w ∷ ws) ++ Close ∷ rest) ≡ Some (n ∷ ns, rest)
more_spelled w [] n [] rest s each = ap (option_map (λ m. (m ∷ [], rest))) (numeral_spelled w n s)
more_spelled w [] n (m ∷ ns) rest s each = elim each [ ]
more_spelled w (v ∷ ws) n [] rest s each = elim each [ ]
more_spelled w (v ∷ ws) n (m ∷ ns) rest s each =
    ap (λ o. option_and_then (λ k. option_map (λ x. (k ∷ x.0, x.1)) (more_extents (with_commas (v ∷ ws) ++ Close ∷ rest))) o) (numeral_spelled w n s)
    ∙ ap (option_map (λ x. (n ∷ x.0, x.1))) (more_spelled v ws m ns rest each.0 each.1)

first_word : (w : List ℕ) (ws : List (List ℕ)) (rest : List Piece) → extents_at (with_commas (w ∷ ws) ++ rest) ≡ more_extents (with_commas (w ∷ ws) ++ rest)
first_word w [] rest = refl
first_word w (v ∷ ws) rest = refl

extents_spelled : (ws : List (List ℕ)) (ns : List ℕ) (rest : List Piece) → EachSpells SpellsNumber ws ns → extents_at (with_commas ws ++ Close ∷ rest) ≡ Some (ns, rest)
extents_spelled [] [] rest each = refl
extents_spelled [] (n ∷ ns) rest each = elim each [ ]
extents_spelled (w ∷ ws) [] rest each = elim each [ ]
extents_spelled (w ∷ ws) (n ∷ ns) rest each = first_word w ws (Close ∷ rest) ∙ more_spelled w ws n ns rest each.0 each.1

elements_spelled : (base : Base) (ws : List (List ℕ)) (zs : List ℤ) → EachSpells (SpellsElement base) ws zs → elements_at base (map Word ws) ≡ Some zs
elements_spelled base [] [] each = refl
elements_spelled base [] (z ∷ zs) each = elim each [ ]
elements_spelled base (w ∷ ws) [] each = elim each [ ]
elements_spelled base (w ∷ ws) (z ∷ zs) each =
    ap (λ o. option_and_then (λ y. option_map (λ ys. y ∷ ys) (elements_at base (map Word ws))) o) (element_spelled base w z each.0)
    ∙ ap (option_map (λ ys. z ∷ ys)) (elements_spelled base ws zs each.1)

named : (base : Base) → base_named (base_text base) ≡ Some base
named Int = refl
named Truth = refl

abbrev value_of : Base → List ℕ → List ℤ → LineValue
value_of base ns zs = record { base = base; extents = ns; elements = zs }

-- what has the form is read
pub form_read : (line : List ℕ) (v : LineValue) → HasForm line v → line_at (pieces line) ≡ Some v
form_read line v h =
    ap line_at h.words
    ∙ ap (λ o. option_and_then (λ (x : Base × List Piece). rest_at x.0 x.1) (option_map (λ base. (base, with_commas h.extents ++ Close ∷ Colon ∷ map Word h.elements)) o)) (named v.base)
    ∙ ap (λ o. option_and_then (λ (x : List ℕ × List Piece). option_map (λ zs. value_of v.base x.0 zs) (colon_at v.base x.1)) o) (extents_spelled h.extents v.extents (Colon ∷ map Word h.elements) h.extents_are)
    ∙ ap (option_map (λ zs. value_of v.base v.extents zs)) (elements_spelled v.base h.elements v.elements h.elements_are)
