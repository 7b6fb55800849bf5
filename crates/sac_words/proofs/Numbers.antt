-- What a parsed number is.
use Rattle.std.proofs.Common.{◌≡◌, ◌≢◌, ◌^◌, ◌<◌, ◌≤◌, ℕ, Bool, true, false, cond, List, [], ◌∷◌, length, get_or, Some, None, refl, sym, ap, subst, ◌∙◌, arith, le-leb, ◌&&◌, ◌⊎◌, inl, inr, eqb, eq-eqb, leb}
use Rattle.std.proofs.lemmas.Bool.{leb-true, eqb-true}
use Rattle.std.specs.List.{starts_with}
use Rattle.std.specs.Str.{all_ascii_digits}
use Rattle.std.specs.Str.Parse.{AllDigits, IsNumeral, digits_value, without_leading_plus}
use Rattle.std.proofs.lemmas.Str.Parse.{digit_from_value, without_leading_plus_none, tells_all_ascii_digits, numerals_by_value, IsNumeralModel}
use Rattle.sac_words.specs.Meaning.{is_number, number_in}

numerals : IsNumeralModel (λ ds. all_ascii_digits ds ≡ true) (digits_value 10)
numerals = numerals_by_value (λ ds. all_ascii_digits ds ≡ true) tells_all_ascii_digits

both : (a b : Bool) → (a && b) ≡ true → (a ≡ true) × (b ≡ true)
both true b e = (refl, e)
both false b e = absurd (cc (e))

pub record IsNumberIn (least most : ℕ) (text : List ℕ) : Type 0 where
  pub some : 0 < length text
  pub digits : AllDigits 10 text
  pub least_is : least ≤ digits_value 10 text
  pub most_is : digits_value 10 text ≤ most

from_test : (least most : ℕ) (text : List ℕ) → is_number least most text ≡ true → IsNumberIn least most text
from_test least most [] e = absurd (cc (e))
from_test least most (x ∷ xs) e =
    let p = both (all_ascii_digits (x ∷ xs)) (leb least (digits_value 10 (x ∷ xs)) && leb (digits_value 10 (x ∷ xs)) most) e in
    let q = both (leb least (digits_value 10 (x ∷ xs))) (leb (digits_value 10 (x ∷ xs)) most) p.1 in
    record { some = omega arith; digits = numerals.to (x ∷ xs) p.0; least_is = leb-true _ _ q.0; most_is = leb-true _ _ q.1 }

to_test : (least most : ℕ) (text : List ℕ) → IsNumberIn least most text → is_number least most text ≡ true
to_test least most [] is = absurd (omega (arith, is.some))
to_test least most (x ∷ xs) is =
    let e : all_ascii_digits (x ∷ xs) ≡ true = numerals.from (x ∷ xs) is.digits in
    rw (e, le-leb least _ is.least_is, le-leb _ most is.most_is) refl

pub number_yes : (least most : ℕ) (text : List ℕ) → IsNumberIn least most text → number_in least most text ≡ Some (digits_value 10 text)
unfolding number_in
number_yes least most text is = ap (λ b. cond b (Some (digits_value 10 text)) None) (to_test least most text is)

pub number_no : (least most : ℕ) (text : List ℕ) → (IsNumberIn least most text → ⊥) → number_in least most text ≡ None
unfolding number_in
number_no least most text none = go (is_number least most text) refl
  where
    go : (b : Bool) → is_number least most text ≡ b → cond (is_number least most text) (Some (digits_value 10 text)) None ≡ None
    go true e = absurd (none (from_test least most text e))
    go false e = rw e refl

-- digits do not begin with a plus sign
pub plus_is_no_number : (least most : ℕ) (text : List ℕ) → starts_with eqb text (43 ∷ []) ≡ true → None ≡ number_in least most text
plus_is_no_number least most text plus = sym (number_no least most text (λ is. no_plus_digit text plus is.digits))
  where
    no_plus_digit : (text : List ℕ) → starts_with eqb text (43 ∷ []) ≡ true → AllDigits 10 text → ⊥
    no_plus_digit [] e d = cc (e)
    no_plus_digit (x ∷ xs) e d =
        let is : 43 ≡ x = eqb-true 43 x (both _ _ e).0 in
        let range = digit_from_value x d.0 in
        omega (arith, range.0)

no_plus : (text : List ℕ) → starts_with eqb text (43 ∷ []) ≡ false → get_or text 0 0 ≢ 43
no_plus [] e is = omega arith
no_plus (x ∷ xs) e is = cc (e, eq-eqb 43 x (sym is))

plain : (text : List ℕ) → starts_with eqb text (43 ∷ []) ≡ false → without_leading_plus text ≡ text
plain text e = without_leading_plus_none text (no_plus text e)

pub parsed : (least most n : ℕ) (text : List ℕ) → starts_with eqb text (43 ∷ []) ≡ false
    → IsNumeral 10 (without_leading_plus text) → n ≡ digits_value 10 (without_leading_plus text) → least ≤ n → n ≤ most → Some n ≡ number_in least most text
parsed least most n text e numeral is low high =
    let same = plain text e in
    let numeral' : IsNumeral 10 text = subst (IsNumeral 10) same numeral in
    let is' : n ≡ digits_value 10 text = is ∙ ap (digits_value 10) same in
    ap (λ m. Some m) is' ∙ sym (number_yes least most text (record { some = numeral'.0; digits = numeral'.1; least_is = omega arith; most_is = omega arith }))

pub out_of_range : (least most n : ℕ) (text : List ℕ) → starts_with eqb text (43 ∷ []) ≡ false
    → n ≡ digits_value 10 (without_leading_plus text) → (n < least) ⊎ (most < n) → None ≡ number_in least most text
out_of_range least most n text e is out =
    let is' : n ≡ digits_value 10 text = is ∙ ap (digits_value 10) (plain text e) in
    sym (number_no least most text (λ r. elim out [ inl l ↦ omega (arith, r.least_is) | inr m ↦ omega (arith, r.most_is) ]))

pub unparsed : (least most : ℕ) (text : List ℕ) → most < 2 ^ 64 → starts_with eqb text (43 ∷ []) ≡ false
    → (IsNumeral 10 (without_leading_plus text) × (digits_value 10 (without_leading_plus text) < 2 ^ 64) → ⊥) → None ≡ number_in least most text
unparsed least most text fits e bad =
    let bad' = subst (λ t. IsNumeral 10 t × (digits_value 10 t < 2 ^ 64) → ⊥) (plain text e) bad in
    sym (number_no least most text (λ r. bad' ((r.some, r.digits), omega (arith, r.most_is))))
