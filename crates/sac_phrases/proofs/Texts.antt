-- A token that is a name, by its text.
use Rattle.std.proofs.Common.{ℕ, ◌≡◌, Bool, true, false, ◌&&◌, ◌||◌, not, List, [], ◌∷◌, inl, inr, refl, sym, ap, subst, arith}
use Rattle.std.specs.Prelude.{◌==◌}
use Rattle.std.specs.List.{list_any}
use Rattle.std.specs.Char.{is_ascii_alphabetic, char_set_contains}
use Rattle.std.proofs.lemmas.Bool.Decides.{nat_tests}
use Rattle.sac_lex.specs.declared.token.TokenKind.{TokenKind}
use Rattle.sac_lex.specs.declared.token.TokenKind.TheVariants as kind
use Rattle.sac_lex.specs.Text.{IsTextOf}
use Rattle.sac_lex.specs.Spelling.{one_byte_signs, before_equals, twice}
use Rattle.sac_ast.specs.Texts.{is_name, is_reserved}
use Rattle.sac_grammar.proofs.Machine.{false_true, and_left, or_cases, name_no_number}

both_true : (a b : Bool) → a ≡ true → b ≡ true → (a && b) ≡ true
both_true true b e f = f
both_true false b e f = false_true e

pub name_is : (t : List ℕ) → IsTextOf kind.Name t → is_name t ≡ true
name_is [] p = absurd p.0
name_is (c ∷ cs) p = both_true _ _ p.0.0 (ap not p.1.0)

pub word_is : (t : List ℕ) → IsTextOf kind.Word t → is_name t ≡ false
word_is [] p = refl
word_is (c ∷ cs) p = no_name _ (is_reserved (c ∷ cs)) p
  where
    no_name : (a r : Bool) → r ≡ true → (a && not r) ≡ false
    no_name true true e = refl
    no_name true false e = false_true e
    no_name false r e = refl

not_true_name : (b : Bool) → (b ≡ true → false ≡ true) → b ≡ false
not_true_name true f = sym (f refl)
not_true_name false f = refl

pub number_is : (t : List ℕ) → IsTextOf kind.Number t → is_name t ≡ false
number_is [] p = refl
number_is (c ∷ cs) p = not_true_name _ (λ n. name_no_number (c ∷ cs) n p.0.0)

-- no letter is a sign
letter_among : (c : ℕ) (cs : List ℕ) → list_any (λ d. is_ascii_alphabetic d || d == 95) cs ≡ false → char_set_contains cs c ≡ true → (is_ascii_alphabetic c || c == 95) ≡ false
letter_among c [] n h = false_true h
letter_among c (d ∷ cs) n h = elim (or_cases (d == c) _ h) [
  | inl e ↦ subst (λ x. (is_ascii_alphabetic x || x == 95) ≡ false) (same d c e) (or_left _ (list_any (λ d. is_ascii_alphabetic d || d == 95) cs) n)
  | inr e ↦ letter_among c cs (or_right (is_ascii_alphabetic d || d == 95) _ n) e
]
  where
    same : (a b : ℕ) → (a == b) ≡ true → a ≡ b
    same a b e = grind (arith, nat_tests)

    or_left : (a b : Bool) → (a || b) ≡ false → a ≡ false
    or_left true b e = e
    or_left false b e = refl

    or_right : (a b : Bool) → (a || b) ≡ false → b ≡ false
    or_right true b e = false_true (sym e)
    or_right false b e = e

no_letter : (a b : Bool) → a ≡ false → (a && b) ≡ false
no_letter true b e = false_true (sym e)
no_letter false b e = refl

pub sign_is : (t : List ℕ) → IsTextOf kind.Sign t → is_name t ≡ false
sign_is [] p = refl
sign_is (c ∷ []) p = no_letter _ (not (is_reserved (c ∷ []))) (letter_among c one_byte_signs refl p)
sign_is (c ∷ d ∷ []) p = no_letter _ (not (is_reserved (c ∷ d ∷ []))) (elim (or_cases (char_set_contains before_equals c && (d == 61)) _ p) [
  | inl h ↦ letter_among c before_equals refl (and_left _ _ h)
  | inr h ↦ letter_among c twice refl (and_left _ _ h)
])
sign_is (c ∷ d ∷ e ∷ t) p = false_true p

pub end_is : (t : List ℕ) → IsTextOf kind.End t → is_name t ≡ false
end_is t p = ap is_name p

pub is_name_by : (k j : TokenKind) (t : List ℕ) → k ≡ j → IsTextOf k t → IsTextOf j t
is_name_by k j t e p = subst (λ i. IsTextOf i t) e p
