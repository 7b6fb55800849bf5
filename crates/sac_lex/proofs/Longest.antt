-- The longest spelling at the front of a text, by the class of its first byte.
use Rattle.std.proofs.Common.{ℕ, ◌≡◌, ◌≢◌, ◌<◌, ◌≤◌, ◌+◌, suc, Bool, true, false, not, ◌&&◌, ◌||◌, ◌==◌, List, [], ◌∷◌, ◌++◌, length, get_or, ◌⊎◌, inl, inr, IsTrue, refl, sym, ap, ◌∙◌, subst, arith, append-nil, length-append, eqb, add-zero, ⊎_elim}
use Rattle.std.proofs.str.Laws.{order}
use Rattle.std.proofs.lemmas.Grind.{common_steps}
use Rattle.std.specs.List.{AllByRecursion}
use Rattle.std.specs.Bool.{⊤}
use Rattle.std.specs.Char.{char_set_contains}
use Rattle.std.proofs.lemmas.Bool.Decides.{nat_tests}
use Rattle.sac_lex.specs.declared.piece.PieceKind.{PieceKind}
use Rattle.sac_lex.specs.declared.piece.PieceKind.TheVariants.{Blank, Comment, Open, Name, Number, Sign}
use Rattle.sac_lex.specs.Spelling.{is_blank, is_letter, is_digit, is_word_byte, one_byte_signs, before_equals, twice, is_sign, HasNoEnd, IsSpelling, IsLongest, HasNoSpelling, IsOtherByte}

false_true : {P : Type 0} → false ≡ true → P
false_true e = cc

-- a test that holds of each byte of a set holds of what the set contains
list_all : (ℕ → Bool) → List ℕ → Bool
list_all p [] = true
list_all p (x ∷ xs) = p x && list_all p xs

and_left : (a b : Bool) → (a && b) ≡ true → a ≡ true
and_left true b e = refl
and_left false b e = false_true e

and_right : (a b : Bool) → (a && b) ≡ true → b ≡ true
and_right true b e = e
and_right false b e = false_true e

or_cases : (a b : Bool) → (a || b) ≡ true → (a ≡ true) ⊎ (b ≡ true)
or_cases true b e = inl refl
or_cases false b e = inr e

eqb_same : (a b : ℕ) → eqb a b ≡ true → a ≡ b
eqb_same a b e = grind (arith, nat_tests)

of_set : (p : ℕ → Bool) (set : List ℕ) (c : ℕ) → list_all p set ≡ true → char_set_contains set c ≡ true → p c ≡ true
unfolding list_all
of_set p [] c all has = false_true has
of_set p (d ∷ set) c all has =
    elim (or_cases (d == c) (char_set_contains set c) has) [
      | inl same ↦ subst (λ x. p x ≡ true) (eqb_same d c same) (and_left _ _ all)
      | inr later ↦ of_set p set c (and_right _ _ all) later
    ]

not_true : (a : Bool) → not a ≡ true → a ≡ true → ⊥
not_true true e f = false_true e
not_true false e f = false_true f

-- no first byte of a sign has one of these tests
plain : ℕ → Bool
plain c = not (is_letter c) && (not (is_digit c) && not (is_blank c))

plain_letter : (c : ℕ) → plain c ≡ true → is_letter c ≡ true → ⊥
unfolding plain
plain_letter c p = not_true (is_letter c) (and_left (not (is_letter c)) (not (is_digit c) && not (is_blank c)) p)

plain_digit : (c : ℕ) → plain c ≡ true → is_digit c ≡ true → ⊥
unfolding plain
plain_digit c p = not_true (is_digit c) (and_left (not (is_digit c)) (not (is_blank c)) (and_right (not (is_letter c)) (not (is_digit c) && not (is_blank c)) p))

plain_blank : (c : ℕ) → plain c ≡ true → is_blank c ≡ true → ⊥
unfolding plain
plain_blank c p = not_true (is_blank c) (and_right (not (is_digit c)) (not (is_blank c)) (and_right (not (is_letter c)) (not (is_digit c) && not (is_blank c)) p))

first_of_sign : (c : ℕ) (cs : List ℕ) → is_sign (c ∷ cs) ≡ true → plain c ≡ true
unfolding plain list_all
first_of_sign c [] e = of_set plain one_byte_signs c refl e
first_of_sign c (d ∷ []) e =
    elim (or_cases (char_set_contains before_equals c && (d == 61)) (char_set_contains twice c && (d == c)) e) [
      | inl h ↦ of_set plain before_equals c refl (and_left (char_set_contains before_equals c) (d == 61) h)
      | inr h ↦ of_set plain twice c refl (and_left (char_set_contains twice c) (d == c) h)
    ]
first_of_sign c (d ∷ f ∷ cs) e = false_true e

letter_digit : (c : ℕ) → is_letter c ≡ true → is_digit c ≡ true → ⊥
letter_digit c l d = grind (arith, nat_tests)

letter_blank : (c : ℕ) → is_letter c ≡ true → is_blank c ≡ true → ⊥
letter_blank c l d = grind (arith, nat_tests)

digit_blank : (c : ℕ) → is_digit c ≡ true → is_blank c ≡ true → ⊥
digit_blank c l d = grind (arith, nat_tests)

-- a letter begins nothing but a name
slash : (p : ℕ → Bool) (c : ℕ) → p c ≡ true → p 47 ≡ false → c ≡ 47 → ⊥
slash p c is isnt e = false_true (sym isnt ∙ ap p (sym e) ∙ is)

begins_slash : (c : ℕ) (cs body : List ℕ) → (c ∷ cs) ≡ (47 ∷ body) → c ≡ 47
begins_slash c cs body e = cc

first_of_comment : (c : ℕ) (cs : List ℕ) → IsSpelling Comment (c ∷ cs) → c ≡ 47
first_of_comment c cs (inl h) = begins_slash _ _ _ h.1
first_of_comment c cs (inr h) = begins_slash _ _ _ h.1

pub only_name : (c : ℕ) (cs : List ℕ) (other : PieceKind) → is_letter c ≡ true → IsSpelling other (c ∷ cs) → other ≡ Name
only_name c cs Blank l h = absurd (letter_blank c l h.0)
only_name c cs Comment l h = absurd (slash is_letter c l refl (first_of_comment c cs h))
only_name c cs Open l h = absurd (slash is_letter c l refl (begins_slash _ _ _ h.1))
only_name c cs Name l h = refl
only_name c cs Number l h = absurd (letter_digit c l h.0)
only_name c cs Sign l h = absurd (plain_letter c (first_of_sign c cs h) l)

pub only_number : (c : ℕ) (cs : List ℕ) (other : PieceKind) → is_digit c ≡ true → IsSpelling other (c ∷ cs) → other ≡ Number
only_number c cs Blank l h = absurd (digit_blank c l h.0)
only_number c cs Comment l h = absurd (slash is_digit c l refl (first_of_comment c cs h))
only_number c cs Open l h = absurd (slash is_digit c l refl (begins_slash _ _ _ h.1))
only_number c cs Name l h = absurd (letter_digit c h.0 l)
only_number c cs Number l h = refl
only_number c cs Sign l h = absurd (plain_digit c (first_of_sign c cs h) l)

pub only_blank : (c : ℕ) (cs : List ℕ) (other : PieceKind) → is_blank c ≡ true → IsSpelling other (c ∷ cs) → other ≡ Blank
only_blank c cs Blank l h = refl
only_blank c cs Comment l h = absurd (slash is_blank c l refl (first_of_comment c cs h))
only_blank c cs Open l h = absurd (slash is_blank c l refl (begins_slash _ _ _ h.1))
only_blank c cs Name l h = absurd (letter_blank c h.0 l)
only_blank c cs Number l h = absurd (digit_blank c h.0 l)
only_blank c cs Sign l h = absurd (plain_blank c (first_of_sign c cs h) l)

-- the rest does not begin with a byte of the test
abbrev pub Stops : (ℕ → Bool) → List ℕ → Type 0
Stops test [] = ⊤
Stops test (d ∷ ds) = test d ≡ false

all_later : (P : ℕ → Type 0) (xs ys : List ℕ) → AllByRecursion P (xs ++ ys) → AllByRecursion P ys
all_later P [] ys h = h
all_later P (x ∷ xs) ys h = all_later P xs ys h.1

stopped : (test : ℕ → Bool) (rest more later : List ℕ) → Stops test rest → rest ≡ more ++ later → AllByRecursion (λ d. IsTrue (test d)) more → more ≡ []
stopped test rest [] later stops e all = refl
stopped test rest (d ∷ more) later stops e all = let s : test d ≡ false = subst (Stops test) e stops in false_true (sym s ∙ all.0)

pub longest_name : (c : ℕ) (run rest : List ℕ) → is_letter c ≡ true → AllByRecursion (λ d. IsTrue (is_word_byte d)) run → Stops is_word_byte rest → IsLongest Name (c ∷ run) rest
longest_name c run rest l all stops = record {
  spelled = (l, all);
  longest = λ other more later e h.
      let k = only_name c (run ++ more) other l h in
      (k, stopped is_word_byte rest more later stops e (all_later _ run more (let g : IsSpelling Name (c ∷ (run ++ more)) = subst (λ x. IsSpelling x (c ∷ (run ++ more))) k h in g.1)));
}

pub longest_number : (c : ℕ) (run rest : List ℕ) → is_digit c ≡ true → AllByRecursion (λ d. IsTrue (is_digit d)) run → Stops is_digit rest → IsLongest Number (c ∷ run) rest
longest_number c run rest l all stops = record {
  spelled = (l, all);
  longest = λ other more later e h.
      let k = only_number c (run ++ more) other l h in
      (k, stopped is_digit rest more later stops e (all_later _ run more (let g : IsSpelling Number (c ∷ (run ++ more)) = subst (λ x. IsSpelling x (c ∷ (run ++ more))) k h in g.1)));
}

no_bytes : (more : List ℕ) → AllByRecursion (λ d. IsTrue false) more → more ≡ []
no_bytes [] h = refl
no_bytes (c ∷ more) h = false_true h.0

pub longest_blank : (c : ℕ) (rest : List ℕ) → is_blank c ≡ true → IsLongest Blank (c ∷ []) rest
longest_blank c rest l = record {
  spelled = (l, tt);
  longest = λ other more later e h.
      let k = only_blank c more other l h in
      (k, no_bytes more (let g : IsSpelling Blank (c ∷ more) = subst (λ x. IsSpelling x (c ∷ more)) k h in g.1));
}

-- comments
cons_head : (c d : ℕ) (cs ds : List ℕ) → (c ∷ cs) ≡ (d ∷ ds) → c ≡ d
cons_head c d cs ds e = cc

cons_tail : (c d : ℕ) (cs ds : List ℕ) → (c ∷ cs) ≡ (d ∷ ds) → cs ≡ ds
cons_tail c d cs ds e = cc

second : (a b c d : ℕ) (cs ds : List ℕ) → (a ∷ b ∷ cs) ≡ (c ∷ d ∷ ds) → b ≡ d
second a b c d cs ds e = cc

tail_of_two : (a b c d : ℕ) (cs ds : List ℕ) → (a ∷ b ∷ cs) ≡ (c ∷ d ∷ ds) → cs ≡ ds
tail_of_two a b c d cs ds e = cc

slash_slash_no_sign : (cs : List ℕ) → is_sign (47 ∷ 47 ∷ cs) ≡ true → ⊥
slash_slash_no_sign [] e = false_true e
slash_slash_no_sign (c ∷ cs) e = false_true e

slash_star_no_sign : (cs : List ℕ) → is_sign (47 ∷ 42 ∷ cs) ≡ true → ⊥
slash_star_no_sign [] e = false_true e
slash_star_no_sign (c ∷ cs) e = false_true e

differ : (m n : ℕ) → eqb m n ≡ false → m ≡ n → ⊥
differ m n e s = grind (arith, nat_tests)

-- the rest begins with a line feed, if with anything
abbrev pub EndsLine : List ℕ → Type 0
EndsLine [] = ⊤
EndsLine (d ∷ ds) = d ≡ 10

line_stops : (rest more later : List ℕ) → EndsLine rest → rest ≡ more ++ later → AllByRecursion (λ c. c ≢ 10) more → more ≡ []
line_stops rest [] later stops e all = refl
line_stops rest (d ∷ more) later stops e all = absurd (all.0 (subst EndsLine e stops))

more_of_line : (body rest more later : List ℕ) (other : PieceKind) → EndsLine rest → rest ≡ more ++ later → IsSpelling other (47 ∷ 47 ∷ (body ++ more)) → (other ≡ Comment) × (more ≡ [])
more_of_line body rest more later Blank stops e h = false_true h.0
more_of_line body rest more later Comment stops e (inl h) = (refl, line_stops rest more later stops e (all_later _ body more (subst (AllByRecursion (λ c. c ≢ 10)) (sym (tail_of_two _ _ _ _ _ _ h.1)) h.2)))
more_of_line body rest more later Comment stops e (inr h) = absurd (differ 47 42 refl (second _ _ _ _ _ _ h.1))
more_of_line body rest more later Open stops e h = absurd (differ 47 42 refl (second _ _ _ _ _ _ h.1))
more_of_line body rest more later Name stops e h = false_true h.0
more_of_line body rest more later Number stops e h = false_true h.0
more_of_line body rest more later Sign stops e h = absurd (slash_slash_no_sign _ h)

pub longest_line : (body rest : List ℕ) → AllByRecursion (λ c. c ≢ 10) body → EndsLine rest → IsLongest Comment (47 ∷ 47 ∷ body) rest
longest_line body rest all stops = record {
  spelled = inl (body, refl, all);
  longest = λ other more later e h. more_of_line body rest more later other stops e h;
}

abbrev closing : List ℕ
closing = 42 ∷ 47 ∷ []

at_front : (xs ys : List ℕ) (k : ℕ) → k < length xs → get_or (xs ++ ys) k 0 ≡ get_or xs k 0
at_front xs ys k h = grind (arith, common_steps)

at_back : (xs ys : List ℕ) (k : ℕ) → get_or (xs ++ ys) (length xs + k) 0 ≡ get_or ys k 0
at_back xs ys k = grind (arith, common_steps)

-- a body with no end does not go on past one
no_longer : (body more other : List ℕ) → HasNoEnd other → (body ++ closing) ++ more ≡ other ++ closing → more ≡ []
no_longer body [] other none e = refl
no_longer body (m ∷ more) other none e =
    let k = length body in
    let len : k + 2 + suc (length more) ≡ length other + 2 = sym (length-append (body ++ closing) (m ∷ more) ∙ ap (λ n. n + suc (length more)) (length-append body closing)) ∙ ap length e ∙ length-append other closing in
    let short : k < length other = omega arith in
    let star : get_or other k 0 ≡ 42 = sym (at_front other closing k short) ∙ ap (λ l. get_or l k 0) (sym e) ∙ at_front (body ++ closing) (m ∷ more) k (omega (arith, length-append body closing)) ∙ ap (λ i. get_or (body ++ closing) i 0) (sym (add-zero k)) ∙ at_back body closing 0 in
    let slash : get_or (other ++ closing) (k + 1) 0 ≡ 47 = ap (λ l. get_or l (k + 1) 0) (sym e) ∙ at_front (body ++ closing) (m ∷ more) (k + 1) (omega (arith, length-append body closing)) ∙ at_back body closing 1 in
    ⊎_elim
    (λ (inside : k + 1 < length other). absurd (none k inside star (sym (at_front other closing (k + 1) inside) ∙ slash)))
    (λ (past : length other ≤ k + 1). absurd (differ 42 47 refl (sym (at_back other closing 0) ∙ ap (λ i. get_or (other ++ closing) i 0) (let q : length other + 0 ≡ k + 1 = omega arith in q) ∙ slash)))
    (order (k + 1) (length other))

has_end : (body other more : List ℕ) → HasNoEnd other → other ≡ (body ++ closing) ++ more → ⊥
has_end body other more none e =
    let k = length body in
    let len : length other ≡ k + 2 + length more = ap length e ∙ length-append (body ++ closing) more ∙ ap (λ n. n + length more) (length-append body closing) in
    none k (omega arith)
    (ap (λ l. get_or l k 0) e ∙ at_front (body ++ closing) more k (omega (arith, length-append body closing)) ∙ ap (λ i. get_or (body ++ closing) i 0) (sym (add-zero k)) ∙ at_back body closing 0)
    (ap (λ l. get_or l (k + 1) 0) e ∙ at_front (body ++ closing) more (k + 1) (omega (arith, length-append body closing)) ∙ at_back body closing 1)

more_of_block : (body more : List ℕ) (other : PieceKind) → HasNoEnd body → IsSpelling other (47 ∷ 42 ∷ ((body ++ closing) ++ more)) → (other ≡ Comment) × (more ≡ [])
more_of_block body more Blank none h = false_true h.0
more_of_block body more Comment none (inl h) = absurd (differ 42 47 refl (second _ _ _ _ _ _ h.1))
more_of_block body more Comment none (inr h) = (refl, no_longer body more h.0 h.2 (tail_of_two _ _ _ _ _ _ h.1))
more_of_block body more Open none h = absurd (has_end body h.0 more h.2 (sym (tail_of_two _ _ _ _ _ _ h.1)))
more_of_block body more Name none h = false_true h.0
more_of_block body more Number none h = false_true h.0
more_of_block body more Sign none h = absurd (slash_star_no_sign _ h)

pub longest_block : (body rest : List ℕ) → HasNoEnd body → IsLongest Comment (47 ∷ 42 ∷ (body ++ (42 ∷ 47 ∷ []))) rest
longest_block body rest none = record {
  spelled = inr (body, refl, none);
  longest = λ other more later e h. more_of_block body more other none h;
}

no_more : (more later : List ℕ) → [] ≡ more ++ later → more ≡ []
no_more [] later e = refl
no_more (m ∷ more) later e = cc

more_of_open : (body : List ℕ) (other : PieceKind) → HasNoEnd body → IsSpelling other (47 ∷ 42 ∷ body) → other ≡ Open
more_of_open body Blank none h = false_true h.0
more_of_open body Comment none (inl h) = absurd (differ 42 47 refl (second _ _ _ _ _ _ h.1))
more_of_open body Comment none (inr h) = absurd (has_end h.0 body [] none (tail_of_two _ _ _ _ _ _ h.1 ∙ sym (append-nil (h.0 ++ closing))))
more_of_open body Open none h = refl
more_of_open body Name none h = false_true h.0
more_of_open body Number none h = false_true h.0
more_of_open body Sign none h = absurd (slash_star_no_sign _ h)

pub longest_open : (body : List ℕ) → HasNoEnd body → IsLongest Open (47 ∷ 42 ∷ body) []
longest_open body none = record {
  spelled = (body, refl, none);
  longest = λ other more later e h.
      let n = no_more more later e in
      (more_of_open body other none (subst (IsSpelling other) (ap (λ m. 47 ∷ 42 ∷ (body ++ m)) n ∙ ap (λ b. 47 ∷ 42 ∷ b) (append-nil body)) h), n);
}

-- no comment begins here
abbrev pub NoComment : ℕ → List ℕ → Type 0
NoComment c [] = ⊤
NoComment c (d ∷ ds) = c ≡ 47 → (d ≢ 47) × (d ≢ 42)

no_comment : (c : ℕ) (cs more body : List ℕ) (d : ℕ) (later : List ℕ) → NoComment c cs → cs ≡ more ++ later → c ∷ more ≡ 47 ∷ d ∷ body → (d ≡ 47) ⊎ (d ≡ 42) → ⊥
no_comment c cs [] body d later none e same which = cc (ap length same)
no_comment c cs (m ∷ more) body d later none e same which =
    let n : NoComment c (m ∷ (more ++ later)) = subst (NoComment c) e none in
    let two = n (begins_slash _ _ _ same) in
    let is : m ≡ d = second _ _ _ _ _ _ same in
    elim which [ inl w ↦ two.0 (is ∙ w) | inr w ↦ two.1 (is ∙ w) ]

-- what begins with such a byte is a sign
pub only_sign : (c : ℕ) (cs more later : List ℕ) (other : PieceKind) → IsOtherByte c → NoComment c cs → cs ≡ more ++ later → IsSpelling other (c ∷ more) → other ≡ Sign
only_sign c cs more later Blank o n e h = false_true (sym o.blank ∙ h.0)
only_sign c cs more later Comment o n e (inl h) = absurd (no_comment c cs more h.0 47 later n e h.1 (inl refl))
only_sign c cs more later Comment o n e (inr h) = absurd (no_comment c cs more _ 42 later n e h.1 (inr refl))
only_sign c cs more later Open o n e h = absurd (no_comment c cs more h.0 42 later n e h.1 (inr refl))
only_sign c cs more later Name o n e h = false_true (sym o.letter ∙ h.0)
only_sign c cs more later Number o n e h = false_true (sym o.digit ∙ h.0)
only_sign c cs more later Sign o n e h = refl

-- the next byte makes no longer sign
abbrev pub NoPair : ℕ → List ℕ → Type 0
NoPair c [] = ⊤
NoPair c (d ∷ ds) = is_sign (c ∷ d ∷ []) ≡ false

single : (c : ℕ) (cs more later : List ℕ) → NoPair c cs → cs ≡ more ++ later → is_sign (c ∷ more) ≡ true → more ≡ []
single c cs [] later n e h = refl
single c cs (d ∷ []) later n e h = let p : NoPair c (d ∷ later) = subst (NoPair c) e n in false_true (sym p ∙ h)
single c cs (d ∷ f ∷ more) later n e h = false_true h

pub longest_one : (c : ℕ) (rest : List ℕ) → IsOtherByte c → NoComment c rest → NoPair c rest → is_sign (c ∷ []) ≡ true → IsLongest Sign (c ∷ []) rest
longest_one c rest o n p is = record {
  spelled = is;
  longest = λ other more later e h.
      let k = only_sign c rest more later other o n e h in
      (k, single c rest more later p e (subst (λ x. IsSpelling x (c ∷ more)) k h));
}

double : (c d : ℕ) (more : List ℕ) → is_sign (c ∷ d ∷ more) ≡ true → more ≡ []
double c d [] h = refl
double c d (f ∷ more) h = false_true h

pub longest_two : (c d : ℕ) (rest : List ℕ) → IsOtherByte c → NoComment c (d ∷ rest) → is_sign (c ∷ d ∷ []) ≡ true → IsLongest Sign (c ∷ d ∷ []) rest
longest_two c d rest o n is = record {
  spelled = is;
  longest = λ other more later e h.
      let k = only_sign c (d ∷ rest) (d ∷ more) later other o n (ap (λ l. d ∷ l) e) h in
      (k, double c d more (subst (λ x. IsSpelling x (c ∷ d ∷ more)) k h));
}

pub no_spelling : (c : ℕ) (cs : List ℕ) → IsOtherByte c → NoComment c cs → NoPair c cs → is_sign (c ∷ []) ≡ false → HasNoSpelling (c ∷ cs)
no_spelling c cs o n p isnt Blank [] later e h = h
no_spelling c cs o n p isnt Comment [] later e (inl h) = cc (ap length h.1)
no_spelling c cs o n p isnt Comment [] later e (inr h) = cc (ap length h.1)
no_spelling c cs o n p isnt Open [] later e h = cc (ap length h.1)
no_spelling c cs o n p isnt Name [] later e h = h
no_spelling c cs o n p isnt Number [] later e h = h
no_spelling c cs o n p isnt Sign [] later e h = false_true h
no_spelling c cs o n p isnt kind (t ∷ text) later e h =
    let head : c ≡ t = cons_head _ _ _ _ e in
    let tail : cs ≡ text ++ later = cons_tail _ _ _ _ e in
    let g : IsSpelling kind (c ∷ text) = subst (λ x. IsSpelling kind (x ∷ text)) (sym head) h in
    let k = only_sign c cs text later kind o n tail g in
    let s : is_sign (c ∷ text) ≡ true = subst (λ x. IsSpelling x (c ∷ text)) k g in
    let one : text ≡ [] = single c cs text later p tail s in
    false_true (sym isnt ∙ ap (λ l. is_sign (c ∷ l)) (sym one) ∙ s)
