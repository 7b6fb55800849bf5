-- Texts that the lexer cuts out whole, where a blank stands behind them.
use Rattle.std.proofs.Common.{ℕ, ◌≡◌, ◌≢◌, ◌≤◌, ◌<◌, ◌^◌, Bool, true, false, ◌&&◌, cond, List, [], ◌∷◌, ◌++◌, length, map, IsTrue, codes, refl, ap, ◌∙◌, append_assoc, arith}
use Rattle.std.specs.List.{AllByRecursion}
use Rattle.std.specs.Fmt.{decimal}
use Rattle.std.specs.Str.Parse.{digits_value}
use Rattle.std.proofs.lemmas.Fmt.{decimal_is_IsNumeral}
use Rattle.std.proofs.lemmas.Str.Parse.{numerals_by_value, tells_all_ascii_digits}
use Rattle.std.specs.Str.{all_ascii_digits}
use Rattle.std.specs.Char.{is_ascii_digit}
use Rattle.sac_base.specs.declared.site.Site.{Site}
use Rattle.sac_base.specs.declared.op.Op.{Op}
use Rattle.sac_base.specs.declared.op.Op.TheVariants.{Add, Sub, Mul, Div, Rem, Min, Max, Neg, Not, Eq, Ne, Lt, Le, Gt, Ge, And, Or}
use Rattle.sac_lex.specs.declared.piece.PieceKind.{PieceKind}
use Rattle.sac_lex.specs.declared.piece.PieceKind.TheVariants.{Blank, Comment, Open, Name, Number, Sign}
use Rattle.sac_lex.specs.Spelling.{IsRun, IsLongest, is_letter, is_digit, is_blank, is_word_byte, is_sign}
use Rattle.sac_lex.specs.Cut as lex
use Rattle.sac_lex.specs.Cut.{Chunk, bytes_of, IsCut, IsWithinLimits, lexemes, lexemes_of, site_after, start, is_token}
use Rattle.sac_lex.proofs.Longest.{longest_name, longest_number, longest_blank, longest_one, longest_two, Stops, NoComment}
use Rattle.sac_print.specs.Texts.{Texts, separator, written}
use Rattle.sac_print.specs.Operators.{operator_text}
use Rattle.core_source_laws.specs.printing.Tokens.{plain}
use Rattle.core_source_laws.proofs.printing.Fits.{FitsName}

pub record Piece (t : List ℕ) : Type 0 where
  pub kind : PieceKind
  pub token : is_token kind ≡ true
  pub longest : (rest : List ℕ) → IsLongest kind t (separator t ∷ rest)
  pub within : IsWithinLimits kind t

-- what holds of a line feed and a space holds of a separator
by_test : (P : ℕ → Type 0) → P 10 → P 32 → (b : Bool) → P (cond b 10 32)
by_test P p q true = p
by_test P p q false = q

of_blank : (P : ℕ → Type 0) → P 10 → P 32 → (t : List ℕ) → P (separator t)
of_blank P p q t = by_test P p q _

ends_word : (t rest : List ℕ) → Stops is_word_byte (separator t ∷ rest)
ends_word t rest = of_blank (λ c. is_word_byte c ≡ false) refl refl t

ends_digits : (t rest : List ℕ) → Stops is_digit (separator t ∷ rest)
ends_digits t rest = of_blank (λ c. is_digit c ≡ false) refl refl t

blank_behind : (t rest : List ℕ) → IsLongest Blank (separator t ∷ []) rest
blank_behind t rest = longest_blank (separator t) rest (of_blank (λ c. is_blank c ≡ true) refl refl t)

-- names and reserved words
pub word_piece : (x : List ℕ) → IsRun is_letter is_word_byte x → length x ≤ 64 → Piece x
word_piece [] run short = absurd run
word_piece (c ∷ cs) run short = record { kind = Name; token = refl; longest = λ rest. longest_name c cs _ run.0 run.1 (ends_word (c ∷ cs) rest); within = short }

pub name_piece : (x : List ℕ) → FitsName x → Piece x
name_piece x h = word_piece x h.run h.short

abbrev all_pass : (ℕ → Bool) → List ℕ → Bool
all_pass p [] = true
all_pass p (c ∷ cs) = p c && all_pass p cs

and_first : (a b : Bool) → (a && b) ≡ true → a ≡ true
and_first true b h = refl
and_first false b h = h

and_second : (a b : Bool) → (a && b) ≡ true → b ≡ true
and_second true b h = h
and_second false b h = cc

all_of : (p : ℕ → Bool) (cs : List ℕ) → all_pass p cs ≡ true → AllByRecursion (λ d. IsTrue (p d)) cs
all_of p [] h = tt
all_of p (c ∷ cs) h = (and_first (p c) (all_pass p cs) h, all_of p cs (and_second (p c) (all_pass p cs) h))

pub reserved_piece : (c : ℕ) (cs : List ℕ) → (is_letter c && all_pass is_word_byte cs) ≡ true → length (c ∷ cs) ≤ 64 → Piece (c ∷ cs)
reserved_piece c cs h short = word_piece (c ∷ cs) (and_first _ _ h, all_of is_word_byte cs (and_second (is_letter c) _ h)) short

digits_pass : (ds : List ℕ) → all_ascii_digits ds ≡ true → AllByRecursion (λ d. IsTrue (is_digit d)) ds
digits_pass [] h = tt
digits_pass (c ∷ cs) h = (and_first (is_ascii_digit c) (all_ascii_digits cs) h, digits_pass cs (and_second (is_ascii_digit c) (all_ascii_digits cs) h))

number_run : (ds : List ℕ) → 0 < length ds → AllByRecursion (λ d. IsTrue (is_digit d)) ds → digits_value 10 ds ≤ 2147483647 → Piece ds
number_run [] some all small = absurd (omega arith)
number_run (c ∷ cs) some all small = record { kind = Number; token = refl; longest = λ rest. longest_number c cs _ all.0 all.1 (ends_digits (c ∷ cs) rest); within = small }

pub number_piece : (n : ℕ) → n < 2 ^ 31 → Piece (decimal n)
number_piece n h =
    let d = decimal_is_IsNumeral n (omega arith) in
    number_run (decimal n) (let k = d.0.0 in omega arith) (digits_pass (decimal n) ((numerals_by_value (λ ds. all_ascii_digits ds ≡ true) tells_all_ascii_digits).from (decimal n) d.0.1)) (let k = d.1 in omega arith)

-- signs
no_comment : (c : ℕ) (t rest : List ℕ) → NoComment c (separator t ∷ rest)
no_comment c t rest = λ e. of_blank (λ d. (d ≢ 47) × (d ≢ 42)) ((λ f. omega arith), (λ f. omega arith)) ((λ f. omega arith), (λ f. omega arith)) t

pub sign_piece : (c : ℕ) → is_letter c ≡ false → is_digit c ≡ false → is_blank c ≡ false → is_sign (c ∷ separator (c ∷ []) ∷ []) ≡ false → is_sign (c ∷ []) ≡ true → Piece (c ∷ [])
sign_piece c l d b pair is = record { kind = Sign; token = refl; longest = λ rest. longest_one c _ (record { letter = l; digit = d; blank = b }) (no_comment c (c ∷ []) rest) pair is; within = tt }

pub pair_piece : (c d : ℕ) → is_letter c ≡ false → is_digit c ≡ false → is_blank c ≡ false → (c ≡ 47 → (d ≢ 47) × (d ≢ 42)) → is_sign (c ∷ d ∷ []) ≡ true → Piece (c ∷ d ∷ [])
pair_piece c d l g b n is = record { kind = Sign; token = refl; longest = λ rest. longest_two c d _ (record { letter = l; digit = g; blank = b }) n is; within = tt }

abbrev pub Pieces : Texts → Type 0
Pieces = AllByRecursion Piece

pub both : (a b : Texts) → Pieces a → Pieces b → Pieces (a ++ b)
both [] b p q = q
both (t ∷ a) b p q = (p.0, both a b p.1 q)

-- ---- the signs and words of the grammar

pub open_paren : Piece (codes "(")
open_paren = sign_piece 40 refl refl refl refl refl

pub close_paren : Piece (codes ")")
close_paren = sign_piece 41 refl refl refl refl refl

pub left_bracket : Piece (codes "[")
left_bracket = sign_piece 91 refl refl refl refl refl

pub right_bracket : Piece (codes "]")
right_bracket = sign_piece 93 refl refl refl refl refl

pub left_brace : Piece (codes "{")
left_brace = sign_piece 123 refl refl refl refl refl

pub right_brace : Piece (codes "}")
right_brace = sign_piece 125 refl refl refl refl refl

pub comma_sign : Piece (codes ",")
comma_sign = sign_piece 44 refl refl refl refl refl

pub semicolon : Piece (codes ";")
semicolon = sign_piece 59 refl refl refl refl refl

pub colon : Piece (codes ":")
colon = sign_piece 58 refl refl refl refl refl

pub question : Piece (codes "?")
question = sign_piece 63 refl refl refl refl refl

pub dot_sign : Piece (codes ".")
dot_sign = sign_piece 46 refl refl refl refl refl

pub equals : Piece (codes "=")
equals = sign_piece 61 refl refl refl refl refl

pub plus : Piece (codes "+")
plus = sign_piece 43 refl refl refl refl refl

pub minus : Piece (codes "-")
minus = sign_piece 45 refl refl refl refl refl

pub star : Piece (codes "*")
star = sign_piece 42 refl refl refl refl refl

pub slash : Piece (codes "/")
slash = sign_piece 47 refl refl refl refl refl

pub percent : Piece (codes "%")
percent = sign_piece 37 refl refl refl refl refl

pub bang : Piece (codes "!")
bang = sign_piece 33 refl refl refl refl refl

pub below : Piece (codes "<")
below = sign_piece 60 refl refl refl refl refl

pub above : Piece (codes ">")
above = sign_piece 62 refl refl refl refl refl

pub at_most : Piece (codes "<=")
at_most = pair_piece 60 61 refl refl refl (λ e. absurd (omega arith)) refl

pub at_least : Piece (codes ">=")
at_least = pair_piece 62 61 refl refl refl (λ e. absurd (omega arith)) refl

pub same : Piece (codes "==")
same = pair_piece 61 61 refl refl refl (λ e. absurd (omega arith)) refl

pub differs : Piece (codes "!=")
differs = pair_piece 33 61 refl refl refl (λ e. absurd (omega arith)) refl

pub and_sign : Piece (codes "&&")
and_sign = pair_piece 38 38 refl refl refl (λ e. absurd (omega arith)) refl

pub or_sign : Piece (codes "||")
or_sign = pair_piece 124 124 refl refl refl (λ e. absurd (omega arith)) refl

pub word_int : Piece (codes "int")
word_int = reserved_piece 105 (110 ∷ 116 ∷ []) refl (omega arith)

pub word_bool : Piece (codes "bool")
word_bool = reserved_piece 98 (111 ∷ 111 ∷ 108 ∷ []) refl (omega arith)

pub word_true : Piece (codes "true")
word_true = reserved_piece 116 (114 ∷ 117 ∷ 101 ∷ []) refl (omega arith)

pub word_false : Piece (codes "false")
word_false = reserved_piece 102 (97 ∷ 108 ∷ 115 ∷ 101 ∷ []) refl (omega arith)

pub word_inline : Piece (codes "inline")
word_inline = reserved_piece 105 (110 ∷ 108 ∷ 105 ∷ 110 ∷ 101 ∷ []) refl (omega arith)

pub word_return : Piece (codes "return")
word_return = reserved_piece 114 (101 ∷ 116 ∷ 117 ∷ 114 ∷ 110 ∷ []) refl (omega arith)

pub word_if : Piece (codes "if")
word_if = reserved_piece 105 (102 ∷ []) refl (omega arith)

pub word_else : Piece (codes "else")
word_else = reserved_piece 101 (108 ∷ 115 ∷ 101 ∷ []) refl (omega arith)

pub word_while : Piece (codes "while")
word_while = reserved_piece 119 (104 ∷ 105 ∷ 108 ∷ 101 ∷ []) refl (omega arith)

pub word_do : Piece (codes "do")
word_do = reserved_piece 100 (111 ∷ []) refl (omega arith)

pub word_with : Piece (codes "with")
word_with = reserved_piece 119 (105 ∷ 116 ∷ 104 ∷ []) refl (omega arith)

pub word_genarray : Piece (codes "genarray")
word_genarray = reserved_piece 103 (101 ∷ 110 ∷ 97 ∷ 114 ∷ 114 ∷ 97 ∷ 121 ∷ []) refl (omega arith)

pub word_modarray : Piece (codes "modarray")
word_modarray = reserved_piece 109 (111 ∷ 100 ∷ 97 ∷ 114 ∷ 114 ∷ 97 ∷ 121 ∷ []) refl (omega arith)

pub word_fold : Piece (codes "fold")
word_fold = reserved_piece 102 (111 ∷ 108 ∷ 100 ∷ []) refl (omega arith)

pub word_step : Piece (codes "step")
word_step = reserved_piece 115 (116 ∷ 101 ∷ 112 ∷ []) refl (omega arith)

pub word_width : Piece (codes "width")
word_width = reserved_piece 119 (105 ∷ 100 ∷ 116 ∷ 104 ∷ []) refl (omega arith)

pub word_dim : Piece (codes "dim")
word_dim = reserved_piece 100 (105 ∷ 109 ∷ []) refl (omega arith)

pub word_shape : Piece (codes "shape")
word_shape = reserved_piece 115 (104 ∷ 97 ∷ 112 ∷ 101 ∷ []) refl (omega arith)

pub word_reshape : Piece (codes "reshape")
word_reshape = reserved_piece 114 (101 ∷ 115 ∷ 104 ∷ 97 ∷ 112 ∷ 101 ∷ []) refl (omega arith)

pub word_min : Piece (codes "min")
word_min = reserved_piece 109 (105 ∷ 110 ∷ []) refl (omega arith)

pub word_max : Piece (codes "max")
word_max = reserved_piece 109 (97 ∷ 120 ∷ []) refl (omega arith)

pub operator_piece : (o : Op) → Piece (operator_text o)
operator_piece Add = plus
operator_piece Sub = minus
operator_piece Mul = star
operator_piece Div = slash
operator_piece Rem = percent
operator_piece Min = word_min
operator_piece Max = word_max
operator_piece Neg = minus
operator_piece Not = bang
operator_piece Eq = same
operator_piece Ne = differs
operator_piece Lt = below
operator_piece Le = at_most
operator_piece Gt = above
operator_piece Ge = at_least
operator_piece And = and_sign
operator_piece Or = or_sign

-- ---- the tokens of texts that are written

pub chunks_of : (ts : Texts) → Pieces ts → List Chunk
chunks_of [] h = []
chunks_of (t ∷ ts) h = record { kind = h.0.kind; text = t } ∷ record { kind = Blank; text = separator t ∷ [] } ∷ chunks_of ts h.1

pub bytes : (ts : Texts) (h : Pieces ts) → bytes_of (chunks_of ts h) ≡ written ts
unfolding chunks_of
bytes [] h = refl
bytes (t ∷ ts) h = ap (λ l. t ++ (separator t ∷ l)) (bytes ts h.1)

pub cut : (ts : Texts) (h : Pieces ts) → IsCut (chunks_of ts h) []
unfolding chunks_of
cut [] h = tt
cut (t ∷ ts) h = (h.0.longest _, (blank_behind t _, cut ts h.1))

pub within : (ts : Texts) (h : Pieces ts) → AllByRecursion (λ (c : Chunk). IsWithinLimits c.kind c.text) (chunks_of ts h)
unfolding chunks_of
within [] h = tt
within (t ∷ ts) h = (h.0.within, (tt, within ts h.1))

abbrev text_of : lex.Lexeme → List ℕ
text_of l = l.text

one_text : (s : Site) (k : PieceKind) (t : List ℕ) (rest : List lex.Lexeme) → is_token k ≡ true → map text_of (lexemes_of s k t ++ rest) ≡ t ∷ map text_of rest
one_text s Blank t rest h = cc
one_text s Comment t rest h = cc
one_text s Open t rest h = cc
one_text s Name t rest h = refl
one_text s Number t rest h = refl
one_text s Sign t rest h = refl

pub texts : (s : Site) (ts : Texts) (h : Pieces ts) (end : lex.Lexeme) → map text_of (lexemes s (chunks_of ts h) ++ (end ∷ [])) ≡ ts ++ (end.text ∷ [])
unfolding chunks_of
texts s [] h end = refl
texts s (t ∷ ts) h end =
    ap (map text_of) (append_assoc (lexemes_of s h.0.kind t) _ (end ∷ []))
    ∙ one_text s h.0.kind t (lexemes (site_after (site_after s t) (separator t ∷ [])) (chunks_of ts h.1) ++ (end ∷ [])) h.0.token
    ∙ ap (λ l. t ∷ l) (texts (site_after (site_after s t) (separator t ∷ [])) ts h.1 end)

pub plain_texts : (ls : List lex.Lexeme) → map (λ t. t.text) (map plain ls) ≡ map text_of ls
plain_texts [] = refl
plain_texts (l ∷ ls) = ap (λ m. l.text ∷ m) (plain_texts ls)
