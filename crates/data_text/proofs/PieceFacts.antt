-- How pieces come from the front of a text.
use Rattle.std.proofs.Common.{◌≡◌, ℕ, suc, ◌+◌, Bool, true, false, not, ◌||◌, List, [], ◌∷◌, take, drop, refl, ap, sym, ◌∙◌, Option, Some, None, cond, length, get_or, ◌-◌, length-drop, inl, inr, take_all, lt-ltb, le-ltb, ◌≤◌, ◌<◌, arith}
use Rattle.std.specs.Prelude.{is_some, position, unwrap_or, nat_lt, if◌then◌else◌}
use Rattle.std.specs.List.{position_or_len}
use Rattle.std.proofs.lemmas.Bool.{cases_lt}
use Rattle.std.proofs.lemmas.List.Sums.{prefix_len-le-length}
use Rattle.std.proofs.Math.Numerals.{one-add}
use Rattle.data_text.specs.Pieces.{Piece, Word, is_blank, sign, ends_word, starts_word, spell, put, pieces}

abbrev pub blanks : List ℕ → ℕ
blanks = position_or_len (λ b. not (is_blank b))

blanks_at : (t : Bool) (b : ℕ) (bs : List ℕ) → is_blank b ≡ t → pieces (drop (blanks bs) bs) ≡ pieces bs → pieces (drop (blanks (b ∷ bs)) (b ∷ bs)) ≡ pieces (b ∷ bs)
blanks_at true b bs is rest =
    ap (λ t. pieces (drop (cond (not (not t)) (1 + blanks bs) 0) (b ∷ bs))) is
    ∙ ap (λ n. pieces (drop n (b ∷ bs))) (one-add (blanks bs))
    ∙ rest
    ∙ ap (λ t. if t then pieces bs else put b (sign b) (starts_word bs) (pieces bs)) (sym is)
blanks_at false b bs is rest = ap (λ t. pieces (drop (cond (not (not t)) (1 + blanks bs) 0) (b ∷ bs))) is

-- blanks before a text
pub blanks_first : (bs : List ℕ) → pieces (drop (position_or_len (λ b. not (is_blank b)) bs) bs) ≡ pieces bs
blanks_first [] = refl
blanks_first (b ∷ bs) = blanks_at (is_blank b) b bs refl (blanks_first bs)

-- a sign at the front
pub sign_first : (b : ℕ) (bs : List ℕ) (p : Piece) → is_blank b ≡ false → sign b ≡ Some p → pieces (b ∷ bs) ≡ p ∷ pieces bs
sign_first b bs p full is =
    ap (λ t. if t then pieces bs else put b (sign b) (starts_word bs) (pieces bs)) full
    ∙ ap (λ o. put b o (starts_word bs) (pieces bs)) is

or_none : (s t : Bool) → (s || t) ≡ false → (s ≡ false) × (t ≡ false)
or_none true t is = absurd (cc)
or_none false t is = (refl, is)

not_some : (o : Option Piece) → is_some o ≡ false → o ≡ None
not_some None is = refl
not_some (Some p) is = absurd (cc)

pub no_blank : (b : ℕ) → ends_word b ≡ false → is_blank b ≡ false
unfolding ends_word
no_blank b is = (or_none (is_blank b) (is_some (sign b)) is).0

pub no_sign : (b : ℕ) → ends_word b ≡ false → sign b ≡ None
unfolding ends_word
no_sign b is = not_some (sign b) (or_none (is_blank b) (is_some (sign b)) is).1

abbrev pub word_end : List ℕ → ℕ
word_end = position_or_len ends_word

-- a text cut behind so many bytes, which are a word
abbrev cut_at : ℕ → List ℕ → List Piece
cut_at n bs = Word (take n bs) ∷ pieces (drop n bs)

pub spelled : (b : ℕ) (bs : List ℕ) → ends_word b ≡ false → pieces (b ∷ bs) ≡ spell b (starts_word bs) (pieces bs)
spelled b bs is =
    ap (λ t. if t then pieces bs else put b (sign b) (starts_word bs) (pieces bs)) (no_blank b is)
    ∙ ap (λ o. put b o (starts_word bs) (pieces bs)) (no_sign b is)

counted : (b : ℕ) (bs : List ℕ) → ends_word b ≡ false → word_end (b ∷ bs) ≡ suc (word_end bs)
counted b bs is = ap (λ t. cond (not t) (1 + word_end bs) 0) is ∙ one-add (word_end bs)

word_before : (t : Bool) (b c : ℕ) (bs : List ℕ) → ends_word b ≡ false → ends_word c ≡ t → (ends_word c ≡ false → pieces (c ∷ bs) ≡ cut_at (word_end (c ∷ bs)) (c ∷ bs)) → pieces (b ∷ c ∷ bs) ≡ cut_at (suc (word_end (c ∷ bs))) (b ∷ c ∷ bs)
word_before true b c bs is end rest =
    spelled b (c ∷ bs) is
    ∙ ap (λ t. spell b (not t) (pieces (c ∷ bs))) end
    ∙ ap (λ t. cut_at (suc (cond (not t) (1 + word_end bs) 0)) (b ∷ c ∷ bs)) (sym end)
word_before false b c bs is end rest =
    spelled b (c ∷ bs) is
    ∙ ap (λ t. spell b (not t) (pieces (c ∷ bs))) end
    ∙ ap (spell b true) (rest end)

-- a word at the front
pub word_first : (b : ℕ) (bs : List ℕ) → ends_word b ≡ false → pieces (b ∷ bs) ≡ cut_at (word_end (b ∷ bs)) (b ∷ bs)
word_first b [] is = spelled b [] is ∙ ap (λ n. cut_at n (b ∷ [])) (sym (counted b [] is))
word_first b (c ∷ bs) is = word_before (ends_word c) b c bs is refl (λ e. word_first c bs e) ∙ ap (λ n. cut_at n (b ∷ c ∷ bs)) (sym (counted b (c ∷ bs) is))

full_at : (t : Bool) (b c : ℕ) (bs cs : List ℕ) → is_blank b ≡ t → ((d : ℕ) (ds : List ℕ) → d ∷ ds ≡ drop (blanks bs) bs → is_blank d ≡ false) → c ∷ cs ≡ drop (blanks (b ∷ bs)) (b ∷ bs) → is_blank c ≡ false
full_at true b c bs cs is rest e =
    rest c cs (e ∙ ap (λ t. drop (cond (not (not t)) (1 + blanks bs) 0) (b ∷ bs)) is ∙ ap (λ n. drop n (b ∷ bs)) (one-add (blanks bs)))
full_at false b c bs cs is rest e =
    let same : c ∷ cs ≡ b ∷ bs = e ∙ ap (λ t. drop (cond (not (not t)) (1 + blanks bs) 0) (b ∷ bs)) is in
    let head : c ≡ b = cc in
    ap is_blank head ∙ is

-- what stands behind blanks is no blank
full_first : (bs : List ℕ) (c : ℕ) (cs : List ℕ) → c ∷ cs ≡ drop (blanks bs) bs → is_blank c ≡ false
full_first [] c cs e = absurd (cc)
full_first (b ∷ bs) c cs e = full_at (is_blank b) b c bs cs refl (full_first bs) e

-- the text t behind the blanks of bs has no byte, a sign at its front, or a word

pub none_left : (bs t : List ℕ) → t ≡ drop (blanks bs) bs → length t < 1 → pieces bs ≡ []
none_left bs [] e short = sym (blanks_first bs) ∙ ap pieces (sym e)
none_left bs (c ∷ cs) e short = absurd (omega (arith, short))

pub sign_taken : (bs t : List ℕ) (p : Piece) → t ≡ drop (blanks bs) bs → 1 ≤ length t → sign (get_or t 0 0) ≡ Some p → pieces bs ≡ p ∷ pieces (take (length t - 1) (drop 1 t))
sign_taken bs [] p e long is = absurd (omega (arith, long))
sign_taken bs (c ∷ cs) p e long is =
    sym (blanks_first bs) ∙ ap pieces (sym e) ∙ sign_first c cs p (full_first bs c cs e) is
    ∙ ap (λ t. p ∷ pieces t) (sym (take_all (suc (length cs) - 1) cs (omega arith)))

pub length_rest : (bs t : List ℕ) → t ≡ drop (blanks bs) bs → length t ≤ length bs
length_rest bs t e = let same : length t ≡ length bs - blanks bs = ap length e ∙ length-drop (blanks bs) bs in omega arith

word_there : (bs : List ℕ) (c : ℕ) (cs : List ℕ) → c ∷ cs ≡ drop (blanks bs) bs → sign c ≡ None → ends_word c ≡ false
unfolding ends_word
word_there bs c cs e is = ap (λ t. t || is_some (sign c)) (full_first bs c cs e) ∙ ap is_some is

pub word_taken : (bs t : List ℕ) (n : ℕ) → t ≡ drop (blanks bs) bs → 1 ≤ length t → sign (get_or t 0 0) ≡ None → n ≡ word_end t → pieces bs ≡ Word (take n t) ∷ pieces (drop n t)
word_taken bs [] n e long is len = absurd (omega (arith, long))
word_taken bs (c ∷ cs) n e long is len = sym (blanks_first bs) ∙ ap pieces (sym e) ∙ word_first c cs (word_there bs c cs e is) ∙ ap (λ m. cut_at m (c ∷ cs)) (sym len)

pub word_some : (bs t : List ℕ) (n : ℕ) → t ≡ drop (blanks bs) bs → 1 ≤ length t → sign (get_or t 0 0) ≡ None → n ≡ word_end t → 0 < n
word_some bs [] n e long is len = absurd (omega (arith, long))
word_some bs (c ∷ cs) n e long is len =
    let more : n ≡ suc (word_end cs) = len ∙ counted c cs (word_there bs c cs e is) in
    omega arith

place_cases : (n m : ℕ) → n ≤ m → unwrap_or (cond (nat_lt n m) (Some n) None) m ≡ n
place_cases n m within = elim (cases_lt n m) [ inl below ↦ rw (lt-ltb n m below) refl | inr above ↦ rw (le-ltb n m above) (omega arith) ]

-- where a search finds nothing, its place is the end
pub place_or_end : {X : Type 0} (p : X → Bool) (xs : List X) → unwrap_or (position p xs) (length xs) ≡ position_or_len p xs
place_or_end p xs = place_cases (position_or_len p xs) (length xs) (prefix_len-le-length (λ x. not (p x)) xs)
