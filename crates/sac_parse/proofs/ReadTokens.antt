-- The tokens that are read, as the first ones of a source.
use Rattle.std.proofs.Common.{ℕ, zero, suc, ◌≡◌, ◌<◌, ◌≤◌, ◌+◌, ◌-◌, Bool, true, false, not, ◌&&◌, cond, List, [], ◌∷◌, ◌++◌, inl, inr, Err, refl, sym, ap, ◌∙◌, subst, append_assoc, append-nil, arith, length, length-append, map, take, drop, min, ⊎_elim}
use Rattle.std.proofs.str.Laws.{order}
use Rattle.sac_lex.specs.Cut as cut
use Rattle.sac_lex.specs.Cut.{lexeme as cut_lexeme, IsEnded}
use Rattle.sac_lex.specs.Text.{IsTextOf}
use Rattle.sac_lex.specs.declared.token.Token.{Token}
use Rattle.sac_lex.specs.declared.token.TokenKind.{TokenKind}
use Rattle.sac_lex.specs.declared.token.TokenKind.TheVariants.{End}
use Rattle.sac_ast.specs.Texts.{Lexeme, is_end}
use Rattle.sac_ast.specs.Shape.{matches}
use Rattle.sac_ast.specs.Heights.{open_behind, opens, closes, IsShallow}
use Rattle.sac_grammar.specs.Verdicts.{IsRead}
use Rattle.sac_grammar.proofs.Machine.{false_true}
use Rattle.std.specs.List.{list_any}
use Rattle.sac_refusals.specs.Words.{brackets_at, bracket_words, is_bracket_word, ends_with_fold}
use Rattle.sac_phrases.specs.Contract.{lexeme, lexemes_of}
use Rattle.sac_parse.specs.Tokens.{lexemes}
use Rattle.sac_parse.specs.Brackets.{IsWithinBrackets}
use Rattle.sac_parse.specs.declared.error.ParseError.{ParseError}
use Rattle.sac_parse.specs.declared.error.ParseError.TheVariants.{Refused, Memory}
use Rattle.sac_parse.specs.Verdict.{IsReadOf, IsNamedIn, IsInRoom}
use Rattle.sac_parse.proofs.Shallow.{open_more, snoc_same, take_lexemes}

-- ---- lists

pub lexemes_length : (ts : List Token) → length (lexemes_of ts) ≡ length ts
lexemes_length [] = refl
lexemes_length (t ∷ ts) = ap suc (lexemes_length ts)

pub take_drop : {A : Type 0} (k : ℕ) (ts : List A) → ts ≡ take k ts ++ drop k ts
take_drop zero ts = refl
take_drop (suc k) [] = refl
take_drop (suc k) (t ∷ ts) = ap (λ l. t ∷ l) (take_drop k ts)

-- the last ones of equal lists
pub last_same : (u v : List Lexeme) (x y : Lexeme) → u ++ (x ∷ []) ≡ v ++ (y ∷ []) → x ≡ y
last_same [] [] x y e = cc
last_same [] (b ∷ v) x y e = let n = ap length e in let k = length-append v (y ∷ []) in absurd (omega arith)
last_same (a ∷ u) [] x y e = let n = ap length e in let k = length-append u (x ∷ []) in absurd (omega arith)
last_same (a ∷ u) (b ∷ v) x y e = let t : u ++ (x ∷ []) ≡ v ++ (y ∷ []) = cc in last_same u v x y t

-- ---- the end token

kind_end : (k : TokenKind) (t : List ℕ) → k ≡ End → IsTextOf k t → is_end t ≡ true
kind_end k t e p = ap is_end (subst (λ j. IsTextOf j t) e p)

pub ended_text : (ts : List Token) → IsEnded (map cut_lexeme ts) → (u : List Lexeme) (x : Lexeme) → lexemes_of ts ≡ u ++ (x ∷ []) → is_end x.text ≡ true
ended_text [] h u x e = absurd h
ended_text (t ∷ []) h u x e = subst (λ (y : Lexeme). is_end y.text ≡ true) (last_same [] u (lexeme t) x e) (kind_end t.kind t.text.now h t.spelled)
ended_text (t ∷ s ∷ ts) h [] x e = let n = ap length e in absurd (omega arith)
ended_text (t ∷ s ∷ ts) h (b ∷ u) x e = let l : lexemes_of (s ∷ ts) ≡ u ++ (x ∷ []) = cc in ended_text (s ∷ ts) h.1 u x l

pub ended_some : (ts : List Token) → IsEnded (map cut_lexeme ts) → 0 < length ts
ended_some [] h = absurd h
ended_some (t ∷ ts) h = omega arith

-- ---- what is read of a source

all_read : (ts : List Lexeme) → IsShallow ts → IsRead ts ts
all_read ts few = record {
  later = [];
  whole = sym (append-nil ts);
  brackets = λ v w y e deep. let k = few (v ++ (y ∷ [])) w (e ∙ sym (append_assoc v (y ∷ []) w)) in absurd (omega arith);
}

-- of two fronts of one list the shorter one is a front of the other
shorter_front : (a b r s : List Lexeme) → a ++ r ≡ b ++ s → length a ≤ length b → (w : List Lexeme) × (b ≡ a ++ w)
shorter_front [] b r s e le = (b, refl)
shorter_front (x ∷ a) [] r s e le = absurd (omega arith)
shorter_front (x ∷ a) (y ∷ b) r s e le =
    let h : x ≡ y = cc in
    let t : a ++ r ≡ b ++ s = cc in
    let f = shorter_front a b r s t (omega arith) in
    (f.0, λ i. sym h i ∷ f.1 i)

take_length : (i : ℕ) (ts : List Lexeme) → i ≤ length ts → length (take i ts) ≡ i
take_length zero ts le = refl
take_length (suc i) [] le = absurd (omega arith)
take_length (suc i) (t ∷ ts) le = let k = take_length i ts (omega arith) in omega arith

first_read : (ts : List Lexeme) (i : ℕ) → i < length ts → IsShallow (take i ts) → IsRead ts (take (i + 1) ts)
first_read ts i lt few = record {
  later = drop (i + 1) ts;
  whole = take_drop (i + 1) ts;
  brackets = λ v w y e deep.
      let n = take_length (i + 1) ts (omega arith) in
      let m = take_length i ts (omega arith) in
      let l = length-append v (y ∷ []) in
      ⊎_elim
      (λ (early : length v < i).
      let whole : (v ++ (y ∷ [])) ++ w ≡ take i ts ++ drop i ts = append_assoc v (y ∷ []) w ∙ sym e ∙ take_drop i ts in
      let f = shorter_front (v ++ (y ∷ [])) (take i ts) w (drop i ts) whole (omega arith) in
      let k = few (v ++ (y ∷ [])) f.0 f.1 in
      let r : length (take (i + 1) ts) ≤ length v + 1 = absurd (omega arith) in
      r)
      (λ (late : i ≤ length v). let r : length (take (i + 1) ts) ≤ length v + 1 = omega arith in r)
      (order (length v) i);
}

read_by : (ts : List Token) (read : List Lexeme) (i : ℕ) → i < length ts → read ≡ lexemes_of (take (i + 1) ts) → IsShallow (lexemes_of (take i ts)) → IsRead (lexemes_of ts) read
read_by ts read i lt e few =
    let n = lexemes_length ts in
    subst (IsRead (lexemes_of ts)) (sym (e ∙ take_lexemes ts (i + 1))) (first_read (lexemes_of ts) i (omega arith) (subst IsShallow (take_lexemes ts i) few))

pub is_read : (ts read : List Token) → IsEnded (map cut_lexeme ts) → IsWithinBrackets ts read → IsReadOf (lexemes_of ts) (lexemes_of read)
is_read ts read h (inl (e, (few, free))) = record {
  front = subst (λ r. IsRead (lexemes_of ts) (lexemes_of r)) (sym e) (all_read (lexemes_of ts) few);
  last = λ u x l. inr (ended_text ts h u x (ap lexemes_of (sym e) ∙ l));
}
is_read ts read h (inr (i, e, (lt, few, free, (t, split, crowd)))) = record {
  front = read_by ts (lexemes_of read) i lt (ap lexemes_of e) few;
  last = λ u x l.
      let same = snoc_same (lexemes_of (take i ts)) u t x (sym split ∙ ap lexemes_of (sym e) ∙ l) in
      inl (subst (λ (y : Lexeme). 200 < brackets_at u y) same.1 (subst (λ v. 200 < brackets_at v t) same.0 crowd));
}

pub read_some : (ts read : List Token) → IsEnded (map cut_lexeme ts) → IsWithinBrackets ts read → 0 < length read
read_some ts read h (inl (e, (few, free))) = let n = ap length e in let k = ended_some ts h in omega arith
read_some ts read h (inr (i, e, (lt, few, free, crowd))) =
    let n = ap length e in
    let a = lexemes_length (take (i + 1) ts) in
    let b = ap length (take_lexemes ts (i + 1)) in
    let c = take_length (i + 1) (lexemes_of ts) (let m = lexemes_length ts in omega arith) in
    omega arith

-- ---- with an end token no bracket opens

end_opens_none : (n : ℕ) (t : List ℕ) → is_end t ≡ true → cond (opens t) (n + 1) (cond (closes t) (n - 1) n) ≡ n
end_opens_none n [] e = refl
end_opens_none n (c ∷ t) e = false_true e

end_is_no_word : (t : Lexeme) → is_end t.text ≡ true → is_bracket_word t ≡ false
end_is_no_word t e = no_word t.text e
  where
    no_word : (text : List ℕ) → is_end text ≡ true → list_any (λ f. matches f (record { text = text; site = t.site })) bracket_words ≡ false
    no_word [] i = refl
    no_word (c ∷ text) i = false_true i

none_next : (a b : Bool) → a ≡ false → cond {A = ℕ} (a && b) 1 0 ≡ 0
none_next true b e = false_true (sym e)
none_next false b e = refl

-- an end token is none with which there are too many brackets
end_is_shallow : (u : List Lexeme) (x : Lexeme) → is_end x.text ≡ true → open_behind 0 u ≤ 200 → 200 < brackets_at u x → ⊥
end_is_shallow u x e few crowd =
    let same : open_behind 0 (u ++ (x ∷ [])) ≡ open_behind 0 u = open_more 0 u x ∙ end_opens_none (open_behind 0 u) x.text e in
    let none = none_next (is_bracket_word x) (not (ends_with_fold u)) (end_is_no_word x e) in
    absurd (omega arith)

pub whole_read : (ts read : List Token) → IsWithinBrackets ts read → (u : List Lexeme) (x : Lexeme) → lexemes_of read ≡ u ++ (x ∷ []) → is_end x.text ≡ true → (read ≡ ts) × IsShallow (lexemes_of ts)
whole_read ts read (inl (e, (few, free))) u x l end = (e, few)
whole_read ts read (inr (i, e, (lt, few, free, (t, split, crowd)))) u x l end =
    let same = snoc_same (lexemes_of (take i ts)) u t x (sym split ∙ ap lexemes_of (sym e) ∙ l) in
    let k = few (lexemes_of (take i ts)) [] (sym (append-nil (lexemes_of (take i ts)))) in
    absurd (end_is_shallow (lexemes_of (take i ts)) t (subst (λ (y : Lexeme). is_end y.text ≡ true) (sym same.1) end) k crowd)

-- ---- the view of tokens

pub plain_lexemes : (ts : List Token) → lexemes (map cut_lexeme ts) ≡ lexemes_of ts
plain_lexemes [] = refl
plain_lexemes (t ∷ ts) = ap (λ l. lexeme t ∷ l) (plain_lexemes ts)

-- the tokens of a source, by its slice
pub source_tokens : (ts : List Token) (view : List cut.Lexeme) → map cut_lexeme ts ≡ view → lexemes_of ts ≡ lexemes view
source_tokens ts view e = sym (plain_lexemes ts) ∙ ap lexemes e

pub source_ended : (ts : List Token) (view : List cut.Lexeme) → map cut_lexeme ts ≡ view → IsEnded view → IsEnded (map cut_lexeme ts)
source_ended ts view e h = subst IsEnded (sym e) h

-- the first tokens of those that were read
pub taken : (ts read : List Token) (n : ℕ) → read ≡ take n ts → lexemes_of read ≡ take n (lexemes_of ts)
taken ts read n e = ap lexemes_of e ∙ take_lexemes ts n

pub count_taken : (ts rest : List Token) (n before : ℕ) → before ≡ length ts - length rest → n ≡ min (length ts) (before + 1) → n ≡ min (length (lexemes_of ts)) ((length (lexemes_of ts) - length (lexemes_of rest)) + 1)
count_taken ts rest n before e f =
    let a = lexemes_length ts in
    let b = lexemes_length rest in
    f ∙ ap (λ k. min (length ts) (k + 1)) e ∙ ap (λ k. min k ((k - length rest) + 1)) (sym a) ∙ ap (λ k. min (length (lexemes_of ts)) ((length (lexemes_of ts) - k) + 1)) (sym b)

pub no_tokens : (ts : List Token) → length ts < 1 → lexemes_of ts ≡ []
no_tokens [] lt = refl
no_tokens (t ∷ ts) lt = absurd (omega arith)

pub some_tokens : (ts : List Token) → 1 ≤ length ts → lexemes_of ts ≡ [] → ⊥
some_tokens [] le e = absurd (omega arith)
some_tokens (t ∷ ts) le e = let n = ap length e in absurd (omega arith)

-- ---- where an error stands that names one of the tokens that are read

pub in_room : (ts read : List Token) → IsWithinBrackets ts read → (e : ParseError) → IsNamedIn (lexemes_of read) e → IsInRoom (lexemes_of ts) (Err e)
in_room ts read w Memory n = tt
in_room ts read (inl (e, (few, free))) (Refused code site) (a, t, b, split, at) = record {
  before = a;
  token = t;
  behind = b;
  whole = ap lexemes_of (sym e) ∙ split;
  at = at;
  least = λ u w x s crowd. let k = free u w x s in absurd (omega arith);
}
in_room ts read (inr (i, e, (lt, few, free, there))) (Refused code site) (a, t, b, split, at) =
    let all = lexemes_of ts in
    let cut : lexemes_of read ≡ take (i + 1) all = ap lexemes_of e ∙ take_lexemes ts (i + 1) in
    let count = lexemes_length ts in
    record {
      before = a;
      token = t;
      behind = b ++ drop (i + 1) all;
      whole = take_drop (i + 1) all ∙ ap (λ l. l ++ drop (i + 1) all) (sym cut ∙ split) ∙ append_assoc a (t ∷ b) (drop (i + 1) all);
      at = at;
      least = λ u w x s crowd. ⊎_elim
          (λ (early : length u < i).
          let m = take_length i all (omega arith) in
          let l = length-append u (x ∷ []) in
          let whole : (u ++ (x ∷ [])) ++ w ≡ take i all ++ drop i all = append_assoc u (x ∷ []) w ∙ sym s ∙ take_drop i all in
          let f = shorter_front (u ++ (x ∷ [])) (take i all) w (drop i all) whole (omega arith) in
          let k = free u f.0 x (take_lexemes ts i ∙ f.1 ∙ append_assoc u (x ∷ []) f.0) in
          let r : length a ≤ length u = absurd (omega arith) in
          r)
          (λ (late : i ≤ length u).
          let n = take_length (i + 1) all (omega arith) in
          let l = ap length (sym cut ∙ split) ∙ length-append a (t ∷ b) in
          let r : length a ≤ length u = omega arith in
          r)
          (order (length u) i);
    }
