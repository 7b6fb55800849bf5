-- Brackets that are depth behind the tokens, one more token at a time.
use Rattle.std.proofs.Common.{ℕ, zero, suc, ◌≡◌, ◌<◌, ◌≤◌, ◌+◌, ◌-◌, cond, Bool, ◌&&◌, not, true, false, List, [], ◌∷◌, ◌++◌, length, take, drop, get_or, codes, refl, sym, ap, ◌∙◌, subst, append_assoc, arith, length-append, length-take-le, ⊎_elim}
use Rattle.std.proofs.str.Laws.{order}
use Rattle.sac_ast.specs.Texts.{Lexeme}
use Rattle.sac_lex.specs.declared.token.Token.{Token}
use Rattle.sac_phrases.specs.Contract.{lexeme, lexemes_of}
use Rattle.std.specs.Str.{bytes_eq}
use Rattle.sac_grammar.specs.Run.{starts}
use Rattle.sac_refusals.specs.Words.{bracket_words, brackets_at, ends_with_fold, opens_next}
use Rattle.sac_parse.specs.Brackets.{HasRoom, IsCrowdedAt}
use Rattle.sac_ast.specs.Heights.{opens, closes, open_behind, IsShallow}

pub open_more : (n : ℕ) (ts : List Lexeme) (t : Lexeme) → open_behind n (ts ++ (t ∷ [])) ≡ open_behind (open_behind n ts) (t ∷ [])
open_more n [] t = refl
open_more n (x ∷ ts) t = open_more (cond (opens x.text) (n + 1) (cond (closes x.text) (n - 1) n)) ts t

pub take_lexemes : (ts : List Token) (k : ℕ) → lexemes_of (take k ts) ≡ take k (lexemes_of ts)
take_lexemes ts zero = refl
take_lexemes [] (suc k) = refl
take_lexemes (t ∷ ts) (suc k) = ap (λ l. lexeme t ∷ l) (take_lexemes ts k)

-- of equal lists with one more token each
pub snoc_same : (u v : List Lexeme) (x y : Lexeme) → u ++ (x ∷ []) ≡ v ++ (y ∷ []) → (u ≡ v) × (x ≡ y)
snoc_same [] [] x y e = (refl, let h : x ≡ y = cc in h)
snoc_same [] (b ∷ v) x y e = let n = ap length e in let k = length-append v (y ∷ []) in absurd (omega arith)
snoc_same (a ∷ u) [] x y e = let n = ap length e in let k = length-append u (x ∷ []) in absurd (omega arith)
snoc_same (a ∷ u) (b ∷ v) x y e =
    let h : a ≡ b = cc in
    let t : u ++ (x ∷ []) ≡ v ++ (y ∷ []) = cc in
    let s = snoc_same u v x y t in
    (λ i. h i ∷ s.0 i, s.1)

-- with the token at this place there are no more than the limit allows
abbrev pub HasRoomAt : List Token → ℕ → Type 0
HasRoomAt ts k = (t : Lexeme) → lexemes_of (take (k + 1) ts) ≡ lexemes_of (take k ts) ++ (t ∷ []) → brackets_at (lexemes_of (take k ts)) t ≤ 200

-- what the loop knows behind i tokens
pub record Open (ts : List Token) (i depth : ℕ) : Type 0 where
  pub is : depth ≡ open_behind 0 (lexemes_of (take i ts))
  pub few : depth ≤ 200
  pub before : (k : ℕ) → k ≤ i → open_behind 0 (lexemes_of (take k ts)) ≤ 200
  pub free : (k : ℕ) → k < i → HasRoomAt ts k

pub open_start : (ts : List Token) → Open ts 0 0
open_start ts = record { is = refl; few = omega arith; before = λ k le. first k le; free = λ k lt. absurd (omega arith) }
  where
    first : (k : ℕ) → k ≤ 0 → open_behind 0 (lexemes_of (take k ts)) ≤ 200
    first zero le = omega arith
    first (suc k) le = absurd (omega arith)

pub take_more_token : (ts : List Token) (i : ℕ) (d : Token) → i < length ts → lexemes_of (take (i + 1) ts) ≡ lexemes_of (take i ts) ++ (lexeme (get_or ts i d) ∷ [])
take_more_token [] i d le = absurd (omega arith)
take_more_token (x ∷ ts) zero d le = refl
take_more_token (x ∷ ts) (suc i) d le = ap (λ n. lexemes_of (take n (x ∷ ts))) (let q : suc i + 1 ≡ suc (i + 1) = omega arith in q) ∙ ap (λ l. lexeme x ∷ l) (take_more_token ts i d (omega arith))

pub open_at : (ts : List Token) (i depth next : ℕ) (d : Token) → Open ts i depth → i < length ts → next ≡ open_behind depth (lexeme (get_or ts i d) ∷ []) → next ≡ open_behind 0 (lexemes_of (take (i + 1) ts))
open_at ts i depth next d o le n = n ∙ ap (λ m. open_behind m (lexeme (get_or ts i d) ∷ [])) o.is ∙ sym (open_more 0 (lexemes_of (take i ts)) (lexeme (get_or ts i d))) ∙ ap (open_behind 0) (sym (take_more_token ts i d le))

pub open_next : (ts : List Token) (i depth next : ℕ) (d : Token) → Open ts i depth → i < length ts → next ≡ open_behind depth (lexeme (get_or ts i d) ∷ []) → next ≤ 200 → HasRoomAt ts i → Open ts (i + 1) next
open_next ts i depth next d o le n few room =
    let at = open_at ts i depth next d o le n in
    record {
      is = at;
      few = few;
      before = λ k h. ⊎_elim (λ (early : k < i + 1). o.before k (omega arith)) (λ (late : i + 1 ≤ k). subst (λ m. open_behind 0 (lexemes_of (take m ts)) ≤ 200) (let q : i + 1 ≡ k = omega arith in q) (subst (λ m. m ≤ 200) at few)) (order k (i + 1));
      free = λ k h. ⊎_elim (λ (early : k < i). o.free k early) (λ (late : i ≤ k). subst (HasRoomAt ts) (let q : i ≡ k = omega arith in q) room) (order k i);
    }

front_is : (u r : List Lexeme) → take (length u) (u ++ r) ≡ u
front_is [] r = refl
front_is (x ∷ u) r = ap (λ l. x ∷ l) (front_is u r)

lexemes_length' : (ts : List Token) → length (lexemes_of ts) ≡ length ts
lexemes_length' [] = refl
lexemes_length' (t ∷ ts) = ap suc (lexemes_length' ts)

take_take : (ts : List Token) (k i : ℕ) → k ≤ i → take k (take i ts) ≡ take k ts
take_take ts zero i le = refl
take_take [] (suc k) zero le = refl
take_take [] (suc k) (suc i) le = refl
take_take (t ∷ ts) (suc k) zero le = absurd (omega arith)
take_take (t ∷ ts) (suc k) (suc i) le = ap (λ l. t ∷ l) (take_take ts k i (omega arith))

pub shallow : (ts : List Token) (i depth : ℕ) → i ≤ length ts → Open ts i depth → IsShallow (lexemes_of (take i ts))
shallow ts i depth le o = λ u r e.
    let n = ap length e ∙ length-append u r in
    let m = lexemes_length' (take i ts) ∙ length-take-le i ts le in
    let k : length u ≤ i = omega arith in
    let is : lexemes_of (take (length u) ts) ≡ u = ap lexemes_of (sym (take_take ts (length u) i k)) ∙ take_lexemes (take i ts) (length u) ∙ ap (take (length u)) e ∙ front_is u r in
    subst (λ l. open_behind 0 l ≤ 200) is (o.before (length u) k)

length_step : (u : List Lexeme) (x : Lexeme) → length (u ++ (x ∷ [])) ≡ length u + 1
length_step u x = length-append u (x ∷ [])

pub has_room : (ts : List Token) (i depth : ℕ) → i ≤ length ts → Open ts i depth → HasRoom (lexemes_of (take i ts))
has_room ts i depth le o = λ u w x e.
    let n = ap length e ∙ length-append u (x ∷ w) in
    let m = lexemes_length' (take i ts) ∙ length-take-le i ts le in
    let k : length u < i = omega arith in
    let front = λ (v r : List Lexeme) (s : lexemes_of (take i ts) ≡ v ++ r) (h : length v ≤ i). ap lexemes_of (sym (take_take ts (length v) i h)) ∙ take_lexemes (take i ts) (length v) ∙ ap (take (length v)) s ∙ front_is v r in
    let here : lexemes_of (take (length u) ts) ≡ u = front u (x ∷ w) e (omega arith) in
    let step : length (u ++ (x ∷ [])) ≡ length u + 1 = length_step u x in
    let there : lexemes_of (take (length u + 1) ts) ≡ u ++ (x ∷ []) = ap (λ j. lexemes_of (take j ts)) (sym step) ∙ front (u ++ (x ∷ [])) w (e ∙ sym (append_assoc u (x ∷ []) w)) (omega arith) in
    subst (λ l. brackets_at l x ≤ 200) here (o.free (length u) k x (there ∙ ap (λ l. l ++ (x ∷ [])) (sym here)))

take_whole : (ts : List Token) → take (length ts) ts ≡ ts
take_whole [] = refl
take_whole (t ∷ ts) = ap (λ l. t ∷ l) (take_whole ts)

pub shallow_whole : (ts : List Token) (i depth : ℕ) → i ≡ length ts → Open ts i depth → IsShallow (lexemes_of ts)
shallow_whole ts i depth e o = subst (λ l. IsShallow (lexemes_of l)) (ap (λ n. take n ts) e ∙ take_whole ts) (shallow ts i depth (omega arith) o)

pub room_whole : (ts : List Token) (i depth : ℕ) → i ≡ length ts → Open ts i depth → HasRoom (lexemes_of ts)
room_whole ts i depth e o = subst (λ l. HasRoom (lexemes_of l)) (ap (λ n. take n ts) e ∙ take_whole ts) (has_room ts i depth (omega arith) o)

-- ---- words behind which a bracket opens

drop_more : (ts : List Token) (i : ℕ) (d : Token) → i < length ts → lexemes_of (drop i ts) ≡ lexeme (get_or ts i d) ∷ lexemes_of (drop (i + 1) ts)
drop_more [] i d le = absurd (omega arith)
drop_more (x ∷ ts) zero d le = refl
drop_more (x ∷ ts) (suc i) d le = drop_more ts i d (omega arith) ∙ ap (λ n. lexeme (get_or ts i d) ∷ lexemes_of (drop n (x ∷ ts))) (let q : suc (i + 1) ≡ suc i + 1 = omega arith in q)

-- the token at which the loop stops
pub crowded : (ts before rest : List Token) (i depth next all : ℕ) (d : Token) → Open ts i depth → i < length ts → next ≡ open_behind depth (lexeme (get_or ts i d) ∷ []) → before ≡ take i ts → rest ≡ drop i ts → ((t : Lexeme) (r : List Lexeme) → lexemes_of rest ≡ t ∷ r → all ≡ next + cond (opens_next (lexemes_of before) t) 1 0) → 200 < all → IsCrowdedAt ts i
crowded ts before rest i depth next all d o le n b r w h =
    let t = lexeme (get_or ts i d) in
    let more = take_more_token ts i d le in
    let at : next ≡ open_behind 0 (lexemes_of (take i ts) ++ (t ∷ [])) = open_at ts i depth next d o le n ∙ ap (open_behind 0) more in
    let whole : all ≡ next + cond (opens_next (lexemes_of (take i ts)) t) 1 0 = w t (lexemes_of (drop (i + 1) ts)) (ap lexemes_of r ∙ drop_more ts i d le) ∙ ap (λ l. next + cond (opens_next (lexemes_of l) t) 1 0) b in
    (t, more, subst (λ m. 200 < m) (whole ∙ ap (λ m. m + cond (opens_next (lexemes_of (take i ts)) t) 1 0) at) h)

-- the token at which the loop goes on
pub uncrowded : (ts before rest : List Token) (i depth next all : ℕ) (d : Token) → Open ts i depth → i < length ts → next ≡ open_behind depth (lexeme (get_or ts i d) ∷ []) → before ≡ take i ts → rest ≡ drop i ts → ((t : Lexeme) (r : List Lexeme) → lexemes_of rest ≡ t ∷ r → all ≡ next + cond (opens_next (lexemes_of before) t) 1 0) → all ≤ 200 → HasRoomAt ts i
uncrowded ts before rest i depth next all d o le n b r w h = λ t e.
    let x = lexeme (get_or ts i d) in
    let same : x ≡ t = (snoc_same (lexemes_of (take i ts)) (lexemes_of (take i ts)) x t (sym (take_more_token ts i d le) ∙ e)).1 in
    let at : next ≡ open_behind 0 (lexemes_of (take i ts) ++ (x ∷ [])) = open_at ts i depth next d o le n ∙ ap (open_behind 0) (take_more_token ts i d le) in
    let whole : all ≡ next + cond (opens_next (lexemes_of (take i ts)) x) 1 0 = w x (lexemes_of (drop (i + 1) ts)) (ap lexemes_of r ∙ drop_more ts i d le) ∙ ap (λ l. next + cond (opens_next (lexemes_of l) x) 1 0) b in
    subst (λ (y : Lexeme). brackets_at (lexemes_of (take i ts)) y ≤ 200) same (subst (λ m. m ≤ 200) (whole ∙ ap (λ m. m + cond (opens_next (lexemes_of (take i ts)) x) 1 0) at) h)

-- ---- the operator of a fold

pub two_last : (ts : List Token) (n m : ℕ) (d e : Token) → length ts ≡ n + 2 → m ≡ n + 1 → (bytes_eq (codes "fold") (get_or ts n d).text.now && bytes_eq (codes "(") (get_or ts m e).text.now) ≡ ends_with_fold (lexemes_of ts)
two_last [] n m d e l k = absurd (omega arith)
two_last (a ∷ []) n m d e l k = absurd (omega arith)
two_last (a ∷ b ∷ []) zero zero d e l k = absurd (omega arith)
two_last (a ∷ b ∷ []) zero (suc zero) d e l k = refl
two_last (a ∷ b ∷ []) zero (suc (suc m)) d e l k = absurd (omega arith)
two_last (a ∷ b ∷ []) (suc n) m d e l k = absurd (omega arith)
two_last (a ∷ b ∷ c ∷ ts) zero m d e l k = absurd (omega arith)
two_last (a ∷ b ∷ c ∷ ts) (suc n) zero d e l k = absurd (omega arith)
two_last (a ∷ b ∷ c ∷ ts) (suc n) (suc m) d e l k = two_last (b ∷ c ∷ ts) n m d e (omega arith) (omega arith)

pub few_tokens : (ts : List Token) → length ts < 2 → false ≡ ends_with_fold (lexemes_of ts)
few_tokens [] l = refl
few_tokens (a ∷ []) l = refl
few_tokens (a ∷ b ∷ ts) l = absurd (omega arith)

pub next_there : (b o : Bool) (before rest : List Token) → b ≡ starts bracket_words (lexemes_of rest) → b ≡ true → o ≡ ends_with_fold (lexemes_of before) → (t : Lexeme) (r : List Lexeme) → lexemes_of rest ≡ t ∷ r → not o ≡ opens_next (lexemes_of before) t
next_there b o before rest e word f t r split = ap not f ∙ ap (λ x. x && not (ends_with_fold (lexemes_of before))) (sym word ∙ e ∙ ap (starts bracket_words) split)

pub next_none : (b : Bool) (before rest : List Token) → b ≡ starts bracket_words (lexemes_of rest) → b ≡ false → (t : Lexeme) (r : List Lexeme) → lexemes_of rest ≡ t ∷ r → b ≡ opens_next (lexemes_of before) t
next_none b before rest e word t r split = word ∙ ap (λ x. x && not (ends_with_fold (lexemes_of before))) (sym word ∙ e ∙ ap (starts bracket_words) split)
