-- From what the calls of a function promise to the steps of the parser.
use Rattle.std.specs.Str.Parse.{digits_value}
use Rattle.std.proofs.Common.{pos, Result, Ok, Err, IsErrAnd, Bor, ℤ, append_assoc, ℕ, zero, suc, ◌≡◌, ◌-◌, ◌<◌, Bool, true, false, ◌||◌, List, [], ◌∷◌, ◌++◌, inl, inr, refl, sym, ap, ◌∙◌, subst, map, codes, arith}
use Rattle.sac_ast.specs.Texts.{Lexeme}
use Rattle.std.specs.Global.{Vec}
use Rattle.sac_lex.specs.declared.token.Token.{Token}
use Rattle.sac_ast.specs.Shape.{Terminal, text, number, matches, nothing, term, ref, seq, alt, many}
use Rattle.sac_ast.specs.Grammar.{Nonterminal, Rule, V, rule, sign, opt, listed, up_to, parts, Extents}
use Rattle.sac_grammar.specs.Run.{starts, first}
use Rattle.sac_grammar.specs.Tables.{first_of}
use Rattle.sac_grammar.specs.Limits.{depth_in}
use Rattle.sac_grammar.specs.Parsing.{Reading, Stop, stuck, high, StopsIn, Halts, Parts, nth, inject, is_apart}
use Rattle.sac_grammar.proofs.Machine.{or_true_left, begins_left, begins_right}
use Rattle.sac_grammar.proofs.Parsing.{read_first, read_then, read_none, read_parts, read_nth, stops, stop_ref, stop_left, stop_right, stop_first, stop_parts, stop_nth, no_parts, one_more_part}
use Rattle.sac_phrases.specs.declared.halt.Halt.{Halt}
use Rattle.sac_phrases.specs.declared.halt.Halt.TheVariants.{Stuck, High as TooHigh, Memory}
use Rattle.sac_phrases.specs.declared.place.Place.{Place}
use Rattle.sac_phrases.specs.Contract.{StopOf, IsStuckAt, IsLeafAt, IsPartAt}
use Rattle.sac_parse.specs.Leaves.{numbers_of, AreNumbers}

-- ---- tokens

pub token_read : (t : Terminal) {ts rest : List Lexeme} {x : Lexeme} → (ts ≡ x ∷ rest) × (matches t x ≡ true) → Reading (term t) ts x rest
token_read t p = record { run = p }

-- what is there is the first token
pub starts_there : (t : Terminal) {ts rest : List Lexeme} {x : Lexeme} → (ts ≡ x ∷ rest) × (matches t x ≡ true) → starts (t ∷ []) ts ≡ true
starts_there t {ts} {rest} {x} p = ap (starts (t ∷ [])) p.0 ∙ or_true_left (matches t x) false p.1

stuck_here : (e : Halt) (ts : List Lexeme) → IsStuckAt ts e → (x : Stop) → StopOf e x → x ≡ stuck ts
stuck_here (Stuck r) ts e x p = p ∙ ap stuck e
stuck_here (TooHigh r) ts e x p = absurd e
stuck_here Memory ts e x p = absurd p

stuck_not_high : {P : Type 0} (ts r : List Lexeme) → high r ≡ stuck ts → P
stuck_not_high ts r e = cc

pub token_halts : {checked : Bool} {D : Nonterminal → ℕ} (t : Terminal) (ts : List Lexeme) (e : Halt) → IsStuckAt ts e × (starts (t ∷ []) ts ≡ false) → Halts (StopOf e) checked D (term t) ts
token_halts {checked} {D} t ts e p = record {
  at = λ x q. subst (StopsIn D (term t) ts) (sym (stuck_here e ts p.0 x q)) (refl, p.1);
  only = λ r q. stuck_not_high ts r (stuck_here e ts p.0 (high r) q);
}

-- want of memory tells no stop
pub memory_halts : {checked : Bool} {D : Nonterminal → ℕ} {s : Rule} {ts : List Lexeme} {e : Halt} → e ≡ Memory → Halts (StopOf e) checked D s ts
memory_halts {checked} {D} {s} {ts} {e} m = subst (λ h. Halts (StopOf h) checked D s ts) (sym m) (record { at = λ x p. absurd p; only = λ r p. absurd p })

-- ---- lists with commas

abbrev pub After : Rule → Rule
After a = seq (sign (codes ",")) a

-- these were read so far, and this is left
pub record SoFar (a : Rule) (ts : List Lexeme) (vs : List (V a)) (rest : List Lexeme) : Type 0 where
  pub head : V a
  pub mid : List Lexeme
  pub tail : List (V (After a))
  pub begins : Reading a ts head mid
  pub goes_on : Parts (After a) mid tail rest
  pub same : vs ≡ head ∷ map (λ (p : V (After a)). p.1) tail

pub list_start : {a : Rule} {ts rest : List Lexeme} {v : V a} → Reading a ts v rest → SoFar a ts (v ∷ []) rest
list_start {a} {ts} {rest} {v} f = record { head = v; mid = rest; tail = []; begins = f; goes_on = no_parts; same = refl }

map_append : {A B : Type 0} (f : A → B) (xs ys : List A) → map f (xs ++ ys) ≡ map f xs ++ map f ys
map_append f [] ys = refl
map_append f (x ∷ xs) ys = ap (λ l. f x ∷ l) (map_append f xs ys)

pub list_more : {a : Rule} {ts mid behind rest : List Lexeme} {vs : List (V a)} {t : Lexeme} {v : V a} → SoFar a ts vs mid → (mid ≡ t ∷ behind) × (matches (text (codes ",")) t ≡ true) → Reading a behind v rest → SoFar a ts (vs ++ (v ∷ [])) rest
list_more {a} {ts} {mid} {behind} {rest} {vs} {t} {v} l c f = record {
  head = l.head;
  mid = l.mid;
  tail = l.tail ++ ((t, v) ∷ []);
  begins = l.begins;
  goes_on = one_more_part l.goes_on (starts_there (text (codes ",")) c) (read_then (token_read (text (codes ",")) c) f);
  same = ap (λ xs. xs ++ (v ∷ [])) l.same ∙ ap (λ xs. l.head ∷ xs) (sym (map_append (λ (p : V (After a)). p.1) l.tail ((t, v) ∷ [])));
}

pub list_end : {a : Rule} {ts rest : List Lexeme} {vs : List (V a)} (l : SoFar a ts vs rest) → starts (text (codes ",") ∷ []) rest ≡ false → Reading (listed a) ts (l.head, l.tail) rest
list_end l s = read_then l.begins (read_parts l.goes_on s)

pub list_stop : {P : Stop → Type 0} {checked : Bool} {D : Nonterminal → ℕ} {a : Rule} {ts mid behind : List Lexeme} {vs : List (V a)} {t : Lexeme} → SoFar a ts vs mid → (mid ≡ t ∷ behind) × (matches (text (codes ",")) t ≡ true) → Halts P checked D a behind → Halts P checked D (listed a) ts
list_stop l c h = stop_right l.begins (stop_parts l.goes_on (starts_there (text (codes ",")) c) (stop_right (token_read (text (codes ",")) c) h))

-- ---- one and so many more, with commas

-- parts that were read as up to n + 1
pub record UpTo (n : ℕ) (a : Rule) (ts : List Lexeme) (vs : List (V a)) (rest : List Lexeme) : Type 0 where
  pub value : V (up_to n a)
  pub reads : Reading (up_to n a) ts value rest
  pub same : parts n a value ≡ vs

pub up_to_none : (n : ℕ) {a : Rule} {ts rest : List Lexeme} {v : V a} → n ≡ 0 → Reading a ts v rest → UpTo n a ts (v ∷ []) rest
up_to_none n {a} {ts} {rest} {v} e f = subst (λ m. UpTo m a ts (v ∷ []) rest) (sym e) (record { value = v; reads = f; same = refl })

pub up_to_one : (n : ℕ) {a : Rule} {ts rest : List Lexeme} {v : V a} → Reading a ts v rest → starts (text (codes ",") ∷ []) rest ≡ false → UpTo n a ts (v ∷ []) rest
up_to_one zero {a} {ts} {rest} {v} f s = record { value = v; reads = f; same = refl }
up_to_one (suc n) {a} {ts} {rest} {v} f s = record { value = (v, inr tt); reads = read_then f (read_none s); same = refl }

pub up_to_more : (n : ℕ) {a : Rule} {ts mid behind rest : List Lexeme} {v : V a} {t : Lexeme} {vs : List (V a)} → 0 < n → Reading a ts v mid → (mid ≡ t ∷ behind) × (matches (text (codes ",")) t ≡ true) → UpTo (n - 1) a behind vs rest → UpTo n a ts (v ∷ vs) rest
up_to_more zero lt f c u = absurd (omega arith)
up_to_more (suc n) {a} {ts} {mid} {behind} {rest} {v} {t} {vs} lt f c u =
    let less : suc n - 1 ≡ n = omega arith in
    let w : UpTo n a behind vs rest = subst (λ m. UpTo m a behind vs rest) less u in
    record {
      value = (v, inl (t, w.value));
      reads = read_then f (read_first (starts_there (text (codes ",")) c) (read_then (token_read (text (codes ",")) c) w.reads));
      same = ap (λ l. v ∷ l) w.same;
    }

pub up_to_stop : {P : Stop → Type 0} {checked : Bool} {D : Nonterminal → ℕ} (n : ℕ) {a : Rule} {ts : List Lexeme} → Halts P checked D a ts → Halts P checked D (up_to n a) ts
up_to_stop zero h = h
up_to_stop (suc n) h = stop_left h

pub up_to_stop_more : {P : Stop → Type 0} {checked : Bool} {D : Nonterminal → ℕ} (n : ℕ) {a : Rule} {ts mid behind : List Lexeme} {v : V a} {t : Lexeme} → 0 < n → Reading a ts v mid → (mid ≡ t ∷ behind) × (matches (text (codes ",")) t ≡ true) → Halts P checked D (up_to (n - 1) a) behind → Halts P checked D (up_to n a) ts
up_to_stop_more zero lt f c h = absurd (omega arith)
up_to_stop_more {P} {checked} {D} (suc n) {a} {ts} {mid} {behind} {v} {t} lt f c h =
    let less : suc n - 1 ≡ n = omega arith in
    stop_right f (stop_first (starts_there (text (codes ",")) c) (stop_right (token_read (text (codes ",")) c) (subst (λ m. Halts P checked D (up_to m a) behind) less h)))

-- ---- numbers behind those that were found

pub pushed : (before now : List ℤ) (stored z : ℤ) (x : Lexeme) → now ≡ before ++ (stored ∷ []) → stored ≡ z → z ≡ pos (digits_value 10 x.text) → now ≡ before ++ numbers_of (x ∷ [])
pushed before now stored z x e f g = e ∙ ap (λ w. before ++ (w ∷ [])) (f ∙ g)

pub more_numbers : (n : ℕ) (before now : List ℤ) (ts mid behind : List Lexeme) (x t : Lexeme) (r : Result (Vec ℤ × Bor (List Token)) Halt) → 0 < n → Reading (term number) ts x mid → (mid ≡ t ∷ behind) × (matches (text (codes ",")) t ≡ true) → now ≡ before ++ numbers_of (x ∷ []) → IsLeafAt (up_to (n - 1) (term number)) (AreNumbers now (n - 1)) behind r → IsLeafAt (up_to n (term number)) (AreNumbers before n) ts r
more_numbers n before now ts mid behind x t (Ok y) lt f c more (v, reads, same) =
    let u = up_to_more n lt f c (record { value = v; reads = reads; same = refl }) in
    (u.value, u.reads, same ∙ ap (λ l. l ++ numbers_of (parts (n - 1) (term number) v)) more ∙ append_assoc before (numbers_of (x ∷ [])) (numbers_of (parts (n - 1) (term number) v)) ∙ ap (λ l. before ++ numbers_of l) (sym u.same))
more_numbers n before now ts mid behind x t (Err e) lt f c more h = λ k d. up_to_stop_more n lt f c (h k d)

-- ---- what stands in the brackets of a type

starts_nth : (n : ℕ) (s : Rule) (ts : List Lexeme) → starts (first first_of (nth n s)) ts ≡ true → starts (first first_of s) ts ≡ true
starts_nth zero (alt a b) ts h = begins_left (first first_of a) (first first_of b) ts h
starts_nth (suc n) (alt a b) ts h = begins_right (first first_of a) (first first_of b) ts (starts_nth n b ts h)
starts_nth zero nothing ts h = h
starts_nth zero (term t) ts h = h
starts_nth zero (ref k) ts h = h
starts_nth zero (seq a b) ts h = h
starts_nth zero (many a) ts h = h
starts_nth (suc n) nothing ts h = h
starts_nth (suc n) (term t) ts h = h
starts_nth (suc n) (ref k) ts h = h
starts_nth (suc n) (seq a b) ts h = h
starts_nth (suc n) (many a) ts h = h

pub extents_read : (n : ℕ) {ts r : List Lexeme} {v : V (nth n Extents)} → is_apart n Extents ≡ true → starts (first first_of (nth n Extents)) ts ≡ true → Reading (nth n Extents) ts v r → Reading (opt Extents) ts (inl (inject n Extents v)) r
extents_read n {ts} apart s f = read_first (starts_nth n Extents ts s) (read_nth n Extents apart s f)

pub extents_stop : {P : Stop → Type 0} {checked : Bool} {D : Nonterminal → ℕ} (n : ℕ) {ts : List Lexeme} → is_apart n Extents ≡ true → starts (first first_of (nth n Extents)) ts ≡ true → Halts P checked D (nth n Extents) ts → Halts P checked D (opt Extents) ts
extents_stop n {ts} apart s h = stop_first (starts_nth n Extents ts s) (stop_nth n Extents apart s h)

both_false : (a b : Bool) → (a || false) ≡ false → b ≡ false → (a || b) ≡ false
both_false true b e h = e
both_false false b e h = h

pub starts_none : (f : Terminal) (fs : List Terminal) (ts : List Lexeme) → starts (f ∷ []) ts ≡ false → starts fs ts ≡ false → starts (f ∷ fs) ts ≡ false
starts_none f fs [] e h = refl
starts_none f fs (t ∷ ts) e h = both_false (matches f t) _ e h

-- ---- a whole phrase

pub ref_stop : {P : Stop → Type 0} {checked : Bool} {D : Nonterminal → ℕ} {k : Nonterminal} {ts : List Lexeme} → Halts P checked (depth_in (D k) k) (rule k) ts → Halts P checked D (ref k) ts
ref_stop h = stop_ref (stops h)

-- ---- the error that a function hands on

pub leaf_error : {X : Type 0} (s : Rule) (M : X → V s → Type 0) (ts : List Lexeme) (r : Result (X × Bor (List Token)) Halt) (e : Halt) → IsErrAnd r (λ f. f ≡ e) → ((checked : Bool) (D : Nonterminal → ℕ) → Halts (StopOf e) checked D s ts) → IsLeafAt s M ts r
leaf_error s M ts (Ok x) e p h = absurd p
leaf_error s M ts (Err f) e p h = λ k d. subst (λ g. Halts (StopOf g) k d s ts) (sym p) (h k d)

pub part_error : {X : Type 0} (place : Place) (s : Rule) (M : X → V s → Type 0) (ts : List Lexeme) (r : Result (X × Bor (List Token)) Halt) (e : Halt) → IsErrAnd r (λ f. f ≡ e) → Halts (StopOf e) place.checked (λ _. place.depth) s ts → IsPartAt place s M ts r
part_error place s M ts (Ok x) e p h = absurd p
part_error place s M ts (Err f) e p h = subst (λ g. Halts (StopOf g) place.checked (λ _. place.depth) s ts) (sym p) h
