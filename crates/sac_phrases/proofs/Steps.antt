-- From the contracts of the parser's functions to its steps.
use Rattle.std.proofs.Common.{ℕ, zero, suc, ◌≡◌, ◌<◌, ◌≤◌, ◌+◌, Bool, true, false, cond, ◌||◌, List, [], ◌∷◌, ◌++◌, inl, inr, Option, Some, None, Result, Ok, Err, refl, sym, ap, ◌∙◌, subst, map, codes, arith, Bor}
use Rattle.sac_lex.specs.declared.token.Token.{Token}
use Rattle.sac_base.specs.declared.op.Op.{Op}
use Rattle.sac_base.specs.declared.site.Site.{Site}
use Rattle.sac_ast.specs.Texts.{Lexeme}
use Rattle.sac_ast.specs.Shape.{Terminal, text, matches, nothing, term, ref, seq, alt, many}
use Rattle.sac_ast.specs.Grammar.{Nonterminal, Tree, Rule, V, sign, listed, one_of, chosen}
use Rattle.sac_grammar.specs.Run.{starts, first}
use Rattle.sac_grammar.specs.Tables.{first_of}
use Rattle.sac_grammar.specs.Limits.{High, gap_of}
use Rattle.sac_grammar.specs.Parsing.{Found, TooTall, Reading, Stop, stuck, high, StopsAt, StopsIn, Halted, Halts, nth, inject, is_apart, Parts}
use Rattle.sac_grammar.proofs.Machine.{or_true_left, or_true_right}
use Rattle.sac_grammar.proofs.Parsing.{read_first, read_second, read_nth, read_then, read_ref, read_parts, stop_ref, stop_right, stop_first, stop_second, stop_nth, stop_parts, no_parts, one_more_part, tall_after}
use Rattle.sac_phrases.specs.declared.halt.Halt.{Halt}
use Rattle.sac_phrases.specs.declared.halt.Halt.TheVariants.{Stuck, High as TooHigh, Memory}
use Rattle.sac_phrases.specs.declared.place.Place.{Place}
use Rattle.sac_phrases.specs.declared.place.Measured.{Measured}
use Rattle.sac_phrases.specs.Contract.{lexemes_of, StopOf, IsStuckAt, IsKept, IsLowAt, IsPhraseAt, IsPartAt, operator_of}

-- ---- lengths

pub less_le : (a b c : ℕ) → a < b → b ≤ c → a ≤ c
less_le a b c h g = omega arith

pub less_two : (a b c d : ℕ) → a < b → b < c → c ≤ d → a ≤ d
less_two a b c d f g h = omega arith

pub less_three : (a b c d : ℕ) → a < b → b < c → c < d → a < d
less_three a b c d f g h = omega arith

pub less_four : (a b c d e : ℕ) → a < b → b < c → c < d → d < e → a < e
less_four a b c d e f g h i = omega arith

-- ---- tokens

-- the first token is this one, and the others are the rest
abbrev pub At : Terminal → List Lexeme → Lexeme → List Lexeme → Type 0
At t ts x rest = (ts ≡ x ∷ rest) × (matches t x ≡ true)

pub token_read : {t : Terminal} {ts rest : List Lexeme} {x : Lexeme} → (ts ≡ x ∷ rest) × (matches t x ≡ true) → Reading (term t) ts x rest
token_read p = record { run = p }

stuck_here : (e : Halt) (ts : List Lexeme) → IsStuckAt ts e → (x : Stop) → StopOf e x → x ≡ stuck ts
stuck_here (Stuck r) ts e x p = p ∙ ap stuck e
stuck_here (TooHigh r) ts e x p = absurd e
stuck_here Memory ts e x p = absurd p

stuck_not_high : {P : Type 0} (ts r : List Lexeme) → high r ≡ stuck ts → P
stuck_not_high ts r e = cc

-- an error that means that the parser is stuck here, where the right side is stuck at once
pub stuck_halts : {checked : Bool} {D : Nonterminal → ℕ} (s : Rule) {ts : List Lexeme} (e : Halt) → IsStuckAt ts e → StopsIn D s ts (stuck ts) → Halts (StopOf e) checked D s ts
stuck_halts {checked} {D} s {ts} e h now = record {
  at = λ x p. subst (StopsIn D s ts) (sym (stuck_here e ts h x p)) now;
  only = λ r p. stuck_not_high ts r (stuck_here e ts h (high r) p);
}

pub token_halts : {checked : Bool} {D : Nonterminal → ℕ} (t : Terminal) (ts : List Lexeme) (e : Halt) → IsStuckAt ts e × (starts (t ∷ []) ts ≡ false) → Halts (StopOf e) checked D (term t) ts
token_halts {checked} {D} t ts e p = stuck_halts (term t) e p.0 (refl, p.1)

-- what is there is the first token
pub starts_there : (t : Terminal) {ts rest : List Lexeme} {x : Lexeme} → (ts ≡ x ∷ rest) × (matches t x ≡ true) → starts (t ∷ []) ts ≡ true
starts_there t {ts} {rest} {x} p = ap (starts (t ∷ [])) p.0 ∙ or_true_left (matches t x) false p.1

pub memory_halts : {checked : Bool} {D : Nonterminal → ℕ} {s : Rule} {ts : List Lexeme} (e : Halt) → e ≡ Memory → Halts (StopOf e) checked D s ts
memory_halts {checked} {D} {s} {ts} e m = record {
  at = λ x p. absurd (subst (λ h. StopOf h x) m p);
  only = λ r p. absurd (subst (λ h. StopOf h (high r)) m p);
}

pub memory_halted : {checked : Bool} {d : ℕ} {k : Nonterminal} {ts : List Lexeme} (e : Halt) → e ≡ Memory → Halted (StopOf e) checked d k ts
memory_halted {checked} {d} {k} {ts} e m = record {
  at = λ x p. absurd (subst (λ h. StopOf h x) m p);
  only = λ r p. absurd (subst (λ h. StopOf h (high r)) m p);
}

pub high_halted : {checked : Bool} {d : ℕ} {k : Nonterminal} {ts : List Lexeme} (rest : Bor (List Token)) → TooTall d k ts (lexemes_of rest.now) → checked ≡ true → Halted (StopOf (TooHigh rest)) checked d k ts
high_halted {checked} {d} {k} {ts} rest t c = record { at = λ x p. subst (StopsAt d k ts) (sym p) t; only = λ r p. c }

-- ---- operators

-- the first token is the operator x, and r is what follows it
pub record TheOperator (o : List ℕ × Op) (ps : List (List ℕ × Op)) (ts : List Lexeme) (x : Op × Site) (rest : List Lexeme) : Type 0 where
  pub value : V (one_of o ps)
  pub reads : Reading (one_of o ps) ts value rest
  pub is : chosen o ps value ≡ x
  pub starts_so : starts (first first_of (one_of o ps)) ts ≡ true

some_same : {A : Type 0} (x y : A) → Some x ≡ Some y → x ≡ y
some_same x y e = cc

one_by : (o : List ℕ × Op) (ps : List (List ℕ × Op)) (t : Lexeme) (ts : List Lexeme) (x : Op × Site) → operator_of (o ∷ ps) (t ∷ ts) ≡ Some x → TheOperator o ps (t ∷ ts) x ts
one_by o [] t ts x e = go (matches (text o.0) t) refl e
  where
    go : (b : Bool) → matches (text o.0) t ≡ b → cond b (Some (o.1, t.site)) None ≡ Some x → TheOperator o [] (t ∷ ts) x ts
    go true m e = record { value = t; reads = record { run = (refl, m) }; is = some_same _ _ e; starts_so = or_true_left _ false m }
    go false m e = cc
one_by o (p ∷ ps) t ts x e = go (one_by p ps t ts x) (matches (text o.0) t) refl e
  where
    go : (operator_of (p ∷ ps) (t ∷ ts) ≡ Some x → TheOperator p ps (t ∷ ts) x ts) → (b : Bool) → matches (text o.0) t ≡ b → cond b (Some (o.1, t.site)) (operator_of (p ∷ ps) (t ∷ ts)) ≡ Some x → TheOperator o (p ∷ ps) (t ∷ ts) x ts
    go later true m e = record { value = inl t; reads = read_first (or_true_left _ false m) (record { run = (refl, m) }); is = some_same _ _ e; starts_so = or_true_left _ _ m }
    go later false m e =
        let r = later e in
        record { value = inr r.value; reads = read_second (ap (λ b. b || false) m) r.reads; is = r.is; starts_so = or_true_right _ _ r.starts_so }

tail_same : (x y : Lexeme) (xs ys : List Lexeme) → x ∷ xs ≡ y ∷ ys → xs ≡ ys
tail_same x y xs ys e = cc

pub operator_found : (o : List ℕ × Op) (ps : List (List ℕ × Op)) {ts rest : List Lexeme} {x : Op × Site} {t : Lexeme} → operator_of (o ∷ ps) ts ≡ Some x → ts ≡ t ∷ rest → TheOperator o ps ts x rest
operator_found o ps {ts = []} {rest} {x} {t} e split = cc
operator_found o ps {ts = u ∷ us} {rest} {x} {t} e split = subst (TheOperator o ps (u ∷ us) x) (tail_same u t us rest split) (one_by o ps u us x e)

none_by : (o : List ℕ × Op) (ps : List (List ℕ × Op)) (t : Lexeme) (ts : List Lexeme) → operator_of (o ∷ ps) (t ∷ ts) ≡ None → starts (first first_of (one_of o ps)) (t ∷ ts) ≡ false
none_by o [] t ts e = go (matches (text o.0) t) refl e
  where
    go : (b : Bool) → matches (text o.0) t ≡ b → cond {A = Option (Op × Site)} b (Some (o.1, t.site)) None ≡ None → (matches (text o.0) t || false) ≡ false
    go true m e = cc
    go false m e = ap (λ b. b || false) m
none_by o (p ∷ ps) t ts e = go (none_by p ps t ts) (matches (text o.0) t) refl e
  where
    go : (operator_of (p ∷ ps) (t ∷ ts) ≡ None → starts (first first_of (one_of p ps)) (t ∷ ts) ≡ false) → (b : Bool) → matches (text o.0) t ≡ b → cond {A = Option (Op × Site)} b (Some (o.1, t.site)) (operator_of (p ∷ ps) (t ∷ ts)) ≡ None → starts (first first_of (one_of o (p ∷ ps))) (t ∷ ts) ≡ false
    go later true m e = cc
    go later false m e = ap (λ b. b || starts (first first_of (one_of p ps)) (t ∷ ts)) m ∙ later e

pub operator_none : (o : List ℕ × Op) (ps : List (List ℕ × Op)) (ts : List Lexeme) → operator_of (o ∷ ps) ts ≡ None → starts (first first_of (one_of o ps)) ts ≡ false
operator_none o ps [] e = refl
operator_none o ps (t ∷ ts) e = none_by o ps t ts e

-- where none of them is there, the parser is stuck
none_sticks : (D : Nonterminal → ℕ) (o : List ℕ × Op) (ps : List (List ℕ × Op)) (ts : List Lexeme) → starts (first first_of (one_of o ps)) ts ≡ false → StopsIn D (one_of o ps) ts (stuck ts)
none_sticks D o [] ts s = (refl, s)
none_sticks D o (p ∷ ps) [] s = inr (refl, none_sticks D p ps [] s)
none_sticks D o (p ∷ ps) (t ∷ ts) s = go (none_sticks D p ps (t ∷ ts)) (matches (text o.0) t) refl s
  where
    go : (starts (first first_of (one_of p ps)) (t ∷ ts) ≡ false → StopsIn D (one_of p ps) (t ∷ ts) (stuck (t ∷ ts))) → (b : Bool) → matches (text o.0) t ≡ b → (b || starts (first first_of (one_of p ps)) (t ∷ ts)) ≡ false → StopsIn D (one_of o (p ∷ ps)) (t ∷ ts) (stuck (t ∷ ts))
    go later true m e = cc
    go later false m e = inr (ap (λ b. b || false) m, later e)

pub operator_halts : {checked : Bool} {D : Nonterminal → ℕ} (o : List ℕ × Op) (ps : List (List ℕ × Op)) (ts : List Lexeme) (rest : Bor (List Token)) → lexemes_of rest.now ≡ ts → operator_of (o ∷ ps) ts ≡ None → Halts (StopOf (Stuck rest)) checked D (one_of o ps) ts
operator_halts {checked} {D} o ps ts rest r e = stuck_halts (one_of o ps) (Stuck rest) r (none_sticks D o ps ts (operator_none o ps ts e))

-- ---- results

-- what is left of the alternatives behind the first ones
abbrev pub last : ℕ → Rule → Rule
last zero s = s
last (suc n) (alt a b) = last n b
last (suc n) s = s

abbrev pub into : (n : ℕ) (s : Rule) → V (last n s) → V s
into zero s v = v
into (suc n) (alt a b) v = inr (into n b v)
into (suc n) nothing v = v
into (suc n) (term t) v = v
into (suc n) (ref k) v = v
into (suc n) (seq a b) v = v
into (suc n) (many a) v = v

-- a phrase that was read and is kept, or is too high
pub kept_phrase : {X : Type 0} (place : Place) (k : Nonterminal) (view : X → Tree k) (tall : Tree k → ℕ) (ts : List Lexeme) (node : Measured X) (rest : List Token) (v : Tree k) (result : Result (Measured X × Bor (List Token)) Halt) → gap_of k ≡ 0 → IsKept place node rest result → ((n : Tree k) → 99 < place.depth + tall n → High place.depth k n) → (place.checked ≡ true → node.height ≡ tall v) → view node.tree ≡ v → Found k ts v (lexemes_of rest) → IsPhraseAt place k view tall ts result
kept_phrase {X} place k view tall ts node rest v (Ok x) gap (same, at, low) over is e f =
    let tree : view x.0.tree ≡ v = ap (λ n. view n.tree) same ∙ e in (
      subst (λ l. Found k ts (view x.0.tree) (lexemes_of l)) (sym at) (subst (λ w. Found k ts w (lexemes_of rest)) (sym tree) f),
      λ c. (ap (λ (n : Measured X). n.height) same ∙ is c ∙ ap tall (sym tree), subst (λ n. place.depth + n ≤ 99) (is c ∙ ap tall (sym tree)) (low c)),
    )
kept_phrase {X} place k view tall ts node rest v (Err (TooHigh r)) gap (at, c, high_so) over is e f = record {
  at = λ x p. subst (StopsAt place.depth k ts) (sym p) (subst (λ l. TooTall place.depth k ts (lexemes_of l)) (sym at) (tall_after place.depth gap f (over v (subst (λ n. 99 < place.depth + n) (is c) high_so))));
  only = λ q p. c;
}
kept_phrase {X} place k view tall ts node rest v (Err Memory) gap h over is e f = absurd h
kept_phrase {X} place k view tall ts node rest v (Err (Stuck r)) gap h over is e f = absurd h

-- one alternative of several
pub part_nth : {X : Type 0} (place : Place) (n : ℕ) (s : Rule) (Means : X → V s → Type 0) (ts : List Lexeme) (result : Result (X × Bor (List Token)) Halt) → is_apart n s ≡ true → starts (first first_of (nth n s)) ts ≡ true → IsPartAt place (nth n s) (λ x v. Means x (inject n s v)) ts result → IsPartAt place s Means ts result
part_nth place n s Means ts (Ok x) apart so (v, r, m) = (inject n s v, read_nth n s apart so r, m)
part_nth place n s Means ts (Err e) apart so h = stop_nth n s apart so h

pub part_first : {X : Type 0} (place : Place) (a b : Rule) (Means : X → V (alt a b) → Type 0) (ts : List Lexeme) (result : Result (X × Bor (List Token)) Halt) → starts (first first_of a) ts ≡ true → IsPartAt place a (λ x v. Means x (inl v)) ts result → IsPartAt place (alt a b) Means ts result
part_first place a b Means ts (Ok x) so (v, r, m) = (inl v, read_first so r, m)
part_first place a b Means ts (Err e) so h = stop_first so h

pub part_second : {X : Type 0} (place : Place) (a b : Rule) (Means : X → V (alt a b) → Type 0) (ts : List Lexeme) (result : Result (X × Bor (List Token)) Halt) → starts (first first_of a) ts ≡ false → IsPartAt place b (λ x v. Means x (inr v)) ts result → IsPartAt place (alt a b) Means ts result
part_second place a b Means ts (Ok x) so (v, r, m) = (inr v, read_second so r, m)
part_second place a b Means ts (Err e) so h = stop_second so h

-- the first token begins none of the alternatives before this one
abbrev pub NoneBefore : ℕ → Rule → List Lexeme → Type 0
NoneBefore zero s ts = Unit {0}
NoneBefore (suc n) (alt a b) ts = (starts (first first_of a) ts ≡ false) × NoneBefore n b ts
NoneBefore (suc n) s ts = Unit {0}

-- the last of several alternatives
pub part_last : {X : Type 0} (place : Place) (n : ℕ) (s : Rule) (Means : X → V s → Type 0) (ts : List Lexeme) (result : Result (X × Bor (List Token)) Halt) → NoneBefore n s ts → IsPartAt place (last n s) (λ x v. Means x (into n s v)) ts result → IsPartAt place s Means ts result
part_last place zero s Means ts result apart h = h
part_last place (suc n) (alt a b) Means ts result apart h = part_second place a b Means ts result apart.0 (part_last place n b (λ x v. Means x (inr v)) ts result apart.1 h)
part_last place (suc n) nothing Means ts result apart h = h
part_last place (suc n) (term t) Means ts result apart h = h
part_last place (suc n) (ref k) Means ts result apart h = h
part_last place (suc n) (seq a b) Means ts result apart h = h
part_last place (suc n) (many a) Means ts result apart h = h

-- the same part with another meaning
pub part_means : {X : Type 0} (place : Place) (s : Rule) (M N : X → V s → Type 0) (ts : List Lexeme) (result : Result (X × Bor (List Token)) Halt) → ((x : X) (v : V s) → M x v → N x v) → IsPartAt place s M ts result → IsPartAt place s N ts result
part_means place s M N ts (Ok x) f (v, r, m) = (v, r, f x.0 v m)
part_means place s M N ts (Err e) f h = h

-- a whole phrase as a part
pub phrase_part : {X : Type 0} (place : Place) (k : Nonterminal) (view : X → Tree k) (tall : Tree k → ℕ) (ts : List Lexeme) (M : Measured X → V (ref k) → Type 0) (result : Result (Measured X × Bor (List Token)) Halt) → ((x : Measured X) → IsLowAt place x.height (tall (view x.tree)) → M x (view x.tree)) → IsPhraseAt place k view tall ts result → IsPartAt place (ref k) M ts result
phrase_part place k view tall ts M (Ok x) f (g, low) = (_, read_ref g, f x.0 low)
phrase_part place k view tall ts M (Err e) f h = stop_ref h

-- ---- lists with commas

abbrev pub After : Rule → Rule
After a = seq (sign (codes ",")) a

-- these were read so far, and this is left
pub record SoFar {Y : Type 0} (a : Rule) (see : V a → Y) (ts : List Lexeme) (ys : List Y) (rest : List Lexeme) : Type 0 where
  pub head : V a
  pub mid : List Lexeme
  pub tail : List (V (After a))
  pub begins : Reading a ts head mid
  pub goes_on : Parts (After a) mid tail rest
  pub same : ys ≡ see head ∷ map (λ (p : V (After a)). see p.1) tail

pub list_start : {Y : Type 0} {a : Rule} (see : V a → Y) {ts rest : List Lexeme} {v : V a} → Reading a ts v rest → SoFar a see ts (see v ∷ []) rest
list_start see {ts} {rest} {v} f = record { head = v; mid = rest; tail = []; begins = f; goes_on = no_parts; same = refl }

map_append : {A B : Type 0} (f : A → B) (xs ys : List A) → map f (xs ++ ys) ≡ map f xs ++ map f ys
map_append f [] ys = refl
map_append f (x ∷ xs) ys = ap (λ l. f x ∷ l) (map_append f xs ys)

pub list_more : {Y : Type 0} {a : Rule} {see : V a → Y} {ts mid behind rest : List Lexeme} {ys : List Y} {t : Lexeme} {v : V a} → SoFar a see ts ys mid → (mid ≡ t ∷ behind) × (matches (text (codes ",")) t ≡ true) → Reading a behind v rest → SoFar a see ts (ys ++ (see v ∷ [])) rest
list_more {Y} {a} {see} {ts} {mid} {behind} {rest} {ys} {t} {v} l c f = record {
  head = l.head;
  mid = l.mid;
  tail = l.tail ++ ((t, v) ∷ []);
  begins = l.begins;
  goes_on = one_more_part l.goes_on (starts_there (text (codes ",")) c) (read_then (token_read c) f);
  same = ap (λ xs. xs ++ (see v ∷ [])) l.same ∙ ap (λ xs. see l.head ∷ xs) (sym (map_append (λ (p : V (After a)). see p.1) l.tail ((t, v) ∷ [])));
}

pub list_value : {Y : Type 0} {a : Rule} {see : V a → Y} {ts rest : List Lexeme} {ys : List Y} → SoFar a see ts ys rest → V (listed a)
list_value l = (l.head, l.tail)

pub list_end : {Y : Type 0} {a : Rule} {see : V a → Y} {ts rest : List Lexeme} {ys : List Y} (l : SoFar a see ts ys rest) → starts (text (codes ",") ∷ []) rest ≡ false → Reading (listed a) ts (l.head, l.tail) rest
list_end l s = read_then l.begins (read_parts l.goes_on s)

pub list_stop : {P : Stop → Type 0} {checked : Bool} {D : Nonterminal → ℕ} {Y : Type 0} {a : Rule} {see : V a → Y} {ts mid behind : List Lexeme} {ys : List Y} {t : Lexeme} → SoFar a see ts ys mid → (mid ≡ t ∷ behind) × (matches (text (codes ",")) t ≡ true) → Halts P checked D a behind → Halts P checked D (listed a) ts
list_stop l c h = stop_right l.begins (stop_parts l.goes_on (starts_there (text (codes ",")) c) (stop_right (token_read c) h))
