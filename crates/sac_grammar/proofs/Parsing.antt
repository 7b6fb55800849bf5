-- The steps of a parser: from the parts of a phrase to the phrase.
use Rattle.std.proofs.Common.{ℕ, zero, suc, ◌≡◌, ◌<◌, Bool, true, false, List, [], ◌∷◌, ◌++◌, inl, inr, refl, sym, subst, length}
use Rattle.sac_ast.specs.Texts.{Lexeme}
use Rattle.sac_ast.specs.Shape.{Terminal, nothing, term, ref, seq, alt, many}
use Rattle.sac_ast.specs.Grammar.{Nonterminal, Tree, rule, action, Rule, V, opt}
use Rattle.sac_grammar.specs.Run.{starts, first, are_apart, RunsEach, SticksAfter, Runs, Sticks}
use Rattle.sac_grammar.specs.Tables.{first_of, ext_of, rank_of}
use Rattle.sac_grammar.specs.High.{Tops, Tall}
use Rattle.sac_grammar.specs.Limits.{High, Within, depth_in, gap_of}
use Rattle.sac_grammar.specs.Parsing.{Found, Lost, TooTall, Reading, Stop, stuck, high, StopsAt, StopsIn, Halted, Halts, nth, inject, is_apart, ReadEach, Parts}
use Rattle.sac_grammar.proofs.Machine.{and_left, and_right, apart_not}
use Rattle.sac_grammar.proofs.Levels.{reads_rule, fails_rule}
use Rattle.sac_grammar.proofs.Exact.{reads_shorter}
use Rattle.sac_grammar.proofs.High.{tall_rule, tall_behind}
use Rattle.sac_grammar.proofs.Grows.{grows}
use Rattle.sac_grammar.proofs.Table.{table}

-- ---- reading

pub shorter : {k : Nonterminal} {ts : List Lexeme} {v : Tree k} {r : List Lexeme} → Found k ts v r → length r < length ts
shorter {k} {ts} {v} {r} f = reads_shorter Tree first_of ext_of rank_of rule action table k ts v r f

pub read_ref : {k : Nonterminal} {ts : List Lexeme} {v : Tree k} {r : List Lexeme} → Found k ts v r → Reading (ref k) ts v r
read_ref f = record { run = f }

pub read_then : {a b : Rule} {ts mid r : List Lexeme} {v : V a} {w : V b} → Reading a ts v mid → Reading b mid w r → Reading (seq a b) ts (v, w) r
read_then {a} {b} {ts} {mid} f g = record { run = (mid, f.run, g.run) }

pub read_first : {a b : Rule} {ts r : List Lexeme} {v : V a} → starts (first first_of a) ts ≡ true → Reading a ts v r → Reading (alt a b) ts (inl v) r
read_first s f = record { run = (s, f.run) }

pub read_second : {a b : Rule} {ts r : List Lexeme} {v : V b} → starts (first first_of a) ts ≡ false → Reading b ts v r → Reading (alt a b) ts (inr v) r
read_second s f = record { run = (s, f.run) }

pub read_none : {a : Rule} {ts : List Lexeme} → starts (first first_of a) ts ≡ false → Reading (opt a) ts (inr tt) ts
read_none s = record { run = (s, refl) }

pub found : {k : Nonterminal} {ts r : List Lexeme} {v : V (rule k)} → Reading (rule k) ts v r → Found k ts (action k v) r
found {k} {ts} {r} {v} f = reads_rule Tree first_of rule action k ts v r f.run

-- ---- stopping

module _ {P : Stop → Type 0} {checked : Bool} where
  pub stops : {d : ℕ} {k : Nonterminal} {ts : List Lexeme} → Halts P checked (depth_in d k) (rule k) ts → Halted P checked d k ts
  stops {d} {k} {ts} h = record { at = λ x p. at x (h.at x p); only = h.only }
    where
      at : (x : Stop) → StopsIn (depth_in d k) (rule k) ts x → StopsAt d k ts x
      at (stuck r) s = fails_rule Tree first_of rule action k ts r s
      at (high r) s = tall_rule Tree first_of ext_of rank_of rule action table gap_of (Within d k) k (High d k) (grows d k) ts r s

  pub stop_ref : {D : Nonterminal → ℕ} {k : Nonterminal} {ts : List Lexeme} → Halted P checked (D k) k ts → Halts P checked D (ref k) ts
  stop_ref {D} {k} {ts} h = record { at = λ x p. at x (h.at x p); only = h.only }
    where
      at : (x : Stop) → StopsAt (D k) k ts x → StopsIn D (ref k) ts x
      at (stuck r) s = s
      at (high r) s = s

  -- where heights are not checked, the number of nodes around does not matter
  pub stop_ref_at : {D : Nonterminal → ℕ} {k : Nonterminal} {ts : List Lexeme} (d : ℕ) → (checked ≡ true → D k ≡ d) → Halted P checked d k ts → Halts P checked D (ref k) ts
  stop_ref_at {D} {k} {ts} d e h = record { at = at; only = h.only }
    where
      at : (x : Stop) → P x → StopsIn D (ref k) ts x
      at (stuck r) p = h.at (stuck r) p
      at (high r) p = subst (λ n. TooTall n k ts r) (sym (e (h.only r p))) (h.at (high r) p)

  pub stop_left : {D : Nonterminal → ℕ} {a b : Rule} {ts : List Lexeme} → Halts P checked D a ts → Halts P checked D (seq a b) ts
  stop_left {D} {a} {b} {ts} h = record { at = λ x p. at x (h.at x p); only = h.only }
    where
      at : (x : Stop) → StopsIn D a ts x → StopsIn D (seq a b) ts x
      at (stuck r) s = inl s
      at (high r) s = inl s

  pub stop_right : {D : Nonterminal → ℕ} {a b : Rule} {ts mid : List Lexeme} {v : V a} → Reading a ts v mid → Halts P checked D b mid → Halts P checked D (seq a b) ts
  stop_right {D} {a} {b} {ts} {mid} {v} f h = record { at = λ x p. at x (h.at x p); only = h.only }
    where
      at : (x : Stop) → StopsIn D b mid x → StopsIn D (seq a b) ts x
      at (stuck r) s = inr (v, mid, f.run, s)
      at (high r) s = inr (v, mid, f.run, s)

  pub stop_first : {D : Nonterminal → ℕ} {a b : Rule} {ts : List Lexeme} → starts (first first_of a) ts ≡ true → Halts P checked D a ts → Halts P checked D (alt a b) ts
  stop_first {D} {a} {b} {ts} t h = record { at = λ x p. at x (h.at x p); only = h.only }
    where
      at : (x : Stop) → StopsIn D a ts x → StopsIn D (alt a b) ts x
      at (stuck r) s = inl (t, s)
      at (high r) s = inl (t, s)

  pub stop_second : {D : Nonterminal → ℕ} {a b : Rule} {ts : List Lexeme} → starts (first first_of a) ts ≡ false → Halts P checked D b ts → Halts P checked D (alt a b) ts
  stop_second {D} {a} {b} {ts} t h = record { at = λ x p. at x (h.at x p); only = h.only }
    where
      at : (x : Stop) → StopsIn D b ts x → StopsIn D (alt a b) ts x
      at (stuck r) s = inr (t, s)
      at (high r) s = inr (t, s)

-- ---- one of several alternatives

pub read_nth : (n : ℕ) (s : Rule) {ts r : List Lexeme} {v : V (nth n s)} → is_apart n s ≡ true → starts (first first_of (nth n s)) ts ≡ true → Reading (nth n s) ts v r → Reading s ts (inject n s v) r
read_nth zero (alt a b) ok s f = read_first s f
read_nth (suc n) (alt a b) {ts} ok s f = read_second (apart_not (first first_of (nth n b)) (first first_of a) ts (and_left _ (is_apart n b) ok) s) (read_nth n b (and_right (are_apart (first first_of (nth n b)) (first first_of a)) _ ok) s f)
read_nth zero nothing ok s f = f
read_nth zero (term t) ok s f = f
read_nth zero (ref k) ok s f = f
read_nth zero (seq a b) ok s f = f
read_nth zero (many a) ok s f = f
read_nth (suc n) nothing ok s f = f
read_nth (suc n) (term t) ok s f = f
read_nth (suc n) (ref k) ok s f = f
read_nth (suc n) (seq a b) ok s f = f
read_nth (suc n) (many a) ok s f = f

pub stop_nth : {P : Stop → Type 0} {checked : Bool} {D : Nonterminal → ℕ} (n : ℕ) (s : Rule) {ts : List Lexeme} → is_apart n s ≡ true → starts (first first_of (nth n s)) ts ≡ true → Halts P checked D (nth n s) ts → Halts P checked D s ts
stop_nth zero (alt a b) ok s f = stop_first s f
stop_nth (suc n) (alt a b) {ts} ok s f = stop_second (apart_not (first first_of (nth n b)) (first first_of a) ts (and_left _ (is_apart n b) ok) s) (stop_nth n b (and_right (are_apart (first first_of (nth n b)) (first first_of a)) _ ok) s f)
stop_nth zero nothing ok s f = f
stop_nth zero (term t) ok s f = f
stop_nth zero (ref k) ok s f = f
stop_nth zero (seq a b) ok s f = f
stop_nth zero (many a) ok s f = f
stop_nth (suc n) nothing ok s f = f
stop_nth (suc n) (term t) ok s f = f
stop_nth (suc n) (ref k) ok s f = f
stop_nth (suc n) (seq a b) ok s f = f
stop_nth (suc n) (many a) ok s f = f

-- ---- one part after another

pub no_parts : {a : Rule} {ts : List Lexeme} → Parts a ts [] ts
no_parts = record { each = refl }

each_more : (a : Rule) (ts : List Lexeme) (vs : List (V a)) (mid : List Lexeme) (v : V a) (rest : List Lexeme) → ReadEach a ts vs mid → starts (first first_of a) mid ≡ true → Runs Tree first_of Found a mid v rest → ReadEach a ts (vs ++ (v ∷ [])) rest
each_more a ts [] mid v rest e s f = (subst (λ l. starts (first first_of a) l ≡ true) e s, (rest, subst (λ l. Runs Tree first_of Found a l v rest) e f, refl))
each_more a ts (w ∷ ws) mid v rest (t, (m, g, e)) s f = (t, (m, g, each_more a m ws mid v rest e s f))

pub one_more_part : {a : Rule} {ts mid rest : List Lexeme} {vs : List (V a)} {v : V a} → Parts a ts vs mid → starts (first first_of a) mid ≡ true → Reading a mid v rest → Parts a ts (vs ++ (v ∷ [])) rest
one_more_part {a} {ts} {mid} {rest} {vs} {v} p s f = record { each = each_more a ts vs mid v rest p.each s f.run }

each_end : (a : Rule) (ts : List Lexeme) (vs : List (V a)) (rest : List Lexeme) → ReadEach a ts vs rest → starts (first first_of a) rest ≡ false → RunsEach (first first_of a) (Runs Tree first_of Found a) ts vs rest
each_end a ts [] rest e s = (e, subst (λ l. starts (first first_of a) l ≡ false) e s)
each_end a ts (v ∷ vs) rest (t, (m, f, e)) s = (t, (m, f, each_end a m vs rest e s))

pub read_parts : {a : Rule} {ts rest : List Lexeme} {vs : List (V a)} → Parts a ts vs rest → starts (first first_of a) rest ≡ false → Reading (many a) ts vs rest
read_parts {a} {ts} {rest} {vs} p s = record { run = each_end a ts vs rest p.each s }

pub each_stop : (a : Rule) (Q : List Lexeme → List Lexeme → Type 0) (ts : List Lexeme) (vs : List (V a)) (rest r : List Lexeme) → ReadEach a ts vs rest → starts (first first_of a) rest ≡ true → Q rest r → SticksAfter (first first_of a) (Runs Tree first_of Found a) Q ts vs r
each_stop a Q ts [] rest r e s q = (subst (λ l. starts (first first_of a) l ≡ true) e s, subst (λ l. Q l r) e q)
each_stop a Q ts (v ∷ vs) rest r (t, (m, f, e)) s q = (t, (m, f, each_stop a Q m vs rest r e s q))

pub stop_parts : {P : Stop → Type 0} {checked : Bool} {D : Nonterminal → ℕ} {a : Rule} {ts rest : List Lexeme} {vs : List (V a)} → Parts a ts vs rest → starts (first first_of a) rest ≡ true → Halts P checked D a rest → Halts P checked D (many a) ts
stop_parts {P} {checked} {D} {a} {ts} {rest} {vs} p s h = record { at = λ x q. at x (h.at x q); only = h.only }
  where
    at : (x : Stop) → StopsIn D a rest x → StopsIn D (many a) ts x
    at (stuck r) q = (vs, each_stop a (Sticks Tree first_of Found Lost a) ts vs rest r p.each s q)
    at (high r) q = (vs, each_stop a (Tops Tree first_of Found (λ (j : Nonterminal). TooTall (D j) j) a) ts vs rest r p.each s q)

-- ---- places with as many nodes around them

-- the two tell the same number at each nonterminal of the right side
abbrev pub Agree : (Nonterminal → ℕ) → (Nonterminal → ℕ) → Rule → Type 0
Agree D E nothing = Unit {0}
Agree D E (term t) = Unit {0}
Agree D E (ref k) = D k ≡ E k
Agree D E (seq a b) = Agree D E a × Agree D E b
Agree D E (alt a b) = Agree D E a × Agree D E b
Agree D E (many a) = Agree D E a

after_high : {V : Type 0} (fs : List Terminal) (P : List Lexeme → V → List Lexeme → Type 0) (S T : List Lexeme → List Lexeme → Type 0) → ((ts r : List Lexeme) → S ts r → T ts r) → (ts : List Lexeme) (vs : List V) (r : List Lexeme) → SticksAfter fs P S ts vs r → SticksAfter fs P T ts vs r
after_high fs P S T g ts [] r (s, p) = (s, g ts r p)
after_high fs P S T g ts (v ∷ vs) r (s, (m, p, q)) = (s, (m, p, after_high fs P S T g m vs r q))

tops_agree : (D E : Nonterminal → ℕ) (s : Rule) → Agree D E s → (ts r : List Lexeme) → Tops Tree first_of Found (λ (j : Nonterminal). TooTall (D j) j) s ts r → Tops Tree first_of Found (λ (j : Nonterminal). TooTall (E j) j) s ts r
tops_agree D E nothing e ts r p = absurd p
tops_agree D E (term t) e ts r p = absurd p
tops_agree D E (ref k) e ts r p = subst (λ n. TooTall n k ts r) e p
tops_agree D E (seq a b) e ts r (inl p) = inl (tops_agree D E a e.0 ts r p)
tops_agree D E (seq a b) e ts r (inr p) = inr (p.0, p.1, p.2, tops_agree D E b e.1 p.1 r p.3)
tops_agree D E (alt a b) e ts r (inl p) = inl (p.0, tops_agree D E a e.0 ts r p.1)
tops_agree D E (alt a b) e ts r (inr p) = inr (p.0, tops_agree D E b e.1 ts r p.1)
tops_agree D E (many a) e ts r p = (p.0, after_high (first first_of a) (Runs Tree first_of Found a) (Tops Tree first_of Found (λ (j : Nonterminal). TooTall (D j) j) a) (Tops Tree first_of Found (λ (j : Nonterminal). TooTall (E j) j) a) (tops_agree D E a e) ts p.0 r p.1)

pub stop_agree : {P : Stop → Type 0} {checked : Bool} {D E : Nonterminal → ℕ} {s : Rule} {ts : List Lexeme} → (checked ≡ true → Agree D E s) → Halts P checked D s ts → Halts P checked E s ts
stop_agree {P} {checked} {D} {E} {s} {ts} e h = record { at = at; only = h.only }
  where
    at : (x : Stop) → P x → StopsIn E s ts x
    at (stuck r) p = h.at (stuck r) p
    at (high r) p = tops_agree D E s (e (h.only r p)) ts r (h.at (high r) p)

-- behind a phrase that is too high
pub tall_after : (d : ℕ) {k : Nonterminal} {ts rest : List Lexeme} {v : Tree k} → gap_of k ≡ 0 → Found k ts v rest → High d k v → TooTall d k ts rest
tall_after d {k} {ts} {rest} {v} e f h = subst (λ n. Tall Tree first_of rule action n k (High d k) ts rest) (sym e) (tall_behind Tree first_of ext_of rank_of rule action table k (High d k) ts v rest f h)
