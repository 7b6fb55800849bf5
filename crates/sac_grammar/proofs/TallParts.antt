-- From a part that is too high to the phrase around it, where the height depends on the place of the part.
use Rattle.std.proofs.Common.{ℕ, zero, suc, ◌≡◌, ◌+◌, ◌≤◌, length, length-append, arith, Bool, true, false, List, [], ◌∷◌, ◌++◌, inl, inr, refl, sym, ap, ◌∙◌, subst, append_assoc, append-nil}
use Rattle.sac_ast.specs.Texts.{Lexeme}
use Rattle.sac_ast.specs.Shape.{Terminal, nothing, term, ref, seq, alt, many, Matches, Derives}
use Rattle.sac_ast.specs.Grammar.{Nonterminal, Tree, rule, action, Rule, V}
use Rattle.sac_grammar.specs.Run.{starts, first, are_apart, SameFirst, RunsEach, Runs, RunsIn, Sticks}
use Rattle.sac_grammar.specs.Tables.{first_of, ext_of, rank_of}
use Rattle.sac_grammar.specs.High.{HasHigh, Tops, Tall}
use Rattle.sac_grammar.specs.Limits.{High, gap_of}
use Rattle.sac_grammar.specs.Parsing.{Found, Lost, TooTall, Reading, Stop, stuck, high, StopsAt, StopsIn, StopsSo, TallPart, Halted, Halts, HaltsSo, nth, inject, is_apart, ReadEach, Parts}
use Rattle.sac_grammar.proofs.Machine.{false_true, and_left, and_right, apart_not, starts_same, same_behind, SameEnd, same_run, Stable, stable_map, stable_run, Sound, sound_run, sample_shape}
use Rattle.sac_grammar.proofs.Levels.{derives_rule, fails_rule}
use Rattle.sac_grammar.proofs.Exact.{same_read, stable_read, sound_read, sample, same_front}
use Rattle.sac_grammar.proofs.High.{stable_top, begun_top, high_run, past_run, stable_tall, same_first_self}
use Rattle.sac_grammar.proofs.Parsing.{each_stop}
use Rattle.sac_grammar.proofs.Table.{table}

-- ---- the parser of the language

abbrev RunsOf : ℕ → (k : Nonterminal) → List Lexeme → Tree k → List Lexeme → Type 0
RunsOf n = RunsIn Tree first_of rule action n

abbrev IsOf : (k : Nonterminal) → List Lexeme → Tree k → Type 0
IsOf = Derives Tree rule action

stable_found : (j : Nonterminal) (xs : List Lexeme) (v : Tree j) (ys : List Lexeme) → Found j xs v ys → Stable (λ as' bs. Found j as' v bs) xs ys
stable_found j xs v ys o = stable_map (λ as' bs. RunsOf o.levels j as' v bs) (λ as' bs. Found j as' v bs) xs ys (λ as' bs h. record { levels = o.levels; run = h }) (stable_read Tree first_of ext_of rank_of rule action table o.levels j xs v ys o.run)

sound_found : (j : Nonterminal) (xs : List Lexeme) (v : Tree j) (ys : List Lexeme) → Found j xs v ys → Sound (IsOf j) xs v ys
sound_found j xs v ys o = sound_read Tree first_of ext_of rank_of rule action table o.levels j xs v ys o.run

same_found : (n : ℕ) (j : Nonterminal) (xs : List Lexeme) (v w : Tree j) (a b : List Lexeme) → RunsOf n j xs v a → Found j xs w b → SameEnd v w a b
same_found n j xs v w a b p o = same_read Tree first_of ext_of rank_of rule action table n o.levels j xs v w a b p o.run

any : (j : Nonterminal) → (w : List Lexeme) × (v : Tree j) × IsOf j w v
any = sample Tree first_of ext_of rank_of rule action table

run_shorter : (n : ℕ) (s : Rule) (q : List Lexeme) (v : V s) (z : List Lexeme) → Runs Tree first_of (RunsOf n) s q v z → length z ≤ length q
run_shorter n s q v z d =
    let w = sound_run Tree first_of (RunsOf n) IsOf (sound_read Tree first_of ext_of rank_of rule action table n) s q v z d in
    let e = ap length w.1 in
    let a = length-append w.0 z in
    omega arith

-- the first token decides the same where what follows it is another
starts_at : (fs : List Terminal) (b : Bool) (ts u r q : List Lexeme) → ts ≡ u ++ r → starts fs ts ≡ b → SameFirst r q → starts fs (u ++ q) ≡ b
starts_at fs b ts u r q e s f = sym (starts_same fs (u ++ r) (u ++ q) (same_behind u r q f)) ∙ ap (starts fs) (sym e) ∙ s

-- ---- parts

pub tall_map : {s : Rule} {G H : V s → Type 0} {ts r : List Lexeme} → ((v : V s) → G v → H v) → TallPart s G ts r → TallPart s H ts r
tall_map {s} {G} {H} {ts} {r} f t = record { front = t.front; split = t.split; begun = t.begun; high = λ n q v z e d. let h = t.high n q v z e d in (f v h.0, h.1) }

-- at the first token of the part
pub tall_here : (s : Rule) (G : V s → Type 0) (ts : List Lexeme) → ((n : ℕ) (q : List Lexeme) (v : V s) (z : List Lexeme) → SameFirst ts q → Runs Tree first_of (RunsOf n) s q v z → G v) → TallPart s G ts ts
tall_here s G ts f = record { front = []; split = refl; begun = sample_shape Tree first_of IsOf any s; high = λ n q v z e d. (f n q v z e d, run_shorter n s q v z d) }

pub tall_left : {a b : Rule} {G : V a → Type 0} {ts r : List Lexeme} → TallPart a G ts r → TallPart (seq a b) (λ w. G w.0) ts r
tall_left {a} {b} {G} {ts} {r} t =
    let y = sample_shape Tree first_of IsOf any b in
    record {
      front = t.front;
      split = t.split;
      begun = (t.begun.0 ++ y.0, (t.begun.1, y.1), (t.front ++ t.begun.0, y.0, sym (append_assoc t.front t.begun.0 y.0), t.begun.2, y.2));
      high = λ n q v z e d. let h = t.high n q v.0 d.0 e d.1 in let k = h.1 in let l = run_shorter n b d.0 v.1 z d.2 in (h.0, omega arith);
    }

pub tall_right : {a b : Rule} {G : V b → Type 0} {ts mid r : List Lexeme} {v : V a} → Reading a ts v mid → TallPart b G mid r → TallPart (seq a b) (λ w. (w.0 ≡ v) × G w.1) ts r
tall_right {a} {b} {G} {ts} {mid} {r} {v} f t =
    let st = stable_run Tree first_of Found Found stable_found a ts v mid f.run in
    let so = sound_run Tree first_of Found IsOf sound_found a ts v mid f.run in
    let same : st.0 ≡ so.0 = same_front st.0 so.0 mid (sym st.1 ∙ so.1) in
    record {
      front = st.0 ++ t.front;
      split = st.1 ∙ ap (λ l. st.0 ++ l) t.split ∙ sym (append_assoc st.0 t.front r);
      begun = (t.begun.0, (v, t.begun.1), (st.0, t.front ++ t.begun.0, append_assoc st.0 t.front t.begun.0, subst (λ u. Matches Tree IsOf a u v) (sym same) so.2, t.begun.2));
      high = λ n q w z e d.
          let there = st.2 (t.front ++ q) (subst (λ l. SameFirst l (t.front ++ q)) (sym t.split) (same_behind t.front r q e)) in
          let one = same_run Tree first_of (RunsOf n) Found (same_found n) a (st.0 ++ (t.front ++ q)) w.0 v d.0 (t.front ++ q) (subst (λ l. Runs Tree first_of (RunsOf n) a l w.0 d.0) (append_assoc st.0 t.front q) d.1) there in
          let h = t.high n q w.1 z e (subst (λ l. Runs Tree first_of (RunsOf n) b l w.1 z) one.rest d.2) in
          ((one.value, h.0), h.1);
    }

pub tall_first : {a b : Rule} {G : V a → Type 0} {ts r : List Lexeme} → starts (first first_of a) ts ≡ true → TallPart a G ts r → TallPart (alt a b) (λ w. (x : V a) × (w ≡ inl x) × G x) ts r
tall_first {a} {b} {G} {ts} {r} s t = record { front = t.front; split = t.split; begun = (t.begun.0, inl t.begun.1, t.begun.2); high = go }
  where
    go : (n : ℕ) (q : List Lexeme) (w : V (alt a b)) (z : List Lexeme) → SameFirst r q → Runs Tree first_of (RunsOf n) (alt a b) (t.front ++ q) w z → ((x : V a) × (w ≡ inl x) × G x) × (length z ≤ length q)
    go n q (inl x) z e d = let h = t.high n q x z e d.1 in ((x, refl, h.0), h.1)
    go n q (inr y) z e d = false_true (sym d.0 ∙ starts_at (first first_of a) true ts t.front r q t.split s e)

pub tall_second : {a b : Rule} {G : V b → Type 0} {ts r : List Lexeme} → starts (first first_of a) ts ≡ false → TallPart b G ts r → TallPart (alt a b) (λ w. (x : V b) × (w ≡ inr x) × G x) ts r
tall_second {a} {b} {G} {ts} {r} s t = record { front = t.front; split = t.split; begun = (t.begun.0, inr t.begun.1, t.begun.2); high = go }
  where
    go : (n : ℕ) (q : List Lexeme) (w : V (alt a b)) (z : List Lexeme) → SameFirst r q → Runs Tree first_of (RunsOf n) (alt a b) (t.front ++ q) w z → ((x : V b) × (w ≡ inr x) × G x) × (length z ≤ length q)
    go n q (inl x) z e d = false_true (sym (starts_at (first first_of a) false ts t.front r q t.split s e) ∙ d.0)
    go n q (inr y) z e d = let h = t.high n q y z e d.1 in ((y, refl, h.0), h.1)

abbrev pub Injected : (n : ℕ) (s : Rule) → (V (nth n s) → Type 0) → V s → Type 0
Injected n s G w = (x : V (nth n s)) × (w ≡ inject n s x) × G x

pub tall_nth : (n : ℕ) (s : Rule) (G : V (nth n s) → Type 0) {ts r : List Lexeme} → is_apart n s ≡ true → starts (first first_of (nth n s)) ts ≡ true → TallPart (nth n s) G ts r → TallPart s (Injected n s G) ts r
tall_nth zero (alt a b) G ok s t = tall_first s t
tall_nth (suc n) (alt a b) G {ts} ok s t =
    tall_map (λ w h. (h.2.0, h.1 ∙ ap inr h.2.1, h.2.2))
    (tall_second (apart_not (first first_of (nth n b)) (first first_of a) ts (and_left _ (is_apart n b) ok) s) (tall_nth n b G (and_right (are_apart (first first_of (nth n b)) (first first_of a)) _ ok) s t))
tall_nth zero nothing G ok s t = tall_map (λ w g. (w, refl, g)) t
tall_nth zero (term t') G ok s t = tall_map (λ w g. (w, refl, g)) t
tall_nth zero (ref k) G ok s t = tall_map (λ w g. (w, refl, g)) t
tall_nth zero (seq a b) G ok s t = tall_map (λ w g. (w, refl, g)) t
tall_nth zero (many a) G ok s t = tall_map (λ w g. (w, refl, g)) t
tall_nth (suc n) nothing G ok s t = tall_map (λ w g. (w, refl, g)) t
tall_nth (suc n) (term t') G ok s t = tall_map (λ w g. (w, refl, g)) t
tall_nth (suc n) (ref k) G ok s t = tall_map (λ w g. (w, refl, g)) t
tall_nth (suc n) (seq a b) G ok s t = tall_map (λ w g. (w, refl, g)) t
tall_nth (suc n) (many a) G ok s t = tall_map (λ w g. (w, refl, g)) t

-- ---- one part after another

-- what follows these parts begins with a part that has G
abbrev pub HasNext : (b : Rule) → (V b → Type 0) → List (V b) → List (V b) → Type 0
HasNext b G vs ws = (t : V b) × (us : List (V b)) × (ws ≡ vs ++ (t ∷ us)) × G t

next_part : {b : Rule} {G : V b → Type 0} {ts r : List Lexeme} → starts (first first_of b) ts ≡ true → TallPart b G ts r → TallPart (many b) (HasNext b G []) ts r
next_part {b} {G} {ts} {r} s t = record {
  front = t.front;
  split = t.split;
  begun = (t.begun.0, t.begun.1 ∷ [], (t.front ++ t.begun.0, [], sym (append-nil (t.front ++ t.begun.0)), t.begun.2, refl));
  high = go;
}
  where
    go : (n : ℕ) (q : List Lexeme) (ws : List (V b)) (z : List Lexeme) → SameFirst r q → Runs Tree first_of (RunsOf n) (many b) (t.front ++ q) ws z → HasNext b G [] ws × (length z ≤ length q)
    go n q [] z e d = false_true (sym d.1 ∙ starts_at (first first_of b) true ts t.front r q t.split s e)
    go n q (x ∷ xs) z e d = let h = t.high n q x d.1.0 e d.1.1 in let k = h.1 in let l = run_shorter n (many b) d.1.0 xs z d.1.2 in ((x, xs, refl, h.0), omega arith)

part_before : {b : Rule} {G : V b → Type 0} (vs : List (V b)) {ts mid r : List Lexeme} (v : V b) → starts (first first_of b) ts ≡ true → Runs Tree first_of Found b ts v mid → TallPart (many b) (HasNext b G vs) mid r → TallPart (many b) (HasNext b G (v ∷ vs)) ts r
part_before {b} {G} vs {ts} {mid} {r} v s f t =
    let st = stable_run Tree first_of Found Found stable_found b ts v mid f in
    let so = sound_run Tree first_of Found IsOf sound_found b ts v mid f in
    let same : st.0 ≡ so.0 = same_front st.0 so.0 mid (sym st.1 ∙ so.1) in
    let split : ts ≡ (st.0 ++ t.front) ++ r = st.1 ∙ ap (λ l. st.0 ++ l) t.split ∙ sym (append_assoc st.0 t.front r) in
    record {
      front = st.0 ++ t.front;
      split = split;
      begun = (t.begun.0, v ∷ t.begun.1, (st.0, t.front ++ t.begun.0, append_assoc st.0 t.front t.begun.0, subst (λ u. Matches Tree IsOf b u v) (sym same) so.2, t.begun.2));
      high = go st.0 st.2 split;
    }
  where
    go : (u : List Lexeme) → ((q : List Lexeme) → SameFirst mid q → Runs Tree first_of Found b (u ++ q) v q) → ts ≡ (u ++ t.front) ++ r → (n : ℕ) (q : List Lexeme) (ws : List (V b)) (z : List Lexeme) → SameFirst r q → Runs Tree first_of (RunsOf n) (many b) ((u ++ t.front) ++ q) ws z → HasNext b G (v ∷ vs) ws × (length z ≤ length q)
    go u again split n q [] z e d = false_true (sym d.1 ∙ starts_at (first first_of b) true ts (u ++ t.front) r q split s e)
    go u again split n q (x ∷ xs) z e d =
        let there = again (t.front ++ q) (subst (λ l. SameFirst l (t.front ++ q)) (sym t.split) (same_behind t.front r q e)) in
        let one = same_run Tree first_of (RunsOf n) Found (same_found n) b (u ++ (t.front ++ q)) x v d.1.0 (t.front ++ q) (subst (λ l. Runs Tree first_of (RunsOf n) b l x d.1.0) (append_assoc u t.front q) d.1.1) there in
        let h = t.high n q xs z e (subst (λ l. RunsEach (first first_of b) (Runs Tree first_of (RunsOf n) b) l xs z) one.rest d.1.2) in
        ((h.0.0, h.0.1, λ i. one.value i ∷ h.0.2 i, h.0.3), h.1)

tall_each : {b : Rule} {G : V b → Type 0} (vs : List (V b)) (ts mid r : List Lexeme) → ReadEach b ts vs mid → starts (first first_of b) mid ≡ true → TallPart b G mid r → TallPart (many b) (HasNext b G vs) ts r
tall_each {b} {G} [] ts mid r e s t = subst (λ l. TallPart (many b) (HasNext b G []) l r) e (next_part s t)
tall_each {b} {G} (v ∷ vs) ts mid r (so, (m, f, e)) s t = part_before vs v so f (tall_each vs m mid r e s t)

pub tall_parts : {b : Rule} {G : V b → Type 0} {ts mid r : List Lexeme} {vs : List (V b)} → Parts b ts vs mid → starts (first first_of b) mid ≡ true → TallPart b G mid r → TallPart (many b) (HasNext b G vs) ts r
tall_parts {b} {G} {ts} {mid} {r} {vs} p s t = tall_each vs ts mid r p.each s t

-- ---- phrases

-- a phrase in the part is too high
pub tall_tops : (D : Nonterminal → ℕ) (s : Rule) (ts r : List Lexeme) → Tops Tree first_of Found (λ (j : Nonterminal). TooTall (D j) j) s ts r → TallPart s (HasHigh Tree first_of (λ (j : Nonterminal). High (D j) j) s) ts r
tall_tops D s ts r p =
    let S = λ (j : Nonterminal). TooTall (D j) j in
    let bg = begun_top Tree first_of Found S IsOf sound_found (λ j xs ys t. (t.front, t.split, t.begun)) any s ts r p in
    let st = stable_top Tree first_of Found Found S S stable_found (λ j. stable_tall Tree first_of ext_of rank_of rule action table (gap_of j) j (High (D j) j)) s ts r p in
    let same : st.0 ≡ bg.0 = same_front st.0 bg.0 r (sym st.1 ∙ bg.1) in
    record {
      front = st.0;
      split = st.1;
      begun = subst (λ l. (w : List Lexeme) × (v : V s) × Matches Tree IsOf s (l ++ w) v) (sym same) bg.2;
      high = λ n q v z e d. above n (st.0 ++ q) q v z d (st.2 q e);
    }
  where
    above : (n : ℕ) (us q : List Lexeme) (v : V s) (z : List Lexeme) → Runs Tree first_of (RunsOf n) s us v z → Tops Tree first_of Found (λ (j : Nonterminal). TooTall (D j) j) s us q → HasHigh Tree first_of (λ (j : Nonterminal). High (D j) j) s v × (length z ≤ length q)
    above n us q v z d o =
        let at = λ (j : Nonterminal) (xs : List Lexeme) (v : Tree j) (a b : List Lexeme) (p : RunsOf n j xs v a) (t : TooTall (D j) j xs b). t.high n b v a (same_first_self b) (subst (λ l. RunsOf n j l v a) t.split p) in (
          high_run Tree first_of (RunsOf n) Found (λ (j : Nonterminal). TooTall (D j) j) (λ (j : Nonterminal). High (D j) j) (same_found n) (λ j xs v a b p t. (at j xs v a b p t).0) s us v z q d o,
          past_run Tree first_of (RunsOf n) Found (λ (j : Nonterminal). TooTall (D j) j) IsOf (same_found n) (sound_read Tree first_of ext_of rank_of rule action table n) (λ j xs v a b p t. let g = (at j xs v a b p t).1 in omega arith) s us v z q d o,
        )

-- the whole right side
pub tall_phrase : {k : Nonterminal} {G : V (rule k) → Type 0} {ts r : List Lexeme} (H : Tree k → Type 0) → ((v : V (rule k)) → G v → H (action k v)) → TallPart (rule k) G ts r → Tall Tree first_of rule action 0 k H ts r
tall_phrase {k} {G} {ts} {r} H f t = record {
  front = t.front;
  split = t.split;
  begun = (t.begun.0, action k t.begun.1, derives_rule Tree first_of rule action k (t.front ++ t.begun.0) t.begun.1 t.begun.2);
  high = go;
}
  where
    go : (n : ℕ) (q : List Lexeme) (w : Tree k) (z : List Lexeme) → SameFirst r q → RunsOf n k (t.front ++ q) w z → H w × (length z + 0 ≤ length q)
    go zero q w z e d = absurd d
    go (suc n) q w z e (x, is, d) = let h = t.high n q x z e d in let l = h.1 in (subst H (sym is) (f x h.0), omega arith)

-- ---- stops

sticks_nth : (n : ℕ) (s : Rule) (ts r : List Lexeme) → is_apart n s ≡ true → starts (first first_of (nth n s)) ts ≡ true → Sticks Tree first_of Found Lost (nth n s) ts r → Sticks Tree first_of Found Lost s ts r
sticks_nth zero (alt a b) ts r ok so p = inl (so, p)
sticks_nth (suc n) (alt a b) ts r ok so p = inr (apart_not (first first_of (nth n b)) (first first_of a) ts (and_left _ (is_apart n b) ok) so, sticks_nth n b ts r (and_right (are_apart (first first_of (nth n b)) (first first_of a)) _ ok) so p)
sticks_nth zero nothing ts r ok so p = p
sticks_nth zero (term t) ts r ok so p = p
sticks_nth zero (ref k) ts r ok so p = p
sticks_nth zero (seq a b) ts r ok so p = p
sticks_nth zero (many a) ts r ok so p = p
sticks_nth (suc n) nothing ts r ok so p = p
sticks_nth (suc n) (term t) ts r ok so p = p
sticks_nth (suc n) (ref k) ts r ok so p = p
sticks_nth (suc n) (seq a b) ts r ok so p = p
sticks_nth (suc n) (many a) ts r ok so p = p

module _ {P : Stop → Type 0} {checked : Bool} where
  pub so_of : {D : Nonterminal → ℕ} {s : Rule} {ts : List Lexeme} → Halts P checked D s ts → HaltsSo P checked s (HasHigh Tree first_of (λ (j : Nonterminal). High (D j) j) s) ts
  so_of {D} {s} {ts} h = record { at = λ x p. at x (h.at x p); only = h.only }
    where
      at : (x : Stop) → StopsIn D s ts x → StopsSo s (HasHigh Tree first_of (λ (j : Nonterminal). High (D j) j) s) ts x
      at (stuck r) p = p
      at (high r) p = tall_tops D s ts r p

  pub so_map : {s : Rule} {G H : V s → Type 0} {ts : List Lexeme} → (checked ≡ true → (v : V s) → G v → H v) → HaltsSo P checked s G ts → HaltsSo P checked s H ts
  so_map {s} {G} {H} {ts} f h = record { at = at; only = h.only }
    where
      at : (x : Stop) → P x → StopsSo s H ts x
      at (stuck r) p = h.at (stuck r) p
      at (high r) p = tall_map (f (h.only r p)) (h.at (high r) p)

  pub so_right : {a b : Rule} {G : V b → Type 0} {ts mid : List Lexeme} {v : V a} → Reading a ts v mid → HaltsSo P checked b G mid → HaltsSo P checked (seq a b) (λ w. (w.0 ≡ v) × G w.1) ts
  so_right {a} {b} {G} {ts} {mid} {v} f h = record { at = λ x p. at x (h.at x p); only = h.only }
    where
      at : (x : Stop) → StopsSo b G mid x → StopsSo (seq a b) (λ w. (w.0 ≡ v) × G w.1) ts x
      at (stuck r) s = inr (v, mid, f.run, s)
      at (high r) t = tall_right f t

  pub so_nth : (n : ℕ) (s : Rule) (G : V (nth n s) → Type 0) {ts : List Lexeme} → is_apart n s ≡ true → starts (first first_of (nth n s)) ts ≡ true → HaltsSo P checked (nth n s) G ts → HaltsSo P checked s (Injected n s G) ts
  so_nth n s G {ts} ok so h = record { at = λ x p. at x (h.at x p); only = h.only }
    where
      at : (x : Stop) → StopsSo (nth n s) G ts x → StopsSo s (Injected n s G) ts x
      at (stuck r) p = sticks_nth n s ts r ok so p
      at (high r) p = tall_nth n s G ok so p

  pub so_second : {a b : Rule} {G : V b → Type 0} {ts : List Lexeme} → starts (first first_of a) ts ≡ false → HaltsSo P checked b G ts → HaltsSo P checked (alt a b) (λ w. (x : V b) × (w ≡ inr x) × G x) ts
  so_second {a} {b} {G} {ts} so h = record { at = λ x p. at x (h.at x p); only = h.only }
    where
      at : (x : Stop) → StopsSo b G ts x → StopsSo (alt a b) (λ w. (x : V b) × (w ≡ inr x) × G x) ts x
      at (stuck r) p = inr (so, p)
      at (high r) p = tall_second so p

  pub so_parts : {b : Rule} {G : V b → Type 0} {ts mid : List Lexeme} {vs : List (V b)} → Parts b ts vs mid → starts (first first_of b) mid ≡ true → HaltsSo P checked b G mid → HaltsSo P checked (many b) (HasNext b G vs) ts
  so_parts {b} {G} {ts} {mid} {vs} p s h = record { at = λ x q. at x (h.at x q); only = h.only }
    where
      at : (x : Stop) → StopsSo b G mid x → StopsSo (many b) (HasNext b G vs) ts x
      at (stuck r) q = (vs, each_stop b (Sticks Tree first_of Found Lost b) ts vs mid r p.each s q)
      at (high r) q = tall_parts p s q

  pub so_phrase : {d : ℕ} {k : Nonterminal} {G : V (rule k) → Type 0} {ts : List Lexeme} → gap_of k ≡ 0 → (checked ≡ true → (v : V (rule k)) → G v → High d k (action k v)) → HaltsSo P checked (rule k) G ts → Halted P checked d k ts
  so_phrase {d} {k} {G} {ts} gap f h = record { at = at; only = h.only }
    where
      at : (x : Stop) → P x → StopsAt d k ts x
      at (stuck r) p = fails_rule Tree first_of rule action k ts r (h.at (stuck r) p)
      at (high r) p = subst (λ n. Tall Tree first_of rule action n k (High d k) ts r) (sym gap) (tall_phrase (High d k) (f (h.only r p)) (h.at (high r) p))
