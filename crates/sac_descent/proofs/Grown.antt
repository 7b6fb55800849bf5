-- Before one more part of a phrase, with which each such phrase is too high.
use Rattle.std.proofs.Common.{ℕ, ◌≡◌, ◌+◌, ◌≤◌, length, length-append, arith, true, List, [], ◌∷◌, ◌++◌, refl, sym, ap, ◌∙◌, subst, append_assoc}
use Rattle.sac_ast.specs.Texts.{Lexeme}
use Rattle.sac_ast.specs.Shape.{Terminal, seq, many, Matches, Derives}
use Rattle.sac_ast.specs.Grammar.{Nonterminal, Tree, rule, action, Rule, V}
use Rattle.sac_grammar.specs.Run.{starts, first, RunsEach, SticksAfter, Runs, RunsIn}
use Rattle.sac_grammar.specs.Tables.{first_of, ext_of, rank_of}
use Rattle.sac_grammar.specs.High.{Tall}
use Rattle.sac_grammar.specs.Parsing.{Found, Reading, ReadEach, Parts}
use Rattle.sac_grammar.proofs.Machine.{false_true, SameEnd, same_run, Stable, stable_map, stable_seq, stable_run, stuck_each, Sound, sound_run, sample_shape, Begun, begun_each}
use Rattle.sac_grammar.proofs.Exact.{same_read, stable_read, sound_read, sample, same_front}
use Rattle.sac_grammar.proofs.Table.{table}

-- the place itself
abbrev Here : List Lexeme → List Lexeme → Type 0
Here ts rest = rest ≡ ts

parts_before : (b : Rule) (ts : List Lexeme) (vs : List (V b)) (rest : List Lexeme) → ReadEach b ts vs rest → starts (first first_of b) rest ≡ true → SticksAfter (first first_of b) (Runs Tree first_of Found b) Here ts vs rest
parts_before b ts [] rest e s = (subst (λ l. starts (first first_of b) l ≡ true) e s, e)
parts_before b ts (v ∷ vs) rest (t, (m, f, e)) s = (t, (m, f, parts_before b m vs rest e s))

-- a run over the same tokens has these parts and one more
after_prefix : {A : Type 0} (fs : List Terminal) (P Q : List Lexeme → A → List Lexeme → Type 0) → ((ts : List Lexeme) (v w : A) (r q : List Lexeme) → P ts v r → Q ts w q → SameEnd v w r q) → (ts : List Lexeme) (xs vs : List A) (r q : List Lexeme) → RunsEach fs P ts xs r → SticksAfter fs Q Here ts vs q → (us : List A) × (t : A) × (xs ≡ vs ++ (t ∷ us)) × RunsEach fs P q (t ∷ us) r
after_prefix fs P Q D ts [] [] r q p o = false_true (sym p.1 ∙ o.0)
after_prefix fs P Q D ts [] (w ∷ ws) r q p o = false_true (sym p.1 ∙ o.0)
after_prefix fs P Q D ts (x ∷ xs) [] r q p o = (xs, x, refl, subst (λ l. RunsEach fs P l (x ∷ xs) r) (sym o.1) p)
after_prefix fs P Q D ts (x ∷ xs) (w ∷ ws) r q p o =
    let one = D ts x w p.1.0 o.1.0 p.1.1 o.1.1 in
    let more = after_prefix fs P Q D o.1.0 xs ws r q (subst (λ l. RunsEach fs P l xs r) one.rest p.1.2) o.1.2 in
    (more.0, more.1, λ i. one.value i ∷ more.2 i, more.3)

stable_found : (j : Nonterminal) (xs : List Lexeme) (v : Tree j) (ys : List Lexeme) → Found j xs v ys → Stable (λ as' bs. Found j as' v bs) xs ys
stable_found j xs v ys o = stable_map (λ as' bs. RunsIn Tree first_of rule action o.levels j as' v bs) (λ as' bs. Found j as' v bs) xs ys (λ as' bs h. record { levels = o.levels; run = h }) (stable_read Tree first_of ext_of rank_of rule action table o.levels j xs v ys o.run)

sound_found : (j : Nonterminal) (xs : List Lexeme) (v : Tree j) (ys : List Lexeme) → Found j xs v ys → Sound (Derives Tree rule action j) xs v ys
sound_found j xs v ys o = sound_read Tree first_of ext_of rank_of rule action table o.levels j xs v ys o.run

same_found : (n : ℕ) (j : Nonterminal) (xs : List Lexeme) (v w : Tree j) (a b : List Lexeme) → RunsIn Tree first_of rule action n j xs v a → Found j xs w b → SameEnd v w a b
same_found n j xs v w a b p o = same_read Tree first_of ext_of rank_of rule action table n o.levels j xs v w a b p o.run

any : (j : Nonterminal) → (w : List Lexeme) × (v : Tree j) × Derives Tree rule action j w v
any = sample Tree first_of ext_of rank_of rule action table

-- this was read, and then these parts, before the rest
abbrev Before : (a b : Rule) → V a → List (V b) → List Lexeme → List Lexeme → Type 0
Before a b v vs ts rest = (mid : List Lexeme) × Runs Tree first_of Found a ts v mid × SticksAfter (first first_of b) (Runs Tree first_of Found b) Here mid vs rest

here_stable : (ts r : List Lexeme) → Here ts r → Stable Here ts r
here_stable ts r h = ([], sym h, λ q e. refl)

before_stable : (a b : Rule) (v : V a) (vs : List (V b)) (ts rest : List Lexeme) → Before a b v vs ts rest → Stable (Before a b v vs) ts rest
before_stable a b v vs ts rest p =
    stable_seq (λ xs ys. Runs Tree first_of Found a xs v ys) (λ xs ys. SticksAfter (first first_of b) (Runs Tree first_of Found b) Here xs vs ys) (Before a b v vs) ts p.0 rest (λ xs m ys x y. (m, x, y))
    (stable_run Tree first_of Found Found stable_found a ts v p.0 p.1)
    (stuck_each (first first_of b) (Runs Tree first_of Found b) (Runs Tree first_of Found b) Here Here (stable_run Tree first_of Found Found stable_found b) here_stable p.0 vs rest p.2)

before_begun : (a b : Rule) (v : V a) (vs : List (V b)) (ts rest : List Lexeme) → Before a b v vs ts rest → Begun (Matches Tree (Derives Tree rule action) (seq a (many b))) ts rest
before_begun a b v vs ts rest p =
    let one = sound_run Tree first_of Found (Derives Tree rule action) sound_found a ts v p.0 p.1 in
    let s = sample_shape Tree first_of (Derives Tree rule action) any b in
    let y = begun_each (first first_of b) (Runs Tree first_of Found b) Here (Matches Tree (Derives Tree rule action) b) (sound_run Tree first_of Found (Derives Tree rule action) sound_found b) (λ xs ys h. ([], sym h, (s.0, s.1, s.2))) p.0 vs rest p.2 in
    (one.0 ++ y.0, one.1 ∙ ap (λ l. one.0 ++ l) y.1 ∙ sym (append_assoc one.0 y.0 rest), (y.2.0, (v, y.2.1), (one.0, y.0 ++ y.2.0, append_assoc one.0 y.0 y.2.0, one.2, y.2.2)))

sound_shorter : {A : Type 0} (P : List Lexeme → A → Type 0) (ts : List Lexeme) (v : A) (r : List Lexeme) → Sound P ts v r → length r ≤ length ts
sound_shorter P ts v r s = let e = ap length s.1 in let a = length-append s.0 r in omega arith

-- what the tree of one part and more parts is
module _ (k : Nonterminal) (a b : Rule) (act : V a → List (V b) → Tree k) (opened : (n : ℕ) (q : List Lexeme) (w : Tree k) (z : List Lexeme) → RunsIn Tree first_of rule action n k q w z → (m : ℕ) × (x : V (seq a (many b))) × (w ≡ act x.0 x.1) × Runs Tree first_of (RunsIn Tree first_of rule action m) (seq a (many b)) q x z) (closed : (u : List Lexeme) (x : V (seq a (many b))) → Matches Tree (Derives Tree rule action) (seq a (many b)) u x → Derives Tree rule action k u (act x.0 x.1)) where
  pub tall_more : (G : Tree k → Type 0) {ts mid rest : List Lexeme} {v : V a} {vs : List (V b)} → Reading a ts v mid → Parts b mid vs rest → starts (first first_of b) rest ≡ true → ((t : V b) (us : List (V b)) → G (act v (vs ++ (t ∷ us)))) → Tall Tree first_of rule action 0 k G ts rest
  tall_more G {ts} {mid} {rest} {v} {vs} f p s grows =
      let at : Before a b v vs ts rest = (mid, f.run, parts_before b mid vs rest p.each s) in
      let st = before_stable a b v vs ts rest at in
      let bg = before_begun a b v vs ts rest at in
      let same : st.0 ≡ bg.0 = same_front st.0 bg.0 rest (sym st.1 ∙ bg.1) in
      record {
        front = st.0;
        split = st.1;
        begun = subst (λ l. (w : List Lexeme) × (x : Tree k) × Derives Tree rule action k (l ++ w) x) (sym same) (bg.2.0, act bg.2.1.0 bg.2.1.1, closed (bg.0 ++ bg.2.0) bg.2.1 bg.2.2);
        high = λ n q w z e d. high (st.0 ++ q) q w z (opened n (st.0 ++ q) w z d) (st.2 q e);
      }
    where
      high : (us q : List Lexeme) (w : Tree k) (z : List Lexeme) → ((m : ℕ) × (x : V (seq a (many b))) × (w ≡ act x.0 x.1) × Runs Tree first_of (RunsIn Tree first_of rule action m) (seq a (many b)) us x z) → Before a b v vs us q → G w × (length z + 0 ≤ length q)
      high us q w z (m, x, is, (behind, ra, rb)) (middle, fa, fb) =
          let one = same_run Tree first_of (RunsIn Tree first_of rule action m) Found (same_found m) a us x.0 v behind middle ra fa in
          let each = after_prefix (first first_of b) (Runs Tree first_of (RunsIn Tree first_of rule action m) b) (Runs Tree first_of Found b) (same_run Tree first_of (RunsIn Tree first_of rule action m) Found (same_found m) b) middle x.1 vs z q (subst (λ l. RunsEach (first first_of b) (Runs Tree first_of (RunsIn Tree first_of rule action m) b) l x.1 z) one.rest rb) fb in
          let long = sound_shorter (Matches Tree (Derives Tree rule action) (many b)) q (each.1 ∷ each.0) z (sound_run Tree first_of (RunsIn Tree first_of rule action m) (Derives Tree rule action) (sound_read Tree first_of ext_of rank_of rule action table m) (many b) q (each.1 ∷ each.0) z each.3) in
          let whole : act v (vs ++ (each.1 ∷ each.0)) ≡ w = sym (is ∙ ap (λ y. act y x.1) one.value ∙ ap (act v) each.2) in
          (subst G whole (grows each.1 each.0), omega arith)
