-- Behind a phrase that is too high every program is too high.
use Rattle.std.proofs.Common.{ℕ, zero, suc, ◌≡◌, ◌+◌, ◌<◌, ◌≤◌, length, length-append, cond, arith, Bool, true, false, List, [], ◌∷◌, ◌++◌, inl, inr, refl, sym, ap, ◌∙◌, subst, append_assoc, append-nil}
use Rattle.sac_ast.specs.Texts.{Lexeme}
use Rattle.sac_ast.specs.Shape.{Terminal, Shape, nothing, term, ref, seq, alt, many, Value, Matches, Derives}
use Rattle.sac_grammar.specs.Run.{first, RunsEach, SticksAfter, SameFirst, Runs, RunsIn, Reads, IsPredictive}
use Rattle.sac_grammar.specs.High.{AnyOf, HasHigh, Tops, Tall, ends_so}
use Rattle.sac_grammar.proofs.Machine.{false_true, and_left, and_right, SameEnd, same_run, Stable, stable_map, stable_test, stable_seq, stable_run, stuck_each, Sound, sound_run, sample_shape, Begun, begun_each}
use Rattle.sac_grammar.proofs.Levels.{derives_rule}
use Rattle.sac_grammar.proofs.Exact.{same_read, stable_read, sound_read, sample, same_front}

module _ {N : Type 0} (Tree : N → Type 0) (first_of : N → List Terminal) where
  pub stable_top : (P Q : (k : N) → List Lexeme → Tree k → List Lexeme → Type 0) (S T : (k : N) → List Lexeme → List Lexeme → Type 0) → ((k : N) (ts : List Lexeme) (v : Tree k) (r : List Lexeme) → P k ts v r → Stable (λ xs ys. Q k xs v ys) ts r) → ((k : N) (ts r : List Lexeme) → S k ts r → Stable (T k) ts r) → (s : Shape N) (ts r : List Lexeme) → Tops Tree first_of P S s ts r → Stable (Tops Tree first_of Q T s) ts r
  stable_top P Q S T D E nothing ts r p = absurd p
  stable_top P Q S T D E (term t) ts r p = absurd p
  stable_top P Q S T D E (ref k) ts r p = E k ts r p
  stable_top P Q S T D E (seq a b) ts r (inl p) = stable_map (Tops Tree first_of Q T a) (Tops Tree first_of Q T (seq a b)) ts r (λ xs ys h. inl h) (stable_top P Q S T D E a ts r p)
  stable_top P Q S T D E (seq a b) ts r (inr p) =
      stable_seq (λ xs ys. Runs Tree first_of Q a xs p.0 ys) (Tops Tree first_of Q T b) (Tops Tree first_of Q T (seq a b)) ts p.1 r (λ xs m ys x y. inr (p.0, m, x, y)) (stable_run Tree first_of P Q D a ts p.0 p.1 p.2) (stable_top P Q S T D E b p.1 r p.3)
  stable_top P Q S T D E (alt a b) ts r (inl p) =
      stable_test (Tops Tree first_of Q T a) (Tops Tree first_of Q T (alt a b)) (first first_of a) true ts r p.0 (λ xs ys s h. inl (s, h)) (stable_top P Q S T D E a ts r p.1)
  stable_top P Q S T D E (alt a b) ts r (inr p) =
      stable_test (Tops Tree first_of Q T b) (Tops Tree first_of Q T (alt a b)) (first first_of a) false ts r p.0 (λ xs ys s h. inr (s, h)) (stable_top P Q S T D E b ts r p.1)
  stable_top P Q S T D E (many a) ts r p =
      stable_map (λ xs ys. SticksAfter (first first_of a) (Runs Tree first_of Q a) (Tops Tree first_of Q T a) xs p.0 ys) (Tops Tree first_of Q T (many a)) ts r (λ xs ys h. (p.0, h))
      (stuck_each (first first_of a) (Runs Tree first_of P a) (Runs Tree first_of Q a) (Tops Tree first_of P S a) (Tops Tree first_of Q T a) (stable_run Tree first_of P Q D a) (stable_top P Q S T D E a) ts p.0 r p.1)

module _ {N : Type 0} (Tree : N → Type 0) (first_of : N → List Terminal) where
  pub begun_top : (P : (k : N) → List Lexeme → Tree k → List Lexeme → Type 0) (S : (k : N) → List Lexeme → List Lexeme → Type 0) (R : (k : N) → List Lexeme → Tree k → Type 0) → ((k : N) (ts : List Lexeme) (v : Tree k) (r : List Lexeme) → P k ts v r → Sound (R k) ts v r) → ((k : N) (ts r : List Lexeme) → S k ts r → Begun (R k) ts r) → ((k : N) → (w : List Lexeme) × (v : Tree k) × R k w v) → (s : Shape N) (ts r : List Lexeme) → Tops Tree first_of P S s ts r → Begun (Matches Tree R s) ts r
  begun_top P S R D E H nothing ts r p = absurd p
  begun_top P S R D E H (term t) ts r p = absurd p
  begun_top P S R D E H (ref k) ts r p = E k ts r p
  begun_top P S R D E H (seq a b) ts r (inl p) =
      let x = begun_top P S R D E H a ts r p in
      let y = sample_shape Tree first_of R H b in
      (x.0, x.1, (x.2.0 ++ y.0, (x.2.1, y.1), (x.0 ++ x.2.0, y.0, sym (append_assoc x.0 x.2.0 y.0), x.2.2, y.2)))
  begun_top P S R D E H (seq a b) ts r (inr p) =
      let x = sound_run Tree first_of P R D a ts p.0 p.1 p.2 in
      let y = begun_top P S R D E H b p.1 r p.3 in
      (x.0 ++ y.0, x.1 ∙ ap (λ l. x.0 ++ l) y.1 ∙ sym (append_assoc x.0 y.0 r), (y.2.0, (p.0, y.2.1), (x.0, y.0 ++ y.2.0, append_assoc x.0 y.0 y.2.0, x.2, y.2.2)))
  begun_top P S R D E H (alt a b) ts r (inl p) = let x = begun_top P S R D E H a ts r p.1 in (x.0, x.1, (x.2.0, inl x.2.1, x.2.2))
  begun_top P S R D E H (alt a b) ts r (inr p) = let x = begun_top P S R D E H b ts r p.1 in (x.0, x.1, (x.2.0, inr x.2.1, x.2.2))
  begun_top P S R D E H (many a) ts r p = begun_each (first first_of a) (Runs Tree first_of P a) (Tops Tree first_of P S a) (Matches Tree R a) (sound_run Tree first_of P R D a) (begun_top P S R D E H a) ts p.0 r p.1

-- ---- what was read behind a phrase that is too high is too high

high_each : {V : Type 0} (fs : List Terminal) (P Q : List Lexeme → V → List Lexeme → Type 0) (S : List Lexeme → List Lexeme → Type 0) (H : V → Type 0) → ((ts : List Lexeme) (v w : V) (r q : List Lexeme) → P ts v r → Q ts w q → SameEnd v w r q) → ((ts : List Lexeme) (v : V) (r q : List Lexeme) → P ts v r → S ts q → H v) → (ts : List Lexeme) (vs ws : List V) (r q : List Lexeme) → RunsEach fs P ts vs r → SticksAfter fs Q S ts ws q → AnyOf H vs
high_each fs P Q S H D O ts [] [] r q p o = false_true (sym p.1 ∙ o.0)
high_each fs P Q S H D O ts [] (w ∷ ws) r q p o = false_true (sym p.1 ∙ o.0)
high_each fs P Q S H D O ts (v ∷ vs) [] r q p o = inl (O ts v p.1.0 q p.1.1 o.1)
high_each fs P Q S H D O ts (v ∷ vs) (w ∷ ws) r q p o =
    let one = D ts v w p.1.0 o.1.0 p.1.1 o.1.1 in
    inr (high_each fs P Q S H D O o.1.0 vs ws r q (subst (λ l. RunsEach fs P l vs r) one.rest p.1.2) o.1.2)

module _ {N : Type 0} (Tree : N → Type 0) (first_of : N → List Terminal) where
  pub high_run : (P Q : (k : N) → List Lexeme → Tree k → List Lexeme → Type 0) (S : (k : N) → List Lexeme → List Lexeme → Type 0) (H : (k : N) → Tree k → Type 0) → ((k : N) (ts : List Lexeme) (v w : Tree k) (r q : List Lexeme) → P k ts v r → Q k ts w q → SameEnd v w r q) → ((k : N) (ts : List Lexeme) (v : Tree k) (r q : List Lexeme) → P k ts v r → S k ts q → H k v) → (s : Shape N) (ts : List Lexeme) (v : Value Tree s) (r q : List Lexeme) → Runs Tree first_of P s ts v r → Tops Tree first_of Q S s ts q → HasHigh Tree first_of H s v
  high_run P Q S H D O nothing ts v r q p o = o
  high_run P Q S H D O (term t) ts v r q p o = o
  high_run P Q S H D O (ref k) ts v r q p o = O k ts v r q p o
  high_run P Q S H D O (seq a b) ts v r q p (inl o) = inl (high_run P Q S H D O a ts v.0 p.0 q p.1 o)
  high_run P Q S H D O (seq a b) ts v r q p (inr o) =
      let one = same_run Tree first_of P Q D a ts v.0 o.0 p.0 o.1 p.1 o.2 in
      inr (high_run P Q S H D O b o.1 v.1 r q (subst (λ l. Runs Tree first_of P b l v.1 r) one.rest p.2) o.3)
  high_run P Q S H D O (alt a b) ts (inl v) r q p (inl o) = high_run P Q S H D O a ts v r q p.1 o.1
  high_run P Q S H D O (alt a b) ts (inl v) r q p (inr o) = false_true (sym o.0 ∙ p.0)
  high_run P Q S H D O (alt a b) ts (inr v) r q p (inl o) = false_true (sym p.0 ∙ o.0)
  high_run P Q S H D O (alt a b) ts (inr v) r q p (inr o) = high_run P Q S H D O b ts v r q p.1 o.1
  high_run P Q S H D O (many a) ts vs r q p o = high_each (first first_of a) (Runs Tree first_of P a) (Runs Tree first_of Q a) (Tops Tree first_of Q S a) (HasHigh Tree first_of H a) (same_run Tree first_of P Q D a) (high_run P Q S H D O a) ts vs o.0 r q p o.1

-- ---- a run over the same tokens ends behind the place where the parser gave up

sound_length : {V : Type 0} (P : List Lexeme → V → Type 0) (ts : List Lexeme) (v : V) (r : List Lexeme) → Sound P ts v r → length r ≤ length ts
sound_length P ts v r s = let e = ap length s.1 in let a = length-append s.0 r in omega arith

each_length : {V : Type 0} (fs : List Terminal) (P : List Lexeme → V → List Lexeme → Type 0) → ((ts : List Lexeme) (v : V) (r : List Lexeme) → P ts v r → length r ≤ length ts) → (ts : List Lexeme) (vs : List V) (r : List Lexeme) → RunsEach fs P ts vs r → length r ≤ length ts
each_length fs P L ts [] r p = let e = ap length p.0 in omega arith
each_length fs P L ts (v ∷ vs) r p = let a = L ts v p.1.0 p.1.1 in let b = each_length fs P L p.1.0 vs r p.1.2 in omega arith

past_each : {V : Type 0} (fs : List Terminal) (P Q : List Lexeme → V → List Lexeme → Type 0) (S : List Lexeme → List Lexeme → Type 0) → ((ts : List Lexeme) (v w : V) (r q : List Lexeme) → P ts v r → Q ts w q → SameEnd v w r q) → ((ts : List Lexeme) (v : V) (r : List Lexeme) → P ts v r → length r ≤ length ts) → ((ts : List Lexeme) (v : V) (r q : List Lexeme) → P ts v r → S ts q → length r ≤ length q) → (ts : List Lexeme) (vs ws : List V) (r q : List Lexeme) → RunsEach fs P ts vs r → SticksAfter fs Q S ts ws q → length r ≤ length q
past_each fs P Q S D L O ts [] [] r q p o = false_true (sym p.1 ∙ o.0)
past_each fs P Q S D L O ts [] (w ∷ ws) r q p o = false_true (sym p.1 ∙ o.0)
past_each fs P Q S D L O ts (v ∷ vs) [] r q p o =
    let a = O ts v p.1.0 q p.1.1 o.1 in
    let b = each_length fs P L p.1.0 vs r p.1.2 in
    omega arith
past_each fs P Q S D L O ts (v ∷ vs) (w ∷ ws) r q p o =
    let one = D ts v w p.1.0 o.1.0 p.1.1 o.1.1 in
    past_each fs P Q S D L O o.1.0 vs ws r q (subst (λ l. RunsEach fs P l vs r) one.rest p.1.2) o.1.2

module _ {N : Type 0} (Tree : N → Type 0) (first_of : N → List Terminal) (P Q : (k : N) → List Lexeme → Tree k → List Lexeme → Type 0) (S : (k : N) → List Lexeme → List Lexeme → Type 0) (R : (k : N) → List Lexeme → Tree k → Type 0) (D : (k : N) (ts : List Lexeme) (v w : Tree k) (r q : List Lexeme) → P k ts v r → Q k ts w q → SameEnd v w r q) (L : (k : N) (ts : List Lexeme) (v : Tree k) (r : List Lexeme) → P k ts v r → Sound (R k) ts v r) (O : (k : N) (ts : List Lexeme) (v : Tree k) (r q : List Lexeme) → P k ts v r → S k ts q → length r ≤ length q) where
  run_length : (s : Shape N) (ts : List Lexeme) (v : Value Tree s) (r : List Lexeme) → Runs Tree first_of P s ts v r → length r ≤ length ts
  run_length s ts v r p = sound_length (Matches Tree R s) ts v r (sound_run Tree first_of P R L s ts v r p)

  pub past_run : (s : Shape N) (ts : List Lexeme) (v : Value Tree s) (r q : List Lexeme) → Runs Tree first_of P s ts v r → Tops Tree first_of Q S s ts q → length r ≤ length q
  past_run nothing ts v r q p o = absurd o
  past_run (term t) ts v r q p o = absurd o
  past_run (ref k) ts v r q p o = O k ts v r q p o
  past_run (seq a b) ts v r q p (inl o) = let x = past_run a ts v.0 p.0 q p.1 o in let y = run_length b p.0 v.1 r p.2 in omega arith
  past_run (seq a b) ts v r q p (inr o) =
      let one = same_run Tree first_of P Q D a ts v.0 o.0 p.0 o.1 p.1 o.2 in
      past_run b o.1 v.1 r q (subst (λ l. Runs Tree first_of P b l v.1 r) one.rest p.2) o.3
  past_run (alt a b) ts (inl v) r q p (inl o) = past_run a ts v r q p.1 o.1
  past_run (alt a b) ts (inl v) r q p (inr o) = false_true (sym o.0 ∙ p.0)
  past_run (alt a b) ts (inr v) r q p (inl o) = false_true (sym p.0 ∙ o.0)
  past_run (alt a b) ts (inr v) r q p (inr o) = past_run b ts v r q p.1 o.1
  past_run (many a) ts vs r q p o = past_each (first first_of a) (Runs Tree first_of P a) (Runs Tree first_of Q a) (Tops Tree first_of Q S a) (same_run Tree first_of P Q D a) (run_length a) (past_run a) ts vs o.0 r q p o.1

  -- what ends with a terminal reads one more token at least
  ends_later : (s : Shape N) → ends_so s ≡ true → (ts : List Lexeme) (v : Value Tree s) (r : List Lexeme) → Runs Tree first_of P s ts v r → length r < length ts
  ends_later nothing e ts v r p = false_true e
  ends_later (term t) e ts v r p = let a = ap length p.0 in omega arith
  ends_later (ref k) e ts v r p = false_true e
  ends_later (seq a b) e ts v r p = let x = run_length a ts v.0 p.0 p.1 in let y = ends_later b e p.0 v.1 r p.2 in omega arith
  ends_later (alt a b) e ts (inl v) r p = ends_later a (and_left (ends_so a) (ends_so b) e) ts v r p.1
  ends_later (alt a b) e ts (inr v) r p = ends_later b (and_right (ends_so a) (ends_so b) e) ts v r p.1
  ends_later (many a) e ts v r p = false_true e

  past_end : (s : Shape N) → ends_so s ≡ true → (ts : List Lexeme) (v : Value Tree s) (r q : List Lexeme) → Runs Tree first_of P s ts v r → Tops Tree first_of Q S s ts q → length r < length q
  past_end nothing e ts v r q p o = absurd o
  past_end (term t) e ts v r q p o = absurd o
  past_end (ref k) e ts v r q p o = false_true e
  past_end (seq a b) e ts v r q p (inl o) = let x = past_run a ts v.0 p.0 q p.1 o in let y = ends_later b e p.0 v.1 r p.2 in omega arith
  past_end (seq a b) e ts v r q p (inr o) =
      let one = same_run Tree first_of P Q D a ts v.0 o.0 p.0 o.1 p.1 o.2 in
      past_end b e o.1 v.1 r q (subst (λ l. Runs Tree first_of P b l v.1 r) one.rest p.2) o.3
  past_end (alt a b) e ts (inl v) r q p (inl o) = past_end a (and_left (ends_so a) (ends_so b) e) ts v r q p.1 o.1
  past_end (alt a b) e ts (inl v) r q p (inr o) = false_true (sym o.0 ∙ p.0)
  past_end (alt a b) e ts (inr v) r q p (inl o) = false_true (sym p.0 ∙ o.0)
  past_end (alt a b) e ts (inr v) r q p (inr o) = past_end b (and_right (ends_so a) (ends_so b) e) ts v r q p.1 o.1
  past_end (many a) e ts v r q p o = false_true e

  pub past_gap : (s : Shape N) (b : Bool) → ends_so s ≡ b → (ts : List Lexeme) (v : Value Tree s) (r q : List Lexeme) → Runs Tree first_of P s ts v r → Tops Tree first_of Q S s ts q → length r + cond b 1 0 ≤ length q
  past_gap s true e ts v r q p o = let x = past_end s e ts v r q p o in omega arith
  past_gap s false e ts v r q p o = let x = past_run s ts v r q p o in omega arith

first_of_same : (r q s : List Lexeme) → SameFirst r q → SameFirst q s → SameFirst r s
first_of_same [] [] s e f = f
first_of_same [] (y ∷ q) s e f = absurd e
first_of_same (x ∷ r) [] s e f = absurd e
first_of_same (x ∷ r) (y ∷ q) [] e f = absurd f
first_of_same (x ∷ r) (y ∷ q) (z ∷ s) e f = e ∙ f

pub same_first_self : (q : List Lexeme) → SameFirst q q
same_first_self [] = tt
same_first_self (x ∷ q) = refl

module _ {N : Type 0} (Tree : N → Type 0) (first_of ext_of : N → List Terminal) (rank : N → ℕ) (rule : N → Shape N) (action : (k : N) → Value Tree (rule k) → Tree k) (table : IsPredictive first_of ext_of rank rule) where
  pub stable_tall : (gap : ℕ) (k : N) (G : Tree k → Type 0) (ts r : List Lexeme) → Tall Tree first_of rule action gap k G ts r → Stable (Tall Tree first_of rule action gap k G) ts r
  stable_tall gap k G ts r t = (t.front, t.split, λ q e. record { front = t.front; split = refl; begun = t.begun; high = λ n s v z f d. t.high n s v z (first_of_same r q s e f) d })

  -- a part that is too high makes the whole too high
  module _ (gaps : N → ℕ) (H : (k : N) → Tree k → Type 0) where
    pub tall_rule : (k : N) (G : Tree k → Type 0) → ((v : Value Tree (rule k)) → HasHigh Tree first_of H (rule k) v → G (action k v)) → (ts r : List Lexeme) → Tops Tree first_of (Reads Tree first_of rule action) (λ j. Tall Tree first_of rule action (gaps j) j (H j)) (rule k) ts r → Tall Tree first_of rule action (cond (ends_so (rule k)) 1 0) k G ts r
    tall_rule k G grows ts r p =
        let S = λ (j : N). Tall Tree first_of rule action (gaps j) j (H j) in
        let R = Reads Tree first_of rule action in
        let stable_reads = λ (j : N) (xs : List Lexeme) (v : Tree j) (ys : List Lexeme) (o : R j xs v ys). stable_map (λ as' bs. RunsIn Tree first_of rule action o.levels j as' v bs) (λ as' bs. R j as' v bs) xs ys (λ as' bs h. record { levels = o.levels; run = h }) (stable_read Tree first_of ext_of rank rule action table o.levels j xs v ys o.run) in
        let sound_reads = λ (j : N) (xs : List Lexeme) (v : Tree j) (ys : List Lexeme) (o : R j xs v ys). sound_read Tree first_of ext_of rank rule action table o.levels j xs v ys o.run in
        let b = begun_top Tree first_of R S (Derives Tree rule action) sound_reads (λ j xs ys t. (t.front, t.split, t.begun)) (sample Tree first_of ext_of rank rule action table) (rule k) ts r p in
        let s = stable_top Tree first_of R R S S stable_reads (λ j. stable_tall (gaps j) j (H j)) (rule k) ts r p in
        let same : s.0 ≡ b.0 = same_front s.0 b.0 r (sym s.1 ∙ b.1) in
        record {
          front = s.0;
          split = s.1;
          begun = subst (λ l. (w : List Lexeme) × (v : Tree k) × Derives Tree rule action k (l ++ w) v) (sym same) (b.2.0, action k b.2.1, derives_rule Tree first_of rule action k (b.0 ++ b.2.0) b.2.1 b.2.2);
          high = high s.0 s.2;
        }
      where
        high : (u : List Lexeme) → ((q : List Lexeme) → SameFirst r q → Tops Tree first_of (Reads Tree first_of rule action) (λ (j : N). Tall Tree first_of rule action (gaps j) j (H j)) (rule k) (u ++ q) q) → (n : ℕ) (q : List Lexeme) (v : Tree k) (z : List Lexeme) → SameFirst r q → RunsIn Tree first_of rule action n k (u ++ q) v z → G v × (length z + cond (ends_so (rule k)) 1 0 ≤ length q)
        high u again zero q v z e d = absurd d
        high u again (suc n) q v z e (x, is, d) =
            let one = λ (j : N) (xs : List Lexeme) (v w : Tree j) (a b : List Lexeme) (p : RunsIn Tree first_of rule action n j xs v a) (o : Reads Tree first_of rule action j xs w b). same_read Tree first_of ext_of rank rule action table n o.levels j xs v w a b p o.run in
            let at = λ (j : N) (xs : List Lexeme) (v : Tree j) (a b : List Lexeme) (p : RunsIn Tree first_of rule action n j xs v a) (t : Tall Tree first_of rule action (gaps j) j (H j) xs b). t.high n b v a (same_first_self b) (subst (λ l. RunsIn Tree first_of rule action n j l v a) t.split p) in (
              subst G (sym is) (grows x (high_run Tree first_of (RunsIn Tree first_of rule action n) (Reads Tree first_of rule action) (λ (j : N). Tall Tree first_of rule action (gaps j) j (H j)) H one (λ j xs v a b p t. (at j xs v a b p t).0) (rule k) (u ++ q) x z q d (again q e))),
              past_gap Tree first_of (RunsIn Tree first_of rule action n) (Reads Tree first_of rule action) (λ (j : N). Tall Tree first_of rule action (gaps j) j (H j)) (Derives Tree rule action) one (sound_read Tree first_of ext_of rank rule action table n) (λ j xs v a b p t. let g = (at j xs v a b p t).1 in omega arith) (rule k) (ends_so (rule k)) refl (u ++ q) x z q d (again q e),
            )

  -- behind a phrase that is too high
  pub tall_behind : (k : N) (G : Tree k → Type 0) (ts : List Lexeme) (v : Tree k) (r : List Lexeme) → Reads Tree first_of rule action k ts v r → G v → Tall Tree first_of rule action 0 k G ts r
  tall_behind k G ts v r p g =
      let s = sound_read Tree first_of ext_of rank rule action table p.levels k ts v r p.run in
      let t = stable_read Tree first_of ext_of rank rule action table p.levels k ts v r p.run in
      let same : t.0 ≡ s.0 = same_front t.0 s.0 r (sym t.1 ∙ s.1) in
      record {
        front = t.0;
        split = t.1;
        begun = ([], v, subst (λ l. Derives Tree rule action k l v) (sym (append-nil t.0 ∙ same)) s.2);
        high = λ n q w z e d.
            let one = same_read Tree first_of ext_of rank rule action table n p.levels k (t.0 ++ q) w v z q d (t.2 q e) in
            let l = ap length one.rest in
            (subst G (sym one.value) g, omega arith);
      }

  -- before a token with which every phrase is too high
  pub tall_before : (k : N) (G : Tree k → Type 0) (ts : List Lexeme) → ((n : ℕ) (q : List Lexeme) (v : Tree k) (z : List Lexeme) → SameFirst ts q → RunsIn Tree first_of rule action n k q v z → G v) → Tall Tree first_of rule action 0 k G ts ts
  tall_before k G ts all = record {
    front = [];
    split = refl;
    begun = sample Tree first_of ext_of rank rule action table k;
    high = λ n q v z e d.
        let s = sound_read Tree first_of ext_of rank rule action table n k q v z d in
        let l = sound_length (Derives Tree rule action k) q v z s in
        (all n q v z e d, omega arith);
  }
