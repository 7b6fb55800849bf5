-- From right sides to nonterminals: derivations and runs of finitely many levels.
use Rattle.std.proofs.Common.{ℕ, zero, suc, ◌+◌, ◌≤◌, List, [], ◌∷◌, inl, inr, refl, arith}
use Rattle.sac_ast.specs.Texts.{Lexeme}
use Rattle.sac_ast.specs.Shape.{Terminal, Shape, nothing, term, ref, seq, alt, many, Value, MatchesEach, Matches, DerivesIn, Derives}
use Rattle.sac_grammar.specs.Run.{first, RunsEach, SticksAfter, Runs, Sticks, RunsIn, SticksIn, Reads, Fails}

-- ---- a relation that holds in more cases

each_map : {V : Type 0} (P Q : List Lexeme → V → Type 0) → ((ts : List Lexeme) (v : V) → P ts v → Q ts v) → (ts : List Lexeme) (vs : List V) → MatchesEach P ts vs → MatchesEach Q ts vs
each_map P Q f ts [] m = m
each_map P Q f ts (v ∷ vs) (u, w, e, p, q) = (u, w, e, f u v p, each_map P Q f w vs q)

runs_each_map : {V : Type 0} (fs : List Terminal) (P Q : List Lexeme → V → List Lexeme → Type 0) → ((ts : List Lexeme) (v : V) (r : List Lexeme) → P ts v r → Q ts v r) → (ts : List Lexeme) (vs : List V) (r : List Lexeme) → RunsEach fs P ts vs r → RunsEach fs Q ts vs r
runs_each_map fs P Q f ts [] r m = m
runs_each_map fs P Q f ts (v ∷ vs) r (s, (m, p, q)) = (s, (m, f ts v m p, runs_each_map fs P Q f m vs r q))

after_map : {V : Type 0} (fs : List Terminal) (P Q : List Lexeme → V → List Lexeme → Type 0) (S T : List Lexeme → List Lexeme → Type 0) → ((ts : List Lexeme) (v : V) (r : List Lexeme) → P ts v r → Q ts v r) → ((ts r : List Lexeme) → S ts r → T ts r) → (ts : List Lexeme) (vs : List V) (r : List Lexeme) → SticksAfter fs P S ts vs r → SticksAfter fs Q T ts vs r
after_map fs P Q S T f g ts [] r (s, p) = (s, g ts r p)
after_map fs P Q S T f g ts (v ∷ vs) r (s, (m, p, q)) = (s, (m, f ts v m p, after_map fs P Q S T f g m vs r q))

module _ {N : Type 0} (Tree : N → Type 0) (first_of : N → List Terminal) where
  match_map : (P Q : (k : N) → List Lexeme → Tree k → Type 0) → ((k : N) (ts : List Lexeme) (v : Tree k) → P k ts v → Q k ts v) → (s : Shape N) (ts : List Lexeme) (v : Value Tree s) → Matches Tree P s ts v → Matches Tree Q s ts v
  match_map P Q f nothing ts v m = m
  match_map P Q f (term t) ts v m = m
  match_map P Q f (ref k) ts v m = f k ts v m
  match_map P Q f (seq a b) ts v (u, w, e, p, q) = (u, w, e, match_map P Q f a u v.0 p, match_map P Q f b w v.1 q)
  match_map P Q f (alt a b) ts (inl v) m = match_map P Q f a ts v m
  match_map P Q f (alt a b) ts (inr v) m = match_map P Q f b ts v m
  match_map P Q f (many a) ts vs m = each_map (Matches Tree P a) (Matches Tree Q a) (match_map P Q f a) ts vs m

  run_map : (P Q : (k : N) → List Lexeme → Tree k → List Lexeme → Type 0) → ((k : N) (ts : List Lexeme) (v : Tree k) (r : List Lexeme) → P k ts v r → Q k ts v r) → (s : Shape N) (ts : List Lexeme) (v : Value Tree s) (r : List Lexeme) → Runs Tree first_of P s ts v r → Runs Tree first_of Q s ts v r
  run_map P Q f nothing ts v r m = m
  run_map P Q f (term t) ts v r m = m
  run_map P Q f (ref k) ts v r m = f k ts v r m
  run_map P Q f (seq a b) ts v r (m, p, q) = (m, run_map P Q f a ts v.0 m p, run_map P Q f b m v.1 r q)
  run_map P Q f (alt a b) ts (inl v) r m = (m.0, run_map P Q f a ts v r m.1)
  run_map P Q f (alt a b) ts (inr v) r m = (m.0, run_map P Q f b ts v r m.1)
  run_map P Q f (many a) ts vs r m = runs_each_map (first first_of a) (Runs Tree first_of P a) (Runs Tree first_of Q a) (run_map P Q f a) ts vs r m

  stick_map : (P Q : (k : N) → List Lexeme → Tree k → List Lexeme → Type 0) (S T : (k : N) → List Lexeme → List Lexeme → Type 0) → ((k : N) (ts : List Lexeme) (v : Tree k) (r : List Lexeme) → P k ts v r → Q k ts v r) → ((k : N) (ts r : List Lexeme) → S k ts r → T k ts r) → (s : Shape N) (ts r : List Lexeme) → Sticks Tree first_of P S s ts r → Sticks Tree first_of Q T s ts r
  stick_map P Q S T f g nothing ts r m = m
  stick_map P Q S T f g (term t) ts r m = m
  stick_map P Q S T f g (ref k) ts r m = g k ts r m
  stick_map P Q S T f g (seq a b) ts r (inl m) = inl (stick_map P Q S T f g a ts r m)
  stick_map P Q S T f g (seq a b) ts r (inr m) = inr (m.0, m.1, run_map P Q f a ts m.0 m.1 m.2, stick_map P Q S T f g b m.1 r m.3)
  stick_map P Q S T f g (alt a b) ts r (inl m) = inl (m.0, stick_map P Q S T f g a ts r m.1)
  stick_map P Q S T f g (alt a b) ts r (inr m) = inr (m.0, stick_map P Q S T f g b ts r m.1)
  stick_map P Q S T f g (many a) ts r m = (m.0, after_map (first first_of a) (Runs Tree first_of P a) (Runs Tree first_of Q a) (Sticks Tree first_of P S a) (Sticks Tree first_of Q T a) (run_map P Q f a) (stick_map P Q S T f g a) ts m.0 r m.1)

module _ {N : Type 0} (Tree : N → Type 0) (first_of : N → List Terminal) (rule : N → Shape N) (action : (k : N) → Value Tree (rule k) → Tree k) where
  pub more_levels : (n m : ℕ) → n ≤ m → (k : N) (ts : List Lexeme) (v : Tree k) → DerivesIn Tree rule action n k ts v → DerivesIn Tree rule action m k ts v
  more_levels zero m le k ts v d = absurd d
  more_levels (suc n) zero le k ts v d = absurd (omega arith)
  more_levels (suc n) (suc m) le k ts v (x, e, d) = (x, e, match_map Tree first_of (DerivesIn Tree rule action n) (DerivesIn Tree rule action m) (more_levels n m (omega arith)) (rule k) ts x d)

  more_run : (n m : ℕ) → n ≤ m → (k : N) (ts : List Lexeme) (v : Tree k) (r : List Lexeme) → RunsIn Tree first_of rule action n k ts v r → RunsIn Tree first_of rule action m k ts v r
  more_run zero m le k ts v r d = absurd d
  more_run (suc n) zero le k ts v r d = absurd (omega arith)
  more_run (suc n) (suc m) le k ts v r (x, e, d) = (x, e, run_map Tree first_of (RunsIn Tree first_of rule action n) (RunsIn Tree first_of rule action m) (more_run n m (omega arith)) (rule k) ts x r d)

  more_stick : (n m : ℕ) → n ≤ m → (k : N) (ts r : List Lexeme) → SticksIn Tree first_of rule action n k ts r → SticksIn Tree first_of rule action m k ts r
  more_stick zero m le k ts r d = absurd d
  more_stick (suc n) zero le k ts r d = absurd (omega arith)
  more_stick (suc n) (suc m) le k ts r d = stick_map Tree first_of (RunsIn Tree first_of rule action n) (RunsIn Tree first_of rule action m) (SticksIn Tree first_of rule action n) (SticksIn Tree first_of rule action m) (more_run n m (omega arith)) (more_stick n m (omega arith)) (rule k) ts r d

  -- finitely many parts have a common number of levels
  bounded_each : {V : Type 0} (P : ℕ → List Lexeme → V → Type 0) → ((n m : ℕ) → n ≤ m → (ts : List Lexeme) (v : V) → P n ts v → P m ts v) → (ts : List Lexeme) (vs : List V) → MatchesEach (λ l v. (n : ℕ) × P n l v) ts vs → (n : ℕ) × MatchesEach (P n) ts vs
  bounded_each P more ts [] m = (0, m)
  bounded_each P more ts (v ∷ vs) (u, w, e, p, q) =
      let g = bounded_each P more w vs q in
      (p.0 + g.0, (u, w, e, more p.0 (p.0 + g.0) (omega arith) u v p.1, each_map (P g.0) (P (p.0 + g.0)) (more g.0 (p.0 + g.0) (omega arith)) w vs g.1))

  bounded : (s : Shape N) (ts : List Lexeme) (v : Value Tree s) → Matches Tree (Derives Tree rule action) s ts v → (n : ℕ) × Matches Tree (DerivesIn Tree rule action n) s ts v
  bounded nothing ts v m = (0, m)
  bounded (term t) ts v m = (0, m)
  bounded (ref k) ts v m = m
  bounded (seq a b) ts v (u, w, e, p, q) =
      let x = bounded a u v.0 p in
      let y = bounded b w v.1 q in
      (x.0 + y.0, (u, w, e, match_map Tree first_of (DerivesIn Tree rule action x.0) (DerivesIn Tree rule action (x.0 + y.0)) (more_levels x.0 (x.0 + y.0) (omega arith)) a u v.0 x.1, match_map Tree first_of (DerivesIn Tree rule action y.0) (DerivesIn Tree rule action (x.0 + y.0)) (more_levels y.0 (x.0 + y.0) (omega arith)) b w v.1 y.1))
  bounded (alt a b) ts (inl v) m = bounded a ts v m
  bounded (alt a b) ts (inr v) m = bounded b ts v m
  bounded (many a) ts vs m =
      bounded_each (λ n. Matches Tree (DerivesIn Tree rule action n) a) (λ n m le t x. match_map Tree first_of (DerivesIn Tree rule action n) (DerivesIn Tree rule action m) (more_levels n m le) a t x) ts vs (each_map (Matches Tree (Derives Tree rule action) a) (λ l v. (n : ℕ) × Matches Tree (DerivesIn Tree rule action n) a l v) (bounded a) ts vs m)

  -- a phrase of the right side is one of the nonterminal
  pub derives_rule : (k : N) (ts : List Lexeme) (v : Value Tree (rule k)) → Matches Tree (Derives Tree rule action) (rule k) ts v → Derives Tree rule action k ts (action k v)
  derives_rule k ts v m = let b = bounded (rule k) ts v m in (suc b.0, (v, refl, b.1))

  bounded_runs_each : {V : Type 0} (fs : List Terminal) (P : ℕ → List Lexeme → V → List Lexeme → Type 0) → ((n m : ℕ) → n ≤ m → (ts : List Lexeme) (v : V) (r : List Lexeme) → P n ts v r → P m ts v r) → (ts : List Lexeme) (vs : List V) (r : List Lexeme) → RunsEach fs (λ l v q. (n : ℕ) × P n l v q) ts vs r → (n : ℕ) × RunsEach fs (P n) ts vs r
  bounded_runs_each fs P more ts [] r m = (0, m)
  bounded_runs_each fs P more ts (v ∷ vs) r (s, (mid, p, q)) =
      let g = bounded_runs_each fs P more mid vs r q in
      (p.0 + g.0, (s, (mid, more p.0 (p.0 + g.0) (omega arith) ts v mid p.1, runs_each_map fs (P g.0) (P (p.0 + g.0)) (more g.0 (p.0 + g.0) (omega arith)) mid vs r g.1)))

  bounded_run : (s : Shape N) (ts : List Lexeme) (v : Value Tree s) (r : List Lexeme) → Runs Tree first_of (Reads Tree first_of rule action) s ts v r → (n : ℕ) × Runs Tree first_of (RunsIn Tree first_of rule action n) s ts v r
  bounded_run nothing ts v r m = (0, m)
  bounded_run (term t) ts v r m = (0, m)
  bounded_run (ref k) ts v r m = (m.levels, m.run)
  bounded_run (seq a b) ts v r (mid, p, q) =
      let x = bounded_run a ts v.0 mid p in
      let y = bounded_run b mid v.1 r q in
      (x.0 + y.0, (mid, run_map Tree first_of (RunsIn Tree first_of rule action x.0) (RunsIn Tree first_of rule action (x.0 + y.0)) (more_run x.0 (x.0 + y.0) (omega arith)) a ts v.0 mid x.1, run_map Tree first_of (RunsIn Tree first_of rule action y.0) (RunsIn Tree first_of rule action (x.0 + y.0)) (more_run y.0 (x.0 + y.0) (omega arith)) b mid v.1 r y.1))
  bounded_run (alt a b) ts (inl v) r m = let x = bounded_run a ts v r m.1 in (x.0, (m.0, x.1))
  bounded_run (alt a b) ts (inr v) r m = let x = bounded_run b ts v r m.1 in (x.0, (m.0, x.1))
  bounded_run (many a) ts vs r m =
      bounded_runs_each (first first_of a) (λ n. Runs Tree first_of (RunsIn Tree first_of rule action n) a) (λ n m le t x q. run_map Tree first_of (RunsIn Tree first_of rule action n) (RunsIn Tree first_of rule action m) (more_run n m le) a t x q) ts vs r (runs_each_map (first first_of a) (Runs Tree first_of (Reads Tree first_of rule action) a) (λ l v q. (n : ℕ) × Runs Tree first_of (RunsIn Tree first_of rule action n) a l v q) (bounded_run a) ts vs r m)

  -- reading the right side is reading the nonterminal
  pub reads_rule : (k : N) (ts : List Lexeme) (v : Value Tree (rule k)) (r : List Lexeme) → Runs Tree first_of (Reads Tree first_of rule action) (rule k) ts v r → Reads Tree first_of rule action k ts (action k v) r
  reads_rule k ts v r m = let b = bounded_run (rule k) ts v r m in record { levels = suc b.0; run = (v, refl, b.1) }

  bounded_after : {V : Type 0} (fs : List Terminal) (P : ℕ → List Lexeme → V → List Lexeme → Type 0) (S : ℕ → List Lexeme → List Lexeme → Type 0) → ((n m : ℕ) → n ≤ m → (ts : List Lexeme) (v : V) (r : List Lexeme) → P n ts v r → P m ts v r) → ((n m : ℕ) → n ≤ m → (ts r : List Lexeme) → S n ts r → S m ts r) → (ts : List Lexeme) (vs : List V) (r : List Lexeme) → SticksAfter fs (λ l v q. (n : ℕ) × P n l v q) (λ l q. (n : ℕ) × S n l q) ts vs r → (n : ℕ) × SticksAfter fs (P n) (S n) ts vs r
  bounded_after fs P S more less ts [] r m = (m.1.0, (m.0, m.1.1))
  bounded_after fs P S more less ts (v ∷ vs) r (s, (mid, p, q)) =
      let g = bounded_after fs P S more less mid vs r q in
      (p.0 + g.0, (s, (mid, more p.0 (p.0 + g.0) (omega arith) ts v mid p.1, after_map fs (P g.0) (P (p.0 + g.0)) (S g.0) (S (p.0 + g.0)) (more g.0 (p.0 + g.0) (omega arith)) (less g.0 (p.0 + g.0) (omega arith)) mid vs r g.1)))

  bounded_stick : (s : Shape N) (ts r : List Lexeme) → Sticks Tree first_of (Reads Tree first_of rule action) (Fails Tree first_of rule action) s ts r → (n : ℕ) × Sticks Tree first_of (RunsIn Tree first_of rule action n) (SticksIn Tree first_of rule action n) s ts r
  bounded_stick nothing ts r m = absurd m
  bounded_stick (term t) ts r m = (0, m)
  bounded_stick (ref k) ts r m = (m.levels, m.run)
  bounded_stick (seq a b) ts r (inl m) = let x = bounded_stick a ts r m in (x.0, inl x.1)
  bounded_stick (seq a b) ts r (inr m) =
      let x = bounded_run a ts m.0 m.1 m.2 in
      let y = bounded_stick b m.1 r m.3 in
      (x.0 + y.0, inr (m.0, m.1, run_map Tree first_of (RunsIn Tree first_of rule action x.0) (RunsIn Tree first_of rule action (x.0 + y.0)) (more_run x.0 (x.0 + y.0) (omega arith)) a ts m.0 m.1 x.1, stick_map Tree first_of (RunsIn Tree first_of rule action y.0) (RunsIn Tree first_of rule action (x.0 + y.0)) (SticksIn Tree first_of rule action y.0) (SticksIn Tree first_of rule action (x.0 + y.0)) (more_run y.0 (x.0 + y.0) (omega arith)) (more_stick y.0 (x.0 + y.0) (omega arith)) b m.1 r y.1))
  bounded_stick (alt a b) ts r (inl m) = let x = bounded_stick a ts r m.1 in (x.0, inl (m.0, x.1))
  bounded_stick (alt a b) ts r (inr m) = let x = bounded_stick b ts r m.1 in (x.0, inr (m.0, x.1))
  bounded_stick (many a) ts r m =
      let x = bounded_after (first first_of a) (λ n. Runs Tree first_of (RunsIn Tree first_of rule action n) a) (λ n. Sticks Tree first_of (RunsIn Tree first_of rule action n) (SticksIn Tree first_of rule action n) a) (λ n m le t x q. run_map Tree first_of (RunsIn Tree first_of rule action n) (RunsIn Tree first_of rule action m) (more_run n m le) a t x q) (λ n m le t q. stick_map Tree first_of (RunsIn Tree first_of rule action n) (RunsIn Tree first_of rule action m) (SticksIn Tree first_of rule action n) (SticksIn Tree first_of rule action m) (more_run n m le) (more_stick n m le) a t q) ts m.0 r (after_map (first first_of a) (Runs Tree first_of (Reads Tree first_of rule action) a) (λ l v q. (n : ℕ) × Runs Tree first_of (RunsIn Tree first_of rule action n) a l v q) (Sticks Tree first_of (Reads Tree first_of rule action) (Fails Tree first_of rule action) a) (λ l q. (n : ℕ) × Sticks Tree first_of (RunsIn Tree first_of rule action n) (SticksIn Tree first_of rule action n) a l q) (bounded_run a) (bounded_stick a) ts m.0 r m.1) in
      (x.0, (m.0, x.1))

  pub fails_rule : (k : N) (ts r : List Lexeme) → Sticks Tree first_of (Reads Tree first_of rule action) (Fails Tree first_of rule action) (rule k) ts r → Fails Tree first_of rule action k ts r
  fails_rule k ts r m = let b = bounded_stick (rule k) ts r m in record { levels = suc b.0; run = b.1 }
