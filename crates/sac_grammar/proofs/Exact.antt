-- A predictive parser is exact: what it reads are the phrases, and where it gets stuck no phrase goes on.
use Rattle.std.proofs.Common.{ℕ, zero, suc, ◌≡◌, ◌<◌, Bool, true, false, not, List, [], ◌∷◌, ◌++◌, inl, inr, refl, sym, ap, ◌∙◌, subst, append-nil, arith, nat_lt, length, length-append}
use Rattle.std.specs.List.{list_any}
use Rattle.std.proofs.lemmas.Bool.Decides.{nat_tests}
use Rattle.sac_ast.specs.Texts.{Lexeme}
use Rattle.sac_ast.specs.Shape.{Terminal, text, name, number, end, matches, Shape, nothing, term, ref, seq, alt, many, Value, Matches, DerivesIn, Derives}
use Rattle.sac_grammar.specs.Run.{starts, is_nullable, first, Runs, RunsIn, SticksIn, Reads, Fails, SameFirst, same, extends, covers, is_below, IsPredictive}
use Rattle.sac_grammar.proofs.Machine.{false_true, and_left, and_right, or_cases, or_true_left, or_true_right, bytes_same, begins, begins_there, reads_shape, SameEnd, same_run, only_run, Stable, stable_map, stable_run, stable_stick, Sound, sound_run, sample_token, Begun, begun_stick}
use Rattle.sac_grammar.proofs.Levels.{derives_rule}

same_matches : (f g : Terminal) (x : Lexeme) → same f g ≡ true → matches f x ≡ true → matches g x ≡ true
same_matches (text a) (text b) x c m = subst (λ t. matches (text t) x ≡ true) (bytes_same a b c) m
same_matches (text a) name x c m = false_true c
same_matches (text a) number x c m = false_true c
same_matches (text a) end x c m = false_true c
same_matches name (text b) x c m = false_true c
same_matches name name x c m = m
same_matches name number x c m = false_true c
same_matches name end x c m = false_true c
same_matches number (text b) x c m = false_true c
same_matches number name x c m = false_true c
same_matches number number x c m = m
same_matches number end x c m = false_true c
same_matches end (text b) x c m = false_true c
same_matches end name x c m = false_true c
same_matches end number x c m = false_true c
same_matches end end x c m = m

in_list : (gs : List Terminal) (f : Terminal) (x : Lexeme) → list_any (same f) gs ≡ true → matches f x ≡ true → list_any (λ g. matches g x) gs ≡ true
in_list [] f x c m = false_true c
in_list (g ∷ gs) f x c m =
    elim (or_cases (same f g) _ c) [
      | inl here ↦ or_true_left (matches g x) _ (same_matches f g x here m)
      | inr later ↦ or_true_right (matches g x) _ (in_list gs f x later m)
    ]

covered : (fs gs : List Terminal) (ts : List Lexeme) → covers fs gs ≡ true → starts fs ts ≡ true → starts gs ts ≡ true
covered fs gs [] c s = false_true s
covered [] gs (x ∷ ts) c s = false_true s
covered (f ∷ fs) gs (x ∷ ts) c s =
    elim (or_cases (matches f x) _ s) [
      | inl here ↦ in_list gs f x (and_left (list_any (same f) gs) _ c) here
      | inr later ↦ covered fs gs (x ∷ ts) (and_right (list_any (same f) gs) _ c) later
    ]

covered_not : (fs gs : List Terminal) (ts : List Lexeme) → covers fs gs ≡ true → starts gs ts ≡ false → starts fs ts ≡ false
covered_not fs gs ts c s = go (starts fs ts) refl
  where
    go : (b : Bool) → starts fs ts ≡ b → starts fs ts ≡ false
    go true e = false_true (sym s ∙ covered fs gs ts c e)
    go false e = e

not_of_false : (b : Bool) → b ≡ false → not b ≡ true
not_of_false true e = cc
not_of_false false e = refl

lt_true : (a b : ℕ) → nat_lt a b ≡ true → a < b
lt_true a b e = grind (arith, nat_tests)

some_length : (ts : List Lexeme) (fs : List Terminal) → starts fs ts ≡ true → 0 < length ts
some_length [] fs s = false_true s
some_length (x ∷ ts) fs s = omega arith

-- the front before one rest is one
length_front : (u w r : List Lexeme) → u ++ r ≡ w ++ r → length u ≡ length w
length_front u w r e = let a = ap length e in let b = length-append u r in let c = length-append w r in omega arith

front_by_length : (u w r : List Lexeme) → length u ≡ length w → u ++ r ≡ w ++ r → u ≡ w
front_by_length [] [] r n e = refl
front_by_length [] (y ∷ w) r n e = absurd (omega arith)
front_by_length (x ∷ u) [] r n e = absurd (omega arith)
front_by_length (x ∷ u) (y ∷ w) r n e =
    let h : x ≡ y = cc in
    let t : u ++ r ≡ w ++ r = cc in
    λ i. h i ∷ front_by_length u w r (omega arith) t i

pub same_front : (u w r : List Lexeme) → u ++ r ≡ w ++ r → u ≡ w
same_front u w r e = front_by_length u w r (length_front u w r e) e

module _ {N : Type 0} (Tree : N → Type 0) (first_of ext_of : N → List Terminal) (rank : N → ℕ) (rule : N → Shape N) (action : (k : N) → Value Tree (rule k) → Tree k) (table : IsPredictive first_of ext_of rank rule) where
  pub derives_begins : (n : ℕ) (k : N) (ts : List Lexeme) (v : Tree k) → DerivesIn Tree rule action n k ts v → (z : List Lexeme) → starts (first_of k) (ts ++ z) ≡ true
  derives_begins zero k ts v d z = absurd d
  derives_begins (suc n) k ts v (x, e, d) z =
      covered (first first_of (rule k)) (first_of k) (ts ++ z) (table.firsts k) (begins_there (is_nullable (rule k)) (first first_of (rule k)) ts (not_of_false _ (table.some k)) (begins Tree first_of ext_of (DerivesIn Tree rule action n) (derives_begins n) (rule k) ts x d) z)

  -- a phrase is read, where no token follows that could extend it
  pub phrase_read : (n : ℕ) (k : N) (w : List Lexeme) (v : Tree k) (z : List Lexeme) → DerivesIn Tree rule action n k w v → starts (ext_of k) z ≡ false → RunsIn Tree first_of rule action n k (w ++ z) v z
  phrase_read zero k w v z d follow = absurd d
  phrase_read (suc n) k w v z (x, e, d) follow =
      (x, e, reads_shape Tree first_of ext_of (DerivesIn Tree rule action n) (RunsIn Tree first_of rule action n) (derives_begins n) (phrase_read n) (rule k) (table.choices k) w x z d (covered_not (extends first_of ext_of (rule k)) (ext_of k) z (table.extensions k) follow))

  pub same_read : (n m : ℕ) (k : N) (ts : List Lexeme) (v w : Tree k) (r q : List Lexeme) → RunsIn Tree first_of rule action n k ts v r → RunsIn Tree first_of rule action m k ts w q → SameEnd v w r q
  same_read zero m k ts v w r q p o = absurd p
  same_read (suc n) zero k ts v w r q p o = absurd o
  same_read (suc n) (suc m) k ts v w r q (x, e, p) (y, f, o) =
      let s = same_run Tree first_of (RunsIn Tree first_of rule action n) (RunsIn Tree first_of rule action m) (same_read n m) (rule k) ts x y r q p o in
      record { value = e ∙ ap (action k) s.value ∙ sym f; rest = s.rest }

  pub only_read : (n m : ℕ) (k : N) (ts : List Lexeme) (v : Tree k) (r q : List Lexeme) → RunsIn Tree first_of rule action n k ts v r → SticksIn Tree first_of rule action m k ts q → ⊥
  only_read zero m k ts v r q p o = p
  only_read (suc n) zero k ts v r q p o = o
  only_read (suc n) (suc m) k ts v r q (x, e, p) o =
      only_run Tree first_of (RunsIn Tree first_of rule action n) (RunsIn Tree first_of rule action m) (SticksIn Tree first_of rule action m) (same_read n m) (only_read n m) (rule k) ts x r q p o

  pub stable_read : (n : ℕ) (k : N) (ts : List Lexeme) (v : Tree k) (r : List Lexeme) → RunsIn Tree first_of rule action n k ts v r → Stable (λ xs ys. RunsIn Tree first_of rule action n k xs v ys) ts r
  stable_read zero k ts v r p = absurd p
  stable_read (suc n) k ts v r (x, e, p) =
      stable_map (λ xs ys. Runs Tree first_of (RunsIn Tree first_of rule action n) (rule k) xs x ys) (λ xs ys. RunsIn Tree first_of rule action (suc n) k xs v ys) ts r (λ xs ys h. (x, e, h))
      (stable_run Tree first_of (RunsIn Tree first_of rule action n) (RunsIn Tree first_of rule action n) (stable_read n) (rule k) ts x r p)

  stable_fail : (n : ℕ) (k : N) (ts r : List Lexeme) → SticksIn Tree first_of rule action n k ts r → Stable (SticksIn Tree first_of rule action n k) ts r
  stable_fail zero k ts r p = absurd p
  stable_fail (suc n) k ts r p =
      stable_stick Tree first_of (RunsIn Tree first_of rule action n) (RunsIn Tree first_of rule action n) (SticksIn Tree first_of rule action n) (SticksIn Tree first_of rule action n) (stable_read n) (stable_fail n) (rule k) ts r p

  pub sound_read : (n : ℕ) (k : N) (ts : List Lexeme) (v : Tree k) (r : List Lexeme) → RunsIn Tree first_of rule action n k ts v r → Sound (Derives Tree rule action k) ts v r
  sound_read zero k ts v r p = absurd p
  sound_read (suc n) k ts v r (x, e, p) =
      let s = sound_run Tree first_of (RunsIn Tree first_of rule action n) (Derives Tree rule action) (sound_read n) (rule k) ts x r p in
      (s.0, s.1, subst (Derives Tree rule action k s.0) (sym e) (derives_rule Tree first_of rule action k s.0 x s.2))

  sample_below : (m : ℕ) → ((j : N) → rank j < m → (w : List Lexeme) × (v : Tree j) × Derives Tree rule action j w v) → (s : Shape N) → is_below rank m s ≡ true → (w : List Lexeme) × (v : Value Tree s) × Matches Tree (Derives Tree rule action) s w v
  sample_below m H nothing b = ([], tt, refl)
  sample_below m H (term t) b = let x = sample_token t in (x.0 ∷ [], x.0, (refl, x.1))
  sample_below m H (ref k) b = H k (lt_true (rank k) m b)
  sample_below m H (seq c d) b =
      let x = sample_below m H c (and_left _ (is_below rank m d) b) in
      let y = sample_below m H d (and_right (is_below rank m c) _ b) in
      (x.0 ++ y.0, (x.1, y.1), (x.0, y.0, refl, x.2, y.2))
  sample_below m H (alt c d) b =
      elim (or_cases (is_below rank m c) _ b) [
        | inl h ↦ let x = sample_below m H c h in (x.0, inl x.1, x.2)
        | inr h ↦ let x = sample_below m H d h in (x.0, inr x.1, x.2)
      ]
  sample_below m H (many c) b = ([], [], refl)

  sample_rank : (m : ℕ) (k : N) → rank k < m → (w : List Lexeme) × (v : Tree k) × Derives Tree rule action k w v
  sample_rank zero k le = absurd (omega arith)
  sample_rank (suc m) k le =
      let x = sample_below (rank k) (λ j lt. sample_rank m j (omega arith)) (rule k) (table.ranks k) in
      (x.0, action k x.1, derives_rule Tree first_of rule action k x.0 x.1 x.2)

  pub sample : (k : N) → (w : List Lexeme) × (v : Tree k) × Derives Tree rule action k w v
  sample k = sample_rank (suc (rank k)) k (omega arith)

  begun_fail : (n : ℕ) (k : N) (ts r : List Lexeme) → SticksIn Tree first_of rule action n k ts r → Begun (Derives Tree rule action k) ts r
  begun_fail zero k ts r p = absurd p
  begun_fail (suc n) k ts r p =
      let b = begun_stick Tree first_of (RunsIn Tree first_of rule action n) (SticksIn Tree first_of rule action n) (Derives Tree rule action) (sound_read n) (begun_fail n) sample (rule k) ts r p in
      (b.0, b.1, (b.2.0, action k b.2.1, derives_rule Tree first_of rule action k (b.0 ++ b.2.0) b.2.1 b.2.2))

  -- ---- the theorems

  -- tokens have at most one tree
  pub one_tree : (k : N) (ts : List Lexeme) (v w : Tree k) → Derives Tree rule action k ts v → Derives Tree rule action k ts w → v ≡ w
  one_tree k ts v w p o = (same_read p.0 o.0 k (ts ++ []) v w [] [] (phrase_read p.0 k ts v [] p.1 refl) (phrase_read o.0 k ts w [] o.1 refl)).value

  -- what was read to the end is the tree
  pub read_whole : (k : N) (ts : List Lexeme) (v : Tree k) → Reads Tree first_of rule action k ts v [] → Derives Tree rule action k ts v
  read_whole k ts v p = let s = sound_read p.levels k ts v [] p.run in subst (λ l. Derives Tree rule action k l v) (sym (s.1 ∙ append-nil s.0)) s.2

  -- where the parser is stuck at a token, the tokens before it begin a phrase, and no phrase begins with them and that token
  pub stuck_at : (k : N) (ts r : List Lexeme) → Fails Tree first_of rule action k ts r → (u : List Lexeme) × (ts ≡ u ++ r) × ((w : List Lexeme) × (v : Tree k) × Derives Tree rule action k (u ++ w) v) × ((x : Lexeme) (xs ys : List Lexeme) (v : Tree k) → r ≡ x ∷ xs → Derives Tree rule action k (u ++ (x ∷ ys)) v → ⊥)
  stuck_at k ts r p =
      let b = begun_fail p.levels k ts r p.run in
      let s = stable_fail p.levels k ts r p.run in
      let same : s.0 ≡ b.0 = same_front s.0 b.0 r (sym s.1 ∙ b.1) in (
        b.0,
        b.1,
        b.2,
        λ x xs ys v e d.
            let again = s.2 (x ∷ ys) (subst (λ l. SameFirst l (x ∷ ys)) (sym e) refl) in
            let whole : RunsIn Tree first_of rule action d.0 k ((b.0 ++ (x ∷ ys)) ++ []) v [] = phrase_read d.0 k (b.0 ++ (x ∷ ys)) v [] d.1 refl in
            only_read d.0 p.levels k (b.0 ++ (x ∷ ys)) v [] (x ∷ ys) (subst (λ l. RunsIn Tree first_of rule action d.0 k l v []) (append-nil (b.0 ++ (x ∷ ys))) whole) (subst (λ l. SticksIn Tree first_of rule action p.levels k (l ++ (x ∷ ys)) (x ∷ ys)) same again),
      )

  -- a phrase has at least one token
  pub reads_shorter : (k : N) (ts : List Lexeme) (v : Tree k) (r : List Lexeme) → Reads Tree first_of rule action k ts v r → length r < length ts
  reads_shorter k ts v r p =
      let s = sound_read p.levels k ts v r p.run in
      let b = derives_begins s.2.0 k s.0 v s.2.1 [] in
      let n : 0 < length s.0 = some_length s.0 (first_of k) (subst (λ l. starts (first_of k) l ≡ true) (append-nil s.0) b) in
      let e = ap length s.1 in
      let a = length-append s.0 r in
      omega arith
