-- Right sides without blocks and calls do what their core means.
use Rattle.std.proofs.Common.{◌≡◌, ℕ, zero, suc, ◌+◌, ◌≤◌, Bool, true, false, cond, eqb, List, [], ◌∷◌, ◌++◌, map, length, Result, Ok, Err, refl, ap, ◌∙◌, sym, subst, slice_index_or, arith, true≢false}
use Rattle.std.specs.Prelude.{if◌then◌else◌, ℤ}
use Rattle.std.proofs.lemmas.Bool.{eqb-true, eq-eqb}
use Rattle.sac_base.specs.declared.faults.FaultKind.{FaultKind}
use Rattle.sac_base.specs.declared.faults.FaultKind.TheVariants.{F7}
use Rattle.sac_base.specs.declared.site.Site.{Site}
use Rattle.sac_base.specs.declared.types.ArrayType.{ArrayType}
use Rattle.sac_base.specs.Arrays.{ArrayValue}
use Rattle.sac_base.specs.Operators.{unary, binary}
use Rattle.sac_base.specs.Outcomes.{at_site}
use Rattle.sac_base.specs.Parts.{literal, select, replace, reshape, dim, shape_vector}
use Rattle.sac_base.specs.Types.{has}
use Rattle.core_ir.specs.declared.tree.Var.{Var}
use Rattle.core_ir.specs.Terms.{PlainTerm}
use Rattle.core_ir.specs.Scopes.{AllIn, plain_uses}
use Rattle.core_ir.specs.Meaning.{Env, CallMeaning, one, checked, plain_value}
use Rattle.counted_code.specs.Terms.{PlainCode}
use Rattle.counted_code.specs.Values.{Buffer, no_buffer, Heap, Value, Done, give, go_on, then_go, pure_end, read, count_of, cells_of, is_small, place_value, place_as, take_buffer}
use Rattle.counted_code.specs.Machine.{Values, DoesCalls, one_value, reads, plain_does}
use Rattle.counted_code.specs.Counts.{Reordered, plain_hands, PlainGives}
use Rattle.counted_laws.specs.Simulation.{Owns, Shows, SameCells, Matches}
use Rattle.counted_laws.proofs.Held.{taken_balance, held_reordered}
use Rattle.counted_laws.proofs.Bound.{suc_same, shown_at}
use Rattle.counted_laws.proofs.Blocks.{RightMatches}

-- ---- one buffer more

not_equal : (m n : ℕ) → (m ≡ n → ⊥) → eqb m n ≡ false
not_equal m n other = go (eqb m n) refl
  where
    go : (same : Bool) → eqb m n ≡ same → same ≡ false
    go true p = elim (other (eqb-true m n p)) [ ]
    go false p = refl

equal_suc : (m n : ℕ) → eqb (suc m) (suc n) ≡ eqb m n
equal_suc m n = go (eqb m n) refl
  where
    go : (same : Bool) → eqb m n ≡ same → eqb (suc m) (suc n) ≡ same
    go true p = eq-eqb (suc m) (suc n) (ap suc (eqb-true m n p))
    go false p = not_equal (suc m) (suc n) (λ q. true≢false (sym (eq-eqb m n (suc_same q)) ∙ p))

appended : (bs : List Buffer) (x : Buffer) (c : ℕ) → slice_index_or (bs ++ x ∷ []) c no_buffer ≡ cond (eqb (length bs) c) x (slice_index_or bs c no_buffer)
appended [] x zero = refl
appended [] x (suc c) = ap (λ t. cond t x no_buffer) (sym (not_equal 0 (suc c) (λ p. omega (arith, p))))
appended (y ∷ bs) x zero = ap (λ t. cond t x y) (sym (not_equal (suc (length bs)) 0 (λ p. omega (arith, p))))
appended (y ∷ bs) x (suc c) = appended bs x c ∙ ap (λ t. cond t x (slice_index_or bs c no_buffer)) (sym (equal_suc (length bs) c))

beyond : (bs : List Buffer) → slice_index_or bs (length bs) no_buffer ≡ no_buffer
beyond [] = refl
beyond (y ∷ bs) = beyond bs

-- nobody has a reference to the next buffer
pub vacant_end : (h : Heap) (others : ℕ → ℕ) → Owns h [] others → others (length h.buffers) ≡ 0
vacant_end h others owns = let o = owns.0 (length h.buffers) in let z = ap (λ (x : Buffer). x.count) (beyond h.buffers) in omega (arith, o, z)

pub taken_cells : (h : Heap) (xs : List ℤ) → cells_of (take_buffer xs h) (length h.buffers) ≡ xs
taken_cells h xs =
    ap (λ (x : Buffer). x.cells) (appended h.buffers (record { count = 1; cells = xs }) (length h.buffers))
    ∙ ap (λ t. (cond t (record { count = 1; cells = xs }) (slice_index_or h.buffers (length h.buffers) no_buffer)).cells) (eq-eqb (length h.buffers) (length h.buffers) refl)

pub taken_owns : (h : Heap) (xs : List ℤ) (others : ℕ → ℕ) → Owns h [] others → (b : ℕ) → count_of (take_buffer xs h) b ≡ cond (eqb (length h.buffers) b) 1 0 + others b
taken_owns h xs others owns b = ap (λ (x : Buffer). x.count) (appended h.buffers (record { count = 1; cells = xs }) b) ∙ go (eqb (length h.buffers) b) refl
  where
    go : (same : Bool) → eqb (length h.buffers) b ≡ same → (cond same (record { count = 1; cells = xs }) (slice_index_or h.buffers b no_buffer)).count ≡ cond same 1 0 + others b
    go true p =
        let z = vacant_end h others owns in
        let q = ap others (eqb-true (length h.buffers) b p) in
        omega (arith, z, q)
    go false p = let o = owns.0 b in omega (arith, o)

pub taken_same : (h : Heap) (xs : List ℤ) (others : ℕ → ℕ) → Owns h [] others → SameCells others h (take_buffer xs h)
taken_same h xs others owns b le = ap (λ (x : Buffer). x.cells) (appended h.buffers (record { count = 1; cells = xs }) b) ∙ go (eqb (length h.buffers) b) refl
  where
    impossible : 1 ≤ 0 → ⊥
    impossible q = omega (arith, q)

    go : (same : Bool) → eqb (length h.buffers) b ≡ same → (cond same (record { count = 1; cells = xs }) (slice_index_or h.buffers b no_buffer)).cells ≡ cells_of h b
    go true p =
        let z = vacant_end h others owns in
        let q = ap others (eqb-true (length h.buffers) b p) in
        elim (impossible (omega (arith, z, q, le))) [ ]
    go false p = refl

-- ---- results that are placed

pub placed_as : (small : Bool) (h : Heap) (a : ArrayValue) (others : ℕ → ℕ) → Owns h [] others → Matches 1 others h (one_value (place_as small a) h) (Ok (a ∷ []))
placed_as true h a others owns = (refl, refl, ((λ b. (let o = owns.0 b in omega (arith, o))), owns.1), (λ b le. refl))
placed_as false h a others owns =
    (refl, (λ i. record { base = a.base; shape = a.shape; cells = taken_cells h a.cells i } ∷ []), ((λ b. (let o = taken_owns h a.cells others owns b in omega (arith, o))), taken_balance h a.cells owns.1), taken_same h a.cells others owns)

ended_matches : (h : Heap) (s : Site) (others : ℕ → ℕ) (r : Result ArrayValue FaultKind) → Owns h [] others → Matches 1 others h (one_value (then_go (pure_end (at_site s r)) place_value) h) (one (at_site s r))
ended_matches h s others (Ok a) owns = placed_as (is_small a.shape) h a others owns
ended_matches h s others (Err k) owns = refl

-- ---- right sides

-- a right side means the same where its variables do
reads_list : (h : Heap) (e : Values) (ρ : Env) (live xs : List Var) → Shows h e ρ live → AllIn xs live → map (reads h e) xs ≡ map ρ xs
reads_list h e ρ live [] shows all = refl
reads_list h e ρ live (x ∷ xs) shows all = λ i. shown_at h e ρ x live shows all.0 i ∷ reads_list h e ρ live xs shows all.1 i

plain_same : (h : Heap) (e : Values) (ρ : Env) (live : List Var) (p : PlainTerm) → Shows h e ρ live → AllIn (plain_uses p) live → plain_value p (reads h e) ≡ plain_value p ρ
plain_same h e ρ live (PlainTerm.Const a) s u = refl
plain_same h e ρ live (PlainTerm.Copy x) s u = λ i. Ok (shown_at h e ρ x live s u.0 i)
plain_same h e ρ live (PlainTerm.Unary op x) s u = λ i. Ok (unary op (shown_at h e ρ x live s u.0 i))
plain_same h e ρ live (PlainTerm.Binary op x y) s u = λ i. binary op (shown_at h e ρ x live s u.0 i) (shown_at h e ρ y live s u.1.0 i)
plain_same h e ρ live (PlainTerm.Literal xs) s u = λ i. literal (reads_list h e ρ live xs s u i)
plain_same h e ρ live (PlainTerm.Dim x) s u = λ i. Ok (dim (shown_at h e ρ x live s u.0 i))
plain_same h e ρ live (PlainTerm.ShapeOf x) s u = λ i. Ok (shape_vector (shown_at h e ρ x live s u.0 i))
plain_same h e ρ live (PlainTerm.Reshape x y) s u = λ i. reshape (shown_at h e ρ x live s u.0 i) (shown_at h e ρ y live s u.1.0 i)
plain_same h e ρ live (PlainTerm.Select x y) s u = λ i. select (shown_at h e ρ x live s u.0 i) (shown_at h e ρ y live s u.1.0 i)
plain_same h e ρ live (PlainTerm.Replace x y z) s u = λ i. replace (shown_at h e ρ x live s u.0 i) (shown_at h e ρ y live s u.1.0 i) (shown_at h e ρ z live s u.1.1.0 i)
plain_same h e ρ live (PlainTerm.Always k) s u = refl
plain_same h e ρ live (PlainTerm.Check x t) s u = λ i. checked t (shown_at h e ρ x live s u.0 i)

pub owns_none : (h : Heap) (e : Values) (others : ℕ → ℕ) (mine : List Var) → Owns h (map e mine) others → Reordered mine [] → Owns h [] others
owns_none h e others mine owns order = ((λ b. owns.0 b ∙ ap (λ m. m + others b) (held_reordered b e order)), owns.1)

owns_one : (h : Heap) (e : Values) (others : ℕ → ℕ) (mine : List Var) (x : Var) → Owns h (map e mine) others → Reordered mine (x ∷ []) → Owns h (e x ∷ []) others
owns_one h e others mine x owns order = ((λ b. owns.0 b ∙ ap (λ m. m + others b) (held_reordered b e order)), owns.1)

checked_as : (h : Heap) (s : Site) (others : ℕ → ℕ) (v : Value) (fits : Bool) → Owns h (v ∷ []) others → Matches 1 others h (one_value (then_go (pure_end (at_site s (if fits then Ok (read h v) else Err F7))) (λ a. give v)) h) (one (at_site s (if fits then Ok (read h v) else Err F7)))
checked_as h s others v true owns = (refl, refl, owns, (λ b le. refl))
checked_as h s others v false owns = refl

module _ (results_of : ℕ → ℕ) (does_calls : DoesCalls) (calls : CallMeaning) (turns : ℕ) where
  -- every other operator reads, and its result is placed
  module _ (p : PlainTerm) (reading : (s : Site) (e : Values) (h : Heap) → plain_does p s e h ≡ then_go (pure_end (at_site s (plain_value p (reads h e)))) place_value h) (hands : plain_hands p ≡ []) (gives : (n : ℕ) → PlainGives n p → 1 ≡ n) where
    reading_matches : RightMatches results_of does_calls calls turns (PlainCode p)
    reading_matches n outer mine after counted s h e ρ others ready =
        subst (λ m. Matches m others h (one_value (plain_does p s e) h) (one (at_site s (plain_value p ρ)))) (gives n counted.0)
        (subst (λ r. Matches 1 others h (one_value (plain_does p s e) h) (one (at_site s r))) (plain_same h e ρ (mine ++ (after ++ outer)) p ready.shows counted.2)
        (subst (λ m. Matches 1 others h (go_on m (λ v. give (v ∷ []))) (one (at_site s (plain_value p (reads h e))))) (sym (reading s e h))
        (ended_matches h s others (plain_value p (reads h e)) (owns_none h e others mine ready.owns (subst (Reordered mine) hands counted.1)))))

  copy_matches : (x : Var) → RightMatches results_of does_calls calls turns (PlainCode (PlainTerm.Copy x))
  copy_matches x n outer mine after counted s h e ρ others ready =
      subst (λ m. Matches m others h (Done (e x ∷ []) h) (Ok (ρ x ∷ []))) counted.0
      (refl, (λ i. shown_at h e ρ x (mine ++ (after ++ outer)) ready.shows counted.2.0 i ∷ []), owns_one h e others mine x ready.owns counted.1, (λ b le. refl))

  check_matches : (x : Var) (t : ArrayType) → RightMatches results_of does_calls calls turns (PlainCode (PlainTerm.Check x t))
  check_matches x t n outer mine after counted s h e ρ others ready =
      subst (λ m. Matches m others h (one_value (plain_does (PlainTerm.Check x t) s e) h) (one (at_site s (plain_value (PlainTerm.Check x t) ρ)))) counted.0
      (subst (λ r. Matches 1 others h (one_value (plain_does (PlainTerm.Check x t) s e) h) (one (at_site s r))) (plain_same h e ρ (mine ++ (after ++ outer)) (PlainTerm.Check x t) ready.shows counted.2)
      (checked_as h s others (e x) (has t (read h (e x))) (owns_one h e others mine x ready.owns counted.1)))

  always_matches : (k : FaultKind) → RightMatches results_of does_calls calls turns (PlainCode (PlainTerm.Always k))
  always_matches k n outer mine after counted s h e ρ others ready = refl

  pub plain_matches : (p : PlainTerm) → RightMatches results_of does_calls calls turns (PlainCode p)
  plain_matches (PlainTerm.Const a) = reading_matches (PlainTerm.Const a) (λ s e h. refl) refl (λ n g. g)
  plain_matches (PlainTerm.Unary op x) = reading_matches (PlainTerm.Unary op x) (λ s e h. refl) refl (λ n g. g)
  plain_matches (PlainTerm.Binary op x y) = reading_matches (PlainTerm.Binary op x y) (λ s e h. refl) refl (λ n g. g)
  plain_matches (PlainTerm.Literal xs) = reading_matches (PlainTerm.Literal xs) (λ s e h. refl) refl (λ n g. g)
  plain_matches (PlainTerm.Dim x) = reading_matches (PlainTerm.Dim x) (λ s e h. refl) refl (λ n g. g)
  plain_matches (PlainTerm.ShapeOf x) = reading_matches (PlainTerm.ShapeOf x) (λ s e h. refl) refl (λ n g. g)
  plain_matches (PlainTerm.Reshape x y) = reading_matches (PlainTerm.Reshape x y) (λ s e h. refl) refl (λ n g. g)
  plain_matches (PlainTerm.Select x y) = reading_matches (PlainTerm.Select x y) (λ s e h. refl) refl (λ n g. g)
  plain_matches (PlainTerm.Replace x y z) = reading_matches (PlainTerm.Replace x y z) (λ s e h. refl) refl (λ n g. g)
  plain_matches (PlainTerm.Always k) = always_matches k
  plain_matches (PlainTerm.Copy x) = copy_matches x
  plain_matches (PlainTerm.Check x t) = check_matches x t
