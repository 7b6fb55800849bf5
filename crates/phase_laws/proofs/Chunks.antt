-- Cells that stand alone, in another heap, one after another and in chunks.
use Rattle.std.proofs.Common.{◌≡◌, ℕ, ◌+◌, List, [], ◌∷◌, ◌++◌, map, length, ℤ, Option, Ok, Err, refl, ap, ◌∙◌, sym, subst, arith}
use Rattle.std.specs.Prelude.{flat_map, take, drop}
use Rattle.std.proofs.lemmas.List.{append_assoc, append-nil, map-append, length-append, take-append-drop}
use Rattle.sac_base.specs.declared.form.Form.{Form}
use Rattle.sac_base.specs.Arrays.{ArrayValue}
use Rattle.sac_base.specs.Operators.{all_of, with_first}
use Rattle.sac_base.specs.Outcomes.{Ends, and_then}
use Rattle.sac_base.specs.WithLoops.{each}
use Rattle.counted_code.specs.Loops.{Source, Writing, Target, cell_does, cells_do, write_cell}
use Rattle.counted_code.specs.Values.{Buffer, Heap, Ended, Done, Failed, buffer_at}
use Rattle.counted_laws.specs.Simulation.{Balanced, Owns}
use Rattle.phase_laws.specs.Alone.{Leaves, StandAlone, Alike, told, IsNew}
use Rattle.phase_laws.specs.Chunks.{pieces, Ran, Found, Stopped, ran, beside, chunks_run, absorbed, chunks_do, RanAs}
use Rattle.phase_laws.specs.Numbers.{afresh, with_more, ends_with_more, SourceIsBlind}
use Rattle.phase_laws.specs.Spending.{total}
use Rattle.phase_laws.proofs.Blind.{cells_blind}
use Rattle.phase_laws.proofs.Cells.{cells_leave}

-- ---- another heap

both_leave : {A : Type 0} (holding : ℕ → ℕ) (n : ℕ) (h k : Heap) (m r : Ended A) (c : Ends A) → Leaves holding n h m c → Leaves holding n k r c → Alike holding h k m r
both_leave holding n h k (Done a h') (Done b k') (Ok c) p q = (p.0 ∙ sym q.0, n, p.1, q.1)
both_leave holding n h k (Failed f ps) (Failed g qs) (Err c) p q = p.0 ∙ sym q.0
both_leave holding n h k (Done a h') r (Err c) p q = elim p [ ]
both_leave holding n h k (Failed f ps) r (Ok c) p q = elim p [ ]
both_leave holding n h k (Done a h') (Failed g qs) (Ok c) p q = elim q [ ]
both_leave holding n h k (Failed f ps) (Done b k') (Err c) p q = elim q [ ]

module _ (holding : ℕ → ℕ) (h : Heap) (form : Form) (source : List ℤ → Option Source) (cell : List ℤ → Ends (Option ArrayValue)) (takes : List ℤ → ℕ) (alone : StandAlone holding h form source cell takes) (owns : Owns h [] holding) where
  pub elsewhere : (k : Heap) → Balanced k → ((b : ℕ) → buffer_at k b ≡ buffer_at h b) → (v : List ℤ) → Alike holding h k (cell_does form (source v) h) (cell_does form (source v) k)
  elsewhere k balance same v =
      both_leave holding (takes v) h k (cell_does form (source v) h) (cell_does form (source v) k) (cell v) (alone v h owns (λ b le. refl))
      (alone v k ((λ b. ap (λ (x : Buffer). x.count) (same b) ∙ owns.0 b), balance) (λ b le. ap (λ (x : Buffer). x.cells) (same b)))

  -- ---- one after another

  told_as : {A : Type 0} (n : ℕ) (k : Heap) (m : Ended A) (c : Ends A) → Leaves holding n k m c → told m ≡ c
  told_as n k (Done a l) (Ok c) p = ap Ok p.0
  told_as n k (Failed f ps) (Err g) p = ap Err p.0
  told_as n k (Done a l) (Err g) p = elim p [ ]
  told_as n k (Failed f ps) (Ok c) p = elim p [ ]

  cells_told : (vs : List (List ℤ)) → map cell vs ≡ map (λ v. told (cell_does form (source v) h)) vs
  cells_told [] = refl
  cells_told (v ∷ vs) = λ i. sym (told_as (takes v) h (cell_does form (source v) h) (cell v) (alone v h owns (λ b le. refl))) i ∷ cells_told vs i

  pub each_told : (t : Target) → IsNew t → (place : ℕ) (vs : List (List ℤ)) → told (cells_do form source (write_cell t) place vs h) ≡ each (λ v. told (cell_does form (source v) h)) vs
  each_told t new place vs =
      told_as (total takes vs) h (cells_do form source (write_cell t) place vs h) (each cell vs) (cells_leave holding h form source cell takes alone t new place vs h owns (λ b le. refl))
      ∙ ap all_of (cells_told vs)

-- ---- chunks

total_append : {A : Type 0} (amount : A → ℕ) (xs ys : List A) → total amount (xs ++ ys) ≡ total amount xs + total amount ys
total_append amount [] ys = omega arith
total_append amount (x ∷ xs) ys = let rest = total_append amount xs ys in omega (arith, rest)

abbrev joined : {A : Type 0} → Ends (List A) → Ends (List A) → Ends (List A)
joined r s = and_then r (λ xs. and_then s (λ ys. Ok (xs ++ ys)))

with_joined : {A : Type 0} (x : A) (r s : Ends (List A)) → with_first x (joined r s) ≡ joined (with_first x r) s
with_joined x (Ok xs) (Ok ys) = refl
with_joined x (Ok xs) (Err f) = refl
with_joined x (Err f) s = refl

nothing_joined : {A : Type 0} (s : Ends (List A)) → s ≡ joined (Ok []) s
nothing_joined (Ok ys) = refl
nothing_joined (Err f) = refl

all_append : {A : Type 0} (rs ss : List (Ends A)) → all_of (rs ++ ss) ≡ joined (all_of rs) (all_of ss)
all_append [] ss = nothing_joined (all_of ss)
all_append (Ok a ∷ rs) ss = ap (with_first a) (all_append rs ss) ∙ with_joined a (all_of rs) (all_of ss)
all_append (Err f ∷ rs) ss = refl

-- the cells of two lists of indices are those of the first, and then those of the second
each_append : {A B : Type 0} (f : A → Ends B) (xs ys : List A) → each f (xs ++ ys) ≡ joined (each f xs) (each f ys)
each_append f xs ys = ap all_of (map-append f xs ys) ∙ all_append (map f xs) (map f ys)

none_more : (n : ℕ) → 0 + n ≡ n
none_more n = omega arith

-- a heap is what it is with numbers anew, and its own numbers more
own_numbers : (h : Heap) → h ≡ with_more h.taken h.given h.reused (afresh h)
own_numbers h = sym (λ i. record h { taken = none_more h.taken i; given = none_more h.given i; reused = none_more h.reused i })

-- a chunk that would leave the heap unchanged, with numbers of its own
ran_as : (holding : ℕ → ℕ) (n : ℕ) (h : Heap) (m : Ended (List (Option ArrayValue))) (c : Ends (List (Option ArrayValue))) → Leaves holding n h (ends_with_more h.taken h.given h.reused m) c → RanAs n (ran m) c
ran_as holding n h (Done cs k) (Ok ds) p = (p.0, own k.taken h.taken p.1.taken, own k.given h.given p.1.given, none k.reused h.reused p.1.reused)
  where
    own : (x z : ℕ) → x + z ≡ z + n → x ≡ n
    own x z e = omega (arith, e)

    none : (x z : ℕ) → x + z ≡ z → x ≡ 0
    none x z e = omega (arith, e)
ran_as holding n h (Failed f ps) (Err g) p = p.0
ran_as holding n h (Done cs k) (Err g) p = elim p [ ]
ran_as holding n h (Failed f ps) (Ok ds) p = elim p [ ]

beside_as : (m n : ℕ) (a b : Ran) (c d : Ends (List (Option ArrayValue))) → RanAs m a c → RanAs n b d → RanAs (m + n) (beside a b) (joined c d)
beside_as m n (Stopped f) b (Err g) d p q = p
beside_as m n (Found cs t g r) (Stopped f) (Ok ds) (Err e) p q = q
beside_as m n (Found cs t g r) (Found es u k s) (Ok ds) (Ok fs) p q =
    ((λ i. p.0 i ++ q.0 i), (λ i. p.1 i + q.1 i), (λ i. p.2 i + q.2 i), (λ i. p.3 i + q.3 i))
beside_as m n (Stopped f) b (Ok ds) d p q = elim p [ ]
beside_as m n (Found cs t g r) b (Err e) d p q = elim p [ ]
beside_as m n (Found cs t g r) (Stopped f) (Ok ds) (Ok fs) p q = elim q [ ]
beside_as m n (Found cs t g r) (Found es u k s) (Ok ds) (Err e) p q = elim q [ ]

absorbed_leaves : (holding : ℕ → ℕ) (n : ℕ) (h : Heap) (a : Ran) (c : Ends (List (Option ArrayValue))) → Owns h [] holding → RanAs n a c → Leaves holding n h (absorbed h a) c
absorbed_leaves holding n h (Found cs t g r) (Ok ds) owns p = (
  p.0,
  record {
    owns = (owns.0, balance);
    buffers = λ b le. refl;
    taken = ap (λ x. h.taken + x) p.1;
    given = ap (λ x. h.given + x) p.2;
    reused = none;
    phases = refl;
  },
)
  where
    balance : Balanced (with_more t g r h)
    balance = let o = owns.1 in let x = p.1 in let y = p.2 in omega (arith, o, x, y)

    none : h.reused + r ≡ h.reused
    none = let x = p.3 in omega (arith, x)
absorbed_leaves holding n h (Stopped f) (Err g) owns p = (p, refl)
absorbed_leaves holding n h (Found cs t g r) (Err e) owns p = elim p [ ]
absorbed_leaves holding n h (Stopped f) (Ok ds) owns p = elim p [ ]

abbrev together : List (List (List ℤ)) → List (List ℤ)
together chunks = flat_map (λ vs. vs) chunks

module _ (holding : ℕ → ℕ) (h : Heap) (form : Form) (source : List ℤ → Option Source) (cell : List ℤ → Ends (Option ArrayValue)) (takes : List ℤ → ℕ) (alone : StandAlone holding h form source cell takes) (blind : (v : List ℤ) → SourceIsBlind (source v)) (t : Target) (new : IsNew t) (owns : Owns h [] holding) where
  chunk_ran : (place : ℕ) (vs : List (List ℤ)) → RanAs (total takes vs) (ran (cells_do form source (write_cell t) place vs (afresh h))) (each cell vs)
  chunk_ran place vs =
      ran_as holding (total takes vs) h (cells_do form source (write_cell t) place vs (afresh h)) (each cell vs)
      (subst (λ m. Leaves holding (total takes vs) h m (each cell vs)) (ap (cells_do form source (write_cell t) place vs) (own_numbers h) ∙ cells_blind form source blind t place vs h.taken h.given h.reused (afresh h))
      (cells_leave holding h form source cell takes alone t new place vs h owns (λ b le. refl)))

  pub chunks_ran : (place : ℕ) (chunks : List (List (List ℤ))) → RanAs (total takes (together chunks)) (chunks_run form source (write_cell t) place chunks h) (each cell (together chunks))
  chunks_ran place [] = (refl, refl, refl, refl)
  chunks_ran place (vs ∷ chunks) =
      subst (λ n. RanAs n (chunks_run form source (write_cell t) place (vs ∷ chunks) h) (each cell (vs ++ together chunks))) (sym (total_append takes vs (together chunks)))
      (subst (λ c. RanAs (total takes vs + total takes (together chunks)) (chunks_run form source (write_cell t) place (vs ∷ chunks) h) c) (sym (each_append cell vs (together chunks)))
      (beside_as (total takes vs) (total takes (together chunks)) (ran (cells_do form source (write_cell t) place vs (afresh h))) (chunks_run form source (write_cell t) (place + length vs) chunks h) (each cell vs) (each cell (together chunks)) (chunk_ran place vs) (chunks_ran (place + length vs) chunks)))

  pub chunks_leave : (place : ℕ) (chunks : List (List (List ℤ))) → Leaves holding (total takes (together chunks)) h (chunks_do form source (write_cell t) place chunks h) (each cell (together chunks))
  chunks_leave place chunks =
      absorbed_leaves holding (total takes (together chunks)) h (chunks_run form source (write_cell t) place chunks h) (each cell (together chunks)) owns (chunks_ran place chunks)

-- ---- halves

sum_assoc : (x y z : ℕ) → (x + y) + z ≡ x + (y + z)
sum_assoc x y z = omega arith

beside_assoc : (a b c : Ran) → beside (beside a b) c ≡ beside a (beside b c)
beside_assoc (Stopped f) b c = refl
beside_assoc (Found cs t g r) (Stopped f) c = refl
beside_assoc (Found cs t g r) (Found ds u k s) (Stopped f) = refl
beside_assoc (Found cs t g r) (Found ds u k s) (Found es v l q) =
    λ i. Found (append_assoc cs ds es i) (sum_assoc t u v i) (sum_assoc g k l i) (sum_assoc r s q i)

beside_nothing : (a : Ran) → beside (Found [] 0 0 0) a ≡ a
beside_nothing (Stopped f) = refl
beside_nothing (Found cs t g r) = λ i. Found cs (none_more t i) (none_more g i) (none_more r i)

pub in_halves : (form : Form) (source : List ℤ → Option Source) (writing : Writing) (place : ℕ) (xs ys : List (List (List ℤ))) (h : Heap) → chunks_run form source writing place (xs ++ ys) h ≡ beside (chunks_run form source writing place xs h) (chunks_run form source writing (place + length (together xs)) ys h)
in_halves form source writing place [] ys h =
    ap (λ n. chunks_run form source writing n ys h) (omega arith) ∙ sym (beside_nothing (chunks_run form source writing (place + 0) ys h))
in_halves form source writing place (vs ∷ xs) ys h =
    ap (beside (ran (cells_do form source writing place vs (afresh h)))) (in_halves form source writing (place + length vs) xs ys h)
    ∙ sym (beside_assoc (ran (cells_do form source writing place vs (afresh h))) (chunks_run form source writing (place + length vs) xs h) (chunks_run form source writing ((place + length vs) + length (together xs)) ys h))
    ∙ ap (λ n. beside (beside (ran (cells_do form source writing place vs (afresh h))) (chunks_run form source writing (place + length vs) xs h)) (chunks_run form source writing n ys h)) (further (length-append vs (together xs)))
  where
    further : length (vs ++ together xs) ≡ length vs + length (together xs) → (place + length vs) + length (together xs) ≡ place + length (vs ++ together xs)
    further e = omega (arith, e)

-- ---- pieces

pub pieces_together : {A : Type 0} (ns : List ℕ) (xs : List A) → flat_map (λ us. us) (pieces ns xs) ≡ xs
pieces_together [] [] = refl
pieces_together [] (x ∷ xs) = append-nil (x ∷ xs)
pieces_together (n ∷ ns) xs = ap (λ ys. take n xs ++ ys) (pieces_together ns (drop n xs)) ∙ take-append-drop n xs
