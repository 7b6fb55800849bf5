-- References that are held, and what keeping and releasing does to the counts and the cells.
use Rattle.std.proofs.Common.{◌≡◌, ℕ, zero, suc, ◌+◌, ◌<◌, ◌≤◌, Bool, true, false, cond, eqb, List, [], ◌∷◌, ◌++◌, map, length, refl, ap, ◌∙◌, sym, subst, slice_index_or, slice_set, ℤ, arith, lt_irrefl, true≢false}
use Rattle.std.proofs.lemmas.Bool.{eqb-true, eq-eqb}
use Rattle.std.proofs.lemmas.List.{get_or-set_same, get_or-set_other}
use Rattle.core_ir.specs.declared.tree.Var.{Var}
use Rattle.core_ir.specs.Meaning.{Env}
use Rattle.counted_code.specs.Values.{Buffer, no_buffer, Heap, Value, Small, Ref, read, count_of, cells_of, buffer_at, with_buffer, with_cells, take_buffer, keep, release, release_count}
use Rattle.counted_code.specs.Machine.{Values}
use Rattle.counted_code.specs.Counts.{Reordered, none, stays, swaps, through}
use Rattle.counted_laws.specs.Simulation.{refers, held, some, live, Balanced, Owns, Backed, AllBacked, Shows, SameCells}

-- ---- lists of values

pub held_append : (b : ℕ) (vs ws : List Value) → held b (vs ++ ws) ≡ held b vs + held b ws
held_append b [] ws = omega arith
held_append b (v ∷ vs) ws = let rest = held_append b vs ws in omega (arith, rest)

pub held_reordered : (b : ℕ) (e : Values) {xs ys : List Var} → Reordered xs ys → held b (map e xs) ≡ held b (map e ys)
held_reordered b e none = refl
held_reordered b e (stays {x} p) = ap (λ n. refers b (e x) + n) (held_reordered b e p)
held_reordered b e (swaps {x} {y} {xs}) = omega arith
held_reordered b e (through p q) = held_reordered b e p ∙ held_reordered b e q

pub shows_reordered : (h : Heap) (e : Values) (ρ : Env) {xs ys : List Var} → Reordered xs ys → Shows h e ρ xs → Shows h e ρ ys
shows_reordered h e ρ none s = s
shows_reordered h e ρ (stays p) s = (s.0, shows_reordered h e ρ p s.1)
shows_reordered h e ρ swaps s = (s.1.0, (s.0, s.1.1))
shows_reordered h e ρ (through p q) s = shows_reordered h e ρ q (shows_reordered h e ρ p s)

pub shows_values : (h : Heap) (e : Values) (ρ : Env) (xs : List Var) → Shows h e ρ xs → map (read h) (map e xs) ≡ map ρ xs
shows_values h e ρ [] s = refl
shows_values h e ρ (x ∷ xs) s = λ i. s.0 i ∷ shows_values h e ρ xs s.1 i

pub shows_front : (h : Heap) (e : Values) (ρ : Env) (xs ys : List Var) → Shows h e ρ (xs ++ ys) → Shows h e ρ xs
shows_front h e ρ [] ys s = tt
shows_front h e ρ (x ∷ xs) ys s = (s.0, shows_front h e ρ xs ys s.1)

pub shows_back : (h : Heap) (e : Values) (ρ : Env) (xs ys : List Var) → Shows h e ρ (xs ++ ys) → Shows h e ρ ys
shows_back h e ρ [] ys s = s
shows_back h e ρ (x ∷ xs) ys s = shows_back h e ρ xs ys s.1

pub shows_both : (h : Heap) (e : Values) (ρ : Env) (xs ys : List Var) → Shows h e ρ xs → Shows h e ρ ys → Shows h e ρ (xs ++ ys)
shows_both h e ρ [] ys s t = t
shows_both h e ρ (x ∷ xs) ys s t = (s.0, shows_both h e ρ xs ys s.1 t)

-- ---- what is backed

pub all_backed_more : (e : Values) (xs : List Var) (m n : ℕ → ℕ) → ((b : ℕ) → m b ≤ n b) → AllBacked m e xs → AllBacked n e xs
all_backed_more e [] m n le back = tt
all_backed_more e (x ∷ xs) m n le back = ((λ b. omega (arith, back.0 b, le b)), all_backed_more e xs m n le back.1)

pub self_backed : (e : Values) (xs : List Var) → AllBacked (λ b. held b (map e xs)) e xs
self_backed e [] = tt
self_backed e (x ∷ xs) = ((λ b. omega arith), all_backed_more e xs (λ b. held b (map e xs)) (λ b. refers b (e x) + held b (map e xs)) (λ b. omega arith) (self_backed e xs))

pub backed_both : (counts : ℕ → ℕ) (e : Values) (xs ys : List Var) → AllBacked counts e xs → AllBacked counts e ys → AllBacked counts e (xs ++ ys)
backed_both counts e [] ys p q = q
backed_both counts e (x ∷ xs) ys p q = (p.0, backed_both counts e xs ys p.1 q)

one_of : (b n : ℕ) → cond (eqb b b) 1 0 ≤ n → 1 ≤ n
one_of b n le = subst (λ t. cond t 1 0 ≤ n) (eq-eqb b b refl) le

-- what is backed reads the same in a heap that keeps the cells of backed buffers
pub backed_reads : (others : ℕ → ℕ) (h k : Heap) (v : Value) → Backed others v → SameCells others h k → read k v ≡ read h v
backed_reads others h k (Small a) back same = refl
backed_reads others h k (Ref b base shape) back same = λ i. record { base = base; shape = shape; cells = same b (one_of b (others b) (back b)) i }

pub backed_shows : (others : ℕ → ℕ) (h k : Heap) (e : Values) (ρ : Env) (xs : List Var) → AllBacked others e xs → SameCells others h k → Shows h e ρ xs → Shows k e ρ xs
backed_shows others h k e ρ [] back same s = tt
backed_shows others h k e ρ (x ∷ xs) back same s = (backed_reads others h k (e x) back.0 same ∙ s.0, backed_shows others h k e ρ xs back.1 same s.1)

pub same_cells_fewer : (others more : ℕ → ℕ) (h k : Heap) → ((b : ℕ) → others b ≤ more b) → SameCells more h k → SameCells others h k
same_cells_fewer others more h k le same b one = same b (through_le one (le b))
  where
    through_le : {x y : ℕ} → 1 ≤ x → x ≤ y → 1 ≤ y
    through_le p q = omega (arith, p, q)

-- ---- one buffer is changed

in_buffers : (bs : List Buffer) (b : ℕ) → 1 ≤ (slice_index_or bs b no_buffer).count → b < length bs
in_buffers [] b live = elim (lt_irrefl 0 live) [ ]
in_buffers (x ∷ bs) zero live = omega arith
in_buffers (x ∷ bs) (suc b) live = omega (arith, in_buffers bs b live)

pub buffer_set : (h : Heap) (b c : ℕ) (x : Buffer) → 1 ≤ count_of h b → buffer_at (with_buffer h b x) c ≡ cond (eqb b c) x (buffer_at h c)
buffer_set h b c x live = go (eqb b c) refl
  where
    go : (same : Bool) → eqb b c ≡ same → buffer_at (with_buffer h b x) c ≡ cond same x (buffer_at h c)
    go true e = subst (λ d. buffer_at (with_buffer h b x) d ≡ x) (eqb-true b c e) (get_or-set_same h.buffers b x no_buffer (in_buffers h.buffers b live))
    go false e = get_or-set_other h.buffers b c x no_buffer (λ is. true≢false (sym (eq-eqb b c (sym is)) ∙ e))

-- keeping adds one reference, and changes no cells
pub keep_count : (h : Heap) (v : Value) → Backed (count_of h) v → (c : ℕ) → count_of (keep v h) c ≡ refers c v + count_of h c
keep_count h (Small a) back c = omega arith
keep_count h (Ref b base shape) back c =
    subst (λ (y : Buffer). y.count ≡ cond (eqb b c) 1 0 + count_of h c) (sym (buffer_set h b c (record { count = count_of h b + 1; cells = cells_of h b }) (one_of b (count_of h b) (back b)))) (go (eqb b c) refl)
  where
    go : (same : Bool) → eqb b c ≡ same → (cond same (record { count = count_of h b + 1; cells = cells_of h b }) (buffer_at h c)).count ≡ cond same 1 0 + count_of h c
    go true e = let is = ap (count_of h) (eqb-true b c e) in omega (arith, is)
    go false e = omega arith

pub keep_cells : (h : Heap) (v : Value) → Backed (count_of h) v → (c : ℕ) → cells_of (keep v h) c ≡ cells_of h c
keep_cells h (Small a) back c = refl
keep_cells h (Ref b base shape) back c =
    subst (λ (y : Buffer). y.cells ≡ cells_of h c) (sym (buffer_set h b c (record { count = count_of h b + 1; cells = cells_of h b }) (one_of b (count_of h b) (back b)))) (go (eqb b c) refl)
  where
    go : (same : Bool) → eqb b c ≡ same → (cond same (record { count = count_of h b + 1; cells = cells_of h b }) (buffer_at h c)).cells ≡ cells_of h c
    go true e = ap (cells_of h) (eqb-true b c e)
    go false e = refl

-- a buffer with one reference less
lowered : (h : Heap) (b c : ℕ) (x : Buffer) → suc x.count ≡ count_of h b → cond (eqb b c) 1 0 + count_of (with_buffer h b x) c ≡ count_of h c
lowered h b c x less =
    subst (λ (y : Buffer). cond (eqb b c) 1 0 + y.count ≡ count_of h c) (sym (buffer_set h b c x (omega (arith, less)))) (go (eqb b c) refl)
  where
    go : (same : Bool) → eqb b c ≡ same → cond same 1 0 + (cond same x (buffer_at h c)).count ≡ count_of h c
    go true e = let is = ap (count_of h) (eqb-true b c e) in omega (arith, is, less)
    go false e = omega arith

lowered_cells : (h : Heap) (b c : ℕ) (x : Buffer) → 1 ≤ count_of h b → (1 ≤ x.count → x.cells ≡ cells_of h b) → 1 ≤ count_of (with_buffer h b x) c → cells_of (with_buffer h b x) c ≡ cells_of h c
lowered_cells h b c x live same one =
    subst (λ (y : Buffer). y.cells ≡ cells_of h c) (sym (buffer_set h b c x live)) (go (eqb b c) refl (subst (λ (y : Buffer). 1 ≤ y.count) (buffer_set h b c x live) one))
  where
    go : (t : Bool) → eqb b c ≡ t → 1 ≤ (cond t x (buffer_at h c)).count → (cond t x (buffer_at h c)).cells ≡ cells_of h c
    go true e le = same le ∙ ap (cells_of h) (eqb-true b c e)
    go false e le = refl

suc_of : (n : ℕ) → 1 ≤ n → (m : ℕ) × (n ≡ suc m)
suc_of zero le = elim (lt_irrefl 0 le) [ ]
suc_of (suc m) le = (m, refl)

released_at : (n : ℕ) (h : Heap) (b c : ℕ) → count_of h b ≡ suc n → cond (eqb b c) 1 0 + count_of (release_count b (suc n) h) c ≡ count_of h c
released_at zero h b c is = lowered h b c no_buffer (sym is)
released_at (suc n) h b c is = lowered h b c (record { count = suc n; cells = cells_of h b }) (sym is)

released_cells_at : (n : ℕ) (h : Heap) (b c : ℕ) → count_of h b ≡ suc n → 1 ≤ count_of (release_count b (suc n) h) c → cells_of (release_count b (suc n) h) c ≡ cells_of h c
released_cells_at zero h b c is one = lowered_cells h b c no_buffer (omega (arith, is)) (λ le. elim (lt_irrefl 0 le) [ ]) one
released_cells_at (suc n) h b c is one = lowered_cells h b c (record { count = suc n; cells = cells_of h b }) (omega (arith, is)) (λ le. refl) one

-- releasing takes one reference away, and changes no cells of what has a reference after it
pub release_counts : (h : Heap) (v : Value) → Backed (count_of h) v → (c : ℕ) → refers c v + count_of (release v h) c ≡ count_of h c
release_counts h (Small a) back c = omega arith
release_counts h (Ref b base shape) back c =
    let s = suc_of (count_of h b) (one_of b (count_of h b) (back b)) in
    subst (λ n. cond (eqb b c) 1 0 + count_of (release_count b n h) c ≡ count_of h c) (sym s.1) (released_at s.0 h b c s.1)

pub release_cells : (h : Heap) (v : Value) → Backed (count_of h) v → SameCells (count_of (release v h)) h (release v h)
release_cells h (Small a) back c one = refl
release_cells h (Ref b base shape) back c one =
    let s = suc_of (count_of h b) (one_of b (count_of h b) (back b)) in
    subst (λ n. 1 ≤ count_of (release_count b n h) c → cells_of (release_count b n h) c ≡ cells_of h c) (sym s.1) (released_cells_at s.0 h b c s.1) one

-- ---- no buffer is lost

live_set : (bs : List Buffer) (b : ℕ) (x : Buffer) → b < length bs → live (slice_set bs b x) + some (slice_index_or bs b no_buffer).count ≡ live bs + some x.count
live_set [] b x lt = elim (none_below lt) [ ]
  where
    none_below : {n : ℕ} → n < 0 → ⊥
    none_below p = omega (arith, p)
live_set (y ∷ ys) zero x lt = omega arith
live_set (y ∷ ys) (suc b) x lt = let rest = live_set ys b x (omega (arith, lt)) in omega (arith, rest)

live_more : (bs : List Buffer) (x : Buffer) → live (bs ++ (x ∷ [])) ≡ live bs + some x.count
live_more [] x = omega arith
live_more (y ∷ ys) x = let rest = live_more ys x in omega (arith, rest)

pub live_none : (bs : List Buffer) → ((b : ℕ) → (slice_index_or bs b no_buffer).count ≡ 0) → live bs ≡ 0
live_none [] empty = refl
live_none (x ∷ xs) empty = let rest = live_none xs (λ b. empty (suc b)) in let first = ap some (empty zero) in omega (arith, rest, first)

some_one : (n : ℕ) → 1 ≤ n → some n ≡ 1
some_one zero le = elim (lt_irrefl 0 le) [ ]
some_one (suc n) le = refl

-- a buffer with references is changed
changed : (h : Heap) (b : ℕ) (x : Buffer) → 1 ≤ count_of h b → live (slice_set h.buffers b x) + 1 ≡ live h.buffers + some x.count
changed h b x le = let s = live_set h.buffers b x (in_buffers h.buffers b le) in let one = some_one (count_of h b) le in omega (arith, s, one)

same_balance : (h : Heap) (b : ℕ) (x : Buffer) → 1 ≤ count_of h b → 1 ≤ x.count → Balanced h → Balanced (with_buffer h b x)
same_balance h b x le more balance = let c = changed h b x le in let one = some_one x.count more in omega (arith, c, one, balance)

released_balance : (h : Heap) (v : Value) → Balanced h → Balanced (release v h)
released_balance h (Small a) balance = balance
released_balance h (Ref b base shape) balance = go (count_of h b) refl
  where
    go : (n : ℕ) → count_of h b ≡ n → Balanced (release_count b n h)
    go zero is = balance
    go (suc zero) is = let c = changed h b no_buffer (omega (arith, is)) in omega (arith, c, balance)
    go (suc (suc n)) is = same_balance h b (record { count = suc n; cells = cells_of h b }) (omega (arith, is)) (omega arith) balance

pub kept_balance : (h : Heap) (v : Value) → Backed (count_of h) v → Balanced h → Balanced (keep v h)
kept_balance h (Small a) back balance = balance
kept_balance h (Ref b base shape) back balance =
    let le = one_of b (count_of h b) (back b) in
    same_balance h b (record { count = count_of h b + 1; cells = cells_of h b }) le (omega arith) balance

pub recelled_balance : (h : Heap) (b : ℕ) (xs : List ℤ) → 1 ≤ count_of h b → Balanced h → Balanced (with_cells h b xs)
recelled_balance h b xs le balance = same_balance h b (record { count = count_of h b; cells = xs }) le le balance

pub taken_balance : (h : Heap) (xs : List ℤ) → Balanced h → Balanced (take_buffer xs h)
taken_balance h xs balance = let more = live_more h.buffers (record { count = 1; cells = xs }) in omega (arith, more, balance)

-- the first of the values that are held is released
pub released_owns : (h : Heap) (v : Value) (vs : List Value) (others : ℕ → ℕ) → Owns h (v ∷ vs) others → Owns (release v h) vs others
released_owns h v vs others owns = (
  (λ b.
      (let back : Backed (count_of h) v = (λ c. (let o = owns.0 c in omega (arith, o))) in
      let r = release_counts h v back b in
      let o = owns.0 b in
      omega (arith, o, r))),
  released_balance h v owns.1,
)

pub released_same : (h : Heap) (v : Value) (vs : List Value) (others : ℕ → ℕ) → Owns h (v ∷ vs) others → SameCells (λ b. held b vs + others b) h (release v h)
released_same h v vs others owns =
    let back : Backed (count_of h) v = (λ c. (let o = owns.0 c in omega (arith, o))) in
    same_cells_fewer (λ b. held b vs + others b) (count_of (release v h)) h (release v h) (λ b. (let o = (released_owns h v vs others owns).0 b in omega (arith, o))) (release_cells h v back)

pub released_others : (h : Heap) (v : Value) (vs : List Value) (others : ℕ → ℕ) → Owns h (v ∷ vs) others → SameCells others h (release v h)
released_others h v vs others owns =
    same_cells_fewer others (λ b. held b vs + others b) h (release v h) (λ b. omega arith) (released_same h v vs others owns)
