-- Variables that are bound on both sides, and what a run may rely on at its start.
use Rattle.std.proofs.Common.{◌≡◌, ℕ, zero, suc, ◌+◌, Bool, true, false, cond, eqb, List, [], ◌∷◌, ◌++◌, map, length, refl, ap, ◌∙◌, sym, subst, arith, true≢false}
use Rattle.std.specs.Prelude.{◌||◌}
use Rattle.std.proofs.lemmas.Bool.{eqb-true, eq-eqb}
use Rattle.core_ir.specs.declared.tree.Var.{Var}
use Rattle.core_ir.specs.Binders.{is_in, NoneIn}
use Rattle.core_ir.specs.WellFormed.{Distinct}
use Rattle.core_ir.specs.Meaning.{Env, bind, bind_all, missing}
use Rattle.counted_code.specs.Values.{Heap, Value, read, count_of, cells_of, keep, release}
use Rattle.counted_code.specs.Machine.{Values, missing_value, bind_value, bind_values}
use Rattle.counted_code.specs.Counts.{Reordered, Alive}
use Rattle.counted_laws.specs.Simulation.{held, Owns, Backed, AllBacked, Shows, SameCells}
use Rattle.counted_laws.proofs.Held.{held_append, held_reordered, shows_reordered, shows_front, shows_back, shows_both, all_backed_more, self_backed, backed_both, backed_shows, same_cells_fewer, keep_count, keep_cells, kept_balance, released_owns, released_same}

-- what a run may rely on at its start
pub record Ready (h : Heap) (e : Values) (ρ : Env) (others : ℕ → ℕ) (outer refs : List Var) : Type 0 where
  pub owns : Owns h (map e refs) others
  pub backed : AllBacked others e outer
  pub shows : Shows h e ρ (refs ++ outer)

-- ---- variables that are alive

pub or_false : (a b : Bool) → (a || b) ≡ false → (a ≡ false) × (b ≡ false)
or_false true b p = elim (true≢false p) [ ]
or_false false b p = (refl, p)

backed_at : (counts : ℕ → ℕ) (e : Values) (x : Var) (xs : List Var) → AllBacked counts e xs → Alive x xs → Backed counts (e x)
backed_at counts e x [] back alive = elim (true≢false (sym alive)) [ ]
backed_at counts e x (y ∷ ys) back alive = go (λ a. backed_at counts e x ys back.1 a) (eqb y.0 x.0) refl alive
  where
    go : (is_in x ys ≡ true → Backed counts (e x)) → (same : Bool) → eqb y.0 x.0 ≡ same → (same || is_in x ys) ≡ true → Backed counts (e x)
    go later true p a = subst (λ z. Backed counts (e z)) (λ i. record { 0 = eqb-true y.0 x.0 p i }) back.0
    go later false p a = later a

pub shown_at : (h : Heap) (e : Values) (ρ : Env) (x : Var) (xs : List Var) → Shows h e ρ xs → Alive x xs → read h (e x) ≡ ρ x
shown_at h e ρ x [] s alive = elim (true≢false (sym alive)) [ ]
shown_at h e ρ x (y ∷ ys) s alive = go (λ a. shown_at h e ρ x ys s.1 a) (eqb y.0 x.0) refl alive
  where
    go : (is_in x ys ≡ true → read h (e x) ≡ ρ x) → (same : Bool) → eqb y.0 x.0 ≡ same → (same || is_in x ys) ≡ true → read h (e x) ≡ ρ x
    go later true p a = subst (λ z. read h (e z) ≡ ρ z) (λ i. record { 0 = eqb-true y.0 x.0 p i }) s.0
    go later false p a = later a

-- the variables that may be read have references among those that are counted
pub live_backed : (h : Heap) (e : Values) (others : ℕ → ℕ) (outer refs : List Var) → Owns h (map e refs) others → AllBacked others e outer → AllBacked (count_of h) e (refs ++ outer)
live_backed h e others outer refs owns backed =
    backed_both (count_of h) e refs outer
    (all_backed_more e refs (λ b. held b (map e refs)) (count_of h) (λ b. omega (arith, owns.0 b)) (self_backed e refs))
    (all_backed_more e outer others (count_of h) (λ b. omega (arith, owns.0 b)) backed)

pub alive_backed : (h : Heap) (e : Values) (ρ : Env) (others : ℕ → ℕ) (outer refs : List Var) (x : Var) → Ready h e ρ others outer refs → Alive x (refs ++ outer) → Backed (count_of h) (e x)
alive_backed h e ρ others outer refs x ready alive =
    backed_at (count_of h) e x (refs ++ outer) (live_backed h e others outer refs ready.owns ready.backed) alive

-- ---- after a Keep and after a Release

shows_same : (h k : Heap) (e : Values) (ρ : Env) (xs : List Var) (counts : ℕ → ℕ) → AllBacked counts e xs → ((c : ℕ) → cells_of k c ≡ cells_of h c) → Shows h e ρ xs → Shows k e ρ xs
shows_same h k e ρ xs counts back same s = backed_shows counts h k e ρ xs back (λ b le. same b) s

pub kept_ready : (h : Heap) (e : Values) (ρ : Env) (others : ℕ → ℕ) (outer refs : List Var) (x : Var) → Ready h e ρ others outer refs → Alive x (refs ++ outer) → Ready (keep (e x) h) e ρ others outer (x ∷ refs)
kept_ready h e ρ others outer refs x ready alive =
    let back = alive_backed h e ρ others outer refs x ready alive in
    let all = live_backed h e others outer refs ready.owns ready.backed in
    record {
      owns = ((λ b. (let k = keep_count h (e x) back b in let o = ready.owns.0 b in omega (arith, k, o))), kept_balance h (e x) back ready.owns.1);
      backed = ready.backed;
      shows = shows_same h (keep (e x) h) e ρ (x ∷ (refs ++ outer)) (count_of h) (back, all) (keep_cells h (e x) back) (shown_at h e ρ x (refs ++ outer) ready.shows alive, ready.shows);
    }

-- the references in another order, with x in front
front_owns : (h : Heap) (e : Values) (others : ℕ → ℕ) (refs after : List Var) (x : Var) → Owns h (map e refs) others → Reordered refs (x ∷ after) → Owns h (e x ∷ map e after) others
front_owns h e others refs after x owns order = ((λ b. owns.0 b ∙ ap (λ m. m + others b) (held_reordered b e order)), owns.1)

pub released_ready : (h : Heap) (e : Values) (ρ : Env) (others : ℕ → ℕ) (outer refs after : List Var) (x : Var) → Ready h e ρ others outer refs → Reordered refs (x ∷ after) → SameCells others h (release (e x) h) × Ready (release (e x) h) e ρ others outer after
released_ready h e ρ others outer refs after x ready order =
    let k : Heap = release (e x) h in
    let shown = shows_reordered h e ρ order (shows_front h e ρ refs outer ready.shows) in
    let rest = shows_back h e ρ refs outer ready.shows in
    let front = front_owns h e others refs after x ready.owns order in
    let same = released_same h (e x) (map e after) others front in
    let counts : ℕ → ℕ = (λ b. held b (map e after) + others b) in
    let back = backed_both counts e after outer (all_backed_more e after (λ b. held b (map e after)) counts (λ b. omega arith) (self_backed e after)) (all_backed_more e outer others counts (λ b. omega arith) ready.backed) in (
      same_cells_fewer others counts h k (λ b. omega arith) same,
      record {
        owns = released_owns h (e x) (map e after) others front;
        backed = ready.backed;
        shows = backed_shows counts h k e ρ (after ++ outer) back same (shows_both h e ρ after outer shown.1 rest);
      },
    )

-- ---- after a binding

pub map_append : (e : Values) (xs ys : List Var) → map e (xs ++ ys) ≡ map e xs ++ map e ys
map_append e [] ys = refl
map_append e (x ∷ xs) ys = ap (λ vs. e x ∷ vs) (map_append e xs ys)

pub zero_not_suc : {n : ℕ} → zero ≡ suc n → ⊥
zero_not_suc {n} p = omega (arith, p)

pub suc_same : {m n : ℕ} → suc m ≡ suc n → m ≡ n
suc_same {m} {n} p = omega (arith, p)

bound_shows : (k : Heap) (e : Values) (ρ : Env) (x : Var) (v : Value) (zs : List Var) → Shows k e ρ zs → Shows k (bind_value e x v) (bind ρ x (read k v)) zs
bound_shows k e ρ x v [] s = tt
bound_shows k e ρ x v (z ∷ zs) s = (go (eqb x.0 z.0), bound_shows k e ρ x v zs s.1)
  where
    go : (same : Bool) → read k (cond same v (e z)) ≡ cond same (read k v) (ρ z)
    go true = refl
    go false = s.0

bound_here : (k : Heap) (e : Values) (ρ : Env) (x : Var) (v : Value) → read k (bind_value e x v x) ≡ bind ρ x (read k v) x
bound_here k e ρ x v = go (eqb x.0 x.0) refl
  where
    go : (same : Bool) → eqb x.0 x.0 ≡ same → read k (cond same v (e x)) ≡ cond same (read k v) (ρ x)
    go true is = refl
    go false is = elim (true≢false (sym (eq-eqb x.0 x.0 refl) ∙ is)) [ ]

-- the last steps of what follows
moved_front : (k : Heap) (f : Values) (σ : Env) (x : Var) (xs zs : List Var) → Shows k f σ (xs ++ (x ∷ zs)) → Shows k f σ (x ∷ (xs ++ zs))
moved_front k f σ x xs zs all =
    let back = shows_back k f σ xs (x ∷ zs) all in
    (back.0, shows_both k f σ xs zs (shows_front k f σ xs (x ∷ zs) all) back.1)

pub bound_all_shows : (k : Heap) (e : Values) (ρ : Env) (xs : List Var) (vs : List Value) (zs : List Var) → Shows k e ρ zs → Shows k (bind_values e xs vs) (bind_all ρ xs (map (read k) vs)) (xs ++ zs)
bound_all_shows k e ρ [] vs zs s = s
bound_all_shows k e ρ (x ∷ xs) [] zs s =
    moved_front k (bind_values (bind_value e x missing_value) xs []) (bind_all (bind ρ x missing) xs []) x xs zs
    (bound_all_shows k (bind_value e x missing_value) (bind ρ x missing) xs [] (x ∷ zs) (bound_here k e ρ x missing_value, bound_shows k e ρ x missing_value zs s))
bound_all_shows k e ρ (x ∷ xs) (v ∷ vs) zs s =
    moved_front k (bind_values (bind_value e x v) xs vs) (bind_all (bind ρ x (read k v)) xs (map (read k) vs)) x xs zs
    (bound_all_shows k (bind_value e x v) (bind ρ x (read k v)) xs vs (x ∷ zs) (bound_here k e ρ x v, bound_shows k e ρ x v zs s))

-- other variables keep their values
eqb_turned : (a b : ℕ) → eqb a b ≡ false → eqb b a ≡ false
eqb_turned a b p = go (eqb b a) refl
  where
    go : (same : Bool) → eqb b a ≡ same → eqb b a ≡ false
    go true q = elim (true≢false (sym (eq-eqb a b (sym (eqb-true b a q))) ∙ p)) [ ]
    go false q = q

unbound_one : (e : Values) (x : Var) (v : Value) (zs : List Var) → is_in x zs ≡ false → map (bind_value e x v) zs ≡ map e zs
unbound_one e x v [] p = refl
unbound_one e x v (z ∷ zs) p =
    let o = or_false (eqb z.0 x.0) (is_in x zs) p in
    λ i. cond (eqb_turned z.0 x.0 o.0 i) v (e z) ∷ unbound_one e x v zs o.1 i

pub unbound_all : (e : Values) (xs : List Var) (vs : List Value) (zs : List Var) → NoneIn xs zs → map (bind_values e xs vs) zs ≡ map e zs
unbound_all e [] vs zs none = refl
unbound_all e (x ∷ xs) [] zs none = unbound_all (bind_value e x missing_value) xs [] zs none.1 ∙ unbound_one e x missing_value zs none.0
unbound_all e (x ∷ xs) (v ∷ vs) zs none = unbound_all (bind_value e x v) xs vs zs none.1 ∙ unbound_one e x v zs none.0

-- bound variables have the values
not_in_one : (xs : List Var) (x : Var) → is_in x xs ≡ false → NoneIn xs (x ∷ [])
not_in_one [] x p = tt
not_in_one (y ∷ ys) x p =
    let o = or_false (eqb y.0 x.0) (is_in x ys) p in
    ((λ i. eqb_turned y.0 x.0 o.0 i || false), not_in_one ys x o.1)

abbrev head_of : (vs : List Value) → Value
head_of [] = missing_value
head_of (v ∷ vs) = v

pub bound_values : (e : Values) (xs : List Var) (vs : List Value) → Distinct xs → length vs ≡ length xs → map (bind_values e xs vs) xs ≡ vs
bound_values e [] [] distinct size = refl
bound_values e [] (v ∷ vs) distinct size = elim (zero_not_suc (sym size)) [ ]
bound_values e (x ∷ xs) [] distinct size = elim (zero_not_suc size) [ ]
bound_values e (x ∷ xs) (v ∷ vs) distinct size =
    let own = ap head_of (unbound_all (bind_value e x v) xs vs (x ∷ []) (not_in_one xs x distinct.0)) ∙ ap (λ t. cond t v (e x)) (eq-eqb x.0 x.0 refl) in
    let rest = bound_values (bind_value e x v) xs vs distinct.1 (suc_same size) in
    λ i. own i ∷ rest i

abbrev tail_of : List Value → List Value
tail_of [] = []
tail_of (v ∷ vs) = vs

pub backed_as : (counts : ℕ → ℕ) (e f : Values) (xs : List Var) → map f xs ≡ map e xs → AllBacked counts e xs → AllBacked counts f xs
backed_as counts e f [] same back = tt
backed_as counts e f (x ∷ xs) same back = (subst (Backed counts) (sym (ap head_of same)) back.0, backed_as counts e f xs (ap tail_of same) back.1)

-- the counts that a right side leaves to others: those of the references that stay
abbrev pub staying : Values → List Var → (ℕ → ℕ) → ℕ → ℕ
staying e after others b = held b (map e after) + others b

pub right_ready : (h : Heap) (e : Values) (ρ : Env) (others : ℕ → ℕ) (outer refs mine after : List Var) → Ready h e ρ others outer refs → Reordered refs (mine ++ after) → Ready h e ρ (staying e after others) (after ++ outer) mine
right_ready h e ρ others outer refs mine after ready order =
    let shown = shows_reordered h e ρ order (shows_front h e ρ refs outer ready.shows) in
    record {
      owns = ((λ b. (let o = ready.owns.0 b in let r = held_reordered b e order in let m = ap (held b) (map_append e mine after) in let a = held_append b (map e mine) (map e after) in omega (arith, o, r, m, a))), ready.owns.1);
      backed = backed_both (staying e after others) e after outer (all_backed_more e after (λ b. held b (map e after)) (staying e after others) (λ b. omega arith) (self_backed e after)) (all_backed_more e outer others (staying e after others) (λ b. omega arith) ready.backed);
      shows = shows_both h e ρ mine (after ++ outer) (shows_front h e ρ mine after shown) (shows_both h e ρ after outer (shows_back h e ρ mine after shown) (shows_back h e ρ refs outer ready.shows));
    }

pub rest_ready : (h k : Heap) (e : Values) (ρ : Env) (others : ℕ → ℕ) (outer mine after xs : List Var) (vs : List Value) → Ready h e ρ (staying e after others) (after ++ outer) mine → AllBacked others e outer → length vs ≡ length xs → Distinct xs → NoneIn xs after → NoneIn xs outer → Owns k vs (staying e after others) → SameCells (staying e after others) h k → Ready k (bind_values e xs vs) (bind_all ρ xs (map (read k) vs)) others outer (xs ++ after)
rest_ready h k e ρ others outer mine after xs vs ready back size distinct none_after none_outer owns same =
    let e' : Values = bind_values e xs vs in
    let ρ' : Env = bind_all ρ xs (map (read k) vs) in
    let kept = backed_shows (staying e after others) h k e ρ (after ++ outer) ready.backed same (shows_back h e ρ mine (after ++ outer) ready.shows) in
    let all = bound_all_shows k e ρ xs vs (after ++ outer) kept in
    let tail = shows_back k e' ρ' xs (after ++ outer) all in
    record {
      owns = ((λ b. (let o = owns.0 b in let m = ap (held b) (map_append e' xs after) in let a = held_append b (map e' xs) (map e' after) in let p = ap (held b) (bound_values e xs vs distinct size) in let q = ap (held b) (unbound_all e xs vs after none_after) in omega (arith, o, m, a, p, q))), owns.1);
      backed = backed_as others e e' outer (unbound_all e xs vs outer none_outer) back;
      shows = shows_both k e' ρ' (xs ++ after) outer (shows_both k e' ρ' xs after (shows_front k e' ρ' xs (after ++ outer) all) (shows_front k e' ρ' after outer tail)) (shows_back k e' ρ' after outer tail);
    }

-- a loop's variables at a turn, and a function's parameters
pub turn_ready : (k : Heap) (e : Values) (ρ : Env) (others : ℕ → ℕ) (outer xs : List Var) (vs : List Value) → AllBacked others e outer → Shows k e ρ outer → length vs ≡ length xs → Distinct xs → NoneIn xs outer → Owns k vs others → Ready k (bind_values e xs vs) (bind_all ρ xs (map (read k) vs)) others outer xs
turn_ready k e ρ others outer xs vs back shows size distinct none owns = record {
  owns = ((λ b. (let o = owns.0 b in let p = ap (held b) (bound_values e xs vs distinct size) in omega (arith, o, p))), owns.1);
  backed = backed_as others e (bind_values e xs vs) outer (unbound_all e xs vs outer none) back;
  shows = bound_all_shows k e ρ xs vs outer shows;
}

-- in a loop's test its variables are only read
pub test_ready : (k : Heap) (e : Values) (ρ : Env) (others : ℕ → ℕ) (outer xs : List Var) (vs : List Value) → AllBacked others e outer → Shows k e ρ outer → length vs ≡ length xs → Distinct xs → NoneIn xs outer → Owns k vs others → Ready k (bind_values e xs vs) (bind_all ρ xs (map (read k) vs)) (λ b. held b vs + others b) (xs ++ outer) []
test_ready k e ρ others outer xs vs back shows size distinct none owns =
    let e' : Values = bind_values e xs vs in
    let more : ℕ → ℕ = (λ b. held b vs + others b) in
    record {
      owns = ((λ b. (let o = owns.0 b in omega (arith, o))), owns.1);
      backed = backed_both more e' xs outer (all_backed_more e' xs (λ b. held b (map e' xs)) more (λ b. (let p = ap (held b) (bound_values e xs vs distinct size) in omega (arith, p))) (self_backed e' xs)) (all_backed_more e' outer others more (λ b. omega arith) (backed_as others e e' outer (unbound_all e xs vs outer none) back));
      shows = bound_all_shows k e ρ xs vs outer shows;
    }

-- all variables of two lists
pub none_front : (xs ys zs : List Var) → NoneIn xs (ys ++ zs) → NoneIn xs ys
none_front [] ys zs none = tt
none_front (x ∷ xs) ys zs none = (front ys none.0, none_front xs ys zs none.1)
  where
    front : (ys : List Var) → is_in x (ys ++ zs) ≡ false → is_in x ys ≡ false
    front [] p = refl
    front (y ∷ ys) p = let o = or_false (eqb y.0 x.0) (is_in x (ys ++ zs)) p in (λ i. o.0 i || front ys o.1 i)

pub none_back : (xs ys zs : List Var) → NoneIn xs (ys ++ zs) → NoneIn xs zs
none_back [] ys zs none = tt
none_back (x ∷ xs) ys zs none = (back ys none.0, none_back xs ys zs none.1)
  where
    back : (ys : List Var) → is_in x (ys ++ zs) ≡ false → is_in x zs ≡ false
    back [] p = p
    back (y ∷ ys) p = back ys (or_false (eqb y.0 x.0) (is_in x (ys ++ zs)) p).1
