-- Grids with the first generators that have their members.
use Rattle.std.proofs.Common.{◌≡◌, ◌≤◌, ◌⊎◌, ℕ, suc, ◌+◌, ◌*◌, max, List, [], ◌∷◌, map, filter, length, cond, Bool, true, false, ◌||◌, refl, sym, ap, subst, ◌∙◌, arith, true≢false, Some, None, inl, inr, ℤ}
use Rattle.std.specs.Prelude.{is_some, IsTrue, All, nat_lt, not}
use Rattle.std.specs.List.{list_any, position, position_or_len}
use Rattle.std.proofs.lemmas.Bool.Decides.{nat_tests}
use Rattle.std.proofs.lemmas.List.Elements.{All-head, All-tail}
use Rattle.sac_base.specs.declared.grid.Grid1.{Grid1}
use Rattle.sac_base.specs.Grids.{has_vector, times_vector, SplitsVectors}
use Rattle.grid_sets.specs.Segments.{at_end}
use Rattle.grid_sets.proofs.Keeping.{count_cons}
use Rattle.generator_sets.specs.Counts.{IsCanonicalCount, no_axes, and_axis}
use Rattle.generator_sets.specs.Unions.{NamesFirst}
use Rattle.generator_sets.proofs.CountFacts.{one_canonical}
use Rattle.core_loops.specs.norm.Norm.{NameFirst}
use Rattle.partable_loops.specs.Framings.{IsVoid}
use Rattle.partable_loops.specs.Planned.{Covers, CoversHeld, Label}
use Rattle.partable_loops.proofs.Boxes.{void_axis, void_vector}

-- ---- what a partition gives

pub named_first : (grids : List (List Grid1)) (labels : List Label) → All (NamesFirst grids) labels → NameFirst grids labels
named_first grids [] h = tt
named_first grids (p ∷ ps) h = (All-head (NamesFirst grids) p ps h, named_first grids ps (All-tail (NamesFirst grids) p ps h))

pub covered : (frame : List Grid1) (labels : List Label) → SplitsVectors (map (λ (p : Label). p.0) labels) (has_vector frame) → Covers frame labels
covered frame labels h v e = h v ∙ ap (λ t. cond t 1 0) e

pub void_splits : (frame : List Grid1) (labels : List Label) → labels ≡ [] → IsVoid frame → SplitsVectors (map (λ (p : Label). p.0) labels) (has_vector frame)
void_splits frame labels none h v = (λ i. times_vector (map (λ (p : Label). p.0) (none i)) v) ∙ sym (ap (λ t. cond t 1 0) (void_vector frame v h))

-- where not all generators have the frame's axes it has no index
pub is_void : (frame : List Grid1) (grids : List (List Grid1)) (n : ℕ) → n ≡ length frame → (All (λ (g : List Grid1). length g ≡ length frame) grids ⊎ IsVoid frame)
    → (All (λ (g : List Grid1). length g ≡ n) grids → IsTrue false) → IsVoid frame
is_void frame grids n e (inl all) h = absurd (true≢false (sym (h (subst (λ m. All (λ (g : List Grid1). length g ≡ m) grids) (sym e) all))))
is_void frame grids n e (inr void) h = void

-- ---- without the grids of no generator

next_below : (k n : ℕ) → nat_lt (1 + k) (suc n) ≡ nat_lt k n
next_below k n = by (nat_lt k n) refl
  where
    by : (t : Bool) → nat_lt k n ≡ t → nat_lt (1 + k) (suc n) ≡ t
    by true e = grind (arith, nat_tests)
    by false e = grind (arith, nat_tests)

first_below : (n : ℕ) → nat_lt 0 (suc n) ≡ true
first_below n = grind (arith, nat_tests)

found_below : {A : Type 0} (p : A → Bool) (xs : List A) → nat_lt (position_or_len p xs) (length xs) ≡ list_any p xs
found_below p [] = refl
found_below p (x ∷ xs) = by (found_below p xs) (p x)
  where
    by : nat_lt (position_or_len p xs) (length xs) ≡ list_any p xs → (b : Bool) → nat_lt (cond (not b) (1 + position_or_len p xs) 0) (suc (length xs)) ≡ (b || list_any p xs)
    by rest true = first_below (length xs)
    by rest false = next_below (position_or_len p xs) (length xs) ∙ rest

position_is : {A : Type 0} (p : A → Bool) (xs : List A) → position p xs ≡ cond (list_any p xs) (Some (position_or_len p xs)) None
position_is p xs = ap (λ t. cond t (Some (position_or_len p xs)) None) (found_below p xs)

none_found : {A : Type 0} (p : A → Bool) (xs : List A) → list_any p xs ≡ false → position p xs ≡ None
none_found p xs e = position_is p xs ∙ ap (λ t. cond t (Some (position_or_len p xs)) None) e

some_found : {A : Type 0} (p : A → Bool) (xs : List A) → list_any p xs ≡ true → is_some (position p xs) ≡ true
some_found p xs e = ap is_some (position_is p xs ∙ ap (λ t. cond t (Some (position_or_len p xs)) None) e)

-- the labels that are kept
abbrev kept : List Label → List Label
kept labels = filter (λ (p : Label). is_some p.1) labels

pub kept_first : (grids : List (List Grid1)) (labels : List Label) → NameFirst grids labels → NameFirst grids (kept labels)
kept_first grids [] h = tt
kept_first grids ((g, None) ∷ ps) h = kept_first grids ps h.1
kept_first grids ((g, Some n) ∷ ps) h = (h.0, kept_first grids ps h.1)

-- in how many grids
abbrev times : List Label → List ℤ → ℕ
times labels v = times_vector (map (λ (p : Label). p.0) labels) v

zero_more : (n : ℕ) → 0 + n ≡ n
zero_more n = omega arith

times_cons : (p : Label) (ps : List Label) (v : List ℤ) → times (p ∷ ps) v ≡ cond (has_vector p.0 v) 1 0 + times ps v
times_cons p ps v = count_cons (λ g. has_vector g v) p.0 (map (λ (p : Label). p.0) ps)

-- a vector that some generator has is in no grid that is dropped
held_times : (grids : List (List Grid1)) (labels : List Label) (v : List ℤ) → list_any (λ g. has_vector g v) grids ≡ true → NameFirst grids labels → times (kept labels) v ≡ times labels v
held_times grids [] v e h = refl
held_times grids ((g, Some n) ∷ ps) v e h =
    times_cons (g, Some n) (kept ps) v ∙ ap (λ m. cond (has_vector g v) 1 0 + m) (held_times grids ps v e h.1) ∙ sym (times_cons (g, Some n) ps v)
held_times grids ((g, None) ∷ ps) v e h = by (held_times grids ps v e h.1) (has_vector g v) refl
  where
    by : times (kept ps) v ≡ times ps v → (t : Bool) → has_vector g v ≡ t → times (kept ps) v ≡ times ((g, None) ∷ ps) v
    by rest true f = absurd (true≢false (sym (some_found (λ g. has_vector g v) grids e) ∙ ap is_some (sym (h.0 v f))))
    by rest false f =
        let none : cond (has_vector g v) 1 0 ≡ 0 = ap (λ t. cond t 1 0) f in
        let one = times_cons (g, None) ps v in
        rest ∙ sym (one ∙ ap (λ m. m + times ps v) none ∙ zero_more (times ps v))

-- a vector that none has is in no grid that is kept
free_any : (grids : List (List Grid1)) (labels : List Label) (v : List ℤ) → list_any (λ g. has_vector g v) grids ≡ false → NameFirst grids labels → list_any (λ (p : Label). has_vector p.0 v) (kept labels) ≡ false
free_any grids [] v e h = refl
free_any grids ((g, None) ∷ ps) v e h = free_any grids ps v e h.1
free_any grids ((g, Some n) ∷ ps) v e h = by (free_any grids ps v e h.1) (has_vector g v) refl
  where
    by : list_any (λ (p : Label). has_vector p.0 v) (kept ps) ≡ false → (t : Bool) → has_vector g v ≡ t → (has_vector g v || list_any (λ (p : Label). has_vector p.0 v) (kept ps)) ≡ false
    by rest true f = let name : Some n ≡ None = h.0 v f ∙ none_found (λ g. has_vector g v) grids e in cc
    by rest false f = ap (λ t. t || list_any (λ (p : Label). has_vector p.0 v) (kept ps)) f ∙ rest

pub held_covers : (frame : List Grid1) (grids : List (List Grid1)) (labels : List Label) → Covers frame labels → NameFirst grids labels → CoversHeld frame grids (kept labels)
held_covers frame grids labels c h v e = by (list_any (λ g. has_vector g v) grids) refl
  where
    by : (t : Bool) → list_any (λ g. has_vector g v) grids ≡ t → (times (kept labels) v ≡ 1) ⊎ ((list_any (λ g. has_vector g v) grids ≡ false) × (list_any (λ (p : Label). has_vector p.0 v) (kept labels) ≡ false))
    by true f = inl (held_times grids labels v f h ∙ c v e)
    by false f = inr (f, free_any grids labels v f h)

-- ---- the count of a frame without an index

pub void_count : (grids : List (List Grid1)) (frame : List Grid1) (greatest count : ℕ) → IsVoid frame → IsCanonicalCount grids 0 frame greatest count → (greatest ≤ 4096) × (count ≤ 64)
void_count grids [] greatest count h c = cc
void_count grids (a ∷ b ∷ g) greatest count h c = cc
void_count grids (a ∷ []) greatest count h c =
    let here : IsCanonicalCount grids 0 (a ∷ []) (max 0 0) (0 * 1) = and_axis 0 a [] 0 0 0 1 (at_end a.lo (void_axis a [] h).1) (no_axes 1) in
    let same = one_canonical grids 0 (a ∷ []) greatest count c (max 0 0) (0 * 1) here in
    let g = same.0 in
    let n = same.1 in
    (omega arith, omega arith)
