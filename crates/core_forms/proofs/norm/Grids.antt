-- Grids into which a frame is split fit the frame, and so do some of them.
use Rattle.std.proofs.Common.{◌≡◌, ℕ, suc, ◌+◌, ◌≤◌, Bool, true, false, ◌&&◌, cond, List, [], ◌∷◌, map, All, Option, refl, ◌∙◌, arith, ℤ}
use Rattle.std.specs.Prelude.{AllPairs, Contains, filter}
use Rattle.std.proofs.lemmas.List.Elements.{All-nil, All-cons}
use Rattle.std.proofs.lemmas.List.Kept.{AllPairs-cons}
use Rattle.std.proofs.lemmas.List.Sums.{sum_by-cons}
use Rattle.sac_base.specs.declared.grid.Grid1.{Grid1}
use Rattle.sac_base.specs.Grids.{AreDisjoint, SplitsVectors, has_vector, times_vector}
use Rattle.core_ir.specs.WellFormed.{Covered, Fit}

-- each vector is in one grid at most, and in none where the set has it not
abbrev pub AtMost : (List ℤ → Bool) → List (List Grid1) → Type 0
AtMost set gs = (v : List ℤ) → times_vector gs v ≤ cond (set v) 1 0

pub times_cons : (g : List Grid1) (gs : List (List Grid1)) (v : List ℤ) → times_vector (g ∷ gs) v ≡ cond (has_vector g v) 1 0 + times_vector gs v
times_cons g gs v = sum_by-cons (λ (p : List Grid1). cond (has_vector p v) 1 0) g gs

less : (n a t m : ℕ) → n ≡ a + t → n ≤ m → t ≤ m
less n a t m p q = omega (arith, p, q)

rest_at_most : (set : List ℤ → Bool) (g : List Grid1) (gs : List (List Grid1)) → AtMost set (g ∷ gs) → AtMost set gs
rest_at_most set g gs h v = less (times_vector (g ∷ gs) v) (cond (has_vector g v) 1 0) (times_vector gs v) (cond (set v) 1 0) (times_cons g gs v) (h v)

one_more : (g : List Grid1) (gs : List (List Grid1)) (v : List ℤ) → has_vector g v ≡ true → times_vector (g ∷ gs) v ≡ 1 + times_vector gs v
one_more g gs v e = times_cons g gs v ∙ (λ i. cond (e i) 1 0 + times_vector gs v)

none : (n t : ℕ) → n ≡ 1 + t → n ≤ 0 → ⊥
none n t p q = omega (arith, p, q)

only : (n t : ℕ) → n ≡ 1 + t → n ≤ 1 → t ≡ 0
only n t p q = omega (arith, p, q)

inside_one : (set : List ℤ → Bool) (g : List Grid1) (gs : List (List Grid1)) → AtMost set (g ∷ gs) → (v : List ℤ) → has_vector g v ≡ true → set v ≡ true
inside_one set g gs h v e = go (set v) refl (h v)
  where
    go : (b : Bool) → set v ≡ b → times_vector (g ∷ gs) v ≤ cond b 1 0 → b ≡ true
    go true p l = refl
    go false p l = absurd (none (times_vector (g ∷ gs) v) (times_vector gs v) (one_more g gs v e) l)

alone : (set : List ℤ → Bool) (g : List Grid1) (gs : List (List Grid1)) → AtMost set (g ∷ gs) → (v : List ℤ) → has_vector g v ≡ true → times_vector gs v ≡ 0
alone set g gs h v e = go (set v) (h v)
  where
    go : (b : Bool) → times_vector (g ∷ gs) v ≤ cond b 1 0 → times_vector gs v ≡ 0
    go true l = only (times_vector (g ∷ gs) v) (times_vector gs v) (one_more g gs v e) l
    go false l = absurd (none (times_vector (g ∷ gs) v) (times_vector gs v) (one_more g gs v e) l)

zero_rest : (n a t : ℕ) → n ≡ a + t → n ≡ 0 → t ≡ 0
zero_rest n a t p q = omega (arith, p, q)

all_apart : (g : List Grid1) (gs : List (List Grid1)) → ((v : List ℤ) → has_vector g v ≡ true → times_vector gs v ≡ 0) → All (AreDisjoint g) gs
all_apart g [] f = All-nil (AreDisjoint g)
all_apart g (h ∷ gs) f =
    All-cons (AreDisjoint g) h gs (λ v. apart v (has_vector g v) refl)
    (all_apart g gs (λ v e. zero_rest (times_vector (h ∷ gs) v) (cond (has_vector h v) 1 0) (times_vector gs v) (times_cons h gs v) (f v e)))
  where
    not_there : (v : List ℤ) → has_vector g v ≡ true → (b : Bool) → has_vector h v ≡ b → b ≡ false
    not_there v e true p = absurd (none (times_vector (h ∷ gs) v) (times_vector gs v) (one_more h gs v p) (let q = f v e in omega (arith, q)))
    not_there v e false p = refl

    apart : (v : List ℤ) (b : Bool) → has_vector g v ≡ b → (b && has_vector h v) ≡ false
    apart v true e = not_there v e (has_vector h v) refl
    apart v false e = refl

pub fit : (frame : List Grid1) (gs : List (List Grid1)) → AtMost (has_vector frame) gs → Fit frame gs
fit frame gs h = record { apart = pairs gs h; inside = within gs h }
  where
    pairs : (gs : List (List Grid1)) → AtMost (has_vector frame) gs → AllPairs AreDisjoint gs
    pairs [] h = λ i j d l m. absurd (omega (arith, l, m))
    pairs (g ∷ gs) h = AllPairs-cons AreDisjoint g gs (all_apart g gs (alone (has_vector frame) g gs h)) (pairs gs (rest_at_most (has_vector frame) g gs h))

    within : (gs : List (List Grid1)) → AtMost (has_vector frame) gs → All (λ (g : List Grid1). (index : List ℤ) → has_vector g index ≡ true → has_vector frame index ≡ true) gs
    within [] h = All-nil (λ (g : List Grid1). (index : List ℤ) → has_vector g index ≡ true → has_vector frame index ≡ true)
    within (g ∷ gs) h =
        All-cons (λ (g : List Grid1). (index : List ℤ) → has_vector g index ≡ true → has_vector frame index ≡ true) g gs (inside_one (has_vector frame) g gs h) (within gs (rest_at_most (has_vector frame) g gs h))

pub same_most : (n m : ℕ) → n ≡ m → n ≤ m
same_most n m p = omega (arith, p)

pub splits_fit : (frame : List Grid1) (gs : List (List Grid1)) → SplitsVectors gs (has_vector frame) → Fit frame gs
splits_fit frame gs h = fit frame gs (λ v. same_most (times_vector gs v) (cond (has_vector frame v) 1 0) (h v))

-- ---- the grid of a vector

pub later_one : (gs : List (List Grid1)) (h : List Grid1) (v : List ℤ) → ((g : List Grid1) × (Contains gs g × (has_vector g v ≡ true))) → (g : List Grid1) × (Contains (h ∷ gs) g × (has_vector g v ≡ true))
later_one gs h v w = let c = w.1.0 in let l = c.1 in (w.0, ((suc c.0, omega (arith, l), c.2), w.1.1))

pub some : (n a t : ℕ) → a ≡ 0 → n ≡ a + t → 1 ≤ n → 1 ≤ t
some n a t z p q = omega (arith, z, p, q)

pub grid_of : (gs : List (List Grid1)) (v : List ℤ) → 1 ≤ times_vector gs v → (g : List Grid1) × (Contains gs g × (has_vector g v ≡ true))
grid_of [] v l = absurd (omega arith)
grid_of (h ∷ gs) v l = go (has_vector h v) refl (λ k. grid_of gs v k)
  where
    go : (b : Bool) → has_vector h v ≡ b → (1 ≤ times_vector gs v → (g : List Grid1) × (Contains gs g × (has_vector g v ≡ true))) → (g : List Grid1) × (Contains (h ∷ gs) g × (has_vector g v ≡ true))
    go true e rec = (h, ((0, omega arith, refl), e))
    go false e rec = later_one gs h v (rec (some (times_vector (h ∷ gs) v) (cond (has_vector h v) 1 0) (times_vector gs v) (λ i. cond (e i) 1 0) (times_cons h gs v) l))

pub splits_cover : (frame : List Grid1) (gs : List (List Grid1)) → SplitsVectors gs (has_vector frame) → Covered frame gs
splits_cover frame gs h v e = grid_of gs v (at_least (times_vector gs v) (h v ∙ (λ i. cond (e i) 1 0)))
  where
    at_least : (n : ℕ) → n ≡ 1 → 1 ≤ n
    at_least n p = omega (arith, p)

-- ---- some of the grids

more_than : (n a t m : ℕ) → n ≡ a + t → m ≤ t → m ≤ n
more_than n a t m p q = omega (arith, p, q)

both_more : (n k a t u : ℕ) → n ≡ a + t → k ≡ a + u → u ≤ t → k ≤ n
both_more n k a t u p q l = omega (arith, p, q, l)

abbrev grids : List (List Grid1 × Option ℕ) → List (List Grid1)
grids labels = map (λ (p : List Grid1 × Option ℕ). p.0) labels

fewer : (keep : List Grid1 × Option ℕ → Bool) (labels : List (List Grid1 × Option ℕ)) (v : List ℤ) → times_vector (grids (filter keep labels)) v ≤ times_vector (grids labels) v
fewer keep [] v = omega arith
fewer keep (p ∷ ps) v = go (keep p) refl (fewer keep ps v)
  where
    go : (b : Bool) → keep p ≡ b → times_vector (grids (filter keep ps)) v ≤ times_vector (grids ps) v → times_vector (grids (cond b (p ∷ filter keep ps) (filter keep ps))) v ≤ times_vector (grids (p ∷ ps)) v
    go true e l = both_more (times_vector (grids (p ∷ ps)) v) (times_vector (p.0 ∷ grids (filter keep ps)) v) (cond (has_vector p.0 v) 1 0) (times_vector (grids ps) v) (times_vector (grids (filter keep ps)) v) (times_cons p.0 (grids ps) v) (times_cons p.0 (grids (filter keep ps)) v) l
    go false e l = more_than (times_vector (grids (p ∷ ps)) v) (cond (has_vector p.0 v) 1 0) (times_vector (grids ps) v) (times_vector (grids (filter keep ps)) v) (times_cons p.0 (grids ps) v) l

up_to : (a b c : ℕ) → a ≤ b → b ≡ c → a ≤ c
up_to a b c p q = omega (arith, p, q)

pub some_fit : (frame : List Grid1) (labels : List (List Grid1 × Option ℕ)) (keep : List Grid1 × Option ℕ → Bool) → SplitsVectors (grids labels) (has_vector frame) → Fit frame (grids (filter keep labels))
some_fit frame labels keep h = fit frame (grids (filter keep labels)) (λ v. up_to (times_vector (grids (filter keep labels)) v) (times_vector (grids labels) v) (cond (has_vector frame v) 1 0) (fewer keep labels v) (h v))
