-- Grids of a loop joined with those of the loops in its cells.
use Rattle.std.proofs.Common.{◌≡◌, ℕ, zero, suc, ◌+◌, ◌<◌, ◌≤◌, Bool, true, false, ◌&&◌, cond, List, [], ◌∷◌, ◌++◌, map, length, take, drop, get_or, All, AllPairs, refl, sym, ap, ◌∙◌, arith}
use Rattle.std.specs.Prelude.{ℤ}
use Rattle.std.proofs.lemmas.List.Elements.{All-head, All-tail}
use Rattle.std.proofs.lemmas.List.Sums.{sum_by-cons}
use Rattle.sac_base.specs.declared.grid.Grid1.{Grid1}
use Rattle.sac_base.specs.Grids.{AreDisjoint, has_index, has_vector, times_vector}
use Rattle.core_ir.specs.WellFormed.{Covered, Fit}
use Rattle.core_facts.proofs.Settle.{has_length}
use Rattle.core_forms.proofs.norm.Grids.{splits_cover, splits_fit}
use Rattle.core_forms.specs.merge.Laws.{joined_grids}

-- ---- disjoint grids that cover a frame

-- in how many of the grids the vector is, by turns
abbrev counted : List (List Grid1) → List ℤ → ℕ
counted [] v = 0
counted (g ∷ gs) v = cond (has_vector g v) 1 0 + counted gs v

times_counted : (gs : List (List Grid1)) (v : List ℤ) → times_vector gs v ≡ counted gs v
times_counted [] v = refl
times_counted (g ∷ gs) v = sum_by-cons (λ (p : List Grid1). cond (has_vector p v) 1 0) g gs ∙ ap (λ n. cond (has_vector g v) 1 0 + n) (times_counted gs v)

rest_apart : (g : List Grid1) (gs : List (List Grid1)) → AllPairs AreDisjoint (g ∷ gs) → AllPairs AreDisjoint gs
rest_apart g gs h = λ i j d l m. h (suc i) (suc j) d (omega (arith, l)) (omega (arith, m))

first_apart : (g : List Grid1) (gs : List (List Grid1)) → AllPairs AreDisjoint (g ∷ gs) → All (AreDisjoint g) gs
first_apart g gs h = λ j d l. h 0 (suc j) d (omega arith) (omega (arith, l))

nought : (n : ℕ) → 0 + n ≡ n
nought n = omega arith

none_else : (g : List Grid1) (v : List ℤ) → has_vector g v ≡ true → (gs : List (List Grid1)) → All (AreDisjoint g) gs → counted gs v ≡ 0
none_else g v e [] h = refl
none_else g v e (k ∷ gs) h =
    let out : has_vector k v ≡ false = (λ i. sym e i && has_vector k v) ∙ All-head (AreDisjoint g) k gs h v in
    (λ i. cond (out i) 1 0 + counted gs v) ∙ nought (counted gs v) ∙ none_else g v e gs (All-tail (AreDisjoint g) k gs h)

abbrev Inside : List Grid1 → List (List Grid1) → Type 0
Inside frame gs = All (λ (g : List Grid1). (index : List ℤ) → has_vector g index ≡ true → has_vector frame index ≡ true) gs

outside : (frame : List Grid1) (v : List ℤ) → has_vector frame v ≡ false → (gs : List (List Grid1)) → Inside frame gs → counted gs v ≡ 0
outside frame v e [] h = refl
outside frame v e (g ∷ gs) h =
    (λ i. cond (out (has_vector g v) refl i) 1 0 + counted gs v) ∙ nought (counted gs v)
    ∙ outside frame v e gs (All-tail (λ (g : List Grid1). (index : List ℤ) → has_vector g index ≡ true → has_vector frame index ≡ true) g gs h)
  where
    out : (b : Bool) → has_vector g v ≡ b → has_vector g v ≡ false
    out true q = absurd (let z : true ≡ false = sym (All-head (λ (g : List Grid1). (index : List ℤ) → has_vector g index ≡ true → has_vector frame index ≡ true) g gs h v q) ∙ e in cc)
    out false q = q

there_once : (v : List ℤ) (gs : List (List Grid1)) → AllPairs AreDisjoint gs → (i : ℕ) (g : List Grid1) → i < length gs → get_or gs i g ≡ g → has_vector g v ≡ true → counted gs v ≡ 1
there_once v [] h i g l e q = absurd (omega (arith, l))
there_once v (k ∷ gs) h zero g l e q =
    let own : has_vector k v ≡ true = (λ i. has_vector (e i) v) ∙ q in
    (λ i. cond (own i) 1 0 + counted gs v) ∙ ap (λ n. 1 + n) (none_else k v own gs (first_apart k gs h))
there_once v (k ∷ gs) h (suc i) g l e q = go (has_vector k v) refl (there_once v gs (rest_apart k gs h) i g (omega (arith, l)) e q)
  where
    go : (b : Bool) → has_vector k v ≡ b → counted gs v ≡ 1 → cond (has_vector k v) 1 0 + counted gs v ≡ 1
    go true p r = absurd (let z : 0 ≡ 1 = sym (none_else k v p gs (first_apart k gs h)) ∙ r in cc)
    go false p r = (λ i. cond (p i) 1 0 + counted gs v) ∙ nought (counted gs v) ∙ r

fit_counts : (frame : List Grid1) (gs : List (List Grid1)) → Fit frame gs → Covered frame gs → (v : List ℤ) → counted gs v ≡ cond (has_vector frame v) 1 0
fit_counts frame gs f c v = go (has_vector frame v) refl
  where
    go : (b : Bool) → has_vector frame v ≡ b → counted gs v ≡ cond (has_vector frame v) 1 0
    go true e = let w = c v e in there_once v gs f.apart w.1.0.0 w.0 w.1.0.1 w.1.0.2 w.1.1 ∙ sym (λ i. cond (e i) 1 0)
    go false e = outside frame v e gs f.inside ∙ sym (λ i. cond (e i) 1 0)

-- ---- joined grids

and_assoc : (a b c : Bool) → (a && (b && c)) ≡ ((a && b) && c)
and_assoc true b c = refl
and_assoc false b c = refl

pub split_has : (f g : List Grid1) (x : List ℤ) → has_vector (f ++ g) x ≡ (has_vector f (take (length f) x) && has_vector g (drop (length f) x))
split_has [] g x = refl
split_has (a ∷ f) g [] = refl
split_has (a ∷ f) g (z ∷ x) = ap (λ b. has_index a z && b) (split_has f g x) ∙ and_assoc (has_index a z) (has_vector f (take (length f) x)) (has_vector g (drop (length f) x))

taken_short : (n m : ℕ) (x : List ℤ) → length (take n x) ≡ m → m ≤ n
taken_short zero m x e = omega (arith, e)
taken_short (suc n) m [] e = omega (arith, e)
taken_short (suc n) zero (z ∷ x) e = omega arith
taken_short (suc n) (suc m) (z ∷ x) e = let r = taken_short n m x (omega (arith, e)) in omega (arith, r)

-- a grid in a frame, joined with another, has what begins with a member of its own
join_has : (frame h g : List Grid1) (x : List ℤ) → ((v : List ℤ) → has_vector h v ≡ true → has_vector frame v ≡ true)
    → has_vector (h ++ g) x ≡ (has_vector h (take (length frame) x) && has_vector g (drop (length frame) x))
join_has frame h g x inside = split_has h g x ∙ go (has_vector h (take (length h) x)) refl
  where
    same : (v : List ℤ) → has_vector h v ≡ true → length h ≡ length frame
    same v e = sym (has_length h v e) ∙ has_length frame v (inside v e)

    out : has_vector h (take (length h) x) ≡ false → (b : Bool) → has_vector h (take (length frame) x) ≡ b → has_vector h (take (length frame) x) ≡ false
    out e true q = absurd (let z : true ≡ false = sym q ∙ (λ i. has_vector h (take (sym (same (take (length frame) x) q) i) x)) ∙ e in cc)
    out e false q = q

    go : (b : Bool) → has_vector h (take (length h) x) ≡ b
        → (has_vector h (take (length h) x) && has_vector g (drop (length h) x)) ≡ (has_vector h (take (length frame) x) && has_vector g (drop (length frame) x))
    go true e = λ i. has_vector h (take (same (take (length h) x) e i) x) && has_vector g (drop (same (take (length h) x) e i) x)
    go false e = (λ i. e i && has_vector g (drop (length h) x)) ∙ sym (λ i. out e (has_vector h (take (length frame) x)) refl i && has_vector g (drop (length frame) x))

counted_both : (gs ks : List (List Grid1)) (v : List ℤ) → counted (gs ++ ks) v ≡ counted gs v + counted ks v
counted_both [] ks v = sym (nought (counted ks v))
counted_both (g ∷ gs) ks v = ap (λ n. cond (has_vector g v) 1 0 + n) (counted_both gs ks v) ∙ more (cond (has_vector g v) 1 0) (counted gs v) (counted ks v)
  where
    more : (a b c : ℕ) → a + (b + c) ≡ (a + b) + c
    more a b c = omega arith

module _ (frame inner : List Grid1) (x : List ℤ) where
  abbrev front : List ℤ
  front = take (length frame) x

  abbrev back : List ℤ
  back = drop (length frame) x

  joined_one : (h : List Grid1) → ((v : List ℤ) → has_vector h v ≡ true → has_vector frame v ≡ true) → (gs : List (List Grid1))
      → counted (map (λ (g : List Grid1). h ++ g) gs) x ≡ cond (has_vector h front) (counted gs back) 0
  joined_one h inside [] = zeros (has_vector h front)
    where
      zeros : (b : Bool) → ◌≡◌ {A = ℕ} 0 (cond b 0 0)
      zeros true = refl
      zeros false = refl
  joined_one h inside (g ∷ gs) =
      (λ i. cond (join_has frame h g x inside i) 1 0 + joined_one h inside gs i) ∙ go (has_vector h front)
    where
      go : (b : Bool) → ◌≡◌ {A = ℕ} (cond (b && has_vector g back) 1 0 + cond b (counted gs back) 0) (cond b (cond (has_vector g back) 1 0 + counted gs back) 0)
      go true = refl
      go false = refl

  abbrev outer : List (List Grid1 × List (List Grid1)) → List (List Grid1)
  outer pairs = map (λ (p : List Grid1 × List (List Grid1)). p.0) pairs

  abbrev Fits : List Grid1 × List (List Grid1) → Type 0
  Fits p = Fit inner p.1 × Covered inner p.1

  -- so many outer grids have the front, and the inner frame has the back or not
  joined_all : (b : Bool) → has_vector inner back ≡ b → (pairs : List (List Grid1 × List (List Grid1))) → Inside frame (outer pairs) → All Fits pairs
      → counted (joined_grids pairs) x ≡ cond b (counted (outer pairs) front) 0
  joined_all true e [] h k = refl
  joined_all false e [] h k = refl
  joined_all b e (p ∷ ps) h k =
      let own = All-head (λ (g : List Grid1). (index : List ℤ) → has_vector g index ≡ true → has_vector frame index ≡ true) p.0 (outer ps) h in
      let fits = All-head Fits p ps k in
      counted_both (map (λ (g : List Grid1). p.0 ++ g) p.1) (joined_grids ps) x
      ∙ (λ i. joined_one p.0 own p.1 i + joined_all b e ps (All-tail (λ (g : List Grid1). (index : List ℤ) → has_vector g index ≡ true → has_vector frame index ≡ true) p.0 (outer ps) h) (All-tail Fits p ps k) i)
      ∙ (λ i. cond (has_vector p.0 front) (within i) 0 + cond b (counted (outer ps) front) 0)
      ∙ both (has_vector p.0 front) b (counted (outer ps) front)
    where
      within : counted p.1 back ≡ cond b 1 0
      within = fit_counts inner p.1 (All-head Fits p ps k).0 (All-head Fits p ps k).1 back ∙ (λ i. cond (e i) 1 0)

      both : (a b : Bool) (n : ℕ) → ◌≡◌ {A = ℕ} (cond a (cond b 1 0) 0 + cond b n 0) (cond b (cond a 1 0 + n) 0)
      both true true n = refl
      both true false n = refl
      both false true n = refl
      both false false n = refl

  pub joined_splits : (pairs : List (List Grid1 × List (List Grid1))) → Fit frame (outer pairs) → Covered frame (outer pairs) → All Fits pairs
      → times_vector (joined_grids pairs) x ≡ cond (has_vector (frame ++ inner) x) 1 0
  joined_splits pairs f c k =
      times_counted (joined_grids pairs) x
      ∙ joined_all (has_vector inner back) refl pairs f.inside k
      ∙ (λ i. cond (has_vector inner back) (fit_counts frame (outer pairs) f c front i) 0)
      ∙ go (has_vector frame front) (has_vector inner back)
      ∙ sym (λ i. cond (split_has frame inner x i) 1 0)
    where
      go : (a b : Bool) → ◌≡◌ {A = ℕ} (cond b (cond a 1 0) 0) (cond (a && b) 1 0)
      go true true = refl
      go true false = refl
      go false true = refl
      go false false = refl

pub joined_fit : (frame inner : List Grid1) (pairs : List (List Grid1 × List (List Grid1))) → Fit frame (map (λ (p : List Grid1 × List (List Grid1)). p.0) pairs)
    → Covered frame (map (λ (p : List Grid1 × List (List Grid1)). p.0) pairs) → All (λ (p : List Grid1 × List (List Grid1)). Fit inner p.1 × Covered inner p.1) pairs
    → Fit (frame ++ inner) (joined_grids pairs) × Covered (frame ++ inner) (joined_grids pairs)
joined_fit frame inner pairs f c k =
    (splits_fit (frame ++ inner) (joined_grids pairs) (λ x. joined_splits frame inner x pairs f c k), splits_cover (frame ++ inner) (joined_grids pairs) (λ x. joined_splits frame inner x pairs f c k))
