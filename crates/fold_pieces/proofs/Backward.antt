-- Grids that are moved back, and grids of the same numbers.
use Rattle.std.proofs.Common.{◌≡◌, ℕ, suc, ◌+◌, ◌<◌, ◌≤◌, ◌++◌, length, append_assoc, append-nil, ◌&&◌, Bool, true, false, List, [], ◌∷◌, map, get_or, drop, refl, sym, ap, subst, ◌∙◌, arith, inl, inr, ℤ, pos, ◌+ℤ◌, ◌≤ℤ◌}
use Rattle.std.specs.Prelude.{◌-ℤ◌, unsigned_abs, nat_lt, ◌%◌, Vec}
use Rattle.std.specs.declared.alloc.Global.{Global}
use Rattle.std.proofs.lemmas.List.{drop_all}
use Rattle.std.proofs.Math.Dec.{T_prop}
use Rattle.std.proofs.lemmas.Int.{ints}
use Rattle.sac_base.specs.declared.grid.Grid1.{Grid1}
use Rattle.sac_base.specs.Grids.{has_index, has_vector}
use Rattle.sac_base.specs.WithLoops.{Axis}
use Rattle.sac_base.proofs.GridFacts.{has_facts}
use Rattle.core_loops.specs.Loops.{axis_of, grid_range}
use Rattle.core_loops.specs.Pairs.{moved_back, all_moved_back}
use Rattle.generator_sets.specs.Pieces.{moved}
use Rattle.fold_pieces.specs.Pieces.{axis_back, vectors}
use Rattle.fold_pieces.proofs.Searching.{next_is}

never : (b : Bool) → b ≡ true → b ≡ false → ⊥
never b p q = let e : true ≡ false = sym p ∙ q in cc

-- ---- members

abbrev phase_in : ℕ → ℕ → ℕ → Bool
phase_in n s w = nat_lt (n % s) w

index_back : (c : ℤ) (g : Grid1) (x : ℤ) → has_index (axis_back c g) x ≡ has_index g (x +ℤ c)
index_back c g x = elim (has_facts (axis_back c g) x g.wide) [
  | inl a ↦ elim (has_facts g (x +ℤ c) g.wide) [
    | inl b ↦
        let e : x -ℤ (g.lo -ℤ c) ≡ (x +ℤ c) -ℤ g.lo = omega (arith, ints) in
        a.2 ∙ ap (λ z. phase_in (unsigned_abs z) (unsigned_abs g.step) (unsigned_abs g.width)) e ∙ sym b.2
    | inr n ↦ absurd (let l = a.0 in let h = a.1 in elim n.0 [ inl k ↦ omega (arith, ints) | inr k ↦ omega (arith, ints) ])
  ]
  | inr m ↦ elim (has_facts g (x +ℤ c) g.wide) [
    | inl b ↦ absurd (let l = b.0 in let h = b.1 in elim m.0 [ inl k ↦ omega (arith, ints) | inr k ↦ omega (arith, ints) ])
    | inr n ↦ m.1 ∙ sym n.1
  ]
]

-- a grid that is moved back has what the grid has of the moved
pub vector_back : (c : List ℤ) (g : List Grid1) (v : List ℤ) → has_vector (moved_back c g) v ≡ has_vector g (moved v c)
vector_back [] g [] = refl
vector_back [] g (x ∷ v) = refl
vector_back (c ∷ cs) [] [] = refl
vector_back (c ∷ cs) [] (x ∷ v) = refl
vector_back (c ∷ cs) (a ∷ g) [] = refl
vector_back (c ∷ cs) (a ∷ g) (x ∷ v) = λ i. index_back c a x i && vector_back cs g v i

length_back : (c : List ℤ) (g : List Grid1) → length (moved_back c g) ≡ length g
length_back [] g = refl
length_back (c ∷ cs) [] = refl
length_back (c ∷ cs) (a ∷ g) = ap suc (length_back cs g)

pub few_back : (c : List ℤ) (g done new : List Grid1) → new ≡ done ++ moved_back c g → done ≡ [] → length g ≤ 8 → length new ≤ 8
few_back c g done new e d h = subst (λ l. length l ≤ 8) (sym (e ∙ (λ i. d i ++ moved_back c g))) (subst (λ n. n ≤ 8) (sym (length_back c g)) h)

pub moved_turn : (grids : List (List Grid1)) (offsets : List (Vec ℤ Global)) (i : ℕ) (x : Vec ℤ Global) (all new whole : List (List Grid1)) → i < length offsets → x ≡ get_or offsets i x
    → new ≡ all ++ map (moved_back x.items) grids → all ++ all_moved_back (vectors (drop i offsets)) grids ≡ whole → new ++ all_moved_back (vectors (drop (i + 1) offsets)) grids ≡ whole
moved_turn grids offsets i x all new whole low is e h =
    let rest = all_moved_back (vectors (drop (i + 1) offsets)) grids in
    ap (λ l. l ++ rest) e ∙ append_assoc all (map (moved_back x.items) grids) rest
    ∙ ap (λ l. all ++ all_moved_back (vectors l) grids) (sym (next_is offsets i x low is)) ∙ h

pub moved_end : (grids : List (List Grid1)) (offsets : List (Vec ℤ Global)) (i : ℕ) (all whole : List (List Grid1)) → length offsets ≤ i
    → all ++ all_moved_back (vectors (drop i offsets)) grids ≡ whole → all ≡ whole
moved_end grids offsets i all whole past h = sym (append-nil all) ∙ ap (λ l. all ++ all_moved_back (vectors l) grids) (sym (drop_all i offsets past)) ∙ h

-- ---- grids of the same numbers

same_head : {A : Type 0} (x y : A) (xs ys : List A) → x ∷ xs ≡ y ∷ ys → x ≡ y
same_head x y xs ys e = ap (λ zs. get_or zs 0 x) e

same_tail : {A : Type 0} (x y : A) (xs ys : List A) → x ∷ xs ≡ y ∷ ys → xs ≡ ys
same_tail x y xs ys e = ap (drop 1) e

one_proof : (a b : ℤ) (p q : a ≤ℤ b) → p ≡ q
one_proof a b p q = λ i. record { le = T_prop _ p.le q.le i }

abbrev made : (lo hi step width : ℤ) → pos 1 ≤ℤ step → pos 1 ≤ℤ width → Grid1
made lo hi step width s w = record { lo = lo; hi = hi; step = step; width = width; steps = s; wide = w }

same_step : (lo hi s t w : ℤ) (x : pos 1 ≤ℤ s) (y : pos 1 ≤ℤ t) (q : pos 1 ≤ℤ w) → s ≡ t → made lo hi s w x q ≡ made lo hi t w y q
same_step lo hi s t w x y q e =
    subst (λ u. (z : pos 1 ≤ℤ u) → made lo hi s w x q ≡ made lo hi u w z q) e (λ z. ap (λ v. made lo hi s w v q) (one_proof (pos 1) s x z)) y

same_width : (lo hi s v w : ℤ) (x : pos 1 ≤ℤ s) (p : pos 1 ≤ℤ v) (q : pos 1 ≤ℤ w) → v ≡ w → made lo hi s v x p ≡ made lo hi s w x q
same_width lo hi s v w x p q e =
    subst (λ u. (z : pos 1 ≤ℤ u) → made lo hi s v x p ≡ made lo hi s u x z) e (λ z. ap (λ y. made lo hi s v x y) (one_proof (pos 1) v p z)) q

pub same_axis : (g h : Grid1) → axis_of g ≡ axis_of h → g ≡ h
same_axis g h e =
    (λ i. made (e i).lower (e i).upper g.step g.width g.steps g.wide)
    ∙ same_step h.lo h.hi g.step h.step g.width g.steps h.steps g.wide (ap (λ (a : Axis). a.step) e)
    ∙ same_width h.lo h.hi h.step g.width h.width h.steps g.wide h.wide (ap (λ (a : Axis). a.width) e)

pub same_grid : (g h : List Grid1) → grid_range g ≡ grid_range h → g ≡ h
same_grid [] [] e = refl
same_grid [] (b ∷ h) e = cc
same_grid (a ∷ g) [] e = cc
same_grid (a ∷ g) (b ∷ h) e =
    let first = same_axis a b (same_head (axis_of a) (axis_of b) (grid_range g) (grid_range h) e) in
    let others = same_grid g h (same_tail (axis_of a) (axis_of b) (grid_range g) (grid_range h) e) in
    λ i. first i ∷ others i
