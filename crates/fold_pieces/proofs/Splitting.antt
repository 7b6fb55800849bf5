-- The pieces that are kept split the grid.
use Rattle.std.proofs.Common.{◌≡◌, ℕ, zero, suc, ◌+◌, ◌<◌, ◌&&◌, ◌||◌, Bool, true, false, cond, List, [], ◌∷◌, length, get_or, refl, sym, ap, ◌∙◌, arith, ℤ}
use Rattle.std.specs.Prelude.{filter, Contains}
use Rattle.std.specs.List.{All, list_all, list_any}
use Rattle.std.proofs.lemmas.List.Elements.{All-head, All-tail}
use Rattle.std.proofs.lemmas.List.Sums.{sum_by-cons}
use Rattle.sac_base.specs.declared.grid.Grid1.{Grid1}
use Rattle.sac_base.specs.WithLoops.{Axis}
use Rattle.sac_base.specs.Grids.{has_index, has_vector, within, members, times_vector, SplitsVectors}
use Rattle.core_ir.specs.WellFormed.{Covered}
use Rattle.core_loops.proofs.index_facts.Members.{member_has}
use Rattle.core_loops.specs.Loops.{axis_of, grid_range}
use Rattle.core_loops.specs.Pairs.{all_moved_back, box_range}
use Rattle.generator_sets.specs.Pieces.{in_box, moved, IsUniformVector}
use Rattle.fold_pieces.specs.Pieces.{is_held, is_kept}
use Rattle.fold_pieces.specs.Cuts.{IsInside}
use Rattle.fold_pieces.proofs.Evenness.{Even, held_same}

both : (b c : Bool) → b ≡ true → c ≡ true → (b && c) ≡ true
both b c p q = (λ i. p i && c) ∙ q

parts : (b c : Bool) → (b && c) ≡ true → (b ≡ true) × (c ≡ true)
parts true c h = (refl, h)
parts false c h = absurd (let e : ◌≡◌ {A = Bool} false true = h in cc)

never : {P : Type 0} (b : Bool) → b ≡ true → b ≡ false → P
never b p q = absurd (let e : true ≡ false = sym p ∙ q in cc)

-- ---- what the grid has lies in the box

same_head : {A : Type 0} (x y : A) (xs ys : List A) → x ∷ xs ≡ y ∷ ys → x ≡ y
same_head x y xs ys e = ap (λ zs. get_or zs 0 x) e

same_tail : {A : Type 0} (x y : A) (xs ys : List A) → x ∷ xs ≡ y ∷ ys → xs ≡ ys
same_tail x y xs ys e = ap (Rattle.std.specs.Prelude.drop 1) e

index_within : (g : Grid1) (x : ℤ) → has_index g x ≡ true → within g.lo g.hi x ≡ true
unfolding has_index
index_within g x h = (parts (within g.lo g.hi x) _ h).0

boxed : (box grid : List Grid1) (v : List ℤ) → grid_range box ≡ box_range grid → has_vector grid v ≡ true → in_box box v ≡ true
boxed [] [] [] e h = refl
boxed [] [] (x ∷ v) e h = never false h refl
boxed [] (g ∷ gs) v e h = cc
boxed (b ∷ bs) [] v e h = cc
boxed (b ∷ bs) (g ∷ gs) [] e h = never false h refl
boxed (b ∷ bs) (g ∷ gs) (x ∷ v) e h =
    let w = parts (has_index g x) (has_vector gs v) h in
    let first = same_head (axis_of b) _ (grid_range bs) (box_range gs) e in
    both (within b.lo b.hi x) (in_box bs v)
    ((λ i. within (ap (λ (a : Axis). a.lower) first i) (ap (λ (a : Axis). a.upper) first i) x) ∙ index_within g x w.0)
    (boxed bs gs v (same_tail (axis_of b) _ (grid_range bs) (box_range gs) e) w.1)

-- ---- members are held

any_of : (grids : List (List Grid1)) (w : List ℤ) (k : ℕ) (g : List Grid1) → k < length grids → get_or grids k g ≡ g → has_vector g w ≡ true
    → list_any (λ h. has_vector h w) grids ≡ true
any_of [] w k g low at h = absurd (omega (arith, low))
any_of (f ∷ fs) w zero g low at h = (λ i. has_vector (at i) w || list_any (λ h. has_vector h w) fs) ∙ (λ i. h i || list_any (λ h. has_vector h w) fs)
any_of (f ∷ fs) w (suc k) g low at h = go (has_vector f w) (any_of fs w k g (omega (arith, low)) at h)
  where
    go : (b : Bool) → list_any (λ h. has_vector h w) fs ≡ true → (b || list_any (λ h. has_vector h w) fs) ≡ true
    go true e = refl
    go false e = e

member_held : (frame grid : List Grid1) (grids : List (List Grid1)) (at : List (List ℤ)) → Covered frame grids → IsInside frame grid at → (v : List ℤ)
    → has_vector grid v ≡ true → is_held grids at v ≡ true
member_held frame grid grids [] cover inside v h = refl
member_held frame grid grids (c ∷ cs) cover inside v h =
    let P = λ (c : List ℤ). list_all (λ v. has_vector frame (moved v c)) (members grid) ≡ true in
    let there = member_has (λ v. has_vector frame (moved v c)) grid v (All-head P c cs inside) h in
    let found = cover (moved v c) there in
    both (list_any (λ g. has_vector g (moved v c)) grids) (is_held grids cs v) (any_of grids (moved v c) found.1.0.0 found.0 found.1.0.1 found.1.0.2 found.1.1)
    (member_held frame grid grids cs cover (All-tail P c cs inside) v h)

-- ---- the kept pieces

module _ (grid : List Grid1) (grids : List (List Grid1)) (at : List (List ℤ)) where
  abbrev All-even : List Grid1 → Type 0
  All-even p = IsUniformVector (grid ∷ all_moved_back at grids) p

  kept_same : (p : List Grid1) → All-even p → (v : List ℤ) → has_vector p v ≡ true → is_kept grid grids at p ≡ (has_vector grid v && is_held grids at v)
  kept_same p e v h =
      let here = All-head (Even p) grid (all_moved_back at grids) e v h in
      let held = held_same p grids at (All-tail (Even p) grid (all_moved_back at grids) e) v h in
      λ i. sym here i && sym held i

  -- one piece more
  count_one : (k b : Bool) (n : ℕ) (p : List Grid1) (ps : List (List Grid1)) (v : List ℤ) → has_vector p v ≡ b → (b ≡ true → k ≡ true) → times_vector (filter (is_kept grid grids at) ps) v ≡ n
      → times_vector (cond k (p ∷ filter (is_kept grid grids at) ps) (filter (is_kept grid grids at) ps)) v ≡ cond b 1 0 + n
  count_one true b n p ps v h f e = sum_by-cons (λ q. cond (has_vector q v) 1 0) p (filter (is_kept grid grids at) ps) ∙ (λ i. cond (h i) 1 0 + e i)
  count_one false true n p ps v h f e = never false (f refl) refl
  count_one false false n p ps v h f e = e ∙ (let z : n ≡ 0 + n = omega arith in z)

  kept_yes : (ps : List (List Grid1)) → All All-even ps → (v : List ℤ) → has_vector grid v ≡ true → is_held grids at v ≡ true
      → times_vector (filter (is_kept grid grids at) ps) v ≡ times_vector ps v
  kept_yes [] e v g h = refl
  kept_yes (p ∷ ps) e v g h =
      count_one (is_kept grid grids at p) (has_vector p v) (times_vector ps v) p ps v refl
      (λ t. kept_same p (All-head All-even p ps e) v t ∙ both (has_vector grid v) (is_held grids at v) g h)
      (kept_yes ps (All-tail All-even p ps e) v g h)
      ∙ sym (sum_by-cons (λ q. cond (has_vector q v) 1 0) p ps)

  none_one : (k b : Bool) (p : List Grid1) (ps : List (List Grid1)) (v : List ℤ) → has_vector p v ≡ b → (b ≡ true → k ≡ false) → times_vector (filter (is_kept grid grids at) ps) v ≡ 0
      → times_vector (cond k (p ∷ filter (is_kept grid grids at) ps) (filter (is_kept grid grids at) ps)) v ≡ 0
  none_one false b p ps v h f e = e
  none_one true true p ps v h f e = never true refl (f refl)
  none_one true false p ps v h f e = sum_by-cons (λ q. cond (has_vector q v) 1 0) p (filter (is_kept grid grids at) ps) ∙ (λ i. cond (h i) 1 0 + e i)

  kept_no : (ps : List (List Grid1)) → All All-even ps → (v : List ℤ) → has_vector grid v ≡ false → times_vector (filter (is_kept grid grids at) ps) v ≡ 0
  kept_no [] e v g = refl
  kept_no (p ∷ ps) e v g =
      none_one (is_kept grid grids at p) (has_vector p v) p ps v refl (λ t. kept_same p (All-head All-even p ps e) v t ∙ (λ i. g i && is_held grids at v))
      (kept_no ps (All-tail All-even p ps e) v g)

  pub kept_split : (frame box : List Grid1) (ps : List (List Grid1)) → Covered frame grids → IsInside frame grid at → grid_range box ≡ box_range grid
      → SplitsVectors ps (in_box box) → All All-even ps → SplitsVectors (filter (is_kept grid grids at) ps) (has_vector grid)
  kept_split frame box ps cover inside range split even v = go (has_vector grid v) refl
    where
      go : (b : Bool) → has_vector grid v ≡ b → times_vector (filter (is_kept grid grids at) ps) v ≡ cond b 1 0
      go true h = kept_yes ps even v h (member_held frame grid grids at cover inside v h) ∙ split v ∙ ap (λ b. cond b 1 0) (boxed box grid v range h)
      go false h = kept_no ps even v h
