-- Pieces that each grid has as a whole or not at all, and what holds them.
use Rattle.std.proofs.Common.{◌≡◌, ℕ, zero, suc, ◌&&◌, ◌||◌, true, List, [], ◌∷◌, ◌++◌, map, refl, sym, ◌∙◌, ℤ}
use Rattle.std.specs.List.{All, list_any}
use Rattle.std.proofs.lemmas.List.Elements.{All-head, All-tail}
use Rattle.sac_base.specs.declared.grid.Grid1.{Grid1}
use Rattle.sac_base.specs.Grids.{has_vector}
use Rattle.core_loops.specs.Pairs.{moved_back, all_moved_back}
use Rattle.generator_sets.specs.Pieces.{lows, moved}
use Rattle.fold_pieces.specs.Pieces.{HasFirst, HaveFirst, is_held}
use Rattle.fold_pieces.proofs.Backward.{vector_back}

-- a generator has all of a piece or nothing
abbrev pub Even : List Grid1 → List Grid1 → Type 0
Even p g = (v : List ℤ) → has_vector p v ≡ true → has_vector g v ≡ has_vector g (lows p)

-- each grid has both vectors or neither
abbrev Same : List (List Grid1) → List ℤ → List ℤ → Type 0
Same [] a b = Unit {0}
Same (g ∷ gs) a b = (has_vector g a ≡ has_vector g b) × Same gs a b

first_same : (grids : List (List Grid1)) (a b : List ℤ) (j : ℕ) → Same grids a b → HasFirst grids b j → HasFirst grids a j
first_same [] a b j s h = absurd h
first_same (g ∷ gs) a b zero s h = s.0 ∙ h
first_same (g ∷ gs) a b (suc j) s h = (s.0 ∙ h.0, first_same gs a b j s.1 h.1)

any_same : (grids : List (List Grid1)) (a b : List ℤ) → Same grids a b → list_any (λ g. has_vector g a) grids ≡ list_any (λ g. has_vector g b) grids
any_same [] a b s = refl
any_same (g ∷ gs) a b s = λ i. s.0 i || any_same gs a b s.1 i

module _ (p : List Grid1) where
  even_here : (c : List ℤ) (grids rest : List (List Grid1)) → All (Even p) (map (moved_back c) grids ++ rest) → (v : List ℤ) → has_vector p v ≡ true
      → Same grids (moved v c) (moved (lows p) c)
  even_here c [] rest e v h = tt
  even_here c (g ∷ gs) rest e v h = (
    sym (vector_back c g v) ∙ All-head (Even p) (moved_back c g) (map (moved_back c) gs ++ rest) e v h ∙ vector_back c g (lows p),
    even_here c gs rest (All-tail (Even p) (moved_back c g) (map (moved_back c) gs ++ rest) e) v h,
  )

  even_behind : (c : List ℤ) (grids rest : List (List Grid1)) → All (Even p) (map (moved_back c) grids ++ rest) → All (Even p) rest
  even_behind c [] rest e = e
  even_behind c (g ∷ gs) rest e = even_behind c gs rest (All-tail (Even p) (moved_back c g) (map (moved_back c) gs ++ rest) e)

  -- what holds the first vector holds all
  pub have_first : (grids : List (List Grid1)) (at : List (List ℤ)) (js : List ℕ) → All (Even p) (all_moved_back at grids) → HaveFirst grids (lows p) at js
      → (v : List ℤ) → has_vector p v ≡ true → HaveFirst grids v at js
  have_first grids [] [] e f v h = tt
  have_first grids [] (j ∷ js) e f v h = absurd f
  have_first grids (c ∷ cs) [] e f v h = absurd f
  have_first grids (c ∷ cs) (j ∷ js) e f v h = (
    first_same grids (moved v c) (moved (lows p) c) j (even_here c grids (all_moved_back cs grids) e v h) f.0,
    have_first grids cs js (even_behind c grids (all_moved_back cs grids) e) f.1 v h,
  )

  pub held_same : (grids : List (List Grid1)) (at : List (List ℤ)) → All (Even p) (all_moved_back at grids) → (v : List ℤ) → has_vector p v ≡ true
      → is_held grids at v ≡ is_held grids at (lows p)
  held_same grids [] e v h = refl
  held_same grids (c ∷ cs) e v h =
      let here = any_same grids (moved v c) (moved (lows p) c) (even_here c grids (all_moved_back cs grids) e v h) in
      let rest = held_same grids cs (even_behind c grids (all_moved_back cs grids) e) v h in
      λ i. here i && rest i
