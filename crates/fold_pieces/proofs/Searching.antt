-- Turns of the searches for what holds a vector.
use Rattle.std.proofs.Common.{◌≡◌, ℕ, zero, suc, ◌+◌, ◌<◌, ◌≤◌, ◌&&◌, ◌||◌, Bool, true, false, List, [], ◌∷◌, ◌++◌, length, drop, get_or, refl, sym, ap, subst, ◌∙◌, arith, ℤ, append_assoc, append-nil}
use Rattle.std.specs.Prelude.{Vec}
use Rattle.std.specs.List.{list_any}
use Rattle.std.specs.declared.alloc.Global.{Global}
use Rattle.std.proofs.lemmas.List.{drop_more, drop_all}
use Rattle.sac_base.specs.declared.grid.Grid1.{Grid1}
use Rattle.sac_base.specs.Grids.{has_vector}
use Rattle.generator_sets.specs.Pieces.{moved}
use Rattle.fold_pieces.specs.Pieces.{vectors, is_held, HasFirst, HaveFirst}

pub next_is : {X : Type 0} (xs : List X) (i : ℕ) (x : X) → i < length xs → x ≡ get_or xs i x → drop i xs ≡ x ∷ drop (i + 1) xs
next_is xs i x low is = drop_more xs i x low ∙ ap (λ y. y ∷ drop (i + 1) xs) (sym is)

abbrev any_has : List (List Grid1) → List ℤ → Bool
any_has grids w = list_any (λ g. has_vector g w) grids

any_first : (grids : List (List Grid1)) (w : List ℤ) (j : ℕ) → HasFirst grids w j → any_has grids w ≡ true
any_first [] w j h = absurd h
any_first (g ∷ gs) w zero h = λ i. h i || any_has gs w
any_first (g ∷ gs) w (suc j) h = (λ i. h.0 i || any_has gs w) ∙ any_first gs w j h.1

-- ---- one vector

-- the grids before the i-th do not have it
pub record Beyond (grids : List (List Grid1)) (w : List ℤ) (i : ℕ) : Type 0 where
  pub on : (j : ℕ) → HasFirst (drop i grids) w j → HasFirst grids w (i + j)
  pub any : any_has grids w ≡ any_has (drop i grids) w

pub beyond_start : (grids : List (List Grid1)) (w : List ℤ) → Beyond grids w 0
beyond_start grids w = record {
  on = λ j h. subst (HasFirst grids w) (let e : j ≡ 0 + j = omega arith in e) h;
  any = refl;
}

module _ (grids : List (List Grid1)) (w : List ℤ) (i : ℕ) (x : List Grid1) (low : i < length grids) (is : x ≡ get_or grids i x) (before : Beyond grids w i) where
  pub beyond_more : false ≡ has_vector x w → Beyond grids w (i + 1)
  beyond_more h = record {
    on = λ j f.
        subst (HasFirst grids w) (let e : i + suc j ≡ (i + 1) + j = omega arith in e)
        (before.on (suc j) (subst (λ gs. HasFirst gs w (suc j)) (sym (next_is grids i x low is)) (sym h, f)));
    any = before.any ∙ ap (λ gs. any_has gs w) (next_is grids i x low is) ∙ (λ k. sym h k || any_has (drop (i + 1) grids) w);
  }

  pub beyond_hit : true ≡ has_vector x w → HasFirst grids w i
  beyond_hit h =
      subst (HasFirst grids w) (let e : i + 0 ≡ i = omega arith in e) (before.on 0 (subst (λ gs. HasFirst gs w 0) (sym (next_is grids i x low is)) (sym h)))

pub beyond_end : (grids : List (List Grid1)) (w : List ℤ) (i : ℕ) → length grids ≤ i → Beyond grids w i → any_has grids w ≡ false
beyond_end grids w i past before = before.any ∙ ap (λ gs. any_has gs w) (drop_all i grids past)

-- ---- a vector moved by several

-- what the rest is held by, behind what is found, the whole is held by
pub record SoFar (grids : List (List Grid1)) (v : List ℤ) (at rest : List (List ℤ)) (js : List ℕ) : Type 0 where
  pub on : (ks : List ℕ) → HaveFirst grids v rest ks → HaveFirst grids v at (js ++ ks)
  pub held : is_held grids at v ≡ is_held grids rest v

pub so_start : (grids : List (List Grid1)) (v : List ℤ) (at : List (List ℤ)) → SoFar grids v at at []
so_start grids v at = record { on = λ ks h. h; held = refl }

module _ (grids : List (List Grid1)) (v : List ℤ) (offsets : List (Vec ℤ Global)) (i : ℕ) (x : Vec ℤ Global) (js : List ℕ) (low : i < length offsets) (is : x ≡ get_or offsets i x)
    (before : SoFar grids v (vectors offsets) (vectors (drop i offsets)) js) where
  pub so_more : (j : ℕ) (new : List ℕ) → HasFirst grids (moved v x.items) j → new ≡ js ++ j ∷ [] → SoFar grids v (vectors offsets) (vectors (drop (i + 1) offsets)) new
  so_more j new h e = record {
    on = λ ks f.
        subst (HaveFirst grids v (vectors offsets)) (sym (append_assoc js (j ∷ []) ks) ∙ ap (λ l. l ++ ks) (sym e))
        (before.on (j ∷ ks) (subst (λ rest. HaveFirst grids v (vectors rest) (j ∷ ks)) (sym (next_is offsets i x low is)) (h, f)));
    held = before.held ∙ ap (λ rest. is_held grids (vectors rest) v) (next_is offsets i x low is) ∙ (λ k. any_first grids (moved v x.items) j h k && is_held grids (vectors (drop (i + 1) offsets)) v);
  }

  pub so_none : any_has grids (moved v x.items) ≡ false → is_held grids (vectors offsets) v ≡ false
  so_none h = before.held ∙ ap (λ rest. is_held grids (vectors rest) v) (next_is offsets i x low is) ∙ (λ k. h k && is_held grids (vectors (drop (i + 1) offsets)) v)

pub so_end : (grids : List (List Grid1)) (v : List ℤ) (offsets : List (Vec ℤ Global)) (i : ℕ) (js : List ℕ) → length offsets ≤ i
    → SoFar grids v (vectors offsets) (vectors (drop i offsets)) js → HaveFirst grids v (vectors offsets) js
so_end grids v offsets i js past before =
    subst (HaveFirst grids v (vectors offsets)) (append-nil js) (before.on [] (subst (λ rest. HaveFirst grids v (vectors rest) []) (sym (drop_all i offsets past)) tt))

-- numbers for all vectors hold
pub have_held : (grids : List (List Grid1)) (v : List ℤ) (at : List (List ℤ)) (js : List ℕ) → HaveFirst grids v at js → is_held grids at v ≡ true
have_held grids v [] [] h = refl
have_held grids v [] (j ∷ js) h = absurd h
have_held grids v (c ∷ cs) [] h = absurd h
have_held grids v (c ∷ cs) (j ∷ js) h = (λ i. any_first grids (moved v c) j h.0 i && is_held grids cs v) ∙ have_held grids v cs js h.1
