-- The bindings that make the two old indices are scoped, and their bases agree.
use Rattle.std.proofs.Common.{◌≡◌, ℕ, suc, ◌+◌, ◌<◌, ◌≤◌, ◌^◌, Bool, true, false, cond, eqb, List, [], ◌∷◌, ◌++◌, length, Option, Some, None, refl, sym, subst, ◌∙◌, arith}
use Rattle.std.specs.Prelude.{pos}
use Rattle.std.proofs.lemmas.Bool.{eq-eqb}
use Rattle.std.proofs.lemmas.Int.{ints}
use Rattle.std.proofs.lemmas.List.{length-append}
use Rattle.std.proofs.lemmas.List.Elements.{All-nil, All-cons}
use Rattle.sac_base.specs.declared.base.Base.{Base}
use Rattle.sac_base.specs.declared.base.Base.TheVariants.{Int}
use Rattle.sac_base.specs.Arrays.{IsArray, IsCell, IsWellTyped, scalar}
use Rattle.core_ir.specs.declared.tree.Var.{Var}
use Rattle.core_ir.specs.Binders.{is_in, bound_in}
use Rattle.core_ir.specs.Scopes.{AllIn, Scoped}
use Rattle.core_ir.specs.Terms.{PlainTerm, BlockTerm, LetTerm, Plain, chain}
use Rattle.core_ir.specs.WellFormed.{AllHave, Bases, BlockBases, Distinct, LiteralBase, base_of}
use Rattle.core_ir.proofs.Variables.{all_more, same_number}
use Rattle.core_loops.specs.merge_steps.Step.{IndicesMade, Picks}
use Rattle.core_forms.proofs.inlined_bodies.Names.{behind_first, clash, distinct_apart, in_none, itself, not_in}
use Rattle.core_forms.proofs.norm.Scopes.{Away, in_right}
use Rattle.core_forms.proofs.norm.Copies.{Inside}
use Rattle.core_forms.proofs.merge.Straight.{StraightLets, chain_append, straight_both}

-- ---- they are straight

picks_straight : (u : Var) (xs : List Var) (j : ℕ) (ls : List LetTerm) → Picks u j xs ls → StraightLets ls
picks_straight u [] j ls n = subst StraightLets (sym n) tt
picks_straight u (x ∷ xs) j ls n = let q = n.1.1.1.1 in subst StraightLets (sym q.0) (tt, (tt, picks_straight u xs (suc j) n.1.1.1.0 q.4))

abbrev pub ends : (u i l : Var) (n m : ℕ) (makes : List LetTerm) → IndicesMade u i l n m makes → List LetTerm
ends u i l n m makes h =
    record { targets = i ∷ []; site = h.first; right = Plain (PlainTerm.Literal h.front) } ∷ record { targets = l ∷ []; site = h.second; right = Plain (PlainTerm.Literal h.back) } ∷ []

pub makes_straight : (u i l : Var) (n m : ℕ) (makes : List LetTerm) → IndicesMade u i l n m makes → StraightLets makes
makes_straight u i l n m makes h =
    subst StraightLets (sym h.made) (straight_both h.picks (ends u i l n m makes h) (picks_straight u (h.front ++ h.back) 0 h.picks h.picked) (tt, (tt, tt)))

makes_whole : (u i l : Var) (n m : ℕ) (makes : List LetTerm) (h : IndicesMade u i l n m makes) (b : BlockTerm) → chain makes b ≡ chain h.picks (chain (ends u i l n m makes h) b)
makes_whole u i l n m makes h b = (λ k. chain (h.made k) b) ∙ chain_append h.picks (ends u i l n m makes h) b

-- ---- scopes

pub away_below : (xs ys wider : List Var) → Distinct (xs ++ ys) → Away (xs ++ ys) wider → Away ys (xs ++ wider)
away_below xs ys wider d h = λ y p. in_none y xs wider (not_in y xs (λ q. clash (is_in y ys) p (distinct_apart xs ys d y q))) (h y (in_right y xs ys p))

all_front : (xs ys w : List Var) → AllIn (xs ++ ys) w → AllIn xs w
all_front [] ys w h = tt
all_front (x ∷ xs) ys w h = (h.0, all_front xs ys w h.1)

all_back : (xs ys w : List Var) → AllIn (xs ++ ys) w → AllIn ys w
all_back [] ys w h = h
all_back (x ∷ xs) ys w h = all_back xs ys w h.1

picks_scoped :
    (u : Var) (xs : List Var) (j : ℕ) (ls : List LetTerm) (X : BlockTerm) (wider : List Var) → Picks u j xs ls → is_in u wider ≡ true → Distinct (bound_in (chain ls X)) → Away (bound_in (chain ls X)) wider
    → ((w : List Var) → Inside wider w → AllIn xs w → Distinct (bound_in X) → Away (bound_in X) w → Scoped w X) → Scoped wider (chain ls X)
picks_scoped u [] j ls X wider n at d w k =
    subst (λ (ms : List LetTerm). Scoped wider (chain ms X)) (sym n)
    (k wider (λ y h. h) tt (subst (λ (ms : List LetTerm). Distinct (bound_in (chain ms X))) n d) (subst (λ (ms : List LetTerm). Away (bound_in (chain ms X)) wider) n w))
picks_scoped u (x ∷ xs) j ls X wider n at d w k =
    let c = n.0 in
    let more = n.1.1.1.0 in
    let q = n.1.1.1.1 in
    let bound = bound_in (chain more X) in
    let dq : Distinct (c ∷ (x ∷ bound)) = subst (λ (ms : List LetTerm). Distinct (bound_in (chain ms X))) q.0 d in
    let wq : Away (c ∷ (x ∷ bound)) wider = subst (λ (ms : List LetTerm). Away (bound_in (chain ms X)) wider) q.0 w in
    let w1 : Away (x ∷ bound) (c ∷ wider) = away_below (c ∷ []) (x ∷ bound) wider dq wq in
    let w2 : Away bound (x ∷ (c ∷ wider)) = away_below (x ∷ []) bound (c ∷ wider) dq.1 w1 in
    subst (λ (ms : List LetTerm). Scoped wider (chain ms X)) (sym q.0) (
      tt,
      (wq c (itself c (x ∷ bound)), tt),
      (
        (behind_first u c wider at, (itself c wider, tt)),
        (w1 x (itself x bound), tt),
        picks_scoped u xs (suc j) more X (x ∷ (c ∷ wider)) q.4 (behind_first u x (c ∷ wider) (behind_first u c wider at)) dq.1.1 w2
            (λ v sub all e f. k v (λ y h. sub y (behind_first y x (c ∷ wider) (behind_first y c wider h))) (sub x (itself x (c ∷ wider)), all) e f),
      ),
    )

pub makes_scoped :
    (u i l : Var) (n m : ℕ) (makes : List LetTerm) (h : IndicesMade u i l n m makes) (b : BlockTerm) (wider : List Var) → is_in u wider ≡ true → Distinct (bound_in (chain makes b)) → Away (bound_in (chain makes b)) wider
    → ((w : List Var) → Inside wider w → Distinct (bound_in b) → Away (bound_in b) (l ∷ (i ∷ w)) → Scoped (l ∷ (i ∷ w)) b) → Scoped wider (chain makes b)
makes_scoped u i l n m makes h b wider at d w k =
    let whole = makes_whole u i l n m makes h b in
    let X = chain (ends u i l n m makes h) b in
    subst (Scoped wider) (sym whole)
    (picks_scoped u (h.front ++ h.back) 0 h.picks X wider h.picked at (subst (λ (c : BlockTerm). Distinct (bound_in c)) whole d) (subst (λ (c : BlockTerm). Away (bound_in c) wider) whole w)
    (λ v sub all e f.
    let f1 : Away (l ∷ bound_in b) (i ∷ v) = away_below (i ∷ []) (l ∷ bound_in b) v e f in (
      all_front h.front h.back v all,
      (f i (itself i (l ∷ bound_in b)), tt),
      (
        all_more h.back (i ∷ []) v (all_back h.front h.back v all),
        (f1 l (itself l (bound_in b)), tt),
        k v sub e.1.1 (away_below (l ∷ []) (bound_in b) (i ∷ v) e.1 f1),
      ),
    )))

-- ---- bases

-- the second has all bases of the first
abbrev pub Kept : Bases → Bases → Type 0
Kept g wider = (y : Var) (t : Base) → base_of g y ≡ Some t → base_of wider y ≡ Some t

-- none of the variables has a base
abbrev pub Baseless : List Var → Bases → Type 0
Baseless xs g = (y : Var) → is_in y xs ≡ true → base_of g y ≡ None

no_base : (g : Bases) (x : Var) (t : Base) → base_of g x ≡ None → base_of g x ≡ Some t → ⊥
no_base g x t p q = let r : ◌≡◌ {A = Option Base} None (Some t) = sym p ∙ q in cc

pub kept_one : (g : Bases) (c : Var) (u : Base) → base_of g c ≡ None → Kept g ((c, u) ∷ g)
kept_one g c u n y t h = go (eqb c.0 y.0) refl
  where
    go : (b : Bool) → eqb c.0 y.0 ≡ b → cond (eqb c.0 y.0) (Some u) (base_of g y) ≡ Some t
    go true e = absurd (no_base g c t n ((λ i. base_of g (same_number c y e i)) ∙ h))
    go false e = (λ i. cond (e i) (Some u) (base_of g y)) ∙ h

pub own_base : (g : Bases) (y : Var) (u : Base) → base_of ((y, u) ∷ g) y ≡ Some u
own_base g y u = λ i. cond (eq-eqb y.0 y.0 refl i) (Some u) (base_of g y)

-- bound variables that are new stay so below one of them
pub baseless_below : (x : Var) (ys : List Var) (u : Base) (g : Bases) → is_in x ys ≡ false → Baseless (x ∷ ys) g → Baseless ys ((x, u) ∷ g)
baseless_below x ys u g d f = λ y h. go y h (eqb x.0 y.0) refl
  where
    go : (y : Var) → is_in y ys ≡ true → (b : Bool) → eqb x.0 y.0 ≡ b → cond (eqb x.0 y.0) (Some u) (base_of g y) ≡ None
    go y h true e = clash (is_in x ys) ((λ i. is_in (same_number x y e i) ys) ∙ h) d
    go y h false e = (λ i. cond (e i) (Some u) (base_of g y)) ∙ f y (behind_first y x ys h)

fits_number : (j : ℕ) → j < 2 ^ 31 → IsCell Int (pos j)
fits_number j h = omega (arith, ints, h)

number_array : (j : ℕ) → j < 2 ^ 31 → IsArray (scalar Int (pos j)) × IsWellTyped (scalar Int (pos j))
number_array j h = (
  record { shape = record { rank = omega arith; each = All-nil (λ n. n < 2 ^ 31) }; most = omega arith; full = refl },
  All-cons (IsCell Int) (pos j) [] (fits_number j h) (All-nil (IsCell Int)),
)

number_step : (j n : ℕ) → j + suc n ≤ 2 ^ 31 → (j < 2 ^ 31) × (suc j + n ≤ 2 ^ 31)
number_step j n h = (omega (arith, h), omega (arith, h))

have_front : (g : Bases) (xs ys : List Var) → AllHave g (xs ++ ys) Int → AllHave g xs Int
have_front g [] ys h = tt
have_front g (x ∷ xs) ys h = (h.0, have_front g xs ys h.1)

have_back : (g : Bases) (xs ys : List Var) → AllHave g (xs ++ ys) Int → AllHave g ys Int
have_back g [] ys h = h
have_back g (x ∷ xs) ys h = have_back g xs ys h.1

have_kept : (g wider : Bases) → Kept g wider → (xs : List Var) → AllHave g xs Int → AllHave wider xs Int
have_kept g wider k [] h = tt
have_kept g wider k (x ∷ xs) h = (k x Int h.0, have_kept g wider k xs h.1)

row_base : (g : Bases) (xs : List Var) → AllHave g xs Int → LiteralBase g xs Int
row_base g [] h = refl
row_base g (x ∷ xs) h = h

module _ (core : Rattle.core_ir.specs.Terms.CoreTerm) where
  picks_bases :
      (u : Var) (xs : List Var) (j : ℕ) (ls : List LetTerm) (X : BlockTerm) (g : Bases) (ts : List Base) → Picks u j xs ls → j + length xs ≤ 2 ^ 31 → base_of g u ≡ Some Int → Distinct (bound_in (chain ls X))
      → Baseless (bound_in (chain ls X)) g → ((w : Bases) → Kept g w → AllHave w xs Int → Distinct (bound_in X) → Baseless (bound_in X) w → BlockBases core w X ts) → BlockBases core g (chain ls X) ts
  picks_bases u [] j ls X g ts n few at d w k =
      subst (λ (ms : List LetTerm). BlockBases core g (chain ms X) ts) (sym n)
      (k g (λ y t h. h) tt (subst (λ (ms : List LetTerm). Distinct (bound_in (chain ms X))) n d) (subst (λ (ms : List LetTerm). Baseless (bound_in (chain ms X)) g) n w))
  picks_bases u (x ∷ xs) j ls X g ts n few at d w k =
      let c = n.0 in
      let more = n.1.1.1.0 in
      let q = n.1.1.1.1 in
      let step = number_step j (length xs) few in
      let bound = bound_in (chain more X) in
      let dq : Distinct (c ∷ (x ∷ bound)) = subst (λ (ms : List LetTerm). Distinct (bound_in (chain ms X))) q.0 d in
      let wq : Baseless (c ∷ (x ∷ bound)) g = subst (λ (ms : List LetTerm). Baseless (bound_in (chain ms X)) g) q.0 w in
      let w1 : Baseless (x ∷ bound) ((c, Int) ∷ g) = baseless_below c (x ∷ bound) Int g dq.0 wq in
      let w2 : Baseless bound ((x, Int) ∷ ((c, Int) ∷ g)) = baseless_below x bound Int ((c, Int) ∷ g) dq.1.0 w1 in
      let k1 = kept_one g c Int (wq c (itself c (x ∷ bound))) in
      let k2 = kept_one ((c, Int) ∷ g) x Int (w1 x (itself x bound)) in
      subst (λ (ms : List LetTerm). BlockBases core g (chain ms X) ts) (sym q.0) (
        (Int ∷ []),
        (
          ((number_array j step.0).0, (number_array j step.0).1, refl),
          refl,
          (
            (Int ∷ []),
            (
              (Int, k1 u Int at, own_base g c Int, refl),
              refl,
              picks_bases u xs (suc j) more X ((x, Int) ∷ ((c, Int) ∷ g)) ts q.4 step.1 (k2 u Int (k1 u Int at)) dq.1.1 w2
                  (λ v sub all e f. k v (λ y t h. sub y t (k2 y t (k1 y t h))) (sub x Int (own_base ((c, Int) ∷ g) x Int), all) e f),
            ),
          ),
        ),
      )

  pub makes_bases :
      (u i l : Var) (n m : ℕ) (makes : List LetTerm) (h : IndicesMade u i l n m makes) (b : BlockTerm) (g : Bases) (ts : List Base) → n + m ≤ 2 ^ 31 → base_of g u ≡ Some Int → Distinct (bound_in (chain makes b))
      → Baseless (bound_in (chain makes b)) g
      → ((w : Bases) → Kept g w → Distinct (bound_in b) → Baseless (bound_in b) ((l, Int) ∷ ((i, Int) ∷ w)) → BlockBases core ((l, Int) ∷ ((i, Int) ∷ w)) b ts) → BlockBases core g (chain makes b) ts
  makes_bases u i l n m makes h b g ts few at d w k =
      let whole = makes_whole u i l n m makes h b in
      let X = chain (ends u i l n m makes h) b in
      subst (λ (c : BlockTerm). BlockBases core g c ts) (sym whole)
      (picks_bases u (h.front ++ h.back) 0 h.picks X g ts h.picked (omega (arith, length-append h.front h.back, h.in_front, h.behind, few)) at (subst (λ (c : BlockTerm). Distinct (bound_in c)) whole d)
      (subst (λ (c : BlockTerm). Baseless (bound_in c) g) whole w)
      (λ v sub all e f.
      let f1 : Baseless (l ∷ bound_in b) ((i, Int) ∷ v) = baseless_below i (l ∷ bound_in b) Int v e.0 f in
      let k1 = kept_one v i Int (f i (itself i (l ∷ bound_in b))) in (
        (Int ∷ []),
        (
          (Int, row_base v h.front (have_front v h.front h.back all), refl),
          refl,
          (
            (Int ∷ []),
            (
              (Int, row_base ((i, Int) ∷ v) h.back (have_kept v ((i, Int) ∷ v) k1 h.back (have_back v h.front h.back all)), refl),
              refl,
              k v sub e.1.1 (baseless_below l (bound_in b) Int ((i, Int) ∷ v) e.1.0 f1),
            ),
          ),
        ),
      )))
