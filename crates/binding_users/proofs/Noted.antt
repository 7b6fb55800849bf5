-- Bindings that may use a variable, by what is noted.
use Rattle.std.proofs.Common.{◌≡◌, ℕ, zero, suc, ◌+◌, ◌<◌, ◌≤◌, Bool, true, false, eqb, cond, List, [], ◌∷◌, ◌++◌, map, length, take, get_or, Option, Some, None, refl, sym, ap, subst, ◌∙◌, ◌⊎◌, inl, inr, arith}
use Rattle.std.specs.Prelude.{nat_eq, slice_get, slice_set, unwrap_or}
use Rattle.std.specs.HashMap.{get, HashMap}
use Rattle.std.specs.Option.{option_map}
use Rattle.std.proofs.lemmas.Bool.{eqb-true}
use Rattle.std.proofs.lemmas.Bool.Decides.{eqb_tells}
use Rattle.std.proofs.lemmas.List.{take_more}
use Rattle.std.proofs.lemmas.Option.{slice_get-get_or, slice_get-map, slice_get_within}
use Rattle.core_ir.specs.declared.tree.Var.{Var}
use Rattle.core_ir.specs.declared.tree.Let.{Let}
use Rattle.core_ir.specs.Terms.{LetTerm, RightTerm}
use Rattle.core_ir.specs.View.{let_term, right_term}
use Rattle.core_ir.specs.Uses.{AvoidsAll, AvoidsRight}
use Rattle.binding_users.specs.declared.users.Place.{Place}
use Rattle.binding_users.specs.declared.users.Place.TheVariants as noted
use Rattle.binding_users.specs.declared.users.Users.{Users}
use Rattle.binding_users.specs.Users.{may_use, AreUsers, Covers, Grows, OthersAvoid}
use Rattle.binding_users.proofs.Avoided.{joined}

never : (b : Bool) → b ≡ true → b ≡ false → ⊥
never b p q = let r : true ≡ false = sym p ∙ q in let w : ⊥ = cc in w

-- ---- places in lists

front_get : (ls ks : List LetTerm) (p : ℕ) (l : LetTerm) → slice_get ls p ≡ Some l → slice_get (ls ++ ks) p ≡ Some l
front_get [] ks p l e = absurd (let q : ◌≡◌ {A = Option LetTerm} None (Some l) = e in cc)
front_get (m ∷ ls) ks zero l e = e
front_get (m ∷ ls) ks (suc p) l e = front_get ls ks p l e

map_both : (ls ks : List Let) → map let_term (ls ++ ks) ≡ map let_term ls ++ map let_term ks
map_both [] ks = refl
map_both (l ∷ ls) ks = ap (λ ms. let_term l ∷ ms) (map_both ls ks)

set_get : (ls : List Let) (place : ℕ) (new : Let) (p : ℕ) (l : LetTerm) → slice_get (map let_term (slice_set ls place new)) p ≡ Some l → ((p ≡ place) × (l ≡ let_term new)) ⊎ (slice_get (map let_term ls) p ≡ Some l)
set_get [] place new p l e = inr e
set_get (x ∷ xs) zero new zero l e = inl (refl, sym (ap (λ (o : Option LetTerm). unwrap_or o l) e))
set_get (x ∷ xs) zero new (suc p) l e = inr e
set_get (x ∷ xs) (suc place) new zero l e = inr e
set_get (x ∷ xs) (suc place) new (suc p) l e = elim (set_get xs place new p l e) [
  | inl w ↦ inl (ap suc w.0, w.1)
  | inr w ↦ inr w
]

map_length : (xs : List Let) → length (map let_term xs) ≡ length xs
map_length [] = refl
map_length (x ∷ xs) = ap suc (map_length xs)

-- ---- one use more

pub here_one : (p : ℕ) → may_use (Some (noted.One p)) p ≡ true
here_one p = eqb_same p
  where
    eqb_same : (n : ℕ) → eqb n n ≡ true
    eqb_same n = elim (eqb_tells n n) [
      | inl w ↦ w.0
      | inr w ↦ absurd (w.1 refl)
    ]

module _ {S : Type 0} where
  pub grows_first : (m : HashMap ℕ Place S) → Grows m m
  grows_first m x p h = h

  pub grows_on : (m n o : HashMap ℕ Place S) → Grows m n → Grows n o → Grows m o
  grows_on m n o g h x p e = g x p (h x p e)

  -- an entry in the place of another
  pub noted_grows : (m n : HashMap ℕ Place S) (x : Var) (old : Option Place) (new : Place) → ((q : ℕ) → get nat_eq n q ≡ cond (nat_eq x.0 q) (Some new) (get nat_eq m q)) → old ≡ get nat_eq m x.0 →
      ((p : ℕ) → may_use (Some new) p ≡ false → may_use old p ≡ false) → Grows m n
  noted_grows m n x old new writes is each y p e = go (eqb x.0 y.0) refl
    where
      go : (b : Bool) → eqb x.0 y.0 ≡ b → may_use (get nat_eq m y.0) p ≡ false
      go true t =
          let now : may_use (Some new) p ≡ false = (λ i. may_use (cond (sym t i) (Some new) (get nat_eq m y.0)) p) ∙ ap (λ o. may_use o p) (sym (writes y.0)) ∙ e in
          (λ i. may_use (get nat_eq m (sym (eqb-true x.0 y.0 t) i)) p) ∙ ap (λ o. may_use o p) (sym is) ∙ each p now
      go false t = (λ i. may_use (cond (sym t i) (Some new) (get nat_eq m y.0)) p) ∙ ap (λ o. may_use o p) (sym (writes y.0)) ∙ e

  pub noted_here : (m n : HashMap ℕ Place S) (x : Var) (new : Place) (p : ℕ) → ((q : ℕ) → get nat_eq n q ≡ cond (nat_eq x.0 q) (Some new) (get nat_eq m q)) → may_use (Some new) p ≡ true → may_use (get nat_eq n x.0) p ≡ true
  noted_here m n x new p writes h =
      ap (λ o. may_use o p) (writes x.0) ∙ (λ i. may_use (cond (here_one x.0 i) (Some new) (get nat_eq m x.0)) p) ∙ h

  -- ---- the uses of a right side

  pub uses_turn :
      (m n : HashMap ℕ Place S) (xs : List Var) (i : ℕ) (d : Var) (place : ℕ) → i < length xs → Grows m n → may_use (get nat_eq n (get_or xs i d).0) place ≡ true →
      ((y : Var) → may_use (get nat_eq m y.0) place ≡ false → AvoidsAll y (take i xs)) → (y : Var) → may_use (get nat_eq n y.0) place ≡ false → AvoidsAll y (take (i + 1) xs)
  uses_turn m n xs i d place lt grows here so_far y e =
      subst (AvoidsAll y) (sym (take_more xs i d lt)) (joined y (take i xs) (get_or xs i d ∷ []) (so_far y (grows y place e)) (go (eqb y.0 (get_or xs i d).0) refl, tt))
    where
      go : (b : Bool) → eqb y.0 (get_or xs i d).0 ≡ b → eqb y.0 (get_or xs i d).0 ≡ false
      go false t = t
      go true t = absurd (never (may_use (get nat_eq n (get_or xs i d).0) place) here ((λ j. may_use (get nat_eq n (sym (eqb-true y.0 (get_or xs i d).0 t) j)) place) ∙ e))

  -- ---- all bindings

  -- up to this place
  abbrev pub CoversTo : HashMap ℕ Place S → List LetTerm → ℕ → Type 0
  CoversTo m lets i = (x : Var) (p : ℕ) (l : LetTerm) → p < i → slice_get lets p ≡ Some l → may_use (get nat_eq m x.0) p ≡ false → AvoidsRight x l.right

  pub covers_first : (m : HashMap ℕ Place S) (lets : List LetTerm) → CoversTo m lets 0
  covers_first m lets x p l h e f = absurd (omega (arith, h))

  pub covers_turn :
      (m n : HashMap ℕ Place S) (ls : List Let) (i : ℕ) (l : Let) → i < length ls → l ≡ get_or ls i l → Grows m n → ((x : Var) → may_use (get nat_eq n x.0) i ≡ false → AvoidsRight x (right_term l.right)) →
      CoversTo m (map let_term ls) i → CoversTo n (map let_term ls) (i + 1)
  covers_turn m n ls i l lt is grows own so_far x p k h e f = elim (eqb_tells p i) [
    | inl w ↦ subst (λ (t : LetTerm). AvoidsRight x t.right) (here w.1) (own x ((λ j. may_use (get nat_eq n x.0) (sym w.1 j)) ∙ f))
    | inr w ↦ so_far x p k (before w.1) e (grows x p f)
  ]
    where
      before : (p ≡ i → ⊥) → p < i
      before n = omega (arith, h, n)

      found : slice_get (map let_term ls) i ≡ Some (let_term l)
      found = slice_get-map let_term ls i ∙ ap (option_map let_term) (slice_get-get_or ls i l lt ∙ (λ j. Some (sym is j)))

      here : p ≡ i → let_term l ≡ k
      here q = ap (λ (o : Option LetTerm). unwrap_or o (let_term l)) (sym found ∙ (λ j. slice_get (map let_term ls) (sym q j)) ∙ e)

  pub covers_end : (m : HashMap ℕ Place S) (ls : List Let) (i : ℕ) → length ls ≤ i → CoversTo m (map let_term ls) i → Covers m (map let_term ls)
  covers_end m ls i over h x p l e f = h x p l (below p (length (map let_term ls)) (length ls) i (slice_get_within (map let_term ls) p l e) (map_length ls) over) e f
    where
      below : (a b c d : ℕ) → a < b → b ≡ c → c ≤ d → a < d
      below a b c d h e k = omega (arith, h, e, k)

  covers_less : (m : HashMap ℕ Place S) (ls ks : List Let) → Covers m (map let_term (ls ++ ks)) → Covers m (map let_term ls)
  covers_less m ls ks h x p l e f = h x p l (ap (λ ms. slice_get ms p) (map_both ls ks) ∙ front_get (map let_term ls) (map let_term ks) p l e) f

  covers_set :
      (m n : HashMap ℕ Place S) (ls : List Let) (place : ℕ) (new : Let) → Grows m n → ((x : Var) → may_use (get nat_eq n x.0) place ≡ false → AvoidsRight x (right_term new.right)) → Covers m (map let_term ls) →
      Covers n (map let_term (slice_set ls place new))
  covers_set m n ls place new grows own h x p l e f = elim (set_get ls place new p l e) [
    | inl w ↦ subst (λ (t : LetTerm). AvoidsRight x t.right) (sym w.1) (own x ((λ j. may_use (get nat_eq n x.0) (sym w.0 j)) ∙ f))
    | inr w ↦ h x p l w (grows x p f)
  ]

  -- ---- what is noted of one variable

  pub noted_none : (m : HashMap ℕ Place S) (lets : List LetTerm) (x : Var) → Covers m lets → None ≡ get nat_eq m x.0 → (q : ℕ) (l : LetTerm) → slice_get lets q ≡ Some l → AvoidsRight x l.right
  noted_none m lets x h e q l g = h x q l g (ap (λ o. may_use o q) (sym e))

  pub noted_one : (m : HashMap ℕ Place S) (lets : List LetTerm) (x : Var) (place : ℕ) → Covers m lets → Some (noted.One place) ≡ get nat_eq m x.0 → OthersAvoid x lets place
  noted_one m lets x place h e q l g n = h x q l g (ap (λ o. may_use o q) (sym e) ∙ differ)
    where
      differ : eqb place q ≡ false
      differ = elim (eqb_tells place q) [
        | inl w ↦ absurd (n w.1)
        | inr w ↦ w.0
      ]

-- ---- the noted uses of a block

pub users_less : (u : Users) (ls ks : List Let) → AreUsers u (map let_term (ls ++ ks)) → AreUsers u (map let_term ls)
users_less u ls ks h k = covers_less u.places ls ks (h k)

pub users_set :
    (u v : Users) (ls : List Let) (place : ℕ) (new : Let) → v.are_noted ≡ u.are_noted → Grows u.places v.places → ((x : Var) → may_use (get nat_eq v.places x.0) place ≡ false → AvoidsRight x (right_term new.right)) →
    AreUsers u (map let_term ls) → AreUsers v (map let_term (slice_set ls place new))
users_set u v ls place new same grows own h k = covers_set u.places v.places ls place new grows own (h (sym same ∙ k))

-- all uses of a right side were noted
pub uses_end : (xs used : List Var) (i : ℕ) (first : List Var) → length xs ≤ i → xs ≡ first ++ used → first ≡ [] → take i xs ≡ used
uses_end xs used i first over e f = all_taken xs i over ∙ e ∙ ap (λ ys. ys ++ used) f
  where
    all_taken : (ys : List Var) (n : ℕ) → length ys ≤ n → take n ys ≡ ys
    all_taken [] zero h = refl
    all_taken [] (suc n) h = refl
    all_taken (y ∷ ys) zero h = absurd (omega (arith, h))
    all_taken (y ∷ ys) (suc n) h = ap (λ zs. y ∷ zs) (all_taken ys n (omega (arith, h)))
