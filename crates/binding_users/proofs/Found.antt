-- The one binding that uses a variable.
use Rattle.std.proofs.Common.{◌≡◌, ℕ, zero, suc, ◌+◌, ◌<◌, ◌≤◌, Bool, true, false, not, List, [], ◌∷◌, ◌++◌, map, length, take, get_or, Option, Some, None, refl, sym, ap, subst, ◌∙◌, ◌⊎◌, inl, inr, append_assoc, arith}
use Rattle.std.specs.Prelude.{slice_get, unwrap_or, IfSome, IfNone}
use Rattle.std.specs.Option.{is_some, option_map}
use Rattle.std.proofs.lemmas.Option.{slice_get-map}
use Rattle.core_ir.specs.declared.tree.Var.{Var}
use Rattle.core_ir.specs.declared.tree.Let.{Let}
use Rattle.core_ir.specs.Terms.{LetTerm}
use Rattle.core_ir.specs.View.{let_term, right_term}
use Rattle.core_ir.specs.Uses.{AvoidsAll, AvoidsRight}
use Rattle.core_loops.specs.Pairs.{AvoidsLets}
use Rattle.core_uses.specs.Tests.{is_avoided_right, none_is}
use Rattle.core_uses.proofs.Decided.{right_decided, list_decided}
use Rattle.std.proofs.lemmas.Bool.Decides.{eqb_tells}
use Rattle.binding_users.specs.Users.{IsSoleUser, OthersAvoid, UsesAt}

-- ---- lists of bindings

pub lets_both : (x : Var) (ls ks : List LetTerm) → AvoidsLets x ls → AvoidsLets x ks → AvoidsLets x (ls ++ ks)
lets_both x [] ks h k = k
lets_both x (l ∷ ls) ks h k = (h.0, lets_both x ls ks h.1 k)

lets_left : (x : Var) (ls ks : List LetTerm) → AvoidsLets x (ls ++ ks) → AvoidsLets x ls
lets_left x [] ks h = tt
lets_left x (l ∷ ls) ks h = (h.0, lets_left x ls ks h.1)

lets_right : (x : Var) (ls ks : List LetTerm) → AvoidsLets x (ls ++ ks) → AvoidsLets x ks
lets_right x [] ks h = h
lets_right x (l ∷ ls) ks h = lets_right x ls ks h.1

lets_at : (x : Var) (ls : List LetTerm) (k : ℕ) (l : LetTerm) → AvoidsLets x ls → slice_get ls k ≡ Some l → AvoidsRight x l.right
lets_at x [] k l h e = absurd (let q : ◌≡◌ {A = Option LetTerm} None (Some l) = e in cc)
lets_at x (m ∷ ls) zero l h e = subst (λ (n : LetTerm). AvoidsRight x n.right) (ap (λ (o : Option LetTerm). unwrap_or o m) e) h.0
lets_at x (m ∷ ls) (suc k) l h e = lets_at x ls k l h.1 e

at_length : (ls ks : List LetTerm) (l : LetTerm) → slice_get (ls ++ (l ∷ ks)) (length ls) ≡ Some l
at_length [] ks l = refl
at_length (m ∷ ls) ks l = at_length ls ks l

-- what stands at a place of the whole is the user, or one of the others
place_in : (x : Var) (bs cs : List LetTerm) (u : LetTerm) (k : ℕ) (l : LetTerm) → AvoidsLets x bs → AvoidsLets x cs → slice_get (bs ++ (u ∷ cs)) k ≡ Some l → (k ≡ length bs) ⊎ AvoidsRight x l.right
place_in x [] cs u zero l hb ha e = inl refl
place_in x [] cs u (suc k) l hb ha e = inr (lets_at x cs k l ha e)
place_in x (b ∷ bs) cs u zero l hb ha e = inr (subst (λ (n : LetTerm). AvoidsRight x n.right) (ap (λ (o : Option LetTerm). unwrap_or o b) e) hb.0)
place_in x (b ∷ bs) cs u (suc k) l hb ha e = elim (place_in x bs cs u k l hb.1 ha e) [
  | inl q ↦ inl (ap suc q)
  | inr q ↦ inr q
]

pub user_place : (x : Var) (lets : List LetTerm) (rs : List Var) (place k : ℕ) (l : LetTerm) → IsSoleUser x lets rs place → slice_get lets k ≡ Some l → (AvoidsRight x l.right → ⊥) → k ≡ place
user_place x lets rs place k l h e used = elim (place_in x h.before h.after h.user k l h.others.0 h.others.1 ((λ i. slice_get (sym h.whole i) k) ∙ e)) [
  | inl q ↦ q ∙ h.at
  | inr q ↦ absurd (used q)
]

-- ---- the bindings so far

-- what was found among them
abbrev pub SoFar : Var → List LetTerm → List Var → Option ℕ → Type 0
SoFar x lets rs None = AvoidsLets x lets
SoFar x lets rs (Some place) = IsSoleUser x lets rs place

map_snoc : (xs : List Let) (x : Let) → map let_term (xs ++ (x ∷ [])) ≡ map let_term xs ++ (let_term x ∷ [])
map_snoc [] x = refl
map_snoc (y ∷ ys) x = ap (λ l. let_term y ∷ l) (map_snoc ys x)

map_length : (xs : List Let) → length (map let_term xs) ≡ length xs
map_length [] = refl
map_length (x ∷ xs) = ap suc (map_length xs)

take_length : {A : Type 0} (xs : List A) (i : ℕ) → i ≤ length xs → length (take i xs) ≡ i
take_length [] zero h = refl
take_length [] (suc i) h = absurd (omega (arith, h))
take_length (x ∷ xs) zero h = refl
take_length (x ∷ xs) (suc i) h = ap suc (take_length xs i (omega (arith, h)))

next_suc : (ls : List Let) (i : ℕ) (l : Let) → i < length ls → l ≡ get_or ls i l → take (suc i) ls ≡ take i ls ++ (l ∷ [])
next_suc [] i l h e = absurd (omega (arith, h))
next_suc (x ∷ xs) zero l h e = λ j. sym e j ∷ []
next_suc (x ∷ xs) (suc i) l h e = ap (λ zs. x ∷ zs) (next_suc xs i l (omega (arith, h)) e)

next_taken : (ls : List Let) (i : ℕ) (l : Let) → i < length ls → l ≡ get_or ls i l → take (i + 1) ls ≡ take i ls ++ (l ∷ [])
next_taken ls i l h e = let one : i + 1 ≡ suc i = omega arith in ap (λ n. take n ls) one ∙ next_suc ls i l h e

taken_term : (ls : List Let) (i : ℕ) (l : Let) → i < length ls → l ≡ get_or ls i l → map let_term (take (i + 1) ls) ≡ map let_term (take i ls) ++ (let_term l ∷ [])
taken_term ls i l h e = ap (map let_term) (next_taken ls i l h e) ∙ map_snoc (take i ls) l

up : (i n : ℕ) → i < n → i ≤ n
up i n h = omega (arith, h)

module _ (x : Var) (rs : List Var) (unreturned : AvoidsAll x rs) (ls : List Let) (i : ℕ) (l : Let) (inside : i < length ls) (is : l ≡ get_or ls i l) where
  abbrev before : List LetTerm
  before = map let_term (take i ls)

  -- a binding that does not use it
  pub avoids_turn : (found : Option ℕ) → true ≡ is_avoided_right x (right_term l.right) → SoFar x before rs found → SoFar x (map let_term (take (i + 1) ls)) rs found
  avoids_turn found t s = subst (λ zs. SoFar x zs rs found) (sym (taken_term ls i l inside is)) (go found s)
    where
      own : AvoidsRight x (right_term l.right)
      own = (right_decided x (right_term l.right)).0 (sym t)

      go : (found : Option ℕ) → SoFar x before rs found → SoFar x (before ++ (let_term l ∷ [])) rs found
      go None h = lets_both x before (let_term l ∷ []) h (own, tt)
      go (Some place) h = record {
        before = h.before;
        user = h.user;
        after = h.after ++ (let_term l ∷ []);
        whole = (λ j. h.whole j ++ (let_term l ∷ [])) ∙ append_assoc h.before (h.user ∷ h.after) (let_term l ∷ []);
        at = h.at;
        used = h.used;
        others = (h.others.0, lets_both x h.after (let_term l ∷ []) h.others.1 (own, tt));
        unreturned = h.unreturned;
      }

  never : (b : Bool) → true ≡ b → false ≡ b → ⊥
  never b p q = let r : true ≡ false = p ∙ sym q in let w : ⊥ = cc in w

  not_own : false ≡ is_avoided_right x (right_term l.right) → AvoidsRight x (right_term l.right) → ⊥
  not_own t h = never (is_avoided_right x (right_term l.right)) (sym ((right_decided x (right_term l.right)).1 h)) t

  -- the first that uses it
  pub uses_turn : false ≡ is_avoided_right x (right_term l.right) → SoFar x before rs None → SoFar x (map let_term (take (i + 1) ls)) rs (Some i)
  uses_turn t h =
      subst (λ zs. SoFar x zs rs (Some i)) (sym (taken_term ls i l inside is))
      (record { before = before; user = let_term l; after = []; whole = refl; at = map_length (take i ls) ∙ take_length ls i (up i (length ls) inside); used = not_own t; others = (h, tt); unreturned = unreturned })

slice_taken : (ls : List Let) (i k : ℕ) (u : LetTerm) → slice_get (map let_term (take i ls)) k ≡ Some u → slice_get (map let_term ls) k ≡ Some u
slice_taken [] zero k u e = e
slice_taken [] (suc i) k u e = e
slice_taken (x ∷ xs) zero k u e = absurd (let q : ◌≡◌ {A = Option LetTerm} None (Some u) = e in cc)
slice_taken (x ∷ xs) (suc i) zero u e = e
slice_taken (x ∷ xs) (suc i) (suc k) u e = slice_taken xs i k u e

slice_here : (ls : List Let) (i : ℕ) (l : Let) → i < length ls → l ≡ get_or ls i l → slice_get (map let_term ls) i ≡ Some (let_term l)
slice_here [] i l h e = absurd (omega (arith, h))
slice_here (x ∷ xs) zero l h e = λ j. Some (let_term (sym e j))
slice_here (x ∷ xs) (suc i) l h e = slice_here xs i l (omega (arith, h)) e

within : (bs cs : List LetTerm) (u : LetTerm) → length bs < length (bs ++ (u ∷ cs))
within [] cs u = omega arith
within (b ∷ bs) cs u = let h = within bs cs u in omega (arith, h)

one_place : (a i n p : ℕ) → a < n → n ≡ i → a ≡ p → i ≡ p → ⊥
one_place a i n p h q r s = omega (arith, h, q, r, s)

-- two that use it
pub second_use :
    (x : Var) (rs : List Var) (ls : List Let) (i : ℕ) (l : Let) (a : ℕ) → i < length ls → l ≡ get_or ls i l → false ≡ is_avoided_right x (right_term l.right) → SoFar x (map let_term (take i ls)) rs (Some a) →
    (place : ℕ) → IsSoleUser x (map let_term ls) rs place → ⊥
second_use x rs ls i l a inside is t h place sole =
    let first : slice_get (map let_term (take i ls)) (length h.before) ≡ Some h.user = (λ j. slice_get (h.whole j) (length h.before)) ∙ at_length h.before h.after h.user in
    let one = user_place x (map let_term ls) rs place (length h.before) h.user sole (slice_taken ls i (length h.before) h.user first) h.used in
    let two = user_place x (map let_term ls) rs place i (let_term l) sole (slice_here ls i l inside is) (not_own x rs h.unreturned ls i l inside is t) in
    let count : length (h.before ++ (h.user ∷ h.after)) ≡ i = ap length (sym h.whole) ∙ map_length (take i ls) ∙ take_length ls i (up i (length ls) inside) in
    one_place (length h.before) i (length (h.before ++ (h.user ∷ h.after))) place (within h.before h.after h.user) count one two

-- none that uses it
pub no_use : (x : Var) (lets : List LetTerm) (rs : List Var) → AvoidsLets x lets → (place : ℕ) → IsSoleUser x lets rs place → ⊥
no_use x lets rs h place sole = sole.used (lets_right x sole.before (sole.user ∷ sole.after) (subst (AvoidsLets x) sole.whole h)).0

pub returned : (x : Var) (lets : List LetTerm) (rs : List Var) → false ≡ none_is x rs → (place : ℕ) → IsSoleUser x lets rs place → ⊥
returned x lets rs t place sole = go (none_is x rs) ((list_decided x rs).1 sole.unreturned) t
  where
    go : (b : Bool) → b ≡ true → false ≡ b → ⊥
    go b p q = let r : false ≡ true = q ∙ p in let w : ⊥ = cc in w

pub all_taken : (ls : List Let) (i : ℕ) → length ls ≤ i → take i ls ≡ ls
all_taken [] zero h = refl
all_taken [] (suc i) h = refl
all_taken (x ∷ xs) zero h = absurd (omega (arith, h))
all_taken (x ∷ xs) (suc i) h = ap (λ zs. x ∷ zs) (all_taken xs i (omega (arith, h)))

-- at the end
pub some_end : (x : Var) (rs : List Var) (ls : List Let) (i : ℕ) (found : Option ℕ) → length ls ≤ i → SoFar x (map let_term (take i ls)) rs found → IfSome found (λ place. IsSoleUser x (map let_term ls) rs place)
some_end x rs ls i None h s = tt
some_end x rs ls i (Some place) h s = subst (λ zs. IsSoleUser x (map let_term zs) rs place) (all_taken ls i h) s

pub none_end : (x : Var) (rs : List Var) (ls : List Let) (i : ℕ) (found : Option ℕ) → length ls ≤ i → SoFar x (map let_term (take i ls)) rs found → IfNone found ((place : ℕ) → IsSoleUser x (map let_term ls) rs place → ⊥)
none_end x rs ls i None h s = no_use x (map let_term ls) rs (subst (λ zs. AvoidsLets x (map let_term zs)) (all_taken ls i h) s)
none_end x rs ls i (Some place) h s = tt

-- what was found before the second
pub second_found :
    (x : Var) (rs : List Var) (ls : List Let) (i : ℕ) (l : Let) (found : Option ℕ) → i < length ls → l ≡ get_or ls i l → false ≡ is_avoided_right x (right_term l.right) → true ≡ is_some found →
    SoFar x (map let_term (take i ls)) rs found → (place : ℕ) → IsSoleUser x (map let_term ls) rs place → ⊥
second_found x rs ls i l None inside is t e s = absurd (cc)
second_found x rs ls i l (Some a) inside is t e s = second_use x rs ls i l a inside is t s

pub first_found :
    (x : Var) (rs : List Var) (ls : List Let) (i : ℕ) (l : Let) (found : Option ℕ) → true ≡ none_is x rs → i < length ls → l ≡ get_or ls i l → false ≡ is_avoided_right x (right_term l.right) → false ≡ is_some found →
    SoFar x (map let_term (take i ls)) rs found → SoFar x (map let_term (take (i + 1) ls)) rs (Some i)
first_found x rs ls i l None r inside is t e s = uses_turn x rs ((list_decided x rs).0 (sym r)) ls i l inside is t s
first_found x rs ls i l (Some a) r inside is t e s = absurd (cc)

pub passed_on :
    (x : Var) (rs : List Var) (ls : List Let) (i : ℕ) (l : Let) (found : Option ℕ) → true ≡ none_is x rs → i < length ls → l ≡ get_or ls i l → true ≡ is_avoided_right x (right_term l.right) →
    SoFar x (map let_term (take i ls)) rs found → SoFar x (map let_term (take (i + 1) ls)) rs found
passed_on x rs ls i l found r inside is t s = avoids_turn x rs ((list_decided x rs).0 (sym r)) ls i l inside is found t s

inside_of : (x : Var) (ls : List Let) (rs : List Var) (place : ℕ) → IsSoleUser x (map let_term ls) rs place → place < length ls
inside_of x ls rs place h = less (length h.before) place (length (h.before ++ (h.user ∷ h.after))) (length ls) h.at (within h.before h.after h.user) (ap length (sym h.whole) ∙ map_length ls)
  where
    less : (b p a n : ℕ) → b ≡ p → b < a → a ≡ n → p < n
    less b p a n e h f = omega (arith, e, h, f)

pub inside_end : (x : Var) (rs : List Var) (ls : List Let) (i : ℕ) (found : Option ℕ) → length ls ≤ i → SoFar x (map let_term (take i ls)) rs found → IfSome found (λ place. place < length ls)
inside_end x rs ls i None h s = tt
inside_end x rs ls i (Some place) h s = inside_of x ls rs place (subst (λ zs. IsSoleUser x (map let_term zs) rs place) (all_taken ls i h) s)

-- ---- by the places of users

some_term : (a b : LetTerm) → ◌≡◌ {A = Option LetTerm} (Some a) (Some b) → a ≡ b
some_term a b e = ap (λ (o : Option LetTerm). unwrap_or o a) e

pub all_avoid : (x : Var) (lets : List LetTerm) → ((q : ℕ) (l : LetTerm) → slice_get lets q ≡ Some l → AvoidsRight x l.right) → AvoidsLets x lets
all_avoid x [] h = tt
all_avoid x (l ∷ ls) h = (h 0 l refl, all_avoid x ls (λ q m e. h (suc q) m e))

-- the one that uses it
pub sole_at : (x : Var) (lets : List LetTerm) (rs : List Var) (place : ℕ) → OthersAvoid x lets place → UsesAt x lets place → AvoidsAll x rs → IsSoleUser x lets rs place
sole_at x [] rs place h u a = absurd (let q : ◌≡◌ {A = Option LetTerm} None (Some u.user) = u.at in cc)
sole_at x (l ∷ ls) rs zero h u a = record {
  before = [];
  user = l;
  after = ls;
  whole = refl;
  at = refl;
  used = λ k. u.used (subst (λ (m : LetTerm). AvoidsRight x m.right) (some_term l u.user u.at) k);
  others = (tt, all_avoid x ls (λ q m e. h (suc q) m e (λ n. absurd (omega (arith, n)))));
  unreturned = a;
}
sole_at x (l ∷ ls) rs (suc k) h u a =
    let w = sole_at x ls rs k (λ q m e n. h (suc q) m e (λ i. n (omega (arith, i)))) (record { user = u.user; at = u.at; used = u.used }) a in
    record {
      before = l ∷ w.before;
      user = w.user;
      after = w.after;
      whole = ap (λ ms. l ∷ ms) w.whole;
      at = ap suc w.at;
      used = w.used;
      others = ((h 0 l refl (λ n. absurd (omega (arith, n))), w.others.0), w.others.1);
      unreturned = w.unreturned;
    }

-- no other one uses it, nor does the one at the place
pub none_at : (x : Var) (lets : List LetTerm) (rs : List Var) (place : ℕ) → OthersAvoid x lets place → ((l : LetTerm) → slice_get lets place ≡ Some l → AvoidsRight x l.right) → (k : ℕ) → IsSoleUser x lets rs k → ⊥
none_at x lets rs place h own k sole = no_use x lets rs (all_avoid x lets each) k sole
  where
    each : (q : ℕ) (l : LetTerm) → slice_get lets q ≡ Some l → AvoidsRight x l.right
    each q l e = elim (eqb_tells place q) [
      | inl w ↦ own l (ap (slice_get lets) w.1 ∙ e)
      | inr w ↦ h q l e w.1
    ]

-- two use it
pub two_at : (x : Var) (lets : List LetTerm) (rs : List Var) (one other : ℕ) → UsesAt x lets one → UsesAt x lets other → (one ≡ other → ⊥) → (place : ℕ) → IsSoleUser x lets rs place → ⊥
two_at x lets rs one other u v n place sole =
    n (user_place x lets rs place one u.user sole u.at u.used ∙ sym (user_place x lets rs place other v.user sole v.at v.used))

pub sole_inside : (x : Var) (ls : List Let) (rs : List Var) (place : ℕ) → IsSoleUser x (map let_term ls) rs place → place < length ls
sole_inside = inside_of

-- ---- the binding at a place

found_term : (ls : List Let) (p : ℕ) (l : Let) → slice_get ls p ≡ Some l → slice_get (map let_term ls) p ≡ Some (let_term l)
found_term ls p l e = slice_get-map let_term ls p ∙ ap (option_map let_term) e

pub uses_here : (x : Var) (ls : List Let) (p : ℕ) (l : Let) (b : Bool) → slice_get ls p ≡ Some l → b ≡ is_avoided_right x (right_term l.right) → not b ≡ true → UsesAt x (map let_term ls) p
uses_here x ls p l b e is t = record { user = let_term l; at = found_term ls p l e; used = λ a. go b t (is ∙ (right_decided x (right_term l.right)).1 a) }
  where
    go : (b : Bool) → not b ≡ true → b ≡ true → ⊥
    go b p q = let r : false ≡ true = ap not (sym q) ∙ p in let w : ⊥ = cc in w

pub avoids_here : (x : Var) (ls : List Let) (p : ℕ) (l : Let) (b : Bool) → slice_get ls p ≡ Some l → b ≡ is_avoided_right x (right_term l.right) → not b ≡ false → (m : LetTerm) → slice_get (map let_term ls) p ≡ Some m → AvoidsRight x m.right
avoids_here x ls p l b e is t m f =
    subst (λ (k : LetTerm). AvoidsRight x k.right) (some_term (let_term l) m (sym (found_term ls p l e) ∙ f)) ((right_decided x (right_term l.right)).0 (sym is ∙ go b t))
  where
    go : (b : Bool) → not b ≡ false → b ≡ true
    go true t = refl
    go false t = sym t

pub none_here : (x : Var) (ls : List Let) (p : ℕ) → slice_get ls p ≡ None → (m : LetTerm) → slice_get (map let_term ls) p ≡ Some m → AvoidsRight x m.right
none_here x ls p e m f = absurd (let q : ◌≡◌ {A = Option LetTerm} None (Some m) = sym (slice_get-map let_term ls p ∙ ap (option_map let_term) e) ∙ f in cc)
