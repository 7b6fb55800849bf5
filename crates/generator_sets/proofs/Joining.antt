-- Parts that are joined: neighbours on one axis that are the same on the others.
use Rattle.std.proofs.Common.{◌≡◌, ℕ, zero, suc, ◌+◌, ◌<◌, inl, inr, arith, ◌⊎◌, refl, sym, ap, subst, ◌∙◌, List, [], ◌∷◌, ◌++◌, length, get_or, set, length-append, length-set}
use Rattle.std.specs.Prelude.{ℤ, ◌-ℤ◌, ◌≤ℤ◌, unsigned_abs, Bool, true, false, ◌&&◌, ◌||◌, ◌≢◌, cond, map, Option, Some, None, IfSome}
use Rattle.std.specs.List.{All}
use Rattle.std.proofs.lemmas.Int.{ints}
use Rattle.std.proofs.lemmas.Bool.{lt-ltb}
use Rattle.std.proofs.lemmas.Nat.{mod_below}
use Rattle.std.proofs.lemmas.List.{get_or_default}
use Rattle.std.proofs.lemmas.List.Sums.{sum_by-set, sum_by-append}
use Rattle.std.proofs.lemmas.List.Elements.{All-nil, All-cons, All-head, All-tail, All-append, All-set, All-get_or, All-push}
use Rattle.sac_base.specs.declared.grid.Grid1.{Grid1}
use Rattle.sac_base.specs.Grids.{has_index, has_vector, within, times_vector, SplitsVectors}
use Rattle.sac_base.proofs.GridFacts.{has_facts, within_is}
use Rattle.grid_sets.proofs.Keeping.{count_cons}
use Rattle.generator_sets.specs.Unions.{IsUnion1, IsUnion, AreEqualBut, Part, NamesFirst, times_part, IsAdded, IsMerged}

-- a grid that is at least as wide as its step has all numbers between its bounds
dense : (g : Grid1) (x : ℤ) → g.step ≤ℤ g.width → has_index g x ≡ within g.lo g.hi x
dense g x e = elim (has_facts g x g.wide) [
  | inl at ↦
      let s = g.steps in
      let w = g.wide in
      let low = mod_below (unsigned_abs (x -ℤ g.lo)) (unsigned_abs g.step) (omega (arith, ints)) in
      let on : within g.lo g.hi x ≡ true = elim (within_is g.lo g.hi x) [
        | inl y ↦ y.2
        | inr off ↦ absurd (elim off.0 [ inl l ↦ omega (arith, ints, at.0) | inr h ↦ omega (arith, ints, at.1) ])
      ] in
      at.2 ∙ lt-ltb _ _ (omega (arith, ints)) ∙ sym on
  | inr off ↦ off.1 ∙ sym (elim (within_is g.lo g.hi x) [
    | inl y ↦ absurd (elim off.0 [ inl l ↦ omega (arith, ints, y.0) | inr h ↦ omega (arith, ints, y.1) ])
    | inr y ↦ y.1
  ])
]

or_of : (w p q v a b : Bool) → w ≡ v → p ≡ a → q ≡ b → v ≡ (a || b) → (a && b) ≡ false → (w ≡ (p || q)) × ((p && q) ≡ false)
or_of w p q v a b e f g h i = (e ∙ h ∙ ap (λ t. t || b) (sym f) ∙ ap (λ t. p || t) (sym g), ap (λ t. t && q) f ∙ ap (λ t. a && t) g ∙ i)

two_within : (lo mid hi x : ℤ) → lo ≤ℤ mid → mid ≤ℤ hi → (within lo hi x ≡ (within lo mid x || within mid hi x)) × ((within lo mid x && within mid hi x) ≡ false)
two_within lo mid hi x h k = elim (within_is lo mid x) [
  | inl a ↦ elim (within_is mid hi x) [
    | inl b ↦ absurd (omega (arith, ints))
    | inr b ↦ elim (within_is lo hi x) [
      | inl d ↦ or_of (within lo hi x) (within lo mid x) (within mid hi x) true true false d.2 a.2 b.1 refl refl
      | inr d ↦ absurd (elim d.0 [ inl l ↦ omega (arith, ints) | inr l ↦ omega (arith, ints) ])
    ]
  ]
  | inr a ↦ elim (within_is mid hi x) [
    | inl b ↦ elim (within_is lo hi x) [
      | inl d ↦ or_of (within lo hi x) (within lo mid x) (within mid hi x) true false true d.2 a.1 b.2 refl refl
      | inr d ↦ absurd (elim d.0 [ inl l ↦ omega (arith, ints) | inr l ↦ omega (arith, ints) ])
    ]
    | inr b ↦ elim (within_is lo hi x) [
      | inr d ↦ or_of (within lo hi x) (within lo mid x) (within mid hi x) false false false d.1 a.1 b.1 refl refl
      | inl d ↦
          absurd (elim a.0 [ inl l ↦ omega (arith, ints) | inr l ↦ elim b.0 [ inl m ↦ omega (arith, ints) | inr m ↦ omega (arith, ints) ] ])
    ]
  ]
]

-- two dense grids of one axis that meet
pub union_axis : (a b g : Grid1) → a.step ≤ℤ a.width → b.step ≤ℤ b.width → g.step ≤ℤ g.width → g.lo ≡ a.lo → g.hi ≡ b.hi → a.hi ≡ b.lo → a.lo ≤ℤ a.hi → b.lo ≤ℤ b.hi → IsUnion1 a b g
union_axis a b g da db dg lo hi meet ha hb =
    let low : a.lo ≤ℤ b.lo = omega (arith, ints) in
    let first : (x : ℤ) → has_index a x ≡ within a.lo b.lo x = λ x. dense a x da ∙ ap (λ z. within a.lo z x) meet in
    let whole : (x : ℤ) → has_index g x ≡ within a.lo b.hi x = λ x. dense g x dg ∙ ap (λ z. within z g.hi x) lo ∙ ap (λ z. within a.lo z x) hi in
    record {
      members = λ x.
          whole x ∙ (two_within a.lo b.lo b.hi x low hb).0 ∙ ap (λ t. t || within b.lo b.hi x) (sym (first x)) ∙ ap (λ t. has_index a x || t) (sym (dense b x db));
      apart = λ x. ap (λ t. t && has_index b x) (first x) ∙ ap (λ t. within a.lo b.lo x && t) (dense b x db) ∙ (two_within a.lo b.lo b.hi x low hb).1;
    }

-- grids of one axis with the same fields
pub same_axis : (a b : Grid1) (x : ℤ) → a.lo ≡ b.lo → a.hi ≡ b.hi → a.step ≡ b.step → a.width ≡ b.width → has_index a x ≡ has_index b x
unfolding has_index
same_axis a b x lo hi step width = cc

-- the first k axes but one have the same numbers
abbrev pub SameBelow : ℕ → ℕ → List Grid1 → List Grid1 → Type 0
SameBelow k axis a b = (j : ℕ) (d : Grid1) → j < k → j ≢ axis → (x : ℤ) → has_index (get_or a j d) x ≡ has_index (get_or b j d) x

same_vectors : (a b : List Grid1) (v : List ℤ) → length b ≡ length a → ((j : ℕ) (d : Grid1) → j < length a → (x : ℤ) → has_index (get_or a j d) x ≡ has_index (get_or b j d) x)
    → has_vector a v ≡ has_vector b v
same_vectors [] [] [] e h = refl
same_vectors [] [] (x ∷ xs) e h = refl
same_vectors [] (b ∷ bs) v e h = absurd (omega arith)
same_vectors (a ∷ as') [] v e h = absurd (omega arith)
same_vectors (a ∷ as') (b ∷ bs) [] e h = refl
same_vectors (a ∷ as') (b ∷ bs) (x ∷ xs) e h =
    ap (λ t. t && has_vector as' xs) (h 0 a (omega arith) x)
    ∙ ap (λ t. has_index b x && t) (same_vectors as' bs xs (omega arith) (λ j d l. h (suc j) d (omega arith)))

over_or : (a b q : Bool) → ((a || b) && q) ≡ ((a && q) || (b && q))
over_or true b true = refl
over_or true true false = refl
over_or true false false = refl
over_or false b q = refl

join_first : (s a b r q : Bool) → s ≡ (a || b) → r ≡ q → (s && q) ≡ ((a && r) || (b && q))
join_first s a b r q e f = ap (λ t. t && q) e ∙ over_or a b q ∙ ap (λ t. (a && t) || (b && q)) (sym f)

apart_first : (a b r q : Bool) → (a && b) ≡ false → ((a && r) && (b && q)) ≡ false
apart_first true true r q e = absurd (cc)
apart_first true false true q e = refl
apart_first true false false q e = refl
apart_first false b r q e = refl

into_or : (b r q : Bool) → (b && (r || q)) ≡ ((b && r) || (b && q))
into_or true r q = refl
into_or false r q = refl

join_later : (a b g r q : Bool) → a ≡ b → g ≡ (r || q) → (b && g) ≡ ((a && r) || (b && q))
join_later a b g r q e f = ap (λ t. b && t) f ∙ into_or b r q ∙ ap (λ t. (t && r) || (b && q)) (sym e)

apart_both : (b r q : Bool) → (r && q) ≡ false → ((b && r) && (b && q)) ≡ false
apart_both true r q f = f
apart_both false r q f = refl

apart_later : (a b r q : Bool) → a ≡ b → (r && q) ≡ false → ((a && r) && (b && q)) ≡ false
apart_later a b r q e f = ap (λ t. (t && r) && (b && q)) e ∙ apart_both b r q f

pub union_members : (k : ℕ) (a b : List Grid1) (s d : Grid1) → k < length a → AreEqualBut k a b → IsUnion1 (get_or a k d) (get_or b k d) s
    → (v : List ℤ) → (has_vector (set b k s) v ≡ (has_vector a v || has_vector b v)) × ((has_vector a v && has_vector b v) ≡ false)
union_members k [] b s d low e u v = absurd (omega arith)
union_members k (a ∷ as') [] s d low e u v = let long = e.long in absurd (omega arith)
union_members zero (a ∷ as') (b ∷ bs) s d low e u [] = (refl, refl)
union_members (suc k) (a ∷ as') (b ∷ bs) s d low e u [] = (refl, refl)
union_members zero (a ∷ as') (b ∷ bs) s d low e u (x ∷ xs) =
    let long = e.long in
    let rest : has_vector as' xs ≡ has_vector bs xs = same_vectors as' bs xs (omega arith) (λ j d l. e.same (suc j) d (omega arith) (λ z. absurd (omega (arith, z)))) in (
      join_first (has_index s x) (has_index a x) (has_index b x) (has_vector as' xs) (has_vector bs xs) (u.members x) rest,
      apart_first (has_index a x) (has_index b x) (has_vector as' xs) (has_vector bs xs) (u.apart x),
    )
union_members (suc k) (a ∷ as') (b ∷ bs) s d low e u (x ∷ xs) =
    let long = e.long in
    let here : has_index a x ≡ has_index b x = e.same 0 d (omega arith) (λ z. absurd (omega (arith, z))) x in
    let later = union_members k as' bs s d (omega arith)
    (record { long = omega arith; same = λ j d l n. e.same (suc j) d (omega arith) (λ z. n (omega (arith, z))) }) u xs in (
      join_later (has_index a x) (has_index b x) (has_vector (set bs k s) xs) (has_vector as' xs) (has_vector bs xs) here later.0,
      apart_later (has_index a x) (has_index b x) (has_vector as' xs) (has_vector bs xs) here later.1,
    )

pub union_at : (k : ℕ) (a b : List Grid1) (s d : Grid1) → k < length a → AreEqualBut k a b → IsUnion1 (get_or a k d) (get_or b k d) s → IsUnion a b (set b k s)
union_at k a b s d low e u = record { members = λ v. (union_members k a b s d low e u v).0; apart = λ v. (union_members k a b s d low e u v).1 }

pub union_here : (k : ℕ) (a b : List Grid1) (g h s : Grid1) → g ≡ get_or a k g → h ≡ get_or b k h → k < length a → AreEqualBut k a b → IsUnion1 g h s → IsUnion a b (set b k s)
union_here k a b g h s first second low e u =
    let long = e.long in
    union_at k a b s g low e (subst (λ z. IsUnion1 z (get_or b k g) s) first (subst (λ z. IsUnion1 g z s) (second ∙ get_or_default b k h g (omega arith)) u))

pub some_weaker : (P Q : Grid1 → Type 0) (r : Option Grid1) → ((x : Grid1) → P x → Q x) → IfSome r P → IfSome r Q
some_weaker P Q (Some x) f h = f x h
some_weaker P Q None f h = h

or_count : (a b : Bool) → (a && b) ≡ false → let one : ℕ = 1 in let none : ℕ = 0 in cond (a || b) one none ≡ cond a one none + cond b one none
or_count true true f = absurd (cc)
or_count true false f = refl
or_count false true f = refl
or_count false false f = refl

union_count : (g a b : Bool) → g ≡ (a || b) → (a && b) ≡ false → let one : ℕ = 1 in let none : ℕ = 0 in cond g one none ≡ cond a one none + cond b one none
union_count g a b e f = ap (λ t. cond t 1 0) e ∙ or_count a b f

names_both : (g a b : Bool) → g ≡ (a || b) → g ≡ true → (a ≡ true) ⊎ (b ≡ true)
names_both g true b e f = inl refl
names_both g false b e f = inr (sym e ∙ f)

-- a part of the list takes up another
pub added_at : (list : List Part) (k : ℕ) (d part new : Part) → k < length list → (get_or list k d).1 ≡ part.1 → new.1 ≡ part.1 → IsUnion (get_or list k d).0 part.0 new.0
    → IsAdded part list (set list k new)
added_at list k d part new low e f u = record {
  times = λ v.
      let count = sum_by-set (λ p. cond (has_vector p.0 v) 1 0) list k new d low in
      let one = union_count (has_vector new.0 v) (has_vector (get_or list k d).0 v) (has_vector part.0 v) (u.members v) (u.apart v) in
      omega (arith, count, one);
  first = λ generators before named.
      All-set (NamesFirst generators) list k new
      (λ v at. elim (names_both (has_vector new.0 v) (has_vector (get_or list k d).0 v) (has_vector part.0 v) (u.members v) at) [
        | inl old ↦ f ∙ sym e ∙ All-get_or (NamesFirst generators) list k d low before v old
        | inr own ↦ f ∙ named v own
      ])
      before;
  few = let l = length-set list k new in omega arith;
}

pub added_in : (list slice : List Part) (k axis : ℕ) (part : Part) (s : Grid1) (g : List Grid1) → slice ≡ list → g ≡ set part.0 axis s → k < length slice
    → ((d : Part) → (get_or slice k d).1 ≡ part.1) → ((d : Part) → IsUnion (get_or slice k d).0 part.0 (set part.0 axis s)) → IsAdded part list (set list k (g, part.1))
added_in list slice k axis part s g e f low label union =
    subst (λ l. IsAdded part l (set l k (g, part.1))) e
    (added_at slice k part part (g, part.1) low (label part) refl (subst (λ z. IsUnion (get_or slice k part).0 part.0 z) (sym f) (union part)))

times_append : (xs ys : List Part) (v : List ℤ) → times_part (xs ++ ys) v ≡ times_part xs v + times_part ys v
times_append xs ys v = sum_by-append (λ p. cond (has_vector p.0 v) 1 0) xs ys

plain : (n : ℕ) → n + 0 ≡ n
plain n = omega arith

times_one : (p : Part) (v : List ℤ) → times_part (p ∷ []) v ≡ cond (has_vector p.0 v) 1 0
times_one p v = count_cons (λ p. has_vector p.0 v) p [] ∙ plain (cond (has_vector p.0 v) 1 0)

-- the list takes the part as it is
pub added_behind : (list : List Part) (part : Part) (new : List Part) → new ≡ list ++ part ∷ [] → IsAdded part list new
added_behind list part new e = subst (IsAdded part list) (sym e) (record {
  times = λ v. times_append list (part ∷ []) v ∙ ap (λ n. times_part list v + n) (times_one part v);
  first = λ generators before named. All-push (NamesFirst generators) list part before named;
  few = let l = length-append list (part ∷ []) in omega arith;
})

pub merged_same : (list new : List Part) → new ≡ list → IsMerged list new
merged_same list new e = subst (IsMerged list) (sym e) (record { times = λ v. refl; first = λ generators h. h; few = omega arith })

pub merged_trans : (a b c : List Part) → IsMerged a b → IsMerged b c → IsMerged a c
merged_trans a b c h k = record {
  times = λ v. k.times v ∙ h.times v;
  first = λ generators before. k.first generators (h.first generators before);
  few = let l = h.few in let m = k.few in omega arith;
}

all_behind : (P : Part → Type 0) (xs ys : List Part) → All P (xs ++ ys) → All P xs × All P ys
all_behind P [] ys h = (All-nil P, h)
all_behind P (x ∷ xs) ys h = let later = all_behind P xs ys (All-tail P x (xs ++ ys) h) in (All-cons P x xs (All-head P x (xs ++ ys) h) later.0, later.1)

-- one more part is added
pub merged_more : (whole done next left rest : List Part) (part : Part) → left ≡ part ∷ rest → IsAdded part done next → IsMerged whole (done ++ left) → IsMerged whole (next ++ rest)
merged_more whole done next left rest part e added before =
    let was : IsMerged whole (done ++ part ∷ rest) = subst (λ l. IsMerged whole (done ++ l)) e before in record {
      times = λ v.
          let one = times_append next rest v in
          let two = added.times v in
          let three = times_append done (part ∷ rest) v in
          let four = count_cons (λ p. has_vector p.0 v) part rest in
          let five = was.times v in
          omega (arith, one, two, three, four, five);
      first = λ generators h.
          let both = all_behind (NamesFirst generators) done (part ∷ rest) (was.first generators h) in
          All-append (NamesFirst generators) next rest
          (added.first generators both.0 (All-head (NamesFirst generators) part rest both.1)) (All-tail (NamesFirst generators) part rest both.1);
      few =
          let one = length-append next rest in
          let two = added.few in
          let three = length-append done (part ∷ rest) in
          let four = was.few in
          omega (arith, one, two, three, four);
    }

-- the pieces of parts, and in how many of them a vector is
pub times_pieces : (parts : List Part) (v : List ℤ) → times_vector (map (λ part. part.0) parts) v ≡ times_part parts v
times_pieces [] v = refl
times_pieces (p ∷ ps) v =
    count_cons (λ p. has_vector p v) p.0 (map (λ part. part.0) ps) ∙ ap (λ n. cond (has_vector p.0 v) 1 0 + n) (times_pieces ps v)
    ∙ sym (count_cons (λ p. has_vector p.0 v) p ps)

pub merged_split : (box : List ℤ → Bool) (old new : List Part) → IsMerged old new → SplitsVectors (map (λ part. part.0) old) box → SplitsVectors (map (λ part. part.0) new) box
merged_split box old new m split v = times_pieces new v ∙ m.times v ∙ sym (times_pieces old v) ∙ split v
