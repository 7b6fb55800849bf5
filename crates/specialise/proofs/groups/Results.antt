-- The known shapes of the results of a group stay, where it has further instances.
use Rattle.std.proofs.Common.{◌≡◌, ℕ, Bool, true, false, if◌then◌else◌, List, [], ◌∷◌, ◌++◌, map, Option, Some, None, refl, sym, ap, subst, ◌∙◌, append_assoc, append-nil, ◌⊎◌, inl, inr}
use Rattle.std.specs.Prelude.{slice_get, unwrap_or}
use Rattle.std.proofs.lemmas.Bool.{false≢true}
use Rattle.sac_base.specs.Arrays.{same_shape}
use Rattle.shape_types.proofs.Inclusion.{same-shape, same_itself}
use Rattle.core_ir.specs.Terms.{FunTerm, CoreTerm}
use Rattle.core_ir.specs.Outcome.{group_at}
use Rattle.core_ir.specs.WellFormed.{IsWellFormed}
use Rattle.core_facts.specs.Facts.{one_shape}
use Rattle.core_facts.specs.constants.Called.{shape_of_type, common_shapes, result_shapes, shapes_at, called}
use Rattle.core_facts.specs.calls.Nests.{StandsIn}
use Rattle.specialise.specs.groups.Specialised.{IsSpecialised}
use Rattle.specialise.proofs.groups.Lists.{none_either}
use Rattle.specialise.proofs.groups.Choice.{group_both, member}

-- ---- what two known shapes have in common

shape_turned : (s t : List ℕ) → same_shape s t ≡ same_shape t s
shape_turned s t = go (same_shape s t) (same_shape t s) refl refl
  where
    go : (x y : Bool) → same_shape s t ≡ x → same_shape t s ≡ y → x ≡ y
    go true true e f = refl
    go false false e f = refl
    go true false e f = absurd (false≢true (sym f ∙ ap (λ z. same_shape z s) (sym (same-shape s t e)) ∙ same_itself s))
    go false true e f = absurd (false≢true (sym e ∙ ap (λ z. same_shape z t) (sym (same-shape t s f)) ∙ same_itself t))

one_turned : (x y : Option (List ℕ)) → one_shape x y ≡ one_shape y x
one_turned None None = refl
one_turned None (Some t) = refl
one_turned (Some s) None = refl
one_turned (Some s) (Some t) = go (same_shape s t) refl
  where
    go : (z : Bool) → same_shape s t ≡ z → (if same_shape s t then Some s else None) ≡ (if same_shape t s then Some t else None)
    go true e = (λ i. if e i then Some s else None) ∙ ap Some (same-shape s t e) ∙ sym (λ i. if (sym (shape_turned s t) ∙ e) i then Some t else None)
    go false e = (λ i. if e i then Some s else None) ∙ sym (λ i. if (sym (shape_turned s t) ∙ e) i then Some t else None)

one_itself : (x : Option (List ℕ)) → one_shape x x ≡ x
one_itself None = refl
one_itself (Some s) = λ i. if same_itself s i then Some s else None

no_left : (y : Option (List ℕ)) → one_shape None y ≡ None
no_left None = refl
no_left (Some t) = refl

no_right : (x : Option (List ℕ)) → one_shape x None ≡ None
no_right None = refl
no_right (Some t) = refl

one_grouped : (x y z : Option (List ℕ)) → one_shape (one_shape x y) z ≡ one_shape x (one_shape y z)
one_grouped None y z = (λ i. one_shape (no_left y i) z) ∙ no_left z ∙ sym (no_left (one_shape y z))
one_grouped (Some s) None z = no_left z ∙ sym (λ i. one_shape (Some s) (no_left z i))
one_grouped (Some s) (Some t) None = no_right (one_shape (Some s) (Some t))
one_grouped (Some s) (Some t) (Some u) = go (same_shape s t) (same_shape t u) refl refl
  where
    go : (x y : Bool) → same_shape s t ≡ x → same_shape t u ≡ y → one_shape (if same_shape s t then Some s else None) (Some u) ≡ one_shape (Some s) (if same_shape t u then Some t else None)
    go true true e f =
        (λ i. one_shape (if e i then Some s else None) (Some u)) ∙ (λ i. if same_shape (same-shape s t e i) u then Some s else None) ∙ (λ i. if f i then Some s else None)
        ∙ sym ((λ i. one_shape (Some s) (if f i then Some t else None)) ∙ (λ i. if e i then Some s else None))
    go true false e f =
        (λ i. one_shape (if e i then Some s else None) (Some u)) ∙ (λ i. if same_shape (same-shape s t e i) u then Some s else None) ∙ (λ i. if f i then Some s else None)
        ∙ sym (λ i. one_shape (Some s) (if f i then Some t else None))
    go false true e f =
        (λ i. one_shape (if e i then Some s else None) (Some u))
        ∙ sym ((λ i. one_shape (Some s) (if f i then Some t else None)) ∙ (λ i. if e i then Some s else None))
    go false false e f = (λ i. one_shape (if e i then Some s else None) (Some u)) ∙ sym (λ i. one_shape (Some s) (if f i then Some t else None))

-- ---- the same of lists

abbrev Shapes : Type 0
Shapes = List (Option (List ℕ))

common_turned : (xs ys : Shapes) → common_shapes xs ys ≡ common_shapes ys xs
common_turned [] [] = refl
common_turned [] (y ∷ ys) = refl
common_turned (x ∷ xs) [] = refl
common_turned (x ∷ xs) (y ∷ ys) = λ i. one_turned x y i ∷ common_turned xs ys i

common_itself : (xs : Shapes) → common_shapes xs xs ≡ xs
common_itself [] = refl
common_itself (x ∷ xs) = λ i. one_itself x i ∷ common_itself xs i

common_grouped : (xs ys zs : Shapes) → common_shapes (common_shapes xs ys) zs ≡ common_shapes xs (common_shapes ys zs)
common_grouped [] [] zs = refl
common_grouped [] (y ∷ ys) [] = refl
common_grouped [] (y ∷ ys) (z ∷ zs) = refl
common_grouped (x ∷ xs) [] zs = refl
common_grouped (x ∷ xs) (y ∷ ys) [] = refl
common_grouped (x ∷ xs) (y ∷ ys) (z ∷ zs) = λ i. one_grouped x y z i ∷ common_grouped xs ys zs i

-- common to all of the lists
abbrev shared : List Shapes → Shapes
shared [] = []
shared (x ∷ []) = x
shared (x ∷ y ∷ ys) = common_shapes x (shared (y ∷ ys))

shared_last : (x : Shapes) (xs : List Shapes) (y : Shapes) → shared ((x ∷ xs) ++ (y ∷ [])) ≡ common_shapes (shared (x ∷ xs)) y
shared_last x [] y = refl
shared_last x (z ∷ zs) y = ap (common_shapes x) (shared_last z zs y) ∙ sym (common_grouped x (shared (z ∷ zs)) y)

-- the list is one of them
abbrev Among : List Shapes → Shapes → Type 0
Among [] y = ⊥
Among (x ∷ xs) y = (x ≡ y) ⊎ Among xs y

among_left : (xs ys : List Shapes) (y : Shapes) → Among xs y → Among (xs ++ ys) y
among_left [] ys y h = absurd h
among_left (x ∷ xs) ys y h = elim h [ inl e ↦ inl e | inr r ↦ inr (among_left xs ys y r) ]

absorbed : (xs : List Shapes) (y : Shapes) → Among xs y → common_shapes (shared xs) y ≡ shared xs
absorbed [] y h = absurd h
absorbed (x ∷ []) y h = elim h [ inl e ↦ ap (common_shapes x) (sym e) ∙ common_itself x | inr r ↦ absurd r ]
absorbed (x ∷ z ∷ zs) y h =
    common_grouped x (shared (z ∷ zs)) y ∙ elim h [
      | inl e ↦
          let rest = shared (z ∷ zs) in
          ap (common_shapes x) (ap (common_shapes rest) (sym e) ∙ common_turned rest x) ∙ sym (common_grouped x x rest) ∙ ap (λ w. common_shapes w rest) (common_itself x)
      | inr r ↦ ap (common_shapes x) (absorbed (z ∷ zs) y r)
    ]

once_more : (xs : List Shapes) (y : Shapes) → Among xs y → shared (xs ++ (y ∷ [])) ≡ shared xs
once_more [] y h = absurd h
once_more (x ∷ xs) y h = shared_last x xs y ∙ absorbed (x ∷ xs) y h

abbrev AllAmong : List Shapes → List Shapes → Type 0
AllAmong xs [] = Unit {0}
AllAmong xs (y ∷ ys) = Among xs y × AllAmong xs ys

all_among_left : (xs zs ys : List Shapes) → AllAmong xs ys → AllAmong (xs ++ zs) ys
all_among_left xs zs [] h = tt
all_among_left xs zs (y ∷ ys) h = (among_left xs zs y h.0, all_among_left xs zs ys h.1)

all_once_more : (xs ys : List Shapes) → AllAmong xs ys → shared (xs ++ ys) ≡ shared xs
all_once_more xs [] h = ap shared (append-nil xs)
all_once_more xs (y ∷ ys) h =
    ap shared (sym (append_assoc xs (y ∷ []) ys)) ∙ all_once_more (xs ++ (y ∷ [])) ys (all_among_left xs (y ∷ []) ys h.1) ∙ once_more xs y h.0

-- ---- groups

abbrev shapes_of : List FunTerm → ℕ → Shapes
shapes_of fs place = result_shapes (slice_get fs place)

as_shared : (fs : List FunTerm) (places : List ℕ) → shapes_at fs places ≡ shared (map (shapes_of fs) places)
as_shared fs [] = refl
as_shared fs (p ∷ []) = refl
as_shared fs (p ∷ q ∷ ps) = ap (common_shapes (shapes_of fs p)) (as_shared fs (q ∷ ps))

map_append : (f : ℕ → Shapes) (ms ns : List ℕ) → map f (ms ++ ns) ≡ map f ms ++ map f ns
map_append f [] ns = refl
map_append f (m ∷ ms) ns = λ i. f m ∷ map_append f ms ns i

map_through : (f g : ℕ → Shapes) (h : ℕ → ℕ) (ns : List ℕ) → ((n : ℕ) → StandsIn ns n → f (h n) ≡ g n) → map f (map h ns) ≡ map g ns
map_through f g h [] w = refl
map_through f g h (n ∷ ns) w = λ i. w n (inl refl) i ∷ map_through f g h ns (λ m s. w m (inr s)) i

among_map : (f : ℕ → Shapes) (ns : List ℕ) (n : ℕ) → StandsIn ns n → Among (map f ns) (f n)
among_map f [] n s = absurd s
among_map f (m ∷ ns) n s = elim s [ inl e ↦ inl (ap f e) | inr r ↦ inr (among_map f ns n r) ]

all_among : (f : ℕ → Shapes) (xs : List Shapes) (ns : List ℕ) → ((n : ℕ) → StandsIn ns n → Among xs (f n)) → AllAmong xs (map f ns)
all_among f xs [] w = tt
all_among f xs (n ∷ ns) w = (w n (inl refl), all_among f xs ns (λ m s. w m (inr s)))

module _ (a b : CoreTerm) (well : IsWellFormed a) (s : IsSpecialised a b) where
  pub same_results : (group : ℕ) → called b group ≡ called a group
  same_results group = go (slice_get a.groups group) refl
    where
      ps : List ℕ
      ps = group_at a group

      own : (n : ℕ) → StandsIn (group_at a group) n → shapes_of b.functions (s.at n) ≡ shapes_of a.functions n
      own n t = let h = member a well group n t in ap result_shapes ((s.kept n h.0 h.1).0 ∙ sym h.1)

      further : (n : ℕ) → StandsIn (s.further group) n → Among (map (shapes_of a.functions) (group_at a group)) (shapes_of b.functions n)
      further n t =
          let w = s.instances group n t in
          let v = s.source n w.0 w.1.0 in
          subst (Among (map (shapes_of a.functions) (group_at a group)))
          (ap result_shapes v.1.0 ∙ ap (map shape_of_type) v.1.1.results ∙ sym (ap result_shapes w.1.0))
          (among_map (shapes_of a.functions) (group_at a group) (s.of n) w.1.1.stands)

      go : (o : Option (List ℕ)) → slice_get a.groups group ≡ o → called b group ≡ called a group
      go None e =
          ap (λ o. shapes_at b.functions (unwrap_or o [])) (none_either a.groups b.groups group (sym s.count) e)
          ∙ sym (ap (λ o. shapes_at a.functions (unwrap_or o [])) e)
      go (Some places) e =
          ap (shapes_at b.functions) (group_both a b well s group places e)
          ∙ as_shared b.functions (map s.at (group_at a group) ++ s.further group)
          ∙ ap shared (map_append (shapes_of b.functions) (map s.at (group_at a group)) (s.further group)
          ∙ ap (λ xs. xs ++ map (shapes_of b.functions) (s.further group)) (map_through (shapes_of b.functions) (shapes_of a.functions) s.at (group_at a group) own))
          ∙ all_once_more (map (shapes_of a.functions) (group_at a group)) (map (shapes_of b.functions) (s.further group))
          (all_among (shapes_of b.functions) (map (shapes_of a.functions) (group_at a group)) (s.further group) further)
          ∙ sym (as_shared a.functions (group_at a group))
