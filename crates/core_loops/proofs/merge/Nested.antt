-- A loop over a product of frames is a loop of loops.
use Rattle.std.proofs.Common.{◌≡◌, ℕ, Bool, true, false, cond, List, [], ◌∷◌, ◌++◌, map, Option, Some, Ok, Err, refl, sym, ap, ◌∙◌, ℤ, pos, All}
use Rattle.std.specs.Prelude.{flat_map, filter}
use Rattle.std.proofs.lemmas.List.Elements.{All-append}
use Rattle.sac_base.specs.declared.base.Base.{Base}
use Rattle.sac_base.specs.declared.grid.Grid1.{Grid1}
use Rattle.sac_base.specs.declared.site.Site.{Site}
use Rattle.sac_base.specs.Arrays.{ArrayValue}
use Rattle.sac_base.specs.Grids.{has_vector, members, box_indices}
use Rattle.sac_base.specs.Operators.{all_of, with_first}
use Rattle.sac_base.specs.Outcomes.{Ends, and_then}
use Rattle.sac_base.specs.WithLoops.{Span, span_of, box, numbers_from, each}
use Rattle.core_ir.specs.declared.tree.PartedOp.TheVariants as parted
use Rattle.core_ir.specs.Meaning.{Env, Cells, cell_at, cell_form, elements_of, extents, joined, parted_value}
use Rattle.array_with_loops.specs.GridFrames.{box_range}
use Rattle.array_with_loops.proofs.GridSteps.{members_box}

-- ---- lists

append_nothing : {A : Type 0} (xs : List A) → xs ++ [] ≡ xs
append_nothing [] = refl
append_nothing (x ∷ xs) = λ i. x ∷ append_nothing xs i

append_assoc : {A : Type 0} (xs ys zs : List A) → (xs ++ ys) ++ zs ≡ xs ++ (ys ++ zs)
append_assoc [] ys zs = refl
append_assoc (x ∷ xs) ys zs = λ i. x ∷ append_assoc xs ys zs i

map_append : {A B : Type 0} (f : A → B) (xs ys : List A) → map f (xs ++ ys) ≡ map f xs ++ map f ys
map_append f [] ys = refl
map_append f (x ∷ xs) ys = λ i. f x ∷ map_append f xs ys i

flat_append : {A B : Type 0} (f : A → List B) (xs ys : List A) → flat_map f (xs ++ ys) ≡ flat_map f xs ++ flat_map f ys
flat_append f [] ys = refl
flat_append f (x ∷ xs) ys = ap (λ zs. f x ++ zs) (flat_append f xs ys) ∙ sym (append_assoc (f x) (flat_map f xs) (flat_map f ys))

-- ---- members

abbrev pub beside : List (List ℤ) → List ℤ → List (List ℤ)
beside ws v = map (λ w. v ++ w) ws

beside_nothing : (ws : List (List ℤ)) → beside ws [] ≡ ws
beside_nothing [] = refl
beside_nothing (w ∷ ws) = λ i. w ∷ beside_nothing ws i

beside_more : (x : ℤ) (v : List ℤ) (ws : List (List ℤ)) → map (λ u. x ∷ u) (beside ws v) ≡ beside ws (x ∷ v)
beside_more x v [] = refl
beside_more x v (w ∷ ws) = λ i. (x ∷ (v ++ w)) ∷ beside_more x v ws i

before_all : (x : ℤ) (ws vs : List (List ℤ)) → map (λ u. x ∷ u) (flat_map (beside ws) vs) ≡ flat_map (beside ws) (map (λ u. x ∷ u) vs)
before_all x ws [] = refl
before_all x ws (v ∷ vs) = map_append (λ u. x ∷ u) (beside ws v) (flat_map (beside ws) vs) ∙ (λ i. beside_more x v ws i ++ before_all x ws vs i)

along : (ws vs : List (List ℤ)) (ns : List ℤ) → flat_map (λ x. map (λ u. x ∷ u) (flat_map (beside ws) vs)) ns ≡ flat_map (beside ws) (flat_map (λ x. map (λ u. x ∷ u) vs) ns)
along ws vs [] = refl
along ws vs (x ∷ ns) =
    (λ i. before_all x ws vs i ++ along ws vs ns i) ∙ sym (flat_append (beside ws) (map (λ u. x ∷ u) vs) (flat_map (λ y. map (λ u. y ∷ u) vs) ns))

box_append : (ss us : List Span) → box (ss ++ us) ≡ flat_map (beside (box us)) (box ss)
box_append [] us = sym (append_nothing (beside (box us) []) ∙ beside_nothing (box us))
box_append (a ∷ ss) us =
    ap (λ vs. flat_map (λ x. map (λ u. x ∷ u) vs) (numbers_from a.low a.extent)) (box_append ss us) ∙ along (box us) (box ss) (numbers_from a.low a.extent)

abbrev pub Dense : Grid1 → Type 0
Dense axis = axis.step ≡ pos 1

spans_append : (f g : List Grid1) → map span_of (box_range (f ++ g)) ≡ map span_of (box_range f) ++ map span_of (box_range g)
spans_append [] g = refl
spans_append (a ∷ f) g = λ i. span_of (record { lower = a.lo; upper = a.hi; step = pos 1; width = pos 1 }) ∷ spans_append f g i

-- the members of a product of frames
pub product : (f g : List Grid1) → All Dense f → All Dense g → members (f ++ g) ≡ flat_map (beside (members g)) (members f)
product f g d e =
    members_box (f ++ g) (All-append Dense f g d e) ∙ ap box (spans_append f g) ∙ box_append (map span_of (box_range f)) (map span_of (box_range g))
    ∙ (λ i. flat_map (beside (sym (members_box g e) i)) (sym (members_box f d) i))

-- ---- cells one after another

abbrev elements : Ends (List (Option ArrayValue)) → Ends (List ℤ)
elements x = and_then x (λ found. Ok (flat_map elements_of found))

abbrev both : Ends (List ℤ) → Ends (List ℤ) → Ends (List ℤ)
both x y = and_then x (λ a. and_then y (λ b. Ok (a ++ b)))

nothing_both : (y : Ends (List ℤ)) → y ≡ both (Ok []) y
nothing_both (Ok b) = refl
nothing_both (Err k) = refl

both_assoc : (x y z : Ends (List ℤ)) → both x (both y z) ≡ both (both x y) z
both_assoc (Err k) y z = refl
both_assoc (Ok a) (Err k) z = refl
both_assoc (Ok a) (Ok b) (Err k) = refl
both_assoc (Ok a) (Ok b) (Ok c) = λ i. Ok (sym (append_assoc a b c) i)

abbrev cell_elements : Ends (Option ArrayValue) → Ends (List ℤ)
cell_elements x = and_then x (λ o. Ok (elements_of o))

first_elements : (x : Ends (Option ArrayValue)) (rest : List (Ends (Option ArrayValue))) → elements (all_of (x ∷ rest)) ≡ both (cell_elements x) (elements (all_of rest))
first_elements (Err k) rest = refl
first_elements (Ok o) rest = go (all_of rest)
  where
    go : (y : Ends (List (Option ArrayValue))) → elements (with_first o y) ≡ both (Ok (elements_of o)) (elements y)
    go (Ok b) = refl
    go (Err k) = refl

each_append : (C : List ℤ → Ends (Option ArrayValue)) (us vs : List (List ℤ)) → elements (each C (us ++ vs)) ≡ both (elements (each C us)) (elements (each C vs))
each_append C [] vs = nothing_both (elements (each C vs))
each_append C (u ∷ us) vs =
    first_elements (C u) (map C (us ++ vs)) ∙ ap (both (cell_elements (C u))) (each_append C us vs)
    ∙ both_assoc (cell_elements (C u)) (elements (each C us)) (elements (each C vs))
    ∙ sym (ap (λ x. both x (elements (each C vs))) (first_elements (C u) (map C us)))

nested : (C G : List ℤ → Ends (Option ArrayValue)) (ws : List (List ℤ)) (p : List ℤ → Bool) (vs : List (List ℤ)) → ((v : List ℤ) → p v ≡ true → elements (each C (beside ws v)) ≡ cell_elements (G v)) → elements (each C (flat_map (beside ws) (filter p vs))) ≡ elements (each G (filter p vs))
nested C G ws p [] h = refl
nested C G ws p (v ∷ vs) h = go (p v) refl (nested C G ws p vs h)
  where
    go : (b : Bool) → p v ≡ b → elements (each C (flat_map (beside ws) (filter p vs))) ≡ elements (each G (filter p vs)) → elements (each C (flat_map (beside ws) (cond b (v ∷ filter p vs) (filter p vs)))) ≡ elements (each G (cond b (v ∷ filter p vs) (filter p vs)))
    go true e r = each_append C (beside ws v) (flat_map (beside ws) (filter p vs)) ∙ (λ i. both (h v e i) (r i)) ∙ sym (first_elements (G v) (map G (filter p vs)))
    go false e r = r

each_beside : (C I : List ℤ → Ends (Option ArrayValue)) (v : List ℤ) (p : List ℤ → Bool) (ws : List (List ℤ)) → ((w : List ℤ) → p w ≡ true → C (v ++ w) ≡ I w) → each C (beside (filter p ws) v) ≡ each I (filter p ws)
each_beside C I v p ws h = ap all_of (mapped ws)
  where
    mapped : (ws : List (List ℤ)) → map C (beside (filter p ws) v) ≡ map I (filter p ws)
    mapped [] = refl
    mapped (w ∷ ws) = go (p w) refl (mapped ws)
      where
        go : (b : Bool) → p w ≡ b → map C (beside (filter p ws) v) ≡ map I (filter p ws) → map C (beside (cond b (w ∷ filter p ws) (filter p ws)) v) ≡ map I (cond b (w ∷ filter p ws) (filter p ws))
        go true e r = λ i. h w e i ∷ r i
        go false e r = r

-- ---- loops

by_elements : (t : Base) (shape : List ℕ) (x : Ends (List (Option ArrayValue))) → and_then x (λ found. Ok (joined t shape found)) ≡ and_then (elements x) (λ zs. Ok (record { base = t; shape = shape; cells = zs }))
by_elements t shape (Ok found) = refl
by_elements t shape (Err k) = refl

inner_elements : (t : Base) (shape : List ℕ) (x : Ends (List (Option ArrayValue))) → cell_elements (and_then (and_then x (λ found. Ok (joined t shape found))) (λ a. Ok (Some a))) ≡ elements x
inner_elements t shape (Ok found) = refl
inner_elements t shape (Err k) = refl

abbrev whole : Base → List ℕ → Ends (List ℤ) → Ends ArrayValue
whole t shape x = and_then x (λ zs. Ok (record { base = t; shape = shape; cells = zs }))

shape_of_both : (f g : List Grid1) (cell : List ℕ) → extents g ≡ cell → extents (f ++ g) ++ [] ≡ extents f ++ cell
shape_of_both [] g cell h = append_nothing (extents g) ∙ h
shape_of_both (a ∷ f) g cell h = λ i. Rattle.sac_base.specs.WithLoops.distance (Rattle.std.specs.Prelude.◌-ℤ◌ a.hi a.lo) ∷ shape_of_both f g cell h i

-- The loop over the product of frames, with the inner cells, is the loop whose cells are the inner loops. The first fault is the same: that of the least index.
pub merged : (f g : List Grid1) (t : Base) (cell : List ℕ) (new old : List Cells) (s : Site) (e : Env) → All Dense f → All Dense g → extents g ≡ cell
    → ((v : List ℤ) → has_vector f v ≡ true → (inner : List Cells) × (cell_at (cell_form t cell) old v ≡ and_then (and_then (each (cell_at (cell_form t []) inner) (members g)) (λ found. Ok (joined t (extents g ++ []) found))) (λ a. Ok (Some a))) × ((w : List ℤ) → has_vector g w ≡ true → cell_at (cell_form t []) new (v ++ w) ≡ cell_at (cell_form t []) inner w))
    → parted_value (f ++ g) t [] parted.Genarray new s e ≡ parted_value f t cell parted.Genarray old s e
merged f g t cell new old s e df dg h outer =
    let C = cell_at (cell_form t []) new in
    let G = cell_at (cell_form t cell) old in
    let at : (v : List ℤ) → has_vector f v ≡ true → elements (each C (beside (members g) v)) ≡ cell_elements (G v) =
    λ v q. let o = outer v q in
    ap elements (each_beside C (cell_at (cell_form t []) o.0) v (has_vector g) (box_indices (map (λ (a : Grid1). a.lo) g) (map (λ (a : Grid1). a.hi) g)) o.2)
    ∙ sym (ap cell_elements o.1 ∙ inner_elements t (extents g ++ []) (each (cell_at (cell_form t []) o.0) (members g))) in
    by_elements t (extents (f ++ g) ++ []) (each C (members (f ++ g)))
    ∙ (λ i. whole t (shape_of_both f g cell h i) (elements (each C (product f g df dg i))))
    ∙ ap (whole t (extents f ++ cell)) (nested C G (members g) (has_vector f) (box_indices (map (λ (a : Grid1). a.lo) f) (map (λ (a : Grid1). a.hi) f)) at)
    ∙ sym (by_elements t (extents f ++ cell) (each G (members f)))
