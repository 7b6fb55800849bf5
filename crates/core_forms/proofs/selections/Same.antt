-- Selections by vectors mean the same.
use Rattle.std.proofs.Common.{◌≡◌, ℕ, suc, ◌<◌, ◌≤◌, Bool, true, false, ◌&&◌, eqb, List, [], ◌∷◌, ◌++◌, length, Option, Some, None, refl, sym, ap, subst, ◌∙◌, arith}
use Rattle.std.specs.Prelude.{if◌then◌else◌, zip, not}
use Rattle.std.proofs.lemmas.Bool.{eqb-true}
use Rattle.sac_base.specs.declared.base.Base.{Base}
use Rattle.sac_base.specs.declared.base.Base.TheVariants.{Int, Bool as Truth}
use Rattle.sac_base.specs.declared.site.Site.{Site}
use Rattle.sac_base.specs.Arrays.{ArrayValue, same_shape}
use Rattle.sac_base.specs.Outcomes.{and_then}
use Rattle.core_ir.specs.declared.tree.Var.{Var}
use Rattle.core_ir.specs.Meaning.{Env, CallMeaning, bind_all, first, run, right_value, generators, cells}
use Rattle.core_ir.specs.Terms.{BlockTerm, RightTerm, GensTerm, PartsTerm, CoreTerm, Gives, Bind, Plain, NoGens, Gen, NoParts, Part}
use Rattle.core_ir.specs.Uses.{Avoids, AvoidsRight, AvoidsGens, AvoidsParts}
use Rattle.core_ir.specs.WellFormed.{Bases, RightBases, ints}
use Rattle.core_ir.proofs.Edited.{then_same, SameCells}
use Rattle.core_subst.specs.Names.{variable}
use Rattle.core_facts.specs.Facts.{Facts, CallsFit, ShapeIs, in_part, is_some, note_all, right_facts}
use Rattle.core_facts.specs.bases.Typed.{CallsTyped}
use Rattle.core_loops.specs.Indices.{is_scalar_shape}
use Rattle.core_loops.proofs.norm_steps.Scalars.{by_row}
use Rattle.core_forms.proofs.inlined_bodies.Counts.{trans}
use Rattle.core_forms.proofs.cleaning.Places.{At, RightAt, GensAt, PartsAt, right_at, after_bind, same_if, same_loop, same_with, same_parted, same_gen, same_part}
use Rattle.core_forms.specs.selections.Vectors.{Selection, by_scalar, bind_vector, behind, next, next_right, vectored, vectored_right, vectored_gens, vectored_parts}
use Rattle.core_forms.proofs.selections.Bound.{goes, select_of, rises, rises_right}

-- ---- the vectors are not used elsewhere

other : (m : ℕ) (x : Var) → x.0 < m → eqb x.0 m ≡ false
other m x l = go (eqb x.0 m) refl
  where
    go : (t : Bool) → eqb x.0 m ≡ t → eqb x.0 m ≡ false
    go true e = absurd (let p = eqb-true x.0 m e in omega arith)
    go false e = e

less : (x n m : ℕ) → x < n → n ≤ m → x < m
less x n m p q = omega arith

itself_le : (n : ℕ) → n ≤ n
itself_le n = omega arith

next_lt : (n : ℕ) → n < suc n
next_lt n = omega arith

next_le : (n : ℕ) → n ≤ suc n
next_le n = omega arith

module _ (called : ℕ → List (Option (List ℕ))) (x : Var) where
  mutual
    avoids : (b : BlockTerm) (k : Facts) (n : ℕ) → x.0 < n → Avoids x b → Avoids x (vectored called b k n)
    avoids (Gives xs) k n l h = h
    avoids (Bind xs s r b) k n l h =
        go (note_all k xs (right_facts called r k)) (by_scalar r k) refl (λ m p. avoids b (note_all k xs (right_facts called r k)) m (less x.0 n m l p) h.1) (avoids_right r k n l h.0)
      where
        go : (k' : Facts) (o : Option Selection) → by_scalar r k ≡ o → ((m : ℕ) → n ≤ m → Avoids x (vectored called b k' m)) → AvoidsRight x (vectored_right called r k n)
            → Avoids x (bind_vector o (next_right called r k n) xs s (vectored_right called r k n) (vectored called b k' (behind o (next_right called r k n))))
        go k' None e rest here = (here, rest (next_right called r k n) (rises_right called r k n))
        go k' (Some y) e rest here =
            let w = (goes r k y e).right in
            let old = subst (λ (q : RightTerm). AvoidsRight x q) w h.0 in
            subst (λ (q : RightTerm). Avoids x (bind_vector (Some y) (next_right called q k n) xs s (vectored_right called q k n) (vectored called b k' (suc (next_right called q k n)))))
            (sym w) ((old.1.0, tt), ((old.0, (other n x l, tt)), rest (suc n) (next_le n)))

    avoids_right : (r : RightTerm) (k : Facts) (n : ℕ) → x.0 < n → AvoidsRight x r → AvoidsRight x (vectored_right called r k n)
    avoids_right (Plain p) k n l h = h
    avoids_right (RightTerm.If y a b) k n l h = (h.0, avoids a k n l h.1, avoids b k (next called a k n) (less x.0 n (next called a k n) l (rises called a k n)) h.2)
    avoids_right (RightTerm.Loop first start params test body s) k n l h =
        let k' = note_all k params [] in
        let m = next called test k' n in
        (h.0, avoids test k' n l h.1, avoids body k' m (less x.0 n m l (rises called test k' n)) h.2)
    avoids_right (RightTerm.Call g ys) k n l h = h
    avoids_right (RightTerm.With op gens) k n l h = (h.0, avoids_gens gens k n l h.1)
    avoids_right (RightTerm.Parted f b c op parts) k n l h = (h.0, avoids_parts parts k n l h.1)

    avoids_gens : (gs : GensTerm) (k : Facts) (n : ℕ) → x.0 < n → AvoidsGens x gs → AvoidsGens x (vectored_gens called gs k n)
    avoids_gens NoGens k n l h = tt
    avoids_gens (Gen j b rest) k n l h =
        let k' = note_all k (j.index ∷ j.names) [] in
        let m = next called b k' n in
        (h.0, avoids b k' n l h.1, avoids_gens rest k m (less x.0 n m l (rises called b k' n)) h.2)

    avoids_parts : (ps : PartsTerm) (k : Facts) (n : ℕ) → x.0 < n → AvoidsParts x ps → AvoidsParts x (vectored_parts called ps k n)
    avoids_parts NoParts k n l h = tt
    avoids_parts (Part j b rest) k n l h =
        let m = next called b (in_part k j) n in
        (avoids b (in_part k j) n l h.0, avoids_parts rest k m (less x.0 n m l (rises called b (in_part k j) n)) h.1)

-- ---- the index is a scalar

shape_is : (s : List ℕ) → same_shape s [] ≡ true → s ≡ []
shape_is [] h = refl
shape_is (n ∷ ns) h = absurd (cc)

scalar_is : (s : Option (List ℕ)) (v : ArrayValue) → is_scalar_shape s ≡ true → ShapeIs s v → v.shape ≡ []
scalar_is None v h p = absurd (cc)
scalar_is (Some s) v h p = p ∙ shape_is s h

first_true : (b c : Bool) → (b && c) ≡ true → b ≡ true
first_true true c h = refl
first_true false c h = absurd (cc)

-- ---- the meaning

-- no variable from this number on is used
abbrev Unused : BlockTerm → ℕ → Type 0
Unused b n = (y : Var) → n ≤ y.0 → Avoids y b

abbrev UnusedRight : RightTerm → ℕ → Type 0
UnusedRight r n = (y : Var) → n ≤ y.0 → AvoidsRight y r

abbrev UnusedGens : GensTerm → ℕ → Type 0
UnusedGens gs n = (y : Var) → n ≤ y.0 → AvoidsGens y gs

abbrev UnusedParts : PartsTerm → ℕ → Type 0
UnusedParts ps n = (y : Var) → n ≤ y.0 → AvoidsParts y ps

module _ (core : CoreTerm) (calls : CallMeaning) (turns : ℕ) (typed : CallsTyped core calls) (called : ℕ → List (Option (List ℕ))) (fit : CallsFit called calls) where
  -- one selection, of one variable
  by_vector : (xs : List Var) (us : List Base) (x : Selection) (n : ℕ) (s : Site) (g : Bases) (c : BlockTerm) (e : Env) → RightBases core g (select_of x) us → length xs ≡ length us → (e x.index).shape ≡ [] → AvoidsRight (variable n) (select_of x) → Avoids (variable n) c
      → run calls turns (bind_vector (Some x) n xs s (select_of x) c) e ≡ run calls turns (Bind xs s (select_of x) c) e
  by_vector xs us x n s g c e h l p a b = go xs (l ∙ ap length h.3)
    where
      go : (ys : List Var) → length ys ≡ length (h.0 ∷ []) → run calls turns (bind_vector (Some x) n ys s (select_of x) c) e ≡ run calls turns (Bind ys s (select_of x) c) e
      go [] q = absurd (omega arith)
      go (t ∷ []) q = sym (by_row calls turns x.array x.index t (variable n) s s c e p a.0 b)
      go (t ∷ u ∷ ys) q = absurd (omega arith)

  mutual
    pub block_same : (b : BlockTerm) (g : Bases) (ts : List Base) (k : Facts) (n : ℕ) (e : Env) → At core calls turns g ts k b e → Unused b n → run calls turns (vectored called b k n) e ≡ run calls turns b e
    block_same (Gives xs) g ts k n e a u = refl
    block_same (Bind xs s r b) g ts k n e a u =
        go (by_scalar r k) refl
        (λ m l. then_same (right_value calls turns r s e) (λ vs. run calls turns (vectored called b (note_all k xs (right_facts called r k)) m) (bind_all e xs vs)) (λ vs. run calls turns b (bind_all e xs vs))
        (λ vs q. block_same b (zip xs a.bases.0 ++ g) ts (note_all k xs (right_facts called r k)) m (bind_all e xs vs) (after_bind core calls turns typed called fit xs s r b g ts k e vs a q) (λ y p. (u y (trans n m y.0 l p)).1)))
        (right_same r s g a.bases.0 k n e (right_at core calls turns typed called fit xs s r b g ts k e a) (λ y p. (u y p).0))
      where
        go : (o : Option Selection) → by_scalar r k ≡ o
            → ((m : ℕ) → n ≤ m → run calls turns (Bind xs s r (vectored called b (note_all k xs (right_facts called r k)) m)) e ≡ run calls turns (Bind xs s r b) e)
            → right_value calls turns (vectored_right called r k n) s e ≡ right_value calls turns r s e
            → run calls turns (bind_vector o (next_right called r k n) xs s (vectored_right called r k n) (vectored called b (note_all k xs (right_facts called r k)) (behind o (next_right called r k n)))) e ≡ run calls turns (Bind xs s r b) e
        go None q rest here =
            (λ i. and_then (here i) (λ vs. run calls turns (vectored called b (note_all k xs (right_facts called r k)) (next_right called r k n)) (bind_all e xs vs))) ∙ rest (next_right called r k n) (rises_right called r k n)
        go (Some x) q rest here =
            let w = goes r k x q in
            let k' = note_all k xs (right_facts called r k) in
            let c = vectored called b k' (suc n) in
            let shape = scalar_is (k x.index).shape (e x.index) (first_true (is_scalar_shape (k x.index).shape) (not (is_some (k x.index).literal)) w.is_open) (a.sound x.index).shape in
            (λ i. run calls turns (bind_vector (Some x) (next_right called (w.right i) k n) xs s (vectored_right called (w.right i) k n) (vectored called b k' (suc (next_right called (w.right i) k n)))) e)
            ∙ by_vector xs a.bases.0 x n s g c e (subst (λ (z : RightTerm). RightBases core g z a.bases.0) w.right a.bases.1.0) a.bases.1.1 shape
            (subst (λ (z : RightTerm). AvoidsRight (variable n) z) w.right (u (variable n) (itself_le n)).0) (avoids called (variable n) b k' (suc n) (next_lt n) (u (variable n) (itself_le n)).1)
            ∙ (λ i. run calls turns (Bind xs s (sym w.right i) c) e)
            ∙ rest (suc n) (next_le n)

    right_same : (r : RightTerm) (s : Site) (g : Bases) (ts : List Base) (k : Facts) (n : ℕ) (e : Env) → RightAt core calls turns g ts k r e → UnusedRight r n → right_value calls turns (vectored_right called r k n) s e ≡ right_value calls turns r s e
    right_same (Plain p) s g ts k n e a u = refl
    right_same (RightTerm.If x b c) s g ts k n e a u =
        let m = next called b k n in
        let l = rises called b k n in
        same_if core calls turns typed called fit x b c (vectored called b k n) (vectored called c k m) s g ts k e (λ f at. block_same b g ts k n f at (λ y h. (u y h).1)) (λ f at. block_same c g ts k m f at (λ y h. (u y (trans n m y.0 l h)).2)) a
    right_same (RightTerm.Loop fb start params test body v) s g ts k n e a u =
        let k' = note_all k params [] in
        let m = next called test k' n in
        let l = rises called test k' n in
        same_loop core calls turns typed called fit fb start params test body (vectored called test k' n) (vectored called body k' m) v s g ts k e
        (λ f at. block_same test (zip params ts ++ g) (Truth ∷ []) k' n f at (λ y h. (u y h).1)) (λ f at. block_same body (zip params ts ++ g) ts k' m f at (λ y h. (u y (trans n m y.0 l h)).2)) a
    right_same (RightTerm.Call group xs) s g ts k n e a u = refl
    right_same (RightTerm.With op gens) s g ts k n e a u = same_with core calls turns typed called fit op gens (vectored_gens called gens k n) s g ts k e (λ t at. gens_same gens g t k n e at (λ y h. (u y h).1)) a
    right_same (RightTerm.Parted f t shape op parts) s g ts k n e a u = same_parted core calls turns typed called fit f t shape op parts (vectored_parts called parts k n) s g ts k e (λ at. parts_same parts g t k n e at (λ y h. (u y h).1)) a

    gens_same : (gs : GensTerm) (g : Bases) (t : Base) (k : Facts) (n : ℕ) (e : Env) → GensAt core calls turns g t k gs e → UnusedGens gs n → generators calls turns (vectored_gens called gs k n) e ≡ generators calls turns gs e
    gens_same NoGens g t k n e a u = refl
    gens_same (Gen j b rest) g t k n e a u =
        let k' = note_all k (j.index ∷ j.names) [] in
        let m = next called b k' n in
        let l = rises called b k' n in
        same_gen core calls turns typed called fit j b (vectored called b k' n) rest (vectored_gens called rest k m) g t k e
        (λ f at. block_same b (ints (j.index ∷ j.names) ++ g) (t ∷ []) k' n f at (λ y h. (u y h).1)) (λ at. gens_same rest g t k m e at (λ y h. (u y (trans n m y.0 l h)).2)) a

    parts_same : (ps : PartsTerm) (g : Bases) (t : Base) (k : Facts) (n : ℕ) (e : Env) → PartsAt core calls turns g t k ps e → UnusedParts ps n → SameCells (cells calls turns (vectored_parts called ps k n) e) (cells calls turns ps e)
    parts_same NoParts g t k n e a u = tt
    parts_same (Part j b rest) g t k n e a u =
        let m = next called b (in_part k j) n in
        let l = rises called b (in_part k j) n in
        same_part core calls turns typed called fit j b (vectored called b (in_part k j) n) rest (vectored_parts called rest k m) g t k e
        (λ f at. block_same b ((j.index, Int) ∷ g) (t ∷ []) (in_part k j) n f at (λ y h. (u y h).0)) (λ at. parts_same rest g t k m e at (λ y h. (u y (trans n m y.0 l h)).1)) a
