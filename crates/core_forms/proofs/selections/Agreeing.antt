-- Bases once selections go by vectors.
use Rattle.std.proofs.Common.{◌≡◌, ℕ, suc, ◌≤◌, Bool, true, false, cond, eqb, List, [], ◌∷◌, ◌++◌, Option, Some, None, refl, sym, subst, ◌∙◌, arith}
use Rattle.std.specs.Prelude.{zip}
use Rattle.std.proofs.lemmas.Bool.{eqb-true, eq-eqb}
use Rattle.sac_base.specs.declared.base.Base.{Base}
use Rattle.sac_base.specs.declared.base.Base.TheVariants.{Int, Bool as Truth}
use Rattle.core_ir.specs.declared.tree.Var.{Var}
use Rattle.core_ir.specs.Binders.{bound_in, bound_in_right, bound_in_gens, bound_in_parts}
use Rattle.core_ir.specs.Terms.{BlockTerm, RightTerm, GensTerm, PartsTerm, CoreTerm, Gives, Bind, Plain, NoGens, Gen, NoParts, Part}
use Rattle.core_ir.specs.WellFormed.{Bases, BlockBases, GensBases, PartedFits, PartsBases, RightBases, base_of, ints}
use Rattle.core_subst.specs.Names.{variable}
use Rattle.core_facts.specs.Facts.{Facts, note_all, right_facts, in_part}
use Rattle.core_forms.specs.edits.Within.{BasesWithin}
use Rattle.core_forms.proofs.edits.Wider.{block_bases_wider}
use Rattle.core_forms.proofs.inlined_bodies.Counts.{trans}
use Rattle.core_forms.proofs.inlined_bodies.Names.{Fresh, fresh_left, fresh_right, fresh_more}
use Rattle.core_forms.proofs.cleaning.Lists.{zip_elsewhere, ints_elsewhere}
use Rattle.core_forms.specs.selections.Vectors.{Selection, by_scalar, bind_vector, behind, next, next_right, vectored, vectored_right, vectored_gens, vectored_parts}
use Rattle.core_forms.proofs.selections.Bound.{goes, rises, rises_right, grids_kept}

-- no variable from this number on has a base
abbrev pub NoneFrom : Bases → ℕ → Type 0
NoneFrom g n = (y : Var) → n ≤ y.0 → base_of g y ≡ None

none_more : (g : Bases) (n m : ℕ) → n ≤ m → NoneFrom g n → NoneFrom g m
none_more g n m l f = λ y p. f y (trans n m y.0 l p)

none_zip : (xs : List Var) (ts : List Base) (g : Bases) (n : ℕ) → Fresh xs n → NoneFrom g n → NoneFrom (zip xs ts ++ g) n
none_zip xs ts g n f h = λ y p. zip_elsewhere xs ts g y (f y p) ∙ h y p

none_ints : (xs : List Var) (g : Bases) (n : ℕ) → Fresh xs n → NoneFrom g n → NoneFrom (ints xs ++ g) n
none_ints xs g n f h = λ y p. ints_elsewhere xs g y (f y p) ∙ h y p

base_more : (b : Bool) (t : Base) (s p q : Option Base) → (p ≡ Some t → q ≡ Some t) → cond b s p ≡ Some t → cond b s q ≡ Some t
base_more true t s p q k h = h
base_more false t s p q k h = k h

below : (zs g wide : Bases) → BasesWithin g wide → BasesWithin (zs ++ g) (zs ++ wide)
below [] g wide k x t h = k x t h
below (z ∷ zs) g wide k x t h = base_more (eqb z.0.0 x.0) t (Some z.1) (base_of (zs ++ g) x) (base_of (zs ++ wide) x) (below zs g wide k x t) h

-- one variable more, which has no base
one_more : (g : Bases) (n : ℕ) → NoneFrom g n → BasesWithin g ((variable n, Int) ∷ g)
one_more g n f x t h = go (eqb n x.0) refl
  where
    go : (b : Bool) → eqb n x.0 ≡ b → cond b (Some Int) (base_of g x) ≡ Some t
    go true e = absurd (let p = eqb-true n x.0 e in let q : ◌≡◌ {A = Option Base} None (Some t) = sym (f x (omega arith)) ∙ h in cc)
    go false e = h

itself_le : (n : ℕ) → n ≤ n
itself_le n = omega arith

next_le : (n : ℕ) → n ≤ suc n
next_le n = omega arith

module _ (core : CoreTerm) (called : ℕ → List (Option (List ℕ))) where
  mutual
    pub agreeing : (b : BlockTerm) (k : Facts) (n : ℕ) (g : Bases) (ts : List Base) → BlockBases core g b ts → Fresh (bound_in b) n → NoneFrom g n → BlockBases core g (vectored called b k n) ts
    agreeing (Gives xs) k n g ts h f e = h
    agreeing (Bind xs s r b) k n g ts h f e =
        let rest = fresh_right xs (bound_in_right r ++ bound_in b) n f in
        let own = fresh_left xs (bound_in_right r ++ bound_in b) n f in
        let inner = fresh_right (bound_in_right r) (bound_in b) n rest in
        go (note_all k xs (right_facts called r k)) (by_scalar r k) refl
        (λ m l. agreeing b (note_all k xs (right_facts called r k)) m (zip xs h.0 ++ g) ts h.1.2 (fresh_more (bound_in b) n m l inner) (none_zip xs h.0 g m (fresh_more xs n m l own) (none_more g n m l e)))
        (agreeing_right r k n g h.0 h.1.0 (fresh_left (bound_in_right r) (bound_in b) n rest) e)
      where
        go : (k' : Facts) (o : Option Selection) → by_scalar r k ≡ o → ((m : ℕ) → n ≤ m → BlockBases core (zip xs h.0 ++ g) (vectored called b k' m) ts) → RightBases core g (vectored_right called r k n) h.0
            → BlockBases core g (bind_vector o (next_right called r k n) xs s (vectored_right called r k n) (vectored called b k' (behind o (next_right called r k n)))) ts
        go k' None q below' here = (h.0, (here, h.1.1, below' (next_right called r k n) (rises_right called r k n)))
        go k' (Some x) q below' here =
            let w = (goes r k x q).right in
            let old = subst (λ (z : RightTerm). RightBases core g z h.0) w h.1.0 in
            let wide = (variable n, Int) ∷ g in
            subst (λ (z : RightTerm). BlockBases core g (bind_vector (Some x) (next_right called z k n) xs s (vectored_right called z k n) (vectored called b k' (suc (next_right called z k n)))) ts)
            (sym w) (
              Int ∷ [],
              (
                (Int, (old.2, tt), refl),
                refl,
                (
                  h.0,
                  (
                    (old.0, one_more g n e x.array old.0 old.1, (λ i. cond (eq-eqb n n refl i) (Some Int) (base_of g (variable n))), old.3),
                    h.1.1,
                    block_bases_wider core (vectored called b k' (suc n)) (zip xs h.0 ++ g) (zip xs h.0 ++ wide) ts (below (zip xs h.0) g wide (one_more g n e)) (below' (suc n) (next_le n)),
                  ),
                ),
              ),
            )

    pub agreeing_right : (r : RightTerm) (k : Facts) (n : ℕ) (g : Bases) (ts : List Base) → RightBases core g r ts → Fresh (bound_in_right r) n → NoneFrom g n → RightBases core g (vectored_right called r k n) ts
    agreeing_right (Plain p) k n g ts h f e = h
    agreeing_right (RightTerm.If x a b) k n g ts h f e =
        let m = next called a k n in
        let l = rises called a k n in
        (h.0, agreeing a k n g ts h.1 (fresh_left (bound_in a) (bound_in b) n f) e, agreeing b k m g ts h.2 (fresh_more (bound_in b) n m l (fresh_right (bound_in a) (bound_in b) n f)) (none_more g n m l e))
    agreeing_right (RightTerm.Loop first start params test body s) k n g ts h f e =
        let k' = note_all k params [] in
        let m = next called test k' n in
        let l = rises called test k' n in
        let inside = fresh_right params (bound_in test ++ bound_in body) n f in
        let around = none_zip params ts g n (fresh_left params (bound_in test ++ bound_in body) n f) e in (
          h.0,
          h.1,
          agreeing test k' n (zip params ts ++ g) (Truth ∷ []) h.2 (fresh_left (bound_in test) (bound_in body) n inside) around,
          agreeing body k' m (zip params ts ++ g) ts h.3 (fresh_more (bound_in body) n m l (fresh_right (bound_in test) (bound_in body) n inside)) (none_more (zip params ts ++ g) n m l around),
        )
    agreeing_right (RightTerm.Call group xs) k n g ts h f e = h
    agreeing_right (RightTerm.With o gens) k n g ts h f e = (h.0, (h.1.0, agreeing_gens gens k n g h.0 h.1.1 f e, h.1.2))
    agreeing_right (RightTerm.Parted frame t cell o parts) k n g ts h f e =
        (h.0, agreeing_parts parts k n g t h.1 f e, subst (λ gs. PartedFits o frame cell gs) (sym (grids_kept called parts k n)) h.2, h.3)

    pub agreeing_gens : (gs : GensTerm) (k : Facts) (n : ℕ) (g : Bases) (t : Base) → GensBases core g gs t → Fresh (bound_in_gens gs) n → NoneFrom g n → GensBases core g (vectored_gens called gs k n) t
    agreeing_gens NoGens k n g t h f e = tt
    agreeing_gens (Gen j b rest) k n g t h f e =
        let xs = j.index ∷ j.names in
        let k' = note_all k xs [] in
        let m = next called b k' n in
        let l = rises called b k' n in
        let inside = fresh_right xs (bound_in b ++ bound_in_gens rest) n f in (
          h.0,
          h.1,
          h.2,
          h.3,
          agreeing b k' n (ints xs ++ g) (t ∷ []) h.4 (fresh_left (bound_in b) (bound_in_gens rest) n inside) (none_ints xs g n (fresh_left xs (bound_in b ++ bound_in_gens rest) n f) e),
          agreeing_gens rest k m g t h.5 (fresh_more (bound_in_gens rest) n m l (fresh_right (bound_in b) (bound_in_gens rest) n inside)) (none_more g n m l e),
        )

    pub agreeing_parts : (ps : PartsTerm) (k : Facts) (n : ℕ) (g : Bases) (t : Base) → PartsBases core g ps t → Fresh (bound_in_parts ps) n → NoneFrom g n → PartsBases core g (vectored_parts called ps k n) t
    agreeing_parts NoParts k n g t h f e = tt
    agreeing_parts (Part j b rest) k n g t h f e =
        let xs = j.index ∷ [] in
        let k' = in_part k j in
        let m = next called b k' n in
        let l = rises called b k' n in
        let inside = fresh_right xs (bound_in b ++ bound_in_parts rest) n f in (
          agreeing b k' n ((j.index, Int) ∷ g) (t ∷ []) h.0 (fresh_left (bound_in b) (bound_in_parts rest) n inside) (none_ints xs g n (fresh_left xs (bound_in b ++ bound_in_parts rest) n f) e),
          agreeing_parts rest k m g t h.1 (fresh_more (bound_in_parts rest) n m l (fresh_right (bound_in b) (bound_in_parts rest) n inside)) (none_more g n m l e),
        )
