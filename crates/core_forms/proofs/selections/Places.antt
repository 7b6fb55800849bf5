-- Scopes once selections go by vectors.
use Rattle.std.proofs.Common.{◌≡◌, ℕ, suc, ◌<◌, ◌≤◌, Bool, true, false, ◌||◌, eqb, List, [], ◌∷◌, ◌++◌, Option, Some, None, refl, sym, subst, ◌∙◌, arith, ◌⊎◌, inl, inr}
use Rattle.std.proofs.lemmas.Bool.{eqb-true}
use Rattle.core_ir.specs.declared.tree.Var.{Var}
use Rattle.core_ir.specs.Binders.{is_in, NoneIn, bound_in, bound_in_right, bound_in_gens, bound_in_parts}
use Rattle.core_ir.specs.Scopes.{Scoped, ScopedRight, ScopedGens, ScopedParts}
use Rattle.core_ir.specs.Terms.{BlockTerm, RightTerm, GensTerm, PartsTerm, Gives, Bind, Plain, NoGens, Gen, NoParts, Part}
use Rattle.core_ir.proofs.Variables.{in_more}
use Rattle.core_subst.specs.Names.{variable}
use Rattle.core_facts.specs.Facts.{Facts, note_all, right_facts, in_part}
use Rattle.core_forms.proofs.cleaning.Lists.{clash, itself, behind_first}
use Rattle.core_forms.proofs.edits.Wider.{block_wider, bound_new, none_both}
use Rattle.core_forms.proofs.inlined_bodies.Names.{Names, Fresh, fresh_both, fresh_left, fresh_right, fresh_more, none_by}
use Rattle.core_forms.specs.selections.Vectors.{Selection, by_scalar, bind_vector, behind, next, next_right, vectored, vectored_right, vectored_gens, vectored_parts}
use Rattle.core_forms.proofs.selections.Bound.{goes, rises, rises_right, names}

-- another number
other : (n : ℕ) (y : Var) → suc n ≤ y.0 → eqb n y.0 ≡ false
other n y h = go (eqb n y.0) refl
  where
    go : (t : Bool) → eqb n y.0 ≡ t → eqb n y.0 ≡ false
    go true e = absurd (let p = eqb-true n y.0 e in omega arith)
    go false e = e

up : (n m : ℕ) → suc n ≤ m → n ≤ m
up n m h = omega arith

here : (n : ℕ) → n ≤ n
here n = omega arith

beyond : (n m : ℕ) → n ≡ m → suc n ≤ m → ⊥
beyond n m e h = omega arith

-- none of what is not in the list up to a number
pub none_fresh : (xs : List Var) (n : ℕ) → Fresh xs n → NoneIn xs (variable n ∷ [])
none_fresh xs n f = none_by xs (variable n ∷ []) (λ y h. go y (eqb n y.0) refl h)
  where
    go : (y : Var) (t : Bool) → eqb n y.0 ≡ t → is_in y xs ≡ true → (eqb n y.0 || false) ≡ false
    go y true e h = clash (is_in y xs) h (f y (let p = eqb-true n y.0 e in omega arith))
    go y false e h = λ i. e i || false

module _ (called : ℕ → List (Option (List ℕ))) where
  -- the variable before those that a block takes is not bound in it
  not_taken : (b : BlockTerm) (k : Facts) (n : ℕ) → Fresh (bound_in b) n → is_in (variable n) (bound_in (vectored called b k (suc n))) ≡ false
  not_taken b k n f = go (is_in (variable n) (bound_in (vectored called b k (suc n)))) refl
    where
      go : (t : Bool) → is_in (variable n) (bound_in (vectored called b k (suc n))) ≡ t → is_in (variable n) (bound_in (vectored called b k (suc n))) ≡ false
      go true e = absurd (cases ((names called b k (suc n)).within (variable n) e))
        where
          cases : (is_in (variable n) (bound_in b) ≡ true) ⊎ ((suc n ≤ n) × (n < next called b k (suc n))) → ⊥
          cases (inl h) = clash (is_in (variable n) (bound_in b)) h (f (variable n) (here n))
          cases (inr h) = beyond n n refl h.0
      go false e = e

  -- with the vector in scope too
  wider : (b : BlockTerm) (k : Facts) (n : ℕ) (xs scope : List Var) → Fresh (bound_in b) n → Scoped (xs ++ scope) (vectored called b k (suc n)) → Scoped (xs ++ (variable n ∷ scope)) (vectored called b k (suc n))
  wider b k n xs scope f h =
      block_wider (vectored called b k (suc n)) (xs ++ scope) (xs ++ (variable n ∷ scope)) (λ y p. in_more y xs (variable n ∷ scope) ∙ more (is_in y xs) (eqb n y.0) (is_in y scope) (sym (in_more y xs scope) ∙ p))
      (none_by (bound_in (vectored called b k (suc n))) (xs ++ (variable n ∷ scope)) (λ y p. apart y (eqb n y.0) refl p (at y p (bound_new (vectored called b k (suc n)) (xs ++ scope) h))))
      h
    where
      more : (s t u : Bool) → (s || u) ≡ true → (s || (t || u)) ≡ true
      more true t u p = refl
      more false true u p = refl
      more false false u p = p

      at : (y : Var) → is_in y (bound_in (vectored called b k (suc n))) ≡ true → NoneIn (bound_in (vectored called b k (suc n))) (xs ++ scope) → is_in y (xs ++ scope) ≡ false
      at y p none = Rattle.core_forms.proofs.inlined_bodies.Names.none_at y (bound_in (vectored called b k (suc n))) (xs ++ scope) none p

      join : (s t u : Bool) → t ≡ false → (s || u) ≡ false → (s || (t || u)) ≡ false
      join true t u p q = absurd (cc)
      join false t u p q = (λ i. p i || u) ∙ q

      apart : (y : Var) (t : Bool) → eqb n y.0 ≡ t → is_in y (bound_in (vectored called b k (suc n))) ≡ true → is_in y (xs ++ scope) ≡ false → is_in y (xs ++ (variable n ∷ scope)) ≡ false
      apart y true e p q = clash (is_in (variable n) (bound_in (vectored called b k (suc n)))) ((λ i. is_in (record { 0 = eqb-true n y.0 e i }) (bound_in (vectored called b k (suc n)))) ∙ p) (not_taken b k n f)
      apart y false e p q = in_more y xs (variable n ∷ scope) ∙ join (is_in y xs) (eqb n y.0) (is_in y scope) e (sym (in_more y xs scope) ∙ q)

  mutual
    pub scoped : (b : BlockTerm) (k : Facts) (n : ℕ) (scope : List Var) → Scoped scope b → Fresh (bound_in b) n → Fresh scope n → Scoped scope (vectored called b k n)
    scoped (Gives xs) k n scope h f g = h
    scoped (Bind xs s r b) k n scope h f g =
        go (note_all k xs (right_facts called r k)) (by_scalar r k) refl h.0 (λ m l. scoped b (note_all k xs (right_facts called r k)) m (xs ++ scope) h.2 (fresh_more (bound_in b) n m l bound) (fresh_both xs scope m (fresh_more xs n m l own) (fresh_more scope n m l g)))
        (scoped_right r k n scope h.0 (fresh_left (bound_in_right r) (bound_in b) n rest) g)
      where
        rest : Fresh (bound_in_right r ++ bound_in b) n
        rest = fresh_right xs (bound_in_right r ++ bound_in b) n f

        own : Fresh xs n
        own = fresh_left xs (bound_in_right r ++ bound_in b) n f

        bound : Fresh (bound_in b) n
        bound = fresh_right (bound_in_right r) (bound_in b) n rest

        go : (k' : Facts) (o : Option Selection) → by_scalar r k ≡ o → ScopedRight scope r → ((m : ℕ) → n ≤ m → Scoped (xs ++ scope) (vectored called b k' m)) → ScopedRight scope (vectored_right called r k n)
            → Scoped scope (bind_vector o (next_right called r k n) xs s (vectored_right called r k n) (vectored called b k' (behind o (next_right called r k n))))
        go k' None e old below inner = (inner, h.1, below (next_right called r k n) (rises_right called r k n))
        go k' (Some x) e old below inner =
            let w = (goes r k x e).right in
            let used = subst (λ (q : RightTerm). ScopedRight scope q) w old in
            subst (λ (q : RightTerm). Scoped scope (bind_vector (Some x) (next_right called q k n) xs s (vectored_right called q k n) (vectored called b k' (suc (next_right called q k n)))))
            (sym w) (
              (used.1.0, tt),
              (g (variable n) (here n), tt),
              (
                (behind_first x.array (variable n) scope used.0, (itself (variable n) scope, tt)),
                none_both xs (variable n ∷ []) scope (none_fresh xs n own) h.1,
                wider b k' n xs scope bound (below (suc n) (up n (suc n) (here (suc n)))),
              ),
            )

    pub scoped_right : (r : RightTerm) (k : Facts) (n : ℕ) (scope : List Var) → ScopedRight scope r → Fresh (bound_in_right r) n → Fresh scope n → ScopedRight scope (vectored_right called r k n)
    scoped_right (Plain p) k n scope h f g = h
    scoped_right (RightTerm.If x a b) k n scope h f g =
        let m = next called a k n in
        let l = rises called a k n in
        (h.0, scoped a k n scope h.1 (fresh_left (bound_in a) (bound_in b) n f) g, scoped b k m scope h.2 (fresh_more (bound_in b) n m l (fresh_right (bound_in a) (bound_in b) n f)) (fresh_more scope n m l g))
    scoped_right (RightTerm.Loop first start params test body s) k n scope h f g =
        let k' = note_all k params [] in
        let m = next called test k' n in
        let l = rises called test k' n in
        let inside = fresh_right params (bound_in test ++ bound_in body) n f in
        let around = fresh_both params scope n (fresh_left params (bound_in test ++ bound_in body) n f) g in (
          h.0,
          h.1,
          scoped test k' n (params ++ scope) h.2 (fresh_left (bound_in test) (bound_in body) n inside) around,
          scoped body k' m (params ++ scope) h.3 (fresh_more (bound_in body) n m l (fresh_right (bound_in test) (bound_in body) n inside)) (fresh_more (params ++ scope) n m l around),
        )
    scoped_right (RightTerm.Call group xs) k n scope h f g = h
    scoped_right (RightTerm.With o gens) k n scope h f g = (h.0, scoped_gens gens k n scope h.1 f g)
    scoped_right (RightTerm.Parted frame base cell o parts) k n scope h f g = (h.0, scoped_parts parts k n scope h.1 f g)

    pub scoped_gens : (gs : GensTerm) (k : Facts) (n : ℕ) (scope : List Var) → ScopedGens scope gs → Fresh (bound_in_gens gs) n → Fresh scope n → ScopedGens scope (vectored_gens called gs k n)
    scoped_gens NoGens k n scope h f g = tt
    scoped_gens (Gen j b rest) k n scope h f g =
        let xs = j.index ∷ j.names in
        let k' = note_all k xs [] in
        let m = next called b k' n in
        let l = rises called b k' n in
        let inside = fresh_right xs (bound_in b ++ bound_in_gens rest) n f in (
          h.0,
          h.1,
          scoped b k' n (xs ++ scope) h.2 (fresh_left (bound_in b) (bound_in_gens rest) n inside) (fresh_both xs scope n (fresh_left xs (bound_in b ++ bound_in_gens rest) n f) g),
          scoped_gens rest k m scope h.3 (fresh_more (bound_in_gens rest) n m l (fresh_right (bound_in b) (bound_in_gens rest) n inside)) (fresh_more scope n m l g),
        )

    pub scoped_parts : (ps : PartsTerm) (k : Facts) (n : ℕ) (scope : List Var) → ScopedParts scope ps → Fresh (bound_in_parts ps) n → Fresh scope n → ScopedParts scope (vectored_parts called ps k n)
    scoped_parts NoParts k n scope h f g = tt
    scoped_parts (Part j b rest) k n scope h f g =
        let xs = j.index ∷ [] in
        let k' = in_part k j in
        let m = next called b k' n in
        let l = rises called b k' n in
        let inside = fresh_right xs (bound_in b ++ bound_in_parts rest) n f in (
          h.0,
          scoped b k' n (xs ++ scope) h.1 (fresh_left (bound_in b) (bound_in_parts rest) n inside) (fresh_both xs scope n (fresh_left xs (bound_in b ++ bound_in_parts rest) n f) g),
          scoped_parts rest k m scope h.2 (fresh_more (bound_in_parts rest) n m l (fresh_right (bound_in b) (bound_in_parts rest) n inside)) (fresh_more scope n m l g),
        )
