-- What is bound once selections go by vectors, and what is called.
use Rattle.std.proofs.Common.{◌≡◌, ℕ, suc, ◌<◌, ◌≤◌, Bool, true, false, ◌||◌, eqb, List, [], ◌∷◌, ◌++◌, Option, Some, None, refl, sym, ap, subst, ◌∙◌, arith, inr}
use Rattle.std.specs.Prelude.{if◌then◌else◌}
use Rattle.std.proofs.lemmas.Bool.{eqb-true}
use Rattle.core_ir.specs.declared.tree.Var.{Var}
use Rattle.core_ir.specs.Binders.{bound_in, bound_in_right, bound_in_gens, bound_in_parts}
use Rattle.core_ir.specs.Terms.{PlainTerm, BlockTerm, RightTerm, GensTerm, PartsTerm, Gives, Bind, Plain, NoGens, Gen, NoParts, Part}
use Rattle.core_ir.specs.WellFormed.{calls_in, calls_in_right, calls_in_gens, calls_in_parts, part_grids}
use Rattle.core_subst.specs.Names.{variable}
use Rattle.core_facts.specs.Facts.{Facts, note_all, right_facts, in_part}
use Rattle.core_forms.proofs.inlined_bodies.Counts.{trans}
use Rattle.core_forms.proofs.inlined_bodies.Names.{Names, same, both}
use Rattle.core_forms.specs.selections.Vectors.{Selection, is_open_scalar, by_scalar, bind_vector, behind, next, next_right, next_gens, next_parts, vectored, vectored_right, vectored_gens, vectored_parts}

abbrev pub select_of : Selection → RightTerm
select_of x = Plain (PlainTerm.Select x.array x.index)

-- what it says that a selection goes by a vector
pub record Goes (r : RightTerm) (k : Facts) (x : Selection) : Type 0 where
  pub right : r ≡ select_of x
  pub is_open : is_open_scalar (k x.index) ≡ true

not_one : {A : Type 0} (r : RightTerm) (x : Selection) → ◌≡◌ {A = Option Selection} None (Some x) → A
not_one r x e = absurd (cc)

taken : (a i : Var) (k : Facts) (x : Selection) (b : Bool) → is_open_scalar (k i) ≡ b → (if b then Some (record { array = a; index = i }) else None) ≡ Some x → Goes (Plain (PlainTerm.Select a i)) k x
taken a i k x true o e =
    let same : record { array = a; index = i } ≡ x = ap (λ (y : Option Selection). Rattle.std.specs.Prelude.unwrap_or y x) e in
    subst (λ y. Goes (Plain (PlainTerm.Select a i)) k y) same (record { right = refl; is_open = o })
taken a i k x false o e = not_one (Plain (PlainTerm.Select a i)) x e

pub goes : (r : RightTerm) (k : Facts) (x : Selection) → by_scalar r k ≡ Some x → Goes r k x
goes (Plain (PlainTerm.Select a i)) k x e = taken a i k x (is_open_scalar (k i)) refl e
goes (Plain (PlainTerm.Const a)) k x e = not_one (Plain (PlainTerm.Const a)) x e
goes (Plain (PlainTerm.Copy y)) k x e = not_one (Plain (PlainTerm.Copy y)) x e
goes (Plain (PlainTerm.Unary o y)) k x e = not_one (Plain (PlainTerm.Unary o y)) x e
goes (Plain (PlainTerm.Binary o y z)) k x e = not_one (Plain (PlainTerm.Binary o y z)) x e
goes (Plain (PlainTerm.Literal ys)) k x e = not_one (Plain (PlainTerm.Literal ys)) x e
goes (Plain (PlainTerm.Dim y)) k x e = not_one (Plain (PlainTerm.Dim y)) x e
goes (Plain (PlainTerm.ShapeOf y)) k x e = not_one (Plain (PlainTerm.ShapeOf y)) x e
goes (Plain (PlainTerm.Reshape y z)) k x e = not_one (Plain (PlainTerm.Reshape y z)) x e
goes (Plain (PlainTerm.Replace y z w)) k x e = not_one (Plain (PlainTerm.Replace y z w)) x e
goes (Plain (PlainTerm.Always kind)) k x e = not_one (Plain (PlainTerm.Always kind)) x e
goes (Plain (PlainTerm.Check y ty)) k x e = not_one (Plain (PlainTerm.Check y ty)) x e
goes (RightTerm.If y a b) k x e = not_one (RightTerm.If y a b) x e
goes (RightTerm.Loop first start params test body s) k x e = not_one (RightTerm.Loop first start params test body s) x e
goes (RightTerm.Call g ys) k x e = not_one (RightTerm.Call g ys) x e
goes (RightTerm.With o gens) k x e = not_one (RightTerm.With o gens) x e
goes (RightTerm.Parted frame base cell o parts) k x e = not_one (RightTerm.Parted frame base cell o parts) x e

-- ---- numbers

up : (n m : ℕ) → n ≤ m → n ≤ suc m
up n m h = omega arith

itself_le : (n : ℕ) → n ≤ n
itself_le n = omega arith

next_le : (n : ℕ) → n ≤ suc n
next_le n = omega arith

next_lt : (n : ℕ) → n < suc n
next_lt n = omega arith

module _ (called : ℕ → List (Option (List ℕ))) where
  pub behind_rises : (o : Option Selection) (n : ℕ) → n ≤ behind o n
  behind_rises None n = itself_le n
  behind_rises (Some x) n = next_le n

  mutual
    pub rises : (b : BlockTerm) (k : Facts) (n : ℕ) → n ≤ next called b k n
    rises (Gives xs) k n = itself_le n
    rises (Bind xs s r b) k n =
        let m = next_right called r k n in
        let o = by_scalar r k in
        trans n m (next called b (note_all k xs (right_facts called r k)) (behind o m)) (rises_right r k n)
        (trans m (behind o m) (next called b (note_all k xs (right_facts called r k)) (behind o m)) (behind_rises o m) (rises b (note_all k xs (right_facts called r k)) (behind o m)))

    pub rises_right : (r : RightTerm) (k : Facts) (n : ℕ) → n ≤ next_right called r k n
    rises_right (Plain p) k n = itself_le n
    rises_right (RightTerm.If x a b) k n = let m = next called a k n in trans n m (next called b k m) (rises a k n) (rises b k m)
    rises_right (RightTerm.Loop first start params test body s) k n =
        let k' = note_all k params [] in
        let m = next called test k' n in
        trans n m (next called body k' m) (rises test k' n) (rises body k' m)
    rises_right (RightTerm.Call g xs) k n = itself_le n
    rises_right (RightTerm.With o gens) k n = rises_gens gens k n
    rises_right (RightTerm.Parted frame base cell o parts) k n = rises_parts parts k n

    pub rises_gens : (gs : GensTerm) (k : Facts) (n : ℕ) → n ≤ next_gens called gs k n
    rises_gens NoGens k n = itself_le n
    rises_gens (Gen h b rest) k n =
        let m = next called b (note_all k (h.index ∷ h.names) []) n in trans n m (next_gens called rest k m) (rises b (note_all k (h.index ∷ h.names) []) n) (rises_gens rest k m)

    pub rises_parts : (ps : PartsTerm) (k : Facts) (n : ℕ) → n ≤ next_parts called ps k n
    rises_parts NoParts k n = itself_le n
    rises_parts (Part h b rest) k n =
        let m = next called b (in_part k h) n in trans n m (next_parts called rest k m) (rises b (in_part k h) n) (rises_parts rest k m)

  -- ---- bound variables

  is_it : (n : ℕ) (y : Var) → (eqb n y.0 || false) ≡ true → (n ≤ y.0) × (y.0 < suc n)
  is_it n y h = go (eqb n y.0) refl h
    where
      go : (t : Bool) → eqb n y.0 ≡ t → (t || false) ≡ true → (n ≤ y.0) × (y.0 < suc n)
      go true e p = let q = eqb-true n y.0 e in (omega arith, omega arith)
      go false e p = absurd (cc)

  one_new : (n : ℕ) → Names [] (variable n ∷ []) n (suc n)
  one_new n = record { within = λ y h. inr (is_it n y h); once = λ d f. (refl, tt) }

  mutual
    pub names : (b : BlockTerm) (k : Facts) (n : ℕ) → Names (bound_in b) (bound_in (vectored called b k n)) n (next called b k n)
    names (Gives xs) k n = same [] n n
    names (Bind xs s r b) k n =
        go (note_all k xs (right_facts called r k)) (by_scalar r k) refl (λ m. names b (note_all k xs (right_facts called r k)) m) (names_right r k n)
      where
        go : (k' : Facts) (o : Option Selection) → by_scalar r k ≡ o → ((m : ℕ) → Names (bound_in b) (bound_in (vectored called b k' m)) m (next called b k' m))
            → Names (bound_in_right r) (bound_in_right (vectored_right called r k n)) n (next_right called r k n)
            → Names (xs ++ (bound_in_right r ++ bound_in b)) (bound_in (bind_vector o (next_right called r k n) xs s (vectored_right called r k n) (vectored called b k' (behind o (next_right called r k n))))) n (next called b k' (behind o (next_right called r k n)))
        go k' None e rest here =
            let m = next_right called r k n in
            let t = next called b k' m in
            both xs (bound_in_right r ++ bound_in b) xs (bound_in_right (vectored_right called r k n) ++ bound_in (vectored called b k' m)) n n t (itself_le n) (trans n m t (rises_right r k n) (rises b k' m)) (same xs n n)
            (both (bound_in_right r) (bound_in b) (bound_in_right (vectored_right called r k n)) (bound_in (vectored called b k' m)) n m t (rises_right r k n) (rises b k' m) here (rest m))
        go k' (Some x) e rest here =
            let w = (goes r k x e).right in
            let t = next called b k' (suc n) in
            subst (λ (q : RightTerm). Names (xs ++ (bound_in_right q ++ bound_in b)) (bound_in (bind_vector (Some x) (next_right called q k n) xs s (vectored_right called q k n) (vectored called b k' (suc (next_right called q k n))))) n (next called b k' (suc (next_right called q k n))))
            (sym w)
            (both [] (xs ++ bound_in b) (variable n ∷ []) (xs ++ bound_in (vectored called b k' (suc n))) n (suc n) t (next_le n) (rises b k' (suc n)) (one_new n)
            (both xs (bound_in b) xs (bound_in (vectored called b k' (suc n))) (suc n) (suc n) t (itself_le (suc n)) (rises b k' (suc n)) (same xs (suc n) (suc n)) (rest (suc n))))

    pub names_right : (r : RightTerm) (k : Facts) (n : ℕ) → Names (bound_in_right r) (bound_in_right (vectored_right called r k n)) n (next_right called r k n)
    names_right (Plain p) k n = same [] n n
    names_right (RightTerm.If x a b) k n =
        let m = next called a k n in
        both (bound_in a) (bound_in b) (bound_in (vectored called a k n)) (bound_in (vectored called b k m)) n m (next called b k m) (rises a k n) (rises b k m) (names a k n) (names b k m)
    names_right (RightTerm.Loop first start params test body s) k n =
        let k' = note_all k params [] in
        let m = next called test k' n in
        let t = next called body k' m in
        let test' = bound_in (vectored called test k' n) in
        let body' = bound_in (vectored called body k' m) in
        both params (bound_in test ++ bound_in body) params (test' ++ body') n n t (itself_le n) (trans n m t (rises test k' n) (rises body k' m)) (same params n n)
        (both (bound_in test) (bound_in body) test' body' n m t (rises test k' n) (rises body k' m) (names test k' n) (names body k' m))
    names_right (RightTerm.Call g xs) k n = same [] n n
    names_right (RightTerm.With o gens) k n = names_gens gens k n
    names_right (RightTerm.Parted frame base cell o parts) k n = names_parts parts k n

    pub names_gens : (gs : GensTerm) (k : Facts) (n : ℕ) → Names (bound_in_gens gs) (bound_in_gens (vectored_gens called gs k n)) n (next_gens called gs k n)
    names_gens NoGens k n = same [] n n
    names_gens (Gen h b rest) k n =
        let xs = h.index ∷ h.names in
        let k' = note_all k xs [] in
        let m = next called b k' n in
        let t = next_gens called rest k m in
        let b' = bound_in (vectored called b k' n) in
        let rest' = bound_in_gens (vectored_gens called rest k m) in
        both xs (bound_in b ++ bound_in_gens rest) xs (b' ++ rest') n n t (itself_le n) (trans n m t (rises b k' n) (rises_gens rest k m)) (same xs n n)
        (both (bound_in b) (bound_in_gens rest) b' rest' n m t (rises b k' n) (rises_gens rest k m) (names b k' n) (names_gens rest k m))

    pub names_parts : (ps : PartsTerm) (k : Facts) (n : ℕ) → Names (bound_in_parts ps) (bound_in_parts (vectored_parts called ps k n)) n (next_parts called ps k n)
    names_parts NoParts k n = same [] n n
    names_parts (Part h b rest) k n =
        let xs = h.index ∷ [] in
        let k' = in_part k h in
        let m = next called b k' n in
        let t = next_parts called rest k m in
        let b' = bound_in (vectored called b k' n) in
        let rest' = bound_in_parts (vectored_parts called rest k m) in
        both xs (bound_in b ++ bound_in_parts rest) xs (b' ++ rest') n n t (itself_le n) (trans n m t (rises b k' n) (rises_parts rest k m)) (same xs n n)
        (both (bound_in b) (bound_in_parts rest) b' rest' n m t (rises b k' n) (rises_parts rest k m) (names b k' n) (names_parts rest k m))

  -- ---- calls

  mutual
    pub calls_kept : (b : BlockTerm) (k : Facts) (n : ℕ) → calls_in (vectored called b k n) ≡ calls_in b
    calls_kept (Gives xs) k n = refl
    calls_kept (Bind xs s r b) k n =
        go (note_all k xs (right_facts called r k)) (by_scalar r k) refl (λ m. calls_kept b (note_all k xs (right_facts called r k)) m) (calls_kept_right r k n)
      where
        go : (k' : Facts) (o : Option Selection) → by_scalar r k ≡ o → ((m : ℕ) → calls_in (vectored called b k' m) ≡ calls_in b) → calls_in_right (vectored_right called r k n) ≡ calls_in_right r
            → calls_in (bind_vector o (next_right called r k n) xs s (vectored_right called r k n) (vectored called b k' (behind o (next_right called r k n)))) ≡ calls_in_right r ++ calls_in b
        go k' None e rest here = λ i. here i ++ rest (next_right called r k n) i
        go k' (Some x) e rest here = rest (suc (next_right called r k n)) ∙ ap (λ gs. gs ++ calls_in b) (sym (ap calls_in_right (goes r k x e).right))

    pub calls_kept_right : (r : RightTerm) (k : Facts) (n : ℕ) → calls_in_right (vectored_right called r k n) ≡ calls_in_right r
    calls_kept_right (Plain p) k n = refl
    calls_kept_right (RightTerm.If x a b) k n = λ i. calls_kept a k n i ++ calls_kept b k (next called a k n) i
    calls_kept_right (RightTerm.Loop first start params test body s) k n =
        λ i. calls_kept test (note_all k params []) n i ++ calls_kept body (note_all k params []) (next called test (note_all k params []) n) i
    calls_kept_right (RightTerm.Call g xs) k n = refl
    calls_kept_right (RightTerm.With o gens) k n = calls_kept_gens gens k n
    calls_kept_right (RightTerm.Parted frame base cell o parts) k n = calls_kept_parts parts k n

    pub calls_kept_gens : (gs : GensTerm) (k : Facts) (n : ℕ) → calls_in_gens (vectored_gens called gs k n) ≡ calls_in_gens gs
    calls_kept_gens NoGens k n = refl
    calls_kept_gens (Gen h b rest) k n =
        λ i. calls_kept b (note_all k (h.index ∷ h.names) []) n i ++ calls_kept_gens rest k (next called b (note_all k (h.index ∷ h.names) []) n) i

    pub calls_kept_parts : (ps : PartsTerm) (k : Facts) (n : ℕ) → calls_in_parts (vectored_parts called ps k n) ≡ calls_in_parts ps
    calls_kept_parts NoParts k n = refl
    calls_kept_parts (Part h b rest) k n = λ i. calls_kept b (in_part k h) n i ++ calls_kept_parts rest k (next called b (in_part k h) n) i

  pub grids_kept : (ps : PartsTerm) (k : Facts) (n : ℕ) → part_grids (vectored_parts called ps k n) ≡ part_grids ps
  grids_kept NoParts k n = refl
  grids_kept (Part h b rest) k n = ap (λ gs. h.grid ∷ gs) (grids_kept rest k (next called b (in_part k h) n))
