-- What does not change where literal variables are bound by constants: the variables that are bound, the calls, scopes, and grids.
use Rattle.std.proofs.Common.{◌≡◌, ℕ, List, [], ◌∷◌, ◌++◌, Option, Some, None, refl, ap}
use Rattle.sac_base.specs.Arrays.{ArrayValue}
use Rattle.core_ir.specs.declared.tree.Var.{Var}
use Rattle.core_ir.specs.Binders.{bound_in, bound_in_right, bound_in_gens, bound_in_parts}
use Rattle.core_ir.specs.Scopes.{AllIn, plain_uses, Scoped, ScopedRight, ScopedGens, ScopedParts}
use Rattle.core_ir.specs.Terms.{PlainTerm, BlockTerm, RightTerm, GensTerm, PartsTerm, Gives, Bind, Plain, NoGens, Gen, NoParts, Part}
use Rattle.core_ir.specs.WellFormed.{calls_in, calls_in_right, calls_in_gens, calls_in_parts, part_grids}
use Rattle.core_facts.specs.Facts.{Facts, note_all, plain_literal, right_facts, in_part}
use Rattle.core_facts.specs.Settled.{constant_or, settled, settled_right, settled_gens, settled_parts}

-- a constant uses no variable
no_more_uses : (o : Option ArrayValue) (p : PlainTerm) (scope : List Var) → AllIn (plain_uses p) scope → AllIn (plain_uses (constant_or o p)) scope
no_more_uses None p scope h = h
no_more_uses (Some v) p scope h = tt

module _ (called : ℕ → List (Option (List ℕ))) where
  pub grids_kept : (ps : PartsTerm) (k : Facts) → part_grids (settled_parts called ps k) ≡ part_grids ps
  grids_kept NoParts k = refl
  grids_kept (Part h b rest) k = ap (λ gs. h.grid ∷ gs) (grids_kept rest k)

  mutual
    pub bound_kept : (b : BlockTerm) (k : Facts) → bound_in (settled called b k) ≡ bound_in b
    bound_kept (Gives xs) k = refl
    bound_kept (Bind xs s r b) k = λ i. xs ++ (bound_kept_right r k i ++ bound_kept b (note_all k xs (right_facts called (settled_right called r k) k)) i)

    bound_kept_right : (r : RightTerm) (k : Facts) → bound_in_right (settled_right called r k) ≡ bound_in_right r
    bound_kept_right (Plain p) k = refl
    bound_kept_right (RightTerm.If x a b) k = λ i. bound_kept a k i ++ bound_kept b k i
    bound_kept_right (RightTerm.Loop first start params test body s) k = λ i. params ++ (bound_kept test (note_all k params []) i ++ bound_kept body (note_all k params []) i)
    bound_kept_right (RightTerm.Call g xs) k = refl
    bound_kept_right (RightTerm.With o gens) k = bound_kept_gens gens k
    bound_kept_right (RightTerm.Parted f t c o parts) k = bound_kept_parts parts k

    bound_kept_gens : (gs : GensTerm) (k : Facts) → bound_in_gens (settled_gens called gs k) ≡ bound_in_gens gs
    bound_kept_gens NoGens k = refl
    bound_kept_gens (Gen h b rest) k = λ i. (h.index ∷ h.names) ++ (bound_kept b (note_all k (h.index ∷ h.names) []) i ++ bound_kept_gens rest k i)

    bound_kept_parts : (ps : PartsTerm) (k : Facts) → bound_in_parts (settled_parts called ps k) ≡ bound_in_parts ps
    bound_kept_parts NoParts k = refl
    bound_kept_parts (Part h b rest) k = λ i. (h.index ∷ []) ++ (bound_kept b (in_part k h) i ++ bound_kept_parts rest k i)

  mutual
    pub calls_kept : (b : BlockTerm) (k : Facts) → calls_in (settled called b k) ≡ calls_in b
    calls_kept (Gives xs) k = refl
    calls_kept (Bind xs s r b) k = λ i. calls_kept_right r k i ++ calls_kept b (note_all k xs (right_facts called (settled_right called r k) k)) i

    calls_kept_right : (r : RightTerm) (k : Facts) → calls_in_right (settled_right called r k) ≡ calls_in_right r
    calls_kept_right (Plain p) k = refl
    calls_kept_right (RightTerm.If x a b) k = λ i. calls_kept a k i ++ calls_kept b k i
    calls_kept_right (RightTerm.Loop first start params test body s) k = λ i. calls_kept test (note_all k params []) i ++ calls_kept body (note_all k params []) i
    calls_kept_right (RightTerm.Call g xs) k = refl
    calls_kept_right (RightTerm.With o gens) k = calls_kept_gens gens k
    calls_kept_right (RightTerm.Parted f t c o parts) k = calls_kept_parts parts k

    calls_kept_gens : (gs : GensTerm) (k : Facts) → calls_in_gens (settled_gens called gs k) ≡ calls_in_gens gs
    calls_kept_gens NoGens k = refl
    calls_kept_gens (Gen h b rest) k = λ i. calls_kept b (note_all k (h.index ∷ h.names) []) i ++ calls_kept_gens rest k i

    calls_kept_parts : (ps : PartsTerm) (k : Facts) → calls_in_parts (settled_parts called ps k) ≡ calls_in_parts ps
    calls_kept_parts NoParts k = refl
    calls_kept_parts (Part h b rest) k = λ i. calls_kept b (in_part k h) i ++ calls_kept_parts rest k i

  mutual
    pub scoped_kept : (b : BlockTerm) (k : Facts) (scope : List Var) → Scoped scope b → Scoped scope (settled called b k)
    scoped_kept (Gives xs) k scope h = h
    scoped_kept (Bind xs s r b) k scope h = (scoped_kept_right r k scope h.0, h.1, scoped_kept b (note_all k xs (right_facts called (settled_right called r k) k)) (xs ++ scope) h.2)

    scoped_kept_right : (r : RightTerm) (k : Facts) (scope : List Var) → ScopedRight scope r → ScopedRight scope (settled_right called r k)
    scoped_kept_right (Plain p) k scope h = no_more_uses (plain_literal p k) p scope h
    scoped_kept_right (RightTerm.If x a b) k scope h = (h.0, scoped_kept a k scope h.1, scoped_kept b k scope h.2)
    scoped_kept_right (RightTerm.Loop first start params test body s) k scope h =
        (h.0, h.1, scoped_kept test (note_all k params []) (params ++ scope) h.2, scoped_kept body (note_all k params []) (params ++ scope) h.3)
    scoped_kept_right (RightTerm.Call g xs) k scope h = h
    scoped_kept_right (RightTerm.With o gens) k scope h = (h.0, scoped_kept_gens gens k scope h.1)
    scoped_kept_right (RightTerm.Parted f t c o parts) k scope h = (h.0, scoped_kept_parts parts k scope h.1)

    scoped_kept_gens : (gs : GensTerm) (k : Facts) (scope : List Var) → ScopedGens scope gs → ScopedGens scope (settled_gens called gs k)
    scoped_kept_gens NoGens k scope h = tt
    scoped_kept_gens (Gen j b rest) k scope h = (h.0, h.1, scoped_kept b (note_all k (j.index ∷ j.names) []) ((j.index ∷ j.names) ++ scope) h.2, scoped_kept_gens rest k scope h.3)

    scoped_kept_parts : (ps : PartsTerm) (k : Facts) (scope : List Var) → ScopedParts scope ps → ScopedParts scope (settled_parts called ps k)
    scoped_kept_parts NoParts k scope h = tt
    scoped_kept_parts (Part j b rest) k scope h = (h.0, scoped_kept b (in_part k j) (j.index ∷ scope) h.1, scoped_kept_parts rest k scope h.2)
