-- Checks that cannot fail are copies.
use Rattle.std.specs.Prelude.{ℕ, Bool, false, if◌then◌else◌, List, [], ◌∷◌, Option, Some, None}
use Rattle.sac_base.specs.declared.types.ArrayType.{ArrayType}
use Rattle.sac_base.specs.declared.types.Part.{Part as TypePart}
use Rattle.sac_base.specs.Types.{has_shape}
use Rattle.core_ir.specs.Terms.{PlainTerm, BlockTerm, RightTerm, GensTerm, PartsTerm, FunTerm, CoreTerm, Gives, Bind, Plain, NoGens, Gen, NoParts, Part}
use Rattle.core_facts.specs.Facts.{Fact, Facts, is_some, note_all, plain_literal, right_facts, in_part}
use Rattle.core_facts.specs.Settled.{constant_or}
use Rattle.core_facts.specs.constants.Called.{called as called_in, params_facts}
use Rattle.core_forms.specs.cleaning.Bodies.{with_bodies}

-- the type contains the known shape
abbrev pub shape_fits : TypePart → Option (List ℕ) → Bool
shape_fits p None = false
shape_fits p (Some s) = has_shape p s

-- of a variable that is not literal the shape is known, and the type contains it
abbrev pub fits : ArrayType → Fact → Bool
fits ty f = if is_some f.literal then false else shape_fits ty.part f.shape

-- a check that cannot fail is a copy
abbrev pub unchecked_plain : PlainTerm → Facts → PlainTerm
unchecked_plain (PlainTerm.Check x ty) k = if fits ty (k x) then PlainTerm.Copy x else PlainTerm.Check x ty
unchecked_plain p k = p

module _ (called : ℕ → List (Option (List ℕ))) where
  -- the block in which each check that cannot fail is a copy
  abbrev mutual
    pub unchecked : BlockTerm → Facts → BlockTerm
    unchecked (Gives xs) k = Gives xs
    unchecked (Bind xs s r b) k = Bind xs s (unchecked_right r k) (unchecked b (note_all k xs (right_facts called r k)))

    pub unchecked_right : RightTerm → Facts → RightTerm
    unchecked_right (Plain p) k = Plain (unchecked_plain p k)
    unchecked_right (RightTerm.If x a b) k = RightTerm.If x (unchecked a k) (unchecked b k)
    unchecked_right (RightTerm.Loop first start params test body s) k = RightTerm.Loop first start params (unchecked test (note_all k params []))
        (unchecked body (note_all k params [])) s
    unchecked_right (RightTerm.Call g xs) k = RightTerm.Call g xs
    unchecked_right (RightTerm.With o gens) k = RightTerm.With o (unchecked_gens gens k)
    unchecked_right (RightTerm.Parted frame base cell o parts) k = RightTerm.Parted frame base cell o (unchecked_parts parts k)

    pub unchecked_gens : GensTerm → Facts → GensTerm
    unchecked_gens NoGens k = NoGens
    unchecked_gens (Gen h b rest) k = Gen h (unchecked b (note_all k (h.index ∷ h.names) [])) (unchecked_gens rest k)

    pub unchecked_parts : PartsTerm → Facts → PartsTerm
    unchecked_parts NoParts k = NoParts
    unchecked_parts (Part h b rest) k = Part h (unchecked b (in_part k h)) (unchecked_parts rest k)

  -- the block in which each literal variable is bound by a constant, and each other check that cannot fail is a copy
  abbrev mutual
    pub simplified : BlockTerm → Facts → BlockTerm
    simplified (Gives xs) k = Gives xs
    simplified (Bind xs s r b) k = Bind xs s (simplified_right r k) (simplified b (note_all k xs (right_facts called (simplified_right r k) k)))

    pub simplified_right : RightTerm → Facts → RightTerm
    simplified_right (Plain p) k = Plain (unchecked_plain (constant_or (plain_literal p k) p) k)
    simplified_right (RightTerm.If x a b) k = RightTerm.If x (simplified a k) (simplified b k)
    simplified_right (RightTerm.Loop first start params test body s) k = RightTerm.Loop first start params (simplified test (note_all k params []))
        (simplified body (note_all k params [])) s
    simplified_right (RightTerm.Call g xs) k = RightTerm.Call g xs
    simplified_right (RightTerm.With o gens) k = RightTerm.With o (simplified_gens gens k)
    simplified_right (RightTerm.Parted frame base cell o parts) k = RightTerm.Parted frame base cell o (simplified_parts parts k)

    pub simplified_gens : GensTerm → Facts → GensTerm
    simplified_gens NoGens k = NoGens
    simplified_gens (Gen h b rest) k = Gen h (simplified b (note_all k (h.index ∷ h.names) [])) (simplified_gens rest k)

    pub simplified_parts : PartsTerm → Facts → PartsTerm
    simplified_parts NoParts k = NoParts
    simplified_parts (Part h b rest) k = Part h (simplified b (in_part k h)) (simplified_parts rest k)

-- the whole core
abbrev pub simplified_core : CoreTerm → CoreTerm
simplified_core core = with_bodies (λ (f : FunTerm). simplified (called_in core) f.body (params_facts f)) core
