-- The calls whose arguments have known shapes.
use Rattle.std.specs.Prelude.{ℕ, List, [], ◌∷◌, ◌++◌, map, Option, Some, None}
use Rattle.sac_base.specs.declared.types.ArrayType.{ArrayType}
use Rattle.core_ir.specs.declared.tree.Var.{Var}
use Rattle.core_ir.specs.Terms.{BlockTerm, RightTerm, GensTerm, PartsTerm, Gives, Bind, Plain, NoGens, Gen, NoParts, Part}
use Rattle.core_facts.specs.Facts.{Facts, no_facts, shape_fact, note_all, right_facts, in_part}
use Rattle.core_facts.specs.constants.Called.{shape_of_type}

-- a group, and the shapes of the arguments of a call of it
abbrev pub GroupAndShapes : Type 0
GroupAndShapes = ℕ × List (List ℕ)

abbrev pub with_shape : Option (List ℕ) → Option (List (List ℕ)) → Option (List (List ℕ))
with_shape (Some s) (Some ss) = Some (s ∷ ss)
with_shape _ _ = None

-- the shapes of variables, where all of them are known
abbrev pub shapes_known : Facts → List Var → Option (List (List ℕ))
shapes_known k [] = Some []
shapes_known k (x ∷ xs) = with_shape (k x).shape (shapes_known k xs)

abbrev pub call_known : ℕ → Option (List (List ℕ)) → List GroupAndShapes
call_known group None = []
call_known group (Some shapes) = (group, shapes) ∷ []

-- the calls in a block whose arguments have known shapes, in their order; `called` has the known shapes of the results of each group
module _ (called : ℕ → List (Option (List ℕ))) where
  abbrev mutual
    pub known_in : BlockTerm → Facts → List GroupAndShapes
    known_in (Gives xs) k = []
    known_in (Bind xs s r b) k = known_right r k ++ known_in b (note_all k xs (right_facts called r k))

    pub known_right : RightTerm → Facts → List GroupAndShapes
    known_right (Plain p) k = []
    known_right (RightTerm.If x a b) k = known_in a k ++ known_in b k
    known_right (RightTerm.Loop first start params test body s) k = known_in test (note_all k params []) ++ known_in body (note_all k params [])
    known_right (RightTerm.Call g xs) k = call_known g (shapes_known k xs)
    known_right (RightTerm.With o gens) k = known_gens gens k
    known_right (RightTerm.Parted frame base cell o parts) k = known_parts parts k

    pub known_gens : GensTerm → Facts → List GroupAndShapes
    known_gens NoGens k = []
    known_gens (Gen h b rest) k = known_in b (note_all k (h.index ∷ h.names) []) ++ known_gens rest k

    pub known_parts : PartsTerm → Facts → List GroupAndShapes
    known_parts NoParts k = []
    known_parts (Part h b rest) k = known_in b (in_part k h) ++ known_parts rest k

-- what is known where a function begins whose parameters have these types
abbrev pub typed_facts : List Var → List ArrayType → Facts
typed_facts vars types = note_all no_facts vars (map (λ (ty : ArrayType). shape_fact (shape_of_type ty)) types)
