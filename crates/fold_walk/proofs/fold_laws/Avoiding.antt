-- A variable that a block does not use is not used in a copy either, unless it stands for another.
use Rattle.std.proofs.Common.{◌≡◌, false, eqb, List, [], ◌∷◌, ◌++◌, map, Option, Some, None, sym, subst}
use Rattle.std.specs.Prelude.{option_map, option_to_list}
use Rattle.core_ir.specs.declared.tree.Var.{Var}
use Rattle.core_ir.specs.Scopes.{plain_uses, op_uses, parted_uses, head_uses}
use Rattle.core_ir.specs.Terms.{BlockTerm, RightTerm, GensTerm, PartsTerm, GenHead, Gives, Bind, Plain, NoGens, Gen, NoParts, Part}
use Rattle.core_ir.specs.Uses.{AvoidsAll, Avoids, AvoidsRight, AvoidsGens, AvoidsParts}
use Rattle.core_subst.specs.Substitution.{plain_with}
use Rattle.core_subst.specs.copy.Mapped.{mapped, mapped_right, mapped_gens, mapped_parts, mapped_gen_head}
use Rattle.core_forms.proofs.edits.Mapping.{plain_uses_mapped, op_uses_mapped, parted_uses_mapped}

module _ (x : Var) (f : Var → Var) (keeps : (u : Var) → eqb x.0 u.0 ≡ false → eqb x.0 (f u).0 ≡ false) where
  all_mapped : (us : List Var) → AvoidsAll x us → AvoidsAll x (map f us)
  all_mapped [] h = tt
  all_mapped (u ∷ us) h = (keeps u h.0, all_mapped us h.1)

  uses_mapped : (us vs : List Var) → vs ≡ map f us → AvoidsAll x us → AvoidsAll x vs
  uses_mapped us vs e h = subst (AvoidsAll x) (sym e) (all_mapped us h)

  option_mapped : (u : Option Var) (us vs : List Var) → AvoidsAll x (option_to_list u ++ us) → (AvoidsAll x us → AvoidsAll x vs) → AvoidsAll x (option_to_list (option_map f u) ++ vs)
  option_mapped None us vs h k = k h
  option_mapped (Some u) us vs h k = (keeps u h.0, k h.1)

  last_mapped : (u : Option Var) → AvoidsAll x (option_to_list u) → AvoidsAll x (option_to_list (option_map f u))
  last_mapped None h = tt
  last_mapped (Some u) h = (keeps u h.0, tt)

  head_mapped : (h : GenHead) → AvoidsAll x (head_uses h) → AvoidsAll x (head_uses (mapped_gen_head f h))
  head_mapped h a = option_mapped h.lower _ _ a (λ a. option_mapped h.upper _ _ a (λ a. option_mapped h.step _ _ a (λ a. last_mapped h.width a)))

  mutual
    pub avoids_mapped : (b : BlockTerm) → Avoids x b → Avoids x (mapped f b)
    avoids_mapped (Gives us) h = all_mapped us h
    avoids_mapped (Bind us s r b) h = (right_mapped r h.0, avoids_mapped b h.1)

    right_mapped : (r : RightTerm) → AvoidsRight x r → AvoidsRight x (mapped_right f r)
    right_mapped (Plain p) h = uses_mapped (plain_uses p) (plain_uses (plain_with f p)) (plain_uses_mapped f p) h
    right_mapped (RightTerm.If u a b) h = (keeps u h.0, avoids_mapped a h.1, avoids_mapped b h.2)
    right_mapped (RightTerm.Loop first start params test body s) h = (all_mapped start h.0, avoids_mapped test h.1, avoids_mapped body h.2)
    right_mapped (RightTerm.Call g us) h = all_mapped us h
    right_mapped (RightTerm.With o gens) h = (uses_mapped (op_uses o) _ (op_uses_mapped f o) h.0, gens_mapped gens h.1)
    right_mapped (RightTerm.Parted frame t cell o parts) h = (uses_mapped (parted_uses o) _ (parted_uses_mapped f o) h.0, parts_mapped parts h.1)

    gens_mapped : (g : GensTerm) → AvoidsGens x g → AvoidsGens x (mapped_gens f g)
    gens_mapped NoGens h = tt
    gens_mapped (Gen k b rest) h = (head_mapped k h.0, avoids_mapped b h.1, gens_mapped rest h.2)

    parts_mapped : (p : PartsTerm) → AvoidsParts x p → AvoidsParts x (mapped_parts f p)
    parts_mapped NoParts h = tt
    parts_mapped (Part k b rest) h = (avoids_mapped b h.0, parts_mapped rest h.1)
