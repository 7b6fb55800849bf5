-- Whether a term does not use a variable, as a test.
use Rattle.std.specs.Prelude.{Bool, true, not, ◌&&◌, eqb, List, [], ◌∷◌, option_to_list}
use Rattle.core_ir.specs.declared.tree.Var.{Var}
use Rattle.core_ir.specs.Terms.{BlockTerm, RightTerm, GensTerm, PartsTerm, GenHead, GenTerm, PartTerm, Gives, Bind, Plain, NoGens, Gen, NoParts, Part}
use Rattle.core_ir.specs.Scopes.{plain_uses, op_uses, parted_uses}

abbrev pub none_is : Var → List Var → Bool
none_is x [] = true
none_is x (y ∷ ys) = not (eqb x.0 y.0) && none_is x ys

abbrev pub head_avoided : Var → GenHead → Bool
head_avoided x h =
    none_is x (option_to_list h.lower) && (none_is x (option_to_list h.upper) && (none_is x (option_to_list h.step) && none_is x (option_to_list h.width)))

abbrev mutual
  pub is_avoided : Var → BlockTerm → Bool
  is_avoided x (Gives ys) = none_is x ys
  is_avoided x (Bind ys s r b) = is_avoided_right x r && is_avoided x b

  pub is_avoided_right : Var → RightTerm → Bool
  is_avoided_right x (Plain p) = none_is x (plain_uses p)
  is_avoided_right x (RightTerm.If y a b) = none_is x (y ∷ []) && (is_avoided x a && is_avoided x b)
  is_avoided_right x (RightTerm.Loop first start params test body s) = none_is x start && (is_avoided x test && is_avoided x body)
  is_avoided_right x (RightTerm.Call g ys) = none_is x ys
  is_avoided_right x (RightTerm.With op gens) = none_is x (op_uses op) && is_avoided_gens x gens
  is_avoided_right x (RightTerm.Parted f b c op parts) = none_is x (parted_uses op) && is_avoided_parts x parts

  pub is_avoided_gens : Var → GensTerm → Bool
  is_avoided_gens x NoGens = true
  is_avoided_gens x (Gen h b rest) = (head_avoided x h && is_avoided x b) && is_avoided_gens x rest

  pub is_avoided_parts : Var → PartsTerm → Bool
  is_avoided_parts x NoParts = true
  is_avoided_parts x (Part h b rest) = is_avoided x b && is_avoided_parts x rest

abbrev pub gen_avoided : Var → GenTerm → Bool
gen_avoided x g = head_avoided x g.head && is_avoided x g.body

abbrev pub part_avoided : Var → PartTerm → Bool
part_avoided x p = is_avoided x p.body
