-- A term that does not use a variable.
use Rattle.std.specs.Prelude.{◌≡◌, false, eqb, List, [], ◌∷◌, ◌++◌}
use Rattle.core_ir.specs.declared.tree.Var.{Var}
use Rattle.core_ir.specs.Terms.{LetTerm, BlockTerm, RightTerm, GensTerm, PartsTerm, Gives, Bind, Plain, NoGens, Gen, NoParts, Part}
use Rattle.core_ir.specs.Scopes.{plain_uses, op_uses, parted_uses, head_uses}

abbrev pub AvoidsAll : Var → List Var → Type 0
AvoidsAll x [] = Unit {0}
AvoidsAll x (y ∷ ys) = (eqb x.0 y.0 ≡ false) × AvoidsAll x ys

abbrev mutual
  pub Avoids : Var → BlockTerm → Type 0
  Avoids x (Gives ys) = AvoidsAll x ys
  Avoids x (Bind ys s r b) = AvoidsRight x r × Avoids x b

  pub AvoidsRight : Var → RightTerm → Type 0
  AvoidsRight x (Plain p) = AvoidsAll x (plain_uses p)
  AvoidsRight x (RightTerm.If y a b) = (eqb x.0 y.0 ≡ false) × Avoids x a × Avoids x b
  AvoidsRight x (RightTerm.Loop first start params test body s) = AvoidsAll x start × Avoids x test × Avoids x body
  AvoidsRight x (RightTerm.Call g ys) = AvoidsAll x ys
  AvoidsRight x (RightTerm.With op gens) = AvoidsAll x (op_uses op) × AvoidsGens x gens
  AvoidsRight x (RightTerm.Parted f b c op parts) = AvoidsAll x (parted_uses op) × AvoidsParts x parts

  pub AvoidsGens : Var → GensTerm → Type 0
  AvoidsGens x NoGens = Unit {0}
  AvoidsGens x (Gen h b rest) = AvoidsAll x (head_uses h) × Avoids x b × AvoidsGens x rest

  pub AvoidsParts : Var → PartsTerm → Type 0
  AvoidsParts x NoParts = Unit {0}
  AvoidsParts x (Part h b rest) = Avoids x b × AvoidsParts x rest

-- a block that uses none of the variables
abbrev pub AvoidsEach : List Var → BlockTerm → Type 0
AvoidsEach [] b = Unit {0}
AvoidsEach (x ∷ xs) b = Avoids x b × AvoidsEach xs b

-- the variables that a list of bindings binds at its own level
abbrev pub targets_of : List LetTerm → List Var
targets_of [] = []
targets_of (l ∷ ls) = l.targets ++ targets_of ls
