-- The variables whose bases the with-loops of a term have, and terms in which no right side always faults.
use Rattle.std.specs.Prelude.{List, [], ◌∷◌, ◌++◌}
use Rattle.core_ir.specs.declared.tree.Var.{Var}
use Rattle.core_ir.specs.declared.tree.CoreOp.{CoreOp}
use Rattle.core_ir.specs.declared.tree.CoreOp.TheVariants as making
use Rattle.core_ir.specs.Terms.{PlainTerm, BlockTerm, RightTerm, GensTerm, PartsTerm, Gives, Bind, Plain, NoGens, Gen, NoParts, Part}

-- the variable whose base the result of a with-loop has
abbrev pub source : CoreOp → Var
source (making.Genarray x y) = y
source (making.Modarray x) = x
source (making.Fold o x) = x

-- those of all with-loops of a term
abbrev mutual
  pub sources : BlockTerm → List Var
  sources (Gives xs) = []
  sources (Bind xs s r b) = sources_right r ++ sources b

  pub sources_right : RightTerm → List Var
  sources_right (Plain p) = []
  sources_right (RightTerm.If x a b) = sources a ++ sources b
  sources_right (RightTerm.Loop first start params test body s) = sources test ++ sources body
  sources_right (RightTerm.Call g xs) = []
  sources_right (RightTerm.With o gens) = source o ∷ sources_gens gens
  sources_right (RightTerm.Parted f t c o parts) = sources_parts parts

  pub sources_gens : GensTerm → List Var
  sources_gens NoGens = []
  sources_gens (Gen h b rest) = sources b ++ sources_gens rest

  pub sources_parts : PartsTerm → List Var
  sources_parts NoParts = []
  sources_parts (Part h b rest) = sources b ++ sources_parts rest

-- the variables whose values a block gives
abbrev pub results : BlockTerm → List Var
results (Gives xs) = xs
results (Bind xs s r b) = results b

-- ---- no right side always faults

abbrev pub MayEnd : PlainTerm → Type 0
MayEnd (PlainTerm.Always kind) = ⊥
MayEnd _ = Unit {0}

abbrev mutual
  pub AllMayEnd : BlockTerm → Type 0
  AllMayEnd (Gives xs) = Unit {0}
  AllMayEnd (Bind xs s r b) = AllMayEndRight r × AllMayEnd b

  pub AllMayEndRight : RightTerm → Type 0
  AllMayEndRight (Plain p) = MayEnd p
  AllMayEndRight (RightTerm.If x a b) = AllMayEnd a × AllMayEnd b
  AllMayEndRight (RightTerm.Loop first start params test body s) = AllMayEnd test × AllMayEnd body
  AllMayEndRight (RightTerm.Call g xs) = Unit {0}
  AllMayEndRight (RightTerm.With o gens) = AllMayEndGens gens
  AllMayEndRight (RightTerm.Parted f t c o parts) = AllMayEndParts parts

  pub AllMayEndGens : GensTerm → Type 0
  AllMayEndGens NoGens = Unit {0}
  AllMayEndGens (Gen h b rest) = AllMayEnd b × AllMayEndGens rest

  pub AllMayEndParts : PartsTerm → Type 0
  AllMayEndParts NoParts = Unit {0}
  AllMayEndParts (Part h b rest) = AllMayEnd b × AllMayEndParts rest
