-- The term in which each variable, bound or free, is another.
use Rattle.std.specs.Prelude.{◌≡◌, ℕ, ◌+◌, List, [], ◌∷◌, map, unwrap_or}
use Rattle.core_ir.specs.declared.tree.Var.{Var}
use Rattle.core_ir.specs.Meaning.{Env, CallMeaning, run}
use Rattle.core_ir.specs.Terms.{BlockTerm, RightTerm, GensTerm, PartsTerm, LetTerm, GenTerm, PartTerm, GenHead, PartHead, Gives, Bind, Plain, NoGens}
use Rattle.core_ir.specs.Terms.{Gen, NoParts, Part}
use Rattle.core_subst.specs.Names.{variable, variable_at}
use Rattle.core_subst.specs.Substitution.{plain_with, core_op_with, parted_op_with, gen_head_with}

-- the variable whose number is greater by a number
abbrev pub raised : ℕ → Var → Var
raised by x = variable (x.0 + by)

-- the same within numbers of 32 bits, and the variable itself where its number is too great
abbrev pub raised_within : ℕ → Var → Var
raised_within by x = unwrap_or (variable_at (x.0 + by)) x

abbrev pub mapped_gen_head : (Var → Var) → GenHead → GenHead
mapped_gen_head f h = record (gen_head_with f h) { index = f h.index; names = map f h.names }

abbrev pub mapped_part_head : (Var → Var) → PartHead → PartHead
mapped_part_head f h = record h { index = f h.index }

-- the term in which f x stands for each variable x, also where it is bound
abbrev mutual
  pub mapped : (Var → Var) → BlockTerm → BlockTerm
  mapped f (Gives xs) = Gives (map f xs)
  mapped f (Bind xs s r b) = Bind (map f xs) s (mapped_right f r) (mapped f b)

  pub mapped_right : (Var → Var) → RightTerm → RightTerm
  mapped_right f (Plain p) = Plain (plain_with f p)
  mapped_right f (RightTerm.If x a b) = RightTerm.If (f x) (mapped f a) (mapped f b)
  mapped_right f (RightTerm.Loop first start params test body s) = RightTerm.Loop first (map f start) (map f params) (mapped f test) (mapped f body) s
  mapped_right f (RightTerm.Call g xs) = RightTerm.Call g (map f xs)
  mapped_right f (RightTerm.With op gens) = RightTerm.With (core_op_with f op) (mapped_gens f gens)
  mapped_right f (RightTerm.Parted frame base cell op parts) = RightTerm.Parted frame base cell (parted_op_with f op) (mapped_parts f parts)

  pub mapped_gens : (Var → Var) → GensTerm → GensTerm
  mapped_gens f NoGens = NoGens
  mapped_gens f (Gen h b rest) = Gen (mapped_gen_head f h) (mapped f b) (mapped_gens f rest)

  pub mapped_parts : (Var → Var) → PartsTerm → PartsTerm
  mapped_parts f NoParts = NoParts
  mapped_parts f (Part h b rest) = Part (mapped_part_head f h) (mapped f b) (mapped_parts f rest)

-- the same of a binding, of a generator and of a part alone
abbrev pub mapped_let : (Var → Var) → LetTerm → LetTerm
mapped_let f l = record { targets = map f l.targets; site = l.site; right = mapped_right f l.right }

abbrev pub mapped_gen : (Var → Var) → GenTerm → GenTerm
mapped_gen f g = record { head = mapped_gen_head f g.head; body = mapped f g.body }

abbrev pub mapped_part : (Var → Var) → PartTerm → PartTerm
mapped_part f p = record { head = mapped_part_head f p.head; body = mapped f p.body }

-- the new block means what the old one does where each variable has the value of the raised one
abbrev pub MeansRaised : ℕ → BlockTerm → BlockTerm → Type 0
MeansRaised by old new = (calls : CallMeaning) (turns : ℕ) (e : Env) → run calls turns new e ≡ run calls turns old (λ x. e (raised by x))
