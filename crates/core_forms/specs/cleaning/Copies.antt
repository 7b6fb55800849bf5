-- Uses of copies are uses of what is copied.
use Rattle.std.specs.Prelude.{cond, eqb, List, [], ◌∷◌, map, Option, Some, None}
use Rattle.core_ir.specs.declared.tree.Var.{Var}
use Rattle.core_ir.specs.Terms.{PlainTerm, BlockTerm, RightTerm, GensTerm, PartsTerm, FunTerm, CoreTerm, Gives, Bind, Plain, NoGens, Gen, NoParts, Part}
use Rattle.core_subst.specs.Substitution.{plain_with, core_op_with, parted_op_with, gen_head_with}
use Rattle.core_forms.specs.cleaning.Bodies.{with_bodies}

-- what a copy copies
abbrev pub source : RightTerm → Option Var
source (Plain (PlainTerm.Copy x)) = Some x
source r = None

-- what stands for variables behind a binding: for a copy its source
abbrev pub behind : List Var → Option Var → (Var → Var) → Var → Var
behind (t ∷ []) (Some x) f = λ y. cond (eqb t.0 y.0) x (f y)
behind xs o f = f

-- the block in which each use of x is one of f x, and each use of a copy behind it is one of its source
abbrev mutual
  pub forwarded : BlockTerm → (Var → Var) → BlockTerm
  forwarded (Gives xs) f = Gives (map f xs)
  forwarded (Bind xs s r b) f = Bind xs s (forwarded_right r f) (forwarded b (behind xs (source (forwarded_right r f)) f))

  pub forwarded_right : RightTerm → (Var → Var) → RightTerm
  forwarded_right (Plain p) f = Plain (plain_with f p)
  forwarded_right (RightTerm.If x a b) f = RightTerm.If (f x) (forwarded a f) (forwarded b f)
  forwarded_right (RightTerm.Loop first start params test body s) f = RightTerm.Loop first (map f start) params (forwarded test f) (forwarded body f) s
  forwarded_right (RightTerm.Call g xs) f = RightTerm.Call g (map f xs)
  forwarded_right (RightTerm.With o gens) f = RightTerm.With (core_op_with f o) (forwarded_gens gens f)
  forwarded_right (RightTerm.Parted frame base cell o parts) f = RightTerm.Parted frame base cell (parted_op_with f o) (forwarded_parts parts f)

  pub forwarded_gens : GensTerm → (Var → Var) → GensTerm
  forwarded_gens NoGens f = NoGens
  forwarded_gens (Gen h b rest) f = Gen (gen_head_with f h) (forwarded b f) (forwarded_gens rest f)

  pub forwarded_parts : PartsTerm → (Var → Var) → PartsTerm
  forwarded_parts NoParts f = NoParts
  forwarded_parts (Part h b rest) f = Part h (forwarded b f) (forwarded_parts rest f)

-- the whole core
abbrev pub forwarded_core : CoreTerm → CoreTerm
forwarded_core core = with_bodies (λ (f : FunTerm). forwarded f.body (λ x. x)) core
