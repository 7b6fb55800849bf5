-- Parts of the lowering as it goes, and what stands before them.
use Rattle.std.specs.Prelude.{ℕ, List, [], ◌∷◌, ◌++◌, Option, true, false, Bool, pos}
use Rattle.sac_base.specs.declared.base.Base.{Base}
use Rattle.sac_base.specs.Arrays.{scalar}
use Rattle.sac_base.specs.declared.name.Name.{Name}
use Rattle.sac_base.specs.declared.site.Site.{Site}
use Rattle.sac_base.specs.declared.types.ArrayType.{ArrayType}
use Rattle.sac_ast.specs.Tree.{Expr, MaybeExpr, left_out, given, Block, call}
use Rattle.core_ir.specs.declared.tree.Var.{Var}
use Rattle.core_ir.specs.Terms.{PlainTerm, RightTerm, Plain, GenTerm, GensTerm}
use Rattle.core_ir.specs.Terms
use Rattle.core_lowering.specs.Lowering.{once, names_bound}
use Rattle.core_lowering.specs.steps.Looks.{Look, vars_of}
use Rattle.core_lowering.specs.steps.Building.{Built, Made, MadeList, MadeNames, MadeBlock, MadeGens, MadeGiven, block_giving, block_of, bound_at}
use Rattle.core_lowering.specs.steps.Building.{bound_in, bound_in_both, declared, nested, make, make_block, make_starts}
use Rattle.core_lowering.specs.steps.Functions.{MadeParams}

-- ---- what stands before what is made

abbrev pub after_list : List Var → MadeList → MadeList
after_list xs m = record { state = m.state; results = xs ++ m.results }

abbrev pub after_names : List Var → MadeNames → MadeNames
after_names xs m = record { state = m.state; results = xs ++ m.results; scope = m.scope }

abbrev pub after_params : List (Var × ArrayType) → MadeParams → MadeParams
after_params ps m = record { state = m.state; params = ps ++ m.params; scope = m.scope }

abbrev pub onto : List GenTerm → GensTerm → GensTerm
onto [] rest = rest
onto (g ∷ gs) rest = Terms.Gen g.head g.body (onto gs rest)

abbrev pub after_gens : List GenTerm → MadeGens → MadeGens
after_gens gs m = record { state = m.state; gens = onto gs m.gens }

-- ---- parts

-- an assignment of a call may have any number of targets
abbrev pub is_call : Expr → Bool
is_call (call name es site) = true
is_call e = false

module _ (group_of : Name → ℕ) (base_of : Expr → Option Base) (base_of_name : Name → Base) where
  -- the default of a genarray; one that is left out is zero of a base
  abbrev pub make_default : MaybeExpr → Base → Site → Look → Built → Made
  make_default left_out base site scope s = bound_at s site (Plain (PlainTerm.Const (scalar base (pos 0))))
  make_default (given e) base site scope s = make group_of base_of base_of_name e scope s

  -- the block of an expression
  abbrev pub make_inside : Expr → Look → Built → MadeBlock
  make_inside e scope s = block_of s (make group_of base_of base_of_name e scope (nested s))

  -- the block of a generator, which gives its cell
  abbrev pub make_cell : Block → Expr → Look → Built → MadeBlock
  make_cell body cell scope s =
      let b = make_block group_of base_of base_of_name body scope (nested s) in
      block_of s (make group_of base_of base_of_name cell b.scope b.state)

  -- the block of statements, which gives the variables of names
  abbrev pub make_turn : List Name → Block → Look → Built → MadeBlock
  make_turn xs body scope s = block_giving xs s (make_block group_of base_of base_of_name body scope (nested s))

  -- conditionals and loops, but for the binding itself
  abbrev pub make_if : Expr → Block → Block → Look → Built → MadeGiven
  make_if c first second scope s =
      let a = make group_of base_of base_of_name c scope s in
      let b = make_block group_of base_of base_of_name first scope (nested a.state) in
      let d = make_block group_of base_of base_of_name second scope (nested b.state) in
      let both = bound_in_both b.scope d.scope (once [] (names_bound first ++ names_bound second)) in
      let p = block_giving both a.state b in
      let q = block_giving both p.state d in
      record { state = q.state; names = both; right = RightTerm.If a.result p.block q.block }

  abbrev pub make_while : Expr → Block → Site → Look → Built → MadeGiven
  make_while c body site scope s =
      let all = bound_in scope (once [] (names_bound body)) in
      let p = declared all scope s in
      let t = make_inside c p.scope p.state in
      let b = make_turn all body p.scope t.state in
      record { state = b.state; names = all; right = RightTerm.Loop false (vars_of scope all) p.results t.block b.block site }

  abbrev pub make_do : Block → Expr → Site → Site → Look → Built → MadeGiven
  make_do body c site test scope s =
      let all = once [] (names_bound body) in
      let i = make_starts base_of_name site all scope s in
      let p = declared all scope i.state in
      let b = make_turn all body p.scope p.state in
      let t = make_inside c p.scope b.state in
      record { state = t.state; names = all; right = RightTerm.Loop true i.results p.results t.block b.block test }
