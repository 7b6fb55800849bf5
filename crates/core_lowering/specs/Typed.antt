-- When the phrases of a function have the bases that the core asks for.
use Rattle.std.specs.Prelude.{◌≡◌, ℕ, List, [], ◌∷◌, true, FitsSigned, Option, Some, slice_get, bytes_eq}
use mir.Syntax.{w32}
use Rattle.sac_base.specs.declared.base.Base.{Base}
use Rattle.sac_base.specs.declared.base.Base.TheVariants.{Int, Bool as Truth}
use Rattle.sac_base.specs.declared.name.Name.{Name}
use Rattle.sac_base.specs.Verdict.{folds}
use Rattle.sac_ast.specs.declared.Target.{Target}
use Rattle.sac_ast.specs.declared.Builtin.{Builtin}
use Rattle.sac_ast.specs.declared.Builtin.TheVariants.{Dim, Shape, Reshape}
use Rattle.sac_ast.specs.Tree.{IndexTree, Expr, Exprs, no_exprs, expr_and, MaybeExpr, left_out, given, Stmt, Block, no_stmts, stmt_and, BoundTree}
use Rattle.sac_ast.specs.Tree.{dot, at, Gen, gen, Gens, no_gens, gen_and, OperationTree, number, truth, variable, choice, call, builtin, with_loop}
use Rattle.sac_ast.specs.Tree.{assign, if_else, while_do, do_while, genarray, modarray}
use Rattle.sac_ast.specs.Tree.{FunctionTree}
use Rattle.sac_ast.specs.Tree
use Rattle.sac_ast.specs.Bases.{base_in, bases_of_params}
use Rattle.sac_ast.specs.declared.Param.{Param}
use Rattle.core_ir.specs.WellFormed.{UnaryBase, BinaryBase, bases}
use Rattle.source_meaning.specs.Meaning.{default_base}
use Rattle.core_lowering.specs.Definite.{index_targets}
use Rattle.core_lowering.specs.Programs.{name_base}

-- a built-in function that has too few arguments always faults, and so gives any base
abbrev pub BuiltinBase : Builtin → List Base → Base → Type 0
BuiltinBase Dim (u ∷ us) t = t ≡ Int
BuiltinBase Shape (u ∷ us) t = t ≡ Int
BuiltinBase Reshape (u ∷ v ∷ us) t = (u ≡ Int) × (v ≡ t)
BuiltinBase _ _ t = Unit {0}

module _ (base_of_name : Name → Base) where
  -- targets have these bases, each
  abbrev pub TargetsTyped : List Target → List Base → Type 0
  TargetsTyped [] [] = Unit {0}
  TargetsTyped (target ∷ targets) (t ∷ ts) = (base_of_name target.name ≡ t) × TargetsTyped targets ts
  TargetsTyped [] (t ∷ ts) = ⊥
  TargetsTyped (target ∷ targets) [] = ⊥

  -- the first target, if there is one
  abbrev pub FirstTyped : List Target → Base → Type 0
  FirstTyped [] t = Unit {0}
  FirstTyped (target ∷ targets) t = base_of_name target.name ≡ t

  abbrev pub IntTargets : List Target → Type 0
  IntTargets [] = Unit {0}
  IntTargets (target ∷ targets) = (base_of_name target.name ≡ Int) × IntTargets targets

-- `base_of` is the base of each expression, `base_of_name` that of each name, and `Instances` says which bases the instances of a name take and give
module _ (base_of : Expr → Option Base) (base_of_name : Name → Base) (Instances : Name → List Base → List Base → Type 0) where
  abbrev mutual
    pub IsTyped : Expr → Base → Type 0
    IsTyped (number z site) t = FitsSigned w32 z × (t ≡ Int)
    IsTyped (truth b site) t = t ≡ Truth
    IsTyped (variable name site) t = base_of_name name ≡ t
    IsTyped (Tree.literal es site) t = LiteralTyped es t
    IsTyped (Tree.unary op e site) t = (u : Base) × (IsTyped e u × UnaryBase op u t)
    IsTyped (Tree.binary op e f site) t = (u : Base) × (IsTyped e u × IsTyped f u × BinaryBase op u t)
    IsTyped (choice c e f site) t = IsTyped c Truth × IsTyped e t × IsTyped f t
    IsTyped (Tree.select e i site) t = IsTyped e t × IsTyped i Int
    IsTyped (call name es site) t = (us : List Base) × (AreTyped es us × Instances name us (t ∷ []))
    IsTyped (builtin b es site) t = (us : List Base) × (AreTyped es us × BuiltinBase b us t)
    IsTyped (with_loop gs op site) t = GensTyped gs t × OperationTyped op (default_base base_of gs) t

    -- an empty literal is of numbers
    pub LiteralTyped : Exprs → Base → Type 0
    LiteralTyped no_exprs t = t ≡ Int
    LiteralTyped (expr_and e es) t = IsTyped e t × AllTyped es t

    pub AllTyped : Exprs → Base → Type 0
    AllTyped no_exprs t = Unit {0}
    AllTyped (expr_and e es) t = IsTyped e t × AllTyped es t

    pub AreTyped : Exprs → List Base → Type 0
    AreTyped no_exprs [] = Unit {0}
    AreTyped no_exprs (u ∷ us) = ⊥
    AreTyped (expr_and e es) [] = ⊥
    AreTyped (expr_and e es) (u ∷ us) = IsTyped e u × AreTyped es us

    pub MaybeTyped : MaybeExpr → Base → Type 0
    MaybeTyped left_out t = Unit {0}
    MaybeTyped (given e) t = IsTyped e t

    pub BoundTyped : BoundTree → Type 0
    BoundTyped (dot site) = Unit {0}
    BoundTyped (at e) = IsTyped e Int

    pub GenTyped : Gen → Base → Type 0
    GenTyped (gen lower lower_closed index upper upper_closed step width body cell site) t =
        BoundTyped lower × BoundTyped upper × MaybeTyped step Int × MaybeTyped width Int
        × IntTargets base_of_name (index_targets index) × BlockTyped body × IsTyped cell t

    pub GensTyped : Gens → Base → Type 0
    GensTyped no_gens t = Unit {0}
    GensTyped (gen_and g gs) t = GenTyped g t × GensTyped gs t

    pub OperationTyped : OperationTree → Base → Base → Type 0
    OperationTyped (genarray shape left_out site) base t = IsTyped shape Int × (base ≡ t)
    OperationTyped (genarray shape (given e) site) base t = IsTyped shape Int × IsTyped e t
    OperationTyped (modarray array site) base t = IsTyped array t
    OperationTyped (Tree.fold op neutral site) base t = IsTyped neutral t × (folds t op ≡ true)

    pub StmtTyped : Stmt → Type 0
    StmtTyped (assign targets (call name es site)) =
        (us : List Base) × ((ts : List Base) × (AreTyped es us × Instances name us ts × TargetsTyped base_of_name targets ts))
    StmtTyped (assign targets e) = (t : Base) × (IsTyped e t × FirstTyped base_of_name targets t)
    StmtTyped (Tree.replace target bracket index e) = IsTyped index Int × IsTyped e (base_of_name target.name)
    StmtTyped (if_else c first second site) = IsTyped c Truth × BlockTyped first × BlockTyped second
    StmtTyped (while_do c body site) = IsTyped c Truth × BlockTyped body
    StmtTyped (do_while body c site test) = BlockTyped body × IsTyped c Truth

    pub BlockTyped : Block → Type 0
    BlockTyped no_stmts = Unit {0}
    BlockTyped (stmt_and s rest) = StmtTyped s × BlockTyped rest

-- ---- functions

-- an instance of the name takes and gives these bases
abbrev pub InstanceBases : List FunctionTree → Name → List Base → List Base → Type 0
InstanceBases fs x us ts =
    (place : ℕ) × ((f : FunctionTree) × ((slice_get fs place ≡ Some f) × (bytes_eq f.name x ≡ true) × (bases_of_params f ≡ us) × (bases f.results ≡ ts)))

abbrev pub ParamsTyped : (Name → Base) → List Param → Type 0
ParamsTyped base_of_name [] = Unit {0}
ParamsTyped base_of_name (p ∷ ps) = (base_of_name p.name ≡ p.ty.base) × ParamsTyped base_of_name ps

pub record IsTypedFunction (fs : List FunctionTree) (f : FunctionTree) : Type 0 where
  pub params : ParamsTyped (name_base fs f) f.params
  pub body : BlockTyped (base_in fs f) (name_base fs f) (InstanceBases fs) f.body
  pub values : AreTyped (base_in fs f) (name_base fs f) (InstanceBases fs) f.values (bases f.results)

abbrev pub AreTypedFunctions : List FunctionTree → List FunctionTree → Type 0
AreTypedFunctions fs [] = Unit {0}
AreTypedFunctions fs (g ∷ gs) = IsTypedFunction fs g × AreTypedFunctions fs gs
