-- The base of each expression of a function, which is known before the program runs. An expression whose own rule is violated has none.
use Rattle.std.specs.Prelude.{List, [], ◌∷◌, ◌++◌, Bool, true, false, ◌&&◌, Option, Some, None, map, find, bytes_eq, length, ◌==◌}
use Rattle.std.specs.List.{list_all}
use Rattle.sac_base.specs.declared.base.Base.{Base}
use Rattle.sac_base.specs.declared.base.Base.TheVariants.{Int, Bool as Truth}
use Rattle.sac_base.specs.declared.op.Op.{Op}
use Rattle.sac_base.specs.declared.op.Op.TheVariants.{Not, And, Or, Eq, Ne}
use Rattle.sac_base.specs.declared.name.Name.{Name}
use Rattle.sac_base.specs.declared.types.ArrayType.{ArrayType}
use Rattle.sac_base.specs.Arrays.{same_base}
use Rattle.sac_base.specs.Operators.{result_base}
use Rattle.sac_ast.specs.declared.Target.{Target}
use Rattle.sac_ast.specs.declared.Param.{Param}
use Rattle.sac_ast.specs.declared.Known.{Known}
use Rattle.sac_ast.specs.declared.Builtin.{Builtin}
use Rattle.sac_ast.specs.declared.Builtin.TheVariants.{Dim, Shape, Reshape}
use Rattle.sac_ast.specs.Tree.{IndexTree, named, parts, Expr, Exprs, no_exprs, expr_and, MaybeExpr, left_out, given, Stmt, Block, no_stmts, stmt_and}
use Rattle.sac_ast.specs.Tree.{BoundTree, dot, at, Gen, gen, Gens, no_gens, gen_and, OperationTree, FunctionTree, number, truth, variable, literal}
use Rattle.sac_ast.specs.Tree.{unary, binary, choice, select, call, builtin, with_loop, assign, replace, if_else, while_do, do_while, genarray}
use Rattle.sac_ast.specs.Tree.{modarray, fold}

-- ---- rules: one that asks for a base, or compares two, holds where a base is missing

abbrev pub may_be : Base → Option Base → Bool
may_be wanted None = true
may_be wanted (Some b) = same_base wanted b

abbrev pub may_match : Option Base → Option Base → Bool
may_match None b = true
may_match (Some a) b = may_be a b

-- the base that an operator's operands need; `==` and `!=` compare two of either
abbrev pub operand_base : Op → Base
operand_base Not = Truth
operand_base And = Truth
operand_base Or = Truth
operand_base _ = Int

abbrev pub operands_fit : Op → Option Base → Option Base → Bool
operands_fit Eq a b = may_match a b
operands_fit Ne a b = may_match a b
operands_fit op a b = may_be (operand_base op) a && may_be (operand_base op) b

abbrev pub are_int : Option Base → Option Base → Option Base → Option Base → Bool
are_int lower upper step width = may_be Int lower && may_be Int upper && may_be Int step && may_be Int width

-- a base where a rule holds
abbrev pub where_holds : Bool → Option Base → Option Base
where_holds true b = b
where_holds false b = None

-- the first base that is there
abbrev pub first_known : List (Option Base) → Option Base
first_known [] = None
first_known (None ∷ bs) = first_known bs
first_known (Some b ∷ bs) = Some b

-- no two that are there differ
abbrev pub agree : List (Option Base) → Bool
agree bs = list_all (may_match (first_known bs)) bs

abbrev pub common_base : List (Option Base) → Option Base
common_base bs = where_holds (agree bs) (first_known bs)

abbrev pub literal_base : List (Option Base) → Option Base
literal_base [] = Some Int
literal_base (b ∷ bs) = common_base (b ∷ bs)

abbrev pub first_base : List (Option Base) → Option Base
first_base [] = None
first_base (b ∷ bs) = b

abbrev pub second_base : List (Option Base) → Option Base
second_base [] = None
second_base (b ∷ bs) = first_base bs

abbrev pub builtin_base : Builtin → List (Option Base) → Option Base
builtin_base Dim bs = Some Int
builtin_base Shape bs = Some Int
builtin_base Reshape bs = where_holds (may_be Int (first_base bs)) (second_base bs)

-- ---- calls

-- the bases of a call's results, by the bases of its arguments; none where no instance has these
abbrev pub CallBases : Type 0
CallBases = Name → List (Option Base) → Option (List Base)

abbrev pub with_base : Option Base → Option (List Base) → Option (List Base)
with_base (Some b) (Some bs) = Some (b ∷ bs)
with_base _ _ = None

-- the bases, where none is missing
abbrev pub all_known : List (Option Base) → Option (List Base)
all_known [] = Some []
all_known (b ∷ bs) = with_base b (all_known bs)

-- a call that stands as a value has one result
abbrev pub value_base : Option (List Base) → Option Base
value_base (Some (b ∷ [])) = Some b
value_base _ = None

abbrev pub same_bases : List Base → List Base → Bool
same_bases [] [] = true
same_bases (a ∷ as') (b ∷ bs) = same_base a b && same_bases as' bs
same_bases [] (b ∷ bs) = false
same_bases (a ∷ as') [] = false

abbrev pub bases_of_params : FunctionTree → List Base
bases_of_params f = map (λ (p : Param). p.ty.base) f.params

abbrev pub bases_of_results : Option FunctionTree → Option (List Base)
bases_of_results None = None
bases_of_results (Some f) = Some (map (λ (ty : ArrayType). ty.base) f.results)

-- an instance counts where it has as many parameters and results as the first of its name
abbrev pub counts_beside : Option FunctionTree → FunctionTree → Bool
counts_beside None f = false
counts_beside (Some g) f = length f.params == length g.params && length f.results == length g.results

abbrev pub first_named : List FunctionTree → Name → Option FunctionTree
first_named fs name = find (λ f. bytes_eq f.name name) fs

abbrev pub takes_bases : List FunctionTree → Name → List Base → FunctionTree → Bool
takes_bases fs name bs f = bytes_eq f.name name && counts_beside (first_named fs name) f && same_bases (bases_of_params f) bs

-- the first instance of the name that takes these bases
abbrev pub instance_by : List FunctionTree → Name → Option (List Base) → Option FunctionTree
instance_by fs name None = None
instance_by fs name (Some bs) = find (takes_bases fs name bs) fs

abbrev pub call_bases_in : List FunctionTree → CallBases
call_bases_in fs name bs = bases_of_results (instance_by fs name (all_known bs))

-- ---- expressions

-- what names are bound to, the first binding of each name first
abbrev pub Bases : Type 0
Bases = List Known

abbrev pub base_bound : Option Known → Option Base
base_bound None = None
base_bound (Some k) = k.base

abbrev pub base_of_name : Bases → Name → Option Base
base_of_name known name = base_bound (find (λ (k : Known). bytes_eq k.name name) known)

module _ (call_bases : CallBases) (known : Bases) where
  abbrev mutual
    pub base : Expr → Option Base
    base (number n site) = Some Int
    base (truth b site) = Some Truth
    base (variable name site) = base_of_name known name
    base (literal es site) = literal_base (bases es)
    base (unary op e site) = where_holds (may_be (operand_base op) (base e)) (Some (result_base op))
    base (binary op e f site) = where_holds (operands_fit op (base e) (base f)) (Some (result_base op))
    base (choice c e f site) = where_holds (may_be Truth (base c)) (common_base (base e ∷ base f ∷ []))
    base (select e i site) = where_holds (may_be Int (base i)) (base e)
    base (call name es site) = value_base (call_bases name (bases es))
    base (builtin b es site) = builtin_base b (bases es)
    base (with_loop gs op site) = with_base_of gs (operation_base op (cell_base gs))

    pub bases : Exprs → List (Option Base)
    bases no_exprs = []
    bases (expr_and e es) = base e ∷ bases es

    -- the base of a value that may be left out, and then has another
    pub maybe_base : MaybeExpr → Option Base → Option Base
    maybe_base left_out other = other
    maybe_base (given e) other = base e

    pub bound_base : BoundTree → Option Base
    bound_base (dot site) = Some Int
    bound_base (at e) = base e

    -- the base of an operation's cells, where a missing default has the given one
    pub operation_base : OperationTree → Option Base → Option Base
    operation_base (genarray shape default site) cell = where_holds (may_be Int (base shape)) (maybe_base default cell)
    operation_base (modarray array site) cell = base array
    operation_base (fold op neutral site) cell = where_holds (operands_fit op (base neutral) (base neutral)) (base neutral)

    -- the base of the first generator's cell, and int without a generator
    pub cell_base : Gens → Option Base
    cell_base no_gens = Some Int
    cell_base (gen_and g gs) = generator_base g

    pub generator_base : Gen → Option Base
    generator_base (gen lower lower_closed index upper upper_closed step width body cell site) = base cell

    -- bounds, steps and widths are int, and cells have the operation's base
    pub generator_fits : Gen → Option Base → Bool
    generator_fits (gen lower lower_closed index upper upper_closed step width body cell site) wanted =
        are_int (bound_base lower) (bound_base upper) (maybe_base step (Some Int)) (maybe_base width (Some Int)) && may_match wanted (base cell)

    -- the base of a with-loop whose cells need this one
    pub with_base_of : Gens → Option Base → Option Base
    with_base_of no_gens wanted = wanted
    with_base_of (gen_and g gs) wanted = where_holds (generator_fits g wanted) (with_base_of gs wanted)

-- ---- bindings: in the order of the tree, in which a right side stands before its targets

abbrev pub with_bases : List Target → List (Option Base) → Bases → Bases
with_bases [] bs known = known
with_bases (target ∷ targets) [] known = with_bases targets [] (known ++ record { name = target.name; base = None } ∷ [])
with_bases (target ∷ targets) (b ∷ bs) known = with_bases targets bs (known ++ record { name = target.name; base = b } ∷ [])

abbrev pub known_bases : Option (List Base) → List (Option Base)
known_bases None = []
known_bases (Some bs) = map (λ b. Some b) bs

abbrev pub index_bases : IndexTree → Bases
index_bases (named target) = record { name = target.name; base = Some Int } ∷ []
index_bases (parts targets) = map (λ (t : Target). record { name = t.name; base = Some Int }) targets

-- the bindings of a tree, after those that are known
module _ (call_bases : CallBases) where
  abbrev mutual
    pub in_expr : Expr → Bases → Bases
    in_expr (number n site) known = known
    in_expr (truth b site) known = known
    in_expr (variable name site) known = known
    in_expr (literal es site) known = in_exprs es known
    in_expr (unary op e site) known = in_expr e known
    in_expr (binary op e f site) known = in_expr f (in_expr e known)
    in_expr (choice c e f site) known = in_expr f (in_expr e (in_expr c known))
    in_expr (select e i site) known = in_expr i (in_expr e known)
    in_expr (call name es site) known = in_exprs es known
    in_expr (builtin b es site) known = in_exprs es known
    in_expr (with_loop gs op site) known = in_operation op (in_gens gs known)

    pub in_exprs : Exprs → Bases → Bases
    in_exprs no_exprs known = known
    in_exprs (expr_and e es) known = in_exprs es (in_expr e known)

    pub in_maybe : MaybeExpr → Bases → Bases
    in_maybe left_out known = known
    in_maybe (given e) known = in_expr e known

    pub in_bound : BoundTree → Bases → Bases
    in_bound (dot site) known = known
    in_bound (at e) known = in_expr e known

    pub in_gen : Gen → Bases → Bases
    in_gen (gen lower lower_closed index upper upper_closed step width body cell site) known =
        in_expr cell (in_block body (in_maybe width (in_maybe step (in_bound upper (in_bound lower known ++ index_bases index)))))

    pub in_gens : Gens → Bases → Bases
    in_gens no_gens known = known
    in_gens (gen_and g gs) known = in_gens gs (in_gen g known)

    pub in_operation : OperationTree → Bases → Bases
    in_operation (genarray shape default site) known = in_maybe default (in_expr shape known)
    in_operation (modarray array site) known = in_expr array known
    in_operation (fold op neutral site) known = in_expr neutral known

    pub in_stmt : Stmt → Bases → Bases
    in_stmt (assign targets (call name es site)) known =
        let before = in_exprs es known in
        with_bases targets (known_bases (call_bases name (bases call_bases before es))) before
    in_stmt (assign targets e) known =
        let before = in_expr e known in
        with_bases targets (base call_bases before e ∷ []) before
    -- a replacement tells no base: the name is bound before
    in_stmt (replace target bracket index e) known =
        with_bases (target ∷ []) [] (in_expr e (in_expr index known))
    in_stmt (if_else c first second site) known = in_block second (in_block first (in_expr c known))
    in_stmt (while_do c body site) known = in_block body (in_expr c known)
    in_stmt (do_while body c site test) known = in_expr c (in_block body known)

    pub in_block : Block → Bases → Bases
    in_block no_stmts known = known
    in_block (stmt_and s rest) known = in_block rest (in_stmt s known)

-- ---- functions

abbrev pub bound_params : List Param → Bases
bound_params params = map (λ (p : Param). record { name = p.name; base = Some p.ty.base }) params

-- the bindings of a function
abbrev pub known_in : List FunctionTree → FunctionTree → Bases
known_in fs f = in_exprs (call_bases_in fs) f.values (in_block (call_bases_in fs) f.body (bound_params f.params))

-- the base of an expression of a function
abbrev pub base_in : List FunctionTree → FunctionTree → Expr → Option Base
base_in fs f = base (call_bases_in fs) (known_in fs f)
