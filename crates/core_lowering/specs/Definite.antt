-- When each use of a variable is of one that is bound on every path to it, and each call has as many targets as results.
use Rattle.std.specs.Prelude.{◌≡◌, ℕ, List, [], ◌∷◌, Bool, true, ◌&&◌, ◌||◌, length}
use Rattle.sac_base.specs.declared.name.Name.{Name}
use Rattle.sac_ast.specs.declared.Target.{Target}
use Rattle.sac_ast.specs.Tree.{IndexTree, named, parts, Expr, Exprs, no_exprs, expr_and, MaybeExpr, left_out, given, Stmt, Block, no_stmts, stmt_and}
use Rattle.sac_ast.specs.Tree.{BoundTree, dot, at, Gen, gen, Gens, no_gens, gen_and, OperationTree, number, truth, variable, choice, call, builtin}
use Rattle.sac_ast.specs.Tree.{with_loop, assign, if_else, while_do, do_while, genarray, modarray}
use Rattle.sac_ast.specs.Tree
use Rattle.source_meaning.specs.Meaning.{names}
use Rattle.core_lowering.specs.Lowering.{has_name}

-- ---- names that are bound on every path

abbrev pub Names : Type 0
Names = Name → Bool

abbrev pub with_names : List Name → Names → Names
with_names xs bound x = has_name xs x || bound x

abbrev pub index_targets : IndexTree → List Target
index_targets (named target) = target ∷ []
index_targets (parts targets) = targets

-- After a conditional a name is bound where both blocks bind it, after a `while` where it was bound before, and after a `do` where its body binds it.
abbrev mutual
  pub bound_after : Stmt → Names → Names
  bound_after (assign targets e) bound = with_names (names targets) bound
  bound_after (Tree.replace target bracket index e) bound = with_names (target.name ∷ []) bound
  bound_after (if_else c first second site) bound = λ x. bound_behind first bound x && bound_behind second bound x
  bound_after (while_do c body site) bound = bound
  bound_after (do_while body c site test) bound = bound_behind body bound

  pub bound_behind : Block → Names → Names
  bound_behind no_stmts bound = bound
  bound_behind (stmt_and s rest) bound = bound_behind rest (bound_after s bound)

-- ---- uses

-- an index list has a name
abbrev pub HasName : IndexTree → Type 0
HasName (named target) = Unit {0}
HasName (parts []) = ⊥
HasName (parts (target ∷ targets)) = Unit {0}

abbrev pub AtMostOne : List Target → Type 0
AtMostOne [] = Unit {0}
AtMostOne (target ∷ []) = Unit {0}
AtMostOne (first ∷ second ∷ rest) = ⊥

-- `count` is the number of results of a name, and `bound` the names that are bound on every path to the place
module _ (count : Name → ℕ) where
  abbrev mutual
    pub IsDefinite : Expr → Names → Type 0
    IsDefinite (number z site) bound = Unit {0}
    IsDefinite (truth b site) bound = Unit {0}
    IsDefinite (variable name site) bound = bound name ≡ true
    IsDefinite (Tree.literal es site) bound = AreDefinite es bound
    IsDefinite (Tree.unary op e site) bound = IsDefinite e bound
    IsDefinite (Tree.binary op e f site) bound = IsDefinite e bound × IsDefinite f bound
    IsDefinite (choice c e f site) bound = IsDefinite c bound × IsDefinite e bound × IsDefinite f bound
    IsDefinite (Tree.select e i site) bound = IsDefinite e bound × IsDefinite i bound
    IsDefinite (call name es site) bound = AreDefinite es bound
    IsDefinite (builtin b es site) bound = AreDefinite es bound
    IsDefinite (with_loop gs op site) bound = GensDefinite gs bound × OperationDefinite op bound

    pub AreDefinite : Exprs → Names → Type 0
    AreDefinite no_exprs bound = Unit {0}
    AreDefinite (expr_and e es) bound = IsDefinite e bound × AreDefinite es bound

    pub MaybeDefinite : MaybeExpr → Names → Type 0
    MaybeDefinite left_out bound = Unit {0}
    MaybeDefinite (given e) bound = IsDefinite e bound

    pub BoundDefinite : BoundTree → Names → Type 0
    BoundDefinite (dot site) bound = Unit {0}
    BoundDefinite (at e) bound = IsDefinite e bound

    pub GenDefinite : Gen → Names → Type 0
    GenDefinite (gen lower lower_closed index upper upper_closed step width body cell site) bound =
        BoundDefinite lower bound × BoundDefinite upper bound × MaybeDefinite step bound × MaybeDefinite width bound
        × HasName index
        × BlockDefinite body (with_names (names (index_targets index)) bound)
        × IsDefinite cell (bound_behind body (with_names (names (index_targets index)) bound))

    pub GensDefinite : Gens → Names → Type 0
    GensDefinite no_gens bound = Unit {0}
    GensDefinite (gen_and g gs) bound = GenDefinite g bound × GensDefinite gs bound

    pub OperationDefinite : OperationTree → Names → Type 0
    OperationDefinite (genarray shape default site) bound = IsDefinite shape bound × MaybeDefinite default bound
    OperationDefinite (modarray array site) bound = IsDefinite array bound
    OperationDefinite (Tree.fold op neutral site) bound = IsDefinite neutral bound

    pub StmtDefinite : Stmt → Names → Type 0
    StmtDefinite (assign targets (call name es site)) bound = AreDefinite es bound × (length targets ≡ count name)
    StmtDefinite (assign targets e) bound = IsDefinite e bound × AtMostOne targets
    StmtDefinite (Tree.replace target bracket index e) bound =
        (bound target.name ≡ true) × IsDefinite index bound × IsDefinite e bound
    StmtDefinite (if_else c first second site) bound = IsDefinite c bound × BlockDefinite first bound × BlockDefinite second bound
    StmtDefinite (while_do c body site) bound = IsDefinite c bound × BlockDefinite body bound
    StmtDefinite (do_while body c site test) bound = BlockDefinite body bound × IsDefinite c (bound_behind body bound)

    pub BlockDefinite : Block → Names → Type 0
    BlockDefinite no_stmts bound = Unit {0}
    BlockDefinite (stmt_and s rest) bound = StmtDefinite s bound × BlockDefinite rest (bound_after s bound)
