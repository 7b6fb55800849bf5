-- What the trees of parts of phrases are.
use Rattle.std.specs.Prelude.{ℕ, ◌≡◌, ◌+◌, ◌≤◌, max, Bool, List, [], ◌∷◌, ◌++◌, ◌⊎◌, Ok, Err, map, Option, codes}
use Rattle.std.specs.Global.{Vec, Box}
use mathlib.Core.Logic.{inl, inr}
use Rattle.sac_base.specs.declared.op.Op.{Op}
use Rattle.sac_base.specs.declared.site.Site.{Site}
use Rattle.sac_ast.specs.declared.Builtin.{Builtin}
use Rattle.sac_ast.specs.declared.Builtin.TheVariants.{Dim, Shape}
use Rattle.sac_ast.specs.declared.Expression.{Expression}
use Rattle.sac_ast.specs.declared.Statement.{Statement}
use Rattle.sac_ast.specs.declared.Generator.{Generator}
use Rattle.sac_ast.specs.declared.Operation.{Operation}
use Rattle.sac_ast.specs.declared.Index.{Index}
use Rattle.sac_ast.specs.declared.Target.{Target}
use Rattle.sac_ast.specs.Texts.{Lexeme}
use Rattle.sac_ast.specs.Shape.{ref, seq, many}
use Rattle.sac_ast.specs.Grammar.{Nonterminal, Tree, Rule, V, operator, count_signs, Assigned, to_variable, sign, listed, opt, parens, items}
use Rattle.sac_ast.specs.Grammar.{maybe_items, maybe, concat, block_or_none}
use Rattle.sac_ast.specs.Grammar.{body_or_none, is_there, target, rule, action, expression, primary, generator, operation, statement, else_branch}
use Rattle.sac_ast.specs.Grammar.{block, assign, index}
use Rattle.sac_ast.specs.Heights.{height, heights, gens_height, maybe_height, operation_height, stmt_height, block_height}
use Rattle.sac_ast.specs.Tree as tree
use Rattle.sac_ast.specs.Tree.{Expr, Stmt}
use Rattle.sac_ast.specs.View as View
use Rattle.sac_ast.specs.View.{exprs_of, block_of, gens_of}
use Rattle.sac_grammar.specs.Parsing.{Found, Halted, nth, inject}
use Rattle.sac_phrases.specs.declared.place.Place.{Place}
use Rattle.sac_phrases.specs.declared.place.Measured.{Measured}
use Rattle.sac_phrases.specs.Contract.{ReadOf, IsLowAt, IsLow, IsNear, IsTall, StopOf, lexemes_of, unboxed}

-- two of these with a comma between them
abbrev pub Comma : Rule → Rule
Comma a = seq a (seq (sign (codes ",")) a)

-- the expressions of a list, and the greatest of their heights
pub record IsListOf (place : Place) (list : Measured (Vec Expression)) (v : V (listed (ref expression))) : Type 0 where
  pub trees : map View.expr list.tree.items ≡ items v
  pub low : IsLowAt place list.height (heights (exprs_of (items v)))

pub record IsArguments (place : Place) (list : Measured (Vec Expression)) (v : V (opt (listed (ref expression)))) : Type 0 where
  pub trees : map View.expr list.tree.items ≡ maybe_items v
  pub low : IsLow place list.height (heights (exprs_of (maybe_items v)))

pub record IsInParens (place : Place) (node : Measured (Box Expression)) (v : V (parens (ref expression))) : Type 0 where
  pub tree : unboxed node.tree ≡ v.1.0
  pub low : IsLowAt place node.height (height v.1.0)

pub record IsPair (place : Place) (nodes : Measured (Box Expression) × Measured (Box Expression)) (v : V (parens (Comma (ref expression)))) : Type 0 where
  pub first : unboxed nodes.0.tree ≡ v.1.0.0
  pub second : unboxed nodes.1.tree ≡ v.1.0.1.1
  pub first_low : IsLowAt place nodes.0.height (height v.1.0.0)
  pub second_low : IsLowAt place nodes.1.height (height v.1.0.1.1)

-- the tree of an alternative
pub record IsPrimaryOf (place : Place) (node : Measured (Box Expression)) (v : V (rule primary)) : Type 0 where
  pub tree : unboxed node.tree ≡ action primary v
  pub tall : IsTall place node.height (height (action primary v))

abbrev pub IsPrimary : Place → (n : ℕ) → Measured (Box Expression) → V (nth n (rule primary)) → Type 0
IsPrimary place n node v = IsPrimaryOf place node (inject n (rule primary) v)

pub record IsGenerators (place : Place) (list : Measured (Vec Generator)) (v : V (many (ref generator))) : Type 0 where
  pub trees : map View.generator list.tree.items ≡ v
  pub low : IsNear place list.height (gens_height (gens_of v))

pub record IsMaybe (place : Place) (node : Measured (Option Expression)) (v : (Lexeme × Expr) ⊎ Unit {0}) : Type 0 where
  pub tree : View.maybe node.tree ≡ maybe v
  pub low : IsLow place node.height (maybe_height (maybe v))

pub record IsOperationOf (place : Place) (node : Measured Operation) (v : V (rule operation)) : Type 0 where
  pub tree : View.operation node.tree ≡ action operation v
  pub low : IsNear place node.height (operation_height (action operation v))

abbrev pub IsOperation : Place → (n : ℕ) → Measured Operation → V (nth n (rule operation)) → Type 0
IsOperation place n node v = IsOperationOf place node (inject n (rule operation) v)

-- the statements, and the greatest of their heights
pub record AreStatements (place : Place) (list : Measured (Vec Statement)) (ss : List Stmt) : Type 0 where
  pub trees : map View.stmt list.tree.items ≡ ss
  pub low : IsLow place list.height (block_height (block_of ss))

abbrev pub IsStatements : Place → Measured (Vec Statement) → V (many (ref statement)) → Type 0
IsStatements place list v = AreStatements place list (concat v)

abbrev pub IsBlockOf : Place → Measured (Vec Statement) → V (opt (ref block)) → Type 0
IsBlockOf place list v = AreStatements place list (body_or_none v)

abbrev pub IsElse : Place → Measured (Vec Statement) → V (opt (seq (sign (codes "else")) (ref else_branch))) → Type 0
IsElse place list v = AreStatements place list (block_or_none v)

pub record IsStatementOf (place : Place) (list : Measured (Vec Statement)) (v : V (rule statement)) : Type 0 where
  pub trees : map View.stmt list.tree.items ≡ action statement v
  pub tall : IsTall place list.height (block_height (block_of (action statement v)))

abbrev pub IsStatement : Place → (n : ℕ) → Measured (Vec Statement) → V (nth n (rule statement)) → Type 0
IsStatement place n list v = IsStatementOf place list (inject n (rule statement) v)

-- statements are read as a phrase of the nonterminal
abbrev pub IsBlockAt : Place → (k : Nonterminal) → (List Stmt → Tree k) → List Lexeme → ReadOf (Vec Statement) → Type 0
IsBlockAt place k made ts (Ok x) =
    Found k ts (made (map View.stmt x.0.tree.items)) (lexemes_of x.1.now)
    × IsLow place x.0.height (block_height (block_of (map View.stmt x.0.tree.items)))
IsBlockAt place k made ts (Err e) = Halted (StopOf e) place.checked place.depth k ts

abbrev pub itself : List Stmt → List Stmt
itself ss = ss

-- what stands behind the first name of an assignment
abbrev pub AssignRest : Rule
AssignRest = Assigned

pub record IsAssignedOf (place : Place) (t : Lexeme) (node : Measured Statement) (v : V AssignRest) : Type 0 where
  pub tree : View.stmt node.tree ≡ action assign (t, v)
  pub tall : IsTall place node.height (stmt_height (action assign (t, v)))

abbrev pub IsAssigned : Place → Lexeme → (n : ℕ) → Measured Statement → V (nth n AssignRest) → Type 0
IsAssigned place t n node v = IsAssignedOf place t node (inject n AssignRest v)

abbrev pub Counts : Rule
Counts = operator count_signs

-- a count by one, which is the last alternative
abbrev pub IsCount : Place → Lexeme → Measured Statement → V Counts → Type 0
IsCount place t node v = IsAssignedOf place t node (inr (inr (inr v)))

-- the words and names of leaves
abbrev pub IsBuiltinWord : Builtin × Site → Lexeme ⊎ Lexeme → Type 0
IsBuiltinWord x (inl t) = (x.0 ≡ Dim) × (x.1 ≡ t.site)
IsBuiltinWord x (inr t) = (x.0 ≡ Shape) × (x.1 ≡ t.site)

abbrev pub IsRelation : Bool → Lexeme ⊎ Lexeme → Type 0
IsRelation closed v = closed ≡ is_there v

abbrev pub IsIndex : Index → V (rule index) → Type 0
IsIndex i v = View.index_view i ≡ action index v

abbrev pub AreTargets : Lexeme → Vec Target → List (Lexeme × Lexeme) → Type 0
AreTargets t list ns = list.items ≡ target t ∷ map (λ (p : Lexeme × Lexeme). target p.1) ns

-- the statements that a `for` is read as
abbrev pub IsFor : Measured Statement → Measured (Box Expression) → Measured Statement → Measured (Vec Statement) → Site → Measured (Vec Statement) → Type 0
IsFor start cond step body site list =
    map View.stmt list.tree.items
    ≡ View.stmt start.tree ∷ tree.while_do (unboxed cond.tree) (block_of (map View.stmt body.tree.items ++ (View.stmt step.tree ∷ []))) site ∷ []

abbrev pub IsForHeight : ℕ → ℕ → ℕ → ℕ → ℕ → Type 0
IsForHeight start cond step body whole = max cond (max body step) ≤ 100 → whole ≡ max start (1 + max cond (max body step))

-- the assignment of an operator's result to its first operand
abbrev pub IsUpdate : Lexeme → Op → Measured (Box Expression) → Site → Measured Statement → Type 0
IsUpdate t op value site node =
    View.stmt node.tree ≡ tree.assign (target t ∷ []) (tree.binary op (to_variable t) (unboxed value.tree) site)
