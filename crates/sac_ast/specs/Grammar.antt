-- The grammar of the language, and the tree of each phrase.
use Rattle.std.specs.Prelude.{ℕ, zero, suc, Bool, true, false, List, [], ◌∷◌, ◌++◌, ◌⊎◌, codes, map, length, pos}
use Rattle.std.specs.Str.Parse.{digits_value}
use mathlib.Core.Logic.{inl, inr}
use Rattle.sac_base.specs.declared.site.Site.{Site}
use Rattle.sac_base.specs.declared.base.Base.{Base}
use Rattle.sac_base.specs.declared.base.Base.TheVariants as base
use Rattle.sac_base.specs.declared.types.ArrayType.{ArrayType}
use Rattle.sac_base.specs.declared.types.Part.{Part}
use Rattle.sac_base.specs.declared.types.Part.TheVariants.{Known, Rank, Plus, Star}
use Rattle.sac_base.specs.declared.op.Op.{Op}
use Rattle.sac_base.specs.declared.op.Op.TheVariants.{Add, Sub, Mul, Div, Rem, Min, Max, Neg, Not, Eq, Ne, Lt, Le, Gt, Ge, And, Or}
use Rattle.sac_ast.specs.declared.Builtin.TheVariants as built
use Rattle.sac_ast.specs.declared.Target.{Target}
use Rattle.sac_ast.specs.declared.Param.{Param}
use Rattle.sac_ast.specs.Texts.{Lexeme}
use Rattle.sac_ast.specs.Shape.{text, name, number, end, Shape, nothing, term, ref, seq, alt, many, Value, Derives}
use Rattle.sac_ast.specs.Tree as tree
use Rattle.sac_ast.specs.Tree.{Expr, Exprs, MaybeExpr, Stmt, ProgramTree, FunctionTree, Gen, BoundTree, IndexTree, OperationTree}
use Rattle.sac_ast.specs.View.{exprs_of, block_of, gens_of}

pub data Nonterminal : Type 0 where
  program function param type' statement if_statement else_branch block assign : Nonterminal
  expression disjunction conjunction equality comparison sum product prefix postfix primary : Nonterminal
  generator bound index operation : Nonterminal

abbrev pub Rule : Type 0
Rule = Shape Nonterminal

infixr 20 ◌⋅◌
abbrev pub ◌⋅◌ : Rule → Rule → Rule
a ⋅ b = seq a b

infixr 15 ◌∣◌
abbrev pub ◌∣◌ : Rule → Rule → Rule
a ∣ b = alt a b

abbrev pub sign : List ℕ → Rule
sign bytes = term (text bytes)

abbrev pub opt : Rule → Rule
opt a = a ∣ nothing

-- one or more, with commas
abbrev pub listed : Rule → Rule
listed a = a ⋅ many (sign (codes ",") ⋅ a)

abbrev pub parens : Rule → Rule
parens a = sign (codes "(") ⋅ a ⋅ sign (codes ")")

-- one to n + 1, with commas
abbrev pub up_to : ℕ → Rule → Rule
up_to zero a = a
up_to (suc n) a = a ⋅ opt (sign (codes ",") ⋅ up_to n a)

-- one of some operators, by their spellings
abbrev pub one_of : List ℕ × Op → List (List ℕ × Op) → Rule
one_of o [] = sign o.0
one_of o (p ∷ ps) = sign o.0 ∣ one_of p ps

-- operators by their spellings, at least one
abbrev pub Signs : Type 0
Signs = (List ℕ × Op) × List (List ℕ × Op)

abbrev pub operator : Signs → Rule
operator signs = one_of signs.0 signs.1

-- the operators of each level, from the weakest to the strongest
abbrev pub disjunction_signs : Signs
disjunction_signs = ((codes "||", Or), [])

abbrev pub conjunction_signs : Signs
conjunction_signs = ((codes "&&", And), [])

abbrev pub equality_signs : Signs
equality_signs = ((codes "==", Eq), (codes "!=", Ne) ∷ [])

abbrev pub comparison_signs : Signs
comparison_signs = ((codes "<", Lt), (codes "<=", Le) ∷ (codes ">", Gt) ∷ (codes ">=", Ge) ∷ [])

abbrev pub sum_signs : Signs
sum_signs = ((codes "+", Add), (codes "-", Sub) ∷ [])

abbrev pub product_signs : Signs
product_signs = ((codes "*", Mul), (codes "/", Div) ∷ (codes "%", Rem) ∷ [])

abbrev pub prefix_signs : Signs
prefix_signs = ((codes "-", Neg), (codes "!", Not) ∷ [])

-- the operators that are words
abbrev pub extreme_signs : Signs
extreme_signs = ((codes "min", Min), (codes "max", Max) ∷ [])

-- the signs of assignments that compute with the variable's own value
abbrev pub update_signs : Signs
update_signs = ((codes "+=", Add), (codes "-=", Sub) ∷ (codes "*=", Mul) ∷ (codes "/=", Div) ∷ (codes "%=", Rem) ∷ [])

-- the signs of assignments that count by one
abbrev pub count_signs : Signs
count_signs = ((codes "++", Add), (codes "--", Sub) ∷ [])

-- the operators that a fold may combine with
abbrev pub fold_signs : Signs
fold_signs = (
  (codes "+", Add),
  (codes "*", Mul) ∷ (codes "min", Min) ∷ (codes "max", Max) ∷ (codes "&&", And) ∷ (codes "||", Or) ∷ [],
)

abbrev pub Tree : Nonterminal → Type 0
Tree program = ProgramTree
Tree function = FunctionTree
Tree param = Param
Tree type' = ArrayType
Tree statement = List Stmt
Tree if_statement = Stmt
Tree else_branch = List Stmt
Tree block = List Stmt
Tree assign = Stmt
Tree expression = Expr
Tree disjunction = Expr
Tree conjunction = Expr
Tree equality = Expr
Tree comparison = Expr
Tree sum = Expr
Tree product = Expr
Tree prefix = Expr
Tree postfix = Expr
Tree primary = Expr
Tree generator = Gen
Tree bound = BoundTree
Tree index = IndexTree
Tree operation = OperationTree

-- ---- the alternatives of each rule that has several

-- `int[+]`, `int[*]`, `int[.,.]` and `int[2,3]`
abbrev pub Dots : Rule
Dots = up_to 7 (sign (codes "."))

abbrev pub Numbers : Rule
Numbers = up_to 7 (term number)

abbrev pub Extents : Rule
Extents = sign (codes "+") ∣ sign (codes "*") ∣ Dots ∣ Numbers

abbrev pub While : Rule
While = sign (codes "while") ⋅ parens (ref expression) ⋅ ref block

abbrev pub Do : Rule
Do = sign (codes "do") ⋅ ref block ⋅ sign (codes "while") ⋅ parens (ref expression) ⋅ sign (codes ";")

abbrev pub For : Rule
For =
    sign (codes "for") ⋅ parens (ref assign ⋅ sign (codes ";") ⋅ ref expression ⋅ sign (codes ";") ⋅ ref assign)
    ⋅ ref block

-- what stands behind the first name of an assignment: `a, b = ..`, `a[..] = ..`, `a += ..` and `a++`
abbrev pub Targets : Rule
Targets = many (sign (codes ",") ⋅ term name) ⋅ sign (codes "=") ⋅ ref expression

abbrev pub Replacement : Rule
Replacement = sign (codes "[") ⋅ listed (ref expression) ⋅ sign (codes "]") ⋅ sign (codes "=") ⋅ ref expression

abbrev pub Update : Rule
Update = operator update_signs ⋅ ref expression

abbrev pub Assigned : Rule
Assigned = Targets ∣ Replacement ∣ Update ∣ operator count_signs

abbrev pub NameOrCall : Rule
NameOrCall = term name ⋅ opt (parens (opt (listed (ref expression))))

abbrev pub DimOrShape : Rule
DimOrShape = (sign (codes "dim") ∣ sign (codes "shape")) ⋅ parens (ref expression)

abbrev pub Pair : Rule
Pair = parens (ref expression ⋅ sign (codes ",") ⋅ ref expression)

abbrev pub Reshape : Rule
Reshape = sign (codes "reshape") ⋅ Pair

abbrev pub Extreme : Rule
Extreme = operator extreme_signs ⋅ Pair

abbrev pub Literal : Rule
Literal = sign (codes "[") ⋅ opt (listed (ref expression)) ⋅ sign (codes "]")

abbrev pub WithLoop : Rule
WithLoop =
    sign (codes "with") ⋅ sign (codes "{") ⋅ many (ref generator) ⋅ sign (codes "}") ⋅ sign (codes ":")
    ⋅ ref operation

abbrev pub Genarray : Rule
Genarray = sign (codes "genarray") ⋅ parens (ref expression ⋅ opt (sign (codes ",") ⋅ ref expression))

abbrev pub Modarray : Rule
Modarray = sign (codes "modarray") ⋅ parens (ref expression)

abbrev pub Fold : Rule
Fold = sign (codes "fold") ⋅ parens (operator fold_signs ⋅ sign (codes ",") ⋅ ref expression)

-- `<=` or `<`
abbrev pub Relation : Rule
Relation = sign (codes "<=") ∣ sign (codes "<")

-- ---- the rules

abbrev pub rule : Nonterminal → Rule
rule program = many (ref function) ⋅ term end
rule function =
    opt (sign (codes "inline")) ⋅ listed (ref type') ⋅ term name ⋅ parens (opt (listed (ref param))) ⋅ sign (codes "{")
    ⋅ many (ref statement)
    ⋅ sign (codes "return") ⋅ parens (listed (ref expression)) ⋅ sign (codes ";") ⋅ sign (codes "}")
rule param = ref type' ⋅ term name
rule type' = (sign (codes "int") ∣ sign (codes "bool")) ⋅ opt (sign (codes "[") ⋅ opt Extents ⋅ sign (codes "]"))
rule statement = ref assign ⋅ sign (codes ";") ∣ ref if_statement ∣ While ∣ Do ∣ For
rule if_statement =
    sign (codes "if") ⋅ parens (ref expression) ⋅ ref block ⋅ opt (sign (codes "else") ⋅ ref else_branch)
rule else_branch = ref block ∣ ref if_statement
rule block = sign (codes "{") ⋅ many (ref statement) ⋅ sign (codes "}")
rule assign = term name ⋅ Assigned
rule expression = ref disjunction ⋅ opt (sign (codes "?") ⋅ ref expression ⋅ sign (codes ":") ⋅ ref expression)
rule disjunction = ref conjunction ⋅ many (operator disjunction_signs ⋅ ref conjunction)
rule conjunction = ref equality ⋅ many (operator conjunction_signs ⋅ ref equality)
rule equality = ref comparison ⋅ many (operator equality_signs ⋅ ref comparison)
rule comparison = ref sum ⋅ many (operator comparison_signs ⋅ ref sum)
rule sum = ref product ⋅ many (operator sum_signs ⋅ ref product)
rule product = ref prefix ⋅ many (operator product_signs ⋅ ref prefix)
rule prefix = operator prefix_signs ⋅ ref prefix ∣ ref postfix
rule postfix = ref primary ⋅ many (sign (codes "[") ⋅ listed (ref expression) ⋅ sign (codes "]"))
rule primary =
    term number
    ∣ sign (codes "true")
    ∣ sign (codes "false")
    ∣ NameOrCall
    ∣ DimOrShape
    ∣ Reshape
    ∣ Extreme
    ∣ parens (ref expression)
    ∣ Literal
    ∣ WithLoop
rule generator =
    parens (ref bound ⋅ Relation ⋅ ref index ⋅ Relation ⋅ ref bound
    ⋅ opt (sign (codes "step") ⋅ ref sum) ⋅ opt (sign (codes "width") ⋅ ref sum))
    ⋅ opt (ref block) ⋅ sign (codes ":") ⋅ ref expression ⋅ sign (codes ";")
rule bound = sign (codes ".") ∣ ref sum
rule index = term name ∣ sign (codes "[") ⋅ listed (term name) ⋅ sign (codes "]")
rule operation = Genarray ∣ Modarray ∣ Fold

-- ---- the tree of each phrase

abbrev pub V : Rule → Type 0
V = Value Tree

abbrev pub is_there : {A B : Type 0} → A ⊎ B → Bool
is_there (inl a) = true
is_there (inr b) = false

-- the parts of a list with commas
abbrev pub items : {A : Type 0} → A × List (Lexeme × A) → List A
items v = v.0 ∷ map (λ p. p.1) v.1

abbrev pub maybe_items : {A : Type 0} → (A × List (Lexeme × A)) ⊎ Unit {0} → List A
maybe_items (inl v) = items v
maybe_items (inr u) = []

abbrev pub parts : (n : ℕ) (a : Rule) → V (up_to n a) → List (V a)
parts zero a v = v ∷ []
parts (suc n) a (v, inl w) = v ∷ parts n a w.1
parts (suc n) a (v, inr u) = v ∷ []

-- the operator and its site
abbrev pub chosen : (o : List ℕ × Op) (ps : List (List ℕ × Op)) → V (one_of o ps) → Op × Site
chosen o [] t = (o.1, t.site)
chosen o (p ∷ ps) (inl t) = (o.1, t.site)
chosen o (p ∷ ps) (inr v) = chosen p ps v

abbrev pub the_operator : (signs : Signs) → V (operator signs) → Op × Site
the_operator signs = chosen signs.0 signs.1

-- operators of one level group to the left
abbrev pub chain : (o : List ℕ × Op) (ps : List (List ℕ × Op)) → Expr → List (V (one_of o ps) × Expr) → Expr
chain o ps e [] = e
chain o ps e ((v, x) ∷ rest) = chain o ps (tree.binary (chosen o ps v).0 e x (chosen o ps v).1) rest

abbrev pub operations : (signs : Signs) → Expr → List (V (operator signs) × Expr) → Expr
operations signs = chain signs.0 signs.1

-- an index list of two or more is the literal of them
abbrev pub index_of : Site → List Expr → Expr
index_of s (e ∷ []) = e
index_of s es = tree.literal (exprs_of es) s

abbrev pub selects : Expr → List (Lexeme × ((Expr × List (Lexeme × Expr)) × Lexeme)) → Expr
selects e [] = e
selects e ((t, (v, u)) ∷ rest) = selects (tree.select e (index_of t.site (items v)) t.site) rest

abbrev pub maybe : {A : Type 0} → (A × Expr) ⊎ Unit {0} → MaybeExpr
maybe (inl v) = tree.given v.1
maybe (inr u) = tree.left_out

abbrev pub block_or_none : {A : Type 0} → (A × List Stmt) ⊎ Unit {0} → List Stmt
block_or_none (inl v) = v.1
block_or_none (inr u) = []

abbrev pub body_or_none : List Stmt ⊎ Unit {0} → List Stmt
body_or_none (inl b) = b
body_or_none (inr u) = []

abbrev pub concat : List (List Stmt) → List Stmt
concat [] = []
concat (s ∷ ss) = s ++ concat ss

abbrev pub target : Lexeme → Target
target t = record { name = t.text; site = t.site }

abbrev pub to_variable : Lexeme → Expr
to_variable t = tree.variable t.text t.site

abbrev pub base_of : Lexeme ⊎ Lexeme → Base
base_of (inl t) = base.Int
base_of (inr t) = base.Bool

pattern abbrev pub as_plus : Lexeme → V Extents
as_plus t = inl t

pattern abbrev pub as_star : Lexeme → V Extents
as_star t = inr (inl t)

pattern abbrev pub as_dots : V Dots → V Extents
as_dots v = inr (inr (inl v))

pattern abbrev pub as_numbers : V Numbers → V Extents
as_numbers v = inr (inr (inr v))

abbrev pub part_of : V Extents → Part
part_of (as_plus t) = Plus
part_of (as_star t) = Star
part_of (as_dots v) = Rank (length (parts 7 (sign (codes ".")) v))
part_of (as_numbers v) = Known (map (λ (t : Lexeme). digits_value 10 t.text) (parts 7 (term number) v))

abbrev pub brackets_part : (Lexeme × ((V Extents ⊎ Unit {0}) × Lexeme)) ⊎ Unit {0} → Part
brackets_part (inl (l, (inl v, r))) = part_of v
brackets_part (inl (l, (inr u, r))) = Known []
brackets_part (inr u) = Known []

abbrev pub name_or_call : Lexeme → V (opt (parens (opt (listed (ref expression))))) → Expr
name_or_call t (inl (l, (es, r))) = tree.call t.text (exprs_of (maybe_items es)) t.site
name_or_call t (inr u) = to_variable t

-- ---- the alternatives of a rule's value

pattern abbrev pub as_assign : V (ref assign ⋅ sign (codes ";")) → V (rule statement)
as_assign v = inl v

pattern abbrev pub as_if : Stmt → V (rule statement)
as_if v = inr (inl v)

pattern abbrev pub as_while : V While → V (rule statement)
as_while v = inr (inr (inl v))

pattern abbrev pub as_do : V Do → V (rule statement)
as_do v = inr (inr (inr (inl v)))

pattern abbrev pub as_for : V For → V (rule statement)
as_for v = inr (inr (inr (inr v)))

pattern abbrev pub as_targets : V Targets → V Assigned
as_targets v = inl v

pattern abbrev pub as_replacement : V Replacement → V Assigned
as_replacement v = inr (inl v)

pattern abbrev pub as_update : V Update → V Assigned
as_update v = inr (inr (inl v))

pattern abbrev pub as_count : V (operator count_signs) → V Assigned
as_count v = inr (inr (inr v))

pattern abbrev pub as_number : Lexeme → V (rule primary)
as_number v = inl v

pattern abbrev pub as_true : Lexeme → V (rule primary)
as_true v = inr (inl v)

pattern abbrev pub as_false : Lexeme → V (rule primary)
as_false v = inr (inr (inl v))

pattern abbrev pub as_name : V NameOrCall → V (rule primary)
as_name v = inr (inr (inr (inl v)))

pattern abbrev pub as_builtin : V DimOrShape → V (rule primary)
as_builtin v = inr (inr (inr (inr (inl v))))

pattern abbrev pub as_reshape : V Reshape → V (rule primary)
as_reshape v = inr (inr (inr (inr (inr (inl v)))))

pattern abbrev pub as_extreme : V Extreme → V (rule primary)
as_extreme v = inr (inr (inr (inr (inr (inr (inl v))))))

pattern abbrev pub as_parens : V (parens (ref expression)) → V (rule primary)
as_parens v = inr (inr (inr (inr (inr (inr (inr (inl v)))))))

pattern abbrev pub as_literal : V Literal → V (rule primary)
as_literal v = inr (inr (inr (inr (inr (inr (inr (inr (inl v))))))))

pattern abbrev pub as_with_loop : V WithLoop → V (rule primary)
as_with_loop v = inr (inr (inr (inr (inr (inr (inr (inr (inr v))))))))

pattern abbrev pub as_genarray : V Genarray → V (rule operation)
as_genarray v = inl v

pattern abbrev pub as_modarray : V Modarray → V (rule operation)
as_modarray v = inr (inl v)

pattern abbrev pub as_fold : V Fold → V (rule operation)
as_fold v = inr (inr v)

-- ---- the tree of each rule's value

abbrev pub action : (k : Nonterminal) → V (rule k) → Tree k
action program (fs, e) = record { functions = fs; end = e.site }
action function (i, (ts, (n, ((_, (ps, _)), (_, (b, (r, ((_, (vs, _)), _)))))))) =
    record {
      inline = is_there i;
      results = items ts;
      name = n.text;
      site = n.site;
      params = maybe_items ps;
      body = block_of (concat b);
      values = exprs_of (items vs);
      ends = r.site;
    }
action param (t, n) = record { ty = t; name = n.text; site = n.site }
action type' (b, e) = record { base = base_of b; part = brackets_part e }
action statement (as_assign (a, _)) = a ∷ []
action statement (as_if s) = s ∷ []
action statement (as_while (w, ((_, (c, _)), b))) = tree.while_do c (block_of b) w.site ∷ []
action statement (as_do (d, (b, (w, ((_, (c, _)), _))))) = tree.do_while (block_of b) c d.site w.site ∷ []
action statement (as_for (f, ((_, ((a, (_, (c, (_, s)))), _)), b))) =
    a ∷ tree.while_do c (block_of (b ++ (s ∷ []))) f.site ∷ []
action if_statement (i, ((_, (c, _)), (b, e))) = tree.if_else c (block_of b) (block_of (block_or_none e)) i.site
action else_branch (inl b) = b
action else_branch (inr s) = s ∷ []
action block (_, (ss, _)) = concat ss
action assign (n, as_targets (ns, (_, e))) = tree.assign (target n ∷ map (λ p. target p.1) ns) e
action assign (n, as_replacement (l, (v, (_, (_, e))))) =
    tree.replace (target n) l.site (index_of l.site (items v)) e
action assign (n, as_update (o, e)) =
    let c = the_operator update_signs o in
    tree.assign (target n ∷ []) (tree.binary c.0 (to_variable n) e c.1)
action assign (n, as_count o) =
    let c = the_operator count_signs o in
    tree.assign (target n ∷ []) (tree.binary c.0 (to_variable n) (tree.number (pos 1) c.1) c.1)
action expression (c, inl (q, (a, (_, b)))) = tree.choice c a b q.site
action expression (c, inr u) = c
action disjunction (e, rest) = operations disjunction_signs e rest
action conjunction (e, rest) = operations conjunction_signs e rest
action equality (e, rest) = operations equality_signs e rest
action comparison (e, rest) = operations comparison_signs e rest
action sum (e, rest) = operations sum_signs e rest
action product (e, rest) = operations product_signs e rest
action prefix (inr e) = e
action prefix (inl (o, e)) = let c = the_operator prefix_signs o in tree.unary c.0 e c.1
action postfix (e, rest) = selects e rest
action primary (as_number t) = tree.number (pos (digits_value 10 t.text)) t.site
action primary (as_true t) = tree.truth true t.site
action primary (as_false t) = tree.truth false t.site
action primary (as_name (t, v)) = name_or_call t v
action primary (as_builtin (inl t, (_, (e, _)))) = tree.builtin built.Dim (exprs_of (e ∷ [])) t.site
action primary (as_builtin (inr t, (_, (e, _)))) = tree.builtin built.Shape (exprs_of (e ∷ [])) t.site
action primary (as_reshape (t, (_, ((a, (_, b)), _)))) = tree.builtin built.Reshape (exprs_of (a ∷ b ∷ [])) t.site
action primary (as_extreme (o, (_, ((a, (_, b)), _)))) =
    let c = the_operator extreme_signs o in tree.binary c.0 a b c.1
action primary (as_parens (_, (e, _))) = e
action primary (as_literal (l, (es, _))) = tree.literal (exprs_of (maybe_items es)) l.site
action primary (as_with_loop (w, (_, (gs, (_, (_, o)))))) = tree.with_loop (gens_of gs) o w.site
action generator ((l, ((low, (lc, (i, (uc, (up, (s, w)))))), _)), (b, (_, (e, _)))) =
    tree.gen low (is_there lc) i up (is_there uc) (maybe s) (maybe w) (block_of (body_or_none b)) e l.site
action bound (inl t) = tree.dot t.site
action bound (inr e) = tree.at e
action index (inl t) = tree.named (target t)
action index (inr (_, (v, _))) = tree.parts (map target (items v))
action operation (as_genarray (t, (_, ((e, d), _)))) = tree.genarray e (maybe d) t.site
action operation (as_modarray (t, (_, (e, _)))) = tree.modarray e t.site
action operation (as_fold (t, (_, ((o, (_, e)), _)))) = tree.fold (the_operator fold_signs o).0 e t.site

-- the tokens are a phrase of the nonterminal with this tree
abbrev pub IsPhrase : (k : Nonterminal) → List Lexeme → Tree k → Type 0
IsPhrase = Derives Tree rule action

abbrev pub IsProgram : List Lexeme → ProgramTree → Type 0
IsProgram tokens p = IsPhrase program tokens p
