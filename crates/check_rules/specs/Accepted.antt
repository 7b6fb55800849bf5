-- Which programs are accepted. The violations of a program are a list of rules and sites, one for each place at which a rule is violated; a program
-- is accepted where there is none, and is else refused at the first site in the text, with the least rule that is violated there.
use Rattle.std.specs.Prelude.{◌≡◌, ◌≤◌, ◌<◌, ◌⊎◌, ℕ, filter, List, [], ◌∷◌, ◌++◌, Bool, true, false, not, ◌&&◌, ◌||◌, if◌then◌else◌, Option, Some}
use Rattle.std.specs.Prelude.{None, map, flat_map, length, bytes_eq, is_some, ◌==◌, All, Contains, codes}
use Rattle.std.specs.List.{list_any, list_all}
use Rattle.sac_base.specs.declared.base.Base.{Base}
use Rattle.sac_base.specs.declared.base.Base.TheVariants.{Int, Bool as Truth}
use Rattle.sac_base.specs.declared.name.Name.{Name}
use Rattle.sac_base.specs.declared.site.Site.{Site}
use Rattle.sac_base.specs.declared.types.ArrayType.{ArrayType}
use Rattle.sac_base.specs.Types.{compatible}
use Rattle.sac_ast.specs.declared.Builtin.{Builtin}
use Rattle.sac_ast.specs.declared.Builtin.TheVariants.{Reshape}
use Rattle.check_rules.specs.declared.code.CheckCode.{CheckCode}
use Rattle.check_rules.specs.declared.code.CheckCode.TheVariants.{C1, C2, C3, C4, C5, C6, C7, C8, C9, C10}
use Rattle.sac_ast.specs.declared.Param.{Param}
use Rattle.sac_ast.specs.declared.Target.{Target}
use Rattle.sac_ast.specs.Tree.{IndexTree, named, parts, Expr, Exprs, no_exprs, expr_and, MaybeExpr, left_out, given, Stmt, Block, no_stmts, stmt_and}
use Rattle.sac_ast.specs.Tree.{BoundTree, dot, at, Gen, gen, Gens, no_gens, gen_and, OperationTree, FunctionTree, ProgramTree, number, truth}
use Rattle.sac_ast.specs.Tree.{variable, literal, unary, binary, choice, select, call, builtin, with_loop, assign, replace, if_else, while_do}
use Rattle.sac_ast.specs.Tree.{do_while, genarray, modarray, fold}
use Rattle.sac_base.specs.Operators.{result_base}
use Rattle.check_rules.specs.declared.violation.Violation.{Violation}
use Rattle.check_rules.specs.declared.judged.Cell.{Cell}
use Rattle.sac_ast.specs.Bases.{are_int, where_holds, may_be, may_match, operand_base, operands_fit, agree, common_base, literal_base, builtin_base}
use Rattle.sac_ast.specs.Bases.{first_base, all_known, known_bases, call_bases_in, takes_bases, first_named, same_bases, bases_of_params}

-- a violation, unless the rule holds
abbrev pub unless : Bool → CheckCode → Site → List Violation
unless true code site = []
unless false code site = record { code = code; site = site } ∷ []

-- a set of names
abbrev pub Names : Type 0
Names = Name → Bool

abbrev pub with_names : List Name → Names → Names
with_names names bound name = list_any (bytes_eq name) names || bound name

-- ---- names that are bound on every path

abbrev pub target_names : List Target → List Name
target_names targets = map (λ (t : Target). t.name) targets

abbrev pub index_targets : IndexTree → List Target
index_targets (named target) = target ∷ []
index_targets (parts targets) = targets

-- After a conditional a name is bound where both blocks bind it, after a `while` where it was bound before, and after a `do` where its body binds it.
abbrev mutual
  pub bound_after : Stmt → Names → Names
  bound_after (assign targets e) bound = with_names (target_names targets) bound
  bound_after (replace target bracket index e) bound = with_names (target.name ∷ []) bound
  bound_after (if_else c first second site) bound = λ name. bound_behind first bound name && bound_behind second bound name
  bound_after (while_do c body site) bound = bound
  bound_after (do_while body c site test) bound = bound_behind body bound

  pub bound_behind : Block → Names → Names
  bound_behind no_stmts bound = bound
  bound_behind (stmt_and s rest) bound = bound_behind rest (bound_after s bound)

-- ---- names that are bound anywhere

abbrev pub index_names : IndexTree → List Name
index_names index = target_names (index_targets index)

-- the names that a phrase binds, besides others, in no particular order
abbrev mutual
  pub names_in_expr : Expr → Names → Names
  names_in_expr (number n site) names = names
  names_in_expr (truth b site) names = names
  names_in_expr (variable name site) names = names
  names_in_expr (literal es site) names = names_in_exprs es names
  names_in_expr (unary op e site) names = names_in_expr e names
  names_in_expr (binary op e f site) names = names_in_expr f (names_in_expr e names)
  names_in_expr (choice c e f site) names = names_in_expr f (names_in_expr e (names_in_expr c names))
  names_in_expr (select e i site) names = names_in_expr i (names_in_expr e names)
  names_in_expr (call name es site) names = names_in_exprs es names
  names_in_expr (builtin b es site) names = names_in_exprs es names
  names_in_expr (with_loop gs op site) names = names_in_operation op (names_in_gens gs names)

  pub names_in_exprs : Exprs → Names → Names
  names_in_exprs no_exprs names = names
  names_in_exprs (expr_and e es) names = names_in_exprs es (names_in_expr e names)

  pub names_in_maybe : MaybeExpr → Names → Names
  names_in_maybe left_out names = names
  names_in_maybe (given e) names = names_in_expr e names

  pub names_in_bound : BoundTree → Names → Names
  names_in_bound (dot site) names = names
  names_in_bound (at e) names = names_in_expr e names

  pub names_in_gen : Gen → Names → Names
  names_in_gen (gen lower lower_closed index upper upper_closed step width body cell site) names =
      names_in_expr cell (names_in_maybe width (names_in_maybe step (names_in_bound upper (names_in_bound lower
      (names_in_block body (with_names (index_names index) names))))))

  pub names_in_gens : Gens → Names → Names
  names_in_gens no_gens names = names
  names_in_gens (gen_and g gs) names = names_in_gens gs (names_in_gen g names)

  pub names_in_operation : OperationTree → Names → Names
  names_in_operation (genarray shape default site) names = names_in_maybe default (names_in_expr shape names)
  names_in_operation (modarray array site) names = names_in_expr array names
  names_in_operation (fold op neutral site) names = names_in_expr neutral names

  pub names_in_stmt : Stmt → Names → Names
  names_in_stmt (assign targets e) names = with_names (target_names targets) (names_in_expr e names)
  names_in_stmt (replace target bracket index e) names = with_names (target.name ∷ []) (names_in_expr e (names_in_expr index names))
  names_in_stmt (if_else c first second site) names = names_in_block second (names_in_block first (names_in_expr c names))
  names_in_stmt (while_do c body site) names = names_in_block body (names_in_expr c names)
  names_in_stmt (do_while body c site test) names = names_in_expr c (names_in_block body names)

  pub names_in_block : Block → Names → Names
  names_in_block no_stmts names = names
  names_in_block (stmt_and s rest) names = names_in_block rest (names_in_stmt s names)

-- ---- what names are bound to

-- what each name is bound to first, where it is bound so far: a base, where the first binding tells one
abbrev pub Known : Type 0
Known = Name → Option (Option Base)

abbrev pub none_known : Known
none_known name = None

-- the first binding counts
abbrev pub bound_first : Option (Option Base) → Option Base → Option (Option Base)
bound_first None b = Some b
bound_first (Some first) b = Some first

abbrev pub bind : Name → Option Base → Known → Known
bind name b known other = if bytes_eq other name then bound_first (known other) b else known other

abbrev pub base_first : Option (Option Base) → Option Base
base_first None = None
base_first (Some b) = b

abbrev pub base_of : Known → Name → Option Base
base_of known name = base_first (known name)

-- ---- lists of names

-- a name stands twice in a list: at each place but its first
abbrev pub repeated : Names → List (Name × Site) → List Violation
repeated before [] = []
repeated before ((name, site) ∷ rest) = unless (not (before name)) C9 site ++ repeated (with_names (name ∷ []) before) rest

abbrev pub no_names : Names
no_names name = false

abbrev pub repeated_targets : List Target → List Violation
repeated_targets targets = repeated no_names (map (λ (t : Target). (t.name, t.site)) targets)

abbrev pub repeated_params : List Param → List Violation
repeated_params params = repeated no_names (map (λ (p : Param). (p.name, p.site)) params)

-- ---- calls

-- a call has the numbers of arguments and results of the first instance of its name
abbrev pub numbers_fit : Option FunctionTree → ℕ → ℕ → Bool
numbers_fit None args results = true
numbers_fit (Some g) args results = length g.params == args && length g.results == results

abbrev pub is_named : Name → FunctionTree → Bool
is_named name g = bytes_eq g.name name

abbrev pub is_inline : Option FunctionTree → Bool
is_inline None = false
is_inline (Some g) = g.inline

abbrev pub some_takes : List FunctionTree → Name → Option (List Base) → Bool
some_takes fs name None = true
some_takes fs name (Some bs) = list_any (takes_bases fs name bs) fs

abbrev pub count_named : List FunctionTree → Name → ℕ
count_named fs name = length (filter (is_named name) fs)

-- Where a phrase stands: the functions of the program, those before its own in the file, whether its own is inline, and the names that are bound
-- anywhere in it.
pub record Place : Type 0 where
  pub functions : List FunctionTree
  pub before : List FunctionTree
  pub inline : Bool
  pub listed : Names

-- an inline function calls an inline name only where each instance of it stands earlier in the file
abbrev pub stands_earlier : Place → Name → Bool
stands_earlier p name =
    not p.inline || not (is_inline (first_named p.functions name)) || (count_named p.functions name == count_named p.before name)

-- the rules of one call that has to give so many results
abbrev pub call_rules : Place → Name → List (Option Base) → ℕ → Site → List Violation
call_rules p name args results site =
    unless (is_some (first_named p.functions name)) C2 site
    ++ unless (numbers_fit (first_named p.functions name) (length args) results) C3 site
    ++ unless (not (is_some (first_named p.functions name)) || some_takes p.functions name (all_known args)) C4 site
    ++ unless (stands_earlier p name) C8 site

-- ---- findings

abbrev pub is_clean : List Violation → Bool
is_clean [] = true
is_clean (v ∷ vs) = false

-- what is found in a phrase that stands for a value: the violations in it, its base, which is missing where it has a violation, and what is known behind it
pub record Finding : Type 0 where
  pub violations : List Violation
  pub base : Option Base
  pub known : Known

-- by the violations of the phrase's own rules, those in its parts, and its base by its own rules
abbrev pub finding : List Violation → List Violation → Option Base → Known → Finding
finding own inside b known = record { violations = own ++ inside; base = where_holds (is_clean (own ++ inside)) b; known = known }

-- the same of several phrases
pub record Findings : Type 0 where
  pub violations : List Violation
  pub bases : List (Option Base)
  pub known : Known

-- the same of phrases without a value
pub record Passage : Type 0 where
  pub violations : List Violation
  pub known : Known

-- the same of generators: of each, whether its bounds, step and width are int, and the base of its cell
pub record Cells : Type 0 where
  pub violations : List Violation
  pub cells : List Cell
  pub known : Known

-- the base of the first generator's cell, and int without a generator
abbrev pub first_cell : List Cell → Option Base
first_cell [] = Some Int
first_cell (c ∷ cs) = c.base

-- bounds, steps and widths are int, and cells have the base of the default, the array or the neutral value
abbrev pub cell_rules : Option Base → List Cell → List Violation
cell_rules wanted [] = []
cell_rules wanted (c ∷ cs) = unless (c.fits && may_match wanted c.base) C4 c.site ++ cell_rules wanted cs

abbrev pub is_fold : OperationTree → Bool
is_fold (fold op neutral site) = true
is_fold _ = false

abbrev pub builtin_rules : Builtin → List (Option Base) → Site → List Violation
builtin_rules Reshape bs site = unless (may_be Int (first_base bs)) C4 site
builtin_rules _ bs site = []

-- a right side of several targets is a call
abbrev pub several_targets : List Target → List Violation
several_targets (first ∷ second ∷ rest) = unless false C3 first.site
several_targets _ = []

abbrev pub later_bases : List (Option Base) → List (Option Base)
later_bases [] = []
later_bases (b ∷ bs) = bs

-- Targets are bound to values of these bases, those beyond them to values without a base. A target has the base that its name has in the function.
abbrev pub in_targets : List Target → List (Option Base) → Known → Passage
in_targets [] bs known = record { violations = []; known = known }
in_targets (target ∷ targets) bs known =
    let here = bind target.name (first_base bs) known in
    let rest = in_targets targets (later_bases bs) here in
    record { violations = unless (may_match (base_of here target.name) (first_base bs)) C4 target.site ++ rest.violations; known = rest.known }

-- index names are int
abbrev pub in_index_names : List Target → Known → Passage
in_index_names [] known = record { violations = []; known = known }
in_index_names (target ∷ targets) known =
    let here = bind target.name (Some Int) known in
    let rest = in_index_names targets here in
    record { violations = unless (may_be Int (base_of here target.name)) C4 target.site ++ rest.violations; known = rest.known }

-- a call that has to give so many results, by its arguments, with the bases of the results
abbrev pub in_call : Place → Name → ℕ → Site → Findings → Findings
in_call p name results site args =
    let all = call_rules p name args.bases results site ++ args.violations in
    record { violations = all; bases = (if is_clean all then known_bases (call_bases_in p.functions name args.bases) else []); known = args.known }

-- ---- the rules inside a function, in the order of its tree: `bound` are the names that are bound on every path, and `known` is what names are bound to so far

module _ (p : Place) where
  -- a used variable is bound in the function, and on every path
  abbrev pub use_rules : Name → Site → Names → List Violation
  use_rules name site bound =
      unless (p.listed name) C1 site ++ unless (not (p.listed name) || bound name) C5 site

  abbrev mutual
    -- an expression that stands as one value
    pub in_value : Expr → Names → Known → Finding
    in_value (number n site) bound known = finding [] [] (Some Int) known
    in_value (truth b site) bound known = finding [] [] (Some Truth) known
    in_value (variable name site) bound known = finding (use_rules name site bound) [] (base_of known name) known
    in_value (literal es site) bound known =
        let elements = in_values es bound known in
        finding (unless (agree elements.bases) C4 site) elements.violations (literal_base elements.bases) elements.known
    in_value (unary op e site) bound known =
        let operand = in_value e bound known in
        finding (unless (may_be (operand_base op) operand.base) C4 site) operand.violations (Some (result_base op)) operand.known
    in_value (binary op e f site) bound known =
        let left = in_value e bound known in
        let right = in_value f bound left.known in
        finding (unless (operands_fit op left.base right.base) C4 site) (left.violations ++ right.violations) (Some (result_base op)) right.known
    in_value (choice c e f site) bound known =
        let test = in_value c bound known in
        let first = in_value e bound test.known in
        let second = in_value f bound first.known in
        finding (unless (may_be Truth test.base && may_match first.base second.base) C4 site) (test.violations ++ first.violations ++ second.violations)
        (common_base (first.base ∷ second.base ∷ [])) second.known
    in_value (select e i site) bound known =
        let array = in_value e bound known in
        let index = in_value i bound array.known in
        finding (unless (may_be Int index.base) C4 site) (array.violations ++ index.violations) array.base index.known
    in_value (call name es site) bound known =
        let called = in_call p name 1 site (in_values es bound known) in
        record { violations = called.violations; base = first_base called.bases; known = called.known }
    in_value (builtin b es site) bound known =
        let args = in_values es bound known in
        finding (builtin_rules b args.bases site) args.violations (builtin_base b args.bases) args.known
    in_value (with_loop gs op site) bound known =
        let generators = in_generators gs (is_fold op) bound known in
        let cells = in_operation op (first_cell generators.cells) bound generators.known in
        finding (cell_rules cells.base generators.cells) (generators.violations ++ cells.violations) cells.base cells.known

    pub in_values : Exprs → Names → Known → Findings
    in_values no_exprs bound known = record { violations = []; bases = []; known = known }
    in_values (expr_and e es) bound known =
        let first = in_value e bound known in
        let rest = in_values es bound first.known in
        record { violations = first.violations ++ rest.violations; bases = first.base ∷ rest.bases; known = rest.known }

    -- a value that may be left out, and then has another base
    pub in_maybe : MaybeExpr → Option Base → Names → Known → Finding
    in_maybe left_out other bound known = finding [] [] other known
    in_maybe (given e) other bound known = in_value e bound known

    -- a dot is no bound of a fold
    pub in_bound : BoundTree → Bool → Names → Known → Finding
    in_bound (dot site) folds bound known = finding (unless (not folds) C10 site) [] (Some Int) known
    in_bound (at e) folds bound known = in_value e bound known

    -- Bounds, steps and widths see what is bound before the with-loop; the block and the cell see the index names as well.
    pub in_generator : Gen → Bool → Names → Known → Cells
    in_generator (gen lower lower_closed index upper upper_closed step width body cell site) folds bound known =
        let inside = with_names (index_names index) bound in
        let least = in_bound lower folds bound known in
        let indices = in_index_names (index_targets index) least.known in
        let most = in_bound upper folds bound indices.known in
        let steps = in_maybe step (Some Int) bound most.known in
        let widths = in_maybe width (Some Int) bound steps.known in
        let block = in_block body inside widths.known in
        let value = in_value cell (bound_behind body inside) block.known in
        let fits = are_int least.base most.base steps.base widths.base in
        record {
          violations = least.violations ++ repeated_targets (index_targets index) ++ indices.violations ++ most.violations
              ++ steps.violations ++ widths.violations ++ block.violations ++ value.violations;
          cells = record { fits = fits; base = value.base; site = site } ∷ [];
          known = value.known;
        }

    pub in_generators : Gens → Bool → Names → Known → Cells
    in_generators no_gens folds bound known = record { violations = []; cells = []; known = known }
    in_generators (gen_and g gs) folds bound known =
        let first = in_generator g folds bound known in
        let rest = in_generators gs folds bound first.known in
        record { violations = first.violations ++ rest.violations; cells = first.cells ++ rest.cells; known = rest.known }

    -- the base is that which the cells need: of the default, the array or the neutral value; a missing default has the given one
    pub in_operation : OperationTree → Option Base → Names → Known → Finding
    in_operation (genarray shape default site) cell bound known =
        let extents = in_value shape bound known in
        let value = in_maybe default cell bound extents.known in
        record { violations = unless (may_be Int extents.base) C4 site ++ extents.violations ++ value.violations; base = value.base; known = value.known }
    in_operation (modarray array site) cell bound known = in_value array bound known
    in_operation (fold op neutral site) cell bound known =
        let value = in_value neutral bound known in
        record { violations = unless (operands_fit op value.base value.base) C4 site ++ value.violations; base = value.base; known = value.known }

    pub in_statement : Stmt → Names → Known → Passage
    in_statement (assign targets (call name es site)) bound known =
        let called = in_call p name (length targets) site (in_values es bound known) in
        let rest = in_targets targets called.bases called.known in
        record { violations = called.violations ++ repeated_targets targets ++ rest.violations; known = rest.known }
    in_statement (assign targets e) bound known =
        let value = in_value e bound known in
        let rest = in_targets targets (value.base ∷ []) value.known in
        record { violations = several_targets targets ++ value.violations ++ repeated_targets targets ++ rest.violations; known = rest.known }
    -- a replacement uses the variable that it binds, and tells it no base
    in_statement (replace target bracket index e) bound known =
        let place = in_value index bound known in
        let value = in_value e bound place.known in
        let here = bind target.name None value.known in
        record {
          violations = use_rules target.name target.site bound ++ unless (may_be Int place.base) C4 bracket
              ++ unless (may_match (base_of here target.name) value.base) C4 target.site ++ place.violations ++ value.violations;
          known = here;
        }
    in_statement (if_else c first second site) bound known =
        let test = in_value c bound known in
        let one = in_block first bound test.known in
        let other = in_block second bound one.known in
        record { violations = unless (may_be Truth test.base) C4 site ++ test.violations ++ one.violations ++ other.violations; known = other.known }
    in_statement (while_do c body site) bound known =
        let test = in_value c bound known in
        let turn = in_block body bound test.known in
        record { violations = unless (may_be Truth test.base) C4 site ++ test.violations ++ turn.violations; known = turn.known }
    in_statement (do_while body c site test) bound known =
        let turn = in_block body bound known in
        let again = in_value c (bound_behind body bound) turn.known in
        record { violations = turn.violations ++ unless (may_be Truth again.base) C4 test ++ again.violations; known = again.known }

    pub in_block : Block → Names → Known → Passage
    in_block no_stmts bound known = record { violations = []; known = known }
    in_block (stmt_and s rest) bound known =
        let first = in_statement s bound known in
        let later = in_block rest (bound_after s bound) first.known in
        record { violations = first.violations ++ later.violations; known = later.known }

-- ---- functions

abbrev pub param_names : List Param → List Name
param_names params = map (λ (p : Param). p.name) params

abbrev pub known_params : List Param → Known → Known
known_params [] known = known
known_params (param ∷ params) known = known_params params (bind param.name (Some param.ty.base) known)

-- the names that are bound anywhere in a function
abbrev pub names_in : FunctionTree → Names
names_in f = names_in_exprs f.values (names_in_block f.body (with_names (param_names f.params) no_names))

-- values have their results' bases, as far as there are both
abbrev pub values_fit : List (Option Base) → List ArrayType → Bool
values_fit (b ∷ bs) (ty ∷ types) = may_be ty.base b && values_fit bs types
values_fit _ _ = true

abbrev pub in_function : List FunctionTree → List FunctionTree → FunctionTree → List Violation
in_function fs before f =
    let place : Place = record { functions = fs; before = before; inline = f.inline; listed = names_in f } in
    let start = with_names (param_names f.params) no_names in
    let body = in_block place f.body start (known_params f.params none_known) in
    let values = in_values place f.values (bound_behind f.body start) body.known in
    repeated_params f.params ++ body.violations ++ values.violations
    ++ unless (length values.bases == length f.results) C3 f.ends
    ++ unless (values_fit values.bases f.results) C4 f.ends

-- ---- programs

abbrev pub main_name : Name
main_name = codes "main"

abbrev pub base_list : List ArrayType → List Base
base_list types = map (λ (ty : ArrayType). ty.base) types

abbrev pub param_types : FunctionTree → List ArrayType
param_types f = map (λ (p : Param). p.ty) f.params

abbrev pub same_truth : Bool → Bool → Bool
same_truth true b = b
same_truth false b = not b

-- Two instances of a name have the same numbers of parameters and results, and are both inline or neither. Either they have a parameter position whose types
-- share no array, or the types of one are each below or equal to those of the other and differ. Where the parameters have equal bases, so have the results.
abbrev pub may_stand_together : FunctionTree → FunctionTree → Bool
may_stand_together g h =
    length g.params == length h.params && length g.results == length h.results && same_truth g.inline h.inline
    && compatible (param_types g) (param_types h)
    && (not (same_bases (bases_of_params g) (bases_of_params h)) || same_bases (base_list g.results) (base_list h.results))

-- an instance clashes with an earlier one of its name
abbrev pub clash_rules : List FunctionTree → FunctionTree → List Violation
clash_rules before f =
    unless (list_all (may_stand_together f) (filter (is_named f.name) before)) C6 f.site

abbrev pub main_count : List FunctionTree → Site → List Violation
main_count [] end = unless false C7 end
main_count (only ∷ []) end = []
main_count (first ∷ second ∷ rest) end = unless false C7 second.site

-- there is one `main`, and it is not inline
abbrev pub main_rules : List FunctionTree → Site → List Violation
main_rules fs end = main_count (filter (is_named main_name) fs) end
    ++ flat_map (λ (g : FunctionTree). unless (not g.inline) C8 g.site) (filter (is_named main_name) fs)

-- the rules of each function, with those that stand before it
abbrev pub in_functions : List FunctionTree → List FunctionTree → List FunctionTree → List Violation
in_functions fs before [] = []
in_functions fs before (f ∷ rest) = clash_rules before f ++ in_function fs before f ++ in_functions fs (before ++ f ∷ []) rest

abbrev pub violations : ProgramTree → List Violation
violations p = in_functions p.functions [] p.functions ++ main_rules p.functions p.end

-- no rule is violated
abbrev pub IsAccepted : ProgramTree → Type 0
IsAccepted p = violations p ≡ []

-- ---- refusals

abbrev pub code_number : CheckCode → ℕ
code_number C1 = 1
code_number C2 = 2
code_number C3 = 3
code_number C4 = 4
code_number C5 = 5
code_number C6 = 6
code_number C7 = 7
code_number C8 = 8
code_number C9 = 9
code_number C10 = 10

-- earlier in the text, or at the same site with a code that is no greater
abbrev pub IsNoLater : Violation → Violation → Type 0
IsNoLater v w =
    (v.site.line < w.site.line)
    ⊎ (v.site.line ≡ w.site.line) × ((v.site.col < w.site.col) ⊎ (v.site.col ≡ w.site.col) × (code_number v.code ≤ code_number w.code))

-- the first site of a violation, with the least code there
abbrev pub IsFirstViolation : ProgramTree → CheckCode → Site → Type 0
IsFirstViolation p code site =
    let first : Violation = record { code = code; site = site } in
    Contains (violations p) first × All (IsNoLater first) (violations p)
