-- What the walk over a function finds: the same as the rules of acceptance, with the earliest violation in the place of all.
use Rattle.std.specs.Prelude.{ℕ, List, [], ◌∷◌, ◌++◌, Bool, false, not, ◌&&◌, ◌||◌, if◌then◌else◌, Option, Some, None, length, is_some, drop, ◌==◌}
use Rattle.sac_base.specs.declared.base.Base.{Base}
use Rattle.sac_base.specs.declared.base.Base.TheVariants.{Int, Bool as Truth}
use Rattle.sac_base.specs.declared.name.Name.{Name}
use Rattle.sac_base.specs.declared.site.Site.{Site}
use Rattle.sac_base.specs.Operators.{result_base}
use Rattle.sac_ast.specs.declared.Builtin.{Builtin}
use Rattle.sac_ast.specs.declared.Builtin.TheVariants.{Reshape}
use Rattle.check_rules.specs.declared.code.CheckCode.TheVariants.{C1, C2, C3, C4, C5, C8, C9, C10}
use Rattle.sac_ast.specs.declared.Param.{Param}
use Rattle.sac_ast.specs.declared.Target.{Target}
use Rattle.sac_ast.specs.declared.Generator.{Generator}
use Rattle.sac_ast.specs.View
use Rattle.sac_ast.specs.Tree.{Expr, Exprs, no_exprs, expr_and, MaybeExpr, left_out, given, Stmt, Block, no_stmts, stmt_and, BoundTree, dot, at, Gen}
use Rattle.sac_ast.specs.Tree.{gen, Gens, no_gens, gen_and, OperationTree, FunctionTree, number, truth, variable, literal, unary, binary, choice}
use Rattle.sac_ast.specs.Tree.{select, call, builtin, with_loop, assign, replace, if_else, while_do, do_while, genarray, modarray, fold}
use Rattle.sac_ast.specs.Bases.{are_int, where_holds, may_be, may_match, operand_base, operands_fit, agree, common_base, literal_base, builtin_base}
use Rattle.sac_ast.specs.Bases.{first_base, all_known, known_bases, call_bases_in, first_named}
use Rattle.check_rules.specs.Accepted.{Names, with_names, index_targets, index_names, bound_after, bound_behind, Known, bind, base_of, no_names}
use Rattle.check_rules.specs.Accepted.{numbers_fit, some_takes, Place, stands_earlier, is_fold, later_bases, none_known, known_params, param_names}
use Rattle.check_rules.specs.Accepted.{names_in, values_fit}
use Rattle.check_rules.specs.declared.violation.Violation.{Violation}
use Rattle.check_rules.specs.declared.judged.Cell.{Cell}
use Rattle.check_rules.specs.First.{earlier, unless, is_clean}

-- a phrase that stands for a value: the earliest violation in it, its base, and what is known behind it
pub record Judgement : Type 0 where
  pub first : Option Violation
  pub base : Option Base
  pub known : Known

abbrev pub judged : Option Violation → Option Violation → Option Base → Known → Judgement
judged own inside b known = record { first = earlier own inside; base = where_holds (is_clean (earlier own inside)) b; known = known }

-- the same of several phrases
pub record Judgements : Type 0 where
  pub first : Option Violation
  pub bases : List (Option Base)
  pub known : Known

-- the same of phrases without a value
pub record Walked : Type 0 where
  pub first : Option Violation
  pub known : Known

pub record CellJudgements : Type 0 where
  pub first : Option Violation
  pub cells : List Cell
  pub known : Known

-- a name stands twice, where it stands before
abbrev pub unless_new : Bool → Site → Option Violation
unless_new before site = unless (not before) C9 site

-- the base at a place, where it is there
abbrev pub base_behind : ℕ → List (Option Base) → Option Base
base_behind k bs = first_base (drop k bs)

-- a name stands twice in a list
abbrev pub repeated_targets : Names → List Target → Option Violation
repeated_targets before [] = None
repeated_targets before (t ∷ ts) = earlier (unless_new (before t.name) t.site) (repeated_targets (with_names (t.name ∷ []) before) ts)

abbrev pub repeated_params : Names → List Param → Option Violation
repeated_params before [] = None
repeated_params before (p ∷ ps) = earlier (unless_new (before p.name) p.site) (repeated_params (with_names (p.name ∷ []) before) ps)

-- the rules of one call that has to give so many results
abbrev pub call_rules : Place → Name → List (Option Base) → ℕ → Site → Option Violation
call_rules p name args results site =
    earlier (earlier (earlier (unless (is_some (first_named p.functions name)) C2 site)
    (unless (numbers_fit (first_named p.functions name) (length args) results) C3 site))
    (unless (not (is_some (first_named p.functions name)) || some_takes p.functions name (all_known args)) C4 site))
    (unless (stands_earlier p name) C8 site)

-- the base of the first generator's cell, and int without a generator
abbrev pub first_cell : List Cell → Option Base
first_cell [] = Some Int
first_cell (c ∷ cs) = c.base

-- bounds, steps and widths are int, and cells have the base of the default, the array or the neutral value
abbrev pub cell_rule : Option Base → Cell → Option Violation
cell_rule wanted c = unless (c.fits && may_match wanted c.base) C4 c.site

abbrev pub cell_rules : Option Base → List Cell → Option Violation
cell_rules wanted [] = None
cell_rules wanted (c ∷ cs) = earlier (cell_rule wanted c) (cell_rules wanted cs)

abbrev pub builtin_rules : Builtin → List (Option Base) → Site → Option Violation
builtin_rules Reshape bs site = unless (may_be Int (first_base bs)) C4 site
builtin_rules _ bs site = None

-- a right side of several targets is a call
abbrev pub several_targets : List Target → Option Violation
several_targets (first ∷ second ∷ rest) = unless false C3 first.site
several_targets _ = None

-- Targets are bound to values of these bases, those beyond them to values without a base. A target has the base that its name has in the function.
abbrev pub in_targets : List Target → List (Option Base) → Known → Walked
in_targets [] bs known = record { first = None; known = known }
in_targets (target ∷ targets) bs known =
    let here = bind target.name (first_base bs) known in
    let rest = in_targets targets (later_bases bs) here in
    record { first = earlier (unless (may_match (base_of here target.name) (first_base bs)) C4 target.site) rest.first; known = rest.known }

-- index names are int
abbrev pub in_index_names : List Target → Known → Walked
in_index_names [] known = record { first = None; known = known }
in_index_names (target ∷ targets) known =
    let here = bind target.name (Some Int) known in
    let rest = in_index_names targets here in
    record { first = earlier (unless (may_be Int (base_of here target.name)) C4 target.site) rest.first; known = rest.known }

-- a call that has to give so many results, by what is found in its arguments
abbrev pub call_first : Place → Name → Option Violation → List (Option Base) → ℕ → Site → Option Violation
call_first p name inside bs results site = earlier (call_rules p name bs results site) inside

abbrev pub call_bases : Place → Name → Option Violation → List (Option Base) → ℕ → Site → List (Option Base)
call_bases p name inside bs results site = if is_clean (call_first p name inside bs results site) then known_bases (call_bases_in p.functions name bs) else []

abbrev pub in_call : Place → Name → ℕ → Site → Judgements → Judgements
in_call p name results site args = record {
  first = call_first p name args.first args.bases results site;
  bases = call_bases p name args.first args.bases results site;
  known = args.known;
}

-- ---- the rules inside a function, in the order of its tree: `bound` are the names that are bound on every path, and `known` is what names are bound to so far

module _ (p : Place) where
  -- a used variable is bound in the function, and on every path
  abbrev pub use_rules : Name → Site → Names → Option Violation
  use_rules name site bound =
      earlier (unless (p.listed name) C1 site) (unless (not (p.listed name) || bound name) C5 site)

  abbrev mutual
    -- an expression that stands as one value
    pub in_value : Expr → Names → Known → Judgement
    in_value (number n site) bound known = judged None None (Some Int) known
    in_value (truth b site) bound known = judged None None (Some Truth) known
    in_value (variable name site) bound known = judged (use_rules name site bound) None (base_of known name) known
    in_value (literal es site) bound known =
        let elements = in_values es bound known in
        judged (unless (agree elements.bases) C4 site) elements.first (literal_base elements.bases) elements.known
    in_value (unary op e site) bound known =
        let operand = in_value e bound known in
        judged (unless (may_be (operand_base op) operand.base) C4 site) operand.first (Some (result_base op)) operand.known
    in_value (binary op e f site) bound known =
        let left = in_value e bound known in
        let right = in_value f bound left.known in
        judged (unless (operands_fit op left.base right.base) C4 site) (earlier left.first right.first) (Some (result_base op)) right.known
    in_value (choice c e f site) bound known =
        let test = in_value c bound known in
        let first = in_value e bound test.known in
        let second = in_value f bound first.known in
        judged (unless (may_be Truth test.base && may_match first.base second.base) C4 site) (earlier (earlier test.first first.first) second.first)
        (common_base (first.base ∷ second.base ∷ [])) second.known
    in_value (select e i site) bound known =
        let array = in_value e bound known in
        let index = in_value i bound array.known in
        judged (unless (may_be Int index.base) C4 site) (earlier array.first index.first) array.base index.known
    in_value (call name es site) bound known =
        let called = in_call p name 1 site (in_values es bound known) in
        record { first = called.first; base = first_base called.bases; known = called.known }
    in_value (builtin b es site) bound known =
        let args = in_values es bound known in
        judged (builtin_rules b args.bases site) args.first (builtin_base b args.bases) args.known
    in_value (with_loop gs op site) bound known =
        let generators = in_generators gs (is_fold op) bound known in
        let cells = in_operation op (first_cell generators.cells) bound generators.known in
        judged (cell_rules cells.base generators.cells) (earlier generators.first cells.first) cells.base cells.known

    pub in_values : Exprs → Names → Known → Judgements
    in_values no_exprs bound known = record { first = None; bases = []; known = known }
    in_values (expr_and e es) bound known =
        let first = in_value e bound known in
        let rest = in_values es bound first.known in
        record { first = earlier first.first rest.first; bases = first.base ∷ rest.bases; known = rest.known }

    -- a value that may be left out, and then has another base
    pub in_maybe : MaybeExpr → Option Base → Names → Known → Judgement
    in_maybe left_out other bound known = judged None None other known
    in_maybe (given e) other bound known = in_value e bound known

    -- a dot is no bound of a fold
    pub in_bound : BoundTree → Bool → Names → Known → Judgement
    in_bound (dot site) folds bound known = judged (unless (not folds) C10 site) None (Some Int) known
    in_bound (at e) folds bound known = in_value e bound known

    -- Bounds, steps and widths see what is bound before the with-loop; the block and the cell see the index names as well.
    pub in_generator : Gen → Bool → Names → Known → CellJudgements
    in_generator (gen lower lower_closed index upper upper_closed step width body cell site) folds bound known =
        let inside = with_names (index_names index) bound in
        let least = in_bound lower folds bound known in
        let indices = in_index_names (index_targets index) least.known in
        let most = in_bound upper folds bound indices.known in
        let steps = in_maybe step (Some Int) bound most.known in
        let widths = in_maybe width (Some Int) bound steps.known in
        let block = in_block body inside widths.known in
        let value = in_value cell (bound_behind body inside) block.known in
        let fits = are_int least.base most.base steps.base widths.base in
        record {
          first = earlier (earlier (earlier
              (earlier (earlier least.first (earlier (repeated_targets no_names
              (index_targets index)) indices.first)) most.first) steps.first) widths.first) (earlier block.first value.first);
          cells = record { fits = fits; base = value.base; site = site } ∷ [];
          known = value.known;
        }

    pub in_generators : Gens → Bool → Names → Known → CellJudgements
    in_generators no_gens folds bound known = record { first = None; cells = []; known = known }
    in_generators (gen_and g gs) folds bound known =
        let first = in_generator g folds bound known in
        let rest = in_generators gs folds bound first.known in
        record { first = earlier first.first rest.first; cells = first.cells ++ rest.cells; known = rest.known }

    -- the base is that which the cells need: of the default, the array or the neutral value; a missing default has the given one
    pub in_operation : OperationTree → Option Base → Names → Known → Judgement
    in_operation (genarray shape default site) cell bound known =
        let extents = in_value shape bound known in
        let value = in_maybe default cell bound extents.known in
        record { first = earlier (earlier (unless (may_be Int extents.base) C4 site) extents.first) value.first; base = value.base; known = value.known }
    in_operation (modarray array site) cell bound known = in_value array bound known
    in_operation (fold op neutral site) cell bound known =
        let value = in_value neutral bound known in
        record { first = earlier (unless (operands_fit op value.base value.base) C4 site) value.first; base = value.base; known = value.known }

    pub in_statement : Stmt → Names → Known → Walked
    in_statement (assign targets (call name es site)) bound known =
        let called = in_call p name (length targets) site (in_values es bound known) in
        let rest = in_targets targets called.bases called.known in
        record { first = earlier (earlier called.first (repeated_targets no_names targets)) rest.first; known = rest.known }
    in_statement (assign targets e) bound known =
        let value = in_value e bound known in
        let rest = in_targets targets (value.base ∷ []) value.known in
        record { first = earlier (earlier (earlier (several_targets targets) value.first) (repeated_targets no_names targets)) rest.first; known = rest.known }
    -- a replacement uses the variable that it binds, and tells it no base
    in_statement (replace target bracket index e) bound known =
        let place = in_value index bound known in
        let value = in_value e bound place.known in
        let here = bind target.name None value.known in
        record {
          first = earlier (earlier (earlier (earlier (use_rules target.name target.site bound) (unless (may_be Int place.base) C4 bracket))
              (unless (may_match (base_of here target.name) value.base) C4 target.site)) place.first) value.first;
          known = here;
        }
    in_statement (if_else c first second site) bound known =
        let test = in_value c bound known in
        let one = in_block first bound test.known in
        let other = in_block second bound one.known in
        record { first = earlier (earlier (unless (may_be Truth test.base) C4 site) test.first) (earlier one.first other.first); known = other.known }
    in_statement (while_do c body site) bound known =
        let test = in_value c bound known in
        let turn = in_block body bound test.known in
        record { first = earlier (earlier (unless (may_be Truth test.base) C4 site) test.first) turn.first; known = turn.known }
    in_statement (do_while body c site test) bound known =
        let turn = in_block body bound known in
        let again = in_value c (bound_behind body bound) turn.known in
        record { first = earlier (earlier turn.first (unless (may_be Truth again.base) C4 test)) again.first; known = again.known }

    pub in_block : Block → Names → Known → Walked
    in_block no_stmts bound known = record { first = None; known = known }
    in_block (stmt_and s rest) bound known =
        let first = in_statement s bound known in
        let later = in_block rest (bound_after s bound) first.known in
        record { first = earlier first.first later.first; known = later.known }

-- ---- parts of generators and conditionals

-- a generator's bounds, index, step and width: whether they are int, beside what is found
pub record Limits : Type 0 where
  pub first : Option Violation
  pub fits : Bool
  pub known : Known

abbrev pub in_limits : Place → Generator → Bool → Names → Known → Limits
in_limits p g folds bound known =
    let targets = index_targets (View.index_view g.index) in
    let least = in_bound p (View.bound g.lower) folds bound known in
    let indices = in_index_names targets least.known in
    let most = in_bound p (View.bound g.upper) folds bound indices.known in
    let steps = in_maybe p (View.maybe g.step) (Some Int) bound most.known in
    let widths = in_maybe p (View.maybe g.width) (Some Int) bound steps.known in
    record {
      first = earlier (earlier (earlier (earlier least.first (earlier (repeated_targets no_names targets) indices.first)) most.first) steps.first) widths.first;
      fits = are_int least.base most.base steps.base widths.base;
      known = widths.known;
    }

-- a generator's block and cell
abbrev pub in_inside : Place → Generator → Names → Known → Judgement
in_inside p g bound known =
    let inside = with_names (index_names (View.index_view g.index)) bound in
    let body = View.block g.body.items in
    let block = in_block p body inside known in
    let value = in_value p (View.expr g.cell) (bound_behind body inside) block.known in
    record { first = earlier block.first value.first; base = value.base; known = value.known }

-- the two blocks of a conditional
abbrev pub in_branches : Place → Block → Block → Names → Known → Walked
in_branches p first second bound known =
    let one = in_block p first bound known in
    let other = in_block p second bound one.known in
    record { first = earlier one.first other.first; known = other.known }

abbrev pub bound_by_both : Block → Block → Names → Names
bound_by_both first second bound name = bound_behind first bound name && bound_behind second bound name

-- ---- phrases by what is found in their parts

abbrev pub choice_first : Option Violation → Option Base → Option Violation → Option Base → Option Violation → Option Base → Site → Option Violation
choice_first test b first b1 second b2 site = earlier (unless (may_be Truth b && may_match b1 b2) C4 site) (earlier (earlier test first) second)

abbrev pub choice_found : Option Violation → Option Base → Option Violation → Option Base → Option Violation → Option Base → Site → Option Base
choice_found test b first b1 second b2 site = where_holds (is_clean (choice_first test b first b1 second b2 site)) (common_base (b1 ∷ b2 ∷ []))

abbrev pub condition_first : Option Violation → Option Base → Site → Option Violation
condition_first test b site = earlier (unless (may_be Truth b) C4 site) test

abbrev pub replaced_first : Option Violation → Option Violation → Option Base → Site → Option Violation → Option Base → Option Base → Site → Option Violation
replaced_first own index b1 bracket value b2 known site =
    earlier (earlier (earlier (earlier own (unless (may_be Int b1) C4 bracket)) (unless (may_match known b2) C4 site)) index) value

-- ---- functions

abbrev pub in_function : List FunctionTree → List FunctionTree → FunctionTree → Option Violation
in_function fs before f =
    let place : Place = record { functions = fs; before = before; inline = f.inline; listed = names_in f } in
    let start = with_names (param_names f.params) no_names in
    let body = in_block place f.body start (known_params f.params none_known) in
    let values = in_values place f.values (bound_behind f.body start) body.known in
    earlier (earlier (earlier (earlier (repeated_params no_names f.params) body.first) values.first)
    (unless (length values.bases == length f.results) C3 f.ends))
    (unless (values_fit values.bases f.results) C4 f.ends)
