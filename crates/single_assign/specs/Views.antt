-- What the contexts of the code stand for, and what is made in them.
use Rattle.std.specs.Prelude.{ℕ, List, map, Option}
use Rattle.std.specs.Borrow.{Bor}
use Rattle.indexmap.specs.IndexSet.{IndexSet}
use Rattle.sac_base.specs.declared.base.Base.{Base}
use Rattle.sac_base.specs.declared.name.Name.{Name}
use Rattle.sac_base.specs.declared.site.Site.{Site}
use Rattle.sac_ast.specs.Tree.{Expr, Exprs, MaybeExpr, Stmt, Block, BoundTree, Gen, Gens, OperationTree}
use Rattle.sac_ast.specs.Bases
use Rattle.sac_ast.specs.View.{functions}
use Rattle.core_ir.specs.declared.tree.Var.{Var}
use Rattle.core_ir.specs.declared.tree.CoreGen.{CoreGen}
use Rattle.core_ir.specs.Terms.{BlockTerm, GenTerm, gens_of}
use Rattle.core_ir.specs.View.{let_term, gen_term, right_term}
use Rattle.source_meaning.specs.Meaning.{or_int}
use Rattle.core_lowering.specs.Programs.{place_in}
use Rattle.core_lowering.specs.steps.Looks.{Look}
use Rattle.core_lowering.specs.steps.Building.{Built, Made, MadeList, MadeOption, MadeScope, MadeNames, MadeBlock, MadeGen, MadeGens, MadeOperation}
use Rattle.core_lowering.specs.steps.Building.{MadeGiven, make, make_all, make_maybe, make_bound, make_gen, make_gens, make_operation, make_stmt}
use Rattle.core_lowering.specs.steps.Building.{make_block, make_starts}
use Rattle.core_lowering.specs.steps.Parts.{make_default, make_inside, make_cell, make_turn, make_if, make_while, make_do}
use Rattle.single_assign.specs.declared.context.Context.{Context}
use Rattle.single_assign.specs.declared.lower.Branch.{Branch}
use Rattle.single_assign.specs.declared.lower.Given.{Given}
use Rattle.single_assign.specs.declared.lower.Making.{Making}
use Rattle.core_scopes.specs.Looks.{look, texts}
use Rattle.core_scopes.specs.Built.{built}

abbrev pub made_list : Built → List Var → MadeList
made_list s xs = record { state = s; results = xs }

abbrev pub made_option : Built → Option Var → MadeOption
made_option s x = record { state = s; result = x }

abbrev pub made_scope : Built → Look → MadeScope
made_scope s scope = record { state = s; scope = scope }

abbrev pub made_branch : Branch → MadeScope
made_branch b = record { state = built b.bindings; scope = look b.scope }

abbrev pub made_block : Built → BlockTerm → MadeBlock
made_block s b = record { state = s; block = b }

abbrev pub made_gen : Built → GenTerm → MadeGen
made_gen s g = record { state = s; gen = g }

abbrev pub made_gens : Built → List CoreGen → MadeGens
made_gens s gs = record { state = s; gens = gens_of (map gen_term gs) }

abbrev pub made_operation : Built → Making → MadeOperation
made_operation s m = record { state = s; op = m.op; site = m.site }

abbrev pub made_given : Built → Given → MadeGiven
made_given s g = record { state = s; names = texts g.names.items; right = right_term g.right }

-- ---- what is made in a context

-- the place of a name in a set
abbrev pub place_by : {S : Type 0} → IndexSet (Bor (List ℕ)) S → Name → ℕ
place_by names = place_in (texts names.keys)

abbrev pub group_in : Context → Name → ℕ
group_in cx = place_by cx.names.now

abbrev pub base_of_in : Context → Expr → Option Base
base_of_in cx = Bases.base (Bases.call_bases_in (functions cx.functions.now.all.now)) cx.known.now.all.items

abbrev pub name_base_in : Context → Name → Base
name_base_in cx x = or_int (Bases.base_of_name cx.known.now.all.items x)

abbrev pub make_in : Context → Expr → Look → Built → Made
make_in cx = make (group_in cx) (base_of_in cx) (name_base_in cx)

abbrev pub make_all_in : Context → Exprs → Look → Built → MadeList
make_all_in cx = make_all (group_in cx) (base_of_in cx) (name_base_in cx)

abbrev pub make_maybe_in : Context → MaybeExpr → Look → Built → MadeOption
make_maybe_in cx = make_maybe (group_in cx) (base_of_in cx) (name_base_in cx)

abbrev pub make_bound_in : Context → BoundTree → Look → Built → MadeOption
make_bound_in cx = make_bound (group_in cx) (base_of_in cx) (name_base_in cx)

abbrev pub make_gen_in : Context → Gen → Look → Built → MadeGen
make_gen_in cx = make_gen (group_in cx) (base_of_in cx) (name_base_in cx)

abbrev pub make_gens_in : Context → Gens → Look → Built → MadeGens
make_gens_in cx = make_gens (group_in cx) (base_of_in cx) (name_base_in cx)

abbrev pub make_operation_in : Context → OperationTree → Base → Look → Built → MadeOperation
make_operation_in cx = make_operation (group_in cx) (base_of_in cx) (name_base_in cx)

abbrev pub make_stmt_in : Context → Stmt → Look → Built → MadeScope
make_stmt_in cx = make_stmt (group_in cx) (base_of_in cx) (name_base_in cx)

abbrev pub make_block_in : Context → Block → Look → Built → MadeScope
make_block_in cx = make_block (group_in cx) (base_of_in cx) (name_base_in cx)

abbrev pub make_default_in : Context → MaybeExpr → Base → Site → Look → Built → Made
make_default_in cx = make_default (group_in cx) (base_of_in cx) (name_base_in cx)

-- the block of an expression, and that of a generator
abbrev pub make_inside_in : Context → Expr → Look → Built → MadeBlock
make_inside_in cx = make_inside (group_in cx) (base_of_in cx) (name_base_in cx)

abbrev pub make_cell_in : Context → Block → Expr → Look → Built → MadeBlock
make_cell_in cx = make_cell (group_in cx) (base_of_in cx) (name_base_in cx)

-- the block of a turn of a loop
abbrev pub make_turn_in : Context → List Name → Block → Look → Built → MadeBlock
make_turn_in cx = make_turn (group_in cx) (base_of_in cx) (name_base_in cx)

abbrev pub make_starts_in : Context → Site → List Name → Look → Built → MadeList
make_starts_in cx site xs scope s = make_starts (name_base_in cx) site xs scope s

-- conditionals and loops, but for the binding itself
abbrev pub make_if_in : Context → Expr → Block → Block → Look → Built → MadeGiven
make_if_in cx = make_if (group_in cx) (base_of_in cx) (name_base_in cx)

abbrev pub make_while_in : Context → Expr → Block → Site → Look → Built → MadeGiven
make_while_in cx = make_while (group_in cx) (base_of_in cx) (name_base_in cx)

abbrev pub make_do_in : Context → Block → Expr → Site → Site → Look → Built → MadeGiven
make_do_in cx = make_do (group_in cx) (base_of_in cx) (name_base_in cx)
