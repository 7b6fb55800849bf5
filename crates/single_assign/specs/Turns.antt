-- What conditionals and loops give, from what their parts come to.
use Rattle.std.specs.Prelude.{List, [], ◌++◌}
use Rattle.sac_base.specs.declared.base.Base.{Base}
use Rattle.sac_base.specs.declared.name.Name.{Name}
use Rattle.sac_base.specs.declared.site.Site.{Site}
use Rattle.sac_ast.specs.Tree.{Block}
use Rattle.core_ir.specs.declared.tree.Var.{Var}
use Rattle.core_ir.specs.Terms.{RightTerm}
use Rattle.core_lowering.specs.Lowering.{names_bound, once}
use Rattle.core_lowering.specs.steps.Looks.{Look, vars_of}
use Rattle.core_lowering.specs.steps.Building.{Built, MadeGiven, MadeScope, block_giving, bound_in, bound_in_both, declared}
use Rattle.core_scopes.specs.Looks.{texts}
use Rattle.single_assign.specs.declared.context.Context.{Context}
use Rattle.single_assign.specs.declared.lower.Carried.{Carried}
use Rattle.single_assign.specs.Views.{make_starts_in}

-- what two branches give behind the bindings of a condition
abbrev pub joined_from : Built → Var → Block → Block → MadeScope → MadeScope → MadeGiven
joined_from s cond first second b d =
    let both = bound_in_both b.scope d.scope (once [] (names_bound first ++ names_bound second)) in
    let p = block_giving both s b in
    let q = block_giving both p.state d in
    record { state = q.state; names = both; right = RightTerm.If cond p.block q.block }

-- the names that a loop carries, their first values, and its parameters
pub record MadeCarried : Type 0 where
  pub state : Built
  pub names : List Name
  pub start : List Var
  pub params : List Var
  pub scope : Look

abbrev pub made_carried : Built → Carried → Look → MadeCarried
made_carried s c scope = record { state = s; names = texts c.names.items; start = c.start.items; params = c.params.items; scope = scope }

abbrev pub while_carried : Block → Look → Built → MadeCarried
while_carried body scope s =
    let all = bound_in scope (once [] (names_bound body)) in
    let p = declared all scope s in
    record { state = p.state; names = all; start = vars_of scope all; params = p.results; scope = p.scope }

abbrev pub do_carried_in : Context → Site → Block → Look → Built → MadeCarried
do_carried_in cx site body scope s =
    let all = once [] (names_bound body) in
    let i = make_starts_in cx site all scope s in
    let p = declared all scope i.state in
    record { state = p.state; names = all; start = i.results; params = p.results; scope = p.scope }
