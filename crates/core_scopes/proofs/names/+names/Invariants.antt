use Rattle.std.proofs.Common.{◌≡◌, ◌++◌, drop}
use Rattle.sac_ast.specs.View.{block}
use Rattle.core_lowering.specs.Lowering.{names_bound}
use Rattle.core_scopes.specs.Looks.{texts}
use Rattle.core_scopes.proofs.names.+names.Given as goal

abbrev pub invariant-add_block-loop-s : goal.invariant-add_block-loop-s
invariant-add_block-loop-s l =
    texts l.names.items ++ names_bound (block (drop l.s-index l.ss)) ≡ texts l.initial.names.items ++ names_bound (block l.ss)
