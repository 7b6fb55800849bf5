use Rattle.std.proofs.Common.{rules, ap, sym, ◌∙◌, ◌++◌, List, ℕ}
use Rattle.sac_print.specs.Texts.{written}
use Rattle.sac_print.proofs.Printing.{joined, joined_turn, joined_whole}
use Rattle.sac_print.proofs.Trees.{spell_function, functions_are}
use Rattle.sac_print.proofs.program.print_program.Goals as goal

pub loop-f-preserved : goal.loop-f-preserved
loop-f-preserved c = joined_turn spell_function c.args.program.now.functions.items c.loop-f.f-index c.f-item.result (search rules) (search rules) c.loop-f.invariant c.in_ok-put_function.ensures.on_ok

pub returns : goal.returns
returns c =
    let whole = joined_whole spell_function c.args.program.now.functions.items c.loop-f.f-index (search rules) c.loop-f.invariant in
    whole.is ∙ ap (λ (l : List ℕ). l ++ written (joined spell_function c.args.program.now.functions.items)) c.new-out.ensures.items ∙ ap written (sym (functions_are c.args.program.now.functions.items))
