use Rattle.std.proofs.Common.{rules, sym, ◌∙◌}
use Rattle.run_over.proofs.Over.{is_live, now_sole}
use Rattle.phase_books.proofs.over.is_lone.Goals as goal

pub is_sole-requires : goal.is_sole-requires
is_sole-requires c = is_live c.args.heap.now c.args.id.place c.args.id.born (search rules)

pub returns-then-is_held : goal.returns-then-is_held
returns-then-is_held c one = now_sole c.args.heap.now c.args.id.place c.args.id.born (search rules) (sym c.is_sole.ensures ∙ one)
