use Rattle.std.proofs.Common.{rules, sym, ap, ◌∙◌}
use Rattle.std.specs.Prelude.{◌==◌}
use Rattle.run_over.proofs.Over.{is_live, own_count}
use Rattle.run_over.proofs.is_sole_buffer.Goals as goal

pub is_sole-requires : goal.is_sole-requires
is_sole-requires c = is_live c.args.heap.now.own c.args.id.place c.args.id.born (search rules)

pub returns-then-is_held : goal.returns-then-is_held
returns-then-is_held c m stands =
    c.is_sole.ensures ∙ ap (λ n. n == 1) (sym (own_count c.args.heap.now m c.args.id.place c.args.id.born (search rules) stands))
