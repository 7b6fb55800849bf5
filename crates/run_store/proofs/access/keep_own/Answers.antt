use Rattle.std.proofs.Common.{rules, sym, subst, ◌+◌}
use Rattle.counted_code.specs.Values.{with_count, count_of}
use Rattle.run_store.specs.Stands.{Stands}
use Rattle.run_store.proofs.Wholes.{own_kept, room_named}
use Rattle.run_store.proofs.access.keep_own.Goals as goal

pub returns-clause-kept : goal.returns-clause-kept
returns-clause-kept c m stands =
    let s = c.args.heap.now in
    subst (λ h. Stands (record { own = h; lent = s.lent }) (with_count m c.args.id.born (count_of m c.args.id.born + 1))) (sym c.keep.ensures)
    (own_kept s m c.args.id.place c.args.id.born (room_named s.own c.args.id.place c.args.id.born (search rules)) stands)
