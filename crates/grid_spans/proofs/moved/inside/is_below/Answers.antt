use Rattle.std.proofs.Common.{rules, ◌≡◌, ◌↔◌, IsTrue, subst, w32, ℤ, pos, ◌<ℤ◌}
use Rattle.std.proofs.lemmas.Int.{to_z-of_z}
use Rattle.grid_spans.proofs.moved.Overflows.{over_below, no_room}
use Rattle.grid_spans.proofs.moved.inside.is_below.Goals as goal

pub returns-in-None : goal.returns-in-None
returns-in-None c =
    let same : c.from.result ≡ c.args.number = search rules in
    over_below c.is_negative.result c.args.bound c.args.member c.args.number c.ranges.bound c.ranges.member
    (no_room c.args.member c.args.number c.from.result c.ranges.member c.ranges.number same c.in-None.ensures)
    (subst (λ (z : ℤ). IsTrue c.is_negative.result ↔ (z <ℤ pos 0)) (to_z-of_z w32 c.args.number c.ranges.number) c.is_negative.ensures)
