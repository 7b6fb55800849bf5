use Rattle.std.proofs.Common.{map}
use Rattle.core_ir.specs.View.{let_term}
use Rattle.binding_users.proofs.Found.{all_avoid, no_use, two_at}
use Rattle.binding_users.proofs.Noted.{noted_none}
use Rattle.binding_users.proofs.users.Users.user_among.Goals as goal

pub returns-in-None-clause-none : goal.returns-in-None-clause-none
returns-in-None-clause-none c =
    let lets = map let_term c.args.lets.now in
    no_use c.args.x lets c.args.results.now (all_avoid c.args.x lets (noted_none c.args.self.now.places lets c.args.x c.requires c.in-None.ensures.value))

pub returns-then-are_two-clause-none : goal.returns-then-are_two-clause-none
returns-then-are_two-clause-none c =
    let both = c.are_two.ensures c.if-are_two.true in
    two_at c.args.x (map let_term c.args.lets.now) c.args.results.now c.in-Some-Several.one c.in-Some-Several.other both.0 both.1 both.2
