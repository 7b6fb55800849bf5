use Rattle.std.proofs.Common.{map, sym}
use Rattle.core_ir.specs.View.{let_term}
use Rattle.core_uses.proofs.Decided.{list_decided}
use Rattle.binding_users.proofs.Found.{none_at, returned, sole_at, sole_inside}
use Rattle.binding_users.proofs.scan.user_at.Goals.{else-uses_at-via-then-uses_at+else-avoids_all, else-uses_at-via-else-uses_at}
use Rattle.binding_users.proofs.scan.user_at.Goals as goal

pub returns-then-avoids_all-clause-some : goal.returns-then-avoids_all-clause-some
returns-then-avoids_all-clause-some c =
    sole_at c.args.x (map let_term c.args.lets.now) c.args.results.now c.args.place c.requires (c.uses_at.ensures.uses c.if-uses_at.true) ((list_decided c.args.x c.args.results.now).0 (sym c.if-avoids_all.ensures))

pub returns-then-avoids_all-clause-inside : goal.returns-then-avoids_all-clause-inside
returns-then-avoids_all-clause-inside c =
    sole_inside c.args.x c.args.lets.now c.args.results.now c.args.place
    (sole_at c.args.x (map let_term c.args.lets.now) c.args.results.now c.args.place c.requires (c.uses_at.ensures.uses c.if-uses_at.true) ((list_decided c.args.x c.args.results.now).0 (sym c.if-avoids_all.ensures)))

pub returns-else-uses_at-clause-none : goal.returns-else-uses_at-clause-none
returns-else-uses_at-clause-none c = elim c.else-uses_at.branch [
  | else-uses_at-via-then-uses_at+else-avoids_all w ↦ returned c.args.x (map let_term c.args.lets.now) c.args.results.now w.if-avoids_all.ensures
  | else-uses_at-via-else-uses_at w ↦ none_at c.args.x (map let_term c.args.lets.now) c.args.results.now c.args.place c.requires (c.uses_at.ensures.avoids w.if-uses_at.false)
]
