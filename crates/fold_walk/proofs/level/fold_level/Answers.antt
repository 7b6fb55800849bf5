use Rattle.std.proofs.Common.{◌≡◌, ◌-◌, List, drop, length, map, subst}
use Rattle.core_ir.specs.declared.tree.Let.{Let}
use Rattle.core_ir.specs.View.{let_term}
use Rattle.fact_table.specs.Notes.{Note}
use Rattle.fact_table.specs.Table.{facts_of}
use Rattle.plain_facts.specs.Called.{shapes_of}
use Rattle.fact_table.proofs.scoped_table.Marks.{earlier_on, none_gone}
use Rattle.fold_walk.specs.Walking.{state_of}
use Rattle.binding_users.specs.Users.{AreUsers}
use Rattle.fold_walk.proofs.Levels.{level_end, level_first, level_turn, turn_inside, users_behind}
use Rattle.core_walk.proofs.Turns.{none_left}
use Rattle.fold_walk.proofs.level.fold_level.Goals as goal

pub loop-binding-init : goal.loop-binding-init
loop-binding-init c =
    let given = c.args.given.now in
    record {
      level = level_first (shapes_of given.called.now) given.function (facts_of c.args.table.now) (state_of c.args.folding.now) c.args.results.now c.args.lets.items _ _ c.reverse.ensures.items c.new-done.ensures.items;
      users = c.new-users.ensures (map let_term _);
      earlier = none_gone c.args.table.now;
    }

pub fold_first-requires : goal.fold_first-requires
fold_first-requires c = users_behind c.loop-binding.users c.loop-binding.behind.items c.pop.new.self.items c.deref.result.now c.in-Some.binding c.in-Some.ensures.items c.deref.ensures.value c.loop-binding.invariant.users

pub take_turn-requires : goal.take_turn-requires
take_turn-requires c =
    let given = c.args.given.now in
    let rest = c.pop.new.self in
    turn_inside (shapes_of given.called.now) given.function (facts_of c.args.table.now) (state_of c.args.folding.now) c.args.results.now (facts_of c.loop-binding.table) (state_of c.loop-binding.folding) (state_of c.fold_first.new.folding)
    rest.items c.deref.result.now c.in-Some.binding rest.len c.in_ok-found.found c.deref.ensures.value rest.ok.0 c.in_ok-found.ensures.some

pub loop-binding-preserved : goal.loop-binding-preserved
loop-binding-preserved c =
    let given = c.args.given.now in
    let start = c.args.table.now in
    let old = c.loop-binding.table in
    let now = c.take_turn.new.table in
    let v = c.loop-binding.invariant in
    let first = c.in_ok-found.ensures in
    let turn = c.in_ok-take_turn.ensures in
    record {
      level = level_turn (shapes_of given.called.now) given.function (facts_of start) (state_of c.args.folding.now) c.args.results.now (map let_term c.args.lets.items) (state_of c.loop-binding.folding) (state_of c.fold_first.new.folding)
          c.loop-binding.done.items c.take_turn.new.done.items c.loop-binding.behind.items c.pop.new.self.items c.take_turn.new.behind.items c.deref.result.now c.in-Some.binding old c.fold_first.new.table now c.in_ok-found.found
          v.level c.in-Some.ensures.items c.deref.ensures.value first.table first.some first.stays first.none turn.folded turn.kept;
      users = turn.users (subst (λ (ls : List Let). AreUsers c.fold_first.new.users (map let_term ls)) c.deref.ensures.value first.users);
      earlier = earlier_on start old now v.earlier (subst (λ (n : List Note). drop (length now - length n) now ≡ n) first.table turn.earlier);
    }

pub returns-clause-folded : goal.returns-clause-folded
returns-clause-folded c =
    let given = c.args.given.now in
    let behind = c.loop-binding.behind in
    level_end (shapes_of given.called.now) given.function (facts_of c.args.table.now) (state_of c.args.folding.now) c.args.results.now (map let_term c.args.lets.items) (facts_of c.loop-binding.table) (state_of c.loop-binding.folding) c.loop-binding.done.items behind.items
    c.loop-binding.invariant.level (none_left behind.len behind.items c.in_default.ensures.cases.0 behind.ok.0)

pub returns-clause-learned : goal.returns-clause-learned
returns-clause-learned c = c.loop-binding.invariant.level.known
