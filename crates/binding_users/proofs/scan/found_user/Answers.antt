use Rattle.std.proofs.Common.{◌≡◌, ◌+◌, sym, subst, map, take, true, false, Option, ℕ}
use Rattle.core_ir.specs.declared.tree.Let.{Let}
use Rattle.core_ir.specs.View.{let_term, right_term}
use Rattle.core_uses.specs.Tests.{is_avoided_right}
use Rattle.binding_users.proofs.Found.{SoFar, first_found, inside_end, none_end, passed_on, returned, second_found, some_end}
use Rattle.binding_users.proofs.scan.found_user.Goals.{then-not-avoids_right+else-is_some, else-not-avoids_right}
use Rattle.binding_users.proofs.scan.found_user.Goals as goal

pub returns-then-not-avoids_all-clause-none : goal.returns-then-not-avoids_all-clause-none
returns-then-not-avoids_all-clause-none c = returned c.args.x (map let_term c.args.lets.now) c.args.results.now c.if-not-avoids_all.ensures

pub returns-then-is_some-clause-none : goal.returns-then-is_some-clause-none
returns-then-is_some-clause-none c =
    let l = c.index-lets-place.result in
    let t : false ≡ is_avoided_right c.args.x (right_term l.right) = subst (λ (m : Let). false ≡ is_avoided_right c.args.x (right_term m.right)) (sym c.index-lets-place.is) c.if-not-avoids_right.ensures in
    second_found c.args.x c.args.results.now c.args.lets.now c.loop-place.place l c.loop-place.found c.loop-place-test.true c.index-lets-place.is t c.if-is_some.ensures c.loop-place.invariant

pub loop-place-preserved : goal.loop-place-preserved
loop-place-preserved c =
    let l = c.index-lets-place.result in
    let ls = c.args.lets.now in
    let i = c.loop-place.place in
    elim c.if-not-avoids_right.branch [
      | then-not-avoids_right+else-is_some w ↦
          let t : false ≡ is_avoided_right c.args.x (right_term l.right) = subst (λ (m : Let). false ≡ is_avoided_right c.args.x (right_term m.right)) (sym c.index-lets-place.is) w.if-not-avoids_right.ensures in
          subst (λ (o : Option ℕ). SoFar c.args.x (map let_term (take (i + 1) ls)) c.args.results.now o) (sym w.found-is)
          (first_found c.args.x c.args.results.now ls i l c.loop-place.found c.if-not-avoids_all.ensures c.loop-place-test.true c.index-lets-place.is t w.if-is_some.ensures c.loop-place.invariant)
      | else-not-avoids_right w ↦
          let t : true ≡ is_avoided_right c.args.x (right_term l.right) = subst (λ (m : Let). true ≡ is_avoided_right c.args.x (right_term m.right)) (sym c.index-lets-place.is) w.if-not-avoids_right.ensures in
          subst (λ (o : Option ℕ). SoFar c.args.x (map let_term (take (i + 1) ls)) c.args.results.now o) (sym w.found-is)
          (passed_on c.args.x c.args.results.now ls i l c.loop-place.found c.if-not-avoids_all.ensures c.loop-place-test.true c.index-lets-place.is t c.loop-place.invariant)
    ]

pub returns-clause-some : goal.returns-clause-some
returns-clause-some c = some_end c.args.x c.args.results.now c.args.lets.now c.loop-place.place c.loop-place.found c.loop-place-test.false c.loop-place.invariant

pub returns-clause-none : goal.returns-clause-none
returns-clause-none c = none_end c.args.x c.args.results.now c.args.lets.now c.loop-place.place c.loop-place.found c.loop-place-test.false c.loop-place.invariant

pub returns-clause-inside : goal.returns-clause-inside
returns-clause-inside c = inside_end c.args.x c.args.results.now c.args.lets.now c.loop-place.place c.loop-place.found c.loop-place-test.false c.loop-place.invariant
