use Rattle.std.proofs.Common.{rules, ap, ◌∙◌, ◌≡◌, ◌<◌, ◌+◌, ◌++◌, length, reverse, arith}
use Rattle.std.proofs.lemmas.List.{get_or-append-add, length-append}
use Rattle.counted_code.specs.Machine.{bind_value}
use Rattle.run_values.specs.declared.value.RunValue.TheVariants.{Unbound}
use Rattle.run_values.specs.Scopes.{around, seen, slots_of}
use Rattle.run_values.specs.Shown.{value_of}
use Rattle.run_values.proofs.Outside.{behind, set_behind}
use Rattle.run_values.proofs.Slots.{bound_seen, bound_around}
use Rattle.run_values.proofs.frames.Frames.bind.Goals as goal

pub returns-clause-current : goal.returns-clause-current
returns-clause-current c =
    let f = c.own_place.new.self in
    let o = f.outside.now in
    let own = c.in_ok-own.own in
    let place : c.in-Some.slot ≡ length o + own = search rules in
    let there : c.in-Some.slot < length (o ++ c.grow.new.slots.items) = omega (arith, place, c.in_ok-grow.ensures.there, length-append o c.grow.new.slots.items) in
    let first : c.in-Some.slot ≡ f.base + c.args.x.0 = search rules in
    ap (λ zs. seen (slots_of zs) f.base) (set_behind o c.grow.new.slots.items c.in-Some.slot own c.args.value place)
    ∙ bound_seen (o ++ c.grow.new.slots.items) (o ++ f.slots.items) c.in-Some.slot f.base c.args.x c.args.value first there (behind o c.grow.new.slots.items f.slots.items c.in_ok-grow.ensures.same)
    ∙ (λ j. bind_value (seen (slots_of (c.in_ok-own.ensures.slots j)) (c.in_ok-own.ensures.base j)) c.args.x (value_of c.args.value))

pub returns-clause-outer : goal.returns-clause-outer
returns-clause-outer c =
    let f = c.own_place.new.self in
    let o = f.outside.now in
    let own = c.in_ok-own.own in
    let place : c.in-Some.slot ≡ length o + own = search rules in
    let there : c.in-Some.slot < length (o ++ c.grow.new.slots.items) = omega (arith, place, c.in_ok-grow.ensures.there, length-append o c.grow.new.slots.items) in
    let unbound : slots_of c.grow.new.slots.items own ≡ Unbound = search rules in
    let free : slots_of (o ++ c.grow.new.slots.items) c.in-Some.slot ≡ Unbound =
    ap (slots_of (o ++ c.grow.new.slots.items)) place ∙ get_or-append-add o c.grow.new.slots.items own Unbound ∙ unbound in
    ap (λ zs. around (length o) (reverse c.push.new.self.items) (slots_of zs) f.base) (set_behind o c.grow.new.slots.items c.in-Some.slot own c.args.value place)
    ∙ bound_around (o ++ c.grow.new.slots.items) (o ++ f.slots.items) c.push.new.self.items f.trail.items (length o) c.in-Some.slot f.base c.args.value there free (behind o c.grow.new.slots.items f.slots.items c.in_ok-grow.ensures.same) c.in_ok-push.ensures.items (omega (arith, place))
    ∙ c.in_ok-own.ensures.outer
