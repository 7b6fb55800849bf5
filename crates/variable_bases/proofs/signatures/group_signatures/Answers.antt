use Rattle.std.proofs.Common.{map}
use Rattle.std.proofs.lemmas.List.{get_or_default}
use Rattle.core_ir.specs.View.{fun_term}
use Rattle.variable_bases.proofs.Groups.{no_place, next_place, has_places, only_places}
use Rattle.variable_bases.proofs.signatures.group_signatures.Goals as goal

pub loop-place-init : goal.loop-place-init
loop-place-init c = no_place (map fun_term c.args.functions.now) c.args.places.now c.new-signatures.result.items c.new-signatures.ensures.items

pub loop-place-preserved : goal.loop-place-preserved
loop-place-preserved c =
    next_place (map fun_term c.args.functions.now) c.args.places.now c.loop-place.place-index _ c.loop-place.signatures.items c.add_signature.new.signatures.items c.loop-place-test.true (get_or_default c.args.places.now c.loop-place.place-index 0 _ c.loop-place-test.true) c.loop-place.invariant c.in_ok-add_signature.ensures

pub returns-clause-has : goal.returns-clause-has
returns-clause-has c = has_places (map fun_term c.args.functions.now) c.args.places.now c.loop-place.place-index c.loop-place.signatures.items c.loop-place-test.false c.loop-place.invariant

pub returns-clause-only : goal.returns-clause-only
returns-clause-only c = only_places (map fun_term c.args.functions.now) c.args.places.now c.loop-place.place-index c.loop-place.signatures.items c.loop-place.invariant
