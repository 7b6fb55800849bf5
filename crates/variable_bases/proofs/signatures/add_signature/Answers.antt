use Rattle.std.proofs.Common.{rules, ◌<◌, ◌≤◌, length, sym, subst, map, List}
use Rattle.std.proofs.lemmas.Option.{slice_get_past}
use Rattle.core_ir.specs.View.{fun_term}
use Rattle.variable_bases.specs.declared.signatures.Signature.{Signature}
use Rattle.variable_bases.specs.Instances.{AddsPlace}
use Rattle.variable_bases.proofs.Groups.{place_added, place_missing, found_at}
use Rattle.variable_bases.proofs.signatures.add_signature.Goals as goal

pub returns-in_ok-push : goal.returns-in_ok-push
returns-in_ok-push c =
    let fs = c.args.functions.now in
    let ss = c.args.signatures.now.items in
    let less : c.args.place < length fs = search rules in
    subst (λ (xs : List Signature). AddsPlace (map fun_term fs) c.args.place ss xs) (sym c.in_ok-push.ensures.items)
    (place_added fs c.args.place c.in-Some.function.now c.in_ok-signature_of.field-0 ss (found_at fs c.args.place c.in-Some.function.now less c.in-Some.ensures.lookup.1) c.in_ok-signature_of.ensures.takes c.in_ok-signature_of.ensures.gives)

pub returns-in_default : goal.returns-in_default
returns-in_default c =
    let fs = c.args.functions.now in
    let beyond : length fs ≤ c.args.place = search rules in
    place_missing fs c.args.place c.args.signatures.now.items (slice_get_past fs c.args.place beyond)
