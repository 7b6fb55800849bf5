use Rattle.std.proofs.Common.{rules, sym, ap, ◌∙◌, subst, OnOk, Some, FitsSigned, w32}
use Rattle.std.specs.Prelude.{option_map}
use Rattle.std.proofs.lemmas.Int.{to_z-of_z}
use Rattle.sac_base.specs.Arrays.{scalar}
use Rattle.counted_code.specs.Loops.{Old, release_rest, write_cell}
use Rattle.counted_code.specs.Values.{Heap, read}
use Rattle.run_store.specs.Stands.{Stands}
use Rattle.run_values.specs.Shown.{value_of}
use Rattle.run_loops.proofs.InPlace.{word_written}
use Rattle.run_loops.proofs.in_place.put_in_place.Goals as goal

pub returns-clause-put : goal.returns-clause-put
returns-clause-put c m stands =
    let b = c.args.buffer.born in
    let place = c.args.place in
    let r = c.write_over.result in
    let h = c.write_over.new.heap in
    let i = c.in-Word in
    let fits : FitsSigned w32 i.element = search rules in
    subst (λ v. OnOk r (Stands h (write_cell (Old b) place (option_map (read m) (option_map value_of v)) (release_rest (option_map value_of v) m)))) (sym (c.in-Some.is ∙ ap Some i.is))
    (subst (λ (k : Heap). OnOk r (Stands h k)) (word_written b place i.field-0 _ m ∙ ap (λ z. write_cell (Old b) place (Some (scalar i.field-0 z)) m) (to_z-of_z w32 i.element fits)) (c.write_over.ensures.written m stands))
