use Rattle.std.proofs.Common.{rules, ◌≡◌, [], ◌∷◌, refl, ap, ◌∙◌, subst, w32, FitsSigned}
use Rattle.std.proofs.lemmas.Int.{to_z-of_z}
use Rattle.std.proofs.lemmas.List.{with_items_is}
use Rattle.std.specs.Vec.{with_items}
use Rattle.buffer_heap.specs.Heaps.{In}
use Rattle.counted_code.specs.Loops.{written_at}
use Rattle.counted_code.specs.Values.{cells_of, count_of, release_count, take_buffer}
use Rattle.run_store.specs.Stands.{Stands}
use Rattle.run_store.specs.Targets.{IsWritten}
use Rattle.run_store.proofs.Targets.{written_length}
use Rattle.run_store.proofs.Updates.{either_order}
use Rattle.run_store.proofs.Wholes.{own_taken}
use Rattle.run_store.proofs.update.renew_buffer.Goals as goal

pub returns-clause-stands : goal.returns-clause-stands
returns-clause-stands c m stands =
    let b = c.args.id.born in
    let n = c.args.n in
    let s = c.take_cells.new.heap in
    let k = c.put.new.self in
    let new = c.in_ok-new.new in
    let put = c.in_ok-new.ensures in
    let old = c.deref_mut.result.now in
    let cells = (with_items c.in-Some.cells c.write_word.new.cells).items in
    let before = release_count b (count_of m b) m in
    let fits : FitsSigned w32 n = search rules in
    let written : IsWritten c.args.place (n ∷ []) old c.write_word.new.cells =
    subst (λ z. IsWritten c.args.place (z ∷ []) old c.write_word.new.cells) (to_z-of_z w32 n fits) c.in_ok-write_word.ensures in
    let there : cells ≡ c.write_word.new.cells =
    with_items_is c.in-Some.cells c.write_word.new.cells (written_length c.args.place (n ∷ []) old c.write_word.new.cells written ∙ c.deref_mut.ensures.len) in
    let now : cells ≡ written_at c.args.place (n ∷ []) (cells_of m b) =
    there ∙ written.cells ∙ ap (written_at c.args.place (n ∷ [])) (c.deref_mut.ensures.value ∙ c.in-Some.ensures.cells m stands) in
    subst (λ h. Stands (record { own = k; lent = s.lent }) h)
    (ap (λ zs. take_buffer zs before) now ∙ either_order m b (written_at c.args.place (n ∷ []) (cells_of m b)) (c.in-Some.ensures.within m stands))
    (own_taken s k before new.place new.born cells (In cells) refl put.holds put.others put.number.0 (c.in-Some.ensures.released m stands) put.number.1 put.counters.0 put.counters.1 put.counters.2)
