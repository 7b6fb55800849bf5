use Rattle.std.proofs.Common.{rules, FitsSigned, w32, to_z, of_z}
use Rattle.std.proofs.lemmas.Int.{to_z-of_z}
use Rattle.run_plain.proofs.Operands.{two_words}
use Rattle.run_plain.proofs.operators.binary_value.Goals as goal

pub returns-in-Word-Word-clause-told : goal.returns-in-Word-Word-clause-told
returns-in-Word-Word-clause-told g c m stands =
    let w = c.in-Word-Word in
    let fits_x : FitsSigned w32 c.in-Word-Word.x = search rules in
    let fits_y : FitsSigned w32 c.in-Word-Word.y = search rules in
    two_words c.word_binary.result c.args.heap.now m c.args.site c.args.op c.args.a c.args.b w.field-0-0 w.field-0-1 w.x w.y (to_z w32 (of_z w32 w.x)) (to_z w32 (of_z w32 w.y)) w.is-0 w.is-1
    (to_z-of_z w32 w.x fits_x) (to_z-of_z w32 w.y fits_y) (c.word_binary.ensures c.args.heap.now m stands w.field-0-0 w.field-0-1)
