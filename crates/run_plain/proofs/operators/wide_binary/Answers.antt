use Rattle.std.proofs.Common.{rules, ℤ, FitsSigned, w32, to_z, of_z, map, ap, ◌∙◌}
use Rattle.std.proofs.lemmas.Int.{to_z-of_z}
use Rattle.run_values.specs.Numbers.{numbers}
use Rattle.run_plain.proofs.Operands.{word_and_short, short_and_word}
use Rattle.run_plain.proofs.operators.wide_binary.Goals as goal

pub returns-in-Word-Short-clause-told : goal.returns-in-Word-Short-clause-told
returns-in-Word-Short-clause-told g c m stands =
    let w = c.in-Word-Short in
    let fits : FitsSigned w32 c.in-Word-Short.x = search rules in
    word_and_short c.few_binary-in-Word-Short.result c.args.heap.now m c.args.site c.args.op c.args.a c.args.b w.field-0-0 w.field-0-1 w.x w.y c.all-in-Word-Short.result w.is-0 w.is-1
    (c.all-in-Word-Short.ensures ∙ ap (λ (z : ℤ). map (λ (_ : ℤ). z) (numbers w.y)) (to_z-of_z w32 w.x fits)) (c.few_binary-in-Word-Short.ensures c.args.heap.now m stands w.field-0-0 w.field-0-1)

pub returns-in-Short-Word-clause-told : goal.returns-in-Short-Word-clause-told
returns-in-Short-Word-clause-told g c m stands =
    let w = c.in-Short-Word in
    let fits : FitsSigned w32 c.in-Short-Word.y = search rules in
    short_and_word c.few_binary-in-Short-Word.result c.args.heap.now m c.args.site c.args.op c.args.a c.args.b w.field-0-0 w.field-0-1 w.x c.all.result w.y w.is-0 w.is-1
    (c.all.ensures ∙ ap (λ (z : ℤ). map (λ (_ : ℤ). z) (numbers w.x)) (to_z-of_z w32 w.y fits)) (c.few_binary-in-Short-Word.ensures c.args.heap.now m stands w.field-0-0 w.field-0-1)
