use Rattle.std.proofs.Common.{ap, sym, ◌∙◌}
use Rattle.sac_base.specs.Operators.{binary}
use Rattle.counted_code.specs.Values.{read}
use Rattle.run_values.specs.Shown.{value_of}
use Rattle.run_plain.proofs.Mirrors.{found_through, number_first}
use Rattle.run_plain.proofs.together.array_either_way.Goals as goal

pub returns-in-Word-Some-clause-array : goal.returns-in-Word-Some-clause-array
returns-in-Word-Some-clause-array g c m stands =
    let w = c.in-Word-Some in
    let right = read m (value_of c.args.b) in
    found_through c.array_together.result (λ array h.
    ap (λ v. binary c.args.op (read m (value_of v)) right) w.is-0 ∙ sym (number_first c.args.op w.other w.ensures w.field-0-0 w.field-1-0 right)
    ∙ ap (λ v. binary w.other right (read m (value_of v))) (sym w.is-0) ∙ h) (c.array_together.ensures.array m stands)
