use Rattle.std.proofs.Common.{sym, ap, ◌∙◌}
use Rattle.std.specs.Str.Lines.{strip_carriage_return}
use Rattle.data_text.proofs.TextFacts.{line_found, line_missing}
use Rattle.data_text.proofs.text.first_line.Goals as goal

pub returns-in-Some-clause-parts : goal.returns-in-Some-clause-parts
returns-in-Some-clause-parts c =
    line_found c.args.text.now c.split_at-in-Some.result.1.now c.in-Some.end c.without_carriage_return.result.now (sym c.in-Some.ensures.place)
    (c.without_carriage_return.ensures ∙ ap strip_carriage_return c.split_at.ensures.front) c.split_at-in-Some.ensures.back

pub returns-in-None-clause-parts : goal.returns-in-None-clause-parts
returns-in-None-clause-parts c = line_missing c.args.text.now c.without_carriage_return-in-None.result.now (sym c.in-None.ensures.place) c.without_carriage_return-in-None.ensures
