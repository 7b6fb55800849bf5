use Rattle.std.proofs.Common.{map, take_all, ap, sym, ◌∙◌}
use Rattle.sac_base.specs.Parts.{literal}
use Rattle.run_values.specs.Numbers.{numbers}
use Rattle.run_values.specs.Scopes.{current}
use Rattle.run_plain.specs.Reads.{arrays_of}
use Rattle.run_plain.proofs.Shorts.{numbers_few, short_tells}
use Rattle.run_plain.proofs.Words.{words_literal}
use Rattle.run_plain.proofs.operators.words.Goals as goal

pub returns : goal.returns
returns c h m stands s =
    let e = current c.args.frames.now in
    let xs = c.args.xs.now in
    let few = c.loop-x.few in
    let all = ap (map e) (sym (take_all c.loop-x.x-index xs c.loop-x-test.false)) ∙ c.loop-x.invariant.0 in
    short_tells h m s c.base-base.result few (literal (arrays_of m e xs)) (words_literal m e xs c.base-base.result (numbers few) c.loop-x.invariant.1 (numbers_few few) all) stands
