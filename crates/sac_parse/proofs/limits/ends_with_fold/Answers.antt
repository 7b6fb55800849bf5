use Rattle.std.proofs.Common.{◌∙◌, ◌&&◌, ◌-◌, ap, arith, codes, get_or, length}
use Rattle.std.specs.Str.{bytes_eq}
use Rattle.sac_lex.specs.declared.token.Token.{Token}
use Rattle.sac_parse.proofs.Shallow.{two_last, few_tokens}
use Rattle.sac_parse.proofs.limits.ends_with_fold.Goals as goal

pub returns-then-count-lt2 : goal.returns-then-count-lt2
returns-then-count-lt2 c = few_tokens c.args.tokens.now c.if-count-lt2.true

pub returns : goal.returns
returns c =
    let ts = c.args.tokens.now in
    let word = c.index-tokens-count.result in
    let bracket = c.index-tokens-count-2.result in
    c.is_fold.ensures
    ∙ ap (λ (t : Token). bytes_eq (codes "fold") t.text.now && bytes_eq (codes "(") bracket.text.now) c.index-tokens-count.is
    ∙ ap (λ (t : Token). bytes_eq (codes "fold") (get_or ts (length ts - 2) word).text.now && bytes_eq (codes "(") t.text.now) c.index-tokens-count-2.is
    ∙ two_last ts (length ts - 2) (length ts - 1) word bracket (omega arith) (omega arith)
