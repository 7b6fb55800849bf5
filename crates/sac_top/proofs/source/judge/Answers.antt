use Rattle.sac_top.proofs.Judging.{refused_by, lex_refused, parse_refused, check_refused, has_tree, accepted}
use Rattle.sac_top.proofs.source.judge.Goals as goal

pub returns-in-Err-Refused : goal.returns-in-Err-Refused
returns-in-Err-Refused c =
    refused_by _ _ _ _ _ c.code.ensures
    (lex_refused _ _ _ _ c.requires c.in-Err-Refused.field-0-is c.in-Err-Refused.ensures.refused)
    c.refusal.ensures

pub returns-in-Err-Refused-parse : goal.returns-in-Err-Refused-parse
returns-in-Err-Refused-parse c =
    refused_by _ _ _ _ _ c.code-in-Err-Refused-parse.ensures
    (parse_refused _ _ _ _ _ c.requires c.in-Ok.ensures.tokens c.in-Err-Refused-parse.field-0-is c.in-Err-Refused-parse.ensures.parsed)
    c.refusal-in-Err-Refused-parse.ensures

pub returns-in-Err-Refused-check : goal.returns-in-Err-Refused-check
returns-in-Err-Refused-check c =
    refused_by _ _ _ _ _ c.code-in-Err-Refused-check.ensures
    (check_refused _ _ _ _ _ c.requires (has_tree _ _ _ c.in-Ok.ensures.tokens c.in-Ok-parse.ensures.parsed) c.in-Err-Refused-check.field-0-is c.in-Err-Refused-check.ensures.refused)
    c.refusal-in-Err-Refused-check.ensures

pub returns-in-Ok-check : goal.returns-in-Ok-check
returns-in-Ok-check c =
    accepted c.args.source.now c.in-Ok-parse.program c.in-Ok-check.checked c.requires (has_tree _ _ _ c.in-Ok.ensures.tokens c.in-Ok-parse.ensures.parsed) c.in-Ok-check.ensures.accepted c.in-Ok-check.ensures.program c.in-Ok-check.ensures.bases
