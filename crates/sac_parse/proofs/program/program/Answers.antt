use Rattle.std.proofs.Common.{sym, ap, ◌∙◌, subst, length, arith}
use Rattle.sac_phrases.specs.Contract.{lexemes_of}
use Rattle.sac_parse.proofs.Steps.{token_read, token_halts}
use Rattle.sac_ast.specs.Shape.{end}
use Rattle.sac_parse.proofs.Functions.{Functions, no_functions, more_functions, function_stops, end_stops, program_error, whole_program}
use Rattle.sac_parse.proofs.program.program.Goals as goal

pub loop-alloc-init : goal.loop-alloc-init
loop-alloc-init c =
    let all = c.split_at.ensures.back in
    record {
      list = no_functions c.args.checked (lexemes_of c.args.tokens.now) c.new-functions.result.items (lexemes_of c.split_at.result.1.now) c.new-functions.ensures.items (ap lexemes_of all);
      shorter = let n = ap length all in omega arith;
    }

pub returns-in_err-next-clause-phrase : goal.returns-in_err-next-clause-phrase
returns-in_err-next-clause-phrase c = program_error c.args.checked (lexemes_of c.args.tokens.now) c.from_residual.result c.in_err-next.field-0.0 c.from_residual.ensures.1 (function_stops c.in_err-next.field-0.0 c.args.checked (lexemes_of c.args.tokens.now) c.loop-alloc.functions.items (lexemes_of c.loop-alloc.rest.now) c.loop-alloc.invariant.list (sym c.starts_with_any.ensures ∙ c.loop-alloc-test.true) c.in_err-next.ensures.phrase)

pub loop-alloc-smaller : goal.loop-alloc-smaller
loop-alloc-smaller c = c.in_ok-next.ensures.shorter

pub loop-alloc-preserved : goal.loop-alloc-preserved
loop-alloc-preserved c =
    let p = c.in_ok-next.ensures.phrase in
    let a = c.in_ok-next.ensures.shorter in
    let d = c.loop-alloc.invariant.shorter in
    record {
      list = subst (λ fs. Functions c.args.checked (lexemes_of c.args.tokens.now) fs (lexemes_of c.in_ok-next.after.now)) (sym c.in_ok-push.ensures.items) (more_functions c.args.checked (lexemes_of c.args.tokens.now) c.loop-alloc.functions.items c.in_ok-next.next (lexemes_of c.loop-alloc.rest.now) (lexemes_of c.in_ok-next.after.now) c.loop-alloc.invariant.list (sym c.starts_with_any.ensures ∙ c.loop-alloc-test.true) p.0 p.1);
      shorter = omega arith;
    }

pub returns-in_err-end-clause-phrase : goal.returns-in_err-end-clause-phrase
returns-in_err-end-clause-phrase c = program_error c.args.checked (lexemes_of c.args.tokens.now) c.from_residual-in_err-end.result c.in_err-end.field-0.0 c.from_residual-in_err-end.ensures.1 (end_stops c.in_err-end.field-0.0 c.args.checked (lexemes_of c.args.tokens.now) c.loop-alloc.functions.items (lexemes_of c.loop-alloc.rest.now) c.loop-alloc.invariant.list (sym c.starts_with_any.ensures ∙ c.loop-alloc-test.false) (λ d. token_halts end (lexemes_of c.loop-alloc.rest.now) c.in_err-end.field-0.0 c.in_err-end.ensures.token))

pub returns-clause-phrase : goal.returns-clause-phrase
returns-clause-phrase c = (whole_program c.loop-alloc.functions c.loop-alloc.invariant.list (sym c.starts_with_any.ensures ∙ c.loop-alloc-test.false) (token_read end c.in_ok-end.ensures.token), c.loop-alloc.invariant.list.low)

pub returns-clause-shorter : goal.returns-clause-shorter
returns-clause-shorter c = let a = c.in_ok-end.ensures.shorter in let d = c.loop-alloc.invariant.shorter in omega arith
