use Rattle.std.proofs.Common.{false, inl, inr}
use Rattle.sac_ast.specs.View as View
use Rattle.sac_grammar.proofs.Machine.{false_true}
use Rattle.sac_phrases.specs.Contract.{lexemes_of}
use Rattle.sac_parse.proofs.ReadTokens.{taken, count_taken}
use Rattle.sac_parse.proofs.Judge.{judge_high, halt_stuck, halt_high, named_front, named_lost, named_found}
use Rattle.sac_parse.proofs.reader.too_high.Goals as goal

pub returns-in-Ok-clause-refusal : goal.returns-in-Ok-clause-refusal
returns-in-Ok-clause-refusal c = λ ts t. judge_high ts (lexemes_of c.args.tokens.now) (lexemes_of c.args.rest.now) (lexemes_of c.split_at.result.0.now) (lexemes_of c.in-Ok.rest.now) c.min-count.result t (count_taken c.args.tokens.now c.args.rest.now c.min-count.result c.saturating_sub-before.result c.saturating_sub-before.ensures c.min-count.ensures) (taken c.args.tokens.now c.split_at.result.0.now c.min-count.result c.split_at.ensures.front) (inr (View.program c.in-Ok._program, c.in-Ok.ensures.phrase.0)) c.refusal.result c.refusal.ensures

pub returns-in-Err-Stuck-clause-refusal : goal.returns-in-Err-Stuck-clause-refusal
returns-in-Err-Stuck-clause-refusal c = λ ts t. judge_high ts (lexemes_of c.args.tokens.now) (lexemes_of c.args.rest.now) (lexemes_of c.split_at.result.0.now) (lexemes_of c.in-Err-Stuck.rest.now) c.min-count.result t (count_taken c.args.tokens.now c.args.rest.now c.min-count.result c.saturating_sub-before.result c.saturating_sub-before.ensures c.min-count.ensures) (taken c.args.tokens.now c.split_at.result.0.now c.min-count.result c.split_at.ensures.front) (inl (halt_stuck false (lexemes_of c.split_at.result.0.now) c.in-Err-Stuck.rest c.in-Err-Stuck.field-0 c.in-Err-Stuck.field-0-is c.in-Err-Stuck.ensures.phrase.0)) c.refusal-in-Err-Stuck.result c.refusal-in-Err-Stuck.ensures

pub returns-in-Err-High-clause-refusal : goal.returns-in-Err-High-clause-refusal
returns-in-Err-High-clause-refusal c = λ ts t. false_true (halt_high false (lexemes_of c.split_at.result.0.now) c.in-Err-High.rest c.in-Err-High.field-0 c.in-Err-High.field-0-is c.in-Err-High.ensures.phrase.0).0

pub returns-in-Ok-clause-named : goal.returns-in-Ok-clause-named
returns-in-Ok-clause-named c = named_front (lexemes_of c.args.tokens.now) (lexemes_of c.split_at.result.0.now) c.min-count.result (taken c.args.tokens.now c.split_at.result.0.now c.min-count.result c.split_at.ensures.front) c.refusal.result (named_found (lexemes_of c.split_at.result.0.now) (lexemes_of c.in-Ok.rest.now) (View.program c.in-Ok._program) c.in-Ok.ensures.phrase.0 c.refusal.result c.refusal.ensures)

pub returns-in-Err-Stuck-clause-named : goal.returns-in-Err-Stuck-clause-named
returns-in-Err-Stuck-clause-named c = named_front (lexemes_of c.args.tokens.now) (lexemes_of c.split_at.result.0.now) c.min-count.result (taken c.args.tokens.now c.split_at.result.0.now c.min-count.result c.split_at.ensures.front) c.refusal-in-Err-Stuck.result (named_lost (lexemes_of c.split_at.result.0.now) (lexemes_of c.in-Err-Stuck.rest.now) (halt_stuck false (lexemes_of c.split_at.result.0.now) c.in-Err-Stuck.rest c.in-Err-Stuck.field-0 c.in-Err-Stuck.field-0-is c.in-Err-Stuck.ensures.phrase.0) c.refusal-in-Err-Stuck.result c.refusal-in-Err-Stuck.ensures)

pub returns-in-Err-High-clause-named : goal.returns-in-Err-High-clause-named
returns-in-Err-High-clause-named c = false_true (halt_high false (lexemes_of c.split_at.result.0.now) c.in-Err-High.rest c.in-Err-High.field-0 c.in-Err-High.field-0-is c.in-Err-High.ensures.phrase.0).0
