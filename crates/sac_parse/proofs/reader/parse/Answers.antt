use Rattle.std.proofs.Common.{true, Err, refl, subst}
use Rattle.sac_ast.specs.View as View
use Rattle.sac_ast.specs.Grammar.{program}
use Rattle.sac_ast.specs.Heights.{IsTreeOf}
use Rattle.sac_grammar.specs.Parsing.{Found}
use Rattle.sac_phrases.specs.Contract.{lexemes_of}
use Rattle.sac_parse.specs.Verdict.{IsInRoom, IsRefusalOf}
use Rattle.sac_parse.proofs.ReadTokens.{in_room, is_read, source_tokens, source_ended, no_tokens, some_tokens}
use Rattle.sac_parse.proofs.Judge.{judge_lost, judge_found, accepted, halt_stuck, halt_high, named_lost, named_found, none_stuck, none_too_high}
use Rattle.sac_parse.proofs.reader.parse.Goals as goal

pub returns-in-Ok-default-empty-clause-parsed : goal.returns-in-Ok-default-empty-clause-parsed
returns-in-Ok-default-empty-clause-parsed c =
    let slice = c.as_slice.result.now in
    let view = c.args.tokens.now in
    let read = c.within_brackets-read.result.now in
    let same = source_tokens slice view c.as_slice.ensures.tokens in
    let h = c.in-Ok-default-empty.ensures.phrase in
    let p = View.program c.in-Ok-default-empty.program in
    subst (λ l. IsTreeOf l p) same (accepted slice read p c.within_brackets-read.ensures (subst (λ l. Found program (lexemes_of read) p l) (no_tokens c.in-Ok-default-empty.field-0-1.now c.in-Ok-default-empty.len_below) h.0) (h.1 refl))

pub returns-in-Ok-clause-parsed : goal.returns-in-Ok-clause-parsed
returns-in-Ok-clause-parsed c =
    let slice = c.as_slice.result.now in
    let view = c.args.tokens.now in
    let read = c.within_brackets-read.result.now in
    let same = source_tokens slice view c.as_slice.ensures.tokens in
    let h = c.in-Ok.ensures.phrase in
    subst (λ l. IsRefusalOf l c.refusal.result) same (judge_found (lexemes_of slice) (lexemes_of read) (lexemes_of c.in-Ok.rest.now) (View.program c.in-Ok._program) (is_read slice read (source_ended slice view c.as_slice.ensures.tokens c.as_slice.ensures.ended) c.within_brackets-read.ensures) h.0 (h.1 refl) (some_tokens c.in-Ok.rest.now c.in-Ok.len_at_least) c.refusal.result c.refusal.ensures)

pub returns-in-Err-Stuck-clause-parsed : goal.returns-in-Err-Stuck-clause-parsed
returns-in-Err-Stuck-clause-parsed c =
    let slice = c.as_slice.result.now in
    let view = c.args.tokens.now in
    let read = c.within_brackets-read.result.now in
    let same = source_tokens slice view c.as_slice.ensures.tokens in
    let h = c.in-Err-Stuck.ensures.phrase in
    let rest = c.in-Err-Stuck.rest in
    subst (λ l. IsRefusalOf l c.refusal-in-Err-Stuck.result) same (judge_lost (lexemes_of slice) (lexemes_of read) (lexemes_of rest.now) (is_read slice read (source_ended slice view c.as_slice.ensures.tokens c.as_slice.ensures.ended) c.within_brackets-read.ensures) (halt_stuck true (lexemes_of read) rest c.in-Err-Stuck.field-0 c.in-Err-Stuck.field-0-is h.0) (none_stuck (lexemes_of read) rest c.in-Err-Stuck.field-0 c.in-Err-Stuck.field-0-is h.1) c.refusal-in-Err-Stuck.result c.refusal-in-Err-Stuck.ensures)

pub returns-in-Err-High-clause-parsed : goal.returns-in-Err-High-clause-parsed
returns-in-Err-High-clause-parsed c =
    let slice = c.as_slice.result.now in
    let view = c.args.tokens.now in
    let read = c.within_brackets-read.result.now in
    let same = source_tokens slice view c.as_slice.ensures.tokens in
    let h = c.in-Err-High.ensures.phrase in
    let rest = c.in-Err-High.rest in
    subst (λ l. IsRefusalOf l c.too_high.result) same (c.too_high.ensures.refusal (lexemes_of slice) (record {
      front = (is_read slice read (source_ended slice view c.as_slice.ensures.tokens c.as_slice.ensures.ended) c.within_brackets-read.ensures);
      tall = (halt_high true (lexemes_of read) rest c.in-Err-High.field-0 c.in-Err-High.field-0-is h.0).1;
      before = none_too_high (lexemes_of read) rest c.in-Err-High.field-0 c.in-Err-High.field-0-is h.1;
    }))

pub returns-in-Ok-clause-room : goal.returns-in-Ok-clause-room
returns-in-Ok-clause-room c =
    let slice = c.as_slice.result.now in
    let same = source_tokens slice c.args.tokens.now c.as_slice.ensures.tokens in
    subst (λ l. IsInRoom l (Err c.refusal.result)) same (in_room slice c.within_brackets-read.result.now c.within_brackets-read.ensures c.refusal.result (named_found (lexemes_of c.within_brackets-read.result.now) (lexemes_of c.in-Ok.rest.now) (View.program c.in-Ok._program) c.in-Ok.ensures.phrase.0 c.refusal.result c.refusal.ensures))

pub returns-in-Err-Stuck-clause-room : goal.returns-in-Err-Stuck-clause-room
returns-in-Err-Stuck-clause-room c =
    let slice = c.as_slice.result.now in
    let read = c.within_brackets-read.result.now in
    let same = source_tokens slice c.args.tokens.now c.as_slice.ensures.tokens in
    let rest = c.in-Err-Stuck.rest in
    let result = c.refusal-in-Err-Stuck.result in
    subst (λ l. IsInRoom l (Err result)) same (in_room slice read c.within_brackets-read.ensures result (named_lost (lexemes_of read) (lexemes_of rest.now) (halt_stuck true (lexemes_of read) rest c.in-Err-Stuck.field-0 c.in-Err-Stuck.field-0-is c.in-Err-Stuck.ensures.phrase.0) result c.refusal-in-Err-Stuck.ensures))

pub returns-in-Err-High-clause-room : goal.returns-in-Err-High-clause-room
returns-in-Err-High-clause-room c =
    let slice = c.as_slice.result.now in
    let same = source_tokens slice c.args.tokens.now c.as_slice.ensures.tokens in
    subst (λ l. IsInRoom l (Err c.too_high.result)) same (in_room slice c.within_brackets-read.result.now c.within_brackets-read.ensures c.too_high.result c.too_high.ensures.named)
