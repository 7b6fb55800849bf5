use Rattle.std.proofs.Common.{◌≡◌, ◌∷◌, [], ◌∙◌, ap, arith, get_or}
use Rattle.sac_lex.specs.declared.token.Token.{Token}
use Rattle.sac_ast.specs.Heights.{open_behind}
use Rattle.sac_phrases.specs.Contract.{lexeme}
use Rattle.sac_parse.proofs.Shallow.{open_next, shallow, shallow_whole, has_room, room_whole, crowded, uncrowded}
use Rattle.sac_parse.proofs.limits.first_crowded.Goals as goal

pub returns-then-with_next-gt-MOST_OPEN : goal.returns-then-with_next-gt-MOST_OPEN
returns-then-with_next-gt-MOST_OPEN c =
    let step : c.open_behind-depth.result ≡ open_behind c.loop-i.depth (lexeme (get_or c.args.tokens.now c.loop-i.i c.index-tokens-i.result) ∷ []) = c.open_behind-depth.ensures.open ∙ ap (λ (t : Token). open_behind c.loop-i.depth (lexeme t ∷ [])) c.index-tokens-i.is in (
      c.loop-i-test.true,
      shallow c.args.tokens.now c.loop-i.i c.loop-i.depth c.loop-i.auto.i-end c.loop-i.invariant,
      has_room c.args.tokens.now c.loop-i.i c.loop-i.depth c.loop-i.auto.i-end c.loop-i.invariant,
      crowded c.args.tokens.now c.split_at.result.0.now c.split_at.result.1.now c.loop-i.i c.loop-i.depth c.open_behind-depth.result c.with_next.result c.index-tokens-i.result c.loop-i.invariant c.loop-i-test.true step c.split_at.ensures.front c.split_at.ensures.back c.with_next.ensures.next c.if-with_next-gt-MOST_OPEN.true,
    )

pub loop-i-preserved : goal.loop-i-preserved
loop-i-preserved c =
    let step : c.open_behind-depth.result ≡ open_behind c.loop-i.depth (lexeme (get_or c.args.tokens.now c.loop-i.i c.index-tokens-i.result) ∷ []) = c.open_behind-depth.ensures.open ∙ ap (λ (t : Token). open_behind c.loop-i.depth (lexeme t ∷ [])) c.index-tokens-i.is in
    let few = c.if-with_next-gt-MOST_OPEN.false in
    let least = c.with_next.ensures.least in
    open_next c.args.tokens.now c.loop-i.i c.loop-i.depth c.open_behind-depth.result c.index-tokens-i.result c.loop-i.invariant c.loop-i-test.true step (omega arith)
    (uncrowded c.args.tokens.now c.split_at.result.0.now c.split_at.result.1.now c.loop-i.i c.loop-i.depth c.open_behind-depth.result c.with_next.result c.index-tokens-i.result c.loop-i.invariant c.loop-i-test.true step c.split_at.ensures.front c.split_at.ensures.back c.with_next.ensures.next (omega arith))

pub returns : goal.returns
returns c = (
  shallow_whole c.args.tokens.now c.loop-i.i c.loop-i.depth (omega arith) c.loop-i.invariant,
  room_whole c.args.tokens.now c.loop-i.i c.loop-i.depth (omega arith) c.loop-i.invariant,
)
