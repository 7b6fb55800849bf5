use Rattle.std.proofs.Common.{length, ap, sym, ◌∙◌, subst, refl, arith, length-take-le, append-nil, ◌++◌, Vec, Global, Option, rules}
use Rattle.std.specs.Option.{option_to_list}
use Rattle.sac_lex.specs.declared.token.Token.{Token}
use Rattle.sac_lex.specs.Cut.{IsTokenList}
use Rattle.sac_lex.proofs.Fronts.{lexed_near, lexed_step, lexed_end}
use Rattle.sac_lex.proofs.Listed.{list_ends, list_stands}
use Rattle.sac_lex.proofs.lexer.lex.Goals as goal
use Rattle.sac_lex.proofs.lexer.lex.Goals.{in-Some-token+in_ok-push, in_default-token}

pub site_after-site-requires-clause-some : goal.site_after-site-requires-clause-some
site_after-site-requires-clause-some c = (lexed_near _ _ _ _ c.requires c.cut.invariant).some

pub site_after-site-requires-clause-line : goal.site_after-site-requires-clause-line
site_after-site-requires-clause-line c =
    let near = lexed_near _ _ _ _ c.requires c.cut.invariant in
    let n = ap length c.split_at.ensures.front ∙ length-take-le c.in-Some.piece.len c.cut.rest.now c.in-Some.ensures.within in
    let w = c.in-Some.ensures.within in
    let l = near.line in
    omega arith

pub site_after-site-requires-clause-col : goal.site_after-site-requires-clause-col
site_after-site-requires-clause-col c =
    let near = lexed_near _ _ _ _ c.requires c.cut.invariant in
    let n = ap length c.split_at.ensures.front ∙ length-take-le c.in-Some.piece.len c.cut.rest.now c.in-Some.ensures.within in
    let w = c.in-Some.ensures.within in
    let l = near.col in
    omega arith

pub cut-preserved : goal.cut-preserved
cut-preserved c =
    lexed_step c.args.source.now c.cut.list.items c.match-token.list.items c.cut.rest.now c.split_at.result.0.now c.split_at.result.1.now c.cut.site c.site_after-site.result c.in-Some.piece.kind c.in-Some.piece.len c.len.result (option_to_list c.in-Ok.token)
    c.cut.invariant c.in-Some.ensures c.split_at.ensures.front c.split_at.ensures.back (search rules) c.in-Ok.ensures.ok c.site_after-site.ensures
    (elim c.match-token.branch [
      | in-Some-token+in_ok-push w ↦ ap (λ (t : Vec Token Global). t.items) w.list-is ∙ w.in_ok-push.ensures.items ∙ ap (λ (o : Option Token). c.cut.list.items ++ option_to_list o) (sym w.in-Some-token.is)
      | in_default-token w ↦ ap (λ (t : Vec Token Global). t.items) w.list-is ∙ sym (append-nil c.cut.list.items) ∙ ap (λ (o : Option Token). c.cut.list.items ++ option_to_list o) (sym w.in_default-token.is)
    ])

pub new-requires : goal.new-requires
new-requires c = list_ends c.args.source.now _ (lexed_end c.args.source.now c.cut.list.items c.push-2.new.self.items c.cut.rest.now c.cut.site _ c.in_ok-push-2.ensures.items c.cut.invariant (search rules) refl)

pub returns-clause-slices : goal.returns-clause-slices
returns-clause-slices c =
    list_stands c.args.source.now _
    (subst (IsTokenList c.args.source.now) (sym c.new.ensures)
    (lexed_end c.args.source.now c.cut.list.items c.push-2.new.self.items c.cut.rest.now c.cut.site _ c.in_ok-push-2.ensures.items c.cut.invariant (search rules) refl))
