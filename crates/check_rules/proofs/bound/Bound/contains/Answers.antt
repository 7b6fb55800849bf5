use Rattle.std.proofs.Common.{rules, ◌≡◌, sym, ap, ◌∙◌, subst, ◌≤◌, ◌<◌, length, Some}
use Rattle.std.proofs.lemmas.Option.{slice_get_past, slice_get-get_or}
use Rattle.check_rules.proofs.Places.{among_is, stands_by, stands_at}
use Rattle.check_rules.proofs.bound.Bound.contains.Goals as goal

pub returns-in-None : goal.returns-in-None
returns-in-None c =
    let b = c.args.self.now in
    let found = c.in-None.ensures.value in
    ap (stands_by b.trail.items c.args.name.now) found ∙ among_is b.trail.items b.places b.placed c.args.name.now

pub returns-then-place-len : goal.returns-then-place-len
returns-then-place-len c =
    let b = c.args.self.now in
    let found = c.in-Some.ensures.value in
    let text = c.index.result.now in
    let len_is : c.len.result ≡ length b.trail.items = search rules in
    let there = slice_get-get_or b.trail.items c.in-Some.place.now text (subst (λ n. c.in-Some.place.now < n) len_is c.if-place-len.true) in
    c.eq.ensures ∙ ap (stands_at c.args.name.now) (ap (λ t. Some t) c.index.ensures ∙ sym there) ∙ ap (stands_by b.trail.items c.args.name.now) found ∙ among_is b.trail.items b.places b.placed c.args.name.now

pub returns-else-place-len : goal.returns-else-place-len
returns-else-place-len c =
    let b = c.args.self.now in
    let found = c.in-Some.ensures.value in
    let len_is : c.len.result ≡ length b.trail.items = search rules in
    let past = slice_get_past b.trail.items c.in-Some.place.now (subst (λ n. n ≤ c.in-Some.place.now) len_is c.if-place-len.false) in
    ap (stands_at c.args.name.now) (sym past) ∙ ap (stands_by b.trail.items c.args.name.now) found ∙ among_is b.trail.items b.places b.placed c.args.name.now
