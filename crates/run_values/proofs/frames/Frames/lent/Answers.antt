use Rattle.std.proofs.Common.{rules, ap, ◌∙◌, ◌≡◌, ◌<◌, ◌+◌, ◌++◌, drop, length}
use Rattle.std.proofs.lemmas.List.{append-nil}
use Rattle.run_values.specs.Scopes.{seen, slots_of}
use Rattle.run_values.proofs.Outside.{lent_behind, lent_both}
use Rattle.run_values.proofs.Slots.{copied}
use Rattle.run_values.proofs.frames.Frames.lent.Goals as goal

pub returns-in-Some : goal.returns-in-Some
returns-in-Some c =
    let f = c.args.self.now in
    let place : f.base ≡ length f.outside.now + c.in-Some.own = search rules in
    let rest : c.rest.result.now ≡ drop c.in-Some.own f.slots.items = c.rest.ensures ∙ ap (drop c.in-Some.own) c.deref.ensures.value in
    c.over.ensures.current
    ∙ ap (λ zs. seen (slots_of (c.up_to_last-outside.result.now ++ zs)) 0) c.new-slots.ensures.items
    ∙ ap (λ zs. seen (slots_of zs) 0) (append-nil c.up_to_last-outside.result.now)
    ∙ ap (λ s. seen s 0) c.up_to_last-outside.ensures
    ∙ copied (f.outside.now ++ f.slots.items) c.rest.result.now f.base (lent_behind f.outside.now f.slots.items c.rest.result.now f.base c.in-Some.own place rest)

pub returns : goal.returns
returns c =
    let f = c.args.self.now in
    let items = c.extend_from_slice-2.new.self.items in
    let inside : f.base < length f.outside.now = search rules in
    let first = c.in_ok-extend_from_slice.ensures.items ∙ ap (λ ys. ys ++ c.rest-2.result.now) c.new-slots.ensures.items ∙ c.rest-2.ensures in
    let both : items ≡ drop f.base f.outside.now ++ f.slots.items =
    c.in_ok-extend_from_slice-2.ensures.items ∙ ap (λ ys. ys ++ c.deref-2.result.now) first ∙ ap (λ ys. drop f.base f.outside.now ++ ys) c.deref-2.ensures.value in
    c.over-2.ensures.current ∙ copied (f.outside.now ++ f.slots.items) items f.base (lent_both f.outside.now f.slots.items items f.base inside both)
