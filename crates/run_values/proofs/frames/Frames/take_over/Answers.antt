use Rattle.std.proofs.Common.{rules, All, ap, subst, reverse, ◌∙◌, ◌≡◌, ◌++◌, length}
use Rattle.run_values.specs.Scopes.{IsBehind, around, slots_of}
use Rattle.run_values.proofs.Outside.{none_outside, turned}
use Rattle.run_values.proofs.frames.Frames.take_over.Goals as goal

pub returns-clause-outer : goal.returns-clause-outer
returns-clause-outer c =
    let f = c.args.self.now in
    let n = length f.outside.now in
    let first = c.in_ok-extend_from_slice.ensures.items ∙ ap (λ ys. ys ++ f.outside.now) c.new-slots.ensures.items in
    let items : c.extend_from_slice-2.new.self.items ≡ f.outside.now ++ f.slots.items =
    c.in_ok-extend_from_slice-2.ensures.items ∙ ap (λ ys. ys ++ c.deref-2.result.now) first ∙ ap (λ ys. f.outside.now ++ ys) c.deref-2.ensures.value in
    let are : All (IsBehind n) f.trail.items = subst (All (IsBehind n)) c.deref.ensures.value (c.are_behind.ensures (search rules)) in
    ap (λ zs. around 0 (reverse f.trail.items) (slots_of zs) f.base) items
    ∙ none_outside (reverse f.trail.items) n (slots_of (f.outside.now ++ f.slots.items)) f.base (turned n f.trail.items are)
