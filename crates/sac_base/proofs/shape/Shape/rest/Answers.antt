use Rattle.std.proofs.Common.{◌≡◌, ◌-◌, ap, ◌∙◌, subst, sym, drop, take, length, map, IfOk}
use Rattle.std.proofs.lemmas.List.{take_rest, drop-map}
use lib.IntN.{nat_abs}
use Rattle.sac_base.proofs.shape.Shape.rest.Goals as goal

pub returns : goal.returns
returns c =
    let n = c.args.n in
    let xs = c.as_slice.result.now in
    let copied : c.unwrap-extents.result.items ≡ take (length xs - n) (drop n xs) =
    subst (λ r. IfOk r (λ v. v.items ≡ take (length xs - n) (drop n xs))) c.unwrap-extents.ensures c.from_slice.ensures.ok in
    ap (map nat_abs) (copied ∙ take_rest xs n ∙ ap (drop n) c.as_slice.ensures) ∙ sym (drop-map nat_abs n c.self.inside.extents.items) ∙ ap (drop n) c.self.view_is
