use Rattle.std.proofs.Common.{◌≡◌, ◌++◌, ap, ◌∙◌, subst, map, pos, IfOk, OnOk}
use Rattle.std.proofs.lemmas.List.{map-append}
use lib.IntN.{nat_abs}
use Rattle.sac_base.proofs.Extents.{abs_pos}
use Rattle.sac_base.proofs.shape.Shape.joined.Goals as goal

pub returns-clause-value : goal.returns-clause-value
returns-clause-value c =
    let ms = c.args.self.now in
    let ns = c.args.after.now in
    let first : c.unwrap-extents.result.items ≡ map pos ms =
    subst (λ r. IfOk r (λ v. v.items ≡ c.extents.result.now)) c.unwrap-extents.ensures c.from_slice.ensures.ok ∙ c.extents.ensures.value in
    let both : c.extend_from_slice.new.self.items ≡ c.unwrap-extents.result.items ++ c.extents-2.result.now =
    subst (λ r. OnOk r (c.extend_from_slice.new.self.items ≡ c.unwrap-extents.result.items ++ c.extents-2.result.now)) c.unwrap.ensures c.extend_from_slice.ensures.ok in
    ap (map nat_abs) (both ∙ ap (λ xs. xs ++ c.extents-2.result.now) first ∙ ap (λ xs. map pos ms ++ xs) c.extents-2.ensures.value)
    ∙ map-append nat_abs (map pos ms) (map pos ns) ∙ ap (λ xs. xs ++ map nat_abs (map pos ns)) (abs_pos ms) ∙ ap (λ xs. ms ++ xs) (abs_pos ns)
