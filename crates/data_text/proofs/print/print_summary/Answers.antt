use Rattle.std.proofs.Common.{◌≡◌, ◌∙◌, ap, subst, List, ℕ, pos, map}
use Rattle.std.specs.Prelude.{unsigned_abs}
use Rattle.sac_base.proofs.Extents.{abs_pos}
use Rattle.data_text.specs.Printed.{Appends, summary_text}
use Rattle.data_text.proofs.print.print_summary.Goals as goal

pub returns : goal.returns
returns c =
    let a = c.args.array.now in
    let shape : map unsigned_abs c.extents.result.now ≡ a.shape = ap (map unsigned_abs) (c.extents.ensures.value ∙ ap (map pos) c.shape.ensures) ∙ abs_pos a.shape in
    subst (λ (t : List ℕ). Appends c.args.into.now.items c.push_summary.new.into.items c.push_summary.result t) (λ i. summary_text (c.base.ensures i) (shape i) (c.cells.ensures.value i)) c.push_summary.ensures
