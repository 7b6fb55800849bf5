use Rattle.std.proofs.Common.{◌≡◌, ◌∙◌, subst}
use Rattle.std.specs.List.{each_same}
use Rattle.sac_base.specs.Verdict.{joined}
use Rattle.wl_core.specs.Machine.{listed}
use Rattle.wl_core.specs.Rows.{RowsValue, row_of}
use Rattle.wl_core.proofs.Buffers.{joined_rows}
use Rattle.wl_core.proofs.rows.Rows.joined.Goals as goal

pub returns : goal.returns
returns c =
    let same : c.in_ok-clone.field-0.items ≡ c.self.inside.cells.items = each_same c.self.inside.cells.items c.in_ok-clone.field-0.items c.in_ok-clone.ensures.cases.0 in
    subst (λ (r : RowsValue). c.in_ok-clone.field-0.items ≡ joined (listed (row_of r) r.count)) c.self.view_is
    (same ∙ joined_rows (record { width = c.self.inside.width; count = c.self.inside.count; cells = c.self.inside.cells.items }) c.self.invariant)
