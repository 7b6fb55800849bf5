use Rattle.std.proofs.Common.{◌≡◌, ◌↔◌, IsTrue, List, map, subst, ℤ, pos}
use Rattle.sac_base.specs.declared.grid.Grid1.{Grid1}
use Rattle.grid_spans.specs.moved.Within.{HaveMembers}
use Rattle.total_cells.specs.Inside.{AreInside}
use Rattle.total_cells.proofs.InsideFacts.{inside_is, nowhere_is}
use Rattle.total_cells.proofs.inside.is_inside.Goals as goal

pub returns-then-has_members : goal.returns-then-has_members
returns-then-has_members c =
    let g = c.args.grid.now in
    let b = c.are_inside.result in
    let cs = c.args.numbers.now in
    let members : HaveMembers g = subst HaveMembers c.axes-axes.ensures.axes (c.has_members.ensures.some c.if-has_members.true) in
    let inside : IsTrue b ↔ AreInside g (map pos c.args.shape.now) cs =
    subst (λ (zs : List ℤ). IsTrue b ↔ AreInside g zs cs) c.extents-extents.ensures.value
    (subst (λ (h : List Grid1). IsTrue b ↔ AreInside h c.extents-extents.result.now cs) c.axes-axes.ensures.axes c.are_inside.ensures) in
    inside_is b g c.args.shape.now cs c.extents-extents.ensures.shape members inside

pub returns-else-has_members : goal.returns-else-has_members
returns-else-has_members c =
    let none = subst (λ (h : List Grid1). (v : List ℤ) → Rattle.sac_base.specs.Grids.has_vector h v ≡ Rattle.std.specs.Prelude.false) c.axes-axes.ensures.axes (c.has_members.ensures.none c.if-has_members.false) in
    nowhere_is c.args.grid.now c.args.shape.now c.args.numbers.now c.extents-extents.ensures.shape none
