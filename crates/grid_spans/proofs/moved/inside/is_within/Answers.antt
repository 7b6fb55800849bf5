use Rattle.std.proofs.Common.{◌≡◌, ◌↔◌, IsTrue, List, subst, ℤ, pos}
use Rattle.std.specs.Prelude.{false}
use Rattle.std.specs.List.{All}
use Rattle.sac_base.specs.declared.grid.Grid1.{Grid1}
use Rattle.sac_base.specs.Grids.{has_vector}
use Rattle.grid_spans.specs.moved.Within.{HaveMembers, AreWithin}
use Rattle.grid_spans.proofs.moved.WithinFacts.{within_is, nowhere_is}
use Rattle.grid_spans.proofs.moved.inside.is_within.Goals as goal

pub returns-then-has_members : goal.returns-then-has_members
returns-then-has_members c =
    let g = c.args.grid.now in
    let f = c.args.frame.now in
    let b = c.are_within.result in
    let cs = c.args.offset.now in
    let members : HaveMembers g = subst HaveMembers c.axes-axes.ensures.axes (c.has_members.ensures.some c.if-has_members.true) in
    let inside : IsTrue b ↔ AreWithin g cs f =
    subst (λ (h : List Grid1). IsTrue b ↔ AreWithin g cs h) c.axes-ranges.ensures.axes
    (subst (λ (h : List Grid1). IsTrue b ↔ AreWithin h cs c.axes-ranges.result.now) c.axes-axes.ensures.axes c.are_within.ensures) in
    within_is b g f cs c.requires members inside

pub returns-else-has_members : goal.returns-else-has_members
returns-else-has_members c =
    let none = subst (λ (h : List Grid1). (v : List ℤ) → has_vector h v ≡ false) c.axes-axes.ensures.axes (c.has_members.ensures.none c.if-has_members.false) in
    nowhere_is c.args.grid.now c.args.frame.now c.args.offset.now none
