use Rattle.std.proofs.Common.{◌≡◌, Some, subst}
use Rattle.std.specs.Prelude.{slice_get}
use Rattle.core_ir.specs.View.{core_term}
use Rattle.inline_calls.proofs.Instances.{mapped_at, read_at}
use Rattle.inline_calls.proofs.Sizing.{size_found}
use Rattle.inline_calls.proofs.sizes.Measured.size_in.Goals as goal

pub returns : goal.returns
returns c place f i =
    let core = c.args.self.now.core.now in
    let sizes = c.args.self.now.sizes.now.items in
    let ps = c.in_ok-places.places.now in
    let p = c.in_ok-place.place.now in
    let s = c.in_ok-size.size.now in
    let there = subst (λ xs. slice_get xs c.args.group ≡ Some ps) c.deref.ensures.value (read_at c.deref.result.now c.args.group ps c.in_ok-places.ensures.lookup.3.0 c.in_ok-places.ensures.lookup.1) in
    let first = subst (λ xs. slice_get xs 0 ≡ Some p) c.deref-2.ensures.value (read_at c.deref-2.result.now 0 p c.in_ok-place.ensures.lookup.3.0 c.in_ok-place.ensures.lookup.1) in
    let at = subst (λ xs. slice_get xs p ≡ Some s) c.deref-3.ensures.value (read_at c.deref-3.result.now p s c.in_ok-size.ensures.lookup.3.0 c.in_ok-size.ensures.lookup.1) in
    size_found (core_term core) sizes c.args.group place p ps.items f s c.args.self.now.sized i (mapped_at (λ g. g.items) core.groups.items c.args.group ps there) first at
