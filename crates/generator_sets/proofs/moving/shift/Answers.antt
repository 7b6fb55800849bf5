use Rattle.std.proofs.Common.{rules, arith, ◌∙◌, ◌<◌, ◌≤◌, length, sym, subst, ap, refl, pos, w32, w64}
use Rattle.std.specs.Prelude.{◌+ℤ◌, FitsSigned, slice_index_or}
use Rattle.std.proofs.lemmas.Int.{to_z-of_z}
use Rattle.sac_base.specs.Grids.{has_vector}
use Rattle.generator_sets.specs.Pieces.{moved}
use Rattle.generator_sets.proofs.Moves.{moved_all, more_moved, fits_here}
use Rattle.generator_sets.proofs.moving.shift.Goals as goal

pub shift_axis-requires-clause-lo : goal.shift_axis-requires-clause-lo
shift_axis-requires-clause-lo c =
    let y : FitsSigned w32 (slice_index_or c.args.by.now c.loop-k.k (pos 0)) = search rules in
    let low : c.loop-k.k < length c.loop-k.axes.items = search rules in
    let fits = fits_here c.args.a c.args.by.now c.loop-k.axes.items c.loop-k.k c.index.result.now c.loop-k.invariant low c.index.ensures c.requires.fits in
    subst (λ z. FitsSigned w64 (c.index.result.now.lo +ℤ z)) (sym (to_z-of_z w32 (slice_index_or c.args.by.now c.loop-k.k (pos 0)) y)) fits.0

pub shift_axis-requires-clause-hi : goal.shift_axis-requires-clause-hi
shift_axis-requires-clause-hi c =
    let y : FitsSigned w32 (slice_index_or c.args.by.now c.loop-k.k (pos 0)) = search rules in
    let low : c.loop-k.k < length c.loop-k.axes.items = search rules in
    let fits = fits_here c.args.a c.args.by.now c.loop-k.axes.items c.loop-k.k c.index.result.now c.loop-k.invariant low c.index.ensures c.requires.fits in
    subst (λ z. FitsSigned w64 (c.index.result.now.hi +ℤ z)) (sym (to_z-of_z w32 (slice_index_or c.args.by.now c.loop-k.k (pos 0)) y)) fits.1

pub loop-k-preserved : goal.loop-k-preserved
loop-k-preserved c =
    let y : FitsSigned w32 (slice_index_or c.args.by.now c.loop-k.k (pos 0)) = search rules in
    let same = to_z-of_z w32 (slice_index_or c.args.by.now c.loop-k.k (pos 0)) y in
    let low : c.loop-k.k < length c.loop-k.axes.items = search rules in
    let now = c.shift_axis.ensures in
    more_moved c.args.a c.args.by.now c.loop-k.axes.items c.loop-k.k c.index.result.now c.shift_axis.result (slice_index_or c.args.by.now c.loop-k.k (pos 0)) low c.index.ensures refl
    (record { lo = now.lo ∙ ap (λ z. c.index.result.now.lo +ℤ z) same; hi = now.hi ∙ ap (λ z. c.index.result.now.hi +ℤ z) same; step = now.step; width = now.width })
    c.loop-k.invariant

pub returns : goal.returns
returns c v =
    let so_far = c.loop-k.invariant in
    let end : length c.args.a ≤ c.loop-k.k = search rules in
    ap (λ g. has_vector g (moved v c.args.by.now)) c.new.ensures ∙ moved_all c.args.a c.args.by.now c.loop-k.axes.items c.requires.axes so_far.long (λ j d l. so_far.done j d (omega arith) l) v
