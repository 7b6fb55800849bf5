use Rattle.std.proofs.Common.{refl, ◌+◌, arith}
use Rattle.buffer_heap.specs.Heaps.{MayBeKept, with_count, count_of}
use Rattle.buffer_heap.proofs.Lives.{even_kept}
use Rattle.buffer_heap.proofs.Numbers.{place_numbered}
use Rattle.buffer_heap.proofs.Places.{Shows, changed, live_there, more_there, positive_there}
use Rattle.buffer_heap.proofs.heap.Heap.keep.Goals as goal

pub returns : goal.returns
returns c =
    let p = c.index_mut.result.now in
    let s : Shows c.self.inside c.args.self.now c.args.id.place p MayBeKept = record { view = c.self.view_is; is = c.index_mut.ensures.value; live = c.requires } in
    changed (λ x. with_count x (count_of x + 1)) c.self.inside c.args.self.now c.args.id.place p (record p { count = p.count + 1 }) MayBeKept s
    (more_there p MayBeKept (live_there c.self.inside c.args.self.now c.args.id.place p MayBeKept s))

pub invariant_of-self : goal.invariant_of-self
invariant_of-self c =
    let p = c.index_mut.result.now in
    let s : Shows c.self.inside c.args.self.now c.args.id.place p MayBeKept = record { view = c.self.view_is; is = c.index_mut.ensures.value; live = c.requires } in (
      even_kept c.self.inside c.args.self.now c.args.id.place p (record p { count = p.count + 1 }) MayBeKept s
          (positive_there p MayBeKept (live_there c.self.inside c.args.self.now c.args.id.place p MayBeKept s)) c.self.invariant.0 (omega arith),
      place_numbered c.self.inside c.args.self.now c.args.id.place p (record p { count = p.count + 1 }) MayBeKept s refl c.self.invariant.1,
    )
