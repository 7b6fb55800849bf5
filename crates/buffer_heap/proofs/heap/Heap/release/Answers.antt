use Rattle.std.proofs.Common.{refl, ◌-◌, arith}
use Rattle.buffer_heap.specs.Heaps.{IsIn}
use Rattle.buffer_heap.proofs.Lives.{even_kept}
use Rattle.buffer_heap.proofs.Numbers.{place_numbered}
use Rattle.buffer_heap.proofs.Places.{Shows, live_there, positive_there, released_one}
use Rattle.buffer_heap.proofs.heap.Heap.release.Goals as goal

pub returns-then-place-gt1-clause-heap : goal.returns-then-place-gt1-clause-heap
returns-then-place-gt1-clause-heap c =
    let p = c.index_mut-place.result.now in
    let s : Shows c.self.inside c.args.self.now c.args.id.place p IsIn = record { view = c.self.view_is; is = c.index_mut-place.ensures.value; live = c.requires } in
    released_one c.self.inside c.args.self.now c.args.id.place p IsIn s (omega (arith, c.if-place-gt1.true))

pub invariant_of-self : goal.invariant_of-self
invariant_of-self c =
    let p = c.index_mut-place.result.now in
    let s : Shows c.self.inside c.args.self.now c.args.id.place p IsIn = record { view = c.self.view_is; is = c.index_mut-place.ensures.value; live = c.requires } in
    let some = positive_there p IsIn (live_there c.self.inside c.args.self.now c.args.id.place p IsIn s) in (
      even_kept c.self.inside c.args.self.now c.args.id.place p (record p { count = p.count - 1 }) IsIn s some c.self.invariant.0 (omega (arith, c.if-place-gt1.true)),
      place_numbered c.self.inside c.args.self.now c.args.id.place p (record p { count = p.count - 1 }) IsIn s refl c.self.invariant.1,
    )
