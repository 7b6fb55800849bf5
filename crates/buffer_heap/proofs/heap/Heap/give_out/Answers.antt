use Rattle.std.proofs.Common.{refl}
use Rattle.buffer_heap.specs.Heaps.{IsInAndSole}
use Rattle.buffer_heap.proofs.Lives.{even_freed}
use Rattle.buffer_heap.proofs.Numbers.{place_numbered}
use Rattle.buffer_heap.proofs.Places.{Shows, live_there, positive_there, sole_there, released_last}
use Rattle.buffer_heap.proofs.heap.Heap.give_out.Goals as goal

pub returns-clause-heap : goal.returns-clause-heap
returns-clause-heap c =
    let p = c.index_mut-place.result.now in
    let s : Shows c.self.inside c.args.self.now c.args.id.place p IsInAndSole = record { view = c.self.view_is; is = c.index_mut-place.ensures.value; live = c.requires } in
    released_last c.self.inside c.args.self.now c.args.id.place p (record p { count = 0; cells = c.replace.new.dest; next = c.self.inside.vacant }) IsInAndSole s
    (sole_there p (live_there c.self.inside c.args.self.now c.args.id.place p IsInAndSole s)) refl

pub invariant_of-self : goal.invariant_of-self
invariant_of-self c =
    let p = c.index_mut-place.result.now in
    let s : Shows c.self.inside c.args.self.now c.args.id.place p IsInAndSole = record { view = c.self.view_is; is = c.index_mut-place.ensures.value; live = c.requires } in
    let some = positive_there p IsInAndSole (live_there c.self.inside c.args.self.now c.args.id.place p IsInAndSole s) in (
      even_freed c.self.inside c.args.self.now c.args.id.place p (record p { count = 0; cells = c.replace.new.dest; next = c.self.inside.vacant }) IsInAndSole s some c.self.invariant.0 refl,
      place_numbered c.self.inside c.args.self.now c.args.id.place p (record p { count = 0; cells = c.replace.new.dest; next = c.self.inside.vacant }) IsInAndSole s refl c.self.invariant.1,
    )
