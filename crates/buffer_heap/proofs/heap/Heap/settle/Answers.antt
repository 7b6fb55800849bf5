use Rattle.std.proofs.Common.{refl, ◌≡◌, None, length}
use Rattle.buffer_heap.specs.Heaps.{Held, In, Out, with_content}
use Rattle.buffer_heap.proofs.Lives.{even_kept}
use Rattle.buffer_heap.proofs.Numbers.{place_numbered}
use Rattle.buffer_heap.proofs.Places.{Shows, changed, live_there, settled_there, positive_there}
use Rattle.buffer_heap.proofs.heap.Heap.settle.Goals as goal

pub returns : goal.returns
returns c =
    let M : Held → Type 0 = λ x. x.content ≡ Out (length c.args.cells.items) in
    let p = c.index_mut-place.result.now in
    let s : Shows c.self.inside c.args.self.now c.args.id.place p M = record { view = c.self.view_is; is = c.index_mut-place.ensures.value; live = c.requires } in
    changed (λ x. with_content x (In c.args.cells.items)) c.self.inside c.args.self.now c.args.id.place p (record p { cells = c.args.cells; out_len = None }) M s
    (settled_there p c.args.cells M (live_there c.self.inside c.args.self.now c.args.id.place p M s))

pub invariant_of-self : goal.invariant_of-self
invariant_of-self c =
    let M : Held → Type 0 = λ x. x.content ≡ Out (length c.args.cells.items) in
    let p = c.index_mut-place.result.now in
    let s : Shows c.self.inside c.args.self.now c.args.id.place p M = record { view = c.self.view_is; is = c.index_mut-place.ensures.value; live = c.requires } in
    let some = positive_there p M (live_there c.self.inside c.args.self.now c.args.id.place p M s) in (
      even_kept c.self.inside c.args.self.now c.args.id.place p (record p { cells = c.args.cells; out_len = None }) M s some c.self.invariant.0 some,
      place_numbered c.self.inside c.args.self.now c.args.id.place p (record p { cells = c.args.cells; out_len = None }) M s refl c.self.invariant.1,
    )
