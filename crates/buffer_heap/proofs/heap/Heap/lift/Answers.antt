use Rattle.std.proofs.Common.{refl, rules, Some}
use Rattle.buffer_heap.specs.Heaps.{Out, IsInAndSole, len_of, content_of, with_content}
use Rattle.buffer_heap.proofs.Lives.{even_kept}
use Rattle.buffer_heap.proofs.Numbers.{place_numbered}
use Rattle.buffer_heap.proofs.Places.{Shows, changed, live_there, lifted_there, positive_there}
use Rattle.buffer_heap.proofs.heap.Heap.lift.Goals as goal

pub returns-clause-heap : goal.returns-clause-heap
returns-clause-heap c =
    let p = c.index_mut-place.result.now in
    let s : Shows c.self.inside c.args.self.now c.args.id.place p IsInAndSole = record { view = c.self.view_is; is = c.index_mut-place.ensures.value; live = c.requires } in
    changed (λ x. with_content x (Out (len_of (content_of x)))) c.self.inside c.args.self.now c.args.id.place p (record p { cells = c.replace.new.dest; out_len = Some c.len.result }) IsInAndSole s
    (lifted_there p c.replace.new.dest c.len.result IsInAndSole (λ x m. m.0) (search rules) (live_there c.self.inside c.args.self.now c.args.id.place p IsInAndSole s))

pub invariant_of-self : goal.invariant_of-self
invariant_of-self c =
    let p = c.index_mut-place.result.now in
    let s : Shows c.self.inside c.args.self.now c.args.id.place p IsInAndSole = record { view = c.self.view_is; is = c.index_mut-place.ensures.value; live = c.requires } in
    let some = positive_there p IsInAndSole (live_there c.self.inside c.args.self.now c.args.id.place p IsInAndSole s) in (
      even_kept c.self.inside c.args.self.now c.args.id.place p (record p { cells = c.replace.new.dest; out_len = Some c.len.result }) IsInAndSole s some c.self.invariant.0 some,
      place_numbered c.self.inside c.args.self.now c.args.id.place p (record p { cells = c.replace.new.dest; out_len = Some c.len.result }) IsInAndSole s refl c.self.invariant.1,
    )
