use Rattle.std.proofs.Common.{◌≡◌, ℕ, true, false, get_or, map, sym, ap, ◌∙◌, arith}
use Rattle.std.proofs.lemmas.List.{get_or_read, length-map}
use Rattle.std.specs.Prelude.{slice_get}
use Rattle.wl_core.specs.Reading.{setup_of, state_of, cell_of}
use Rattle.wl_core.proofs.States.{facts, some_first}
use Rattle.wl_core.proofs.ending.first_stop.Goals as goal

pub index-requires : goal.index-requires
index-requires c = let few = (facts c.args.setup.now c.args.state.now c.requires).taken_few in let l = c.requires.sized.stops in let ok = c.args.state.now.stopped.ok.0 in omega arith

pub index-requires-then-index : goal.index-requires-then-index
index-requires-then-index c = let few = (facts c.args.setup.now c.args.state.now c.requires).taken_few in let l = c.requires.sized.nexts in let ok = c.args.state.now.next.ok.0 in omega arith

pub fault_at-requires-clause-below : goal.fault_at-requires-clause-below
fault_at-requires-clause-below c =
    let u = c.args.setup.now in
    let b = c.args.state.now in
    let chunk = c.loop-chunk.chunk in
    let h = facts u b c.requires in
    let few = h.taken_few in
    let stopped : get_or b.stopped.items chunk false ≡ true = sym (get_or_read b.stopped.items chunk c.index.result.now (let l = c.requires.sized.stops in omega arith) c.index.ensures false) ∙ c.if-index.true in
    let next : c.index-then-index.result.now ≡ (state_of (setup_of u) b).next chunk = get_or_read b.next.items chunk c.index-then-index.result.now (let l = c.requires.sized.nexts in omega arith) c.index-then-index.ensures 0 in
    let stop = (h.stops chunk c.loop-chunk-test.true stopped).0 in
    let len = length-map u.cells.items cell_of in omega arith

pub fault_at-requires-clause-faults : goal.fault_at-requires-clause-faults
fault_at-requires-clause-faults c =
    let u = c.args.setup.now in
    let b = c.args.state.now in
    let chunk = c.loop-chunk.chunk in
    let h = facts u b c.requires in
    let few = h.taken_few in
    let stopped : get_or b.stopped.items chunk false ≡ true = sym (get_or_read b.stopped.items chunk c.index.result.now (let l = c.requires.sized.stops in omega arith) c.index.ensures false) ∙ c.if-index.true in
    let next : c.index-then-index.result.now ≡ (state_of (setup_of u) b).next chunk = get_or_read b.next.items chunk c.index-then-index.result.now (let l = c.requires.sized.nexts in omega arith) c.index-then-index.ensures 0 in
    let stop = (h.stops chunk c.loop-chunk-test.true stopped).1 in
    (stop.0, ap (λ (k : ℕ). slice_get (map cell_of u.cells.items) k) next ∙ stop.1)

pub returns-then-index : goal.returns-then-index
returns-then-index c =
    let u = c.args.setup.now in
    let b = c.args.state.now in
    let chunk = c.loop-chunk.chunk in
    let h = facts u b c.requires in
    let few = h.taken_few in
    let stopped : get_or b.stopped.items chunk false ≡ true = sym (get_or_read b.stopped.items chunk c.index.result.now (let l = c.requires.sized.stops in omega arith) c.index.ensures false) ∙ c.if-index.true in
    let next : c.index-then-index.result.now ≡ (state_of (setup_of u) b).next chunk = get_or_read b.next.items chunk c.index-then-index.result.now (let l = c.requires.sized.nexts in omega arith) c.index-then-index.ensures 0 in
    some_first (setup_of u) (state_of (setup_of u) b) chunk c.index-then-index.result.now c.fault_at.result c.loop-chunk-test.true stopped c.loop-chunk.invariant next c.fault_at.ensures
