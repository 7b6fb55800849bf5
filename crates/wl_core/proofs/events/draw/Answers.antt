use Rattle.std.proofs.Common.{ℕ, ◌+◌, ◌<◌, set, refl, ap, arith}
use Rattle.wl_core.specs.Reading.{setup_of, state_of}
use Rattle.wl_core.specs.Machine.{Works, chunks}
use Rattle.wl_core.proofs.States.{facts}
use Rattle.wl_core.proofs.Moves.{draws}
use Rattle.wl_core.proofs.events.draw.Goals as goal

pub index_mut-requires : goal.index_mut-requires
index_mut-requires c =
    let u = c.args.setup.now in
    let b = c.args.state.now in
    let few = (facts u b c.requires).taken_few in
    let o = c.requires.sized.owners in
    let other = c.if-chunk-len.false in
    let len = c.len.ensures in
    let ok = b.owner.ok.0 in
    omega arith

pub chunk_start-requires-clause-chunk : goal.chunk_start-requires-clause-chunk
chunk_start-requires-clause-chunk c =
    let u = c.args.setup.now in
    let b = c.args.state.now in
    let few = (facts u b c.requires).taken_few in
    let o = c.requires.sized.owners in
    let other = c.if-chunk-len.false in
    let len = c.len.ensures in
    let ok = b.owner.ok.0 in
    omega arith

pub index_mut-requires-2 : goal.index_mut-requires-2
index_mut-requires-2 c =
    let u = c.args.setup.now in
    let b = c.args.state.now in
    let few = (facts u b c.requires).taken_few in
    let o = c.requires.sized.owners in
    let other = c.if-chunk-len.false in
    let len = c.len.ensures in
    let ok = b.owner.ok.0 in
    let n = c.requires.sized.nexts in
    let ok' = b.next.ok.0 in omega arith

pub index_mut-requires-3 : goal.index_mut-requires-3
index_mut-requires-3 c =
    let u = c.args.setup.now in
    let b = c.args.state.now in
    let few = (facts u b c.requires).taken_few in
    let o = c.requires.sized.owners in
    let other = c.if-chunk-len.false in
    let len = c.len.ensures in
    let ok = b.owner.ok.0 in
    let n = c.requires.sized.stops in
    let ok' = b.stopped.ok.0 in omega arith

pub overflow_add-state : goal.overflow_add-state
overflow_add-state c =
    let u = c.args.setup.now in
    let b = c.args.state.now in
    let few = (facts u b c.requires).taken_few in
    let o = c.requires.sized.owners in
    let other = c.if-chunk-len.false in
    let len = c.len.ensures in
    let ok = b.owner.ok.0 in
    let small = b.owner.small in
    record { fits = omega arith }

pub returns : goal.returns
returns c =
    let u = c.args.setup.now in
    let b = c.args.state.now in
    let few = (facts u b c.requires).taken_few in
    let o = c.requires.sized.owners in
    let other = c.if-chunk-len.false in
    let len = c.len.ensures in
    let ok = b.owner.ok.0 in
    let below : b.taken < chunks (setup_of u) = omega arith in
    let next = c.chunk_start.ensures in
    let idle : (k : ℕ) → ¬ Works (setup_of u) (state_of (setup_of u) b) c.args.worker k = c.in-None.ensures in
    draws u b c.requires c.args.worker (b.taken + 1) _ _ _ _ c.if-worker-setup.false idle below refl refl (ap (λ (x : ℕ). set b.next.items b.taken x) next) refl refl
