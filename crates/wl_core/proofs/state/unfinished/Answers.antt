use Rattle.std.proofs.Common.{◌≡◌, ℕ, false, arith, sym, ◌∙◌}
use Rattle.std.proofs.lemmas.Bool.{true≢false}
use Rattle.std.proofs.lemmas.List.{get_or_read}
use Rattle.wl_core.specs.Machine.{Works}
use Rattle.wl_core.specs.Reading.{setup_of, state_of}
use Rattle.wl_core.proofs.States.{facts, not_working, works_by}
use Rattle.wl_core.proofs.state.unfinished.Goals.{else-chunk-state-via-then-chunk-state+then-index-worker+then-not-index+else-index-chunk_end, else-chunk-state-via-then-chunk-state+then-index-worker+else-not-index, else-chunk-state-via-then-chunk-state+else-index-worker, else-chunk-state-via-else-chunk-state}
use Rattle.wl_core.proofs.state.unfinished.Goals as goal

pub index-requires : goal.index-requires
index-requires c = let h = facts c.args.setup.now c.args.state.now c.requires.reached in let t = h.taken_few in let o = c.requires.reached.sized.owners in omega arith

pub index-requires-then-index-worker : goal.index-requires-then-index-worker
index-requires-then-index-worker c = let h = facts c.args.setup.now c.args.state.now c.requires.reached in let t = h.taken_few in let o = c.requires.reached.sized.stops in omega arith

pub index-requires-then-not-index : goal.index-requires-then-not-index
index-requires-then-not-index c = let h = facts c.args.setup.now c.args.state.now c.requires.reached in let t = h.taken_few in let o = c.requires.reached.sized.nexts in omega arith

pub chunk_end-requires-clause-chunk : goal.chunk_end-requires-clause-chunk
chunk_end-requires-clause-chunk c = let h = facts c.args.setup.now c.args.state.now c.requires.reached in let t = h.taken_few in omega arith

pub returns-then-index-chunk_end : goal.returns-then-index-chunk_end
returns-then-index-chunk_end c =
    works_by c.args.setup.now c.args.state.now c.args.worker c.index-chunk.result.now c.index.result.now c.index-then-not-index.result.now c.index-then-index-worker.result.now c.chunk_end.result c.requires.reached
    c.if-chunk-state.true c.index.ensures c.index-then-not-index.ensures c.index-then-index-worker.ensures c.if-index-worker.true c.if-index-chunk_end.true c.chunk_end.ensures c.if-not-index.true

pub returns-else-chunk-state : goal.returns-else-chunk-state
returns-else-chunk-state c =
    let u = c.args.setup.now in
    let b = c.args.state.now in
    let w = c.args.worker in
    let chunk = c.index-chunk.result.now in
    let few = (facts u b c.requires.reached).taken_few in
    let sized = c.requires.reached.sized in
    let last : (d : ℕ) → Works (setup_of u) (state_of (setup_of u) b) w d → chunk ≡ d =
    (λ d k. get_or_read b.latest.items w chunk (let l = sized.latest in let r = c.requires.worker in omega arith) c.index-chunk.ensures 0 ∙ sized.last w d k) in
    not_working (setup_of u) (state_of (setup_of u) b) w chunk last (elim c.else-chunk-state.branch [
      | else-chunk-state-via-then-chunk-state+then-index-worker+then-not-index+else-index-chunk_end t ↦
          (λ (k : Works (setup_of u) (state_of (setup_of u) b) w chunk). let n = get_or_read b.next.items chunk t.index-then-not-index.result.now (let l = sized.nexts in let x = t.if-chunk-state.true in omega arith) t.index-then-not-index.ensures 0 in
          let e = t.chunk_end.ensures in let f = t.if-index-chunk_end.false in let before = k.2 in omega arith)
      | else-chunk-state-via-then-chunk-state+then-index-worker+else-not-index t ↦
          (λ (k : Works (setup_of u) (state_of (setup_of u) b) w chunk). let n = get_or_read b.stopped.items chunk t.index-then-index-worker.result.now (let l = sized.stops in let x = t.if-chunk-state.true in omega arith) t.index-then-index-worker.ensures false in
          true≢false (sym t.if-not-index.false ∙ n ∙ k.3))
      | else-chunk-state-via-then-chunk-state+else-index-worker t ↦
          (λ (k : Works (setup_of u) (state_of (setup_of u) b) w chunk). let n = get_or_read b.owner.items chunk t.index.result.now (let l = sized.owners in let x = t.if-chunk-state.true in omega arith) t.index.ensures 0 in
          t.if-index-worker.false (n ∙ k.1))
      | else-chunk-state-via-else-chunk-state t ↦ (λ (k : Works (setup_of u) (state_of (setup_of u) b) w chunk). let f = t.if-chunk-state.false in let g = k.0 in omega arith)
    ])
