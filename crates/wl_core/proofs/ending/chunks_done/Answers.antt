use Rattle.std.proofs.Common.{◌≡◌, ℕ, ◌<◌, ◌≤◌, true, false, get_or, inl, inr, refl, sym, ap, ◌∙◌, ⊎_elim, arith}
use Rattle.std.proofs.lemmas.Bool.{cases_lt}
use Rattle.std.proofs.lemmas.List.{get_or_read}
use Rattle.wl_core.specs.Machine.{end}
use Rattle.wl_core.specs.Reading.{setup_of, state_of}
use Rattle.wl_core.proofs.States.{facts}
use Rattle.wl_core.proofs.ending.chunks_done.Goals as goal

pub returns-then-index : goal.returns-then-index
returns-then-index c =
    let u = c.args.setup.now in
    let b = c.args.state.now in
    let chunk = c.loop-chunk.chunk in
    let taken : chunk < b.taken = c.if-chunk-state.false in
    let few = (facts u b c.requires).taken_few in
    let stopped : get_or b.stopped.items chunk false ≡ true = sym (get_or_read b.stopped.items chunk c.index.result.now (let l = c.requires.sized.stops in omega arith) c.index.ensures false) ∙ c.if-index.true in (
      λ t d below. ⊎_elim (λ (l : d < chunk). let i = c.loop-chunk.invariant d l in inl (i.0, i.1))
          (λ (g : chunk ≤ d). ⊎_elim (λ (l : chunk < d). inr (inr (chunk, l, taken, stopped))) (λ (le : d ≤ chunk). let e : d ≡ chunk = omega arith in inr (inl (omega arith, ap (λ (k : ℕ). get_or b.stopped.items k false) e ∙ stopped))) (cases_lt chunk d))
          (cases_lt d chunk),
      λ done. refl,
    )

pub loop-chunk-preserved : goal.loop-chunk-preserved
loop-chunk-preserved c d below =
    let u = c.args.setup.now in
    let b = c.args.state.now in
    let chunk = c.loop-chunk.chunk in
    let taken : chunk < b.taken = c.if-chunk-state.false in
    let h = facts u b c.requires in
    let few = h.taken_few in
    let stopped : get_or b.stopped.items chunk false ≡ false = sym (get_or_read b.stopped.items chunk c.index.result.now (let l = c.requires.sized.stops in omega arith) c.index.ensures false) ∙ c.if-index.false in
    let next : c.index-in-loop-chunk.result.now ≡ (state_of (setup_of u) b).next chunk = get_or_read b.next.items chunk c.index-in-loop-chunk.result.now (let l = c.requires.sized.nexts in omega arith) c.index-in-loop-chunk.ensures 0 in
    let last = c.chunk_end.ensures in
    let reached = c.if-index-chunk_end.false in
    let within = h.within chunk taken in
    let ended : (state_of (setup_of u) b).next chunk ≡ end (setup_of u) chunk = omega arith in
    ⊎_elim (λ (l : d < chunk). c.loop-chunk.invariant d l)
    (λ (g : chunk ≤ d). let e : d ≡ chunk = omega arith in (omega arith, ap (λ (k : ℕ). (state_of (setup_of u) b).next k) e ∙ ended ∙ ap (end (setup_of u)) (sym e), ap (λ (k : ℕ). get_or b.stopped.items k false) e ∙ stopped))
    (cases_lt d chunk)
