use Rattle.std.proofs.Common.{◌≡◌, ℕ, ◌<◌, ◌≤◌, List, length, arith, refl, sym, ap, subst}
use Rattle.std.proofs.lemmas.Bool.{true≢false}
use Rattle.std.specs.Prelude.{slice_index}
use Rattle.wl_core.specs.Rows.{times_of}
use Rattle.wl_core.proofs.Functions.{sum-none, one-le}
use Rattle.wl_core.proofs.ending.holds_nothing.Goals as goal

pub returns-then-total-ne0 : goal.returns-then-total-ne0
returns-then-total-ne0 c = (
  λ t. absurd (true≢false (sym t)),
  λ nothing.
      let u = c.args.setup.now in
      let b = c.args.state.now in
      let w = c.loop-total.total-index in
      let same : c.deref-total-items.result.now ≡ b.held.items = c.deref-total-items.ensures.value in
      let below : w < length b.held.items = subst (λ (l : List ℕ). w < length l) same c.loop-total-test.true in
      let worker : w < u.workers = let l = c.requires.sized.held in omega arith in
      let total = c.requires.sized.totals w worker in
      let none = sum-none (times_of b.holds w) (length u.counts.items) (λ d lt. nothing w d worker lt) in
      let is = ap (λ (l : List ℕ). slice_index l w) same in
      let some = c.if-total-ne0.true in absurd (omega arith),
)

pub returns : goal.returns
returns c = (
  λ t w d worker buffer.
      let u = c.args.setup.now in
      let b = c.args.state.now in
      let same : c.deref-total-items.result.now ≡ b.held.items = c.deref-total-items.ensures.value in
      let all : length b.held.items ≤ c.loop-total.total-index = subst (λ (l : List ℕ). length l ≤ c.loop-total.total-index) same c.loop-total-test.false in
      let zero = c.loop-total.invariant w (let l = c.requires.sized.held in omega arith) in
      let total = c.requires.sized.totals w worker in
      let one = one-le (times_of b.holds w) d (length u.counts.items) buffer in omega arith,
  λ nothing. refl,
)
