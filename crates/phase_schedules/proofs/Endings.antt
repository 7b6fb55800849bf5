-- Cells that are done have the sequential verdict.
use Rattle.std.proofs.Common.{◌≡◌, ℕ, ◌/◌, ◌<◌, ◌≤◌, ◌⊎◌, true, false, ℤ, List, length, Option, refl, sym, ap, ◌∙◌, inl, inr, ⊎_elim, arith}
use Rattle.std.proofs.lemmas.Bool.{cases_Bool, cases_lt, true≢false}
use Rattle.std.specs.Prelude.{slice_get}
use Rattle.sac_base.specs.declared.faults.Fault.{Fault}
use Rattle.wl_core.specs.declared.setup.Job.{Job}
use Rattle.wl_core.specs.declared.setup.Job.TheVariants.{Write as Store, Fold}
use Rattle.wl_core.specs.Facts.{Facts, NoneStopped, Settled, StopsFirst, cell_at, made_by, own, partial_by, stored_by}
use Rattle.wl_core.specs.Machine.{ChunksDone, Finished, IsSetup, Reached, SetupValue, StateValue, chunks, end, whole}
use Rattle.wl_core.proofs.Functions.{listed-same}
use Rattle.wl_core.proofs.Kept.{first_below, reached_facts}
use Rattle.wl_core.proofs.Verdicts.{chunk_below, chunk_from, chunk_there, settled}
use Rattle.phase_schedules.specs.Moments.{Work, ending}
use Rattle.phase_schedules.specs.Readings.{IsAlike, SameCells, CellsDone, IsOver}
use Rattle.phase_schedules.proofs.Cells.{Made}

-- two states that say the same of the cells come to the same
made_alike : (j : Job) (positions workers : ℕ) (s t : StateValue) → ((p : ℕ) → p < positions → s.stored p ≡ t.stored p) → ((w : ℕ) → w < workers → s.partial w ≡ t.partial w)
    → made_by j positions workers s ≡ made_by j positions workers t
made_alike Store positions workers s t stored partials = ap (λ (l : List (Option (List ℤ))). whole Store l) (listed-same s.stored t.stored positions stored)
made_alike (Fold base op) positions workers s t stored partials = ap (λ (l : List (Option (List ℤ))). whole (Fold base op) l) (listed-same s.partial t.partial workers partials)

module _ (u : SetupValue) (k : Work) (s : StateValue) (is : IsSetup u) (reached : Reached u s) (h : Made u k s) (alike : (c : ℕ) → c < s.taken → IsAlike k s c) where
  written_so_far : (p : ℕ) → p < length u.cells → k.written p ≡ s.written p
  written_so_far p lt =
      let f = reached_facts u s is reached in
      let c = p / u.size in
      let from = chunk_from u is.size p in
      let below = chunk_below u is.size p lt in
      ⊎_elim
      (λ (taken : c < s.taken).
      let e = (alike c taken).0 in
      ⊎_elim
      (λ (before : p < k.next c). h.done c p taken from before ∙ sym (f.done c p taken from (omega arith)).0)
      (λ (after : k.next c ≤ p). h.ahead c p after below ∙ sym (f.ahead c p taken (omega arith) below))
      (cases_lt p (k.next c)))
      (λ (free : s.taken ≤ c). h.ahead c p (let e = (h.fresh c free).0 in omega arith) below ∙ sym (f.untaken c p free from below))
      (cases_lt c s.taken)

  -- where the machine has each chunk as the workers have it, all cells are the same
  pub same_cells : SameCells u k s
  same_cells =
      let f = reached_facts u s is reached in record {
        written = written_so_far;
        stored = λ p lt. h.stored p ∙ ap (λ (l : List ℕ). stored_by u.job l (cell_at u p)) (written_so_far p lt) ∙ sym (f.stored p);
        partials = λ w. h.partials w
            ∙ ap (λ (l : List (Option (List ℤ))). partial_by u.job l)
            (listed-same (λ p. own w (k.written p) (cell_at u p)) (λ p. own w (s.written p) (cell_at u p)) (length u.cells) (λ p l. ap (λ (x : List ℕ). own w x (cell_at u p)) (written_so_far p l)))
            ∙ sym (f.partials w);
      }

module _ (u : SetupValue) (k : Work) (s : StateValue) (is : IsSetup u) (reached : Reached u s) (h : Made u k s) (all : CellsDone u k) where
  facts : Facts u s
  facts = reached_facts u s is reached

  -- a chunk in which a cell was written, or was met that faults, was drawn
  drawn_if_ended : (c : ℕ) → c < chunks u → k.next c ≡ end u c → c < s.taken
  drawn_if_ended c lt e = ⊎_elim (λ (l : c < s.taken). l) (λ (ge : s.taken ≤ c). absurd (let x = (h.fresh c ge).0 in let f = first_below u c is.size lt in let size = is.size in omega arith)) (cases_lt c s.taken)

  drawn_if_stopped : (c : ℕ) → k.stopped c ≡ true → c < s.taken
  drawn_if_stopped c st = ⊎_elim (λ (l : c < s.taken). l) (λ (ge : s.taken ≤ c). absurd (true≢false (sym st ∙ (h.fresh c ge).1))) (cases_lt c s.taken)

  ended_there : (c : ℕ) → c < s.taken → k.next c ≡ end u c → s.next c ≡ end u c
  ended_there c lt e =
      ⊎_elim
      (λ (x : (k.next c ≡ s.next c) × (k.stopped c ≡ s.stopped c)). sym x.0 ∙ e)
      (λ (x : IsOver u s c × (k.stopped c ≡ false) × (k.next c ≤ s.next c)). let l = x.2 in let w = (facts.within c lt).1 in omega arith)
      (h.as_far c lt)

  stopped_there : (c : ℕ) → k.stopped c ≡ true → (c < s.taken) × (s.stopped c ≡ true) × (k.next c ≡ s.next c)
  stopped_there c st =
      let lt = drawn_if_stopped c st in
      ⊎_elim
      (λ (x : (k.next c ≡ s.next c) × (k.stopped c ≡ s.stopped c)). (lt, sym x.1 ∙ st, x.0))
      (λ (x : IsOver u s c × (k.stopped c ≡ false) × (k.next c ≤ s.next c)). absurd (true≢false (sym st ∙ x.1)))
      (h.as_far c lt)

  pub chunks_done : ChunksDone u s
  chunks_done c lt =
      ⊎_elim
      (λ (e : k.next c ≡ end u c). let l = drawn_if_ended c lt e in inl (l, ended_there c l e))
      (λ (r : (k.stopped c ≡ true) ⊎ ((d : ℕ) × (d < c) × (k.stopped d ≡ true))).
      ⊎_elim
      (λ (e : k.stopped c ≡ true). let x = stopped_there c e in inr (inl (x.0, x.1)))
      (λ (e : (d : ℕ) × (d < c) × (k.stopped d ≡ true)). let x = stopped_there e.0 e.2 in inr (inr (e.0, e.1, x.0, x.1)))
      r)
      (all c lt)

  -- Where no worker met a fault up to a chunk, the machine has none there
  unstopped : (c : ℕ) → c < s.taken → ((d : ℕ) → d ≤ c → k.stopped d ≡ false) → (k.next c ≡ end u c) × (s.stopped c ≡ false)
  unstopped c lt none =
      let e : k.next c ≡ end u c = ⊎_elim
      (λ (e : k.next c ≡ end u c). e)
      (λ (r : (k.stopped c ≡ true) ⊎ ((d : ℕ) × (d < c) × (k.stopped d ≡ true))).
      ⊎_elim
      (λ (e : k.stopped c ≡ true). absurd (true≢false (sym e ∙ none c (omega arith))))
      (λ (e : (d : ℕ) × (d < c) × (k.stopped d ≡ true)). absurd (true≢false (sym e.2 ∙ none e.0 (let l = e.1 in omega arith))))
      r)
      (all c (let t = facts.taken_few in omega arith)) in
      let there = ended_there c lt e in
      (e, ⊎_elim (λ (st : s.stopped c ≡ true). absurd (let x = (facts.stops c lt st).0 in omega arith)) (λ (st : s.stopped c ≡ false). st) (cases_Bool (s.stopped c)))

  stops_first : (fault : Fault) → StopsFirst u (ending u k) fault → StopsFirst u s fault
  stops_first fault at =
      let c = at.0 in
      let there = stopped_there c at.2 in (
        c,
        there.0,
        there.1,
        (λ d lt. (unstopped d (let l = there.0 in omega arith) (λ e le. at.3 e (omega arith))).1),
        ap (slice_get u.cells) (sym there.2) ∙ at.4,
      )

  module _ (none : (c : ℕ) → c < chunks u → k.stopped c ≡ false) where
    none_stopped : NoneStopped s
    none_stopped c lt = (unstopped c lt (λ d le. none d (let t = facts.taken_few in omega arith))).1

    -- each position was written once, by the worker that the machine says
    written_alike : (p : ℕ) → p < length u.cells → k.written p ≡ s.written p
    written_alike p lt =
        let c = p / u.size in
        let there = chunk_there u is.size p lt in
        let from = chunk_from u is.size p in
        let below = chunk_below u is.size p lt in
        let e : k.next c ≡ end u c = ⊎_elim
        (λ (e : k.next c ≡ end u c). e)
        (λ (r : (k.stopped c ≡ true) ⊎ ((d : ℕ) × (d < c) × (k.stopped d ≡ true))).
        ⊎_elim
        (λ (x : k.stopped c ≡ true). absurd (true≢false (sym x ∙ none c there)))
        (λ (x : (d : ℕ) × (d < c) × (k.stopped d ≡ true)). absurd (true≢false (sym x.2 ∙ none x.0 (let l = x.1 in omega arith))))
        r)
        (all c there) in
        let l = drawn_if_ended c there e in
        let e' = ended_there c l e in
        h.done c p l from (omega arith) ∙ sym (facts.done c p l from (omega arith)).0

    made_the_same : made_by u.job (length u.cells) u.workers s ≡ made_by u.job (length u.cells) u.workers (ending u k)
    made_the_same =
        made_alike u.job (length u.cells) u.workers s (ending u k)
        (λ p lt. facts.stored p ∙ ap (λ (l : List ℕ). stored_by u.job l (cell_at u p)) (sym (written_alike p lt)) ∙ sym (h.stored p))
        (λ w lt. facts.partials w ∙ ap (λ (l : List (Option (List ℤ))). partial_by u.job l)
        (listed-same (λ p. own w (s.written p) (cell_at u p)) (λ p. own w (k.written p) (cell_at u p)) (length u.cells) (λ p l. ap (λ (x : List ℕ). own w x (cell_at u p)) (sym (written_alike p l)))) ∙ sym (h.partials w))

  pub cells_settled : Finished u s → Settled u (ending u k)
  cells_settled fin =
      let all_settled = settled u s is facts fin in record {
        fault = λ fault at. all_settled.fault fault (stops_first fault at);
        made = λ none. all_settled.made (none_stopped none) ∙ made_the_same none;
        counts = λ b lt. refl;
      }
