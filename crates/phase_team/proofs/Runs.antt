-- The workers of a phase, in any order, are a run of the machine.
use Rattle.std.proofs.Common.{◌≡◌, ◌≢◌, ℕ, zero, suc, ◌<◌, ◌≤◌, ◌⊎◌, Bool, true, false, Some, Ok, Err, refl, sym, subst, ◌∙◌, inl, inr, ⊎_elim, arith}
use Rattle.std.specs.Prelude.{slice_get}
use Rattle.std.proofs.lemmas.Bool.{cases_eq, cases_lt, true≢false}
use Rattle.std.proofs.lemmas.Option.{slice_get_cases}
use Rattle.wl_core.specs.declared.events.Event.TheVariants.{Draw, Write, Stop}
use Rattle.wl_core.specs.Facts.{Facts}
use Rattle.wl_core.specs.Machine.{CellValue, SetupValue, StateValue, ChunksDone, Works, chunks, end}
use Rattle.phase_team.specs.Schedules.{CanAct, IsThrough, AllThrough}

-- a chunk below n on which the worker works, or there is none
abbrev FoundBelow : SetupValue → StateValue → ℕ → ℕ → Type 0
FoundBelow u s w n = ((c : ℕ) × Works u s w c) ⊎ ((c : ℕ) → c < n → ¬ Works u s w c)

stopped_or_not : (b : Bool) → (b ≡ true) ⊎ (b ≡ false)
stopped_or_not true = inl refl
stopped_or_not false = inr refl

module _ (u : SetupValue) (s : StateValue) (w : ℕ) where
  -- whether the worker works on a chunk
  works_on : (c : ℕ) → Works u s w c ⊎ (¬ Works u s w c)
  works_on c =
      ⊎_elim
      (λ (taken : c < s.taken).
      ⊎_elim
      (λ (own : s.owner c ≡ w).
      ⊎_elim
      (λ (next : s.next c < end u c).
      ⊎_elim (λ (e : s.stopped c ≡ true). inr (λ works. true≢false (sym e ∙ works.3))) (λ (e : s.stopped c ≡ false). inl (taken, own, next, e)) (stopped_or_not (s.stopped c)))
      (λ (past : end u c ≤ s.next c). inr (λ works. (let l = works.2 in absurd (omega arith))))
      (cases_lt (s.next c) (end u c)))
      (λ (other : s.owner c ≢ w). inr (λ works. other works.1))
      (cases_eq (s.owner c) w))
      (λ (not_taken : s.taken ≤ c). inr (λ works. (let l = works.0 in absurd (omega arith))))
      (cases_lt c s.taken)

  found_below : (n : ℕ) → FoundBelow u s w n
  found_below zero = inr (λ c lt. absurd (omega arith))
  found_below (suc n) =
      ⊎_elim
      (λ found. inl found)
      (λ none. ⊎_elim (λ works. inl (n, works)) (λ (not : ¬ Works u s w n). inr (λ c lt works. ⊎_elim (λ (e : c ≡ n). not (subst (λ (d : ℕ). Works u s w d) e works)) (λ (ne : c ≢ n). none c (omega arith) works) (cases_eq c n))) (works_on n))
      (found_below n)

  -- the next cell of a chunk is written, or stops it
  act_on : (c : ℕ) → w < u.workers → Works u s w c → CanAct u s w
  act_on c few works =
      ⊎_elim
      (λ there. act_at there.0 there.2)
      (λ past. (let l = works.2 in let p = past.0 in absurd (omega arith)))
      (slice_get_cases u.cells (s.next c)).1
    where
      act_at : (x : CellValue) → slice_get u.cells (s.next c) ≡ Some x → CanAct u s w
      act_at (Ok value) is = (Write w, _, refl, (few, (c, value, works, is, refl)))
      act_at (Err fault) is = (Stop w, _, refl, (few, (c, fault, works, is, refl)))

  -- a worker acts, or it is through
  pub acts : w < u.workers → CanAct u s w ⊎ IsThrough u s w
  acts few =
      ⊎_elim
      (λ found. inl (act_on found.0 few found.1))
      (λ none.
      let idle : (c : ℕ) → ¬ Works u s w c = λ c works. none c works.0 works in
      ⊎_elim (λ (left : s.taken < chunks u). inl (Draw w, _, refl, (few, idle, left, refl))) (λ (all : chunks u ≤ s.taken). inr (record { idle = idle; none_left = inl all })) (cases_lt s.taken (chunks u)))
      (found_below s.taken)

module _ (u : SetupValue) (s : StateValue) (facts : Facts u s) (all : AllThrough u s) where
  -- a taken chunk has ended or stopped
  done : (c : ℕ) → c < s.taken → (s.next c ≡ end u c) ⊎ (s.stopped c ≡ true)
  done c taken =
      ⊎_elim
      (λ (e : s.stopped c ≡ true). inr e)
      (λ (going : s.stopped c ≡ false).
      ⊎_elim
      (λ (next : s.next c < end u c). absurd ((all (s.owner c) (facts.owners c taken)).idle c (taken, refl, next, going)))
      (λ (past : end u c ≤ s.next c). inl (let most = (facts.within c taken).1 in omega arith))
      (cases_lt (s.next c) (end u c)))
      (stopped_or_not (s.stopped c))

  taken_done : (c : ℕ) → c < s.taken → ((c < s.taken) × (s.next c ≡ end u c)) ⊎ (((c < s.taken) × (s.stopped c ≡ true)) ⊎ ((d : ℕ) × (d < c) × (d < s.taken) × (s.stopped d ≡ true)))
  taken_done c taken = ⊎_elim (λ e. inl (taken, e)) (λ e. inr (inl (taken, e))) (done c taken)

  -- where all are through, and there is a worker, every chunk is done
  pub chunks_done : 1 ≤ u.workers → ChunksDone u s
  chunks_done some c there =
      ⊎_elim
      (λ (taken : c < s.taken). taken_done c taken)
      (λ (not_taken : s.taken ≤ c).
      ⊎_elim
      (λ (none : chunks u ≤ s.taken). absurd (omega arith))
      (λ stopped. inr (inr (stopped.0, (let l = stopped.1 in omega arith), stopped.1, stopped.2)))
      (all 0 (omega arith)).none_left)
      (cases_lt c s.taken)
