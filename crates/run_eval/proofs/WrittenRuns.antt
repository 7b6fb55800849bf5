-- The cells of a loop one after another, where each is written before the next one is computed: whatever the other cells come to, it is what all come to.
use Rattle.std.proofs.Common.{◌≡◌, ℕ, ◌+◌, ◌<◌, ◌≤◌, List, [], ◌∷◌, length, get_or, drop, sym, ap, ◌∙◌, subst, refl, Result, Ok, Err, Option, Some, None}
use Rattle.std.specs.Prelude.{ℤ, option_map}
use Rattle.std.proofs.lemmas.List.{drop_more, drop_all}
use Rattle.std.proofs.Math.Numerals.{add-one}
use Rattle.sac_base.specs.declared.form.Form.{Form}
use Rattle.sac_base.specs.Arrays.{ArrayValue}
use Rattle.counted_code.specs.Loops.{Source, Old, cells_do, release_rest, write_cell}
use Rattle.counted_code.specs.Machine.{Values}
use Rattle.counted_code.specs.Values.{Heap, Value, Ended, Done, Failed, give, go_on, read}
use Rattle.sac_base.specs.declared.stop.Stop.{Stop}
use Rattle.sac_base.specs.declared.stop.Stop.TheVariants.{Faulted, Memory}
use Rattle.run_store.specs.Stands.{Stands}
use Rattle.run_values.specs.declared.value.RunValue.{RunValue}
use Rattle.run_values.specs.Scopes.{current}
use Rattle.run_values.specs.Shown.{value_of}
use Rattle.run_loops.specs.declared.state.State.{State}
use Rattle.run_loops.specs.Running.{IsAt, SameScopes, Told, ToldStop}
use Rattle.run_loops.specs.Loops.{IsPresent, unreleased}
use Rattle.run_eval.proofs.CellRuns.{Cells}
use Rattle.run_eval.proofs.CellTold.{cell_is, rest_phases}
use Rattle.phase_count.proofs.Tallying.{counts_as}

-- what the cells are is in the buffer
abbrev pub Written : Unit {0} → Cells → Type 0
Written u found = Unit {0}

write_phases : (b k : ℕ) (c : Option ArrayValue) (h : Heap) → (write_cell (Old b) k c h).phases ≡ h.phases
write_phases b k None h = refl
write_phases b k (Some a) h = refl

-- the cells from a place on
abbrev pub writes_on : ℕ → Form → (List ℤ → Option Source) → ℕ → List (List ℤ) → Heap → Ended Cells
writes_on b form source k indices h = cells_do form source (write_cell (Old b)) k indices h

-- from the heap m on all cells are run and written, and k of them have been
pub record Carries (b : ℕ) (form : Form) (source : List ℤ → Option Source) (indices : List (List ℤ)) (m : Heap) (s : State) (k : ℕ) : Type 0 where
  pub heap : Heap
  pub stands : IsAt s heap
  pub carries : (r : Result (Unit {0}) Stop) (t : State) → Told Written r t (writes_on b form source k (drop k indices) heap) → Told Written r t (writes_on b form source 0 indices m)

module _ (b : ℕ) (form : Form) (source : List ℤ → Option Source) (indices : List (List ℤ)) (m : Heap) where
  pub carried_start : (s : State) → IsAt s m → Carries b form source indices m s 0
  carried_start s at = record { heap = m; stands = at; carries = λ r t told. told }

  module _ (s : State) (k : ℕ) (c : Carries b form source indices m s k) where
    -- what follows a cell that is not written yet
    abbrev after_cell : Option Value → Heap → Ended Cells
    after_cell w h =
        let cell = option_map (read h) w in
        go_on (writes_on b form source (k + 1) (drop (k + 1) indices) (write_cell (Old b) k cell (release_rest w h))) (λ cs. give (cell ∷ cs))

    next_is : (d v : List ℤ) → k < length indices → v ≡ get_or indices k d → writes_on b form source k (drop k indices) c.heap ≡ go_on (unreleased form (source v) c.heap) after_cell
    next_is d v inside at =
        ap (λ vs. writes_on b form source k vs c.heap) (drop_more indices k d inside ∙ ap (λ v. v ∷ drop (k + 1) indices) (sym at))
        ∙ (λ i. go_on (cell_is form (source v) c.heap i) (λ cell h. go_on (writes_on b form source (sym (add-one k) i) (drop (k + 1) indices) (write_cell (Old b) k cell h)) (λ cs. give (cell ∷ cs))))
        ∙ after (unreleased form (source v) c.heap)
      where
        after : (end : Ended (Option Value)) → go_on (go_on end (λ w h. Done (option_map (read h) w) (release_rest w h))) (λ cell h. go_on (writes_on b form source (k + 1) (drop (k + 1) indices) (write_cell (Old b) k cell h)) (λ cs. give (cell ∷ cs))) ≡ go_on end after_cell
        after (Done w h) = refl
        after (Failed f phases) = refl

    -- a further cell, which is read, released and written
    pub carried_step : (d v : List ℤ) (o : Option RunValue) (s1 s2 : State) → k < length indices → v ≡ get_or indices k d
        → Told IsPresent (Ok o) s1 (unreleased form (source v) c.heap)
        → ((h : Heap) → Stands s1.heap h → Stands s2.heap (write_cell (Old b) k (option_map (read h) (option_map value_of o)) (release_rest (option_map value_of o) h)))
        → s2.phases ≡ s1.phases → Carries b form source indices m s2 (k + 1)
    carried_step d v o s1 s2 inside at told put same = go (unreleased form (source v) c.heap) (next_is d v inside at) told
      where
        grown : (r : Result (Unit {0}) Stop) (t : State) (cell : Option ArrayValue) (end : Ended Cells) → Told Written r t end → Told Written r t (go_on end (λ cs. give (cell ∷ cs)))
        grown (Ok u) t cell (Done rest h) told = told
        grown (Ok u) t cell (Failed f phases) told = absurd told
        grown (Err (Faulted f)) t cell (Done rest h) told = absurd told
        grown (Err (Faulted f)) t cell (Failed g phases) told = told
        grown (Err Memory) t cell end told = tt

        go : (end : Ended (Option Value)) → writes_on b form source k (drop k indices) c.heap ≡ go_on end after_cell → Told IsPresent (Ok o) s1 end → Carries b form source indices m s2 (k + 1)
        go (Failed f phases) is told = absurd told
        go (Done w h) is told =
            let cell = option_map (read h) w in
            let left = release_rest w h in
            let now = write_cell (Old b) k cell left in
            record {
              heap = now;
              stands = record {
                heap = subst (λ w. Stands s2.heap (write_cell (Old b) k (option_map (read h) w) (release_rest w h))) told.0 (put h told.1.heap);
                phases = counts_as s1.phases s2.phases h.phases now.phases same (sym (write_phases b k cell left ∙ rest_phases w h)) told.1.phases;
              };
              carries = λ r t rest. c.carries r t (subst (λ e. Told Written r t e) (sym is) (grown r t cell (writes_on b form source (k + 1) (drop (k + 1) indices) now) rest));
            }

    -- a stop in a cell
    pub carried_stop : (d v : List ℤ) (stop : Stop) (s1 : State) → k < length indices → v ≡ get_or indices k d
        → ToldStop stop s1 (unreleased form (source v) c.heap) → ToldStop stop s1 (writes_on b form source 0 indices m)
    carried_stop d v stop s1 inside at told = c.carries (Err stop) s1 (subst (ToldStop stop s1) (sym (next_is d v inside at)) (stops stop (unreleased form (source v) c.heap) told))
      where
        stops : (stop : Stop) (end : Ended (Option Value)) → ToldStop stop s1 end → ToldStop stop s1 (go_on end after_cell)
        stops (Faulted f) (Done w h) told = absurd told
        stops (Faulted f) (Failed g phases) told = told
        stops Memory end told = tt

    -- all cells have been run
    pub carried_end : length indices ≤ k → Told Written (Ok tt) s (writes_on b form source 0 indices m)
    carried_end past = c.carries (Ok tt) s (subst (λ vs. Told Written (Ok tt) s (writes_on b form source k vs c.heap)) (sym (drop_all k indices past)) (tt, c.stands))

-- ---- loops, whose cells depend on the values in the scope

module _ (b : ℕ) (form : Form) (source : Values → List ℤ → Option Source) (indices : List (List ℤ)) (s0 : State) where
  abbrev pub Carried : State → ℕ → Type 0
  Carried s k = (m : Heap) → IsAt s0 m → Carries b form (source (current s0.frames)) indices m s k

  module _ (s : State) (k : ℕ) (carried : Carried s k) (same : SameScopes s0.frames s.frames) where
    pub write_step : (v : List ℤ) (o : Option RunValue) (s1 s2 : State) → k < length indices → v ≡ get_or indices k []
        → ((m : Heap) → IsAt s m → Told IsPresent (Ok o) s1 (unreleased form (source (current s.frames) v) m))
        → ((h : Heap) → Stands s1.heap h → Stands s2.heap (write_cell (Old b) k (option_map (read h) (option_map value_of o)) (release_rest (option_map value_of o) h)))
        → s2.phases ≡ s1.phases → Carried s2 (k + 1)
    write_step v o s1 s2 inside is told put phases = λ m at.
        let c = carried m at in
        carried_step b form (source (current s0.frames)) indices m s k c [] v o s1 s2 inside is
        (subst (λ e. Told IsPresent (Ok o) s1 (unreleased form (source e v) c.heap)) same.0 (told c.heap c.stands)) put phases

    pub write_stop : (v : List ℤ) (stop : Stop) (s1 : State) → k < length indices → v ≡ get_or indices k []
        → ((m : Heap) → IsAt s m → ToldStop stop s1 (unreleased form (source (current s.frames) v) m))
        → (m : Heap) → IsAt s0 m → ToldStop stop s1 (writes_on b form (source (current s0.frames)) 0 indices m)
    write_stop v stop s1 inside is told = λ m at.
        let c = carried m at in
        carried_stop b form (source (current s0.frames)) indices m s k c [] v stop s1 inside is
        (subst (λ e. ToldStop stop s1 (unreleased form (source e v) c.heap)) same.0 (told c.heap c.stands))

    pub write_end : length indices ≤ k → (m : Heap) → IsAt s0 m → Told Written (Ok tt) s (writes_on b form (source (current s0.frames)) 0 indices m)
    write_end past = λ m at. carried_end b form (source (current s0.frames)) indices m s k (carried m at) past
