-- The cells of a loop one after another: whatever the other cells come to, it is what all come to.
use Rattle.std.proofs.Common.{◌≡◌, ℕ, suc, ◌+◌, ◌<◌, ◌≤◌, List, [], ◌∷◌, length, get_or, drop, refl, sym, ap, ◌∙◌, subst, Result, Ok, Err, Option}
use Rattle.std.specs.Prelude.{ℤ, option_map}
use Rattle.std.proofs.lemmas.List.{drop_more, drop_all}
use Rattle.sac_base.specs.declared.form.Form.{Form}
use Rattle.sac_base.specs.Arrays.{ArrayValue}
use Rattle.counted_code.specs.Loops.{Source, Writing, cell_does, cells_do, release_rest}
use Rattle.counted_code.specs.Values.{Heap, Value, Ended, Done, Failed, give, go_on, then_go, read}
use Rattle.sac_base.specs.declared.stop.Stop.{Stop}
use Rattle.sac_base.specs.declared.stop.Stop.TheVariants.{Faulted, Memory}
use Rattle.run_store.specs.Stands.{Stands}
use Rattle.run_values.specs.declared.value.RunValue.{RunValue}
use Rattle.run_values.specs.Shown.{value_of}
use Rattle.run_loops.specs.declared.state.State.{State}
use Rattle.run_loops.specs.Running.{IsAt, Told, ToldStop}
use Rattle.run_loops.specs.Loops.{unreleased, IsPresent, cells_run}
use Rattle.run_eval.proofs.CellTold.{cell_is, rest_phases}
use Rattle.phase_count.proofs.Tallying.{counts_as}

abbrev pub Cells : Type 0
Cells = List (Option ArrayValue)

-- what is made of cells so far and of the cells from a place on
abbrev pub Making : Type 0 → Type 0 → Type 0
Making X Y = X → ℕ → Cells → Y

abbrev pub Makes : {X Y : Type 0} → Making X Y → X → ℕ → Y → Unit {0} → Cells → Type 0
Makes make x k y _ rest = y ≡ make x k rest

-- from the heap m on all cells are run, and k of them have been
pub record Carries {X Y : Type 0} (make : Making X Y) (form : Form) (source : List ℤ → Option Source) (indices : List (List ℤ)) (x0 : X) (m : Heap) (s : State) (x : X) (k : ℕ) : Type 0 where
  pub heap : Heap
  pub stands : IsAt s heap
  pub carries : (r : Result (Unit {0}) Stop) (t : State) (y : Y) → Told (Makes make x k y) r t (cells_run form source (drop k indices) heap) → Told (Makes make x0 0 y) r t (cells_run form source indices m)

module _ {X Y : Type 0} (make : Making X Y) (form : Form) (source : List ℤ → Option Source) (indices : List (List ℤ)) (x0 : X) (m : Heap) where
  pub carried_start : (s : State) → IsAt s m → Carries make form source indices x0 m s x0 0
  carried_start s at = record { heap = m; stands = at; carries = λ r t y told. told }

  module _ (s : State) (x : X) (k : ℕ) (c : Carries make form source indices x0 m s x k) where
    -- a further cell, which is read and released
    pub carried_step : (d v : List ℤ) (o : Option RunValue) (s1 s2 : State) (x' : X) → k < length indices → v ≡ get_or indices k d
        → Told IsPresent (Ok o) s1 (unreleased form (source v) c.heap)
        → ((h : Heap) → Stands s1.heap h → ((rest : Cells) → make x k (option_map (read h) (option_map value_of o) ∷ rest) ≡ make x' (k + 1) rest) × Stands s2.heap (release_rest (option_map value_of o) h))
        → s2.phases ≡ s1.phases → Carries make form source indices x0 m s2 x' (k + 1)
    carried_step d v o s1 s2 x' inside at told put same = go (unreleased form (source v) c.heap) refl told
      where
        grown : (r : Result (Unit {0}) Stop) (t : State) (y : Y) (cell : Option ArrayValue) (end : Ended Cells) → ((rest : Cells) → make x k (cell ∷ rest) ≡ make x' (k + 1) rest)
            → Told (Makes make x' (k + 1) y) r t end → Told (Makes make x k y) r t (go_on end (λ cs. give (cell ∷ cs)))
        grown (Ok u) t y cell (Done rest h) eq told = (told.0 ∙ sym (eq rest), told.1)
        grown (Ok u) t y cell (Failed f phases) eq told = absurd told
        grown (Err (Faulted f)) t y cell (Done rest h) eq told = absurd told
        grown (Err (Faulted f)) t y cell (Failed g phases) eq told = told
        grown (Err Memory) t y cell end eq told = tt

        go : (end : Ended (Option Value)) → unreleased form (source v) c.heap ≡ end → Told IsPresent (Ok o) s1 end → Carries make form source indices x0 m s2 x' (k + 1)
        go (Failed f phases) is told = absurd told
        go (Done w h) is told =
            let p = put h told.1.heap in
            let cell = option_map (read h) w in
            let eq : (rest : Cells) → make x k (cell ∷ rest) ≡ make x' (k + 1) rest = subst (λ w. (rest : Cells) → make x k (option_map (read h) w ∷ rest) ≡ make x' (k + 1) rest) told.0 p.0 in
            let split : drop k indices ≡ v ∷ drop (k + 1) indices = drop_more indices k d inside ∙ ap (λ v. v ∷ drop (k + 1) indices) (sym at) in
            let here : cells_run form source (drop k indices) c.heap ≡ go_on (cells_run form source (drop (k + 1) indices) (release_rest w h)) (λ cs. give (cell ∷ cs)) =
            ap (λ vs. cells_run form source vs c.heap) split
            ∙ ap (λ e. go_on e (λ c. then_go (cells_run form source (drop (k + 1) indices)) (λ cs. give (c ∷ cs)))) (cell_is form (source v) c.heap ∙ ap (λ e. go_on e (λ w h. Done (option_map (read h) w) (release_rest w h))) is) in
            record {
              heap = release_rest w h;
              stands = record { heap = subst (λ w. Stands s2.heap (release_rest w h)) told.0 p.1; phases = counts_as s1.phases s2.phases h.phases (release_rest w h).phases same (sym (rest_phases w h)) told.1.phases };
              carries = λ r t y rest. c.carries r t y (subst (λ e. Told (Makes make x k y) r t e) (sym here) (grown r t y cell (cells_run form source (drop (k + 1) indices) (release_rest w h)) eq rest));
            }

    -- a stop in a cell
    pub carried_stop : (d v : List ℤ) (stop : Stop) (s1 : State) → k < length indices → v ≡ get_or indices k d
        → ToldStop stop s1 (unreleased form (source v) c.heap) → ToldStop stop s1 (cells_run form source indices m)
    carried_stop d v stop s1 inside at told = c.carries (Err stop) s1 (make x k []) (subst (ToldStop stop s1) (sym here) (stops stop (unreleased form (source v) c.heap) told))
      where
        here : cells_run form source (drop k indices) c.heap ≡ go_on (go_on (unreleased form (source v) c.heap) (λ w h. Done (option_map (read h) w) (release_rest w h))) (λ c. then_go (cells_run form source (drop (k + 1) indices)) (λ cs. give (c ∷ cs)))
        here =
            ap (λ vs. cells_run form source vs c.heap) (drop_more indices k d inside ∙ ap (λ v. v ∷ drop (k + 1) indices) (sym at))
            ∙ ap (λ e. go_on e (λ c. then_go (cells_run form source (drop (k + 1) indices)) (λ cs. give (c ∷ cs)))) (cell_is form (source v) c.heap)

        stops : (stop : Stop) (end : Ended (Option Value)) → ToldStop stop s1 end → ToldStop stop s1 (go_on (go_on end (λ w h. Done (option_map (read h) w) (release_rest w h))) (λ c. then_go (cells_run form source (drop (k + 1) indices)) (λ cs. give (c ∷ cs))))
        stops (Faulted f) (Done w h) told = absurd told
        stops (Faulted f) (Failed g phases) told = told
        stops Memory end told = tt

    -- all cells have been run
    pub carried_end : length indices ≤ k → Told (Makes make x0 0 (make x k [])) (Ok tt) s (cells_run form source indices m)
    carried_end past = c.carries (Ok tt) s (make x k []) (subst (λ vs. Told (Makes make x k (make x k [])) (Ok tt) s (cells_run form source vs c.heap)) (sym (drop_all k indices past)) (refl, c.stands))

-- ---- as many cells as indices

pub as_many : (form : Form) (source : List ℤ → Option Source) (indices : List (List ℤ)) (m h : Heap) (found : Cells) → cells_run form source indices m ≡ Done found h → length found ≡ length indices
as_many form source [] m h [] is = refl
as_many form source [] m h (c ∷ found) is = cc
as_many form source (v ∷ vs) m h found is = first (cell_does form (source v) m) (λ k g cs. as_many form source vs k g cs) is
  where
    rest : (c : Option ArrayValue) (end : Ended Cells) → ((g : Heap) (cs : Cells) → end ≡ Done cs g → length cs ≡ length vs) → go_on end (λ cs. give (c ∷ cs)) ≡ Done found h → length found ≡ suc (length vs)
    rest c (Failed f phases) many is = cc
    rest c (Done cs g) many is =
        let same : found ≡ c ∷ cs = cc in
        ap length same ∙ ap suc (many g cs refl)

    first : (end : Ended (Option ArrayValue)) → ((k g : Heap) (cs : Cells) → cells_run form source vs k ≡ Done cs g → length cs ≡ length vs) → go_on end (λ c. then_go (cells_run form source vs) (λ cs. give (c ∷ cs))) ≡ Done found h → length found ≡ suc (length vs)
    first (Failed f phases) many is = cc
    first (Done c k) many is = rest c (cells_run form source vs k) (many k) is

-- ---- nothing is written

pub unwritten : (form : Form) (source : List ℤ → Option Source) (writing : Writing) → ((k : ℕ) (c : Option ArrayValue) (h : Heap) → writing k c h ≡ h) → (k : ℕ) (vs : List (List ℤ)) (h : Heap) → cells_do form source writing k vs h ≡ cells_run form source vs h
unwritten form source writing nothing k [] h = refl
unwritten form source writing nothing k (v ∷ vs) h = after (cell_does form (source v) h) (unwritten form source writing nothing (suc k) vs)
  where
    after : (end : Ended (Option ArrayValue)) → ((g : Heap) → cells_do form source writing (suc k) vs g ≡ cells_run form source vs g) → go_on end (λ c h. then_go (cells_do form source writing (suc k) vs) (λ cs. give (c ∷ cs)) (writing k c h)) ≡ go_on end (λ c. then_go (cells_run form source vs) (λ cs. give (c ∷ cs)))
    after (Failed f phases) rest = refl
    after (Done c h) rest =
        ap (λ g. go_on (cells_do form source writing (suc k) vs g) (λ cs. give (c ∷ cs))) (nothing k c h)
        ∙ ap (λ e. go_on e (λ cs. give (c ∷ cs))) (rest h)
