-- Runs and cells that depend on no more of a heap than the arrays of their variables.
use Rattle.std.specs.Prelude.{◌≡◌, ℕ, ◌+◌, ◌≤◌, List, [], ◌++◌, map, ℤ, Option, Ok, Err}
use Rattle.sac_base.specs.declared.form.Form.{Form}
use Rattle.sac_base.specs.declared.site.Site.{Site}
use Rattle.sac_base.specs.Arrays.{ArrayValue}
use Rattle.sac_base.specs.Outcomes.{Ends}
use Rattle.core_ir.specs.declared.tree.Var.{Var}
use Rattle.core_ir.specs.Meaning.{Env, CallMeaning}
use Rattle.counted_code.specs.Loops.{Source, Target, Inside, Fresh, Old, cell_does}
use Rattle.counted_code.specs.Machine.{Values, DoesCalls}
use Rattle.counted_code.specs.Values.{Heap, Value, Ended, Done, Failed, read, buffer_at}
use Rattle.counted_laws.specs.Simulation.{Owns, AllBacked, Shows, SameCells, CallsMatch}
use Rattle.phase_laws.specs.Spending.{Spending, CallSpending}

-- a run from this heap has spent so much, and has reused no buffer; after a fault only the phases are left
abbrev pub Spent : {A : Type 0} → Spending → Heap → Ended A → Type 0
Spent s h (Done v k) = (k.taken ≡ h.taken + s.taken) × (k.reused ≡ h.reused) × (k.phases ≡ h.phases ++ s.phases)
Spent s h (Failed f phases) = phases ≡ h.phases ++ s.phases

-- calls spend what they are to spend
abbrev pub CallsSpend : DoesCalls → CallSpending → Type 0
CallsSpend does_calls call_spends =
    (g : ℕ) (vs : List Value) (s : Site) (h : Heap) (others : ℕ → ℕ) → Owns h vs others → Spent (call_spends g (map (read h) vs)) h (does_calls g vs s h)

-- what code is run in: the calls on the machine, in the core, and what they spend
pub record Context : Type 0 where
  pub results_of : ℕ → ℕ
  pub does_calls : DoesCalls
  pub calls : CallMeaning
  pub turns : ℕ
  pub call_spends : CallSpending
  pub matching : CallsMatch results_of does_calls calls
  pub spending : CallsSpend does_calls call_spends

-- a heap whose references are counted, where these variables can be read and stand for what the core's environment has
pub record Readable (h : Heap) (e : Values) (ρ : Env) (holding : ℕ → ℕ) (live : List Var) : Type 0 where
  pub owns : Owns h [] holding
  pub backed : AllBacked holding e live
  pub shows : Shows h e ρ live

-- so many buffers were taken and as many given back; each buffer with references is as it was, and no other has any
pub record Unchanged (holding : ℕ → ℕ) (n : ℕ) (h k : Heap) : Type 0 where
  pub owns : Owns k [] holding
  pub buffers : (b : ℕ) → 1 ≤ holding b → buffer_at k b ≡ buffer_at h b
  pub taken : k.taken ≡ h.taken + n
  pub given : k.given ≡ h.given + n
  pub reused : k.reused ≡ h.reused
  pub phases : k.phases ≡ h.phases

-- what holds no references ends as the core does, and leaves the heap unchanged
abbrev pub Leaves : {A : Type 0} → (ℕ → ℕ) → ℕ → Heap → Ended A → Ends A → Type 0
Leaves holding n h (Done a k) (Ok b) = (a ≡ b) × Unchanged holding n h k
Leaves holding n h (Failed f phases) (Err g) = (f ≡ g) × (phases ≡ h.phases)
Leaves _ _ _ _ _ = ⊥

-- From a heap on, the cell at each index is the given one and takes so many buffers, whatever else there is in the heap: only the buffers that are
-- held here have a say.
abbrev pub StandAlone : (ℕ → ℕ) → Heap → Form → (List ℤ → Option Source) → (List ℤ → Ends (Option ArrayValue)) → (List ℤ → ℕ) → Type 0
StandAlone holding h form source cell takes =
    (v : List ℤ) (k : Heap) → Owns k [] holding → SameCells holding h k → Leaves holding (takes v) k (cell_does form (source v) k) (cell v)

-- an end without its heap
abbrev pub told : {A : Type 0} → Ended A → Ends A
told (Done a k) = Ok a
told (Failed f phases) = Err f

-- runs from two heaps have the same value, and spend and leave the same; or they have the same fault
abbrev pub Alike : {A : Type 0} → (ℕ → ℕ) → (h k : Heap) → Ended A → Ended A → Type 0
Alike holding h k (Done a h') (Done b k') = (a ≡ b) × (n : ℕ) × Unchanged holding n h h' × Unchanged holding n k k'
Alike holding h k (Failed f phases) (Failed g others) = f ≡ g
Alike _ _ _ _ _ = ⊥

-- nothing is written before the last cell
abbrev pub IsNew : Target → Type 0
IsNew Inside = Unit {0}
IsNew (Fresh b) = Unit {0}
IsNew (Old b) = ⊥

-- a whole run has spent so much, and has given back what it took
abbrev pub SpentInAll : Spending → Ended (List ArrayValue) → Type 0
SpentInAll s (Done ws h) = (h.taken ≡ s.taken) × (h.given ≡ s.taken) × (h.reused ≡ 0) × (h.phases ≡ s.phases)
SpentInAll s (Failed f phases) = phases ≡ s.phases
