-- Setups and states in memory.
use Rattle.std.proofs.Common.{◌≡◌, ℕ, zero, suc, ◌/◌, ◌<◌, ◌≤◌, Bool, true, false, List, [], ◌∷◌, length, map, Option, None, Some, ℤ, Ok, Err, refl, sym, ap, ◌∙◌, subst, arith}
use Rattle.std.proofs.Common.{get_or, Vec, Global, replicate, ltb}
use Rattle.std.proofs.lemmas.Bool.{le-ltb}
use Rattle.std.proofs.lemmas.List.{get_or_read, length-replicate}
use Rattle.std.specs.Prelude.{slice_get, slice_index, IsSomeAnd, MatchOption, IsTrue, ◌↔◌}
use Rattle.sac_base.specs.declared.base.Base.{Base}
use Rattle.sac_base.specs.declared.op.Op.{Op}
use Rattle.sac_base.specs.Arrays.{IsCell}
use Rattle.std.proofs.Common.{pos}
use Rattle.sac_base.specs.declared.faults.Fault.{Fault}
use Rattle.wl_core.specs.declared.setup.CellResult.{CellResult}
use Rattle.wl_core.specs.declared.setup.CellResult.TheVariants.{Value, Faults, NotHeld}
use Rattle.wl_core.specs.declared.setup.Setup.{Setup}
use Rattle.wl_core.specs.declared.state.State.{State}
use Rattle.wl_core.specs.Machine.{SetupValue, StateValue, IsSetup, CountsFit, TakesBase, CellFits, OfBase, CellValue, Works, chunks, end, opened}
use Rattle.wl_core.specs.Facts.{Facts, NoneStopped, StopsFirst}
use Rattle.wl_core.specs.Reading.{setup_of, state_of, cell_of, written_by, row_if, stored_rows, RowsFor, IsSized, IsReached}
use Rattle.wl_core.specs.Rows.{row_of, times_of, partial_of}
use Rattle.wl_core.specs.declared.setup.Job.{Job}
use Rattle.wl_core.specs.declared.setup.Job.TheVariants.{Write as Store, Fold}
use Rattle.wl_core.proofs.Functions.{sum-none}
use Rattle.wl_core.proofs.Kept.{reached_facts}

pub slice_get_past : {X : Type 0} (xs : List X) (i : ℕ) → length xs ≤ i → slice_get xs i ≡ None
slice_get_past [] i le = refl
slice_get_past (x ∷ xs) zero le = absurd (omega arith)
slice_get_past (x ∷ xs) (suc i) le = slice_get_past xs i (omega arith)

pub facts : (u : Setup) (b : State) → IsReached u b → Facts (setup_of u) (state_of (setup_of u) b)
facts u b r = reached_facts (setup_of u) (state_of (setup_of u) b) r.setup r.reached

pub not_working : (u : SetupValue) (s : StateValue) (w chunk : ℕ) → ((c : ℕ) → Works u s w c → chunk ≡ c) → ¬ Works u s w chunk → (c : ℕ) → ¬ Works u s w c
not_working u s w chunk last none c k = none (subst (λ (d : ℕ). Works u s w d) (sym (last c k)) k)

-- the cell that was read
pub cell_is : (items : List CellResult) (i : ℕ) (x : CellResult) → i < length items → x ≡ get_or items i x → slice_get (map cell_of items) i ≡ Some (cell_of x)
cell_is [] i x lt e = absurd (omega arith)
cell_is (y ∷ items) zero x lt e = ap (λ (z : CellResult). Some (cell_of z)) (sym e)
cell_is (y ∷ items) (suc i) x lt e = cell_is items i x (omega arith) e

pub no_cell : (items : List CellResult) (i : ℕ) (x : CellValue) → length items ≤ i → slice_get (map cell_of items) i ≡ Some x → ⊥
no_cell [] i x le e = cc
no_cell (y ∷ items) zero x le e = omega arith
no_cell (y ∷ items) (suc i) x le e = no_cell items i x (omega arith) e

pub not_value : (x : CellResult) (value : List ℤ) → ((v : Vec ℤ Global) → x ≡ Value v → ⊥) → Some (cell_of x) ≡ Some (Ok (Some value)) → ⊥
not_value (Value v) value not e = not v refl
not_value (Faults f) value not e = cc
not_value NotHeld value not e = cc

-- a chunk by the tests on its place in the lists
pub works_by : (u : Setup) (b : State) (w chunk owner next : ℕ) (stopped : Bool) (last : ℕ) → IsReached u b → chunk < b.taken → owner ≡ get_or b.owner.items chunk owner → next ≡ get_or b.next.items chunk next → stopped ≡ get_or b.stopped.items chunk stopped
    → owner ≡ w → next < last → last ≡ end (setup_of u) chunk → stopped ≡ false → Works (setup_of u) (state_of (setup_of u) b) w chunk
works_by u b w chunk owner next stopped last r taken o n s is before last_is going =
    let h = facts u b r in
    let few = h.taken_few in
    let o_is : owner ≡ get_or b.owner.items chunk 0 = get_or_read b.owner.items chunk owner (let l = r.sized.owners in omega arith) o 0 in
    let n_is : next ≡ get_or b.next.items chunk 0 = get_or_read b.next.items chunk next (let l = r.sized.nexts in omega arith) n 0 in
    let s_is : stopped ≡ get_or b.stopped.items chunk false = get_or_read b.stopped.items chunk stopped (let l = r.sized.stops in omega arith) s false in
    (taken, sym o_is ∙ is, omega arith, sym s_is ∙ going)

get_or-all : {X : Type 0} (n i : ℕ) (x : X) → get_or (replicate n x) i x ≡ x
get_or-all zero i x = refl
get_or-all (suc n) zero x = refl
get_or-all (suc n) (suc i) x = get_or-all n i x

nothing_taken : (size : ℕ) (owner next : ℕ → ℕ) (p : ℕ) → written_by size 0 owner next p ≡ []
nothing_taken size owner next p = let f : ltb (p / size) 0 ≡ false = le-ltb (p / size) 0 (omega arith) in rw f refl

nothing_stored : (j : Job) (written : ℕ → List ℕ) (row : ℕ → List ℤ) → ((p : ℕ) → written p ≡ []) → (p : ℕ) → stored_rows j written row p ≡ None
nothing_stored Store written row none p = ap (λ (l : List ℕ). row_if l (row p)) (none p)
nothing_stored (Fold base op) written row none p = refl

-- the state that is made at the opening
pub opening : (u : Setup) (b : State) → IsSetup (setup_of u) → b.taken ≡ 0
    → b.owner.items ≡ replicate (chunks (setup_of u)) 0 → b.next.items ≡ replicate (chunks (setup_of u)) 0 → b.stopped.items ≡ replicate (chunks (setup_of u)) false
    → b.latest.items ≡ replicate u.workers 0 → b.held.items ≡ replicate u.workers 0 → b.counts.items ≡ u.counts.items
    → (b.holds.workers ≡ u.workers) × (b.holds.buffers ≡ length u.counts.items) × (times_of b.holds ≡ (λ w c. 0)) → (partial_of b.partials ≡ (λ w. None))
    → ((p : ℕ) (value : List ℤ) → slice_get (setup_of u).cells p ≡ Some (Ok (Some value)) → (length value ≡ b.stored.width) × (length value ≡ b.partials.rows.width))
    → RowsFor u.job (length (setup_of u).cells) u.workers b.stored.count b.partials.rows.count → IsReached u b × (state_of (setup_of u) b ≡ opened (setup_of u))
opening u b is none owner next stopped latest held counts holds partials widths rows = (record { setup = is; sized = sized; reached = ([], sym same) }, same)
  where
    v : SetupValue
    v = setup_of u

    written_none : (p : ℕ) → written_by v.size b.taken (slice_index b.owner.items) (slice_index b.next.items) p ≡ []
    written_none p = ap (λ (t : ℕ). written_by v.size t (slice_index b.owner.items) (slice_index b.next.items) p) none ∙ nothing_taken v.size (slice_index b.owner.items) (slice_index b.next.items) p

    same : state_of (setup_of u) b ≡ opened (setup_of u)
    same = λ j. record {
      taken = none j;
      owner = λ c. (ap (λ (l : List ℕ). slice_index l c) owner ∙ get_or-all (chunks (setup_of u)) c 0) j;
      next = λ c. (ap (λ (l : List ℕ). slice_index l c) next ∙ get_or-all (chunks (setup_of u)) c 0) j;
      stopped = λ c. (ap (λ (l : List Bool). get_or l c false) stopped ∙ get_or-all (chunks (setup_of u)) c false) j;
      written = λ p. written_none p j;
      stored = λ p. nothing_stored u.job _ (row_of b.stored) written_none p j;
      partial = partials j;
      count = λ c. slice_index (counts j) c;
      holds = holds.2 j;
    }

    sized : IsSized (setup_of u) b
    sized = record {
      owners = ap (λ (l : List ℕ). length l) owner ∙ length-replicate (chunks (setup_of u)) 0;
      nexts = ap (λ (l : List ℕ). length l) next ∙ length-replicate (chunks (setup_of u)) 0;
      stops = ap (λ (l : List Bool). length l) stopped ∙ length-replicate (chunks (setup_of u)) false;
      latest = ap (λ (l : List ℕ). length l) latest ∙ length-replicate u.workers 0;
      counts = ap (λ (l : List ℕ). length l) counts;
      held = ap (λ (l : List ℕ). length l) held ∙ length-replicate u.workers 0;
      workers = holds.0;
      buffers = holds.1;
      widths = widths;
      rows = rows;
      last = λ w c k. absurd (let t = k.0 in omega arith);
      totals = λ w lt. (ap (λ (l : List ℕ). slice_index l w) held ∙ get_or-all u.workers w 0) ∙ sym (sum-none (times_of b.holds w) (length u.counts.items) (λ c l. ap (λ (f : ℕ → ℕ → ℕ). f w c) holds.2));
    }

-- the fault that was read at a stopped chunk without stopped ones before it
pub some_first : (u : SetupValue) (s : StateValue) (chunk next : ℕ) (r : Option Fault) → chunk < s.taken → s.stopped chunk ≡ true → ((d : ℕ) → d < chunk → s.stopped d ≡ false) → next ≡ s.next chunk
    → IsSomeAnd r (λ fault. slice_get u.cells next ≡ Some (Err fault)) → MatchOption r (NoneStopped s) (λ fault. StopsFirst u s fault)
some_first u s chunk next None taken stopped before is at = absurd at
some_first u s chunk next (Some fault) taken stopped before is at = (chunk, taken, stopped, before, ap (λ (k : ℕ). slice_get u.cells k) (sym is) ∙ at)

-- a setup by its tests
pub setup_is : (u : SetupValue) (width : ℕ) → 1 ≤ u.size → length u.cells ≤ 16777216 → u.workers ≤ 64 → CountsFit u.counts → TakesBase u.job → ((p : ℕ) (x : CellValue) → slice_get u.cells p ≡ Some x → CellFits u.job width x) → IsSetup u
setup_is u width size positions workers counts takes fits = record {
  size = size;
  positions = positions;
  workers = workers;
  counts = counts;
  one_length = λ p q x y a b. (fits p (Ok (Some x)) a).0 ∙ sym (fits q (Ok (Some y)) b).0;
  held = λ p a. fits p (Ok None) a;
  takes = takes;
  of_base = λ p x a. (fits p (Ok (Some x)) a).1;
}

pub cells_fit : (u : SetupValue) (width : ℕ) → IsSetup u → ((p : ℕ) (value : List ℤ) → slice_get u.cells p ≡ Some (Ok (Some value)) → length value ≡ width) → (p : ℕ) (x : CellValue) → slice_get u.cells p ≡ Some x → CellFits u.job width x
cells_fit u width is widths p (Ok (Some x)) a = (widths p x a, is.of_base p x a)
cells_fit u width is widths p (Ok None) a = is.held p a
cells_fit u width is widths p (Err fault) a = tt

pub element_is : (xs : List ℤ) (k : ℕ) (z : ℤ) → slice_get xs k ≡ Some z → get_or xs k (pos 0) ≡ z
element_is [] k z e = absurd (cc)
element_is (x ∷ xs) zero z e = cc
element_is (x ∷ xs) (suc k) z e = element_is xs k z e

pub truths_of : (j : Job) (base : Base) (op : Op) (value : List ℤ) (r : Bool) → j ≡ Fold base op → (IsTrue r ↔ ((k : ℕ) (z : ℤ) → slice_get value k ≡ Some z → IsCell base z)) → IsTrue r ↔ OfBase j value
truths_of j base op value r e h = subst (λ (i : Job). IsTrue r ↔ OfBase i value) (sym e) h

pub some_same : {x y : CellValue} → Some x ≡ Some y → x ≡ y
some_same e = cc
