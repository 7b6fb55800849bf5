-- What is told and left of a cell that was computed from a heap of the machine.
use Rattle.std.proofs.Common.{◌≡◌, ℕ, ◌+◌, Bool, true, false, List, [], ℤ, Option, Result, Ok, Err, length, sym, ap, ◌∙◌, arith}
use Rattle.std.specs.Prelude.{OnOk}
use Rattle.buffer_heap.specs.Heaps.{HeapValue}
use Rattle.phase_cells.specs.Idle.{IsAsLent, IsLeft}
use Rattle.core_ir.specs.declared.tree.Var.{Var}
use Rattle.counted_code.specs.Machine.{Values}
use Rattle.counted_code.specs.Terms.{CodeProgram}
use Rattle.counted_code.specs.Values.{Heap, Ended, Done, Failed}
use Rattle.phase_laws.specs.Growing.{EndsGrown}
use Rattle.phase_laws.proofs.Cells.{unchanged_cells}
use Rattle.phase_laws.proofs.Loops.{readable_in}
use Rattle.run_store.specs.Stands.{Stands}
use Rattle.run_store.specs.declared.store.Store.{Store}
use Rattle.sac_base.specs.Arrays.{ArrayValue}
use Rattle.sac_base.specs.Outcomes.{Ends}
use Rattle.sac_base.specs.declared.stop.Stop.{Stop}
use Rattle.sac_base.specs.declared.stop.Stop.TheVariants.{Faulted, Memory}
use Rattle.phase_team.specs.Segments.{IsComputed, Tells}
use Rattle.phase_loop_cells.specs.Cells.{elements_or, as_cell, ToldCell, end_of}
use Rattle.phase_loop_cells.specs.Opened.{IsOpen, lent_env}
use Rattle.run_loops.specs.declared.state.State.{State}
use Rattle.phase_loop_cells.proofs.Numbered.{LeftAs, LeavesAs}
use Rattle.phase_loop_cells.proofs.Sources.{quiet}

-- the store stands for the heap without phases too
pub stands_quiet : (s : Store) (k : Heap) → Stands s k → Stands s (quiet k)
stands_quiet s k p = record { all = record { stored = p.all.stored; single = p.all.single; births = p.all.births; taken = p.all.taken; given = p.all.given; reused = p.all.reused } }

pub cell_told : (fill : Option (List ℤ)) (into : List ℤ) (hold : ℕ → ℕ) (taken n : ℕ) (k : Heap) (r : Result Bool Stop) (s : State) (m : Ended (Option ArrayValue)) (c : Ends (Option ArrayValue)) → LeavesAs hold taken n k m c → ToldCell fill into r s m → Tells (as_cell fill c) into (end_of r)
cell_told fill into hold taken n k (Ok true) s (Done d l) (Ok c) leaves told = ap Ok (ap (elements_or fill) (sym leaves.0) ∙ told.0)
cell_told fill into hold taken n k (Ok false) s (Done d l) (Ok c) leaves told = ap Ok (ap (elements_or fill) (sym leaves.0) ∙ told.0)
cell_told fill into hold taken n k (Ok b) s (Done d l) (Err g) leaves told = elim leaves [ ]
cell_told fill into hold taken n k (Ok b) s (Failed f phases) c leaves told = elim told [ ]
cell_told fill into hold taken n k (Err (Faulted f)) s (Done d l) c leaves told = elim told [ ]
cell_told fill into hold taken n k (Err (Faulted f)) s (Failed g phases) (Ok c) leaves told = elim leaves [ ]
cell_told fill into hold taken n k (Err (Faulted f)) s (Failed g phases) (Err g') leaves told = ap Err (sym leaves ∙ sym told)
cell_told fill into hold taken n k (Err Memory) s m c leaves told = tt

-- a claim of an answer that is no stop
pub computed_claim : (X : Type 0) (r : Result Bool Stop) → OnOk r X → IsComputed (end_of r) → X
computed_claim X (Ok b) claim computed = claim
computed_claim X (Err (Faulted f)) claim computed = elim computed [ ]
computed_claim X (Err Memory) claim computed = elim computed [ ]

-- ---- what is left

module _ (CountedIn : List Var → Type 0) (code : CodeProgram) (lends : HeapValue) (e : Values) (k : Heap) (is : IsOpen CountedIn code lends e k) where
  as_lent : (n : ℕ) (l : Heap) → LeftAs is.holding is.taken n (quiet k) l → IsAsLent lends l
  as_lent n l u b x at_b =
      let now = u.unchanged.owns.0 x.born in
      let before = is.readable.owns.0 x.born in
      let lent = is.lent b x at_b in
      omega (arith, now, before, lent)

  pub opens_again : (n : ℕ) (l : Heap) → LeftAs is.holding is.taken n (quiet k) l → IsOpen CountedIn code lends e l
  opens_again n l u = record {
    counted = is.counted;
    live = is.live;
    counted_here = is.counted_here;
    holding = is.holding;
    taken = is.taken + n;
    readable =
        readable_in (record k { taken = is.taken }) (record l { taken = is.taken + n }) e (lent_env lends e) is.holding is.live is.readable u.unchanged.owns
        (unchanged_cells is.holding n (record k { taken = is.taken; phases = [] }) (record l { taken = is.taken + n }) u.unchanged);
    lent = as_lent n l u;
  }

  left_of : (n : ℕ) (l : Heap) (s : Store) → LeftAs is.holding is.taken n (quiet k) l → length l.buffers + k.taken ≡ length k.buffers + l.taken → Stands s l → IsLeft (IsOpen CountedIn code lends e) lends n k s
  left_of n l s u grown stands = record {
    after = l;
    stands = stands;
    opens_again = opens_again n l u;
    lent = as_lent n l u;
    taken = u.more;
    given = u.unchanged.given;
    reused = u.unchanged.reused;
    buffers = (let more : l.taken ≡ k.taken + n = u.more in omega (arith, more, grown));
  }

  pub cell_left : (fill : Option (List ℤ)) (into : List ℤ) (n : ℕ) (r : Result Bool Stop) (s : State) (m : Ended (Option ArrayValue)) (c : Ends (Option ArrayValue)) → LeavesAs is.holding is.taken n (quiet k) m c → EndsGrown (quiet k) m → ToldCell fill into r s m → IsComputed (end_of r) → IsLeft (IsOpen CountedIn code lends e) lends n k s.heap
  cell_left fill into n (Ok b) s (Done d l) (Ok c) leaves grown told computed = left_of n l s.heap leaves.1 grown told.1.heap
  cell_left fill into n (Ok b) s (Done d l) (Err g) leaves grown told computed = elim leaves [ ]
  cell_left fill into n (Ok b) s (Failed f phases) c leaves grown told computed = elim told [ ]
  cell_left fill into n (Err (Faulted f)) s m c leaves grown told computed = elim computed [ ]
  cell_left fill into n (Err Memory) s m c leaves grown told computed = elim computed [ ]
