-- One cell more.
use Rattle.std.proofs.Common.{◌≡◌, ℕ, ◌+◌, ◌-◌, ◌<◌, List, [], ◌∷◌, ◌++◌, ℤ, length, Option, Some, None, Ok, Err, refl, sym, ap, ◌∙◌, arith}
use Rattle.sac_base.specs.declared.faults.Fault.{Fault}
use Rattle.sac_base.specs.declared.op.Op.{Op}
use Rattle.sac_base.specs.Verdict.{each, present, joined, combined}
use Rattle.wl_core.specs.declared.setup.Job.{Job}
use Rattle.wl_core.specs.Machine.{CellValue, combine, both}
use Rattle.sac_base.specs.declared.stop.Stop.{Stop}
use Rattle.sac_base.specs.declared.stop.Stop.TheVariants.{Faulted, Memory}
use Rattle.phase_team.specs.declared.cells.CellEnd.TheVariants.{Stopped}
use Rattle.phase_team.specs.Segments.{Tells, cells_from, cost_from, Costs, Gathered, HaveWidth, Ran, Same}
use Rattle.phase_team.proofs.Sequences.{cells-append, cells_more, cost_more, each-both, each-front, each-back, joined-both, combined_more, both-none, same_sum, same_of, same_then, widths_more, widths_same}

module _ (cell : ℕ → CellValue) (start k : ℕ) (values : List (Option (List ℤ))) (before : each (cells_from cell start k) ≡ Ok values) where
  -- the values so far, and the next
  pub each_more : (v : Option (List ℤ)) → cell (start + k) ≡ Ok v → each (cells_from cell start (k + 1)) ≡ Ok (values ++ v ∷ [])
  each_more v e =
      let one : each (cell (start + k) ∷ []) ≡ Ok (v ∷ []) = (λ j. each (e j ∷ [])) in
      ap (λ l. each l) (cells_more cell start k) ∙ each-both (cells_from cell start k) (cell (start + k) ∷ []) values (v ∷ []) before one

  -- their elements, and those of the next
  pub stored_more : (width : ℕ) (x front rows : List ℤ) → cell (start + k) ≡ Ok (Some x) → length x ≡ width → front ≡ joined (present values) → HaveWidth width values → rows ≡ front ++ x
      → (vs : List (Option (List ℤ))) × (each (cells_from cell start (k + 1)) ≡ Ok vs) × (rows ≡ joined (present vs)) × HaveWidth width vs
  stored_more width x front rows e len f all r =
      let one : joined (present (Some x ∷ [])) ≡ x = no_more x in
      (values ++ Some x ∷ [], each_more (Some x) e, r ∙ (λ j. f j ++ x) ∙ (λ j. joined (present values) ++ sym one j) ∙ sym (joined-both values (Some x ∷ [])), widths_more width values x all len)
    where
      no_more : (l : List ℤ) → l ++ [] ≡ l
      no_more [] = refl
      no_more (y ∷ l) = λ j. y ∷ no_more l j

  -- their combination, and the next, which may be missing
  pub combined_next : (op : Op) (width : ℕ) (x : List ℤ) (all : Option (List ℤ)) → cell (start + k) ≡ Ok (Some x) → length x ≡ width → combined (combine op) (present values) ≡ all → HaveWidth width values
      → (vs : List (Option (List ℤ))) × (each (cells_from cell start (k + 1)) ≡ Ok vs) × (combined (combine op) (present vs) ≡ both (combine op) all (Some x)) × HaveWidth width vs
  combined_next op width x all e len f wide = (values ++ Some x ∷ [], each_more (Some x) e, combined_more (combine op) values (Some x) ∙ (λ j. both (combine op) (f j) (Some x)), widths_more width values x wide len)

  pub combined_same : (op : Op) (width : ℕ) (all : Option (List ℤ)) → cell (start + k) ≡ Ok None → combined (combine op) (present values) ≡ all → HaveWidth width values
      → (vs : List (Option (List ℤ))) × (each (cells_from cell start (k + 1)) ≡ Ok vs) × (combined (combine op) (present vs) ≡ all) × HaveWidth width vs
  combined_same op width all e f wide = (values ++ None ∷ [], each_more None e, combined_more (combine op) values None ∙ both-none (combine op) (combined (combine op) (present values)) ∙ f, widths_same width values wide)

  -- the first fault
  pub fault_here : (n : ℕ) (fault : Fault) → k < n → cell (start + k) ≡ Err fault → each (cells_from cell start n) ≡ Err fault
  fault_here n fault lt e =
      let one : each (cell (start + k) ∷ []) ≡ Err fault = (λ j. each (e j ∷ [])) in
      let upto : each (cells_from cell start (k + 1)) ≡ Err fault = ap (λ l. each l) (cells_more cell start k) ∙ each-back (cells_from cell start k) (cell (start + k) ∷ []) values fault before one in
      let n-is : n ≡ (k + 1) + (n - (k + 1)) = omega arith in
      ap (λ m. each (cells_from cell start m)) n-is ∙ ap (λ l. each l) (cells-append cell start (k + 1) (n - (k + 1))) ∙ each-front (cells_from cell start (k + 1)) (cells_from cell (start + (k + 1)) (n - (k + 1))) fault upto

  pub stops_here : (job : Job) (width n : ℕ) (into rows : List ℤ) (stop : Stop) → k < n → Tells (cell (start + k)) into (Stopped stop) → Ran job width (cells_from cell start n) rows (Err stop)
  stops_here job width n into rows (Faulted fault) lt e = fault_here n fault lt e
  stops_here job width n into rows Memory lt e = tt

  pub stops_gather : (op : Op) (width n : ℕ) (into row : List ℤ) (stop : Stop) → k < n → Tells (cell (start + k)) into (Stopped stop) → Gathered op width (cells_from cell start n) row (Err stop)
  stops_gather op width n into row (Faulted fault) lt e = fault_here n fault lt e
  stops_gather op width n into row Memory lt e = tt

-- the cost so far, and that of the next cell
pub costs_more : (cost : ℕ → ℕ → ℕ) (start k : ℕ) (a b c : ℕ → ℕ) → Costs cost start k a b → ((kind : ℕ) → Same kind (c kind) (b kind + cost kind (start + k))) → Costs cost start (k + 1) a c
costs_more cost start k a b c so_far next kind =
    let s : Same kind (b kind + cost kind (start + k)) ((a kind + cost_from (cost kind) start k) + cost kind (start + k)) = same_sum kind (b kind) (a kind + cost_from (cost kind) start k) (cost kind (start + k)) (cost kind (start + k)) (so_far kind) (same_of kind (cost kind (start + k)) (cost kind (start + k)) refl) in
    let more = cost_more (cost kind) start k in
    let e : (a kind + cost_from (cost kind) start k) + cost kind (start + k) ≡ a kind + cost_from (cost kind) start (k + 1) = omega arith in
    same_then kind (c kind) (b kind + cost kind (start + k)) (a kind + cost_from (cost kind) start (k + 1)) (next kind)
    (same_then kind (b kind + cost kind (start + k)) ((a kind + cost_from (cost kind) start k) + cost kind (start + k)) (a kind + cost_from (cost kind) start (k + 1)) s
    (same_of kind ((a kind + cost_from (cost kind) start k) + cost kind (start + k)) (a kind + cost_from (cost kind) start (k + 1)) e))

pub costs_none : (cost : ℕ → ℕ → ℕ) (start : ℕ) (a b : ℕ → ℕ) → ((kind : ℕ) → b kind ≡ a kind) → Costs cost start 0 a b
costs_none cost start a b e kind = let z : a kind + 0 ≡ a kind = omega arith in same_of kind (b kind) (a kind + 0) (e kind ∙ sym z)
