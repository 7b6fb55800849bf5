-- Loops over cells: what is done once their checks have passed.
use Rattle.std.specs.Prelude.{ℕ, suc, ◌+◌, ◌*◌, ◌==◌, Bool, true, false, ◌||◌, not, List, [], ◌∷◌, ◌++◌, map, length, take, drop, replicate, ℤ, pos}
use Rattle.std.specs.Prelude.{Option, Some, None, Ok, if◌then◌else◌}
use Rattle.sac_base.specs.declared.base.Base.{Base}
use Rattle.sac_base.specs.declared.faults.FaultKind.TheVariants.{F6}
use Rattle.sac_base.specs.declared.form.Form.{Form}
use Rattle.sac_base.specs.declared.grid.Grid1.{Grid1}
use Rattle.sac_base.specs.declared.site.Site.{Site}
use Rattle.sac_base.specs.Arrays.{ArrayValue, size}
use Rattle.sac_base.specs.Grids.{has_vector, members}
use Rattle.sac_base.specs.Outcomes.{Ends, and_then, fault}
use Rattle.sac_base.specs.WithLoops.{Bounds, Range, Operation, fold_by, holds, plan, fits_form, finish}
use Rattle.core_ir.specs.declared.tree.PartedOp.{PartedOp}
use Rattle.core_ir.specs.declared.tree.PartedOp.TheVariants as parted
use Rattle.core_ir.specs.Meaning.{Env, cell_form, extents, neutral_fits, made_of}
use Rattle.counted_code.specs.Values.{Heap, Value, Small, Ref, Ended, Done, Doing, give, then_go, pure_end, fails, apart, is_small, read, count_of}
use Rattle.counted_code.specs.Values.{cells_of, with_cells, release, take_buffer}

-- ---- cells

-- where the cell of an index comes from, and where it is a fault that it has another form
pub record Source : Type 0 where
  pub cell : Doing Value
  pub site : Site

-- a loop whose checks have passed
pub record Job : Type 0 where
  -- what each cell must be
  pub form : Form
  -- the shape of the result
  pub shape : List ℕ
  -- cells are combined, and not put one after another
  pub folds : Bool
  pub indices : List (List ℤ)
  pub source : List ℤ → Option Source
  -- what is made of the cells of all indices
  pub result : List (Option ArrayValue) → ArrayValue

-- a cell that has the form is stored or combined, and its reference is released
abbrev pub stored : Form → Site → Value → Doing (Option ArrayValue)
stored form site v heap =
    if fits_form form (read heap v) then Done (Some (read heap v)) (release v heap) else fails F6 site heap

abbrev pub cell_does : Form → Option Source → Doing (Option ArrayValue)
cell_does form None = give None
cell_does form (Some s) = then_go (apart s.cell) (stored form s.site)

-- what is written after each cell, by the place of its index
abbrev pub Writing : Type 0
Writing = ℕ → Option ArrayValue → Heap → Heap

-- the cells of these indices one after another
abbrev pub cells_do : Form → (List ℤ → Option Source) → Writing → ℕ → List (List ℤ) → Doing (List (Option ArrayValue))
cells_do form source writing place [] = give []
cells_do form source writing place (v ∷ vs) =
    then_go (cell_does form (source v)) (λ c heap. then_go (cells_do form source writing (suc place) vs) (λ cs. give (c ∷ cs)) (writing place c heap))

-- ---- the result's buffer

-- a result that is small, one in a new buffer, and one in the buffer of the marked variable
pub data Target : Type 0 where
  Inside : Target
  Fresh : (place : ℕ) → Target
  Old : (place : ℕ) → Target

-- what there is before the first cell; `rest` is the reference that is released after the loop
pub record Claimed : Type 0 where
  pub target : Target
  pub rest : Option Value
  pub heap : Heap

abbrev pub claim_new : ℕ → Option Value → Heap → Claimed
claim_new n rest heap = record { target = Fresh (length heap.buffers); rest = rest; heap = take_buffer (replicate n (pos 0)) heap }

-- the marked variable's buffer, where its reference is the only one
abbrev pub claim_old : Bool → ℕ → Value → ℕ → Heap → Claimed
claim_old true buffer v n heap = record { target = Old buffer; rest = None; heap = record heap { reused = heap.reused + 1 } }
claim_old false buffer v n heap = claim_new n (Some v) heap

-- a buffer of so many elements, where the result is no small one
abbrev pub claim : Bool → Option Value → ℕ → Heap → Claimed
claim true mark n heap = record { target = Inside; rest = mark; heap = heap }
claim false None n heap = claim_new n None heap
claim false (Some (Small a)) n heap = claim_new n (Some (Small a)) heap
claim false (Some (Ref buffer base shape)) n heap = claim_old (count_of heap buffer == 1) buffer (Ref buffer base shape) n heap

abbrev pub written_at : ℕ → List ℤ → List ℤ → List ℤ
written_at start new cells = take start cells ++ (new ++ drop (start + length new) cells)

-- each cell is written at its place into the old buffer, where the next cells read what stands there now; a new buffer is read by no cell
abbrev pub write_cell : Target → Writing
write_cell (Old buffer) place (Some c) heap = with_cells heap buffer (written_at (place * length c.cells) c.cells (cells_of heap buffer))
write_cell _ place c heap = heap

abbrev pub release_rest : Option Value → Heap → Heap
release_rest None heap = heap
release_rest (Some v) heap = release v heap

-- the result as a value; in an old buffer it is what the cells have written
abbrev pub settled : Target → ArrayValue → Heap → Ended Value
settled Inside r heap = Done (Small r) heap
settled (Fresh buffer) r heap = Done (Ref buffer r.base r.shape) (with_cells heap buffer r.cells)
settled (Old buffer) r heap = Done (Ref buffer r.base r.shape) heap

-- a phase is counted, with its positions, where the loop is a fold or has a buffer as result
abbrev pub count_phase : Bool → ℕ → Heap → Heap
count_phase false n heap = heap
count_phase true n heap = record heap { phases = heap.phases ++ n ∷ [] }

-- ---- loops

-- its buffer is claimed, its cells are run in row-major order, and its result is handed on
abbrev pub claimed_does : Job → Claimed → Ended Value
claimed_does j c =
    then_go (cells_do j.form j.source (write_cell c.target) 0 j.indices)
    (λ found heap. then_go (settled c.target (j.result found)) (λ v after. Done v (release_rest c.rest after)) heap) c.heap

abbrev pub job_does : Option Value → Job → Doing Value
job_does mark j heap =
    let small = is_small j.shape in
    claimed_does j (claim small mark (size j.shape) (count_phase (j.folds || not small) (length j.indices) heap))

-- the checks, and then what they have planned
abbrev pub loop_does : (Heap → Ends Job) → Option Value → Doing Value
loop_does checks mark heap = then_go (pure_end (checks heap)) (job_does mark) heap

-- ---- with-loops

-- a generator with its operands, and what its body does at an index
pub record CodeGenerator : Type 0 where
  pub bounds : Bounds
  pub cell : List ℤ → Doing Value

-- the cell of the first generator whose range holds the index
abbrev pub holder : List CodeGenerator → List Range → List ℤ → Option Source
holder (g ∷ gs) (r ∷ rs) v = if holds r v then Some (record { cell = g.cell v; site = g.bounds.site }) else holder gs rs v
holder _ _ v = None

abbrev pub is_fold : Operation → Bool
is_fold (fold_by op neutral site) = true
is_fold _ = false

abbrev pub with_job : List CodeGenerator → Operation → Ends Job
with_job gs op =
    and_then (plan (map (λ (g : CodeGenerator). g.bounds) gs) op) (λ p.
    Ok (record { form = p.form; shape = p.shape; folds = is_fold op; indices = p.indices; source = holder gs p.ranges; result = finish op p }))

-- ---- parted loops

-- a part, and what its body does at an index
pub record CodeCells : Type 0 where
  pub grid : List Grid1
  pub cell : List ℤ → Doing Value
  pub site : Site

-- the cell of the part whose grid contains the index
abbrev pub part_holder : List CodeCells → List ℤ → Option Source
part_holder [] v = None
part_holder (p ∷ ps) v = if has_vector p.grid v then Some (record { cell = p.cell v; site = p.site }) else part_holder ps v

abbrev pub parted_folds : PartedOp → Bool
parted_folds (parted.Fold op x) = true
parted_folds _ = false

abbrev pub parted_shape : List Grid1 → List ℕ → PartedOp → List ℕ
parted_shape frame cell (parted.Fold op x) = cell
parted_shape frame cell _ = extents frame ++ cell

-- the only check is that a fold's neutral value has the form of the cells
abbrev pub parted_job : List Grid1 → Base → List ℕ → PartedOp → List CodeCells → Site → Env → Ends Job
parted_job frame base cell op parts site e =
    if neutral_fits (cell_form base cell) op e
    then Ok (record {
      form = record { base = base; shape = cell };
      shape = parted_shape frame cell op;
      folds = parted_folds op;
      indices = members frame;
      source = part_holder parts;
      result = made_of frame base cell op e;
    })
    else fault F6 site
