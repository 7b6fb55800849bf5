-- What the kernels of parts tell of the cells of a parted loop.
use Rattle.std.proofs.Common.{◌≡◌, ℕ, zero, suc, ℤ, Bool, true, false, List, [], ◌∷◌, map, Option, Some, Ok, Err, sym, ap, ◌∙◌, arith}
use Rattle.std.specs.Prelude.{if◌then◌else◌, slice_get}
use Rattle.sac_base.specs.declared.base.Base.TheVariants.{Int}
use Rattle.sac_base.specs.declared.faults.Fault.{Fault}
use Rattle.sac_base.specs.declared.faults.FaultKind.TheVariants.{F6}
use Rattle.sac_base.specs.declared.form.Form.{Form}
use Rattle.sac_base.specs.declared.site.Site.{Site}
use Rattle.sac_base.specs.Arrays.{ArrayValue, size, vector}
use Rattle.sac_base.specs.Grids.{has_vector}
use Rattle.sac_base.specs.Outcomes.{Ends, and_then, fault}
use Rattle.sac_base.specs.WithLoops.{Range}
use Rattle.core_ir.specs.Meaning.{Answer, CallMeaning, Env, bind, cell_at, cell_form, cells, first, held, run}
use Rattle.counted_code.specs.declared.tree.CodePart.{CodePart}
use Rattle.counted_code.specs.Terms.{core_of, core_of_parts}
use Rattle.counted_code.specs.View.{code_term}
use Rattle.kernel_code.specs.Calls.{Calls}
use Rattle.kernel_rows.specs.declared.kernels.CellKernel.{CellKernel}
use Rattle.kernel_rows.specs.Kernels.{AreCellKernels, Body, CellFaults, CellIs, body_env}
use Rattle.loop_code.specs.Runs.{HoldsFirst}
use Rattle.kernel_rows.proofs.Bodies.{BodyAnswers, body_of, fault_answers, first_behind, value_answers}
use Rattle.counted_code.specs.Pieces.{parts_term}
use Rattle.phase_laws.specs.Spending.{CallSpending, parts_take, spends}
use Rattle.phase_loop_cells.specs.Cells.{as_cell}
use Rattle.phase_loop_cells.specs.Ranges.{AreRanges}
use Rattle.kept_kernels.specs.Bodies.{part_body}

module _ (calls : CallMeaning) (turns : ℕ) (call_spends : CallSpending) (e : Env) (form : ArrayValue) (v : List ℤ) where
  abbrev part_cell : CodePart → Ends (Option ArrayValue)
  part_cell p = and_then (first (run calls turns (core_of (code_term p.body)) (bind e p.index (vector Int v)))) (held form p.site)

  abbrev part_taken : CodePart → ℕ
  part_taken p = (spends calls turns call_spends (code_term p.body) (bind e p.index (vector Int v))).taken

  abbrev rest_at : List CodePart → Ends (Option ArrayValue)
  rest_at parts = cell_at form (cells calls turns (core_of_parts (parts_term parts)) e) v

  abbrev rest_takes : List CodePart → ℕ
  rest_takes parts = parts_take calls turns call_spends (parts_term parts) e v

  -- the index is held by the part at the place of the first range that holds it
  part_at : (parts : List CodePart) (ranges : List Range) (k : ℕ) (p : CodePart) → AreRanges ranges parts → slice_get parts k ≡ Some p → HoldsFirst ranges v k → (rest_at parts ≡ part_cell p) × (rest_takes parts ≡ part_taken p)
  part_at parts [] k p are is at = absurd (let inside = at.inside in omega (arith, inside))
  part_at [] (r ∷ ranges) k p are is at = absurd are
  part_at (x ∷ parts) (r ∷ ranges) zero p are is at =
      let same : x ≡ p = cc in
      let here : has_vector x.grid v ≡ true = sym (are.0 v) ∙ at.here in (
        ap (λ (b : Bool). if b then part_cell x else rest_at parts) here ∙ ap part_cell same,
        ap (λ (b : Bool). if b then part_taken x else rest_takes parts) here ∙ ap part_taken same,
      )
  part_at (x ∷ parts) (r ∷ ranges) (suc k) p are is at =
      let rest = part_at parts ranges k p are.1 is (first_behind r ranges v k at) in
      let not_here : has_vector x.grid v ≡ false = sym (are.0 v) ∙ at.before 0 (omega arith) in (
        ap (λ (b : Bool). if b then part_cell x else rest_at parts) not_here ∙ rest.0,
        ap (λ (b : Bool). if b then part_taken x else rest_takes parts) not_here ∙ rest.1,
      )

-- the cell of an answer
abbrev formed : Form → Site → Answer → Ends (Option ArrayValue)
formed form site answer = and_then (first answer) (held (cell_form form.base form.shape) site)

module _ (calls : Calls) (turns : ℕ) (bs : List ArrayValue) (e : Env) (form : Form) (parts : List CodePart) (kernels : List (Option CellKernel)) (are : AreCellKernels calls bs e form (map part_body parts) kernels) (ranges : List Range) (hold : AreRanges ranges parts) (v : List ℤ) where
  -- the cell is that of the body's answer, and takes what the body takes
  answered : (answer : Answer) → BodyAnswers calls turns e (map part_body parts) ranges v answer
      → (p : CodePart) × (cell_at (cell_form form.base form.shape) (cells (calls.means turns) turns (core_of_parts (parts_term parts)) e) v ≡ formed form p.site answer) × (parts_take (calls.means turns) turns (calls.spends turns) (parts_term parts) e v ≡ 0)
  answered answer is =
      let p = body_of part_body parts is.place is.body is.there in
      let at = part_at (calls.means turns) turns (calls.spends turns) e (cell_form form.base form.shape) v parts ranges is.place p.0 hold p.1 is.first in (
        p.0,
        at.0 ∙ ap (λ (b : Body). formed form p.0.site (run (calls.means turns) turns (core_of (code_term b.block)) (body_env e b v))) p.2 ∙ ap (formed form p.0.site) is.answers,
        at.1 ∙ ap (λ (b : Body). (spends (calls.means turns) turns (calls.spends turns) (code_term b.block) (body_env e b v)).taken) p.2 ∙ is.takes,
      )

  -- a kernel's number is the cell
  pub part_value : (fill : Option (List ℤ)) (n : ℤ) → CellIs turns bs ranges kernels v n
      → (as_cell fill (cell_at (cell_form form.base form.shape) (cells (calls.means turns) turns (core_of_parts (parts_term parts)) e) v) ≡ Ok (Some (n ∷ []))) × (parts_take (calls.means turns) turns (calls.spends turns) (parts_term parts) e v ≡ 0) × (size form.shape ≡ 1)
  part_value fill n is =
      let a = value_answers calls turns bs e form (map part_body parts) kernels are ranges v n is in
      let p = answered (Ok (a.0 ∷ [])) a.1 in (
        ap (as_cell fill) (p.1 ∙ ap (λ (b : Bool). if b then Ok (Some a.0) else fault F6 p.0.site) a.2.fits) ∙ ap (λ (x : List ℤ). Ok (Some x)) a.2.cells,
        p.2,
        a.2.one,
      )

  -- and its fault the cell's
  pub part_fault : (fill : Option (List ℤ)) (f : Fault) → CellFaults turns bs ranges kernels v f → as_cell fill (cell_at (cell_form form.base form.shape) (cells (calls.means turns) turns (core_of_parts (parts_term parts)) e) v) ≡ Err f
  part_fault fill f is = ap (as_cell fill) (answered (Err f) (fault_answers calls turns bs e form (map part_body parts) kernels are ranges v f is)).1
