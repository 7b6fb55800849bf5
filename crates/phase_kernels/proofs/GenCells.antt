-- What the kernels of generators tell of the cells of a with-loop.
use Rattle.std.proofs.Common.{◌≡◌, ℕ, zero, suc, ℤ, Bool, false, List, [], ◌∷◌, map, Option, Some, Ok, Err, ap, ◌∙◌, arith}
use Rattle.std.specs.Prelude.{if◌then◌else◌, slice_get}
use Rattle.sac_base.specs.declared.faults.Fault.{Fault}
use Rattle.sac_base.specs.declared.faults.FaultKind.TheVariants.{F6}
use Rattle.sac_base.specs.declared.form.Form.{Form}
use Rattle.sac_base.specs.declared.site.Site.{Site}
use Rattle.sac_base.specs.Arrays.{ArrayValue, size}
use Rattle.sac_base.specs.Outcomes.{Ends, and_then, fault}
use Rattle.sac_base.specs.WithLoops.{Generator, Range, cell_at, fits_form, held_cell, holder, holds}
use Rattle.core_ir.specs.Meaning.{Answer, CallMeaning, Env, first, generator, generators, run, with_index}
use Rattle.counted_code.specs.declared.tree.CodeGen.{CodeGen}
use Rattle.counted_code.specs.Terms.{core_of, core_of_gens}
use Rattle.counted_code.specs.View.{code_term}
use Rattle.kernel_code.specs.Calls.{Calls}
use Rattle.kernel_rows.specs.declared.kernels.CellKernel.{CellKernel}
use Rattle.kernel_rows.specs.Kernels.{AreCellKernels, Body, CellFaults, CellIs, body_env}
use Rattle.loop_code.specs.Runs.{HoldsFirst}
use Rattle.kernel_rows.proofs.Bodies.{BodyAnswers, body_of, fault_answers, first_behind, value_answers}
use Rattle.counted_code.specs.Pieces.{gen_head, gens_term}
use Rattle.phase_laws.specs.Spending.{CallSpending, gens_take, spends}
use Rattle.phase_loop_cells.specs.Cells.{as_cell}
use Rattle.kept_kernels.specs.Bodies.{gen_body}

module _ (calls : CallMeaning) (turns : ℕ) (call_spends : CallSpending) (e : Env) (v : List ℤ) where
  -- a generator in the core
  abbrev core_gen : CodeGen → Generator
  core_gen g = generator (gen_head g) (λ index. first (run calls turns (core_of (code_term g.body)) (with_index e (gen_head g) index))) e

  abbrev gen_taken : CodeGen → ℕ
  gen_taken g = (spends calls turns call_spends (code_term g.body) (with_index e (gen_head g) v)).taken

  -- the index is held by the generator at the place of the first range that holds it
  holder_at : (gens : List CodeGen) (ranges : List Range) (k : ℕ) (g : CodeGen) → slice_get gens k ≡ Some g → HoldsFirst ranges v k
      → (holder (generators calls turns (core_of_gens (gens_term gens)) e) ranges v ≡ Some (core_gen g))
      × (gens_take calls turns call_spends (gens_term gens) e ranges v ≡ gen_taken g)
  holder_at [] ranges k g is at = absurd (cc)
  holder_at (x ∷ gens) [] k g is at = absurd (let inside = at.inside in omega (arith, inside))
  holder_at (x ∷ gens) (r ∷ ranges) zero g is at =
      let same : x ≡ g = cc in (
        ap (λ (b : Bool). if b then Some (core_gen x) else holder (generators calls turns (core_of_gens (gens_term gens)) e) ranges v) at.here ∙ ap (λ (y : CodeGen). Some (core_gen y)) same,
        ap (λ (b : Bool). if b then gen_taken x else gens_take calls turns call_spends (gens_term gens) e ranges v) at.here ∙ ap gen_taken same,
      )
  holder_at (x ∷ gens) (r ∷ ranges) (suc k) g is at =
      let rest = holder_at gens ranges k g is (first_behind r ranges v k at) in
      let not_here : holds r v ≡ false = at.before 0 (omega arith) in (
        ap (λ (b : Bool). if b then Some (core_gen x) else holder (generators calls turns (core_of_gens (gens_term gens)) e) ranges v) not_here ∙ rest.0,
        ap (λ (b : Bool). if b then gen_taken x else gens_take calls turns call_spends (gens_term gens) e ranges v) not_here ∙ rest.1,
      )

-- the cell of an answer
abbrev formed : Form → Site → Answer → Ends (Option ArrayValue)
formed form site answer = and_then (first answer) (λ c. if fits_form form c then Ok (Some c) else fault F6 site)

module _ (calls : Calls) (turns : ℕ) (bs : List ArrayValue) (e : Env) (form : Form) (gens : List CodeGen) (kernels : List (Option CellKernel)) (are : AreCellKernels calls bs e form (map gen_body gens) kernels) (ranges : List Range) (v : List ℤ) where
  -- the cell is that of the body's answer, and takes what the body takes
  answered : (answer : Answer) → BodyAnswers calls turns e (map gen_body gens) ranges v answer
      → (g : CodeGen) × (cell_at form (generators (calls.means turns) turns (core_of_gens (gens_term gens)) e) ranges v ≡ formed form g.site answer) × (gens_take (calls.means turns) turns (calls.spends turns) (gens_term gens) e ranges v ≡ 0)
  answered answer is =
      let g = body_of gen_body gens is.place is.body is.there in
      let at = holder_at (calls.means turns) turns (calls.spends turns) e v gens ranges is.place g.0 g.1 is.first in (
        g.0,
        ap (λ (o : Option Generator). held_cell form o v) at.0 ∙ ap (λ (b : Body). formed form g.0.site (run (calls.means turns) turns (core_of (code_term b.block)) (body_env e b v))) g.2 ∙ ap (formed form g.0.site) is.answers,
        at.1 ∙ ap (λ (b : Body). (spends (calls.means turns) turns (calls.spends turns) (code_term b.block) (body_env e b v)).taken) g.2 ∙ is.takes,
      )

  -- a kernel's number is the cell
  pub gen_value : (fill : Option (List ℤ)) (n : ℤ) → CellIs turns bs ranges kernels v n
      → (as_cell fill (cell_at form (generators (calls.means turns) turns (core_of_gens (gens_term gens)) e) ranges v) ≡ Ok (Some (n ∷ []))) × (gens_take (calls.means turns) turns (calls.spends turns) (gens_term gens) e ranges v ≡ 0) × (size form.shape ≡ 1)
  gen_value fill n is =
      let a = value_answers calls turns bs e form (map gen_body gens) kernels are ranges v n is in
      let g = answered (Ok (a.0 ∷ [])) a.1 in (
        ap (as_cell fill) (g.1 ∙ ap (λ (b : Bool). if b then Ok (Some a.0) else fault F6 g.0.site) a.2.fits) ∙ ap (λ (x : List ℤ). Ok (Some x)) a.2.cells,
        g.2,
        a.2.one,
      )

  -- and its fault the cell's
  pub gen_fault : (fill : Option (List ℤ)) (f : Fault) → CellFaults turns bs ranges kernels v f → as_cell fill (cell_at form (generators (calls.means turns) turns (core_of_gens (gens_term gens)) e) ranges v) ≡ Err f
  gen_fault fill f is = ap (as_cell fill) (answered (Err f) (fault_answers calls turns bs e form (map gen_body gens) kernels are ranges v f is)).1
