-- What is made of all cells, by what workers make of them.
use Rattle.std.proofs.Common.{◌≡◌, ℕ, List, length, ℤ, Bool, Option, Result, Ok, Err, refl, ◌∙◌, sym}
use Rattle.sac_base.specs.declared.base.Base.{Base}
use Rattle.sac_base.specs.declared.faults.Fault.{Fault}
use Rattle.sac_base.specs.Arrays.{ArrayValue, size}
use Rattle.sac_base.specs.Outcomes.{Ends}
use Rattle.sac_base.specs.Verdict.{present, joined}
use Rattle.sac_base.specs.Verdict
use Rattle.sac_base.specs.WithLoops.{Plan, each}
use Rattle.core_ir.specs.Meaning.{joined as parts_joined}
use Rattle.array_with_loops.specs.Cells.{array_from, cells_from as placed_from}
use Rattle.wl_core.specs.Machine.{CellValue}
use Rattle.sac_base.specs.declared.stop.Stop.{Stop}
use Rattle.sac_base.specs.declared.stop.Stop.TheVariants.{Faulted, Memory}
use Rattle.phase_team.specs.Endings.{IsArray}
use Rattle.phase_team.specs.Segments.{cells_from}
use Rattle.phase_loop_laws.specs.Worked.{filled, unfilled, worked, IsResult}
use Rattle.phase_loop_laws.proofs.Places.{elements_at, all_elements, cells_in_all, joined_filled, joined_unfilled}

-- the cells whose elements these are
pub record Cells (fill : ℕ → Option (List ℤ)) (r : Ends (List (Option ArrayValue))) (values : List (Option (List ℤ))) : Type 0 where
  pub cells : List (Option ArrayValue)
  pub found : r ≡ Ok cells
  pub elements : values ≡ elements_at fill cells

cells_behind : (fill : ℕ → Option (List ℤ)) (r : Ends (List (Option ArrayValue))) (values : List (Option (List ℤ))) → all_elements fill r ≡ Ok values → Cells fill r values
cells_behind fill (Ok cs) values e = record { cells = cs; found = refl; elements = cc }
cells_behind fill (Err f) values e = absurd (cc)

fault_behind : (fill : ℕ → Option (List ℤ)) (r : Ends (List (Option ArrayValue))) (f : Fault) → all_elements fill r ≡ Err f → r ≡ Err f
fault_behind fill (Ok cs) f e = absurd (cc)
fault_behind fill (Err g) f e = cc

module _ (cell : List ℤ → Ends (Option ArrayValue)) (vs : List (List ℤ)) where
  abbrev pub work : (ℕ → Option (List ℤ)) → List CellValue
  work fill = cells_from (worked fill cell vs) 0 (length vs)

  pub values_behind : (fill : ℕ → Option (List ℤ)) (values : List (Option (List ℤ))) → Verdict.each (work fill) ≡ Ok values → Cells fill (each cell vs) values
  values_behind fill values e = cells_behind fill (each cell vs) values (sym (cells_in_all cell fill vs) ∙ e)

  pub fault_first : (fill : ℕ → Option (List ℤ)) (f : Fault) → Verdict.each (work fill) ≡ Err f → each cell vs ≡ Err f
  fault_first fill f e = fault_behind fill (each cell vs) f (sym (cells_in_all cell fill vs) ∙ e)

  pub array_made : (old : Bool) (background : ArrayValue) (p : Plan) (n : ℕ) → n ≡ size p.form.shape → (es : List ℤ) (end : Result (Unit {0}) Stop) → IsArray (work (filled old background n)) es end → IsResult (array_from old background p) background.base p.shape (each cell vs) es end
  array_made old background p n width es (Ok done) is =
      let behind = values_behind (filled old background n) is.0 is.1 in
      (behind.cells, behind.found, λ i. record { base = background.base; shape = p.shape; cells = sym (elements behind.cells is.0 behind.elements is.2) i })
    where
      elements : (cs : List (Option ArrayValue)) (values : List (Option (List ℤ))) → values ≡ elements_at (filled old background n) cs → es ≡ joined (present values) → es ≡ placed_from old background (size p.form.shape) 0 cs
      elements cs values e made = made ∙ (λ i. joined (present (e i))) ∙ joined_filled old background n cs ∙ (λ i. placed_from old background (width i) 0 cs)
  array_made old background p n width es (Err (Faulted f)) is = fault_first (filled old background n) f is
  array_made old background p n width es (Err Memory) is = tt

  pub parts_made : (base : Base) (shape : List ℕ) (es : List ℤ) (end : Result (Unit {0}) Stop) → IsArray (work unfilled) es end → IsResult (parts_joined base shape) base shape (each cell vs) es end
  parts_made base shape es (Ok done) is =
      let behind = values_behind unfilled is.0 is.1 in
      (behind.cells, behind.found, λ i. record { base = base; shape = shape; cells = sym (is.2 ∙ (λ j. joined (present (behind.elements j))) ∙ joined_unfilled behind.cells) i })
  parts_made base shape es (Err (Faulted f)) is = fault_first unfilled f is
  parts_made base shape es (Err Memory) is = tt
