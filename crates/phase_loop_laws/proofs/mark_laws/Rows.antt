-- Worked examples, computed: marked code and its core have one outcome, and what its runs cost.
use Rattle.std.proofs.Common.{◌≡◌, ℕ, [], ◌∷◌, refl, pos}
use Rattle.std.specs.Prelude.{◌≤ℤ◌, Some, None, Err}
use Rattle.std.specs.Int.{int_wrap}
use Rattle.sac_base.specs.declared.base.Base.TheVariants.{Int}
use Rattle.sac_base.specs.declared.faults.FaultKind.TheVariants.{F2}
use Rattle.sac_base.specs.declared.name.Name.{Name}
use Rattle.sac_base.specs.declared.op.Op.TheVariants.{Add}
use Rattle.sac_base.specs.Grids.{has_index, within}
use Rattle.sac_base.specs.Arrays.{ArrayValue, vector}
use Rattle.core_ir.specs.declared.tree.PartedOp.TheVariants as parted
use Rattle.core_ir.specs.Outcome.{outcome}
use Rattle.core_ir.specs.Terms.{PlainTerm}
use Rattle.counted_code.specs.Terms.{CodeTerm, CodeProgram, Keeping, core_of_code}
use Rattle.counted_code.specs.Outcome.{whole_run, outcome_of, cost_of}
use Rattle.counted_marks.proofs.Rows.{at, v, plain, number, drop, block, main_alone, caps, loop, quotient}

abbrev argument : ArrayValue
argument = vector Int (pos 0 ∷ pos 1 ∷ pos 2 ∷ pos 3 ∷ pos 4 ∷ pos 5 ∷ pos 6 ∷ pos 7 ∷ pos 8 ∷ pos 9 ∷ [])

abbrev quotients : ℕ → Name → CodeProgram
quotients n name = main_alone 10 name (block (loop 10 4 5 (quotient n) (Some (v 20)) ∷ []) 4)

quotients_outcome : (name : Name) → outcome_of (whole_run (quotients 20 name) (argument ∷ []) caps) ≡ outcome (core_of_code (quotients 20 name)) (argument ∷ []) caps
unfolding int_wrap has_index within
quotients_outcome name = refl

quotients_cost : (name : Name) → cost_of (whole_run (quotients 20 name) (argument ∷ []) caps) ≡ record { taken = 1; given = 1; reused = 1; phases = 1 }
unfolding int_wrap has_index within
quotients_cost name = refl

-- the seventh cell faults, after six were written over the array
fault_outcome : (name : Name) → outcome_of (whole_run (quotients 6 name) (argument ∷ []) caps) ≡ outcome (core_of_code (quotients 6 name)) (argument ∷ []) caps
unfolding int_wrap has_index within
fault_outcome name = refl

fault_is : (name : Name) → outcome_of (whole_run (quotients 6 name) (argument ∷ []) caps) ≡ Err (record { kind = F2; site = at 2 38 })
unfolding int_wrap has_index within
fault_is name = refl

-- In each cell b[iv] is selected from an array b of the cell's own: b = a[iv] + jv at each jv, and then twice that. The second loop of the cell writes
-- over b, and the loop around it over a.
abbrev twice : CodeTerm
twice = block (plain 33 (PlainTerm.Select (v 31) (v 32)) ∷ drop 32 ∷ plain 34 (PlainTerm.Binary Add (v 33) (v 33)) ∷ drop 33 ∷ []) 34

abbrev sums : CodeTerm
sums = block (
    plain 6 (PlainTerm.Select (v 20) (v 5))
    ∷ loop 10 31 35 (block (number 36 0 ∷ plain 37 (PlainTerm.Select (v 35) (v 36)) ∷ drop 35 ∷ drop 36 ∷ plain 38 (PlainTerm.Binary Add (v 6) (v 37)) ∷ drop 37 ∷ []) 38) None
    ∷ loop 10 39 32 twice (Some (v 31)) ∷ drop 6 ∷ plain 10 (PlainTerm.Select (v 39) (v 5)) ∷ drop 39 ∷ drop 5 ∷ []) 10

abbrev nested : Name → CodeProgram
nested name = main_alone 10 name (block (loop 10 4 5 sums (Some (v 20)) ∷ []) 4)

nested_outcome : (name : Name) → outcome_of (whole_run (nested name) (argument ∷ []) caps) ≡ outcome (core_of_code (nested name)) (argument ∷ []) caps
unfolding int_wrap has_index within
nested_outcome name = refl

-- eleven loops find the count 1, and ten cells take a buffer beside the argument's
nested_cost : (name : Name) → cost_of (whole_run (nested name) (argument ∷ []) caps) ≡ record { taken = 11; given = 11; reused = 11; phases = 1 }
unfolding int_wrap has_index within
nested_cost name = refl

-- where a second reference leads to the buffer, the result has a new one
abbrev shared : Name → CodeProgram
shared name =
    main_alone 10 name (block ((λ rest. Keeping (v 20) rest) ∷ plain 21 (PlainTerm.Copy (v 20)) ∷ loop 10 4 5 (quotient 20) (Some (v 20)) ∷ plain 22 (PlainTerm.Binary Add (v 4) (v 21)) ∷ drop 4 ∷ drop 21 ∷ []) 22)

shared_outcome : (name : Name) → outcome_of (whole_run (shared name) (argument ∷ []) caps) ≡ outcome (core_of_code (shared name)) (argument ∷ []) caps
unfolding int_wrap has_index within
shared_outcome name = refl

shared_cost : (name : Name) → cost_of (whole_run (shared name) (argument ∷ []) caps) ≡ record { taken = 3; given = 3; reused = 0; phases = 1 }
unfolding int_wrap has_index within
shared_cost name = refl
