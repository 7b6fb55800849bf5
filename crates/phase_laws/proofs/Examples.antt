-- Worked examples, computed: what two small programs spend, and what they cost on the machine.
use Rattle.std.proofs.Common.{◌≡◌, ℕ, true, false, List, [], ◌∷◌, refl, ℤ, pos, rules}
use Rattle.std.specs.Prelude.{◌≤ℤ◌, Some, None}
use Rattle.std.specs.Int.{int_wrap}
use Rattle.sac_base.specs.declared.base.Base.TheVariants.{Int}
use Rattle.sac_base.specs.declared.faults.Caps.{Caps}
use Rattle.sac_base.specs.declared.grid.Grid1.{Grid1}
use Rattle.sac_base.specs.declared.name.Name.{Name}
use Rattle.sac_base.specs.declared.op.Op.TheVariants.{Add}
use Rattle.sac_base.specs.declared.site.Site.{Site}
use Rattle.sac_base.specs.declared.types.Part.TheVariants.{Star}
use Rattle.sac_base.specs.Arrays.{ArrayValue, scalar, vector}
use Rattle.sac_base.specs.Grids.{has_index, within}
use Rattle.core_ir.specs.declared.tree.CoreOp.TheVariants.{Genarray}
use Rattle.core_ir.specs.declared.tree.PartedOp.TheVariants as parted
use Rattle.core_ir.specs.declared.tree.Var.{Var}
use Rattle.core_ir.specs.Terms.{PlainTerm, GenHead}
use Rattle.counted_code.specs.Outcome.{whole_run, cost_of}
use Rattle.counted_code.specs.Terms.{CodeTerm, CodeProgram, Giving, Binding, Releasing, PlainCode, WithCode, PartedCode, NoCodeGens, GenCode, NoCodeParts, PartCode}
use Rattle.counted_code.specs.Values.{empty_heap, Done}
use Rattle.phase_laws.specs.Phased.{phased_run}
use Rattle.phase_laws.specs.Spending.{whole_spends}

abbrev here : Site
here = record { line = 1; col = 1 }

abbrev v : ℕ → Var
v n = record { 0 = n }

abbrev plain : ℕ → PlainTerm → CodeTerm → CodeTerm
plain x p rest = Binding (v x ∷ []) here (PlainCode p) rest

abbrev drop : ℕ → CodeTerm → CodeTerm
drop x rest = Releasing (v x) rest

abbrev block : List (CodeTerm → CodeTerm) → ℕ → CodeTerm
block [] x = Giving (v x ∷ [])
block (step ∷ steps) x = step (block steps x)

abbrev nine : ArrayValue
nine = vector Int (pos 1 ∷ pos 2 ∷ pos 3 ∷ pos 4 ∷ pos 5 ∷ pos 6 ∷ pos 7 ∷ pos 8 ∷ pos 9 ∷ [])

-- a cell that takes a buffer for a vector of nine elements, and is one of them
abbrev cell : ℕ → CodeTerm
cell index = block (plain 6 (PlainTerm.Const nine) ∷ plain 7 (PlainTerm.Select (v 6) (v index)) ∷ drop 6 ∷ drop index ∷ []) 7

abbrev main_of : Name → CodeTerm → CodeProgram
main_of name body = record {
  functions = record { name = name; site = here; params = []; results = record { base = Int; part = Star } ∷ []; is_inline = false; body = body; ends = here } ∷ [];
  groups = [];
  main = 0;
}

abbrev caps : Caps
caps = record { turns = 1000; depth = 200 }

-- with { ([0] <= iv < [3]) : nine[iv]; } : genarray([n], 0)
abbrev copied : ℤ → Name → CodeProgram
copied n name =
    let head : GenHead = record { lower = Some (v 1); lower_closed = true; upper = Some (v 2); upper_closed = false; step = None; width = None; index = v 5; names = []; site = here } in
    let loop = WithCode (Genarray (v 3) (v 0)) (GenCode head (cell 5) NoCodeGens) in
    main_of name (block (
    plain 0 (PlainTerm.Const (scalar Int (pos 0))) ∷ plain 1 (PlainTerm.Const (vector Int (pos 0 ∷ []))) ∷ plain 2 (PlainTerm.Const (vector Int (pos 3 ∷ []))) ∷ plain 3 (PlainTerm.Const (vector Int (n ∷ [])))
    ∷ Binding (v 4 ∷ []) here loop ∷ drop 0 ∷ drop 1 ∷ drop 2 ∷ drop 3 ∷ []) 4)

-- three cells take a buffer each, and a result of nine elements has one and is a phase
nine_copied : (name : Name) → whole_spends (copied (pos 9) name) [] caps ≡ record { taken = 4; phases = 9 ∷ [] }
nine_copied name = refl

nine_copied_cost : (name : Name) → cost_of (whole_run (copied (pos 9) name) [] caps) ≡ record { taken = 4; given = 4; reused = 0; phases = 1 }
nine_copied_cost name = refl

-- in chunks of four positions, of which the last has one
nine_in_chunks : (name : Name) → cost_of (phased_run (Some (λ n. 4 ∷ 4 ∷ [])) (copied (pos 9) name) [] caps) ≡ record { taken = 4; given = 4; reused = 0; phases = 1 }
nine_in_chunks name = refl

-- one of four elements is small, and is no phase
four_copied : (name : Name) → whole_spends (copied (pos 4) name) [] caps ≡ record { taken = 3; phases = [] }
four_copied name = refl

four_copied_cost : (name : Name) → cost_of (whole_run (copied (pos 4) name) [] caps) ≡ record { taken = 3; given = 3; reused = 0; phases = 0 }
four_copied_cost name = refl

one_at_least : pos 1 ≤ℤ pos 1
one_at_least = search rules

-- the sum of the elements at 0 to 2, over a part
abbrev summed : Name → CodeProgram
summed name =
    let line : Grid1 = record { lo = pos 0; hi = pos 3; step = pos 1; width = pos 1; steps = one_at_least; wide = one_at_least } in
    let loop = PartedCode (line ∷ []) Int [] (parted.Fold Add (v 0)) (PartCode (record { grid = line ∷ []; index = v 5; site = here }) (cell 5) NoCodeParts) None in
    main_of name (block (plain 0 (PlainTerm.Const (scalar Int (pos 0))) ∷ Binding (v 4 ∷ []) here loop ∷ drop 0 ∷ []) 4)

-- a fold is a phase though its result is small
summed_spends : (name : Name) → whole_spends (summed name) [] caps ≡ record { taken = 3; phases = 3 ∷ [] }
unfolding has_index within
summed_spends name = refl

summed_cost : (name : Name) → cost_of (whole_run (summed name) [] caps) ≡ record { taken = 3; given = 3; reused = 0; phases = 1 }
unfolding has_index within
summed_cost name = refl

summed_in_chunks : (name : Name) → phased_run (Some (λ n. 2 ∷ [])) (summed name) [] caps ≡ Done (scalar Int (pos 6) ∷ []) (record empty_heap { taken = 3; given = 3; phases = 3 ∷ [] })
unfolding has_index within int_wrap
summed_in_chunks name = refl
