-- Worked examples, computed: what two small programs give and cost.
use Rattle.std.proofs.Common.{◌≡◌, ℕ, true, false, List, [], ◌∷◌, ◌++◌, refl, ℤ, pos, rules}
use Rattle.std.specs.Prelude.{◌≤ℤ◌, Some, None, Ok}
use Rattle.std.specs.Int.{int_wrap}
use Rattle.sac_base.specs.declared.base.Base.TheVariants.{Int}
use Rattle.sac_base.specs.declared.faults.Caps.{Caps}
use Rattle.sac_base.specs.declared.grid.Grid1.{Grid1}
use Rattle.sac_base.specs.declared.name.Name.{Name}
use Rattle.sac_base.specs.declared.op.Op.TheVariants.{Add, Mul}
use Rattle.sac_base.specs.declared.site.Site.{Site}
use Rattle.sac_base.specs.declared.types.ArrayType.{ArrayType}
use Rattle.sac_base.specs.declared.types.Part.TheVariants.{Rank, Star}
use Rattle.sac_base.specs.Grids.{has_index, within}
use Rattle.sac_base.specs.Arrays.{ArrayValue, scalar, vector}
use Rattle.core_ir.specs.declared.tree.Var.{Var}
use Rattle.core_ir.specs.declared.tree.CoreOp.{CoreOp}
use Rattle.core_ir.specs.declared.tree.CoreOp.TheVariants.{Genarray, Modarray}
use Rattle.core_ir.specs.declared.tree.PartedOp.TheVariants as parted
use Rattle.core_ir.specs.Terms.{PlainTerm, GenHead}
use Rattle.counted_code.specs.Terms.{CodeTerm, CodeProgram, Giving, Binding, Keeping, Releasing, PlainCode, WithCode, PartedCode, CodePartsTerm, NoCodeGens, GenCode, NoCodeParts, PartCode}
use Rattle.counted_code.specs.Outcome.{whole_run, outcome_of, cost_of}

abbrev here : Site
here = record { line = 1; col = 1 }

abbrev v : ℕ → Var
v n = record { 0 = n }

abbrev number : ℕ → ℕ → CodeTerm → CodeTerm
number x n rest = Binding (v x ∷ []) here (PlainCode (PlainTerm.Const (scalar Int (pos n)))) rest

abbrev plain : ℕ → PlainTerm → CodeTerm → CodeTerm
plain x p rest = Binding (v x ∷ []) here (PlainCode p) rest

-- a with-loop with one generator ( lower <= index < upper )
abbrev loop : ℕ → CoreOp → ℕ → ℕ → ℕ → CodeTerm → CodeTerm → CodeTerm
loop x op lower upper index body rest =
    let head : GenHead = record { lower = Some (v lower); lower_closed = true; upper = Some (v upper); upper_closed = false; step = None; width = None; index = v index; names = []; site = here } in
    Binding (v x ∷ []) here (WithCode op (GenCode head body NoCodeGens)) rest

abbrev drop : ℕ → CodeTerm → CodeTerm
drop x rest = Releasing (v x) rest

abbrev block : List (CodeTerm → CodeTerm) → ℕ → CodeTerm
block [] x = Giving (v x ∷ [])
block (step ∷ steps) x = step (block steps x)

abbrev main_alone : Name → List (Var × ArrayType) → CodeTerm → CodeProgram
main_alone name params body = record {
  functions = record { name = name; site = here; params = params; results = record { base = Int; part = Star } ∷ []; is_inline = false; body = body; ends = here } ∷ [];
  groups = [];
  main = 0;
}

abbrev caps : Caps
caps = record { turns = 1000; depth = 200 }

-- a = with { ([0] <= iv < [16]) : iv[0] * 2; } : genarray([16], 0);
-- b = with { ([0] <= iv < [16]) : a[iv] + 1; } : genarray([16], 0);
-- return (b);
abbrev two_arrays : Name → CodeProgram
two_arrays name =
    let first = block (number 6 0 ∷ plain 7 (PlainTerm.Select (v 5) (v 6)) ∷ drop 5 ∷ drop 6 ∷ number 8 2 ∷ plain 9 (PlainTerm.Binary Mul (v 7) (v 8)) ∷ drop 7 ∷ drop 8 ∷ []) 9 in
    let second = block (plain 12 (PlainTerm.Select (v 4) (v 11)) ∷ drop 11 ∷ number 13 1 ∷ plain 14 (PlainTerm.Binary Add (v 12) (v 13)) ∷ drop 12 ∷ drop 13 ∷ []) 14 in
    main_alone name [] (block (
    number 0 0 ∷ number 1 16 ∷ plain 2 (PlainTerm.Literal (v 0 ∷ [])) ∷ plain 3 (PlainTerm.Literal (v 1 ∷ [])) ∷ drop 1
    ∷ loop 4 (Genarray (v 3) (v 0)) 2 3 5 first ∷ loop 10 (Genarray (v 3) (v 0)) 2 3 11 second ∷ drop 0 ∷ drop 2 ∷ drop 3 ∷ drop 4 ∷ []) 10)

-- two buffers are taken and given back, by two phases
two_arrays_cost : (name : Name) → cost_of (whole_run (two_arrays name) [] caps) ≡ record { taken = 2; given = 2; reused = 0; phases = 2 }
two_arrays_cost name = refl

abbrev odd_numbers : List ℤ
odd_numbers = pos 1 ∷ pos 3 ∷ pos 5 ∷ pos 7 ∷ pos 9 ∷ pos 11 ∷ pos 13 ∷ pos 15 ∷ pos 17 ∷ pos 19 ∷ pos 21 ∷ pos 23 ∷ pos 25 ∷ pos 27 ∷ pos 29 ∷ pos 31 ∷ []

two_arrays_outcome : (name : Name) → outcome_of (whole_run (two_arrays name) [] caps) ≡ Ok (vector Int odd_numbers ∷ [])
unfolding int_wrap
two_arrays_outcome name = refl

-- int[*] main(int[.] a): b = with { ([0] <= iv < [4]) : a[iv] + 100; } : modarray(a);
-- return (b);
abbrev changed_part : Name → CodeProgram
changed_part name =
    let cell = block (plain 6 (PlainTerm.Select (v 20) (v 5)) ∷ drop 5 ∷ number 7 100 ∷ plain 8 (PlainTerm.Binary Add (v 6) (v 7)) ∷ drop 6 ∷ drop 7 ∷ []) 8 in
    main_alone name ((v 20, record { base = Int; part = Rank 1 }) ∷ []) (block (
    number 0 0 ∷ number 1 4 ∷ plain 2 (PlainTerm.Literal (v 0 ∷ [])) ∷ drop 0 ∷ plain 3 (PlainTerm.Literal (v 1 ∷ [])) ∷ drop 1
    ∷ loop 4 (Modarray (v 20)) 2 3 5 cell ∷ drop 20 ∷ drop 2 ∷ drop 3 ∷ []) 4)

abbrev sixteen : List ℤ
sixteen = pos 4 ∷ pos 5 ∷ pos 6 ∷ pos 7 ∷ pos 8 ∷ pos 9 ∷ pos 10 ∷ pos 11 ∷ pos 12 ∷ pos 13 ∷ pos 14 ∷ pos 15 ∷ []

abbrev argument : ArrayValue
argument = vector Int (pos 0 ∷ pos 1 ∷ pos 2 ∷ pos 3 ∷ sixteen)

-- the argument takes a buffer, and so does the result
changed_part_cost : (name : Name) → cost_of (whole_run (changed_part name) (argument ∷ []) caps) ≡ record { taken = 2; given = 2; reused = 0; phases = 1 }
changed_part_cost name = refl

changed_part_outcome : (name : Name) → outcome_of (whole_run (changed_part name) (argument ∷ []) caps) ≡ Ok (vector Int (pos 100 ∷ pos 101 ∷ pos 102 ∷ pos 103 ∷ sixteen) ∷ [])
unfolding int_wrap
changed_part_outcome name = refl

one_at_least : pos 1 ≤ℤ pos 1
one_at_least = search rules

abbrev line : ℕ → ℕ → List Grid1
line low high = record { lo = pos low; hi = pos high; step = pos 1; width = pos 1; steps = one_at_least; wide = one_at_least } ∷ []

abbrev part : List Grid1 → ℕ → CodeTerm → CodePartsTerm → CodePartsTerm
part grid index body rest = PartCode (record { grid = grid; index = v index; site = here }) body rest

-- the same over parts, and the loop takes over the argument's buffer
abbrev marked : List (CodeTerm → CodeTerm) → List (CodeTerm → CodeTerm) → Name → CodeProgram
marked first last name =
    let changed = block (plain 6 (PlainTerm.Select (v 20) (v 5)) ∷ drop 5 ∷ number 7 100 ∷ plain 8 (PlainTerm.Binary Add (v 6) (v 7)) ∷ drop 6 ∷ drop 7 ∷ []) 8 in
    let unchanged = block (plain 10 (PlainTerm.Select (v 20) (v 9)) ∷ drop 9 ∷ []) 10 in
    let loop = PartedCode (line 0 16) Int [] (parted.Modarray (v 20)) (part (line 0 4) 5 changed (part (line 4 16) 9 unchanged NoCodeParts)) (Some (v 20)) in
    main_alone name ((v 20, record { base = Int; part = Rank 1 }) ∷ []) (block (first ++ (Binding (v 4 ∷ []) here loop ∷ last)) 4)

marked_cost : (name : Name) → cost_of (whole_run (marked [] [] name) (argument ∷ []) caps) ≡ record { taken = 1; given = 1; reused = 1; phases = 1 }
unfolding has_index within
marked_cost name = refl

marked_outcome : (name : Name) → outcome_of (whole_run (marked [] [] name) (argument ∷ []) caps) ≡ Ok (vector Int (pos 100 ∷ pos 101 ∷ pos 102 ∷ pos 103 ∷ sixteen) ∷ [])
unfolding int_wrap has_index within
marked_outcome name = refl

-- where a second reference leads to the buffer, the result has a new one
shared_cost : (name : Name) → cost_of (whole_run (marked (Keeping (v 20) ∷ Binding (v 21 ∷ []) here (PlainCode (PlainTerm.Copy (v 20))) ∷ []) (drop 21 ∷ []) name) (argument ∷ []) caps) ≡ record { taken = 2; given = 2; reused = 0; phases = 1 }
unfolding has_index within
shared_cost name = refl
