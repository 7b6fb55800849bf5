-- Worked examples, computed: where a loop is marked, and where it is not.
use Rattle.std.proofs.Common.{◌≡◌, ℕ, false, List, [], ◌∷◌, refl, ℤ, pos, rules}
use Rattle.std.specs.Prelude.{◌≤ℤ◌, Option, Some, None, Err}
use Rattle.std.specs.Int.{int_wrap}
use Rattle.sac_base.specs.declared.base.Base.TheVariants.{Int}
use Rattle.sac_base.specs.declared.faults.Caps.{Caps}
use Rattle.sac_base.specs.declared.faults.FaultKind.TheVariants.{F2}
use Rattle.sac_base.specs.declared.grid.Grid1.{Grid1}
use Rattle.sac_base.specs.declared.name.Name.{Name}
use Rattle.sac_base.specs.declared.op.Op.TheVariants.{Add, Sub, Div}
use Rattle.sac_base.specs.declared.site.Site.{Site}
use Rattle.sac_base.specs.declared.types.Part.TheVariants.{Known, Star}
use Rattle.sac_base.specs.Grids.{has_index, within}
use Rattle.sac_base.specs.Arrays.{ArrayValue, scalar, vector}
use Rattle.core_ir.specs.declared.tree.Var.{Var}
use Rattle.core_ir.specs.declared.tree.PartedOp.TheVariants as parted
use Rattle.core_ir.specs.Terms.{PlainTerm}
use Rattle.counted_code.specs.Terms.{CodeTerm, CodeProgram, Giving, Binding, Releasing, PlainCode, PartedCode, NoCodeParts, PartCode}
use Rattle.counted_code.specs.Outcome.{whole_run, outcome_of}
use Rattle.counted_marks.specs.Marking.{marking_code}

abbrev pub at : ℕ → ℕ → Site
at line col = record { line = line; col = col }

abbrev pub here : Site
here = at 1 1

abbrev pub v : ℕ → Var
v n = record { 0 = n }

abbrev pub plain : ℕ → PlainTerm → CodeTerm → CodeTerm
plain x p rest = Binding (v x ∷ []) here (PlainCode p) rest

abbrev pub number : ℕ → ℕ → CodeTerm → CodeTerm
number x n rest = plain x (PlainTerm.Const (scalar Int (pos n))) rest

abbrev pub drop : ℕ → CodeTerm → CodeTerm
drop x rest = Releasing (v x) rest

abbrev pub block : List (CodeTerm → CodeTerm) → ℕ → CodeTerm
block [] x = Giving (v x ∷ [])
block (step ∷ steps) x = step (block steps x)

-- int[*] main(int[n] a), where a is 20
abbrev pub main_alone : ℕ → Name → CodeTerm → CodeProgram
main_alone n name body = record {
  functions = record {
    name = name;
    site = here;
    params = (v 20, record { base = Int; part = Known (n ∷ []) }) ∷ [];
    results = record { base = Int; part = Star } ∷ [];
    is_inline = false;
    body = body;
    ends = here;
  } ∷ [];
  groups = [];
  main = 0;
}

abbrev pub caps : Caps
caps = record { turns = 1000; depth = 200 }

pub one_at_least : pos 1 ≤ℤ pos 1
one_at_least = search rules

abbrev pub line : ℕ → List Grid1
line n = record { lo = pos 0; hi = pos n; step = pos 1; width = pos 1; steps = one_at_least; wide = one_at_least } ∷ []

-- a loop over n places whose index is y, with this body
abbrev pub loop : ℕ → ℕ → ℕ → CodeTerm → Option Var → CodeTerm → CodeTerm
loop n x y body mark rest =
    Binding (v x ∷ []) here (PartedCode (line n) Int [] parted.Genarray (PartCode (record { grid = line n; index = v y; site = here }) body NoCodeParts) mark) rest

-- 10 / (a[iv] - n), a fault at the element n
abbrev pub quotient : ℕ → CodeTerm
quotient n = block (
    plain 6 (PlainTerm.Select (v 20) (v 5)) ∷ drop 5 ∷ number 7 n ∷ plain 8 (PlainTerm.Binary Sub (v 6) (v 7)) ∷ drop 6 ∷ drop 7 ∷ number 9 10
    ∷ (λ rest. Binding (v 10 ∷ []) (at 2 38) (PlainCode (PlainTerm.Binary Div (v 9) (v 8))) rest) ∷ drop 9 ∷ drop 8 ∷ []) 10

-- int[*] main(int[16] a):
-- b = with { ([0] <= iv < [16]) : 10 / (a[iv] - 12); } : genarray([16], 0);
-- return (b);
abbrev quotients : Name → CodeProgram
quotients name = main_alone 16 name (block (loop 16 4 5 (quotient 12) None ∷ drop 20 ∷ []) 4)

abbrev quotients_over : Name → CodeProgram
quotients_over name = main_alone 16 name (block (loop 16 4 5 (quotient 12) (Some (v 20)) ∷ []) 4)

-- the loop takes over its argument
quotients_marked : (name : Name) → marking_code (quotients name) ≡ quotients_over name
quotients_marked name = refl

abbrev up_to_fifteen : ArrayValue
up_to_fifteen = vector Int (
    pos 0 ∷ pos 1 ∷ pos 2 ∷ pos 3 ∷ pos 4 ∷ pos 5 ∷ pos 6 ∷ pos 7 ∷ pos 8 ∷ pos 9 ∷ pos 10 ∷ pos 11 ∷ pos 12 ∷ pos 13 ∷ pos 14 ∷ pos 15 ∷ [])

-- and faults at the same cell
quotients_fault : (name : Name) → outcome_of (whole_run (quotients_over name) (up_to_fifteen ∷ []) caps) ≡ Err (record { kind = F2; site = at 2 38 })
unfolding int_wrap has_index within
quotients_fault name = refl

-- a second reference is released later: there is no release before the next binding
abbrev used_later : Name → CodeProgram
used_later name = main_alone 16 name (block (loop 16 4 5 (quotient 12) None ∷ plain 11 (PlainTerm.Binary Add (v 4) (v 20)) ∷ drop 4 ∷ drop 20 ∷ []) 11)

used_later_unmarked : (name : Name) → marking_code (used_later name) ≡ used_later name
used_later_unmarked name = refl

-- a selection at the index plus 0 is one at the own index, and one at the index plus 1 is none
abbrev shifted : ℕ → CodeTerm
shifted n = block (number 7 n ∷ plain 8 (PlainTerm.Binary Add (v 5) (v 7)) ∷ drop 5 ∷ drop 7 ∷ plain 6 (PlainTerm.Select (v 20) (v 8)) ∷ drop 8 ∷ []) 6

abbrev neighbour : ℕ → Name → CodeProgram
neighbour n name = main_alone 16 name (block (loop 16 4 5 (shifted n) None ∷ drop 20 ∷ []) 4)

neighbour_unmarked : (name : Name) → marking_code (neighbour 1 name) ≡ neighbour 1 name
unfolding int_wrap
neighbour_unmarked name = refl

itself_marked : (name : Name) → marking_code (neighbour 0 name) ≡ main_alone 16 name (block (loop 16 4 5 (shifted 0) (Some (v 20)) ∷ []) 4)
unfolding int_wrap
itself_marked name = refl
