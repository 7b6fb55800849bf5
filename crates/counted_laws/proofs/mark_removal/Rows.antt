-- Worked examples, computed: a marked loop in main, and a phase whose cells call a function without marks.
use Rattle.std.proofs.Common.{◌≡◌, ℕ, zero, suc, Bool, true, false, List, [], ◌∷◌, refl, ap, ◌∙◌, sym, subst, pos, rules, true≢false, inl, inr}
use Rattle.std.specs.Prelude.{◌≤ℤ◌, Option, Some, None, Ok, slice_get}
use Rattle.std.specs.Int.{int_wrap}
use Rattle.sac_base.specs.declared.base.Base.TheVariants.{Int}
use Rattle.sac_base.specs.declared.faults.Caps.{Caps}
use Rattle.sac_base.specs.declared.grid.Grid1.{Grid1}
use Rattle.sac_base.specs.declared.name.Name.{Name}
use Rattle.sac_base.specs.declared.op.Op.TheVariants.{Add}
use Rattle.sac_base.specs.declared.site.Site.{Site}
use Rattle.sac_base.specs.declared.types.Part.TheVariants.{Known, Star}
use Rattle.sac_base.specs.Grids.{has_index, within}
use Rattle.sac_base.specs.Arrays.{ArrayValue, scalar, vector}
use Rattle.core_ir.specs.declared.tree.Var.{Var}
use Rattle.core_ir.specs.declared.tree.PartedOp.TheVariants as parted
use Rattle.core_ir.specs.Outcome.{group_at}
use Rattle.core_ir.specs.Terms.{PlainTerm}
use Rattle.core_facts.specs.calls.Nests.{CallsAll, StandsIn}
use Rattle.counted_code.specs.Counts.{Unmarked}
use Rattle.counted_code.specs.Machine.{does}
use Rattle.counted_code.specs.Outcome.{whole_run, outcome_of, cost_of}
use Rattle.counted_code.specs.Terms.{CodeTerm, CodeFunTerm, CodeProgram, Giving, Binding, Releasing, PlainCode, CallCode, PartedCode, NoCodeParts, PartCode, core_of, core_of_code}
use Rattle.counted_laws.specs.mark_removal.Reached.{IsOne, ReachesNone}
use Rattle.counted_laws.specs.mark_removal.Removal.{without_marks}
use Rattle.counted_laws.specs.mark_removal.Statements.{calls_with}
use Rattle.counted_laws.proofs.mark_removal.Reached.{block_same}

abbrev here : Site
here = record { line = 1; col = 1 }

abbrev v : ℕ → Var
v n = record { 0 = n }

abbrev plain : ℕ → PlainTerm → CodeTerm → CodeTerm
plain x p rest = Binding (v x ∷ []) here (PlainCode p) rest

abbrev number : ℕ → ℕ → CodeTerm → CodeTerm
number x n rest = plain x (PlainTerm.Const (scalar Int (pos n))) rest

abbrev drop : ℕ → CodeTerm → CodeTerm
drop x rest = Releasing (v x) rest

abbrev block : List (CodeTerm → CodeTerm) → ℕ → CodeTerm
block [] x = Giving (v x ∷ [])
block (step ∷ steps) x = step (block steps x)

one_at_least : pos 1 ≤ℤ pos 1
one_at_least = search rules

abbrev line : List Grid1
line = record { lo = pos 0; hi = pos 10; step = pos 1; width = pos 1; steps = one_at_least; wide = one_at_least } ∷ []

-- a loop over 10 places whose index is y, with this body
abbrev loop : ℕ → ℕ → CodeTerm → Option Var → CodeTerm → CodeTerm
loop x y body mark rest =
    Binding (v x ∷ []) here (PartedCode line Int [] parted.Genarray (PartCode (record { grid = line; index = v y; site = here }) body NoCodeParts) mark) rest

abbrev function : Name → ℕ → List ℕ → CodeTerm → CodeFunTerm
function name x shape body = record {
  name = name;
  site = here;
  params = (v x, record { base = Int; part = Known shape }) ∷ [];
  results = record { base = Int; part = Star } ∷ [];
  is_inline = false;
  body = body;
  ends = here;
}

-- int[*] plus(int x): return (x + 100);
abbrev plus : CodeTerm
plus = block (number 51 100 ∷ plain 52 (PlainTerm.Binary Add (v 50) (v 51)) ∷ drop 50 ∷ drop 51 ∷ []) 52

-- a[iv] + 1, and plus(b[jv])
abbrev next : CodeTerm
next = block (plain 6 (PlainTerm.Select (v 20) (v 5)) ∷ drop 5 ∷ number 7 1 ∷ plain 8 (PlainTerm.Binary Add (v 6) (v 7)) ∷ drop 6 ∷ drop 7 ∷ []) 8

abbrev called : CodeTerm
called = block (plain 12 (PlainTerm.Select (v 4) (v 11)) ∷ drop 11 ∷ (λ rest. Binding (v 13 ∷ []) here (CallCode 0 (v 12 ∷ [])) rest) ∷ []) 13

-- int[*] main(int[10] a): b = a + 1 over a; c = plus(b) at each place; return (c);
abbrev program : Name → Option Var → (CodeTerm → CodeTerm) → CodeProgram
program name mark behind = record {
  functions = function name 50 [] plus ∷ function name 20 (10 ∷ []) (block (loop 4 5 next mark ∷ behind ∷ loop 10 11 called None ∷ drop 4 ∷ []) 10) ∷ [];
  groups = (0 ∷ []) ∷ [];
  main = 1;
}

abbrev marked : Name → CodeProgram
marked name = program name (Some (v 20)) (λ rest. rest)

-- the mark becomes a release right behind the loop
marks_removed : (name : Name) → without_marks (marked name) ≡ program name None (drop 20)
marks_removed name = refl

abbrev caps : Caps
caps = record { turns = 1000; depth = 200 }

abbrev argument : ArrayValue
argument = vector Int (pos 0 ∷ pos 1 ∷ pos 2 ∷ pos 3 ∷ pos 4 ∷ pos 5 ∷ pos 6 ∷ pos 7 ∷ pos 8 ∷ pos 9 ∷ [])

abbrev sums : ArrayValue
sums = vector Int (pos 101 ∷ pos 102 ∷ pos 103 ∷ pos 104 ∷ pos 105 ∷ pos 106 ∷ pos 107 ∷ pos 108 ∷ pos 109 ∷ pos 110 ∷ [])

-- both come to the same array; where the mark is gone the first loop takes a buffer
marked_outcome : (name : Name) → outcome_of (whole_run (marked name) (argument ∷ []) caps) ≡ Ok (sums ∷ [])
unfolding int_wrap has_index within
marked_outcome name = refl

removed_outcome : (name : Name) → outcome_of (whole_run (without_marks (marked name)) (argument ∷ []) caps) ≡ Ok (sums ∷ [])
unfolding int_wrap has_index within
removed_outcome name = refl

marked_cost : (name : Name) → cost_of (whole_run (marked name) (argument ∷ []) caps) ≡ record { taken = 2; given = 2; reused = 1; phases = 2 }
unfolding int_wrap has_index within
marked_cost name = refl

removed_cost : (name : Name) → cost_of (whole_run (without_marks (marked name)) (argument ∷ []) caps) ≡ record { taken = 3; given = 3; reused = 0; phases = 2 }
unfolding int_wrap has_index within
removed_cost name = refl

-- the group that the second loop's cells call
abbrev zeroth : ℕ → Bool
zeroth zero = true
zeroth (suc g) = false

-- its function and the cells have no mark, and call no other group
function_clear : Unmarked plus × CallsAll (IsOne zeroth) (core_of plus)
function_clear = search rules

cells_clear : Unmarked called × CallsAll (IsOne zeroth) (core_of called)
cells_clear = ((tt, (tt, tt)), (tt, (refl, tt)))

abbrev found_or : CodeFunTerm → Option CodeFunTerm → CodeFunTerm
found_or f None = f
found_or f (Some g) = g

-- no other function is in the group
only_plus : (name : Name) (group place : ℕ) (f : CodeFunTerm) → IsOne zeroth group → StandsIn (group_at (core_of_code (marked name)) group) place → slice_get (marked name).functions place ≡ Some f → function name 50 [] plus ≡ f
only_plus name (suc g) place f is stands there = elim (true≢false (sym is)) [ ]
only_plus name zero place f is (inl e) there = ap (found_or f) (ap (slice_get (marked name).functions) e ∙ there)
only_plus name zero place f is (inr none) there = elim none [ ]

program_clear : (name : Name) → ReachesNone (marked name) zeroth
program_clear name = record {
  unmarked = λ group place f is stands there. subst (λ (g : CodeFunTerm). Unmarked g.body) (only_plus name group place f is stands there) function_clear.0;
  calls = λ group place f is stands there. subst (λ (g : CodeFunTerm). CallsAll (IsOne zeroth) (core_of g.body)) (only_plus name group place f is stands there) function_clear.1;
}

-- so the cells of the second loop do the same without the mark of the first
cells_do_the_same : (name : Name) (turns left nest : ℕ) → does (calls_with (marked name) turns left nest) turns called ≡ does (calls_with (without_marks (marked name)) turns left nest) turns called
cells_do_the_same name turns left nest = block_same (marked name) zeroth (program_clear name) turns left nest called cells_clear.1
