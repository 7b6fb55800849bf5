-- What is well counted and without marks, in the words of the walk through a block from its end to its start.
use Rattle.std.specs.Prelude.{ℕ, Bool, List, [], ◌∷◌, IsTrue}
use Rattle.core_ir.specs.declared.tree.Var.{Var}
use Rattle.core_ir.specs.Terms.{PlainTerm}
use Rattle.counted_code.specs.declared.tree.Code.{Code}
use Rattle.counted_code.specs.declared.tree.CodeGen.{CodeGen}
use Rattle.counted_code.specs.declared.tree.CodePart.{CodePart}
use Rattle.counted_code.specs.declared.tree.CodeStep.{CodeStep}
use Rattle.counted_code.specs.Counts.{Counted, CountedRight, CountedGens, CountedParts, Unmarked, UnmarkedRight, UnmarkedGens, UnmarkedParts, group_results}
use Rattle.counted_code.specs.Counts.{Reordered}
use Rattle.counted_code.specs.Terms.{CodeTerm, CodeRightTerm, PlainCode, IfCode, LoopCode, CallCode, core_of_code}
use Rattle.counted_code.specs.View.{code_program, step_term}
use Rattle.counted_code.specs.Pieces.{gens_term, parts_term}

-- the number of results of each group of the code
abbrev pub results_in : Code → ℕ → ℕ
results_in code = group_results (core_of_code (code_program code))

abbrev pub IsCounted : (ℕ → ℕ) → (n : ℕ) (outer refs : List Var) → CodeTerm → Type 0
IsCounted results_of n outer refs t = Counted results_of n outer refs t × Unmarked t

-- a right side that ends the references of `mine`, where the scope has all else that is there
abbrev pub IsCountedRight : (ℕ → ℕ) → (n : ℕ) (scope mine : List Var) → CodeRightTerm → Type 0
IsCountedRight results_of n scope mine r = CountedRight results_of n scope mine [] r × UnmarkedRight r

-- one generator, and one part, alone
abbrev pub IsCountedGen : (ℕ → ℕ) → List Var → CodeGen → Type 0
IsCountedGen results_of outer g = CountedGens results_of outer (gens_term (g ∷ [])) × UnmarkedGens (gens_term (g ∷ []))

abbrev pub IsCountedPart : (ℕ → ℕ) → List Var → CodePart → Type 0
IsCountedPart results_of outer p = CountedParts results_of outer (parts_term (p ∷ [])) × UnmarkedParts (parts_term (p ∷ []))

-- What is well counted with the references after the step is well counted with those before it, where the step stands in front.
abbrev pub Leads : (ℕ → ℕ) → (outer before : List Var) → CodeStep → (after : List Var) → Type 0
Leads results_of outer before s after =
    (n : ℕ) (rest : CodeTerm) → IsCounted results_of n outer after rest → IsCounted results_of n outer before (step_term s rest)

-- Whatever references it is well counted with are those of `refs`, in some order.
abbrev pub IsCountedOnlyWith : (ℕ → ℕ) → (n : ℕ) (outer refs : List Var) → CodeTerm → Type 0
IsCountedOnlyWith results_of n outer refs t = (own : List Var) → IsCounted results_of n outer own t → Reordered own refs

-- Where a rest is well counted only with the references after the step, it is with the step in front well counted only with those before it, and only if
-- the answer is yes.
abbrev pub Determines : (ℕ → ℕ) → (outer before : List Var) → CodeStep → (after : List Var) → (answer : Bool) → Type 0
Determines results_of outer before s after answer =
    (n : ℕ) (rest : CodeTerm) (own : List Var) → IsCountedOnlyWith results_of n outer after rest → IsCounted results_of n outer own (step_term s rest)
    → IsTrue answer × Reordered own before

-- ---- kinds of right sides

-- a conditional or a loop
abbrev pub IsNested : CodeRightTerm → Type 0
IsNested (IfCode c a b) = Unit {0}
IsNested (LoopCode first start params test body s) = Unit {0}
IsNested _ = ⊥

-- one that gives one value: no conditional, loop or call, and no fault
abbrev pub IsValue : CodeRightTerm → Type 0
IsValue (IfCode c a b) = ⊥
IsValue (LoopCode first start params test body s) = ⊥
IsValue (CallCode g xs) = ⊥
IsValue (PlainCode (PlainTerm.Always k)) = ⊥
IsValue _ = Unit {0}

-- one without blocks and calls that hands on no reference, and is no fault
abbrev pub OnlyReads : CodeRightTerm → Type 0
OnlyReads (PlainCode (PlainTerm.Copy x)) = ⊥
OnlyReads (PlainCode (PlainTerm.Check x t)) = ⊥
OnlyReads (PlainCode (PlainTerm.Always k)) = ⊥
OnlyReads (PlainCode p) = Unit {0}
OnlyReads _ = ⊥
