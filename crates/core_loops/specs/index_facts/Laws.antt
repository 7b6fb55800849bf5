-- The statements of the laws.
use Rattle.std.specs.Prelude.{◌≡◌, ℕ, List, Option, Ok, ℤ, true, length}
use Rattle.sac_base.specs.declared.base.Base.{Base}
use Rattle.sac_base.specs.declared.grid.Grid1.{Grid1}
use Rattle.sac_base.specs.Grids.{has_vector}
use Rattle.core_ir.specs.Binders.{bound_in}
use Rattle.core_ir.specs.WellFormed.{Bases, BlockBases, Distinct}
use Rattle.core_facts.specs.Full.{FullInside}
use Rattle.core_facts.specs.bases.Typed.{Typed, CallsTyped}
use Rattle.sac_base.specs.Arrays.{ArrayValue}
use Rattle.core_ir.specs.Terms.{PlainTerm, BlockTerm, CoreTerm}
use Rattle.core_ir.specs.Meaning.{Env, CallMeaning, plain_value, run}
use Rattle.core_facts.specs.Facts.{Facts, AreSound, CallsFit}
use Rattle.core_loops.specs.Indices.{IndexFacts, Says, index_fact, total_block}
use Rattle.core_loops.specs.index_facts.Says.{SaysAll}

-- the value of a right side is beside the index as its index fact says
abbrev pub IndexFactsAreSound : Type 0
IndexFactsAreSound =
    (own : List ℤ) (n : ℕ) (p : PlainTerm) (k : Facts) (m : IndexFacts) (e : Env) (v : ArrayValue) → length own ≡ n → AreSound k e → SaysAll own m e →
    plain_value p e ≡ Ok v → Says own (index_fact n p k m) v

-- a block that is total on a grid has a value at each member of the grid, in each environment that has the known shapes, literal values, bases and
-- indices
abbrev pub TotalBlocksHaveValues : Type 0
TotalBlocksHaveValues =
    (core : CoreTerm) (calls : CallMeaning) (turns : ℕ) (called : ℕ → List (Option (List ℕ))) (grid : List Grid1) (own : List ℤ) (b : BlockTerm) (g : Bases)
    (ts : List Base) (k : Facts) (m : IndexFacts) (e : Env) →
    CallsTyped core calls → CallsFit called calls → has_vector grid own ≡ true → length own ≡ length grid → total_block called grid b k m ≡ true →
    BlockBases core g b ts → Distinct (bound_in b) → FullInside calls turns b → Typed g e → AreSound k e → SaysAll own m e →
    (vs : List ArrayValue) × (run calls turns b e ≡ Ok vs)
