-- When marks are right under an environment: each marked loop that is reached writes over an array of the result's shape, and each of its cells reads
-- of it its own element alone.
use Rattle.std.specs.Prelude.{◌≡◌, ℕ, true, List, [], map, ℤ, Some, None, Ok}
use Rattle.sac_base.specs.declared.base.Base.TheVariants.{Int}
use Rattle.sac_base.specs.declared.grid.Grid1.{Grid1}
use Rattle.sac_base.specs.declared.site.Site.{Site}
use Rattle.sac_base.specs.Arrays.{ArrayValue, IsFull, vector}
use Rattle.sac_base.specs.Grids.{has_vector}
use Rattle.core_ir.specs.declared.tree.PartedOp.{PartedOp}
use Rattle.core_ir.specs.declared.tree.Var.{Var}
use Rattle.core_ir.specs.Meaning.{Env, Answer, CallMeaning, bind, bind_all, extents, first, with_index, run, right_value}
use Rattle.core_ir.specs.WellFormed.{Covered, part_grids}
use Rattle.core_facts.specs.Facts.{DescribeAll}
use Rattle.core_loops.specs.folds.Cells.{IsBox}
use Rattle.core_loops.specs.Pairs.{Makes}
use Rattle.counted_code.specs.Terms.{CodeTerm, CodeRightTerm, CodeGensTerm, CodePartsTerm, Giving, Binding, Keeping, Releasing, PlainCode, IfCode}
use Rattle.counted_code.specs.Terms.{LoopCode, CallCode, WithCode, PartedCode, NoCodeGens, GenCode, NoCodeParts, PartCode, core_of, core_of_right, core_of_parts}
use Rattle.counted_code.specs.Values.{Heap, Value, read}
use Rattle.counted_code.specs.Machine.{DoesCalls}
use Rattle.counted_laws.specs.Simulation.{Owns, Matches}
use Rattle.phase_loop_laws.specs.mark_laws.Alike.{AlikeAt}

-- the values that a loop's parameters have before one of its turns
pub data Reached (start : List ArrayValue) (body : List ArrayValue → Answer) : List ArrayValue → Type 0 where
  at_start : Reached start body start
  after_turn : {vs ws : List ArrayValue} → Reached start body vs → body vs ≡ Ok ws → Reached start body ws

-- A loop that makes an array of scalar cells may write over this array: the frame begins at 0, each of its indices has a part, and the array is as
-- large.
pub record CanHold (frame : List Grid1) (cell : List ℕ) (op : PartedOp) (grids : List (List Grid1)) (a : ArrayValue) : Type 0 where
  pub frame_is_box : IsBox frame
  pub scalars : cell ≡ []
  pub makes : Makes op
  pub covered : Covered frame grids
  pub shape : a.shape ≡ extents frame
  pub full : IsFull a

module _ (calls : CallMeaning) (turns : ℕ) where
  abbrev mutual
    pub MarksHold : CodeTerm → Env → Type 0
    MarksHold (Giving xs) e = Unit {0}
    MarksHold (Binding xs s r b) e =
        MarksHoldRight r e × ((vs : List ArrayValue) → right_value calls turns (core_of_right r) s e ≡ Ok vs → MarksHold b (bind_all e xs vs))
    MarksHold (Keeping x b) e = MarksHold b e
    MarksHold (Releasing x b) e = MarksHold b e

    pub MarksHoldRight : CodeRightTerm → Env → Type 0
    MarksHoldRight (PlainCode p) e = Unit {0}
    MarksHoldRight (IfCode x a b) e = MarksHold a e × MarksHold b e
    MarksHoldRight (LoopCode first start params test body s) e =
        (vs : List ArrayValue) → Reached (map e start) (λ ws. run calls turns (core_of body) (bind_all e params ws)) vs →
        MarksHold test (bind_all e params vs) × MarksHold body (bind_all e params vs)
    -- the arguments of a call are arrays with as many cells as their shapes say
    MarksHoldRight (CallCode g xs) e = DescribeAll [] (map e xs)
    MarksHoldRight (WithCode op gens) e = MarksHoldGens gens e
    MarksHoldRight (PartedCode f b c op parts None) e = MarksHoldParts parts e
    MarksHoldRight (PartedCode f b c op parts (Some v)) e = CanHold f c op (part_grids (core_of_parts parts)) (e v) × MarksHoldOver v parts e

    pub MarksHoldGens : CodeGensTerm → Env → Type 0
    MarksHoldGens NoCodeGens e = Unit {0}
    MarksHoldGens (GenCode h b rest) e = ((index : List ℤ) → MarksHold b (with_index e h index)) × MarksHoldGens rest e

    pub MarksHoldParts : CodePartsTerm → Env → Type 0
    MarksHoldParts NoCodeParts e = Unit {0}
    MarksHoldParts (PartCode h b rest) e =
        ((index : List ℤ) → has_vector h.grid index ≡ true → MarksHold b (bind e h.index (vector Int index))) × MarksHoldParts rest e

    -- a cell is the same, and its marks hold, whatever the array's other elements are
    pub MarksHoldOver : Var → CodePartsTerm → Env → Type 0
    MarksHoldOver v NoCodeParts e = Unit {0}
    MarksHoldOver v (PartCode h b rest) e =
        ((index : List ℤ) → has_vector h.grid index ≡ true →
        ((f : Env) → AlikeAt v index (bind e h.index (vector Int index)) f →
        (run calls turns (core_of b) f ≡ run calls turns (core_of b) (bind e h.index (vector Int index))) × MarksHold b f)
        × ((a : ArrayValue) → first (run calls turns (core_of b) (bind e h.index (vector Int index))) ≡ Ok a → IsFull a))
        × MarksHoldOver v rest e

-- calls of arrays do what they mean, and take over their arguments' references
abbrev pub ArrayCallsMatch : (ℕ → ℕ) → DoesCalls → CallMeaning → Type 0
ArrayCallsMatch results_of does_calls calls =
    (g : ℕ) (vs : List Value) (s : Site) (h : Heap) (others : ℕ → ℕ) → Owns h vs others → DescribeAll [] (map (read h) vs) →
    Matches (results_of g) others h (does_calls g vs s h) (calls g (map (read h) vs) s)
