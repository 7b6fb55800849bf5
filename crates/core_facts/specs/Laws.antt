-- The statements of the laws.
use Rattle.std.specs.Prelude.{◌≡◌, ℕ, List, Option, Ok}
use Rattle.sac_base.specs.Arrays.{ArrayValue}
use Rattle.sac_base.specs.declared.site.Site.{Site}
use Rattle.core_ir.specs.Meaning.{Env, CallMeaning, run, right_value}
use Rattle.core_ir.specs.Terms.{BlockTerm, RightTerm}
use Rattle.core_facts.specs.Facts.{Facts, AreSound, CallsFit, DescribeAll, right_facts, block_facts}
use Rattle.core_facts.specs.Full.{KeepsFull, FullInside, FullInsideRight}
use Rattle.core_facts.specs.Settled.{settled, IsSettled}

-- what is known of a right side and of a block's results is so in each run that ends without a fault
abbrev pub FactsOfRightsAreSound : Type 0
FactsOfRightsAreSound =
    (call : CallMeaning) (turns : ℕ) (called : ℕ → List (Option (List ℕ))) → CallsFit called call →
    (r : RightTerm) (s : Site) (k : Facts) (e : Env) (vs : List ArrayValue) → KeepsFull call turns r → FullInsideRight call turns r → AreSound k e →
    right_value call turns r s e ≡ Ok vs → DescribeAll (right_facts called r k) vs

-- what is known of a right side and of a block's results is so in each run that ends without a fault
abbrev pub FactsOfBlocksAreSound : Type 0
FactsOfBlocksAreSound =
    (call : CallMeaning) (turns : ℕ) (called : ℕ → List (Option (List ℕ))) → CallsFit called call →
    (b : BlockTerm) (k : Facts) (e : Env) (vs : List ArrayValue) → FullInside call turns b → AreSound k e → run call turns b e ≡ Ok vs →
    DescribeAll (block_facts called b k) vs

-- the block in which literal variables are bound by constants means the same, and has no literal variable that is not
abbrev pub SettledMeansTheSame : Type 0
SettledMeansTheSame =
    (call : CallMeaning) (turns : ℕ) (called : ℕ → List (Option (List ℕ))) → CallsFit called call → (b : BlockTerm) (k : Facts) (e : Env) →
    FullInside call turns b → AreSound k e → run call turns (settled called b k) e ≡ run call turns b e

-- the block in which literal variables are bound by constants means the same, and has no literal variable that is not
abbrev pub SettledLeavesNone : Type 0
SettledLeavesNone =
    (called : ℕ → List (Option (List ℕ))) (b : BlockTerm) (k : Facts) → IsSettled called (settled called b k) k
