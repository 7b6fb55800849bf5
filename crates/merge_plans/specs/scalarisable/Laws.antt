-- What the tests decide.
use Rattle.std.specs.Prelude.{◌≡◌, ◌↔◌, IsTrue, ℕ, List, [], ◌∷◌, length, Option}
use Rattle.sac_base.specs.declared.site.Site.{Site}
use Rattle.core_ir.specs.declared.tree.Var.{Var}
use Rattle.core_ir.specs.Terms.{RightTerm, LetTerm, PartHead, Bind, Gives, chain}
use Rattle.core_facts.specs.Facts.{Facts, in_part}
use Rattle.core_loops.specs.Indices.{own_index}
use Rattle.core_loops.specs.Pairs.{AvoidsLets, total_around}
use Rattle.merge_plans.specs.scalarisable.Around.{are_total, none_uses}

-- no binding uses a variable exactly where the test says so
abbrev pub UsesAreDecided : Type 0
UsesAreDecided = (z : Var) (ls : List LetTerm) → IsTrue (none_uses z ls) ↔ AvoidsLets z ls

-- the bindings of a part's body around one that those behind it do not use never fault exactly where the test says so
abbrev pub TotalsAreDecided : Type 0
TotalsAreDecided =
    (called : ℕ → List (Option (List ℕ))) (k : Facts) (h : PartHead) (before after : List LetTerm) (z : Var) (s : Site) (r : RightTerm) (xs : List Var) →
    AvoidsLets z after →
    total_around called h.grid before (Bind (z ∷ []) s r (chain after (Gives xs))) (in_part k h) (own_index (length h.grid) h.index)
    ≡ are_total called h.grid k h.index before after
