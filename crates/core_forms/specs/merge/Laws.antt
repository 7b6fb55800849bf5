-- The statements of the laws.
use Rattle.std.specs.Prelude.{◌≡◌, ℕ, ◌+◌, ◌<◌, ◌≤◌, true, false, eqb, length, List, [], ◌∷◌, ◌++◌, All, Option, map}
use Rattle.sac_base.specs.declared.base.Base.{Base}
use Rattle.sac_base.specs.declared.grid.Grid1.{Grid1}
use Rattle.core_ir.specs.declared.tree.Var.{Var}
use Rattle.sac_base.specs.declared.site.Site.{Site}
use Rattle.core_ir.specs.Binders.{is_in, bound_in}
use Rattle.core_ir.specs.Edits.{Edited}
use Rattle.core_ir.specs.Scopes.{Scoped}
use Rattle.core_ir.specs.Terms.{BlockTerm, RightTerm, CoreTerm, LetTerm, PartHead, PartsTerm, Bind, Gives, chain}
use Rattle.core_ir.specs.Uses.{AvoidsParts, targets_of}
use Rattle.core_ir.specs.WellFormed.{Covered, Distinct, Fit, IsWellFormed}
use Rattle.core_facts.specs.calls.Arrays.{SameOutcomeOnArrays}
use Rattle.core_facts.specs.Facts.{Facts}
use Rattle.core_loops.specs.Loops.{parted_in, weight}
use Rattle.core_loops.specs.Steps.{fact_ways}
use Rattle.core_subst.specs.Names.{above_function}
use Rattle.core_subst.specs.copy.Mapped.{mapped}
use Rattle.core_loops.specs.merge_steps.Step.{MergedBody}
use Rattle.core_forms.specs.norm.Alike.{Alike}
use Rattle.core_forms.specs.norm.Copied.{IsPlaced}
use Rattle.core_forms.specs.norm.Walks.{core_weight}
use Rattle.core_loops.specs.Indices.{IndexFacts, total_block}
use Rattle.core_loops.specs.Pairs.{AvoidsLets, IsNest, total_around}
use Rattle.core_forms.specs.merge.Built.{AllParts, merged_body, picks}
use Rattle.core_forms.specs.merge.Fresh.{MergesFresh}
use Rattle.core_forms.specs.merge.Walks.{BlockMerges, FunctionMerges, MergeSteps, core_parted}

-- where one loop of a block is merged with the loops in its cells, its weight stays, and it has fewer parted loops
abbrev pub PartedLoopsFall : Type 0
PartedLoopsFall =
    (calls : ℕ → List (Option (List ℕ))) (low high : ℕ) (k : Facts) (b c : BlockTerm) →
    Edited Facts (fact_ways calls) (MergesFresh calls low high) k b c → (weight c ≡ weight b) × (parted_in c < parted_in b)

-- and the block still binds each variable once
abbrev pub BindersStayDistinct : Type 0
BindersStayDistinct =
    (calls : ℕ → List (Option (List ℕ))) (low high : ℕ) (k : Facts) (b c : BlockTerm) →
    Edited Facts (fact_ways calls) (MergesFresh calls low high) k b c → Distinct (bound_in b) → All (λ (x : Var). x.0 < low) (bound_in b) →
    Distinct (bound_in c) × All (λ (x : Var). x.0 < high) (bound_in c)

-- a block at its place is so after many merges
abbrev pub BlocksStayPlaced : Type 0
BlocksStayPlaced =
    (calls : ℕ → List (Option (List ℕ))) (k : Facts) (count low high : ℕ) (b c : BlockTerm) →
    BlockMerges calls k count low high b c → (scope : List Var) → IsPlaced low scope b → IsPlaced high scope c

-- each outer grid joined with the inner ones of its body
abbrev pub joined_grids : List (List Grid1 × List (List Grid1)) → List (List Grid1)
joined_grids [] = []
joined_grids (p ∷ ps) = map (λ (g : List Grid1). p.0 ++ g) p.1 ++ joined_grids ps

-- the grids of a loop joined with those of the loops in its cells fit the joined frame and cover it
abbrev pub JoinedGridsFit : Type 0
JoinedGridsFit =
    (frame inner : List Grid1) (pairs : List (List Grid1 × List (List Grid1))) → Fit frame (map (λ (p : List Grid1 × List (List Grid1)). p.0) pairs) →
    Covered frame (map (λ (p : List Grid1 × List (List Grid1)). p.0) pairs) →
    All (λ (p : List Grid1 × List (List Grid1)). Fit inner p.1 × Covered inner p.1) pairs →
    Fit (frame ++ inner) (joined_grids pairs) × Covered (frame ++ inner) (joined_grids pairs)

-- A core in one function of which loops were merged has the same outcome on arrays, is well formed and no heavier, has fewer parted loops, and came by
-- as many merge steps.
abbrev pub MergesKeep : Type 0
MergesKeep =
    (a b : CoreTerm) (count : ℕ) → FunctionMerges a b count → IsWellFormed a →
    SameOutcomeOnArrays a b × IsWellFormed b × (core_weight b ≡ core_weight a) × (core_parted b + count ≤ core_parted a) × MergeSteps count a b

-- its function then has all variables below the number at which the merges ended
abbrev pub NumbersStayBelow : Type 0
NumbersStayBelow =
    (a b : CoreTerm) (count : ℕ) → (walk : FunctionMerges a b count) → IsWellFormed a → above_function (record (walk.function) { body = walk.body }) ≤ walk.high

-- steps after steps are steps
abbrev pub StepsGoOn : Type 0
StepsGoOn = (n m : ℕ) (a b c : CoreTerm) → MergeSteps n a b → MergeSteps m b c → MergeSteps (n + m) a c

-- A body so built is a merged body: f keeps apart the variables in scope and those that the copied block binds, and leaves what is in scope outside of both
-- loops; the new index, the constants and the components are distinct, and stand for none of these.
abbrev pub BodiesAreMerged : Type 0
BodiesAreMerged =
    (f : Var → Var) (s : Site) (h g j : PartHead) (before after : List LetTerm) (c : BlockTerm) (outside front back cs : List Var) →
    Scoped ((g.index ∷ h.index ∷ []) ++ outside) (chain (before ++ after) c) → Distinct (g.index ∷ h.index ∷ []) →
    ((x y : Var) → is_in x (bound_in (chain (before ++ after) c) ++ ((g.index ∷ h.index ∷ []) ++ outside)) ≡ true →
    is_in y (bound_in (chain (before ++ after) c) ++ ((g.index ∷ h.index ∷ []) ++ outside)) ≡ true → eqb (f x).0 (f y).0 ≡ eqb x.0 y.0) →
    ((x : Var) → is_in x outside ≡ true → f x ≡ x) → length front ≡ length h.grid → length back ≡ length g.grid → length cs ≡ length (front ++ back) →
    Distinct (j.index ∷ targets_of (picks s j.index 0 (front ++ back) cs)) →
    ((x y : Var) → is_in x (j.index ∷ targets_of (picks s j.index 0 (front ++ back) cs)) ≡ true →
    is_in y (bound_in (chain (before ++ after) c) ++ ((g.index ∷ h.index ∷ []) ++ outside)) ≡ true → eqb x.0 (f y).0 ≡ false) →
    MergedBody h before after g c j (merged_body s j.index front back cs f h.index g.index (before ++ after) c)
    × Alike (chain (before ++ after) c) (mapped f (chain (before ++ after) c))

-- Where a part's body is scoped, the parts of the inner loop do not use its variable, and the outer bindings may stand in front of the body of each, below
-- both indices.
abbrev pub InnerPartsAreScoped : Type 0
InnerPartsAreScoped =
    (called : ℕ → List (Option (List ℕ))) (k : Facts) (grid : List Grid1) (m : IndexFacts) (frame : List Grid1) (base : Base) (b : BlockTerm)
    (inner : PartsTerm) → (nest : IsNest called k grid m frame base b inner) → (index : Var) (outside : List Var) → Scoped (index ∷ outside) b →
    Distinct (bound_in b) → AvoidsParts nest.z inner ×
    AllParts (λ g c. (is_in g.index (index ∷ outside) ≡ false) × Scoped (g.index ∷ (index ∷ outside)) (chain (nest.before ++ nest.after) c)) inner

-- The bindings around an inner loop never fault where they never fault one after another without it, if none of them uses it.
abbrev pub AroundIsTotal : Type 0
AroundIsTotal =
    (called : ℕ → List (Option (List ℕ))) (grid : List Grid1) (before after : List LetTerm) (z : Var) (s : Site) (r : RightTerm) (xs : List Var) (k : Facts)
    (m : IndexFacts) → AvoidsLets z after →
    total_around called grid before (Bind (z ∷ []) s r (chain after (Gives xs))) k m ≡ total_block called grid (chain before (chain after (Gives []))) k m
