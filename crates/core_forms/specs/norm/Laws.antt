-- The statements of the laws.
use Rattle.std.specs.Prelude.{◌≡◌, ℕ, ◌+◌, ◌<◌, ◌≤◌, true, false, List, ◌∷◌, ◌++◌, length, All, eqb, Option, Bool, filter, map}
use Rattle.sac_base.specs.declared.grid.Grid1.{Grid1}
use Rattle.sac_base.specs.declared.site.Site.{Site}
use Rattle.sac_base.specs.Grids.{SplitsVectors, has_vector}
use Rattle.core_ir.specs.declared.tree.Var.{Var}
use Rattle.core_ir.specs.Binders.{is_in, bound_in}
use Rattle.core_ir.specs.Edits.{Edited}
use Rattle.core_ir.specs.Renaming.{Link, Renamed, under}
use Rattle.core_ir.specs.Scopes.{Scoped}
use Rattle.core_ir.specs.Terms.{BlockTerm, CoreTerm}
use Rattle.core_ir.specs.WellFormed.{Covered, Distinct, Fit, IsWellFormed}
use Rattle.core_facts.specs.calls.Arrays.{SameOutcomeOnArrays}
use Rattle.core_subst.specs.copy.Mapped.{mapped}
use Rattle.core_facts.specs.Facts.{Facts}
use Rattle.core_loops.specs.Loops.{weight}
use Rattle.core_loops.specs.Steps.{fact_ways}
use Rattle.core_subst.specs.Names.{above_function}
use Rattle.core_loops.specs.norm_steps.Step.{BaseTable}
use Rattle.core_loops.specs.norm_steps.Genarray.{NamedBody}
use Rattle.core_loops.specs.Steps.{itself}
use Rattle.core_forms.specs.norm.Alike.{Alike, NamedAlike}
use Rattle.core_forms.specs.norm.Copied.{AreFrom, IsPlaced, components}
use Rattle.core_forms.specs.norm.Fresh.{FreshHere, IsBetween}
use Rattle.core_forms.specs.norm.Walks.{BlockWalk, FunctionWalk, NormSteps, core_weight}

-- a block with other variables has the same weight
abbrev pub RenamedWeightsStay : Type 0
RenamedWeightsStay = (S : Link) (b c : BlockTerm) → Renamed S b c → weight c ≡ weight b

-- where one with-loop of a block becomes a parted loop, its weight falls
abbrev pub WeightsFall : Type 0
WeightsFall =
    (calls : ℕ → List (Option (List ℕ))) (first low high : ℕ) (m : BaseTable) (k : Facts) (b c : BlockTerm) →
    Edited Facts (fact_ways calls) (FreshHere first low high m) k b c → weight c < weight b

-- where one with-loop of a block becomes a parted loop, the block still binds each variable once
abbrev pub BindersStayDistinct : Type 0
BindersStayDistinct =
    (calls : ℕ → List (Option (List ℕ))) (first low high : ℕ) (m : BaseTable) (k : Facts) (b c : BlockTerm) →
    Edited Facts (fact_ways calls) (FreshHere first low high m) k b c → Distinct (bound_in b) → All (λ (x : Var). x.0 < low) (bound_in b) →
    Distinct (bound_in c) × All (λ (x : Var). x.0 < high) (bound_in c)

-- a block at its place is so after a walk
abbrev pub BlocksStayPlaced : Type 0
BlocksStayPlaced =
    (calls : ℕ → List (Option (List ℕ))) (first : ℕ) (m : BaseTable) (k : Facts) (count low high : ℕ) (b c : BlockTerm) →
    BlockWalk calls first m k count low high b c → (scope : List Var) → IsPlaced low scope b → IsPlaced high scope c

-- a block in which f x stands for each variable x is a copy of the block: f keeps apart the variables in scope and those that the block binds
abbrev pub CopiesAreRenamed : Type 0
CopiesAreRenamed =
    (S : Link) (f : Var → Var) (scope : List Var) (b : BlockTerm) → Scoped scope b →
    ((x y : Var) → is_in x (bound_in b ++ scope) ≡ true → is_in y (bound_in b ++ scope) ≡ true → eqb (f x).0 (f y).0 ≡ eqb x.0 y.0) →
    ((x : Var) → is_in x scope ≡ true → S x (f x) ≡ true) → Renamed S b (mapped f b)

abbrev pub CopiesAreAlike : Type 0
CopiesAreAlike = (f : Var → Var) (b : BlockTerm) → Alike b (mapped f b)

-- A core in one function of which with-loops became parted loops has the same outcome on arrays, is well formed and lighter, and came by as many
-- normalising steps.
abbrev pub WalksKeep : Type 0
WalksKeep =
    (a b : CoreTerm) (count : ℕ) → FunctionWalk a b count → IsWellFormed a →
    SameOutcomeOnArrays a b × IsWellFormed b × (core_weight b + count ≤ core_weight a) × NormSteps count a b

-- its function then has all variables below the number at which the walk ended
abbrev pub NumbersStayBelow : Type 0
NumbersStayBelow =
    (a b : CoreTerm) (count : ℕ) → (walk : FunctionWalk a b count) → IsWellFormed a → above_function (record (walk.function) { body = walk.body }) ≤ walk.high

-- steps after steps are steps
abbrev pub StepsGoOn : Type 0
StepsGoOn = (n m : ℕ) (a b c : CoreTerm) → NormSteps n a b → NormSteps m b c → NormSteps (n + m) a c

-- variables numbered one after another are distinct, and between two numbers
abbrev pub OrderIsFresh : Type 0
OrderIsFresh = (n : ℕ) (xs : List Var) → AreFrom n xs → Distinct xs × All (IsBetween n (n + length xs)) xs

-- Above a copy the components of an index stand for the names of the index: f keeps apart the variables in scope and those that the body binds, it
-- takes the old index to the new one and leaves what is in scope outside, and no constant is one of these or of another component.
abbrev pub CopiesAreNamed : Type 0
CopiesAreNamed =
    (f : Var → Var) (s : Site) (index : Var) (xs cs outer : List Var) (body : BlockTerm) → Scoped ((index ∷ xs) ++ outer) body →
    ((x y : Var) → is_in x (bound_in body ++ ((index ∷ xs) ++ outer)) ≡ true → is_in y (bound_in body ++ ((index ∷ xs) ++ outer)) ≡ true →
    eqb (f x).0 (f y).0 ≡ eqb x.0 y.0) → Distinct (index ∷ xs) → length cs ≡ length xs → Distinct cs →
    ((x : Var) → is_in x outer ≡ true → f x ≡ x) →
    ((c x : Var) → is_in c cs ≡ true → is_in x (bound_in body ++ ((index ∷ xs) ++ outer)) ≡ true → eqb c.0 (f x).0 ≡ false) →
    NamedBody (under itself index (f index)) (f index) 0 xs body (components s (f index) 0 f xs cs (mapped f body))
    × NamedAlike xs body (components s (f index) 0 f xs cs (mapped f body))

-- grids into which a frame is split fit it and cover it
abbrev pub SplitsFit : Type 0
SplitsFit = (frame : List Grid1) (grids : List (List Grid1)) → SplitsVectors grids (has_vector frame) → Fit frame grids × Covered frame grids

-- and some of them fit it
abbrev pub SomeFit : Type 0
SomeFit =
    (frame : List Grid1) (labels : List (List Grid1 × Option ℕ)) (keep : List Grid1 × Option ℕ → Bool) →
    SplitsVectors (map (λ (p : List Grid1 × Option ℕ). p.0) labels) (has_vector frame) →
    Fit frame (map (λ (p : List Grid1 × Option ℕ). p.0) (filter keep labels))
