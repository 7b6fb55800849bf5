-- What a table learns of the bindings of a term: a table whose bases are those of the variables stays one, what has a base keeps one, and where no
-- right side always faults each variable has one.
use Rattle.std.specs.Prelude.{◌≡◌, ◌≤◌, cond, eqb, List, ◌∷◌, [], ◌++◌, map, length, All, Some}
use Rattle.sac_base.specs.declared.base.Base.{Base}
use Rattle.sac_base.specs.declared.types.ArrayType.{ArrayType}
use Rattle.core_ir.specs.declared.tree.Var.{Var}
use Rattle.core_ir.specs.Terms.{BlockTerm, RightTerm, GensTerm, PartsTerm, GenTerm, PartTerm, CoreTerm, Plain, NoGens, NoParts}
use Rattle.core_ir.specs.WellFormed.{Bases, base_of, LiteralBase, BlockBases, RightBases, GensBases, PartsBases, ints}
use Rattle.sac_base.specs.declared.base.Base.TheVariants.{Int}
use Rattle.core_loops.specs.norm_steps.Step.{Within, AllNumbers, Follows, FollowsRight, FollowsGens, FollowsParts}
use Rattle.core_loops.specs.norm_steps.Step.{BaseTable as AllBases}
use Rattle.variable_bases.specs.declared.signatures.Signatures.{Signatures}
use Rattle.variable_bases.specs.declared.table.BaseTable.{BaseTable}
use Rattle.variable_bases.specs.Instances.{HasInstances, AreUnique}
use Rattle.variable_bases.specs.Sources.{results, sources, sources_right, sources_gens, sources_parts}
use Rattle.variable_bases.specs.Sources.{MayEnd, AllMayEnd, AllMayEndRight, AllMayEndGens, AllMayEndParts}
use Rattle.variable_bases.specs.Table.{base_in, Tells, IsTold}

-- ---- notes

-- one variable has this base
abbrev pub Noted : Var → Base → BaseTable → BaseTable → Type 0
Noted x t before after = (y : Var) → base_in after y ≡ cond (eqb x.0 y.0) (Some t) (base_in before y)

-- the bases of parameters, of which the first with a number counts
abbrev pub HasParams : List (Var × ArrayType) → BaseTable → Type 0
HasParams ps table = (y : Var) → base_in table y ≡ base_of (map (λ (p : Var × ArrayType). (p.0, p.1.base)) ps) y

-- what has a base keeps one
abbrev pub Keeps : BaseTable → BaseTable → Type 0
Keeps before after = (x : Var) → IsTold before x → IsTold after x

-- variables that have these bases
pub record Notes (xs : List Var) (ts : List Base) (before after : BaseTable) : Type 0 where
  pub tells : (m : AllBases) → map m xs ≡ ts → Tells before m → Tells after m
  pub keeps : Keeps before after
  pub told : length xs ≤ length ts → All (IsTold after) xs

-- variables that have the bases of others
pub record Takes (xs ys : List Var) (before after : BaseTable) : Type 0 where
  pub tells : (m : AllBases) → map m xs ≡ map m ys → Tells before m → Tells after m
  pub keeps : Keeps before after
  pub told : length xs ≤ length ys → All (IsTold before) ys → All (IsTold after) xs

-- variables that are numbers
pub record Numbers (xs : List Var) (before after : BaseTable) : Type 0 where
  pub tells : (m : AllBases) → AllNumbers m xs → Tells before m → Tells after m
  pub keeps : Keeps before after
  pub told : All (IsTold after) xs

-- ---- terms

abbrev pub gens_in : RightTerm → GensTerm
gens_in (RightTerm.With o gens) = gens
gens_in _ = NoGens

abbrev pub parts_in : RightTerm → PartsTerm
parts_in (RightTerm.Parted frame t cell o parts) = parts
parts_in _ = NoParts

-- the base of a literal's elements
abbrev pub TellsLiteral : BaseTable → List Var → Base → Type 0
TellsLiteral table xs t =
    (m : AllBases) (g : Bases) (u : Base) → LiteralBase g xs u → Within m g → Tells table m → u ≡ t

-- the base of the one value of a right side
abbrev pub TellsRight : BaseTable → RightTerm → Base → Type 0
TellsRight table r t =
    (core : CoreTerm) (m : AllBases) (g : Bases) (ts : List Base) → RightBases core g r ts → Within m g → Tells table m → ts ≡ t ∷ []

-- the variables in scope have bases in the table
abbrev pub ScopeTold : BaseTable → Bases → Type 0
ScopeTold table g = (x : Var) (t : Base) → base_of g x ≡ Some t → IsTold table x

-- a right side without blocks and calls always faults, or has an operand of which the table has no base
abbrev pub TellsNothing : BaseTable → RightTerm → Type 0
TellsNothing table (Plain p) = (core : CoreTerm) (g : Bases) (ts : List Base) → RightBases core g (Plain p) ts → ScopeTold table g → MayEnd p → ⊥
TellsNothing table _ = Unit {0}

module _ (signatures : Signatures) (before after : BaseTable) where
  pub record LearnsBlock (b : BlockTerm) : Type 0 where
    pub tells : (core : CoreTerm) → HasInstances signatures core → (m : AllBases) (g : Bases) (ts : List Base) → (d : BlockBases core g b ts) → Within m g →
        Follows core m b g ts d → Tells before m → Tells after m
    pub keeps : Keeps before after
    pub told : (core : CoreTerm) → HasInstances signatures core → AreUnique signatures → (m : AllBases) (g : Bases) (ts : List Base) →
        (d : BlockBases core g b ts) → Within m g → Follows core m b g ts d → Tells before m → ScopeTold before g → AllMayEnd b →
        All (IsTold after) (results b) × All (IsTold after) (sources b)

  -- the right side of targets
  pub record LearnsRight (targets : List Var) (r : RightTerm) : Type 0 where
    pub tells : (core : CoreTerm) → HasInstances signatures core → (m : AllBases) (g : Bases) (ts : List Base) → (d : RightBases core g r ts) → Within m g →
        FollowsRight core m r g ts d → map m targets ≡ ts → Tells before m → Tells after m
    pub keeps : Keeps before after
    pub told : (core : CoreTerm) → HasInstances signatures core → AreUnique signatures → (m : AllBases) (g : Bases) (ts : List Base) →
        (d : RightBases core g r ts) → Within m g → FollowsRight core m r g ts d → map m targets ≡ ts → Tells before m → ScopeTold before g →
        AllMayEndRight r → All (IsTold after) targets × All (IsTold after) (sources_right r)

  pub record LearnsGens (gens : GensTerm) : Type 0 where
    pub tells : (core : CoreTerm) → HasInstances signatures core → (m : AllBases) (g : Bases) (t : Base) → (d : GensBases core g gens t) → Within m g →
        FollowsGens core m gens g t d → Tells before m → Tells after m
    pub keeps : Keeps before after
    pub told : (core : CoreTerm) → HasInstances signatures core → AreUnique signatures → (m : AllBases) (g : Bases) (t : Base) →
        (d : GensBases core g gens t) → Within m g → FollowsGens core m gens g t d → Tells before m → ScopeTold before g → AllMayEndGens gens →
        All (IsTold after) (sources_gens gens)

  pub record LearnsGen (gen : GenTerm) : Type 0 where
    pub tells : (core : CoreTerm) → HasInstances signatures core → (m : AllBases) (g : Bases) (t : Base) →
        (d : BlockBases core (ints (gen.head.index ∷ gen.head.names) ++ g) gen.body (t ∷ [])) → Within m g →
        AllNumbers m (gen.head.index ∷ gen.head.names) → Follows core m gen.body (ints (gen.head.index ∷ gen.head.names) ++ g) (t ∷ []) d →
        Tells before m → Tells after m
    pub keeps : Keeps before after
    pub told : (core : CoreTerm) → HasInstances signatures core → AreUnique signatures → (m : AllBases) (g : Bases) (t : Base) →
        (d : BlockBases core (ints (gen.head.index ∷ gen.head.names) ++ g) gen.body (t ∷ [])) → Within m g →
        AllNumbers m (gen.head.index ∷ gen.head.names) → Follows core m gen.body (ints (gen.head.index ∷ gen.head.names) ++ g) (t ∷ []) d →
        Tells before m → ScopeTold before g → AllMayEnd gen.body → All (IsTold after) (sources gen.body)

  pub record LearnsParts (parts : PartsTerm) : Type 0 where
    pub tells : (core : CoreTerm) → HasInstances signatures core → (m : AllBases) (g : Bases) (t : Base) → (d : PartsBases core g parts t) → Within m g →
        FollowsParts core m parts g t d → Tells before m → Tells after m
    pub keeps : Keeps before after
    pub told : (core : CoreTerm) → HasInstances signatures core → AreUnique signatures → (m : AllBases) (g : Bases) (t : Base) →
        (d : PartsBases core g parts t) → Within m g → FollowsParts core m parts g t d → Tells before m → ScopeTold before g → AllMayEndParts parts →
        All (IsTold after) (sources_parts parts)

  pub record LearnsPart (part : PartTerm) : Type 0 where
    pub tells : (core : CoreTerm) → HasInstances signatures core → (m : AllBases) (g : Bases) (t : Base) →
        (d : BlockBases core ((part.head.index, Int) ∷ g) part.body (t ∷ [])) → Within m g → AllNumbers m (part.head.index ∷ []) →
        Follows core m part.body ((part.head.index, Int) ∷ g) (t ∷ []) d → Tells before m → Tells after m
    pub keeps : Keeps before after
    pub told : (core : CoreTerm) → HasInstances signatures core → AreUnique signatures → (m : AllBases) (g : Bases) (t : Base) →
        (d : BlockBases core ((part.head.index, Int) ∷ g) part.body (t ∷ [])) → Within m g → AllNumbers m (part.head.index ∷ []) →
        Follows core m part.body ((part.head.index, Int) ∷ g) (t ∷ []) d → Tells before m → ScopeTold before g → AllMayEnd part.body →
        All (IsTold after) (sources part.body)
