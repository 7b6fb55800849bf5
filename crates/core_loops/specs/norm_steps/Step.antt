-- A normalising step of a whole core.
use Rattle.std.specs.Prelude.{◌≡◌, ℕ, List, [], ◌∷◌, ◌++◌, map, zip, Some, slice_get}
use Rattle.sac_base.specs.declared.base.Base.{Base}
use Rattle.sac_base.specs.declared.base.Base.TheVariants.{Int, Bool as Truth}
use Rattle.sac_base.specs.declared.site.Site.{Site}
use Rattle.core_ir.specs.declared.tree.Var.{Var}
use Rattle.core_ir.specs.declared.tree.CoreOp.{CoreOp}
use Rattle.core_ir.specs.declared.tree.CoreOp.TheVariants as making
use Rattle.core_ir.specs.Edits.{Edited}
use Rattle.core_ir.specs.Terms.{BlockTerm, RightTerm, GensTerm, PartsTerm, FunTerm, CoreTerm, Gives, Bind, Plain, With, NoGens, Gen, NoParts, Part}
use Rattle.core_ir.specs.WellFormed.{Bases, base_of, BlockBases, RightBases, GensBases, PartsBases, ints, bases, param_bases}
use Rattle.core_facts.specs.Facts.{Facts}
use Rattle.core_facts.specs.constants.Called.{called, params_facts}
use Rattle.core_loops.specs.Steps.{fact_ways}
use Rattle.core_facts.specs.calls.Replaced.{replaced_at}
use Rattle.core_loops.specs.norm_steps.Genarray.{GenarrayParted}
use Rattle.core_loops.specs.norm_steps.Modarray.{ModarrayParted}
use Rattle.core_loops.specs.norm_steps.Fold.{FoldParted}

-- ---- one base for each variable of a function

abbrev pub BaseTable : Type 0
BaseTable = Var → Base

-- the table has the bases of the variables in scope
abbrev pub Within : BaseTable → Bases → Type 0
Within m g = (x : Var) (t : Base) → base_of g x ≡ Some t → t ≡ m x

abbrev pub AllNumbers : BaseTable → List Var → Type 0
AllNumbers m [] = Unit {0}
AllNumbers m (x ∷ xs) = (Int ≡ m x) × AllNumbers m xs

-- where bases agree, they are those of the table
module _ (core : CoreTerm) (m : BaseTable) where
  abbrev mutual
    pub Follows : (b : BlockTerm) (g : Bases) (ts : List Base) → BlockBases core g b ts → Type 0
    Follows (Gives xs) g ts d = Unit {0}
    Follows (Bind xs s r b) g ts d = (d.0 ≡ map m xs) × FollowsRight r g d.0 d.1.0 × Follows b (zip xs d.0 ++ g) ts d.1.2

    pub FollowsRight : (r : RightTerm) (g : Bases) (ts : List Base) → RightBases core g r ts → Type 0
    FollowsRight (Plain p) g ts d = Unit {0}
    FollowsRight (RightTerm.If x a b) g ts d = Follows a g ts d.1 × Follows b g ts d.2
    FollowsRight (RightTerm.Loop first start params test body s) g ts d = (ts ≡ map m params) × Follows test (zip params ts ++ g)
        (Truth ∷ []) d.2 × Follows body (zip params ts ++ g) ts d.3
    FollowsRight (RightTerm.Call group xs) g ts d = Unit {0}
    FollowsRight (RightTerm.With o gens) g ts d = FollowsGens gens g d.0 d.1.1
    FollowsRight (RightTerm.Parted frame t cell o parts) g ts d = FollowsParts parts g t d.1

    pub FollowsGens : (r : GensTerm) (g : Bases) (t : Base) → GensBases core g r t → Type 0
    FollowsGens NoGens g t d = Unit {0}
    FollowsGens (Gen h b rest) g t d = AllNumbers m (h.index ∷ h.names) × Follows b (ints (h.index ∷ h.names) ++ g) (t ∷ []) d.4 × FollowsGens rest g t d.5

    pub FollowsParts : (r : PartsTerm) (g : Bases) (t : Base) → PartsBases core g r t → Type 0
    FollowsParts NoParts g t d = Unit {0}
    FollowsParts (Part h b rest) g t d = (Int ≡ m h.index) × Follows b ((h.index, Int) ∷ g) (t ∷ []) d.0 × FollowsParts rest g t d.1

-- ---- the step

-- the parted loop in the place of a with-loop; its base is that of default, array or neutral value
abbrev pub WithParted : BaseTable → Facts → ℕ → Site → CoreOp → GensTerm → RightTerm → Type 0
WithParted m k above s (making.Genarray x y) gens right = (h : GenarrayParted k above s x y gens right) × (h.partable.base ≡ m y)
WithParted m k above s (making.Modarray x) gens right = (h : ModarrayParted k above s x gens right) × (h.partable.base ≡ m x)
WithParted m k above s (making.Fold o x) gens right = (h : FoldParted k above s o x gens right) × (h.partable.base ≡ m x)

pub record NormHere (above : ℕ) (m : BaseTable) (k : Facts) (b c : BlockTerm) : Type 0 where
  pub targets : List Var
  pub site : Site
  pub op : CoreOp
  pub gens : GensTerm
  pub right : RightTerm
  pub rest : BlockTerm
  pub parted : WithParted m k above site op gens right
  pub before : b ≡ Bind targets site (With op gens) rest
  pub after : c ≡ Bind targets site right rest

-- one with-loop of one function, anywhere in its body, becomes a parted loop; `above` is one more than the greatest number of a variable of a
-- function
pub record NormStep (above : FunTerm → ℕ) (a b : CoreTerm) : Type 0 where
  pub place : ℕ
  pub function : FunTerm
  pub body : BlockTerm
  pub found : slice_get a.functions place ≡ Some function
  -- the bases of the function's variables
  pub table : BaseTable
  pub params : Within table (param_bases function)
  pub agreeing : BlockBases a (param_bases function) function.body (bases function.results)
  pub follows : Follows a table function.body (param_bases function) (bases function.results) agreeing
  pub edited : Edited Facts (fact_ways (called a)) (NormHere (above function) table) (params_facts function) function.body body
  pub changed : b ≡ record a { functions = replaced_at a.functions place (record function { body = body }) }
