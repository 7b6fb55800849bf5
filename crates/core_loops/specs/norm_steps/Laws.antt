-- The statements of the laws.
use Rattle.std.specs.Prelude.{◌≡◌, ℕ, [], ◌∷◌, eqb, false}
use Rattle.sac_base.specs.declared.site.Site.{Site}
use Rattle.core_ir.specs.declared.tree.Var.{Var}
use Rattle.core_ir.specs.declared.tree.CoreOp.TheVariants.{Genarray, Modarray, Fold}
use Rattle.core_ir.specs.Terms.{BlockTerm, RightTerm, GensTerm, With, Bind, Plain, Select, Literal}
use Rattle.core_ir.specs.Meaning.{Env, CallMeaning, run, right_value}
use Rattle.core_facts.specs.Facts.{Facts, AreSound}
use Rattle.core_ir.specs.Uses.{Avoids}
use Rattle.core_ir.specs.Terms.{CoreTerm, FunTerm}
use Rattle.core_ir.specs.WellFormed.{IsWellFormed, IsFunction, bases, param_bases}
use Rattle.core_facts.specs.calls.Arrays.{SameOutcomeOnArrays}
use Rattle.core_loops.specs.norm_steps.Step.{NormStep, BaseTable, Within, Follows}
use Rattle.core_loops.specs.norm_steps.Genarray.{GenarrayParted}
use Rattle.core_loops.specs.norm_steps.Modarray.{ModarrayParted}
use Rattle.core_loops.specs.norm_steps.Fold.{FoldParted}
use Rattle.sac_base.specs.declared.op.Op.{Op}

-- where the bounds are literal and the shapes known, the parted loop in the place of a genarray with-loop means the same, faults and their sites
-- included
abbrev pub GenarraysAreParted : Type 0
GenarraysAreParted =
    (calls : CallMeaning) (turns : ℕ) (k : Facts) (above : ℕ) (s : Site) (x y : Var) (gens : GensTerm) (right : RightTerm) (e : Env) →
    (h : GenarrayParted k above s x y gens right) → AreSound k e → (e y).base ≡ h.partable.base →
    right_value calls turns right s e ≡ right_value calls turns (With (Genarray x y) gens) s e

-- the same of a modarray with-loop
abbrev pub ModarraysAreParted : Type 0
ModarraysAreParted =
    (calls : CallMeaning) (turns : ℕ) (k : Facts) (above : ℕ) (s : Site) (x : Var) (gens : GensTerm) (right : RightTerm) (e : Env) →
    (h : ModarrayParted k above s x gens right) → AreSound k e → (e x).base ≡ h.partable.base →
    right_value calls turns right s e ≡ right_value calls turns (With (Modarray x) gens) s e

-- a selection by a scalar is one by the vector of that scalar, faults and their sites included
abbrev pub ScalarsSelectAsVectors : Type 0
ScalarsSelectAsVectors =
    (calls : CallMeaning) (turns : ℕ) (a i t j : Var) (s u : Site) (rest : BlockTerm) (e : Env) → (e i).shape ≡ [] → eqb j.0 a.0 ≡ false →
    Avoids j rest →
    run calls turns (Bind (t ∷ []) s (Plain (Select a i)) rest) e ≡
    run calls turns (Bind (j ∷ []) u (Plain (Literal (i ∷ []))) (Bind (t ∷ []) s (Plain (Select a j)) rest)) e

-- the same of a fold with-loop, whose parts are those of generators alone
abbrev pub FoldsAreParted : Type 0
FoldsAreParted =
    (calls : CallMeaning) (turns : ℕ) (k : Facts) (above : ℕ) (s : Site) (o : Op) (x : Var) (gens : GensTerm) (right : RightTerm) (e : Env) →
    (h : FoldParted k above s o x gens right) → AreSound k e → (e x).base ≡ h.partable.base →
    right_value calls turns right s e ≡ right_value calls turns (With (Fold o x) gens) s e

-- a normalising step between well-formed cores keeps the outcome on arrays
abbrev pub NormStepsKeepOutcomes : Type 0
NormStepsKeepOutcomes =
    (above : FunTerm → ℕ) (a b : CoreTerm) → NormStep above a b → IsWellFormed a → IsWellFormed b → SameOutcomeOnArrays a b

-- each function of a well-formed core has a table of bases that its variables follow
abbrev pub FunctionsHaveTables : Type 0
FunctionsHaveTables =
    (core : CoreTerm) (f : FunTerm) → (is : IsFunction core f) →
    (m : BaseTable) × Within m (param_bases f) × Follows core m f.body (param_bases f) (bases f.results) is.agreeing
