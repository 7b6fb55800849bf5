-- A normalising step of a whole core keeps its outcome on arrays.
use Rattle.std.proofs.Common.{◌≡◌, ℕ, List, [], ◌∷◌, Some, Option, refl, sym, ap, subst, ◌∙◌}
use Rattle.sac_base.specs.declared.base.Base.{Base}
use Rattle.sac_base.specs.declared.site.Site.{Site}
use Rattle.sac_base.specs.Outcomes.{and_then}
use Rattle.core_ir.specs.declared.tree.Var.{Var}
use Rattle.core_ir.specs.declared.tree.CoreOp.{CoreOp}
use Rattle.core_ir.specs.declared.tree.CoreOp.TheVariants as making
use Rattle.core_ir.specs.Binders.{bound_in}
use Rattle.core_ir.specs.Terms.{BlockTerm, RightTerm, GensTerm, FunTerm, CoreTerm, Bind, With}
use Rattle.core_ir.specs.Meaning.{Env, CallMeaning, no_variables, bind_all, run, right_value}
use Rattle.core_ir.specs.Outcome.{param_vars}
use Rattle.core_ir.specs.WellFormed.{Bases, base_of, OperationBase, BlockBases, IsWellFormed, param_bases, bases}
use Rattle.core_facts.specs.Facts.{Facts, AreSound}
use Rattle.core_facts.specs.calls.Arrays.{SameOutcomeOnArrays}
use Rattle.core_facts.specs.constants.Called.{called}
use Rattle.core_facts.specs.bases.Typed.{Typed}
use Rattle.core_facts.proofs.bases.Bound.{distinct_right}
use Rattle.core_loops.proofs.fold_steps.Places.{At}
use Rattle.core_loops.proofs.fold_steps.Whole.{body_outcome}
use Rattle.core_loops.specs.norm_steps.Step.{BaseTable, Within, Follows, WithParted, NormHere, NormStep}
use Rattle.core_loops.proofs.norm_steps.Genarray.{genarray_normal}
use Rattle.core_loops.proofs.norm_steps.Modarray.{modarray_normal}
use Rattle.core_loops.proofs.norm_steps.Fold.{fold_normal}
use Rattle.core_loops.proofs.norm_steps.Places.{changed}

based : (m : BaseTable) (g : Bases) (e : Env) (x : Var) (t u : Base) → Within m g → Typed g e → base_of g x ≡ Some t → u ≡ m x → (e x).base ≡ u
based m g e x t u w h p q = h x t p ∙ w x t p ∙ sym q

with_parted : (calls : CallMeaning) (turns : ℕ) (m : BaseTable) (k : Facts) (above : ℕ) (s : Site) (op : CoreOp) (gens : GensTerm) (right : RightTerm) (g : Bases) (t : Base) (e : Env) → WithParted m k above s op gens right → OperationBase g op t → Within m g → Typed g e → AreSound k e → right_value calls turns (With op gens) s e ≡ right_value calls turns right s e
with_parted calls turns m k above s (making.Genarray x y) gens right g t e h b w typed sound = sym (genarray_normal calls turns k above s x y gens right e h.0 sound (based m g e y t h.0.partable.base w typed b.1 h.1))
with_parted calls turns m k above s (making.Modarray x) gens right g t e h b w typed sound = sym (modarray_normal calls turns k above s x gens right e h.0 sound (based m g e x t h.0.partable.base w typed b h.1))
with_parted calls turns m k above s (making.Fold o x) gens right g t e h b w typed sound = sym (fold_normal calls turns k above s o x gens right e h.0 sound (based m g e x t h.0.partable.base w typed b.0 h.1))

norm_here : (core : CoreTerm) (calls : CallMeaning) (turns above : ℕ) (m : BaseTable) (k : Facts) (b c : BlockTerm) → NormHere above m k b c → (scope : List Var) (g : Bases) (ts : List Base) (e : Env) → At core calls turns scope g ts k b e → Within m g → run calls turns b e ≡ run calls turns c e
norm_here core calls turns above m k b c h scope g ts e a w =
    let d : BlockBases core g (Bind h.targets h.site (With h.op h.gens) h.rest) ts = subst (λ x. BlockBases core g x ts) h.before a.bases in
    let same = with_parted calls turns m k above h.site h.op h.gens h.right g d.1.0.0 e h.parted d.1.0.1.0 w a.typed a.sound in
    (λ i. run calls turns (h.before i) e) ∙ (λ i. and_then (same i) (λ vs. run calls turns h.rest (bind_all e h.targets vs))) ∙ (λ i. run calls turns (sym h.after i) e)

pub norm_outcome : (above : FunTerm → ℕ) (a b : CoreTerm) → NormStep above a b → IsWellFormed a → IsWellFormed b → SameOutcomeOnArrays a b
norm_outcome above a b step well other =
    let f = step.function in
    body_outcome a step.place f step.body step.found well
    (λ turns C args typed fit full once scoped agreeing env sound.
    changed a C turns typed (called a) fit step.table (NormHere (above f) step.table) (λ k b c r scope gs ts e' q w z. norm_here a C turns (above f) step.table k b c r scope gs ts e' q w) step.edited (param_vars f) (param_bases f) (bases f.results) (bind_all no_variables (param_vars f) args)
    (record { bases = step.agreeing; once = distinct_right (param_vars f) (bound_in f.body) once; scoped = scoped; full = full; typed = env; sound = sound }) step.params step.follows)
    b step.changed other
