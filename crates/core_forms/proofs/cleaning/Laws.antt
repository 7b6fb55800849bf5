-- The laws of whole cores.
use Rattle.std.proofs.Common.{List, ◌++◌, sym, refl, subst}
use Rattle.core_ir.specs.Binders.{bound_in}
use Rattle.core_ir.specs.Meaning.{no_variables, bind_all}
use Rattle.core_ir.specs.Outcome.{param_vars}
use Rattle.core_ir.specs.Terms.{BlockTerm, FunTerm, CoreTerm}
use Rattle.core_ir.specs.WellFormed.{Distinct, IsFunction, IsWellFormed, bases, param_bases}
use Rattle.core_facts.proofs.bases.Bound.{distinct_right}
use Rattle.core_facts.specs.constants.Called.{called, params_facts}
use Rattle.core_facts.specs.calls.Arrays.{SameOutcomeOnArrays}
use Rattle.core_forms.specs.cleaning.Copies.{forwarded, forwarded_core}
use Rattle.core_forms.specs.cleaning.Unused.{swept, swept_core}
use Rattle.core_forms.proofs.cleaning.Bodies.{KeepsForm, KeepsMeaning, well_formed, same_outcome}
use Rattle.core_forms.proofs.cleaning.Lists.{all_of, distinct_sub, joined}
use Rattle.core_forms.proofs.cleaning.Copies as copies
use Rattle.core_forms.proofs.cleaning.Unused as unused

-- ---- sources in the place of copies

own : (scope : List Rattle.core_ir.specs.declared.tree.Var.Var) → copies.Keeps scope (λ x. x)
own scope = record { outside = λ y n. refl; inside = λ y p. p }

forwarded_form : (core : CoreTerm) (f : FunTerm) → IsFunction core f → KeepsForm core f (forwarded f.body (λ x. x))
forwarded_form core f is = record {
  once = subst (λ xs. Distinct (param_vars f ++ xs)) (sym (copies.bound_kept f.body (λ x. x))) is.once;
  scoped = copies.scoped_kept f.body (param_vars f) (λ x. x) (own (param_vars f)) is.scoped;
  agreeing = copies.block_kept core f.body (param_vars f) (λ x. x) (param_bases f) (bases f.results) (own (param_vars f)) (λ y. refl) is.scoped is.agreeing;
  calls = copies.calls_kept f.body (λ x. x);
}

forwarded_meaning : (core : CoreTerm) (f : FunTerm) → IsFunction core f → KeepsMeaning core f (forwarded f.body (λ x. x))
forwarded_meaning core f is turns C args typed fit full env sound =
    copies.block_same C turns f.body (param_vars f) (λ x. x) (bind_all no_variables (param_vars f) args) is.scoped (own (param_vars f)) (λ y. refl)

pub forwarded_well : (core : CoreTerm) → IsWellFormed core → IsWellFormed (forwarded_core core)
forwarded_well core well = well_formed core (λ (f : FunTerm). forwarded f.body (λ x. x)) well (forwarded_form core)

pub forwarded_outcome : (core : CoreTerm) → IsWellFormed core → SameOutcomeOnArrays core (forwarded_core core)
forwarded_outcome core well = same_outcome core (λ (f : FunTerm). forwarded f.body (λ x. x)) well (forwarded_form core) (forwarded_meaning core)

-- ---- without bindings that are not used

abbrev swept_in : CoreTerm → FunTerm → BlockTerm
swept_in core f = swept (called core) f.body (params_facts f)

swept_form : (core : CoreTerm) (f : FunTerm) → IsFunction core f → KeepsForm core f (swept_in core f)
swept_form core f is = record {
  once = distinct_sub (joined (all_of (param_vars f)) (unused.bound_less (called core) f.body (params_facts f))) is.once;
  scoped = unused.scoped_kept (called core) f.body (params_facts f) (param_vars f) (param_vars f) is.scoped (λ y p. p) (λ y u p. p);
  agreeing = unused.block_kept core (called core) f.body (params_facts f) (param_bases f) (param_bases f) (bases f.results) is.agreeing (λ y t u p. p);
  calls = unused.calls_kept (called core) f.body (params_facts f);
}

swept_meaning : (core : CoreTerm) (f : FunTerm) → IsFunction core f → KeepsMeaning core f (swept_in core f)
swept_meaning core f is turns C args typed fit full env sound =
    unused.block_same core C turns typed (called core) fit f.body (param_bases f) (bases f.results) (params_facts f) (bind_all no_variables (param_vars f) args)
    (record { bases = is.agreeing; once = distinct_right (param_vars f) (bound_in f.body) is.once; full = full; typed = env; sound = sound })

pub swept_well : (core : CoreTerm) → IsWellFormed core → IsWellFormed (swept_core core)
swept_well core well = well_formed core (swept_in core) well (swept_form core)

pub swept_outcome : (core : CoreTerm) → IsWellFormed core → SameOutcomeOnArrays core (swept_core core)
swept_outcome core well = same_outcome core (swept_in core) well (swept_form core) (swept_meaning core)
