-- The laws of whole cores.
use Rattle.std.proofs.Common.{◌≡◌, ℕ, ◌≤◌, max, cond, eqb, List, [], ◌∷◌, map, Some, None, refl, ◌∙◌, arith}
use Rattle.sac_base.specs.declared.types.ArrayType.{ArrayType}
use Rattle.core_ir.specs.declared.tree.Var.{Var}
use Rattle.core_ir.specs.Binders.{is_in, bound_in}
use Rattle.core_ir.specs.Meaning.{no_variables, bind_all}
use Rattle.core_ir.specs.Outcome.{param_vars}
use Rattle.core_ir.specs.Terms.{BlockTerm, FunTerm, CoreTerm}
use Rattle.core_ir.specs.WellFormed.{IsFunction, IsWellFormed, bases, base_of, param_bases}
use Rattle.core_ir.proofs.Variables.{or_false}
use Rattle.core_subst.specs.Names.{above, above_all, above_function}
use Rattle.core_subst.proofs.Above.{block_new}
use Rattle.core_facts.proofs.bases.Bound.{distinct_right}
use Rattle.core_facts.specs.calls.Arrays.{SameOutcomeOnArrays}
use Rattle.core_facts.specs.constants.Called.{called, params_facts}
use Rattle.core_forms.proofs.inlined_bodies.Names.{fresh_left, fresh_right, own_fresh, same, both}
use Rattle.core_forms.proofs.cleaning.Bodies.{KeepsForm, KeepsMeaning, well_formed, same_outcome}
use Rattle.core_forms.specs.selections.Vectors.{next, vectored, vectored_core}
use Rattle.core_forms.proofs.selections.Bound.{names, rises, calls_kept}
use Rattle.core_forms.proofs.selections.Places.{scoped}
use Rattle.core_forms.proofs.selections.Agreeing.{agreeing}
use Rattle.core_forms.proofs.selections.Same.{block_same}

abbrev vectored_in : CoreTerm → FunTerm → BlockTerm
vectored_in core f = vectored (called core) f.body (params_facts f) (above_function f)

none_of : (ps : List (Var × ArrayType)) (y : Var) → is_in y (map (λ (p : Var × ArrayType). p.0) ps) ≡ Rattle.std.specs.Prelude.false → base_of (map (λ (p : Var × ArrayType). (p.0, p.1.base)) ps) y ≡ None
none_of [] y h = refl
none_of (p ∷ ps) y h =
    let w = or_false (eqb p.0.0 y.0) (is_in y (map (λ (q : Var × ArrayType). q.0) ps)) h in
    (λ i. cond (w.0 i) (Some p.1.base) (base_of (map (λ (q : Var × ArrayType). (q.0, q.1.base)) ps) y)) ∙ none_of ps y w.1

max_right : (a b n : ℕ) → max a b ≤ n → b ≤ n
max_right a b n h = omega arith

itself_le : (n : ℕ) → n ≤ n
itself_le n = omega arith

vectored_form : (core : CoreTerm) (f : FunTerm) → IsFunction core f → KeepsForm core f (vectored_in core f)
vectored_form core f is =
    let n = above_function f in
    let b = f.body in
    let k = params_facts f in
    let own = own_fresh f in
    let all = both (param_vars f) (bound_in b) (param_vars f) (bound_in (vectored (called core) b k n)) n n (next (called core) b k n) (itself_le n) (rises (called core) b k n) (same (param_vars f) n n) (names (called core) b k n) in
    record {
      once = all.once is.once own;
      scoped = scoped (called core) b k n (param_vars f) is.scoped (fresh_right (param_vars f) (bound_in b) n own) (fresh_left (param_vars f) (bound_in b) n own);
      agreeing = agreeing core (called core) b k n (param_bases f) (bases f.results) is.agreeing (fresh_right (param_vars f) (bound_in b) n own) (λ y l. none_of f.params y (fresh_left (param_vars f) (bound_in b) n own y l));
      calls = calls_kept (called core) b k n;
    }

vectored_meaning : (core : CoreTerm) (f : FunTerm) → IsFunction core f → KeepsMeaning core f (vectored_in core f)
vectored_meaning core f is turns C args typed fit full env sound =
    block_same core C turns typed (called core) fit f.body (param_bases f) (bases f.results) (params_facts f) (above_function f) (bind_all no_variables (param_vars f) args)
    (record { bases = is.agreeing; once = distinct_right (param_vars f) (bound_in f.body) is.once; full = full; typed = env; sound = sound })
    (λ y l. (block_new f.body y.0 (max_right (above_all (param_vars f)) (above f.body) y.0 l)).0)

pub vectored_well : (core : CoreTerm) → IsWellFormed core → IsWellFormed (vectored_core core)
vectored_well core well = well_formed core (vectored_in core) well (vectored_form core)

pub vectored_outcome : (core : CoreTerm) → IsWellFormed core → SameOutcomeOnArrays core (vectored_core core)
vectored_outcome core well = same_outcome core (vectored_in core) well (vectored_form core) (vectored_meaning core)
