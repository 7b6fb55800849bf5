-- Binding a name in a scope.
use Rattle.std.proofs.Common.{◌≡◌, Bool, true, false, refl, sym, ap, ◌∙◌, Some, Ok, Err, Result, OnOk, true≢false}
use Rattle.std.specs.Prelude.{bytes_eq, if◌then◌else◌}
use Rattle.std.proofs.lemmas.Slice.Eq.{bytes_eq-Decides}
use Rattle.sac_base.specs.declared.name.Name.{Name}
use Rattle.core_ir.specs.declared.tree.Var.{Var}
use Rattle.core_scopes.specs.declared.scope.Scope.{Scope, out-Scope, roll-Scope, map-Scope, fold-roll-Scope, fold_out-Scope}
use Rattle.core_lowering.specs.steps.Looks.{Look, with_var}
use Rattle.core_scopes.specs.Looks.{own, or_else, over, outer_of, scope_step, look}

pub name_turned : (a b : Name) → bytes_eq a b ≡ bytes_eq b a
name_turned a b = by (bytes_eq a b) (bytes_eq b a) refl refl
  where
    by : (s t : Bool) → bytes_eq a b ≡ s → bytes_eq b a ≡ t → s ≡ t
    by true true e f = refl
    by false false e f = refl
    by true false e f = absurd (true≢false (sym ((bytes_eq-Decides b a).1 (sym ((bytes_eq-Decides a b).0 e))) ∙ f))
    by false true e f = absurd (true≢false (sym ((bytes_eq-Decides a b).1 (sym ((bytes_eq-Decides b a).0 f))) ∙ e))

-- a name of the inner scope hides one of the outer
over_with : (x : Name) (v : Var) (inner outer : Look) (other : Name) → over (with_var x v inner) outer other ≡ with_var x v (over inner outer) other
over_with x v inner outer other = by (bytes_eq other x)
  where
    by : (t : Bool) → or_else (if t then Some v else inner other) (outer other) ≡ (if t then Some v else or_else (inner other) (outer other))
    by true = refl
    by false = refl

pub scope_bound : (s : Scope) (vars : _) (x : Name) (v : Var) → own vars ≡ with_var x v (own (out-Scope s).vars) → look (roll-Scope (record { outer = (out-Scope s).outer; vars = vars })) ≡ with_var x v (look s)
scope_bound s vars x v e =
    let outer : Look = outer_of (map-Scope Scope Look look (out-Scope s)).outer in
    fold-roll-Scope Look scope_step (record { outer = (out-Scope s).outer; vars = vars })
    ∙ ap (λ inner. over inner outer) e
    ∙ (λ i. λ other. over_with x v (own (out-Scope s).vars) outer other i)
    ∙ ap (with_var x v) (sym (fold_out-Scope Look scope_step s))

pub on_ok_then : {A E P Q : Type 0} (r : Result A E) → (P → Q) → OnOk r P → OnOk r Q
on_ok_then (Ok a) f h = f h
on_ok_then (Err e) f h = h
