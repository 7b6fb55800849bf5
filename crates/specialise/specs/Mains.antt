-- The instance of main.
use Rattle.std.specs.Prelude.{◌≡◌, ◌≤◌, ◌+◌, ℕ, ◌⊎◌, true, false, List, [], ◌∷◌, ◌++◌, length, Some, slice_get}
use Rattle.sac_base.specs.declared.form.Form.{Form}
use Rattle.sac_base.specs.declared.types.ArrayType.{ArrayType}
use Rattle.sac_base.specs.Types.{all_have_forms, all_below}
use Rattle.core_ir.specs.Outcome.{param_types}
use Rattle.core_ir.specs.Terms.{FunTerm, CoreTerm}
use Rattle.specialise.specs.Plans.{Entry}
use Rattle.specialise.specs.Tables.{types_at, exact}

-- main got an instance for the forms
pub record MainAdded (source : ℕ) (forms : List Form) (es more : List Entry) (main : ℕ) : Type 0 where
  pub fits : all_below (exact forms) (types_at es source) ≡ true
  pub entries : more ≡ es ++ (record { source = source; types = exact forms } ∷ [])
  pub is : main ≡ length es

-- main stayed, as its types do not contain the forms, or nothing else
pub record MainStays (source : ℕ) (forms : List Form) (es more : List Entry) (old main : ℕ) : Type 0 where
  pub reason : (all_below (exact forms) (types_at es source) ≡ false) ⊎ (all_below (types_at es source) (exact forms) ≡ true)
  pub entries : more ≡ es
  pub is : main ≡ old

abbrev pub MainPlanned : ℕ → List Form → List Entry → ℕ → List Entry → ℕ → Type 0
MainPlanned source forms es old more main = MainAdded source forms es more main ⊎ MainStays source forms es more old main

-- each group has its own instances, and at most 16 more
abbrev pub FewAdded : CoreTerm → CoreTerm → Type 0
FewAdded core new =
    (group : ℕ) (places members : List ℕ) → slice_get core.groups group ≡ Some places → slice_get new.groups group ≡ Some members →
    length members ≤ length places + 16

-- types that contain arrays of these forms, and no others
pub record AreExact (types : List ArrayType) (forms : List Form) : Type 0 where
  pub contain : all_have_forms types forms ≡ true
  pub alone : all_below types (exact forms) ≡ true

-- where main takes arguments of these forms, main of the new core takes them alone
abbrev pub MainTakes : CoreTerm → CoreTerm → List Form → Type 0
MainTakes core new forms =
    (f g : FunTerm) → slice_get core.functions core.main ≡ Some f → slice_get new.functions new.main ≡ Some g →
    all_have_forms (param_types f) forms ≡ true → AreExact (param_types g) forms
