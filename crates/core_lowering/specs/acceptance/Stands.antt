-- Where the `main` of a core stands.
use Rattle.std.specs.Prelude.{◌≡◌, false, Some, slice_get}
use Rattle.core_ir.specs.Terms.{FunTerm, CoreTerm}

-- the `main` of a core is there, and not inline
abbrev pub MainStands : CoreTerm → Type 0
MainStands core = (f : FunTerm) × ((slice_get core.functions core.main ≡ Some f) × (f.is_inline ≡ false))
