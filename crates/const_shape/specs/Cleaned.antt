-- What the whole pass makes of a core.
use Rattle.core_ir.specs.Terms.{CoreTerm}
use Rattle.core_forms.specs.cleaning.Checks.{simplified_core}
use Rattle.core_forms.specs.cleaning.Copies.{forwarded_core}
use Rattle.core_forms.specs.cleaning.Unused.{swept_core}

abbrev pub cleaned : CoreTerm → CoreTerm
cleaned core = simplified_core (swept_core (forwarded_core (simplified_core core)))
