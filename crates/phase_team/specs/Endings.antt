-- What a whole phase answers.
use Rattle.std.specs.Prelude.{◌≡◌, ℤ, List, length, fold, Option, Result, Ok, Err}
use Rattle.sac_base.specs.Verdict.{each, present, joined}
use Rattle.sac_base.specs.declared.op.Op.{Op}
use Rattle.wl_core.specs.Machine.{CellValue, combine}
use Rattle.sac_base.specs.declared.stop.Stop.{Stop}
use Rattle.sac_base.specs.declared.stop.Stop.TheVariants.{Faulted, Memory}
use Rattle.phase_team.specs.Segments.{HaveWidth}

-- the buffer has the cells' elements in order, or the fault is that of the least position that faults
abbrev pub IsArray : List CellValue → List ℤ → Result (Unit {0}) Stop → Type 0
IsArray cells buffer (Ok done) = (values : List (Option (List ℤ))) × (each cells ≡ Ok values) × (buffer ≡ joined (present values))
IsArray cells buffer (Err (Faulted fault)) = each cells ≡ Err fault
IsArray cells buffer (Err Memory) = Unit {0}

-- the value is the neutral one, taken once, combined with the cells that are held, in order, each of which has as many elements, or the fault is
-- that of the least position that faults
abbrev pub IsCombined : Op → List CellValue → List ℤ → List ℤ → Result (Unit {0}) Stop → Type 0
IsCombined op cells neutral value (Ok done) = (values : List (Option (List ℤ))) × (each cells ≡ Ok values)
    × (value ≡ fold (combine op) neutral (present values)) × HaveWidth (length neutral) values
IsCombined op cells neutral value (Err (Faulted fault)) = each cells ≡ Err fault
IsCombined op cells neutral value (Err Memory) = Unit {0}
