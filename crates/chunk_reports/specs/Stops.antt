-- The first chunk that stopped.
use Rattle.std.specs.Prelude.{List, [], ◌∷◌, Bool, Result, Ok, Err}
use Rattle.sac_base.specs.declared.stop.Stop.{Stop}
use Rattle.chunk_reports.specs.declared.reports.Report.{Report}

abbrev pub stop_or : Result Bool Stop → Result (Unit {0}) Stop → Result (Unit {0}) Stop
stop_or (Ok held) later = later
stop_or (Err stop) later = Err stop

abbrev pub first_stop_of : {T : Type 0} → List (Report T) → Result (Unit {0}) Stop
first_stop_of [] = Ok tt
first_stop_of (r ∷ rs) = stop_or r.end (first_stop_of rs)
