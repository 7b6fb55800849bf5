-- What a whole phase answers.
use Rattle.std.specs.Prelude.{◌≡◌, ℤ, List, length, take, Bool, Some, Result, Ok, Err}
use Rattle.sac_base.specs.declared.memory.Memory as memory
use Rattle.sac_base.specs.declared.op.Op.{Op}
use Rattle.sac_base.specs.declared.stop.Stop.{Stop}
use Rattle.sac_base.specs.declared.stop.Stop.TheVariants.{Memory}
use Rattle.wl_core.specs.Machine.{combine, both}
use Rattle.phase_team.specs.Segments.{value_if}

-- The value is what it was, combined with that of the first row where there is one, and no chunk stopped. Or this is the first stop.
abbrev pub Finishes : Op → Result (Unit {0}) Stop → Result Bool memory.Memory → List ℤ → List ℤ → List ℤ → Result (Unit {0}) Stop → Type 0
Finishes op (Err stop) held rows before after result = result ≡ Err stop
Finishes op (Ok done) (Err e) rows before after result = result ≡ Err Memory
Finishes op (Ok done) (Ok held) rows before after result =
    (result ≡ Ok tt) × (Some after ≡ both (combine op) (Some before) (value_if held (take (length before) rows)))

-- an array's phase answers with the first stop, or with want of memory
abbrev pub Answers : Result (Unit {0}) Stop → Result Bool memory.Memory → Result (Unit {0}) Stop → Type 0
Answers first (Ok held) result = result ≡ first
Answers first (Err e) result = result ≡ Err Memory
