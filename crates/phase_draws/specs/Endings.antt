-- What a whole phase answers.
use Rattle.std.specs.Prelude.{◌≡◌, ℕ, ◌+◌, ◌%◌, ◌^◌, ℤ, List, length, map, Result, Ok, Err, IfOk}
use Rattle.chunk_reports.specs.Orders.{counting}
use Rattle.count_table.specs.Tallied.{PhaseTotals}
use Rattle.sac_base.specs.declared.stop.Stop.{Stop}
use Rattle.sac_base.specs.declared.stop.Stop.TheVariants.{Faulted, Memory}
use Rattle.wl_core.specs.Machine.{CellValue}
use Rattle.phase_team.specs.Segments.{Costs}
use Rattle.phase_chunks.specs.declared.shares.Share.{Share}
use Rattle.phase_chunks.specs.declared.ends.TeamEnd.{TeamEnd}
use Rattle.phase_chunks.specs.Chunks.{ChunkPart}
use Rattle.phase_draws.specs.Reports.{AllOk, AreDone, Combine}

-- The workers have left a report of each chunk, in order. Where none of them stopped, this is what all positions cost, and the first
-- row of a fold has the values of all chunks combined.
pub record IsEnded (cell : ℕ → CellValue) (cost : ℕ → ℕ → ℕ) (share : Share) (parts : List ChunkPart) (before after : ℕ → ℕ) (rows : List ℤ)
    (end : TeamEnd) : Type 0 where
  pub order : map (λ r. r.chunk) end.reports.items ≡ counting 0 (length parts)
  pub done : AreDone cell share parts end.reports.items
  pub told : IfOk end.held (λ held.
      AllOk end.reports.items → Costs cost 0 share.positions before after × Combine share.job cell share end.reports.items held rows)

-- a phase was closed into the tally, and drew so many chunks
abbrev pub one_phase : ℕ → PhaseTotals → PhaseTotals
one_phase chunks tally = record { phases = (tally.phases + 1) % 2 ^ 64; draws = (tally.draws + chunks) % 2 ^ 64 }

-- one phase more, after a fault too
abbrev pub IsTallied : ℕ → PhaseTotals → PhaseTotals → Result (Unit {0}) Stop → Type 0
IsTallied chunks before after (Ok done) = after ≡ one_phase chunks before
IsTallied chunks before after (Err (Faulted fault)) = after ≡ one_phase chunks before
IsTallied chunks before after (Err Memory) = Unit {0}
