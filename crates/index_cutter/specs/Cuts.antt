-- How positions are cut into chunks.
use Rattle.std.specs.Prelude.{ℕ, Option, Some, None, max}
use Rattle.std.specs.Int.{div_ceil}
use Rattle.wl_core.specs.declared.limits.TheConstants.{MOST_CHUNKS}

-- the size that is asked for: the one that is given, or an equal share for each worker
abbrev pub wish : ℕ → ℕ → Option ℕ → ℕ
wish positions workers (Some size) = size
wish positions workers None = div_ceil positions workers

-- the least size that leaves at most `MOST_CHUNKS` chunks
abbrev pub least_size : ℕ → ℕ
least_size positions = div_ceil positions MOST_CHUNKS

abbrev pub chunk_size : ℕ → ℕ → Option ℕ → ℕ
chunk_size positions workers chunk = max 1 (max (wish positions workers chunk) (least_size positions))

-- and how many chunks there are then
abbrev pub chunks_of : ℕ → Option ℕ → ℕ → ℕ
chunks_of workers chunk positions = div_ceil positions (chunk_size positions workers chunk)
