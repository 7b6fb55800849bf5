-- What is counted of the phases of a run, and what a tally has after them.
use Rattle.std.specs.Prelude.{◌≡◌, ℕ, ◌+◌, ◌%◌, ◌^◌, List, [], ◌∷◌, length, Option, Some, None}
use Rattle.count_table.specs.Tallied.{PhaseTotals}
use Rattle.index_cutter.specs.Cuts.{chunks_of}

-- by which workers and which size of chunks all phases are cut, how many there were, and how many chunks they drew, both modulo 2^64
pub record PhaseNumbers : Type 0 where
  pub workers : ℕ
  pub chunk : Option ℕ
  pub number : ℕ
  pub draws : ℕ

-- the draws of phases with so many positions each: the chunks of all of them
abbrev pub draws_of : ℕ → Option ℕ → List ℕ → ℕ
draws_of workers chunk [] = 0
draws_of workers chunk (n ∷ ns) = chunks_of workers chunk n + draws_of workers chunk ns

-- what is counted of such phases
abbrev pub numbers_after : ℕ → Option ℕ → List ℕ → PhaseNumbers
numbers_after workers chunk ns = record { workers = workers; chunk = chunk; number = length ns % 2 ^ 64; draws = draws_of workers chunk ns % 2 ^ 64 }

-- these are counted of such phases
abbrev pub Counts : PhaseNumbers → List ℕ → Type 0
Counts p ns = p ≡ numbers_after p.workers p.chunk ns

-- the same cut, and no phase yet
abbrev pub none_of : PhaseNumbers → PhaseNumbers
none_of p = record p { number = 0; draws = 0 }

-- one phase more, with so many positions
abbrev pub one_more : ℕ → PhaseNumbers → PhaseNumbers
one_more n p = record p { number = (p.number + 1) % 2 ^ 64; draws = (p.draws + chunks_of p.workers p.chunk n) % 2 ^ 64 }

-- a tally that had these numbers, once such phases were closed into it
abbrev pub counted_in : ℕ → ℕ → PhaseNumbers → PhaseTotals
counted_in phases draws p = record { phases = (phases + p.number) % 2 ^ 64; draws = (draws + p.draws) % 2 ^ 64 }

-- a tally once one phase more of so many chunks was closed into it
abbrev pub one_phase : ℕ → PhaseTotals → PhaseTotals
one_phase chunks tally = record { phases = (tally.phases + 1) % 2 ^ 64; draws = (tally.draws + chunks) % 2 ^ 64 }

-- the tally, where there is one, has them
abbrev pub IsTallyOf : ℕ → ℕ → PhaseNumbers → Option PhaseTotals → Type 0
IsTallyOf phases draws p None = Unit {0}
IsTallyOf phases draws p (Some tally) = tally ≡ counted_in phases draws p
