use Rattle.phase_laws.proofs.only_reads.Calls.{plain_calls_in_place}
use Rattle.phase_laws.proofs.only_reads.OnlyReads.{blocks_only_read, right_sides_only_read}
use Rattle.phase_laws.proofs.only_reads.reading_in_place.Goals as goal

pub returns-clause-blocks : goal.returns-clause-blocks
returns-clause-blocks c plain buffered t only does_calls calls turns call_spends in_place h e ρ stands none =
    blocks_only_read plain buffered t only does_calls calls turns call_spends in_place h e ρ stands none

pub returns-clause-right_sides : goal.returns-clause-right_sides
returns-clause-right_sides c plain buffered r only does_calls calls turns call_spends in_place site h e ρ stands none =
    right_sides_only_read plain buffered r only does_calls calls turns call_spends in_place site h e ρ stands none

pub returns-clause-calls : goal.returns-clause-calls
returns-clause-calls c code plain are turns left nest group ws site h is none = plain_calls_in_place code plain are turns left nest group ws site h is none
