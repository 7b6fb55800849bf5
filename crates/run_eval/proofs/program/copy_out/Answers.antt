use Rattle.std.proofs.Common.{map, sym}
use Rattle.counted_code.specs.Values.{release_all}
use Rattle.run_values.specs.Shown.{value_of}
use Rattle.run_eval.proofs.WholeRuns.{released_phases}
use Rattle.run_eval.proofs.program.copy_out.Goals as goal
use Rattle.phase_count.proofs.Tallying.{counts_on}

pub returns-clause-told : goal.returns-clause-told
returns-clause-told c m at = (
  c.in_ok-arrays.ensures.arrays m at.heap,
  record {
    heap = c.in_ok-arrays.ensures.released m at.heap;
    phases = counts_on c.args.state.now.phases m.phases (release_all (map value_of c.args.values.now) m).phases (sym (released_phases (map value_of c.args.values.now) m)) at.phases;
  },
)
