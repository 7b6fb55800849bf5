use Rattle.phase_team.proofs.Verdicts.{cells_joined, fault_first, cells_combined}
use Rattle.phase_team.proofs.law.answers_are_verdicts.Goals as goal

pub returns : goal.returns
returns c = record {
  cells = cells_joined;
  array_fault = λ u buffer fault is. fault_first u fault is;
  combined = cells_combined;
  fold_fault = λ u op neutral value fault is. fault_first u fault is;
}
