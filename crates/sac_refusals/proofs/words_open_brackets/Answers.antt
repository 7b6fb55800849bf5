use Rattle.sac_refusals.proofs.Words.{words_open, crowd_stops}
use Rattle.sac_refusals.proofs.Crowded.{crowded_refusal}
use Rattle.sac_refusals.proofs.words_open_brackets.Goals as goal

pub returns : goal.returns
returns c = record { opened = words_open; crowded = crowd_stops; refused = crowded_refusal }
