use Rattle.core_forms.proofs.norm.Laws.{lighter}
use Rattle.core_forms.proofs.norm.Weights.{weights}
use Rattle.core_forms.proofs.norm.weight_falls.Goals as goal

pub returns-clause-falls : goal.returns-clause-falls
returns-clause-falls c = lighter

pub returns-clause-stays : goal.returns-clause-stays
returns-clause-stays c = weights
