use Rattle.core_forms.proofs.fold.Laws.{still_distinct, still_placed}
use Rattle.core_forms.proofs.fold.folded_parts_are_distinct.Goals as goal

pub returns-clause-distinct : goal.returns-clause-distinct
returns-clause-distinct c = still_distinct

pub returns-clause-placed : goal.returns-clause-placed
returns-clause-placed c = still_placed
