use Rattle.core_forms.proofs.edits.Wider.{block_wider, block_bases_wider}
use Rattle.core_forms.proofs.edits.more_may_be_in_scope.Goals as goal

pub returns-clause-scopes : goal.returns-clause-scopes
returns-clause-scopes c = block_wider

pub returns-clause-bases : goal.returns-clause-bases
returns-clause-bases c = block_bases_wider
