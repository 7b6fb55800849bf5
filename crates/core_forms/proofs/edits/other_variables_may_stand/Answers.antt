use Rattle.core_forms.proofs.edits.Mapping.{block_scoped, block_has, distinct_mapped, calls_mapped}
use Rattle.core_forms.proofs.edits.other_variables_may_stand.Goals as goal

pub returns-clause-scopes : goal.returns-clause-scopes
returns-clause-scopes c = block_scoped

pub returns-clause-bases : goal.returns-clause-bases
returns-clause-bases c = λ core f apart b g ts h. block_has f apart core b g ts h

pub returns-clause-names : goal.returns-clause-names
returns-clause-names c = distinct_mapped

pub returns-clause-calls : goal.returns-clause-calls
returns-clause-calls c = calls_mapped
