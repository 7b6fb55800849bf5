use Rattle.core_forms.proofs.norm.Copies.{alike, copies_renamed}
use Rattle.core_forms.proofs.norm.Named.{copies_named, in_order}
use Rattle.core_forms.proofs.norm.copies_are_renamed.Goals as goal

pub returns-clause-renamed : goal.returns-clause-renamed
returns-clause-renamed c = copies_renamed

pub returns-clause-alike : goal.returns-clause-alike
returns-clause-alike c = alike

pub returns-clause-named : goal.returns-clause-named
returns-clause-named c = copies_named

pub returns-clause-fresh : goal.returns-clause-fresh
returns-clause-fresh c = in_order
