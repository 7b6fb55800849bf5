use Rattle.data_text.proofs.FormFacts.{read_form}
use Rattle.data_text.proofs.SpellFacts.{form_read}
use Rattle.data_text.proofs.law.read_is_spelled.Goals as goal

pub returns : goal.returns
returns c = λ line v. (read_form line v, form_read line v)
