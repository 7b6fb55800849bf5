use Rattle.std.proofs.Common.{sym}
use Rattle.sac_phrases.proofs.Texts.{name_is, word_is, number_is, sign_is, end_is, is_name_by}
use Rattle.sac_phrases.proofs.cursor.is_name.Goals as goal

pub returns-in-Name : goal.returns-in-Name
returns-in-Name c = sym (name_is c.args.token.now.text.now (is_name_by _ _ c.args.token.now.text.now c.in-Name.is c.args.token.now.spelled))

pub returns-in-Word : goal.returns-in-Word
returns-in-Word c = sym (word_is c.args.token.now.text.now (is_name_by _ _ c.args.token.now.text.now c.in-Word.is c.args.token.now.spelled))

pub returns-in-Number : goal.returns-in-Number
returns-in-Number c = sym (number_is c.args.token.now.text.now (is_name_by _ _ c.args.token.now.text.now c.in-Number.is c.args.token.now.spelled))

pub returns-in-Sign : goal.returns-in-Sign
returns-in-Sign c = sym (sign_is c.args.token.now.text.now (is_name_by _ _ c.args.token.now.text.now c.in-Sign.is c.args.token.now.spelled))

pub returns-in-End : goal.returns-in-End
returns-in-End c = sym (end_is c.args.token.now.text.now (is_name_by _ _ c.args.token.now.text.now c.in-End.is c.args.token.now.spelled))
