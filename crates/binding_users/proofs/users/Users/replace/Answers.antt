use Rattle.std.proofs.Common.{◌≡◌}
use Rattle.binding_users.proofs.Noted.{users_set}
use Rattle.binding_users.proofs.users.Users.replace.Goals as goal

pub returns : goal.returns
returns c = λ lets. users_set c.args.self.now c.note_uses.new.self lets c.args.place c.args.new.now c.note_uses.ensures.when c.in_ok-note_uses.ensures.grows c.in_ok-note_uses.ensures.noted
