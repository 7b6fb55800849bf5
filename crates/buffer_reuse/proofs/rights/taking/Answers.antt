use Rattle.buffer_reuse.proofs.Unmarked.{unmarked}
use Rattle.buffer_reuse.proofs.rights.taking.Goals as goal

pub returns-in_default : goal.returns-in_default
returns-in_default c = unmarked c.args.array c.args.right c.in_default.not-Parted
