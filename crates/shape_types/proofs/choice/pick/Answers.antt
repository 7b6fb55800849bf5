use Rattle.shape_types.specs.Instances.{types_of}
use Rattle.shape_types.proofs.Lists.{if_least, none_exactly}
use Rattle.shape_types.proofs.choice.pick.Goals as goal

pub returns-clause-least : goal.returns-clause-least
returns-clause-least c = if_least (types_of c.args.instances.now) c.args.args.now c.first_least.result c.first_least.ensures

pub returns-clause-none : goal.returns-clause-none
returns-clause-none c = λ compatible. none_exactly (types_of c.args.instances.now) c.args.args.now c.first_least.result c.first_least.ensures compatible
