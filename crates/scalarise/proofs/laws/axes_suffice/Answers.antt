use Rattle.scalarise.proofs.Axes.{all_left}
use Rattle.scalarise.proofs.laws.axes_suffice.Goals as goal

pub returns : goal.returns
returns c = all_left
