use Rattle.core_forms.proofs.inlining.Bodies.{body_in_place}
use Rattle.core_forms.proofs.inlining.bodies_mean_their_functions.Goals as goal

pub returns : goal.returns
returns c = body_in_place
