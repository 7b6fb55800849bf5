use Rattle.wl_core.proofs.Kept.{reached_facts}
use Rattle.wl_core.proofs.Verdicts.{settled}
use Rattle.wl_core.proofs.laws.every_order_gives_one_verdict.Goals as goal

pub returns : goal.returns
returns c = λ u s is r fin. settled u s is (reached_facts u s is r) fin
