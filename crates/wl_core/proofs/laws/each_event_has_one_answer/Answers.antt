use Rattle.wl_core.proofs.Kept.{reached_facts}
use Rattle.wl_core.proofs.Reasons.{one_reason, not_both}
use Rattle.wl_core.proofs.laws.each_event_has_one_answer.Goals as goal

pub returns : goal.returns
returns c = record { one_reason = one_reason; not_both = λ u s t e r is reached. not_both u s t e r (reached_facts u s is reached).one_each }
