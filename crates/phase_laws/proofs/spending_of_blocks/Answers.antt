use Rattle.phase_laws.proofs.Whole.{block_spends}
use Rattle.phase_laws.proofs.spending_of_blocks.Goals as goal

pub returns : goal.returns
returns c context t unmarked n outer refs counted h e ρ others owns backed shows =
    block_spends context t unmarked n outer refs counted h e ρ others (record { owns = owns; backed = backed; shows = shows })
