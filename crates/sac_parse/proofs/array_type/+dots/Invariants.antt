use Rattle.sac_parse.proofs.array_type.+dots.Given as goal

abbrev pub decreases-dots : goal.decreases-dots
decreases-dots l = l.more
