use Rattle.sac_parse.proofs.array_type.+extents.Given as goal

abbrev pub decreases-extents : goal.decreases-extents
decreases-extents l = l.more
