use Rattle.std.proofs.Common.{refl}
use Rattle.run_loops.proofs.PartFrames.{words_of}
use Rattle.run_loops.proofs.bounds.frame_of.Goals as goal

pub of_grid-requires-clause-words : goal.of_grid-requires-clause-words
of_grid-requires-clause-words c = λ index has. words_of c.args.grid.now index (c.if-not-are_words.ensures refl) has
