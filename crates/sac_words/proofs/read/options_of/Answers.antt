use Rattle.std.proofs.Common.{ap, ◌∙◌}
use Rattle.clap.specs.Words.{found_of}
use Rattle.sac_words.specs.Meaning.{number_or, chunk_by, mode_by, is_flag_given}
use Rattle.sac_words.proofs.Whole.{same_input, lacks_source, lacks_input, lacks_workers, lacks_chunk, lacks_turns, lacks_depth, lacks_mode, has_all}
use Rattle.sac_words.proofs.read.options_of.Goals as goal

pub returns-in_err-source-clause-exact : goal.returns-in_err-source-clause-exact
returns-in_err-source-clause-exact c =
    lacks_source (found_of c.args.matches.now) _ c.from_residual.ensures
    c.in_err-source.ensures

pub returns-in_err-input-clause-exact : goal.returns-in_err-input-clause-exact
returns-in_err-input-clause-exact c =
    lacks_input (found_of c.args.matches.now) _ c.from_residual-in_err-input.ensures _
    c.in_ok-source.ensures
    (c.in_err-input.ensures.exact ∙ same_input c.get_str-2.ensures c.get_str-3.ensures)

pub returns-in_err-workers-clause-exact : goal.returns-in_err-workers-clause-exact
returns-in_err-workers-clause-exact c =
    lacks_workers (found_of c.args.matches.now) _ c.from_residual-in_err-workers.ensures _ _
    c.in_ok-source.ensures
    (c.in_ok-input.ensures.exact ∙ same_input c.get_str-2.ensures c.get_str-3.ensures)
    (c.in_err-workers.ensures.exact ∙ ap (number_or 1 64 4) c.get_str-4.ensures)

pub returns-in_err-chunk-clause-exact : goal.returns-in_err-chunk-clause-exact
returns-in_err-chunk-clause-exact c =
    lacks_chunk (found_of c.args.matches.now) _ c.from_residual-in_err-chunk.ensures _ _ _
    c.in_ok-source.ensures
    (c.in_ok-input.ensures.exact ∙ same_input c.get_str-2.ensures c.get_str-3.ensures)
    (c.in_ok-workers.ensures.exact ∙ ap (number_or 1 64 4) c.get_str-4.ensures)
    (c.in_err-chunk.ensures ∙ ap chunk_by c.get_str-5.ensures)

pub returns-in_err-turns-clause-exact : goal.returns-in_err-turns-clause-exact
returns-in_err-turns-clause-exact c =
    lacks_turns (found_of c.args.matches.now) _ c.from_residual-in_err-turns.ensures _ _ _ _
    c.in_ok-source.ensures
    (c.in_ok-input.ensures.exact ∙ same_input c.get_str-2.ensures c.get_str-3.ensures)
    (c.in_ok-workers.ensures.exact ∙ ap (number_or 1 64 4) c.get_str-4.ensures)
    (c.in_ok-chunk.ensures ∙ ap chunk_by c.get_str-5.ensures)
    (c.in_err-turns.ensures.exact ∙ ap (number_or 1 1000000000 1000000) c.get_str-6.ensures)

pub returns-in_err-depth-clause-exact : goal.returns-in_err-depth-clause-exact
returns-in_err-depth-clause-exact c =
    lacks_depth (found_of c.args.matches.now) _ c.from_residual-in_err-depth.ensures _ _ _ _ _
    c.in_ok-source.ensures
    (c.in_ok-input.ensures.exact ∙ same_input c.get_str-2.ensures c.get_str-3.ensures)
    (c.in_ok-workers.ensures.exact ∙ ap (number_or 1 64 4) c.get_str-4.ensures)
    (c.in_ok-chunk.ensures ∙ ap chunk_by c.get_str-5.ensures)
    (c.in_ok-turns.ensures.exact ∙ ap (number_or 1 1000000000 1000000) c.get_str-6.ensures)
    (c.in_err-depth.ensures.exact ∙ ap (number_or 1 200 100) c.get_str-7.ensures)

pub returns-in_err-mode-clause-exact : goal.returns-in_err-mode-clause-exact
returns-in_err-mode-clause-exact c =
    lacks_mode (found_of c.args.matches.now) _ c.from_residual-in_err-mode.ensures _ _ _ _ _ _
    c.in_ok-source.ensures
    (c.in_ok-input.ensures.exact ∙ same_input c.get_str-2.ensures c.get_str-3.ensures)
    (c.in_ok-workers.ensures.exact ∙ ap (number_or 1 64 4) c.get_str-4.ensures)
    (c.in_ok-chunk.ensures ∙ ap chunk_by c.get_str-5.ensures)
    (c.in_ok-turns.ensures.exact ∙ ap (number_or 1 1000000000 1000000) c.get_str-6.ensures)
    (c.in_ok-depth.ensures.exact ∙ ap (number_or 1 200 100) c.get_str-7.ensures)
    (c.in_err-mode.ensures ∙ ap mode_by c.get_str-8.ensures)

pub returns-clause-exact : goal.returns-clause-exact
returns-clause-exact c =
    has_all (found_of c.args.matches.now) _ _ _ _ _ _ _ _
    c.in_ok-source.ensures
    (c.in_ok-input.ensures.exact ∙ same_input c.get_str-2.ensures c.get_str-3.ensures)
    (c.in_ok-workers.ensures.exact ∙ ap (number_or 1 64 4) c.get_str-4.ensures)
    (c.in_ok-chunk.ensures ∙ ap chunk_by c.get_str-5.ensures)
    (c.in_ok-turns.ensures.exact ∙ ap (number_or 1 1000000000 1000000) c.get_str-6.ensures)
    (c.in_ok-depth.ensures.exact ∙ ap (number_or 1 200 100) c.get_str-7.ensures)
    (c.in_ok-mode.ensures ∙ ap mode_by c.get_str-8.ensures)
    (c.is_given-report.ensures ∙ ap is_flag_given c.get_str-9.ensures)
