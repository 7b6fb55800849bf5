-- From what the command tells to what the words ask for.
use Rattle.std.proofs.Common.{◌≡◌, ℕ, Bool, [], Option, Some, None, refl, sym, ap, ◌∙◌, codes}
use Rattle.std.specs.Prelude.{option_map}
use Rattle.clap.specs.Words.{Text, first_of, first_value, rows_of}
use Rattle.clap.specs.declared.parser.matches.Found.{Found}
use Rattle.clap.proofs.WalkLemmas.{first_value-rows}
use Rattle.sac_words.specs.declared.options.Mode.{Mode}
use Rattle.sac_words.specs.declared.options.Options.{Options}
use Rattle.sac_words.specs.Meaning.{Origin, meant, input_by, number_or, chunk_by, mode_by, is_flag_given, meant_by, meant_from}

module _ (source : Text) (report : Bool) where
  pub no_source : (i : Option Origin) (w : Option ℕ) (k : Option (Option ℕ)) (t d : Option ℕ) (m : Option Mode) → meant_from None i w k t d m report ≡ None
  unfolding meant_from
  no_source i w k t d m = refl

  pub no_input : (w : Option ℕ) (k : Option (Option ℕ)) (t d : Option ℕ) (m : Option Mode) → meant_from (Some source) None w k t d m report ≡ None
  unfolding meant_from
  no_input w k t d m = refl

  module _ (input : Origin) where
    pub no_workers : (k : Option (Option ℕ)) (t d : Option ℕ) (m : Option Mode) → meant_from (Some source) (Some input) None k t d m report ≡ None
    unfolding meant_from
    no_workers k t d m = refl

    pub no_chunk : (w : ℕ) (t d : Option ℕ) (m : Option Mode) → meant_from (Some source) (Some input) (Some w) None t d m report ≡ None
    unfolding meant_from
    no_chunk w t d m = refl

    pub no_turns : (w : ℕ) (k : Option ℕ) (d : Option ℕ) (m : Option Mode) → meant_from (Some source) (Some input) (Some w) (Some k) None d m report ≡ None
    unfolding meant_from
    no_turns w k d m = refl

    pub no_depth : (w : ℕ) (k : Option ℕ) (t : ℕ) (m : Option Mode) → meant_from (Some source) (Some input) (Some w) (Some k) (Some t) None m report ≡ None
    unfolding meant_from
    no_depth w k t m = refl

    pub no_mode : (w : ℕ) (k : Option ℕ) (t d : ℕ) → meant_from (Some source) (Some input) (Some w) (Some k) (Some t) (Some d) None report ≡ None
    unfolding meant_from
    no_mode w k t d = refl

    pub all_there : (w : ℕ) (k : Option ℕ) (t d : ℕ) (m : Mode)
        → meant_from (Some source) (Some input) (Some w) (Some k) (Some t) (Some d) (Some m) report
        ≡ Some (record { source = source; input = input; workers = w; chunk = k; caps = record { turns = t; depth = d }; mode = m; report = report })
    unfolding meant_from
    all_there w k t d m = refl

pub same_meant : {s s' : Option Text} {i i' : Option Origin} {w w' : Option ℕ} {k k' : Option (Option ℕ)} {t t' d d' : Option ℕ} {m m' : Option Mode} {b b' : Bool}
    → s ≡ s' → i ≡ i' → w ≡ w' → k ≡ k' → t ≡ t' → d ≡ d' → m ≡ m' → b ≡ b' → meant_from s i w k t d m b ≡ meant_from s' i' w' k' t' d' m' b'
same_meant es ei ew ek et ed em eb = λ j. meant_from (es j) (ei j) (ew j) (ek j) (et j) (ed j) (em j) (eb j)

pub same_input : {a a' b b' : Option Text} → a ≡ a' → b ≡ b' → input_by a b ≡ input_by a' b'
same_input e f = λ j. input_by (e j) (f j)

-- the matches lack a part, or have all of them
module _ (f : Found) (r : Option Options) where
  pub lacks_source : r ≡ None → None ≡ first_value f (codes "FILE") → option_map meant r ≡ meant_by (rows_of f)
  lacks_source is e =
      ap (option_map meant) is ∙ sym (no_source [] (is_flag_given (first_of (codes "report") (rows_of f))) (input_by (first_of (codes "input") (rows_of f)) (first_of (codes "gen") (rows_of f))) (number_or 1 64 4 (first_of (codes "workers") (rows_of f))) (chunk_by (first_of (codes "chunk") (rows_of f))) (number_or 1 1000000000 1000000 (first_of (codes "turns") (rows_of f))) (number_or 1 200 100 (first_of (codes "depth") (rows_of f))) (mode_by (first_of (codes "mode") (rows_of f))))
      ∙ same_meant (e ∙ first_value-rows f (codes "FILE")) refl refl refl refl refl refl refl

  pub lacks_input : r ≡ None → (s : Text) → Some s ≡ first_value f (codes "FILE") → None ≡ input_by (first_value f (codes "input")) (first_value f (codes "gen")) → option_map meant r ≡ meant_by (rows_of f)
  lacks_input is s es e =
      ap (option_map meant) is ∙ sym (no_input s (is_flag_given (first_of (codes "report") (rows_of f))) (number_or 1 64 4 (first_of (codes "workers") (rows_of f))) (chunk_by (first_of (codes "chunk") (rows_of f))) (number_or 1 1000000000 1000000 (first_of (codes "turns") (rows_of f))) (number_or 1 200 100 (first_of (codes "depth") (rows_of f))) (mode_by (first_of (codes "mode") (rows_of f))))
      ∙ same_meant (es ∙ first_value-rows f (codes "FILE")) (e ∙ same_input (first_value-rows f (codes "input")) (first_value-rows f (codes "gen"))) refl refl refl refl refl refl

  pub lacks_workers : r ≡ None → (s : Text) → (i : Origin) → Some s ≡ first_value f (codes "FILE") → Some i ≡ input_by (first_value f (codes "input")) (first_value f (codes "gen")) → None ≡ number_or 1 64 4 (first_value f (codes "workers")) → option_map meant r ≡ meant_by (rows_of f)
  lacks_workers is s i es ei e =
      ap (option_map meant) is ∙ sym (no_workers s (is_flag_given (first_of (codes "report") (rows_of f))) i (chunk_by (first_of (codes "chunk") (rows_of f))) (number_or 1 1000000000 1000000 (first_of (codes "turns") (rows_of f))) (number_or 1 200 100 (first_of (codes "depth") (rows_of f))) (mode_by (first_of (codes "mode") (rows_of f))))
      ∙ same_meant (es ∙ first_value-rows f (codes "FILE")) (ei ∙ same_input (first_value-rows f (codes "input")) (first_value-rows f (codes "gen"))) (e ∙ ap (number_or 1 64 4) (first_value-rows f (codes "workers"))) refl refl refl refl refl

  pub lacks_chunk : r ≡ None → (s : Text) → (i : Origin) → (w : ℕ) → Some s ≡ first_value f (codes "FILE") → Some i ≡ input_by (first_value f (codes "input")) (first_value f (codes "gen")) → Some w ≡ number_or 1 64 4 (first_value f (codes "workers")) → None ≡ chunk_by (first_value f (codes "chunk")) → option_map meant r ≡ meant_by (rows_of f)
  lacks_chunk is s i w es ei ew e =
      ap (option_map meant) is ∙ sym (no_chunk s (is_flag_given (first_of (codes "report") (rows_of f))) i w (number_or 1 1000000000 1000000 (first_of (codes "turns") (rows_of f))) (number_or 1 200 100 (first_of (codes "depth") (rows_of f))) (mode_by (first_of (codes "mode") (rows_of f))))
      ∙ same_meant (es ∙ first_value-rows f (codes "FILE")) (ei ∙ same_input (first_value-rows f (codes "input")) (first_value-rows f (codes "gen"))) (ew ∙ ap (number_or 1 64 4) (first_value-rows f (codes "workers"))) (e ∙ ap chunk_by (first_value-rows f (codes "chunk"))) refl refl refl refl

  pub lacks_turns : r ≡ None → (s : Text) → (i : Origin) → (w : ℕ) → (k : Option ℕ) → Some s ≡ first_value f (codes "FILE") → Some i ≡ input_by (first_value f (codes "input")) (first_value f (codes "gen")) → Some w ≡ number_or 1 64 4 (first_value f (codes "workers")) → Some k ≡ chunk_by (first_value f (codes "chunk")) → None ≡ number_or 1 1000000000 1000000 (first_value f (codes "turns")) → option_map meant r ≡ meant_by (rows_of f)
  lacks_turns is s i w k es ei ew ek e =
      ap (option_map meant) is ∙ sym (no_turns s (is_flag_given (first_of (codes "report") (rows_of f))) i w k (number_or 1 200 100 (first_of (codes "depth") (rows_of f))) (mode_by (first_of (codes "mode") (rows_of f))))
      ∙ same_meant (es ∙ first_value-rows f (codes "FILE")) (ei ∙ same_input (first_value-rows f (codes "input")) (first_value-rows f (codes "gen"))) (ew ∙ ap (number_or 1 64 4) (first_value-rows f (codes "workers"))) (ek ∙ ap chunk_by (first_value-rows f (codes "chunk"))) (e ∙ ap (number_or 1 1000000000 1000000) (first_value-rows f (codes "turns"))) refl refl refl

  pub lacks_depth : r ≡ None → (s : Text) → (i : Origin) → (w : ℕ) → (k : Option ℕ) → (t : ℕ) → Some s ≡ first_value f (codes "FILE") → Some i ≡ input_by (first_value f (codes "input")) (first_value f (codes "gen")) → Some w ≡ number_or 1 64 4 (first_value f (codes "workers")) → Some k ≡ chunk_by (first_value f (codes "chunk")) → Some t ≡ number_or 1 1000000000 1000000 (first_value f (codes "turns")) → None ≡ number_or 1 200 100 (first_value f (codes "depth")) → option_map meant r ≡ meant_by (rows_of f)
  lacks_depth is s i w k t es ei ew ek et e =
      ap (option_map meant) is ∙ sym (no_depth s (is_flag_given (first_of (codes "report") (rows_of f))) i w k t (mode_by (first_of (codes "mode") (rows_of f))))
      ∙ same_meant (es ∙ first_value-rows f (codes "FILE")) (ei ∙ same_input (first_value-rows f (codes "input")) (first_value-rows f (codes "gen"))) (ew ∙ ap (number_or 1 64 4) (first_value-rows f (codes "workers"))) (ek ∙ ap chunk_by (first_value-rows f (codes "chunk"))) (et ∙ ap (number_or 1 1000000000 1000000) (first_value-rows f (codes "turns"))) (e ∙ ap (number_or 1 200 100) (first_value-rows f (codes "depth"))) refl refl

  pub lacks_mode : r ≡ None → (s : Text) → (i : Origin) → (w : ℕ) → (k : Option ℕ) → (t : ℕ) → (d : ℕ) → Some s ≡ first_value f (codes "FILE") → Some i ≡ input_by (first_value f (codes "input")) (first_value f (codes "gen")) → Some w ≡ number_or 1 64 4 (first_value f (codes "workers")) → Some k ≡ chunk_by (first_value f (codes "chunk")) → Some t ≡ number_or 1 1000000000 1000000 (first_value f (codes "turns")) → Some d ≡ number_or 1 200 100 (first_value f (codes "depth")) → None ≡ mode_by (first_value f (codes "mode")) → option_map meant r ≡ meant_by (rows_of f)
  lacks_mode is s i w k t d es ei ew ek et ed e =
      ap (option_map meant) is ∙ sym (no_mode s (is_flag_given (first_of (codes "report") (rows_of f))) i w k t d)
      ∙ same_meant (es ∙ first_value-rows f (codes "FILE")) (ei ∙ same_input (first_value-rows f (codes "input")) (first_value-rows f (codes "gen"))) (ew ∙ ap (number_or 1 64 4) (first_value-rows f (codes "workers"))) (ek ∙ ap chunk_by (first_value-rows f (codes "chunk"))) (et ∙ ap (number_or 1 1000000000 1000000) (first_value-rows f (codes "turns"))) (ed ∙ ap (number_or 1 200 100) (first_value-rows f (codes "depth"))) (e ∙ ap mode_by (first_value-rows f (codes "mode"))) refl

-- the matches have all parts
module _ (f : Found) where
  pub has_all : (s : Text) (i : Origin) (w : ℕ) (k : Option ℕ) (t d : ℕ) (m : Mode) (b : Bool) → Some s ≡ first_value f (codes "FILE") → Some i ≡ input_by (first_value f (codes "input")) (first_value f (codes "gen")) → Some w ≡ number_or 1 64 4 (first_value f (codes "workers")) → Some k ≡ chunk_by (first_value f (codes "chunk")) → Some t ≡ number_or 1 1000000000 1000000 (first_value f (codes "turns")) → Some d ≡ number_or 1 200 100 (first_value f (codes "depth")) → Some m ≡ mode_by (first_value f (codes "mode")) → b ≡ is_flag_given (first_value f (codes "report"))
      → Some (record { source = s; input = i; workers = w; chunk = k; caps = record { turns = t; depth = d }; mode = m; report = b }) ≡ meant_by (rows_of f)
  has_all s i w k t d m b es ei ew ek et ed em eb =
      sym (all_there s b i w k t d m)
      ∙ same_meant (es ∙ first_value-rows f (codes "FILE")) (ei ∙ same_input (first_value-rows f (codes "input")) (first_value-rows f (codes "gen"))) (ew ∙ ap (number_or 1 64 4) (first_value-rows f (codes "workers"))) (ek ∙ ap chunk_by (first_value-rows f (codes "chunk"))) (et ∙ ap (number_or 1 1000000000 1000000) (first_value-rows f (codes "turns"))) (ed ∙ ap (number_or 1 200 100) (first_value-rows f (codes "depth"))) (em ∙ ap mode_by (first_value-rows f (codes "mode"))) (eb ∙ ap is_flag_given (first_value-rows f (codes "report")))
