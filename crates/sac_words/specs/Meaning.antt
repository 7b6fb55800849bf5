-- What the words ask for.
use Rattle.std.specs.Prelude.{ℕ, ◌≤◌, ⊤, Bool, ◌&&◌, false, nat_le, List, [], ◌∷◌, map, Option, Some, None, option_map, option_and_then, codes}
use Rattle.std.specs.Prelude.{bytes_eq, if◌then◌else◌}
use Rattle.std.specs.Borrow.{Bor}
use Rattle.std.specs.Str.{all_ascii_digits}
use Rattle.std.specs.Str.Parse.{digits_value}
use Rattle.clap.specs.Words.{Kinds, Row, Text, fault_of, first_of, matches_of}
use Rattle.sac_base.specs.declared.faults.Caps.{Caps}
use Rattle.sac_words.specs.Command.{sac_command}
use Rattle.sac_words.specs.declared.options.Mode.{Mode}
use Rattle.sac_words.specs.declared.options.Mode.TheVariants.{Run, Check, Print}
use Rattle.sac_words.specs.declared.options.Input.{Input}
use Rattle.sac_words.specs.declared.options.Input.TheVariants.{Empty, File, Generated}
use Rattle.sac_words.specs.declared.options.Options.{Options}

-- the words' bytes
abbrev pub texts : List (Bor Text) → List Text
texts words = map (λ word. word.now) words

-- where the input comes from: the empty text, a file, or a number from which arrays are generated
pub data Origin : Type 0 where
  empty : Origin
  file : Text → Origin
  generated : ℕ → Origin

pub record Meant : Type 0 where
  pub source : Text
  pub input : Origin
  pub workers : ℕ
  pub chunk : Option ℕ
  pub caps : Caps
  pub mode : Mode
  pub report : Bool

-- what the code's options ask for
abbrev pub input_meant : Input → Origin
input_meant Empty = empty
input_meant (File name) = file name.now
input_meant (Generated n) = generated n

-- arrays are generated from 1 to 4096
abbrev pub IsSized : Input → Type 0
IsSized (Generated n) = (1 ≤ n) × (n ≤ 4096)
IsSized input = ⊤

abbrev pub meant : Options → Meant
meant o = record { source = o.source.now; input = input_meant o.input; workers = o.workers; chunk = o.chunk; caps = o.caps; mode = o.mode; report = o.report }

-- one or more digits
abbrev pub is_digits : Text → Bool
is_digits [] = false
is_digits (c ∷ cs) = all_ascii_digits (c ∷ cs)

-- digits whose number is within the range
abbrev pub is_number : ℕ → ℕ → Text → Bool
is_number least most text = is_digits text && (nat_le least (digits_value 10 text) && nat_le (digits_value 10 text) most)

unfoldable pub number_in : ℕ → ℕ → Text → Option ℕ
number_in least most text = if is_number least most text then Some (digits_value 10 text) else None

-- the number of an option, or its default where the option is not given
abbrev pub number_or : ℕ → ℕ → ℕ → Option Text → Option ℕ
number_or least most default None = Some default
number_or least most default (Some text) = number_in least most text

abbrev pub chunk_by : Option Text → Option (Option ℕ)
chunk_by None = Some None
chunk_by (Some text) = option_map (λ size. Some size) (number_in 1 16777216 text)

abbrev pub mode_named : Text → Option Mode
mode_named text =
    if bytes_eq (codes "run") text then Some Run else
    (if bytes_eq (codes "check") text then Some Check else
    (if bytes_eq (codes "print") text then Some Print else None))

abbrev pub mode_by : Option Text → Option Mode
mode_by None = Some Run
mode_by (Some text) = mode_named text

-- at most one of a file and a number is given
abbrev pub input_by : Option Text → Option Text → Option Origin
input_by None None = Some empty
input_by (Some name) None = Some (file name)
input_by None (Some text) = option_map generated (number_in 1 4096 text)
input_by (Some name) (Some text) = None

-- all of it, where each part is there
unfoldable pub meant_from : Option Text → Option Origin → Option ℕ → Option (Option ℕ) → Option ℕ → Option ℕ → Option Mode → Bool → Option Meant
meant_from source input workers chunk turns depth mode report =
    option_and_then (λ source.
    option_and_then (λ input.
    option_and_then (λ workers.
    option_and_then (λ chunk.
    option_and_then (λ turns.
    option_and_then (λ depth.
    option_map (λ mode. record {
      source = source;
      input = input;
      workers = workers;
      chunk = chunk;
      caps = record { turns = turns; depth = depth };
      mode = mode;
      report = report;
    }) mode) depth) turns) chunk) workers) input) source

abbrev pub is_flag_given : Option Text → Bool
is_flag_given None = false
is_flag_given (Some text) = bytes_eq text (codes "true")

-- what the matches of the command ask for
abbrev pub meant_by : List Row → Option Meant
meant_by rows =
    meant_from
    (first_of (codes "FILE") rows)
    (input_by (first_of (codes "input") rows) (first_of (codes "gen") rows))
    (number_or 1 64 4 (first_of (codes "workers") rows))
    (chunk_by (first_of (codes "chunk") rows))
    (number_or 1 1000000000 1000000 (first_of (codes "turns") rows))
    (number_or 1 200 100 (first_of (codes "depth") rows))
    (mode_by (first_of (codes "mode") rows))
    (is_flag_given (first_of (codes "report") rows))

-- nothing where the command refuses the words for some reason
abbrev pub unless_refused : Kinds → Option Meant → Option Meant
unless_refused [] asked = asked
unless_refused (kind ∷ kinds) asked = None

-- What the words ask for, where the command takes them and each option has a value of its own; none where they are refused.
unfoldable pub words_mean : List Text → Option Meant
words_mean words = unless_refused (fault_of sac_command words) (meant_by (matches_of sac_command words))
