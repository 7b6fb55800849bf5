-- What the command makes of the words.
use Rattle.std.proofs.Common.{◌≡◌, true, List, [], ◌∷◌, Option, None, inl, inr, refl, sym, ap, subst, ◌∙◌}
use Rattle.clap.specs.Words.{App, HasKind, HasMatchesOf, IsAmong, Kinds, Text, fault_of, found_of, is_simple, is_simple_and_free, kind_of, matches_of, rows_of}
use Rattle.clap.specs.declared.error.Error.{Error}
use Rattle.clap.specs.declared.error.kind.ErrorKind.{ErrorKind}
use Rattle.clap.specs.declared.error.kind.ErrorKind.TheVariants.{OutOfMemory}
use Rattle.clap.specs.declared.parser.matches.ArgMatches.{ArgMatches}
use Rattle.clap.proofs.OnLiterals.{clap_on_literals}
use Rattle.sac_words.specs.Command.{sac_command}
use Rattle.sac_words.specs.Meaning.{Meant, meant_by, unless_refused, words_mean}

pub command_is_free : is_simple_and_free sac_command ≡ true
unfolding sac_command clap_on_literals
command_is_free = refl

pub command_is_simple : is_simple sac_command ≡ true
unfolding sac_command clap_on_literals
command_is_simple = refl

some_kind : (kinds : Kinds) (k : ErrorKind) (asked : Option Meant) → IsAmong k kinds → unless_refused kinds asked ≡ None
some_kind [] k asked among = absurd among
some_kind (x ∷ xs) k asked among = refl

refused : (words : List Text) (e : Error) → (is_simple_and_free sac_command ≡ true → HasKind (fault_of sac_command words) e) → (kind_of e ≡ OutOfMemory → ⊥) → words_mean words ≡ None
unfolding words_mean
refused words e has other = elim (has command_is_free) [
  | inl memory ↦ absurd (other memory)
  | inr among ↦ some_kind (fault_of sac_command words) (kind_of e) (meant_by (matches_of sac_command words)) among
]

pub refused_by : (app : App) (words : List Text) (e : Error) → app ≡ sac_command
    → (is_simple_and_free app ≡ true → HasKind (fault_of app words) e) → (kind_of e ≡ OutOfMemory → ⊥) → words_mean words ≡ None
refused_by app words e is has other =
    subst (λ a. (is_simple_and_free a ≡ true → HasKind (fault_of a words) e) → words_mean words ≡ None) (sym is) (λ h. refused words e h other) has

taken : (words : List Text) (m : ArgMatches) → (is_simple_and_free sac_command ≡ true → fault_of sac_command words ≡ []) → HasMatchesOf sac_command words m
    → words_mean words ≡ meant_by (rows_of (found_of m))
unfolding words_mean
taken words m none matches =
    ap (λ kinds. unless_refused kinds (meant_by (matches_of sac_command words))) (none command_is_free)
    ∙ ap meant_by (sym (matches command_is_simple).0)

pub taken_as : (app : App) (words : List Text) (m : ArgMatches) → app ≡ sac_command
    → (is_simple_and_free app ≡ true → fault_of app words ≡ []) → HasMatchesOf app words m → words_mean words ≡ meant_by (rows_of (found_of m))
taken_as app words m is none matches =
    subst (λ a. (is_simple_and_free a ≡ true → fault_of a words ≡ []) → HasMatchesOf a words m → words_mean words ≡ meant_by (rows_of (found_of m))) (sym is) (taken words m) none matches
