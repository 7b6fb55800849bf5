-- How many workers accepted words ask for.
use Rattle.std.proofs.Common.{◌≡◌, ◌≤◌, ◌&&◌, ℕ, Bool, true, false, List, [], ◌∷◌, Option, Some, None, refl, ap, subst, cond, arith, leb}
use Rattle.std.proofs.lemmas.Bool.{leb-true}
use Rattle.std.specs.Str.Parse.{digits_value}
use Rattle.clap.specs.Words.{Kinds, Text, fault_of, matches_of}
use Rattle.sac_words.specs.Command.{sac_command}
use Rattle.sac_words.specs.declared.options.Mode.{Mode}
use Rattle.sac_words.specs.Meaning.{Meant, Origin, is_digits, is_number, number_in, number_or, meant_from, meant_by, unless_refused, words_mean}
use Rattle.sac_top.specs.Steps.{HasWorkers}

same_some : {A : Type 0} (a b : A) → Some a ≡ Some b → a ≡ b
same_some a b e = cc (e)

both : (a b : Bool) → (a && b) ≡ true → (a ≡ true) × (b ≡ true)
both true b e = (refl, e)
both false b e = absurd (cc (e))

-- a number that is read lies within its range
read_within : (least most n : ℕ) (text : Text) (b : Bool) → is_number least most text ≡ b → cond b (Some (digits_value 10 text)) None ≡ Some n → (least ≤ n) × (n ≤ most)
read_within least most n text false test e = absurd (cc (e))
read_within least most n text true test e =
    let value = digits_value 10 text in
    let range = both (leb least value) (leb value most) (both (is_digits text) (leb least value && leb value most) test).1 in
    subst (λ m. (least ≤ m) × (m ≤ most)) (same_some value n e) (leb-true least value range.0, leb-true value most range.1)

number_within : (least most n : ℕ) (text : Text) → number_in least most text ≡ Some n → (least ≤ n) × (n ≤ most)
unfolding number_in
number_within least most n text e = read_within least most n text (is_number least most text) refl e

-- so does a number or its default
within : (least most default n : ℕ) (given : Option Text) → least ≤ default → default ≤ most → number_or least most default given ≡ Some n → (least ≤ n) × (n ≤ most)
within least most default n None low high e = subst (λ m. (least ≤ m) × (m ≤ most)) (same_some default n e) (low, high)
within least most default n (Some text) low high e = number_within least most n text e

-- the workers are those that the parts have
workers_of : (source : Option Text) (input : Option Origin) (workers : Option ℕ) (chunk : Option (Option ℕ)) (turns depth : Option ℕ) (mode : Option Mode) (report : Bool) (asked : Meant)
    → meant_from source input workers chunk turns depth mode report ≡ Some asked → workers ≡ Some asked.workers
unfolding meant_from
workers_of None input workers chunk turns depth mode report asked e = absurd (cc (e))
workers_of (Some s) None workers chunk turns depth mode report asked e = absurd (cc (e))
workers_of (Some s) (Some i) None chunk turns depth mode report asked e = absurd (cc (e))
workers_of (Some s) (Some i) (Some w) None turns depth mode report asked e = absurd (cc (e))
workers_of (Some s) (Some i) (Some w) (Some k) None depth mode report asked e = absurd (cc (e))
workers_of (Some s) (Some i) (Some w) (Some k) (Some t) None mode report asked e = absurd (cc (e))
workers_of (Some s) (Some i) (Some w) (Some k) (Some t) (Some d) None report asked e = absurd (cc (e))
workers_of (Some s) (Some i) (Some w) (Some k) (Some t) (Some d) (Some m) report asked e = ap (λ (a : Meant). Some a.workers) (same_some _ asked e)

taken : (kinds : Kinds) (meant : Option Meant) (asked : Meant) → unless_refused kinds meant ≡ Some asked → meant ≡ Some asked
taken [] meant asked e = e
taken (kind ∷ kinds) meant asked e = absurd (cc (e))

pub asked_workers : (words : List Text) (asked : Meant) → words_mean words ≡ Some asked → HasWorkers asked.workers
unfolding words_mean
asked_workers words asked e =
    within 1 64 4 asked.workers _ (omega arith) (omega arith)
    (workers_of _ _ _ _ _ _ _ _ asked (taken (fault_of sac_command words) (meant_by (matches_of sac_command words)) asked e))
