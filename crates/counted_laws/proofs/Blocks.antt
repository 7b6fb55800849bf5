-- Steps of well-counted code do what their core means.
use Rattle.std.proofs.Common.{◌≡◌, ℕ, suc, ◌+◌, ◌≤◌, List, [], ◌∷◌, ◌++◌, map, length, Ok, Err, refl, ap, ◌∙◌, subst, arith}
use Rattle.sac_base.specs.declared.site.Site.{Site}
use Rattle.sac_base.specs.Arrays.{ArrayValue}
use Rattle.sac_base.specs.Outcomes.{and_then}
use Rattle.core_ir.specs.declared.tree.Var.{Var}
use Rattle.core_ir.specs.Meaning.{Env, Answer, CallMeaning, bind_all, run, right_value}
use Rattle.counted_code.specs.Terms.{CodeTerm, CodeRightTerm, Giving, Binding, Keeping, Releasing, core_of, core_of_right}
use Rattle.counted_code.specs.Values.{Heap, Value, Ended, Done, Failed, Doing, go_on, read, keep, release}
use Rattle.counted_code.specs.Machine.{Values, DoesCalls, bind_values, does, right_does}
use Rattle.counted_code.specs.Counts.{Reordered, Counted, CountedRight}
use Rattle.counted_laws.specs.Simulation.{Owns, SameCells, Matches}
use Rattle.counted_laws.proofs.Held.{held_reordered, shows_reordered, shows_values, shows_front, same_cells_fewer, keep_cells}
use Rattle.counted_laws.proofs.Bound.{Ready, alive_backed, kept_ready, released_ready, staying, right_ready, rest_ready, none_front, none_back}

pub length_map : (e : Values) (xs : List Var) → length (map e xs) ≡ length xs
length_map e [] = refl
length_map e (x ∷ xs) = ap suc (length_map e xs)

gives_matches : (h : Heap) (e : Values) (ρ : Env) (others : ℕ → ℕ) (n : ℕ) (outer refs xs : List Var) → Ready h e ρ others outer refs → length xs ≡ n → Reordered refs xs → Matches n others h (Done (map e xs) h) (Ok (map ρ xs))
gives_matches h e ρ others n outer refs xs ready size order =
    (length_map e xs ∙ size, shows_values h e ρ xs (shows_reordered h e ρ order (shows_front h e ρ refs outer ready.shows)), ((λ b. ready.owns.0 b ∙ ap (λ m. m + others b) (held_reordered b e order)), ready.owns.1), (λ b le. refl))

-- a run that goes on from another heap with the cells of what others hold
pub matches_after : (n : ℕ) (others : ℕ → ℕ) (h k : Heap) (m : Ended (List Value)) (a : Answer) → SameCells others h k → Matches n others k m a → Matches n others h m a
matches_after n others h k (Done vs g) (Ok ws) same r = (r.0, r.1, r.2, (λ b le. r.3 b le ∙ same b le))
matches_after n others h k (Failed f p) (Err g) same r = r
matches_after n others h k (Done vs g) (Err f) same r = elim r [ ]
matches_after n others h k (Failed f p) (Ok ws) same r = elim r [ ]

-- one run, and then what goes on with its values
pub then_matches : (m n : ℕ) (more others : ℕ → ℕ) (h : Heap) (r : Ended (List Value)) (a : Answer) (next : List Value → Doing (List Value)) (go : List ArrayValue → Answer) → ((b : ℕ) → others b ≤ more b) → Matches m more h r a → ((vs : List Value) (k : Heap) → length vs ≡ m → Owns k vs more → SameCells more h k → Matches n others k (next vs k) (go (map (read k) vs))) → Matches n others h (go_on r next) (and_then a go)
then_matches m n more others h (Done vs k) (Ok ws) next go le r rest =
    subst (λ us. Matches n others h (next vs k) (go us)) r.1 (matches_after n others h k (next vs k) (go (map (read k) vs)) (same_cells_fewer others more h k le r.3) (rest vs k r.0 r.2 r.3))
then_matches m n more others h (Failed f p) (Err g) next go le r rest = r
then_matches m n more others h (Done vs k) (Err f) next go le r rest = elim r [ ]
then_matches m n more others h (Failed f p) (Ok ws) next go le r rest = elim r [ ]

module _ (results_of : ℕ → ℕ) (does_calls : DoesCalls) (calls : CallMeaning) (turns : ℕ) where
  -- a right side does what it means
  abbrev pub RightMatches : CodeRightTerm → Type 0
  RightMatches r =
      (n : ℕ) (outer mine after : List Var) → CountedRight results_of n outer mine after r → (s : Site) (h : Heap) (e : Values) (ρ : Env) (others : ℕ → ℕ) → Ready h e ρ others (after ++ outer) mine → Matches n others h (right_does does_calls turns r s e h) (right_value calls turns (core_of_right r) s ρ)

  -- and so does a block
  abbrev pub BlockMatches : CodeTerm → Type 0
  BlockMatches t =
      (n : ℕ) (outer refs : List Var) → Counted results_of n outer refs t → (h : Heap) (e : Values) (ρ : Env) (others : ℕ → ℕ) → Ready h e ρ others outer refs → Matches n others h (does does_calls turns t e h) (run calls turns (core_of t) ρ)

  pub giving_matches : (xs : List Var) → BlockMatches (Giving xs)
  giving_matches xs n outer refs counted h e ρ others ready = gives_matches h e ρ others n outer refs xs ready counted.0 counted.1

  pub keeping_matches : (x : Var) (t : CodeTerm) → BlockMatches t → BlockMatches (Keeping x t)
  keeping_matches x t rest n outer refs counted h e ρ others ready =
      matches_after n others h (keep (e x) h) (does does_calls turns t e (keep (e x) h)) (run calls turns (core_of t) ρ) (λ b le. keep_cells h (e x) (alive_backed h e ρ others outer refs x ready counted.0) b)
      (rest n outer (x ∷ refs) counted.1 (keep (e x) h) e ρ others (kept_ready h e ρ others outer refs x ready counted.0))

  pub releasing_matches : (x : Var) (t : CodeTerm) → BlockMatches t → BlockMatches (Releasing x t)
  releasing_matches x t rest n outer refs counted h e ρ others ready =
      let r = released_ready h e ρ others outer refs counted.0 x ready counted.1 in
      matches_after n others h (release (e x) h) (does does_calls turns t e (release (e x) h)) (run calls turns (core_of t) ρ) r.0
      (rest n outer counted.0 counted.2 (release (e x) h) e ρ others r.1)

  pub binding_matches : (xs : List Var) (s : Site) (r : CodeRightTerm) (t : CodeTerm) → RightMatches r → BlockMatches t → BlockMatches (Binding xs s r t)
  binding_matches xs s r t right rest n outer refs counted h e ρ others ready =
      let mine = counted.0 in
      let after = counted.1 in
      let ready' = right_ready h e ρ others outer refs mine after ready counted.2 in
      then_matches (length xs) n (staying e after others) others h (right_does does_calls turns r s e h) (right_value calls turns (core_of_right r) s ρ) (λ vs. does does_calls turns t (bind_values e xs vs)) (λ ws. run calls turns (core_of t) (bind_all ρ xs ws)) (λ b. omega arith)
      (right (length xs) outer mine after counted.3 s h e ρ (staying e after others) ready')
      (λ vs k size owns same. rest n outer (xs ++ after) counted.6 k (bind_values e xs vs) (bind_all ρ xs (map (read k) vs)) others
      (rest_ready h k e ρ others outer mine after xs vs ready' ready.backed size counted.4 (none_front xs after outer counted.5) (none_back xs after outer counted.5) owns same))
