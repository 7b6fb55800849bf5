-- Steps of well-counted code do what their core means, where its marks are right.
use Rattle.std.proofs.Common.{◌≡◌, ℕ, ◌≤◌, List, ◌∷◌, ◌++◌, map, length, Ok, Err, ap, sym, subst, arith}
use Rattle.sac_base.specs.declared.site.Site.{Site}
use Rattle.sac_base.specs.Arrays.{ArrayValue}
use Rattle.sac_base.specs.Outcomes.{and_then}
use Rattle.core_ir.specs.declared.tree.Var.{Var}
use Rattle.core_ir.specs.Meaning.{Env, Answer, CallMeaning, bind_all, run, right_value}
use Rattle.counted_code.specs.Terms.{CodeTerm, CodeRightTerm, Giving, Binding, Keeping, Releasing, core_of, core_of_right}
use Rattle.counted_code.specs.Values.{Heap, Value, Ended, Done, Failed, Doing, go_on, read, keep, release}
use Rattle.counted_code.specs.Machine.{Values, DoesCalls, bind_values, does, right_does}
use Rattle.counted_code.specs.Counts.{Counted, CountedRight}
use Rattle.counted_laws.specs.Simulation.{Owns, SameCells, Matches}
use Rattle.counted_laws.proofs.Held.{same_cells_fewer, keep_cells}
use Rattle.counted_laws.proofs.Bound.{Ready, alive_backed, kept_ready, released_ready, staying, right_ready, rest_ready, none_front, none_back}
use Rattle.counted_laws.proofs.Blocks.{matches_after, giving_matches}
use Rattle.phase_loop_laws.specs.mark_laws.Holds.{MarksHold, MarksHoldRight}

-- one run, and then what goes on with its values, of which it is known that the core gives them
pub then_told : (m n : ℕ) (more others : ℕ → ℕ) (h : Heap) (r : Ended (List Value)) (a : Answer) (next : List Value → Doing (List Value)) (go : List ArrayValue → Answer) → ((b : ℕ) → others b ≤ more b) → Matches m more h r a → ((vs : List Value) (k : Heap) → length vs ≡ m → Owns k vs more → SameCells more h k → a ≡ Ok (map (read k) vs) → Matches n others k (next vs k) (go (map (read k) vs))) → Matches n others h (go_on r next) (and_then a go)
then_told m n more others h (Done vs k) (Ok ws) next go le r rest =
    subst (λ us. Matches n others h (next vs k) (go us)) r.1 (matches_after n others h k (next vs k) (go (map (read k) vs)) (same_cells_fewer others more h k le r.3) (rest vs k r.0 r.2 r.3 (ap Ok (sym r.1))))
then_told m n more others h (Failed f p) (Err g) next go le r rest = r
then_told m n more others h (Done vs k) (Err f) next go le r rest = elim r [ ]
then_told m n more others h (Failed f p) (Ok ws) next go le r rest = elim r [ ]

module _ (results_of : ℕ → ℕ) (does_calls : DoesCalls) (calls : CallMeaning) (turns : ℕ) where
  -- a right side does what it means
  abbrev pub RightDoes : CodeRightTerm → Type 0
  RightDoes r =
      (n : ℕ) (outer mine after : List Var) → CountedRight results_of n outer mine after r → (s : Site) (h : Heap) (e : Values) (ρ : Env) (others : ℕ → ℕ) → Ready h e ρ others (after ++ outer) mine → MarksHoldRight calls turns r ρ → Matches n others h (right_does does_calls turns r s e h) (right_value calls turns (core_of_right r) s ρ)

  -- and so does a block
  abbrev pub BlockDoes : CodeTerm → Type 0
  BlockDoes t =
      (n : ℕ) (outer refs : List Var) → Counted results_of n outer refs t → (h : Heap) (e : Values) (ρ : Env) (others : ℕ → ℕ) → Ready h e ρ others outer refs → MarksHold calls turns t ρ → Matches n others h (does does_calls turns t e h) (run calls turns (core_of t) ρ)

  pub giving_does : (xs : List Var) → BlockDoes (Giving xs)
  giving_does xs n outer refs counted h e ρ others ready marks = giving_matches results_of does_calls calls turns xs n outer refs counted h e ρ others ready

  pub keeping_does : (x : Var) (t : CodeTerm) → BlockDoes t → BlockDoes (Keeping x t)
  keeping_does x t rest n outer refs counted h e ρ others ready marks =
      matches_after n others h (keep (e x) h) (does does_calls turns t e (keep (e x) h)) (run calls turns (core_of t) ρ) (λ b le. keep_cells h (e x) (alive_backed h e ρ others outer refs x ready counted.0) b)
      (rest n outer (x ∷ refs) counted.1 (keep (e x) h) e ρ others (kept_ready h e ρ others outer refs x ready counted.0) marks)

  pub releasing_does : (x : Var) (t : CodeTerm) → BlockDoes t → BlockDoes (Releasing x t)
  releasing_does x t rest n outer refs counted h e ρ others ready marks =
      let r = released_ready h e ρ others outer refs counted.0 x ready counted.1 in
      matches_after n others h (release (e x) h) (does does_calls turns t e (release (e x) h)) (run calls turns (core_of t) ρ) r.0
      (rest n outer counted.0 counted.2 (release (e x) h) e ρ others r.1 marks)

  pub binding_does : (xs : List Var) (s : Site) (r : CodeRightTerm) (t : CodeTerm) → RightDoes r → BlockDoes t → BlockDoes (Binding xs s r t)
  binding_does xs s r t right rest n outer refs counted h e ρ others ready marks =
      let mine = counted.0 in
      let after = counted.1 in
      let ready' = right_ready h e ρ others outer refs mine after ready counted.2 in
      then_told (length xs) n (staying e after others) others h (right_does does_calls turns r s e h) (right_value calls turns (core_of_right r) s ρ) (λ vs. does does_calls turns t (bind_values e xs vs)) (λ ws. run calls turns (core_of t) (bind_all ρ xs ws)) (λ b. omega arith)
      (right (length xs) outer mine after counted.3 s h e ρ (staying e after others) ready' marks.0)
      (λ vs k size owns same is. rest n outer (xs ++ after) counted.6 k (bind_values e xs vs) (bind_all ρ xs (map (read k) vs)) others
      (rest_ready h k e ρ others outer mine after xs vs ready' ready.backed size counted.4 (none_front xs after outer counted.5) (none_back xs after outer counted.5) owns same) (marks.1 (map (read k) vs) is))
