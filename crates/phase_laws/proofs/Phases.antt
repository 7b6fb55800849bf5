-- Terms on the machine that runs phases in chunks do what their core means, and spend what they are to.
use Rattle.std.proofs.Common.{◌≡◌, ℕ, ◌+◌, Bool, true, false, List, [], ◌∷◌, ◌++◌, map, length, Option, None, Ok, Err, refl, ap, ◌∙◌, sym, subst, arith}
use Rattle.std.specs.Prelude.{if◌then◌else◌}
use Rattle.std.proofs.lemmas.List.{append-nil}
use Rattle.sac_base.specs.declared.base.Base.{Base}
use Rattle.sac_base.specs.declared.faults.FaultKind.TheVariants.{F6}
use Rattle.sac_base.specs.declared.grid.Grid1.{Grid1}
use Rattle.sac_base.specs.declared.site.Site.{Site}
use Rattle.sac_base.specs.Arrays.{ArrayValue}
use Rattle.sac_base.specs.Grids.{members}
use Rattle.sac_base.specs.Outcomes.{Ends, and_then, fault, choose}
use Rattle.sac_base.specs.Parts.{condition}
use Rattle.sac_base.specs.WithLoops.{Bounds, Generator, Operation, Plan, plan, finish, each}
use Rattle.sac_base.specs.WithLoops as loops
use Rattle.core_ir.specs.declared.tree.CoreOp.{CoreOp}
use Rattle.core_ir.specs.declared.tree.PartedOp.{PartedOp}
use Rattle.core_ir.specs.declared.tree.Var.{Var}
use Rattle.core_ir.specs.Meaning.{Env, Answer, one, first, bind_all, cell_form, cell_at, operation, neutral_fits, made_of, loop_value, run, right_value}
use Rattle.core_ir.specs.Scopes.{AllIn, op_uses, parted_uses}
use Rattle.core_ir.specs.Terms.{PlainTerm}
use Rattle.counted_code.specs.Counts.{Counted, CountedRight, CountedGens, CountedParts, Unmarked, UnmarkedRight}
use Rattle.counted_code.specs.Loops.{Job, CodeGenerator, is_fold, with_job, parted_folds, parted_shape}
use Rattle.counted_code.specs.Machine.{Values, DoesCalls, bind_values}
use Rattle.counted_code.specs.Terms.{CodeTerm, CodeRightTerm, CodeGensTerm, CodePartsTerm, Giving, Binding, Keeping, Releasing, PlainCode, IfCode, LoopCode, CallCode, WithCode, PartedCode, core_of, core_of_right}
use Rattle.counted_code.specs.Values.{Heap, Value, Doing, give, go_on, pure_end, read, keep, release}
use Rattle.counted_laws.specs.Simulation.{held, Owns, AllBacked, Shows, SameCells, CallsMatch}
use Rattle.counted_laws.proofs.Blocks.{length_map, matches_after, then_matches, giving_matches}
use Rattle.counted_laws.proofs.Bound.{Ready, alive_backed, kept_ready, released_ready, staying, right_ready, rest_ready, none_front, none_back, shown_at, turn_ready, test_ready}
use Rattle.counted_laws.proofs.Held.{held_reordered, shows_reordered, shows_values, shows_front, shows_back, backed_shows, keep_cells}
use Rattle.counted_laws.proofs.Loops.{operation_same, all_bounds_same, job_same, same_length, no_elements, job_of, parted_of}
use Rattle.counted_laws.proofs.Plains.{plain_matches, owns_none}
use Rattle.counted_laws.proofs.Rights.{call_matches, turns_match, chosen}
use Rattle.phase_laws.specs.Alone.{Context, CallsSpend}
use Rattle.phase_laws.specs.Numbers.{CallsAreBlind}
use Rattle.phase_laws.specs.Phased.{Cut, phase_does, phased, right_phased}
use Rattle.phase_laws.specs.Spending.{nothing, after, choice, cells_spend, turns_spend}
use Rattle.phase_laws.proofs.Blind.{gens_blind, parts_blind}
use Rattle.phase_laws.proofs.Loops.{GensSpend, PartsSpend, takes_gens, takes_parts, code_gens, core_gens, code_parts, core_parts, readable_on, gens_leave, parts_leave}
use Rattle.phase_laws.proofs.PhaseCells.{Goes, job_goes}
use Rattle.phase_laws.proofs.Spent.{then_spends, chosen_spends, keep_spends, release_spends, spent_from}
use Rattle.phase_laws.proofs.Steps.{spends_in, right_spends_in, giving_spends, right_plain_spends, call_spends, turns_spent}
use Rattle.phase_laws.proofs.Whole.{gens_spend, parts_spend}

-- the context c is that of cells; outside of cells calls are these
module _ (cut : Option Cut) (c : Context) (cells_blind : CallsAreBlind c.does_calls) (calls : DoesCalls) (calls_match : CallsMatch c.results_of calls c.calls) (calls_spend : CallsSpend calls c.call_spends) where
  abbrev outside : Context
  outside = record { results_of = c.results_of; does_calls = calls; calls = c.calls; turns = c.turns; call_spends = c.call_spends; matching = calls_match; spending = calls_spend }

  abbrev run_in : CodeTerm → Env → Answer
  run_in t ρ = run c.calls c.turns (core_of t) ρ

  abbrev right_in : CodeRightTerm → Site → Env → Answer
  right_in r s ρ = right_value c.calls c.turns (core_of_right r) s ρ

  abbrev phased_in : CodeTerm → Values → Doing (List Value)
  phased_in t e = phased cut c.does_calls calls c.turns t e

  abbrev right_phased_in : CodeRightTerm → Site → Values → Doing (List Value)
  right_phased_in r s e = right_phased cut c.does_calls calls c.turns r s e

  abbrev pub BlockGoes : CodeTerm → Type 0
  BlockGoes t =
      (n : ℕ) (outer refs : List Var) → Counted c.results_of n outer refs t → (h : Heap) (e : Values) (ρ : Env) (others : ℕ → ℕ) → Ready h e ρ others outer refs → Goes n others h (phased_in t e h) (run_in t ρ) (spends_in c t ρ)

  abbrev pub RightGoes : CodeRightTerm → Type 0
  RightGoes r =
      (n : ℕ) (outer mine later : List Var) → CountedRight c.results_of n outer mine later r → (s : Site) (h : Heap) (e : Values) (ρ : Env) (others : ℕ → ℕ) → Ready h e ρ others (later ++ outer) mine → Goes n others h (right_phased_in r s e h) (right_in r s ρ) (right_spends_in c r s ρ)

  -- ---- steps

  giving_goes : (xs : List Var) → BlockGoes (Giving xs)
  giving_goes xs n outer refs counted h e ρ others ready =
      (giving_matches c.results_of calls c.calls c.turns xs n outer refs counted h e ρ others ready, giving_spends outside xs n outer refs counted h e ρ others ready)

  keeping_goes : (x : Var) (t : CodeTerm) → BlockGoes t → BlockGoes (Keeping x t)
  keeping_goes x t rest n outer refs counted h e ρ others ready =
      let k : Heap = keep (e x) h in
      let r = rest n outer (x ∷ refs) counted.1 k e ρ others (kept_ready h e ρ others outer refs x ready counted.0) in (
        matches_after n others h k (phased_in t e k) (run_in t ρ) (λ b le. keep_cells h (e x) (alive_backed h e ρ others outer refs x ready counted.0) b) r.0,
        spent_from (spends_in c t ρ) h k (phased_in t e k) (keep_spends (e x) h) r.1,
      )

  releasing_goes : (x : Var) (t : CodeTerm) → BlockGoes t → BlockGoes (Releasing x t)
  releasing_goes x t rest n outer refs counted h e ρ others ready =
      let k : Heap = release (e x) h in
      let q = released_ready h e ρ others outer refs counted.0 x ready counted.1 in
      let r = rest n outer counted.0 counted.2 k e ρ others q.1 in (
        matches_after n others h k (phased_in t e k) (run_in t ρ) q.0 r.0,
        spent_from (spends_in c t ρ) h k (phased_in t e k) (release_spends (e x) h) r.1,
      )

  binding_goes : (xs : List Var) (s : Site) (r : CodeRightTerm) (t : CodeTerm) → RightGoes r → BlockGoes t → BlockGoes (Binding xs s r t)
  binding_goes xs s r t right rest n outer refs counted h e ρ others ready = (
    then_matches (length xs) n more others h (right_phased_in r s e h) (right_in r s ρ) (λ vs. phased_in t (bind_values e xs vs)) (λ ws. run_in t (bind_all ρ xs ws)) (λ b. omega arith) first_goes.0 (λ vs k size owns same. (rest_goes vs k size owns same).0),
    then_spends (length xs) more h (right_spends_in c r s ρ) (right_phased_in r s e h) (right_in r s ρ) (λ vs. phased_in t (bind_values e xs vs)) (λ ws. spends_in c t (bind_all ρ xs ws)) first_goes.0 first_goes.1 (λ vs k size owns same. (rest_goes vs k size owns same).1),
  )
    where
      more : ℕ → ℕ
      more = staying e counted.1 others

      ready' : Ready h e ρ (staying e counted.1 others) (counted.1 ++ outer) counted.0
      ready' = right_ready h e ρ others outer refs counted.0 counted.1 ready counted.2

      first_goes : Goes (length xs) (staying e counted.1 others) h (right_phased_in r s e h) (right_in r s ρ) (right_spends_in c r s ρ)
      first_goes = right (length xs) outer counted.0 counted.1 counted.3 s h e ρ (staying e counted.1 others) ready'

      rest_goes : (vs : List Value) (k : Heap) → length vs ≡ length xs → Owns k vs (staying e counted.1 others) → SameCells (staying e counted.1 others) h k → Goes n others k (phased_in t (bind_values e xs vs) k) (run_in t (bind_all ρ xs (map (read k) vs))) (spends_in c t (bind_all ρ xs (map (read k) vs)))
      rest_goes vs k size owns same =
          rest n outer (xs ++ counted.1) counted.6 k (bind_values e xs vs) (bind_all ρ xs (map (read k) vs)) others
          (rest_ready h k e ρ others outer counted.0 counted.1 xs vs ready' ready.backed size counted.4 (none_front xs counted.1 outer counted.5) (none_back xs counted.1 outer counted.5) owns same)

  -- ---- right sides

  plain_goes : (p : PlainTerm) → RightGoes (PlainCode p)
  plain_goes p n outer mine later counted s h e ρ others ready =
      (plain_matches c.results_of calls c.calls c.turns p n outer mine later counted s h e ρ others ready, right_plain_spends outside p n outer mine later counted s h e ρ others ready)

  call_goes : (g : ℕ) (xs : List Var) → RightGoes (CallCode g xs)
  call_goes g xs n outer mine later counted s h e ρ others ready =
      (call_matches c.results_of calls c.calls c.turns calls_match g xs n outer mine later counted s h e ρ others ready, call_spends outside g xs n outer mine later counted s h e ρ others ready)

  if_goes : (x : Var) (a b : CodeTerm) → BlockGoes a → BlockGoes b → RightGoes (IfCode x a b)
  if_goes x a b one_goes other_goes n outer mine later counted s h e ρ others ready =
      let p = one_goes n (later ++ outer) mine counted.1 h e ρ others ready in
      let q = other_goes n (later ++ outer) mine counted.2 h e ρ others ready in
      subst (λ w. Goes n others h (right_phased_in (IfCode x a b) s e h) (choose s (condition w) (run_in a ρ) (run_in b ρ)) (choice (condition w) (spends_in c a ρ) (spends_in c b ρ))) (shown_at h e ρ x (mine ++ (later ++ outer)) ready.shows counted.0) (
        chosen n others h s (condition (read h (e x))) (phased_in a e) (phased_in b e) (run_in a ρ) (run_in b ρ) p.0 q.0,
        chosen_spends h s (condition (read h (e x))) (phased_in a e) (phased_in b e) (spends_in c a ρ) (spends_in c b ρ) p.1 q.1,
      )

  loop_goes : (b : Bool) (start params : List Var) (test body : CodeTerm) (u : Site) → BlockGoes test → BlockGoes body → RightGoes (LoopCode b start params test body u)
  loop_goes b start params test body u tests bodies n outer mine later counted s h e ρ others ready =
      subst (λ ws. Goes n others h (right_phased_in (LoopCode b start params test body u) s e h) (loop_value b c.turns s u (λ vs. first (run_in test (bind_all ρ params vs))) (λ vs. run_in body (bind_all ρ params vs)) ws) (turns_spend b c.turns (record { value = λ vs. first (run_in test (bind_all ρ params vs)); spends = λ vs. spends_in c test (bind_all ρ params vs) }) (record { value = λ vs. run_in body (bind_all ρ params vs); spends = λ vs. spends_in c body (bind_all ρ params vs) }) ws)) values (
        turns_match n others h s u test_does body_does test_means body_means (λ k vs same size o. (test_goes k vs same size o).0) (λ k vs same size o. (body_goes k vs same size o).0) b c.turns h (map e start) (λ a le. refl) (length_map e start ∙ counted.0) owns,
        turns_spent n others h s u test_does body_does test_means body_means (λ vs. spends_in c test (bind_all ρ params vs)) (λ vs. spends_in c body (bind_all ρ params vs)) test_goes body_goes b c.turns h (map e start) (λ a le. refl) (length_map e start ∙ counted.0) owns,
      )
    where
      test_does : List Value → Doing (List Value)
      test_does vs = phased_in test (bind_values e params vs)

      body_does : List Value → Doing (List Value)
      body_does vs = phased_in body (bind_values e params vs)

      test_means : List ArrayValue → Answer
      test_means vs = run_in test (bind_all ρ params vs)

      body_means : List ArrayValue → Answer
      body_means vs = run_in body (bind_all ρ params vs)

      rest : Shows h e ρ (later ++ outer)
      rest = shows_back h e ρ mine (later ++ outer) ready.shows

      values : map (read h) (map e start) ≡ map ρ start
      values = shows_values h e ρ start (shows_reordered h e ρ counted.4 (shows_front h e ρ mine (later ++ outer) ready.shows))

      owns : Owns h (map e start) others
      owns = ((λ a. ready.owns.0 a ∙ ap (λ m. m + others a) (held_reordered a e counted.4)), ready.owns.1)

      test_goes : (k : Heap) (vs : List Value) → SameCells others h k → length vs ≡ n → Owns k vs others → Goes 1 (λ a. held a vs + others a) k (phased_in test (bind_values e params vs) k) (run_in test (bind_all ρ params (map (read k) vs))) (spends_in c test (bind_all ρ params (map (read k) vs)))
      test_goes k vs same size o =
          tests 1 (params ++ (later ++ outer)) [] counted.5 k (bind_values e params vs) (bind_all ρ params (map (read k) vs)) (λ a. held a vs + others a)
          (test_ready k e ρ others (later ++ outer) params vs ready.backed (backed_shows others h k e ρ (later ++ outer) ready.backed same rest) (size ∙ sym counted.1) counted.2 counted.3 o)

      body_goes : (k : Heap) (vs : List Value) → SameCells others h k → length vs ≡ n → Owns k vs others → Goes n others k (phased_in body (bind_values e params vs) k) (run_in body (bind_all ρ params (map (read k) vs))) (spends_in c body (bind_all ρ params (map (read k) vs)))
      body_goes k vs same size o =
          bodies n (later ++ outer) params counted.6 k (bind_values e params vs) (bind_all ρ params (map (read k) vs)) others
          (turn_ready k e ρ others (later ++ outer) params vs ready.backed (backed_shows others h k e ρ (later ++ outer) ready.backed same rest) (size ∙ sym counted.1) counted.2 counted.3 o)

  -- ---- loops over cells

  module _ (h : Heap) (e : Values) (ρ : Env) (others : ℕ → ℕ) (live : List Var) (backed : AllBacked others e live) (shows : Shows h e ρ live) where
    with_in : (op : CoreOp) (gens : CodeGensTerm) (s : Site) → Owns h [] others → AllIn (op_uses op) live → GensSpend c gens → CountedGens c.results_of live gens → Goes 1 others h (right_phased_in (WithCode op gens) s e h) (right_in (WithCode op gens) s ρ) (right_spends_in c (WithCode op gens) s ρ)
    with_in op gens s owns uses blocks counted =
        subst (λ (o : Operation). Goes 1 others h (go_on (go_on (pure_end (with_job cgs o) h) (phase_does cut None)) (λ v. give (v ∷ []))) (right_in (WithCode op gens) s ρ) (right_spends_in c (WithCode op gens) s ρ)) (sym (operation_same c.results_of c.does_calls c.calls c.turns h e ρ others live backed shows op s uses))
        (subst (λ (bs : List Bounds). Goes 1 others h (go_on (go_on (pure_end (and_then (plan bs (operation op s ρ)) (λ p. Ok (job_of cgs (operation op s ρ) p))) h) (phase_does cut None)) (λ v. give (v ∷ []))) (right_in (WithCode op gens) s ρ) (right_spends_in c (WithCode op gens) s ρ)) (sym (all_bounds_same c.results_of c.does_calls c.calls c.turns h e ρ others live backed shows gens counted))
        (go (plan (map (λ (g : Generator). g.bounds) (core_gens c gens ρ)) (operation op s ρ))))
      where
        cgs : List CodeGenerator
        cgs = code_gens c gens e h

        go : (P : Ends Plan) → Goes 1 others h (go_on (go_on (pure_end (and_then P (λ p. Ok (job_of (code_gens c gens e h) (operation op s ρ) p))) h) (phase_does cut None)) (λ v. give (v ∷ []))) (one (and_then P (λ p. and_then (loops.cells_of p.form (core_gens c gens ρ) p.ranges p.indices) (λ found. Ok (finish (operation op s ρ) p found))))) (after P (λ p. cells_spend (is_fold (operation op s ρ)) p.shape p.indices (takes_gens c gens ρ p.ranges)))
        go (Err f) = (refl, sym (append-nil h.phases))
        go (Ok p) =
            job_goes cut (job_of (code_gens c gens e h) (operation op s ρ) p) (loops.cell_at p.form (core_gens c gens ρ) p.ranges) (takes_gens c gens ρ p.ranges) h others owns
            (λ holding fewer v k o same. gens_leave c gens blocks live counted h k e ρ holding (readable_on h k e ρ others holding live backed shows fewer o same) p.form p.ranges v)
            (λ v. gens_blind c.does_calls c.turns cells_blind gens e h p.ranges v)

    parted_in : (f : List Grid1) (b : Base) (shape : List ℕ) (op : PartedOp) (parts : CodePartsTerm) (s : Site) → Owns h [] others → AllIn (parted_uses op) live → PartsSpend c parts → CountedParts c.results_of live parts → Goes 1 others h (right_phased_in (PartedCode f b shape op parts None) s e h) (right_in (PartedCode f b shape op parts None) s ρ) (right_spends_in c (PartedCode f b shape op parts None) s ρ)
    parted_in f b shape op parts s owns uses blocks counted =
        subst (λ (j : Ends Job). Goes 1 others h (go_on (go_on (pure_end j h) (phase_does cut None)) (λ v. give (v ∷ []))) (right_in (PartedCode f b shape op parts None) s ρ) (right_spends_in c (PartedCode f b shape op parts None) s ρ)) (sym (job_same h e ρ live f b shape op (code_parts c parts e) s shows uses))
        (go (neutral_fits (cell_form b shape) op ρ))
      where
        go : (fits : Bool) → Goes 1 others h (go_on (go_on (pure_end (if fits then Ok (parted_of f b shape op (code_parts c parts e) ρ) else fault F6 s) h) (phase_does cut None)) (λ v. give (v ∷ []))) (one (if fits then and_then (each (cell_at (cell_form b shape) (core_parts c parts ρ)) (members f)) (λ found. Ok (made_of f b shape op ρ found)) else fault F6 s)) (if fits then cells_spend (parted_folds op) (parted_shape f shape op) (members f) (takes_parts c parts ρ) else nothing)
        go true =
            job_goes cut (parted_of f b shape op (code_parts c parts e) ρ) (cell_at (cell_form b shape) (core_parts c parts ρ)) (takes_parts c parts ρ) h others owns
            (λ holding fewer v k o same. parts_leave c parts blocks live counted k e ρ holding (readable_on h k e ρ others holding live backed shows fewer o same) b shape v)
            (λ v. parts_blind c.does_calls c.turns cells_blind parts e v)
        go false = (refl, sym (append-nil h.phases))

  with_goes : (op : CoreOp) (gens : CodeGensTerm) → GensSpend c gens → RightGoes (WithCode op gens)
  with_goes op gens blocks n outer mine later counted s h e ρ others ready =
      subst (λ m. Goes m others h (right_phased_in (WithCode op gens) s e h) (right_in (WithCode op gens) s ρ) (right_spends_in c (WithCode op gens) s ρ)) counted.0
      (with_in h e ρ others (later ++ outer) ready.backed (shows_back h e ρ mine (later ++ outer) ready.shows) op gens s (owns_none h e others mine ready.owns counted.1) counted.2 blocks counted.3)

  parted_goes : (f : List Grid1) (b : Base) (shape : List ℕ) (op : PartedOp) (parts : CodePartsTerm) → PartsSpend c parts → RightGoes (PartedCode f b shape op parts None)
  parted_goes f b shape op parts blocks n outer mine later counted s h e ρ others ready =
      let empty = no_elements mine (same_length counted.1) in
      subst (λ m. Goes m others h (right_phased_in (PartedCode f b shape op parts None) s e h) (right_in (PartedCode f b shape op parts None) s ρ) (right_spends_in c (PartedCode f b shape op parts None) s ρ)) counted.0
      (parted_in h e ρ others (later ++ outer) ready.backed (shows_back h e ρ mine (later ++ outer) ready.shows) f b shape op parts s (owns_none h e others mine ready.owns counted.1) (subst (λ l. AllIn (parted_uses op) (l ++ (later ++ outer))) empty counted.2) blocks (subst (λ l. CountedParts c.results_of (l ++ (later ++ outer)) parts) empty counted.3))

  -- ---- whole terms

  mutual
    pub block_goes : (t : CodeTerm) → Unmarked t → BlockGoes t
    block_goes (Giving xs) u = giving_goes xs
    block_goes (Binding xs s r t) u = binding_goes xs s r t (right_goes r u.0) (block_goes t u.1)
    block_goes (Keeping x t) u = keeping_goes x t (block_goes t u)
    block_goes (Releasing x t) u = releasing_goes x t (block_goes t u)

    right_goes : (r : CodeRightTerm) → UnmarkedRight r → RightGoes r
    right_goes (PlainCode p) u = plain_goes p
    right_goes (IfCode x a b) u = if_goes x a b (block_goes a u.0) (block_goes b u.1)
    right_goes (LoopCode b start params test body s) u = loop_goes b start params test body s (block_goes test u.0) (block_goes body u.1)
    right_goes (CallCode g xs) u = call_goes g xs
    right_goes (WithCode op gens) u = with_goes op gens (gens_spend c gens u)
    right_goes (PartedCode f b shape op parts m) u =
        subst (λ (o : Option Var). RightGoes (PartedCode f b shape op parts o)) (sym u.0) (parted_goes f b shape op parts (parts_spend c parts u.1))
