-- With-loops do what their core means, where marks are right.
use Rattle.std.proofs.Common.{◌≡◌, ℕ, ◌≤◌, Bool, true, false, List, [], ◌∷◌, ◌++◌, map, ℤ, Some, None, Ok, Err, refl, sym, subst}
use Rattle.std.specs.Prelude.{if◌then◌else◌}
use Rattle.sac_base.specs.declared.form.Form.{Form}
use Rattle.sac_base.specs.declared.site.Site.{Site}
use Rattle.sac_base.specs.Outcomes.{Ends, and_then}
use Rattle.sac_base.specs.WithLoops.{Bounds, Generator, Operation, Plan, Range, plan, holds, held_cell, finish}
use Rattle.sac_base.specs.WithLoops as loops
use Rattle.core_ir.specs.declared.tree.Var.{Var}
use Rattle.core_ir.specs.declared.tree.CoreOp.{CoreOp}
use Rattle.core_ir.specs.Binders.{NoneIn}
use Rattle.core_ir.specs.Scopes.{AllIn, op_uses}
use Rattle.core_ir.specs.Terms.{GenHead}
use Rattle.core_ir.specs.Meaning.{Env, CallMeaning, one, first, generator, operation, with_index, run, generators, right_value}
use Rattle.counted_code.specs.Terms.{CodeTerm, CodeGensTerm, WithCode, NoCodeGens, GenCode, core_of, core_of_right, core_of_gens}
use Rattle.counted_code.specs.Values.{Heap, give, go_on, pure_end}
use Rattle.counted_code.specs.Loops.{holder, with_job, job_does}
use Rattle.counted_code.specs.Machine.{Values, DoesCalls, first_value, with_index_value, does, right_does, code_generators}
use Rattle.counted_code.specs.Counts.{Counted, CountedGens}
use Rattle.counted_laws.specs.Simulation.{Owns, AllBacked, Shows, SameCells, Matches, MatchesOne}
use Rattle.counted_laws.proofs.Held.{shows_back, all_backed_more, backed_shows}
use Rattle.counted_laws.proofs.Loops.{operation_same, all_bounds_same, first_matches, index_ready, job_of}
use Rattle.counted_laws.proofs.Plains.{owns_none}
use Rattle.counted_laws.proofs.Cells.{Linked, AlwaysLinked, job_matches}
use Rattle.phase_loop_laws.specs.mark_laws.Holds.{MarksHold, MarksHoldGens}
use Rattle.phase_loop_laws.proofs.mark_laws.Blocks.{RightDoes, BlockDoes}

-- each generator's body does what it means
abbrev pub GensDo : (results_of : ℕ → ℕ) (does_calls : DoesCalls) (calls : CallMeaning) (turns : ℕ) → CodeGensTerm → Type 0
GensDo results_of does_calls calls turns NoCodeGens = Unit {0}
GensDo results_of does_calls calls turns (GenCode g b rest) = BlockDoes results_of does_calls calls turns b × GensDo results_of does_calls calls turns rest

module _ (results_of : ℕ → ℕ) (does_calls : DoesCalls) (calls : CallMeaning) (turns : ℕ) (h : Heap) (e : Values) (ρ : Env) (others : ℕ → ℕ) (live : List Var) (backed : AllBacked others e live) (shows : Shows h e ρ live) where
  -- a body at an index, from a heap on that keeps what others hold
  gen_runs : (g : GenHead) (b : CodeTerm) → BlockDoes results_of does_calls calls turns b → NoneIn (g.index ∷ g.names) live → Counted results_of 1 live (g.index ∷ g.names) b → (v : List ℤ) → MarksHold calls turns b (with_index ρ g v)
      → (holding : ℕ → ℕ) → ((c : ℕ) → others c ≤ holding c) → (k : Heap) → Owns k [] holding → SameCells others h k → MatchesOne holding k (first_value (does does_calls turns b (with_index_value e g v)) k) (first (run calls turns (core_of b) (with_index ρ g v)))
  gen_runs g b block fresh counted v marks holding fewer k owns same =
      first_matches holding k (does does_calls turns b (with_index_value e g v) k) (run calls turns (core_of b) (with_index ρ g v))
      (block 1 live (g.index ∷ g.names) counted k (with_index_value e g v) (with_index ρ g v) holding
      (index_ready k e ρ holding live g v (all_backed_more e live others holding fewer backed) (backed_shows others h k e ρ live backed same shows) fresh owns) marks)

  gens_linked : (gens : CodeGensTerm) → GensDo results_of does_calls calls turns gens → CountedGens results_of live gens → MarksHoldGens calls turns gens ρ → (rs : List Range) (form : Form) (v : List ℤ) → AlwaysLinked others h form (holder (code_generators does_calls turns gens e h) rs v) (held_cell form (loops.holder (generators calls turns (core_of_gens gens) ρ) rs v) v)
  gens_linked NoCodeGens blocks counted marks rs form v holding fewer = refl
  gens_linked (GenCode g b rest) blocks counted marks [] form v holding fewer = refl
  gens_linked (GenCode g b rest) blocks counted marks (r ∷ rs) form v holding fewer = go (holds r v) (gens_linked rest blocks.1 counted.3 marks.1 rs form v holding fewer)
    where
      go : (inside : Bool) → Linked holding others fewer h form (holder (code_generators does_calls turns rest e h) rs v) (held_cell form (loops.holder (generators calls turns (core_of_gens rest) ρ) rs v) v)
          → Linked holding others fewer h form (if inside then Some (record { cell = first_value (does does_calls turns b (with_index_value e g v)); site = g.site }) else holder (code_generators does_calls turns rest e h) rs v) (held_cell form (if inside then Some (generator g (λ index. first (run calls turns (core_of b) (with_index ρ g index))) ρ) else loops.holder (generators calls turns (core_of_gens rest) ρ) rs v) v)
      go true l = (first (run calls turns (core_of b) (with_index ρ g v)), refl, gen_runs g b blocks.0 counted.1 counted.2 v (marks.0 v) holding fewer)
      go false l = l

  with_runs : (op : CoreOp) (gens : CodeGensTerm) (s : Site) → Owns h [] others → AllIn (op_uses op) live → GensDo results_of does_calls calls turns gens → CountedGens results_of live gens → MarksHoldGens calls turns gens ρ
      → Matches 1 others h (right_does does_calls turns (WithCode op gens) s e h) (right_value calls turns (core_of_right (WithCode op gens)) s ρ)
  with_runs op gens s owns uses blocks counted marks =
      let O = operation op s ρ in
      let cgs = code_generators does_calls turns gens e h in
      let gs = generators calls turns (core_of_gens gens) ρ in
      subst (λ (o : Operation). Matches 1 others h (go_on (go_on (pure_end (with_job cgs o) h) (job_does None)) (λ v. give (v ∷ []))) (right_value calls turns (core_of_right (WithCode op gens)) s ρ)) (sym (operation_same results_of does_calls calls turns h e ρ others live backed shows op s uses))
      (subst (λ (bs : List Bounds). Matches 1 others h (go_on (go_on (pure_end (and_then (plan bs O) (λ p. Ok (job_of cgs O p))) h) (job_does None)) (λ v. give (v ∷ []))) (right_value calls turns (core_of_right (WithCode op gens)) s ρ)) (sym (all_bounds_same results_of does_calls calls turns h e ρ others live backed shows gens counted))
      (go (plan (map (λ (g : Generator). g.bounds) gs) O)))
    where
      go : (P : Ends Plan) → Matches 1 others h (go_on (go_on (pure_end (and_then P (λ p. Ok (job_of (code_generators does_calls turns gens e h) (operation op s ρ) p))) h) (job_does None)) (λ v. give (v ∷ []))) (one (and_then P (λ p. and_then (loops.cells_of p.form (generators calls turns (core_of_gens gens) ρ) p.ranges p.indices) (λ found. Ok (finish (operation op s ρ) p found)))))
      go (Err f) = refl
      go (Ok p) =
          job_matches (job_of (code_generators does_calls turns gens e h) (operation op s ρ) p) (loops.cell_at p.form (generators calls turns (core_of_gens gens) ρ) p.ranges) h others owns
          (λ v. gens_linked gens blocks counted marks p.ranges p.form v)

module _ (results_of : ℕ → ℕ) (does_calls : DoesCalls) (calls : CallMeaning) (turns : ℕ) where
  pub with_does : (op : CoreOp) (gens : CodeGensTerm) → GensDo results_of does_calls calls turns gens → RightDoes results_of does_calls calls turns (WithCode op gens)
  with_does op gens blocks n outer mine after counted s h e ρ others ready marks =
      subst (λ m. Matches m others h (right_does does_calls turns (WithCode op gens) s e h) (right_value calls turns (core_of_right (WithCode op gens)) s ρ)) counted.0
      (with_runs results_of does_calls calls turns h e ρ others (after ++ outer) ready.backed (shows_back h e ρ mine (after ++ outer) ready.shows) op gens s (owns_none h e others mine ready.owns counted.1) counted.2 blocks counted.3 marks)
