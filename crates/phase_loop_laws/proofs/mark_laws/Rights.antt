-- Conditionals, calls and loops do what their core means, where marks are right.
use Rattle.std.proofs.Common.{◌≡◌, ℕ, zero, suc, ◌+◌, ◌-◌, Bool, true, false, List, [], ◌∷◌, ◌++◌, map, length, Ok, Err, refl, ap, ◌∙◌, sym, subst, arith}
use Rattle.sac_base.specs.declared.faults.FaultKind.TheVariants.{F9}
use Rattle.sac_base.specs.declared.site.Site.{Site}
use Rattle.sac_base.specs.Arrays.{ArrayValue}
use Rattle.sac_base.specs.Outcomes.{and_then, fault, choose}
use Rattle.sac_base.specs.Parts.{condition}
use Rattle.core_ir.specs.declared.tree.Var.{Var}
use Rattle.core_ir.specs.Meaning.{Answer, CallMeaning, first, repeat, loop_value, bind_all, run}
use Rattle.core_facts.specs.Facts.{DescribeAll}
use Rattle.counted_code.specs.Terms.{CodeTerm, IfCode, LoopCode, CallCode, core_of}
use Rattle.counted_code.specs.Values.{Heap, Value, Ended, Done, Failed, Doing, give, go_on, then_go, fails, choose_does, read, release}
use Rattle.counted_code.specs.Machine.{DoesCalls, bind_values, first_of, first_value, tested, repeat_does, turns_do, does, right_does}
use Rattle.counted_laws.specs.Simulation.{held, Owns, SameCells, Matches}
use Rattle.counted_laws.proofs.Held.{held_reordered, shows_reordered, shows_values, shows_front, shows_back, backed_shows, same_cells_fewer, released_owns, released_same}
use Rattle.counted_laws.proofs.Bound.{shown_at, zero_not_suc, suc_same, turn_ready, test_ready}
use Rattle.counted_laws.proofs.Blocks.{length_map, matches_after}
use Rattle.counted_laws.proofs.Rights.{chosen, values_same}
use Rattle.phase_loop_laws.specs.mark_laws.Holds.{Reached, at_start, after_turn, ArrayCallsMatch}
use Rattle.phase_loop_laws.proofs.mark_laws.Blocks.{then_told, RightDoes, BlockDoes}

-- after a test, whose value is read and released
after_test : (m : ℕ) (others : ℕ → ℕ) (k : Heap) (vs : List Value) (site : Site) (more done : Doing (List Value)) (go_more go_done : List ArrayValue → Answer) (t : Ended (List Value)) (ta : Answer) → Matches 1 (λ b. held b vs + others b) k t ta
    → ((k2 : Heap) → Owns k2 vs others → SameCells (λ b. held b vs + others b) k k2 → Matches m others k2 (more k2) (go_more (map (read k2) vs)) × Matches m others k2 (done k2) (go_done (map (read k2) vs)))
    → Matches m others k (go_on (go_on t (λ us. give (first_of us))) (λ c. tested site c more done)) (and_then (first ta) (λ c. choose site (condition c) (go_more (map (read k) vs)) (go_done (map (read k) vs))))
after_test m others k vs site more done go_more go_done (Failed f p) (Err g) r rest = r
after_test m others k vs site more done go_more go_done (Failed f p) (Ok ws) r rest = elim r [ ]
after_test m others k vs site more done go_more go_done (Done us k1) (Err g) r rest = elim r [ ]
after_test m others k vs site more done go_more go_done (Done [] k1) (Ok ws) r rest = elim (zero_not_suc r.0) [ ]
after_test m others k vs site more done go_more go_done (Done (u ∷ (w ∷ us)) k1) (Ok ws) r rest = elim (zero_not_suc (sym (suc_same r.0))) [ ]
after_test m others k vs site more done go_more go_done (Done (u ∷ []) k1) (Ok ws) r rest =
    let counts : ℕ → ℕ = (λ b. held b vs + others b) in
    let owns1 : Owns k1 (u ∷ vs) others = ((λ b. (let o = r.2.0 b in omega (arith, o))), r.2.1) in
    let k2 : Heap = release u k1 in
    let same : SameCells counts k k2 = (λ b le. released_same k1 u vs others owns1 b le ∙ r.3 b le) in
    let both = rest k2 (released_owns k1 u vs others owns1) same in
    let here = chosen m others k2 site (condition (read k1 u)) more done (go_more (map (read k2) vs)) (go_done (map (read k2) vs)) both.0 both.1 in
    let there = matches_after m others k k2 (choose_does site (condition (read k1 u)) more done k2) (choose site (condition (read k1 u)) (go_more (map (read k2) vs)) (go_done (map (read k2) vs))) (same_cells_fewer others counts k k2 (λ b. omega arith) same) here in
    subst (λ xs. Matches m others k (choose_does site (condition (read k1 u)) more done k2) (and_then (first (Ok xs)) (λ c. choose site (condition c) (go_more (map (read k) vs)) (go_done (map (read k) vs))))) r.1
    (subst (λ xs. Matches m others k (choose_does site (condition (read k1 u)) more done k2) (choose site (condition (read k1 u)) (go_more xs) (go_done xs))) (values_same k k2 others vs same) there)

module _ (m : ℕ) (others : ℕ → ℕ) (h : Heap) (site test_site : Site) (test : List Value → Doing (List Value)) (body : List Value → Doing (List Value)) (core_test core_body : List ArrayValue → Answer) (start : List ArrayValue) where
  -- the test and body of a turn that is reached do what they mean, in each heap that keeps the cells of what others hold
  abbrev TestDoes : Type 0
  TestDoes = (k : Heap) (vs : List Value) → SameCells others h k → length vs ≡ m → Owns k vs others → Reached start core_body (map (read k) vs) → Matches 1 (λ b. held b vs + others b) k (test vs k) (core_test (map (read k) vs))

  abbrev BodyDoes : Type 0
  BodyDoes = (k : Heap) (vs : List Value) → SameCells others h k → length vs ≡ m → Owns k vs others → Reached start core_body (map (read k) vs) → Matches m others k (body vs k) (core_body (map (read k) vs))

  through_cells : (k l : Heap) → SameCells others h k → SameCells others k l → SameCells others h l
  through_cells k l p q b le = q b le ∙ p b le

  repeated : TestDoes → BodyDoes → (n : ℕ) (k : Heap) (vs : List Value) → SameCells others h k → length vs ≡ m → Owns k vs others → Reached start core_body (map (read k) vs) → Matches m others k (repeat_does n site test_site (λ ws. first_value (test ws)) body vs k) (repeat n site test_site (λ ws. first (core_test ws)) core_body (map (read k) vs))
  repeated tests bodies zero k vs same size owns reached =
      after_test m others k vs test_site (fails F9 site) (give vs) (λ ws. fault F9 site) (λ ws. Ok ws) (test vs k) (core_test (map (read k) vs)) (tests k vs same size owns reached)
      (λ k2 o s. (refl, (size, refl, o, (λ b le. refl))))
  repeated tests bodies (suc n) k vs same size owns reached =
      after_test m others k vs test_site (then_go (body vs) (repeat_does n site test_site (λ ws. first_value (test ws)) body)) (give vs) (λ ws. and_then (core_body ws) (repeat n site test_site (λ us. first (core_test us)) core_body)) (λ ws. Ok ws) (test vs k) (core_test (map (read k) vs)) (tests k vs same size owns reached)
      (go (λ k2 us s z o is. repeated tests bodies n k2 us s z o is))
    where
      go : ((k2 : Heap) (us : List Value) → SameCells others h k2 → length us ≡ m → Owns k2 us others → Reached start core_body (map (read k2) us) → Matches m others k2 (repeat_does n site test_site (λ ws. first_value (test ws)) body us k2) (repeat n site test_site (λ ws. first (core_test ws)) core_body (map (read k2) us)))
          → (k2 : Heap) → Owns k2 vs others → SameCells (λ b. held b vs + others b) k k2
          → Matches m others k2 (go_on (body vs k2) (repeat_does n site test_site (λ ws. first_value (test ws)) body)) (and_then (core_body (map (read k2) vs)) (repeat n site test_site (λ us. first (core_test us)) core_body)) × Matches m others k2 (Done vs k2) (Ok (map (read k2) vs))
      go later k2 o s =
          let here = through_cells k k2 same (same_cells_fewer others (λ b. held b vs + others b) k k2 (λ b. omega arith) s) in
          let now = subst (Reached start core_body) (sym (values_same k k2 others vs s)) reached in (
            then_told m m others others k2 (body vs k2) (core_body (map (read k2) vs)) (repeat_does n site test_site (λ ws. first_value (test ws)) body) (repeat n site test_site (λ us. first (core_test us)) core_body) (λ b. omega arith) (bodies k2 vs here size o now)
                (λ us k3 z o3 s3 is. later k3 us (through_cells k2 k3 here s3) z o3 (after_turn now is)),
            (size, refl, o, (λ b le. refl)),
          )

  turned : TestDoes → BodyDoes → (b : Bool) (n : ℕ) (k : Heap) (vs : List Value) → SameCells others h k → length vs ≡ m → Owns k vs others → Reached start core_body (map (read k) vs) → Matches m others k (turns_do b n site test_site (λ ws. first_value (test ws)) body vs k) (loop_value b n site test_site (λ ws. first (core_test ws)) core_body (map (read k) vs))
  turned tests bodies false n k vs same size owns reached = repeated tests bodies n k vs same size owns reached
  turned tests bodies true n k vs same size owns reached =
      then_told m m others others k (body vs k) (core_body (map (read k) vs)) (repeat_does (n - 1) site test_site (λ ws. first_value (test ws)) body) (repeat (n - 1) site test_site (λ us. first (core_test us)) core_body) (λ b. omega arith) (bodies k vs same size owns reached)
      (λ us k3 z o3 s3 is. repeated tests bodies (n - 1) k3 us (through_cells k k3 same s3) z o3 (after_turn reached is))

module _ (results_of : ℕ → ℕ) (does_calls : DoesCalls) (calls : CallMeaning) (turns : ℕ) where
  pub call_does : ArrayCallsMatch results_of does_calls calls → (g : ℕ) (xs : List Var) → RightDoes results_of does_calls calls turns (CallCode g xs)
  call_does match g xs n outer mine after counted s h e ρ others ready marks =
      let values = shows_values h e ρ xs (shows_reordered h e ρ counted.1 (shows_front h e ρ mine (after ++ outer) ready.shows)) in
      let owns : Owns h (map e xs) others = ((λ b. ready.owns.0 b ∙ ap (λ m. m + others b) (held_reordered b e counted.1)), ready.owns.1) in
      subst (λ m. Matches m others h (does_calls g (map e xs) s h) (calls g (map ρ xs) s)) counted.0
      (subst (λ ws. Matches (results_of g) others h (does_calls g (map e xs) s h) (calls g ws s)) values (match g (map e xs) s h others owns (subst (DescribeAll []) (sym values) marks)))

  pub if_does : (c : Var) (a b : CodeTerm) → BlockDoes results_of does_calls calls turns a → BlockDoes results_of does_calls calls turns b → RightDoes results_of does_calls calls turns (IfCode c a b)
  if_does c a b first_branch second_branch n outer mine after counted s h e ρ others ready marks =
      subst (λ x. Matches n others h (right_does does_calls turns (IfCode c a b) s e h) (choose s (condition x) (run calls turns (core_of a) ρ) (run calls turns (core_of b) ρ))) (shown_at h e ρ c (mine ++ (after ++ outer)) ready.shows counted.0)
      (chosen n others h s (condition (read h (e c))) (does does_calls turns a e) (does does_calls turns b e) (run calls turns (core_of a) ρ) (run calls turns (core_of b) ρ)
      (first_branch n (after ++ outer) mine counted.1 h e ρ others ready marks.0) (second_branch n (after ++ outer) mine counted.2 h e ρ others ready marks.1))

  pub loop_does : (b : Bool) (start params : List Var) (test body : CodeTerm) (u : Site) → BlockDoes results_of does_calls calls turns test → BlockDoes results_of does_calls calls turns body → RightDoes results_of does_calls calls turns (LoopCode b start params test body u)
  loop_does b start params test body u tests bodies n outer mine after counted s h e ρ others ready marks =
      let rest = shows_back h e ρ mine (after ++ outer) ready.shows in
      let values = shows_values h e ρ start (shows_reordered h e ρ counted.4 (shows_front h e ρ mine (after ++ outer) ready.shows)) in
      let owns : Owns h (map e start) others = ((λ c. ready.owns.0 c ∙ ap (λ m. m + others c) (held_reordered c e counted.4)), ready.owns.1) in
      let core_body : List ArrayValue → Answer = λ vs. run calls turns (core_of body) (bind_all ρ params vs) in
      subst (λ ws. Matches n others h (right_does does_calls turns (LoopCode b start params test body u) s e h) (loop_value b turns s u (λ vs. first (run calls turns (core_of test) (bind_all ρ params vs))) core_body ws)) values
      (turned n others h s u (λ vs. does does_calls turns test (bind_values e params vs)) (λ vs. does does_calls turns body (bind_values e params vs)) (λ vs. run calls turns (core_of test) (bind_all ρ params vs)) core_body (map ρ start)
      (λ k vs same size o reached. tests 1 (params ++ (after ++ outer)) [] counted.5 k (bind_values e params vs) (bind_all ρ params (map (read k) vs)) (λ c. held c vs + others c)
      (test_ready k e ρ others (after ++ outer) params vs ready.backed (backed_shows others h k e ρ (after ++ outer) ready.backed same rest) (size ∙ sym counted.1) counted.2 counted.3 o) (marks (map (read k) vs) reached).0)
      (λ k vs same size o reached. bodies n (after ++ outer) params counted.6 k (bind_values e params vs) (bind_all ρ params (map (read k) vs)) others
      (turn_ready k e ρ others (after ++ outer) params vs ready.backed (backed_shows others h k e ρ (after ++ outer) ready.backed same rest) (size ∙ sym counted.1) counted.2 counted.3 o) (marks (map (read k) vs) reached).1)
      b turns h (map e start) (λ c le. refl) (length_map e start ∙ counted.0) owns (subst (Reached (map ρ start) core_body) (sym values) at_start))
