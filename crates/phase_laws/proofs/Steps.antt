-- Steps of well-counted code spend on a heap what they spend on arrays.
use Rattle.std.proofs.Common.{◌≡◌, ℕ, zero, suc, ◌+◌, ◌-◌, Bool, true, false, cond, List, [], ◌∷◌, ◌++◌, map, length, Option, Some, None, Result, Ok, Err, refl, ap, ◌∙◌, sym, subst, arith}
use Rattle.std.specs.Prelude.{if◌then◌else◌}
use Rattle.std.proofs.lemmas.List.{append-nil}
use Rattle.sac_base.specs.declared.faults.FaultKind.{FaultKind}
use Rattle.sac_base.specs.declared.faults.FaultKind.TheVariants.{F7, F9}
use Rattle.sac_base.specs.declared.site.Site.{Site}
use Rattle.sac_base.specs.declared.types.ArrayType.{ArrayType}
use Rattle.sac_base.specs.Arrays.{ArrayValue}
use Rattle.sac_base.specs.Outcomes.{at_site, first_result}
use Rattle.sac_base.specs.Parts.{condition}
use Rattle.sac_base.specs.Types.{has}
use Rattle.core_ir.specs.declared.tree.Var.{Var}
use Rattle.core_ir.specs.Meaning.{Env, Answer, one, first, bind_all, plain_value, run, right_value}
use Rattle.core_ir.specs.Terms.{PlainTerm}
use Rattle.counted_code.specs.Counts.{Counted, CountedRight}
use Rattle.counted_code.specs.Machine.{Values, bind_values, reads, first_of, first_value, one_value, plain_does, tested, repeat_does, turns_do, does, right_does}
use Rattle.counted_code.specs.Terms.{CodeTerm, CodeRightTerm, Giving, Binding, Keeping, Releasing, PlainCode, IfCode, LoopCode, CallCode, core_of, core_of_right}
use Rattle.counted_code.specs.Values.{Heap, Value, Ended, Done, Failed, Doing, give, go_on, then_go, pure_end, fails, choose_does, read, keep, release, is_small, place_as, place_value}
use Rattle.counted_laws.specs.Simulation.{held, Owns, SameCells, Matches}
use Rattle.counted_laws.proofs.Held.{held_reordered, shows_reordered, shows_values, shows_front, shows_back, backed_reads, backed_shows, released_owns, released_same}
use Rattle.counted_laws.proofs.Bound.{Ready, kept_ready, released_ready, staying, right_ready, rest_ready, none_front, none_back, shown_at, zero_not_suc, suc_same, turn_ready, test_ready}
use Rattle.counted_laws.proofs.Blocks.{length_map, RightMatches, BlockMatches}
use Rattle.counted_laws.proofs.Plains.{plain_matches}
use Rattle.phase_laws.specs.Alone.{Context, Spent}
use Rattle.phase_laws.specs.Spending.{Spending, Step, nothing, both, after, choice, placing, buffers_of, plain_spends, repeat_spends, turns_spend, spends, right_spends}
use Rattle.phase_laws.proofs.Spent.{spent_nothing, both_nothing, spent_both, then_spends, chosen_spends, keep_spends, release_spends, spent_from}

-- ---- results that are placed

place_spends : (h : Heap) (a : ArrayValue) (small : Bool) → Spent (record { taken = cond small 0 1; phases = [] }) h (one_value (place_as small a) h)
place_spends h a true = (omega arith, refl, sym (append-nil h.phases))
place_spends h a false = (refl, refl, sym (append-nil h.phases))

-- the placed array has the shape that it is to have
placed_shape : (n : ℕ) (others : ℕ → ℕ) (h : Heap) (a b : ArrayValue) (small : Bool) → Matches n others h (one_value (place_as small a) h) (Ok (b ∷ [])) → a.shape ≡ b.shape
placed_shape n others h a b true r = ap (λ ws. (first_result ws).shape) r.1
placed_shape n others h a b false r = ap (λ ws. (first_result ws).shape) r.1

placed_done : (n : ℕ) (others : ℕ → ℕ) (h : Heap) (a : ArrayValue) (small : Bool) (s : Site) (k : FaultKind) → Matches n others h (one_value (place_as small a) h) (Err (record { kind = k; site = s })) → ⊥
placed_done n others h a true s k r = r
placed_done n others h a false s k r = r

ended_spends : (n : ℕ) (others : ℕ → ℕ) (h : Heap) (s : Site) (x y : Result ArrayValue FaultKind) → Matches n others h (one_value (then_go (pure_end (at_site s x)) place_value) h) (one (at_site s y)) → Spent (after y placing) h (one_value (then_go (pure_end (at_site s x)) place_value) h)
ended_spends n others h s (Ok a) (Ok b) r =
    subst (λ shape. Spent (record { taken = buffers_of shape; phases = [] }) h (one_value (place_as (is_small a.shape) a) h)) (placed_shape n others h a b (is_small a.shape) r)
    (place_spends h a (is_small a.shape))
ended_spends n others h s (Err k) (Err l) r = sym (append-nil h.phases)
ended_spends n others h s (Ok a) (Err l) r = elim (placed_done n others h a (is_small a.shape) s l r) [ ]
ended_spends n others h s (Err k) (Ok b) r = elim r [ ]

checked_spends : (h : Heap) (s : Site) (v : Value) (fits : Bool) → Spent nothing h (one_value (then_go (pure_end (at_site s (if fits then Ok (read h v) else Err F7))) (λ a. give v)) h)
checked_spends h s v true = spent_nothing h (v ∷ [])
checked_spends h s v false = sym (append-nil h.phases)

-- ---- loops

-- values whose references are counted read the same where counted buffers keep their cells
values_same : (h k : Heap) (others : ℕ → ℕ) (vs : List Value) → SameCells (λ b. held b vs + others b) h k → map (read k) vs ≡ map (read h) vs
values_same h k others [] same = refl
values_same h k others (v ∷ vs) same =
    λ i. backed_reads (λ b. held b (v ∷ vs) + others b) h k v (λ b. omega arith) same i ∷ values_same h k (λ b. held b (v ∷ []) + others b) vs (λ b le. same b (omega (arith, le))) i

-- a test, whose value is read and released, and what goes on by it
after_test : (others : ℕ → ℕ) (k : Heap) (vs : List Value) (site : Site) (more done : Doing (List Value)) (s : Spending) (rest : List ArrayValue → Spending) (t : Ended (List Value)) (ta : Answer) → Matches 1 (λ b. held b vs + others b) k t ta → Spent s k t → ((k2 : Heap) → Owns k2 vs others → SameCells (λ b. held b vs + others b) k k2 → Spent (rest (map (read k2) vs)) k2 (more k2) × Spent nothing k2 (done k2)) → Spent (both s (after (first ta) (λ c. choice (condition c) (rest (map (read k) vs)) nothing))) k (go_on (go_on t (λ us. give (first_of us))) (λ c. tested site c more done))
after_test others k vs site more done s rest (Failed f q) (Err g) r p go = subst (λ (x : Spending). q ≡ k.phases ++ x.phases) (sym (both_nothing s)) p
after_test others k vs site more done s rest (Failed f q) (Ok ws) r p go = elim r [ ]
after_test others k vs site more done s rest (Done us k1) (Err g) r p go = elim r [ ]
after_test others k vs site more done s rest (Done [] k1) (Ok ws) r p go = elim (zero_not_suc r.0) [ ]
after_test others k vs site more done s rest (Done (u ∷ (w ∷ us)) k1) (Ok ws) r p go = elim (zero_not_suc (sym (suc_same r.0))) [ ]
after_test others k vs site more done s rest (Done (u ∷ []) k1) (Ok ws) r p go =
    let counts : ℕ → ℕ = (λ b. held b vs + others b) in
    let owns1 : Owns k1 (u ∷ vs) others = ((λ b. (let o = r.2.0 b in omega (arith, o))), r.2.1) in
    let k2 : Heap = release u k1 in
    let same : SameCells counts k k2 = (λ b le. released_same k1 u vs others owns1 b le ∙ r.3 b le) in
    let two = go k2 (released_owns k1 u vs others owns1) same in
    let c = condition (read k1 u) in
    let here = spent_from (choice c (rest (map (read k2) vs)) nothing) k1 k2 (choose_does site c more done k2) (release_spends u k1) (chosen_spends k2 site c more done (rest (map (read k2) vs)) nothing two.0 two.1) in
    subst (λ xs. Spent (both s (after (first (Ok xs)) (λ a. choice (condition a) (rest (map (read k) vs)) nothing))) k (choose_does site c more done k2)) r.1
    (subst (λ xs. Spent (both s (choice c (rest xs) nothing)) k (choose_does site c more done k2)) (values_same k k2 others vs same)
    (spent_both s (choice c (rest (map (read k2) vs)) nothing) k k1 (u ∷ []) (choose_does site c more done k2) p here))

-- where nothing follows
none_follows : (s : Spending) (a : Answer) → both s (after (first a) (λ c. choice (condition c) nothing nothing)) ≡ s
none_follows s (Err f) = both_nothing s
none_follows s (Ok ws) = ap (both s) (neither (condition (first_result ws))) ∙ both_nothing s
  where
    neither : (d : Option Bool) → choice d nothing nothing ≡ nothing
    neither None = refl
    neither (Some true) = refl
    neither (Some false) = refl

module _ (m : ℕ) (others : ℕ → ℕ) (h : Heap) (site test_site : Site) (test body : List Value → Doing (List Value)) (core_test core_body : List ArrayValue → Answer) (test_spends body_spends : List ArrayValue → Spending) where
  abbrev first_test : List Value → Doing Value
  first_test ws = first_value (test ws)

  abbrev tries : Step ArrayValue
  tries = record { value = λ ws. first (core_test ws); spends = test_spends }

  abbrev turns_on : Step (List ArrayValue)
  turns_on = record { value = core_body; spends = body_spends }

  -- in each heap that keeps the cells of what others hold, a turn's test and body do what they mean and spend what they are to
  abbrev pub TestSpends : Type 0
  TestSpends =
      (k : Heap) (vs : List Value) → SameCells others h k → length vs ≡ m → Owns k vs others → Matches 1 (λ b. held b vs + others b) k (test vs k) (core_test (map (read k) vs)) × Spent (test_spends (map (read k) vs)) k (test vs k)

  abbrev pub BodySpends : Type 0
  BodySpends =
      (k : Heap) (vs : List Value) → SameCells others h k → length vs ≡ m → Owns k vs others → Matches m others k (body vs k) (core_body (map (read k) vs)) × Spent (body_spends (map (read k) vs)) k (body vs k)

  repeat_spent : TestSpends → BodySpends → (n : ℕ) (k : Heap) (vs : List Value) → SameCells others h k → length vs ≡ m → Owns k vs others → Spent (repeat_spends n tries turns_on (map (read k) vs)) k (repeat_does n site test_site first_test body vs k)
  repeat_spent tests bodies zero k vs same size owns =
      let t = tests k vs same size owns in
      subst (λ s. Spent s k (repeat_does zero site test_site first_test body vs k)) (none_follows (test_spends (map (read k) vs)) (core_test (map (read k) vs)))
      (after_test others k vs test_site (fails F9 site) (give vs) (test_spends (map (read k) vs)) (λ ws. nothing) (test vs k) (core_test (map (read k) vs)) t.0 t.1
      (λ k2 o s. (sym (append-nil k2.phases), spent_nothing k2 vs)))
  repeat_spent tests bodies (suc n) k vs same size owns =
      let t = tests k vs same size owns in
      after_test others k vs test_site (then_go (body vs) (repeat_does n site test_site first_test body)) (give vs) (test_spends (map (read k) vs)) (λ ws. both (body_spends ws) (after (core_body ws) (repeat_spends n tries turns_on))) (test vs k) (core_test (map (read k) vs)) t.0 t.1
      (go (λ k2 us s z o. repeat_spent tests bodies n k2 us s z o))
    where
      go : ((k2 : Heap) (us : List Value) → SameCells others h k2 → length us ≡ m → Owns k2 us others → Spent (repeat_spends n tries turns_on (map (read k2) us)) k2 (repeat_does n site test_site first_test body us k2)) → (k2 : Heap) → Owns k2 vs others → SameCells (λ b. held b vs + others b) k k2 → Spent (both (body_spends (map (read k2) vs)) (after (core_body (map (read k2) vs)) (repeat_spends n tries turns_on))) k2 (go_on (body vs k2) (repeat_does n site test_site first_test body)) × Spent nothing k2 (Done vs k2)
      go later k2 o s =
          let here : SameCells others h k2 = (λ b le. s b (omega (arith, le)) ∙ same b le) in
          let b = bodies k2 vs here size o in (
            then_spends m others k2 (body_spends (map (read k2) vs)) (body vs k2) (core_body (map (read k2) vs)) (repeat_does n site test_site first_test body) (repeat_spends n tries turns_on) b.0 b.1 (λ us k3 z o3 s3. later k3 us (λ c le. s3 c le ∙ here c le) z o3),
            spent_nothing k2 vs,
          )

  pub turns_spent : TestSpends → BodySpends → (b : Bool) (n : ℕ) (k : Heap) (vs : List Value) → SameCells others h k → length vs ≡ m → Owns k vs others → Spent (turns_spend b n tries turns_on (map (read k) vs)) k (turns_do b n site test_site first_test body vs k)
  turns_spent tests bodies false n k vs same size owns = repeat_spent tests bodies n k vs same size owns
  turns_spent tests bodies true n k vs same size owns =
      let b = bodies k vs same size owns in
      then_spends m others k (body_spends (map (read k) vs)) (body vs k) (core_body (map (read k) vs)) (repeat_does (n - 1) site test_site first_test body) (repeat_spends (n - 1) tries turns_on) b.0 b.1
      (λ us k3 z o3 s3. repeat_spent tests bodies (n - 1) k3 us (λ c le. s3 c le ∙ same c le) z o3)

-- ---- steps and right sides

module _ (c : Context) where
  abbrev run_in : CodeTerm → Env → Answer
  run_in t ρ = run c.calls c.turns (core_of t) ρ

  abbrev right_in : CodeRightTerm → Site → Env → Answer
  right_in r s ρ = right_value c.calls c.turns (core_of_right r) s ρ

  abbrev pub spends_in : CodeTerm → Env → Spending
  spends_in t ρ = spends c.calls c.turns c.call_spends t ρ

  abbrev pub right_spends_in : CodeRightTerm → Site → Env → Spending
  right_spends_in r s ρ = right_spends c.calls c.turns c.call_spends r s ρ

  abbrev does_in : CodeTerm → Values → Doing (List Value)
  does_in t e = does c.does_calls c.turns t e

  abbrev right_does_in : CodeRightTerm → Site → Values → Doing (List Value)
  right_does_in r s e = right_does c.does_calls c.turns r s e

  abbrev pub Means : CodeTerm → Type 0
  Means t = BlockMatches c.results_of c.does_calls c.calls c.turns t

  -- a block spends what it spends on arrays
  abbrev pub BlockSpends : CodeTerm → Type 0
  BlockSpends t =
      (n : ℕ) (outer refs : List Var) → Counted c.results_of n outer refs t → (h : Heap) (e : Values) (ρ : Env) (others : ℕ → ℕ) → Ready h e ρ others outer refs → Spent (spends_in t ρ) h (does_in t e h)

  -- and so does a right side
  abbrev pub RightSpends : CodeRightTerm → Type 0
  RightSpends r =
      (n : ℕ) (outer mine later : List Var) → CountedRight c.results_of n outer mine later r → (s : Site) (h : Heap) (e : Values) (ρ : Env) (others : ℕ → ℕ) → Ready h e ρ others (later ++ outer) mine → Spent (right_spends_in r s ρ) h (right_does_in r s e h)

  pub giving_spends : (xs : List Var) → BlockSpends (Giving xs)
  giving_spends xs n outer refs counted h e ρ others ready = spent_nothing h (map e xs)

  pub keeping_spends : (x : Var) (t : CodeTerm) → BlockSpends t → BlockSpends (Keeping x t)
  keeping_spends x t rest n outer refs counted h e ρ others ready =
      spent_from (spends_in t ρ) h (keep (e x) h) (does_in t e (keep (e x) h)) (keep_spends (e x) h)
      (rest n outer (x ∷ refs) counted.1 (keep (e x) h) e ρ others (kept_ready h e ρ others outer refs x ready counted.0))

  pub releasing_spends : (x : Var) (t : CodeTerm) → BlockSpends t → BlockSpends (Releasing x t)
  releasing_spends x t rest n outer refs counted h e ρ others ready =
      spent_from (spends_in t ρ) h (release (e x) h) (does_in t e (release (e x) h)) (release_spends (e x) h)
      (rest n outer counted.0 counted.2 (release (e x) h) e ρ others (released_ready h e ρ others outer refs counted.0 x ready counted.1).1)

  pub binding_spends : (xs : List Var) (s : Site) (r : CodeRightTerm) (t : CodeTerm) → RightMatches c.results_of c.does_calls c.calls c.turns r → RightSpends r → BlockSpends t → BlockSpends (Binding xs s r t)
  binding_spends xs s r t means right rest n outer refs counted h e ρ others ready =
      let mine = counted.0 in
      let later = counted.1 in
      let ready' = right_ready h e ρ others outer refs mine later ready counted.2 in
      then_spends (length xs) (staying e later others) h (right_spends_in r s ρ) (right_does_in r s e h) (right_in r s ρ) (λ vs. does_in t (bind_values e xs vs)) (λ ws. spends_in t (bind_all ρ xs ws))
      (means (length xs) outer mine later counted.3 s h e ρ (staying e later others) ready')
      (right (length xs) outer mine later counted.3 s h e ρ (staying e later others) ready')
      (λ vs k size owns same. rest n outer (xs ++ later) counted.6 k (bind_values e xs vs) (bind_all ρ xs (map (read k) vs)) others
      (rest_ready h k e ρ others outer mine later xs vs ready' ready.backed size counted.4 (none_front xs later outer counted.5) (none_back xs later outer counted.5) owns same))

  module _ (p : PlainTerm) (reading : (s : Site) (e : Values) (h : Heap) → plain_does p s e h ≡ then_go (pure_end (at_site s (plain_value p (reads h e)))) place_value h) (placed : (ρ : Env) → plain_spends p ρ ≡ after (plain_value p ρ) placing) where
    reading_spends : RightSpends (PlainCode p)
    reading_spends n outer mine later counted s h e ρ others ready =
        subst (λ x. Spent x h (one_value (plain_does p s e) h)) (sym (placed ρ))
        (subst (λ m. Spent (after (plain_value p ρ) placing) h (go_on m (λ v. give (v ∷ [])))) (sym (reading s e h))
        (ended_spends n others h s (plain_value p (reads h e)) (plain_value p ρ)
        (subst (λ m. Matches n others h (go_on m (λ v. give (v ∷ []))) (one (at_site s (plain_value p ρ)))) (reading s e h) (plain_matches c.results_of c.does_calls c.calls c.turns p n outer mine later counted s h e ρ others ready))))

  always_spends : (k : FaultKind) → RightSpends (PlainCode (PlainTerm.Always k))
  always_spends k n outer mine later counted s h e ρ others ready = sym (append-nil h.phases)

  copy_spends : (x : Var) → RightSpends (PlainCode (PlainTerm.Copy x))
  copy_spends x n outer mine later counted s h e ρ others ready = spent_nothing h (e x ∷ [])

  check_spends : (x : Var) (t : ArrayType) → RightSpends (PlainCode (PlainTerm.Check x t))
  check_spends x t n outer mine later counted s h e ρ others ready = checked_spends h s (e x) (has t (read h (e x)))

  pub right_plain_spends : (p : PlainTerm) → RightSpends (PlainCode p)
  right_plain_spends (PlainTerm.Const a) = reading_spends (PlainTerm.Const a) (λ s e h. refl) (λ ρ. refl)
  right_plain_spends (PlainTerm.Unary op x) = reading_spends (PlainTerm.Unary op x) (λ s e h. refl) (λ ρ. refl)
  right_plain_spends (PlainTerm.Binary op x y) = reading_spends (PlainTerm.Binary op x y) (λ s e h. refl) (λ ρ. refl)
  right_plain_spends (PlainTerm.Literal xs) = reading_spends (PlainTerm.Literal xs) (λ s e h. refl) (λ ρ. refl)
  right_plain_spends (PlainTerm.Dim x) = reading_spends (PlainTerm.Dim x) (λ s e h. refl) (λ ρ. refl)
  right_plain_spends (PlainTerm.ShapeOf x) = reading_spends (PlainTerm.ShapeOf x) (λ s e h. refl) (λ ρ. refl)
  right_plain_spends (PlainTerm.Reshape x y) = reading_spends (PlainTerm.Reshape x y) (λ s e h. refl) (λ ρ. refl)
  right_plain_spends (PlainTerm.Select x y) = reading_spends (PlainTerm.Select x y) (λ s e h. refl) (λ ρ. refl)
  right_plain_spends (PlainTerm.Replace x y z) = reading_spends (PlainTerm.Replace x y z) (λ s e h. refl) (λ ρ. refl)
  right_plain_spends (PlainTerm.Always k) = always_spends k
  right_plain_spends (PlainTerm.Copy x) = copy_spends x
  right_plain_spends (PlainTerm.Check x t) = check_spends x t

  pub if_spends : (x : Var) (a b : CodeTerm) → BlockSpends a → BlockSpends b → RightSpends (IfCode x a b)
  if_spends x a b first_branch second_branch n outer mine later counted s h e ρ others ready =
      subst (λ w. Spent (choice (condition w) (spends_in a ρ) (spends_in b ρ)) h (right_does_in (IfCode x a b) s e h)) (shown_at h e ρ x (mine ++ (later ++ outer)) ready.shows counted.0)
      (chosen_spends h s (condition (read h (e x))) (does_in a e) (does_in b e) (spends_in a ρ) (spends_in b ρ)
      (first_branch n (later ++ outer) mine counted.1 h e ρ others ready) (second_branch n (later ++ outer) mine counted.2 h e ρ others ready))

  pub call_spends : (g : ℕ) (xs : List Var) → RightSpends (CallCode g xs)
  call_spends g xs n outer mine later counted s h e ρ others ready =
      let values = shows_values h e ρ xs (shows_reordered h e ρ counted.1 (shows_front h e ρ mine (later ++ outer) ready.shows)) in
      let owns : Owns h (map e xs) others = ((λ b. ready.owns.0 b ∙ ap (λ m. m + others b) (held_reordered b e counted.1)), ready.owns.1) in
      subst (λ ws. Spent (c.call_spends g ws) h (c.does_calls g (map e xs) s h)) values (c.spending g (map e xs) s h others owns)

  pub loop_spends : (b : Bool) (start params : List Var) (test body : CodeTerm) (u : Site) → Means test → BlockSpends test → Means body → BlockSpends body → RightSpends (LoopCode b start params test body u)
  loop_spends b start params test body u tests_mean tests bodies_mean bodies n outer mine later counted s h e ρ others ready =
      let rest = shows_back h e ρ mine (later ++ outer) ready.shows in
      let values = shows_values h e ρ start (shows_reordered h e ρ counted.4 (shows_front h e ρ mine (later ++ outer) ready.shows)) in
      let owns : Owns h (map e start) others = ((λ a. ready.owns.0 a ∙ ap (λ m. m + others a) (held_reordered a e counted.4)), ready.owns.1) in
      subst (λ ws. Spent (turns_spend b c.turns (record { value = λ vs. first (run_in test (bind_all ρ params vs)); spends = λ vs. spends_in test (bind_all ρ params vs) }) (record { value = λ vs. run_in body (bind_all ρ params vs); spends = λ vs. spends_in body (bind_all ρ params vs) }) ws) h (right_does_in (LoopCode b start params test body u) s e h)) values
      (turns_spent n others h s u (λ vs. does_in test (bind_values e params vs)) (λ vs. does_in body (bind_values e params vs)) (λ vs. run_in test (bind_all ρ params vs)) (λ vs. run_in body (bind_all ρ params vs)) (λ vs. spends_in test (bind_all ρ params vs)) (λ vs. spends_in body (bind_all ρ params vs))
      (λ k vs same size o.
      (let ready' = test_ready k e ρ others (later ++ outer) params vs ready.backed (backed_shows others h k e ρ (later ++ outer) ready.backed same rest) (size ∙ sym counted.1) counted.2 counted.3 o in (
        tests_mean 1 (params ++ (later ++ outer)) [] counted.5 k (bind_values e params vs) (bind_all ρ params (map (read k) vs)) (λ a. held a vs + others a) ready',
        tests 1 (params ++ (later ++ outer)) [] counted.5 k (bind_values e params vs) (bind_all ρ params (map (read k) vs)) (λ a. held a vs + others a) ready',
      )))
      (λ k vs same size o.
      (let ready' = turn_ready k e ρ others (later ++ outer) params vs ready.backed (backed_shows others h k e ρ (later ++ outer) ready.backed same rest) (size ∙ sym counted.1) counted.2 counted.3 o in (
        bodies_mean n (later ++ outer) params counted.6 k (bind_values e params vs) (bind_all ρ params (map (read k) vs)) others ready',
        bodies n (later ++ outer) params counted.6 k (bind_values e params vs) (bind_all ρ params (map (read k) vs)) others ready',
      )))
      b c.turns h (map e start) (λ a le. refl) (length_map e start ∙ counted.0) owns)
