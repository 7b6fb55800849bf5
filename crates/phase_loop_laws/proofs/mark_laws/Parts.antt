-- Parted loops, marked or not, do what their core means, where marks are right.
use Rattle.std.proofs.Common.{◌≡◌, ℕ, zero, suc, ◌+◌, ◌<◌, ◌≤◌, Bool, true, false, true≢false, cond, eqb, List, [], ◌∷◌, ◌++◌, map, length, get_or, ℤ, Option, Some, None, Ok, refl, ap, ◌∙◌, sym, subst, arith}
use Rattle.std.specs.Prelude.{if◌then◌else◌, Contains}
use Rattle.std.specs.List.{flat_map}
use Rattle.std.proofs.lemmas.Bool.{eq-eqb}
use Rattle.sac_base.specs.declared.base.Base.{Base}
use Rattle.sac_base.specs.declared.base.Base.TheVariants.{Int}
use Rattle.sac_base.specs.declared.faults.FaultKind.TheVariants.{F6}
use Rattle.sac_base.specs.declared.form.Form.{Form}
use Rattle.sac_base.specs.declared.grid.Grid1.{Grid1}
use Rattle.sac_base.specs.Arrays.{ArrayValue, IsFull, size, vector}
use Rattle.sac_base.specs.Grids.{has_vector, members}
use Rattle.sac_base.specs.Outcomes.{Ends, and_then, fault}
use Rattle.sac_base.specs.Parts.{select}
use Rattle.sac_base.specs.Places.{vector_at}
use Rattle.sac_base.specs.WithLoops.{each}
use Rattle.core_ir.specs.declared.tree.Var.{Var}
use Rattle.core_ir.specs.declared.tree.PartedOp.{PartedOp}
use Rattle.core_ir.specs.declared.tree.PartedOp.TheVariants as parted
use Rattle.core_ir.specs.Binders.{is_in}
use Rattle.core_ir.specs.Scopes.{AllIn, parted_uses}
use Rattle.core_ir.specs.Terms.{PartHead}
use Rattle.core_ir.specs.Meaning.{Env, CallMeaning, one, first, bind, cell_form, cell_at, elements_of, extents, run, cells, neutral_fits, made_of, right_value}
use Rattle.core_ir.specs.Meaning as core
use Rattle.core_ir.specs.WellFormed.{part_grids}
use Rattle.core_ir.proofs.Variables.{same_number}
use Rattle.core_loops.specs.Pairs.{Makes}
use Rattle.counted_code.specs.Terms.{CodeTerm, CodePartsTerm, PartedCode, NoCodeParts, PartCode, core_of, core_of_right, core_of_parts}
use Rattle.counted_code.specs.Values.{Heap, Small, Ref, give, go_on, pure_end, read, cells_of}
use Rattle.counted_code.specs.Loops.{Job, CodeCells, part_holder, job_does}
use Rattle.counted_code.specs.Machine.{Values, DoesCalls, first_value, bind_value, does, right_does, code_cells}
use Rattle.counted_code.specs.Counts.{Reordered, Counted, CountedParts}
use Rattle.counted_laws.proofs.placing.Orders.{reversed}
use Rattle.counted_laws.specs.Simulation.{refers, held, Owns, AllBacked, Shows, SameCells, Matches, MatchesOne}
use Rattle.counted_laws.proofs.Held.{held_reordered, shows_reordered, shows_front, shows_back, shows_both, all_backed_more, self_backed, backed_both, backed_reads, backed_shows}
use Rattle.counted_laws.proofs.Bound.{turn_ready}
use Rattle.counted_laws.proofs.Plains.{owns_none}
use Rattle.counted_laws.proofs.Cells.{Linked, AlwaysLinked, job_matches}
use Rattle.counted_laws.proofs.Loops.{first_matches, job_same, parted_of, same_length, no_elements}
use Rattle.phase_loop_laws.specs.mark_laws.Alike.{AlikeAt}
use Rattle.phase_loop_laws.specs.mark_laws.Holds.{MarksHold, MarksHoldParts, MarksHoldOver}
use Rattle.phase_loop_laws.proofs.mark_laws.Blocks.{RightDoes, BlockDoes}
use Rattle.phase_loop_laws.proofs.mark_laws.Jobs.{CanTakeOver, marked_job}
use Rattle.phase_loop_laws.proofs.mark_laws.Over.{holding, OwnIs, LinkedOver}
use Rattle.phase_loop_laws.proofs.mark_laws.Places.{frame_from, frame_size, place_inside, own_element}

-- each part's body does what it means
abbrev pub PartsDo : (results_of : ℕ → ℕ) (does_calls : DoesCalls) (calls : CallMeaning) (turns : ℕ) → CodePartsTerm → Type 0
PartsDo results_of does_calls calls turns NoCodeParts = Unit {0}
PartsDo results_of does_calls calls turns (PartCode g b rest) = BlockDoes results_of does_calls calls turns b × PartsDo results_of does_calls calls turns rest

-- ---- jobs

-- a loop that makes an array puts its cells one after another
all_joined : (f : List Grid1) (b : Base) (c : List ℕ) (op : PartedOp) (e : Env) → Makes op → (found : List (Option ArrayValue)) → (made_of f b c op e found).cells ≡ flat_map elements_of found
all_joined f b c parted.Genarray e makes found = refl
all_joined f b c (parted.Modarray x) e makes found = refl
all_joined f b c (parted.Fold op x) e makes found = elim makes [ ]

-- ---- grids

-- the index lies in one of the grids
abbrev IsHeld : List (List Grid1) → List ℤ → Type 0
IsHeld grids index = (g : List Grid1) × (Contains grids g × (has_vector g index ≡ true))

none_held : (index : List ℤ) → IsHeld [] index → ⊥
none_held index held = let lt = held.1.0.1 in omega (arith, lt)

held_later : (g : List Grid1) (grids : List (List Grid1)) (index : List ℤ) → has_vector g index ≡ false → IsHeld (g ∷ grids) index → IsHeld grids index
held_later g grids index outside held = go held.1.0.0 held.1.0.1 held.1.0.2
  where
    both : {b : Bool} → b ≡ true → b ≡ false → ⊥
    both p q = true≢false (sym p ∙ q)

    go : (i : ℕ) → i < length (g ∷ grids) → get_or (g ∷ grids) i held.0 ≡ held.0 → IsHeld grids index
    go zero lt is = absurd (both held.1.1 (ap (λ c. has_vector c index) (sym is) ∙ outside))
    go (suc i) lt is = (held.0, ((i, omega (arith, lt), is), held.1.1))

module _ (results_of : ℕ → ℕ) (does_calls : DoesCalls) (calls : CallMeaning) (turns : ℕ) (h : Heap) (e : Values) (ρ : Env) where
  -- ---- bodies in heaps that keep what others hold

  module _ (others : ℕ → ℕ) (live : List Var) (backed : AllBacked others e live) (shows : Shows h e ρ live) where
    part_runs : (g : PartHead) (b : CodeTerm) → BlockDoes results_of does_calls calls turns b → is_in g.index live ≡ false → Counted results_of 1 live (g.index ∷ []) b → (v : List ℤ) → MarksHold calls turns b (bind ρ g.index (vector Int v))
        → (held_by : ℕ → ℕ) → ((c : ℕ) → others c ≤ held_by c) → (k : Heap) → Owns k [] held_by → SameCells others h k → MatchesOne held_by k (first_value (does does_calls turns b (bind_value e g.index (Small (vector Int v)))) k) (first (run calls turns (core_of b) (bind ρ g.index (vector Int v))))
    part_runs g b block fresh counted v marks held_by fewer k owns same =
        first_matches held_by k (does does_calls turns b (bind_value e g.index (Small (vector Int v))) k) (run calls turns (core_of b) (bind ρ g.index (vector Int v)))
        (block 1 live (g.index ∷ []) counted k (bind_value e g.index (Small (vector Int v))) (bind ρ g.index (vector Int v)) held_by
        (turn_ready k e ρ held_by live (g.index ∷ []) (Small (vector Int v) ∷ []) (all_backed_more e live others held_by fewer backed) (backed_shows others h k e ρ live backed same shows) refl (refl, tt) (fresh, tt) ((λ c. (let o = owns.0 c in omega (arith, o))), owns.1)) marks)

    pub parts_linked : (parts : CodePartsTerm) → PartsDo results_of does_calls calls turns parts → CountedParts results_of live parts → MarksHoldParts calls turns parts ρ → (base : Base) (cell : List ℕ) (v : List ℤ) → AlwaysLinked others h (record { base = base; shape = cell }) (part_holder (code_cells does_calls turns parts e) v) (cell_at (cell_form base cell) (cells calls turns (core_of_parts parts) ρ) v)
    parts_linked NoCodeParts blocks counted marks base cell v held_by fewer = refl
    parts_linked (PartCode g b rest) blocks counted marks base cell v held_by fewer = go (has_vector g.grid v) refl (parts_linked rest blocks.1 counted.2 marks.1 base cell v held_by fewer)
      where
        go : (inside : Bool) → has_vector g.grid v ≡ inside → Linked held_by others fewer h (record { base = base; shape = cell }) (part_holder (code_cells does_calls turns rest e) v) (cell_at (cell_form base cell) (cells calls turns (core_of_parts rest) ρ) v)
            → Linked held_by others fewer h (record { base = base; shape = cell }) (if inside then Some (record { cell = first_value (does does_calls turns b (bind_value e g.index (Small (vector Int v)))); site = g.site }) else part_holder (code_cells does_calls turns rest e) v) (if inside then and_then (first (run calls turns (core_of b) (bind ρ g.index (vector Int v)))) (core.held (cell_form base cell) g.site) else cell_at (cell_form base cell) (cells calls turns (core_of_parts rest) ρ) v)
        go true q l = (first (run calls turns (core_of b) (bind ρ g.index (vector Int v))), refl, part_runs g b blocks.0 counted.0 counted.1 v (marks.0 v q) held_by fewer)
        go false q l = l

  -- ---- bodies in heaps where the array is written over

  module _ (others : ℕ → ℕ) (v : Var) (mine rest : List Var) (order : Reordered mine (v ∷ [])) (backed : AllBacked others e rest) (shows : Shows h e ρ (mine ++ rest)) where
    array_shown : read h (e v) ≡ ρ v
    array_shown = (shows_reordered h e ρ order (shows_front h e ρ mine rest shows)).0

    -- the array's buffer has as many cells as its shape says
    pub array_long : (buffer : ℕ) (base : Base) (shape : List ℕ) → e v ≡ Ref buffer base shape → IsFull (ρ v) → length (cells_of h buffer) ≡ size (ρ v).shape
    array_long buffer base shape is full = ap (λ (a : ArrayValue). length a.cells) (sym (ap (read h) is) ∙ array_shown) ∙ full

    module _ (buffer : ℕ) (base : Base) (shape : List ℕ) (is : e v ≡ Ref buffer base shape) (vacant : others buffer ≡ 0) where
      all_backed : AllBacked (holding buffer others vacant) e (mine ++ rest)
      all_backed =
          backed_both (holding buffer others vacant) e mine rest
          (all_backed_more e mine (λ b. held b (map e mine)) (holding buffer others vacant) (λ b. (let o = held_reordered b e order in let r = ap (refers b) is in omega (arith, o, r))) (self_backed e mine))
          (all_backed_more e rest others (holding buffer others vacant) (λ b. omega arith) backed)

      module _ (k : Heap) (same : SameCells others h k) where
        -- what the variables show while the array is written over
        abbrev now : Env
        now y = cond (eqb v.0 y.0) (read k (e v)) (ρ y)

        rest_shown : (xs : List Var) → AllBacked others e xs → Shows h e ρ xs → Shows k e now xs
        rest_shown [] back s = tt
        rest_shown (x ∷ xs) back s = (go (eqb v.0 x.0) refl, rest_shown xs back.1 s.1)
          where
            go : (b : Bool) → eqb v.0 x.0 ≡ b → read k (e x) ≡ cond b (read k (e v)) (ρ x)
            go true p = ap (λ y. read k (e y)) (sym (same_number v x p))
            go false p = backed_reads others h k (e x) back.0 same ∙ s.0

        all_shown : Shows k e now (mine ++ rest)
        all_shown =
            shows_both k e now mine rest
            (shows_reordered k e now (reversed order) (sym (ap (λ b. cond b (read k (e v)) (ρ v)) (eq-eqb v.0 v.0 refl)), tt))
            (rest_shown rest backed (shows_back h e ρ mine rest shows))

      module _ (ns : List ℕ) (is_shape : (ρ v).shape ≡ ns) (form : Form) (is_scalar : form.shape ≡ []) where
        same_element : (k : Heap) (p : ℕ) (index : List ℤ) → p < size ns → index ≡ vector_at ns p → OwnIs buffer others vacant h ns form is_scalar p k → select (read k (e v)) (vector Int index) ≡ select (ρ v) (vector Int index)
        same_element k p index lt at own =
            let sh : shape ≡ ns = sym (ap (λ (a : ArrayValue). a.shape) (ap (read h) is)) ∙ ap (λ (a : ArrayValue). a.shape) array_shown ∙ is_shape in
            (λ i. select (read k (is i)) (vector Int index))
            ∙ (λ i. select (record { base = base; shape = sh i; cells = cells_of k buffer }) (vector Int index))
            ∙ own_element base ns p index (cells_of k buffer) (cells_of h buffer) lt at own
            ∙ sym (λ i. select (record { base = base; shape = sh i; cells = cells_of h buffer }) (vector Int index))
            ∙ sym (λ i. select (read h (is i)) (vector Int index))
            ∙ (λ i. select (array_shown i) (vector Int index))

        is_alike : (k : Heap) (same : SameCells others h k) (g : PartHead) (p : ℕ) (index : List ℤ) → p < size ns → index ≡ vector_at ns p → OwnIs buffer others vacant h ns form is_scalar p k
            → AlikeAt v index (bind ρ g.index (vector Int index)) (bind (now k same) g.index (vector Int index))
        is_alike k same g p index lt at own = record {
          others = λ y n i. cond (eqb g.index.0 y.0) (vector Int index) (cond (n i) (read k (e v)) (ρ y));
          element = go (eqb g.index.0 v.0);
        }
          where
            go : (b : Bool) → select (cond b (vector Int index) (cond (eqb v.0 v.0) (read k (e v)) (ρ v))) (vector Int index) ≡ select (cond b (vector Int index) (ρ v)) (vector Int index)
            go true = refl
            go false = ap (λ b. select (cond b (read k (e v)) (ρ v)) (vector Int index)) (eq-eqb v.0 v.0 refl) ∙ same_element k p index lt at own

        pub over_linked : (parts : CodePartsTerm) → PartsDo results_of does_calls calls turns parts → CountedParts results_of (mine ++ rest) parts → MarksHoldOver calls turns v parts ρ → (p : ℕ) (index : List ℤ) → p < size ns → index ≡ vector_at ns p → IsHeld (part_grids (core_of_parts parts)) index
            → LinkedOver buffer others vacant h ns form is_scalar p (part_holder (code_cells does_calls turns parts e) index) (cell_at (cell_form form.base form.shape) (cells calls turns (core_of_parts parts) ρ) index)
        over_linked NoCodeParts blocks counted marks p index lt at held = absurd (none_held index held)
        over_linked (PartCode g b behind) blocks counted marks p index lt at held =
            go (has_vector g.grid index) refl (λ outside. over_linked behind blocks.1 counted.2 marks.1 p index lt at (held_later g.grid (part_grids (core_of_parts behind)) index outside held))
          where
            runs : has_vector g.grid index ≡ true → (k : Heap) → Owns k [] (holding buffer others vacant) → SameCells others h k → OwnIs buffer others vacant h ns form is_scalar p k
                → MatchesOne (holding buffer others vacant) k (first_value (does does_calls turns b (bind_value e g.index (Small (vector Int index)))) k) (first (run calls turns (core_of b) (bind ρ g.index (vector Int index))))
            runs q k owns same own =
                let held_by = holding buffer others vacant in
                let env : Env = bind (now k same) g.index (vector Int index) in
                let both = (marks.0 index q).0 env (is_alike k same g p index lt at own) in
                subst (λ a. MatchesOne held_by k (first_value (does does_calls turns b (bind_value e g.index (Small (vector Int index)))) k) (first a)) both.0
                (first_matches held_by k (does does_calls turns b (bind_value e g.index (Small (vector Int index))) k) (run calls turns (core_of b) env)
                (blocks.0 1 (mine ++ rest) (g.index ∷ []) counted.1 k (bind_value e g.index (Small (vector Int index))) env held_by
                (turn_ready k e (now k same) held_by (mine ++ rest) (g.index ∷ []) (Small (vector Int index) ∷ []) all_backed (all_shown k same) refl (refl, tt) (counted.0, tt) ((λ c. (let o = owns.0 c in omega (arith, o))), owns.1)) both.1))

            go : (inside : Bool) → has_vector g.grid index ≡ inside
                → (has_vector g.grid index ≡ false → LinkedOver buffer others vacant h ns form is_scalar p (part_holder (code_cells does_calls turns behind e) index) (cell_at (cell_form form.base form.shape) (cells calls turns (core_of_parts behind) ρ) index))
                → LinkedOver buffer others vacant h ns form is_scalar p (if inside then Some (record { cell = first_value (does does_calls turns b (bind_value e g.index (Small (vector Int index)))); site = g.site }) else part_holder (code_cells does_calls turns behind e) index)
                (if inside then and_then (first (run calls turns (core_of b) (bind ρ g.index (vector Int index)))) (core.held (cell_form form.base form.shape) g.site) else cell_at (cell_form form.base form.shape) (cells calls turns (core_of_parts behind) ρ) index)
            go true q l = (first (run calls turns (core_of b) (bind ρ g.index (vector Int index))), refl, (marks.0 index q).1, runs q)
            go false q l = l q

-- ---- parted loops

module _ (results_of : ℕ → ℕ) (does_calls : DoesCalls) (calls : CallMeaning) (turns : ℕ) where
  -- without a mark
  pub parted_does : (f : List Grid1) (b : Base) (c : List ℕ) (op : PartedOp) (parts : CodePartsTerm) → PartsDo results_of does_calls calls turns parts → RightDoes results_of does_calls calls turns (PartedCode f b c op parts None)
  parted_does f b c op parts blocks n outer mine after counted s h e ρ others ready marks =
      let live = after ++ outer in
      let empty = no_elements mine (same_length counted.1) in
      let shows = shows_back h e ρ mine live ready.shows in
      let uses = subst (λ l. AllIn (parted_uses op) (l ++ live)) empty counted.2 in
      let inner = subst (λ l. CountedParts results_of (l ++ live) parts) empty counted.3 in
      subst (λ m. Matches m others h (right_does does_calls turns (PartedCode f b c op parts None) s e h) (right_value calls turns (core_of_right (PartedCode f b c op parts None)) s ρ)) counted.0
      (subst (λ (j : Ends Job). Matches 1 others h (go_on (go_on (pure_end j h) (job_does None)) (λ v. give (v ∷ []))) (right_value calls turns (core_of_right (PartedCode f b c op parts None)) s ρ)) (sym (job_same h e ρ live f b c op (code_cells does_calls turns parts e) s shows uses))
      (go (neutral_fits (cell_form b c) op ρ) (owns_none h e others mine ready.owns counted.1) (λ v. parts_linked results_of does_calls calls turns h e ρ others live ready.backed shows parts blocks inner marks b c v)))
    where
      go : (fits : Bool) → Owns h [] others → ((v : List ℤ) → AlwaysLinked others h (record { base = b; shape = c }) (part_holder (code_cells does_calls turns parts e) v) (cell_at (cell_form b c) (cells calls turns (core_of_parts parts) ρ) v))
          → Matches 1 others h (go_on (go_on (pure_end (if fits then Ok (parted_of f b c op (code_cells does_calls turns parts e) ρ) else fault F6 s) h) (job_does None)) (λ v. give (v ∷ []))) (one (if fits then and_then (each (cell_at (cell_form b c) (cells calls turns (core_of_parts parts) ρ)) (members f)) (λ found. Ok (made_of f b c op ρ found)) else fault F6 s))
      go true owns linked = job_matches (parted_of f b c op (code_cells does_calls turns parts e) ρ) (cell_at (cell_form b c) (cells calls turns (core_of_parts parts) ρ)) h others owns linked
      go false owns linked = refl

  -- a cell over an array that is own as it is
  unchanged : (v : Var) (parts : CodePartsTerm) (ρ : Env) → MarksHoldOver calls turns v parts ρ → MarksHoldParts calls turns parts ρ
  unchanged v NoCodeParts ρ marks = tt
  unchanged v (PartCode g b rest) ρ marks =
      ((λ index q. ((marks.0 index q).0 (bind ρ g.index (vector Int index)) (record { others = λ y n. refl; element = refl })).1), unchanged v rest ρ marks.1)

  -- with a mark
  pub marked_does : (f : List Grid1) (b : Base) (c : List ℕ) (op : PartedOp) (parts : CodePartsTerm) (v : Var) → PartsDo results_of does_calls calls turns parts → RightDoes results_of does_calls calls turns (PartedCode f b c op parts (Some v))
  marked_does f b c op parts v blocks n outer mine after counted s h e ρ others ready marks =
      subst (λ m. Matches m others h (right_does does_calls turns (PartedCode f b c op parts (Some v)) s e h) (right_value calls turns (core_of_right (PartedCode f b c op parts (Some v))) s ρ)) counted.0
      (subst (λ (j : Ends Job). Matches 1 others h (go_on (go_on (pure_end j h) (job_does (Some (e v)))) (λ u. give (u ∷ []))) (right_value calls turns (core_of_right (PartedCode f b c op parts (Some v))) s ρ)) (sym (job_same h e ρ (mine ++ (after ++ outer)) f b c op (code_cells does_calls turns parts e) s ready.shows counted.2))
      (go (neutral_fits (cell_form b c) op ρ)))
    where
      cgs : List CodeCells
      cgs = code_cells does_calls turns parts e

      owns : Owns h (e v ∷ []) others
      owns = ((λ d. ready.owns.0 d ∙ ap (λ m. m + others d) (held_reordered d e counted.1)), ready.owns.1)

      backed : AllBacked (λ d. refers d (e v) + others d) e (mine ++ (after ++ outer))
      backed =
          backed_both (λ d. refers d (e v) + others d) e mine (after ++ outer)
          (all_backed_more e mine (λ d. held d (map e mine)) (λ d. refers d (e v) + others d) (λ d. (let o = held_reordered d e counted.1 in omega (arith, o))) (self_backed e mine))
          (all_backed_more e (after ++ outer) others (λ d. refers d (e v) + others d) (λ d. omega arith) ready.backed)

      linked : (index : List ℤ) → AlwaysLinked (λ d. refers d (e v) + others d) h (record { base = b; shape = c }) (part_holder (code_cells does_calls turns parts e) index) (cell_at (cell_form b c) (cells calls turns (core_of_parts parts) ρ) index)
      linked index = parts_linked results_of does_calls calls turns h e ρ (λ d. refers d (e v) + others d) (mine ++ (after ++ outer)) backed ready.shows parts blocks counted.3 (unchanged v parts ρ marks.1) b c index

      taken : (buffer : ℕ) (base : Base) (shape : List ℕ) → e v ≡ Ref buffer base shape → CanTakeOver (parted_of f b c op (code_cells does_calls turns parts e) ρ) (cell_at (cell_form b c) (cells calls turns (core_of_parts parts) ρ)) h others buffer
      taken buffer base shape is =
          let can = marks.0 in
          let long = array_long results_of does_calls calls turns h e ρ others v mine (after ++ outer) counted.1 ready.backed ready.shows buffer base shape is can.full in (
            long ∙ ap size can.shape ∙ sym (frame_size f can.frame_is_box),
            all_joined f b c op ρ can.makes,
            (λ vacant. (
              extents f,
              (
                can.scalars,
                (
                  frame_from f can.frame_is_box,
                  (λ p index lt at.
                      over_linked results_of does_calls calls turns h e ρ others v mine (after ++ outer) counted.1 ready.backed ready.shows buffer base shape is vacant (extents f) can.shape (record { base = b; shape = c }) can.scalars parts blocks counted.3 marks.1 p index lt at
                      (can.covered index (ap (has_vector f) at ∙ place_inside f can.frame_is_box p lt))),
                ),
              ),
            )),
          )

      go : (fits : Bool) → Matches 1 others h (go_on (go_on (pure_end (if fits then Ok (parted_of f b c op (code_cells does_calls turns parts e) ρ) else fault F6 s) h) (job_does (Some (e v)))) (λ u. give (u ∷ []))) (one (if fits then and_then (each (cell_at (cell_form b c) (cells calls turns (core_of_parts parts) ρ)) (members f)) (λ found. Ok (made_of f b c op ρ found)) else fault F6 s))
      go true = marked_job (parted_of f b c op (code_cells does_calls turns parts e) ρ) (cell_at (cell_form b c) (cells calls turns (core_of_parts parts) ρ)) h others (e v) owns linked taken
      go false = refl
