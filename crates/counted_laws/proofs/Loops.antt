-- With-loops and unmarked parted loops do what their core means.
use Rattle.std.proofs.Common.{◌≡◌, ℕ, suc, ◌≤◌, Bool, true, false, cond, eqb, List, [], ◌∷◌, ◌++◌, map, length, ℤ, Option, Some, None, Ok, Err, refl, ap, ◌∙◌, sym, subst, arith}
use Rattle.std.specs.Prelude.{if◌then◌else◌, option_map, option_to_list, fold}
use Rattle.std.proofs.lemmas.Bool.{eq-eqb}
use Rattle.sac_base.specs.declared.base.Base.{Base}
use Rattle.sac_base.specs.declared.base.Base.TheVariants.{Int}
use Rattle.sac_base.specs.declared.faults.FaultKind.TheVariants.{F6}
use Rattle.sac_base.specs.declared.form.Form.{Form}
use Rattle.sac_base.specs.declared.grid.Grid1.{Grid1}
use Rattle.sac_base.specs.declared.op.Op.{Op}
use Rattle.sac_base.specs.declared.site.Site.{Site}
use Rattle.sac_base.specs.Arrays.{ArrayValue, scalar, vector, same_form}
use Rattle.sac_base.specs.Grids.{has_vector, members}
use Rattle.sac_base.specs.Outcomes.{Ends, and_then, fault}
use Rattle.sac_base.specs.WithLoops.{Bounds, Generator, Operation, Plan, Range, plan, holds, held_cell, finish, each, combined}
use Rattle.sac_base.specs.WithLoops as loops
use Rattle.core_ir.specs.declared.tree.Var.{Var}
use Rattle.core_ir.specs.declared.tree.CoreOp.{CoreOp}
use Rattle.core_ir.specs.declared.tree.CoreOp.TheVariants as making
use Rattle.core_ir.specs.declared.tree.PartedOp.{PartedOp}
use Rattle.core_ir.specs.declared.tree.PartedOp.TheVariants as parted
use Rattle.core_ir.specs.Binders.{is_in, NoneIn}
use Rattle.core_ir.specs.Scopes.{AllIn, op_uses, parted_uses, head_uses}
use Rattle.core_ir.specs.Terms.{GenHead, PartHead}
use Rattle.core_ir.specs.Meaning.{Env, Answer, CallMeaning, one, first, bind, bind_all, cell_form, cell_at, generator, operation, with_index, run, generators, cells, neutral_fits, made_of, name_count, right_value}
use Rattle.core_ir.specs.Meaning as core
use Rattle.counted_code.specs.Terms.{CodeTerm, CodeGensTerm, CodePartsTerm, WithCode, PartedCode, NoCodeGens, GenCode, NoCodeParts, PartCode, core_of, core_of_right, core_of_gens, core_of_parts}
use Rattle.counted_code.specs.Values.{Heap, Value, Small, Ended, Done, Failed, give, go_on, pure_end, read}
use Rattle.counted_code.specs.Loops.{Source, Job, CodeGenerator, CodeCells, holder, is_fold, with_job, part_holder, parted_folds, parted_shape, parted_job, job_does}
use Rattle.counted_code.specs.Machine.{Values, DoesCalls, missing_value, reads, first_of, first_value, bind_value, bind_values, bounds_of, with_index_value, does, right_does, code_generators, code_cells}
use Rattle.counted_code.specs.Counts.{Reordered, none, stays, swaps, through, Counted, CountedGens, CountedParts}
use Rattle.counted_laws.specs.Simulation.{refers, held, Owns, AllBacked, Shows, SameCells, Matches, MatchesOne}
use Rattle.counted_laws.proofs.Held.{shows_back, all_backed_more, backed_shows}
use Rattle.counted_laws.proofs.Bound.{Ready, zero_not_suc, suc_same, shown_at, unbound_all, backed_as, bound_all_shows, turn_ready}
use Rattle.counted_laws.proofs.Blocks.{RightMatches, BlockMatches}
use Rattle.counted_laws.proofs.Plains.{owns_none}
use Rattle.counted_laws.proofs.Cells.{Linked, AlwaysLinked, job_matches}

-- the first value of a run
pub first_matches : (others : ℕ → ℕ) (h : Heap) (m : Ended (List Value)) (a : Answer) → Matches 1 others h m a → MatchesOne others h (go_on m (λ vs. give (first_of vs))) (first a)
first_matches others h (Failed f p) (Err g) r = r
first_matches others h (Failed f p) (Ok ws) r = elim r [ ]
first_matches others h (Done vs k) (Err g) r = elim r [ ]
first_matches others h (Done [] k) (Ok ws) r = elim (zero_not_suc r.0) [ ]
first_matches others h (Done (v ∷ (w ∷ vs)) k) (Ok ws) r = elim (zero_not_suc (sym (suc_same r.0))) [ ]
first_matches others h (Done (v ∷ []) k) (Ok []) r = elim (no_cons r.1) [ ]
  where
    no_cons : {a : ArrayValue} → (a ∷ []) ≡ [] → ⊥
    no_cons p = zero_not_suc (sym (λ i. length (p i)))
first_matches others h (Done (v ∷ []) k) (Ok (a ∷ ws)) r = ((λ i. head_array (r.1 i)), r.2, r.3)
  where
    head_array : List ArrayValue → ArrayValue
    head_array [] = a
    head_array (x ∷ xs) = x

-- ---- the values of an index

pub small_one : (b : ℕ) (same : Bool) (v w : Value) → refers b v ≡ 0 → refers b w ≡ 0 → refers b (cond same v w) ≡ 0
small_one b true v w p q = p
small_one b false v w p q = q

-- no value refers to the buffer, so no variable does that is bound to them
pub small_at : (b : ℕ) (e : Values) (xs : List Var) (vs : List Value) (y : Var) → refers b (e y) ≡ 0 → held b vs ≡ 0 → refers b (bind_values e xs vs y) ≡ 0
small_at b e [] vs y p q = p
small_at b e (x ∷ xs) [] y p q = small_at b (bind_value e x missing_value) xs [] y (small_one b (eqb x.0 y.0) missing_value (e y) refl p) q
small_at b e (x ∷ xs) (v ∷ vs) y p q = small_at b (bind_value e x v) xs vs y (small_one b (eqb x.0 y.0) v (e y) (omega (arith, q)) p) (omega (arith, q))

pub small_here : (b : ℕ) (e : Values) (x : Var) (v : Value) → refers b v ≡ 0 → refers b (bind_value e x v x) ≡ 0
small_here b e x v p = subst (λ t. refers b (cond t v (e x)) ≡ 0) (sym (eq-eqb x.0 x.0 refl)) p

pub small_all : (b : ℕ) (e : Values) (xs : List Var) (vs : List Value) → held b vs ≡ 0 → held b (map (bind_values e xs vs) xs) ≡ 0
small_all b e [] vs q = refl
small_all b e (x ∷ xs) [] q =
    let here = small_at b (bind_value e x missing_value) xs [] x (small_here b e x missing_value refl) q in
    let rest = small_all b (bind_value e x missing_value) xs [] q in
    omega (arith, here, rest)
small_all b e (x ∷ xs) (v ∷ vs) q =
    let here = small_at b (bind_value e x v) xs vs x (small_here b e x v (omega (arith, q))) (omega (arith, q)) in
    let rest = small_all b (bind_value e x v) xs vs (omega (arith, q)) in
    omega (arith, here, rest)

abbrev pub components : List ℤ → List Value
components index = map (λ z. Small (scalar Int z)) index

pub components_small : (b : ℕ) (index : List ℤ) → held b (components index) ≡ 0
components_small b [] = refl
components_small b (z ∷ zs) = let rest = components_small b zs in omega (arith, rest)

pub components_read : (k : Heap) (index : List ℤ) → map (read k) (components index) ≡ map (scalar Int) index
components_read k [] = refl
components_read k (z ∷ zs) = ap (λ rest. scalar Int z ∷ rest) (components_read k zs)

-- at the start of a generator's body
pub index_ready : (k : Heap) (e : Values) (ρ : Env) (holding : ℕ → ℕ) (outer : List Var) (g : GenHead) (index : List ℤ) → AllBacked holding e outer → Shows k e ρ outer → NoneIn (g.index ∷ g.names) outer → Owns k [] holding → Ready k (with_index_value e g index) (with_index ρ g index) holding outer (g.index ∷ g.names)
index_ready k e ρ holding outer g index back shows fresh owns =
    let xs : List Var = g.index ∷ g.names in
    let vs : List Value = Small (vector Int index) ∷ components index in
    record {
      owns = ((λ b. (let o = owns.0 b in let c = components_small b index in let z = small_all b e xs vs (omega (arith, c)) in omega (arith, o, z))), owns.1);
      backed = backed_as holding e (bind_values e xs vs) outer (unbound_all e xs vs outer fresh) back;
      shows = subst (λ ws. Shows k (bind_values e xs vs) (bind_all ρ xs (vector Int index ∷ ws)) (xs ++ outer)) (components_read k index) (bound_all_shows k e ρ xs vs outer shows);
    }

-- ---- parts

-- each part's body does what it means
abbrev pub PartsMatch : (results_of : ℕ → ℕ) (does_calls : DoesCalls) (calls : CallMeaning) (turns : ℕ) → CodePartsTerm → Type 0
PartsMatch results_of does_calls calls turns NoCodeParts = Unit {0}
PartsMatch results_of does_calls calls turns (PartCode g b rest) = BlockMatches results_of does_calls calls turns b × PartsMatch results_of does_calls calls turns rest

abbrev pub GensMatch : (results_of : ℕ → ℕ) (does_calls : DoesCalls) (calls : CallMeaning) (turns : ℕ) → CodeGensTerm → Type 0
GensMatch results_of does_calls calls turns NoCodeGens = Unit {0}
GensMatch results_of does_calls calls turns (GenCode g b rest) = BlockMatches results_of does_calls calls turns b × GensMatch results_of does_calls calls turns rest

-- ---- lists of variables

pub all_front : (xs ys zs : List Var) → AllIn (xs ++ ys) zs → AllIn xs zs
all_front [] ys zs u = tt
all_front (x ∷ xs) ys zs u = (u.0, all_front xs ys zs u.1)

pub all_back : (xs ys zs : List Var) → AllIn (xs ++ ys) zs → AllIn ys zs
all_back [] ys zs u = u
all_back (x ∷ xs) ys zs u = all_back xs ys zs u.1

pub same_length : {xs ys : List Var} → Reordered xs ys → length xs ≡ length ys
same_length none = refl
same_length (stays p) = ap suc (same_length p)
same_length swaps = refl
same_length (through p q) = same_length p ∙ same_length q

pub no_elements : (xs : List Var) → length xs ≡ 0 → xs ≡ []
no_elements [] p = refl
no_elements (x ∷ xs) p = elim (zero_not_suc (sym p)) [ ]

-- ---- jobs

abbrev pub job_of : List CodeGenerator → Operation → Plan → Job
job_of cgs o p = record { form = p.form; shape = p.shape; folds = is_fold o; indices = p.indices; source = holder cgs p.ranges; result = finish o p }

abbrev pub parted_of : List Grid1 → Base → List ℕ → PartedOp → List CodeCells → Env → Job
parted_of f b c op ps e = record { form = record { base = b; shape = c }; shape = parted_shape f c op; folds = parted_folds op; indices = members f; source = part_holder ps; result = made_of f b c op e }

-- that of a fold, by its neutral value
abbrev pub fold_job : List Grid1 → Base → List ℕ → Op → Var → List CodeCells → Site → ArrayValue → Ends Job
fold_job f b c op x ps s a =
    if same_form a (cell_form b c)
    then Ok (record { form = record { base = b; shape = c }; shape = c; folds = true; indices = members f; source = part_holder ps; result = λ found. fold (combined op) a found })
    else fault F6 s

-- the variables of a loop read the same, so its job is
pub job_same : (h : Heap) (e : Values) (ρ : Env) (live : List Var) (f : List Grid1) (b : Base) (c : List ℕ) (op : PartedOp) (ps : List CodeCells) (s : Site) → Shows h e ρ live → AllIn (parted_uses op) live → parted_job f b c op ps s (reads h e) ≡ parted_job f b c op ps s ρ
job_same h e ρ live f b c parted.Genarray ps s shows u = refl
job_same h e ρ live f b c (parted.Modarray x) ps s shows u = refl
job_same h e ρ live f b c (parted.Fold op x) ps s shows u =
    λ i. fold_job f b c op x ps s (shown_at h e ρ x live shows u.0 i)

-- ---- bodies at an index

module _ (results_of : ℕ → ℕ) (does_calls : DoesCalls) (calls : CallMeaning) (turns : ℕ) (h : Heap) (e : Values) (ρ : Env) (others : ℕ → ℕ) (live : List Var) (backed : AllBacked others e live) (shows : Shows h e ρ live) where
  -- ---- with-loops

  option_same : (o : Option Var) → AllIn (option_to_list o) live → option_map (reads h e) o ≡ option_map ρ o
  option_same None u = refl
  option_same (Some x) u = λ i. Some (shown_at h e ρ x live shows u.0 i)

  bounds_same : (g : GenHead) → AllIn (head_uses g) live → bounds_of g (reads h e) ≡ bounds_of g ρ
  bounds_same g u =
      let a = all_front (option_to_list g.lower) (option_to_list g.upper ++ (option_to_list g.step ++ option_to_list g.width)) live u in
      let r = all_back (option_to_list g.lower) (option_to_list g.upper ++ (option_to_list g.step ++ option_to_list g.width)) live u in
      let b = all_front (option_to_list g.upper) (option_to_list g.step ++ option_to_list g.width) live r in
      let q = all_back (option_to_list g.upper) (option_to_list g.step ++ option_to_list g.width) live r in
      let c = all_front (option_to_list g.step) (option_to_list g.width) live q in
      let d = all_back (option_to_list g.step) (option_to_list g.width) live q in
      λ i. record { lower = option_same g.lower a i; lower_closed = g.lower_closed; names = name_count g.names; upper = option_same g.upper b i; upper_closed = g.upper_closed; step = option_same g.step c i; width = option_same g.width d i; site = g.site }

  pub all_bounds_same : (gens : CodeGensTerm) → CountedGens results_of live gens → map (λ (g : CodeGenerator). g.bounds) (code_generators does_calls turns gens e h) ≡ map (λ (g : Generator). g.bounds) (generators calls turns (core_of_gens gens) ρ)
  all_bounds_same NoCodeGens counted = refl
  all_bounds_same (GenCode g b rest) counted = λ i. bounds_same g counted.0 i ∷ all_bounds_same rest counted.3 i

  pub operation_same : (op : CoreOp) (s : Site) → AllIn (op_uses op) live → operation op s (reads h e) ≡ operation op s ρ
  operation_same (making.Genarray x y) s u = λ i. loops.genarray (shown_at h e ρ x live shows u.0 i) (shown_at h e ρ y live shows u.1.0 i) s
  operation_same (making.Modarray x) s u = λ i. loops.modarray (shown_at h e ρ x live shows u.0 i) s
  operation_same (making.Fold op x) s u = λ i. loops.fold_by op (shown_at h e ρ x live shows u.0 i) s

  -- a body at an index, from a heap on that keeps what others hold
  gen_runs : (g : GenHead) (b : CodeTerm) → BlockMatches results_of does_calls calls turns b → NoneIn (g.index ∷ g.names) live → Counted results_of 1 live (g.index ∷ g.names) b → (v : List ℤ) (holding : ℕ → ℕ) → ((c : ℕ) → others c ≤ holding c) → (k : Heap) → Owns k [] holding → SameCells others h k → MatchesOne holding k (first_value (does does_calls turns b (with_index_value e g v)) k) (first (run calls turns (core_of b) (with_index ρ g v)))
  gen_runs g b block fresh counted v holding fewer k owns same =
      first_matches holding k (does does_calls turns b (with_index_value e g v) k) (run calls turns (core_of b) (with_index ρ g v))
      (block 1 live (g.index ∷ g.names) counted k (with_index_value e g v) (with_index ρ g v) holding
      (index_ready k e ρ holding live g v (all_backed_more e live others holding fewer backed) (backed_shows others h k e ρ live backed same shows) fresh owns))

  gens_linked : (gens : CodeGensTerm) → GensMatch results_of does_calls calls turns gens → CountedGens results_of live gens → (rs : List Range) (form : Form) (v : List ℤ) → AlwaysLinked others h form (holder (code_generators does_calls turns gens e h) rs v) (held_cell form (loops.holder (generators calls turns (core_of_gens gens) ρ) rs v) v)
  gens_linked NoCodeGens blocks counted rs form v holding fewer = refl
  gens_linked (GenCode g b rest) blocks counted [] form v holding fewer = refl
  gens_linked (GenCode g b rest) blocks counted (r ∷ rs) form v holding fewer = go (holds r v) (gens_linked rest blocks.1 counted.3 rs form v holding fewer)
    where
      here : Source
      here = record { cell = first_value (does does_calls turns b (with_index_value e g v)); site = g.site }

      there : Generator
      there = generator g (λ index. first (run calls turns (core_of b) (with_index ρ g index))) ρ

      go : (inside : Bool) → Linked holding others fewer h form (holder (code_generators does_calls turns rest e h) rs v) (held_cell form (loops.holder (generators calls turns (core_of_gens rest) ρ) rs v) v) → Linked holding others fewer h form (if inside then Some (record { cell = first_value (does does_calls turns b (with_index_value e g v)); site = g.site }) else holder (code_generators does_calls turns rest e h) rs v) (held_cell form (if inside then Some (generator g (λ index. first (run calls turns (core_of b) (with_index ρ g index))) ρ) else loops.holder (generators calls turns (core_of_gens rest) ρ) rs v) v)
      go true l = (first (run calls turns (core_of b) (with_index ρ g v)), refl, gen_runs g b blocks.0 counted.1 counted.2 v holding fewer)
      go false l = l

  pub with_does : (op : CoreOp) (gens : CodeGensTerm) (s : Site) → Owns h [] others → AllIn (op_uses op) live → GensMatch results_of does_calls calls turns gens → CountedGens results_of live gens → Matches 1 others h (right_does does_calls turns (WithCode op gens) s e h) (right_value calls turns (core_of_right (WithCode op gens)) s ρ)
  with_does op gens s owns uses blocks counted =
      let O = operation op s ρ in
      let cgs = code_generators does_calls turns gens e h in
      let gs = generators calls turns (core_of_gens gens) ρ in
      subst (λ (o : Operation). Matches 1 others h (go_on (go_on (pure_end (with_job cgs o) h) (job_does None)) (λ v. give (v ∷ []))) (right_value calls turns (core_of_right (WithCode op gens)) s ρ)) (sym (operation_same op s uses))
      (subst (λ (bs : List Bounds). Matches 1 others h (go_on (go_on (pure_end (and_then (plan bs O) (λ p. Ok (job_of cgs O p))) h) (job_does None)) (λ v. give (v ∷ []))) (right_value calls turns (core_of_right (WithCode op gens)) s ρ)) (sym (all_bounds_same gens counted))
      (go (plan (map (λ (g : Generator). g.bounds) gs) O)))
    where
      go : (P : Ends Plan) → Matches 1 others h (go_on (go_on (pure_end (and_then P (λ p. Ok (job_of (code_generators does_calls turns gens e h) (operation op s ρ) p))) h) (job_does None)) (λ v. give (v ∷ []))) (one (and_then P (λ p. and_then (loops.cells_of p.form (generators calls turns (core_of_gens gens) ρ) p.ranges p.indices) (λ found. Ok (finish (operation op s ρ) p found)))))
      go (Err f) = refl
      go (Ok p) =
          job_matches (job_of (code_generators does_calls turns gens e h) (operation op s ρ) p) (loops.cell_at p.form (generators calls turns (core_of_gens gens) ρ) p.ranges) h others owns
          (λ v. gens_linked gens blocks counted p.ranges p.form v)

  -- ---- parted loops

  part_runs : (g : PartHead) (b : CodeTerm) → BlockMatches results_of does_calls calls turns b → is_in g.index live ≡ false → Counted results_of 1 live (g.index ∷ []) b → (v : List ℤ) (holding : ℕ → ℕ) → ((c : ℕ) → others c ≤ holding c) → (k : Heap) → Owns k [] holding → SameCells others h k → MatchesOne holding k (first_value (does does_calls turns b (bind_value e g.index (Small (vector Int v)))) k) (first (run calls turns (core_of b) (bind ρ g.index (vector Int v))))
  part_runs g b block fresh counted v holding fewer k owns same =
      first_matches holding k (does does_calls turns b (bind_value e g.index (Small (vector Int v))) k) (run calls turns (core_of b) (bind ρ g.index (vector Int v)))
      (block 1 live (g.index ∷ []) counted k (bind_value e g.index (Small (vector Int v))) (bind ρ g.index (vector Int v)) holding
      (turn_ready k e ρ holding live (g.index ∷ []) (Small (vector Int v) ∷ []) (all_backed_more e live others holding fewer backed) (backed_shows others h k e ρ live backed same shows) refl (refl, tt) (fresh, tt) ((λ c. (let o = owns.0 c in omega (arith, o))), owns.1)))

  parts_linked : (parts : CodePartsTerm) → PartsMatch results_of does_calls calls turns parts → CountedParts results_of live parts → (base : Base) (cell : List ℕ) (v : List ℤ) → AlwaysLinked others h (record { base = base; shape = cell }) (part_holder (code_cells does_calls turns parts e) v) (cell_at (cell_form base cell) (cells calls turns (core_of_parts parts) ρ) v)
  parts_linked NoCodeParts blocks counted base cell v holding fewer = refl
  parts_linked (PartCode g b rest) blocks counted base cell v holding fewer = go (has_vector g.grid v) (parts_linked rest blocks.1 counted.2 base cell v holding fewer)
    where
      go : (inside : Bool) → Linked holding others fewer h (record { base = base; shape = cell }) (part_holder (code_cells does_calls turns rest e) v) (cell_at (cell_form base cell) (cells calls turns (core_of_parts rest) ρ) v) → Linked holding others fewer h (record { base = base; shape = cell }) (if inside then Some (record { cell = first_value (does does_calls turns b (bind_value e g.index (Small (vector Int v)))); site = g.site }) else part_holder (code_cells does_calls turns rest e) v) (if inside then and_then (first (run calls turns (core_of b) (bind ρ g.index (vector Int v)))) (core.held (cell_form base cell) g.site) else cell_at (cell_form base cell) (cells calls turns (core_of_parts rest) ρ) v)
      go true l = (first (run calls turns (core_of b) (bind ρ g.index (vector Int v))), refl, part_runs g b blocks.0 counted.0 counted.1 v holding fewer)
      go false l = l

  pub parted_does : (f : List Grid1) (b : Base) (c : List ℕ) (op : PartedOp) (parts : CodePartsTerm) (s : Site) → Owns h [] others → AllIn (parted_uses op) live → PartsMatch results_of does_calls calls turns parts → CountedParts results_of live parts → Matches 1 others h (right_does does_calls turns (PartedCode f b c op parts None) s e h) (right_value calls turns (core_of_right (PartedCode f b c op parts None)) s ρ)
  parted_does f b c op parts s owns uses blocks counted =
      subst (λ (j : Ends Job). Matches 1 others h (go_on (go_on (pure_end j h) (job_does None)) (λ v. give (v ∷ []))) (right_value calls turns (core_of_right (PartedCode f b c op parts None)) s ρ)) (sym (job_same h e ρ live f b c op (code_cells does_calls turns parts e) s shows uses))
      (go (neutral_fits (cell_form b c) op ρ))
    where
      go : (fits : Bool) → Matches 1 others h (go_on (go_on (pure_end (if fits then Ok (parted_of f b c op (code_cells does_calls turns parts e) ρ) else fault F6 s) h) (job_does None)) (λ v. give (v ∷ []))) (one (if fits then and_then (each (cell_at (cell_form b c) (cells calls turns (core_of_parts parts) ρ)) (members f)) (λ found. Ok (made_of f b c op ρ found)) else fault F6 s))
      go true =
          job_matches (parted_of f b c op (code_cells does_calls turns parts e) ρ) (cell_at (cell_form b c) (cells calls turns (core_of_parts parts) ρ)) h others owns
          (λ v. parts_linked parts blocks counted b c v)
      go false = refl

-- ---- as right sides

module _ (results_of : ℕ → ℕ) (does_calls : DoesCalls) (calls : CallMeaning) (turns : ℕ) where
  pub with_matches : (op : CoreOp) (gens : CodeGensTerm) → GensMatch results_of does_calls calls turns gens → RightMatches results_of does_calls calls turns (WithCode op gens)
  with_matches op gens blocks n outer mine after counted s h e ρ others ready =
      subst (λ m. Matches m others h (right_does does_calls turns (WithCode op gens) s e h) (right_value calls turns (core_of_right (WithCode op gens)) s ρ)) counted.0
      (with_does results_of does_calls calls turns h e ρ others (after ++ outer) ready.backed (shows_back h e ρ mine (after ++ outer) ready.shows) op gens s (owns_none h e others mine ready.owns counted.1) counted.2 blocks counted.3)

  pub parted_matches : (f : List Grid1) (b : Base) (c : List ℕ) (op : PartedOp) (parts : CodePartsTerm) → PartsMatch results_of does_calls calls turns parts → RightMatches results_of does_calls calls turns (PartedCode f b c op parts None)
  parted_matches f b c op parts blocks n outer mine after counted s h e ρ others ready =
      let empty = no_elements mine (same_length counted.1) in
      subst (λ m. Matches m others h (right_does does_calls turns (PartedCode f b c op parts None) s e h) (right_value calls turns (core_of_right (PartedCode f b c op parts None)) s ρ)) counted.0
      (parted_does results_of does_calls calls turns h e ρ others (after ++ outer) ready.backed (shows_back h e ρ mine (after ++ outer) ready.shows) f b c op parts s (owns_none h e others mine ready.owns counted.1) (subst (λ l. AllIn (parted_uses op) (l ++ (after ++ outer))) empty counted.2) blocks (subst (λ l. CountedParts results_of (l ++ (after ++ outer)) parts) empty counted.3))
