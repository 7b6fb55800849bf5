-- The numbers of a heap have no say in what the machine does.
use Rattle.std.proofs.Common.{◌≡◌, ℕ, zero, suc, ◌+◌, ◌-◌, Bool, true, false, List, [], ◌∷◌, map, length, ℤ, Option, Some, None, Ok, Err, refl, ◌∙◌, arith}
use Rattle.std.specs.Prelude.{if◌then◌else◌, ◌||◌, ◌==◌, not, option_map, slice_get}
use Rattle.sac_base.specs.declared.base.Base.{Base}
use Rattle.sac_base.specs.declared.base.Base.TheVariants.{Int}
use Rattle.sac_base.specs.declared.faults.FaultKind.TheVariants.{F6, F7, F9}
use Rattle.sac_base.specs.declared.form.Form.{Form}
use Rattle.sac_base.specs.declared.grid.Grid1.{Grid1}
use Rattle.sac_base.specs.declared.site.Site.{Site}
use Rattle.sac_base.specs.declared.types.ArrayType.{ArrayType}
use Rattle.sac_base.specs.Arrays.{ArrayValue, size, vector}
use Rattle.sac_base.specs.Grids.{has_vector}
use Rattle.sac_base.specs.Outcomes.{Ends, and_then, at_site, fault}
use Rattle.sac_base.specs.Parts.{condition}
use Rattle.sac_base.specs.Types.{all_have}
use Rattle.sac_base.specs.WithLoops.{Operation, Plan, Range, plan, holds, fits_form}
use Rattle.core_ir.specs.declared.tree.CoreOp.{CoreOp}
use Rattle.core_ir.specs.declared.tree.PartedOp.{PartedOp}
use Rattle.core_ir.specs.declared.tree.Var.{Var}
use Rattle.core_ir.specs.Meaning.{operation, plain_value, checked, cell_form, neutral_fits}
use Rattle.core_ir.specs.Outcome.{chosen}
use Rattle.core_ir.specs.Terms.{PlainTerm}
use Rattle.counted_code.specs.Loops.{Source, Job, CodeGenerator, stored, cell_does, cells_do, Target, Inside, Fresh, Old, Claimed, claim, claim_new, claim_old, write_cell, release_rest, settled, count_phase, claimed_does, job_does, loop_does, holder, with_job, part_holder, parted_job}
use Rattle.counted_code.specs.Machine.{Values, DoesCalls, no_values, bind_value, bind_values, reads, first_of, first_value, one_value, plain_does, tested, repeat_does, turns_do, bounds_of, with_index_value, does, right_does, code_generators, code_cells}
use Rattle.counted_code.specs.Outcome.{DoesRun, code_param_vars, results_do, body_does, run_does, chosen_does, call_does, inline_does, deeper_does, call_does_at}
use Rattle.counted_code.specs.Terms.{CodeTerm, CodeRightTerm, CodeGensTerm, CodePartsTerm, CodeFunTerm, CodeProgram, Giving, Binding, Keeping, Releasing, PlainCode, IfCode, LoopCode, CallCode, WithCode, PartedCode, NoCodeGens, GenCode, NoCodeParts, PartCode, core_of_code}
use Rattle.counted_code.specs.Values.{Heap, Value, Small, Ref, Ended, Done, Failed, Doing, give, go_on, then_go, pure_end, fails, choose_does, phases_as, apart, is_small, read, count_of, keep, release, release_count, place_as, place_value, take_buffer}
use Rattle.counted_laws.proofs.Loops.{job_of, parted_of}
use Rattle.phase_laws.specs.Numbers.{with_more, ends_with_more, IsBlind, CallsAreBlind, SourceIsBlind}

one_later : (n m : ℕ) → (n + m) + 1 ≡ (n + 1) + m
one_later n m = omega arith

-- ---- steps

go_blind : {A B : Type 0} (next : A → Doing B) → ((a : A) → IsBlind (next a)) → (t g r : ℕ) (m : Ended A) → go_on (ends_with_more t g r m) next ≡ ends_with_more t g r (go_on m next)
go_blind next blind t g r (Done a h) = blind a t g r h
go_blind next blind t g r (Failed f phases) = refl

then_blind : {A B : Type 0} (m : Doing A) (next : A → Doing B) → IsBlind m → ((a : A) → IsBlind (next a)) → IsBlind (then_go m next)
then_blind m next first rest t g r h = (λ i. go_on (first t g r h i) next) ∙ go_blind next rest t g r (m h)

give_blind : {A : Type 0} (a : A) → IsBlind (give a)
give_blind a t g r h = refl

pure_blind : {A : Type 0} (e : Ends A) → IsBlind (pure_end e)
pure_blind (Ok a) t g r h = refl
pure_blind (Err f) t g r h = refl

choose_blind : {A : Type 0} (s : Site) (d : Option Bool) (a b : Doing A) → IsBlind a → IsBlind b → IsBlind (choose_does s d a b)
choose_blind s None a b p q t g r h = refl
choose_blind s (Some true) a b p q t g r h = p t g r h
choose_blind s (Some false) a b p q t g r h = q t g r h

keep_blind : (v : Value) (t g r : ℕ) (h : Heap) → keep v (with_more t g r h) ≡ with_more t g r (keep v h)
keep_blind (Small a) t g r h = refl
keep_blind (Ref b base shape) t g r h = refl

release_blind : (v : Value) (t g r : ℕ) (h : Heap) → release v (with_more t g r h) ≡ with_more t g r (release v h)
release_blind (Small a) t g r h = refl
release_blind (Ref b base shape) t g r h = go (count_of h b)
  where
    go : (n : ℕ) → release_count b n (with_more t g r h) ≡ with_more t g r (release_count b n h)
    go zero = refl
    go (suc zero) = λ i. record (with_more t g r (release_count b 1 h)) { given = one_later h.given g i }
    go (suc (suc n)) = refl

place_blind : (small : Bool) (a : ArrayValue) → IsBlind (place_as small a)
place_blind true a t g r h = refl
place_blind false a t g r h = λ i. Done (Ref (length h.buffers) a.base a.shape) (record (with_more t g r (take_buffer a.cells h)) { taken = one_later h.taken t i })

placed_blind : (e : Ends ArrayValue) → IsBlind (then_go (pure_end e) place_value)
placed_blind (Ok a) t g r h = place_blind (is_small a.shape) a t g r h
placed_blind (Err f) t g r h = refl

plain_blind : (p : PlainTerm) (s : Site) (e : Values) → IsBlind (plain_does p s e)
plain_blind (PlainTerm.Const a) s e t g r h = placed_blind (at_site s (plain_value (PlainTerm.Const a) (reads h e))) t g r h
plain_blind (PlainTerm.Unary op x) s e t g r h = placed_blind (at_site s (plain_value (PlainTerm.Unary op x) (reads h e))) t g r h
plain_blind (PlainTerm.Binary op x y) s e t g r h = placed_blind (at_site s (plain_value (PlainTerm.Binary op x y) (reads h e))) t g r h
plain_blind (PlainTerm.Literal xs) s e t g r h = placed_blind (at_site s (plain_value (PlainTerm.Literal xs) (reads h e))) t g r h
plain_blind (PlainTerm.Dim x) s e t g r h = placed_blind (at_site s (plain_value (PlainTerm.Dim x) (reads h e))) t g r h
plain_blind (PlainTerm.ShapeOf x) s e t g r h = placed_blind (at_site s (plain_value (PlainTerm.ShapeOf x) (reads h e))) t g r h
plain_blind (PlainTerm.Reshape x y) s e t g r h = placed_blind (at_site s (plain_value (PlainTerm.Reshape x y) (reads h e))) t g r h
plain_blind (PlainTerm.Select x y) s e t g r h = placed_blind (at_site s (plain_value (PlainTerm.Select x y) (reads h e))) t g r h
plain_blind (PlainTerm.Replace x y z) s e t g r h = placed_blind (at_site s (plain_value (PlainTerm.Replace x y z) (reads h e))) t g r h
plain_blind (PlainTerm.Always k) s e t g r h = refl
plain_blind (PlainTerm.Copy x) s e t g r h = refl
plain_blind (PlainTerm.Check x ty) s e t g r h = then_blind (pure_end (at_site s (checked ty (reads h e x)))) (λ a. give (e x)) (pure_blind (at_site s (checked ty (reads h e x)))) (λ a. give_blind (e x)) t g r h

-- ---- loops

tested_blind : (s : Site) (c : Value) (more done : Doing (List Value)) → IsBlind more → IsBlind done → IsBlind (tested s c more done)
tested_blind s c more done p q t g r h =
    (λ i. choose_does s (condition (read h c)) more done (release_blind c t g r h i)) ∙ choose_blind s (condition (read h c)) more done p q t g r (release c h)

repeat_blind : (n : ℕ) (s u : Site) (test : List Value → Doing Value) (body : List Value → Doing (List Value)) → ((vs : List Value) → IsBlind (test vs)) → ((vs : List Value) → IsBlind (body vs)) → (vs : List Value) → IsBlind (repeat_does n s u test body vs)
repeat_blind zero s u test body p q vs =
    then_blind (test vs) (λ c. tested u c (fails F9 s) (give vs)) (p vs) (λ c. tested_blind u c (fails F9 s) (give vs) (λ t g r h. refl) (give_blind vs))
repeat_blind (suc n) s u test body p q vs =
    then_blind (test vs) (λ c. tested u c (then_go (body vs) (repeat_does n s u test body)) (give vs)) (p vs)
    (λ c. tested_blind u c (then_go (body vs) (repeat_does n s u test body)) (give vs) (then_blind (body vs) (repeat_does n s u test body) (q vs) (λ us. repeat_blind n s u test body p q us)) (give_blind vs))

turns_blind : (b : Bool) (n : ℕ) (s u : Site) (test : List Value → Doing Value) (body : List Value → Doing (List Value)) → ((vs : List Value) → IsBlind (test vs)) → ((vs : List Value) → IsBlind (body vs)) → (vs : List Value) → IsBlind (turns_do b n s u test body vs)
turns_blind false n s u test body p q vs = repeat_blind n s u test body p q vs
turns_blind true n s u test body p q vs = then_blind (body vs) (repeat_does (n - 1) s u test body) (q vs) (λ us. repeat_blind (n - 1) s u test body p q us)

-- ---- cells

stored_blind : (form : Form) (site : Site) (v : Value) → IsBlind (stored form site v)
stored_blind form site v t g r h = go (fits_form form (read h v))
  where
    go : (fits : Bool) → (if fits then Done (Some (read h v)) (release v (with_more t g r h)) else fails F6 site (with_more t g r h)) ≡ ends_with_more t g r (if fits then Done (Some (read h v)) (release v h) else fails F6 site h)
    go true = λ i. Done (Some (read h v)) (release_blind v t g r h i)
    go false = refl

apart_blind : {A : Type 0} (m : Doing A) → IsBlind m → IsBlind (apart m)
apart_blind {A} m p t g r h = (λ i. phases_as h.phases (p t g r h i)) ∙ go (m h)
  where
    go : (e : Ended A) → phases_as h.phases (ends_with_more t g r e) ≡ ends_with_more t g r (phases_as h.phases e)
    go (Done a k) = refl
    go (Failed f phases) = refl

cell_blind : (form : Form) (s : Option Source) → SourceIsBlind s → IsBlind (cell_does form s)
cell_blind form None p = give_blind None
cell_blind form (Some s) p = then_blind (apart s.cell) (stored form s.site) (apart_blind s.cell p) (λ v. stored_blind form s.site v)

write_blind : (target : Target) (k : ℕ) (c : Option ArrayValue) (t g r : ℕ) (h : Heap) → write_cell target k c (with_more t g r h) ≡ with_more t g r (write_cell target k c h)
write_blind Inside k c t g r h = refl
write_blind (Fresh b) k c t g r h = refl
write_blind (Old b) k None t g r h = refl
write_blind (Old b) k (Some c) t g r h = refl

pub cells_blind : (form : Form) (source : List ℤ → Option Source) → ((v : List ℤ) → SourceIsBlind (source v)) → (target : Target) (k : ℕ) (vs : List (List ℤ)) → IsBlind (cells_do form source (write_cell target) k vs)
cells_blind form source p target k [] = give_blind []
cells_blind form source p target k (v ∷ vs) =
    then_blind (cell_does form (source v)) (λ c h. then_go (cells_do form source (write_cell target) (suc k) vs) (λ cs. give (c ∷ cs)) (write_cell target k c h)) (cell_blind form (source v) (p v))
    (λ c t g r h. (λ i. then_go (cells_do form source (write_cell target) (suc k) vs) (λ cs. give (c ∷ cs)) (write_blind target k c t g r h i))
    ∙ then_blind (cells_do form source (write_cell target) (suc k) vs) (λ cs. give (c ∷ cs)) (cells_blind form source p target (suc k) vs) (λ cs. give_blind (c ∷ cs)) t g r (write_cell target k c h))

-- ---- jobs

new_blind : (rest : Option Value) (n : ℕ) (t g r : ℕ) (h : Heap) → claim_new n rest (with_more t g r h) ≡ record (claim_new n rest h) { heap = with_more t g r (claim_new n rest h).heap }
new_blind rest n t g r h = λ i. record (claim_new n rest h) { heap = record (with_more t g r (claim_new n rest h).heap) { taken = one_later h.taken t i } }

claim_blind : (small : Bool) (mark : Option Value) (n : ℕ) (t g r : ℕ) (h : Heap) → claim small mark n (with_more t g r h) ≡ record (claim small mark n h) { heap = with_more t g r (claim small mark n h).heap }
claim_blind true mark n t g r h = refl
claim_blind false None n t g r h = new_blind None n t g r h
claim_blind false (Some (Small a)) n t g r h = new_blind (Some (Small a)) n t g r h
claim_blind false (Some (Ref b base shape)) n t g r h = go (count_of h b == 1)
  where
    go : (sole : Bool) → claim_old sole b (Ref b base shape) n (with_more t g r h) ≡ record (claim_old sole b (Ref b base shape) n h) { heap = with_more t g r (claim_old sole b (Ref b base shape) n h).heap }
    go true = λ i. record { target = Old b; rest = None; heap = record (with_more t g r h) { reused = one_later h.reused r i } }
    go false = new_blind (Some (Ref b base shape)) n t g r h

settled_blind : (target : Target) (a : ArrayValue) → IsBlind (settled target a)
settled_blind Inside a t g r h = refl
settled_blind (Fresh b) a t g r h = refl
settled_blind (Old b) a t g r h = refl

rest_blind : (rest : Option Value) (v : Value) → IsBlind (λ k. Done v (release_rest rest k))
rest_blind None v t g r h = refl
rest_blind (Some w) v t g r h = λ i. Done v (release_blind w t g r h i)

phase_blind : (phase : Bool) (n : ℕ) (t g r : ℕ) (h : Heap) → count_phase phase n (with_more t g r h) ≡ with_more t g r (count_phase phase n h)
phase_blind true n t g r h = refl
phase_blind false n t g r h = refl

claimed_blind : (j : Job) → ((v : List ℤ) → SourceIsBlind (j.source v)) → (target : Target) (rest : Option Value) → IsBlind (λ h. claimed_does j (record { target = target; rest = rest; heap = h }))
claimed_blind j p target rest =
    then_blind (cells_do j.form j.source (write_cell target) 0 j.indices) (λ found. then_go (settled target (j.result found)) (λ v k. Done v (release_rest rest k))) (cells_blind j.form j.source p target 0 j.indices)
    (λ found. then_blind (settled target (j.result found)) (λ v k. Done v (release_rest rest k)) (settled_blind target (j.result found)) (λ v. rest_blind rest v))

job_blind : (mark : Option Value) (j : Job) → ((v : List ℤ) → SourceIsBlind (j.source v)) → IsBlind (job_does mark j)
job_blind mark j p t g r h =
    let small = is_small j.shape in
    let phase = j.folds || not small in
    let k : Heap = count_phase phase (length j.indices) h in
    let c : Claimed = claim small mark (size j.shape) k in
    (λ i. claimed_does j (claim small mark (size j.shape) (phase_blind phase (length j.indices) t g r h i)))
    ∙ (λ i. claimed_does j (claim_blind small mark (size j.shape) t g r k i))
    ∙ claimed_blind j p c.target c.rest t g r c.heap

-- ---- blocks

-- the generators' operands are arrays
gens_same : (calls : DoesCalls) (turns : ℕ) (gens : CodeGensTerm) (e : Values) (t g r : ℕ) (h : Heap) → code_generators calls turns gens e (with_more t g r h) ≡ code_generators calls turns gens e h
gens_same calls turns NoCodeGens e t g r h = refl
gens_same calls turns (GenCode head b rest) e t g r h = λ i. record { bounds = bounds_of head (reads h e); cell = λ index. first_value (does calls turns b (with_index_value e head index)) } ∷ gens_same calls turns rest e t g r h i

one_blind : (m : Doing Value) → IsBlind m → IsBlind (one_value m)
one_blind m p = then_blind m (λ v. give (v ∷ [])) p (λ v. give_blind (v ∷ []))

first_blind : (m : Doing (List Value)) → IsBlind m → IsBlind (first_value m)
first_blind m p = then_blind m (λ vs. give (first_of vs)) p (λ vs. give_blind (first_of vs))

-- by checks that have passed or not
planned_blind : (cgs : List CodeGenerator) (o : Operation) → ((rs : List Range) (v : List ℤ) → SourceIsBlind (holder cgs rs v)) → (plan : Ends Plan) → IsBlind (then_go (pure_end (and_then plan (λ p. Ok (job_of cgs o p)))) (job_does None))
planned_blind cgs o blind (Ok p) = job_blind None (job_of cgs o p) (blind p.ranges)
planned_blind cgs o blind (Err f) = λ t g r h. refl

fitting_blind : (j : Job) (mark : Option Value) (s : Site) → ((v : List ℤ) → SourceIsBlind (j.source v)) → (fits : Bool) → IsBlind (then_go (pure_end (if fits then Ok j else fault F6 s)) (job_does mark))
fitting_blind j mark s blind true = job_blind mark j blind
fitting_blind j mark s blind false = λ t g r h. refl

source_of : (here : Bool) (s : Source) (rest : Option Source) → IsBlind s.cell → SourceIsBlind rest → SourceIsBlind (if here then Some s else rest)
source_of true s rest p q = p
source_of false s rest p q = q

module _ (calls : DoesCalls) (turns : ℕ) (calls_blind : CallsAreBlind calls) where
  with_blind : (op : CoreOp) (gens : CodeGensTerm) (s : Site) (e : Values) → ((h : Heap) (rs : List Range) (v : List ℤ) → SourceIsBlind (holder (code_generators calls turns gens e h) rs v)) → IsBlind (loop_does (λ k. with_job (code_generators calls turns gens e k) (operation op s (reads k e))) None)
  with_blind op gens s e blind =
      λ t g r h. (λ i. then_go (pure_end (with_job (gens_same calls turns gens e t g r h i) (operation op s (reads h e)))) (job_does None) (with_more t g r h))
      ∙ planned_blind (code_generators calls turns gens e h) (operation op s (reads h e)) (blind h) (plan (map (λ (c : CodeGenerator). c.bounds) (code_generators calls turns gens e h)) (operation op s (reads h e))) t g r h

  parted_blind : (f : List Grid1) (b : Base) (shape : List ℕ) (op : PartedOp) (parts : CodePartsTerm) (reuse : Option Var) (s : Site) (e : Values) → ((v : List ℤ) → SourceIsBlind (part_holder (code_cells calls turns parts e) v)) → IsBlind (loop_does (λ k. parted_job f b shape op (code_cells calls turns parts e) s (reads k e)) (option_map e reuse))
  parted_blind f b shape op parts reuse s e blind =
      λ t g r h. fitting_blind (parted_of f b shape op (code_cells calls turns parts e) (reads h e)) (option_map e reuse) s blind (neutral_fits (cell_form b shape) op (reads h e)) t g r h

  mutual
    pub block_blind : (b : CodeTerm) (e : Values) → IsBlind (does calls turns b e)
    block_blind (Giving xs) e = give_blind (map e xs)
    block_blind (Binding xs s r b) e =
        then_blind (right_does calls turns r s e) (λ vs. does calls turns b (bind_values e xs vs)) (right_blind r s e) (λ vs. block_blind b (bind_values e xs vs))
    block_blind (Keeping x b) e =
        λ t g r h. (λ i. does calls turns b e (keep_blind (e x) t g r h i)) ∙ block_blind b e t g r (keep (e x) h)
    block_blind (Releasing x b) e =
        λ t g r h. (λ i. does calls turns b e (release_blind (e x) t g r h i)) ∙ block_blind b e t g r (release (e x) h)

    pub right_blind : (c : CodeRightTerm) (s : Site) (e : Values) → IsBlind (right_does calls turns c s e)
    right_blind (PlainCode p) s e = one_blind (plain_does p s e) (plain_blind p s e)
    right_blind (IfCode x a b) s e =
        λ t g r h. choose_blind s (condition (read h (e x))) (does calls turns a e) (does calls turns b e) (block_blind a e) (block_blind b e) t g r h
    right_blind (LoopCode first_body start params test body u) s e =
        turns_blind first_body turns s u (λ vs. first_value (does calls turns test (bind_values e params vs))) (λ vs. does calls turns body (bind_values e params vs))
        (λ vs. first_blind (does calls turns test (bind_values e params vs)) (block_blind test (bind_values e params vs))) (λ vs. block_blind body (bind_values e params vs)) (map e start)
    right_blind (CallCode group xs) s e = calls_blind group (map e xs) s
    right_blind (WithCode op gens) s e = one_blind (loop_does (λ k. with_job (code_generators calls turns gens e k) (operation op s (reads k e))) None) (with_blind op gens s e (λ h rs v. gens_blind gens e h rs v))
    right_blind (PartedCode f b shape op parts reuse) s e = one_blind (loop_does (λ k. parted_job f b shape op (code_cells calls turns parts e) s (reads k e)) (option_map e reuse)) (parted_blind f b shape op parts reuse s e (λ v. parts_blind parts e v))

    pub gens_blind : (gens : CodeGensTerm) (e : Values) (h : Heap) (rs : List Range) (v : List ℤ) → SourceIsBlind (holder (code_generators calls turns gens e h) rs v)
    gens_blind NoCodeGens e h rs v = tt
    gens_blind (GenCode head b rest) e h [] v = tt
    gens_blind (GenCode head b rest) e h (r ∷ rs) v =
        source_of (holds r v) (record { cell = first_value (does calls turns b (with_index_value e head v)); site = head.site }) (holder (code_generators calls turns rest e h) rs v) (first_blind (does calls turns b (with_index_value e head v)) (block_blind b (with_index_value e head v))) (gens_blind rest e h rs v)

    pub parts_blind : (parts : CodePartsTerm) (e : Values) (v : List ℤ) → SourceIsBlind (part_holder (code_cells calls turns parts e) v)
    parts_blind NoCodeParts e v = tt
    parts_blind (PartCode head b rest) e v =
        source_of (has_vector head.grid v) (record { cell = first_value (does calls turns b (bind_value e head.index (Small (vector Int v)))); site = head.site }) (part_holder (code_cells calls turns rest e) v) (first_blind (does calls turns b (bind_value e head.index (Small (vector Int v)))) (block_blind b (bind_value e head.index (Small (vector Int v))))) (parts_blind rest e v)

-- ---- functions

results_blind : (types : List ArrayType) (site : Site) (vs : List Value) → IsBlind (results_do types site vs)
results_blind types site vs = λ t g r h. typed t g r h (all_have types (map (read h) vs))
  where
    typed : (t g r : ℕ) (h : Heap) (fits : Bool) → (if fits then Done vs (with_more t g r h) else fails F7 site (with_more t g r h)) ≡ ends_with_more t g r (if fits then Done vs h else fails F7 site h)
    typed t g r h true = refl
    typed t g r h false = refl

body_blind : (turns : ℕ) (calls : DoesCalls) → CallsAreBlind calls → (o : Option CodeFunTerm) (vs : List Value) (s : Site) → IsBlind (body_does turns calls o vs s)
body_blind turns calls p None vs s = λ t g r h. refl
body_blind turns calls p (Some f) vs s =
    then_blind (does calls turns f.body (bind_values no_values (code_param_vars f) vs)) (results_do f.results f.ends) (block_blind calls turns p f.body (bind_values no_values (code_param_vars f) vs)) (λ us. results_blind f.results f.ends us)

abbrev pub RunsAreBlind : DoesRun → Type 0
RunsAreBlind run = (place : ℕ) (vs : List Value) (s : Site) → IsBlind (run place vs s)

module _ (code : CodeProgram) where
  run_blind : (outer inner : DoesRun) → RunsAreBlind outer → RunsAreBlind inner → (place : ℕ) (o : Option CodeFunTerm) (vs : List Value) (s : Site) → IsBlind (run_does outer inner place o vs s)
  run_blind outer inner p q place None vs s = λ t g r h. refl
  run_blind outer inner p q place (Some f) vs s = decided f.is_inline
    where
      decided : (b : Bool) → IsBlind (if b then inner place vs s else outer place vs s)
      decided true = q place vs s
      decided false = p place vs s

  chosen_blind : (outer inner : DoesRun) → RunsAreBlind outer → RunsAreBlind inner → (o : Option ℕ) (vs : List Value) (s : Site) → IsBlind (chosen_does code outer inner o vs s)
  chosen_blind outer inner p q None vs s = λ t g r h. refl
  chosen_blind outer inner p q (Some place) vs s = run_blind outer inner p q place (slice_get code.functions place) vs s

  pub call_blind : (outer inner : DoesRun) → RunsAreBlind outer → RunsAreBlind inner → CallsAreBlind (call_does code outer inner)
  call_blind outer inner p q group vs s = λ t g r h. chosen_blind outer inner p q (chosen (core_of_code code) group (map (read h) vs)) vs s t g r h

  module _ (turns : ℕ) where
    pub inline_blind : (outer : DoesRun) → RunsAreBlind outer → (nest : ℕ) → RunsAreBlind (inline_does code turns outer nest)
    inline_blind outer p zero place vs s = λ t g r h. refl
    inline_blind outer p (suc nest) place vs s =
        body_blind turns (call_does code outer (inline_does code turns outer nest)) (call_blind outer (inline_does code turns outer nest) p (inline_blind outer p nest)) (slice_get code.functions place) vs s

    pub deeper_blind : (left : ℕ) → RunsAreBlind (deeper_does code turns left)
    deeper_blind zero place vs s = λ t g r h. refl
    deeper_blind (suc left) place vs s =
        body_blind turns (call_does_at code turns left) (level_blind left (deeper_blind left)) (slice_get code.functions place) vs s
      where
        level_blind : (n : ℕ) → RunsAreBlind (deeper_does code turns n) → CallsAreBlind (call_does_at code turns n)
        level_blind n p = call_blind (deeper_does code turns n) (inline_does code turns (deeper_does code turns n) (length code.functions)) p (inline_blind (deeper_does code turns n) p (length code.functions))

    -- calls within cells and outside, where so many levels are left
    pub calls_blind : (left nest : ℕ) → CallsAreBlind (call_does code (deeper_does code turns left) (inline_does code turns (deeper_does code turns left) nest))
    calls_blind left nest = call_blind (deeper_does code turns left) (inline_does code turns (deeper_does code turns left) nest) (deeper_blind left) (inline_blind (deeper_does code turns left) (deeper_blind left) nest)
