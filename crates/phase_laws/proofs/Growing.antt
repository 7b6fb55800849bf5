-- A heap has one buffer more for each one that was taken, whatever the machine does.
use Rattle.std.proofs.Common.{◌≡◌, ℕ, zero, suc, ◌+◌, ◌-◌, Bool, true, false, List, [], ◌∷◌, ◌++◌, map, length, ℤ, Option, Some, None, Ok, Err, refl, arith}
use Rattle.std.specs.Prelude.{if◌then◌else◌, ◌||◌, ◌==◌, ◌*◌, pos, not, option_map, slice_get, replicate}
use Rattle.std.proofs.lemmas.List.{length-append, length-set}
use Rattle.sac_base.specs.declared.base.Base.{Base}
use Rattle.sac_base.specs.declared.base.Base.TheVariants.{Int}
use Rattle.sac_base.specs.declared.faults.FaultKind.TheVariants.{F6, F7, F9}
use Rattle.sac_base.specs.declared.form.Form.{Form}
use Rattle.sac_base.specs.declared.grid.Grid1.{Grid1}
use Rattle.sac_base.specs.declared.site.Site.{Site}
use Rattle.sac_base.specs.declared.types.ArrayType.{ArrayType}
use Rattle.sac_base.specs.Arrays.{ArrayValue, size, vector}
use Rattle.sac_base.specs.Grids.{has_vector}
use Rattle.sac_base.specs.Outcomes.{Ends, and_then, at_site, fault}
use Rattle.sac_base.specs.Parts.{condition}
use Rattle.sac_base.specs.Types.{all_have}
use Rattle.sac_base.specs.WithLoops.{Operation, Plan, Range, plan, holds, fits_form}
use Rattle.core_ir.specs.declared.tree.CoreOp.{CoreOp}
use Rattle.core_ir.specs.declared.tree.PartedOp.{PartedOp}
use Rattle.core_ir.specs.declared.tree.Var.{Var}
use Rattle.core_ir.specs.Meaning.{operation, plain_value, checked, cell_form, neutral_fits}
use Rattle.core_ir.specs.Outcome.{chosen}
use Rattle.core_ir.specs.Terms.{PlainTerm}
use Rattle.counted_code.specs.Loops.{Source, Job, CodeGenerator, stored, cell_does, cells_do, Target, Inside, Fresh, Old, Claimed, claim, claim_old, write_cell, release_rest, settled, count_phase, claimed_does, job_does, loop_does, holder, with_job, part_holder, parted_job, written_at}
use Rattle.counted_code.specs.Machine.{Values, DoesCalls, no_values, bind_value, bind_values, reads, first_of, first_value, one_value, plain_does, tested, repeat_does, turns_do, with_index_value, does, right_does, code_generators, code_cells}
use Rattle.counted_code.specs.Outcome.{DoesRun, code_param_vars, results_do, body_does, run_does, chosen_does, call_does, inline_does, deeper_does, call_does_at}
use Rattle.counted_code.specs.Terms.{CodeTerm, CodeRightTerm, CodeGensTerm, CodePartsTerm, CodeFunTerm, CodeProgram, Giving, Binding, Keeping, Releasing, PlainCode, IfCode, LoopCode, CallCode, WithCode, PartedCode, NoCodeGens, GenCode, NoCodeParts, PartCode, core_of_code}
use Rattle.counted_code.specs.Values.{Buffer, no_buffer, Heap, Value, Small, Ref, Ended, Done, Failed, Doing, give, go_on, then_go, pure_end, fails, choose_does, phases_as, apart, is_small, read, count_of, cells_of, with_buffer, keep, release, release_count, place_as, place_value, take_buffer}
use Rattle.counted_laws.proofs.Loops.{job_of, parted_of}
use Rattle.phase_laws.specs.Growing.{Grown, EndsGrown, Grows, CallsGrow, SourceGrows}

-- ---- heaps

grown_on : (h k l : Heap) → Grown h k → Grown k l → Grown h l
grown_on h k l p q = omega (arith, p, q)

-- one buffer has changed
set_grown : (h : Heap) (b : ℕ) (x : Buffer) → Grown h (with_buffer h b x)
set_grown h b x = let same = length-set h.buffers b x in omega (arith, same)

taken_grown : (h : Heap) (xs : List ℤ) → Grown h (take_buffer xs h)
taken_grown h xs = let more = length-append h.buffers (record { count = 1; cells = xs } ∷ []) in omega (arith, more)

keep_grown : (v : Value) (h : Heap) → Grown h (keep v h)
keep_grown (Small a) h = refl
keep_grown (Ref b base shape) h = set_grown h b (record { count = count_of h b + 1; cells = cells_of h b })

release_grown : (v : Value) (h : Heap) → Grown h (release v h)
release_grown (Small a) h = refl
release_grown (Ref b base shape) h = go (count_of h b)
  where
    go : (n : ℕ) → Grown h (release_count b n h)
    go zero = refl
    go (suc zero) = set_grown h b no_buffer
    go (suc (suc n)) = set_grown h b (record { count = suc n; cells = cells_of h b })

-- ---- steps

ends_on : {A : Type 0} (h k : Heap) (m : Ended A) → Grown h k → EndsGrown k m → EndsGrown h m
ends_on h k (Done a l) p q = grown_on h k l p q
ends_on h k (Failed f phases) p q = tt

go_grows : {A B : Type 0} (next : A → Doing B) → ((a : A) → Grows (next a)) → (h : Heap) (m : Ended A) → EndsGrown h m → EndsGrown h (go_on m next)
go_grows next rest h (Done a k) p = ends_on h k (next a k) p (rest a k)
go_grows next rest h (Failed f phases) p = tt

then_grows : {A B : Type 0} (m : Doing A) (next : A → Doing B) → Grows m → ((a : A) → Grows (next a)) → Grows (then_go m next)
then_grows m next first rest h = go_grows next rest h (m h) (first h)

give_grows : {A : Type 0} (a : A) → Grows (give a)
give_grows a h = refl

pure_grows : {A : Type 0} (e : Ends A) → Grows (pure_end e)
pure_grows (Ok a) h = refl
pure_grows (Err f) h = tt

choose_grows : {A : Type 0} (s : Site) (d : Option Bool) (a b : Doing A) → Grows a → Grows b → Grows (choose_does s d a b)
choose_grows s None a b p q h = tt
choose_grows s (Some true) a b p q h = p h
choose_grows s (Some false) a b p q h = q h

place_grows : (small : Bool) (a : ArrayValue) → Grows (place_as small a)
place_grows true a h = refl
place_grows false a h = taken_grown h a.cells

placed_grows : (e : Ends ArrayValue) → Grows (then_go (pure_end e) place_value)
placed_grows (Ok a) h = place_grows (is_small a.shape) a h
placed_grows (Err f) h = tt

plain_grows : (p : PlainTerm) (s : Site) (e : Values) → Grows (plain_does p s e)
plain_grows (PlainTerm.Const a) s e h = placed_grows (at_site s (plain_value (PlainTerm.Const a) (reads h e))) h
plain_grows (PlainTerm.Unary op x) s e h = placed_grows (at_site s (plain_value (PlainTerm.Unary op x) (reads h e))) h
plain_grows (PlainTerm.Binary op x y) s e h = placed_grows (at_site s (plain_value (PlainTerm.Binary op x y) (reads h e))) h
plain_grows (PlainTerm.Literal xs) s e h = placed_grows (at_site s (plain_value (PlainTerm.Literal xs) (reads h e))) h
plain_grows (PlainTerm.Dim x) s e h = placed_grows (at_site s (plain_value (PlainTerm.Dim x) (reads h e))) h
plain_grows (PlainTerm.ShapeOf x) s e h = placed_grows (at_site s (plain_value (PlainTerm.ShapeOf x) (reads h e))) h
plain_grows (PlainTerm.Reshape x y) s e h = placed_grows (at_site s (plain_value (PlainTerm.Reshape x y) (reads h e))) h
plain_grows (PlainTerm.Select x y) s e h = placed_grows (at_site s (plain_value (PlainTerm.Select x y) (reads h e))) h
plain_grows (PlainTerm.Replace x y z) s e h = placed_grows (at_site s (plain_value (PlainTerm.Replace x y z) (reads h e))) h
plain_grows (PlainTerm.Always k) s e h = tt
plain_grows (PlainTerm.Copy x) s e h = refl
plain_grows (PlainTerm.Check x ty) s e h = then_grows (pure_end (at_site s (checked ty (reads h e x)))) (λ a. give (e x)) (pure_grows (at_site s (checked ty (reads h e x)))) (λ a. give_grows (e x)) h

-- ---- loops

tested_grows : (s : Site) (c : Value) (more done : Doing (List Value)) → Grows more → Grows done → Grows (tested s c more done)
tested_grows s c more done p q h =
    ends_on h (release c h) (tested s c more done h) (release_grown c h) (choose_grows s (condition (read h c)) more done p q (release c h))

repeat_grows : (n : ℕ) (s u : Site) (test : List Value → Doing Value) (body : List Value → Doing (List Value)) → ((vs : List Value) → Grows (test vs)) → ((vs : List Value) → Grows (body vs)) → (vs : List Value) → Grows (repeat_does n s u test body vs)
repeat_grows zero s u test body p q vs =
    then_grows (test vs) (λ c. tested u c (fails F9 s) (give vs)) (p vs) (λ c. tested_grows u c (fails F9 s) (give vs) (λ h. tt) (give_grows vs))
repeat_grows (suc n) s u test body p q vs =
    then_grows (test vs) (λ c. tested u c (then_go (body vs) (repeat_does n s u test body)) (give vs)) (p vs)
    (λ c. tested_grows u c (then_go (body vs) (repeat_does n s u test body)) (give vs) (then_grows (body vs) (repeat_does n s u test body) (q vs) (λ us. repeat_grows n s u test body p q us)) (give_grows vs))

turns_grow : (b : Bool) (n : ℕ) (s u : Site) (test : List Value → Doing Value) (body : List Value → Doing (List Value)) → ((vs : List Value) → Grows (test vs)) → ((vs : List Value) → Grows (body vs)) → (vs : List Value) → Grows (turns_do b n s u test body vs)
turns_grow false n s u test body p q vs = repeat_grows n s u test body p q vs
turns_grow true n s u test body p q vs = then_grows (body vs) (repeat_does (n - 1) s u test body) (q vs) (λ us. repeat_grows (n - 1) s u test body p q us)

-- ---- cells

stored_grows : (form : Form) (site : Site) (v : Value) → Grows (stored form site v)
stored_grows form site v h = go (fits_form form (read h v))
  where
    go : (fits : Bool) → EndsGrown h (if fits then Done (Some (read h v)) (release v h) else fails F6 site h)
    go true = release_grown v h
    go false = tt

apart_grows : {A : Type 0} (m : Doing A) → Grows m → Grows (apart m)
apart_grows {A} m p h = go (m h) (p h)
  where
    go : (e : Ended A) → EndsGrown h e → EndsGrown h (phases_as h.phases e)
    go (Done a k) q = q
    go (Failed f phases) q = tt

pub cell_grows : (form : Form) (s : Option Source) → SourceGrows s → Grows (cell_does form s)
cell_grows form None p = λ h. refl
cell_grows form (Some s) p = then_grows (apart s.cell) (stored form s.site) (apart_grows s.cell p) (λ v. stored_grows form s.site v)

write_grown : (target : Target) (k : ℕ) (c : Option ArrayValue) (h : Heap) → Grown h (write_cell target k c h)
write_grown Inside k c h = refl
write_grown (Fresh b) k c h = refl
write_grown (Old b) k None h = refl
write_grown (Old b) k (Some c) h = set_grown h b (record { count = count_of h b; cells = written_at (k * length c.cells) c.cells (cells_of h b) })

pub cells_grow : (form : Form) (source : List ℤ → Option Source) → ((v : List ℤ) → SourceGrows (source v)) → (target : Target) (k : ℕ) (vs : List (List ℤ)) → Grows (cells_do form source (write_cell target) k vs)
cells_grow form source p target k [] = λ h. refl
cells_grow form source p target k (v ∷ vs) =
    then_grows (cell_does form (source v)) (λ c h. then_go (cells_do form source (write_cell target) (suc k) vs) (λ cs. give (c ∷ cs)) (write_cell target k c h)) (cell_grows form (source v) (p v))
    (λ c h. ends_on h (write_cell target k c h) (then_go (cells_do form source (write_cell target) (suc k) vs) (λ cs. give (c ∷ cs)) (write_cell target k c h)) (write_grown target k c h)
    (then_grows (cells_do form source (write_cell target) (suc k) vs) (λ cs. give (c ∷ cs)) (cells_grow form source p target (suc k) vs) (λ cs. give_grows (c ∷ cs)) (write_cell target k c h)))

-- ---- jobs

claim_grown : (small : Bool) (mark : Option Value) (n : ℕ) (h : Heap) → Grown h (claim small mark n h).heap
claim_grown true mark n h = refl
claim_grown false None n h = taken_grown h (replicate n (pos 0))
claim_grown false (Some (Small a)) n h = taken_grown h (replicate n (pos 0))
claim_grown false (Some (Ref b base shape)) n h = go (count_of h b == 1)
  where
    go : (sole : Bool) → Grown h (claim_old sole b (Ref b base shape) n h).heap
    go true = refl
    go false = taken_grown h (replicate n (pos 0))

settled_grows : (target : Target) (a : ArrayValue) → Grows (settled target a)
settled_grows Inside a h = refl
settled_grows (Fresh b) a h = set_grown h b (record { count = count_of h b; cells = a.cells })
settled_grows (Old b) a h = refl

rest_grows : (rest : Option Value) (v : Value) → Grows (λ k. Done v (release_rest rest k))
rest_grows None v h = refl
rest_grows (Some w) v h = release_grown w h

phase_grown : (phase : Bool) (n : ℕ) (h : Heap) → Grown h (count_phase phase n h)
phase_grown true n h = refl
phase_grown false n h = refl

claimed_grows : (j : Job) → ((v : List ℤ) → SourceGrows (j.source v)) → (target : Target) (rest : Option Value) → Grows (λ h. claimed_does j (record { target = target; rest = rest; heap = h }))
claimed_grows j p target rest =
    then_grows (cells_do j.form j.source (write_cell target) 0 j.indices) (λ found. then_go (settled target (j.result found)) (λ v k. Done v (release_rest rest k))) (cells_grow j.form j.source p target 0 j.indices)
    (λ found. then_grows (settled target (j.result found)) (λ v k. Done v (release_rest rest k)) (settled_grows target (j.result found)) (λ v. rest_grows rest v))

job_grows : (mark : Option Value) (j : Job) → ((v : List ℤ) → SourceGrows (j.source v)) → Grows (job_does mark j)
job_grows mark j p h =
    let small = is_small j.shape in
    let phase = j.folds || not small in
    let k : Heap = count_phase phase (length j.indices) h in
    let c : Claimed = claim small mark (size j.shape) k in
    ends_on h c.heap (claimed_does j c) (grown_on h k c.heap (phase_grown phase (length j.indices) h) (claim_grown small mark (size j.shape) k)) (claimed_grows j p c.target c.rest c.heap)

-- ---- blocks

one_grows : (m : Doing Value) → Grows m → Grows (one_value m)
one_grows m p = then_grows m (λ v. give (v ∷ [])) p (λ v. give_grows (v ∷ []))

first_grows : (m : Doing (List Value)) → Grows m → Grows (first_value m)
first_grows m p = then_grows m (λ vs. give (first_of vs)) p (λ vs. give_grows (first_of vs))

-- by checks that have passed or not
planned_grows : (cgs : List CodeGenerator) (o : Operation) → ((rs : List Range) (v : List ℤ) → SourceGrows (holder cgs rs v)) → (plan : Ends Plan) → Grows (then_go (pure_end (and_then plan (λ p. Ok (job_of cgs o p)))) (job_does None))
planned_grows cgs o grows (Ok p) = job_grows None (job_of cgs o p) (grows p.ranges)
planned_grows cgs o grows (Err f) = λ h. tt

fitting_grows : (j : Job) (mark : Option Value) (s : Site) → ((v : List ℤ) → SourceGrows (j.source v)) → (fits : Bool) → Grows (then_go (pure_end (if fits then Ok j else fault F6 s)) (job_does mark))
fitting_grows j mark s grows true = job_grows mark j grows
fitting_grows j mark s grows false = λ h. tt

source_of : (here : Bool) (s : Source) (rest : Option Source) → Grows s.cell → SourceGrows rest → SourceGrows (if here then Some s else rest)
source_of true s rest p q = p
source_of false s rest p q = q

module _ (calls : DoesCalls) (turns : ℕ) (calls_grow : CallsGrow calls) where
  with_grows : (op : CoreOp) (gens : CodeGensTerm) (s : Site) (e : Values) → ((h : Heap) (rs : List Range) (v : List ℤ) → SourceGrows (holder (code_generators calls turns gens e h) rs v)) → Grows (loop_does (λ k. with_job (code_generators calls turns gens e k) (operation op s (reads k e))) None)
  with_grows op gens s e grows =
      λ h. planned_grows (code_generators calls turns gens e h) (operation op s (reads h e)) (grows h) (plan (map (λ (c : CodeGenerator). c.bounds) (code_generators calls turns gens e h)) (operation op s (reads h e))) h

  parted_grows : (f : List Grid1) (b : Base) (shape : List ℕ) (op : PartedOp) (parts : CodePartsTerm) (reuse : Option Var) (s : Site) (e : Values) → ((v : List ℤ) → SourceGrows (part_holder (code_cells calls turns parts e) v)) → Grows (loop_does (λ k. parted_job f b shape op (code_cells calls turns parts e) s (reads k e)) (option_map e reuse))
  parted_grows f b shape op parts reuse s e grows =
      λ h. fitting_grows (parted_of f b shape op (code_cells calls turns parts e) (reads h e)) (option_map e reuse) s grows (neutral_fits (cell_form b shape) op (reads h e)) h

  mutual
    pub block_grows : (b : CodeTerm) (e : Values) → Grows (does calls turns b e)
    block_grows (Giving xs) e = give_grows (map e xs)
    block_grows (Binding xs s r b) e =
        then_grows (right_does calls turns r s e) (λ vs. does calls turns b (bind_values e xs vs)) (right_grows r s e) (λ vs. block_grows b (bind_values e xs vs))
    block_grows (Keeping x b) e =
        λ h. ends_on h (keep (e x) h) (does calls turns b e (keep (e x) h)) (keep_grown (e x) h) (block_grows b e (keep (e x) h))
    block_grows (Releasing x b) e =
        λ h. ends_on h (release (e x) h) (does calls turns b e (release (e x) h)) (release_grown (e x) h) (block_grows b e (release (e x) h))

    pub right_grows : (c : CodeRightTerm) (s : Site) (e : Values) → Grows (right_does calls turns c s e)
    right_grows (PlainCode p) s e = one_grows (plain_does p s e) (plain_grows p s e)
    right_grows (IfCode x a b) s e =
        λ h. choose_grows s (condition (read h (e x))) (does calls turns a e) (does calls turns b e) (block_grows a e) (block_grows b e) h
    right_grows (LoopCode first_body start params test body u) s e =
        turns_grow first_body turns s u (λ vs. first_value (does calls turns test (bind_values e params vs))) (λ vs. does calls turns body (bind_values e params vs))
        (λ vs. first_grows (does calls turns test (bind_values e params vs)) (block_grows test (bind_values e params vs))) (λ vs. block_grows body (bind_values e params vs)) (map e start)
    right_grows (CallCode group xs) s e = calls_grow group (map e xs) s
    right_grows (WithCode op gens) s e = one_grows (loop_does (λ k. with_job (code_generators calls turns gens e k) (operation op s (reads k e))) None) (with_grows op gens s e (λ h rs v. gens_grow gens e h rs v))
    right_grows (PartedCode f b shape op parts reuse) s e = one_grows (loop_does (λ k. parted_job f b shape op (code_cells calls turns parts e) s (reads k e)) (option_map e reuse)) (parted_grows f b shape op parts reuse s e (λ v. parts_grow parts e v))

    pub gens_grow : (gens : CodeGensTerm) (e : Values) (h : Heap) (rs : List Range) (v : List ℤ) → SourceGrows (holder (code_generators calls turns gens e h) rs v)
    gens_grow NoCodeGens e h rs v = tt
    gens_grow (GenCode head b rest) e h [] v = tt
    gens_grow (GenCode head b rest) e h (r ∷ rs) v =
        source_of (holds r v) (record { cell = first_value (does calls turns b (with_index_value e head v)); site = head.site }) (holder (code_generators calls turns rest e h) rs v) (first_grows (does calls turns b (with_index_value e head v)) (block_grows b (with_index_value e head v))) (gens_grow rest e h rs v)

    pub parts_grow : (parts : CodePartsTerm) (e : Values) (v : List ℤ) → SourceGrows (part_holder (code_cells calls turns parts e) v)
    parts_grow NoCodeParts e v = tt
    parts_grow (PartCode head b rest) e v =
        source_of (has_vector head.grid v) (record { cell = first_value (does calls turns b (bind_value e head.index (Small (vector Int v)))); site = head.site }) (part_holder (code_cells calls turns rest e) v) (first_grows (does calls turns b (bind_value e head.index (Small (vector Int v)))) (block_grows b (bind_value e head.index (Small (vector Int v))))) (parts_grow rest e v)

-- ---- functions

results_grow : (types : List ArrayType) (site : Site) (vs : List Value) → Grows (results_do types site vs)
results_grow types site vs = λ h. typed h (all_have types (map (read h) vs))
  where
    typed : (h : Heap) (fits : Bool) → EndsGrown h (if fits then Done vs h else fails F7 site h)
    typed h true = refl
    typed h false = tt

body_grows : (turns : ℕ) (calls : DoesCalls) → CallsGrow calls → (o : Option CodeFunTerm) (vs : List Value) (s : Site) → Grows (body_does turns calls o vs s)
body_grows turns calls p None vs s = λ h. tt
body_grows turns calls p (Some f) vs s =
    then_grows (does calls turns f.body (bind_values no_values (code_param_vars f) vs)) (results_do f.results f.ends) (block_grows calls turns p f.body (bind_values no_values (code_param_vars f) vs)) (λ us. results_grow f.results f.ends us)

abbrev pub RunsGrow : DoesRun → Type 0
RunsGrow run = (place : ℕ) (vs : List Value) (s : Site) → Grows (run place vs s)

module _ (code : CodeProgram) where
  run_grows : (outer inner : DoesRun) → RunsGrow outer → RunsGrow inner → (place : ℕ) (o : Option CodeFunTerm) (vs : List Value) (s : Site) → Grows (run_does outer inner place o vs s)
  run_grows outer inner p q place None vs s = λ h. tt
  run_grows outer inner p q place (Some f) vs s = decided f.is_inline
    where
      decided : (b : Bool) → Grows (if b then inner place vs s else outer place vs s)
      decided true = q place vs s
      decided false = p place vs s

  chosen_grows : (outer inner : DoesRun) → RunsGrow outer → RunsGrow inner → (o : Option ℕ) (vs : List Value) (s : Site) → Grows (chosen_does code outer inner o vs s)
  chosen_grows outer inner p q None vs s = λ h. tt
  chosen_grows outer inner p q (Some place) vs s = run_grows outer inner p q place (slice_get code.functions place) vs s

  call_grows : (outer inner : DoesRun) → RunsGrow outer → RunsGrow inner → CallsGrow (call_does code outer inner)
  call_grows outer inner p q group vs s = λ h. chosen_grows outer inner p q (chosen (core_of_code code) group (map (read h) vs)) vs s h

  module _ (turns : ℕ) where
    inline_grows : (outer : DoesRun) → RunsGrow outer → (nest : ℕ) → RunsGrow (inline_does code turns outer nest)
    inline_grows outer p zero place vs s = λ h. tt
    inline_grows outer p (suc nest) place vs s =
        body_grows turns (call_does code outer (inline_does code turns outer nest)) (call_grows outer (inline_does code turns outer nest) p (inline_grows outer p nest)) (slice_get code.functions place) vs s

    deeper_grows : (left : ℕ) → RunsGrow (deeper_does code turns left)
    deeper_grows zero place vs s = λ h. tt
    deeper_grows (suc left) place vs s =
        body_grows turns (call_does_at code turns left) (level_grows left (deeper_grows left)) (slice_get code.functions place) vs s
      where
        level_grows : (n : ℕ) → RunsGrow (deeper_does code turns n) → CallsGrow (call_does_at code turns n)
        level_grows n p = call_grows (deeper_does code turns n) (inline_does code turns (deeper_does code turns n) (length code.functions)) p (inline_grows (deeper_does code turns n) p (length code.functions))

    pub calls_grow : (left nest : ℕ) → CallsGrow (call_does code (deeper_does code turns left) (inline_does code turns (deeper_does code turns left) nest))
    calls_grow left nest = call_grows (deeper_does code turns left) (inline_does code turns (deeper_does code turns left) nest) (deeper_grows left) (inline_grows (deeper_does code turns left) (deeper_grows left) nest)
