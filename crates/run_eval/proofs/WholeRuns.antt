-- A whole run, from what its parts tell.
use Rattle.std.proofs.Common.{◌≡◌, ℕ, ℤ, zero, suc, ◌+◌, ◌<◌, ◌≤◌, ◌%◌, ◌^◌, Bool, true, false, List, [], ◌∷◌, ◌++◌, drop, get_or, length, map, take, Some, None, refl, sym, ap, ◌∙◌, subst, arith}
use Rattle.std.specs.Prelude.{Option, OnOk, Result, Ok, Err, Vec, slice_get, if◌then◌else◌}
use Rattle.std.specs.declared.alloc.Global.{Global}
use Rattle.std.proofs.lemmas.List.{append_assoc, append-nil, drop_more, get_or-map, get_or_append_left, get_or_push, length-map, length_push, map-append, take_more}
use Rattle.std.proofs.lemmas.Option.{slice_get-get_or}
use Rattle.std.proofs.Math.ListN.{drop_of_length-le}
use Rattle.std.proofs.Math.Nat.{add-mod-mod}
use Rattle.sac_base.specs.declared.faults.Caps.{Caps}
use Rattle.sac_base.specs.declared.faults.FaultKind.TheVariants.{F7}
use Rattle.sac_base.specs.declared.types.ArrayType.{ArrayType}
use Rattle.sac_base.specs.Arrays.{ArrayValue}
use Rattle.sac_base.specs.Types.{all_have}
use Rattle.core_ir.specs.declared.tree.Var.{Var}
use Rattle.core_ir.specs.Outcome.{start_of_source}
use Rattle.count_table.specs.Tallied.{PhaseTotals}
use Rattle.counted_code.specs.declared.tree.Code.{Code}
use Rattle.counted_code.specs.declared.tree.CodeFun.{CodeFun}
use Rattle.counted_code.specs.Outcome.{call_does, deeper_does, inline_does, code_param_types, function_does, main_does, copied_out, whole_run, outcome_of, cost_of, phases_of}
use Rattle.counted_code.specs.Terms.{CodeFunTerm}
use Rattle.counted_code.specs.Values.{Buffer, Heap, Value, Small, Ref, Ended, Done, Failed, give, go_on, then_go, fails, read, buffer_at, cells_of, no_buffer, is_small, place_as, place_value, place_all, take_buffer, release, release_count, release_all, empty_heap}
use Rattle.counted_code.specs.View.{code_program, code_fun_term}
use Rattle.sac_base.specs.declared.stop.Stop.{Stop}
use Rattle.sac_base.specs.declared.stop.Stop.TheVariants.{Faulted, Memory}
use Rattle.array_ops.specs.Tells.{TellsItems}
use Rattle.run_store.specs.Stands.{Placed, Stands, lender_of}
use Rattle.run_store.specs.declared.store.Store.{Store}
use Rattle.run_store.proofs.Ends.{new_stands, taken_stands, reused_stands}
use Rattle.run_types.specs.Choosing.{types_of}
use Rattle.run_types.specs.Reading.{arrays_in}
use Rattle.run_values.specs.declared.value.RunValue.{RunValue}
use Rattle.run_values.specs.Shown.{value_of}
use Rattle.index_cutter.specs.Cuts.{chunks_of}
use Rattle.phase_count.specs.Tallies.{Counts, PhaseNumbers, counted_in, draws_of}
use Rattle.phase_count.proofs.Tallying.{counts_none, draws_same}
use Rattle.run_loops.specs.declared.state.Context.{Context}
use Rattle.run_loops.specs.declared.state.State.{State}
use Rattle.run_eval.specs.declared.trace.Trace.{Trace}
use Rattle.run_eval.specs.Outcomes.{new_heap, main_in, AreArrays, ArePlaced, OrMemory, TellsCost, TellsTally}
use Rattle.run_loops.specs.Running.{calls_in, IsAt, Told, ToldStop, Appends}

-- ---- arguments are placed

-- the buffers of a heap stay as they are, and there is no new phase
abbrev Extends : Heap → Heap → Type 0
Extends h k = (length h.buffers ≤ length k.buffers) × ((b : ℕ) → b < length h.buffers → buffer_at k b ≡ buffer_at h b) × (k.phases ≡ h.phases)

abbrev ReadsAs : List ArrayValue → Heap → Ended (List Value) → Type 0
ReadsAs ws h (Done vs k) = (map (read k) vs ≡ ws) × Extends h k
ReadsAs ws h (Failed f phases) = ⊥

extends_taken : (xs : List ℤ) (h k : Heap) → Extends (take_buffer xs h) k → Extends h k
extends_taken xs h k e =
    let longer = length_push h.buffers (record { count = 1; cells = xs }) in (
      omega (arith, longer, e.0),
      (λ b below. e.1 b (omega (arith, longer, below)) ∙ get_or_append_left h.buffers (record { count = 1; cells = xs } ∷ []) no_buffer b below),
      e.2,
    )

taken_cells : (xs : List ℤ) (h k : Heap) → Extends (take_buffer xs h) k → cells_of k (length h.buffers) ≡ xs
taken_cells xs h k e =
    let longer = length_push h.buffers (record { count = 1; cells = xs }) in
    ap (λ (x : Buffer). x.cells) (e.1 (length h.buffers) (omega (arith, longer)) ∙ get_or_push h.buffers (record { count = 1; cells = xs }) no_buffer (length h.buffers) refl)

placed_one : (small : Bool) (a : ArrayValue) (ws : List ArrayValue) (h : Heap) → ((k : Heap) → ReadsAs ws k (place_all ws k)) → ReadsAs (a ∷ ws) h (go_on (place_as small a h) (λ v. then_go (place_all ws) (λ vs. give (v ∷ vs))))
placed_one true a ws h rest = go (place_all ws h) (rest h)
  where
    go : (p : Ended (List Value)) → ReadsAs ws h p → ReadsAs (a ∷ ws) h (go_on p (λ vs. give (Small a ∷ vs)))
    go (Done vs k) r = (ap (λ xs. a ∷ xs) r.0, r.1)
    go (Failed f q) r = elim r [ ]
placed_one false a ws h rest = go (place_all ws (take_buffer a.cells h)) (rest (take_buffer a.cells h))
  where
    go : (p : Ended (List Value)) → ReadsAs ws (take_buffer a.cells h) p → ReadsAs (a ∷ ws) h (go_on p (λ vs. give (Ref (length h.buffers) a.base a.shape ∷ vs)))
    go (Done vs k) r = ((λ i. record { base = a.base; shape = a.shape; cells = taken_cells a.cells h k r.1 i } ∷ r.0 i), extends_taken a.cells h k r.1)
    go (Failed f q) r = elim r [ ]

all_read : (ws : List ArrayValue) (h : Heap) → ReadsAs ws h (place_all ws h)
all_read [] h = (refl, (omega arith, (λ b below. refl), refl))
all_read (a ∷ ws) h = placed_one (is_small a.shape) a ws h (λ k. all_read ws k)

-- arrays that are placed, and are read as they were
pub record Placing (args : List ArrayValue) (vs : List RunValue) (h : Store) (m : Heap) : Type 0 where
  pub after : Heap
  pub whole : place_all args m ≡ Done (map value_of vs) after
  pub stands : Stands h after
  pub reads : arrays_in after vs ≡ args
  pub phases : after.phases ≡ m.phases

pub placing : (args : List ArrayValue) (vs : List RunValue) (h : Store) (m : Heap) → ArePlaced vs h (place_all args m) → Placing args vs h m
placing args vs h m = go (place_all args m) refl (all_read args m)
  where
    go : (e : Ended (List Value)) → place_all args m ≡ e → ReadsAs args m e → ArePlaced vs h e → Placing args vs h m
    go (Done ws k) is r placed = record {
      after = k;
      whole = is ∙ ap (λ us. Done us k) (sym placed.0);
      stands = placed.1;
      reads = ap (λ us. map (read k) us) placed.0 ∙ r.0;
      phases = r.1.2;
    }
    go (Failed f p) is r placed = elim r [ ]

-- ---- values one after another

-- what is placed, and then the rest
abbrev pub places_on : List Value → List ArrayValue → Heap → Ended (List Value)
places_on before ws k = go_on (place_all ws k) (λ vs. give (before ++ vs))

one_placed : (before : List Value) (w : Value) (e : Ended (List Value)) → go_on e (λ vs. give ((before ++ w ∷ []) ++ vs)) ≡ go_on (go_on e (λ vs. give (w ∷ vs))) (λ vs. give (before ++ vs))
one_placed before w (Done vs k) = ap (λ us. Done us k) (append_assoc before (w ∷ []) vs)
one_placed before w (Failed f p) = refl

pub place_start : (ws : List ArrayValue) (m : Heap) → places_on [] ws m ≡ place_all ws m
place_start ws m = go (place_all ws m)
  where
    go : (e : Ended (List Value)) → go_on e (λ vs. give ([] ++ vs)) ≡ e
    go (Done vs k) = refl
    go (Failed f p) = refl

pub place_turn : (done after : List RunValue) (v : RunValue) (a : ArrayValue) (before rest : List ArrayValue) (h : Store) (k : Heap) (whole : Ended (List Value)) → before ≡ a ∷ rest → after ≡ done ++ v ∷ [] → Placed v h (place_value a k) → places_on (map value_of done) before k ≡ whole → (n : Heap) × Stands h n × (places_on (map value_of after) rest n ≡ whole)
place_turn done after v a before rest h k whole b d placed p = go (place_value a k) refl placed
  where
    go : (e : Ended Value) → place_value a k ≡ e → Placed v h e → (n : Heap) × Stands h n × (places_on (map value_of after) rest n ≡ whole)
    go (Done w n) is q = (
      n,
      q.1,
      (λ i. places_on (map value_of (d i)) rest n)
          ∙ (λ i. places_on (map-append value_of done (v ∷ []) i) rest n)
          ∙ one_placed (map value_of done) (value_of v) (place_all rest n)
          ∙ ap (λ x. go_on (go_on (place_all rest n) (λ vs. give (x ∷ vs))) (λ vs. give (map value_of done ++ vs))) q.0
          ∙ ap (λ x. go_on (go_on x (λ u. then_go (place_all rest) (λ vs. give (u ∷ vs)))) (λ vs. give (map value_of done ++ vs))) (sym is)
          ∙ (λ i. places_on (map value_of done) (sym b i) k)
          ∙ p,
    )
    go (Failed f q) is e = elim e [ ]

pub place_end : (done : List RunValue) (rest ws : List ArrayValue) (h : Store) (k m : Heap) → rest ≡ [] → Stands h k → places_on (map value_of done) rest k ≡ place_all ws m → ArePlaced done h (place_all ws m)
place_end done rest ws h k m none stands p =
    subst (λ e. ArePlaced done h e)
    (ap (λ us. Done us k) (sym (append-nil (map value_of done))) ∙ (λ i. places_on (map value_of done) (sym none i) k) ∙ p)
    (refl, stands)

pub read_turn : (vs : List RunValue) (i : ℕ) (v : RunValue) (m : Heap) (done after : List ArrayValue) (a : ArrayValue) → i < length vs → v ≡ get_or vs i v → after ≡ done ++ a ∷ [] → a ≡ read m (value_of v) → done ≡ map (read m) (map value_of (take i vs)) → after ≡ map (read m) (map value_of (take (i + 1) vs))
read_turn vs i v m done after a below is d r e =
    d
    ∙ (λ j. e j ++ (r ∙ ap (λ x. read m (value_of x)) is) j ∷ [])
    ∙ sym (ap (λ xs. map (read m) (map value_of xs)) (take_more vs i v below)
    ∙ ap (map (read m)) (map-append value_of (take i vs) (get_or vs i v ∷ []))
    ∙ map-append (read m) (map value_of (take i vs)) (value_of (get_or vs i v) ∷ []))

pub release_turn : (vs : List RunValue) (i : ℕ) (v : RunValue) (h : Store) (k whole : Heap) → i < length vs → v ≡ get_or vs i v → Stands h (release (value_of v) k) → release_all (map value_of (drop i vs)) k ≡ whole → (n : Heap) × Stands h n × (release_all (map value_of (drop (i + 1) vs)) n ≡ whole)
release_turn vs i v h k whole below is stands p = (
  release (value_of v) k,
  stands,
  ap (λ x. release_all (map value_of (drop (i + 1) vs)) (release (value_of x) k)) is
      ∙ ap (λ xs. release_all (map value_of xs) k) (sym (drop_more vs i v below))
      ∙ p,
)

pub release_end : (vs : List RunValue) (i : ℕ) (h : Store) (k whole : Heap) → length vs ≤ i → Stands h k → release_all (map value_of (drop i vs)) k ≡ whole → Stands h whole
release_end vs i h k whole past stands p =
    subst (λ n. Stands h n) (ap (λ xs. release_all (map value_of xs) k) (sym (drop_of_length-le vs past)) ∙ p) stands

-- ---- results are released

release_count_phases : (b n : ℕ) (m : Heap) → (release_count b n m).phases ≡ m.phases
release_count_phases b zero m = refl
release_count_phases b (suc zero) m = refl
release_count_phases b (suc (suc n)) m = refl

release_phases : (v : Value) (m : Heap) → (release v m).phases ≡ m.phases
release_phases (Small a) m = refl
release_phases (Ref b base shape) m = release_count_phases b (buffer_at m b).count m

pub released_phases : (vs : List Value) (m : Heap) → (release_all vs m).phases ≡ m.phases
released_phases [] m = refl
released_phases (v ∷ vs) m = released_phases vs (release v m) ∙ release_phases v m

-- ---- the main function

module _ (context : Context) (args : List ArrayValue) (m : Heap) where
  -- there is none
  pub no_main : (s : State) → slice_get (code_program context.code.now).functions context.code.now.main ≡ None → Counts s.phases m.phases → Told AreArrays (Err (Faulted (record { kind = F7; site = start_of_source }))) s (main_in context args m)
  no_main s none phases =
      subst (λ o. Told AreArrays (Err (Faulted (record { kind = F7; site = start_of_source }))) s (main_does context.turns (calls_in context) o args m)) (sym none) (refl, phases)

  module _ (f : CodeFunTerm) (here : slice_get (code_program context.code.now).functions context.code.now.main ≡ Some f) where
    abbrev goes_on : Bool → Ended (List ArrayValue)
    goes_on b = (if b then then_go (place_all args) (λ vs. then_go (function_does context.turns (calls_in context) f vs) copied_out) else fails F7 f.site) m

    -- it does not take the arguments
    pub misfit : (s : State) → all_have (code_param_types f) args ≡ false → Counts s.phases m.phases → Told AreArrays (Err (Faulted (record { kind = F7; site = f.site }))) s (main_in context args m)
    misfit s fits phases =
        subst (λ e. Told AreArrays (Err (Faulted (record { kind = F7; site = f.site }))) s e)
        (sym (ap (λ o. main_does context.turns (calls_in context) o args m) here ∙ ap goes_on fits))
        (refl, phases)

    -- it takes them
    pub fitting : (vs : List RunValue) (h : Store) (r : Result (Vec ArrayValue Global) Stop) (s : State) → all_have (code_param_types f) args ≡ true → (p : Placing args vs h m) → Told AreArrays r s (go_on (function_does context.turns (calls_in context) f (map value_of vs) p.after) copied_out) → Told AreArrays r s (main_in context args m)
    fitting vs h r s fits p told =
        subst (λ e. Told AreArrays r s e)
        (sym (ap (λ o. main_does context.turns (calls_in context) o args m) here ∙ ap goes_on fits
        ∙ ap (λ e. go_on e (λ vs. then_go (function_does context.turns (calls_in context) f vs) copied_out)) p.whole))
        told

-- its results are copied out
pub then_copied : (u : Unit {0}) (values : List RunValue) (old : List RunValue) (s t : State) (r : Result (Vec ArrayValue Global) Stop) (e : Ended (List Value)) → old ≡ [] → Told {A = Unit {0}} (λ x ws. Appends old values ws) (Ok u) s e → ((k : Heap) → IsAt s k → Told AreArrays r t (copied_out (map value_of values) k)) → Told AreArrays r t (go_on e copied_out)
then_copied u values old s t r (Done ws k) empty told rest =
    subst (λ us. Told AreArrays r t (copied_out us k)) (told.0 ∙ ap (λ xs. map value_of xs ++ ws) empty) (rest k told.1)
then_copied u values old s t r (Failed f p) empty told rest = elim told [ ]

-- it stops
pub then_stops : (x : Stop) (s : State) (e : Ended (List Value)) → ToldStop x s e → ToldStop x s (go_on e copied_out)
then_stops (Faulted f) s (Done v k) told = elim told [ ]
then_stops (Faulted f) s (Failed g p) told = told
then_stops Memory s e told = tt

-- the function at a place
pub function_at : (fs : List CodeFun) (i : ℕ) (f : CodeFun) → i < length fs → f ≡ get_or fs i f → slice_get (map code_fun_term fs) i ≡ Some (code_fun_term f)
function_at fs i f below is =
    slice_get-get_or (map code_fun_term fs) i (code_fun_term f) (omega (arith, length-map fs code_fun_term, below))
    ∙ ap Some (get_or-map code_fun_term fs i f (code_fun_term f) below ∙ ap code_fun_term (sym is))

-- the main function of the same code
pub main_within : (code same : Code) → code ≡ same → code.main < length code.functions.items → same.main < length same.functions.items
main_within code same is below = subst (λ (k : Code). k.main < length k.functions.items) is below

pub main_same : (code same : Code) (f : CodeFun) → code ≡ same → f ≡ get_or code.functions.items code.main f → f ≡ get_or same.functions.items same.main f
main_same code same f is found = found ∙ ap (λ (k : Code). get_or k.functions.items k.main f) is

-- what is said of values is said of the arguments
pub fits_as : (main : CodeFun) (params : List (Var × ArrayType)) (vs us : List RunValue) (args : List ArrayValue) (k : Heap) (b c : Bool) → params ≡ main.params.items → us ≡ vs → arrays_in k vs ≡ args → b ≡ all_have (types_of params) (arrays_in k us) → b ≡ c → all_have (code_param_types (code_fun_term main)) args ≡ c
fits_as main params vs us args k b c p u reads told is =
    ap (λ xs. all_have (types_of main.params.items) xs) (sym reads)
    ∙ (λ i. all_have (types_of (sym p i)) (arrays_in k (sym u i)))
    ∙ sym told ∙ is

-- ---- the whole

pub starts : (s : State) → s.heap.own ≡ new_heap → s.heap.lent ≡ None → (s.phases.number ≡ 0) × (s.phases.draws ≡ 0) → IsAt s empty_heap
starts s fresh alone none = record { heap = subst (λ (h : Store). Stands h empty_heap) (λ i. record { own = sym fresh i; lent = sym alone i }) new_stands; phases = counts_none s.phases none.0 none.1 }

abbrev main_of : Code → List ArrayValue → Caps → ℕ → Ended (List ArrayValue)
main_of code args caps nest =
    let p = code_program code in
    let outer = deeper_does p caps.turns caps.depth in
    main_does caps.turns (call_does p outer (inline_does p caps.turns outer nest)) (slice_get p.functions code.main) args empty_heap

pub whole_is : (counted code : Code) (args : List ArrayValue) (caps : Caps) (nest : ℕ) → counted ≡ code → nest ≡ length code.functions.items → main_of counted args caps nest ≡ whole_run (code_program code) args caps
whole_is counted code args caps nest same all =
    ap (λ c. main_of c args caps nest) same
    ∙ ap (main_of code args caps) (all ∙ sym (length-map code.functions.items code_fun_term))

pub outcome_told : (r : Result (Vec ArrayValue Global) Stop) (s : State) (w : Ended (List ArrayValue)) → Told AreArrays r s w → TellsItems r (outcome_of w)
outcome_told (Ok v) s (Done ws k) told = ap Ok (sym told.0)
outcome_told (Ok v) s (Failed f p) told = elim told [ ]
outcome_told (Err (Faulted f)) s (Done ws k) told = elim told [ ]
outcome_told (Err (Faulted f)) s (Failed g p) told = ap Err (sym told.0)
outcome_told (Err Memory) s w told = tt

pub cost_told : (r : Result (Vec ArrayValue Global) Stop) (s : State) (t : Trace) (w : Ended (List ArrayValue)) → Told AreArrays r s w → lender_of s.heap ≡ None → OnOk r ((cost_of w).given ≡ (cost_of w).taken) → t.taken ≡ s.heap.own.taken → t.given ≡ t.taken → t.reused ≡ s.heap.own.reused → t.phases ≡ s.phases.number → TellsCost r t (cost_of w)
cost_told (Ok v) s t (Done ws k) told alone even taken given reused phases =
    let same = taken ∙ taken_stands s.heap k alone told.1.heap in
    (same, given ∙ same ∙ sym even, reused ∙ reused_stands s.heap k alone told.1.heap, phases ∙ ap (λ (p : PhaseNumbers). p.number) told.1.phases)
cost_told (Ok v) s t (Failed f p) told alone even taken given reused phases = elim told [ ]
cost_told (Err (Faulted f)) s t (Done ws k) told alone even taken given reused phases = elim told [ ]
cost_told (Err (Faulted f)) s t (Failed g p) told alone even taken given reused phases = phases ∙ ap (λ (p : PhaseNumbers). p.number) told.1
cost_told (Err Memory) s t w told alone even taken given reused phases = tt

-- what is counted of phases is added to a tally
abbrev Tallied : PhaseTotals → PhaseNumbers → PhaseTotals → Type 0
Tallied old p new = new ≡ counted_in old.phases old.draws p

module _ (workers : ℕ) (chunk : Option ℕ) (old new : PhaseTotals) where
  tally_rises : (p : PhaseNumbers) (ns : List ℕ) → ((n : ℕ) → chunks_of p.workers p.chunk n ≡ chunks_of workers chunk n) → Tallied old p new → Counts p ns
      → (new.phases ≡ (old.phases + length ns % 2 ^ 64) % 2 ^ 64) × (new.draws ≡ (old.draws + draws_of workers chunk ns) % 2 ^ 64)
  tally_rises p ns alike is counts = (
    ap (λ (t : PhaseTotals). t.phases) is ∙ ap (λ (q : PhaseNumbers). (old.phases + q.number) % 2 ^ 64) counts,
    ap (λ (t : PhaseTotals). t.draws) is ∙ ap (λ (q : PhaseNumbers). (old.draws + q.draws) % 2 ^ 64) counts
        ∙ add-mod-mod old.draws (draws_of p.workers p.chunk ns) (2 ^ 64) ∙ ap (λ k. (old.draws + k) % 2 ^ 64) (draws_same p.workers workers p.chunk chunk alike ns),
  )

  pub tally_told : (r : Result (Vec ArrayValue Global) Stop) (s : State) (w : Ended (List ArrayValue)) → ((n : ℕ) → chunks_of s.phases.workers s.phases.chunk n ≡ chunks_of workers chunk n)
      → Told AreArrays r s w → Tallied old s.phases new → TellsTally r old new (cost_of w) (draws_of workers chunk (phases_of w))
  tally_told (Ok v) s (Done ws k) alike told is = tally_rises s.phases k.phases alike is told.1.phases
  tally_told (Ok v) s (Failed f p) alike told is = elim told [ ]
  tally_told (Err (Faulted f)) s (Done ws k) alike told is = elim told [ ]
  tally_told (Err (Faulted f)) s (Failed g p) alike told is = tally_rises s.phases p alike is told.1
  tally_told (Err Memory) s w alike told is = tt

-- what the tally had is what is kept of it
pub tallied_in : (phases draws : ℕ) (p : PhaseNumbers) (old new : PhaseTotals) → phases ≡ old.phases → draws ≡ old.draws → new ≡ counted_in phases draws p → Tallied old p new
tallied_in phases draws p old new same even is = is ∙ (λ i. counted_in (same i) (even i) p)

-- phases that are cut as a plan says
pub cut_alike : (p : PhaseNumbers) (w : ℕ) (c : Option ℕ) (workers : ℕ) (chunk : Option ℕ) → p.workers ≡ w → p.chunk ≡ c → ((n : ℕ) → chunks_of w c n ≡ chunks_of workers chunk n)
    → (n : ℕ) → chunks_of p.workers p.chunk n ≡ chunks_of workers chunk n
cut_alike p w c workers chunk same even alike n = (λ i. chunks_of (same i) (even i) n) ∙ alike n

-- ---- the answer, once the tally has come back

same_or_memory : {A : Type 0} (answer : Result A Stop) (P : Type 0) → P → OrMemory answer answer P
same_or_memory (Ok a) P holds = (refl, holds)
same_or_memory (Err (Faulted f)) P holds = (refl, holds)
same_or_memory (Err Memory) P holds = tt

pub all_or_memory : {A : Type 0} (answer : Result A Stop) (P Q R : Type 0) → P → Q × R → OrMemory answer answer (P × Q × R)
all_or_memory answer P Q R p q = same_or_memory answer (P × Q × R) (p, q.0, q.1)

pub ended_told : {A : Type 0} (answer result : Result A Stop) (P : Type 0) → OrMemory answer result P → (Q : Result A Stop → Type 0) → Q (Err Memory) → (P → Q answer) → Q result
ended_told answer (Ok a) P ended Q none some = subst Q ended.0 (some ended.1)
ended_told answer (Err (Faulted f)) P ended Q none some = subst Q ended.0 (some ended.1)
ended_told answer (Err Memory) P ended Q none some = none
