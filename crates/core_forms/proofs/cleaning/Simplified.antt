-- Literal variables are bound by constants, and checks that cannot fail are copies.
use Rattle.std.proofs.Common.{◌≡◌, ℕ, List, [], ◌∷◌, ◌++◌, map, get_or, Option, refl, sym, ap, subst, ◌∙◌, All}
use Rattle.std.proofs.lemmas.List.Elements.{All-map}
use Rattle.core_ir.specs.Binders.{bound_in}
use Rattle.core_ir.specs.Meaning.{no_variables, bind_all}
use Rattle.core_ir.specs.Outcome.{param_vars}
use Rattle.core_ir.specs.Terms.{BlockTerm, RightTerm, GensTerm, PartsTerm, FunTerm, CoreTerm, Gives, Bind, Plain, NoGens, Gen, NoParts, Part}
use Rattle.core_ir.specs.WellFormed.{Distinct, IsFunction, IsWellFormed, bases, param_bases}
use Rattle.core_facts.specs.Facts.{Facts, in_part, note_all, right_facts}
use Rattle.core_facts.specs.Settled.{IsSettled, settled, settled_right, settled_gens, settled_parts}
use Rattle.core_facts.specs.calls.Arrays.{SameOutcomeOnArrays}
use Rattle.core_facts.proofs.bases.Bound.{distinct_right}
use Rattle.core_facts.specs.constants.Called.{called, params_facts, settled_core, settled_function}
use Rattle.core_loops.proofs.settled_forms.Cores as cores
use Rattle.core_forms.specs.cleaning.Bodies.{with_bodies}
use Rattle.core_forms.specs.cleaning.Checks.{unchecked, unchecked_right, simplified, simplified_right, simplified_gens, simplified_parts, simplified_core, unchecked_gens, unchecked_parts}
use Rattle.core_forms.proofs.cleaning.Bodies.{KeepsForm, KeepsMeaning, well_formed, same_outcome, same_called}
use Rattle.core_forms.proofs.cleaning.Checks.{block_kept, block_same, bound_kept, calls_kept, same_right_facts, scoped_kept, still_settled}

module _ (known : ℕ → List (Option (List ℕ))) where
  mutual
    simplified_is : (b : BlockTerm) (k : Facts) → simplified known b k ≡ unchecked known (settled known b k) k
    simplified_is (Gives xs) k = refl
    simplified_is (Bind xs s r b) k =
        let n = note_all k xs (right_facts known (settled_right known r k) k) in
        let facts : right_facts known (simplified_right known r k) k ≡ right_facts known (settled_right known r k) k =
        ap (λ z. right_facts known z k) (simplified_right_is r k) ∙ same_right_facts known (settled_right known r k) k in
        let rest : simplified known b (note_all k xs (right_facts known (simplified_right known r k) k)) ≡ unchecked known (settled known b n) n =
        ap (λ fs. simplified known b (note_all k xs fs)) facts ∙ simplified_is b n in
        λ i. Bind xs s (simplified_right_is r k i) (rest i)

    simplified_right_is : (r : RightTerm) (k : Facts) → simplified_right known r k ≡ unchecked_right known (settled_right known r k) k
    simplified_right_is (Plain p) k = refl
    simplified_right_is (RightTerm.If x a b) k = λ i. RightTerm.If x (simplified_is a k i) (simplified_is b k i)
    simplified_right_is (RightTerm.Loop first start params test body s) k =
        λ i. RightTerm.Loop first start params (simplified_is test (note_all k params []) i) (simplified_is body (note_all k params []) i) s
    simplified_right_is (RightTerm.Call g xs) k = refl
    simplified_right_is (RightTerm.With o gens) k = λ i. RightTerm.With o (simplified_gens_is gens k i)
    simplified_right_is (RightTerm.Parted frame base cell o parts) k = λ i. RightTerm.Parted frame base cell o (simplified_parts_is parts k i)

    simplified_gens_is : (gs : GensTerm) (k : Facts) → simplified_gens known gs k ≡ unchecked_gens known (settled_gens known gs k) k
    simplified_gens_is NoGens k = refl
    simplified_gens_is (Gen h b rest) k = λ i. Gen h (simplified_is b (note_all k (h.index ∷ h.names) []) i) (simplified_gens_is rest k i)

    simplified_parts_is : (ps : PartsTerm) (k : Facts) → simplified_parts known ps k ≡ unchecked_parts known (settled_parts known ps k) k
    simplified_parts_is NoParts k = refl
    simplified_parts_is (Part h b rest) k = λ i. Part h (simplified_is b (in_part k h) i) (simplified_parts_is rest k i)

-- ---- checks alone

module _ (core : CoreTerm) where
  abbrev body : FunTerm → BlockTerm
  body f = unchecked (called core) f.body (params_facts f)

  abbrev unchecked_core : CoreTerm
  unchecked_core = with_bodies body core

  form : (f : FunTerm) → IsFunction core f → KeepsForm core f (body f)
  form f is = record {
    once = subst (λ xs. Distinct (param_vars f ++ xs)) (sym (bound_kept (called core) f.body (params_facts f))) is.once;
    scoped = scoped_kept (called core) f.body (params_facts f) (param_vars f) is.scoped;
    agreeing = block_kept (called core) core f.body (param_bases f) (params_facts f) (bases f.results) is.agreeing;
    calls = calls_kept (called core) f.body (params_facts f);
  }

  meaning : (f : FunTerm) → IsFunction core f → KeepsMeaning core f (body f)
  meaning f is turns C args typed fit full env sound =
      block_same core C turns typed (called core) fit f.body (param_bases f) (bases f.results) (params_facts f) (bind_all no_variables (param_vars f) args)
      (record { bases = is.agreeing; once = distinct_right (param_vars f) (bound_in f.body) is.once; full = full; typed = env; sound = sound })

  checks_well : IsWellFormed core → IsWellFormed unchecked_core
  checks_well well = well_formed core body well form

  checks_outcome : IsWellFormed core → SameOutcomeOnArrays core unchecked_core
  checks_outcome well = same_outcome core body well form meaning

  checks_settled : All (λ (f : FunTerm). IsSettled (called core) f.body (params_facts f)) core.functions → All (λ (f : FunTerm). IsSettled (called unchecked_core) f.body (params_facts f)) unchecked_core.functions
  checks_settled h =
      let new : FunTerm → FunTerm = λ f. record f { body = body f } in
      subst (λ c. All (λ (f : FunTerm). IsSettled c f.body (params_facts f)) unchecked_core.functions) (sym (same_called core body))
      (All-map (λ (f : FunTerm). IsSettled (called core) f.body (params_facts f)) new core.functions
      (λ k d inside. let f = get_or core.functions k d in still_settled (called core) f.body (params_facts f) (h k d inside)))

-- ---- both

map_twice : {A : Type 0} (f g h : A → A) (xs : List A) → ((x : A) → h x ≡ g (f x)) → map h xs ≡ map g (map f xs)
map_twice f g h [] e = refl
map_twice f g h (x ∷ xs) e = λ i. e x i ∷ map_twice f g h xs e i

both_at_once : (core : CoreTerm) → simplified_core core ≡ unchecked_core (settled_core core)
both_at_once core =
    let each : (f : FunTerm) → record f { body = simplified (called core) f.body (params_facts f) } ≡ record f { body = unchecked (called (settled_core core)) (settled (called core) f.body (params_facts f)) (params_facts f) } =
    λ f. let e = simplified_is (called core) f.body (params_facts f) ∙ ap (λ c. unchecked c (settled (called core) f.body (params_facts f)) (params_facts f)) (sym (cores.same_called core)) in
    λ i. record f { body = e i } in
    λ i. record core { functions = map_twice (settled_function core) (λ (f : FunTerm). record f { body = unchecked (called (settled_core core)) f.body (params_facts f) }) (λ (f : FunTerm). record f { body = simplified (called core) f.body (params_facts f) }) core.functions each i }

pub simplified_well : (core : CoreTerm) → IsWellFormed core → IsWellFormed (simplified_core core)
simplified_well core well = subst IsWellFormed (sym (both_at_once core)) (checks_well (settled_core core) (cores.well_formed core well))

pub simplified_outcome : (core : CoreTerm) → IsWellFormed core → SameOutcomeOnArrays core (simplified_core core)
simplified_outcome core well =
    subst (SameOutcomeOnArrays core) (sym (both_at_once core))
    (λ args caps full. cores.same_outcome core well args caps full ∙ checks_outcome (settled_core core) (cores.well_formed core well) args caps full)

pub simplified_settled : (core : CoreTerm) → All (λ (f : FunTerm). IsSettled (called (simplified_core core)) f.body (params_facts f)) (simplified_core core).functions
simplified_settled core =
    subst (λ (c : CoreTerm). All (λ (f : FunTerm). IsSettled (called c) f.body (params_facts f)) c.functions) (sym (both_at_once core))
    (checks_settled (settled_core core) (cores.no_other_literal core))
