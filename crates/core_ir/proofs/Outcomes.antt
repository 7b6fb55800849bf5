-- Cores whose functions mean the same have the same outcome.
use Rattle.std.proofs.Common.{◌≡◌, ℕ, zero, suc, List, [], ◌∷◌, ◌++◌, length, Option, Some, None, refl, ap, ◌∙◌}
use Rattle.std.specs.Prelude.{slice_get, unwrap_or, if◌then◌else◌}
use Rattle.sac_base.specs.declared.faults.FaultKind.TheVariants.{F7}
use Rattle.sac_base.specs.declared.site.Site.{Site}
use Rattle.sac_base.specs.Arrays.{ArrayValue}
use Rattle.sac_base.specs.Outcomes.{fault}
use Rattle.sac_base.specs.Types.{all_have}
use Rattle.core_ir.specs.Terms.{FunTerm, CoreTerm}
use Rattle.core_ir.specs.Meaning.{CallMeaning}
use Rattle.core_ir.specs.Outcome.{RunMeaning, function_value, body_of, instance_of, instances, least_among, group_at, chosen, run_chosen, call_chosen, call_by, run_inline, run_deeper, call_at, start_of_source, main_value, SameOutcome, SameHead, SameHeads, SameOutside, SameFunction, SameFunctions, SameBodies}

-- both are there and look the same from outside, or neither is
abbrev pub SameHeadAt : Option FunTerm → Option FunTerm → Type 0
SameHeadAt None None = Unit {0}
SameHeadAt (Some f) (Some g) = SameHead f g
SameHeadAt _ _ = ⊥

pub heads_at : (fs gs : List FunTerm) → SameHeads fs gs → (i : ℕ) → SameHeadAt (slice_get fs i) (slice_get gs i)
heads_at [] [] h i = tt
heads_at (f ∷ fs) (g ∷ gs) h zero = h.0
heads_at (f ∷ fs) (g ∷ gs) h (suc i) = heads_at fs gs h.1 i
heads_at [] (g ∷ gs) h i = absurd h
heads_at (f ∷ fs) [] h i = absurd h

pub same_count : (fs gs : List FunTerm) → SameHeads fs gs → length fs ≡ length gs
same_count [] [] h = refl
same_count (f ∷ fs) (g ∷ gs) h = ap suc (same_count fs gs h.1)
same_count [] (g ∷ gs) h = absurd h
same_count (f ∷ fs) [] h = absurd h

same_instance : (place : ℕ) (x y : Option FunTerm) → SameHeadAt x y → instance_of place x ≡ instance_of place y
same_instance place None None h = refl
same_instance place (Some f) (Some g) h = λ i. record { place = place; types = h.types i } ∷ []
same_instance place None (Some g) h = absurd h
same_instance place (Some f) None h = absurd h

same_instances : (fs gs : List FunTerm) (group : List ℕ) → SameHeads fs gs → instances fs group ≡ instances gs group
same_instances fs gs [] h = refl
same_instances fs gs (i ∷ is) h = λ j. same_instance i _ _ (heads_at fs gs h i) j ++ same_instances fs gs is h j

same_run : (M N M' N' : RunMeaning) (place : ℕ) (x y : Option FunTerm) (args : List ArrayValue) (site : Site) → SameHeadAt x y → M ≡ M' → N ≡ N' → run_chosen M N place x args site ≡ run_chosen M' N' place y args site
same_run M N M' N' place None None args site h p q = refl
same_run M N M' N' place (Some f) (Some g) args site h p q = λ i. if h.inlines i then q i place args site else p i place args site
same_run M N M' N' place None (Some g) args site h p q = absurd h
same_run M N M' N' place (Some f) None args site h p q = absurd h

main_same : (turns : ℕ) (C D : CallMeaning) (x y : Option FunTerm) (args : List ArrayValue) → SameHeadAt x y → C ≡ D → body_of turns C x args start_of_source ≡ body_of turns C y args start_of_source → main_value turns C x args ≡ main_value turns D y args
main_same turns C D None None args h p q = refl
main_same turns C D (Some f) (Some g) args h p q = λ i. if all_have (h.types i) args then (q ∙ (λ j. function_value turns (p j) g args)) i else fault F7 (h.site i)
main_same turns C D None (Some g) args h p q = absurd h
main_same turns C D (Some f) None args h p q = absurd h

module _ (a b : CoreTerm) (same : SameOutside a b) where
  pub same_chosen : (group : ℕ) (args : List ArrayValue) → chosen a group args ≡ chosen b group args
  same_chosen group args =
      let p : instances a.functions (group_at a group) ≡ instances b.functions (group_at b group) = same_instances a.functions b.functions (group_at a group) same.heads ∙ (λ i. instances b.functions (unwrap_or (slice_get (same.groups i) group) [])) in
      λ i. least_among (p i) args (p i)

  same_call : (M N M' N' : RunMeaning) (place : Option ℕ) (args : List ArrayValue) (site : Site) → M ≡ M' → N ≡ N' → call_chosen a M N place args site ≡ call_chosen b M' N' place args site
  same_call M N M' N' None args site p q = refl
  same_call M N M' N' (Some i) args site p q = same_run M N M' N' i _ _ args site (heads_at a.functions b.functions same.heads i) p q

  pub same_calls : (M N M' N' : RunMeaning) → M ≡ M' → N ≡ N' → call_by a M N ≡ call_by b M' N'
  same_calls M N M' N' p q =
      λ i group args site. (ap (λ place. call_chosen a M N place args site) (same_chosen group args) ∙ same_call M N M' N' (chosen b group args) args site p q) i

  module _ (turns : ℕ) (bodies : SameBodies a b) where
    same_inline : (M M' : RunMeaning) (nest : ℕ) → M ≡ M' → run_inline a turns M nest ≡ run_inline b turns M' nest
    same_inline M M' zero p = refl
    same_inline M M' (suc n) p =
        let q = same_calls M (run_inline a turns M n) M' (run_inline b turns M' n) p (same_inline M M' n p) in
        λ i place args site. (bodies turns M n place args site ∙ (λ j. body_of turns (q j) (slice_get b.functions place) args site)) i

    same_at : (M M' : RunMeaning) → M ≡ M' → call_by a M (run_inline a turns M (length a.functions)) ≡ call_by b M' (run_inline b turns M' (length b.functions))
    same_at M M' p =
        let count = same_count a.functions b.functions same.heads in
        same_calls M _ M' _ p (same_inline M M' (length a.functions) p ∙ (λ j. run_inline b turns M' (count j)))

    same_deeper : (left : ℕ) → run_deeper a turns left ≡ run_deeper b turns left
    same_deeper zero = refl
    same_deeper (suc left) =
        let q = same_at (run_deeper a turns left) (run_deeper b turns left) (same_deeper left) in
        λ i place args site. (bodies turns (run_deeper a turns left) (length a.functions) place args site ∙ (λ j. body_of turns (q j) (slice_get b.functions place) args site)) i

-- the same outcome, if each function means the same where calls are those of the first core
pub outcomes_by : (a b : CoreTerm) → SameOutside a b → SameBodies a b → SameOutcome a b
outcomes_by a b same bodies args caps =
    let M = run_deeper a caps.turns caps.depth in
    let q = same_at a b same caps.turns bodies M (run_deeper b caps.turns caps.depth) (same_deeper a b same caps.turns bodies caps.depth) in
    let e = bodies caps.turns M (length a.functions) a.main args start_of_source in
    main_same caps.turns (call_at a caps.turns caps.depth) (call_at b caps.turns caps.depth) (slice_get a.functions a.main) (slice_get b.functions a.main) args (heads_at a.functions b.functions same.heads a.main) q e
    ∙ (λ i. main_value caps.turns (call_at b caps.turns caps.depth) (slice_get b.functions (same.main i)) args)

heads_of : (fs gs : List FunTerm) → SameFunctions fs gs → SameHeads fs gs
heads_of [] [] h = tt
heads_of (f ∷ fs) (g ∷ gs) h = (h.0.head, heads_of fs gs h.1)
heads_of [] (g ∷ gs) h = absurd h
heads_of (f ∷ fs) [] h = absurd h

bodies_of : (fs gs : List FunTerm) → SameFunctions fs gs → (turns : ℕ) (call : CallMeaning) (i : ℕ) (args : List ArrayValue) (site : Site) → body_of turns call (slice_get fs i) args site ≡ body_of turns call (slice_get gs i) args site
bodies_of [] [] h turns call i args site = refl
bodies_of (f ∷ fs) (g ∷ gs) h turns call zero args site = h.0.means turns call args
bodies_of (f ∷ fs) (g ∷ gs) h turns call (suc i) args site = bodies_of fs gs h.1 turns call i args site
bodies_of [] (g ∷ gs) h turns call i args site = absurd h
bodies_of (f ∷ fs) [] h turns call i args site = absurd h

-- the same outcome, function by function
pub outcomes_each : (a b : CoreTerm) → a.groups ≡ b.groups → a.main ≡ b.main → SameFunctions a.functions b.functions → SameOutcome a b
outcomes_each a b g m h =
    outcomes_by a b (record { groups = g; main = m; heads = heads_of _ _ h }) (λ turns outer nest place args site. bodies_of _ _ h turns (call_by a outer (run_inline a turns outer nest)) place args site)

pub same_functions-refl : (fs : List FunTerm) → SameFunctions fs fs
same_functions-refl [] = tt
same_functions-refl (f ∷ fs) = (record { head = record { site = refl; types = refl; inlines = refl }; means = λ turns call args. refl }, same_functions-refl fs)

-- one function after those that are done is replaced
pub same_functions_turn : (whole done : List FunTerm) (x y : FunTerm) (rest : List FunTerm) → SameFunctions whole (done ++ (x ∷ rest)) → SameFunction x y → SameFunctions whole (done ++ (y ∷ rest))
same_functions_turn (w ∷ ws) [] x y rest h k =
    (record { head = record { site = h.0.head.site ∙ k.head.site; types = h.0.head.types ∙ k.head.types; inlines = h.0.head.inlines ∙ k.head.inlines }; means = λ turns call args. h.0.means turns call args ∙ k.means turns call args }, h.1)
same_functions_turn (w ∷ ws) (d ∷ ds) x y rest h k = (h.0, same_functions_turn ws ds x y rest h.1 k)
same_functions_turn [] [] x y rest h k = absurd h
same_functions_turn [] (d ∷ ds) x y rest h k = absurd h
