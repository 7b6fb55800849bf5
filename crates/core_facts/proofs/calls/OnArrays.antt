-- Cores whose functions mean the same on arrays of their parameters' types have the same outcome on arrays.
use Rattle.std.proofs.Common.{◌≡◌, ℕ, zero, suc, ◌<◌, Bool, true, false, ◌&&◌, List, [], ◌∷◌, ◌++◌, length, Option, Some, None, Ok, refl, sym, ap, subst, ◌∙◌, arith}
use Rattle.std.specs.Prelude.{slice_get, unwrap_or, if◌then◌else◌}
use Rattle.sac_base.specs.declared.faults.FaultKind.TheVariants.{F7, F10}
use Rattle.sac_base.specs.declared.site.Site.{Site}
use Rattle.sac_base.specs.declared.types.ArrayType.{ArrayType}
use Rattle.sac_base.specs.Arrays.{ArrayValue}
use Rattle.sac_base.specs.Outcomes.{and_then, fault}
use Rattle.sac_base.specs.Types.{all_have}
use Rattle.core_ir.specs.Terms.{FunTerm, CoreTerm}
use Rattle.core_ir.specs.Meaning.{CallMeaning, no_variables, bind_all, run}
use Rattle.core_ir.specs.Outcome.{Instance, RunMeaning, param_types, param_vars, results_in, function_value, body_of, instance_of, instances, is_least, least_among, group_at, chosen, run_chosen, call_chosen, call_by, run_inline, run_deeper, call_at, start_of_source, main_value, SameOutside}
use Rattle.core_ir.proofs.Outcomes.{SameHeadAt}
use Rattle.core_facts.proofs.Shapes.{ok_same, no_ok}
use Rattle.core_facts.proofs.Sound.{then_ok}
use Rattle.core_facts.specs.calls.Nests.{CallsAll, StandsIn, InlineBelow, CallsBelow}
use Rattle.core_facts.specs.calls.Arrays.{AllFull, CallsKeepFull, InTypes, CallsKeep, KeepsArrays, SameBodiesOnArrays, SameOutcomeOnArrays}
use Rattle.core_facts.proofs.calls.Agreeing.{weaker, everywhere}
use Rattle.core_facts.proofs.calls.Full.{full_bound, block_full, agreeing_on}
use Rattle.core_facts.proofs.calls.Nested.{heads_at, same_count, below_length, chosen_in, same_chosen}

-- ---- the chosen instance takes the arguments

both_true : (b c : Bool) → (b && c) ≡ true → b ≡ true
both_true true c h = refl
both_true false c h = absurd (cc)

some_number : (i j : ℕ) → ◌≡◌ {A = Option ℕ} (Some i) (Some j) → i ≡ j
some_number i j p = ap (λ o. unwrap_or o 0) p

some_function : (f g : FunTerm) → ◌≡◌ {A = Option FunTerm} (Some f) (Some g) → f ≡ g
some_function f g p = ap (λ o. unwrap_or o f) p

chosen_fits : (all : List Instance) (args : List ArrayValue) (fs : List FunTerm) (places : List ℕ) (place : ℕ) (f : FunTerm) → least_among all args (instances fs places) ≡ Some place → slice_get fs place ≡ Some f → all_have (param_types f) args ≡ true
chosen_fits all args fs [] place f p e = absurd (let q : ◌≡◌ {A = Option ℕ} None (Some place) = p in cc)
chosen_fits all args fs (i ∷ is) place f p e = go (slice_get fs i) refl p (λ q. chosen_fits all args fs is place f q e)
  where
    go : (x : Option FunTerm) → slice_get fs i ≡ x → least_among all args (instance_of i x ++ instances fs is) ≡ Some place → (least_among all args (instances fs is) ≡ Some place → all_have (param_types f) args ≡ true) → all_have (param_types f) args ≡ true
    go None h q r = r q
    go (Some k) h q r = by (is_least all args (record { place = i; types = param_types k })) refl q
      where
        by : (t : Bool) → is_least all args (record { place = i; types = param_types k }) ≡ t → (if t then Some i else least_among all args (instances fs is)) ≡ Some place → all_have (param_types f) args ≡ true
        by true m n =
            let here : ◌≡◌ {A = Option FunTerm} (Some k) (Some f) = sym h ∙ ap (slice_get fs) (some_number i place n) ∙ e in
            ap (λ g. all_have (param_types g) args) (sym (some_function k f here)) ∙ both_true (all_have (param_types k) args) _ m
        by false m n = r n

-- ---- functions give arrays

-- what a function gives is declared
abbrev Declared : CoreTerm → ℕ → List ArrayValue → Type 0
Declared core place vs = (f : FunTerm) × ((slice_get core.functions place ≡ Some f) × (all_have f.results vs ≡ true))

abbrev RunKeeps : CoreTerm → RunMeaning → Type 0
RunKeeps core M = (place : ℕ) (args vs : List ArrayValue) (site : Site) → M place args site ≡ Ok vs → (AllFull args → AllFull vs) × Declared core place vs

results_ok : (types : List ArrayType) (site : Site) (ws vs : List ArrayValue) → results_in types site ws ≡ Ok vs → (ws ≡ vs) × (all_have types ws ≡ true)
results_ok types site ws vs p = go (all_have types ws) refl p
  where
    go : (t : Bool) → all_have types ws ≡ t → (if t then Ok ws else fault F7 site) ≡ Ok vs → (ws ≡ vs) × (all_have types ws ≡ true)
    go true e m = (ok_same ws vs m, e)
    go false e m = absurd (no_ok (record { kind = F7; site = site }) vs m)

full_only : (core : CoreTerm) (calls : CallMeaning) → CallsKeep core calls → CallsKeepFull calls
full_only core calls k g args vs s d p = (k g args vs s p).0 d

body_keeps : (core : CoreTerm) (turns : ℕ) (calls : CallMeaning) (place : ℕ) (x : Option FunTerm) → KeepsArrays core → CallsKeepFull calls → slice_get core.functions place ≡ x → (args vs : List ArrayValue) (site : Site) → body_of turns calls x args site ≡ Ok vs → (AllFull args → AllFull vs) × Declared core place vs
body_keeps core turns calls place None k c e args vs site p = absurd (no_ok (record { kind = F7; site = site }) vs p)
body_keeps core turns calls place (Some f) k c e args vs site p =
    let env = bind_all no_variables (param_vars f) args in
    let t = then_ok (run calls turns f.body env) (results_in f.results f.ends) vs p in
    let w = results_ok f.results f.ends t.0 vs t.2 in
    ((λ d. subst AllFull w.0 (block_full calls turns f.body env t.0 (k calls turns place f c e) (full_bound no_variables (param_vars f) args (λ y. refl) d) t.1)), (f, (e, (λ i. all_have f.results (sym w.0 i)) ∙ w.1)))

module _ (core : CoreTerm) where
  call_keeps : (M N : RunMeaning) → RunKeeps core M → RunKeeps core N → CallsKeep core (call_by core M N)
  call_keeps M N m n g args vs s p =
      go (chosen core g args) (λ place e. chosen_in (instances core.functions (group_at core g)) args core.functions (group_at core g) place e)
      (λ place f e h. chosen_fits (instances core.functions (group_at core g)) args core.functions (group_at core g) place f e h) p
    where
      at : (place : ℕ) (x : Option FunTerm) → run_chosen M N place x args s ≡ Ok vs → (AllFull args → AllFull vs) × Declared core place vs
      at place None q = absurd (no_ok (record { kind = F7; site = s }) vs q)
      at place (Some f) q = by f.is_inline q
        where
          by : (t : Bool) → (if t then N place args s else M place args s) ≡ Ok vs → (AllFull args → AllFull vs) × Declared core place vs
          by true r = n place args vs s r
          by false r = m place args vs s r

      go : (o : Option ℕ) → ((place : ℕ) → o ≡ Some place → StandsIn (group_at core g) place) → ((place : ℕ) (f : FunTerm) → o ≡ Some place → slice_get core.functions place ≡ Some f → all_have (param_types f) args ≡ true) → call_chosen core M N o args s ≡ Ok vs → (AllFull args → AllFull vs) × InTypes core g args vs
      go None h fits q = absurd (no_ok (record { kind = F7; site = s }) vs q)
      go (Some place) h fits q = let w = at place (slice_get core.functions place) q in (w.0, (place, (w.1.0, (h place refl, w.1.1.0, w.1.1.1, fits place w.1.0 refl w.1.1.0))))

  inline_keeps : (turns : ℕ) (M : RunMeaning) (n : ℕ) → KeepsArrays core → RunKeeps core M → RunKeeps core (run_inline core turns M n)
  inline_keeps turns M zero k m place args vs site p = absurd (no_ok (record { kind = F10; site = site }) vs p)
  inline_keeps turns M (suc n) k m place args vs site p =
      body_keeps core turns (call_by core M (run_inline core turns M n)) place (slice_get core.functions place) k (full_only core (call_by core M (run_inline core turns M n)) (call_keeps M (run_inline core turns M n) m (λ place args vs site p. inline_keeps turns M n k m place args vs site p))) refl args vs site p

  whole_keeps : (turns : ℕ) (M : RunMeaning) → KeepsArrays core → RunKeeps core M → CallsKeep core (call_by core M (run_inline core turns M (length core.functions)))
  whole_keeps turns M k m = call_keeps M (run_inline core turns M (length core.functions)) m (inline_keeps turns M (length core.functions) k m)

  deeper_keeps : (turns left : ℕ) → KeepsArrays core → RunKeeps core (run_deeper core turns left)
  deeper_keeps turns zero k place args vs site p = absurd (no_ok (record { kind = F10; site = site }) vs p)
  deeper_keeps turns (suc left) k place args vs site p =
      body_keeps core turns (call_by core (run_deeper core turns left) (run_inline core turns (run_deeper core turns left) (length core.functions))) place (slice_get core.functions place) k
      (full_only core (call_by core (run_deeper core turns left) (run_inline core turns (run_deeper core turns left) (length core.functions))) (whole_keeps turns (run_deeper core turns left) k (λ place args vs site p. deeper_keeps turns left k place args vs site p))) refl args vs site p

-- ---- two cores

module _ (a b : CoreTerm) (same : SameOutside a b) where
  abbrev SameOuter : RunMeaning → RunMeaning → Type 0
  SameOuter M M' = (place : ℕ) (f : FunTerm) (args : List ArrayValue) (site : Site) → slice_get a.functions place ≡ Some f → AllFull args → all_have (param_types f) args ≡ true → M place args site ≡ M' place args site

  abbrev SameInner : ℕ → RunMeaning → RunMeaning → Type 0
  SameInner n N N' = (place : ℕ) (f g : FunTerm) (args : List ArrayValue) (site : Site) → place < n → slice_get a.functions place ≡ Some f → slice_get b.functions place ≡ Some g → g.is_inline ≡ true → AllFull args → all_have (param_types f) args ≡ true → N place args site ≡ N' place args site

  same_run_on : (M N M' N' : RunMeaning) (n place : ℕ) (x y : Option FunTerm) (args : List ArrayValue) (site : Site) → slice_get a.functions place ≡ x → slice_get b.functions place ≡ y → SameHeadAt x y
      → ((f : FunTerm) → x ≡ Some f → all_have (param_types f) args ≡ true) → ((g : FunTerm) → y ≡ Some g → g.is_inline ≡ true → place < n) → AllFull args → SameOuter M M' → SameInner n N N'
      → run_chosen M N place x args site ≡ run_chosen M' N' place y args site
  same_run_on M N M' N' n place None None args site ex ey h fits low d p q = refl
  same_run_on M N M' N' n place None (Some g) args site ex ey h fits low d p q = absurd h
  same_run_on M N M' N' n place (Some f) None args site ex ey h fits low d p q = absurd h
  same_run_on M N M' N' n place (Some f) (Some g) args site ex ey h fits low d p q = go f.is_inline refl ∙ (λ i. if h.inlines i then N' place args site else M' place args site)
    where
      go : (t : Bool) → f.is_inline ≡ t → (if f.is_inline then N place args site else M place args site) ≡ (if f.is_inline then N' place args site else M' place args site)
      go true e =
          let inlined = sym h.inlines ∙ e in
          (λ i. if e i then N place args site else M place args site) ∙ q place f g args site (low g refl inlined) ex ey inlined d (fits f refl) ∙ sym (λ i. if e i then N' place args site else M' place args site)
      go false e = (λ i. if e i then N place args site else M place args site) ∙ p place f args site ex d (fits f refl) ∙ sym (λ i. if e i then N' place args site else M' place args site)

  same_call_on : (M N M' N' : RunMeaning) (g n : ℕ) → InlineBelow b n g → SameOuter M M' → SameInner n N N' → (args : List ArrayValue) (site : Site) → AllFull args → call_by a M N g args site ≡ call_by b M' N' g args site
  same_call_on M N M' N' g n below p q args site d =
      at (chosen a g args)
      (λ place f m e. chosen_fits (instances a.functions (group_at a g)) args a.functions (group_at a g) place f m e)
      (λ place m. chosen_in (instances b.functions (group_at b g)) args b.functions (group_at b g) place (sym (same_chosen a b same g args) ∙ m))
      ∙ ap (λ o. call_chosen b M' N' o args site) (same_chosen a b same g args)
    where
      at : (o : Option ℕ) → ((place : ℕ) (f : FunTerm) → o ≡ Some place → slice_get a.functions place ≡ Some f → all_have (param_types f) args ≡ true) → ((place : ℕ) → o ≡ Some place → StandsIn (group_at b g) place) → call_chosen a M N o args site ≡ call_chosen b M' N' o args site
      at None fits m = refl
      at (Some place) fits m =
          same_run_on M N M' N' n place (slice_get a.functions place) (slice_get b.functions place) args site refl refl (heads_at a.functions b.functions same.heads place)
          (λ f e. fits place f refl e) (λ k e t. below place k (m place refl) e t) d p q

  module _ (turns : ℕ) (backward : CallsBelow a) (other_backward : CallsBelow b) (arrays : KeepsArrays a) (other_arrays : KeepsArrays b) (bodies : SameBodiesOnArrays a b) where
    body_same_on : (M M' N N' : RunMeaning) (n place : ℕ) (g : FunTerm) → slice_get b.functions place ≡ Some g → CallsAll (InlineBelow b n) g.body → CallsKeep a (call_by a M N) → SameOuter M M' → SameInner n N N'
        → (args : List ArrayValue) (site : Site) → AllFull args → body_of turns (call_by a M N) (slice_get b.functions place) args site ≡ body_of turns (call_by b M' N') (slice_get b.functions place) args site
    body_same_on M M' N N' n place g e calls keep p q args site d =
        let env = bind_all no_variables (param_vars g) args in
        let r = agreeing_on (call_by a M N) (call_by b M' N') turns g.body env (other_arrays (call_by a M N) turns place g (full_only a (call_by a M N) keep) e)
        (weaker (InlineBelow b n) (λ h. (args : List ArrayValue) (s : Site) → AllFull args → call_by a M N h args s ≡ call_by b M' N' h args s) (λ h below args s d. same_call_on M N M' N' h n below p q args s d) g.body calls)
        (full_bound no_variables (param_vars g) args (λ y. refl) d) in
        (λ i. body_of turns (call_by a M N) (e i) args site) ∙ (λ i. and_then (r i) (results_in g.results g.ends)) ∙ sym (λ i. body_of turns (call_by b M' N') (e i) args site)

    same_inline_on : (M M' : RunMeaning) (n : ℕ) → RunKeeps a M → SameOuter M M' → SameInner n (run_inline a turns M n) (run_inline b turns M' n)
    same_inline_on M M' zero keep p place f g args site lt ef eg t d fits = absurd (omega arith)
    same_inline_on M M' (suc n) keep p place f g args site lt ef eg t d fits =
        let heads : SameHeadAt (Some f) (Some g) = subst (λ y. SameHeadAt (Some f) y) eg (subst (λ y. SameHeadAt y (slice_get b.functions place)) ef (heads_at a.functions b.functions same.heads place)) in
        let low : (h : ℕ) → InlineBelow a place h → InlineBelow a n h = λ h below j k s e i. omega (arith, below j k s e i, lt) in
        let lower : (h : ℕ) → InlineBelow b place h → InlineBelow b n h = λ h below j k s e i. omega (arith, below j k s e i, lt) in
        let kept = call_keeps a M (run_inline a turns M n) keep (inline_keeps a turns M n arrays keep) in
        bodies turns M n place f args site ef (weaker (InlineBelow a place) (InlineBelow a n) low f.body (backward place f ef (heads.inlines ∙ t))) kept d fits
        ∙ body_same_on M M' (run_inline a turns M n) (run_inline b turns M' n) n place g eg (weaker (InlineBelow b place) (InlineBelow b n) lower g.body (other_backward place g eg t)) kept p
        (λ j f g args site lt ef eg t d fits. same_inline_on M M' n keep p j f g args site lt ef eg t d fits) args site d

    all_below : (core : CoreTerm) (n : ℕ) → n ≡ length core.functions → (g : ℕ) → InlineBelow core n g
    all_below core n e g place f s h t = omega (arith, below_length core.functions place f h, e)

    function_same_on : (M M' : RunMeaning) (place : ℕ) (f : FunTerm) → RunKeeps a M → SameOuter M M' → slice_get a.functions place ≡ Some f → (args : List ArrayValue) (site : Site) → AllFull args → all_have (param_types f) args ≡ true
        → body_of turns (call_by a M (run_inline a turns M (length a.functions))) (slice_get a.functions place) args site ≡ body_of turns (call_by b M' (run_inline b turns M' (length b.functions))) (slice_get b.functions place) args site
    function_same_on M M' place f keep p e args site d fits = go (slice_get b.functions place) refl (subst (λ y. SameHeadAt y (slice_get b.functions place)) e (heads_at a.functions b.functions same.heads place))
      where
        count : length a.functions ≡ length b.functions
        count = same_count a.functions b.functions same.heads

        go : (y : Option FunTerm) → slice_get b.functions place ≡ y → SameHeadAt (Some f) y
            → body_of turns (call_by a M (run_inline a turns M (length a.functions))) (slice_get a.functions place) args site ≡ body_of turns (call_by b M' (run_inline b turns M' (length b.functions))) (slice_get b.functions place) args site
        go None h m = absurd m
        go (Some g) h m =
            let kept = whole_keeps a turns M arrays keep in
            bodies turns M (length a.functions) place f args site e (everywhere (InlineBelow a (length a.functions)) (all_below a (length a.functions) refl) f.body) kept d fits
            ∙ body_same_on M M' (run_inline a turns M (length a.functions)) (run_inline b turns M' (length a.functions)) (length a.functions) place g h (everywhere (InlineBelow b (length a.functions)) (all_below b (length a.functions) count) g.body) kept p (same_inline_on M M' (length a.functions) keep p) args site d
            ∙ (λ i. body_of turns (call_by b M' (run_inline b turns M' (count i))) (slice_get b.functions place) args site)

    same_deeper_on : (left : ℕ) → SameOuter (run_deeper a turns left) (run_deeper b turns left)
    same_deeper_on zero place f args site e d fits = refl
    same_deeper_on (suc left) place f args site e d fits =
        function_same_on (run_deeper a turns left) (run_deeper b turns left) place f (deeper_keeps a turns left arrays) (λ place f args site e d fits. same_deeper_on left place f args site e d fits) e args site d fits

-- the same outcome on arrays
pub outcomes_on_arrays : (a b : CoreTerm) → SameOutside a b → CallsBelow a → CallsBelow b → KeepsArrays a → KeepsArrays b → SameBodiesOnArrays a b → SameOutcomeOnArrays a b
outcomes_on_arrays a b same backward other arrays other_arrays bodies args caps d =
    go (slice_get a.functions a.main) refl (slice_get b.functions a.main) refl (heads_at a.functions b.functions same.heads a.main)
    ∙ (λ i. main_value caps.turns (call_at b caps.turns caps.depth) (slice_get b.functions (same.main i)) args)
  where
    go : (x : Option FunTerm) → slice_get a.functions a.main ≡ x → (y : Option FunTerm) → slice_get b.functions a.main ≡ y → SameHeadAt x y
        → main_value caps.turns (call_at a caps.turns caps.depth) (slice_get a.functions a.main) args ≡ main_value caps.turns (call_at b caps.turns caps.depth) (slice_get b.functions a.main) args
    go None e None h m = (λ i. main_value caps.turns (call_at a caps.turns caps.depth) (e i) args) ∙ sym (λ i. main_value caps.turns (call_at b caps.turns caps.depth) (h i) args)
    go None e (Some g) h m = absurd m
    go (Some f) e None h m = absurd m
    go (Some f) e (Some g) h m =
        (λ i. main_value caps.turns (call_at a caps.turns caps.depth) (e i) args) ∙ by (all_have (param_types f) args) refl ∙ (λ i. if all_have (m.types i) args then function_value caps.turns (call_at b caps.turns caps.depth) g args else fault F7 (m.site i)) ∙ sym (λ i. main_value caps.turns (call_at b caps.turns caps.depth) (h i) args)
      where
        by : (t : Bool) → all_have (param_types f) args ≡ t → (if all_have (param_types f) args then function_value caps.turns (call_at a caps.turns caps.depth) f args else fault F7 f.site) ≡ (if all_have (param_types f) args then function_value caps.turns (call_at b caps.turns caps.depth) g args else fault F7 f.site)
        by false q = (λ i. if q i then function_value caps.turns (call_at a caps.turns caps.depth) f args else fault F7 f.site) ∙ sym (λ i. if q i then function_value caps.turns (call_at b caps.turns caps.depth) g args else fault F7 f.site)
        by true q =
            let inside : function_value caps.turns (call_at a caps.turns caps.depth) f args ≡ function_value caps.turns (call_at b caps.turns caps.depth) g args =
            (λ i. body_of caps.turns (call_at a caps.turns caps.depth) (sym e i) args start_of_source)
            ∙ function_same_on a b same caps.turns backward other arrays other_arrays bodies (run_deeper a caps.turns caps.depth) (run_deeper b caps.turns caps.depth) a.main f (deeper_keeps a caps.turns caps.depth arrays) (same_deeper_on a b same caps.turns backward other arrays other_arrays bodies caps.depth) e args start_of_source d q
            ∙ (λ i. body_of caps.turns (call_at b caps.turns caps.depth) (h i) args start_of_source) in
            (λ i. if q i then function_value caps.turns (call_at a caps.turns caps.depth) f args else fault F7 f.site) ∙ inside ∙ sym (λ i. if q i then function_value caps.turns (call_at b caps.turns caps.depth) g args else fault F7 f.site)
