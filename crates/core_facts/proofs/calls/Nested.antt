-- Cores whose functions mean the same, where inline calls nest as deep as they need, have the same outcome.
use Rattle.std.proofs.Common.{◌≡◌, ℕ, zero, suc, ◌<◌, Bool, true, false, List, [], ◌∷◌, ◌++◌, length, Option, Some, None, refl, sym, ap, subst, ◌∙◌, arith, ◌⊎◌, inl, inr}
use Rattle.std.specs.Prelude.{slice_get, if◌then◌else◌}
use Rattle.sac_base.specs.declared.faults.FaultKind.TheVariants.{F7}
use Rattle.sac_base.specs.declared.site.Site.{Site}
use Rattle.sac_base.specs.Arrays.{ArrayValue}
use Rattle.sac_base.specs.Outcomes.{fault}
use Rattle.sac_base.specs.Types.{all_have}
use Rattle.core_ir.specs.Terms.{FunTerm, CoreTerm}
use Rattle.core_ir.specs.Outcome.{Instance, RunMeaning, param_types, function_value, body_of, instance_of, instances, is_least, least_among, group_at, chosen, run_chosen, call_chosen, call_by, run_inline, run_deeper, call_at, start_of_source, main_value, outcome, SameOutcome, SameHead, SameOutside}
use Rattle.core_ir.proofs.Outcomes.{SameHeadAt}
pub use Rattle.core_ir.proofs.Outcomes.{heads_at, same_count, same_chosen}
use Rattle.core_facts.specs.calls.Nests.{CallsAll, StandsIn, InlineBelow, CallsBelow, SameBodiesNested}
use Rattle.core_facts.proofs.calls.Agreeing.{agreeing, weaker, everywhere}

pub below_length : {A : Type 0} (xs : List A) (i : ℕ) (x : A) → slice_get xs i ≡ Some x → i < length xs
below_length [] i x p = absurd (let q : ◌≡◌ {A = Option _} None (Some x) = p in cc)
below_length (y ∷ ys) zero x p = omega arith
below_length (y ∷ ys) (suc i) x p = let q = below_length ys i x p in omega arith

abbrev number_or : ℕ → Option ℕ → ℕ
number_or n None = n
number_or n (Some m) = m

-- the chosen place is one of the group
pub chosen_in : (all : List Instance) (args : List ArrayValue) (fs : List FunTerm) (places : List ℕ) (place : ℕ) → least_among all args (instances fs places) ≡ Some place → StandsIn places place
chosen_in all args fs [] place p = absurd (let q : ◌≡◌ {A = Option ℕ} None (Some place) = p in cc)
chosen_in all args fs (i ∷ is) place p = go (slice_get fs i) p (λ q. chosen_in all args fs is place q)
  where
    go : (x : Option FunTerm) → least_among all args (instance_of i x ++ instances fs is) ≡ Some place → (least_among all args (instances fs is) ≡ Some place → StandsIn is place) → (i ≡ place) ⊎ StandsIn is place
    go None q r = inr (r q)
    go (Some f) q r = by (is_least all args (record { place = i; types = param_types f })) q
      where
        by : (t : Bool) → (if t then Some i else least_among all args (instances fs is)) ≡ Some place → (i ≡ place) ⊎ StandsIn is place
        by true m = inl (ap (number_or 0) m)
        by false m = inr (r m)

module _ (a b : CoreTerm) (same : SameOutside a b) where
  -- a call by meanings of functions that agree where the group can go
  same_run : (M N M' N' : RunMeaning) (place : ℕ) (x y : Option FunTerm) (args : List ArrayValue) (site : Site) → SameHeadAt x y → M ≡ M' → ((f : FunTerm) → x ≡ Some f → f.is_inline ≡ true → (args : List ArrayValue) (site : Site) → N place args site ≡ N' place args site)
      → run_chosen M N place x args site ≡ run_chosen M' N' place y args site
  same_run M N M' N' place None None args site h p q = refl
  same_run M N M' N' place (Some f) (Some g) args site h p q = go f.is_inline refl ∙ (λ i. if h.inlines i then N' place args site else M' place args site)
    where
      go : (t : Bool) → f.is_inline ≡ t → (if f.is_inline then N place args site else M place args site) ≡ (if f.is_inline then N' place args site else M' place args site)
      go true e = (λ i. if e i then N place args site else M place args site) ∙ q f refl e args site ∙ sym (λ i. if e i then N' place args site else M' place args site)
      go false e = (λ i. if e i then N place args site else M place args site) ∙ (λ i. p i place args site) ∙ sym (λ i. if e i then N' place args site else M' place args site)
  same_run M N M' N' place None (Some g) args site h p q = absurd h
  same_run M N M' N' place (Some f) None args site h p q = absurd h

  pub same_call : (M N M' N' : RunMeaning) (g n : ℕ) → InlineBelow b n g → M ≡ M' → ((place : ℕ) (f : FunTerm) → place < n → slice_get b.functions place ≡ Some f → f.is_inline ≡ true → (args : List ArrayValue) (site : Site) → N place args site ≡ N' place args site)
      → call_by a M N g ≡ call_by b M' N' g
  same_call M N M' N' g n below p q = λ i args site. whole args site i
    where
      at : (o : Option ℕ) (args : List ArrayValue) (site : Site) → ((place : ℕ) → o ≡ Some place → StandsIn (group_at b g) place) → call_chosen a M N o args site ≡ call_chosen b M' N' o args site
      at None args site m = refl
      at (Some place) args site m =
          let heads = heads_at a.functions b.functions same.heads place in
          same_run M N M' N' place (slice_get a.functions place) (slice_get b.functions place) args site heads p
          (λ f e t args site. turn f (slice_get b.functions place) refl (subst (λ x. SameHeadAt x (slice_get b.functions place)) e heads) t (m place refl) args site)
        where
          turn : (f : FunTerm) (y : Option FunTerm) → slice_get b.functions place ≡ y → SameHeadAt (Some f) y → f.is_inline ≡ true → StandsIn (group_at b g) place → (args : List ArrayValue) (site : Site) → N place args site ≡ N' place args site
          turn f None e h t s args site = absurd h
          turn f (Some k) e h t s args site = let inlined = sym h.inlines ∙ t in q place k (below place k s e inlined) e inlined args site

      whole : (args : List ArrayValue) (site : Site) → call_by a M N g args site ≡ call_by b M' N' g args site
      whole args site =
          ap (λ o. call_chosen a M N o args site) (same_chosen a b same g args)
          ∙ at (chosen b g args) args site (λ place e. chosen_in (instances b.functions (group_at b g)) args b.functions (group_at b g) place e)

  module _ (turns : ℕ) (backward : CallsBelow a) (other_backward : CallsBelow b) (bodies : SameBodiesNested a b) where
    body_same : (M M' N N' : RunMeaning) (n place : ℕ) (g : FunTerm) → slice_get b.functions place ≡ Some g → CallsAll (InlineBelow b n) g.body → M ≡ M'
        → ((place : ℕ) (f : FunTerm) → place < n → slice_get b.functions place ≡ Some f → f.is_inline ≡ true → (args : List ArrayValue) (site : Site) → N place args site ≡ N' place args site)
        → (args : List ArrayValue) (site : Site) → body_of turns (call_by a M N) (slice_get b.functions place) args site ≡ body_of turns (call_by b M' N') (slice_get b.functions place) args site
    body_same M M' N N' n place g e calls p q args site =
        let r = agreeing (call_by a M N) (call_by b M' N') turns g.body (weaker (InlineBelow b n) (λ h. call_by a M N h ≡ call_by b M' N' h) (λ h below. same_call M N M' N' h n below p q) g.body calls) in
        (λ i. body_of turns (call_by a M N) (e i) args site)
        ∙ (λ i. Rattle.sac_base.specs.Outcomes.and_then (r i (Rattle.core_ir.specs.Meaning.bind_all Rattle.core_ir.specs.Meaning.no_variables (Rattle.core_ir.specs.Outcome.param_vars g) args)) (Rattle.core_ir.specs.Outcome.results_in g.results g.ends))
        ∙ sym (λ i. body_of turns (call_by b M' N') (e i) args site)

    -- the function of the first core at a place of the second
    other_at : (place : ℕ) (g : FunTerm) (x : Option FunTerm) → slice_get a.functions place ≡ x → slice_get b.functions place ≡ Some g → (f : FunTerm) × (slice_get a.functions place ≡ Some f) × SameHead f g
    other_at place g x e h = go x e (subst (λ y. SameHeadAt x y) h (subst (λ y. SameHeadAt y (slice_get b.functions place)) e (heads_at a.functions b.functions same.heads place)))
      where
        go : (x : Option FunTerm) → slice_get a.functions place ≡ x → SameHeadAt x (Some g) → (f : FunTerm) × (slice_get a.functions place ≡ Some f) × SameHead f g
        go None e m = absurd m
        go (Some f) e m = (f, e, m)

    same_inline : (M M' : RunMeaning) (n : ℕ) → M ≡ M' → (place : ℕ) (g : FunTerm) → place < n → slice_get b.functions place ≡ Some g → g.is_inline ≡ true → (args : List ArrayValue) (site : Site) → run_inline a turns M n place args site ≡ run_inline b turns M' n place args site
    same_inline M M' zero p place g lt e t args site = absurd (omega arith)
    same_inline M M' (suc n) p place g lt e t args site =
        let w = other_at place g (slice_get a.functions place) refl e in
        let low : (h : ℕ) → InlineBelow a place h → InlineBelow a n h = λ h below j k s d i. omega (arith, below j k s d i, lt) in
        let lower : (h : ℕ) → InlineBelow b place h → InlineBelow b n h = λ h below j k s d i. omega (arith, below j k s d i, lt) in
        bodies turns M n place w.0 args site w.1 (weaker (InlineBelow a place) (InlineBelow a n) low w.0.body (backward place w.0 w.1 (w.2.inlines ∙ t)))
        ∙ body_same M M' (run_inline a turns M n) (run_inline b turns M' n) n place g e (weaker (InlineBelow b place) (InlineBelow b n) lower g.body (other_backward place g e t)) p (λ j f lt e t args site. same_inline M M' n p j f lt e t args site) args site

    all_below : (core : CoreTerm) (n : ℕ) → n ≡ length core.functions → (g : ℕ) → InlineBelow core n g
    all_below core n e g place f s h t = omega (arith, below_length core.functions place f h, e)

    -- each function, with inline calls nested as deep as there are functions
    function_same : (M M' : RunMeaning) (place : ℕ) → M ≡ M' → (args : List ArrayValue) (site : Site)
        → body_of turns (call_by a M (run_inline a turns M (length a.functions))) (slice_get a.functions place) args site ≡ body_of turns (call_by b M' (run_inline b turns M' (length b.functions))) (slice_get b.functions place) args site
    function_same M M' place p args site = go (slice_get a.functions place) refl (slice_get b.functions place) refl (heads_at a.functions b.functions same.heads place)
      where
        n : ℕ
        n = length a.functions

        count : length a.functions ≡ length b.functions
        count = same_count a.functions b.functions same.heads

        go : (x : Option FunTerm) → slice_get a.functions place ≡ x → (y : Option FunTerm) → slice_get b.functions place ≡ y → SameHeadAt x y
            → body_of turns (call_by a M (run_inline a turns M (length a.functions))) (slice_get a.functions place) args site ≡ body_of turns (call_by b M' (run_inline b turns M' (length b.functions))) (slice_get b.functions place) args site
        go None e None h m = (λ i. body_of turns (call_by a M (run_inline a turns M (length a.functions))) (e i) args site) ∙ sym (λ i. body_of turns (call_by b M' (run_inline b turns M' (length b.functions))) (h i) args site)
        go None e (Some g) h m = absurd m
        go (Some f) e None h m = absurd m
        go (Some f) e (Some g) h m =
            bodies turns M (length a.functions) place f args site e (everywhere (InlineBelow a (length a.functions)) (all_below a (length a.functions) refl) f.body)
            ∙ body_same M M' (run_inline a turns M (length a.functions)) (run_inline b turns M' (length a.functions)) (length a.functions) place g h (everywhere (InlineBelow b (length a.functions)) (all_below b (length a.functions) count) g.body) p (λ j f lt e t args site. same_inline M M' (length a.functions) p j f lt e t args site) args site
            ∙ (λ i. body_of turns (call_by b M' (run_inline b turns M' (count i))) (slice_get b.functions place) args site)

    same_deeper : (left : ℕ) → run_deeper a turns left ≡ run_deeper b turns left
    same_deeper zero = refl
    same_deeper (suc left) = λ i place args site. function_same (run_deeper a turns left) (run_deeper b turns left) place (same_deeper left) args site i

-- the same outcome
pub outcomes_nested : (a b : CoreTerm) → SameOutside a b → CallsBelow a → CallsBelow b → SameBodiesNested a b → SameOutcome a b
outcomes_nested a b same backward other bodies args caps =
    go (slice_get a.functions a.main) refl (slice_get b.functions a.main) refl (heads_at a.functions b.functions same.heads a.main)
    ∙ (λ i. main_value caps.turns (call_at b caps.turns caps.depth) (slice_get b.functions (same.main i)) args)
  where
    go : (x : Option FunTerm) → slice_get a.functions a.main ≡ x → (y : Option FunTerm) → slice_get b.functions a.main ≡ y → SameHeadAt x y
        → main_value caps.turns (call_at a caps.turns caps.depth) (slice_get a.functions a.main) args ≡ main_value caps.turns (call_at b caps.turns caps.depth) (slice_get b.functions a.main) args
    go None e None h m = (λ i. main_value caps.turns (call_at a caps.turns caps.depth) (e i) args) ∙ sym (λ i. main_value caps.turns (call_at b caps.turns caps.depth) (h i) args)
    go None e (Some g) h m = absurd m
    go (Some f) e None h m = absurd m
    go (Some f) e (Some g) h m =
        let C = call_at a caps.turns caps.depth in
        let D = call_at b caps.turns caps.depth in
        let inside : function_value caps.turns C f args ≡ function_value caps.turns D g args =
        (λ i. body_of caps.turns C (sym e i) args start_of_source)
        ∙ function_same a b same caps.turns backward other bodies (run_deeper a caps.turns caps.depth) (run_deeper b caps.turns caps.depth) a.main (same_deeper a b same caps.turns backward other bodies caps.depth) args start_of_source
        ∙ (λ i. body_of caps.turns D (h i) args start_of_source) in
        (λ i. main_value caps.turns C (e i) args) ∙ (λ i. if all_have (m.types i) args then inside i else fault F7 (m.site i)) ∙ sym (λ i. main_value caps.turns D (h i) args)
