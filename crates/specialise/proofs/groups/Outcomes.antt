-- A core with further instances has the same outcome.
use Rattle.std.proofs.Common.{◌≡◌, ℕ, zero, suc, ◌<◌, Bool, true, false, List, length, Option, Some, None, refl, sym, ap, ◌∙◌, arith}
use Rattle.std.specs.Prelude.{slice_get, option_map, if◌then◌else◌}
use Rattle.std.proofs.lemmas.Option.{slice_get_within}
use Rattle.sac_base.specs.declared.faults.Caps.{Caps}
use Rattle.sac_base.specs.declared.faults.FaultKind.TheVariants.{F7}
use Rattle.sac_base.specs.declared.site.Site.{Site}
use Rattle.sac_base.specs.Arrays.{ArrayValue}
use Rattle.sac_base.specs.Outcomes.{and_then, fault}
use Rattle.sac_base.specs.Types.{all_have}
use Rattle.core_ir.specs.Terms.{FunTerm, CoreTerm}
use Rattle.core_ir.specs.Meaning.{bind_all, no_variables, run}
use Rattle.core_ir.specs.Outcome.{RunMeaning, param_types, param_vars, function_value, body_of, results_in, chosen, run_chosen, call_chosen, call_by, run_inline, run_deeper, call_at, start_of_source, main_value, outcome}
use Rattle.core_ir.specs.WellFormed.{IsWellFormed}
use Rattle.core_facts.specs.calls.Nests.{CallsAll, InlineBelow}
use Rattle.core_facts.proofs.calls.Agreeing.{agreeing, weaker, everywhere}
use Rattle.core_facts.proofs.bases.Backward.{below}
use Rattle.specialise.specs.groups.Specialised.{IsCopy, IsSpecialised}
use Rattle.specialise.proofs.groups.Choice.{Chosen, decided, down, chosen_same}

module _ (a b : CoreTerm) (well : IsWellFormed a) (s : IsSpecialised a b) where
  -- functions mean what their sources mean
  abbrev SameOuter : RunMeaning → RunMeaning → Type 0
  SameOuter M M' = (place : ℕ) (g : FunTerm) → slice_get b.functions place ≡ Some g → (args : List ArrayValue) (site : Site) → M (s.of place) args site ≡ M' place args site

  -- inline ones do, whose sources stand below a place
  abbrev SameInner : ℕ → RunMeaning → RunMeaning → Type 0
  SameInner m N N' = (place : ℕ) (g : FunTerm) → slice_get b.functions place ≡ Some g → g.is_inline ≡ true → s.of place < m → (args : List ArrayValue) (site : Site) → N (s.of place) args site ≡ N' place args site

  call_same : (M N M' N' : RunMeaning) (m group : ℕ) → InlineBelow a m group → SameOuter M M' → SameInner m N N' → call_by a M N group ≡ call_by b M' N' group
  call_same M N M' N' m group low p q = λ i args site. whole args site i
    where
      at : (o : Option ℕ) (args : List ArrayValue) (site : Site) → Chosen b group args o → call_chosen a M N (option_map s.of o) args site ≡ call_chosen b M' N' o args site
      at None args site v = refl
      at (Some place) args site v = (λ i. run_chosen M N (s.of place) (w.1.0 i) args site) ∙ by g.is_inline refl ∙ sym (λ i. run_chosen M' N' place (v.1.there i) args site)
        where
          g : FunTerm
          g = v.0

          w : (f : FunTerm) × ((slice_get a.functions (s.of place) ≡ Some f) × IsCopy f v.0)
          w = s.source place v.0 v.1.there

          by : (t : Bool) → g.is_inline ≡ t → (if (w.0).is_inline then N (s.of place) args site else M (s.of place) args site) ≡ (if g.is_inline then N' place args site else M' place args site)
          by true e =
              (λ i. if (w.1.1.inlines ∙ e) i then N (s.of place) args site else M (s.of place) args site)
              ∙ q place g v.1.there e (low (s.of place) w.0 (down a b well s group args place v.0 v.1).1.stands w.1.0 (w.1.1.inlines ∙ e)) args site
              ∙ sym (λ i. if e i then N' place args site else M' place args site)
          by false e =
              (λ i. if (w.1.1.inlines ∙ e) i then N (s.of place) args site else M (s.of place) args site)
              ∙ p place g v.1.there args site
              ∙ sym (λ i. if e i then N' place args site else M' place args site)

      whole : (args : List ArrayValue) (site : Site) → call_by a M N group args site ≡ call_by b M' N' group args site
      whole args site = ap (λ o. call_chosen a M N o args site) (sym (chosen_same a b well s group args)) ∙ at (chosen b group args) args site (decided b group args)

  module _ (turns : ℕ) where
    body_same : (M N M' N' : RunMeaning) (m place : ℕ) (f g : FunTerm) → slice_get a.functions (s.of place) ≡ Some f → slice_get b.functions place ≡ Some g → IsCopy f g → CallsAll (InlineBelow a m) f.body → SameOuter M M' → SameInner m N N'
        → (args : List ArrayValue) (site : Site) → body_of turns (call_by a M N) (slice_get a.functions (s.of place)) args site ≡ body_of turns (call_by b M' N') (slice_get b.functions place) args site
    body_same M N M' N' m place f g ef eg k calls p q args site =
        let C = call_by a M N in
        let D = call_by b M' N' in
        let r : run C turns f.body ≡ run D turns f.body =
        agreeing C D turns f.body (weaker (InlineBelow a m) (λ h. C h ≡ D h) (λ h low. call_same M N M' N' m h low p q) f.body calls) in
        (λ i. body_of turns C (ef i) args site)
        ∙ (λ i. and_then (r i (bind_all no_variables (param_vars f) args)) (results_in f.results f.ends))
        ∙ (λ i. and_then (run D turns (k.body i) (bind_all no_variables (k.vars i) args)) (results_in (k.results i) (k.ends i)))
        ∙ sym (λ i. body_of turns D (eg i) args site)

    inline_same : (M M' : RunMeaning) (n m : ℕ) → SameOuter M M' → (place : ℕ) (g : FunTerm) → slice_get b.functions place ≡ Some g → g.is_inline ≡ true → s.of place < n → place < m
        → (args : List ArrayValue) (site : Site) → run_inline a turns M n (s.of place) args site ≡ run_inline b turns M' m place args site
    inline_same M M' zero m p place g e t lt lt' args site = absurd (omega (arith, lt))
    inline_same M M' (suc n) zero p place g e t lt lt' args site = absurd (omega (arith, lt'))
    inline_same M M' (suc n) (suc m) p place g e t lt lt' args site =
        let w = s.source place g e in
        body_same M (run_inline a turns M n) M' (run_inline b turns M' m) (s.of place) place w.0 g w.1.0 e w.1.1 (below a well (s.of place) w.0 w.1.0 (w.1.1.inlines ∙ t)) p
        (λ q h eh th low args site.
        let before = s.ordered place q (slice_get_within b.functions place g e) (slice_get_within b.functions q h eh) low in
        inline_same M M' n m p q h eh th (omega (arith, low, lt)) (omega (arith, before, lt')) args site) args site

    all_below : (group : ℕ) → InlineBelow a (length a.functions) group
    all_below group place f t e i = slice_get_within a.functions place f e

    function_same : (M M' : RunMeaning) → SameOuter M M' → (place : ℕ) (g : FunTerm) → slice_get b.functions place ≡ Some g → (args : List ArrayValue) (site : Site)
        → body_of turns (call_by a M (run_inline a turns M (length a.functions))) (slice_get a.functions (s.of place)) args site ≡ body_of turns (call_by b M' (run_inline b turns M' (length b.functions))) (slice_get b.functions place) args site
    function_same M M' p place g e args site =
        let w = s.source place g e in
        body_same M (run_inline a turns M (length a.functions)) M' (run_inline b turns M' (length b.functions)) (length a.functions) place w.0 g w.1.0 e w.1.1 (everywhere (InlineBelow a (length a.functions)) all_below (w.0).body) p
        (λ q h eh th low args site. inline_same M M' (length a.functions) (length b.functions) p q h eh th low (slice_get_within b.functions q h eh) args site) args site

    deeper_same : (left : ℕ) → SameOuter (run_deeper a turns left) (run_deeper b turns left)
    deeper_same zero place g e args site = refl
    deeper_same (suc left) place g e args site = function_same (run_deeper a turns left) (run_deeper b turns left) (λ q h eh args site. deeper_same left q h eh args site) place g e args site

-- the outcome stays on arguments that both main functions take, or both do not
pub outcomes : (a b : CoreTerm) → IsWellFormed a → IsSpecialised a b → (args : List ArrayValue) (caps : Caps)
    → ((f g : FunTerm) → slice_get a.functions a.main ≡ Some f → slice_get b.functions b.main ≡ Some g → all_have (param_types f) args ≡ all_have (param_types g) args)
    → outcome a args caps ≡ outcome b args caps
outcomes a b well s args caps types =
    let g = s.main.0 in
    let eg = s.main.1.0 in
    let w = s.source b.main g eg in
    let f = w.0 in
    let k = w.1.1 in
    let ef : slice_get a.functions a.main ≡ Some f = ap (slice_get a.functions) (sym s.main.1.1) ∙ w.1.0 in
    let C = call_at a caps.turns caps.depth in
    let D = call_at b caps.turns caps.depth in
    let inside : function_value caps.turns C f args ≡ function_value caps.turns D g args =
    (λ i. body_of caps.turns C (sym w.1.0 i) args start_of_source)
    ∙ function_same a b well s caps.turns (run_deeper a caps.turns caps.depth) (run_deeper b caps.turns caps.depth) (λ q h eh args site. deeper_same a b well s caps.turns caps.depth q h eh args site) b.main g eg args start_of_source
    ∙ (λ i. body_of caps.turns D (eg i) args start_of_source) in
    (λ i. main_value caps.turns C (ef i) args)
    ∙ (λ i. if types f g ef eg i then inside i else fault F7 (k.site i))
    ∙ sym (λ i. main_value caps.turns D (eg i) args)
