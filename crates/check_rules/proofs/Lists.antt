-- Steps of the loops over lists of names.
use Rattle.std.proofs.Common.{◌≡◌, ℕ, zero, suc, ◌+◌, ◌<◌, ◌≤◌, List, [], ◌∷◌, length, drop, get_or, Option, Some, None, refl, sym, ap, ◌∙◌, arith}
use Rattle.std.proofs.lemmas.List.{drop_more, drop_all}
use Rattle.sac_base.specs.declared.base.Base.{Base}
use Rattle.sac_base.specs.declared.base.Base.TheVariants.{Int}
use Rattle.check_rules.specs.declared.code.CheckCode.TheVariants.{C4}
use Rattle.sac_ast.specs.declared.Target.{Target}
use Rattle.sac_ast.specs.declared.Param.{Param}
use Rattle.sac_ast.specs.Bases.{may_be, may_match}
use Rattle.check_rules.specs.Accepted.{Names, with_names, no_names, Known, bind, base_of, later_bases}
use Rattle.check_rules.specs.declared.violation.Violation.{Violation}
use Rattle.check_rules.specs.First.{earlier, unless}
use Rattle.check_rules.specs.Walk.{repeated_targets, repeated_params, unless_new, base_behind, in_targets, in_index_names, cell_rule, cell_rules}
use Rattle.check_rules.specs.declared.judged.Cell.{Cell}
use Rattle.check_rules.proofs.Earliest.{earlier_grouped, earlier_none}

module _ (ts : List Target) (k : ℕ) (t : Target) (h : k < length ts) (e : t ≡ get_or ts k t) where
  next : drop k ts ≡ t ∷ drop (k + 1) ts
  next = drop_more ts k t h ∙ ap (λ x. x ∷ drop (k + 1) ts) (sym e)

  pub targets_repeated_step : (acc : Option Violation) (before after : Names) → after ≡ with_names (t.name ∷ []) before
      → earlier (earlier acc (unless_new (before t.name) t.site)) (repeated_targets after (drop (k + 1) ts)) ≡ earlier acc (repeated_targets before (drop k ts))
  targets_repeated_step acc before after more =
      earlier_grouped acc (unless_new (before t.name) t.site) (repeated_targets after (drop (k + 1) ts))
      ∙ ap (λ names. earlier acc (earlier (unless_new (before t.name) t.site) (repeated_targets names (drop (k + 1) ts)))) more
      ∙ ap (λ rest. earlier acc (repeated_targets before rest)) (sym next)

  pub index_step : (acc : Option Violation) (old new : Known) → new ≡ bind t.name (Some Int) old
      → earlier (earlier acc (unless (may_be Int (base_of new t.name)) C4 t.site)) (in_index_names (drop (k + 1) ts) new).first ≡ earlier acc (in_index_names (drop k ts) old).first
  index_step acc old new more =
      earlier_grouped acc (unless (may_be Int (base_of new t.name)) C4 t.site) (in_index_names (drop (k + 1) ts) new).first
      ∙ ap (λ here. earlier acc (earlier (unless (may_be Int (base_of here t.name)) C4 t.site) (in_index_names (drop (k + 1) ts) here).first)) more
      ∙ ap (λ rest. earlier acc (in_index_names rest old).first) (sym next)

  pub index_known : (old new : Known) → new ≡ bind t.name (Some Int) old → (in_index_names (drop (k + 1) ts) new).known ≡ (in_index_names (drop k ts) old).known
  index_known old new more =
      ap (λ here. (in_index_names (drop (k + 1) ts) here).known) more ∙ ap (λ rest. (in_index_names rest old).known) (sym next)

  module _ (bs : List (Option Base)) (b : Option Base) (at : b ≡ base_behind k bs) (old new : Known) (more : new ≡ bind t.name b old) where
    later : drop (k + 1) bs ≡ later_bases (drop k bs)
    later = later_at bs k
      where
        later_at : (bs : List (Option Base)) (k : ℕ) → drop (k + 1) bs ≡ later_bases (drop k bs)
        later_at [] zero = refl
        later_at (b ∷ bs) zero = refl
        later_at [] (suc k) = drop_all (suc k + 1) [] (omega arith)
        later_at (b ∷ bs) (suc k) = let same : suc k + 1 ≡ suc (k + 1) = omega arith in ap (λ n. drop n (b ∷ bs)) same ∙ later_at bs k

    made : (b ≡ base_behind k bs) → new ≡ bind t.name (base_behind k bs) old
    made at = more ∙ ap (λ b. bind t.name b old) at

    pub target_step : (acc : Option Violation)
        → earlier (earlier acc (unless (may_match (base_of new t.name) b) C4 t.site)) (in_targets (drop (k + 1) ts) (drop (k + 1) bs) new).first ≡ earlier acc (in_targets (drop k ts) (drop k bs) old).first
    target_step acc =
        earlier_grouped acc (unless (may_match (base_of new t.name) b) C4 t.site) (in_targets (drop (k + 1) ts) (drop (k + 1) bs) new).first
        ∙ (λ i. earlier acc (earlier (unless (may_match (base_of (made at i) t.name) (at i)) C4 t.site) (in_targets (drop (k + 1) ts) (later i) (made at i)).first))
        ∙ ap (λ rest. earlier acc (in_targets rest (drop k bs) old).first) (sym next)

    pub target_known : (in_targets (drop (k + 1) ts) (drop (k + 1) bs) new).known ≡ (in_targets (drop k ts) (drop k bs) old).known
    target_known =
        (λ i. (in_targets (drop (k + 1) ts) (later i) (made at i)).known) ∙ ap (λ rest. (in_targets rest (drop k bs) old).known) (sym next)

pub few_repeated : (ts : List Target) → length ts < 2 → None ≡ repeated_targets no_names ts
few_repeated [] h = refl
few_repeated (t ∷ []) h = refl
few_repeated (t ∷ u ∷ ts) h = absurd (omega arith)

pub targets_repeated_end : (ts : List Target) (k : ℕ) (acc : Option Violation) (names : Names) → length ts ≤ k → earlier acc (repeated_targets names (drop k ts)) ≡ acc
targets_repeated_end ts k acc names h = ap (λ rest. earlier acc (repeated_targets names rest)) (drop_all k ts h) ∙ earlier_none acc

pub index_end : (ts : List Target) (k : ℕ) (acc : Option Violation) (known : Known) → length ts ≤ k → earlier acc (in_index_names (drop k ts) known).first ≡ acc
index_end ts k acc known h = ap (λ rest. earlier acc (in_index_names rest known).first) (drop_all k ts h) ∙ earlier_none acc

pub index_known_end : (ts : List Target) (k : ℕ) (known : Known) → length ts ≤ k → (in_index_names (drop k ts) known).known ≡ known
index_known_end ts k known h = ap (λ rest. (in_index_names rest known).known) (drop_all k ts h)

pub target_end : (ts : List Target) (bs : List (Option Base)) (k : ℕ) (acc : Option Violation) (known : Known) → length ts ≤ k → earlier acc (in_targets (drop k ts) bs known).first ≡ acc
target_end ts bs k acc known h = ap (λ rest. earlier acc (in_targets rest bs known).first) (drop_all k ts h) ∙ earlier_none acc

pub target_known_end : (ts : List Target) (bs : List (Option Base)) (k : ℕ) (known : Known) → length ts ≤ k → (in_targets (drop k ts) bs known).known ≡ known
target_known_end ts bs k known h = ap (λ rest. (in_targets rest bs known).known) (drop_all k ts h)

module _ (ps : List Param) (k : ℕ) (p : Param) (h : k < length ps) (e : p ≡ get_or ps k p) where
  next_param : drop k ps ≡ p ∷ drop (k + 1) ps
  next_param = drop_more ps k p h ∙ ap (λ x. x ∷ drop (k + 1) ps) (sym e)

  pub params_repeated_step : (acc : Option Violation) (before after : Names) → after ≡ with_names (p.name ∷ []) before
      → earlier (earlier acc (unless_new (before p.name) p.site)) (repeated_params after (drop (k + 1) ps)) ≡ earlier acc (repeated_params before (drop k ps))
  params_repeated_step acc before after more =
      earlier_grouped acc (unless_new (before p.name) p.site) (repeated_params after (drop (k + 1) ps))
      ∙ ap (λ names. earlier acc (earlier (unless_new (before p.name) p.site) (repeated_params names (drop (k + 1) ps)))) more
      ∙ ap (λ rest. earlier acc (repeated_params before rest)) (sym next_param)

pub params_repeated_end : (ps : List Param) (k : ℕ) (acc : Option Violation) (names : Names) → length ps ≤ k → earlier acc (repeated_params names (drop k ps)) ≡ acc
params_repeated_end ps k acc names h = ap (λ rest. earlier acc (repeated_params names rest)) (drop_all k ps h) ∙ earlier_none acc

pub cells_step : (wanted : Option Base) (cs : List Cell) (k : ℕ) (d : Cell) (acc : Option Violation) → k < length cs
    → earlier (earlier acc (cell_rule wanted (get_or cs k d))) (cell_rules wanted (drop (k + 1) cs)) ≡ earlier acc (cell_rules wanted (drop k cs))
cells_step wanted cs k d acc h =
    earlier_grouped acc (cell_rule wanted (get_or cs k d)) (cell_rules wanted (drop (k + 1) cs)) ∙ ap (λ rest. earlier acc (cell_rules wanted rest)) (sym (drop_more cs k d h))
