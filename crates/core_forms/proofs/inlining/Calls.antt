-- A call of a group with one inline instance.
use Rattle.std.proofs.Common.{◌≡◌, ℕ, zero, suc, ◌<◌, Bool, true, false, ◌&&◌, not, ◌||◌, List, [], ◌∷◌, ◌++◌, map, Option, Some, None, refl, sym, ap, ◌∙◌, arith}
use Rattle.std.proofs.lemmas.Bool.{eq-eqb}
use Rattle.std.proofs.lemmas.Slice.Eq.{bytes_eq-Decides}
use Rattle.std.specs.Prelude.{if◌then◌else◌, slice_get}
use Rattle.sac_base.specs.declared.faults.FaultKind.TheVariants.{F7}
use Rattle.sac_base.specs.declared.site.Site.{Site}
use Rattle.sac_base.specs.declared.base.Base.{Base}
use Rattle.sac_base.specs.declared.base.Base.TheVariants as base
use Rattle.sac_base.specs.declared.types.ArrayType.{ArrayType}
use Rattle.sac_base.specs.declared.types.Part.{Part}
use Rattle.sac_base.specs.declared.types.Part.TheVariants as part
use Rattle.sac_base.specs.Arrays.{ArrayValue, same_base}
use Rattle.sac_base.specs.Outcomes.{and_then, fault}
use Rattle.sac_base.specs.Types.{all_have, all_below, part_below}
use Rattle.core_ir.specs.declared.tree.Var.{Var}
use Rattle.core_ir.specs.Meaning.{Env, CallMeaning, bind_all, run}
use Rattle.core_ir.specs.Outcome.{Instance, RunMeaning, param_types, function_value, body_of, instances, instance_of, least_among, is_least, group_at, chosen, run_chosen, call_chosen, call_by, run_inline}
use Rattle.core_ir.specs.Terms.{BlockTerm, FunTerm, CoreTerm, Bind, Call}
use Rattle.core_facts.specs.calls.Nests.{CallsBelow, InlineBelow}
use Rattle.core_facts.proofs.calls.Enough.{enough, body_by}
use Rattle.core_forms.specs.inlining.Inlined.{CanInline, inlined, instance_value}
use Rattle.core_forms.proofs.inlining.Bodies.{body_in_place}

part_itself : (p : Part) → part_below p p ≡ true
part_itself (part.Known s) = (bytes_eq-Decides s s).1 refl
part_itself (part.Rank n) = eq-eqb n n refl
part_itself part.Plus = refl
part_itself part.Star = refl

base_itself : (b : Base) → same_base b b ≡ true
base_itself base.Int = refl
base_itself base.Bool = refl

below_itself : (ts : List ArrayType) → all_below ts ts ≡ true
below_itself [] = refl
below_itself (t ∷ ts) = λ i. (base_itself t.base i && part_itself t.part i) && below_itself ts i

module _ (core : CoreTerm) (turns : ℕ) (outer : RunMeaning) (backward : CallsBelow core) where
  -- the only instance is chosen where it takes the arguments
  only : (group place : ℕ) (f : FunTerm) (args : List ArrayValue) → group_at core group ≡ place ∷ [] → slice_get core.functions place ≡ Some f → chosen core group args ≡ (if all_have (param_types f) args then Some place else None)
  only group place f args g e =
      (λ i. least_among (alone i) args (alone i)) ∙ go (all_have (param_types f) args) refl
    where
      it : Instance
      it = record { place = place; types = param_types f }

      alone : instances core.functions (group_at core group) ≡ it ∷ []
      alone = (λ i. instances core.functions (g i)) ∙ (λ i. instance_of place (e i) ++ [])

      go : (b : Bool) → all_have (param_types f) args ≡ b → least_among (it ∷ []) args (it ∷ []) ≡ (if all_have (param_types f) args then Some place else None)
      go true h =
          (λ i. if (h i && ((not (h i) || below_itself (param_types f) i) && true)) then Some place else None)
          ∙ sym (λ i. if h i then Some place else None)
      go false h =
          (λ i. if (h i && ((not (h i) || all_below (param_types f) (param_types f)) && true)) then Some place else None)
          ∙ sym (λ i. if h i then Some place else None)

  -- a call of it is what the instance gives
  called : (nest group place : ℕ) (f : FunTerm) (args : List ArrayValue) (s : Site) → group_at core group ≡ place ∷ [] → slice_get core.functions place ≡ Some f → f.is_inline ≡ true → place < nest
      → call_by core outer (run_inline core turns outer nest) group args s ≡ instance_value turns (call_by core outer (run_inline core turns outer nest)) f args s
  called zero group place f args s g e t lt = absurd (omega arith)
  called (suc n) group place f args s g e t lt =
      (λ i. call_chosen core outer N (only group place f args g e i) args s)
      ∙ go (all_have (param_types f) args)
    where
      N : RunMeaning
      N = run_inline core turns outer (suc n)

      inside : run_inline core turns outer (suc n) place args s ≡ function_value turns (call_by core outer N) f args
      inside =
          body_by core turns outer backward (run_inline core turns outer n) N place place f e (backward place f e t)
          (λ j h lt' m k args site. enough core turns outer backward n (suc n) j h (omega arith) (omega arith) m k args site) args s
          ∙ (λ i. body_of turns (call_by core outer N) (e i) args s)

      go : (b : Bool) → call_chosen core outer N (if b then Some place else None) args s ≡ (if b then function_value turns (call_by core outer N) f args else fault F7 s)
      go false = refl
      go true =
          (λ i. run_chosen outer N place (e i) args s)
          ∙ (λ i. if t i then N place args s else outer place args s)
          ∙ inside

  pub inlined_call : (nest by group place : ℕ) (f : FunTerm) (ts xs : List Var) (s : Site) (rest : BlockTerm) (e : Env) → group_at core group ≡ place ∷ [] → slice_get core.functions place ≡ Some f → f.is_inline ≡ true → place < nest → CanInline by f ts xs rest
      → run (call_by core outer (run_inline core turns outer nest)) turns (inlined by f ts s xs rest) e ≡ run (call_by core outer (run_inline core turns outer nest)) turns (Bind ts s (Call group xs) rest) e
  inlined_call nest by group place f ts xs s rest e g p t lt c =
      body_in_place (call_by core outer (run_inline core turns outer nest)) turns by f ts xs s rest e c
      ∙ sym (λ i. and_then (called nest group place f (map e xs) s g p t lt i) (λ vs. run (call_by core outer (run_inline core turns outer nest)) turns rest (bind_all e ts vs)))
