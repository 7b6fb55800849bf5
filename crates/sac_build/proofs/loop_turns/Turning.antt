-- Turns of normalising, folding and merging, one after another.
use Rattle.std.proofs.Common.{◌≡◌, ℕ, ◌+◌, List, [], ◌∷◌, length, refl, sym, ap, subst, ◌∙◌, arith}
use Rattle.std.proofs.lemmas.List.{length-map}
use Rattle.core_ir.specs.Outcome.{SameOutside}
use Rattle.core_ir.specs.Terms.{CoreTerm}
use Rattle.core_ir.specs.WellFormed.{IsWellFormed}
use Rattle.core_facts.specs.calls.Arrays.{SameOutcomeOnArrays}
use Rattle.core_forms.specs.fold.Walks.{FoldSteps}
use Rattle.core_forms.specs.merge.Walks.{MergeSteps}
use Rattle.core_forms.specs.norm.Walks.{NormSteps}
use Rattle.dense_variables.specs.Dense.{dense_core}
use Rattle.fold_walk.specs.declared.state.Fold.{Fold}
use Rattle.scalarise.specs.Scalarised.{NoneLeft}
use Rattle.unreached_functions.proofs.Outside.{outside_itself, outside_through}
use Rattle.with_norm.specs.Normed.{AllNormal}
use Rattle.wl_folding.specs.Folded.{HasNoPairs, entries_of, entry_of}
use Rattle.sac_build.specs.loop_turns.Steps.{AreSettled, Kept, Turn, TurnKept, TurnMade, Turned, Turns, no_turn, turn}

pub turned_itself : (a : CoreTerm) → Turned a a 0 0
turned_itself a = record {
  outside = outside_itself a;
  kept = λ well. record { outcome = λ args caps full. refl; well = well; turns = no_turn };
}

-- a turn more
pub turned_on : (a b c : CoreTerm) (folded scalarised pairs nests f s : ℕ) → Turned a b folded scalarised → TurnMade b c pairs nests → f ≡ folded + pairs → s ≡ scalarised + nests → Turned a c f s
turned_on a b c folded scalarised pairs nests f s t one ef es = record {
  outside = outside_through a b c t.outside one.outside;
  kept = λ well.
      let before = t.kept well in
      let now = one.kept before.well in
      record {
        outcome = λ args caps full. before.outcome args caps full ∙ now.outcome args caps full;
        well = now.well;
        turns = subst (λ (n : ℕ). Turns n s a c) (sym ef) (subst (λ (n : ℕ). Turns (folded + pairs) n a c) (sym es) (turn before.turns now.turn));
      };
}

-- what each of the four passes says of a well-formed core
pub record Pass (Steps : Type 0) (a b : CoreTerm) : Type 0 where
  pub outside : SameOutside a b
  pub well : IsWellFormed a → IsWellFormed b
  pub outcome : IsWellFormed a → SameOutcomeOnArrays a b
  pub steps : IsWellFormed a → Steps

as_many : (folds : List Fold) → length (entries_of folds) ≡ length folds
as_many folds = length-map folds entry_of

no_fold : (folds : List Fold) → length folds ≡ 0 → folds ≡ []
no_fold [] e = refl
no_fold (f ∷ fs) e = absurd (omega (arith, e))

-- a turn that folds and merges nothing leaves nothing
settled_at_end : (normal single merged : CoreTerm) → single ≡ normal → merged ≡ single → AllNormal normal → HasNoPairs single → NoneLeft merged → AreSettled merged
settled_at_end normal single merged same1 same2 n p m = record {
  normal = subst AllNormal (sym (same2 ∙ same1)) n;
  pairs = subst HasNoPairs (sym same2) p;
  nests = m;
}

pub turn_made :
    (a dense normal single merged : CoreTerm) (replaced folded scalarised : ℕ) (folds : List Fold) →
    Pass (dense ≡ dense_core a) a dense → Pass (NormSteps replaced dense normal) dense normal → Pass (FoldSteps (entries_of folds) normal single) normal single →
    Pass (MergeSteps scalarised single merged) single merged → (IsWellFormed dense → AllNormal normal) → (folds ≡ [] → single ≡ normal) → HasNoPairs single →
    (scalarised ≡ 0 → merged ≡ single) → NoneLeft merged → length folds ≡ folded → TurnMade a merged folded scalarised
turn_made a dense normal single merged replaced folded scalarised folds numbering normalising folding merging all same1 pairs same2 nests count = record {
  outside = outside_through a dense merged numbering.outside (outside_through dense normal merged normalising.outside (outside_through normal single merged folding.outside merging.outside));
  kept = λ well0.
      let well1 = numbering.well well0 in
      let well2 = normalising.well well1 in
      let well3 = folding.well well2 in
      record {
        outcome = λ args caps full.
            numbering.outcome well0 args caps full ∙ normalising.outcome well1 args caps full ∙ folding.outcome well2 args caps full ∙ merging.outcome well3 args caps full;
        well = merging.well well3;
        turn = record {
          normal = normal;
          single = single;
          replaced = replaced;
          pairs = entries_of folds;
          normalised = subst (λ (core : CoreTerm). NormSteps replaced core normal) (numbering.steps well0) (normalising.steps well1);
          folds = folding.steps well2;
          count = as_many folds ∙ count;
          merges = merging.steps well3;
        };
        settled = λ e1 e2. settled_at_end normal single merged (same1 (no_fold folds (count ∙ e1))) (same2 e2) (all well1) pairs nests;
      };
}
