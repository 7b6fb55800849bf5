-- What two tables of needs of functions say of a block: the table `here` of inline functions, and the table `below` of the others.
use Rattle.std.specs.Prelude.{◌≡◌, ℕ, ◌-◌, ◌≤◌, Bool, false, List, [], ◌∷◌, Option, None, Some, cond, slice_get, slice_index, slice_index_or}
use Rattle.counted_code.specs.declared.tree.CodeStep.{CodeStep}
use Rattle.counted_code.specs.declared.tree.CodeStep.TheVariants as step
use Rattle.counted_code.specs.Terms.{CodeTerm, CodeRightTerm, CodeGensTerm, CodePartsTerm, CodeFunTerm, CodeProgram, Giving, Binding, Keeping}
use Rattle.counted_code.specs.Terms.{Releasing, PlainCode, IfCode, LoopCode, CallCode, WithCode, PartedCode, NoCodeGens, GenCode, NoCodeParts, PartCode}
use Rattle.counted_code.specs.View.{code_right_term}
use Rattle.code_nesting.specs.Nested.{Nests, most_nested}

abbrev pub inlines : Option CodeFunTerm → Bool
inlines None = false
inlines (Some f) = f.is_inline

module _ (code : CodeProgram) (below here : List ℕ) where
  -- the need of the function at a place when it is called
  abbrev pub called_need : ℕ → ℕ
  called_need place = cond (inlines (slice_get code.functions place)) (slice_index here place) (slice_index below place)

  -- the needs of the functions at these places
  abbrev pub PlacesNeed : List ℕ → ℕ → Type 0
  PlacesNeed [] most = Unit {0}
  PlacesNeed (place ∷ places) most = (called_need place ≤ most) × PlacesNeed places most

  -- a block needs so many at most, by what its inner blocks and the functions that it calls need
  abbrev mutual
    pub Needs : CodeTerm → ℕ → Type 0
    Needs (Giving xs) most = Unit {0}
    Needs (Binding xs s r rest) most = RightNeeds r most × Needs rest most
    Needs (Keeping x rest) most = Needs rest most
    Needs (Releasing x rest) most = Needs rest most

    pub RightNeeds : CodeRightTerm → ℕ → Type 0
    RightNeeds (PlainCode p) most = Unit {0}
    RightNeeds (IfCode c a b) most = (1 ≤ most) × Needs a (most - 1) × Needs b (most - 1)
    RightNeeds (LoopCode first start params test body s) most = (1 ≤ most) × Needs test (most - 1) × Needs body (most - 1)
    RightNeeds (CallCode group xs) most = (1 ≤ most) × PlacesNeed (slice_index_or code.groups group []) (most - 1)
    RightNeeds (WithCode op gens) most = (1 ≤ most) × GensNeed gens (most - 1)
    RightNeeds (PartedCode f b c op parts reuse) most = (1 ≤ most) × PartsNeed parts (most - 1)

    pub GensNeed : CodeGensTerm → ℕ → Type 0
    GensNeed NoCodeGens most = Unit {0}
    GensNeed (GenCode h b rest) most = Needs b most × GensNeed rest most

    pub PartsNeed : CodePartsTerm → ℕ → Type 0
    PartsNeed NoCodeParts most = Unit {0}
    PartsNeed (PartCode h b rest) most = Needs b most × PartsNeed rest most

  abbrev pub StepNeeds : CodeStep → ℕ → Type 0
  StepNeeds (step.Bind' targets site r) most = RightNeeds (code_right_term r) most
  StepNeeds (step.Keep x) most = Unit {0}
  StepNeeds (step.Release x) most = Unit {0}

  abbrev pub StepsNeed : List CodeStep → ℕ → Type 0
  StepsNeed [] most = Unit {0}
  StepsNeed (s ∷ ss) most = StepNeeds s most × StepsNeed ss most

  -- What the table has of a place is what the body there needs. More than the limit stands for any number.
  abbrev pub IsClosedAt : ℕ → Type 0
  IsClosedAt place =
      (f : CodeFunTerm) → slice_get code.functions place ≡ Some f → slice_index here place ≤ most_nested → Needs f.body (slice_index here place)

  abbrev pub IsClosed : Type 0
  IsClosed = (place : ℕ) → IsClosedAt place

-- No more blocks nest in the body of a function than the table has, where calls go so many levels deep. More than the limit stands for any number.
abbrev pub IsBound : CodeProgram → ℕ → List ℕ → Type 0
IsBound code level needs =
    (place n : ℕ) (f : CodeFunTerm) → slice_get code.functions place ≡ Some f → Nests code level f.body n → slice_index needs place ≤ most_nested
    → n ≤ slice_index needs place
