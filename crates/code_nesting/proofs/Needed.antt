-- What a block needs, by its parts.
use Rattle.std.proofs.Common.{◌≡◌, ℕ, ◌-◌, ◌+◌, ◌≤◌, ◌<◌, Bool, List, [], ◌∷◌, length, Vec, Global, ap, sym, subst, ◌∙◌, max, min, arith, drop, get_or}
use Rattle.std.proofs.lemmas.List.{drop_more}
use Rattle.std.specs.Prelude.{slice_index_or}
use Rattle.sac_base.specs.declared.site.Site.{Site}
use Rattle.core_ir.specs.declared.tree.Var.{Var}
use Rattle.counted_code.specs.declared.tree.CodeBlock.{CodeBlock}
use Rattle.counted_code.specs.declared.tree.CodeGen.{CodeGen}
use Rattle.counted_code.specs.declared.tree.CodePart.{CodePart}
use Rattle.counted_code.specs.declared.tree.CodeParted.{CodeParted, out-CodeParted}
use Rattle.counted_code.specs.declared.tree.CodeRight.TheVariants as right
use Rattle.counted_code.specs.declared.tree.CodeStep.{CodeStep}
use Rattle.counted_code.specs.declared.tree.CodeStep.TheVariants as step
use Rattle.counted_code.specs.declared.tree.CodeWith.{CodeWith, out-CodeWith}
use Rattle.counted_code.specs.Terms.{CodeTerm, CodeRightTerm, CodeGensTerm, CodePartsTerm, CodeProgram, Giving, Binding, Keeping, Releasing, PlainCode, IfCode, LoopCode, CallCode, WithCode, PartedCode, NoCodeGens, GenCode, NoCodeParts, PartCode}
use Rattle.counted_code.specs.View.{code_term, code_right_term, code_with_term, code_parted_term, steps_before}
use Rattle.code_nesting.specs.Needs.{called_need, PlacesNeed, Needs, RightNeeds, GensNeed, PartsNeed, StepNeeds, StepsNeed}
use Rattle.counted_code.specs.Pieces.{gens_term, parts_term}
use Rattle.counted_code.proofs.Trees.{if_term, loop_term, with_out, parted_out}

-- ---- numbers and lists

less : (m k : ℕ) → m ≤ k → m - 1 ≤ k - 1
less m k le = omega (arith, le)

one_more : (m k : ℕ) → m ≤ k → 1 ≤ m → 1 ≤ k
one_more m k le one = omega (arith, le, one)

upper : (greatest need r m : ℕ) → r ≡ max greatest need → r ≤ m → need ≤ m
upper greatest need r m is le = omega (arith, is, le)

lower : (greatest need r m : ℕ) → r ≡ max greatest need → r ≤ m → greatest ≤ m
lower greatest need r m is le = omega (arith, is, le)

within_limit : (need m : ℕ) → need ≤ m → m ≤ 1000 → need ≤ 1000
within_limit need m le small = omega (arith, le, small)

from_here : {X : Type 0} (xs : List X) (i : ℕ) (x : X) → i < length xs → x ≡ get_or xs i x → x ∷ drop (i + 1) xs ≡ drop i xs
from_here xs i x lt is = ap (λ y. y ∷ drop (i + 1) xs) is ∙ sym (drop_more xs i x lt)

pub one_above : (need r : ℕ) → r ≡ min (need + 1) 4294967295 → r ≤ 1000 → need + 1 ≤ r
one_above need r is small = omega (arith, is, small)

pub left_above : (first second need r : ℕ) → need ≡ max first second → need + 1 ≤ r → first + 1 ≤ r
left_above first second need r is le = omega (arith, is, le)

pub right_above : (first second need r : ℕ) → need ≡ max first second → need + 1 ≤ r → second + 1 ≤ r
right_above first second need r is le = omega (arith, is, le)

module _ (code : CodeProgram) (below here : List ℕ) where
  -- ---- what needs so many at most needs more at most

  pub places_more : (ps : List ℕ) (m k : ℕ) → m ≤ k → PlacesNeed code below here ps m → PlacesNeed code below here ps k
  places_more [] m k le h = h
  places_more (p ∷ ps) m k le h = (let q : called_need code below here p ≤ k = omega (arith, le, h.0) in q, places_more ps m k le h.1)

  mutual
    pub needs_more : (b : CodeTerm) (m k : ℕ) → m ≤ k → Needs code below here b m → Needs code below here b k
    needs_more (Giving xs) m k le h = h
    needs_more (Binding xs s r rest) m k le h = (right_more r m k le h.0, needs_more rest m k le h.1)
    needs_more (Keeping x rest) m k le h = needs_more rest m k le h
    needs_more (Releasing x rest) m k le h = needs_more rest m k le h

    pub right_more : (r : CodeRightTerm) (m k : ℕ) → m ≤ k → RightNeeds code below here r m → RightNeeds code below here r k
    right_more (PlainCode p) m k le h = h
    right_more (IfCode c a b) m k le h = (one_more m k le h.0, needs_more a (m - 1) (k - 1) (less m k le) h.1, needs_more b (m - 1) (k - 1) (less m k le) h.2)
    right_more (LoopCode first start params test body s) m k le h =
        (one_more m k le h.0, needs_more test (m - 1) (k - 1) (less m k le) h.1, needs_more body (m - 1) (k - 1) (less m k le) h.2)
    right_more (CallCode group xs) m k le h = (one_more m k le h.0, places_more (slice_index_or code.groups group []) (m - 1) (k - 1) (less m k le) h.1)
    right_more (WithCode op gens) m k le h = (one_more m k le h.0, gens_more gens (m - 1) (k - 1) (less m k le) h.1)
    right_more (PartedCode f b c op parts reuse) m k le h = (one_more m k le h.0, parts_more parts (m - 1) (k - 1) (less m k le) h.1)

    pub gens_more : (gs : CodeGensTerm) (m k : ℕ) → m ≤ k → GensNeed code below here gs m → GensNeed code below here gs k
    gens_more NoCodeGens m k le h = h
    gens_more (GenCode head b rest) m k le h = (needs_more b m k le h.0, gens_more rest m k le h.1)

    pub parts_more : (ps : CodePartsTerm) (m k : ℕ) → m ≤ k → PartsNeed code below here ps m → PartsNeed code below here ps k
    parts_more NoCodeParts m k le h = h
    parts_more (PartCode head b rest) m k le h = (needs_more b m k le h.0, parts_more rest m k le h.1)

  pub step_more : (s : CodeStep) (m k : ℕ) → m ≤ k → StepNeeds code below here s m → StepNeeds code below here s k
  step_more (step.Bind' targets site r) m k le h = right_more (code_right_term r) m k le h
  step_more (step.Keep x) m k le h = h
  step_more (step.Release x) m k le h = h

  -- ---- trees, by the lists that they hold

  steps_need : (ss : List CodeStep) (xs : List Var) (m : ℕ) → StepsNeed code below here ss m → Needs code below here (steps_before ss (Giving xs)) m
  steps_need [] xs m h = h
  steps_need (step.Bind' targets site r ∷ ss) xs m h = (h.0, steps_need ss xs m h.1)
  steps_need (step.Keep x ∷ ss) xs m h = steps_need ss xs m h.1
  steps_need (step.Release x ∷ ss) xs m h = steps_need ss xs m h.1

  pub block_needs : (b : CodeBlock) (m : ℕ) → StepsNeed code below here b.steps.items m → Needs code below here (code_term b) m
  block_needs b m h = steps_need b.steps.items b.results.items m h

  pub if_needs : (c : Var) (a b : CodeBlock) (first second m : ℕ) → (first ≤ 1000 → Needs code below here (code_term a) first)
      → (second ≤ 1000 → Needs code below here (code_term b) second) → m ≤ 1000 → first + 1 ≤ m → second + 1 ≤ m
      → RightNeeds code below here (code_right_term (right.If c a b)) m
  if_needs c a b first second m one two small le le' =
      subst (λ r. RightNeeds code below here r m) (sym (if_term c a b)) (
        let q : 1 ≤ m = omega (arith, le) in q,
        needs_more (code_term a) first (m - 1) (omega (arith, le)) (one (omega (arith, small, le))),
        needs_more (code_term b) second (m - 1) (omega (arith, le')) (two (omega (arith, small, le'))),
      )

  pub loop_needs : (first_body : Bool) (start params : Vec Var Global) (test body : CodeBlock) (s : Site) (first second m : ℕ)
      → (first ≤ 1000 → Needs code below here (code_term test) first)
      → (second ≤ 1000 → Needs code below here (code_term body) second) → m ≤ 1000 → first + 1 ≤ m → second + 1 ≤ m
      → RightNeeds code below here (code_right_term (right.Loop first_body start params test body s)) m
  loop_needs first_body start params test body s first second m one two small le le' =
      subst (λ r. RightNeeds code below here r m) (sym (loop_term first_body start params test body s)) (
        let q : 1 ≤ m = omega (arith, le) in q,
        needs_more (code_term test) first (m - 1) (omega (arith, le)) (one (omega (arith, small, le))),
        needs_more (code_term body) second (m - 1) (omega (arith, le')) (two (omega (arith, small, le'))),
      )

  pub with_needs : (w : CodeWith) (need m : ℕ) → (need ≤ 1000 → GensNeed code below here (gens_term (out-CodeWith w).gens.items) need)
      → m ≤ 1000 → need + 1 ≤ m → RightNeeds code below here (code_with_term w) m
  with_needs w need m h small le =
      subst (λ r. RightNeeds code below here r m) (sym (with_out w))
      (let q : 1 ≤ m = omega (arith, le) in q, gens_more (gens_term (out-CodeWith w).gens.items) need (m - 1) (omega (arith, le)) (h (omega (arith, small, le))))

  pub parted_needs : (p : CodeParted) (need m : ℕ) → (need ≤ 1000 → PartsNeed code below here (parts_term (out-CodeParted p).parts.items) need)
      → m ≤ 1000 → need + 1 ≤ m → RightNeeds code below here (code_parted_term p) m
  parted_needs p need m h small le =
      subst (λ r. RightNeeds code below here r m) (sym (parted_out p))
      (let q : 1 ≤ m = omega (arith, le) in q, parts_more (parts_term (out-CodeParted p).parts.items) need (m - 1) (omega (arith, le)) (h (omega (arith, small, le))))

  pub call_needs : (group need m : ℕ) (args : List Var) → PlacesNeed code below here (slice_index_or code.groups group []) need → need + 1 ≤ m
      → RightNeeds code below here (CallCode group args) m
  call_needs group need m args h le =
      (let q : 1 ≤ m = omega (arith, le) in q, places_more (slice_index_or code.groups group []) need (m - 1) (omega (arith, le)) h)

  -- ---- one more of a list

  pub steps_turn : (ss : List CodeStep) (i : ℕ) (s : CodeStep) (greatest need r : ℕ) → i < length ss → s ≡ get_or ss i s
      → (need ≤ 1000 → StepNeeds code below here s need) → r ≡ max greatest need
      → ((m : ℕ) → m ≤ 1000 → greatest ≤ m → StepsNeed code below here (drop i ss) m → StepsNeed code below here ss m)
      → (m : ℕ) → m ≤ 1000 → r ≤ m → StepsNeed code below here (drop (i + 1) ss) m → StepsNeed code below here ss m
  steps_turn ss i s greatest need r lt is h top so m small le rest =
      let le' = upper greatest need r m top le in
      so m small (lower greatest need r m top le)
      (subst (λ (xs : List CodeStep). StepsNeed code below here xs m) (from_here ss i s lt is) (step_more s need m le' (h (within_limit need m le' small)), rest))

  pub gens_turn : (gs : List CodeGen) (i : ℕ) (g : CodeGen) (greatest need r : ℕ) → i < length gs → g ≡ get_or gs i g
      → (need ≤ 1000 → Needs code below here (code_term g.body) need) → r ≡ max greatest need
      → ((m : ℕ) → m ≤ 1000 → greatest ≤ m → GensNeed code below here (gens_term (drop i gs)) m → GensNeed code below here (gens_term gs) m)
      → (m : ℕ) → m ≤ 1000 → r ≤ m → GensNeed code below here (gens_term (drop (i + 1) gs)) m → GensNeed code below here (gens_term gs) m
  gens_turn gs i g greatest need r lt is h top so m small le rest =
      let le' = upper greatest need r m top le in
      so m small (lower greatest need r m top le)
      (subst (λ (xs : List CodeGen). GensNeed code below here (gens_term xs) m) (from_here gs i g lt is) (needs_more (code_term g.body) need m le' (h (within_limit need m le' small)), rest))

  pub parts_turn : (ps : List CodePart) (i : ℕ) (p : CodePart) (greatest need r : ℕ) → i < length ps → p ≡ get_or ps i p
      → (need ≤ 1000 → Needs code below here (code_term p.body) need) → r ≡ max greatest need
      → ((m : ℕ) → m ≤ 1000 → greatest ≤ m → PartsNeed code below here (parts_term (drop i ps)) m → PartsNeed code below here (parts_term ps) m)
      → (m : ℕ) → m ≤ 1000 → r ≤ m → PartsNeed code below here (parts_term (drop (i + 1) ps)) m → PartsNeed code below here (parts_term ps) m
  parts_turn ps i p greatest need r lt is h top so m small le rest =
      let le' = upper greatest need r m top le in
      so m small (lower greatest need r m top le)
      (subst (λ (xs : List CodePart). PartsNeed code below here (parts_term xs) m) (from_here ps i p lt is) (needs_more (code_term p.body) need m le' (h (within_limit need m le' small)), rest))
  -- one more than a need, as the machine counts
