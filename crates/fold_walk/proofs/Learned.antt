-- What is known behind bindings.
use Rattle.std.proofs.Common.{◌≡◌, ℕ, ◌+◌, ◌<◌, ◌≤◌, List, [], ◌∷◌, ◌++◌, map, length, drop, get_or, Option, refl, sym, ap, ◌∙◌, ◌-◌, reverse, arith}
use Rattle.std.proofs.lemmas.List.{drop_more, drop_all, reverse-append}
use Rattle.core_ir.specs.declared.tree.Var.{Var}
use Rattle.core_ir.specs.declared.tree.Let.{Let}
use Rattle.core_ir.specs.declared.tree.Block.{Block, out-Block}
use Rattle.core_ir.specs.Terms.{LetTerm, Gives, chain}
use Rattle.core_ir.specs.View.{block_term, let_term}
use Rattle.core_ir.proofs.Trees.{block_out}
use Rattle.core_facts.specs.Facts.{Fact, Facts, block_facts, note_all, right_facts}
use Rattle.core_loops.specs.Steps.{facts_after}

pub next_is : {X : Type 0} (xs : List X) (i : ℕ) (x : X) → i < length xs → x ≡ get_or xs i x → drop i xs ≡ x ∷ drop (i + 1) xs
next_is xs i x h e = drop_more xs i x h ∙ (λ j. sym e j ∷ drop (i + 1) xs)

module _ (called : ℕ → List (Option (List ℕ))) where
  pub after_snoc : (ls : List LetTerm) (l : LetTerm) (k : Facts) → facts_after called (ls ++ (l ∷ [])) k ≡ note_all (facts_after called ls k) l.targets (right_facts called l.right (facts_after called ls k))
  after_snoc [] l k = refl
  after_snoc (m ∷ ls) l k = after_snoc ls l (note_all k m.targets (right_facts called m.right k))

  pub known_behind : (ls : List LetTerm) (rs : List Var) (k : Facts) → block_facts called (chain ls (Gives rs)) k ≡ map (facts_after called ls k) rs
  known_behind [] rs k = refl
  known_behind (l ∷ ls) rs k = known_behind ls rs (note_all k l.targets (right_facts called l.right k))

  -- one binding more was learned; the rest gives what the whole does
  pub after_turn :
      (ls : List Let) (i : ℕ) (x : Let) (f g whole : Facts) → i < length ls → x ≡ get_or ls i x → facts_after called (map let_term (drop i ls)) f ≡ whole →
      g ≡ note_all f (let_term x).targets (right_facts called (let_term x).right f) → facts_after called (map let_term (drop (i + 1) ls)) g ≡ whole
  after_turn ls i x f g whole h e v n =
      ap (facts_after called (map let_term (drop (i + 1) ls))) n ∙ ap (λ zs. facts_after called (map let_term zs) f) (sym (next_is ls i x h e)) ∙ v

  pub after_end : (ls : List Let) (i : ℕ) (f whole : Facts) → length ls ≤ i → facts_after called (map let_term (drop i ls)) f ≡ whole → f ≡ whole
  after_end ls i f whole h v = ap (λ zs. facts_after called (map let_term zs) f) (sym (drop_all i ls h)) ∙ v

  -- the results of a block
  pub results_known :
      (b : Block) (ls : List Let) (i : ℕ) (k f : Facts) (known : List Fact) → facts_after called (map let_term (drop i ls)) f ≡ facts_after called (map let_term ls) k → length ls ≤ i →
      ls ≡ (out-Block b).lets.items → known ≡ map f (out-Block b).results.items → known ≡ block_facts called (block_term b) k
  results_known b ls i k f known v h e n =
      let rs = (out-Block b).results.items in
      n ∙ ap (λ (g : Facts). map g rs) (after_end ls i f (facts_after called (map let_term ls) k) h v)
      ∙ (λ j. map (facts_after called (map let_term (e j)) k) rs)
      ∙ sym (known_behind (map let_term (out-Block b).lets.items) rs k)
      ∙ (λ j. block_facts called (sym (block_out b) j) k)

-- ---- bindings that are learned from the last of a list on

back_place : (n t : ℕ) → t < n → n - 1 - t ≡ n - (t + 1)
back_place n t h = omega (arith, h)

back_next : (n t : ℕ) → t < n → (n - (t + 1)) + 1 ≡ n - t
back_next n t h = omega (arith, h)

back_inside : (n t : ℕ) → t < n → n - (t + 1) < n
back_inside n t h = omega (arith, h)

all_back : (n t : ℕ) → n ≤ t → n - t ≡ 0
all_back n t h = omega (arith, h)

same_most : (n : ℕ) → n ≤ n - 0
same_most n = omega arith

pub reverse_cons : {A : Type 0} (y : A) (ys : List A) → reverse (y ∷ ys) ≡ reverse ys ++ (y ∷ [])
reverse_cons y ys = reverse-append (y ∷ []) ys

module _ (called : ℕ → List (Option (List ℕ))) (ls : List Let) (k : Facts) where
  abbrev pub Back : ℕ → Facts → Type 0
  Back t f = f ≡ facts_after called (reverse (map let_term (drop (length ls - t) ls))) k

  pub back_first : Back 0 k
  back_first = λ j. facts_after called (reverse (map let_term (sym (drop_all (length ls - 0) ls (same_most (length ls))) j))) k

  pub back_turn : (t : ℕ) (x : Let) (f g : Facts) → t < length ls → x ≡ get_or ls (length ls - 1 - t) x → g ≡ note_all f (let_term x).targets (right_facts called (let_term x).right f) → Back t f → Back (t + 1) g
  back_turn t x f g h e n v =
      let i = length ls - (t + 1) in
      let at : x ≡ get_or ls i x = e ∙ ap (λ j. get_or ls j x) (back_place (length ls) t h) in
      let front : drop i ls ≡ x ∷ drop (length ls - t) ls = next_is ls i x (back_inside (length ls) t h) at ∙ ap (λ j. x ∷ drop j ls) (back_next (length ls) t h) in
      let behind = map let_term (drop (length ls - t) ls) in
      n ∙ (λ j. note_all (v j) (let_term x).targets (right_facts called (let_term x).right (v j)))
      ∙ sym (after_snoc called (reverse behind) (let_term x) k)
      ∙ (λ j. facts_after called (sym (reverse_cons (let_term x) behind) j) k)
      ∙ (λ j. facts_after called (reverse (map let_term (sym front j))) k)

  pub back_end : (t : ℕ) (f : Facts) → length ls ≤ t → Back t f → f ≡ facts_after called (reverse (map let_term ls)) k
  back_end t f h v = v ∙ (λ j. facts_after called (reverse (map let_term (drop (all_back (length ls) t h j) ls))) k)
