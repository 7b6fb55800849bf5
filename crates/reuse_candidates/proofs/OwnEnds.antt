-- Generators and parts of a loop, one after another.
use Rattle.std.proofs.Common.{◌≡◌, ℕ, Bool, true, false, ◌&&◌, List, [], ◌∷◌, map, drop, length, ◌≤◌, refl, sym, ◌∙◌}
use Rattle.core_ir.specs.Scopes.{op_uses, parted_uses}
use Rattle.core_uses.specs.Tests.{none_is}
use Rattle.counted_code.specs.declared.tree.CodeGen.{CodeGen}
use Rattle.counted_code.specs.declared.tree.CodePart.{CodePart}
use Rattle.counted_code.specs.declared.tree.CodeWith.{CodeWith, out-CodeWith}
use Rattle.counted_code.specs.declared.tree.CodeParted.{CodeParted, out-CodeParted}
use Rattle.counted_code.specs.Pieces.{code_gen_term, code_part_term, code_gens_of, code_parts_of}
use Rattle.counted_code.specs.View.{code_with_term, code_parted_term}
use Rattle.counted_code.proofs.Trees.{with_out, parted_out}
use Rattle.reuse_candidates.specs.declared.cells.Search.{Search}
use Rattle.reuse_candidates.specs.Cells.{CellKnown, gens_are_own, parts_are_own, right_is_own}
use Rattle.reuse_candidates.proofs.Pairs.{drop_over}

pub never : (b : Bool) → false ≡ (b && false)
never true = refl
never false = refl

-- A test of a list holds where one of its first item and the same of the others do.
module _ {A : Type 0} (test : A → Bool) (tests : List A → Bool) (whole : Bool) where
  pub one_passed : (x : A) (before rest : List A) → ((xs : List A) → tests (x ∷ xs) ≡ (test x && tests xs)) → before ≡ x ∷ rest → true ≡ test x → tests before ≡ whole → tests rest ≡ whole
  one_passed x before rest step b t h = (λ i. t i && tests rest) ∙ sym (step rest) ∙ (λ i. tests (sym b i)) ∙ h

  pub one_failed : (x : A) (before rest : List A) → ((xs : List A) → tests (x ∷ xs) ≡ (test x && tests xs)) → before ≡ x ∷ rest → false ≡ test x → tests before ≡ whole → whole ≡ false
  one_failed x before rest step b t h = sym h ∙ (λ i. tests (b i)) ∙ step rest ∙ (λ i. sym t i && tests rest)

  pub all_passed : (xs : List A) (i : ℕ) → tests [] ≡ true → length xs ≤ i → tests (drop i xs) ≡ whole → true ≡ whole
  all_passed xs i none le h = sym none ∙ (λ j. tests (sym (drop_over xs i le) j)) ∙ h

module _ (s : Search) (k : CellKnown) where
  abbrev pub gens_own : List CodeGen → Bool
  gens_own gs = gens_are_own s (code_gens_of (map code_gen_term gs)) k

  abbrev pub parts_own : List CodePart → Bool
  parts_own ps = parts_are_own s (code_parts_of (map code_part_term ps)) k

  -- the whole loop, by what of its operation and its items is the case
  pub with_is : (w : CodeWith) (items : List CodeGen) (free own : Bool) → items ≡ (out-CodeWith w).gens.items → free ≡ none_is s.array (op_uses (out-CodeWith w).op) → own ≡ gens_own items → (free && own) ≡ right_is_own s (code_with_term w) k
  with_is w items free own e f o = (λ i. f i && (o ∙ (λ j. gens_own (e j))) i) ∙ (λ i. right_is_own s (sym (with_out w) i) k)

  pub parted_is : (p : CodeParted) (items : List CodePart) (free own : Bool) → items ≡ (out-CodeParted p).parts.items → free ≡ none_is s.array (parted_uses (out-CodeParted p).op) → own ≡ parts_own items → (free && own) ≡ right_is_own s (code_parted_term p) k
  parted_is p items free own e f o = (λ i. f i && (o ∙ (λ j. parts_own (e j))) i) ∙ (λ i. right_is_own s (sym (parted_out p) i) k)
