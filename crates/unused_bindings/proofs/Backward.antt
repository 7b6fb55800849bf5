-- One turn of the loop from the end of a block, and its end.
use Rattle.std.proofs.Common.{◌≡◌, Bool, true, false, ◌&&◌, List, [], ◌∷◌, ◌++◌, map, reverse, refl, sym, ap, ◌∙◌}
use Rattle.std.specs.Prelude.{if◌then◌else◌}
use Rattle.std.proofs.lemmas.List.{reverse-append}
use Rattle.core_ir.specs.declared.tree.Var.{Var}
use Rattle.core_ir.specs.declared.tree.Let.{Let}
use Rattle.core_ir.specs.declared.tree.Block.{Block-F, roll-Block}
use Rattle.core_ir.specs.declared.tree.Right.TheBlock.{the_data, the_data-1, the_data-2, the_data-3, the_data-4, the_data-5, the_data-6}
use Rattle.core_ir.specs.Terms.{BlockTerm, Gives, Bind, LetTerm, chain}
use Rattle.core_ir.specs.View.{block_term, let_term}
use Rattle.core_ir.proofs.Trees.{block_roll}
use Rattle.core_subst.specs.Names.{used_in, used_in_right}
use Rattle.core_forms.specs.cleaning.Unused.{is_unused}
use Rattle.unused_bindings.specs.declared.swept.SweptLet.{SweptLet}
use Rattle.unused_bindings.specs.Passed.{passed_term}
use Rattle.unused_bindings.specs.Swept.{PassedTerm, IsStep, needed_before}
use Rattle.removal_rules.specs.Uses.{among, either, is_not_used}
use Rattle.removal_rules.proofs.Sets.{lists_of}
use Rattle.unused_bindings.proofs.Turns.{map_snoc, needed_snoc}

unused_among : (xs all : List Var) → is_not_used xs (among all) ≡ is_unused xs all
unused_among [] all = refl
unused_among (x ∷ []) all = refl
unused_among (x ∷ y ∷ ys) all = refl

module _ (l : PassedTerm) (old : List LetTerm) (was : Var → Bool) where
  -- where it goes
  pub goes : (l.may_go && is_not_used l.binding.targets was) ≡ true → IsStep l old old was was
  goes h end u =
      let c = chain (reverse old) end in
      let t = sym h ∙ ap (λ b. l.may_go && b) ((λ i. is_not_used l.binding.targets (u i)) ∙ unused_among l.binding.targets (used_in c)) in
      ((λ i. if t i then c else Bind l.binding.targets l.binding.site l.binding.right c), u)

  -- where it stays
  pub stays : (l.may_go && is_not_used l.binding.targets was) ≡ false → (new : List LetTerm) (uses is : Var → Bool) → new ≡ old ++ (l.binding ∷ []) → uses ≡ among (used_in_right l.binding.right) → is ≡ either uses was → IsStep l old new was is
  stays h new uses is e w v end u =
      let c = chain (reverse old) end in
      let t = sym h ∙ ap (λ b. l.may_go && b) ((λ i. is_not_used l.binding.targets (u i)) ∙ unused_among l.binding.targets (used_in c)) in
      let onto : chain (reverse new) end ≡ Bind l.binding.targets l.binding.site l.binding.right c = (λ i. chain (reverse (e i)) end) ∙ (λ i. chain (reverse-append old (l.binding ∷ []) i) end) in (
        onto ∙ (λ i. if t i then c else Bind l.binding.targets l.binding.site l.binding.right c),
        lists_of (used_in_right l.binding.right) (used_in c) uses was is w u v ∙ (λ i. among (used_in (sym onto i))),
      )

-- the last of those that are left is taken
pub step_taken : (ps rest : List SweptLet) (x : SweptLet) (old new : List LetTerm) (was is : Var → Bool) (end whole : BlockTerm) → ps ≡ rest ++ (x ∷ []) → needed_before (map passed_term ps) (chain (reverse old) end) ≡ whole
    → was ≡ among (used_in (chain (reverse old) end)) → IsStep (passed_term x) old new was is → needed_before (map passed_term rest) (chain (reverse new) end) ≡ whole
step_taken ps rest x old new was is end whole last now u step =
    let c = chain (reverse old) end in
    ap (needed_before (map passed_term rest)) (step end u).0
    ∙ sym (needed_snoc (map passed_term rest) (passed_term x) c)
    ∙ (λ i. needed_before (sym (map_snoc passed_term rest x) i) c)
    ∙ (λ i. needed_before (map passed_term (sym last i)) c)
    ∙ now

map_reverse : {A B : Type 0} (f : A → B) (xs : List A) → map f (reverse xs) ≡ reverse (map f xs)
map_reverse f [] = refl
map_reverse f (x ∷ xs) = ap (map f) (last_of x xs) ∙ map_snoc f (reverse xs) x ∙ (λ i. map_reverse f xs i ++ (f x ∷ [])) ∙ sym (last_of (f x) (map f xs))
  where
    last_of : {C : Type 0} (y : C) (ys : List C) → reverse (y ∷ ys) ≡ reverse ys ++ (y ∷ [])
    last_of y ys = reverse-append (y ∷ []) ys

-- none is left
kept_block : (kept : List Let) (x : Block-F the_data the_data-1 the_data-2 the_data-3 the_data-4 the_data-5 the_data-6) → x.lets.items ≡ reverse kept
    → block_term (roll-Block x) ≡ chain (reverse (map let_term kept)) (Gives x.results.items)
kept_block kept x k = block_roll x ∙ (λ i. chain (map let_term (k i)) (Gives x.results.items)) ∙ (λ i. chain (map_reverse let_term kept i) (Gives x.results.items))

pub needed_end : (ps passed : List SweptLet) (kept : List Let) (x : Block-F the_data the_data-1 the_data-2 the_data-3 the_data-4 the_data-5 the_data-6) → ps ≡ [] → x.lets.items ≡ reverse kept
    → needed_before (map passed_term ps) (chain (reverse (map let_term kept)) (Gives x.results.items)) ≡ needed_before (map passed_term passed) (Gives x.results.items)
    → block_term (roll-Block x) ≡ needed_before (map passed_term passed) (Gives x.results.items)
needed_end ps passed kept x e k p =
    kept_block kept x k ∙ (λ i. needed_before (map passed_term (sym e i)) (chain (reverse (map let_term kept)) (Gives x.results.items))) ∙ p

pub used_end : (kept : List Let) (used : Var → Bool) (x : Block-F the_data the_data-1 the_data-2 the_data-3 the_data-4 the_data-5 the_data-6) → x.lets.items ≡ reverse kept
    → used ≡ among (used_in (chain (reverse (map let_term kept)) (Gives x.results.items))) → used ≡ among (used_in (block_term (roll-Block x)))
used_end kept used x k u = u ∙ (λ i. among (used_in (sym (kept_block kept x k) i)))
