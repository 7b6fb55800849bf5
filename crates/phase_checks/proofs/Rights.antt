-- Right sides that are well counted.
use Rattle.std.proofs.Common.{◌≡◌, ℕ, Bool, true, false, true≢false, List, [], ◌∷◌, ◌++◌, length, Option, Some, None, Result, Ok, Err, refl, sym, subst}
use Rattle.std.specs.Prelude.{IfOk, IsTrue, is_some, option_to_list}
use Rattle.sac_base.specs.declared.base.Base.{Base}
use Rattle.sac_base.specs.declared.grid.Grid1.{Grid1}
use Rattle.sac_base.specs.declared.site.Site.{Site}
use Rattle.core_ir.specs.declared.tree.Var.{Var}
use Rattle.core_ir.specs.declared.tree.CoreOp.{CoreOp}
use Rattle.core_ir.specs.declared.tree.PartedOp.{PartedOp}
use Rattle.core_ir.specs.Binders.{is_in, NoneIn}
use Rattle.core_ir.specs.Scopes.{AllIn, plain_uses, op_uses, parted_uses}
use Rattle.core_ir.specs.Terms.{PlainTerm}
use Rattle.core_ir.specs.WellFormed.{Distinct}
use Rattle.counted_code.specs.Counts.{Reordered, none, plain_hands, PlainGives, CountedGens, CountedParts, UnmarkedGens, UnmarkedParts}
use Rattle.counted_code.specs.Terms.{CodeTerm, CodeRightTerm, CodeGensTerm, CodePartsTerm, PlainCode, IfCode, LoopCode, CallCode, WithCode, PartedCode}
use Rattle.counted_laws.proofs.placing.Lists.{here}
use Rattle.counted_laws.proofs.placing.Orders.{same_order}
use Rattle.phase_checks.specs.Walks.{IsCounted, IsCountedRight}

-- what follows of an answer
pub then_holds : {E : Type 0} (r : Result Bool E) {P Q : Type 0} → (P → Q) → IfOk r (λ b. IsTrue b → P) → IfOk r (λ b. IsTrue b → Q)
then_holds (Ok b) f h = λ t. f (h t)
then_holds (Err e) f h = h

-- there is no mark
pub no_mark : (o : Option Var) → is_some o ≡ false → o ≡ None
no_mark None e = refl
no_mark (Some x) e = elim (true≢false e) [ ]

module _ (results_of : ℕ → ℕ) where
  -- one that only reads
  pub reads_counted : (scope : List Var) (p : PlainTerm) (r : CodeRightTerm) → r ≡ PlainCode p → PlainGives 1 p → plain_hands p ≡ [] → AllIn (plain_uses p) scope → IsCountedRight results_of 1 scope [] r
  reads_counted scope p r e gives hands reads =
      subst (λ r. IsCountedRight results_of 1 scope [] r) (sym e) ((gives, subst (λ l. Reordered [] l) (sym hands) none, reads), tt)

  -- one that hands on what it reads
  pub hands_counted : (scope mine : List Var) (x : Var) (p : PlainTerm) (r : CodeRightTerm) → r ≡ PlainCode p → PlainGives 1 p → plain_hands p ≡ x ∷ [] → plain_uses p ≡ x ∷ [] → mine ≡ x ∷ [] → IsCountedRight results_of 1 scope mine r
  hands_counted scope mine x p r e gives hands reads m =
      subst (λ r. IsCountedRight results_of 1 scope mine r) (sym e) (subst (λ mine. IsCountedRight results_of 1 scope mine (PlainCode p)) (sym m)
      ((gives, subst (λ l. Reordered (x ∷ []) l) (sym hands) (same_order (x ∷ [])), subst (λ l. AllIn l (x ∷ scope)) (sym reads) (here x scope, tt)), tt))

  pub fault_counted : (n : ℕ) (scope mine : List Var) (p : PlainTerm) (r : CodeRightTerm) → r ≡ PlainCode p → PlainGives n p → plain_hands p ≡ [] → plain_uses p ≡ [] → mine ≡ [] → IsCountedRight results_of n scope mine r
  fault_counted n scope mine p r e gives hands reads m =
      subst (λ r. IsCountedRight results_of n scope mine r) (sym e) (subst (λ mine. IsCountedRight results_of n scope mine (PlainCode p)) (sym m)
      ((gives, subst (λ l. Reordered [] l) (sym hands) none, subst (λ l. AllIn l scope) (sym reads) tt), tt))

  pub call_counted : (n : ℕ) (scope mine args : List Var) (group : ℕ) (r : CodeRightTerm) → r ≡ CallCode group args → results_of group ≡ n → mine ≡ args → IsCountedRight results_of n scope mine r
  call_counted n scope mine args group r e size m =
      subst (λ r. IsCountedRight results_of n scope mine r) (sym e) ((size, subst (λ l. Reordered l args) (sym m) (same_order args)), tt)

  pub if_counted : (n : ℕ) (scope mine : List Var) (x : Var) (a b : CodeTerm) (r : CodeRightTerm) → r ≡ IfCode x a b → is_in x (mine ++ scope) ≡ true → IsCounted results_of n scope mine a → IsCounted results_of n scope mine b → IsCountedRight results_of n scope mine r
  if_counted n scope mine x a b r e there first second =
      subst (λ r. IsCountedRight results_of n scope mine r) (sym e) ((there, first.0, second.0), (first.1, second.1))

  pub loop_counted : (n : ℕ) (scope mine : List Var) (before : Bool) (start params : List Var) (test body : CodeTerm) (s : Site) (r : CodeRightTerm) → r ≡ LoopCode before start params test body s → length start ≡ n → length params ≡ n → Distinct params → NoneIn params scope → mine ≡ start → IsCounted results_of 1 (params ++ scope) [] test → IsCounted results_of n scope params body → IsCountedRight results_of n scope mine r
  loop_counted n scope mine before start params test body s r e size same d new m tested turned =
      subst (λ r. IsCountedRight results_of n scope mine r) (sym e) ((size, same, d, new, subst (λ l. Reordered l start) (sym m) (same_order start), tested.0, turned.0), (tested.1, turned.1))

  pub with_counted : (scope : List Var) (op : CoreOp) (gens : CodeGensTerm) (r : CodeRightTerm) → r ≡ WithCode op gens → AllIn (op_uses op) scope → CountedGens results_of scope gens × UnmarkedGens gens → IsCountedRight results_of 1 scope [] r
  with_counted scope op gens r e reads c = subst (λ r. IsCountedRight results_of 1 scope [] r) (sym e) ((refl, none, reads, c.0), c.1)

  pub parted_counted : (scope : List Var) (frame : List Grid1) (base : Base) (cell : List ℕ) (op : PartedOp) (parts : CodePartsTerm) (reuse : Option Var) (r : CodeRightTerm) → r ≡ PartedCode frame base cell op parts reuse → reuse ≡ None → AllIn (parted_uses op) scope → CountedParts results_of scope parts × UnmarkedParts parts → IsCountedRight results_of 1 scope [] r
  parted_counted scope frame base cell op parts reuse r e mark reads c =
      subst (λ r. IsCountedRight results_of 1 scope [] r) (sym e) ((refl, subst (λ o. Reordered [] (option_to_list o)) (sym mark) none, reads, c.0), (mark, c.1))
