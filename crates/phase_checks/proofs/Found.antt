-- The references of a right side that is well counted, and what it is made of.
use Rattle.std.proofs.Common.{◌≡◌, ℕ, Bool, true, false, List, [], ◌++◌, length, Option, Some, None, Vec, Global, Result, Ok, Err, ◌∙◌, sym, subst}
use Rattle.std.specs.Prelude.{IfOk, IfSome, IsTrue, IsSomeAnd, option_to_list}
use Rattle.sac_base.specs.declared.base.Base.{Base}
use Rattle.sac_base.specs.declared.grid.Grid1.{Grid1}
use Rattle.sac_base.specs.declared.site.Site.{Site}
use Rattle.core_ir.specs.declared.tree.Var.{Var}
use Rattle.core_ir.specs.declared.tree.CoreOp.{CoreOp}
use Rattle.core_ir.specs.declared.tree.PartedOp.{PartedOp}
use Rattle.core_ir.specs.Binders.{is_in, NoneIn}
use Rattle.core_ir.specs.Scopes.{AllIn, plain_uses, op_uses, parted_uses}
use Rattle.core_ir.specs.Terms.{PlainTerm}
use Rattle.core_ir.specs.WellFormed.{Distinct}
use Rattle.counted_code.specs.Counts.{Reordered, none, plain_hands, CountedGens, CountedParts, UnmarkedGens, UnmarkedParts}
use Rattle.counted_code.specs.Terms.{CodeTerm, CodeRightTerm, CodeGensTerm, CodePartsTerm, PlainCode, IfCode, LoopCode, CallCode, WithCode, PartedCode}
use Rattle.counted_laws.proofs.placing.Orders.{reversed}
use Rattle.phase_checks.proofs.Counted.{in_any_order}
use Rattle.phase_checks.proofs.Orders.{in_order, nothing, opposite, same_before}
use Rattle.phase_checks.specs.Walks.{IsCounted, IsCountedRight, IsValue, OnlyReads}

-- what an answer follows from
pub then_asks : {E : Type 0} (r : Result Bool E) {P Q R : Type 0} → (R → P × Q) → IfOk r (λ b. P → Q → IsTrue b) → IfOk r (λ b. R → IsTrue b)
then_asks (Ok b) f h = λ c. h (f c).0 (f c).1
then_asks (Err e) f h = h

module _ (results_of : ℕ → ℕ) where
  -- ---- right sides without blocks

  pub plain_found : (n : ℕ) (scope mine : List Var) (p : PlainTerm) (r : CodeRightTerm) → r ≡ PlainCode p → mine ≡ plain_hands p → (own : List Var) → IsCountedRight results_of n scope own r → Reordered own mine
  plain_found n scope mine p r e m own c =
      subst (λ l. Reordered own l) (sym m) (subst (λ r. IsCountedRight results_of n scope own r) e c).0.1

  pub call_size : (n : ℕ) (scope args : List Var) (group : ℕ) (r : CodeRightTerm) → r ≡ CallCode group args → (own : List Var) → IsCountedRight results_of n scope own r → results_of group ≡ n
  call_size n scope args group r e own c = (subst (λ r. IsCountedRight results_of n scope own r) e c).0.0

  pub call_found : (n : ℕ) (scope mine args : List Var) (group : ℕ) (r : CodeRightTerm) → r ≡ CallCode group args → mine ≡ args → (own : List Var) → IsCountedRight results_of n scope own r → Reordered own mine
  call_found n scope mine args group r e m own c =
      subst (λ l. Reordered own l) (sym m) (subst (λ r. IsCountedRight results_of n scope own r) e c).0.1

  pub value_size : (r : CodeRightTerm) (n : ℕ) (scope own : List Var) → IsValue r → IsCountedRight results_of n scope own r → 1 ≡ n
  value_size (PlainCode (PlainTerm.Const a)) n scope own v c = c.0.0
  value_size (PlainCode (PlainTerm.Copy x)) n scope own v c = c.0.0
  value_size (PlainCode (PlainTerm.Unary op x)) n scope own v c = c.0.0
  value_size (PlainCode (PlainTerm.Binary op x y)) n scope own v c = c.0.0
  value_size (PlainCode (PlainTerm.Literal xs)) n scope own v c = c.0.0
  value_size (PlainCode (PlainTerm.Dim x)) n scope own v c = c.0.0
  value_size (PlainCode (PlainTerm.ShapeOf x)) n scope own v c = c.0.0
  value_size (PlainCode (PlainTerm.Reshape x y)) n scope own v c = c.0.0
  value_size (PlainCode (PlainTerm.Select x y)) n scope own v c = c.0.0
  value_size (PlainCode (PlainTerm.Replace x y z)) n scope own v c = c.0.0
  value_size (PlainCode (PlainTerm.Always k)) n scope own v c = absurd v
  value_size (PlainCode (PlainTerm.Check x t)) n scope own v c = c.0.0
  value_size (IfCode x a b) n scope own v c = absurd v
  value_size (LoopCode first start params test body s) n scope own v c = absurd v
  value_size (CallCode g xs) n scope own v c = absurd v
  value_size (WithCode op gens) n scope own v c = c.0.0
  value_size (PartedCode f b x op parts reuse) n scope own v c = c.0.0

  -- ---- right sides that end no reference

  pub with_none : (scope : List Var) (op : CoreOp) (gens : CodeGensTerm) (r : CodeRightTerm) → r ≡ WithCode op gens → (own : List Var) → IsCountedRight results_of 1 scope own r → own ≡ []
  with_none scope op gens r e own c = nothing own (subst (λ r. IsCountedRight results_of 1 scope own r) e c).0.1

  pub parted_none : (scope : List Var) (frame : List Grid1) (base : Base) (cell : List ℕ) (op : PartedOp) (parts : CodePartsTerm) (reuse : Option Var) (r : CodeRightTerm) → r ≡ PartedCode frame base cell op parts reuse → (own : List Var) → IsCountedRight results_of 1 scope own r → own ≡ []
  parted_none scope frame base cell op parts reuse r e own c =
      let d = subst (λ r. IsCountedRight results_of 1 scope own r) e c in
      nothing own (subst (λ o. Reordered own (option_to_list o)) d.1.0 d.0.1)

  pub reads_none : (r : CodeRightTerm) (scope own : List Var) → OnlyReads r → IsCountedRight results_of 1 scope own r → own ≡ []
  reads_none (PlainCode (PlainTerm.Const a)) scope own v c = nothing own c.0.1
  reads_none (PlainCode (PlainTerm.Copy x)) scope own v c = absurd v
  reads_none (PlainCode (PlainTerm.Unary op x)) scope own v c = nothing own c.0.1
  reads_none (PlainCode (PlainTerm.Binary op x y)) scope own v c = nothing own c.0.1
  reads_none (PlainCode (PlainTerm.Literal xs)) scope own v c = nothing own c.0.1
  reads_none (PlainCode (PlainTerm.Dim x)) scope own v c = nothing own c.0.1
  reads_none (PlainCode (PlainTerm.ShapeOf x)) scope own v c = nothing own c.0.1
  reads_none (PlainCode (PlainTerm.Reshape x y)) scope own v c = nothing own c.0.1
  reads_none (PlainCode (PlainTerm.Select x y)) scope own v c = nothing own c.0.1
  reads_none (PlainCode (PlainTerm.Replace x y z)) scope own v c = nothing own c.0.1
  reads_none (PlainCode (PlainTerm.Always k)) scope own v c = absurd v
  reads_none (PlainCode (PlainTerm.Check x t)) scope own v c = absurd v
  reads_none (IfCode x a b) scope own v c = absurd v
  reads_none (LoopCode first start params test body s) scope own v c = absurd v
  reads_none (CallCode g xs) scope own v c = absurd v
  reads_none (WithCode op gens) scope own v c = absurd v
  reads_none (PartedCode f b x op parts reuse) scope own v c = absurd v

  -- what a right side reads that only reads
  pub what_is_read : (scope : List Var) (p : PlainTerm) (r : CodeRightTerm) → r ≡ PlainCode p → IsCountedRight results_of 1 scope [] r → AllIn (plain_uses p) scope
  what_is_read scope p r e c = (subst (λ r. IsCountedRight results_of 1 scope [] r) e c).0.2

  pub none_counted : (scope : List Var) (r : CodeRightTerm) (holds : Bool) (found : Option (Vec Var Global)) → (IsTrue holds → IsCountedRight results_of 1 scope [] r) → IfSome found (λ mine. IsTrue holds) → IfSome found (λ mine. mine.items ≡ []) → IfSome found (λ mine. IsCountedRight results_of 1 scope mine.items r)
  none_counted scope r holds (Some mine) counted is empty = subst (λ l. IsCountedRight results_of 1 scope l r) (sym empty) (counted is)
  none_counted scope r holds None counted is empty = is

  -- the answer of one that ends no reference
  pub none_found : (own scope : List Var) (r : CodeRightTerm) (holds : Bool) (found : Option (Vec Var Global)) → own ≡ [] → IsCountedRight results_of 1 scope own r → (IsCountedRight results_of 1 scope [] r → IsTrue holds) → (IsTrue holds → IsSomeAnd found (λ mine. mine.items ≡ [])) → IsSomeAnd found (λ mine. Reordered own mine.items)
  none_found own scope r holds found e c tells gives =
      go found (gives (tells (subst (λ own. IsCountedRight results_of 1 scope own r) e c)))
    where
      go : (found : Option (Vec Var Global)) → IsSomeAnd found (λ mine. mine.items ≡ []) → IsSomeAnd found (λ mine. Reordered own mine.items)
      go (Some mine) is = subst (λ l. Reordered own l) (sym is) (subst (λ l. Reordered l []) (sym e) none)
      go None is = is

  -- ---- loops over cells

  pub with_parts : (scope : List Var) (op : CoreOp) (gens : CodeGensTerm) (r : CodeRightTerm) → r ≡ WithCode op gens → IsCountedRight results_of 1 scope [] r → AllIn (op_uses op) scope × CountedGens results_of scope gens × UnmarkedGens gens
  with_parts scope op gens r e c =
      let d = subst (λ r. IsCountedRight results_of 1 scope [] r) e c in
      (d.0.2, d.0.3, d.1)

  pub parted_parts : (scope : List Var) (frame : List Grid1) (base : Base) (cell : List ℕ) (op : PartedOp) (parts : CodePartsTerm) (reuse : Option Var) (r : CodeRightTerm) → r ≡ PartedCode frame base cell op parts reuse → IsCountedRight results_of 1 scope [] r → (reuse ≡ None) × AllIn (parted_uses op) scope × CountedParts results_of scope parts × UnmarkedParts parts
  parted_parts scope frame base cell op parts reuse r e c =
      let d = subst (λ r. IsCountedRight results_of 1 scope [] r) e c in
      (d.1.0, d.0.2, d.0.3, d.1.1)

  -- ---- conditionals

  -- what is told of the references of the first branch
  abbrev pub Branch : (n : ℕ) (scope : List Var) → CodeTerm → Option (Vec Var Global) → Type 0
  Branch n scope a found = (own : List Var) → IsCounted results_of n scope own a → IsSomeAnd found (λ mine. Reordered own mine.items)

  if_parts : (n : ℕ) (scope : List Var) (x : Var) (a b : CodeTerm) (r : CodeRightTerm) → r ≡ IfCode x a b → (own : List Var) → IsCountedRight results_of n scope own r → (is_in x (own ++ scope) ≡ true) × IsCounted results_of n scope own a × IsCounted results_of n scope own b
  if_parts n scope x a b r e own c =
      let d = subst (λ r. IsCountedRight results_of n scope own r) e c in
      (d.0.0, (d.0.1, d.1.0), (d.0.2, d.1.1))

  pub if_found : (n : ℕ) (scope : List Var) (x : Var) (a b : CodeTerm) (r : CodeRightTerm) → r ≡ IfCode x a b → (found : Option (Vec Var Global)) → Branch n scope a found → (own : List Var) → IsCountedRight results_of n scope own r → IsSomeAnd found (λ mine. Reordered own mine.items)
  if_found n scope x a b r e found first own c = first own (if_parts n scope x a b r e own c).1

  pub if_unread : (n : ℕ) (scope : List Var) (x : Var) (a b : CodeTerm) (r : CodeRightTerm) → r ≡ IfCode x a b → (mine : Vec Var Global) → Branch n scope a (Some mine) → is_in x (mine.items ++ scope) ≡ false → (own : List Var) → IsCountedRight results_of n scope own r → ⊥
  if_unread n scope x a b r e mine first unread own c =
      let p = if_parts n scope x a b r e own c in
      opposite (sym ((same_before scope (in_order own mine.items (first own p.1))).at x) ∙ p.0) unread

  pub if_other : (n : ℕ) (scope : List Var) (x : Var) (a b : CodeTerm) (r : CodeRightTerm) → r ≡ IfCode x a b → (mine : Vec Var Global) (answer : Bool) → Branch n scope a (Some mine) → (IsCounted results_of n scope mine.items b → IsTrue answer) → answer ≡ false → (own : List Var) → IsCountedRight results_of n scope own r → ⊥
  if_other n scope x a b r e mine answer first second other own c =
      let p = if_parts n scope x a b r e own c in
      opposite (second (in_any_order results_of b n scope mine.items own (reversed (first own p.1)) p.2.0, p.2.1)) other

  -- ---- loops

  pub loop_parts : (n : ℕ) (scope : List Var) (before : Bool) (start params : List Var) (test body : CodeTerm) (s : Site) (r : CodeRightTerm) → r ≡ LoopCode before start params test body s → (own : List Var) → IsCountedRight results_of n scope own r → (length start ≡ n) × (length params ≡ n) × Distinct params × NoneIn params scope × Reordered own start × IsCounted results_of 1 (params ++ scope) [] test × IsCounted results_of n scope params body
  loop_parts n scope before start params test body s r e own c =
      let d = subst (λ r. IsCountedRight results_of n scope own r) e c in
      (d.0.0, d.0.1, d.0.2, d.0.3, d.0.4, (d.0.5, d.1.0), (d.0.6, d.1.1))
