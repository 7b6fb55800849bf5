-- One binding of the walk more, and its ends.
use Rattle.std.specs.Prelude.{unwrap_or, Vec, ℤ, Result, Ok, Err}
use Rattle.std.specs.Option.{is_some}
use Rattle.std.specs.declared.alloc.Global.{Global}
use Rattle.std.proofs.Common.{◌≡◌, ℕ, Bool, true, false, ◌&&◌, List, [], ◌∷◌, ◌++◌, map, Option, Some, None, refl, sym, ap, ◌∙◌, append_assoc, append-nil}
use Rattle.core_ir.specs.declared.tree.Let.{Let}
use Rattle.core_ir.specs.declared.tree.Var.{Var}
use Rattle.core_ir.specs.declared.tree.Block.{Block, out-Block}
use Rattle.core_ir.specs.Terms.{BlockTerm, RightTerm, Gives, chain}
use Rattle.core_ir.specs.View.{block_term, let_term, right_term}
use Rattle.core_ir.proofs.Trees.{block_out}
use Rattle.core_facts.specs.Facts.{Fact, Facts, note_all, right_facts, block_facts}
use Rattle.core_loops.specs.Indices.{IndexFacts, learn_index, note_others}
use Rattle.core_loops.specs.Pairs.{offsets, offsets_right}
use Rattle.core_uses.specs.Tests.{none_is}
use Rattle.fact_table.specs.declared.known.Known.{Known}
use Rattle.fact_table.specs.Table.{fact_of}
use Rattle.total_cells.specs.loop_selections.Selecting.{is_selecting, is_selecting_right}
use Rattle.total_cells.specs.loop_selections.Told.{known_if, seen}

-- a binding that only selects
pub select_turn : (p : Var) (x : Let) (before rest : List Let) (end : BlockTerm) (whole : Bool) → before ≡ x ∷ rest → true ≡ is_selecting_right p (right_term x.right)
    → is_selecting p (chain (map let_term before) end) ≡ whole → is_selecting p (chain (map let_term rest) end) ≡ whole
select_turn p x before rest end whole b t h =
    (λ i. t i && is_selecting p (chain (map let_term rest) end)) ∙ (λ i. is_selecting p (chain (map let_term (sym b i)) end)) ∙ h

-- a binding that does not
pub select_stop : (p : Var) (x : Let) (before rest : List Let) (end : BlockTerm) (whole : Bool) → before ≡ x ∷ rest → false ≡ is_selecting_right p (right_term x.right)
    → is_selecting p (chain (map let_term before) end) ≡ whole → whole ≡ false
select_stop p x before rest end whole b t h =
    sym h ∙ (λ i. is_selecting p (chain (map let_term (b i)) end)) ∙ (λ i. sym t i && is_selecting p (chain (map let_term rest) end))

pub known_turn : (called : ℕ → List (Option (List ℕ))) (k k' : Facts) (x : Let) (before rest : List Let) (end : BlockTerm) (whole : List Fact) → before ≡ x ∷ rest
    → k' ≡ note_all k x.targets.items (right_facts called (right_term x.right) k) → block_facts called (chain (map let_term before) end) k ≡ whole → block_facts called (chain (map let_term rest) end) k' ≡ whole
known_turn called k k' x before rest end whole b p h =
    ap (block_facts called (chain (map let_term rest) end)) p ∙ (λ i. block_facts called (chain (map let_term (sym b i)) end) k) ∙ h

-- what is found, with what the rest gives, stays the whole
pub found_turn : (called : ℕ → List (Option (List ℕ))) (p : Var) (n : ℕ) (k k' : Facts) (m m' : IndexFacts) (x : Let) (before rest : List Let) (end : BlockTerm) (old new whole : List (Option (List ℤ)))
    → before ≡ x ∷ rest → k' ≡ note_all k x.targets.items (right_facts called (right_term x.right) k) → m' ≡ learn_index n m x.targets.items (right_term x.right) k
    → new ≡ old ++ offsets_right called p n (right_term x.right) k m → old ++ offsets called p n (chain (map let_term before) end) k m ≡ whole
    → new ++ offsets called p n (chain (map let_term rest) end) k' m' ≡ whole
found_turn called p n k k' m m' x before rest end old new whole b e f g h =
    (λ i. g i ++ offsets called p n (chain (map let_term rest) end) (e i) (f i))
    ∙ append_assoc old (offsets_right called p n (right_term x.right) k m) _
    ∙ (λ i. old ++ offsets called p n (chain (map let_term (sym b i)) end) k m)
    ∙ h

-- the whole block, where its bindings are passed or not
pub block_values : (called : ℕ → List (Option (List ℕ))) (p : Var) (b : Block) (k k' : Facts) (lets : List Let) (rs : List Var) (passed : Bool) (o : Option (List Fact)) → lets ≡ (out-Block b).lets.items → rs ≡ (out-Block b).results.items
    → ((end : BlockTerm) → is_selecting p (chain (map let_term lets) end) ≡ (passed && is_selecting p end))
    → (passed ≡ true → (end : BlockTerm) → block_facts called (chain (map let_term lets) end) k ≡ block_facts called end k')
    → o ≡ known_if (passed && none_is p rs) (map k' rs) → o ≡ known_if (is_selecting p (block_term b)) (block_facts called (block_term b) k)
block_values called p b k k' lets rs passed o l r t f e =
    e
    ∙ at passed t f
    ∙ (λ i. known_if (is_selecting p (chain (map let_term (l i)) (Gives (r i)))) (block_facts called (chain (map let_term (l i)) (Gives (r i))) k))
    ∙ (λ i. known_if (is_selecting p (sym (block_out b) i)) (block_facts called (sym (block_out b) i) k))
  where
    at : (passed : Bool) → ((end : BlockTerm) → is_selecting p (chain (map let_term lets) end) ≡ (passed && is_selecting p end))
        → (passed ≡ true → (end : BlockTerm) → block_facts called (chain (map let_term lets) end) k ≡ block_facts called end k')
        → known_if (passed && none_is p rs) (map k' rs) ≡ known_if (is_selecting p (chain (map let_term lets) (Gives rs))) (block_facts called (chain (map let_term lets) (Gives rs)) k)
    at true t f = λ i. known_if (sym (t (Gives rs)) i) (sym (f refl (Gives rs)) i)
    at false t f = λ i. known_if (sym (t (Gives rs)) i) (block_facts called (chain (map let_term lets) (Gives rs)) k)

-- where something is known, the bindings are passed
pub passed_some : (o : Option (Vec Known Global)) (a b : Bool) (fs : List Fact) → seen o ≡ known_if (a && b) fs → is_some o ≡ true → a ≡ true
passed_some o true b fs e s = refl
passed_some (Some v) false b fs e s = absurd (let q : ◌≡◌ {A = Option (List Fact)} (Some (map fact_of v.items)) None = e in cc)
passed_some None false b fs e s = absurd (let q : ◌≡◌ {A = Bool} false true = s in cc)

pub block_found : (called : ℕ → List (Option (List ℕ))) (p : Var) (n : ℕ) (b : Block) (k k' : Facts) (m m' : IndexFacts) (lets : List Let) (old new : List (Option (List ℤ)))
    → lets ≡ (out-Block b).lets.items → ((end : BlockTerm) → new ++ offsets called p n end k' m' ≡ old ++ offsets called p n (chain (map let_term lets) end) k m)
    → new ≡ old ++ offsets called p n (block_term b) k m
block_found called p n b k k' m m' lets old new l h =
    let end = Gives (out-Block b).results.items in
    sym (append-nil new)
    ∙ h end
    ∙ (λ i. old ++ offsets called p n (chain (map let_term (l i)) end) k m)
    ∙ (λ i. old ++ offsets called p n (sym (block_out b) i) k m)

-- what a known answer says
pub is_known : (b : Bool) (fs gs : List Fact) → Some fs ≡ known_if b gs → (b ≡ true) × (fs ≡ gs)
is_known true fs gs e = (refl, ap (λ (o : Option (List Fact)). unwrap_or o []) e)
is_known false fs gs e = absurd (let q : ◌≡◌ {A = Option (List Fact)} (Some fs) None = e in cc)

pub is_unknown : (b : Bool) (gs : List Fact) → None ≡ known_if b gs → b ≡ false
is_unknown true gs e = absurd (let q : ◌≡◌ {A = Option (List Fact)} None (Some gs) = e in cc)
is_unknown false gs e = refl

-- ---- conditionals

pub choice_unknown : (s a b : Bool) (fs : List Fact) → b ≡ false → None ≡ known_if (s && (a && b)) fs
choice_unknown true true b fs e = λ i. known_if (sym e i) fs
choice_unknown true false b fs e = refl
choice_unknown false a b fs e = refl

pub choice_known : (s a b : Bool) (fs gs : List Fact) → s ≡ true → a ≡ true → b ≡ true → gs ≡ fs → Some gs ≡ known_if (s && (a && b)) fs
choice_known s a b fs gs p q r e = (λ i. known_if (sym p i && (sym q i && sym r i)) (e i))

-- whether there is an answer
pub some_is : (o : Option (Vec Known Global)) (b : Bool) (fs : List Fact) → seen o ≡ known_if b fs → is_some o ≡ b
some_is None true fs e = absurd (let q : ◌≡◌ {A = Option (List Fact)} None (Some fs) = e in cc)
some_is None false fs e = refl
some_is (Some v) true fs e = refl
some_is (Some v) false fs e = absurd (let q : ◌≡◌ {A = Option (List Fact)} (Some (map fact_of v.items)) None = e in cc)

-- ---- two blocks, one after the other

pub two_found : {f1 f2 zs : List (Option (List ℤ))} (f0 xs ys : List (Option (List ℤ))) → f1 ≡ f0 ++ xs → f2 ≡ f1 ++ zs → zs ≡ ys → f2 ≡ f0 ++ (xs ++ ys)
two_found f0 xs ys p q e = q ∙ (λ i. p i ++ e i) ∙ append_assoc f0 xs ys

-- of a loop's parameters no relation is known
pub loop_learns : (n : ℕ) (m : IndexFacts) (xs : List Var) (first : Bool) (start params : List Var) (test body : BlockTerm) (s : Rattle.sac_base.specs.declared.site.Site.Site) (k : Facts)
    → learn_index n m xs (RightTerm.Loop first start params test body s) k ≡ note_others m xs
loop_learns n m [] first start params test body s k = refl
loop_learns n m (x ∷ []) first start params test body s k = refl
loop_learns n m (x ∷ y ∷ ys) first start params test body s k = refl

-- ---- answers

abbrev ok_value : {E : Type 0} → Result Bool E → Bool
ok_value (Ok b) = b
ok_value (Err e) = false

pub ok_is : {E : Type 0} (a b : Bool) → ◌≡◌ {A = Result Bool E} (Ok a) (Ok b) → a ≡ b
ok_is a b e = ap ok_value e

pub both_is : (a b : Bool) → (a && b) ≡ true → (a ≡ true) × (b ≡ true)
both_is true b p = (refl, p)
both_is false b p = absurd (let q : ◌≡◌ {A = Bool} false true = p in cc)
