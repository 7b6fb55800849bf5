-- Which array a parted loop may take over for its result, and which counted code is well marked.
use Rattle.std.specs.Prelude.{◌≡◌, ℕ, ◌&&◌, Bool, true, false, cond, eqb, List, [], ◌∷◌, length, pos, Option, Some, None}
use Rattle.std.specs.List.{list_all}
use Rattle.std.specs.Ordering.{int_eq}
use Rattle.sac_base.specs.declared.base.Base.{Base}
use Rattle.sac_base.specs.declared.grid.Grid1.{Grid1}
use Rattle.core_ir.specs.declared.tree.Var.{Var}
use Rattle.core_ir.specs.declared.tree.PartedOp.{PartedOp}
use Rattle.core_ir.specs.Binders.{is_in}
use Rattle.core_ir.specs.Meaning.{extents}
use Rattle.core_ir.specs.Scopes.{plain_uses, op_uses, parted_uses}
use Rattle.core_ir.specs.Terms.{PlainTerm}
use Rattle.core_facts.specs.Facts.{Facts, note_all, right_facts, is_shape}
use Rattle.core_facts.specs.Facts
use Rattle.core_loops.specs.Indices.{IndexFact, IndexFacts, Plus, Other, own_index, note_index, note_others, learn_index}
use Rattle.core_loops.specs.Pairs.{Makes}
use Rattle.core_uses.specs.Tests.{none_is, head_avoided}
use Rattle.counted_code.specs.Terms.{CodeTerm, CodeRightTerm, CodeGensTerm, CodePartsTerm, CodeFunTerm, CodeProgram, Giving, Binding, Keeping}
use Rattle.counted_code.specs.Terms.{Releasing, PlainCode, IfCode, LoopCode, CallCode, WithCode, PartedCode, NoCodeGens, GenCode, NoCodeParts}
use Rattle.counted_code.specs.Terms.{PartCode, core_of_right, core_of_fun, core_of_code}
use Rattle.counted_code.specs.Values.{is_small}
use Rattle.counted_laws.specs.mark_places.Places.{releases_next}
use Rattle.counted_marks.specs.Known.{Given, Known, learned, in_loop, in_gen, in_part, at_start, given}

-- ---- uses of an array in a loop's cells

-- the index itself, with nothing added
abbrev pub is_own_index : IndexFact → Bool
is_own_index (Plus c) = list_all (λ z. int_eq z (pos 0)) c
is_own_index _ = false

abbrev pub own_plain : Var → PlainTerm → IndexFacts → Bool
own_plain v (PlainTerm.Select x y) m = none_is v (y ∷ []) && cond (eqb v.0 x.0) (is_own_index (m y)) true
own_plain v p m = none_is v (plain_uses p)

-- The code uses v in selections at the own index alone, and keeps no reference to it. n is the number of the index's components.
module _ (called : ℕ → List (Option (List ℕ))) (v : Var) (n : ℕ) where
  abbrev mutual
    pub own_only : CodeTerm → Facts → IndexFacts → Bool
    own_only (Giving xs) k m = none_is v xs
    own_only (Binding xs s r b) k m =
        own_right r k m && own_only b (note_all k xs (right_facts called (core_of_right r) k)) (learn_index n m xs (core_of_right r) k)
    own_only (Keeping x b) k m = none_is v (x ∷ []) && own_only b k m
    own_only (Releasing x b) k m = own_only b k m

    pub own_right : CodeRightTerm → Facts → IndexFacts → Bool
    own_right (PlainCode p) k m = own_plain v p m
    own_right (IfCode x a b) k m = none_is v (x ∷ []) && (own_only a k m && own_only b k m)
    own_right (LoopCode first start params test body s) k m =
        none_is v start && (own_only test (note_all k params []) (note_others m params) && own_only body (note_all k params []) (note_others m params))
    own_right (CallCode g xs) k m = none_is v xs
    own_right (WithCode o gens) k m = none_is v (op_uses o) && own_gens gens k m
    own_right (PartedCode f b c o parts reuse) k m = none_is v (parted_uses o) && own_inner parts k m

    pub own_gens : CodeGensTerm → Facts → IndexFacts → Bool
    own_gens NoCodeGens k m = true
    own_gens (GenCode h b rest) k m =
        (head_avoided v h && own_only b (note_all k (h.index ∷ h.names) []) (note_others m (h.index ∷ h.names))) && own_gens rest k m

    -- the index of a loop in a cell is another one
    pub own_inner : CodePartsTerm → Facts → IndexFacts → Bool
    own_inner NoCodeParts k m = true
    own_inner (PartCode h b rest) k m = own_only b (Facts.in_part k h) (note_index m h.index Other) && own_inner rest k m

-- the same of the parts of a loop
abbrev pub own_parts : (ℕ → List (Option (List ℕ))) → Var → CodePartsTerm → Facts → Bool
own_parts called v NoCodeParts k = true
own_parts called v (PartCode h b rest) k =
    own_only called v (length h.grid) b (Facts.in_part k h) (own_index (length h.grid) h.index) && own_parts called v rest k

-- ---- reuse candidates

-- The loop may write its result over the array v, where that array's reference is the only one: it makes an array of scalar cells in a buffer, v has the
-- result's base and known shape, and each cell reads of v its own element alone.
pub record MayReuse (g : Given) (k : Known) (frame : List Grid1) (base : Base) (cell : List ℕ) (op : PartedOp) (parts : CodePartsTerm) (v : Var) : Type 0 where
  pub makes : Makes op
  pub scalars : cell ≡ []
  pub array : is_shape (extents frame) ≡ true
  pub buffer : is_small (extents frame) ≡ false
  pub typed : k.bases v ≡ Some base
  pub shape : (k.facts v).shape ≡ Some (extents frame)
  pub own : own_parts g.shapes v parts k.facts ≡ true

-- A loop that binds these variables and an array that it may take over, before the rest of the block. The array was there before the loop.
pub record IsCandidate (g : Given) (k : Known) (targets : List Var) (frame : List Grid1) (base : Base) (cell : List ℕ) (op : PartedOp) (parts : CodePartsTerm)
    (rest : CodeTerm) (v : Var) : Type 0 where
  pub before : is_in v targets ≡ false
  pub may : MayReuse g k frame base cell op parts v
  -- the block releases it before its next binding
  pub released : releases_next v rest ≡ true

-- ---- well-marked code

-- each mark is a candidate of its loop, where the mark stands for the release
module _ (g : Given) where
  abbrev mutual
    pub WellMarked : CodeTerm → Known → Type 0
    WellMarked (Giving xs) k = Unit {0}
    WellMarked (Binding xs s r b) k = WellMarkedRight r k xs × WellMarked b (learned g k xs (core_of_right r))
    WellMarked (Keeping x b) k = WellMarked b k
    WellMarked (Releasing x b) k = WellMarked b k

    pub WellMarkedRight : CodeRightTerm → Known → List Var → Type 0
    WellMarkedRight (PlainCode p) k xs = Unit {0}
    WellMarkedRight (IfCode c a b) k xs = WellMarked a k × WellMarked b k
    WellMarkedRight (LoopCode first start params test body s) k xs = WellMarked test (in_loop k params start) × WellMarked body (in_loop k params start)
    WellMarkedRight (CallCode group ys) k xs = Unit {0}
    WellMarkedRight (WithCode op gens) k xs = WellMarkedGens gens k
    WellMarkedRight (PartedCode f b c op parts None) k xs = WellMarkedParts parts k
    WellMarkedRight (PartedCode f b c op parts (Some v)) k xs = (is_in v xs ≡ false) × MayReuse g k f b c op parts v × WellMarkedParts parts k

    pub WellMarkedGens : CodeGensTerm → Known → Type 0
    WellMarkedGens NoCodeGens k = Unit {0}
    WellMarkedGens (GenCode h b rest) k = WellMarked b (in_gen k h) × WellMarkedGens rest k

    pub WellMarkedParts : CodePartsTerm → Known → Type 0
    WellMarkedParts NoCodeParts k = Unit {0}
    WellMarkedParts (PartCode h b rest) k = WellMarked b (in_part k h) × WellMarkedParts rest k

  -- no loop without a mark has a candidate
  abbrev mutual
    pub NoneLeft : CodeTerm → Known → Type 0
    NoneLeft (Giving xs) k = Unit {0}
    NoneLeft (Binding xs s r b) k = NoneLeftRight xs r b k × NoneLeft b (learned g k xs (core_of_right r))
    NoneLeft (Keeping x b) k = NoneLeft b k
    NoneLeft (Releasing x b) k = NoneLeft b k

    pub NoneLeftRight : List Var → CodeRightTerm → CodeTerm → Known → Type 0
    NoneLeftRight xs (PlainCode p) rest k = Unit {0}
    NoneLeftRight xs (IfCode c a b) rest k = NoneLeft a k × NoneLeft b k
    NoneLeftRight xs (LoopCode first start params test body s) rest k = NoneLeft test (in_loop k params start) × NoneLeft body (in_loop k params start)
    NoneLeftRight xs (CallCode group ys) rest k = Unit {0}
    NoneLeftRight xs (WithCode op gens) rest k = NoneLeftGens gens k
    NoneLeftRight xs (PartedCode f b c op parts None) rest k = ((v : Var) → IsCandidate g k xs f b c op parts rest v → ⊥) × NoneLeftParts parts k
    NoneLeftRight xs (PartedCode f b c op parts (Some v)) rest k = NoneLeftParts parts k

    pub NoneLeftGens : CodeGensTerm → Known → Type 0
    NoneLeftGens NoCodeGens k = Unit {0}
    NoneLeftGens (GenCode h b rest) k = NoneLeft b (in_gen k h) × NoneLeftGens rest k

    pub NoneLeftParts : CodePartsTerm → Known → Type 0
    NoneLeftParts NoCodeParts k = Unit {0}
    NoneLeftParts (PartCode h b rest) k = NoneLeft b (in_part k h) × NoneLeftParts rest k

  abbrev pub WellMarkedFunctions : List CodeFunTerm → Type 0
  WellMarkedFunctions [] = Unit {0}
  WellMarkedFunctions (f ∷ fs) = WellMarked f.body (at_start (core_of_fun f)) × WellMarkedFunctions fs

  abbrev pub NoneLeftFunctions : List CodeFunTerm → Type 0
  NoneLeftFunctions [] = Unit {0}
  NoneLeftFunctions (f ∷ fs) = NoneLeft f.body (at_start (core_of_fun f)) × NoneLeftFunctions fs

abbrev pub IsWellMarked : CodeProgram → Type 0
IsWellMarked code = WellMarkedFunctions (given (core_of_code code)) code.functions

abbrev pub HasNoneLeft : CodeProgram → Type 0
HasNoneLeft code = NoneLeftFunctions (given (core_of_code code)) code.functions
