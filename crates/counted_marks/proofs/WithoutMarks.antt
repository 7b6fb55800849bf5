-- Code without marks is well marked.
use Rattle.std.proofs.Common.{List, [], ◌∷◌, Option, None, sym, subst}
use Rattle.sac_base.specs.declared.base.Base.{Base}
use Rattle.sac_base.specs.declared.grid.Grid1.{Grid1}
use Rattle.core_ir.specs.declared.tree.PartedOp.{PartedOp}
use Rattle.core_ir.specs.declared.tree.Var.{Var}
use Rattle.counted_code.specs.Counts.{Unmarked, UnmarkedRight, UnmarkedGens, UnmarkedParts, UnmarkedFunctions}
use Rattle.counted_code.specs.Terms.{CodeTerm, CodeRightTerm, CodeGensTerm, CodePartsTerm, CodeFunTerm, Giving, Binding, Keeping, Releasing, PlainCode, IfCode, LoopCode, CallCode, WithCode, PartedCode, NoCodeGens, GenCode, NoCodeParts, PartCode, core_of_right, core_of_fun, core_of_code}
use Rattle.counted_marks.specs.Known.{Given, Known, learned, in_loop, in_gen, in_part, at_start, given}
use Rattle.counted_marks.specs.Marks.{WellMarked, WellMarkedRight, WellMarkedGens, WellMarkedParts, WellMarkedFunctions}
use Rattle.counted_marks.specs.Statements.{UnmarkedIsWellMarked}

module _ (g : Given) where
  mutual
    block_well : (t : CodeTerm) (k : Known) → Unmarked t → WellMarked g t k
    block_well (Giving xs) k u = tt
    block_well (Binding xs s r b) k u = (right_well r k xs u.0, block_well b (learned g k xs (core_of_right r)) u.1)
    block_well (Keeping x b) k u = block_well b k u
    block_well (Releasing x b) k u = block_well b k u

    right_well : (r : CodeRightTerm) (k : Known) (xs : List Var) → UnmarkedRight r → WellMarkedRight g r k xs
    right_well (PlainCode p) k xs u = tt
    right_well (IfCode c a b) k xs u = (block_well a k u.0, block_well b k u.1)
    right_well (LoopCode first start params test body s) k xs u = (block_well test (in_loop k params start) u.0, block_well body (in_loop k params start) u.1)
    right_well (CallCode group ys) k xs u = tt
    right_well (WithCode op gens) k xs u = gens_well gens k u
    right_well (PartedCode f b c op parts reuse) k xs u =
        subst (λ (o : Option Var). WellMarkedRight g (PartedCode f b c op parts o) k xs) (sym u.0) (parts_well parts k u.1)

    gens_well : (gens : CodeGensTerm) (k : Known) → UnmarkedGens gens → WellMarkedGens g gens k
    gens_well NoCodeGens k u = tt
    gens_well (GenCode h b rest) k u = (block_well b (in_gen k h) u.0, gens_well rest k u.1)

    parts_well : (parts : CodePartsTerm) (k : Known) → UnmarkedParts parts → WellMarkedParts g parts k
    parts_well NoCodeParts k u = tt
    parts_well (PartCode h b rest) k u = (block_well b (in_part k h) u.0, parts_well rest k u.1)

  functions_well : (fs : List CodeFunTerm) → UnmarkedFunctions fs → WellMarkedFunctions g fs
  functions_well [] u = tt
  functions_well (f ∷ fs) u = (block_well f.body (at_start (core_of_fun f)) u.0, functions_well fs u.1)

pub unmarked_well : UnmarkedIsWellMarked
unmarked_well code unmarked = functions_well (given (core_of_code code)) code.functions unmarked
