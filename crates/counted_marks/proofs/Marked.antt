-- What the function on terms gives is the code with marks in the place of releases.
use Rattle.std.proofs.Common.{◌≡◌, ℕ, Bool, true, false, List, [], ◌∷◌, map, Option, Some, None, refl, ap, ◌∙◌, sym, subst, true≢false}
use Rattle.sac_base.specs.declared.base.Base.{Base}
use Rattle.sac_base.specs.declared.grid.Grid1.{Grid1}
use Rattle.sac_base.specs.declared.site.Site.{Site}
use Rattle.core_ir.specs.declared.tree.Var.{Var}
use Rattle.core_ir.specs.declared.tree.PartedOp.{PartedOp}
use Rattle.core_ir.specs.Binders.{is_in}
use Rattle.counted_code.specs.Terms.{CodeTerm, CodeRightTerm, CodeGensTerm, CodePartsTerm, CodeFunTerm, CodeProgram, Giving, Binding, Keeping, Releasing, PlainCode, IfCode, LoopCode, CallCode, WithCode, PartedCode, NoCodeGens, GenCode, NoCodeParts, PartCode, core_of_right, core_of_fun, core_of_code}
use Rattle.counted_laws.specs.mark_places.Places.{Marked, MarkedRight, MarkedGens, MarkedParts, MarkedFunction, MarkedFunctions, MarkedCode, giving, binding, taking, keeping, releasing, plain, branches, turns, call, cells, parts, no_gens, gen, no_parts, part}
use Rattle.counted_marks.specs.Known.{Given, Known, learned, in_loop, in_gen, in_part, at_start, given}
use Rattle.counted_marks.specs.Marks.{IsCandidate}
use Rattle.counted_marks.specs.Marking.{is_candidate, least, released_next, choice, with_mark, released_by, marking, marking_right, marking_gens, marking_parts, marking_fun, marking_code}
use Rattle.counted_marks.proofs.Candidates.{candidate_is, found_holds}

-- what a loop takes over is a candidate
pub chosen_is : (g : Given) (k : Known) (xs : List Var) (f : List Grid1) (t : Base) (l : List ℕ) (o : PartedOp) (ps : CodePartsTerm) (rest : CodeTerm) (v : Var) → choice g k xs (PartedCode f t l o ps None) rest ≡ Some v → IsCandidate g k xs f t l o ps rest v
chosen_is g k xs f t l o ps rest v e =
    candidate_is g k f t l o ps v xs rest (found_holds (is_candidate g k xs f t l o ps rest) (released_next rest) None (λ u p. elim (no_some u p) [ ]) v e)
  where
    no_some : (u : Var) → None ≡ Some u → ⊥
    no_some u p = true≢false (sym (ap (λ (q : Option Var). is_there q) p))
      where
        is_there : Option Var → Bool
        is_there None = false
        is_there (Some w) = true

-- a binding
bind_marked : (g : Given) (k : Known) (xs : List Var) (s : Site) (r : CodeRightTerm) (b : CodeTerm) (q : CodeRightTerm) (c : CodeTerm) → MarkedRight r q → Marked b c → Marked (Binding xs s r b) (Binding xs s (with_mark (choice g k xs r b) q) (released_by (choice g k xs r b) c))
bind_marked g k xs s (PlainCode p) b q c m n = binding m n
bind_marked g k xs s (IfCode x a d) b q c m n = binding m n
bind_marked g k xs s (LoopCode first start params test body z) b q c m n = binding m n
bind_marked g k xs s (CallCode group ys) b q c m n = binding m n
bind_marked g k xs s (WithCode o gens) b q c m n = binding m n
bind_marked g k xs s (PartedCode f t l o ps (Some w)) b q c m n = binding m n
bind_marked g k xs s (PartedCode f t l o ps None) b q c (parts {qs = qs} m) n = go (choice g k xs (PartedCode f t l o ps None) b) refl
  where
    go : (z : Option Var) → choice g k xs (PartedCode f t l o ps None) b ≡ z → Marked (Binding xs s (PartedCode f t l o ps None) b) (Binding xs s (with_mark z (PartedCode f t l o qs None)) (released_by z c))
    go None e = binding (parts m) n
    go (Some v) e = let it = chosen_is g k xs f t l o ps b v e in taking it.before it.released m n

module _ (g : Given) where
  mutual
    pub marking_marked : (t : CodeTerm) (k : Known) → Marked t (marking g t k)
    marking_marked (Giving xs) k = giving
    marking_marked (Binding xs s r b) k = bind_marked g k xs s r b (marking_right g r k) (marking g b (learned g k xs (core_of_right r))) (right_marked r k) (marking_marked b (learned g k xs (core_of_right r)))
    marking_marked (Keeping x b) k = keeping (marking_marked b k)
    marking_marked (Releasing x b) k = releasing (marking_marked b k)

    pub right_marked : (r : CodeRightTerm) (k : Known) → MarkedRight r (marking_right g r k)
    right_marked (PlainCode p) k = plain
    right_marked (IfCode x a b) k = branches (marking_marked a k) (marking_marked b k)
    right_marked (LoopCode first start params test body s) k = turns (marking_marked test (in_loop k params start)) (marking_marked body (in_loop k params start))
    right_marked (CallCode group xs) k = call
    right_marked (WithCode o gens) k = cells (gens_marked gens k)
    right_marked (PartedCode f t l o ps reuse) k = parts (parts_marked ps k)

    pub gens_marked : (gens : CodeGensTerm) (k : Known) → MarkedGens gens (marking_gens g gens k)
    gens_marked NoCodeGens k = no_gens
    gens_marked (GenCode h b rest) k = gen (marking_marked b (in_gen k h)) (gens_marked rest k)

    pub parts_marked : (ps : CodePartsTerm) (k : Known) → MarkedParts ps (marking_parts g ps k)
    parts_marked NoCodeParts k = no_parts
    parts_marked (PartCode h b rest) k = part (marking_marked b (in_part k h)) (parts_marked rest k)

  functions_marked : (fs : List CodeFunTerm) → MarkedFunctions fs (map (marking_fun g) fs)
  functions_marked [] = tt
  functions_marked (f ∷ fs) = (record { same = refl; body = marking_marked f.body (at_start (core_of_fun f)) }, functions_marked fs)

pub code_marked : (c : CodeProgram) → MarkedCode c (marking_code c)
code_marked c = record { functions = functions_marked (given (core_of_code c)) c.functions; groups = refl; main = refl }
