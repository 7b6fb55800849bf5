-- Code that is marked so is well marked, and has no candidate left.
use Rattle.std.proofs.Common.{◌≡◌, ℕ, Bool, true, false, cond, eqb, List, [], ◌∷◌, map, Option, Some, None, refl, ap, ◌∙◌, sym, subst, true≢false}
use Rattle.sac_base.specs.declared.base.Base.{Base}
use Rattle.sac_base.specs.declared.grid.Grid1.{Grid1}
use Rattle.sac_base.specs.declared.site.Site.{Site}
use Rattle.core_ir.specs.declared.tree.Var.{Var}
use Rattle.core_ir.specs.declared.tree.PartedOp.{PartedOp}
use Rattle.core_ir.specs.Terms.{RightTerm, CoreTerm}
use Rattle.counted_code.specs.Counts.{Unmarked, UnmarkedRight, UnmarkedGens, UnmarkedParts, UnmarkedFunctions, IsUnmarked}
use Rattle.counted_code.specs.Terms.{CodeTerm, CodeRightTerm, CodeGensTerm, CodePartsTerm, CodeFunTerm, CodeProgram, Giving, Binding, Keeping, Releasing, PlainCode, IfCode, LoopCode, CallCode, WithCode, PartedCode, NoCodeGens, GenCode, NoCodeParts, PartCode, core_of_right, core_of_parts, core_of_fun, core_of_code}
use Rattle.counted_laws.specs.mark_places.Places.{without_release, releases_next, Marked}
use Rattle.counted_laws.proofs.mark_places.Cores.{right_same, parts_same, releases_same}
use Rattle.counted_laws.proofs.mark_places.Programs.{code_core}
use Rattle.counted_marks.specs.Known.{Given, Known, learned, in_loop, in_gen, in_part, at_start, given}
use Rattle.counted_marks.specs.Marks.{MayReuse, IsCandidate, WellMarked, WellMarkedRight, WellMarkedGens, WellMarkedParts, WellMarkedFunctions, IsWellMarked, NoneLeft, NoneLeftRight, NoneLeftGens, NoneLeftParts, NoneLeftFunctions, HasNoneLeft}
use Rattle.counted_marks.specs.Marking.{is_candidate, released_next, choice, with_mark, released_by, marking, marking_right, marking_gens, marking_parts, marking_fun, marking_code}
use Rattle.counted_marks.proofs.Candidates.{is_it, none_holds, released_there}
use Rattle.counted_marks.proofs.Marked.{chosen_is, marking_marked, right_marked, parts_marked, code_marked}
use Rattle.counted_marks.proofs.Uses.{own_parts_same}

module _ (g : Given) where
  -- ---- a release that is left out

  well_without : (o : Option Var) (t : CodeTerm) (k : Known) → WellMarked g t k → WellMarked g (released_by o t) k
  well_without None t k w = w
  well_without (Some v) t k w = at t w
    where
      at : (t : CodeTerm) → WellMarked g t k → WellMarked g (without_release v t) k
      at (Giving xs) w = w
      at (Binding xs s r b) w = w
      at (Keeping x b) w = at b w
      at (Releasing x b) w = go (at b w) (eqb v.0 x.0)
        where
          go : WellMarked g (without_release v b) k → (same : Bool) → WellMarked g (cond same b (Releasing x (without_release v b))) k
          go rest true = w
          go rest false = rest

  left_without : (o : Option Var) (t : CodeTerm) (k : Known) → NoneLeft g t k → NoneLeft g (released_by o t) k
  left_without None t k w = w
  left_without (Some v) t k w = at t w
    where
      at : (t : CodeTerm) → NoneLeft g t k → NoneLeft g (without_release v t) k
      at (Giving xs) w = w
      at (Binding xs s r b) w = w
      at (Keeping x b) w = at b w
      at (Releasing x b) w = go (at b w) (eqb v.0 x.0)
        where
          go : NoneLeft g (without_release v b) k → (same : Bool) → NoneLeft g (cond same b (Releasing x (without_release v b))) k
          go rest true = w
          go rest false = rest

  -- ---- one loop

  module _ (k : Known) (xs : List Var) (f : List Grid1) (t : Base) (l : List ℕ) (o : PartedOp) (ps : CodePartsTerm) where
    -- the parts may be marked
    may_still : (v : Var) → MayReuse g k f t l o ps v → MayReuse g k f t l o (marking_parts g ps k) v
    may_still v m = record { makes = m.makes; scalars = m.scalars; array = m.array; buffer = m.buffer; typed = m.typed; shape = m.shape; own = own_parts_same g.shapes v (parts_marked g ps k) k.facts ∙ m.own }

    may_before : (v : Var) → MayReuse g k f t l o (marking_parts g ps k) v → MayReuse g k f t l o ps v
    may_before v m = record { makes = m.makes; scalars = m.scalars; array = m.array; buffer = m.buffer; typed = m.typed; shape = m.shape; own = sym (own_parts_same g.shapes v (parts_marked g ps k) k.facts) ∙ m.own }

    loop_well : (rest : CodeTerm) → WellMarkedParts g (marking_parts g ps k) k → (z : Option Var) → choice g k xs (PartedCode f t l o ps None) rest ≡ z → WellMarkedRight g (with_mark z (PartedCode f t l o (marking_parts g ps k) None)) k xs
    loop_well rest w None e = w
    loop_well rest w (Some v) e = let it = chosen_is g k xs f t l o ps rest v e in (it.before, may_still v it.may, w)

    loop_left : (rest marked : CodeTerm) → Marked rest marked → NoneLeftParts g (marking_parts g ps k) k → (z : Option Var) → choice g k xs (PartedCode f t l o ps None) rest ≡ z → NoneLeftRight g xs (with_mark z (PartedCode f t l o (marking_parts g ps k) None)) (released_by z marked) k
    loop_left rest marked m w None e = (
      (λ v c.
          (let released = sym (releases_same v m) ∙ c.released in
          let it = is_it g k f t l o ps v xs rest (record { before = c.before; may = may_before v c.may; released = released }) in
          true≢false (sym it ∙ none_holds (is_candidate g k xs f t l o ps rest) (released_next rest) None e v (released_there v rest released)))),
      w,
    )
    loop_left rest marked m w (Some v) e = w

  -- ---- one binding

  -- what is known after a right side is known after it with its marks
  well_after : (xs : List Var) (r : CodeRightTerm) (k : Known) (c : CodeTerm) → WellMarked g c (learned g k xs (core_of_right r)) → WellMarked g c (learned g k xs (core_of_right (marking_right g r k)))
  well_after xs r k c w = subst (λ (u : RightTerm). WellMarked g c (learned g k xs u)) (sym (right_same (right_marked g r k))) w

  left_after : (xs : List Var) (r : CodeRightTerm) (k : Known) (c : CodeTerm) → NoneLeft g c (learned g k xs (core_of_right r)) → NoneLeft g c (learned g k xs (core_of_right (marking_right g r k)))
  left_after xs r k c w = subst (λ (u : RightTerm). NoneLeft g c (learned g k xs u)) (sym (right_same (right_marked g r k))) w

  no_mark : (v : Var) → Some v ≡ None → ⊥
  no_mark v p = true≢false (ap is_there p)
    where
      is_there : Option Var → Bool
      is_there None = false
      is_there (Some w) = true

  bound_well : (xs : List Var) (s : Site) (r : CodeRightTerm) (b c : CodeTerm) (k : Known) → UnmarkedRight r → WellMarkedRight g (marking_right g r k) k xs → WellMarked g c (learned g k xs (core_of_right r)) → WellMarked g (Binding xs s (with_mark (choice g k xs r b) (marking_right g r k)) (released_by (choice g k xs r b) c)) k
  bound_well xs s (PlainCode p) b c k u w n = (w, n)
  bound_well xs s (IfCode x a d) b c k u w n = (w, well_after xs (IfCode x a d) k c n)
  bound_well xs s (LoopCode first start params test body z) b c k u w n = (w, well_after xs (LoopCode first start params test body z) k c n)
  bound_well xs s (CallCode group ys) b c k u w n = (w, n)
  bound_well xs s (WithCode o gens) b c k u w n = (w, well_after xs (WithCode o gens) k c n)
  bound_well xs s (PartedCode f t l o ps (Some v)) b c k u w n = elim (no_mark v u.0) [ ]
  bound_well xs s (PartedCode f t l o ps None) b c k u w n = go (choice g k xs (PartedCode f t l o ps None) b) refl
    where
      go : (z : Option Var) → choice g k xs (PartedCode f t l o ps None) b ≡ z → WellMarked g (Binding xs s (with_mark z (PartedCode f t l o (marking_parts g ps k) None)) (released_by z c)) k
      go None e = (w, well_after xs (PartedCode f t l o ps None) k c n)
      go (Some v) e = (loop_well k xs f t l o ps b w (Some v) e, well_without (Some v) c (learned g k xs (RightTerm.Parted f t l o (core_of_parts (marking_parts g ps k)))) (well_after xs (PartedCode f t l o ps None) k c n))

  -- the blocks in a right side
  abbrev Inside : CodeRightTerm → Known → Type 0
  Inside (PlainCode p) k = Unit {0}
  Inside (IfCode x a b) k = NoneLeft g (marking g a k) k × NoneLeft g (marking g b k) k
  Inside (LoopCode first start params test body s) k = NoneLeft g (marking g test (in_loop k params start)) (in_loop k params start) × NoneLeft g (marking g body (in_loop k params start)) (in_loop k params start)
  Inside (CallCode group ys) k = Unit {0}
  Inside (WithCode o gens) k = NoneLeftGens g (marking_gens g gens k) k
  Inside (PartedCode f t l o ps reuse) k = NoneLeftParts g (marking_parts g ps k) k

  bound_left : (xs : List Var) (s : Site) (r : CodeRightTerm) (b c : CodeTerm) (k : Known) → UnmarkedRight r → Marked b c → Inside r k → NoneLeft g c (learned g k xs (core_of_right r)) → NoneLeft g (Binding xs s (with_mark (choice g k xs r b) (marking_right g r k)) (released_by (choice g k xs r b) c)) k
  bound_left xs s (PlainCode p) b c k u m w n = (w, n)
  bound_left xs s (IfCode x a d) b c k u m w n = (w, left_after xs (IfCode x a d) k c n)
  bound_left xs s (LoopCode first start params test body z) b c k u m w n = (w, left_after xs (LoopCode first start params test body z) k c n)
  bound_left xs s (CallCode group ys) b c k u m w n = (w, n)
  bound_left xs s (WithCode o gens) b c k u m w n = (w, left_after xs (WithCode o gens) k c n)
  bound_left xs s (PartedCode f t l o ps (Some v)) b c k u m w n = elim (no_mark v u.0) [ ]
  bound_left xs s (PartedCode f t l o ps None) b c k u m w n = go (choice g k xs (PartedCode f t l o ps None) b) refl
    where
      go : (z : Option Var) → choice g k xs (PartedCode f t l o ps None) b ≡ z → NoneLeft g (Binding xs s (with_mark z (PartedCode f t l o (marking_parts g ps k) None)) (released_by z c)) k
      go None e = (loop_left k xs f t l o ps b c m w None e, left_after xs (PartedCode f t l o ps None) k c n)
      go (Some v) e = (loop_left k xs f t l o ps b c m w (Some v) e, left_without (Some v) c (learned g k xs (RightTerm.Parted f t l o (core_of_parts (marking_parts g ps k)))) (left_after xs (PartedCode f t l o ps None) k c n))

  -- ---- all loops

  mutual
    pub well : (t : CodeTerm) (k : Known) → Unmarked t → WellMarked g (marking g t k) k
    well (Giving xs) k u = tt
    well (Binding xs s r b) k u = bound_well xs s r b (marking g b (learned g k xs (core_of_right r))) k u.0 (right_well r k xs u.0) (well b (learned g k xs (core_of_right r)) u.1)
    well (Keeping x b) k u = well b k u
    well (Releasing x b) k u = well b k u

    right_well : (r : CodeRightTerm) (k : Known) (xs : List Var) → UnmarkedRight r → WellMarkedRight g (marking_right g r k) k xs
    right_well (PlainCode p) k xs u = tt
    right_well (IfCode x a b) k xs u = (well a k u.0, well b k u.1)
    right_well (LoopCode first start params test body s) k xs u = (well test (in_loop k params start) u.0, well body (in_loop k params start) u.1)
    right_well (CallCode group ys) k xs u = tt
    right_well (WithCode o gens) k xs u = gens_well gens k u
    right_well (PartedCode f t l o ps None) k xs u = parts_well ps k u.1
    right_well (PartedCode f t l o ps (Some v)) k xs u = elim (no_mark v u.0) [ ]

    gens_well : (gens : CodeGensTerm) (k : Known) → UnmarkedGens gens → WellMarkedGens g (marking_gens g gens k) k
    gens_well NoCodeGens k u = tt
    gens_well (GenCode h b rest) k u = (well b (in_gen k h) u.0, gens_well rest k u.1)

    parts_well : (ps : CodePartsTerm) (k : Known) → UnmarkedParts ps → WellMarkedParts g (marking_parts g ps k) k
    parts_well NoCodeParts k u = tt
    parts_well (PartCode h b rest) k u = (well b (in_part k h) u.0, parts_well rest k u.1)

  mutual
    pub none_left : (t : CodeTerm) (k : Known) → Unmarked t → NoneLeft g (marking g t k) k
    none_left (Giving xs) k u = tt
    none_left (Binding xs s r b) k u =
        bound_left xs s r b (marking g b (learned g k xs (core_of_right r))) k u.0 (marking_marked g b (learned g k xs (core_of_right r))) (inside_left r k u.0) (none_left b (learned g k xs (core_of_right r)) u.1)
    none_left (Keeping x b) k u = none_left b k u
    none_left (Releasing x b) k u = none_left b k u

    inside_left : (r : CodeRightTerm) (k : Known) → UnmarkedRight r → Inside r k
    inside_left (PlainCode p) k u = tt
    inside_left (IfCode x a b) k u = (none_left a k u.0, none_left b k u.1)
    inside_left (LoopCode first start params test body s) k u = (none_left test (in_loop k params start) u.0, none_left body (in_loop k params start) u.1)
    inside_left (CallCode group ys) k u = tt
    inside_left (WithCode o gens) k u = gens_left gens k u
    inside_left (PartedCode f t l o ps reuse) k u = parts_left ps k u.1

    gens_left : (gens : CodeGensTerm) (k : Known) → UnmarkedGens gens → NoneLeftGens g (marking_gens g gens k) k
    gens_left NoCodeGens k u = tt
    gens_left (GenCode h b rest) k u = (none_left b (in_gen k h) u.0, gens_left rest k u.1)

    parts_left : (ps : CodePartsTerm) (k : Known) → UnmarkedParts ps → NoneLeftParts g (marking_parts g ps k) k
    parts_left NoCodeParts k u = tt
    parts_left (PartCode h b rest) k u = (none_left b (in_part k h) u.0, parts_left rest k u.1)

  functions_well : (fs : List CodeFunTerm) → UnmarkedFunctions fs → WellMarkedFunctions g (map (marking_fun g) fs)
  functions_well [] u = tt
  functions_well (f ∷ fs) u = (well f.body (at_start (core_of_fun f)) u.0, functions_well fs u.1)

  functions_left : (fs : List CodeFunTerm) → UnmarkedFunctions fs → NoneLeftFunctions g (map (marking_fun g) fs)
  functions_left [] u = tt
  functions_left (f ∷ fs) u = (none_left f.body (at_start (core_of_fun f)) u.0, functions_left fs u.1)

pub code_well : (c : CodeProgram) → IsUnmarked c → IsWellMarked (marking_code c)
code_well c u =
    subst (λ (k : CoreTerm). WellMarkedFunctions (given k) (marking_code c).functions) (sym (code_core c (marking_code c) (code_marked c))) (functions_well (given (core_of_code c)) c.functions u)

pub code_left : (c : CodeProgram) → IsUnmarked c → HasNoneLeft (marking_code c)
code_left c u =
    subst (λ (k : CoreTerm). NoneLeftFunctions (given k) (marking_code c).functions) (sym (code_core c (marking_code c) (code_marked c))) (functions_left (given (core_of_code c)) c.functions u)
