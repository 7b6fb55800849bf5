-- In well-marked code marks are right in each run, as far as arrays that are written over allow.
use Rattle.std.proofs.Common.{◌≡◌, ℕ, Bool, true, false, cond, eqb, List, [], ◌∷◌, ◌++◌, map, length, Option, Some, None, Ok, refl, sym, ap, subst, ◌∙◌, ℤ, All, FitsSigned, w32}
use Rattle.std.specs.Prelude.{◌||◌, zip}
use Rattle.std.proofs.lemmas.List.Elements.{All-head, All-tail}
use Rattle.sac_base.specs.declared.base.Base.{Base}
use Rattle.sac_base.specs.declared.base.Base.TheVariants.{Int, Bool as Truth}
use Rattle.sac_base.specs.declared.grid.Grid1.{Grid1}
use Rattle.sac_base.specs.Arrays.{ArrayValue, IsFull, scalar, vector}
use Rattle.sac_base.specs.Grids.{has_vector}
use Rattle.sac_base.specs.Outcomes.{first_result}
use Rattle.sac_base.specs.Parts.{select}
use Rattle.core_ir.specs.declared.tree.Var.{Var}
use Rattle.core_ir.specs.declared.tree.PartedOp.{PartedOp}
use Rattle.core_ir.specs.declared.tree.PartedOp.TheVariants as parted
use Rattle.core_ir.specs.Terms.{CoreTerm, PartHead}
use Rattle.core_ir.specs.Meaning.{Env, Answer, CallMeaning, bind, bind_all, extents, first, with_index, run, right_value}
use Rattle.core_ir.specs.WellFormed.{Bases, BlockBases, RightBases, GensBases, PartsBases, Covered, PartedFits, part_grids, ints}
use Rattle.core_ir.proofs.Variables.{same_number}
use Rattle.core_facts.specs.Facts.{Facts, ShapeIs, note_all, DescribeAll, AreSound, right_facts, CallsFit}
use Rattle.core_facts.specs.Facts
use Rattle.core_facts.specs.Full.{FullInside, FullInsideRight, FullInsideGens, FullInsideParts}
use Rattle.core_facts.proofs.Shapes.{ok_same}
use Rattle.core_facts.proofs.Sound.{noted, full_env, all_full, described, then_ok}
use Rattle.core_facts.proofs.Settle.{has_length, vector_full, scalars_full}
use Rattle.core_facts.proofs.calls.Full.{block_full}
use Rattle.core_loops.specs.folds.Cells.{IsBox}
use Rattle.core_loops.specs.Indices.{IndexFacts, Other, own_index, note_index, note_others}
use Rattle.core_loops.specs.Pairs.{Makes}
use Rattle.core_uses.specs.Tests.{none_is}
use Rattle.core_loops.specs.index_facts.Says.{SaysAll}
use Rattle.core_loops.proofs.index_facts.Indices.{says_one, says_others, says_own}
use Rattle.core_loops.proofs.index_facts.Members.{and_both}
use Rattle.counted_code.specs.Terms.{CodeTerm, CodeRightTerm, CodeGensTerm, CodePartsTerm, Giving, Binding, Keeping, Releasing, PlainCode, IfCode, LoopCode, CallCode, WithCode, PartedCode, NoCodeGens, GenCode, NoCodeParts, PartCode, core_of, core_of_right, core_of_gens, core_of_parts}
use Rattle.counted_code.specs.Counts.{Reordered, Counted, CountedRight, CountedGens, CountedParts}
use Rattle.counted_laws.proofs.placing.Lists.{or_none}
use Rattle.counted_marks.specs.Known.{Given, Known, learned, in_loop, in_gen, in_part}
use Rattle.counted_marks.specs.Marks.{WellMarked, WellMarkedRight, WellMarkedGens, WellMarkedParts, own_only, own_right, own_gens, own_inner, own_parts}
use Rattle.phase_loop_laws.specs.mark_laws.Alike.{AlikeAt}
use Rattle.phase_loop_laws.specs.mark_laws.Holds.{Reached, at_start, after_turn, MarksHold, MarksHoldRight, MarksHoldGens, MarksHoldParts, MarksHoldOver}
use Rattle.phase_loop_laws.proofs.mark_laws.Alike.{AlikeBut, bound_alike, all_same, first_same, not_over, sound_part}
use Rattle.phase_loop_laws.proofs.mark_laws.Alike as alike
use Rattle.phase_loop_laws.proofs.mark_laws.Kept.{Kept, kept_right, kept_rest, kept_more, kept_less, kept_fresh, kept_outside, not_yet, kept_over}

-- ---- frames

box_frame : (op : PartedOp) (frame : List Grid1) (cell : List ℕ) (grids : List (List Grid1)) → Makes op → PartedFits op frame cell grids → IsBox frame
box_frame parted.Genarray frame cell grids makes fits = record { low = fits.3.low; dense = fits.0.dense }
box_frame (parted.Modarray x) frame cell grids makes fits = record { low = fits.3.low; dense = fits.0.dense }
box_frame (parted.Fold o x) frame cell grids makes fits = absurd makes

box_covered : (op : PartedOp) (frame : List Grid1) (cell : List ℕ) (grids : List (List Grid1)) → Makes op → PartedFits op frame cell grids → Covered frame grids
box_covered parted.Genarray frame cell grids makes fits = fits.2
box_covered (parted.Modarray x) frame cell grids makes fits = fits.2
box_covered (parted.Fold o x) frame cell grids makes fits = absurd makes

-- each index of a part is one of the frame, and its components are of 32 bits
abbrev InWords : List Grid1 → Type 0
InWords g = (index : List ℤ) → has_vector g index ≡ true → All (FitsSigned w32) index

abbrev AllInWords : List (List Grid1) → Type 0
AllInWords [] = Unit {0}
AllInWords (g ∷ gs) = InWords g × AllInWords gs

all_in_words : (frame : List Grid1) (grids : List (List Grid1)) → InWords frame → All (λ g. (index : List ℤ) → has_vector g index ≡ true → has_vector frame index ≡ true) grids → AllInWords grids
all_in_words frame [] words inside = tt
all_in_words frame (g ∷ gs) words inside =
    let P : List Grid1 → Type 0 = λ h. (index : List ℤ) → has_vector h index ≡ true → has_vector frame index ≡ true in
    ((λ index q. words index (All-head P g gs inside index q)), all_in_words frame gs words (All-tail P g gs inside))

words_inside : (op : PartedOp) (frame : List Grid1) (cell : List ℕ) (grids : List (List Grid1)) → Makes op → PartedFits op frame cell grids → AllInWords grids
words_inside parted.Genarray frame cell grids makes fits = all_in_words frame grids fits.0.words fits.1.inside
words_inside (parted.Modarray x) frame cell grids makes fits = all_in_words frame grids fits.0.words fits.1.inside
words_inside (parted.Fold o x) frame cell grids makes fits = absurd makes

-- ---- first values

pub first_full : (x : Answer) (c : ArrayValue) → ((ws : List ArrayValue) → x ≡ Ok ws → DescribeAll [] ws) → first x ≡ Ok c → IsFull c
first_full x c h p =
    let t = then_ok x (λ vs. Ok (first_result vs)) c p in
    subst IsFull (ok_same (first_result t.0) c t.2) (of t.0 (h t.0 t.1))
  where
    of : (ws : List ArrayValue) → DescribeAll [] ws → IsFull (first_result ws)
    of [] d = refl
    of (w ∷ ws) d = d.0

-- ---- the values of a loop's parameters

reached_all : (P : List ArrayValue → Type 0) {start : List ArrayValue} {body : List ArrayValue → Answer} → P start → ((vs ws : List ArrayValue) → P vs → body vs ≡ Ok ws → P ws) → {vs : List ArrayValue} → Reached start body vs → P vs
reached_all P p step at_start = p
reached_all P p step (after_turn {vs} {ws} r q) = step vs ws (reached_all P p step r) q

-- ---- what is known where arrays are written over

-- The facts are so of an environment, and the other one is alike but for arrays that are written over, each at its own index.
pub record Seen (over : Var → Bool) (own : Var → List ℤ) (m : Var → IndexFacts) (k : Facts) (e f : Env) : Type 0 where
  pub fits : (v : Var) → over v ≡ true → All (FitsSigned w32) (own v)
  pub sound : AreSound k e
  pub says : (v : Var) → over v ≡ true → SaysAll (own v) (m v) e
  pub same : AlikeBut over own e f

-- one more array is written over, in a cell of a part
module _ (over : Var → Bool) (own : Var → List ℤ) (m : Var → IndexFacts) (w : Var) (h : PartHead) (index : List ℤ) where
  abbrev pub over_more : Var → Bool
  over_more y = eqb w.0 y.0 || over y

  abbrev pub own_more : Var → List ℤ
  own_more y = cond (eqb w.0 y.0) index (own y)

  abbrev pub facts_more : Var → IndexFacts
  facts_more y = cond (eqb w.0 y.0) (own_index (length h.grid) h.index) (note_index (m y) h.index Other)

  module _ (k : Facts) (e f σ : Env) (other : over w ≡ false) (seen : Seen over own m k e f) (words : InWords h.grid) (q : has_vector h.grid index ≡ true) (alike_at : AlikeAt w index (bind f h.index (vector Int index)) σ) where
    bound : AlikeBut over own (bind e h.index (vector Int index)) (bind f h.index (vector Int index))
    bound = bound_alike over own e f (h.index ∷ []) (vector Int index ∷ []) seen.same

    seen_more : Seen over_more own_more facts_more (Facts.in_part k h) (bind e h.index (vector Int index)) σ
    seen_more = record {
      fits = λ v p. fits_at v (eqb w.0 v.0) p;
      sound = sound_part k e h index seen.sound q;
      says = λ v p. says_at v (eqb w.0 v.0) p;
      same = record {
        others = λ y n. (let r = or_none (eqb w.0 y.0) (over y) n in alike_at.others y r.0 ∙ bound.others y r.1);
        element = λ y p. element_at y (eqb w.0 y.0) refl p;
      };
    }
      where
        fits_at : (v : Var) (b : Bool) → (b || over v) ≡ true → All (FitsSigned w32) (cond b index (own v))
        fits_at v true p = words index q
        fits_at v false p = seen.fits v p

        says_at : (v : Var) (b : Bool) → (b || over v) ≡ true → SaysAll (cond b index (own v)) (cond b (own_index (length h.grid) h.index) (note_index (m v) h.index Other)) (bind e h.index (vector Int index))
        says_at v true p = says_own (length h.grid) h.index e index (has_length h.grid index q) (words index q)
        says_at v false p = says_one (own v) (m v) e h.index Other (vector Int index) (seen.says v p) tt

        element_at : (y : Var) (b : Bool) → eqb w.0 y.0 ≡ b → (b || over y) ≡ true → select (σ y) (vector Int (cond b index (own y))) ≡ select (bind e h.index (vector Int index) y) (vector Int (cond b index (own y)))
        element_at y true is p =
            subst (λ (z : Var). select (σ z) (vector Int index) ≡ select (bind e h.index (vector Int index) z) (vector Int index)) (same_number w y is)
            (alike_at.element ∙ (λ i. select (bound.others w other i) (vector Int index)))
        element_at y false is p = (λ i. select (alike_at.others y is i) (vector Int (own y))) ∙ bound.element y p

  only_more : (called : ℕ → List (Option (List ℕ))) (b : CodeTerm) (k : Facts) → has_vector h.grid index ≡ true
      → own_only called w (length h.grid) b (Facts.in_part k h) (own_index (length h.grid) h.index) ≡ true
      → ((v : Var) → over v ≡ true → own_only called v (length (own v)) b (Facts.in_part k h) (note_index (m v) h.index Other) ≡ true)
      → (v : Var) → over_more v ≡ true → own_only called v (length (own_more v)) b (Facts.in_part k h) (facts_more v) ≡ true
  only_more called b k q itself rest v p = go (eqb w.0 v.0) refl p
    where
      go : (t : Bool) → eqb w.0 v.0 ≡ t → (t || over v) ≡ true → own_only called v (length (cond t index (own v))) b (Facts.in_part k h) (cond t (own_index (length h.grid) h.index) (note_index (m v) h.index Other)) ≡ true
      go true is p =
          subst (λ (z : Var). own_only called z (length index) b (Facts.in_part k h) (own_index (length h.grid) h.index) ≡ true) (same_number w v is)
          (subst (λ n. own_only called w n b (Facts.in_part k h) (own_index (length h.grid) h.index) ≡ true) (sym (has_length h.grid index q)) itself)
      go false is p = rest v p

-- ---- terms

module _ (core : CoreTerm) (results_of : ℕ → ℕ) (g : Given) (calls : CallMeaning) (turns : ℕ) (fit : CallsFit g.shapes calls) where
  -- code that uses the arrays that are written over in selections at their own index alone
  abbrev Only : (Var → Bool) → (Var → List ℤ) → (Var → IndexFacts) → Facts → CodeTerm → Type 0
  Only over own m k t = (v : Var) → over v ≡ true → own_only g.shapes v (length (own v)) t k (m v) ≡ true

  abbrev OnlyRight : (Var → Bool) → (Var → List ℤ) → (Var → IndexFacts) → Facts → CodeRightTerm → Type 0
  OnlyRight over own m k r = (v : Var) → over v ≡ true → own_right g.shapes v (length (own v)) r k (m v) ≡ true

  abbrev OnlyGens : (Var → Bool) → (Var → List ℤ) → (Var → IndexFacts) → Facts → CodeGensTerm → Type 0
  OnlyGens over own m k gens = (v : Var) → over v ≡ true → own_gens g.shapes v (length (own v)) gens k (m v) ≡ true

  abbrev OnlyInner : (Var → Bool) → (Var → List ℤ) → (Var → IndexFacts) → Facts → CodePartsTerm → Type 0
  OnlyInner over own m k parts = (v : Var) → over v ≡ true → own_inner g.shapes v (length (own v)) parts k (m v) ≡ true

  module _ (over : Var → Bool) (own : Var → List ℤ) (m : Var → IndexFacts) (k : Facts) (e f : Env) (seen : Seen over own m k e f) where
    -- in the blocks of a loop, whose parameters are arrays
    seen_params : (params : List Var) (vs : List ArrayValue) → DescribeAll [] vs → Seen over own (λ v. note_others (m v) params) (note_all k params []) (bind_all e params vs) (bind_all f params vs)
    seen_params params vs full = record {
      fits = seen.fits;
      sound = noted k e params [] vs seen.sound full;
      says = λ v h. says_others (own v) (m v) e params vs (seen.says v h);
      same = bound_alike over own e f params vs seen.same;
    }

    seen_part : (h : PartHead) (index : List ℤ) → has_vector h.grid index ≡ true → Seen over own (λ v. note_index (m v) h.index Other) (Facts.in_part k h) (bind e h.index (vector Int index)) (bind f h.index (vector Int index))
    seen_part h index q = record {
      fits = seen.fits;
      sound = sound_part k e h index seen.sound q;
      says = λ v p. says_one (own v) (m v) e h.index Other (vector Int index) (seen.says v p) tt;
      same = bound_alike over own e f (h.index ∷ []) (vector Int index ∷ []) seen.same;
    }

    -- a block comes to the same
    same_run : (t : CodeTerm) → Only over own m k t → FullInside calls turns (core_of t) → run calls turns (core_of t) f ≡ run calls turns (core_of t) e
    same_run t only w = alike.block_same calls turns g.shapes fit over own seen.fits t k m e f only w seen.sound seen.says seen.same

    full_run : (t : CodeTerm) (vs : List ArrayValue) → Only over own m k t → FullInside calls turns (core_of t) → run calls turns (core_of t) f ≡ Ok vs → DescribeAll [] vs
    full_run t vs only w is = block_full calls turns (core_of t) e vs w (full_env k e seen.sound) (sym (same_run t only w) ∙ is)

    values_full : (xs : List Var) → ((v : Var) → over v ≡ true → none_is v xs ≡ true) → DescribeAll [] (map f xs)
    values_full xs spared = subst (DescribeAll []) (sym (all_same over own e f seen.same xs spared)) (all_full (map k xs) (map e xs) (described k e xs seen.sound))

  mutual
    pub block_holds : (t : CodeTerm) (k : Known) (over : Var → Bool) (own : Var → List ℤ) (m : Var → IndexFacts) (e f : Env) (n : ℕ) (outer refs : List Var) (b : Bases) (ts : List Base) → Counted results_of n outer refs t → Kept over outer refs → WellMarked g t k → BlockBases core b (core_of t) ts → FullInside calls turns (core_of t) → Seen over own m k.facts e f → Only over own m k.facts t → MarksHold calls turns t f
    block_holds (Giving xs) k over own m e f n outer refs b ts counted kept well bases w seen only = tt
    block_holds (Binding xs s r t) k over own m e f n outer refs b ts counted kept well bases w seen only =
        let mine = counted.0 in
        let after = counted.1 in
        let o = alike.own_binding calls turns g.shapes fit over own seen.fits xs s r t k.facts m only in (
          right_holds r k over own m e f (length xs) outer mine after xs b bases.0 counted.3 (kept_right over outer refs mine after kept counted.2) well.0 bases.1.0 w.1 seen o.0,
          (λ vs p.
              (let is : right_value calls turns (core_of_right r) s e ≡ Ok vs = sym (alike.right_same calls turns g.shapes fit over own seen.fits r s k.facts m e f o.0 w.1 seen.sound seen.says seen.same) ∙ p in
              block_holds t (learned g k xs (core_of_right r)) over own (alike.learned_over calls turns g.shapes fit over own seen.fits m xs r k.facts) (bind_all e xs vs) (bind_all f xs vs) n outer (xs ++ after) (zip xs bases.0 ++ b) ts counted.6
              (kept_rest over outer refs mine after xs kept counted.2 counted.5) well.1 bases.1.2 w.2
              (record {
                fits = seen.fits;
                sound = alike.sound_learned calls turns g.shapes fit over own seen.fits xs s r k.facts e vs seen.sound is w.0 w.1;
                says = alike.says_bound calls turns g.shapes fit over own seen.fits xs s r k.facts e vs seen.sound is m seen.says;
                same = bound_alike over own e f xs vs seen.same;
              }) o.1)),
        )
    block_holds (Keeping x t) k over own m e f n outer refs b ts counted kept well bases w seen only =
        let o = alike.own_keeping calls turns g.shapes fit over own seen.fits x t k.facts m only in
        block_holds t k over own m e f n outer (x ∷ refs) b ts counted.1 (kept_more over outer refs x kept (not_over over own x [] o.0)) well bases w seen o.1
    block_holds (Releasing x t) k over own m e f n outer refs b ts counted kept well bases w seen only =
        block_holds t k over own m e f n outer counted.0 b ts counted.2 (kept_less over outer refs counted.0 x kept counted.1) well bases w seen only

    right_holds : (r : CodeRightTerm) (k : Known) (over : Var → Bool) (own : Var → List ℤ) (m : Var → IndexFacts) (e f : Env) (n : ℕ) (outer mine after xs : List Var) (b : Bases) (ts : List Base) → CountedRight results_of n outer mine after r → Kept over (after ++ outer) mine → WellMarkedRight g r k xs → RightBases core b (core_of_right r) ts → FullInsideRight calls turns (core_of_right r) → Seen over own m k.facts e f → OnlyRight over own m k.facts r → MarksHoldRight calls turns r f
    right_holds (PlainCode p) k over own m e f n outer mine after xs b ts counted kept well bases w seen only = tt
    right_holds (IfCode x a c) k over own m e f n outer mine after xs b ts counted kept well bases w seen only =
        let o = alike.own_branches calls turns g.shapes fit over own seen.fits x a c k.facts m only in (
          block_holds a k over own m e f n (after ++ outer) mine b ts counted.1 kept well.0 bases.1 w.0 seen o.1,
          block_holds c k over own m e f n (after ++ outer) mine b ts counted.2 kept well.1 bases.2 w.1 seen o.2,
        )
    right_holds (LoopCode fb start params test body u) k over own m e f n outer mine after xs b ts counted kept well bases w seen only =
        let o = alike.own_turns calls turns g.shapes fit over own seen.fits fb start params test body u k.facts m only in
        let others : Var → IndexFacts = λ v. note_others (m v) params in
        let facts = note_all k.facts params [] in
        let in_turn : (vs : List ArrayValue) → DescribeAll [] vs → Seen over own others facts (bind_all e params vs) (bind_all f params vs) = seen_params over own m k.facts e f seen params in
        λ vs reached.
        (let full : DescribeAll [] vs = reached_all (DescribeAll []) (values_full over own m k.facts e f seen start o.0) (λ us ws d q. full_run over own others facts (bind_all e params us) (bind_all f params us) (in_turn us d) body ws o.2 w.1 q) reached in (
          block_holds test (in_loop k params start) over own others (bind_all e params vs) (bind_all f params vs) 1 (params ++ (after ++ outer)) [] (zip params ts ++ b) (Truth ∷ []) counted.5 (kept_outside over (after ++ outer) mine params kept) well.0 bases.2 w.0 (in_turn vs full) o.1,
          block_holds body (in_loop k params start) over own others (bind_all e params vs) (bind_all f params vs) n (after ++ outer) params (zip params ts ++ b) ts counted.6 (kept_fresh over (after ++ outer) mine params kept counted.3) well.1 bases.3 w.1 (in_turn vs full) o.2,
        ))
    right_holds (CallCode group ys) k over own m e f n outer mine after xs b ts counted kept well bases w seen only = values_full over own m k.facts e f seen ys only
    right_holds (WithCode op gens) k over own m e f n outer mine after xs b ts counted kept well bases w seen only =
        gens_hold gens k over own m e f (after ++ outer) mine b bases.0 counted.3 kept well bases.1.1 w seen (alike.own_cells calls turns g.shapes fit over own seen.fits op gens k.facts m only).1
    right_holds (PartedCode frame base cell op parts None) k over own m e f n outer mine after xs b ts counted kept well bases w seen only =
        parts_hold parts k over own m e f (mine ++ (after ++ outer)) [] b base counted.3 (kept_outside over (after ++ outer) mine mine kept) well bases.1 w seen (alike.own_parted calls turns g.shapes fit over own seen.fits frame base cell op parts None k.facts m only).1
    right_holds (PartedCode frame base cell op parts (Some v)) k over own m e f n outer mine after xs b ts counted kept well bases w seen only =
        let may = well.1 in
        let other = not_yet over (after ++ outer) mine v kept counted.1 in
        let shape : (e v).shape ≡ extents frame = subst (λ o. ShapeIs o (e v)) may.shape (seen.sound v).shape in (
          record {
            frame_is_box = box_frame op frame cell (part_grids (core_of_parts parts)) may.makes bases.2;
            scalars = may.scalars;
            makes = may.makes;
            covered = box_covered op frame cell (part_grids (core_of_parts parts)) may.makes bases.2;
            shape = ap (λ (a : ArrayValue). a.shape) (seen.same.others v other) ∙ shape;
            full = subst IsFull (sym (seen.same.others v other)) (seen.sound v).full;
          },
          over_hold parts k over own m e f v (after ++ outer) mine b base counted.3 kept counted.1 well.2 bases.1 w (words_inside op frame cell (part_grids (core_of_parts parts)) may.makes bases.2) seen
              (alike.own_parted calls turns g.shapes fit over own seen.fits frame base cell op parts (Some v) k.facts m only).1 may.own,
        )

    gens_hold : (gens : CodeGensTerm) (k : Known) (over : Var → Bool) (own : Var → List ℤ) (m : Var → IndexFacts) (e f : Env) (outer refs : List Var) (b : Bases) (t : Base) → CountedGens results_of outer gens → Kept over outer refs → WellMarkedGens g gens k → GensBases core b (core_of_gens gens) t → FullInsideGens calls turns (core_of_gens gens) → Seen over own m k.facts e f → OnlyGens over own m k.facts gens → MarksHoldGens calls turns gens f
    gens_hold NoCodeGens k over own m e f outer refs b t counted kept well bases w seen only = tt
    gens_hold (GenCode h body rest) k over own m e f outer refs b t counted kept well bases w seen only =
        let o = alike.own_gen calls turns g.shapes fit over own seen.fits h body rest k.facts m only in
        let names = h.index ∷ h.names in (
          (λ index.
              (let vs = vector Int index ∷ map (scalar Int) index in
              block_holds body (in_gen k h) over own (λ v. note_others (m v) (h.index ∷ h.names)) (with_index e h index) (with_index f h index) 1 outer names (ints (h.index ∷ h.names) ++ b) (t ∷ []) counted.2 (kept_fresh over outer refs names kept counted.1) well.0 bases.4 w.0
              (seen_params over own m k.facts e f seen names vs (vector_full index, scalars_full index)) o.1)),
          gens_hold rest k over own m e f outer refs b t counted.3 kept well.1 bases.5 w.1 seen o.2,
        )

    parts_hold : (parts : CodePartsTerm) (k : Known) (over : Var → Bool) (own : Var → List ℤ) (m : Var → IndexFacts) (e f : Env) (outer refs : List Var) (b : Bases) (t : Base) → CountedParts results_of outer parts → Kept over outer refs → WellMarkedParts g parts k → PartsBases core b (core_of_parts parts) t → FullInsideParts calls turns (core_of_parts parts) → Seen over own m k.facts e f → OnlyInner over own m k.facts parts → MarksHoldParts calls turns parts f
    parts_hold NoCodeParts k over own m e f outer refs b t counted kept well bases w seen only = tt
    parts_hold (PartCode h body rest) k over own m e f outer refs b t counted kept well bases w seen only =
        let o = alike.own_part calls turns g.shapes fit over own seen.fits h body rest k.facts m only in (
          (λ index q. block_holds body (in_part k h) over own (λ v. note_index (m v) h.index Other) (bind e h.index (vector Int index)) (bind f h.index (vector Int index)) 1 outer (h.index ∷ []) ((h.index, Int) ∷ b) (t ∷ []) counted.1 (kept_fresh over outer refs (h.index ∷ []) kept (counted.0, tt)) well.0 bases.0 w.0
              (seen_part over own m k.facts e f seen h index q) o.0),
          parts_hold rest k over own m e f outer refs b t counted.2 kept well.1 bases.1 w.1 seen o.1,
        )

    over_hold : (parts : CodePartsTerm) (k : Known) (over : Var → Bool) (own : Var → List ℤ) (m : Var → IndexFacts) (e f : Env) (v : Var) (outer mine : List Var) (b : Bases) (t : Base) → CountedParts results_of (mine ++ outer) parts → Kept over outer mine → Reordered mine (v ∷ []) → WellMarkedParts g parts k → PartsBases core b (core_of_parts parts) t → FullInsideParts calls turns (core_of_parts parts) → AllInWords (part_grids (core_of_parts parts)) → Seen over own m k.facts e f → OnlyInner over own m k.facts parts → own_parts g.shapes v parts k.facts ≡ true → MarksHoldOver calls turns v parts f
    over_hold NoCodeParts k over own m e f v outer mine b t counted kept order well bases w words seen only itself = tt
    over_hold (PartCode h body rest) k over own m e f v outer mine b t counted kept order well bases w words seen only itself =
        let o = alike.own_part calls turns g.shapes fit over own seen.fits h body rest k.facts m only in
        let its = and_both (own_only g.shapes v (length h.grid) body (Facts.in_part k.facts h) (own_index (length h.grid) h.index)) (own_parts g.shapes v rest k.facts) itself in
        let inner : Var → IndexFacts = λ y. note_index (m y) h.index Other in (
          (λ index q.
              (let before = bind e h.index (vector Int index) in
              let here = seen_part over own m k.facts e f seen h index q in (
                (λ σ alike_at.
                    (let more = seen_more over own m v h index k.facts e f σ (not_yet over outer mine v kept order) seen words.0 q alike_at in
                    let only_now = only_more over own m v h index g.shapes body k.facts q its.0 o.0 in (
                      same_run (over_more over own m v h index) (own_more over own m v h index) (facts_more over own m v h index) (Facts.in_part k.facts h) before σ more body only_now w.0
                          ∙ sym (same_run over own inner (Facts.in_part k.facts h) before (bind f h.index (vector Int index)) here body o.0 w.0),
                      block_holds body (in_part k h) (over_more over own m v h index) (own_more over own m v h index) (facts_more over own m v h index) before σ 1 (mine ++ outer) (h.index ∷ []) ((h.index, Int) ∷ b) (t ∷ []) counted.1
                          (kept_over over outer mine v h.index kept order counted.0) well.0 bases.0 w.0 more only_now,
                    ))),
                (λ a p. first_full (run calls turns (core_of body) (bind f h.index (vector Int index))) a (λ ws u. full_run over own inner (Facts.in_part k.facts h) before (bind f h.index (vector Int index)) here body ws o.0 w.0 u) p),
              ))),
          over_hold rest k over own m e f v outer mine b t counted.2 kept order well.1 bases.1 w.1 words.1 seen o.1 its.1,
        )
