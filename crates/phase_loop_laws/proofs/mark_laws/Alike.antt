-- Code that reads its own element alone of some arrays means the same whatever other elements these have.
use Rattle.std.proofs.Common.{◌≡◌, ℕ, Bool, true, false, ◌&&◌, not, cond, eqb, List, [], ◌∷◌, map, length, replicate, Option, Some, None, Ok, refl, sym, ap, subst, ◌∙◌, ℤ, pos, All, FitsSigned, w32, true≢false}
use Rattle.std.specs.Prelude.{if◌then◌else◌, fold, option_map, option_to_list}
use Rattle.std.specs.List.{list_all}
use Rattle.std.specs.Ordering.{int_eq}
use Rattle.std.proofs.lemmas.Bool.{eq-eqb}
use Rattle.std.proofs.lemmas.Bool.Decides.{Decides-int_eq}
use Rattle.sac_base.specs.declared.base.Base.{Base}
use Rattle.sac_base.specs.declared.base.Base.TheVariants.{Int}
use Rattle.sac_base.specs.declared.faults.FaultKind.TheVariants.{F6}
use Rattle.sac_base.specs.declared.grid.Grid1.{Grid1}
use Rattle.sac_base.specs.declared.site.Site.{Site}
use Rattle.sac_base.specs.Arrays.{ArrayValue, scalar, vector, same_form}
use Rattle.sac_base.specs.Grids.{has_vector, members}
use Rattle.sac_base.specs.Operators.{unary, binary}
use Rattle.sac_base.specs.Outcomes.{and_then, fault, at_site, choose}
use Rattle.sac_base.specs.Parts.{literal, select, replace, reshape, dim, shape_vector, condition}
use Rattle.sac_base.specs.WithLoops.{with_value, each, combined}
use Rattle.sac_base.specs.WithLoops as loops
use Rattle.core_ir.specs.declared.tree.Var.{Var}
use Rattle.core_ir.specs.declared.tree.CoreOp.{CoreOp}
use Rattle.core_ir.specs.declared.tree.CoreOp.TheVariants as making
use Rattle.core_ir.specs.declared.tree.PartedOp.{PartedOp}
use Rattle.core_ir.specs.declared.tree.PartedOp.TheVariants as parted
use Rattle.core_ir.specs.Terms.{PlainTerm, GenHead, PartHead}
use Rattle.core_ir.specs.Scopes.{op_uses, parted_uses}
use Rattle.core_ir.specs.Meaning.{Env, CallMeaning, missing, bind, bind_all, checked, plain_value, first, one, loop_value, operation, with_index, name_count, generator, made_of, neutral_fits, cell_form, run, right_value, generators, cells}
use Rattle.core_ir.proofs.Edited.{then_same, SameCells, same_cell_at}
use Rattle.core_ir.proofs.Variables.{same_number}
use Rattle.core_facts.specs.Facts.{Facts, note_all, shape_fact, DescribeAll, AreSound, right_facts, CallsFit}
use Rattle.core_facts.specs.Facts
use Rattle.core_facts.specs.Full.{FullInside, FullInsideRight, FullInsideGens, FullInsideParts, KeepsFull}
use Rattle.core_facts.proofs.Sound.{noted_one, noted, full_env, all_full, described, right_sound}
use Rattle.core_facts.proofs.Settle.{loop_same, has_length, vector_full, scalars_full}
use Rattle.core_facts.proofs.calls.Full.{block_full}
use Rattle.core_loops.specs.Indices.{IndexFact, IndexFacts, Plus, Component, Other, Says, wrapped, note_index, note_others, learn_index}
use Rattle.core_uses.specs.Tests.{none_is, head_avoided}
use Rattle.core_loops.specs.index_facts.Says.{SaysAll}
use Rattle.core_loops.proofs.index_facts.Members.{and_both}
use Rattle.core_loops.proofs.index_facts.Indices.{says_one, says_others, says_learned, moved_none}
use Rattle.counted_code.specs.Terms.{CodeTerm, CodeRightTerm, CodeGensTerm, CodePartsTerm, Giving, Binding, Keeping, Releasing, PlainCode, IfCode, LoopCode, CallCode, WithCode, PartedCode, NoCodeGens, GenCode, NoCodeParts, PartCode, core_of, core_of_right, core_of_gens, core_of_parts}
use Rattle.counted_marks.specs.Marks.{is_own_index, own_plain, own_only, own_right, own_gens, own_inner}
use Rattle.phase_loop_laws.specs.mark_laws.Alike.{AlikeAt}
use Rattle.phase_loop_laws.specs.mark_laws.Statements.{OwnElementsAreEnough}

-- ---- the own index

zeros : (c : List ℤ) → list_all (λ z. int_eq z (pos 0)) c ≡ true → c ≡ replicate (length c) (pos 0)
zeros [] h = refl
zeros (z ∷ c) h =
    let w = and_both (int_eq z (pos 0)) (list_all (λ y. int_eq y (pos 0)) c) h in
    λ i. (Decides-int_eq z (pos 0)).0 w.0 i ∷ zeros c w.1 i

-- an index plus zeros is the index
pub own_value : (own : List ℤ) (f : IndexFact) (a : ArrayValue) → All (FitsSigned w32) own → is_own_index f ≡ true → Says own f a → a ≡ vector Int own
own_value own Other a fits h s = absurd (true≢false (sym h))
own_value own (Component k d) a fits h s = absurd (true≢false (sym h))
own_value own (Plus c) a fits h s =
    s.1 ∙ ap (λ z. vector Int (wrapped own z)) (zeros c h) ∙ ap (λ n. vector Int (wrapped own (replicate n (pos 0)))) s.0 ∙ ap (vector Int) (sym (moved_none own fits))

-- ---- arrays that are written over

-- The second environment may have other arrays for the variables that are `over`, each with the same element at its own index.
pub record AlikeBut (over : Var → Bool) (own : Var → List ℤ) (e f : Env) : Type 0 where
  pub others : (y : Var) → over y ≡ false → f y ≡ e y
  pub element : (y : Var) → over y ≡ true → select (f y) (vector Int (own y)) ≡ select (e y) (vector Int (own y))

module _ (over : Var → Bool) (own : Var → List ℤ) where
  -- none of the variables is written over
  abbrev pub Spared : List Var → Type 0
  Spared xs = (v : Var) → over v ≡ true → none_is v xs ≡ true

  pub spared_more : (x : Var) (xs : List Var) → Spared (x ∷ xs) → Spared xs
  spared_more x xs s v h = (and_both (not (eqb v.0 x.0)) (none_is v xs) (s v h)).1

  pub not_over : (x : Var) (xs : List Var) → Spared (x ∷ xs) → over x ≡ false
  not_over x xs s = go (over x) refl
    where
      itself : (b : Bool) → eqb x.0 x.0 ≡ b → (not b && none_is x xs) ≡ true → over x ≡ false
      itself true p q = absurd (true≢false (sym q))
      itself false p q = absurd (true≢false (sym (eq-eqb x.0 x.0 refl) ∙ p))

      go : (b : Bool) → over x ≡ b → over x ≡ false
      go true h = itself (eqb x.0 x.0) refl (s x h)
      go false h = h

  bound_one : (e f : Env) (x : Var) (a : ArrayValue) → AlikeBut over own e f → AlikeBut over own (bind e x a) (bind f x a)
  bound_one e f x a same = record {
    others = λ y h. there y h (eqb x.0 y.0);
    element = λ y h. here y h (eqb x.0 y.0);
  }
    where
      there : (y : Var) → over y ≡ false → (b : Bool) → cond b a (f y) ≡ cond b a (e y)
      there y h true = refl
      there y h false = same.others y h

      here : (y : Var) → over y ≡ true → (b : Bool) → select (cond b a (f y)) (vector Int (own y)) ≡ select (cond b a (e y)) (vector Int (own y))
      here y h true = refl
      here y h false = same.element y h

  pub bound_alike : (e f : Env) (xs : List Var) (vs : List ArrayValue) → AlikeBut over own e f → AlikeBut over own (bind_all e xs vs) (bind_all f xs vs)
  bound_alike e f [] vs same = same
  bound_alike e f (x ∷ xs) [] same = bound_alike (bind e x missing) (bind f x missing) xs [] (bound_one e f x missing same)
  bound_alike e f (x ∷ xs) (v ∷ vs) same = bound_alike (bind e x v) (bind f x v) xs vs (bound_one e f x v same)

  -- ---- operands

  module _ (e f : Env) (same : AlikeBut over own e f) where
    pub first_same : (x : Var) (xs : List Var) → Spared (x ∷ xs) → f x ≡ e x
    first_same x xs s = same.others x (not_over x xs s)

    pub all_same : (xs : List Var) → Spared xs → map f xs ≡ map e xs
    all_same [] s = refl
    all_same (x ∷ xs) s = λ i. first_same x xs s i ∷ all_same xs (spared_more x xs s) i

    option_same : (o : Option Var) → Spared (option_to_list o) → option_map f o ≡ option_map e o
    option_same None s = refl
    option_same (Some x) s = λ i. Some (first_same x [] s i)

    bounds_same : (g : GenHead) → ((v : Var) → over v ≡ true → head_avoided v g ≡ true) → (generator g (λ index. Ok missing) f).bounds ≡ (generator g (λ index. Ok missing) e).bounds
    bounds_same g s =
        let lower : Spared (option_to_list g.lower) = λ v h. (and_both _ _ (s v h)).0 in
        let rest = λ (v : Var) (h : over v ≡ true). (and_both _ _ (s v h)).1 in
        let upper : Spared (option_to_list g.upper) = λ v h. (and_both _ _ (rest v h)).0 in
        let last = λ (v : Var) (h : over v ≡ true). (and_both _ _ (rest v h)).1 in
        let step : Spared (option_to_list g.step) = λ v h. (and_both _ _ (last v h)).0 in
        let width : Spared (option_to_list g.width) = λ v h. (and_both _ _ (last v h)).1 in
        λ i. record {
          lower = option_same g.lower lower i;
          lower_closed = g.lower_closed;
          names = name_count g.names;
          upper = option_same g.upper upper i;
          upper_closed = g.upper_closed;
          step = option_same g.step step i;
          width = option_same g.width width i;
          site = g.site;
        }

    operation_same : (o : CoreOp) (s : Site) → Spared (op_uses o) → operation o s f ≡ operation o s e
    operation_same (making.Genarray x y) s h = λ i. loops.genarray (first_same x (y ∷ []) h i) (first_same y [] (spared_more x (y ∷ []) h) i) s
    operation_same (making.Modarray x) s h = λ i. loops.modarray (first_same x [] h i) s
    operation_same (making.Fold o x) s h = λ i. loops.fold_by o (first_same x [] h i) s

    neutral_same : (form : ArrayValue) (o : PartedOp) → Spared (parted_uses o) → neutral_fits form o f ≡ neutral_fits form o e
    neutral_same form parted.Genarray h = refl
    neutral_same form (parted.Modarray x) h = refl
    neutral_same form (parted.Fold o x) h = λ i. same_form (first_same x [] h i) form

    made_same : (frame : List Grid1) (base : Base) (cell : List ℕ) (o : PartedOp) (found : List (Option ArrayValue)) → Spared (parted_uses o) → made_of frame base cell o f found ≡ made_of frame base cell o e found
    made_same frame base cell parted.Genarray found h = refl
    made_same frame base cell (parted.Modarray x) found h = refl
    made_same frame base cell (parted.Fold o x) found h = λ i. fold (combined o) (first_same x [] h i) found

    -- a selection at the own index reads the element that is the same
    plain_same : (p : PlainTerm) (m : Var → IndexFacts) → ((v : Var) → over v ≡ true → All (FitsSigned w32) (own v)) → ((v : Var) → over v ≡ true → own_plain v p (m v) ≡ true) → ((v : Var) → over v ≡ true → SaysAll (own v) (m v) e) → plain_value p f ≡ plain_value p e
    plain_same (PlainTerm.Const a) m fits s says = refl
    plain_same (PlainTerm.Copy x) m fits s says = λ i. Ok (first_same x [] s i)
    plain_same (PlainTerm.Unary o x) m fits s says = λ i. Ok (unary o (first_same x [] s i))
    plain_same (PlainTerm.Binary o x y) m fits s says = λ i. binary o (first_same x (y ∷ []) s i) (first_same y [] (spared_more x (y ∷ []) s) i)
    plain_same (PlainTerm.Literal xs) m fits s says = λ i. literal (all_same xs s i)
    plain_same (PlainTerm.Dim x) m fits s says = λ i. Ok (dim (first_same x [] s i))
    plain_same (PlainTerm.ShapeOf x) m fits s says = λ i. Ok (shape_vector (first_same x [] s i))
    plain_same (PlainTerm.Reshape x y) m fits s says = λ i. reshape (first_same x (y ∷ []) s i) (first_same y [] (spared_more x (y ∷ []) s) i)
    plain_same (PlainTerm.Select x y) m fits s says =
        let index : Spared (y ∷ []) = λ v h. (and_both (none_is v (y ∷ [])) (cond (eqb v.0 x.0) (is_own_index (m v y)) true) (s v h)).0 in
        (λ i. select (f x) (first_same y [] index i)) ∙ go (over x) refl
      where
        itself : over x ≡ true → is_own_index (m x y) ≡ true
        itself h =
            sym (ap (λ b. cond b (is_own_index (m x y)) true) (eq-eqb x.0 x.0 refl))
            ∙ (and_both (none_is x (y ∷ [])) (cond (eqb x.0 x.0) (is_own_index (m x y)) true) (s x h)).1

        go : (b : Bool) → over x ≡ b → select (f x) (e y) ≡ select (e x) (e y)
        go true h =
            let is = own_value (own x) (m x y) (e y) (fits x h) (itself h) (says x h y) in
            (λ i. select (f x) (is i)) ∙ same.element x h ∙ sym (λ i. select (e x) (is i))
        go false h = λ i. select (same.others x h i) (e y)
    plain_same (PlainTerm.Replace x y z) m fits s says =
        let rest = spared_more x (y ∷ z ∷ []) s in
        λ i. replace (first_same x (y ∷ z ∷ []) s i) (first_same y (z ∷ []) rest i) (first_same z [] (spared_more y (z ∷ []) rest) i)
    plain_same (PlainTerm.Always k) m fits s says = refl
    plain_same (PlainTerm.Check x t) m fits s says = λ i. checked t (first_same x [] s i)

-- ---- what is known under the binders

pub sound_part : (k : Facts) (e : Env) (g : PartHead) (index : List ℤ) → AreSound k e → has_vector g.grid index ≡ true → AreSound (Facts.in_part k g) (bind e g.index (vector Int index))
sound_part k e g index sound q =
    noted_one k e g.index (shape_fact (Some (length g.grid ∷ []))) (vector Int index) sound (record { shape = λ i. has_length g.grid index q i ∷ []; literal = tt; full = vector_full index })

pub sound_gen : (k : Facts) (e : Env) (g : GenHead) (index : List ℤ) → AreSound k e → AreSound (note_all k (g.index ∷ g.names) []) (with_index e g index)
sound_gen k e g index sound = noted k e (g.index ∷ g.names) [] (vector Int index ∷ map (scalar Int) index) sound (vector_full index, scalars_full index)

-- ---- terms

module _ (calls : CallMeaning) (turns : ℕ) (called : ℕ → List (Option (List ℕ))) (fit : CallsFit called calls) (over : Var → Bool) (own : Var → List ℤ) (fits : (v : Var) → over v ≡ true → All (FitsSigned w32) (own v)) where
  -- what is known beside the index at which each of these arrays is read
  abbrev pub SaysOver : (Var → IndexFacts) → Env → Type 0
  SaysOver m e = (v : Var) → over v ≡ true → SaysAll (own v) (m v) e

  -- the code uses them in selections at this index alone
  abbrev pub OwnOnly : CodeTerm → Facts → (Var → IndexFacts) → Type 0
  OwnOnly t k m = (v : Var) → over v ≡ true → own_only called v (length (own v)) t k (m v) ≡ true

  abbrev pub OwnRight : CodeRightTerm → Facts → (Var → IndexFacts) → Type 0
  OwnRight r k m = (v : Var) → over v ≡ true → own_right called v (length (own v)) r k (m v) ≡ true

  abbrev pub OwnGens : CodeGensTerm → Facts → (Var → IndexFacts) → Type 0
  OwnGens gens k m = (v : Var) → over v ≡ true → own_gens called v (length (own v)) gens k (m v) ≡ true

  abbrev pub OwnInner : CodePartsTerm → Facts → (Var → IndexFacts) → Type 0
  OwnInner parts k m = (v : Var) → over v ≡ true → own_inner called v (length (own v)) parts k (m v) ≡ true

  left : (p q : Var → Bool) → ((v : Var) → over v ≡ true → (p v && q v) ≡ true) → (v : Var) → over v ≡ true → p v ≡ true
  left p q both v h = (and_both (p v) (q v) (both v h)).0

  right : (p q : Var → Bool) → ((v : Var) → over v ≡ true → (p v && q v) ≡ true) → (v : Var) → over v ≡ true → q v ≡ true
  right p q both v h = (and_both (p v) (q v) (both v h)).1

  -- what is known beside the index after a binding, and under other variables
  abbrev pub learned_over : (Var → IndexFacts) → List Var → CodeRightTerm → Facts → Var → IndexFacts
  learned_over m xs r k v = learn_index (length (own v)) (m v) xs (core_of_right r) k

  abbrev pub others_over : (Var → IndexFacts) → List Var → Var → IndexFacts
  others_over m xs v = note_others (m v) xs

  abbrev pub inner_over : (Var → IndexFacts) → Var → Var → IndexFacts
  inner_over m index v = note_index (m v) index Other

  pub own_binding : (xs : List Var) (s : Site) (r : CodeRightTerm) (b : CodeTerm) (k : Facts) (m : Var → IndexFacts) → OwnOnly (Binding xs s r b) k m → OwnRight r k m × OwnOnly b (note_all k xs (right_facts called (core_of_right r) k)) (learned_over m xs r k)
  own_binding xs s r b k m only =
      let p : Var → Bool = λ v. own_right called v (length (own v)) r k (m v) in
      let q : Var → Bool = λ v. own_only called v (length (own v)) b (note_all k xs (right_facts called (core_of_right r) k)) (learned_over m xs r k v) in
      (left p q only, right p q only)

  pub own_keeping : (x : Var) (b : CodeTerm) (k : Facts) (m : Var → IndexFacts) → OwnOnly (Keeping x b) k m → Spared over own (x ∷ []) × OwnOnly b k m
  own_keeping x b k m only =
      let p : Var → Bool = λ v. none_is v (x ∷ []) in
      let q : Var → Bool = λ v. own_only called v (length (own v)) b k (m v) in
      (left p q only, right p q only)

  pub own_branches : (x : Var) (a b : CodeTerm) (k : Facts) (m : Var → IndexFacts) → OwnRight (IfCode x a b) k m → Spared over own (x ∷ []) × OwnOnly a k m × OwnOnly b k m
  own_branches x a b k m only =
      let p : Var → Bool = λ v. none_is v (x ∷ []) in
      let q : Var → Bool = λ v. own_only called v (length (own v)) a k (m v) in
      let r : Var → Bool = λ v. own_only called v (length (own v)) b k (m v) in
      let rest = right p (λ v. q v && r v) only in
      (left p (λ v. q v && r v) only, left q r rest, right q r rest)

  pub own_turns : (fb : Bool) (start params : List Var) (test body : CodeTerm) (u : Site) (k : Facts) (m : Var → IndexFacts) → OwnRight (LoopCode fb start params test body u) k m → Spared over own start × OwnOnly test (note_all k params []) (others_over m params) × OwnOnly body (note_all k params []) (others_over m params)
  own_turns fb start params test body u k m only =
      let p : Var → Bool = λ v. none_is v start in
      let q : Var → Bool = λ v. own_only called v (length (own v)) test (note_all k params []) (others_over m params v) in
      let r : Var → Bool = λ v. own_only called v (length (own v)) body (note_all k params []) (others_over m params v) in
      let rest = right p (λ v. q v && r v) only in
      (left p (λ v. q v && r v) only, left q r rest, right q r rest)

  pub own_cells : (o : CoreOp) (gens : CodeGensTerm) (k : Facts) (m : Var → IndexFacts) → OwnRight (WithCode o gens) k m → Spared over own (op_uses o) × OwnGens gens k m
  own_cells o gens k m only =
      let p : Var → Bool = λ v. none_is v (op_uses o) in
      let q : Var → Bool = λ v. own_gens called v (length (own v)) gens k (m v) in
      (left p q only, right p q only)

  pub own_gen : (g : GenHead) (b : CodeTerm) (rest : CodeGensTerm) (k : Facts) (m : Var → IndexFacts) → OwnGens (GenCode g b rest) k m → ((v : Var) → over v ≡ true → head_avoided v g ≡ true) × OwnOnly b (note_all k (g.index ∷ g.names) []) (others_over m (g.index ∷ g.names)) × OwnGens rest k m
  own_gen g b rest k m only =
      let p : Var → Bool = λ v. head_avoided v g in
      let q : Var → Bool = λ v. own_only called v (length (own v)) b (note_all k (g.index ∷ g.names) []) (others_over m (g.index ∷ g.names) v) in
      let r : Var → Bool = λ v. own_gens called v (length (own v)) rest k (m v) in
      let here = left (λ v. p v && q v) r only in
      (left p q here, right p q here, right (λ v. p v && q v) r only)

  pub own_parted : (frame : List Grid1) (base : Base) (cell : List ℕ) (o : PartedOp) (parts : CodePartsTerm) (reuse : Option Var) (k : Facts) (m : Var → IndexFacts) → OwnRight (PartedCode frame base cell o parts reuse) k m → Spared over own (parted_uses o) × OwnInner parts k m
  own_parted frame base cell o parts reuse k m only =
      let p : Var → Bool = λ v. none_is v (parted_uses o) in
      let q : Var → Bool = λ v. own_inner called v (length (own v)) parts k (m v) in
      (left p q only, right p q only)

  pub own_part : (g : PartHead) (b : CodeTerm) (rest : CodePartsTerm) (k : Facts) (m : Var → IndexFacts) → OwnInner (PartCode g b rest) k m → OwnOnly b (Facts.in_part k g) (inner_over m g.index) × OwnInner rest k m
  own_part g b rest k m only =
      let p : Var → Bool = λ v. own_only called v (length (own v)) b (Facts.in_part k g) (inner_over m g.index v) in
      let q : Var → Bool = λ v. own_inner called v (length (own v)) rest k (m v) in
      (left p q only, right p q only)

  pub says_params : (m : Var → IndexFacts) (e : Env) (xs : List Var) (vs : List ArrayValue) → SaysOver m e → SaysOver (others_over m xs) (bind_all e xs vs)
  says_params m e xs vs says v h = says_others (own v) (m v) e xs vs (says v h)

  pub says_inner : (m : Var → IndexFacts) (e : Env) (index : Var) (a : ArrayValue) → SaysOver m e → SaysOver (inner_over m index) (bind e index a)
  says_inner m e index a says v h = says_one (own v) (m v) e index Other a (says v h) tt

  module _ (xs : List Var) (s : Site) (r : CodeRightTerm) (k : Facts) (e : Env) (vs : List ArrayValue) (sound : AreSound k e) (is : right_value calls turns (core_of_right r) s e ≡ Ok vs) where
    pub sound_learned : KeepsFull calls turns (core_of_right r) → FullInsideRight calls turns (core_of_right r) → AreSound (note_all k xs (right_facts called (core_of_right r) k)) (bind_all e xs vs)
    sound_learned keep full = noted k e xs (right_facts called (core_of_right r) k) vs sound (right_sound calls turns called fit (core_of_right r) s k e vs keep full sound is)

    pub says_bound : (m : Var → IndexFacts) → SaysOver m e → SaysOver (learned_over m xs r k) (bind_all e xs vs)
    says_bound m says v h = says_learned calls turns (own v) (length (own v)) (m v) k e xs (core_of_right r) s vs refl sound (says v h) is

  mutual
    pub block_same : (t : CodeTerm) (k : Facts) (m : Var → IndexFacts) (e f : Env) → OwnOnly t k m → FullInside calls turns (core_of t) → AreSound k e → SaysOver m e → AlikeBut over own e f → run calls turns (core_of t) f ≡ run calls turns (core_of t) e
    block_same (Giving xs) k m e f only w sound says same = λ i. Ok (all_same over own e f same xs only i)
    block_same (Binding xs s r b) k m e f only w sound says same =
        let q = core_of_right r in
        let o = own_binding xs s r b k m only in
        (λ i. and_then (right_same r s k m e f o.0 w.1 sound says same i) (λ vs. run calls turns (core_of b) (bind_all f xs vs)))
        ∙ then_same (right_value calls turns q s e) (λ vs. run calls turns (core_of b) (bind_all f xs vs)) (λ vs. run calls turns (core_of b) (bind_all e xs vs))
        (λ vs p. block_same b (note_all k xs (right_facts called q k)) (learned_over m xs r k) (bind_all e xs vs) (bind_all f xs vs) o.1 w.2 (sound_learned xs s r k e vs sound p w.0 w.1) (says_bound xs s r k e vs sound p m says) (bound_alike over own e f xs vs same))
    block_same (Keeping x b) k m e f only w sound says same = block_same b k m e f (own_keeping x b k m only).1 w sound says same
    block_same (Releasing x b) k m e f only w sound says same = block_same b k m e f only w sound says same

    pub right_same : (r : CodeRightTerm) (s : Site) (k : Facts) (m : Var → IndexFacts) (e f : Env) → OwnRight r k m → FullInsideRight calls turns (core_of_right r) → AreSound k e → SaysOver m e → AlikeBut over own e f → right_value calls turns (core_of_right r) s f ≡ right_value calls turns (core_of_right r) s e
    right_same (PlainCode p) s k m e f only w sound says same = λ i. one (at_site s (plain_same over own e f same p m fits only says i))
    right_same (IfCode x a b) s k m e f only w sound says same =
        let o = own_branches x a b k m only in
        λ i. choose s (condition (first_same over own e f same x [] o.0 i)) (block_same a k m e f o.1 w.0 sound says same i) (block_same b k m e f o.2 w.1 sound says same i)
    right_same (LoopCode fb start params test body u) s k m e f only w sound says same =
        let n = note_all k params [] in
        let o = own_turns fb start params test body u k m only in
        let others = others_over m params in
        let is : (vs : List ArrayValue) → DescribeAll [] vs → AreSound n (bind_all e params vs) = λ vs d. noted k e params [] vs sound d in
        (λ i. loop_value fb turns s u (λ vs. first (run calls turns (core_of test) (bind_all f params vs))) (λ vs. run calls turns (core_of body) (bind_all f params vs)) (all_same over own e f same start o.0 i))
        ∙ sym (loop_same (DescribeAll []) fb turns s u (λ vs. first (run calls turns (core_of test) (bind_all e params vs))) (λ vs. first (run calls turns (core_of test) (bind_all f params vs)))
        (λ vs. run calls turns (core_of body) (bind_all e params vs)) (λ vs. run calls turns (core_of body) (bind_all f params vs))
        (λ vs d. ap first (sym (block_same test n others (bind_all e params vs) (bind_all f params vs) o.1 w.0 (is vs d) (says_params m e params vs says) (bound_alike over own e f params vs same))))
        (λ vs d. sym (block_same body n others (bind_all e params vs) (bind_all f params vs) o.2 w.1 (is vs d) (says_params m e params vs says) (bound_alike over own e f params vs same)))
        (λ vs ws d q. block_full calls turns (core_of body) (bind_all e params vs) ws w.1 (full_env n (bind_all e params vs) (is vs d)) q)
        (map e start) (all_full (map k start) (map e start) (described k e start sound)))
    right_same (CallCode g xs) s k m e f only w sound says same = λ i. calls g (all_same over own e f same xs only i) s
    right_same (WithCode o gens) s k m e f only w sound says same =
        let c = own_cells o gens k m only in
        λ i. one (with_value (gens_same gens k m e f c.1 w sound says same i) (operation_same over own e f same o s c.0 i))
    right_same (PartedCode frame base cell o parts reuse) s k m e f only w sound says same =
        let c = own_parted frame base cell o parts reuse k m only in
        let form = cell_form base cell in
        λ i. one (if neutral_same over own e f same form o c.0 i
        then and_then (each (λ index. same_cell_at form _ _ index (parts_same parts k m e f c.1 w sound says same) i) (members frame)) (λ found. Ok (made_same over own e f same frame base cell o found c.0 i))
        else fault F6 s)

    gens_same : (gens : CodeGensTerm) (k : Facts) (m : Var → IndexFacts) (e f : Env) → OwnGens gens k m → FullInsideGens calls turns (core_of_gens gens) → AreSound k e → SaysOver m e → AlikeBut over own e f → generators calls turns (core_of_gens gens) f ≡ generators calls turns (core_of_gens gens) e
    gens_same NoCodeGens k m e f only w sound says same = refl
    gens_same (GenCode g b rest) k m e f only w sound says same =
        let xs = g.index ∷ g.names in
        let o = own_gen g b rest k m only in
        let cell : (index : List ℤ) → run calls turns (core_of b) (with_index f g index) ≡ run calls turns (core_of b) (with_index e g index) = (λ index. block_same b (note_all k xs []) (others_over m xs) (with_index e g index) (with_index f g index) o.1 w.0 (sound_gen k e g index sound) (says_params m e xs (vector Int index ∷ map (scalar Int) index) says) (bound_alike over own e f xs (vector Int index ∷ map (scalar Int) index) same)) in
        λ i. record { bounds = bounds_same over own e f same g o.0 i; cell = λ index. first (cell index i) } ∷ gens_same rest k m e f o.2 w.1 sound says same i

    parts_same : (parts : CodePartsTerm) (k : Facts) (m : Var → IndexFacts) (e f : Env) → OwnInner parts k m → FullInsideParts calls turns (core_of_parts parts) → AreSound k e → SaysOver m e → AlikeBut over own e f → SameCells (cells calls turns (core_of_parts parts) f) (cells calls turns (core_of_parts parts) e)
    parts_same NoCodeParts k m e f only w sound says same = tt
    parts_same (PartCode g b rest) k m e f only w sound says same =
        let o = own_part g b rest k m only in (
          refl,
          refl,
          (λ index q. ap first (block_same b (Facts.in_part k g) (inner_over m g.index) (bind e g.index (vector Int index)) (bind f g.index (vector Int index)) o.0 w.0 (sound_part k e g index sound q) (says_inner m e g.index (vector Int index) says) (bound_alike over own e f (g.index ∷ []) (vector Int index ∷ []) same))),
          parts_same rest k m e f o.1 w.1 sound says same,
        )

-- ---- one array

pub alike_at : (v : Var) (index : List ℤ) (e f : Env) → AlikeAt v index e f → AlikeBut (λ y. eqb v.0 y.0) (λ y. index) e f
alike_at v index e f same = record {
  others = same.others;
  element = λ y h. subst (λ (z : Var). select (f z) (vector Int index) ≡ select (e z) (vector Int index)) (same_number v y h) same.element;
}

one_only : (called : ℕ → List (Option (List ℕ))) (v : Var) (own : List ℤ) (t : CodeTerm) (k : Facts) (m : IndexFacts) → own_only called v (length own) t k m ≡ true → (y : Var) → eqb v.0 y.0 ≡ true → own_only called y (length own) t k m ≡ true
one_only called v own t k m only y h = subst (λ (z : Var). own_only called z (length own) t k m ≡ true) (same_number v y h) only

pub own_elements : OwnElementsAreEnough
own_elements calls turns called fit t v own k m e f fits only w sound says same =
    block_same calls turns called fit (λ y. eqb v.0 y.0) (λ y. own) (λ y h. fits) t k (λ y. m) e f (one_only called v own t k m only) w sound (λ y h. says) (alike_at v own e f same)
