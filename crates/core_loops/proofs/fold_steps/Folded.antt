-- A body in which selections from a producer are replaced by the producer's bodies means the same at the members of its grid.
use Rattle.std.proofs.Common.{◌≡◌, ℕ, zero, suc, Bool, true, false, cond, ◌||◌, eqb, List, [], ◌∷◌, ◌++◌, map, length, Option, Some, None, Ok, Err, refl, sym, ap, subst, ◌∙◌, arith, ℤ, ◌+ℤ◌, All, FitsSigned, w32, ◌⊎◌, inl, inr}
use Rattle.std.proofs.lemmas.Bool.{eq-eqb}
use Rattle.std.proofs.lemmas.Int.{int_wrap_fits}
use Rattle.std.proofs.lemmas.List.Elements.{All-head, All-tail}
use Rattle.sac_base.specs.declared.base.Base.TheVariants.{Int}
use Rattle.sac_base.specs.declared.grid.Grid1.{Grid1}
use Rattle.sac_base.specs.declared.site.Site.{Site}
use Rattle.sac_base.specs.Arrays.{ArrayValue, scalar, vector}
use Rattle.sac_base.specs.Grids.{has_vector}
use Rattle.sac_base.specs.Outcomes.{and_then, choose}
use Rattle.sac_base.specs.Parts.{condition, select}
use Rattle.core_ir.specs.declared.tree.Var.{Var}
use Rattle.core_ir.specs.Binders.{is_in, NoneIn}
use Rattle.core_ir.specs.Scopes.{Scoped, ScopedRight, ScopedParts, AgreeOn}
use Rattle.core_ir.specs.Renaming.{Agree, under}
use Rattle.core_ir.specs.Terms.{PlainTerm, BlockTerm, RightTerm, PartsTerm, PartHead, Gives, Bind, Plain, NoParts, Part}
use Rattle.core_ir.specs.Meaning.{Env, CallMeaning, Cells, bind, bind_all, first, cell_form, run, right_value, cells}
use Rattle.core_ir.proofs.Coincide.{same_on}
use Rattle.core_ir.proofs.Edited.{then_same}
use Rattle.core_ir.proofs.Facts.{agree_after}
use Rattle.core_ir.proofs.Renamed.{agree_bind}
use Rattle.core_ir.proofs.Variables.{same_number, or_false, or_right, in_front, not_bound}
use Rattle.core_facts.specs.Facts.{Facts, note_all, DescribeAll, AreSound, right_facts, block_facts, CallsFit}
use Rattle.core_facts.specs.Full.{FullInside, FullInsideRight}
use Rattle.core_facts.proofs.Sound.{noted, right_sound, block_sound, all_full, described}
use Rattle.core_facts.proofs.Settle.{loop_same}
use Rattle.core_loops.specs.folds.Cells.{IsBox, HasCells, HeldBy}
use Rattle.core_loops.proofs.folds.Selected.{array_of, selected_cell}
use Rattle.core_loops.proofs.folds.Replaced.{replaced_selection, cell_of_part}
use Rattle.generator_sets.specs.Pieces.{moved}
use Rattle.core_loops.specs.Indices.{IndexFacts, Plus, Says, wrapped, note_others, learn_index}
use Rattle.core_loops.specs.Pairs.{Producer}
use Rattle.core_loops.specs.Steps.{itself, HeldIn, TakenAt, Folded, FoldedRight}
use Rattle.core_loops.specs.index_facts.Says.{SaysAll}
use Rattle.core_loops.proofs.index_facts.Indices.{says_others, says_learned}

pub agree_itself : (f : Env) → Agree itself f f
agree_itself f x y q = ap f (same_number x y q)

-- sums of 32 bits are whole
fits_whole : (v c : List ℤ) → length c ≡ length v → All (FitsSigned w32) (moved v c) → wrapped v c ≡ moved v c
fits_whole [] c l h = refl
fits_whole (x ∷ v) [] l h = absurd (omega (arith, l))
fits_whole (x ∷ v) (y ∷ c) l h = λ i. int_wrap_fits w32 (x +ℤ y) (All-head (FitsSigned w32) (x +ℤ y) (moved v c) h) i ∷ fits_whole v c (omega (arith, l)) (All-tail (FitsSigned w32) (x +ℤ y) (moved v c) h) i

scoped_held : (scope : List Var) (parts : PartsTerm) (u : List ℤ) (h : PartHead) (b : BlockTerm) → HeldIn parts u h b → ScopedParts scope parts → Scoped (h.index ∷ scope) b
scoped_held scope NoParts u h b i s = absurd i
scoped_held scope (Part g c rest) u h b i s = elim i [
  | inl y ↦ subst (λ d. Scoped (h.index ∷ scope) d) y.2 (subst (λ (j : PartHead). Scoped (j.index ∷ scope) c) y.1 s.1)
  | inr n ↦ scoped_held scope rest u h b n.1 s.2
]

module _ (calls : CallMeaning) (turns : ℕ) where
  abbrev cell_of : Env → PartHead → BlockTerm → Cells
  cell_of e h b = record { grid = h.grid; site = h.site; cell = λ w. first (run calls turns b (bind e h.index (vector Int w))) }

  held_by : (parts : PartsTerm) (e : Env) (u : List ℤ) (h : PartHead) (b : BlockTerm) → HeldIn parts u h b → HeldBy (cells calls turns parts e) u (cell_of e h b)
  held_by NoParts e u h b i = absurd i
  held_by (Part g c rest) e u h b i = elim i [
    | inl y ↦ inl (y.0, λ j. cell_of e (y.1 j) (y.2 j))
    | inr n ↦ inr (n.0, held_by rest e u h b n.1)
  ]

  module _ (called : ℕ → List (Option (List ℕ))) (fit : CallsFit called calls) (p : Producer) (scope : List Var) (e : Env) (at : List ℤ → ℤ) (fresh : is_in p.var scope ≡ false) (scoped : ScopedParts scope p.parts) (box : IsBox p.frame)
      (words : (u : List ℤ) → has_vector p.frame u ≡ true → All (FitsSigned w32) u) (fits : (u : List ℤ) (h : PartHead) (b : BlockTerm) → HeldIn p.parts u h b → has_vector p.frame u ≡ true) (has : HasCells p.frame p.base (cells calls turns p.parts e) at) where
    -- the environment behind the producer
    abbrev pub behind : Env
    behind = bind e p.var (array_of p.frame p.base at)

    -- environments of the consumer agree with it on these variables
    abbrev pub Behind : Env → Type 0
    Behind f = AgreeOn (p.var ∷ scope) f behind

    agrees : (f : Env) (x : Var) (a : ArrayValue) → Behind f → AgreeOn (x ∷ scope) (bind f x a) (bind e x a)
    agrees f x a h y k = go (eqb x.0 y.0) refl
      where
        other : is_in y scope ≡ true → f y ≡ e y
        other i = h y (or_right (eqb p.var.0 y.0) (is_in y scope) i) ∙ (λ j. cond ((or_false (eqb p.var.0 y.0) (is_in y []) (not_bound (p.var ∷ []) scope y (fresh, tt) i)).0 j) (array_of p.frame p.base at) (e y))

        right : (b c : Bool) → b ≡ false → (b || c) ≡ true → c ≡ true
        right b c q r = sym (λ j. q j || c) ∙ r

        go : (b : Bool) → eqb x.0 y.0 ≡ b → cond (eqb x.0 y.0) a (f y) ≡ cond (eqb x.0 y.0) a (e y)
        go true q = (λ j. cond (q j) a (f y)) ∙ sym (λ j. cond (q j) a (e y))
        go false q = λ j. cond (eqb x.0 y.0) a (other (right (eqb x.0 y.0) (is_in y scope) q k) j)

    module _ (n : ℕ) (grid : List Grid1) (v : List ℤ) (inside : has_vector grid v ≡ true) (long : length v ≡ n) where
      taken : (m : IndexFacts) (xs : List Var) (s : Site) (r : RightTerm) (d c : BlockTerm) (f : Env) → TakenAt p grid m xs r d c → Behind f → SaysAll v m f → run calls turns (Bind xs s r d) f ≡ run calls turns c f
      taken m xs s r d c f t h says =
          let u = moved v t.offset in
          let held = t.held v inside in
          let frame = fits u t.head t.body held in
          let says_index : Says v (Plus t.offset) (f t.index) = subst (λ x. Says v x (f t.index)) t.at (says t.index) in
          let index : f t.index ≡ vector Int u = says_index.1 ∙ ap (vector Int) (fits_whole v t.offset says_index.0 (words u frame)) in
          let self : eqb p.var.0 p.var.0 ≡ true = eq-eqb p.var.0 p.var.0 refl in
          let array : f p.var ≡ array_of p.frame p.base at = h p.var (λ i. self i || is_in p.var scope) ∙ (λ i. cond (self i) (array_of p.frame p.base at) (e p.var)) in
          let value : select (f p.var) (vector Int u) ≡ Ok (scalar p.base (at u)) = (λ i. select (array i) (vector Int u)) ∙ selected_cell p.frame p.base at u box frame in
          let there : first (run calls turns t.body (bind e t.head.index (vector Int u))) ≡ Ok (scalar p.base (at u)) = cell_of_part (cell_form p.base []) (cells calls turns p.parts e) u (cell_of e t.head t.body) (scalar p.base (at u)) (held_by p.parts e u t.head t.body held) (has u frame) in
          let cell : first (run calls turns t.body (bind f t.head.index (vector Int u))) ≡ Ok (scalar p.base (at u)) = ap first (same_on calls turns (t.head.index ∷ scope) t.body (bind f t.head.index (vector Int u)) (bind e t.head.index (vector Int u)) (scoped_held scope p.parts u t.head t.body held scoped) (agrees f t.head.index (vector Int u) h)) ∙ there in
          (λ i. run calls turns (Bind (t.targets i) s (t.selects i) d) f)
          ∙ replaced_selection calls turns (under itself t.head.index t.own) t.body p.var t.index t.target t.own t.result t.head.index s t.first t.last t.lets d f u (scalar p.base (at u)) index value cell t.renamed
          (agree_bind itself f f t.head.index t.own (vector Int u) (agree_itself f)) t.avoids t.alone
          ∙ (λ i. run calls turns (sym t.made i) f)

      mutual
        pub folded : (b : BlockTerm) (k : Facts) (m : IndexFacts) (σ : List Var) (c : BlockTerm) (f : Env) → Folded called p n grid b k m c → Scoped σ b → ((y : Var) → is_in y (p.var ∷ scope) ≡ true → is_in y σ ≡ true) → FullInside calls turns b → Behind f → AreSound k f → SaysAll v m f → run calls turns b f ≡ run calls turns c f
        folded (Gives xs) k m σ c f h sc sub w near sound says = λ i. run calls turns (sym h i) f
        folded (Bind xs s r b) k m σ c f h sc sub w near sound says =
            let more : (d : BlockTerm) → Folded called p n grid b (note_all k xs (right_facts called r k)) (learn_index n m xs r k) d → run calls turns (Bind xs s r b) f ≡ run calls turns (Bind xs s r d) f =
            λ d hd. then_same (right_value calls turns r s f) (λ vs. run calls turns b (bind_all f xs vs)) (λ vs. run calls turns d (bind_all f xs vs))
            (λ vs q. folded b (note_all k xs (right_facts called r k)) (learn_index n m xs r k) (xs ++ σ) d (bind_all f xs vs) hd sc.2 (λ y i. in_front y xs σ (sub y i)) w.2
            (λ y i. agree_after xs σ vs f sc.1 y (sub y i) ∙ near y i)
            (noted k f xs (right_facts called r k) vs sound (right_sound calls turns called fit r s k f vs w.0 w.1 sound q))
            (says_learned calls turns v n m k f xs r s vs long sound says q)) in
            elim h [
              | inl y ↦ more y.1.0 y.1.1.2 ∙ (λ i. and_then (folded_right r k m σ y.0 f s y.1.1.1 sc.0 sub w.1 near sound says i) (λ vs. run calls turns y.1.0 (bind_all f xs vs))) ∙ (λ i. run calls turns (sym y.1.1.0 i) f)
              | inr y ↦ more y.0 y.1.1 ∙ taken m xs s r y.0 c f y.1.0 near says
            ]

        folded_right : (r : RightTerm) (k : Facts) (m : IndexFacts) (σ : List Var) (q : RightTerm) (f : Env) (s : Site) → FoldedRight called p n grid r k m q → ScopedRight σ r → ((y : Var) → is_in y (p.var ∷ scope) ≡ true → is_in y σ ≡ true) → FullInsideRight calls turns r → Behind f → AreSound k f → SaysAll v m f → right_value calls turns r s f ≡ right_value calls turns q s f
        folded_right (Plain t) k m σ q f s h sc sub w near sound says = λ i. right_value calls turns (sym h i) s f
        folded_right (RightTerm.If x a b) k m σ q f s h sc sub w near sound says =
            (λ i. choose s (condition (f x)) (folded a k m σ h.0 f h.1.1.1 sc.1 sub w.0 near sound says i) (folded b k m σ h.1.0 f h.1.1.2 sc.2 sub w.1 near sound says i)) ∙ (λ i. right_value calls turns (sym h.1.1.0 i) s f)
        folded_right (RightTerm.Loop fb start params test body u) k m σ q f s h sc sub w near sound says =
            let nk = note_all k params [] in
            let nm = note_others m params in
            let close : (vs : List ArrayValue) → Behind (bind_all f params vs) = λ vs y i. agree_after params σ vs f sc.1 y (sub y i) ∙ near y i in
            loop_same (DescribeAll []) fb turns s u (λ vs. first (run calls turns test (bind_all f params vs))) (λ vs. first (run calls turns h.0 (bind_all f params vs)))
            (λ vs. run calls turns body (bind_all f params vs)) (λ vs. run calls turns h.1.0 (bind_all f params vs))
            (λ vs d. ap first (folded test nk nm (params ++ σ) h.0 (bind_all f params vs) h.1.1.1 sc.2 (λ y i. in_front y params σ (sub y i)) w.0 (close vs) (noted k f params [] vs sound d) (says_others v m f params vs says)))
            (λ vs d. folded body nk nm (params ++ σ) h.1.0 (bind_all f params vs) h.1.1.2 sc.3 (λ y i. in_front y params σ (sub y i)) w.1 (close vs) (noted k f params [] vs sound d) (says_others v m f params vs says))
            (λ vs ws d t. all_full (block_facts called body nk) ws (block_sound calls turns called fit body nk (bind_all f params vs) ws w.1 (noted k f params [] vs sound d) t))
            (map f start) (all_full (map k start) (map f start) (described k f start sound))
            ∙ (λ i. right_value calls turns (sym h.1.1.0 i) s f)
        folded_right (RightTerm.Call g xs) k m σ q f s h sc sub w near sound says = λ i. right_value calls turns (sym h i) s f
        folded_right (RightTerm.With o g) k m σ q f s h sc sub w near sound says = λ i. right_value calls turns (sym h i) s f
        folded_right (RightTerm.Parted fr t cell o ps) k m σ q f s h sc sub w near sound says = λ i. right_value calls turns (sym h i) s f
