-- A merge step of a whole core keeps its outcome on arrays.
use Rattle.std.proofs.Common.{◌≡◌, ℕ, zero, suc, ◌<◌, ◌≤◌, inl, inr, Bool, true, false, ◌||◌, ◌&&◌, cond, List, [], ◌∷◌, ◌++◌, map, length, take, get_or, Option, Some, None, Ok, Err, refl, sym, ap, subst, ◌∙◌, arith, ℤ, All, FitsSigned, w32}
use Rattle.std.specs.Prelude.{if◌then◌else◌, Contains, zip}
use Rattle.std.proofs.lemmas.Slice.Eq.{bytes_eq-Decides}
use Rattle.std.proofs.lemmas.List.Elements.{All-head, All-tail}
use Rattle.sac_base.specs.declared.base.Base.{Base}
use Rattle.sac_base.specs.declared.base.Base.TheVariants.{Int, Bool as Truth}
use Rattle.sac_base.specs.declared.faults.FaultKind.TheVariants.{F6}
use Rattle.sac_base.specs.declared.grid.Grid1.{Grid1}
use Rattle.sac_base.specs.declared.site.Site.{Site}
use Rattle.sac_base.specs.Arrays.{ArrayValue, vector, same_base, same_form, same_shape}
use Rattle.sac_base.specs.Grids.{has_index, has_vector, members}
use Rattle.sac_base.specs.Outcomes.{Ends, and_then, fault}
use Rattle.sac_base.specs.WithLoops.{each}
use Rattle.core_ir.specs.declared.tree.Var.{Var}
use Rattle.core_ir.specs.declared.tree.PartedOp.TheVariants as parted
use Rattle.core_ir.specs.Binders.{bound_in, bound_in_parts}
use Rattle.core_ir.specs.Scopes.{ScopedParts}
use Rattle.core_ir.specs.Renaming.{under}
use Rattle.core_ir.specs.Terms.{BlockTerm, PartsTerm, PartHead, LetTerm, FunTerm, CoreTerm, Gives, Bind, NoParts, Part, Parted, chain}
use Rattle.core_ir.specs.Meaning.{Env, CallMeaning, bind, bind_all, no_variables, first, held, one, cell_at, cell_form, extents, joined, run, cells}
use Rattle.core_ir.specs.Outcome.{param_vars}
use Rattle.core_ir.specs.WellFormed.{Bases, BlockBases, PartsBases, Distinct, Covered, IsFrame, part_grids, param_bases, bases, IsWellFormed}
use Rattle.core_ir.proofs.Renamed.{agree_bind, renamed}
use Rattle.core_ir.proofs.Variables.{or_false}
use Rattle.core_facts.specs.Facts.{Facts, AreSound, CallsFit, in_part}
use Rattle.core_facts.specs.Full.{FullInsideParts}
use Rattle.core_facts.proofs.Settle.{has_length}
use Rattle.core_facts.specs.calls.Arrays.{SameOutcomeOnArrays}
use Rattle.core_facts.specs.constants.Called.{called}
use Rattle.core_facts.specs.bases.Typed.{Typed, CallsTyped}
use Rattle.core_facts.proofs.bases.Bound.{distinct_left, distinct_right, typed_one}
use Rattle.core_loops.proofs.merge.Nested.{merged}
use Rattle.core_loops.specs.Indices.{own_index}
use Rattle.core_loops.specs.Pairs.{Nests, count_parts}
use Rattle.core_loops.specs.Steps.{itself, append_parts, any_has}
use Rattle.core_loops.proofs.index_facts.Indices.{says_own}
use Rattle.core_loops.proofs.index_facts.Members.{and_both}
use Rattle.core_loops.proofs.fold_steps.Folded.{agree_itself}
use Rattle.core_loops.proofs.fold_steps.Parts.{Within}
use Rattle.core_loops.proofs.fold_steps.Places.{At, right_at, changed}
use Rattle.core_loops.proofs.fold_steps.Producer.{entered}
use Rattle.core_loops.proofs.fold_steps.Whole.{body_outcome}
use Rattle.core_loops.specs.merge_steps.Step.{InnerMerged, MergedParts, MergesHere, MergeStep}
use Rattle.core_loops.proofs.merge_steps.Makes.{made_both}
use Rattle.core_loops.proofs.merge_steps.Cells.{Standing, nest_cells}

append_has : (f g : List Grid1) (v w : List ℤ) → length v ≡ length f → has_vector (f ++ g) (v ++ w) ≡ (has_vector f v && has_vector g w)
append_has [] g [] w l = refl
append_has [] g (x ∷ v) w l = absurd (omega (arith, l))
append_has (a ∷ f) g [] w l = absurd (omega (arith, l))
append_has (a ∷ f) g (x ∷ v) w l = go (has_index a x) (append_has f g v w (omega (arith, l)))
  where
    go : (b : Bool) → has_vector (f ++ g) (v ++ w) ≡ (has_vector f v && has_vector g w) → (b && has_vector (f ++ g) (v ++ w)) ≡ ((b && has_vector f v) && has_vector g w)
    go true h = h
    go false h = refl

-- a member of joined grids begins with one of the first
has_front : (f g : List Grid1) (x : List ℤ) → has_vector (f ++ g) x ≡ true → (p : List ℤ) × ((q : List ℤ) × ((x ≡ p ++ q) × (has_vector f p ≡ true)))
has_front [] g x h = ([], (x, (refl, refl)))
has_front (a ∷ f) g [] h = absurd (cc)
has_front (a ∷ f) g (y ∷ x) h =
    let w = and_both (has_index a y) (has_vector (f ++ g) x) h in
    let r = has_front f g x w.1 in
    (y ∷ r.0, (r.1.0, ((λ i. y ∷ r.1.1.0 i), (λ i. w.0 i && has_vector f r.0) ∙ r.1.1.1)))

front_is : (v u : List ℤ) → take (length v) (v ++ u) ≡ v
front_is [] u = refl
front_is (x ∷ v) u = λ i. x ∷ front_is v u i

no_join : (f g : List Grid1) (v u : List ℤ) (n : ℕ) → length v ≡ n → ((x : List ℤ) → has_vector f x ≡ true → length x ≡ n) → has_vector f v ≡ false → has_vector (f ++ g) (v ++ u) ≡ false
no_join f g v u n l only out = go (has_vector (f ++ g) (v ++ u)) refl
  where
    go : (b : Bool) → has_vector (f ++ g) (v ++ u) ≡ b → has_vector (f ++ g) (v ++ u) ≡ false
    go true e =
        let w = has_front f g (v ++ u) e in
        let same : v ≡ w.0 = sym (front_is v u) ∙ (λ i. take ((l ∙ sym (only w.0 w.1.1.1)) i) (w.1.1.0 i)) ∙ front_is w.0 w.1.0 in
        absurd (let z : true ≡ false = sym w.1.1.1 ∙ sym (λ i. has_vector f (same i)) ∙ out in cc)
    go false e = e

-- a covered index is in some part
any_of : (ps : PartsTerm) (i : ℕ) (c : List Grid1) (v : List ℤ) → i < length (part_grids ps) → get_or (part_grids ps) i c ≡ c → has_vector c v ≡ true → any_has ps v ≡ true
any_of NoParts i c v l e h = absurd (omega (arith, l))
any_of (Part g d rest) zero c v l e h = (λ k. has_vector (e k) v || any_has rest v) ∙ (λ k. h k || any_has rest v)
any_of (Part g d rest) (suc i) c v l e h = (λ k. has_vector g.grid v || any_of rest i c v (omega (arith, l)) e h k) ∙ right (has_vector g.grid v)
  where
    right : (b : Bool) → (b || true) ≡ true
    right true = refl
    right false = refl

covered_any : (frame : List Grid1) (ps : PartsTerm) (v : List ℤ) → Covered frame (part_grids ps) → has_vector frame v ≡ true → any_has ps v ≡ true
covered_any frame ps v c h = let w = c v h in any_of ps w.1.0.0 w.0 v w.1.0.1 w.1.0.2 w.1.1

base_same : (t : Base) → same_base t t ≡ true
base_same Int = refl
base_same Truth = refl

-- inner loops have the form of the outer loop's cells
held_all : (t : Base) (cell shape : List ℕ) (s : Site) (x : Ends (List (Option ArrayValue))) → shape ≡ cell → and_then (and_then x (λ found. Ok (joined t shape found))) (held (cell_form t cell) s) ≡ and_then (and_then x (λ found. Ok (joined t shape found))) (λ a. Ok (Some a))
held_all t cell shape s (Err k) e = refl
held_all t cell shape s (Ok found) e =
    (λ i. if base_same t i && same_shape shape cell then Ok (Some (joined t shape found)) else fault F6 s)
    ∙ (λ i. if (bytes_eq-Decides shape cell).1 e i then Ok (Some (joined t shape found)) else fault F6 s)

append_nothing : {A : Type 0} (xs : List A) → xs ++ [] ≡ xs
append_nothing [] = refl
append_nothing (x ∷ xs) = λ i. x ∷ append_nothing xs i

bases_behind : (core : CoreTerm) (ls : List LetTerm) (b : BlockTerm) (g : Bases) (ts : List Base) → BlockBases core g (chain ls b) ts → (q : Bases) × BlockBases core q b ts
bases_behind core [] b g ts h = (g, h)
bases_behind core (l ∷ ls) b g ts h = bases_behind core ls b (zip l.targets h.0 ++ g) ts h.1.2

-- the frame of inner loops
inner_frame : (core : CoreTerm) (called : ℕ → List (Option (List ℕ))) (k : Facts) (frame : List Grid1) (t : Base) (old : PartsTerm) (count : ℕ) (g : Bases) → Nests called k frame t old count → PartsBases core g old t → 0 < count_parts old → IsFrame frame
inner_frame core called k frame t NoParts count g w h p = absurd (omega (arith, p))
inner_frame core called k frame t (Part h b rest) count g w bs p =
    let nest = w.1.1.0 in
    let d = bases_behind core nest.before (Bind (nest.z ∷ []) nest.site (Parted frame t [] parted.Genarray w.0) (chain nest.after (Gives (nest.z ∷ [])))) ((h.index, Int) ∷ g) (t ∷ []) (subst (λ x. BlockBases core ((h.index, Int) ∷ g) x (t ∷ [])) nest.whole bs.0) in
    d.1.1.0.2.0

module _ (core : CoreTerm) (calls : CallMeaning) (turns : ℕ) (typed : CallsTyped core calls) (called : ℕ → List (Option (List ℕ))) (fit : CallsFit called calls) (k : Facts) (frame : List Grid1) (t : Base) (e : Env) where
  -- pieces of another outer part are passed over
  passed_over : (h : PartHead) (before after : List LetTerm) (inner pieces others : PartsTerm) (v u : List ℤ) (n : ℕ) → InnerMerged h before after inner pieces → length v ≡ n → ((x : List ℤ) → has_vector h.grid x ≡ true → length x ≡ n) → has_vector h.grid v ≡ false → cell_at (cell_form t []) (cells calls turns (append_parts pieces others) e) (v ++ u) ≡ cell_at (cell_form t []) (cells calls turns others e) (v ++ u)
  passed_over h before after NoParts pieces others v u n m l only q = λ i. cell_at (cell_form t []) (cells calls turns (append_parts (m i) others) e) (v ++ u)
  passed_over h before after (Part g c rest) NoParts others v u n m l only q = absurd m
  passed_over h before after (Part g c rest) (Part j d pieces) others v u n m l only q =
      let no : has_vector j.grid (v ++ u) ≡ false = (λ i. has_vector (m.0 i) (v ++ u)) ∙ no_join h.grid g.grid v u n l only q in
      (λ i. if no i then and_then (first (run calls turns d (bind e j.index (vector Int (v ++ u))))) (held (cell_form t []) j.site) else cell_at (cell_form t []) (cells calls turns (append_parts pieces others) e) (v ++ u))
      ∙ passed_over h before after rest pieces others v u n m.3 l only q

  module _ (h : PartHead) (before after : List LetTerm) (whole : PartsTerm) (f : Env) (v : List ℤ) (long : length v ≡ length h.grid) (inside : has_vector h.grid v ≡ true) (short : length h.grid ≤ 8)
      (same : (j : PartHead) (c : BlockTerm) → Standing whole j c → (w : List ℤ) → first (run calls turns (chain (before ++ after) c) (bind (bind e h.index (vector Int v)) j.index (vector Int w))) ≡ first (run calls turns c (bind f j.index (vector Int w)))) where
    pieces_cell : (inner pieces others : PartsTerm) (u : List ℤ) → InnerMerged h before after inner pieces → ((j : PartHead) (c : BlockTerm) → Standing inner j c → Standing whole j c) → any_has inner u ≡ true → length u ≤ 8
        → cell_at (cell_form t []) (cells calls turns (append_parts pieces others) e) (v ++ u) ≡ cell_at (cell_form t []) (cells calls turns inner f) u
    pieces_cell NoParts pieces others u m embed has few = absurd (let z = has in cc)
    pieces_cell (Part g c rest) NoParts others u m embed has few = absurd m
    pieces_cell (Part g c rest) (Part j d pieces) others u m embed has few =
        let there : has_vector j.grid (v ++ u) ≡ has_vector g.grid u = (λ i. has_vector (m.0 i) (v ++ u)) ∙ append_has h.grid g.grid v u long ∙ (λ i. inside i && has_vector g.grid u) in
        (λ i. if there i then and_then (first (run calls turns d (bind e j.index (vector Int (v ++ u))))) (held (cell_form t []) (m.1 i)) else cell_at (cell_form t []) (cells calls turns (append_parts pieces others) e) (v ++ u))
        ∙ go (has_vector g.grid u) refl has (λ q.
        let x = m.2 in
        let lu = has_length g.grid u q in
        ap first (
        (λ i. run calls turns (x.whole i) (bind e j.index (vector Int (v ++ u))))
        ∙ made_both calls turns j.index x.outer x.inner (length h.grid) (length g.grid) x.makes x.body e v u x.made x.avoids long lu short (omega (arith, lu, few))
        ∙ sym (renamed calls turns (under (under itself h.index x.outer) g.index x.inner) (bind (bind e h.index (vector Int v)) g.index (vector Int u)) (bind (bind e x.outer (vector Int v)) x.inner (vector Int u)) (chain (before ++ after) c) x.body
        (agree_bind (under itself h.index x.outer) (bind e h.index (vector Int v)) (bind e x.outer (vector Int v)) g.index x.inner (vector Int u) (agree_bind itself e e h.index x.outer (vector Int v) (agree_itself e))) x.renamed))
        ∙ same g c (embed g c (inl (refl, refl))) u)
        (λ q. pieces_cell rest pieces others u m.3 (λ i b s. embed i b (inr s)) q few)
      where
        go : (b : Bool) → has_vector g.grid u ≡ b → (b || any_has rest u) ≡ true → (has_vector g.grid u ≡ true → first (run calls turns d (bind e j.index (vector Int (v ++ u)))) ≡ first (run calls turns c (bind f g.index (vector Int u))))
            → (any_has rest u ≡ true → cell_at (cell_form t []) (cells calls turns (append_parts pieces others) e) (v ++ u) ≡ cell_at (cell_form t []) (cells calls turns rest f) u)
            → (if b then and_then (first (run calls turns d (bind e j.index (vector Int (v ++ u))))) (held (cell_form t []) g.site) else cell_at (cell_form t []) (cells calls turns (append_parts pieces others) e) (v ++ u))
            ≡ (if b then and_then (first (run calls turns c (bind f g.index (vector Int u)))) (held (cell_form t []) g.site) else cell_at (cell_form t []) (cells calls turns rest f) u)
        go true q n here there = λ i. and_then (here q i) (held (cell_form t []) g.site)
        go false q n here there = there n

  merged_cell : (outer : List Grid1) (cell : List ℕ) (scope : List Var) (g : Bases) (old : PartsTerm) (count : ℕ) (w : Nests called k frame t old count) (new : PartsTerm) (v : List ℤ) → MergedParts called k frame t old count w new → All (Within outer) (part_grids old) → PartsBases core g old t → Distinct (bound_in_parts old) → ScopedParts scope old → FullInsideParts calls turns old → Typed g e → AreSound k e
      → extents frame ≡ cell → length v ≡ length outer → length outer ≤ 8 → length frame ≤ 8 → All (FitsSigned w32) v → any_has old v ≡ true
      → (inner : List _) × (cell_at (cell_form t cell) (cells calls turns old e) v ≡ and_then (and_then (each (cell_at (cell_form t []) inner) (members frame)) (λ found. Ok (joined t (extents frame ++ []) found))) (λ a. Ok (Some a))) × ((u : List ℤ) → has_vector frame u ≡ true → cell_at (cell_form t []) (cells calls turns new e) (v ++ u) ≡ cell_at (cell_form t []) inner u)
  merged_cell outer cell scope g NoParts count w new v m ins bs once sc full ty s ext lv sn sf words has = absurd (let z = has in cc)
  merged_cell outer cell scope g (Part h b rest) count w new v m ins bs once sc full ty s ext lv sn sf words has =
      let pieces = m.0 in
      let others = m.1.0 in
      let y = m.1.1 in
      let nest = w.1.1.0 in
      go (has_vector h.grid v) refl has
      (λ q.
      let N = nest_cells core calls turns typed called fit h.grid v q (has_length h.grid v q) (in_part k h) (own_index (length h.grid) h.index) frame t b w.0 nest y.1 (h.index ∷ scope) ((h.index, Int) ∷ g) (bind e h.index (vector Int v))
      (record {
        bases = bs.0;
        once = distinct_left (bound_in b) (bound_in_parts rest) once.1;
        scoped = sc.1;
        full = full.0;
        typed = typed_one g e h.index Int (vector Int v) ty refl;
        sound = entered k e h v s q;
      }) (says_own (length h.grid) h.index e v (has_length h.grid v q) words) in (
        cells calls turns w.0 N.0,
        (λ i. and_then (N.1 i) (held (cell_form t cell) h.site)) ∙ held_all t cell (extents frame ++ []) h.site (each (cell_at (cell_form t []) (cells calls turns w.0 N.0)) (members frame)) (append_nothing (extents frame) ∙ ext),
        (λ u inn.
            let lu = has_length frame u inn in
            (λ i. cell_at (cell_form t []) (cells calls turns (y.0 i) e) (v ++ u)) ∙ pieces_cell h nest.before nest.after w.0 N.0 v (has_length h.grid v q) q (omega (arith, sn, lv, has_length h.grid v q)) N.2 w.0 pieces others u y.2 (λ i c st. st) (covered_any frame w.0 u N.3 inn) (omega (arith, lu, sf))),
      ))
      (λ q r.
      let z = merged_cell outer cell scope g rest w.1.0 w.1.1.1 others v y.3 (All-tail (Within outer) h.grid (part_grids rest) ins) bs.1 (distinct_right (bound_in b) (bound_in_parts rest) once.1) sc.2 full.1 ty s ext lv sn sf words r in
      (z.0, z.1, λ u inn. (λ i. cell_at (cell_form t []) (cells calls turns (y.0 i) e) (v ++ u)) ∙ passed_over h nest.before nest.after w.0 pieces others v u (length outer) y.2 lv (λ x p. has_length outer x (All-head (Within outer) h.grid (part_grids rest) ins x p)) q ∙ z.2 u inn))
    where
      Cell : Ends (Option ArrayValue) → Type 0
      Cell x = (inner : List _) × (x ≡ and_then (and_then (each (cell_at (cell_form t []) inner) (members frame)) (λ found. Ok (joined t (extents frame ++ []) found))) (λ a. Ok (Some a))) × ((u : List ℤ) → has_vector frame u ≡ true → cell_at (cell_form t []) (cells calls turns new e) (v ++ u) ≡ cell_at (cell_form t []) inner u)

      go : (c : Bool) → has_vector h.grid v ≡ c → (c || any_has rest v) ≡ true → (has_vector h.grid v ≡ true → Cell (and_then (first (run calls turns b (bind e h.index (vector Int v)))) (held (cell_form t cell) h.site)))
          → (has_vector h.grid v ≡ false → any_has rest v ≡ true → Cell (cell_at (cell_form t cell) (cells calls turns rest e) v))
          → Cell (if c then and_then (first (run calls turns b (bind e h.index (vector Int v)))) (held (cell_form t cell) h.site) else cell_at (cell_form t cell) (cells calls turns rest e) v)
      go true q n here there = here q
      go false q n here there = there q n

module _ (core : CoreTerm) (calls : CallMeaning) (turns : ℕ) (typed : CallsTyped core calls) (called : ℕ → List (Option (List ℕ))) (fit : CallsFit called calls) where
  merge_here : (above : ℕ) (k : Facts) (b c : BlockTerm) → MergesHere called above k b c → (scope : List Var) (g : Bases) (ts : List Base) (e : Env) → At core calls turns scope g ts k b e → run calls turns b e ≡ run calls turns c e
  merge_here above k b c h scope g ts e given =
      let R = Parted h.frame h.base h.cell parted.Genarray h.old in
      let a : At core calls turns scope g ts k (Bind (h.target ∷ []) h.site R h.rest) e = subst (λ x. At core calls turns scope g ts k x e) h.before given in
      let r = right_at core calls turns typed called fit (h.target ∷ []) h.site R h.rest scope g ts k e a in
      let frame = h.scalarisable.frame in
      let outer : IsFrame h.frame = r.bases.2.0 in
      let inner : IsFrame frame = inner_frame core called k frame h.base h.old h.scalarisable.count g h.scalarisable.nests r.bases.1 h.scalarisable.some in
      let same = merged h.frame frame h.base h.cell (cells calls turns h.new e) (cells calls turns h.old e) h.site e outer.dense inner.dense h.scalarisable.shape
      (λ v q. merged_cell core calls turns typed called fit k frame h.base e h.frame h.cell scope g h.old h.scalarisable.count h.scalarisable.nests h.new v h.parts r.bases.2.1.inside r.bases.1 r.once r.scoped.1 r.full r.typed r.sound h.scalarisable.shape (has_length h.frame v q) outer.rank inner.rank (outer.words v q) (covered_any h.frame h.old v r.bases.2.2 q)) in
      (λ i. run calls turns (h.before i) e) ∙ sym (λ i. and_then (one (same i)) (λ vs. run calls turns h.rest (bind_all e (h.target ∷ []) vs))) ∙ (λ i. run calls turns (sym h.after i) e)

pub merge_outcome : (above : FunTerm → ℕ) (a b : CoreTerm) → MergeStep above a b → IsWellFormed a → IsWellFormed b → SameOutcomeOnArrays a b
merge_outcome above a b step well other =
    let f = step.function in
    body_outcome a step.place f step.body step.found well
    (λ turns C args typed fit full once scoped agreeing env sound.
    changed a C turns typed (called a) fit (MergesHere (called a) (above f)) (λ k b c r scope gs ts e' q. merge_here a C turns typed (called a) fit (above f) k b c r scope gs ts e' q) step.edited (param_vars f) (param_bases f) (bases f.results) (bind_all no_variables (param_vars f) args)
    (record { bases = agreeing; once = distinct_right (param_vars f) (bound_in f.body) once; scoped = scoped; full = full; typed = env; sound = sound }))
    b step.changed other
