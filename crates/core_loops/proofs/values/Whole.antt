-- In a well-formed function right sides of arrays give arrays.
use Rattle.std.proofs.Common.{◌≡◌, ℕ, zero, suc, ◌-◌, Bool, true, false, List, [], ◌∷◌, ◌++◌, map, Option, Some, None, Ok, refl, sym, ap, subst, All}
use Rattle.std.specs.Prelude.{Contains, slice_get, zip}
use Rattle.std.proofs.lemmas.List.Elements.{All-head, All-tail}
use Rattle.sac_base.specs.declared.base.Base.{Base}
use Rattle.sac_base.specs.declared.base.Base.TheVariants.{Int, Bool as Truth}
use Rattle.sac_base.specs.declared.faults.FaultKind.TheVariants.{F9}
use Rattle.sac_base.specs.declared.grid.Grid1.{Grid1}
use Rattle.sac_base.specs.declared.site.Site.{Site}
use Rattle.sac_base.specs.Arrays.{ArrayValue, IsFull, scalar, vector}
use Rattle.sac_base.specs.Outcomes.{Ends, and_then, fault, choose, first_result}
use Rattle.sac_base.specs.Parts.{condition}
use Rattle.sac_base.specs.WithLoops.{with_value}
use Rattle.core_ir.specs.declared.tree.CoreOp.{CoreOp}
use Rattle.core_ir.specs.declared.tree.CoreOp.TheVariants as making
use Rattle.core_ir.specs.declared.tree.PartedOp.{PartedOp}
use Rattle.core_ir.specs.declared.tree.PartedOp.TheVariants as parted
use Rattle.core_ir.specs.Terms.{PlainTerm, BlockTerm, RightTerm, GensTerm, PartsTerm, FunTerm, CoreTerm, Gives, Bind, Plain, NoGens, Gen, NoParts, Part}
use Rattle.core_ir.specs.Meaning.{Env, Answer, CallMeaning, bind, bind_all, first, one, repeat, loop_value, parted_value, operation, with_index, run, generators, cells}
use Rattle.core_ir.specs.WellFormed.{Bases, PlainBases, BlockBases, RightBases, GensBases, PartsBases, PartedFits, Covered, IsFrame, IsResultFrame, part_grids, ints, IsFunction, IsWellFormed}
use Rattle.core_facts.specs.Facts.{DescribeAll}
use Rattle.core_facts.specs.Full.{AreFull, KeepsFull, FullInside, FullInsideRight, FullInsideGens, FullInsideParts}
use Rattle.core_facts.proofs.Shapes.{ok_same, no_ok}
use Rattle.core_facts.proofs.Sound.{then_ok, chosen_ok, plain_ok}
use Rattle.core_facts.proofs.Settle.{vector_full, scalars_full}
use Rattle.core_facts.specs.calls.Arrays.{AllFull, CallsKeepFull, KeepsArrays}
use Rattle.core_facts.proofs.calls.Full.{full_bound, full_values, block_full}
use Rattle.core_loops.proofs.values.Plain.{ConstFull, plain_full}
use Rattle.core_loops.proofs.values.Loops.{GensFull, OperandsFull, with_loop_full}
use Rattle.core_loops.proofs.values.Parted.{PartsFull, ResultFull, Covers, grids, parted_loop_full}

-- ---- loops

repeat_keeps : (P : List ArrayValue → Type 0) (n : ℕ) (s u : Site) (t : List ArrayValue → Ends ArrayValue) (b : List ArrayValue → Answer) (vs ws : List ArrayValue) → ((xs ys : List ArrayValue) → P xs → b xs ≡ Ok ys → P ys) → P vs → repeat n s u t b vs ≡ Ok ws → P ws
repeat_keeps P zero s u t b vs ws h p q =
    let c = then_ok (t vs) (λ c. choose u (condition c) (fault F9 s) (Ok vs)) ws q in
    chosen_ok u (condition c.0) (fault F9 s) (Ok vs) ws (P ws) (λ m. absurd (no_ok (record { kind = F9; site = s }) ws m)) (λ m. subst P (ok_same vs ws m) p) c.2
repeat_keeps P (suc n) s u t b vs ws h p q =
    let c = then_ok (t vs) (λ c. choose u (condition c) (and_then (b vs) (repeat n s u t b)) (Ok vs)) ws q in
    chosen_ok u (condition c.0) (and_then (b vs) (repeat n s u t b)) (Ok vs) ws (P ws)
    (λ m. let d = then_ok (b vs) (repeat n s u t b) ws m in repeat_keeps P n s u t b d.0 ws h (h vs d.0 p d.1) d.2)
    (λ m. subst P (ok_same vs ws m) p) c.2

loop_keeps : (P : List ArrayValue → Type 0) (fb : Bool) (n : ℕ) (s u : Site) (t : List ArrayValue → Ends ArrayValue) (b : List ArrayValue → Answer) (vs ws : List ArrayValue) → ((xs ys : List ArrayValue) → P xs → b xs ≡ Ok ys → P ys) → P vs → loop_value fb n s u t b vs ≡ Ok ws → P ws
loop_keeps P false n s u t b vs ws h p q = repeat_keeps P n s u t b vs ws h p q
loop_keeps P true n s u t b vs ws h p q =
    let d = then_ok (b vs) (repeat (n - 1) s u t b) ws q in
    repeat_keeps P (n - 1) s u t b d.0 ws h (h vs d.0 p d.1) d.2

-- ---- one value

first_full : (x : Answer) (c : ArrayValue) → ((ws : List ArrayValue) → x ≡ Ok ws → AllFull ws) → first x ≡ Ok c → IsFull c
first_full x c h p =
    let t = then_ok x (λ vs. Ok (first_result vs)) c p in
    subst IsFull (ok_same (first_result t.0) c t.2) (of t.0 (h t.0 t.1))
  where
    of : (ws : List ArrayValue) → AllFull ws → IsFull (first_result ws)
    of [] d = refl
    of (w ∷ ws) d = d.0

one_full : (x : Ends ArrayValue) (vs : List ArrayValue) → ((v : ArrayValue) → x ≡ Ok v → IsFull v) → one x ≡ Ok vs → AllFull vs
one_full x vs h p = let t = then_ok x (λ a. Ok (a ∷ [])) vs p in subst (DescribeAll []) (ok_same (t.0 ∷ []) vs t.2) (h t.0 t.1, tt)

const_full : (g : Bases) (p : PlainTerm) (ts : List Base) → PlainBases g p ts → ConstFull p
const_full g (PlainTerm.Const a) ts h = h.0.full
const_full g (PlainTerm.Copy x) ts h = tt
const_full g (PlainTerm.Unary o x) ts h = tt
const_full g (PlainTerm.Binary o x y) ts h = tt
const_full g (PlainTerm.Literal xs) ts h = tt
const_full g (PlainTerm.Dim x) ts h = tt
const_full g (PlainTerm.ShapeOf x) ts h = tt
const_full g (PlainTerm.Reshape x y) ts h = tt
const_full g (PlainTerm.Select x y) ts h = tt
const_full g (PlainTerm.Replace x y z) ts h = tt
const_full g (PlainTerm.Always k) ts h = tt
const_full g (PlainTerm.Check x t) ts h = tt

operands_full : (op : CoreOp) (s : Site) (e : Env) → AreFull e → OperandsFull (operation op s e)
operands_full (making.Genarray x y) s e h = h y
operands_full (making.Modarray x) s e h = h x
operands_full (making.Fold o x) s e h = h x

module _ (calls : CallMeaning) (turns : ℕ) where
  gens_full : (gens : GensTerm) (e : Env) → FullInsideGens calls turns gens → AreFull e → GensFull (generators calls turns gens e)
  gens_full NoGens e w h = tt
  gens_full (Gen g b rest) e w h =
      ((λ index c p. first_full (run calls turns b (with_index e g index)) c (λ ws m. block_full calls turns b (with_index e g index) ws w.0 (full_bound e (g.index ∷ g.names) (vector Int index ∷ map (scalar Int) index) h (vector_full index, scalars_full index)) m) p), gens_full rest e w.1 h)

  parts_full : (parts : PartsTerm) (e : Env) → FullInsideParts calls turns parts → AreFull e → PartsFull (cells calls turns parts e)
  parts_full NoParts e w h = tt
  parts_full (Part g b rest) e w h =
      ((λ index c p. first_full (run calls turns b (bind e g.index (vector Int index))) c (λ ws m. block_full calls turns b (bind e g.index (vector Int index)) ws w.0 (full_bound e (g.index ∷ []) (vector Int index ∷ []) h (vector_full index, tt)) m) p), parts_full rest e w.1 h)

  same_grids : (parts : PartsTerm) (e : Env) → part_grids parts ≡ grids (cells calls turns parts e)
  same_grids NoParts e = refl
  same_grids (Part g b rest) e = ap (λ gs. g.grid ∷ gs) (same_grids rest e)

  covers : (frame : List Grid1) (parts : PartsTerm) (e : Env) → Covered frame (part_grids parts) → Covers frame (cells calls turns parts e)
  covers frame parts e h = λ v q. let w = h v q in (w.0, (subst (λ gs. Contains gs w.0) (same_grids parts e) w.1.0, w.1.1))

  result_full : (frame : List Grid1) (cell : List ℕ) (op : PartedOp) (parts : PartsTerm) (e : Env) → PartedFits op frame cell (part_grids parts) → AreFull e → ResultFull frame op (cells calls turns parts e) e
  result_full frame cell parted.Genarray parts e h full = (record { low = h.3.low; dense = h.0.dense }, covers frame parts e h.2)
  result_full frame cell (parted.Modarray x) parts e h full = (record { low = h.3.low; dense = h.0.dense }, covers frame parts e h.2)
  result_full frame cell (parted.Fold o x) parts e h full = full x

  module _ (core : CoreTerm) (keep : CallsKeepFull calls) where
    right_keeps : (r : RightTerm) (g : Bases) (ts : List Base) → RightBases core g r ts → FullInsideRight calls turns r → KeepsFull calls turns r
    right_keeps (Plain p) g ts h w s e vs full q =
        let t = plain_ok s p e vs q in subst (DescribeAll []) (sym t.2) (plain_full p e t.0 (const_full g p ts h) full t.1, tt)
    right_keeps (RightTerm.If x a b) g ts h w s e vs full q =
        chosen_ok s (condition (e x)) (run calls turns a e) (run calls turns b e) vs (AllFull vs) (λ m. block_full calls turns a e vs w.0 full m) (λ m. block_full calls turns b e vs w.1 full m) q
    right_keeps (RightTerm.Loop fb start params test body u) g ts h w s e vs full q =
        loop_keeps AllFull fb turns s u (λ xs. first (run calls turns test (bind_all e params xs))) (λ xs. run calls turns body (bind_all e params xs)) (map e start) vs
        (λ xs ys d m. block_full calls turns body (bind_all e params xs) ys w.1 (full_bound e params xs full d) m) (full_values e start full) q
    right_keeps (RightTerm.Call group xs) g ts h w s e vs full q = keep group (map e xs) vs s (full_values e xs full) q
    right_keeps (RightTerm.With op gens) g ts h w s e vs full q =
        one_full (with_value (generators calls turns gens e) (operation op s e)) vs (λ v m. with_loop_full (generators calls turns gens e) (operation op s e) v (gens_full gens e w full) (operands_full op s e full) m) q
    right_keeps (RightTerm.Parted frame base cell op parts) g ts h w s e vs full q =
        one_full (parted_value frame base cell op (cells calls turns parts e) s e) vs
        (λ v m. parted_loop_full frame base cell op (cells calls turns parts e) s e v (parts_full parts e w full) (result_full frame cell op parts e h.2 full) m) q

    mutual
      pub block_inside : (b : BlockTerm) (g : Bases) (ts : List Base) → BlockBases core g b ts → FullInside calls turns b
      block_inside (Gives xs) g ts h = tt
      block_inside (Bind xs s r b) g ts h =
          let w = right_inside r g h.0 h.1.0 in
          (right_keeps r g h.0 h.1.0 w, w, block_inside b (zip xs h.0 ++ g) ts h.1.2)

      right_inside : (r : RightTerm) (g : Bases) (ts : List Base) → RightBases core g r ts → FullInsideRight calls turns r
      right_inside (Plain p) g ts h = tt
      right_inside (RightTerm.If x a b) g ts h = (block_inside a g ts h.1, block_inside b g ts h.2)
      right_inside (RightTerm.Loop fb start params test body u) g ts h = (block_inside test (zip params ts ++ g) (Truth ∷ []) h.2, block_inside body (zip params ts ++ g) ts h.3)
      right_inside (RightTerm.Call group xs) g ts h = tt
      right_inside (RightTerm.With op gens) g ts h = gens_inside gens g h.0 h.1.1
      right_inside (RightTerm.Parted frame base cell op parts) g ts h = parts_inside parts g base h.1

      gens_inside : (gens : GensTerm) (g : Bases) (t : Base) → GensBases core g gens t → FullInsideGens calls turns gens
      gens_inside NoGens g t h = tt
      gens_inside (Gen k b rest) g t h = (block_inside b (ints (k.index ∷ k.names) ++ g) (t ∷ []) h.4, gens_inside rest g t h.5)

      parts_inside : (parts : PartsTerm) (g : Bases) (t : Base) → PartsBases core g parts t → FullInsideParts calls turns parts
      parts_inside NoParts g t h = tt
      parts_inside (Part k b rest) g t h = (block_inside b ((k.index, Int) ∷ g) (t ∷ []) h.0, parts_inside rest g t h.1)

function_at : (core : CoreTerm) (fs : List FunTerm) (place : ℕ) (f : FunTerm) → All (IsFunction core) fs → slice_get fs place ≡ Some f → IsFunction core f
function_at core [] place f h e = absurd (let q : ◌≡◌ {A = Option FunTerm} None (Some f) = e in cc)
function_at core (x ∷ fs) zero f h e = subst (IsFunction core) (some_same x f e) (All-head (IsFunction core) x fs h)
  where
    some_same : (x f : FunTerm) → ◌≡◌ {A = Option FunTerm} (Some x) (Some f) → x ≡ f
    some_same x f p = cc
function_at core (x ∷ fs) (suc place) f h e = function_at core fs place f (All-tail (IsFunction core) x fs h) e

-- the functions of a well-formed core give arrays for arrays
pub keeps_arrays : (core : CoreTerm) → IsWellFormed core → KeepsArrays core
keeps_arrays core h calls turns place f keep e =
    let w = function_at core core.functions place f h.functions e in
    block_inside calls turns core keep f.body (Rattle.core_ir.specs.WellFormed.param_bases f) (Rattle.core_ir.specs.WellFormed.bases f.results) w.agreeing
