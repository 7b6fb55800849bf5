-- In a well-formed function right sides give values of the bases that well-formedness says.
use Rattle.std.proofs.Common.{◌≡◌, ℕ, zero, suc, ◌-◌, Bool, true, false, List, [], ◌∷◌, ◌++◌, map, Option, Ok, refl, sym, ap, subst, ◌∙◌}
use Rattle.std.specs.Prelude.{zip, if◌then◌else◌}
use Rattle.sac_base.specs.declared.base.Base.{Base}
use Rattle.sac_base.specs.declared.faults.FaultKind.TheVariants.{F6, F9}
use Rattle.sac_base.specs.declared.grid.Grid1.{Grid1}
use Rattle.sac_base.specs.declared.site.Site.{Site}
use Rattle.sac_base.specs.Arrays.{ArrayValue}
use Rattle.sac_base.specs.Grids.{members}
use Rattle.sac_base.specs.Outcomes.{Ends, and_then, fault, choose}
use Rattle.sac_base.specs.Parts.{condition}
use Rattle.sac_base.specs.WithLoops.{Generator, Plan, plan, cells_of, finish, with_value, each}
use Rattle.core_ir.specs.declared.tree.CoreOp.{CoreOp}
use Rattle.core_ir.specs.declared.tree.CoreOp.TheVariants as making
use Rattle.core_ir.specs.declared.tree.PartedOp.{PartedOp}
use Rattle.core_ir.specs.declared.tree.PartedOp.TheVariants as parted
use Rattle.core_ir.specs.Binders.{bound_in, bound_in_right}
use Rattle.core_ir.specs.Terms.{BlockTerm, RightTerm, CoreTerm, Gives, Bind, Plain}
use Rattle.core_ir.specs.Meaning.{Env, Answer, Cells, CallMeaning, bind_all, first, one, repeat, loop_value, cell_form, cell_at, neutral_fits, made_of, parted_value, operation, run, right_value, generators, cells}
use Rattle.core_ir.specs.WellFormed.{Bases, OperationBase, PartedBase, BlockBases, RightBases, Distinct}
use Rattle.core_facts.proofs.Shapes.{ok_same, no_ok}
use Rattle.core_facts.proofs.Sound.{then_ok, chosen_ok, plain_ok}
use Rattle.core_facts.specs.bases.Typed.{HaveBases, Typed, CallsTyped}
use Rattle.core_facts.proofs.bases.Bound.{distinct_left, distinct_right, bound_zip, values_typed}
use Rattle.core_facts.proofs.bases.Plain.{plain_typed, one_base, folds_result, folded_base}

-- ---- loops

pub repeat_keeps : (P : List ArrayValue → Type 0) (n : ℕ) (s u : Site) (t : List ArrayValue → Ends ArrayValue) (b : List ArrayValue → Answer) (vs ws : List ArrayValue) → ((xs ys : List ArrayValue) → P xs → b xs ≡ Ok ys → P ys) → P vs → repeat n s u t b vs ≡ Ok ws → P ws
repeat_keeps P zero s u t b vs ws h p q =
    let c = then_ok (t vs) (λ c. choose u (condition c) (fault F9 s) (Ok vs)) ws q in
    chosen_ok u (condition c.0) (fault F9 s) (Ok vs) ws (P ws) (λ m. absurd (no_ok (record { kind = F9; site = s }) ws m)) (λ m. subst P (ok_same vs ws m) p) c.2
repeat_keeps P (suc n) s u t b vs ws h p q =
    let c = then_ok (t vs) (λ c. choose u (condition c) (and_then (b vs) (repeat n s u t b)) (Ok vs)) ws q in
    chosen_ok u (condition c.0) (and_then (b vs) (repeat n s u t b)) (Ok vs) ws (P ws)
    (λ m. let d = then_ok (b vs) (repeat n s u t b) ws m in repeat_keeps P n s u t b d.0 ws h (h vs d.0 p d.1) d.2)
    (λ m. subst P (ok_same vs ws m) p) c.2

pub loop_keeps : (P : List ArrayValue → Type 0) (fb : Bool) (n : ℕ) (s u : Site) (t : List ArrayValue → Ends ArrayValue) (b : List ArrayValue → Answer) (vs ws : List ArrayValue) → ((xs ys : List ArrayValue) → P xs → b xs ≡ Ok ys → P ys) → P vs → loop_value fb n s u t b vs ≡ Ok ws → P ws
loop_keeps P false n s u t b vs ws h p q = repeat_keeps P n s u t b vs ws h p q
loop_keeps P true n s u t b vs ws h p q =
    let d = then_ok (b vs) (repeat (n - 1) s u t b) ws q in
    repeat_keeps P (n - 1) s u t b d.0 ws h (h vs d.0 p d.1) d.2

-- ---- with-loops and parted loops

made_base : (frame : List Grid1) (t : Base) (cell : List ℕ) (op : PartedOp) (g : Bases) (e : Env) (found : List (Option ArrayValue)) → PartedBase g op t → Typed g e → (made_of frame t cell op e found).base ≡ t
made_base frame t cell parted.Genarray g e found b h = refl
made_base frame t cell (parted.Modarray x) g e found b h = refl
made_base frame t cell (parted.Fold o x) g e found b h = folded_base t o (e x) found (folds_result t o b.1) (h x t b.0)

parted_base : (frame : List Grid1) (t : Base) (cell : List ℕ) (op : PartedOp) (parts : List Cells) (s : Site) (g : Bases) (e : Env) (v : ArrayValue) → PartedBase g op t → Typed g e → parted_value frame t cell op parts s e ≡ Ok v → v.base ≡ t
parted_base frame t cell op parts s g e v b h p = go (neutral_fits (cell_form t cell) op e) p
  where
    go : (c : Bool) → (if c then and_then (each (cell_at (cell_form t cell) parts) (members frame)) (λ found. Ok (made_of frame t cell op e found)) else fault F6 s) ≡ Ok v → v.base ≡ t
    go true m =
        let w = then_ok (each (cell_at (cell_form t cell) parts) (members frame)) (λ found. Ok (made_of frame t cell op e found)) v m in
        sym (ap (λ (a : ArrayValue). a.base) (ok_same (made_of frame t cell op e w.0) v w.2)) ∙ made_base frame t cell op g e w.0 b h
    go false m = absurd (no_ok (record { kind = F6; site = s }) v m)

finish_base : (op : CoreOp) (s : Site) (t : Base) (g : Bases) (e : Env) (q : Plan) (found : List (Option ArrayValue)) → OperationBase g op t → Typed g e → (finish (operation op s e) q found).base ≡ t
finish_base (making.Genarray x y) s t g e q found b h = h y t b.1
finish_base (making.Modarray x) s t g e q found b h = h x t b
finish_base (making.Fold o x) s t g e q found b h = folded_base t o (e x) found (folds_result t o b.1) (h x t b.0)

with_base : (gs : List Generator) (op : CoreOp) (s : Site) (t : Base) (g : Bases) (e : Env) (v : ArrayValue) → OperationBase g op t → Typed g e → with_value gs (operation op s e) ≡ Ok v → v.base ≡ t
with_base gs op s t g e v b h p =
    let w = then_ok (plan (map (λ (x : Generator). x.bounds) gs) (operation op s e)) (λ q. and_then (cells_of q.form gs q.ranges q.indices) (λ found. Ok (finish (operation op s e) q found))) v p in
    let u = then_ok (cells_of w.0.form gs w.0.ranges w.0.indices) (λ found. Ok (finish (operation op s e) w.0 found)) v w.2 in
    sym (ap (λ (a : ArrayValue). a.base) (ok_same (finish (operation op s e) w.0 u.0) v u.2)) ∙ finish_base op s t g e w.0 u.0 b h

one_typed : (x : Ends ArrayValue) (t : Base) (ts : List Base) (vs : List ArrayValue) → ts ≡ t ∷ [] → ((v : ArrayValue) → x ≡ Ok v → v.base ≡ t) → one x ≡ Ok vs → HaveBases ts vs
one_typed x t ts vs e h p =
    let w = then_ok x (λ a. Ok (a ∷ [])) vs p in
    subst (HaveBases ts) (ok_same (w.0 ∷ []) vs w.2) (one_base ts t w.0 e (h w.0 w.1))

-- ---- blocks

module _ (core : CoreTerm) (calls : CallMeaning) (turns : ℕ) (typed : CallsTyped core calls) where
  mutual
    pub block_typed : (b : BlockTerm) (g : Bases) (ts : List Base) (e : Env) (vs : List ArrayValue) → BlockBases core g b ts → Distinct (bound_in b) → Typed g e → run calls turns b e ≡ Ok vs → HaveBases ts vs
    block_typed (Gives xs) g ts e vs h d k p = subst (HaveBases ts) (ok_same (map e xs) vs p) (values_typed g e xs ts k h)
    block_typed (Bind xs s r b) g ts e vs h d k p =
        let t = then_ok (right_value calls turns r s e) (λ ws. run calls turns b (bind_all e xs ws)) vs p in
        let rest = distinct_right xs (bound_in_right r ++ bound_in b) d in
        block_typed b (zip xs h.0 ++ g) ts (bind_all e xs t.0) vs h.1.2 (distinct_right (bound_in_right r) (bound_in b) rest)
        (bound_zip g e xs h.0 t.0 k (distinct_left xs (bound_in_right r ++ bound_in b) d) h.1.1 (right_typed r s g h.0 e t.0 h.1.0 (distinct_left (bound_in_right r) (bound_in b) rest) k t.1)) t.2

    pub right_typed : (r : RightTerm) (s : Site) (g : Bases) (ts : List Base) (e : Env) (vs : List ArrayValue) → RightBases core g r ts → Distinct (bound_in_right r) → Typed g e → right_value calls turns r s e ≡ Ok vs → HaveBases ts vs
    right_typed (Plain p) s g ts e vs h d k q =
        let t = plain_ok s p e vs q in subst (HaveBases ts) (sym t.2) (plain_typed p g e t.0 ts h k t.1)
    right_typed (RightTerm.If x a b) s g ts e vs h d k q =
        chosen_ok s (condition (e x)) (run calls turns a e) (run calls turns b e) vs (HaveBases ts vs)
        (λ m. block_typed a g ts e vs h.1 (distinct_left (bound_in a) (bound_in b) d) k m) (λ m. block_typed b g ts e vs h.2 (distinct_right (bound_in a) (bound_in b) d) k m) q
    right_typed (RightTerm.Loop fb start params test body u) s g ts e vs h d k q =
        let rest = distinct_right params (bound_in test ++ bound_in body) d in
        loop_keeps (HaveBases ts) fb turns s u (λ xs. first (run calls turns test (bind_all e params xs))) (λ xs. run calls turns body (bind_all e params xs)) (map e start) vs
        (λ xs ys m n. block_typed body (zip params ts ++ g) ts (bind_all e params xs) ys h.3 (distinct_right (bound_in test) (bound_in body) rest) (bound_zip g e params ts xs k (distinct_left params (bound_in test ++ bound_in body) d) h.1 m) n)
        (values_typed g e start ts k h.0) q
    right_typed (RightTerm.Call group xs) s g ts e vs h d k q = typed group (map e xs) vs s h.0 ts h.1.1 (values_typed g e xs h.0 k h.1.0) q
    right_typed (RightTerm.With op gens) s g ts e vs h d k q =
        one_typed (with_value (generators calls turns gens e) (operation op s e)) h.0 ts vs h.1.2 (λ v m. with_base (generators calls turns gens e) op s h.0 g e v h.1.0 k m) q
    right_typed (RightTerm.Parted frame t cell op parts) s g ts e vs h d k q =
        one_typed (parted_value frame t cell op (cells calls turns parts e) s e) t ts vs h.3 (λ v m. parted_base frame t cell op (cells calls turns parts e) s g e v h.0 k m) q
