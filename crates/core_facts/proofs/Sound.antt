-- What is known of right sides and blocks is so.
use Rattle.std.proofs.Common.{◌≡◌, ℕ, Bool, true, false, cond, eqb, List, [], ◌∷◌, map, Option, Some, None, Result, Ok, Err, refl, sym, subst, ◌∙◌}
use Rattle.std.specs.Prelude.{if◌then◌else◌}
use Rattle.sac_base.specs.declared.base.Base.{Base}
use Rattle.sac_base.specs.declared.grid.Grid1.{Grid1}
use Rattle.sac_base.specs.declared.faults.FaultKind.{FaultKind}
use Rattle.sac_base.specs.declared.faults.FaultKind.TheVariants.{F3, F6}
use Rattle.sac_base.specs.declared.site.Site.{Site}
use Rattle.sac_base.specs.Arrays.{ArrayValue, IsFull}
use Rattle.sac_base.specs.Outcomes.{Ends, and_then, fault, at_site, choose}
use Rattle.sac_base.specs.Parts.{condition}
use Rattle.core_ir.specs.declared.tree.Var.{Var}
use Rattle.core_ir.specs.declared.tree.PartedOp.{PartedOp}
use Rattle.core_ir.specs.declared.tree.PartedOp.TheVariants as parted
use Rattle.core_ir.specs.Terms.{PlainTerm, BlockTerm, RightTerm, Gives, Bind, Plain}
use Rattle.core_ir.specs.Meaning.{Env, Answer, CallMeaning, missing, bind, bind_all, one, plain_value, extents, joined, made_of, cell_form, neutral_fits, parted_value, run, right_value, cells}
use Rattle.core_facts.specs.Facts.{Fact, Facts, unknown, shape_fact, note, note_all, ShapeIs, Describes, DescribeAll, AreSound, one_shape, plain_fact, common_facts, is_shape, parted_shape, known_shape, block_facts, right_facts, CallsFit}
use Rattle.core_facts.specs.Full.{AreFull, KeepsFull, FullInside, FullInsideRight}
use Rattle.core_facts.proofs.Shapes.{ok_same, no_ok, one_left, one_right, shape_sound}
use Rattle.core_facts.proofs.Literals.{value_sound}
use Rattle.core_facts.proofs.Folds.{AllHaveForm, each_ok, cell_form_held, folded_shape, neutral_shape}

-- ---- environments

pub noted_one : (k : Facts) (e : Env) (x : Var) (f : Fact) (v : ArrayValue) → AreSound k e → Describes f v → AreSound (note k x f) (bind e x v)
noted_one k e x f v h d = λ y. go y (eqb x.0 y.0)
  where
    go : (y : Var) (b : Bool) → Describes (cond b f (k y)) (cond b v (e y))
    go y true = d
    go y false = h y

pub just_full : (v : ArrayValue) → IsFull v → Describes unknown v
just_full v f = record { shape = tt; literal = tt; full = f }

missing_full : IsFull missing
missing_full = refl

pub noted : (k : Facts) (e : Env) (xs : List Var) (fs : List Fact) (vs : List ArrayValue) → AreSound k e → DescribeAll fs vs → AreSound (note_all k xs fs) (bind_all e xs vs)
noted k e [] fs vs h d = h
noted k e (x ∷ xs) [] [] h d = noted (note k x unknown) (bind e x missing) xs [] [] (noted_one k e x unknown missing h (just_full missing missing_full)) tt
noted k e (x ∷ xs) [] (v ∷ vs) h d = noted (note k x unknown) (bind e x v) xs [] vs (noted_one k e x unknown v h (just_full v d.0)) d.1
noted k e (x ∷ xs) (f ∷ fs) [] h d = noted (note k x f) (bind e x missing) xs fs [] (noted_one k e x f missing h d.0) d.1
noted k e (x ∷ xs) (f ∷ fs) (v ∷ vs) h d = noted (note k x f) (bind e x v) xs fs vs (noted_one k e x f v h d.0) d.1

pub full_env : (k : Facts) (e : Env) → AreSound k e → AreFull e
full_env k e h = λ x. (h x).full

-- ---- lists of values

pub all_full : (fs : List Fact) (vs : List ArrayValue) → DescribeAll fs vs → DescribeAll [] vs
all_full [] vs d = d
all_full (f ∷ fs) [] d = tt
all_full (f ∷ fs) (v ∷ vs) d = (d.0.full, all_full fs vs d.1)

pub described : (k : Facts) (e : Env) (xs : List Var) → AreSound k e → DescribeAll (map k xs) (map e xs)
described k e [] h = tt
described k e (x ∷ xs) h = (h x, described k e xs h)

common_one : (f g : Fact) (v : ArrayValue) → IsFull v → ShapeIs (one_shape f.shape g.shape) v → Describes (shape_fact (one_shape f.shape g.shape)) v
common_one f g v full s = record { shape = s; literal = tt; full = full }

pub common_left : (fs gs : List Fact) (vs : List ArrayValue) → DescribeAll fs vs → DescribeAll (common_facts fs gs) vs
common_left [] gs vs d = d
common_left (f ∷ fs) [] vs d = all_full (f ∷ fs) vs d
common_left (f ∷ fs) (g ∷ gs) [] d = (common_one f g missing missing_full (one_left f.shape g.shape missing d.0.shape), common_left fs gs [] d.1)
common_left (f ∷ fs) (g ∷ gs) (v ∷ vs) d = (common_one f g v d.0.full (one_left f.shape g.shape v d.0.shape), common_left fs gs vs d.1)

pub common_right : (fs gs : List Fact) (vs : List ArrayValue) → DescribeAll gs vs → DescribeAll (common_facts fs gs) vs
common_right [] gs vs d = all_full gs vs d
common_right (f ∷ fs) [] vs d = d
common_right (f ∷ fs) (g ∷ gs) [] d = (common_one f g missing missing_full (one_right f.shape g.shape missing d.0.shape), common_right fs gs [] d.1)
common_right (f ∷ fs) (g ∷ gs) (v ∷ vs) d = (common_one f g v d.0.full (one_right f.shape g.shape v d.0.shape), common_right fs gs vs d.1)

-- ---- what a right side comes to

pub then_ok : {A B : Type 0} (x : Ends A) (f : A → Ends B) (b : B) → and_then x f ≡ Ok b → (a : A) × (x ≡ Ok a) × (f a ≡ Ok b)
then_ok (Ok a) f b p = (a, refl, p)
then_ok (Err k) f b p = absurd (no_ok k b p)

pub chosen_ok : (s : Site) (c : Option Bool) (a b : Answer) (vs : List ArrayValue) (P : Type 0) → (a ≡ Ok vs → P) → (b ≡ Ok vs → P) → choose s c a b ≡ Ok vs → P
chosen_ok s None a b vs P f g p = absurd (no_ok (record { kind = F3; site = s }) vs p)
chosen_ok s (Some true) a b vs P f g p = f p
chosen_ok s (Some false) a b vs P f g p = g p

site_ok : (s : Site) (r : Result ArrayValue FaultKind) (v : ArrayValue) → at_site s r ≡ Ok v → r ≡ Ok v
site_ok s (Ok a) v p = λ i. Ok (ok_same a v p i)
site_ok s (Err kind) v p = absurd (no_ok (record { kind = kind; site = s }) v p)

pub plain_ok : (s : Site) (p : PlainTerm) (e : Env) (vs : List ArrayValue) → one (at_site s (plain_value p e)) ≡ Ok vs → (v : ArrayValue) × (plain_value p e ≡ Ok v) × (vs ≡ v ∷ [])
plain_ok s p e vs q =
    let w = then_ok (at_site s (plain_value p e)) (λ a. Ok (a ∷ [])) vs q in
    (w.0, site_ok s (plain_value p e) w.0 w.1, sym (ok_same _ vs w.2))

-- a fold that keeps the shape of the neutral value
pub parted_ok : (frame : List Grid1) (base : Base) (cell : List ℕ) (op : PartedOp) (parts : List Rattle.core_ir.specs.Meaning.Cells) (s : Site) (e : Env) (vs : List ArrayValue) → one (parted_value frame base cell op parts s e) ≡ Ok vs
    → (found : List (Option ArrayValue)) × (vs ≡ made_of frame base cell op e found ∷ []) × (neutral_fits (cell_form base cell) op e ≡ true) × AllHaveForm (cell_form base cell) found
parted_ok frame base cell op parts s e vs q =
    let w = then_ok (parted_value frame base cell op parts s e) (λ a. Ok (a ∷ [])) vs q in
    go (neutral_fits (cell_form base cell) op e) refl w.0 w.1 (sym (ok_same _ vs w.2))
  where
    go : (b : Bool) → neutral_fits (cell_form base cell) op e ≡ b → (v : ArrayValue)
        → (if b then and_then (Rattle.sac_base.specs.WithLoops.each (Rattle.core_ir.specs.Meaning.cell_at (cell_form base cell) parts) (Rattle.sac_base.specs.Grids.members frame)) (λ found. Ok (made_of frame base cell op e found)) else fault F6 s) ≡ Ok v
        → vs ≡ v ∷ [] → (found : List (Option ArrayValue)) × (vs ≡ made_of frame base cell op e found ∷ []) × (neutral_fits (cell_form base cell) op e ≡ true) × AllHaveForm (cell_form base cell) found
    go true n v m r =
        let u = then_ok _ (λ found. Ok (made_of frame base cell op e found)) v m in
        (u.0, r ∙ (λ i. sym (ok_same _ v u.2) i ∷ []), n, each_ok (Rattle.core_ir.specs.Meaning.cell_at (cell_form base cell) parts) (cell_form base cell) (Rattle.sac_base.specs.Grids.members frame) u.0 (λ x o. cell_form_held (cell_form base cell) parts x o) u.1)
    go false n v m r = absurd (no_ok (record { kind = F6; site = s }) v m)

-- the shape of what a parted genarray or modarray gives
pub parted_has : (frame : List Grid1) (base : Base) (cell : List ℕ) (op : PartedOp) (e : Env) (found : List (Option ArrayValue)) → neutral_fits (cell_form base cell) op e ≡ true → AllHaveForm (cell_form base cell) found → (made_of frame base cell op e found).shape ≡ parted_shape frame cell op
parted_has frame base cell parted.Genarray e found n h = refl
parted_has frame base cell (parted.Modarray x) e found n h = refl
parted_has frame base cell (parted.Fold o x) e found n h = folded_shape o (cell_form base cell) (e x) found (neutral_shape (e x) (cell_form base cell) n) h

pub known_has : (s : List ℕ) (a : ArrayValue) → a.shape ≡ s → ShapeIs (known_shape s) a
known_has s a h = go (is_shape s)
  where
    go : (fits : Bool) → ShapeIs (if fits then Some s else None) a
    go true = h
    go false = tt

module _ (calls : CallMeaning) (turns : ℕ) (called : ℕ → List (Option (List ℕ))) (fit : CallsFit called calls) where
  mutual
    pub block_sound : (b : BlockTerm) (k : Facts) (e : Env) (vs : List ArrayValue) → FullInside calls turns b → AreSound k e → run calls turns b e ≡ Ok vs → DescribeAll (block_facts called b k) vs
    block_sound (Gives xs) k e vs w h p = subst (DescribeAll (map k xs)) (ok_same (map e xs) vs p) (described k e xs h)
    block_sound (Bind xs s r b) k e vs w h p =
        let t = then_ok (right_value calls turns r s e) (λ ws. run calls turns b (bind_all e xs ws)) vs p in
        block_sound b (note_all k xs (right_facts called r k)) (bind_all e xs t.0) vs w.2 (noted k e xs (right_facts called r k) t.0 h (right_sound r s k e t.0 w.0 w.1 h t.1)) t.2

    pub right_sound : (r : RightTerm) (s : Site) (k : Facts) (e : Env) (vs : List ArrayValue) → KeepsFull calls turns r → FullInsideRight calls turns r → AreSound k e → right_value calls turns r s e ≡ Ok vs → DescribeAll (right_facts called r k) vs
    right_sound (Plain p) s k e vs keep w h q =
        let t = plain_ok s p e vs q in
        let full = subst (DescribeAll []) t.2 (keep s e vs (full_env k e h) q) in
        subst (DescribeAll (plain_fact p k ∷ [])) (sym t.2) (record { shape = shape_sound p k e t.0 h t.1; literal = value_sound p k e t.0 h t.1; full = full.0 }, tt)
    right_sound (RightTerm.If x a b) s k e vs keep w h q =
        chosen_ok s (condition (e x)) (run calls turns a e) (run calls turns b e) vs (DescribeAll (common_facts (block_facts called a k) (block_facts called b k)) vs)
        (λ p. common_left (block_facts called a k) (block_facts called b k) vs (block_sound a k e vs w.0 h p))
        (λ p. common_right (block_facts called a k) (block_facts called b k) vs (block_sound b k e vs w.1 h p)) q
    right_sound (RightTerm.Loop first start params test body u) s k e vs keep w h q = keep s e vs (full_env k e h) q
    right_sound (RightTerm.Call g xs) s k e vs keep w h q = fit g (map e xs) vs s (all_full (map k xs) (map e xs) (described k e xs h)) q
    right_sound (RightTerm.With o gens) s k e vs keep w h q = keep s e vs (full_env k e h) q
    right_sound (RightTerm.Parted frame base cell o parts) s k e vs keep w h q =
        let t = parted_ok frame base cell o (cells calls turns parts e) s e vs q in
        let full = subst (DescribeAll []) t.1 (keep s e vs (full_env k e h) q) in
        subst (DescribeAll (shape_fact (known_shape (parted_shape frame cell o)) ∷ [])) (sym t.1) (record { shape = known_has (parted_shape frame cell o) (made_of frame base cell o e t.0) (parted_has frame base cell o e t.0 t.2 t.3); literal = tt; full = full.0 }, tt)
