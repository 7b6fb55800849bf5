-- The block in which literal variables are bound by constants means the same.
use Rattle.std.proofs.Common.{◌≡◌, ℕ, zero, suc, ◌-◌, Bool, true, false, ◌&&◌, List, [], ◌∷◌, map, length, Option, Some, None, Ok, refl, sym, ap, subst, ◌∙◌, arith, ℤ}
use Rattle.std.specs.Prelude.{if◌then◌else◌}
use Rattle.sac_base.specs.declared.base.Base.TheVariants.{Int}
use Rattle.sac_base.specs.declared.faults.FaultKind.TheVariants.{F6, F9}
use Rattle.sac_base.specs.declared.grid.Grid1.{Grid1}
use Rattle.sac_base.specs.declared.site.Site.{Site}
use Rattle.sac_base.specs.Arrays.{ArrayValue, IsFull, scalar, vector}
use Rattle.sac_base.specs.Grids.{has_index, has_vector, members}
use Rattle.sac_base.specs.Outcomes.{Ends, and_then, fault, at_site, choose}
use Rattle.sac_base.specs.Parts.{condition}
use Rattle.sac_base.specs.WithLoops.{with_value, each}
use Rattle.core_ir.specs.Terms.{PlainTerm, BlockTerm, RightTerm, GensTerm, PartsTerm, Gives, Bind, Plain, NoGens, Gen, NoParts, Part}
use Rattle.core_ir.specs.Meaning.{Env, Answer, CallMeaning, bind, bind_all, first, one, repeat, loop_value, plain_value, made_of, neutral_fits, cell_form, generator, operation, with_index, run, right_value, generators, cells}
use Rattle.core_ir.proofs.Edited.{then_same, SameCells, same_cell_at}
use Rattle.core_facts.specs.Facts.{Facts, shape_fact, note_all, DescribeAll, AreSound, plain_fact, plain_literal, is_constant, common_facts, parted_shape, known_shape, block_facts, right_facts, in_part, CallsFit}
use Rattle.core_facts.specs.Full.{KeepsFull, FullInside, FullInsideRight, FullInsideGens, FullInsideParts}
use Rattle.core_facts.specs.Settled.{constant_or, settled, settled_right, settled_gens, settled_parts, IsSettled, IsSettledRight, IsSettledGens, IsSettledParts}
use Rattle.core_facts.proofs.Shapes.{ok_same, shape_sound}
use Rattle.core_facts.proofs.Literals.{literal_sound, value_sound, no_value}
use Rattle.core_facts.proofs.Sound.{noted_one, noted, full_env, all_full, described, common_left, common_right, then_ok, chosen_ok, plain_ok, parted_ok, parted_has, known_has, block_sound}

-- ---- loops whose parts mean the same where what is carried has a property

repeat_same : (P : List ArrayValue → Type 0) (n : ℕ) (s u : Site) (t t' : List ArrayValue → Ends ArrayValue) (b b' : List ArrayValue → Answer)
    → ((vs : List ArrayValue) → P vs → t vs ≡ t' vs) → ((vs : List ArrayValue) → P vs → b vs ≡ b' vs) → ((vs ws : List ArrayValue) → P vs → b vs ≡ Ok ws → P ws)
    → (vs : List ArrayValue) → P vs → repeat n s u t b vs ≡ repeat n s u t' b' vs
repeat_same P zero s u t t' b b' f g h vs p = λ i. and_then (f vs p i) (λ c. choose u (condition c) (fault F9 s) (Ok vs))
repeat_same P (suc n) s u t t' b b' f g h vs p =
    (λ i. and_then (f vs p i) (λ c. choose u (condition c) (and_then (b vs) (repeat n s u t b)) (Ok vs)))
    ∙ (λ i. and_then (t' vs) (λ c. choose u (condition c) ((then_same (b vs) (repeat n s u t b) (repeat n s u t' b') (λ ws q. repeat_same P n s u t t' b b' f g h ws (h vs ws p q)) ∙ (λ j. and_then (g vs p j) (repeat n s u t' b'))) i) (Ok vs)))

pub loop_same : (P : List ArrayValue → Type 0) (first_body : Bool) (n : ℕ) (s u : Site) (t t' : List ArrayValue → Ends ArrayValue) (b b' : List ArrayValue → Answer)
    → ((vs : List ArrayValue) → P vs → t vs ≡ t' vs) → ((vs : List ArrayValue) → P vs → b vs ≡ b' vs) → ((vs ws : List ArrayValue) → P vs → b vs ≡ Ok ws → P ws)
    → (vs : List ArrayValue) → P vs → loop_value first_body n s u t b vs ≡ loop_value first_body n s u t' b' vs
loop_same P false n s u t t' b b' f g h vs p = repeat_same P n s u t t' b b' f g h vs p
loop_same P true n s u t t' b b' f g h vs p =
    then_same (b vs) (repeat (n - 1) s u t b) (repeat (n - 1) s u t' b') (λ ws q. repeat_same P (n - 1) s u t t' b b' f g h ws (h vs ws p q))
    ∙ (λ j. and_then (g vs p j) (repeat (n - 1) s u t' b'))

pub has_length : (g : List Grid1) (v : List ℤ) → has_vector g v ≡ true → length v ≡ length g
has_length [] [] p = refl
has_length [] (x ∷ v) p = absurd (cc)
has_length (a ∷ g) [] p = absurd (cc)
has_length (a ∷ g) (x ∷ v) p = ap suc (has_length g v (right (has_index a x) (has_vector g v) p))
  where
    right : (b c : Bool) → (b && c) ≡ true → c ≡ true
    right true c h = h
    right false c h = absurd (cc)

pub vector_full : (v : List ℤ) → IsFull (vector Int v)
vector_full v = omega arith

pub scalars_full : (v : List ℤ) → DescribeAll [] (map (scalar Int) v)
scalars_full [] = tt
scalars_full (x ∷ v) = (refl, scalars_full v)

same_fact : (o : Option ArrayValue) (p : PlainTerm) (e : Env) → ((v : ArrayValue) → o ≡ Some v → plain_value p e ≡ Ok v) → plain_value (constant_or o p) e ≡ plain_value p e
same_fact None p e h = refl
same_fact (Some v) p e h = sym (h v refl)

module _ (calls : CallMeaning) (turns : ℕ) (called : ℕ → List (Option (List ℕ))) (fit : CallsFit called calls) where
  mutual
    pub same : (b : BlockTerm) (k : Facts) (e : Env) → FullInside calls turns b → AreSound k e → run calls turns (settled called b k) e ≡ run calls turns b e
    same (Gives xs) k e w h = refl
    same (Bind xs s r b) k e w h =
        let n = note_all k xs (right_facts called (settled_right called r k) k) in
        (λ i. and_then (same_right r s k e w.0 w.1 h i) (λ vs. run calls turns (settled called b n) (bind_all e xs vs)))
        ∙ then_same (right_value calls turns r s e) (λ vs. run calls turns (settled called b n) (bind_all e xs vs)) (λ vs. run calls turns b (bind_all e xs vs))
        (λ vs p. same b n (bind_all e xs vs) w.2 (noted k e xs (right_facts called (settled_right called r k) k) vs h (settled_sound r s k e vs w.0 w.1 h p)))

    pub same_right : (r : RightTerm) (s : Site) (k : Facts) (e : Env) → KeepsFull calls turns r → FullInsideRight calls turns r → AreSound k e → right_value calls turns (settled_right called r k) s e ≡ right_value calls turns r s e
    same_right (Plain p) s k e keep w h = λ i. one (at_site s (same_fact (plain_literal p k) p e (λ v q. literal_sound p k e v h q) i))
    same_right (RightTerm.If x a b) s k e keep w h = λ i. choose s (condition (e x)) (same a k e w.0 h i) (same b k e w.1 h i)
    same_right (RightTerm.Loop fb start params test body u) s k e keep w h =
        let n = note_all k params [] in
        let sound : (vs : List ArrayValue) → DescribeAll [] vs → AreSound n (bind_all e params vs) = λ vs d. noted k e params [] vs h d in
        sym (loop_same (DescribeAll []) fb turns s u (λ vs. first (run calls turns test (bind_all e params vs))) (λ vs. first (run calls turns (settled called test n) (bind_all e params vs)))
        (λ vs. run calls turns body (bind_all e params vs)) (λ vs. run calls turns (settled called body n) (bind_all e params vs))
        (λ vs d. ap first (sym (same test n (bind_all e params vs) w.0 (sound vs d))))
        (λ vs d. sym (same body n (bind_all e params vs) w.1 (sound vs d)))
        (λ vs ws d q. all_full (block_facts called body n) ws (block_sound calls turns called fit body n (bind_all e params vs) ws w.1 (sound vs d) q))
        (map e start) (all_full (map k start) (map e start) (described k e start h)))
    same_right (RightTerm.Call g xs) s k e keep w h = refl
    same_right (RightTerm.With op gens) s k e keep w h = λ i. one (with_value (same_gens gens k e w h i) (operation op s e))
    same_right (RightTerm.Parted f t shape op parts) s k e keep w h =
        λ i. one (if neutral_fits (cell_form t shape) op e then and_then (each (λ index. same_cell_at (cell_form t shape) _ _ index (same_parts parts k e w h) i) (members f)) (λ found. Ok (made_of f t shape op e found)) else fault F6 s)

    pub same_gens : (g : GensTerm) (k : Facts) (e : Env) → FullInsideGens calls turns g → AreSound k e → generators calls turns (settled_gens called g k) e ≡ generators calls turns g e
    same_gens NoGens k e w h = refl
    same_gens (Gen g b rest) k e w h =
        λ i. generator g (λ index. first (same b (note_all k (g.index ∷ g.names) []) (with_index e g index) w.0 (noted k e (g.index ∷ g.names) [] (vector Int index ∷ map (scalar Int) index) h (vector_full index, scalars_full index)) i)) e ∷ same_gens rest k e w.1 h i

    pub same_parts : (g : PartsTerm) (k : Facts) (e : Env) → FullInsideParts calls turns g → AreSound k e → SameCells (cells calls turns (settled_parts called g k) e) (cells calls turns g e)
    same_parts NoParts k e w h = tt
    same_parts (Part g b rest) k e w h = (
      refl,
      refl,
      (λ index q. ap first (same b (in_part k g) (bind e g.index (vector Int index)) w.0
          (noted_one k e g.index (shape_fact (Some (length g.grid ∷ []))) (vector Int index) h (record { shape = λ i. has_length g.grid index q i ∷ []; literal = tt; full = vector_full index })))),
      same_parts rest k e w.1 h,
    )

    -- what is known of the new right side is so of the old one
    pub settled_sound : (r : RightTerm) (s : Site) (k : Facts) (e : Env) (vs : List ArrayValue) → KeepsFull calls turns r → FullInsideRight calls turns r → AreSound k e → right_value calls turns r s e ≡ Ok vs → DescribeAll (right_facts called (settled_right called r k) k) vs
    settled_sound (Plain p) s k e vs keep w h q =
        let t = plain_ok s p e vs q in
        let full = subst (DescribeAll []) t.2 (keep s e vs (full_env k e h) q) in
        let c = constant_or (plain_literal p k) p in
        let v : plain_value c e ≡ Ok t.0 = same_fact (plain_literal p k) p e (λ u m. literal_sound p k e u h m) ∙ t.1 in
        subst (DescribeAll (plain_fact c k ∷ [])) (sym t.2) (record { shape = shape_sound c k e t.0 h v; literal = value_sound c k e t.0 h v; full = full.0 }, tt)
    settled_sound (RightTerm.If x a b) s k e vs keep w h q =
        let fs = block_facts called (settled called a k) k in
        let gs = block_facts called (settled called b k) k in
        chosen_ok s (condition (e x)) (run calls turns a e) (run calls turns b e) vs (DescribeAll (common_facts fs gs) vs)
        (λ p. common_left fs gs vs (settled_block a k e vs w.0 h p)) (λ p. common_right fs gs vs (settled_block b k e vs w.1 h p)) q
    settled_sound (RightTerm.Loop first start params test body u) s k e vs keep w h q = keep s e vs (full_env k e h) q
    settled_sound (RightTerm.Call g xs) s k e vs keep w h q = fit g (map e xs) vs s (all_full (map k xs) (map e xs) (described k e xs h)) q
    settled_sound (RightTerm.With o gens) s k e vs keep w h q = keep s e vs (full_env k e h) q
    settled_sound (RightTerm.Parted frame base cell o parts) s k e vs keep w h q =
        let t = parted_ok frame base cell o (cells calls turns parts e) s e vs q in
        let full = subst (DescribeAll []) t.1 (keep s e vs (full_env k e h) q) in
        subst (DescribeAll (shape_fact (known_shape (parted_shape frame cell o)) ∷ [])) (sym t.1) (record { shape = known_has (parted_shape frame cell o) (made_of frame base cell o e t.0) (parted_has frame base cell o e t.0 t.2 t.3); literal = tt; full = full.0 }, tt)

    pub settled_block : (b : BlockTerm) (k : Facts) (e : Env) (vs : List ArrayValue) → FullInside calls turns b → AreSound k e → run calls turns b e ≡ Ok vs → DescribeAll (block_facts called (settled called b k) k) vs
    settled_block (Gives xs) k e vs w h p = subst (DescribeAll (map k xs)) (ok_same (map e xs) vs p) (described k e xs h)
    settled_block (Bind xs s r b) k e vs w h p =
        let t = then_ok (right_value calls turns r s e) (λ ws. run calls turns b (bind_all e xs ws)) vs p in
        settled_block b (note_all k xs (right_facts called (settled_right called r k) k)) (bind_all e xs t.0) vs w.2 (noted k e xs (right_facts called (settled_right called r k) k) t.0 h (settled_sound r s k e t.0 w.0 w.1 h t.1)) t.2

settled_plain : (o : Option ArrayValue) (p : PlainTerm) (k : Facts) → plain_literal p k ≡ o → (v : ArrayValue) → plain_literal (constant_or o p) k ≡ Some v → is_constant (constant_or o p) ≡ true
settled_plain None p k e v q = absurd (no_value v (sym e ∙ q))
settled_plain (Some u) p k e v q = refl

module _ (called : ℕ → List (Option (List ℕ))) where
  mutual
    pub is_settled : (b : BlockTerm) (k : Facts) → IsSettled called (settled called b k) k
    is_settled (Gives xs) k = tt
    is_settled (Bind xs s r b) k = (is_settled_right r k, is_settled b (note_all k xs (right_facts called (settled_right called r k) k)))

    is_settled_right : (r : RightTerm) (k : Facts) → IsSettledRight called (settled_right called r k) k
    is_settled_right (Plain p) k = settled_plain (plain_literal p k) p k refl
    is_settled_right (RightTerm.If x a b) k = (is_settled a k, is_settled b k)
    is_settled_right (RightTerm.Loop first start params test body s) k = (is_settled test (note_all k params []), is_settled body (note_all k params []))
    is_settled_right (RightTerm.Call g xs) k = tt
    is_settled_right (RightTerm.With o gens) k = is_settled_gens gens k
    is_settled_right (RightTerm.Parted frame base cell o parts) k = is_settled_parts parts k

    is_settled_gens : (g : GensTerm) (k : Facts) → IsSettledGens called (settled_gens called g k) k
    is_settled_gens NoGens k = tt
    is_settled_gens (Gen h b rest) k = (is_settled b (note_all k (h.index ∷ h.names) []), is_settled_gens rest k)

    is_settled_parts : (g : PartsTerm) (k : Facts) → IsSettledParts called (settled_parts called g k) k
    is_settled_parts NoParts k = tt
    is_settled_parts (Part h b rest) k = (is_settled b (in_part k h), is_settled_parts rest k)
