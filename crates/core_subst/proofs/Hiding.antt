-- Pairs as a map, and the variables that binders hide.
use Rattle.std.proofs.Common.{◌≡◌, ℕ, Bool, true, false, cond, ◌||◌, eqb, suc, ◌+◌, ◌<◌, ◌≤◌, length, get_or, take, drop, List, [], ◌∷◌, ◌++◌, Option, BTreeMap, refl, ap, sym, ◌∙◌, arith}
use Rattle.std.specs.Prelude.{unwrap_or}
use Rattle.std.proofs.Math.Seq.{drop-cons}
use Rattle.std.proofs.lemmas.Bool.{eqb-true}
use Rattle.std.proofs.lemmas.List.{length-take, take-append-le, take-append-drop, at_drop_all}
use Rattle.core_ir.specs.declared.tree.Var.{Var}
use Rattle.core_ir.specs.Binders.{is_in}
use Rattle.core_ir.specs.Terms.{BlockTerm}
use Rattle.core_ir.proofs.Variables.{in_more}
use Rattle.core_subst.specs.Substitution.{partner, partner_at, image, below, substituted}

-- ---- pairs as a map

-- one pair more is in the map
pub pair_turn : (ps : List (Var × Var)) (i : ℕ) (d : Var × Var) (old new : ℕ → Option Var) (whole : Var → Var) → i < length ps → ((x z : Var) → unwrap_or (new x.0) z ≡ unwrap_or (old x.0) (cond (eqb (get_or ps i d).0.0 x.0) (get_or ps i d).1 z)) → ((x : Var) → unwrap_or (old x.0) (partner (drop i ps) x) ≡ whole x) → (x : Var) → unwrap_or (new x.0) (partner (drop (i + 1) ps) x) ≡ whole x
pair_turn ps i d old new whole h u p x =
    let p0 = get_or ps i d in
    let next : i + 1 ≡ suc i = omega arith in
    u x (partner (drop (i + 1) ps) x)
    ∙ (λ j. unwrap_or (old x.0) (cond (eqb p0.0.0 x.0) p0.1 (partner (drop (next j) ps) x)))
    ∙ (λ j. unwrap_or (old x.0) (partner (sym (drop-cons ps i d h) j) x))
    ∙ p x

-- ---- hidden variables

-- variables with one number are one
same_var : (x y : Var) → x.0 ≡ y.0 → x ≡ y
same_var x y p = λ i. record { 0 = p i }

stays_bit : (e : Bool) (x y : Var) → (e ≡ true → y ≡ x) → y ≡ cond (e || false) x y
stays_bit false x y h = refl
stays_bit true x y h = h refl

-- a variable that stays anyway
pub hidden_anyway : (v : Var) (f : Var → Var) → eqb (f v).0 v.0 ≡ true → f ≡ below (v ∷ []) f
hidden_anyway v f h =
    let fixed : f v ≡ v = same_var (f v) v (eqb-true (f v).0 v.0 h) in
    λ i x. stays_bit (eqb v.0 x.0) x (f x) (λ e. let p = same_var v x (eqb-true v.0 x.0 e) in sym (ap f p) ∙ fixed ∙ p) i

pushed_bit : (e old : Bool) (x y : Var) → cond (old || (e || false)) x y ≡ cond (e || false) x (cond old x y)
pushed_bit true true x y = refl
pushed_bit true false x y = refl
pushed_bit false true x y = refl
pushed_bit false false x y = refl

-- a variable that is pushed
pub hidden_pushed : (v : Var) (f : Var → Var) (old new : List Var) → new ≡ old ++ (v ∷ []) → below new f ≡ below (v ∷ []) (below old f)
hidden_pushed v f old new e = λ i x. (ap (λ b. cond b x (f x)) (ap (is_in x) e ∙ in_more x old (v ∷ [])) ∙ pushed_bit (eqb v.0 x.0) (is_in x old) x (f x)) i

two_bit : (a b : Bool) (x y : Var) → cond b x (cond (a || false) x y) ≡ cond (a || b) x y
two_bit true true x y = refl
two_bit true false x y = refl
two_bit false b x y = refl

-- one binder and others
pub below_two : (v : Var) (xs : List Var) (f : Var → Var) → below xs (below (v ∷ []) f) ≡ below (v ∷ xs) f
below_two v xs f = λ i x. two_bit (eqb v.0 x.0) (is_in x xs) x (f x) i

-- a binder more has been passed
pub below_turn : (xs : List Var) (i : ℕ) (d : Var) (f g whole : Var → Var) → i < length xs → g ≡ below (get_or xs i d ∷ []) f → below (drop i xs) f ≡ whole → below (drop (i + 1) xs) g ≡ whole
below_turn xs i d f g whole h q p =
    let next : i + 1 ≡ suc i = omega arith in
    (λ j. below (drop (next j) xs) (q j))
    ∙ below_two (get_or xs i d) (drop (suc i) xs) f
    ∙ (λ j. below (sym (drop-cons xs i d h) j) f)
    ∙ p

-- all binders have been passed
pub below_done : (xs : List Var) (i : ℕ) (f whole : Var → Var) → length xs ≤ i → below (drop i xs) f ≡ whole → f ≡ whole
below_done xs i f whole over p = sym (at_drop_all (λ l. below l f) xs i over) ∙ p

-- ---- the front of a list

-- what stood at the front stays there
pub front_kept : {A : Type 0} (n : ℕ) (h mid h' front : List A) → take n h ≡ front → n ≡ length front → mid ≡ h → take (length mid) h' ≡ mid → take n h' ≡ front
front_kept n h mid h' front p q m e =
    let kept : take n mid ≡ front = ap (take n) m ∙ p in
    let l : n ≤ length mid = omega (arith, length-take n mid, ap length kept) in
    ap (take n) (sym (take-append-drop (length mid) h') ∙ (λ i. e i ++ drop (length mid) h')) ∙ take-append-le n mid (drop (length mid) h') l ∙ kept

-- ---- what stands for variables

-- below binders, in other names
pub below_same : (m : BTreeMap ℕ Var) (before mid after xs ys : List Var) → mid ≡ before → xs ≡ ys → image m after ≡ below xs (image m mid) → image m after ≡ below ys (image m before)
below_same m before mid after xs ys p q h = h ∙ (λ j. below (q j) (image m (p j)))

-- where nothing is hidden
pub shows_partner : (m : BTreeMap ℕ Var) (hidden : List Var) (ps : List (Var × Var)) → hidden ≡ [] → ((x : Var) → partner_at m x ≡ partner ps x) → (x : Var) → image m hidden x ≡ partner ps x
shows_partner m hidden ps e h x = (λ i. image m (e i) x) ∙ h x

-- replaced by functions that agree
pub substituted_same : (f g : Var → Var) (b c : BlockTerm) → ((x : Var) → f x ≡ g x) → c ≡ substituted f b → c ≡ substituted g b
substituted_same f g b c h p = p ∙ ap (λ (k : Var → Var). substituted k b) (λ i x. h x i)
