-- The scope where one buffer has another array.
use Rattle.std.proofs.Common.{◌≡◌, ℕ, ◌<◌, ℤ, pos, Bool, true, false, not, ◌||◌, cond, eqb, nat_eq, List, [], ◌∷◌, length, fold, Option, Some, None, get_or-set_same, get_or-set_other, length-set, refl, sym, ap, subst, ◌∙◌}
use Rattle.std.specs.Prelude.{slice_set}
use Rattle.std.specs.List.{list_all}
use Rattle.std.proofs.lemmas.Bool.{eqb-true, eq-eqb}
use Rattle.sac_base.specs.declared.base.Base.{Base}
use Rattle.sac_base.specs.declared.base.Base.TheVariants.{Int}
use Rattle.sac_base.specs.Arrays.{ArrayValue, scalar, vector}
use Rattle.sac_base.specs.Parts.{select}
use Rattle.core_ir.specs.declared.tree.Var.{Var}
use Rattle.core_ir.specs.Meaning.{Env}
use Rattle.core_ir.proofs.Variables.{same_number}
use Rattle.kernel_tree.specs.declared.tree.Held.{Held}
use Rattle.kernel_tree.specs.declared.tree.Held.TheVariants.{Word, Number, Short, Numbers, Whole}
use Rattle.kernel_tree.specs.Terms.{buffer}
use Rattle.kernel_code.specs.Relations.{HasForm, Known, array_of, found, later}
use Rattle.kernel_code.specs.Relations.{IsFixed, IsScope}
use Rattle.own_kernels.specs.Kernels.{holds_alone, is_apart, is_in}
use Rattle.phase_loop_laws.specs.over_phases.Own.{SameButAt}
use Rattle.own_kernels.specs.Statements.{SameAt}
use Rattle.own_kernels.proofs.Bools.{and_left, and_right, not_first}

some_held : (g h : Held) → ◌≡◌ {A = Option Held} (Some g) (Some h) → g ≡ h
some_held g h e = cc

no_held : (h : Held) → ◌≡◌ {A = Option Held} None (Some h) → ⊥
no_held h e = cc

-- what holds of the entries of a list holds of the one that is found
apart_found : (v : Var) (b : ℕ) (x : Var) (h : Held) (known : Known) (last : Option Held) → holds_alone known v b ≡ true → (last ≡ Some h → is_apart v b (x, h) ≡ true) → fold (later x) last known ≡ Some h → is_apart v b (x, h) ≡ true
apart_found v b x h [] last alone before is = before is
apart_found v b x h (entry ∷ known) last alone before is =
    apart_found v b x h known (later x last entry) (and_right (is_apart v b entry) (list_all (is_apart v b) known) alone) (here (eqb entry.0.0 x.0) refl) is
  where
    here : (t : Bool) → eqb entry.0.0 x.0 ≡ t → cond t (Some entry.1) last ≡ Some h → is_apart v b (x, h) ≡ true
    here true e last_is =
        let held = some_held entry.1 h last_is in
        let number = eqb-true entry.0.0 x.0 e in
        (λ i. not (is_in b (sym held i)) || nat_eq (sym number i) v.0) ∙ and_left (is_apart v b entry) (list_all (is_apart v b) known) alone
    here false e last_is = before last_is

-- numbers that differ, the other way round
apart_turned : (a b : ℕ) → eqb a b ≡ false → eqb b a ≡ false
apart_turned a b e = other (eqb b a) refl
  where
    other : (t : Bool) → eqb b a ≡ t → t ≡ false
    other true is = absurd (let same = eq-eqb a b (sym (eqb-true b a is)) in cc)
    other false is = refl

-- another variable's array is in another buffer
other_buffer : (v : Var) (b : ℕ) (x : Var) (h : Held) (known : Known) → holds_alone known v b ≡ true → eqb v.0 x.0 ≡ false → found x known ≡ Some h → is_in b h ≡ false
other_buffer v b x h known alone differ is =
    not_first (is_in b h) (nat_eq x.0 v.0) (apart_found v b x h known None alone (λ e. absurd (no_held h e)) is) (apart_turned v.0 x.0 differ)

buffer_there : (bs : List ArrayValue) (b : ℕ) (a : ArrayValue) → b < length bs → buffer (slice_set bs b a) b ≡ a
buffer_there bs b a inside = get_or-set_same bs b a (scalar Int (pos 0)) inside

buffer_other : (bs : List ArrayValue) (b c : ℕ) (a : ArrayValue) → eqb c b ≡ false → buffer (slice_set bs b a) c ≡ buffer bs c
buffer_other bs b c a differ = get_or-set_other bs b c a (scalar Int (pos 0)) (λ is. let same = eq-eqb c b is in cc)

module _ (bs : List ArrayValue) (e f : Env) (known : Known) (v : Var) (index : List ℤ) (base : Base) (rank b : ℕ) (scope : IsScope bs e known) (there : found v known ≡ Some (Whole base rank b)) (same : SameButAt v index e f) where
  -- the variable's array
  here_is : e v ≡ buffer bs b
  here_is = (scope v (Whole base rank b) there).1 []

  inside : b < length bs
  inside = (scope v (Whole base rank b) there).0.0

  form : HasForm base rank (f v)
  form =
      let old : HasForm base rank (e v) = subst (HasForm base rank) (sym here_is) (scope v (Whole base rank b) there).0.1 in
      (same.base ∙ old.0, ap length same.shape ∙ old.1, same.full)

  pub same_at : SameAt b index bs (slice_set bs b (f v))
  same_at = record {
    others = λ c differ. buffer_other bs b c (f v) differ;
    element = ap (λ (a : ArrayValue). select a (vector Int index)) (buffer_there bs b (f v) inside) ∙ same.element ∙ ap (λ (a : ArrayValue). select a (vector Int index)) here_is;
  }

  -- what is known, or another buffer
  fixed_set : (h : Held) → IsFixed bs h → is_in b h ≡ false → IsFixed (slice_set bs b (f v)) h × ((r : List ℤ) → array_of r (slice_set bs b (f v)) h ≡ array_of r bs h)
  fixed_set (Number c n) fixed differ = (tt, λ r. refl)
  fixed_set (Numbers c zs n) fixed differ = (tt, λ r. refl)
  fixed_set (Whole c m k) fixed differ =
      let kept : buffer (slice_set bs b (f v)) k ≡ buffer bs k = buffer_other bs b k (f v) differ in
      ((subst (λ n. k < n) (sym (length-set bs b (f v))) fixed.0, subst (HasForm c m) (sym kept) fixed.1), λ r. kept)
  fixed_set (Word c k) fixed differ = absurd fixed
  fixed_set (Short c ks n) fixed differ = absurd fixed

  pub scope_set : holds_alone known v b ≡ true → IsScope (slice_set bs b (f v)) f known
  scope_set alone x h is = choice (eqb v.0 x.0) refl
    where
      choice : (t : Bool) → eqb v.0 x.0 ≡ t → IsFixed (slice_set bs b (f v)) h × ((r : List ℤ) → f x ≡ array_of r (slice_set bs b (f v)) h)
      choice true e1 =
          let var : v ≡ x = same_number v x e1 in
          let held : Whole base rank b ≡ h = some_held (Whole base rank b) h (sym there ∙ ap (λ y. found y known) var ∙ is) in
          let put = buffer_there bs b (f v) inside in
          subst (λ (g : Held). IsFixed (slice_set bs b (f v)) g × ((r : List ℤ) → f x ≡ array_of r (slice_set bs b (f v)) g)) held
          ((subst (λ n. b < n) (sym (length-set bs b (f v))) inside, subst (HasForm base rank) (sym put) form), λ r. ap f (sym var) ∙ sym put)
      choice false e1 =
          let old = scope x h is in
          let kept = fixed_set h old.0 (other_buffer v b x h known alone e1 is) in
          (kept.0, λ r. same.others x e1 ∙ old.1 r ∙ sym (kept.1 r))

-- nothing is known of the variable
pub scope_unknown : (bs : List ArrayValue) (e f : Env) (known : Known) (v : Var) (index : List ℤ) → IsScope bs e known → found v known ≡ None → SameButAt v index e f → IsScope bs f known
scope_unknown bs e f known v index scope unknown same x h is = choice (eqb v.0 x.0) refl
  where
    choice : (t : Bool) → eqb v.0 x.0 ≡ t → IsFixed bs h × ((r : List ℤ) → f x ≡ array_of r bs h)
    choice true e1 = absurd (no_held h (sym unknown ∙ ap (λ y. found y known) (same_number v x e1) ∙ is))
    choice false e1 = let old = scope x h is in (old.0, λ r. same.others x e1 ∙ old.1 r)
