-- What the bindings on the way say of an environment stays true.
use Rattle.std.proofs.Common.{◌≡◌, ℕ, true, cond, ◌||◌, eqb, List, [], ◌∷◌, ◌++◌, map, Ok, Err, refl, sym, ap, ◌∙◌}
use Rattle.std.specs.Prelude.{ℤ}
use Rattle.std.proofs.lemmas.Bool.{eq-eqb}
use Rattle.sac_base.specs.declared.base.Base.TheVariants.{Int}
use Rattle.sac_base.specs.declared.site.Site.{Site}
use Rattle.sac_base.specs.Arrays.{ArrayValue, vector}
use Rattle.sac_base.specs.Grids.{has_vector}
use Rattle.sac_base.specs.Outcomes.{Ends}
use Rattle.core_ir.specs.declared.tree.Var.{Var}
use Rattle.core_ir.specs.Terms.{RightTerm, PartHead, Plain, With, Parted}
use Rattle.core_ir.specs.Meaning.{Env, Answer, CallMeaning, bind, bind_all, one, right_value}
use Rattle.core_ir.specs.Binders.{is_in, NoneIn}
use Rattle.core_ir.specs.Scopes.{AllIn, AgreeOn, ScopedRight}
use Rattle.core_ir.specs.Known.{Passed, Entered, Known, learn_passed, ways, HoldEntered, HoldPassed, Holds}
use Rattle.core_ir.proofs.Splice.{bound_elsewhere}
use Rattle.core_ir.proofs.Variables.{or_right, not_bound, all_in_at, in_front, all_more}
use Rattle.core_ir.proofs.Coincide.{same_on_right}

pub agree_after : (xs scope : List Var) (vs : List ArrayValue) (e : Env) → NoneIn xs scope → AgreeOn scope (bind_all e xs vs) e
agree_after xs scope vs e n y h = bound_elsewhere (λ g ws s. Ok []) 0 xs vs e y (not_bound xs scope y n h)

map_on : (scope ys : List Var) (e f : Env) → AgreeOn scope e f → AllIn ys scope → map e ys ≡ map f ys
map_on scope [] e f h a = refl
map_on scope (y ∷ ys) e f h a = λ i. h y a.0 i ∷ map_on scope ys e f h a.1 i

-- bindings of other variables change nothing of the indices
entered_below : (scope : List Var) (ps : List Entered) (xs : List Var) (vs : List ArrayValue) (e : Env) → NoneIn xs scope → HoldEntered scope ps e → HoldEntered (xs ++ scope) ps (bind_all e xs vs)
entered_below scope [] xs vs e n h = tt
entered_below scope (p ∷ ps) xs vs e n h =
    (in_front p.index xs scope h.0, (h.1.0, (agree_after xs scope vs e n p.index h.0 ∙ h.1.1.0, h.1.1.1)), entered_below scope ps xs vs e n h.2)

single : (z : Ends ArrayValue) (vs : List ArrayValue) → one z ≡ Ok vs → (v : ArrayValue) × (vs ≡ v ∷ [])
single (Ok v) vs p = (v, cc)
single (Err f) vs p = absurd (cc)

in_itself : (scope : List Var) → AllIn scope scope
in_itself scope = go scope (λ y k. k)
  where
    go : (ys : List Var) → ((y : Var) → is_in y ys ≡ true → is_in y scope ≡ true) → AllIn ys scope
    go [] h = tt
    go (y ∷ ys) h = (h y (λ i. eq-eqb y.0 y.0 refl i || is_in y ys), go ys (λ z k. h z (or_right (eqb y.0 z.0) _ k)))

module _ (calls : CallMeaning) (turns : ℕ) where
  -- bindings of other variables change nothing of what was passed
  passed_below : (scope : List Var) (ps : List Passed) (xs : List Var) (vs : List ArrayValue) (e : Env) → NoneIn xs scope → HoldPassed calls turns scope ps e → HoldPassed calls turns (xs ++ scope) ps (bind_all e xs vs)
  passed_below scope [] xs vs e n h = tt
  passed_below scope (p ∷ ps) xs vs e n h =
      let a = agree_after xs scope vs e n in
      let own : AgreeOn p.own (bind_all e xs vs) e = λ y k. a y (all_in_at p.own scope y h.1 k) in (
        h.0,
        all_more p.own xs scope h.1,
        all_more p.binding.targets xs scope h.2,
        same_on_right calls turns p.own p.binding.right p.binding.site (bind_all e xs vs) e h.0 own ∙ h.3 ∙ ap Ok (sym (map_on scope p.binding.targets (bind_all e xs vs) e a h.2)),
        passed_below scope ps xs vs e n h.4,
      )

  new_fact : (scope : List Var) (ps : List Passed) (x : Var) (s : Site) (r : RightTerm) (vs : List ArrayValue) (e : Env) (z : Ends ArrayValue) → right_value calls turns r s e ≡ one z → NoneIn (x ∷ []) scope → ScopedRight scope r → right_value calls turns r s e ≡ Ok vs → HoldPassed calls turns scope ps e → HoldPassed calls turns (x ∷ scope) (record { own = scope; binding = record { targets = x ∷ []; site = s; right = r } } ∷ ps) (bind_all e (x ∷ []) vs)
  new_fact scope ps x s r vs e z o n sc p h =
      let v = single z vs (sym o ∙ p) in
      let same : eqb x.0 x.0 ≡ true = eq-eqb x.0 x.0 refl in
      let f = bind_all e (x ∷ []) vs in
      let here : ◌≡◌ {A = Answer} (Ok vs) (Ok (map f (x ∷ []))) = (λ i. Ok (v.1 i)) ∙ (λ i. Ok (sym (λ j. cond (same j) v.0 (e x)) i ∷ [])) ∙ (λ i. Ok (bind_all e (x ∷ []) (sym v.1 i) x ∷ [])) in (
        sc,
        all_more scope (x ∷ []) scope (in_itself scope),
        ((λ i. same i || is_in x scope), tt),
        same_on_right calls turns scope r s f e sc (agree_after (x ∷ []) scope vs e n) ∙ p ∙ here,
        passed_below scope ps (x ∷ []) vs e n h,
      )

  learned_passed : (k : Known) (xs : List Var) (s : Site) (r : RightTerm) (e : Env) (vs : List ArrayValue) → NoneIn xs k.scope → ScopedRight k.scope r → HoldPassed calls turns k.scope k.passed e → right_value calls turns r s e ≡ Ok vs → HoldPassed calls turns (xs ++ k.scope) (learn_passed k xs s r) (bind_all e xs vs)
  learned_passed k (x ∷ []) s (Plain p) e vs n sc h q = new_fact k.scope k.passed x s (Plain p) vs e _ refl n sc q h
  learned_passed k (x ∷ []) s (With o g) e vs n sc h q = new_fact k.scope k.passed x s (With o g) vs e _ refl n sc q h
  learned_passed k (x ∷ []) s (Parted f b c o p) e vs n sc h q = new_fact k.scope k.passed x s (Parted f b c o p) vs e _ refl n sc q h
  learned_passed k xs s r e vs n sc h q = passed_below k.scope k.passed xs vs e n h

  pub learned : (k : Known) (xs : List Var) (s : Site) (r : RightTerm) (e : Env) (vs : List ArrayValue) → NoneIn xs k.scope → ScopedRight k.scope r → Holds calls turns k e → right_value calls turns r s e ≡ Ok vs → Holds calls turns (ways.learn k xs s r) (bind_all e xs vs)
  learned k xs s r e vs n sc h q =
      (learned_passed k xs s r e vs n sc h.0 q, entered_below k.scope k.entered xs vs e n h.1)

  pub hidden : (k : Known) (xs : List Var) (e : Env) (vs : List ArrayValue) → NoneIn xs k.scope → Holds calls turns k e → Holds calls turns (ways.hide k xs) (bind_all e xs vs)
  hidden k xs e vs n h = (passed_below k.scope k.passed xs vs e n h.0, entered_below k.scope k.entered xs vs e n h.1)

  pub within : (k : Known) (h : PartHead) (e : Env) (v : List ℤ) → NoneIn (h.index ∷ []) k.scope → Holds calls turns k e → has_vector h.grid v ≡ true → Holds calls turns (ways.enter k h) (bind e h.index (vector Int v))
  within k h e v n p q =
      let same : eqb h.index.0 h.index.0 ≡ true = eq-eqb h.index.0 h.index.0 refl in (
        passed_below k.scope k.passed (h.index ∷ []) (vector Int v ∷ []) e n p.0,
        ((λ i. same i || is_in h.index k.scope), (v, ((λ i. cond (same i) (vector Int v) (e h.index)), q)), entered_below k.scope k.entered (h.index ∷ []) (vector Int v ∷ []) e n p.1),
      )
