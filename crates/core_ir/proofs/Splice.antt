-- Bindings of one block put into another.
use Rattle.std.proofs.Common.{◌≡◌, ℕ, false, cond, eqb, List, [], ◌∷◌, ◌++◌, Ok, Err, refl, sym, ◌∙◌}
use Rattle.sac_base.specs.declared.site.Site.{Site}
use Rattle.sac_base.specs.Arrays.{ArrayValue}
use Rattle.sac_base.specs.Outcomes.{Ends, and_then}
use Rattle.core_ir.specs.declared.tree.Var.{Var}
use Rattle.core_ir.specs.Terms.{BlockTerm, LetTerm, Gives, Bind, Plain, Copy, chain}
use Rattle.core_ir.specs.Meaning.{Env, CallMeaning, missing, bind, bind_all, run, right_value}
use Rattle.core_ir.specs.Binders.{is_in}
use Rattle.core_ir.specs.Uses.{AvoidsEach, targets_of}
use Rattle.core_ir.proofs.Variables.{or_false, in_neither}
use Rattle.core_ir.proofs.Unused.{unused}

and_then_assoc : {A B C : Type 0} (x : Ends A) (f : A → Ends B) (g : B → Ends C) → and_then (and_then x f) g ≡ and_then x (λ a. and_then (f a) g)
and_then_assoc (Ok a) f g = refl
and_then_assoc (Err k) f g = refl

avoids_left : (xs ys : List Var) (b : BlockTerm) → AvoidsEach (xs ++ ys) b → AvoidsEach xs b
avoids_left [] ys b h = tt
avoids_left (x ∷ xs) ys b h = (h.0, avoids_left xs ys b h.1)

avoids_right : (xs ys : List Var) (b : BlockTerm) → AvoidsEach (xs ++ ys) b → AvoidsEach ys b
avoids_right [] ys b h = h
avoids_right (x ∷ xs) ys b h = avoids_right xs ys b h.1

-- environments that agree but at x still do below binders
agree_below : (x : Var) (ts : List Var) (ws : List ArrayValue) (e f : Env) → ((y : Var) → eqb x.0 y.0 ≡ false → e y ≡ f y) → (y : Var) → eqb x.0 y.0 ≡ false → bind_all e ts ws y ≡ bind_all f ts ws y
agree_below x [] ws e f h y n = h y n
agree_below x (t ∷ ts) [] e f h y n = agree_below x ts [] _ _ (λ z m. λ i. cond (eqb t.0 z.0) missing (h z m i)) y n
agree_below x (t ∷ ts) (w ∷ ws) e f h y n = agree_below x ts ws _ _ (λ z m. λ i. cond (eqb t.0 z.0) w (h z m i)) y n

module _ (calls : CallMeaning) (turns : ℕ) where
  -- variables that are not used, bound before others
  pub unused_all : (xs ts : List Var) (vs ws : List ArrayValue) (b : BlockTerm) (e : Env) → AvoidsEach xs b → run calls turns b (bind_all (bind_all e xs vs) ts ws) ≡ run calls turns b (bind_all e ts ws)
  unused_all [] ts vs ws b e n = refl
  unused_all (x ∷ xs) ts [] ws b e n =
      unused_all xs ts [] ws b (bind e x missing) n.1
      ∙ unused calls turns x b _ _ n.0 (agree_below x ts ws (bind e x missing) e (λ y k. λ i. cond (k i) missing (e y)))
  unused_all (x ∷ xs) ts (v ∷ vs) ws b e n =
      unused_all xs ts vs ws b (bind e x v) n.1
      ∙ unused calls turns x b _ _ n.0 (agree_below x ts ws (bind e x v) e (λ y k. λ i. cond (k i) v (e y)))

  -- the bindings of a block with one result, and then a copy of that result, are a binding of what the block gives; its other variables are not used below
  pub splice : (ls : List LetTerm) (t z : Var) (s : Site) (rest : BlockTerm) (e : Env) → AvoidsEach (targets_of ls) rest → run calls turns (chain ls (Bind (t ∷ []) s (Plain (Copy z)) rest)) e ≡ and_then (run calls turns (chain ls (Gives (z ∷ []))) e) (λ ws. run calls turns rest (bind_all e (t ∷ []) ws))
  splice [] t z s rest e n = refl
  splice (l ∷ ls) t z s rest e n =
      (λ i. and_then (right_value calls turns l.right l.site e) (λ vs. (splice ls t z s rest (bind_all e l.targets vs) (avoids_right l.targets _ rest n)
      ∙ (λ j. and_then (run calls turns (chain ls (Gives (z ∷ []))) (bind_all e l.targets vs)) (λ ws. unused_all l.targets (t ∷ []) vs ws rest e (avoids_left l.targets _ rest n) j))) i))
      ∙ sym (and_then_assoc (right_value calls turns l.right l.site e) (λ vs. run calls turns (chain ls (Gives (z ∷ []))) (bind_all e l.targets vs)) (λ ws. run calls turns rest (bind_all e (t ∷ []) ws)))

  pub bound_elsewhere : (xs : List Var) (vs : List ArrayValue) (e : Env) (y : Var) → is_in y xs ≡ false → bind_all e xs vs y ≡ e y
  bound_elsewhere [] vs e y n = refl
  bound_elsewhere (x ∷ xs) [] e y n = bound_elsewhere xs [] _ y (or_false (eqb x.0 y.0) _ n).1 ∙ (λ i. cond ((or_false (eqb x.0 y.0) _ n).0 i) missing (e y))
  bound_elsewhere (x ∷ xs) (v ∷ vs) e y n = bound_elsewhere xs vs _ y (or_false (eqb x.0 y.0) _ n).1 ∙ (λ i. cond ((or_false (eqb x.0 y.0) _ n).0 i) v (e y))

  -- what stands behind bindings may be changed under what these leave as it was
  pub chain_same : (ls : List LetTerm) (b c : BlockTerm) (e : Env) → ((f : Env) → ((y : Var) → is_in y (targets_of ls) ≡ false → f y ≡ e y) → run calls turns b f ≡ run calls turns c f) → run calls turns (chain ls b) e ≡ run calls turns (chain ls c) e
  chain_same [] b c e h = h e (λ y n. refl)
  chain_same (l ∷ ls) b c e h =
      λ i. and_then (right_value calls turns l.right l.site e) (λ vs. chain_same ls b c (bind_all e l.targets vs)
      (λ f k. h f (λ y n. k y ((in_neither y l.targets _ n).1) ∙ bound_elsewhere l.targets vs e y ((in_neither y l.targets _ n).0))) i)
