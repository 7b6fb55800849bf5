-- A function's body in the place of a call.
use Rattle.std.proofs.Common.{◌≡◌, ℕ, suc, ◌+◌, ◌≤◌, Bool, true, false, cond, ◌||◌, eqb, List, [], ◌∷◌, ◌++◌, map, length, Ok, refl, sym, ap, subst, ◌∙◌, arith}
use Rattle.std.specs.Prelude.{max, if◌then◌else◌}
use Rattle.std.proofs.lemmas.Bool.{eqb-true}
use Rattle.std.proofs.lemmas.List.{map-append}
use Rattle.sac_base.specs.declared.faults.FaultKind.TheVariants.{F7}
use Rattle.sac_base.specs.declared.site.Site.{Site}
use Rattle.sac_base.specs.declared.types.ArrayType.{ArrayType}
use Rattle.sac_base.specs.Arrays.{ArrayValue}
use Rattle.sac_base.specs.Outcomes.{and_then, fault}
use Rattle.sac_base.specs.Types.{all_have}
use Rattle.core_ir.specs.declared.tree.Var.{Var}
use Rattle.core_ir.specs.Binders.{is_in, NoneIn}
use Rattle.core_ir.specs.Meaning.{Env, CallMeaning, missing, no_variables, bind, bind_all, run}
use Rattle.core_ir.specs.Outcome.{param_types, param_vars, function_value, results_in}
use Rattle.core_ir.specs.Terms.{BlockTerm, LetTerm, FunTerm, Gives, Bind, chain}
use Rattle.core_ir.specs.Uses.{AvoidsEach, targets_of}
use Rattle.core_ir.proofs.Coincide.{same_on}
use Rattle.core_ir.proofs.Splice.{unused_all}
use Rattle.core_facts.proofs.calls.Spliced.{and_then_assoc}
use Rattle.core_subst.specs.Names.{above, above_all, variable}
use Rattle.core_subst.proofs.Above.{block_new}
use Rattle.core_subst.specs.copy.Mapped.{raised, mapped}
use Rattle.core_subst.proofs.copy.Renaming.{renamed, agree}
use Rattle.core_subst.proofs.copy.Within.{raised_apart}
use Rattle.core_forms.specs.inlining.Inlined.{bindings, results, checks, inlined, CanInline, instance_value}
use Rattle.core_forms.proofs.inlining.Checks.{checks_run, spliced}

whole : (b : BlockTerm) → chain (bindings b) (Gives (results b)) ≡ b
whole (Gives xs) = refl
whole (Bind xs s r b) = ap (Bind xs s r) (whole b)

pub targets_mapped : (f : Var → Var) (b : BlockTerm) → targets_of (bindings (mapped f b)) ≡ map f (targets_of (bindings b))
targets_mapped f (Gives xs) = refl
targets_mapped f (Bind xs s r b) = ap (λ ys. map f xs ++ ys) (targets_mapped f b) ∙ sym (map-append f xs (targets_of (bindings b)))

pub results_mapped : (f : Var → Var) (b : BlockTerm) → results (mapped f b) ≡ map f (results b)
results_mapped f (Gives xs) = refl
results_mapped f (Bind xs s r b) = results_mapped f b

same_length : {A B : Type 0} (f : A → B) (xs : List A) → length (map f xs) ≡ length xs
same_length f [] = refl
same_length f (x ∷ xs) = ap suc (same_length f xs)

-- ---- raised variables are others

left : (a b n : ℕ) → max a b ≤ n → a ≤ n
left a b n h = omega arith

right : (a b n : ℕ) → max a b ≤ n → b ≤ n
right a b n h = omega arith

differs : (a b n : ℕ) → suc a ≤ n → eqb a (b + n) ≡ false
differs a b n h = go (eqb a (b + n)) refl
  where
    go : (t : Bool) → eqb a (b + n) ≡ t → eqb a (b + n) ≡ false
    go true e = absurd (let p = eqb-true a (b + n) e in omega arith)
    go false e = e

differs' : (a b n : ℕ) → suc a ≤ n → eqb (b + n) a ≡ false
differs' a b n h = go (eqb (b + n) a) refl
  where
    go : (t : Bool) → eqb (b + n) a ≡ t → eqb (b + n) a ≡ false
    go true e = absurd (let p = eqb-true (b + n) a e in omega arith)
    go false e = e

module _ (by : ℕ) where
  raised_not_in : (x : Var) (zs : List Var) → above_all zs ≤ by → is_in (raised by x) zs ≡ false
  raised_not_in x [] h = refl
  raised_not_in x (z ∷ zs) h = λ i. differs z.0 x.0 by (left (suc z.0) (above_all zs) by h) i || raised_not_in x zs (right (suc z.0) (above_all zs) by h) i

  raised_none : (xs zs : List Var) → above_all zs ≤ by → NoneIn (map (raised by) xs) zs
  raised_none [] zs h = tt
  raised_none (x ∷ xs) zs h = (raised_not_in x zs h, raised_none xs zs h)

  not_raised : (t : Var) (zs : List Var) → suc t.0 ≤ by → is_in t (map (raised by) zs) ≡ false
  not_raised t [] h = refl
  not_raised t (z ∷ zs) h = λ i. differs' t.0 z.0 by h i || not_raised t zs h i

  none_raised : (ts zs : List Var) → above_all ts ≤ by → NoneIn ts (map (raised by) zs)
  none_raised [] zs h = tt
  none_raised (t ∷ ts) zs h = (not_raised t zs (left (suc t.0) (above_all ts) by h), none_raised ts zs (right (suc t.0) (above_all ts) by h))

  raised_avoided : (xs : List Var) (b : BlockTerm) → above b ≤ by → AvoidsEach (map (raised by) xs) b
  raised_avoided [] b h = tt
  raised_avoided (x ∷ xs) b h = ((block_new b (x.0 + by) (omega arith)).0, raised_avoided xs b h)

  -- ---- the parameters of the body

  kept : (ps : List Var) (vs : List ArrayValue) (e g : Env) (y : Var) → e (raised by y) ≡ g y → bind_all e (map (raised by) ps) vs (raised by y) ≡ bind_all g ps vs y
  kept [] vs e g y h = h
  kept (p ∷ ps) [] e g y h = kept ps [] (bind e (raised by p) missing) (bind g p missing) y (λ i. cond (raised_apart by p y i) missing (h i))
  kept (p ∷ ps) (v ∷ vs) e g y h = kept ps vs (bind e (raised by p) v) (bind g p v) y (λ i. cond (raised_apart by p y i) v (h i))

  bound_here : (p y : Var) (v : ArrayValue) (e g : Env) → eqb p.0 y.0 ≡ true → bind e (raised by p) v (raised by y) ≡ bind g p v y
  bound_here p y v e g h = (λ i. cond ((raised_apart by p y ∙ h) i) v (e (raised by y))) ∙ sym (λ i. cond (h i) v (g y))

  params_bound : (ps : List Var) (vs : List ArrayValue) (e g : Env) (y : Var) → is_in y ps ≡ true → bind_all g ps vs y ≡ bind_all e (map (raised by) ps) vs (raised by y)
  params_bound [] vs e g y h = absurd (cc)
  params_bound (p ∷ ps) [] e g y h = go (eqb p.0 y.0) refl (λ k. params_bound ps [] (bind e (raised by p) missing) (bind g p missing) y k)
    where
      go : (t : Bool) → eqb p.0 y.0 ≡ t → (is_in y ps ≡ true → bind_all (bind g p missing) ps [] y ≡ bind_all (bind e (raised by p) missing) (map (raised by) ps) [] (raised by y)) → bind_all (bind g p missing) ps [] y ≡ bind_all (bind e (raised by p) missing) (map (raised by) ps) [] (raised by y)
      go true k f = sym (kept ps [] (bind e (raised by p) missing) (bind g p missing) y (bound_here p y missing e g k))
      go false k f = f (sym (λ i. k i || is_in y ps) ∙ h)
  params_bound (p ∷ ps) (v ∷ vs) e g y h = go (eqb p.0 y.0) refl (λ k. params_bound ps vs (bind e (raised by p) v) (bind g p v) y k)
    where
      go : (t : Bool) → eqb p.0 y.0 ≡ t → (is_in y ps ≡ true → bind_all (bind g p v) ps vs y ≡ bind_all (bind e (raised by p) v) (map (raised by) ps) vs (raised by y)) → bind_all (bind g p v) ps vs y ≡ bind_all (bind e (raised by p) v) (map (raised by) ps) vs (raised by y)
      go true k f = sym (kept ps vs (bind e (raised by p) v) (bind g p v) y (bound_here p y v e g k))
      go false k f = f (sym (λ i. k i || is_in y ps) ∙ h)

module _ (calls : CallMeaning) (turns by : ℕ) (f : FunTerm) where
  abbrev ps : List Var
  ps = map (raised by) (param_vars f)

  abbrev body : BlockTerm
  body = mapped (raised by) f.body

  -- the raised body gives what the body gives in the function
  body_means : (e : Env) (args : List ArrayValue) → Rattle.core_ir.specs.Scopes.Scoped (param_vars f) f.body → run calls turns (mapped (raised by) f.body) (bind_all e ps args) ≡ run calls turns f.body (bind_all no_variables (param_vars f) args)
  body_means e args scoped =
      sym (Rattle.core_ir.proofs.Renamed.renamed calls turns _ (λ x. bind_all e ps args (raised by x)) (bind_all e ps args) f.body (mapped (raised by) f.body) (agree (raised by) (raised_apart by) (bind_all e ps args)) (renamed (raised by) (raised_apart by) f.body))
      ∙ sym (same_on calls turns (param_vars f) f.body (bind_all no_variables (param_vars f) args) (λ x. bind_all e ps args (raised by x)) scoped (λ y h. params_bound by (param_vars f) args e no_variables y h))

  pub body_in_place : (ts xs : List Var) (s : Site) (rest : BlockTerm) (e : Env) → CanInline by f ts xs rest → run calls turns (inlined by f ts s xs rest) e ≡ and_then (instance_value turns calls f (map e xs) s) (λ vs. run calls turns rest (bind_all e ts vs))
  body_in_place ts xs s rest e c =
      checks_run calls turns s ps (param_types f) xs (chain (bindings body) (chain (checks f.ends ts f.results (results body)) rest)) e count counted (raised_none by (param_vars f) xs c.sources)
      ∙ go (all_have (param_types f) (map e xs))
    where
      count : length ps ≡ length (param_types f)
      count = same_length (raised by) (param_vars f) ∙ same_length (λ (p : Var × ArrayType). p.0) f.params ∙ sym (same_length (λ (p : Var × ArrayType). p.1) f.params)

      counted : length xs ≡ length (param_types f)
      counted = c.takes ∙ sym (same_length (λ (p : Var × ArrayType). p.1) f.params)

      given : length (results body) ≡ length f.results
      given = ap length (results_mapped (raised by) f.body) ∙ same_length (raised by) (results f.body) ∙ c.ends

      none : NoneIn ts (results body)
      none = subst (λ (zs : List Var). NoneIn ts zs) (sym (results_mapped (raised by) f.body)) (none_raised by ts (results f.body) c.targets)

      inner : AvoidsEach (targets_of (bindings body)) rest
      inner = subst (λ (zs : List Var). AvoidsEach zs rest) (sym (targets_mapped (raised by) f.body)) (raised_avoided by (targets_of (bindings f.body)) rest c.behind)

      go : (b : Bool) → (if b then run calls turns (chain (bindings body) (chain (checks f.ends ts f.results (results body)) rest)) (bind_all e ps (map e xs)) else fault F7 s) ≡ and_then (if b then function_value turns calls f (map e xs) else fault F7 s) (λ vs. run calls turns rest (bind_all e ts vs))
      go false = refl
      go true =
          spliced calls turns (bindings body) ts f.results (results body) f.ends rest (bind_all e ps (map e xs)) c.gives given none inner
          ∙ (λ i. and_then (run calls turns (whole body i) (bind_all e ps (map e xs))) (λ ws. and_then (results_in f.results f.ends ws) (λ vs. unused_all calls turns ps ts (map e xs) vs rest e (raised_avoided by (param_vars f) rest c.behind) i)))
          ∙ (λ i. and_then (body_means e (map e xs) c.scoped i) (λ ws. and_then (results_in f.results f.ends ws) (λ vs. run calls turns rest (bind_all e ts vs))))
          ∙ sym (and_then_assoc (run calls turns f.body (bind_all no_variables (param_vars f) (map e xs))) (results_in f.results f.ends) (λ vs. run calls turns rest (bind_all e ts vs)))
