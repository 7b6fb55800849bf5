-- Checks one after another, and bindings before them.
use Rattle.std.proofs.Common.{◌≡◌, ℕ, suc, Bool, true, false, ◌&&◌, eqb, List, [], ◌∷◌, map, length, Ok, Err, refl, sym, ◌∙◌, arith}
use Rattle.std.specs.Prelude.{if◌then◌else◌}
use Rattle.sac_base.specs.declared.faults.FaultKind.TheVariants.{F7}
use Rattle.sac_base.specs.declared.site.Site.{Site}
use Rattle.sac_base.specs.declared.types.ArrayType.{ArrayType}
use Rattle.sac_base.specs.Outcomes.{and_then, at_site, fault}
use Rattle.sac_base.specs.Types.{has, all_have}
use Rattle.core_ir.specs.declared.tree.Var.{Var}
use Rattle.core_ir.specs.Binders.{is_in, NoneIn}
use Rattle.core_ir.specs.Meaning.{Env, CallMeaning, bind, bind_all, one, run, right_value}
use Rattle.core_ir.specs.Outcome.{results_in}
use Rattle.core_ir.specs.Terms.{BlockTerm, LetTerm, Gives, chain}
use Rattle.core_ir.specs.Uses.{AvoidsEach, targets_of}
use Rattle.core_ir.proofs.Splice.{unused_all}
use Rattle.core_ir.proofs.Variables.{or_false}
use Rattle.core_facts.proofs.calls.Spliced.{and_then_assoc, avoids_left, avoids_right, not_in}
use Rattle.core_forms.specs.inlining.Inlined.{checks}

-- none of the targets is a source further behind
none_tail : (ts zs : List Var) (z : Var) → NoneIn ts (z ∷ zs) → NoneIn ts zs
none_tail [] zs z h = tt
none_tail (t ∷ ts) zs z h = ((or_false (eqb z.0 t.0) (is_in t zs) h.0).1, none_tail ts zs z h.1)

less : (m n : ℕ) → suc m ≡ suc n → m ≡ n
less m n p = omega arith

module _ (calls : CallMeaning) (turns : ℕ) where
  check_first : (s : Site) (t : Var) (ts : List Var) (ty : ArrayType) (tys : List ArrayType) (z : Var) (zs : List Var) (rest : BlockTerm) (e : Env) → is_in t zs ≡ false
      → run calls turns (chain (checks s ts tys zs) rest) (bind e t (e z)) ≡ (if all_have tys (map (bind e t (e z)) zs) then run calls turns rest (bind_all (bind e t (e z)) ts (map (bind e t (e z)) zs)) else fault F7 s)
      → run calls turns (chain (checks s (t ∷ ts) (ty ∷ tys) (z ∷ zs)) rest) e ≡ (if all_have (ty ∷ tys) (map e (z ∷ zs)) then run calls turns rest (bind_all e (t ∷ ts) (map e (z ∷ zs))) else fault F7 s)
  check_first s t ts ty tys z zs rest e n known = go (has ty (e z)) refl
    where
      inner : run calls turns (chain (checks s ts tys zs) rest) (bind e t (e z)) ≡ (if all_have tys (map e zs) then run calls turns rest (bind_all (bind e t (e z)) ts (map e zs)) else fault F7 s)
      inner = known ∙ (λ i. let m = not_in t zs e (e z) n i in if all_have tys m then run calls turns rest (bind_all (bind e t (e z)) ts m) else fault F7 s)

      go : (b : Bool) → has ty (e z) ≡ b → and_then (one (at_site s (if has ty (e z) then Ok (e z) else Err F7))) (λ vs. run calls turns (chain (checks s ts tys zs) rest) (bind_all e (t ∷ []) vs)) ≡ (if has ty (e z) && all_have tys (map e zs) then run calls turns rest (bind_all (bind e t (e z)) ts (map e zs)) else fault F7 s)
      go true h =
          (λ i. and_then (one (at_site s (if h i then Ok (e z) else Err F7))) (λ vs. run calls turns (chain (checks s ts tys zs) rest) (bind_all e (t ∷ []) vs)))
          ∙ inner
          ∙ sym (λ i. if h i && all_have tys (map e zs) then run calls turns rest (bind_all (bind e t (e z)) ts (map e zs)) else fault F7 s)
      go false h =
          (λ i. and_then (one (at_site s (if h i then Ok (e z) else Err F7))) (λ vs. run calls turns (chain (checks s ts tys zs) rest) (bind_all e (t ∷ []) vs)))
          ∙ sym (λ i. if h i && all_have tys (map e zs) then run calls turns rest (bind_all (bind e t (e z)) ts (map e zs)) else fault F7 s)

  pub checks_run : (s : Site) (ts : List Var) (tys : List ArrayType) (zs : List Var) (rest : BlockTerm) (e : Env) → length ts ≡ length tys → length zs ≡ length tys → NoneIn ts zs
      → run calls turns (chain (checks s ts tys zs) rest) e ≡ (if all_have tys (map e zs) then run calls turns rest (bind_all e ts (map e zs)) else fault F7 s)
  checks_run s [] [] [] rest e p q n = refl
  checks_run s (t ∷ ts) (ty ∷ tys) (z ∷ zs) rest e p q n =
      check_first s t ts ty tys z zs rest e (or_false (eqb z.0 t.0) (is_in t zs) n.0).1
      (checks_run s ts tys zs rest (bind e t (e z)) (less (length ts) (length tys) p) (less (length zs) (length tys) q) (none_tail ts zs z n.1))
  checks_run s [] (ty ∷ tys) zs rest e p q n = absurd (omega arith)
  checks_run s (t ∷ ts) [] zs rest e p q n = absurd (omega arith)
  checks_run s [] [] (z ∷ zs) rest e p q n = absurd (omega arith)
  checks_run s (t ∷ ts) (ty ∷ tys) [] rest e p q n = absurd (omega arith)

  -- bindings, and then checks, are a binding of what a block of these bindings gives
  pub spliced : (ls : List LetTerm) (ts : List Var) (tys : List ArrayType) (zs : List Var) (s : Site) (rest : BlockTerm) (e : Env) → length ts ≡ length tys → length zs ≡ length tys → NoneIn ts zs → AvoidsEach (targets_of ls) rest
      → run calls turns (chain ls (chain (checks s ts tys zs) rest)) e ≡ and_then (run calls turns (chain ls (Gives zs)) e) (λ ws. and_then (results_in tys s ws) (λ vs. run calls turns rest (bind_all e ts vs)))
  spliced [] ts tys zs s rest e p q n a = checks_run s ts tys zs rest e p q n ∙ go (all_have tys (map e zs))
    where
      go : (b : Bool) → (if b then run calls turns rest (bind_all e ts (map e zs)) else fault F7 s) ≡ and_then (if b then Ok (map e zs) else fault F7 s) (λ vs. run calls turns rest (bind_all e ts vs))
      go true = refl
      go false = refl
  spliced (l ∷ ls) ts tys zs s rest e p q n a =
      (λ i. and_then (right_value calls turns l.right l.site e) (λ vs. (spliced ls ts tys zs s rest (bind_all e l.targets vs) p q n (avoids_right l.targets _ rest a)
      ∙ (λ j. and_then (run calls turns (chain ls (Gives zs)) (bind_all e l.targets vs)) (λ ws. and_then (results_in tys s ws) (λ us. unused_all calls turns l.targets ts vs us rest e (avoids_left l.targets _ rest a) j)))) i))
      ∙ sym (and_then_assoc (right_value calls turns l.right l.site e) (λ vs. run calls turns (chain ls (Gives zs)) (bind_all e l.targets vs)) (λ ws. and_then (results_in tys s ws) (λ us. run calls turns rest (bind_all e ts us))))
