-- The bindings of a block with several results, put into another.
use Rattle.std.proofs.Common.{◌≡◌, ℕ, Bool, true, false, cond, eqb, List, [], ◌∷◌, ◌++◌, map, Ok, Err, refl, sym, ◌∙◌}
use Rattle.sac_base.specs.declared.site.Site.{Site}
use Rattle.sac_base.specs.Arrays.{ArrayValue}
use Rattle.sac_base.specs.Outcomes.{Ends, and_then}
use Rattle.std.proofs.lemmas.Bool.{eqb-true, eq-eqb}
use Rattle.core_ir.specs.declared.tree.Var.{Var}
use Rattle.core_ir.specs.Terms.{BlockTerm, LetTerm, Gives, chain}
use Rattle.core_ir.specs.Meaning.{Env, CallMeaning, bind, bind_all, run, right_value}
use Rattle.core_ir.specs.Binders.{is_in}
use Rattle.core_ir.specs.Uses.{AvoidsEach, targets_of}
use Rattle.core_ir.proofs.Splice.{unused_all}
use Rattle.core_ir.proofs.Variables.{or_false}
use Rattle.core_facts.specs.calls.Copies.{copies, CanCopy}

pub and_then_assoc : {A B C : Type 0} (x : Ends A) (f : A → Ends B) (g : B → Ends C) → and_then (and_then x f) g ≡ and_then x (λ a. and_then (f a) g)
and_then_assoc (Ok a) f g = refl
and_then_assoc (Err k) f g = refl

pub avoids_left : (xs ys : List Var) (b : BlockTerm) → AvoidsEach (xs ++ ys) b → AvoidsEach xs b
avoids_left [] ys b h = tt
avoids_left (x ∷ xs) ys b h = (h.0, avoids_left xs ys b h.1)

pub avoids_right : (xs ys : List Var) (b : BlockTerm) → AvoidsEach (xs ++ ys) b → AvoidsEach ys b
avoids_right [] ys b h = h
avoids_right (x ∷ xs) ys b h = avoids_right xs ys b h.1

turned : (m n : ℕ) → eqb m n ≡ false → eqb n m ≡ false
turned m n h = go (eqb n m) refl
  where
    go : (b : Bool) → eqb n m ≡ b → eqb n m ≡ false
    go true e = absurd (let q : eqb m n ≡ true = eq-eqb m n (sym (eqb-true n m e)) in let z = sym q ∙ h in cc)
    go false e = e

pub not_in : (t : Var) (zs : List Var) (e : Env) (a : ArrayValue) → is_in t zs ≡ false → map (bind e t a) zs ≡ map e zs
not_in t [] e a h = refl
not_in t (z ∷ zs) e a h = let w = or_false (eqb z.0 t.0) (is_in t zs) h in λ i. cond (turned z.0 t.0 w.0 i) a (e z) ∷ not_in t zs e a w.1 i

module _ (calls : CallMeaning) (turns : ℕ) where
  copied : (s : Site) (ts zs : List Var) (rest : BlockTerm) (e : Env) → CanCopy ts zs → run calls turns (chain (copies s ts zs) rest) e ≡ run calls turns rest (bind_all e ts (map e zs))
  copied s [] [] rest e h = refl
  copied s [] (z ∷ zs) rest e h = absurd h
  copied s (t ∷ ts) [] rest e h = absurd h
  copied s (t ∷ ts) (z ∷ zs) rest e h = copied s ts zs rest (bind e t (e z)) h.1 ∙ (λ i. run calls turns rest (bind_all (bind e t (e z)) ts (not_in t zs e (e z) h.0 i)))

  -- the bindings of a block, and then copies of its results, are a binding of what the block gives
  pub spliced_all : (ls : List LetTerm) (ts zs : List Var) (s : Site) (rest : BlockTerm) (e : Env) → CanCopy ts zs → AvoidsEach (targets_of ls) rest → run calls turns (chain ls (chain (copies s ts zs) rest)) e ≡ and_then (run calls turns (chain ls (Gives zs)) e) (λ ws. run calls turns rest (bind_all e ts ws))
  spliced_all [] ts zs s rest e c n = copied s ts zs rest e c
  spliced_all (l ∷ ls) ts zs s rest e c n =
      (λ i. and_then (right_value calls turns l.right l.site e) (λ vs. (spliced_all ls ts zs s rest (bind_all e l.targets vs) c (avoids_right l.targets _ rest n)
      ∙ (λ j. and_then (run calls turns (chain ls (Gives zs)) (bind_all e l.targets vs)) (λ ws. unused_all calls turns l.targets ts vs ws rest e (avoids_left l.targets _ rest n) j))) i))
      ∙ sym (and_then_assoc (right_value calls turns l.right l.site e) (λ vs. run calls turns (chain ls (Gives zs)) (bind_all e l.targets vs)) (λ ws. run calls turns rest (bind_all e ts ws)))
