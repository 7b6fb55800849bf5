-- Bindings of the core that are run one after another.
use Rattle.std.proofs.Common.{◌≡◌, ℕ, List, [], ◌∷◌, ◌++◌, map, Ok, Err, refl, ◌∙◌}
use Rattle.sac_base.specs.Arrays.{ArrayValue}
use Rattle.sac_base.specs.Outcomes.{Ends, and_then}
use Rattle.core_ir.specs.declared.tree.Var.{Var}
use Rattle.core_ir.specs.Terms.{LetTerm, Gives, chain}
use Rattle.core_ir.specs.Meaning.{Env, CallMeaning, bind_all, run, right_value}

pub and_then_assoc : {A B C : Type 0} (x : Ends A) (f : A → Ends B) (g : B → Ends C) → and_then (and_then x f) g ≡ and_then x (λ a. and_then (f a) g)
and_then_assoc (Ok a) f g = refl
and_then_assoc (Err k) f g = refl

pub and_then_ok : {A : Type 0} (x : Ends A) → and_then x (λ a. Ok a) ≡ x
and_then_ok (Ok a) = refl
and_then_ok (Err k) = refl

module _ (calls : CallMeaning) (turns : ℕ) where
  -- what bindings come to, and what then goes on with the environment
  abbrev pub run_lets : {R : Type 0} → List LetTerm → Env → (Env → Ends R) → Ends R
  run_lets [] f k = k f
  run_lets (l ∷ ls) f k = and_then (right_value calls turns l.right l.site f) (λ vs. run_lets ls (bind_all f l.targets vs) k)

  pub run_chain : {R : Type 0} (ls : List LetTerm) (xs : List Var) (f : Env) (k : List ArrayValue → Ends R) → and_then (run calls turns (chain ls (Gives xs)) f) k ≡ run_lets ls f (λ g. k (map g xs))
  run_chain [] xs f k = refl
  run_chain (l ∷ ls) xs f k =
      and_then_assoc (right_value calls turns l.right l.site f) (λ vs. run calls turns (chain ls (Gives xs)) (bind_all f l.targets vs)) k
      ∙ (λ i. and_then (right_value calls turns l.right l.site f) (λ vs. run_chain ls xs (bind_all f l.targets vs) k i))

  pub run_more : {R : Type 0} (ls ms : List LetTerm) (f : Env) (k : Env → Ends R) → run_lets (ls ++ ms) f k ≡ run_lets ls f (λ g. run_lets ms g k)
  run_more [] ms f k = refl
  run_more (l ∷ ls) ms f k =
      λ i. and_then (right_value calls turns l.right l.site f) (λ vs. run_more ls ms (bind_all f l.targets vs) k i)
