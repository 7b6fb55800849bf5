-- A producer and what stands behind it in its block.
use Rattle.std.proofs.Common.{◌≡◌, ℕ, zero, suc, ◌+◌, ◌<◌, List, [], ◌∷◌, ◌++◌, map, length, drop, get_or, reverse, Option, Some, refl, sym, ap, subst, ◌∙◌, append-nil, arith}
use Rattle.std.specs.Prelude.{slice_get, unwrap_or}
use Rattle.std.proofs.lemmas.List.{length-append}
use Rattle.core_ir.specs.declared.tree.Var.{Var}
use Rattle.core_ir.specs.declared.tree.Let.{Let}
use Rattle.core_ir.specs.Terms.{BlockTerm, LetTerm, Gives, Bind, chain}
use Rattle.core_ir.specs.Uses.{AvoidsAll, Avoids, AvoidsRight}
use Rattle.core_ir.specs.View.{let_term}
use Rattle.core_loops.specs.Pairs.{AvoidsLets}
use Rattle.binding_users.specs.Users.{IsSoleUser}
use Rattle.fold_walk.proofs.Learned.{reverse_cons}
use Rattle.binding_users.proofs.Found.{lets_both}

-- ---- bindings the other way round

pub reverse_lets : (x : Var) (ls : List LetTerm) → AvoidsLets x ls → AvoidsLets x (reverse ls)
reverse_lets x [] h = tt
reverse_lets x (l ∷ ls) h = subst (AvoidsLets x) (sym (reverse_cons l ls)) (lets_both x (reverse ls) (l ∷ []) (reverse_lets x ls h.1) (h.0, tt))

pub chain_avoids : (x : Var) (ls : List LetTerm) (b : BlockTerm) → AvoidsLets x ls → Avoids x b → Avoids x (chain ls b)
chain_avoids x [] b h k = k
chain_avoids x (l ∷ ls) b h k = (h.0, chain_avoids x ls b h.1 k)

pub avoids_lets : (x : Var) (ls : List LetTerm) (rs : List Var) → Avoids x (chain ls (Gives rs)) → AvoidsLets x ls × AvoidsAll x rs
avoids_lets x [] rs h = (tt, h)
avoids_lets x (l ∷ ls) rs h = let w = avoids_lets x ls rs h.1 in ((h.0, w.0), w.1)

pub chain_both : (ls ks : List LetTerm) (b : BlockTerm) → chain (ls ++ ks) b ≡ chain ls (chain ks b)
chain_both [] ks b = refl
chain_both (l ∷ ls) ks b = ap (Bind l.targets l.site l.right) (chain_both ls ks b)

-- ---- the bindings of a block

abbrev pub bindings_in : BlockTerm → List LetTerm
bindings_in (Gives xs) = []
bindings_in (Bind xs s r b) = record { targets = xs; site = s; right = r } ∷ bindings_in b

abbrev pub results_in : BlockTerm → List Var
results_in (Gives xs) = xs
results_in (Bind xs s r b) = results_in b

pub bindings_of : (ls : List LetTerm) (b : BlockTerm) → bindings_in (chain ls b) ≡ ls ++ bindings_in b
bindings_of [] b = refl
bindings_of (l ∷ ls) b = ap (λ ks. l ∷ ks) (bindings_of ls b)

pub results_of : (ls : List LetTerm) (b : BlockTerm) → results_in (chain ls b) ≡ results_in b
results_of [] b = refl
results_of (l ∷ ls) b = results_of ls b

pub whole : (b : BlockTerm) → chain (bindings_in b) (Gives (results_in b)) ≡ b
whole (Gives xs) = refl
whole (Bind xs s r b) = ap (Bind xs s r) (whole b)

-- what stands behind some bindings of a block that is a list of bindings
pub record Behind (ls ks : List LetTerm) (l : LetTerm) (rs : List Var) (rest : BlockTerm) : Type 0 where
  pub tail : List LetTerm
  pub lets : ls ≡ ks ++ (l ∷ tail)
  pub end : rest ≡ chain tail (Gives rs)

pub behind : (ls ks : List LetTerm) (l : LetTerm) (rs : List Var) (rest : BlockTerm) → chain ls (Gives rs) ≡ chain ks (Bind l.targets l.site l.right rest) → Behind ls ks l rs rest
behind ls ks l rs rest e = record {
  tail = bindings_in rest;
  lets = sym (bindings_of ls (Gives rs) ∙ append-nil ls) ∙ ap bindings_in e ∙ bindings_of ks (Bind l.targets l.site l.right rest);
  end = sym (whole rest) ∙ (λ i. chain (bindings_in rest) (Gives (sym (sym (results_of ls (Gives rs)) ∙ ap results_in e ∙ results_of ks (Bind l.targets l.site l.right rest)) i)));
}

-- ---- the one user by its place

at_after : (bs zs : List LetTerm) (u : LetTerm) (n : ℕ) → length bs ≡ n → drop (n + 1) (bs ++ (u ∷ zs)) ≡ zs
at_after bs zs u n e = let one : n + 1 ≡ suc n = omega arith in ap (λ k. drop k (bs ++ (u ∷ zs))) one ∙ go bs n e
  where
    go : (bs : List LetTerm) (n : ℕ) → length bs ≡ n → drop (suc n) (bs ++ (u ∷ zs)) ≡ zs
    go [] zero e = refl
    go [] (suc n) e = absurd (omega (arith, e))
    go (b ∷ bs) zero e = absurd (omega (arith, e))
    go (b ∷ bs) (suc n) e = go bs n (omega (arith, e))

pub map_drop : (ls : List Let) (n : ℕ) → map let_term (drop n ls) ≡ drop n (map let_term ls)
map_drop [] zero = refl
map_drop [] (suc n) = refl
map_drop (x ∷ xs) zero = refl
map_drop (x ∷ xs) (suc n) = map_drop xs n

-- what comes after it
pub after_is : (x : Var) (lets : List LetTerm) (rs : List Var) (place : ℕ) → (h : IsSoleUser x lets rs place) → drop (place + 1) lets ≡ h.after
after_is x lets rs place h = ap (drop (place + 1)) h.whole ∙ at_after h.before h.after h.user place h.at

pub get_here : (ls : List Let) (place : ℕ) (d : Let) → place < length ls → slice_get (map let_term ls) place ≡ Some (let_term (get_or ls place d))
get_here [] place d h = absurd (omega (arith, h))
get_here (x ∷ xs) zero d h = refl
get_here (x ∷ xs) (suc place) d h = get_here xs place d (omega (arith, h))

get_user : (bs zs : List LetTerm) (u : LetTerm) (n : ℕ) → length bs ≡ n → slice_get (bs ++ (u ∷ zs)) n ≡ Some u
get_user [] zs u zero e = refl
get_user [] zs u (suc n) e = absurd (omega (arith, e))
get_user (b ∷ bs) zs u zero e = absurd (omega (arith, e))
get_user (b ∷ bs) zs u (suc n) e = get_user bs zs u n (omega (arith, e))

pub user_at : (x : Var) (lets : List LetTerm) (rs : List Var) (place : ℕ) (h : IsSoleUser x lets rs place) → slice_get lets place ≡ Some h.user
user_at x lets rs place h = (λ i. slice_get (h.whole i) place) ∙ get_user h.before h.after h.user place h.at

pub some_let : (a b : LetTerm) → ◌≡◌ {A = Option LetTerm} (Some a) (Some b) → a ≡ b
some_let a b e = ap (λ (o : Option LetTerm). unwrap_or o a) e

-- the binding at its place
pub user_is : (x : Var) (behind : List Let) (rs : List Var) (place : ℕ) (d : Let) → place < length behind → (h : IsSoleUser x (map let_term behind) rs place) → let_term (get_or behind place d) ≡ h.user
user_is x behind rs place d inside h =
    some_let (let_term (get_or behind place d)) h.user (sym (get_here behind place d inside) ∙ (λ i. slice_get (h.whole i) place) ∙ get_user h.before h.after h.user place h.at)

-- its place lies inside
pub place_inside : (x : Var) (behind : List Let) (rs : List Var) (place : ℕ) → IsSoleUser x (map let_term behind) rs place → place < length behind
place_inside x behind rs place h =
    less (length h.before) place (length h.after) (length behind) h.at (sym (map_length behind) ∙ ap length h.whole ∙ length-append h.before (h.user ∷ h.after))
  where
    less : (b p a n : ℕ) → b ≡ p → n ≡ b + suc a → p < n
    less b p a n e f = omega (arith, e, f)

    map_length : (xs : List Let) → length (map let_term xs) ≡ length xs
    map_length [] = refl
    map_length (x ∷ xs) = ap suc (map_length xs)

-- two ways to part a list at the same place
same_parts : (bs zs cs ds : List LetTerm) (u v : LetTerm) → bs ++ (u ∷ zs) ≡ cs ++ (v ∷ ds) → length bs ≡ length cs → (bs ≡ cs) × (u ≡ v) × (zs ≡ ds)
same_parts [] zs [] ds u v e l = (refl, ap (λ (k : List LetTerm). get_or k 0 u) e, ap (λ (k : List LetTerm). drop 1 k) e)
same_parts [] zs (c ∷ cs) ds u v e l = absurd (omega (arith, l))
same_parts (b ∷ bs) zs [] ds u v e l = absurd (omega (arith, l))
same_parts (b ∷ bs) zs (c ∷ cs) ds u v e l =
    let w = same_parts bs zs cs ds u v (ap (λ (k : List LetTerm). drop 1 k) e) (omega (arith, l)) in
    let first : b ≡ c = ap (λ (k : List LetTerm). get_or k 0 b) e in
    ((λ i. first i ∷ w.0 i), w.1, w.2)

-- the one user has one place
same_place :
    (x : Var) (bs zs cs ds : List LetTerm) (u v : LetTerm) → bs ++ (u ∷ zs) ≡ cs ++ (v ∷ ds) → AvoidsLets x bs → AvoidsLets x cs → (AvoidsRight x u.right → ⊥) → (AvoidsRight x v.right → ⊥) → length bs ≡ length cs
same_place x [] zs [] ds u v e b c i j = refl
same_place x [] zs (w ∷ cs) ds u v e b c i j = absurd (i (subst (λ (l : LetTerm). AvoidsRight x l.right) (sym (ap (λ (k : List LetTerm). get_or k 0 u) e)) c.0))
same_place x (w ∷ bs) zs [] ds u v e b c i j = absurd (j (subst (λ (l : LetTerm). AvoidsRight x l.right) (ap (λ (k : List LetTerm). get_or k 0 w) e) b.0))
same_place x (w ∷ bs) zs (y ∷ cs) ds u v e b c i j = ap suc (same_place x bs zs cs ds u v (ap (λ (k : List LetTerm). drop 1 k) e) b.1 c.1 i j)

pub same_user : (x : Var) (lets : List LetTerm) (rs : List Var) (m n : ℕ) (h : IsSoleUser x lets rs m) (g : IsSoleUser x lets rs n) → (h.before ≡ g.before) × (h.user ≡ g.user) × (h.after ≡ g.after)
same_user x lets rs m n h g =
    same_parts h.before h.after g.before g.after h.user g.user (sym h.whole ∙ g.whole)
    (same_place x h.before h.after g.before g.after h.user g.user (sym h.whole ∙ g.whole) h.others.0 g.others.0 h.used g.used)
