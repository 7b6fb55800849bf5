-- Bindings that make the two old indices from the new one.
use Rattle.std.proofs.Common.{◌≡◌, ℕ, zero, suc, ◌+◌, ◌*◌, ◌<◌, ◌≤◌, Bool, true, false, ◌||◌, ◌&&◌, cond, eqb, List, [], ◌∷◌, ◌++◌, map, length, drop, take, get_or, Option, Some, None, Result, Ok, Err, refl, sym, ap, subst, ◌∙◌, arith, ℤ, pos, lt-ltb, le-leb}
use Rattle.std.specs.Prelude.{if◌then◌else◌, flat_map, nat_le}
use Rattle.std.specs.List.{list_all}
use Rattle.std.proofs.lemmas.Bool.{eq-eqb}
use Rattle.std.proofs.lemmas.List.{length-append}
use Rattle.sac_base.specs.declared.base.Base.TheVariants.{Int}
use Rattle.sac_base.specs.declared.faults.FaultKind.{FaultKind}
use Rattle.sac_base.specs.declared.faults.FaultKind.TheVariants.{F8}
use Rattle.sac_base.specs.declared.site.Site.{Site}
use Rattle.sac_base.specs.Arrays.{ArrayValue, MOST, scalar, vector, same_form}
use Rattle.sac_base.specs.Outcomes.{and_then, at_site}
use Rattle.sac_base.specs.Parts.{Part, check, literal, cells_of_all, further, part_at, selected, select}
use Rattle.core_ir.specs.declared.tree.Var.{Var}
use Rattle.core_ir.specs.Binders.{is_in}
use Rattle.core_ir.specs.Terms.{PlainTerm, BlockTerm, LetTerm, Plain, chain}
use Rattle.core_ir.specs.Uses.{Avoids, AvoidsEach, targets_of}
use Rattle.core_ir.specs.Meaning.{Env, CallMeaning, bind, bind_all, one, run}
use Rattle.core_ir.proofs.Unused.{unused}
use Rattle.core_ir.proofs.Variables.{in_neither, or_false}
use Rattle.core_loops.specs.merge_steps.Step.{Picks, IndicesMade}

number_at : (own : List ℤ) (j : ℕ) → j < length own → take 1 (drop j own) ≡ get_or own j (pos 0) ∷ []
number_at [] j l = absurd (omega (arith, l))
number_at (v ∷ own) zero l = refl
number_at (v ∷ own) (suc j) l = number_at own j (omega (arith, l))

from_place : (own : List ℤ) (j : ℕ) → j < length own → drop j own ≡ get_or own j (pos 0) ∷ drop (suc j) own
from_place [] j l = absurd (omega (arith, l))
from_place (v ∷ own) zero l = refl
from_place (v ∷ own) (suc j) l = from_place own j (omega (arith, l))

past : (own : List ℤ) (j : ℕ) → j ≡ length own → drop j own ≡ []
past [] zero l = refl
past [] (suc j) l = absurd (omega (arith, l))
past (v ∷ own) zero l = absurd (omega (arith, l))
past (v ∷ own) (suc j) l = past own j (omega (arith, l))

component : (own : List ℤ) (j : ℕ) → j < length own → select (vector Int own) (scalar Int (pos j)) ≡ Ok (scalar Int (get_or own j (pos 0)))
component own j l =
    let there : part_at (length own ∷ []) (pos j ∷ []) ≡ Some (record { start = j; shape = [] }) =
    ap (λ t. if t then further j [] (part_at [] []) else None) (lt-ltb j (length own) l) ∙ (λ i. Some (record { start = place j i; shape = [] })) in
    (λ i. selected (vector Int own) (there i)) ∙ (λ i. Ok (record { base = Int; shape = []; cells = number_at own j l i }))
  where
    place : (k : ℕ) → k * 1 + 0 ≡ k
    place k = omega arith

-- ---- rows of numbers

same_numbers : (v : List ℤ) (z : ℤ) → list_all (same_form (scalar Int z)) (map (scalar Int) v) ≡ true
same_numbers [] z = refl
same_numbers (x ∷ v) z = same_numbers v z

all_cells : (v : List ℤ) → cells_of_all (map (scalar Int) v) ≡ v
all_cells [] = refl
all_cells (x ∷ v) = λ i. x ∷ all_cells v i

as_long : (v : List ℤ) → length (map (scalar Int) v) ≡ length v
as_long [] = refl
as_long (x ∷ v) = ap suc (as_long v)

pub row : (v : List ℤ) → length v ≤ 8 → literal (map (scalar Int) v) ≡ Ok (vector Int v)
row [] h = refl
row (z ∷ v) h =
    (λ i. check (same_numbers v z i) Rattle.sac_base.specs.declared.faults.FaultKind.TheVariants.F3 (check (nat_le (suc (as_long v i) * 1) MOST) F8 (Ok (record { base = Int; shape = suc (as_long v i) ∷ []; cells = z ∷ all_cells v i }))))
    ∙ (λ i. check (le-leb (suc (length v) * 1) MOST (omega (arith, h)) i) F8 (Ok (vector Int (z ∷ v))))

-- ---- variables

-- variables that a block does not use may have other values
pub unused_each : (calls : CallMeaning) (turns : ℕ) (xs : List Var) (b : BlockTerm) (e f : Env) → AvoidsEach xs b → ((y : Var) → is_in y xs ≡ false → e y ≡ f y) → run calls turns b e ≡ run calls turns b f
unused_each calls turns [] b e f a h = λ i. run calls turns b (λ y. h y refl i)
unused_each calls turns (x ∷ xs) b e f a h =
    let mid : Env = λ y. cond (eqb x.0 y.0) (f y) (e y) in
    unused calls turns x b e mid a.0 (λ y n. sym (λ i. cond (n i) (f y) (e y))) ∙ unused_each calls turns xs b mid f a.1 (λ y n. go y (eqb x.0 y.0) refl n)
  where
    go : (y : Var) (b : Bool) → eqb x.0 y.0 ≡ b → is_in y xs ≡ false → cond (eqb x.0 y.0) (f y) (e y) ≡ f y
    go y true q n = λ i. cond (q i) (f y) (e y)
    go y false q n = (λ i. cond (q i) (f y) (e y)) ∙ h y (λ i. q i || n i)

module _ (calls : CallMeaning) (turns : ℕ) where
  -- the components are bound
  picked : (u : Var) (own : List ℤ) (xs : List Var) (j : ℕ) (ls : List LetTerm) (e : Env) → e u ≡ vector Int own → j + length xs ≡ length own → Picks u j xs ls
      → (f : Env) × ((X : BlockTerm) → run calls turns (chain ls X) e ≡ run calls turns X f) × ((y : Var) → is_in y (targets_of ls) ≡ false → f y ≡ e y) × (map f xs ≡ map (scalar Int) (drop j own))
  picked u own [] j ls e at l n = (e, (λ X i. run calls turns (chain (n i) X) e), (λ y h. refl), sym (ap (map (scalar Int)) (past own j (omega (arith, l)))))
  picked u own (x ∷ xs) j ls e at l n =
      let c = n.0 in
      let s = n.1.0 in
      let t = n.1.1.0 in
      let more = n.1.1.1.0 in
      let q = n.1.1.1.1 in
      let low : j < length own = omega (arith, l) in
      let k = scalar Int (pos j) in
      let w = scalar Int (get_or own j (pos 0)) in
      let e2 = bind (bind e c k) x w in
      let value : select (cond (eqb c.0 u.0) k (e u)) (cond (eqb c.0 c.0) k (e c)) ≡ Ok w =
      (λ z. select (cond (q.1 z) k (e u)) (cond (eq-eqb c.0 c.0 refl z) k (e c))) ∙ (λ z. select (at z) k) ∙ component own j low in
      let at2 : e2 u ≡ vector Int own = (λ z. cond (q.2 z) w (cond (q.1 z) k (e u))) ∙ at in
      let r = picked u own xs (suc j) more e2 at2 (omega (arith, l)) q.4 in
      let mine : r.0 x ≡ w = r.2 x q.3 ∙ (λ z. cond (eq-eqb x.0 x.0 refl z) w (bind e c k x)) in (
        r.0,
        (λ X. (λ i. run calls turns (chain (q.0 i) X) e) ∙ (λ i. and_then (one (at_site t (value i))) (λ vs. run calls turns (chain more X) (bind_all (bind e c k) (x ∷ []) vs))) ∙ r.1 X),
        (λ y h.
            let h' : is_in y (c ∷ x ∷ targets_of more) ≡ false = sym (λ i. is_in y (targets_of (q.0 i))) ∙ h in
            let a = or_false (eqb c.0 y.0) (is_in y (x ∷ targets_of more)) h' in
            let b = or_false (eqb x.0 y.0) (is_in y (targets_of more)) a.1 in
            r.2 y b.1 ∙ (λ i. cond (b.0 i) w (cond (a.0 i) k (e y)))),
        (λ i. mine i ∷ r.3 i) ∙ sym (ap (map (scalar Int)) (from_place own j low)),
      )

  front_of : (f : Env) (xs ys : List Var) (v w : List ℤ) → length xs ≡ length v → map f (xs ++ ys) ≡ map (scalar Int) (v ++ w) → (map f xs ≡ map (scalar Int) v) × (map f ys ≡ map (scalar Int) w)
  front_of f [] ys [] w l h = (refl, h)
  front_of f [] ys (z ∷ v) w l h = absurd (omega (arith, l))
  front_of f (x ∷ xs) ys [] w l h = absurd (omega (arith, l))
  front_of f (x ∷ xs) ys (z ∷ v) w l h =
      let r = front_of f xs ys v w (omega (arith, l)) (ap rest_of h) in
      ((λ i. first_of (h i) ∷ r.0 i), r.1)
    where
      rest_of : List ArrayValue → List ArrayValue
      rest_of [] = []
      rest_of (a ∷ more) = more

      first_of : List ArrayValue → ArrayValue
      first_of [] = f x
      first_of (a ∷ more) = a

  same_elsewhere : (f : Env) (i : Var) (a : ArrayValue) (ys : List Var) → is_in i ys ≡ false → map (bind f i a) ys ≡ map f ys
  same_elsewhere f i a [] h = refl
  same_elsewhere f i a (y ∷ ys) h =
      let s = or_false (eqb y.0 i.0) (is_in i ys) h in
      λ k. cond ((turned (eqb i.0 y.0) refl s.0) k) a (f y) ∷ same_elsewhere f i a ys s.1 k
    where
      turned : (b : Bool) → eqb i.0 y.0 ≡ b → eqb y.0 i.0 ≡ false → eqb i.0 y.0 ≡ false
      turned true e n = absurd (let p : true ≡ false = sym (eq-eqb y.0 i.0 (ap (λ (x : Var). x.0) (sym (Rattle.core_ir.proofs.Variables.same_number i y e)))) ∙ n in cc)
      turned false e n = e

  chain_append : (ls ms : List LetTerm) (X : BlockTerm) → chain (ls ++ ms) X ≡ chain ls (chain ms X)
  chain_append [] ms X = refl
  chain_append (l ∷ ls) ms X = λ i. Rattle.core_ir.specs.Terms.Bind l.targets l.site l.right (chain_append ls ms X i)

  -- the block behind the bindings sees the two indices
  pub made_both : (u i l : Var) (n m : ℕ) (makes : List LetTerm) (b : BlockTerm) (e : Env) (v w : List ℤ) → (h : IndicesMade u i l n m makes) → AvoidsEach (u ∷ targets_of h.picks) b → length v ≡ n → length w ≡ m → n ≤ 8 → m ≤ 8
      → run calls turns (chain makes b) (bind e u (vector Int (v ++ w))) ≡ run calls turns b (bind (bind e i (vector Int v)) l (vector Int w))
  made_both u i l n m makes b e v w h avoids lv lw sv sw =
      let F = bind e u (vector Int (v ++ w)) in
      let at : F u ≡ vector Int (v ++ w) = λ k. cond (eq-eqb u.0 u.0 refl k) (vector Int (v ++ w)) (e u) in
      let r = picked u (v ++ w) (h.front ++ h.back) 0 h.picks F at (omega (arith, length-append h.front h.back, length-append v w, h.in_front, h.behind, lv, lw)) h.picked in
      let f = r.0 in
      let both = front_of f h.front h.back v w (h.in_front ∙ sym lv) r.3 in
      let f1 = bind f i (vector Int v) in
      let back : map f1 h.back ≡ map (scalar Int) w = same_elsewhere f i (vector Int v) h.back h.alone ∙ both.1 in
      let one_row : literal (map f h.front) ≡ Ok (vector Int v) = ap literal both.0 ∙ row v (omega (arith, lv, sv)) in
      let other_row : literal (map f1 h.back) ≡ Ok (vector Int w) = ap literal back ∙ row w (omega (arith, lw, sw)) in
      let last : LetTerm = record { targets = l ∷ []; site = h.second; right = Plain (PlainTerm.Literal h.back) } in
      let prior : LetTerm = record { targets = i ∷ []; site = h.first; right = Plain (PlainTerm.Literal h.front) } in
      (λ k. run calls turns (chain (h.made k) b) F)
      ∙ (λ k. run calls turns (chain_append h.picks (prior ∷ last ∷ []) b k) F)
      ∙ r.1 (chain (prior ∷ last ∷ []) b)
      ∙ (λ k. and_then (one (at_site h.first (one_row k))) (λ vs. run calls turns (chain (last ∷ []) b) (bind_all f (i ∷ []) vs)))
      ∙ (λ k. and_then (one (at_site h.second (other_row k))) (λ vs. run calls turns b (bind_all f1 (l ∷ []) vs)))
      ∙ unused_each calls turns (u ∷ targets_of h.picks) b (bind f1 l (vector Int w)) (bind (bind e i (vector Int v)) l (vector Int w)) avoids
      (λ y n.
      let s = or_false (eqb u.0 y.0) (is_in y (targets_of h.picks)) n in
      let same : f y ≡ e y = r.2 y s.1 ∙ (λ k. cond (s.0 k) (vector Int (v ++ w)) (e y)) in
      λ k. cond (eqb l.0 y.0) (vector Int w) (cond (eqb i.0 y.0) (vector Int v) (same k)))
