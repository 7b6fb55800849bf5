-- Numbers above all variables of a term.
use Rattle.std.proofs.Common.{◌≡◌, ℕ, suc, ◌≤◌, Bool, true, false, ◌||◌, eqb, List, [], ◌∷◌, ◌++◌, map, length, drop, Option, Some, None, refl, ap, sym, ◌∙◌, arith}
use Rattle.std.specs.Prelude.{max, option_to_list}
use Rattle.std.proofs.lemmas.Bool.{eqb-true}
use Rattle.std.proofs.lemmas.List.{at_drop_all}
use Rattle.core_ir.specs.declared.tree.Var.{Var}
use Rattle.core_ir.specs.declared.tree.Block.{Block, out-Block}
use Rattle.core_ir.specs.declared.tree.Let.{Let}
use Rattle.core_ir.specs.declared.tree.CoreGen.{CoreGen}
use Rattle.core_ir.specs.declared.tree.CorePart.{CorePart}
use Rattle.core_ir.specs.declared.tree.WithLoop.{WithLoop, out-WithLoop}
use Rattle.core_ir.specs.declared.tree.PartedLoop.{PartedLoop, out-PartedLoop}
use Rattle.core_ir.specs.Terms.{BlockTerm, RightTerm, GensTerm, PartsTerm, GenHead, FunTerm, Gives, Bind, Plain, NoGens, Gen, NoParts, Part, chain, gens_of, parts_of}
use Rattle.core_ir.specs.View.{block_term, right_term, with_term, parted_term, let_term, gen_term, part_term}
use Rattle.core_ir.specs.Binders.{is_in, bound_in, bound_in_right, bound_in_gens, bound_in_parts}
use Rattle.core_ir.specs.Outcome.{param_vars}
use Rattle.core_ir.specs.Scopes.{plain_uses, op_uses, parted_uses, head_uses}
use Rattle.core_ir.specs.Uses.{AvoidsAll, Avoids, AvoidsRight, AvoidsGens, AvoidsParts}
use Rattle.core_ir.proofs.Trees.{block_out, with_out, parted_out}
use Rattle.core_ir.proofs.Variables.{in_more}
use Rattle.core_subst.specs.Names.{above_all, above_option, above_head, above, above_right, above_gens, above_parts, above_function, variable, IsNew}

-- ---- of the lists that vectors hold

abbrev pub lets_above : List Let → ℕ
lets_above [] = 0
lets_above (l ∷ ls) = max (above_all l.targets.items) (max (above_right (right_term l.right)) (lets_above ls))

abbrev pub gens_above : List CoreGen → ℕ
gens_above [] = 0
gens_above (g ∷ gs) =
    let h = (gen_term g).head in
    max (above_head h) (max (above_all (h.index ∷ h.names)) (max (above (gen_term g).body) (gens_above gs)))

abbrev pub parts_above : List CorePart → ℕ
parts_above [] = 0
parts_above (p ∷ ps) = max (suc (part_term p).head.index.0) (max (above (part_term p).body) (parts_above ps))

three : (a b c d n m : ℕ) → n ≡ max m d → max a (max b n) ≡ max (max a (max b m)) d
three a b c d n m p = omega arith

lets_end : (ls : List Let) (rs : List Var) → above (chain (map let_term ls) (Gives rs)) ≡ max (lets_above ls) (above_all rs)
lets_end [] rs = omega arith
lets_end (l ∷ ls) rs = three (above_all l.targets.items) (above_right (right_term l.right)) 0 (above_all rs) _ (lets_above ls) (lets_end ls rs)

gens_end : (gs : List CoreGen) → above_gens (gens_of (map gen_term gs)) ≡ gens_above gs
gens_end [] = refl
gens_end (g ∷ gs) =
    let h = (gen_term g).head in
    ap (λ n. max (above_head h) (max (above_all (h.index ∷ h.names)) (max (above (gen_term g).body) n))) (gens_end gs)

parts_end : (ps : List CorePart) → above_parts (parts_of (map part_term ps)) ≡ parts_above ps
parts_end [] = refl
parts_end (p ∷ ps) = ap (λ n. max (suc (part_term p).head.index.0) (max (above (part_term p).body) n)) (parts_end ps)

pub block_above : (b : Block) → above (block_term b) ≡ max (lets_above (out-Block b).lets.items) (above_all (out-Block b).results.items)
block_above b = ap above (block_out b) ∙ lets_end (out-Block b).lets.items (out-Block b).results.items

pub with_above : (w : WithLoop) → above_right (with_term w) ≡ max (above_all (op_uses (out-WithLoop w).op)) (gens_above (out-WithLoop w).gens.items)
with_above w = ap above_right (with_out w) ∙ ap (max (above_all (op_uses (out-WithLoop w).op))) (gens_end (out-WithLoop w).gens.items)

pub parted_above : (p : PartedLoop) → above_right (parted_term p) ≡ max (above_all (parted_uses (out-PartedLoop p).op)) (parts_above (out-PartedLoop p).parts.items)
parted_above p = ap above_right (parted_out p) ∙ ap (max (above_all (parted_uses (out-PartedLoop p).op))) (parts_end (out-PartedLoop p).parts.items)

-- ---- a number that is not below

left : (a b n : ℕ) → max a b ≤ n → a ≤ n
left a b n h = omega arith

right : (a b n : ℕ) → max a b ≤ n → b ≤ n
right a b n h = omega arith

differs : (a n : ℕ) → suc a ≤ n → eqb a n ≡ false
differs a n h = go (eqb a n) refl
  where
    go : (t : Bool) → eqb a n ≡ t → eqb a n ≡ false
    go true e = absurd (let p = eqb-true a n e in omega arith)
    go false e = e

differs' : (a n : ℕ) → suc a ≤ n → eqb n a ≡ false
differs' a n h = go (eqb n a) refl
  where
    go : (t : Bool) → eqb n a ≡ t → eqb n a ≡ false
    go true e = absurd (let p = eqb-true n a e in omega arith)
    go false e = e

not_in : (xs : List Var) (n : ℕ) → above_all xs ≤ n → is_in (variable n) xs ≡ false
not_in [] n h = refl
not_in (x ∷ xs) n h = λ i. differs x.0 n (left (suc x.0) (above_all xs) n h) i || not_in xs n (right (suc x.0) (above_all xs) n h) i

not_used : (xs : List Var) (n : ℕ) → above_all xs ≤ n → AvoidsAll (variable n) xs
not_used [] n h = tt
not_used (x ∷ xs) n h = (differs' x.0 n (left (suc x.0) (above_all xs) n h), not_used xs n (right (suc x.0) (above_all xs) n h))

in_none : (x : Var) (ys zs : List Var) → is_in x ys ≡ false → is_in x zs ≡ false → is_in x (ys ++ zs) ≡ false
in_none x ys zs p q = in_more x ys zs ∙ (λ i. p i || q i)

avoids_more : (x : Var) (ys zs : List Var) → AvoidsAll x ys → AvoidsAll x zs → AvoidsAll x (ys ++ zs)
avoids_more x [] zs p q = q
avoids_more x (y ∷ ys) zs p q = (p.0, avoids_more x ys zs p.1 q)

option_avoided : (o : Option Var) (n : ℕ) → above_option o ≤ n → AvoidsAll (variable n) (option_to_list o)
option_avoided None n h = tt
option_avoided (Some x) n h = (differs' x.0 n h, tt)

head_avoided : (g : GenHead) (n : ℕ) → above_head g ≤ n → AvoidsAll (variable n) (head_uses g)
head_avoided g n h =
    let l = above_option g.lower in let u = above_option g.upper in let s = above_option g.step in let w = above_option g.width in
    let h1 = right l (max u (max s w)) n h in
    let h2 = right u (max s w) n h1 in
    avoids_more (variable n) (option_to_list g.lower) _ (option_avoided g.lower n (left l (max u (max s w)) n h))
    (avoids_more (variable n) (option_to_list g.upper) _ (option_avoided g.upper n (left u (max s w) n h1))
    (avoids_more (variable n) (option_to_list g.step) _ (option_avoided g.step n (left s w n h2)) (option_avoided g.width n (right s w n h2))))

mutual
  pub block_new : (b : BlockTerm) (n : ℕ) → above b ≤ n → Avoids (variable n) b × (is_in (variable n) (bound_in b) ≡ false)
  block_new (Gives xs) n h = (not_used xs n h, refl)
  block_new (Bind xs s r b) n h =
      let hx = left (above_all xs) _ n h in
      let h1 = right (above_all xs) (max (above_right r) (above b)) n h in
      let p = right_new r n (left (above_right r) (above b) n h1) in
      let q = block_new b n (right (above_right r) (above b) n h1) in
      ((p.0, q.0), in_none (variable n) xs _ (not_in xs n hx) (in_none (variable n) (bound_in_right r) (bound_in b) p.1 q.1))

  pub right_new : (r : RightTerm) (n : ℕ) → above_right r ≤ n → AvoidsRight (variable n) r × (is_in (variable n) (bound_in_right r) ≡ false)
  right_new (Plain p) n h = (not_used (plain_uses p) n h, refl)
  right_new (RightTerm.If x a b) n h =
      let h1 = right (suc x.0) (max (above a) (above b)) n h in
      let p = block_new a n (left (above a) (above b) n h1) in
      let q = block_new b n (right (above a) (above b) n h1) in
      ((differs' x.0 n (left (suc x.0) (max (above a) (above b)) n h), p.0, q.0), in_none (variable n) (bound_in a) (bound_in b) p.1 q.1)
  right_new (RightTerm.Loop first start params a b s) n h =
      let h1 = right (above_all start) (max (above_all params) (max (above a) (above b))) n h in
      let h2 = right (above_all params) (max (above a) (above b)) n h1 in
      let p = block_new a n (left (above a) (above b) n h2) in
      let q = block_new b n (right (above a) (above b) n h2) in
      ((not_used start n (left (above_all start) _ n h), p.0, q.0), in_none (variable n) params _ (not_in params n (left (above_all params) (max (above a) (above b)) n h1)) (in_none (variable n) (bound_in a) (bound_in b) p.1 q.1))
  right_new (RightTerm.Call g xs) n h = (not_used xs n h, refl)
  right_new (RightTerm.With o gens) n h =
      let q = gens_new gens n (right (above_all (op_uses o)) (above_gens gens) n h) in
      ((not_used (op_uses o) n (left (above_all (op_uses o)) (above_gens gens) n h), q.0), q.1)
  right_new (RightTerm.Parted f b c o parts) n h =
      let q = parts_new parts n (right (above_all (parted_uses o)) (above_parts parts) n h) in
      ((not_used (parted_uses o) n (left (above_all (parted_uses o)) (above_parts parts) n h), q.0), q.1)

  pub gens_new : (g : GensTerm) (n : ℕ) → above_gens g ≤ n → AvoidsGens (variable n) g × (is_in (variable n) (bound_in_gens g) ≡ false)
  gens_new NoGens n h = (tt, refl)
  gens_new (Gen g b rest) n h =
      let xs = g.index ∷ g.names in
      let h1 = right (above_head g) (max (above_all xs) (max (above b) (above_gens rest))) n h in
      let h2 = right (above_all xs) (max (above b) (above_gens rest)) n h1 in
      let p = block_new b n (left (above b) (above_gens rest) n h2) in
      let q = gens_new rest n (right (above b) (above_gens rest) n h2) in
      ((head_avoided g n (left (above_head g) (max (above_all xs) (max (above b) (above_gens rest))) n h), p.0, q.0), in_none (variable n) xs _ (not_in xs n (left (above_all xs) (max (above b) (above_gens rest)) n h1)) (in_none (variable n) (bound_in b) (bound_in_gens rest) p.1 q.1))

  pub parts_new : (g : PartsTerm) (n : ℕ) → above_parts g ≤ n → AvoidsParts (variable n) g × (is_in (variable n) (bound_in_parts g) ≡ false)
  parts_new NoParts n h = (tt, refl)
  parts_new (Part g b rest) n h =
      let h1 = right (suc g.index.0) (max (above b) (above_parts rest)) n h in
      let p = block_new b n (left (above b) (above_parts rest) n h1) in
      let q = parts_new rest n (right (above b) (above_parts rest) n h1) in
      ((p.0, q.0), in_none (variable n) (g.index ∷ []) _ ((λ i. differs g.index.0 n (left (suc g.index.0) (max (above b) (above_parts rest)) n h) i || false)) (in_none (variable n) (bound_in b) (bound_in_parts rest) p.1 q.1))

-- the number above all variables of a function is that of a new one
pub function_new : (f : FunTerm) → IsNew f (variable (above_function f))
function_new f =
    let a = above_all (param_vars f) in
    let b = above f.body in
    let q = block_new f.body (max a b) (right a b (max a b) (omega arith)) in
    record { params = not_in (param_vars f) (max a b) (left a b (max a b) (omega arith)); bound = q.1; unused = q.0 }

-- ---- loops over lists

-- after a loop: the number is that of the whole list
pub ended : {A : Type 0} (f : List A → ℕ) (n start i : ℕ) (items all : List A) → f [] ≡ 0 → max n (f (drop i items)) ≡ max start (f items) → length items ≤ i → items ≡ all → n ≡ max start (f all)
ended f n start i items all z p over q =
    let none : f (drop i items) ≡ 0 = at_drop_all f items i over ∙ z in
    let more : n ≡ max n 0 = omega arith in
    more ∙ (λ j. max n (sym none j)) ∙ p ∙ ap (λ xs. max start (f xs)) q

pub turned : (a b c d : ℕ) → a ≡ max b c → b ≡ d → a ≡ max c d
turned a b c d p q = omega arith

pub started : (n a b c : ℕ) → n ≡ max a c → a ≡ b → n ≡ max b c
started n a b c p q = p ∙ (λ i. max (q i) c)
