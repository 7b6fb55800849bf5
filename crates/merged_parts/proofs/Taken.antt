-- The first parted loop of a body, taken out of it.
use Rattle.std.proofs.Common.{◌≡◌, ℕ, suc, ◌+◌, ◌<◌, List, [], ◌∷◌, ◌++◌, map, length, take, drop, get_or, refl, ap, sym, ◌∙◌, arith, Option, Some, None, true, true≢false}
use Rattle.std.proofs.lemmas.List.{length-map, map-append}
use Rattle.std.specs.Prelude.{option_map}
use Rattle.core_ir.specs.declared.tree.Block.{Block, Block-F, out-Block, roll-Block}
use Rattle.core_ir.specs.declared.tree.Let.{Let}
use Rattle.core_ir.specs.declared.tree.PartedLoop.{PartedLoop}
use Rattle.core_ir.specs.declared.tree.Right.TheVariants as right
use Rattle.core_ir.specs.declared.tree.Right.TheBlock.{the_data, the_data-1, the_data-2, the_data-3, the_data-4, the_data-5, the_data-6}
use Rattle.core_ir.specs.declared.tree.Var.{Var}
use Rattle.core_ir.specs.Terms.{LetTerm, Gives, Bind, chain}
use Rattle.core_ir.specs.View.{block_term, let_term, right_term}
use Rattle.core_ir.proofs.Trees.{block_out, block_roll}
use Rattle.merge_plans.specs.declared.finding.Nest.{Nest}
use Rattle.merge_plans.specs.Openings.{Opened, is_parted, lets_of, nest_term, opened}
use Rattle.merge_plans.proofs.InnerLoops.{found_is, none_is}
use Rattle.merge_plans.proofs.Opens.{lets_chain, loop_is, not_parted, whole}
use Rattle.merged_parts.specs.Splitting.{split, split_of, split_term}

-- ---- a list around one element

same_head : {A : Type 0} (x y : A) (xs ys : List A) → x ∷ xs ≡ y ∷ ys → x ≡ y
same_head x y xs ys e = ap (λ zs. get_or zs 0 x) e

same_tail : {A : Type 0} (x y : A) (xs ys : List A) → x ∷ xs ≡ y ∷ ys → xs ≡ ys
same_tail x y xs ys e = ap (drop 1) e

pub record Around {A B : Type 0} (f : A → B) (xs : List A) (ys : List B) (y : B) (zs : List B) : Type 0 where
  pub inside : length ys < length xs
  pub front : map f (take (length ys) xs) ≡ ys
  pub at : (d : A) → f (get_or xs (length ys) d) ≡ y
  pub behind : map f (drop (suc (length ys)) xs) ≡ zs

pub around : {A B : Type 0} (f : A → B) (xs : List A) (ys : List B) (y : B) (zs : List B) → map f xs ≡ ys ++ (y ∷ zs) → Around f xs ys y zs
around f [] [] y zs e = absurd (cc)
around f [] (w ∷ ws) y zs e = absurd (cc)
around f (x ∷ xs) [] y zs e = record { inside = omega arith; front = refl; at = λ d. same_head (f x) y (map f xs) zs e; behind = same_tail (f x) y (map f xs) zs e }
around f (x ∷ xs) (w ∷ ws) y zs e =
    let rest = around f xs ws y zs (same_tail (f x) w (map f xs) (ws ++ (y ∷ zs)) e) in
    let inside = rest.inside in
    record { inside = omega (arith, inside); front = λ i. same_head (f x) w (map f xs) (ws ++ (y ∷ zs)) e i ∷ rest.front i; at = λ d. rest.at d; behind = rest.behind }

-- ---- the bindings of a body

abbrev own_let : Opened → LetTerm
own_let o = record { targets = o.targets; site = o.site; right = o.right }

lets_closed : (ls ms : List LetTerm) (l : LetTerm) (rs : List Var) → lets_of (chain ls (Bind l.targets l.site l.right (chain ms (Gives rs)))) ≡ ls ++ (l ∷ ms)
lets_closed [] ms l rs = ap (λ xs. l ∷ xs) (lets_chain ms rs)
lets_closed (k ∷ ls) ms l rs = ap (λ xs. k ∷ xs) (lets_closed ls ms l rs)

pub body_around : (b : Block) (o : Opened) → opened (block_term b) ≡ Some o → Around let_term (out-Block b).lets.items o.before (own_let o) o.after
body_around b o e =
    around let_term (out-Block b).lets.items o.before (own_let o) o.after
    (sym (lets_chain (map let_term (out-Block b).lets.items) (out-Block b).results.items) ∙ ap lets_of (sym (block_out b) ∙ whole (block_term b) o e) ∙ lets_closed o.before o.after (own_let o) o.results)

-- ---- what is left of it

module _ (b : Block) (found : Option Nest) (x : Nest) (told : option_map nest_term found ≡ opened (block_term b)) (is : found ≡ Some x) where
  abbrev o : Opened
  o = nest_term x

  opens : opened (block_term b) ≡ Some o
  opens = found_is found (opened (block_term b)) x told is

  all_around : Around let_term (out-Block b).lets.items o.before (own_let o) o.after
  all_around = body_around b o opens

  place_is : length o.before ≡ length x.before.now
  place_is = length-map x.before.now let_term

  pub place_inside : (n : ℕ) → n ≡ length (out-Block b).lets.items → length x.before.now < n
  place_inside n e = let h = all_around.inside in omega (arith, h, e, place_is)

  right_is : (l d : Let) → l ≡ get_or (out-Block b).lets.items (length x.before.now) d → right_term l.right ≡ o.right
  right_is l d e = ap (λ (y : Let). right_term y.right) e ∙ (λ i. (let_term (get_or (out-Block b).lets.items (sym place_is i) d)).right) ∙ ap (λ (y : LetTerm). y.right) (all_around.at d)

  parted_is : is_parted o.right ≡ true
  parted_is = loop_is x.inner.now

  pub taken_is :
      (l d : Let) (ls : List Let) (inner : PartedLoop) (y : Block-F the_data the_data-1 the_data-2 the_data-3 the_data-4 the_data-5 the_data-6) → l ≡ get_or (out-Block b).lets.items (length x.before.now) d →
      ls ≡ take (length x.before.now) (out-Block b).lets.items ++ drop (length x.before.now + 1) (out-Block b).lets.items → right.Parted inner ≡ l.right → y.lets.items ≡ ls → y.results.items ≡ [] →
      Some (split_term (record { around = roll-Block y; inner = inner })) ≡ split (block_term b)
  taken_is l d ls inner y e f g p q =
      let xs = (out-Block b).lets.items in
      let next : length x.before.now + 1 ≡ suc (length x.before.now) = omega arith in
      let parts : map let_term ls ≡ o.before ++ o.after =
      ap (map let_term) f ∙ map-append let_term (take (length x.before.now) xs) (drop (length x.before.now + 1) xs)
      ∙ (λ i. map let_term (take (sym place_is i) xs) ++ map let_term (drop ((next ∙ ap suc (sym place_is)) i) xs)) ∙ (λ i. all_around.front i ++ all_around.behind i) in
      let block : block_term (roll-Block y) ≡ chain (o.before ++ o.after) (Gives []) =
      block_roll y ∙ (λ i. chain (map let_term (p i)) (Gives (q i))) ∙ (λ i. chain (parts i) (Gives [])) in
      (λ i. Some (record { around = block i; inner = (ap right_term g ∙ right_is l d e) i })) ∙ ap (option_map split_of) (sym opens)

  pub taken_not : (l d : Let) → l ≡ get_or (out-Block b).lets.items (length x.before.now) d → ((p : PartedLoop) → l.right ≡ right.Parted p → ⊥) → ⊥
  taken_not l d e none = true≢false (sym parted_is ∙ ap is_parted (sym (right_is l d e)) ∙ not_parted l.right none)

pub none_split : (b : Block) (found : Option Nest) → option_map nest_term found ≡ opened (block_term b) → found ≡ None → None ≡ split (block_term b)
none_split b found told is = ap (option_map split_of) (sym (none_is found (opened (block_term b)) told is))
