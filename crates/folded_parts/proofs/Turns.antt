-- A body whose bindings are folded one after another.
use Rattle.std.proofs.Common.{◌≡◌, ℕ, Bool, suc, ◌+◌, List, [], ◌∷◌, ◌++◌, map, length, Some, None, refl, sym, ap, subst, ◌∙◌, arith}
use Rattle.std.specs.Prelude.{Vec}
use Rattle.std.specs.declared.alloc.Global.{Global}
use Rattle.core_ir.specs.declared.tree.Var.{Var}
use Rattle.core_ir.specs.declared.tree.Block.{Block, Block-F, out-Block, roll-Block}
use Rattle.core_ir.specs.declared.tree.Let.{Let}
use Rattle.core_ir.specs.declared.tree.Right.{Right}
use Rattle.core_ir.specs.declared.tree.Right.TheVariants as right
use Rattle.core_ir.specs.declared.tree.WithLoop.{WithLoop'}
use Rattle.core_ir.specs.declared.tree.PartedLoop.{PartedLoop'}
use Rattle.sac_base.specs.declared.site.Site.{Site}
use Rattle.core_ir.specs.declared.tree.Right.TheBlock.{the_data, the_data-1, the_data-2, the_data-3, the_data-4, the_data-5, the_data-6}
use Rattle.core_ir.specs.Terms.{BlockTerm, RightTerm, LetTerm, PartTerm, Gives, Bind, chain}
use Rattle.core_ir.specs.View.{block_term, let_term, right_term}
use Rattle.core_ir.proofs.Trees.{block_out, block_roll}
use Rattle.folded_parts.specs.Folding.{BlockFolded, ends, takes, keeps, branches, turns, RightFolded, LetFolded, IsWhole, chosen, copy_binds, taken}

pub chain_both : (ls ks : List LetTerm) (x : BlockTerm) → chain (ls ++ ks) x ≡ chain ls (chain ks x)
chain_both [] ks x = refl
chain_both (l ∷ ls) ks x = ap (Bind l.targets l.site l.right) (chain_both ls ks x)

pub map_snoc : {A B : Type 0} (f : A → B) (xs : List A) (x : A) → map f (xs ++ (x ∷ [])) ≡ map f xs ++ (f x ∷ [])
map_snoc f [] x = refl
map_snoc f (y ∷ ys) x = ap (λ l. f y ∷ l) (map_snoc f ys x)

pub map_both : {A B : Type 0} (f : A → B) (xs ys : List A) → map f (xs ++ ys) ≡ map f xs ++ map f ys
map_both f [] ys = refl
map_both f (x ∷ xs) ys = ap (λ l. f x ∷ l) (map_both f xs ys)

-- an iterator with nothing left
pub none_left : {A : Type 0} (len : ℕ) (items : List A) → len ≡ 0 → len ≡ length items → items ≡ []
none_left len [] p q = refl
none_left len (x ∷ xs) p q = absurd (omega arith)

module _ (p : Var) (parts : List PartTerm) (holders : List ℕ) where
  -- whatever becomes of the rest, the bindings so far are folded
  abbrev pub Going : ℕ → ℕ → List Let → List Let → List Let → ℕ → ℕ → Type 0
  Going i n all folded rest j m =
      (b d : BlockTerm) (k t : ℕ) → BlockFolded p parts holders j m (chain (map let_term rest) b) d k t →
      BlockFolded p parts holders i n (chain (map let_term all) b) (chain (map let_term folded) d) k t

  pub going_first : (i n : ℕ) (all folded : List Let) → folded ≡ [] → Going i n all folded all i n
  going_first i n all folded e b d k t h = subst (λ (ls : List Let). BlockFolded p parts holders i n (chain (map let_term all) b) (chain (map let_term ls) d) k t) (sym e) h

  pub going_on : (i n j m j' m' : ℕ) (all folded folded' rest rest' : List Let) (x : Let) (ls : List LetTerm) → Going i n all folded rest j m → rest ≡ x ∷ rest' → map let_term folded' ≡ map let_term folded ++ ls →
      LetFolded p parts holders j m (let_term x) ls j' m' → Going i n all folded' rest' j' m'
  going_on i n j m j' m' all folded folded' rest rest' x ls g e q f b d k t h =
      let one : BlockFolded p parts holders j m (chain (map let_term rest) b) (chain ls d) k t =
      subst (λ (zs : List Let). BlockFolded p parts holders j m (chain (map let_term zs) b) (chain ls d) k t) (sym e) (f (chain (map let_term rest') b) d k t h) in
      subst (λ (z : BlockTerm). BlockFolded p parts holders i n (chain (map let_term all) b) z k t) (sym (chain_both (map let_term folded) ls d) ∙ (λ c. chain (sym q c) d)) (g b (chain ls d) k t one)

  pub block_folded : (i n j m : ℕ) (x : Block-F the_data the_data-1 the_data-2 the_data-3 the_data-4 the_data-5 the_data-6) (all rest : List Let) (block : Block) → Going i n all x.lets.items rest j m → rest ≡ [] →
      all ≡ (out-Block block).lets.items → x.results.items ≡ (out-Block block).results.items → BlockFolded p parts holders i n (block_term block) (block_term (roll-Block x)) j m
  block_folded i n j m x all rest block g none e r =
      let rs = (out-Block block).results.items in
      let last : BlockFolded p parts holders j m (chain (map let_term rest) (Gives rs)) (Gives rs) j m = subst (λ (zs : List Let). BlockFolded p parts holders j m (chain (map let_term zs) (Gives rs)) (Gives rs) j m) (sym none) ends in
      subst (λ (z : BlockTerm). BlockFolded p parts holders i n z (block_term (roll-Block x)) j m) ((λ c. chain (map let_term (e c)) (Gives rs)) ∙ sym (block_out block))
      (subst (λ (z : BlockTerm). BlockFolded p parts holders i n (chain (map let_term all) (Gives rs)) z j m) ((λ c. chain (map let_term x.lets.items) (Gives (sym r c))) ∙ sym (block_roll x)) (g (Gives rs) (Gives rs) j m last))

  -- ---- one binding

  pub let_kept : (i n j m : ℕ) (l k : LetTerm) → k.targets ≡ l.targets → k.site ≡ l.site → chosen p parts holders i l.right ≡ None → RightFolded p parts holders i n l.right k.right j m → LetFolded p parts holders i n l (k ∷ []) j m
  let_kept i n j m l k a s c f b d t u h = subst (λ (y : BlockTerm). BlockFolded p parts holders i n (Bind l.targets l.site l.right b) y t u) (λ z. Bind (sym a z) (sym s z) k.right d) (keeps c f h)

  pub let_taken : (i i' n m : ℕ) (l : LetTerm) (index : Var) (part : PartTerm) → i' ≡ suc i → m ≡ n + copy_binds part → chosen p parts holders i l.right ≡ Some (index, part) → LetFolded p parts holders i n l (taken part index l.targets l.site n) i' m
  let_taken i i' n m l index part e q c b d t u h =
      takes c (subst (λ (z : ℕ). BlockFolded p parts holders (suc i) z b d t u) q (subst (λ (z : ℕ). BlockFolded p parts holders z m b d t u) e h))

  -- ---- right sides with blocks

  pub if_folded : {i n j l k m : ℕ} {x : Var} {a b c d : BlockTerm} {r : RightTerm} → r ≡ RightTerm.If x a b → BlockFolded p parts holders i n a c j l → BlockFolded p parts holders j l b d k m → RightFolded p parts holders i n r (RightTerm.If x c d) k m
  if_folded {i = i} {n = n} {k = k} {m = m} {x = x} {c = c} {d = d} e f g = subst (λ (z : RightTerm). RightFolded p parts holders i n z (RightTerm.If x c d) k m) (sym e) (branches f g)

  pub loop_folded :
      {i n j l k m : ℕ} {first : Bool} {start params : List Var} {a b c d : BlockTerm} {s : Site} {r : RightTerm} → r ≡ RightTerm.Loop first start params a b s → BlockFolded p parts holders i n a c j l →
      BlockFolded p parts holders j l b d k m → RightFolded p parts holders i n r (RightTerm.Loop first start params c d s) k m
  loop_folded {i = i} {n = n} {k = k} {m = m} {first = first} {start = start} {params = params} {c = c} {d = d} {s = s} e f g =
      subst (λ (z : RightTerm). RightFolded p parts holders i n z (RightTerm.Loop first start params c d s) k m) (sym e) (turns f g)

-- the same targets under another name
pub taken_at : (part : PartTerm) (index : Var) (site : Site) (n : ℕ) (ts us : List Var) (before after : List LetTerm) → after ≡ before ++ taken part index ts site n → ts ≡ us → after ≡ before ++ taken part index us site n
taken_at part index site n ts us before after e f = subst (λ (zs : List Var). after ≡ before ++ taken part index zs site n) f e

-- what is neither a conditional nor a loop is kept whole
pub is_whole :
    (r : Right) → ((cond : Var) (yes no : Block) → r ≡ right.If cond yes no → ⊥) →
    ((first : Bool) (start params : Vec Var Global) (test body : Block) (site : Site) → r ≡ right.Loop first start params test body site → ⊥) → IsWhole (right_term r)
is_whole (right.If c a b) h l = absurd (h c a b refl)
is_whole (right.Loop f xs ps a b s) h l = absurd (l f xs ps a b s refl)
is_whole (right.Const a) h l = tt
is_whole (right.Copy x) h l = tt
is_whole (right.Unary op x) h l = tt
is_whole (right.Binary op x y) h l = tt
is_whole (right.Literal xs) h l = tt
is_whole (right.Dim x) h l = tt
is_whole (right.ShapeOf x) h l = tt
is_whole (right.Reshape x y) h l = tt
is_whole (right.Select x y) h l = tt
is_whole (right.Replace x y z) h l = tt
is_whole (right.Call group args) h l = tt
is_whole (right.With (WithLoop' shape gens op)) h l = tt
is_whole (right.Parted (PartedLoop' frame base cell op shape parts)) h l = tt
is_whole (right.Always k) h l = tt
is_whole (right.Check x t) h l = tt
