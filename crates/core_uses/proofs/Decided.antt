-- The tests decide whether a variable is used.
use Rattle.std.proofs.Common.{◌≡◌, ◌↔◌, IsTrue, Bool, true, false, not, ◌&&◌, eqb, List, [], ◌∷◌, ◌++◌, map, refl, sym, ap, ◌∙◌, option_to_list}
use Rattle.core_ir.specs.declared.tree.Var.{Var}
use Rattle.core_ir.specs.declared.tree.Let.{Let}
use Rattle.core_ir.specs.declared.tree.CoreGen.{CoreGen}
use Rattle.core_ir.specs.declared.tree.CorePart.{CorePart}
use Rattle.core_ir.specs.declared.tree.Block.{Block, out-Block}
use Rattle.core_ir.specs.declared.tree.WithLoop.{WithLoop, out-WithLoop}
use Rattle.core_ir.specs.declared.tree.PartedLoop.{PartedLoop, out-PartedLoop}
use Rattle.core_ir.specs.Terms.{BlockTerm, RightTerm, GensTerm, PartsTerm, GenHead, Gives, Bind, Plain, NoGens, Gen, NoParts, Part, chain, gens_of, parts_of}
use Rattle.core_ir.specs.View.{block_term, with_term, parted_term, let_term, gen_term, part_term}
use Rattle.core_ir.specs.Scopes.{plain_uses, op_uses, parted_uses, head_uses}
use Rattle.core_ir.specs.Uses.{AvoidsAll, Avoids, AvoidsRight, AvoidsGens, AvoidsParts}
use Rattle.core_ir.proofs.Trees.{block_out, with_out, parted_out}
use Rattle.core_uses.specs.Tests.{none_is, head_avoided, is_avoided, is_avoided_right, is_avoided_gens, is_avoided_parts}

-- ---- tests and types

both_is : (a b : Bool) → (a && b) ≡ true → (a ≡ true) × (b ≡ true)
both_is true b p = (refl, p)
both_is false b p = absurd (let q : ◌≡◌ {A = Bool} false true = p in cc)

is_both : (a b : Bool) → a ≡ true → b ≡ true → (a && b) ≡ true
is_both a b p q = (λ i. p i && b) ∙ q

not_is : (b : Bool) → not b ≡ true → b ≡ false
not_is true p = absurd (let q : ◌≡◌ {A = Bool} false true = p in cc)
not_is false p = refl

list_in : (x : Var) (ys : List Var) → none_is x ys ≡ true → AvoidsAll x ys
list_in x [] p = tt
list_in x (y ∷ ys) p = let w = both_is (not (eqb x.0 y.0)) (none_is x ys) p in (not_is (eqb x.0 y.0) w.0, list_in x ys w.1)

list_out : (x : Var) (ys : List Var) → AvoidsAll x ys → none_is x ys ≡ true
list_out x [] a = refl
list_out x (y ∷ ys) a = is_both (not (eqb x.0 y.0)) (none_is x ys) (ap not a.0) (list_out x ys a.1)

joined : (x : Var) (ys zs : List Var) → AvoidsAll x ys → AvoidsAll x zs → AvoidsAll x (ys ++ zs)
joined x [] zs a b = b
joined x (y ∷ ys) zs a b = (a.0, joined x ys zs a.1 b)

apart : (x : Var) (ys zs : List Var) → AvoidsAll x (ys ++ zs) → AvoidsAll x ys × AvoidsAll x zs
apart x [] zs a = (tt, a)
apart x (y ∷ ys) zs a = let w = apart x ys zs a.1 in ((a.0, w.0), w.1)

head_in : (x : Var) (h : GenHead) → head_avoided x h ≡ true → AvoidsAll x (head_uses h)
head_in x h p =
    let one = both_is _ _ p in
    let two = both_is _ _ one.1 in
    let three = both_is _ _ two.1 in
    joined x _ _ (list_in x (option_to_list h.lower) one.0)
    (joined x _ _ (list_in x (option_to_list h.upper) two.0) (joined x _ _ (list_in x (option_to_list h.step) three.0) (list_in x (option_to_list h.width) three.1)))

head_out : (x : Var) (h : GenHead) → AvoidsAll x (head_uses h) → head_avoided x h ≡ true
head_out x h a =
    let one = apart x (option_to_list h.lower) (option_to_list h.upper ++ (option_to_list h.step ++ option_to_list h.width)) a in
    let two = apart x (option_to_list h.upper) (option_to_list h.step ++ option_to_list h.width) one.1 in
    let three = apart x (option_to_list h.step) (option_to_list h.width) two.1 in
    is_both (none_is x (option_to_list h.lower)) _ (list_out x (option_to_list h.lower) one.0)
    (is_both (none_is x (option_to_list h.upper)) _ (list_out x (option_to_list h.upper) two.0)
    (is_both (none_is x (option_to_list h.step)) _ (list_out x (option_to_list h.step) three.0) (list_out x (option_to_list h.width) three.1)))

mutual
  block_in : (x : Var) (b : BlockTerm) → is_avoided x b ≡ true → Avoids x b
  block_in x (Gives ys) p = list_in x ys p
  block_in x (Bind ys s r b) p = let w = both_is (is_avoided_right x r) (is_avoided x b) p in (right_in x r w.0, block_in x b w.1)

  right_in : (x : Var) (r : RightTerm) → is_avoided_right x r ≡ true → AvoidsRight x r
  right_in x (Plain q) p = list_in x (plain_uses q) p
  right_in x (RightTerm.If y a b) p =
      let w = both_is (none_is x (y ∷ [])) (is_avoided x a && is_avoided x b) p in
      let v = both_is (is_avoided x a) (is_avoided x b) w.1 in
      ((list_in x (y ∷ []) w.0).0, block_in x a v.0, block_in x b v.1)
  right_in x (RightTerm.Loop first start params test body s) p =
      let w = both_is (none_is x start) (is_avoided x test && is_avoided x body) p in
      let v = both_is (is_avoided x test) (is_avoided x body) w.1 in
      (list_in x start w.0, block_in x test v.0, block_in x body v.1)
  right_in x (RightTerm.Call g ys) p = list_in x ys p
  right_in x (RightTerm.With op gens) p = let w = both_is (none_is x (op_uses op)) (is_avoided_gens x gens) p in (list_in x (op_uses op) w.0, gens_in x gens w.1)
  right_in x (RightTerm.Parted f b c op parts) p =
      let w = both_is (none_is x (parted_uses op)) (is_avoided_parts x parts) p in
      (list_in x (parted_uses op) w.0, parts_in x parts w.1)

  gens_in : (x : Var) (gs : GensTerm) → is_avoided_gens x gs ≡ true → AvoidsGens x gs
  gens_in x NoGens p = tt
  gens_in x (Gen h b rest) p =
      let w = both_is (head_avoided x h && is_avoided x b) (is_avoided_gens x rest) p in
      let v = both_is (head_avoided x h) (is_avoided x b) w.0 in
      (head_in x h v.0, block_in x b v.1, gens_in x rest w.1)

  parts_in : (x : Var) (ps : PartsTerm) → is_avoided_parts x ps ≡ true → AvoidsParts x ps
  parts_in x NoParts p = tt
  parts_in x (Part h b rest) p = let w = both_is (is_avoided x b) (is_avoided_parts x rest) p in (block_in x b w.0, parts_in x rest w.1)

mutual
  block_out_of : (x : Var) (b : BlockTerm) → Avoids x b → is_avoided x b ≡ true
  block_out_of x (Gives ys) a = list_out x ys a
  block_out_of x (Bind ys s r b) a = is_both (is_avoided_right x r) (is_avoided x b) (right_out_of x r a.0) (block_out_of x b a.1)

  right_out_of : (x : Var) (r : RightTerm) → AvoidsRight x r → is_avoided_right x r ≡ true
  right_out_of x (Plain q) a = list_out x (plain_uses q) a
  right_out_of x (RightTerm.If y b c) a =
      is_both (none_is x (y ∷ [])) (is_avoided x b && is_avoided x c) (list_out x (y ∷ []) (a.0, tt))
      (is_both (is_avoided x b) (is_avoided x c) (block_out_of x b a.1) (block_out_of x c a.2))
  right_out_of x (RightTerm.Loop first start params test body s) a =
      is_both (none_is x start) (is_avoided x test && is_avoided x body) (list_out x start a.0)
      (is_both (is_avoided x test) (is_avoided x body) (block_out_of x test a.1) (block_out_of x body a.2))
  right_out_of x (RightTerm.Call g ys) a = list_out x ys a
  right_out_of x (RightTerm.With op gens) a = is_both (none_is x (op_uses op)) (is_avoided_gens x gens) (list_out x (op_uses op) a.0) (gens_out_of x gens a.1)
  right_out_of x (RightTerm.Parted f b c op parts) a =
      is_both (none_is x (parted_uses op)) (is_avoided_parts x parts) (list_out x (parted_uses op) a.0) (parts_out_of x parts a.1)

  gens_out_of : (x : Var) (gs : GensTerm) → AvoidsGens x gs → is_avoided_gens x gs ≡ true
  gens_out_of x NoGens a = refl
  gens_out_of x (Gen h b rest) a =
      is_both (head_avoided x h && is_avoided x b) (is_avoided_gens x rest) (is_both (head_avoided x h) (is_avoided x b) (head_out x h a.0) (block_out_of x b a.1))
      (gens_out_of x rest a.2)

  parts_out_of : (x : Var) (ps : PartsTerm) → AvoidsParts x ps → is_avoided_parts x ps ≡ true
  parts_out_of x NoParts a = refl
  parts_out_of x (Part h b rest) a = is_both (is_avoided x b) (is_avoided_parts x rest) (block_out_of x b a.0) (parts_out_of x rest a.1)

pub list_decided : (x : Var) (ys : List Var) → IsTrue (none_is x ys) ↔ AvoidsAll x ys
list_decided x ys = (list_in x ys, list_out x ys)

pub block_decided : (x : Var) (b : BlockTerm) → IsTrue (is_avoided x b) ↔ Avoids x b
block_decided x b = (block_in x b, block_out_of x b)

pub right_decided : (x : Var) (r : RightTerm) → IsTrue (is_avoided_right x r) ↔ AvoidsRight x r
right_decided x r = (right_in x r, right_out_of x r)

-- ---- lists of the code

abbrev pub lets_avoided : Var → List Var → List Let → Bool
lets_avoided x rs ls = is_avoided x (chain (map let_term ls) (Gives rs))

abbrev pub gens_avoided : Var → List CoreGen → Bool
gens_avoided x gs = is_avoided_gens x (gens_of (map gen_term gs))

abbrev pub parts_avoided : Var → List CorePart → Bool
parts_avoided x ps = is_avoided_parts x (parts_of (map part_term ps))

pub block_is : (x : Var) (b : Block) → is_avoided x (block_term b) ≡ lets_avoided x (out-Block b).results.items (out-Block b).lets.items
block_is x b = ap (is_avoided x) (block_out b)

pub with_is : (x : Var) (w : WithLoop) → is_avoided_right x (with_term w) ≡ (none_is x (op_uses (out-WithLoop w).op) && gens_avoided x (out-WithLoop w).gens.items)
with_is x w = ap (is_avoided_right x) (with_out w)

pub parted_is : (x : Var) (p : PartedLoop) → is_avoided_right x (parted_term p) ≡ (none_is x (parted_uses (out-PartedLoop p).op) && parts_avoided x (out-PartedLoop p).parts.items)
parted_is x p = ap (is_avoided_right x) (parted_out p)

last_false : (p q : Bool) → q ≡ false → (p && q) ≡ false
last_false true q h = h
last_false false q h = refl

pub with_head : (x : Var) (w : WithLoop) (b : Bool) → b ≡ gens_avoided x (out-WithLoop w).gens.items → b ≡ false → is_avoided_right x (with_term w) ≡ false
with_head x w b e f = with_is x w ∙ last_false (none_is x (op_uses (out-WithLoop w).op)) (gens_avoided x (out-WithLoop w).gens.items) (sym e ∙ f)

pub parted_head : (x : Var) (w : PartedLoop) (b : Bool) → b ≡ parts_avoided x (out-PartedLoop w).parts.items → b ≡ false → is_avoided_right x (parted_term w) ≡ false
parted_head x w b e f = parted_is x w ∙ last_false (none_is x (parted_uses (out-PartedLoop w).op)) (parts_avoided x (out-PartedLoop w).parts.items) (sym e ∙ f)

pub with_all : (x : Var) (w : WithLoop) → none_is x (op_uses (out-WithLoop w).op) ≡ true → gens_avoided x (out-WithLoop w).gens.items ≡ true → true ≡ is_avoided_right x (with_term w)
with_all x w p q = sym (with_is x w ∙ (λ i. p i && gens_avoided x (out-WithLoop w).gens.items) ∙ q)

pub parted_all : (x : Var) (w : PartedLoop) → none_is x (parted_uses (out-PartedLoop w).op) ≡ true → parts_avoided x (out-PartedLoop w).parts.items ≡ true → true ≡ is_avoided_right x (parted_term w)
parted_all x w p q = sym (parted_is x w ∙ (λ i. p i && parts_avoided x (out-PartedLoop w).parts.items) ∙ q)
