-- A block whose bindings are gone through one after another.
use Rattle.std.proofs.Common.{◌≡◌, ℕ, Bool, suc, ◌+◌, ◌-◌, ◌^◌, ◌<◌, ◌≤◌, List, [], ◌∷◌, ◌++◌, map, length, take, take_all, get_or, refl, sym, ap, subst, ◌∙◌, arith, inr}
use Rattle.std.proofs.Math.Seq.{take-suc}
use Rattle.std.specs.Prelude.{Vec, Result, Ok, Err, IfOk}
use Rattle.std.specs.declared.alloc.Global.{Global}
use Rattle.sac_base.specs.declared.memory.Memory.{Memory}
use Rattle.sac_base.specs.declared.site.Site.{Site}
use Rattle.core_ir.specs.declared.tree.Var.{Var}
use Rattle.core_ir.specs.declared.tree.CoreGen.{CoreGen, CoreGen', CoreGen-F, out-CoreGen, roll-CoreGen, out-roll-CoreGen}
use Rattle.core_ir.specs.declared.tree.CorePart.{CorePart, CorePart', CorePart-F, out-CorePart, roll-CorePart, out-roll-CorePart}
use Rattle.core_ir.specs.declared.tree.Block.{Block, Block-F, out-Block, roll-Block}
use Rattle.core_ir.specs.declared.tree.WithLoop.{WithLoop, WithLoop-F, out-WithLoop, roll-WithLoop}
use Rattle.core_ir.specs.declared.tree.PartedLoop.{PartedLoop, PartedLoop-F, out-PartedLoop, roll-PartedLoop}
use Rattle.core_ir.specs.declared.tree.Right.{Right}
use Rattle.core_ir.specs.declared.tree.Right.TheVariants as right
use Rattle.core_ir.specs.declared.tree.Right.TheBlock.{the_data, the_data-1, the_data-2, the_data-3, the_data-4, the_data-5, the_data-6}
use Rattle.core_ir.specs.Terms.{PlainTerm, BlockTerm, RightTerm, GensTerm, PartsTerm, LetTerm, GenTerm, PartTerm, CoreTerm, Gives, Bind, Plain, NoGens, Gen, NoParts, Part, chain, gens_of, parts_of}
use Rattle.core_ir.specs.View.{block_term, let_term, right_term, with_term, gen_term, parted_term, part_term}
use Rattle.core_ir.proofs.Trees.{block_out, block_roll, with_out, with_roll, parted_out, parted_roll}
use Rattle.core_forms.specs.declared.inlined_bodies.growth.Growth.{Growth}
use Rattle.core_forms.specs.inlined_bodies.Inlining.{BlockInlined, RightInlined, GensInlined, PartsInlined, ends, kept, plain, left, branches, turns, generated, divided, no_gens, a_gen, no_parts, a_part}
use Rattle.core_forms.specs.inlined_bodies.Functions.{Anywhere}
use Rattle.inline_calls.specs.Bindings.{LetInlined, MayStay, RightWalked, GenInlined, PartInlined}
use Rattle.inline_calls.proofs.Steps.{map_snoc, chain_both}

-- ---- bindings

-- whatever follows, the bindings so far have become others
abbrev pub SoFar : CoreTerm → Growth → List LetTerm → List LetTerm → Growth → Type 0
SoFar core s ls ks t = (rest new : BlockTerm) (u : Growth) → BlockInlined core Anywhere t rest new u → BlockInlined core Anywhere s (chain ls rest) (chain ks new) u

pub taken_more : {A B : Type 0} (f : A → B) (xs : List A) (i : ℕ) (x : A) → i < length xs → x ≡ get_or xs i x → map f (take (i + 1) xs) ≡ map f (take i xs) ++ (f x ∷ [])
taken_more f xs i x h p =
    ap (λ k. map f (take k xs)) (plus_one i) ∙ ap (map f) (take-suc xs i x h) ∙ map_snoc f (take i xs) (get_or xs i x) ∙ ap (λ y. map f (take i xs) ++ (f y ∷ [])) (sym p)
  where
    plus_one : (i : ℕ) → i + 1 ≡ suc i
    plus_one i = omega arith

pub let_turn : (core : CoreTerm) (s m t : Growth) (ls ls' ks more ks' : List LetTerm) (l : LetTerm) → SoFar core s ls ks m → LetInlined core m l more t → ls' ≡ ls ++ (l ∷ []) → ks' ≡ ks ++ more → SoFar core s ls' ks' t
let_turn core s m t ls ls' ks more ks' l f g p q rest new u d =
    let before = sym (chain_both ls (l ∷ []) rest) ∙ ap (λ z. chain z rest) (sym p) in
    let after = sym (chain_both ks more new) ∙ ap (λ z. chain z new) (sym q) in
    subst (λ (x : BlockTerm). BlockInlined core Anywhere s x (chain ks' new) u) before
    (subst (λ (y : BlockTerm). BlockInlined core Anywhere s (chain ls (Bind l.targets l.site l.right rest)) y u) after (f (Bind l.targets l.site l.right rest) (chain more new) u (g rest new u d)))

pub binding_kept : (core : CoreTerm) (s t : Growth) (l k : LetTerm) → k.targets ≡ l.targets → k.site ≡ l.site → RightInlined core Anywhere s l.right k.right t → LetInlined core s l (k ∷ []) t
binding_kept core s t l k p q d rest new u e =
    subst (λ (y : BlockTerm). BlockInlined core Anywhere s (Bind l.targets l.site l.right rest) y u) (λ i. Bind (sym p i) (sym q i) k.right new) (kept d e)

pub block_whole : (core : CoreTerm) (s t : Growth) (x : Block-F the_data the_data-1 the_data-2 the_data-3 the_data-4 the_data-5 the_data-6) (b : Block) → SoFar core s (map let_term (out-Block b).lets.items) (map let_term x.lets.items) t → x.results.items ≡ (out-Block b).results.items
    → BlockInlined core Anywhere s (block_term b) (block_term (roll-Block x)) t
block_whole core s t x b f p =
    subst (λ (y : BlockTerm). BlockInlined core Anywhere s y (block_term (roll-Block x)) t) (sym (block_out b))
    (subst (λ (y : BlockTerm). BlockInlined core Anywhere s (chain (map let_term (out-Block b).lets.items) (Gives (out-Block b).results.items)) y t) (ap (λ rs. chain (map let_term x.lets.items) (Gives rs)) (sym p) ∙ sym (block_roll x))
    (f (Gives (out-Block b).results.items) (Gives (out-Block b).results.items) t ends))

-- after the loop all are taken
pub taken_all : {A B : Type 0} (f : A → B) (items all : List A) (n : ℕ) → length items ≤ n → items ≡ all → map f (take n items) ≡ map f all
taken_all f items all n h p = ap (map f) (take_all n items h ∙ p)

-- ---- generators

abbrev gens_then : List GenTerm → GensTerm → GensTerm
gens_then [] rest = rest
gens_then (g ∷ gs) rest = Gen g.head g.body (gens_then gs rest)

gens_end : (gs : List GenTerm) → gens_then gs NoGens ≡ gens_of gs
gens_end [] = refl
gens_end (g ∷ gs) = ap (Gen g.head g.body) (gens_end gs)

gens_snoc : (gs : List GenTerm) (g : GenTerm) (rest : GensTerm) → gens_then (gs ++ (g ∷ [])) rest ≡ gens_then gs (Gen g.head g.body rest)
gens_snoc [] g rest = refl
gens_snoc (k ∷ gs) g rest = ap (Gen k.head k.body) (gens_snoc gs g rest)

abbrev pub GensSoFar : CoreTerm → Growth → List GenTerm → List GenTerm → Growth → Type 0
GensSoFar core s gs ks t = (rest new : GensTerm) (u : Growth) → GensInlined core Anywhere t rest new u → GensInlined core Anywhere s (gens_then gs rest) (gens_then ks new) u

pub gen_turn : (core : CoreTerm) (s m t : Growth) (gs gs' ks ks' : List GenTerm) (g k : GenTerm) → GensSoFar core s gs ks m → GenInlined core m g k t → gs' ≡ gs ++ (g ∷ []) → ks' ≡ ks ++ (k ∷ []) → GensSoFar core s gs' ks' t
gen_turn core s m t gs gs' ks ks' g k f e p q rest new u d =
    let one : GensInlined core Anywhere m (Gen g.head g.body rest) (Gen k.head k.body new) u = subst (λ h. GensInlined core Anywhere m (Gen g.head g.body rest) (Gen h k.body new) u) e.head (a_gen e.body d) in
    let before = sym (gens_snoc gs g rest) ∙ ap (λ z. gens_then z rest) (sym p) in
    let after = sym (gens_snoc ks k new) ∙ ap (λ z. gens_then z new) (sym q) in
    subst (λ (x : GensTerm). GensInlined core Anywhere s x (gens_then ks' new) u) before
    (subst (λ (y : GensTerm). GensInlined core Anywhere s (gens_then gs (Gen g.head g.body rest)) y u) after (f (Gen g.head g.body rest) (Gen k.head k.body new) u one))

pub with_whole : (core : CoreTerm) (s t : Growth) (x : WithLoop-F the_data the_data-1 the_data-2 the_data-3 the_data-4 the_data-5 the_data-6) (w : WithLoop) → GensSoFar core s (map gen_term (out-WithLoop w).gens.items) (map gen_term x.gens.items) t → x.op ≡ (out-WithLoop w).op
    → RightInlined core Anywhere s (with_term w) (with_term (roll-WithLoop x)) t
with_whole core s t x w f p =
    subst (λ (y : RightTerm). RightInlined core Anywhere s y (with_term (roll-WithLoop x)) t) (sym (with_out w))
    (subst (λ (y : RightTerm). RightInlined core Anywhere s (RightTerm.With (out-WithLoop w).op (gens_of (map gen_term (out-WithLoop w).gens.items))) y t) ((λ i. RightTerm.With (sym p i) (gens_of (map gen_term x.gens.items))) ∙ sym (with_roll x))
    (generated (subst (λ g. GensInlined core Anywhere s g (gens_of (map gen_term x.gens.items)) t) (gens_end (map gen_term (out-WithLoop w).gens.items))
    (subst (λ g. GensInlined core Anywhere s (gens_then (map gen_term (out-WithLoop w).gens.items) NoGens) g t) (gens_end (map gen_term x.gens.items)) (f NoGens NoGens t no_gens)))))

-- ---- parts

abbrev parts_then : List PartTerm → PartsTerm → PartsTerm
parts_then [] rest = rest
parts_then (p ∷ ps) rest = Part p.head p.body (parts_then ps rest)

parts_end : (ps : List PartTerm) → parts_then ps NoParts ≡ parts_of ps
parts_end [] = refl
parts_end (p ∷ ps) = ap (Part p.head p.body) (parts_end ps)

parts_snoc : (ps : List PartTerm) (p : PartTerm) (rest : PartsTerm) → parts_then (ps ++ (p ∷ [])) rest ≡ parts_then ps (Part p.head p.body rest)
parts_snoc [] p rest = refl
parts_snoc (k ∷ ps) p rest = ap (Part k.head k.body) (parts_snoc ps p rest)

abbrev pub PartsSoFar : CoreTerm → Growth → List PartTerm → List PartTerm → Growth → Type 0
PartsSoFar core s ps ks t = (rest new : PartsTerm) (u : Growth) → PartsInlined core Anywhere t rest new u → PartsInlined core Anywhere s (parts_then ps rest) (parts_then ks new) u

pub part_turn : (core : CoreTerm) (s m t : Growth) (ps ps' ks ks' : List PartTerm) (p k : PartTerm) → PartsSoFar core s ps ks m → PartInlined core m p k t → ps' ≡ ps ++ (p ∷ []) → ks' ≡ ks ++ (k ∷ []) → PartsSoFar core s ps' ks' t
part_turn core s m t ps ps' ks ks' p k f e v w rest new u d =
    let one : PartsInlined core Anywhere m (Part p.head p.body rest) (Part k.head k.body new) u = subst (λ h. PartsInlined core Anywhere m (Part p.head p.body rest) (Part h k.body new) u) e.head (a_part e.body d) in
    let before = sym (parts_snoc ps p rest) ∙ ap (λ z. parts_then z rest) (sym v) in
    let after = sym (parts_snoc ks k new) ∙ ap (λ z. parts_then z new) (sym w) in
    subst (λ (x : PartsTerm). PartsInlined core Anywhere s x (parts_then ks' new) u) before
    (subst (λ (y : PartsTerm). PartsInlined core Anywhere s (parts_then ps (Part p.head p.body rest)) y u) after (f (Part p.head p.body rest) (Part k.head k.body new) u one))

pub parted_whole : (core : CoreTerm) (s t : Growth) (x : PartedLoop-F the_data the_data-1 the_data-2 the_data-3 the_data-4 the_data-5 the_data-6) (w : PartedLoop) → PartsSoFar core s (map part_term (out-PartedLoop w).parts.items) (map part_term x.parts.items) t
    → x.frame ≡ (out-PartedLoop w).frame → x.base ≡ (out-PartedLoop w).base → x.cell ≡ (out-PartedLoop w).cell → x.op ≡ (out-PartedLoop w).op → RightInlined core Anywhere s (parted_term w) (parted_term (roll-PartedLoop x)) t
parted_whole core s t x w f frame base cell op =
    let o = out-PartedLoop w in
    subst (λ (y : RightTerm). RightInlined core Anywhere s y (parted_term (roll-PartedLoop x)) t) (sym (parted_out w))
    (subst (λ (y : RightTerm). RightInlined core Anywhere s (RightTerm.Parted (out-PartedLoop w).frame (out-PartedLoop w).base (out-PartedLoop w).cell (out-PartedLoop w).op (parts_of (map part_term (out-PartedLoop w).parts.items))) y t)
    ((λ i. RightTerm.Parted (sym frame i) (sym base i) (sym cell i) (sym op i) (parts_of (map part_term x.parts.items))) ∙ sym (parted_roll x))
    (divided (subst (λ g. PartsInlined core Anywhere s g (parts_of (map part_term x.parts.items)) t) (parts_end (map part_term (out-PartedLoop w).parts.items))
    (subst (λ g. PartsInlined core Anywhere s (parts_then (map part_term (out-PartedLoop w).parts.items) NoParts) g t) (parts_end (map part_term x.parts.items)) (f NoParts NoParts t no_parts)))))

-- ---- a generator, and a part

abbrev shown_gen : CoreGen-F the_data the_data-1 the_data-2 the_data-3 the_data-4 the_data-5 the_data-6 → GenTerm
shown_gen x = record {
  head = record { lower = x.lower; lower_closed = x.lower_closed; upper = x.upper; upper_closed = x.upper_closed; step = x.step; width = x.width; index = x.index; names = x.names.items; site = x.site };
  body = block_term x.body;
}

gen_out : (g : CoreGen) → gen_term g ≡ shown_gen (out-CoreGen g)
unfolding out-CoreGen denote.Hole.Carrier.out
gen_out (CoreGen' a b c d e f h i j k) = refl

pub gen_whole : (core : CoreTerm) (s t : Growth) (x : CoreGen-F the_data the_data-1 the_data-2 the_data-3 the_data-4 the_data-5 the_data-6) (g : CoreGen) → (shown_gen x).head ≡ (shown_gen (out-CoreGen g)).head → BlockInlined core Anywhere s (block_term (out-CoreGen g).body) (block_term x.body) t
    → GenInlined core s (gen_term g) (gen_term (roll-CoreGen x)) t
gen_whole core s t x g p d =
    subst (λ (u : GenTerm). GenInlined core s u (gen_term (roll-CoreGen x)) t) (sym (gen_out g))
    (subst (λ (v : GenTerm). GenInlined core s (shown_gen (out-CoreGen g)) v t) (ap shown_gen (sym (out-roll-CoreGen x)) ∙ sym (gen_out (roll-CoreGen x))) (record { head = sym p; body = d }))

abbrev shown_part : CorePart-F the_data the_data-1 the_data-2 the_data-3 the_data-4 the_data-5 the_data-6 → PartTerm
shown_part x = record { head = record { grid = x.grid; index = x.index; site = x.site }; body = block_term x.body }

part_out : (p : CorePart) → part_term p ≡ shown_part (out-CorePart p)
unfolding out-CorePart denote.Hole.Carrier.out
part_out (CorePart' a b c d) = refl

pub part_whole : (core : CoreTerm) (s t : Growth) (x : CorePart-F the_data the_data-1 the_data-2 the_data-3 the_data-4 the_data-5 the_data-6) (p : CorePart) → (shown_part x).head ≡ (shown_part (out-CorePart p)).head → BlockInlined core Anywhere s (block_term (out-CorePart p).body) (block_term x.body) t
    → PartInlined core s (part_term p) (part_term (roll-CorePart x)) t
part_whole core s t x p q d =
    subst (λ (u : PartTerm). PartInlined core s u (part_term (roll-CorePart x)) t) (sym (part_out p))
    (subst (λ (v : PartTerm). PartInlined core s (shown_part (out-CorePart p)) v t) (ap shown_part (sym (out-roll-CorePart x)) ∙ sym (part_out (roll-CorePart x))) (record { head = sym q; body = d }))

-- ---- right sides with blocks

pub both_branches : (core : CoreTerm) (s m t : Growth) (r : RightTerm) (x : Var) (a b c d : BlockTerm) → r ≡ RightTerm.If x a b → BlockInlined core Anywhere s a c m → BlockInlined core Anywhere m b d t → RightInlined core Anywhere s r (RightTerm.If x c d) t
both_branches core s m t r x a b c d e p q = subst (λ (y : RightTerm). RightInlined core Anywhere s y (RightTerm.If x c d) t) (sym e) (branches p q)

pub both_blocks : (core : CoreTerm) (s m t : Growth) (r : RightTerm) (first : Bool) (start start' params params' : List Var) (a b c d : BlockTerm) (u : Site) → r ≡ RightTerm.Loop first start params a b u → start' ≡ start → params' ≡ params
    → BlockInlined core Anywhere s a c m → BlockInlined core Anywhere m b d t → RightInlined core Anywhere s r (RightTerm.Loop first start' params' c d u) t
both_blocks core s m t r first start start' params params' a b c d u e v w p q =
    subst (λ (y : RightTerm). RightInlined core Anywhere s y (RightTerm.Loop first start' params' c d u) t) (sym e)
    (subst (λ (y : RightTerm). RightInlined core Anywhere s (RightTerm.Loop first start params a b u) y t) (λ i. RightTerm.Loop first (sym v i) (sym w i) c d u) (turns p q))

-- ---- right sides without blocks

abbrev HasNoBlock : RightTerm → Type 0
HasNoBlock (Plain p) = Unit {0}
HasNoBlock (RightTerm.Call group xs) = Unit {0}
HasNoBlock _ = ⊥

pub has_no_block : (r : Right) → ((cond : Var) (yes no : Block) → r ≡ right.If cond yes no → ⊥) → ((first : Bool) (start params : Vec Var Global) (test body : Block) (site : Site) → r ≡ right.Loop first start params test body site → ⊥)
    → ((w : WithLoop) → r ≡ right.With w → ⊥) → ((p : PartedLoop) → r ≡ right.Parted p → ⊥) → HasNoBlock (right_term r)
has_no_block (right.If c a b) not_if not_loop not_with not_parted = absurd (not_if c a b refl)
has_no_block (right.Loop f xs ps a b s) not_if not_loop not_with not_parted = absurd (not_loop f xs ps a b s refl)
has_no_block (right.With w) not_if not_loop not_with not_parted = absurd (not_with w refl)
has_no_block (right.Parted p) not_if not_loop not_with not_parted = absurd (not_parted p refl)
has_no_block (right.Const a) not_if not_loop not_with not_parted = tt
has_no_block (right.Copy x) not_if not_loop not_with not_parted = tt
has_no_block (right.Unary op x) not_if not_loop not_with not_parted = tt
has_no_block (right.Binary op x y) not_if not_loop not_with not_parted = tt
has_no_block (right.Literal xs) not_if not_loop not_with not_parted = tt
has_no_block (right.Dim x) not_if not_loop not_with not_parted = tt
has_no_block (right.ShapeOf x) not_if not_loop not_with not_parted = tt
has_no_block (right.Reshape x y) not_if not_loop not_with not_parted = tt
has_no_block (right.Select x y) not_if not_loop not_with not_parted = tt
has_no_block (right.Replace x y z) not_if not_loop not_with not_parted = tt
has_no_block (right.Call group args) not_if not_loop not_with not_parted = tt
has_no_block (right.Always k) not_if not_loop not_with not_parted = tt
has_no_block (right.Check x t) not_if not_loop not_with not_parted = tt

stays : (core : CoreTerm) (s : Growth) (r : RightTerm) → HasNoBlock r → MayStay core s r → RightInlined core Anywhere s r r s
stays core s (Plain p) h m = plain
stays core s (RightTerm.Call group xs) h m = left m
stays core s (RightTerm.If x a b) h m = absurd h
stays core s (RightTerm.Loop first start params a b u) h m = absurd h
stays core s (RightTerm.With op gens) h m = absurd h
stays core s (RightTerm.Parted frame base cell op parts) h m = absurd h

-- a copy of one
pub copy_stays : (core : CoreTerm) (s : Growth) (r : RightTerm) (new : Result Right Memory) → HasNoBlock r → IfOk new (λ (q : Right). right_term q ≡ r) → IfOk new (λ (q : Right). RightWalked core s r (right_term q) s)
copy_stays core s r (Ok q) h e = λ m. subst (λ (t : RightTerm). RightInlined core Anywhere s r t s) (sym e) (stays core s r h m)
copy_stays core s r (Err m) h e = tt

-- ---- a function without room for any other

module _ (core : CoreTerm) (s : Growth) (full : 2 ^ 32 ≤ s.above) where
  no_room : (a b : ℕ) → 2 ^ 32 ≤ a → 2 ^ 32 - 1 ≤ (a - 1) + b
  no_room a b h = omega arith

  mutual
    pub unchanged_block : (b : BlockTerm) → BlockInlined core Anywhere s b b s
    unchanged_block (Gives xs) = ends
    unchanged_block (Bind xs u r b) = kept (unchanged_right r) (unchanged_block b)

    unchanged_right : (r : RightTerm) → RightInlined core Anywhere s r r s
    unchanged_right (Plain p) = plain
    unchanged_right (RightTerm.If x a b) = branches (unchanged_block a) (unchanged_block b)
    unchanged_right (RightTerm.Loop first start params a b u) = turns (unchanged_block a) (unchanged_block b)
    unchanged_right (RightTerm.Call g xs) = left (λ place f i. inr (no_room s.above (Rattle.core_forms.specs.inlined_bodies.Inlining.greatest f) full))
    unchanged_right (RightTerm.With o gens) = generated (unchanged_gens gens)
    unchanged_right (RightTerm.Parted f t c o parts) = divided (unchanged_parts parts)

    unchanged_gens : (g : GensTerm) → GensInlined core Anywhere s g g s
    unchanged_gens NoGens = no_gens
    unchanged_gens (Gen h b rest) = a_gen (unchanged_block b) (unchanged_gens rest)

    unchanged_parts : (p : PartsTerm) → PartsInlined core Anywhere s p p s
    unchanged_parts NoParts = no_parts
    unchanged_parts (Part h b rest) = a_part (unchanged_block b) (unchanged_parts rest)
