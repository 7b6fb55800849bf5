-- The parts that are made.
use Rattle.std.proofs.Common.{◌≡◌, ℕ, suc, ◌+◌, List, [], ◌∷◌, ◌++◌, map, length, refl, ap, sym, ◌∙◌, append-nil, arith}
use Rattle.std.proofs.lemmas.List.{map-append, length-map}
use Rattle.sac_base.specs.declared.grid.Grid1.{Grid1}
use Rattle.sac_base.specs.declared.site.Site.{Site}
use Rattle.core_ir.specs.declared.tree.Block.{Block, Block-F, out-Block, roll-Block}
use Rattle.core_ir.specs.declared.tree.CoreGen.{CoreGen, CoreGen', CoreGen-F, out-CoreGen}
use Rattle.core_ir.specs.declared.tree.CorePart.{CorePart, CorePart', CorePart-F, out-CorePart, roll-CorePart, out-roll-CorePart}
use Rattle.core_ir.specs.declared.tree.Let.{Let}
use Rattle.core_ir.specs.declared.tree.Right.TheBlock.{the_data, the_data-1, the_data-2, the_data-3, the_data-4, the_data-5, the_data-6}
use Rattle.core_ir.specs.declared.tree.Var.{Var}
use Rattle.core_ir.specs.Binders.{bound_in}
use Rattle.core_ir.specs.Terms.{BlockTerm, LetTerm, GenTerm, PartTerm, PartHead, Gives, Bind, chain}
use Rattle.core_ir.specs.View.{block_term, gen_term, let_term, part_term}
use Rattle.core_ir.proofs.Trees.{block_out, block_roll}
use Rattle.core_subst.specs.copy.Mapped.{mapped}
use Rattle.core_subst.proofs.copy.Renaming.{bound_mapped}
use Rattle.core_subst.specs.Names.{variable}
use Rattle.parted_bodies.specs.Numbering.{named, numbered}
use Rattle.parted_bodies.specs.Making.{binds_of, component_lets, component_names, part_body, generator_part}

-- ---- generators and parts by their fields

abbrev shown_gen : CoreGen-F the_data the_data-1 the_data-2 the_data-3 the_data-4 the_data-5 the_data-6 → GenTerm
shown_gen x = record {
  head = record { lower = x.lower; lower_closed = x.lower_closed; upper = x.upper; upper_closed = x.upper_closed; step = x.step; width = x.width; index = x.index; names = x.names.items; site = x.site };
  body = block_term x.body;
}

pub gen_out : (g : CoreGen) → gen_term g ≡ shown_gen (out-CoreGen g)
unfolding out-CoreGen denote.Hole.Carrier.out
gen_out (CoreGen' a b c d e f h i j k) = refl

pub gen_site : (g : CoreGen) → (out-CoreGen g).site ≡ (gen_term g).head.site
gen_site g = ap (λ (t : GenTerm). t.head.site) (sym (gen_out g))

abbrev shown_part : CorePart-F the_data the_data-1 the_data-2 the_data-3 the_data-4 the_data-5 the_data-6 → PartTerm
shown_part x = record { head = record { grid = x.grid; index = x.index; site = x.site }; body = block_term x.body }

part_out : (p : CorePart) → part_term p ≡ shown_part (out-CorePart p)
unfolding out-CorePart denote.Hole.Carrier.out
part_out (CorePart' a b c d) = refl

pub part_roll : (x : CorePart-F the_data the_data-1 the_data-2 the_data-3 the_data-4 the_data-5 the_data-6) → part_term (roll-CorePart x) ≡ shown_part x
part_roll x = part_out (roll-CorePart x) ∙ ap shown_part (out-roll-CorePart x)

chain_append : (ls ms : List LetTerm) (b : BlockTerm) → chain (ls ++ ms) b ≡ chain ls (chain ms b)
chain_append [] ms b = refl
chain_append (l ∷ ls) ms b = ap (Bind l.targets l.site l.right) (chain_append ls ms b)

-- bindings before those of a copied block
behind : (lets new : List Let) (copied : Block) (x : Block-F the_data the_data-1 the_data-2 the_data-3 the_data-4 the_data-5 the_data-6) → x.lets.items ≡ lets ++ (out-Block copied).lets.items → x.results.items ≡ (out-Block copied).results.items → block_term (roll-Block x) ≡ chain (map let_term lets) (block_term copied)
behind lets new copied x p q =
    block_roll x
    ∙ (λ i. chain (map let_term (p i)) (Gives (q i)))
    ∙ ap (λ ls. chain ls (Gives (out-Block copied).results.items)) (map-append let_term lets (out-Block copied).lets.items)
    ∙ chain_append (map let_term lets) (map let_term (out-Block copied).lets.items) (Gives (out-Block copied).results.items)
    ∙ ap (chain (map let_term lets)) (sym (block_out copied))

-- the names after all three steps
names_made : (f0 f1 f2 f3 : Var → Var) (x index : Var) (ns bound : List Var) (n m : ℕ) → ((z : Var) → f0 z ≡ z) → ((z : Var) → f1 z ≡ named f0 x index z) → ((z : Var) → f2 z ≡ component_names f1 ns n z) → ((z : Var) → f3 z ≡ numbered f2 bound m z)
    → f3 ≡ numbered (component_names (named (λ w. w) x index) ns n) bound m
names_made f0 f1 f2 f3 x index ns bound n m e0 e1 e2 e3 =
    let p1 : f1 ≡ named (λ w. w) x index = λ i z. (e1 z ∙ (λ j. named (λ w. e0 w j) x index z)) i in
    let p2 : f2 ≡ component_names (named (λ w. w) x index) ns n = λ i z. (e2 z ∙ (λ j. component_names (p1 j) ns n z)) i in
    λ i z. (e3 z ∙ (λ j. numbered (p2 j) bound m z)) i

-- the part of a generator
pub body_made : (g : CoreGen-F the_data the_data-1 the_data-2 the_data-3 the_data-4 the_data-5 the_data-6) (n n1 n2 : ℕ) (index : Var) (lets : List Let) (bound : List Var) (copied : Block) (f0 f1 f2 f3 : Var → Var) (x : Block-F the_data the_data-1 the_data-2 the_data-3 the_data-4 the_data-5 the_data-6) → x.lets.items ≡ lets ++ (out-Block copied).lets.items → x.results.items ≡ (out-Block copied).results.items → ((z : Var) → f0 z ≡ z) → ((z : Var) → f1 z ≡ named f0 g.index index z) → ((z : Var) → f2 z ≡ component_names f1 g.names.items n1 z) → ((z : Var) → f3 z ≡ numbered f2 bound n2 z) → map let_term lets ≡ component_lets g.site index 0 g.names.items n1 → bound ≡ bound_in (block_term g.body) → block_term copied ≡ mapped f3 (block_term g.body) → n1 ≡ suc n → n2 ≡ n1 + (length g.names.items + length g.names.items) → index ≡ variable n
    → block_term (roll-Block x) ≡ part_body (shown_gen g) (variable n) (suc n)
body_made g n n1 n2 index lets bound copied f0 f1 f2 f3 x p q e0 e1 e2 e3 el eb ec n1e n2e ie =
    let ns = g.names.items in
    behind lets [] copied x p q
    ∙ (λ j. chain (el j) (ec j))
    ∙ (λ j. chain (component_lets g.site index 0 ns n1) (mapped (names_made f0 f1 f2 f3 g.index index ns bound n1 n2 e0 e1 e2 e3 j) (block_term g.body)))
    ∙ (λ j. chain (component_lets g.site (ie j) 0 ns (n1e j)) (mapped (numbered (component_names (named (λ w. w) g.index (ie j)) ns (n1e j)) (eb j) ((n2e ∙ ap (λ m. m + (length ns + length ns)) n1e) j)) (block_term g.body)))

-- ---- how many variables a part binds

components_bind : (s : Site) (i : Var) (k n : ℕ) (xs : List Var) (b : BlockTerm) → length (bound_in (chain (component_lets s i k xs n) b)) ≡ (length xs + length xs) + length (bound_in b)
components_bind s i k n [] b = let e : length (bound_in b) ≡ (0 + 0) + length (bound_in b) = omega arith in e
components_bind s i k n (x ∷ xs) b = let rest = components_bind s i (suc k) (suc (suc n)) xs b in omega (arith, rest)

pub generator_binds : (g : CoreGen-F the_data the_data-1 the_data-2 the_data-3 the_data-4 the_data-5 the_data-6) (grid : List Grid1) (n m : ℕ) (bound : List Var) → bound ≡ bound_in (block_term g.body) → m ≡ (suc n + (length g.names.items + length g.names.items)) + length bound → m ≡ n + binds_of (generator_part (shown_gen g) grid n ∷ [])
generator_binds g grid n m bound e f =
    let ns = g.names.items in
    let h = numbered (component_names (named (λ x. x) g.index (variable n)) ns (suc n)) (bound_in (block_term g.body)) (suc n + (length ns + length ns)) in
    let one = components_bind g.site (variable n) 0 (suc n) ns (mapped h (block_term g.body)) in
    let two : length (bound_in (mapped h (block_term g.body))) ≡ length (bound_in (block_term g.body)) = ap length (bound_mapped h (block_term g.body)) ∙ length-map (bound_in (block_term g.body)) h in
    let three = ap length (append-nil (bound_in (chain (component_lets g.site (variable n) 0 ns (suc n)) (mapped h (block_term g.body))))) in
    let four = ap length e in
    omega (arith, f, one, two, three, four)

-- ---- parts without a generator

pub plain_part : (x : CorePart-F the_data the_data-1 the_data-2 the_data-3 the_data-4 the_data-5 the_data-6) (b : Block-F the_data the_data-1 the_data-2 the_data-3 the_data-4 the_data-5 the_data-6) (head : PartHead) (body : BlockTerm) → x.body ≡ roll-Block b → (shown_part x).head ≡ head → chain (map let_term b.lets.items) (Gives b.results.items) ≡ body → part_term (roll-CorePart x) ≡ record { head = head; body = body }
plain_part x b head body e h p = part_roll x ∙ (λ i. record { head = h i; body = (ap block_term e ∙ block_roll b ∙ p) i })
