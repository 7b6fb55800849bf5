-- The term of a tree of counted code, by the lists that its vectors hold.
use Rattle.std.proofs.Common.{◌≡◌, ℕ, ◌≤◌, Bool, List, [], ◌∷◌, ◌++◌, map, length, take, take_all, None, refl, ap, ◌∙◌, sym}
use Rattle.sac_base.specs.declared.grid.Grid1.{Grid1}
use Rattle.sac_base.specs.declared.site.Site.{Site}
use Rattle.core_ir.specs.declared.tree.Var.{Var}
use Rattle.core_ir.specs.declared.tree.CoreGen.{CoreGen, CoreGen', out-CoreGen}
use Rattle.core_ir.specs.declared.tree.CorePart.{CorePart, CorePart', out-CorePart}
use Rattle.core_ir.specs.declared.tree.WithLoop.{WithLoop, out-WithLoop}
use Rattle.core_ir.specs.declared.tree.PartedLoop.{PartedLoop, out-PartedLoop}
use Rattle.core_ir.specs.View.{block_term, with_term, parted_term, gen_term, part_term}
use Rattle.core_ir.proofs.Trees as core
use Rattle.core_ir.specs.Terms.{BlockTerm, GenTerm, PartTerm, gens_of, parts_of}
use Rattle.counted_code.specs.declared.tree.CodeBlock.{CodeBlock}
use Rattle.counted_code.specs.declared.tree.CodeRight.TheBlock.{the_data, the_data-1, the_data-2, the_data-3, the_data-4, the_data-5, the_data-6, the_data-7, hidden-the_row-CodeStep-0}
use Rattle.counted_code.specs.declared.tree.CodeWith.{CodeWith-F, roll-CodeWith}
use Rattle.counted_code.specs.declared.tree.CodeParted.{CodeParted-F, roll-CodeParted}
use Rattle.counted_code.specs.Terms.{CodeTerm, IfCode, LoopCode, WithCode, PartedCode, GenCode, PartCode}
use Rattle.counted_code.specs.View.{code_term, steps_term, code_with_term, code_parted_term}
use Rattle.counted_code.specs.Pieces.{CodeGenTerm, CodePartTerm, code_gen_term, code_part_term, code_gens_of, code_parts_of}
use Rattle.counted_code.proofs.Trees.{block_hidden, with_roll, parted_roll}
use Rattle.ref_counts.specs.Pieces.{placing_gen, placing_part}
use Rattle.counted_laws.specs.placing.Placing.{placing, placing_right, placing_gens, placing_parts}

-- ---- what is placed in lists

pub gens_placed : (gs : List GenTerm) → placing_gens (gens_of gs) ≡ code_gens_of (map placing_gen gs)
gens_placed [] = refl
gens_placed (g ∷ gs) = ap (λ rest. GenCode g.head (placing (g.head.index ∷ g.head.names) g.body) rest) (gens_placed gs)

pub parts_placed : (ps : List PartTerm) → placing_parts (parts_of ps) ≡ code_parts_of (map placing_part ps)
parts_placed [] = refl
parts_placed (p ∷ ps) = ap (λ rest. PartCode p.head (placing (p.head.index ∷ []) p.body) rest) (parts_placed ps)

-- after a loop over the generators, or the parts
gens_mapped : (gs : List CoreGen) → map (λ g. placing_gen (gen_term g)) gs ≡ map placing_gen (map gen_term gs)
gens_mapped [] = refl
gens_mapped (g ∷ gs) = ap (λ rest. placing_gen (gen_term g) ∷ rest) (gens_mapped gs)

parts_mapped : (ps : List CorePart) → map (λ p. placing_part (part_term p)) ps ≡ map placing_part (map part_term ps)
parts_mapped [] = refl
parts_mapped (p ∷ ps) = ap (λ rest. placing_part (part_term p) ∷ rest) (parts_mapped ps)

pub with_done : (x : CodeWith-F the_data the_data-1 the_data-2 the_data-3 the_data-4 the_data-5 the_data-6 the_data-7) (w : WithLoop) (items : List CoreGen) (n : ℕ) → x.op ≡ (out-WithLoop w).op → map code_gen_term x.gens.items ≡ map (λ g. placing_gen (gen_term g)) (take n items) → length items ≤ n → items ≡ (out-WithLoop w).gens.items → code_with_term (roll-CodeWith x) ≡ placing_right [] (with_term w)
with_done x w items n op placed over all =
    let whole = placed ∙ ap (map (λ g. placing_gen (gen_term g))) (take_all n items over ∙ all) ∙ gens_mapped (out-WithLoop w).gens.items in
    with_roll x ∙ (λ i. WithCode (op i) (code_gens_of (whole i))) ∙ ap (WithCode (out-WithLoop w).op) (sym (gens_placed (map gen_term (out-WithLoop w).gens.items))) ∙ ap (placing_right []) (sym (core.with_out w))

pub parted_done : (x : CodeParted-F the_data the_data-1 the_data-2 the_data-3 the_data-4 the_data-5 the_data-6 the_data-7) (w : PartedLoop) (items : List CorePart) (n : ℕ) → x.frame ≡ (out-PartedLoop w).frame → x.base ≡ (out-PartedLoop w).base → x.cell ≡ (out-PartedLoop w).cell → x.op ≡ (out-PartedLoop w).op → x.reuse ≡ None → map code_part_term x.parts.items ≡ map (λ p. placing_part (part_term p)) (take n items) → length items ≤ n → items ≡ (out-PartedLoop w).parts.items → code_parted_term (roll-CodeParted x) ≡ placing_right [] (parted_term w)
parted_done x w items n frame base cell op unmarked placed over all =
    let whole = placed ∙ ap (map (λ p. placing_part (part_term p))) (take_all n items over ∙ all) ∙ parts_mapped (out-PartedLoop w).parts.items in
    parted_roll x ∙ (λ i. PartedCode (frame i) (base i) (cell i) (op i) (code_parts_of (whole i)) (unmarked i)) ∙ ap (λ ps. PartedCode (out-PartedLoop w).frame (out-PartedLoop w).base (out-PartedLoop w).cell (out-PartedLoop w).op ps None) (sym (parts_placed (map part_term (out-PartedLoop w).parts.items))) ∙ ap (placing_right []) (sym (core.parted_out w))

-- ---- blocks in a right side, a generator and a part

pub if_done : (c : Var) (mine : List Var) (first second : CodeBlock) (a b : BlockTerm) → code_term first ≡ placing mine a → code_term second ≡ placing mine b →
    IfCode c (steps_term (hidden-the_row-CodeStep-0 first.steps) first.results.items) (steps_term (hidden-the_row-CodeStep-0 second.steps) second.results.items) ≡ IfCode c (placing mine a) (placing mine b)
if_done c mine first second a b p q = λ i. IfCode c ((block_hidden first ∙ p) i) ((block_hidden second ∙ q) i)

pub loop_done : (first : Bool) (start starts starts_copy params names names_copy refs : List Var) (test body : CodeBlock) (a b : BlockTerm) (s : Site) → starts_copy ≡ starts → starts ≡ start → names_copy ≡ names → names ≡ params → code_term test ≡ placing [] a → code_term body ≡ placing refs b → refs ≡ params →
    LoopCode first starts_copy names_copy (steps_term (hidden-the_row-CodeStep-0 test.steps) test.results.items) (steps_term (hidden-the_row-CodeStep-0 body.steps) body.results.items) s ≡ LoopCode first start params (placing [] a) (placing params b) s
loop_done first start starts starts_copy params names names_copy refs test body a b s copied is named are p q same =
    λ i. LoopCode first ((copied ∙ is) i) ((named ∙ are) i) ((block_hidden test ∙ p) i) ((block_hidden body ∙ q ∙ ap (λ xs. placing xs b) same) i) s

pub gen_done : (g : CoreGen) (names own : List Var) (body : CodeTerm) → names ≡ (out-CoreGen g).names.items → own ≡ (out-CoreGen g).index ∷ (out-CoreGen g).names.items → body ≡ placing own (block_term (out-CoreGen g).body) →
    ◌≡◌ {A = CodeGenTerm} (record {
      head = record { lower = (out-CoreGen g).lower; lower_closed = (out-CoreGen g).lower_closed; upper = (out-CoreGen g).upper; upper_closed = (out-CoreGen g).upper_closed; step = (out-CoreGen g).step; width = (out-CoreGen g).width; index = (out-CoreGen g).index; names = names; site = (out-CoreGen g).site };
      body = body;
    }) (placing_gen (gen_term g))
unfolding out-CoreGen denote.Hole.Carrier.out
gen_done (CoreGen' lower lower_closed upper upper_closed step width index names_of body_of site) names own body n o b =
    λ i. record {
      head = record { lower = lower; lower_closed = lower_closed; upper = upper; upper_closed = upper_closed; step = step; width = width; index = index; names = n i; site = site };
      body = (b ∙ ap (λ xs. placing xs (block_term body_of)) o) i;
    }

pub part_done : (p : CorePart) (grid : List Grid1) (body : CodeTerm) → grid ≡ (out-CorePart p).grid → body ≡ placing ((out-CorePart p).index ∷ []) (block_term (out-CorePart p).body) →
    ◌≡◌ {A = CodePartTerm} (record { head = record { grid = grid; index = (out-CorePart p).index; site = (out-CorePart p).site }; body = body }) (placing_part (part_term p))
unfolding out-CorePart denote.Hole.Carrier.out
part_done (CorePart' grid_of index body_of site) grid body g b = λ i. record { head = record { grid = g i; index = index; site = site }; body = b i }

-- a generator's index and names
pub owns : (index : Var) (none one names found all own : List Var) → none ≡ [] → one ≡ none ++ (index ∷ []) → found ≡ names → all ≡ one ++ found → own ≡ all → own ≡ index ∷ names
owns index none one names found all own empty first same more is = is ∙ more ∙ (λ i. (first ∙ ap (λ xs. xs ++ (index ∷ [])) empty) i ++ same i)
