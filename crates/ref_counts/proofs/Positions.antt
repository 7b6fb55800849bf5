-- Where the blocks of a right side stand in the list of uses.
use Rattle.std.proofs.Common.{◌≡◌, ℕ, suc, ◌+◌, ◌<◌, List, [], ◌∷◌, ◌++◌, map, length, drop, take, slice_index_or, refl, ap, ◌∙◌, sym}
use Rattle.std.proofs.lemmas.List.{take_more}
use Rattle.core_ir.specs.declared.tree.Var.{Var}
use Rattle.core_ir.specs.declared.tree.CoreGen.{CoreGen, CoreGen', out-CoreGen}
use Rattle.core_ir.specs.declared.tree.CorePart.{CorePart, CorePart', out-CorePart}
use Rattle.core_ir.specs.declared.tree.Let.{Let}
use Rattle.core_ir.specs.declared.tree.WithLoop.{WithLoop, out-WithLoop}
use Rattle.core_ir.specs.declared.tree.PartedLoop.{PartedLoop, out-PartedLoop}
use Rattle.core_ir.specs.Scopes.{op_uses, parted_uses, head_uses}
use Rattle.core_ir.specs.Terms.{BlockTerm, RightTerm, Gives, chain}
use Rattle.core_ir.specs.View.{block_term, let_term, with_term, parted_term, gen_term, part_term}
use Rattle.counted_code.specs.declared.tree.CodeStep.{CodeStep}
use Rattle.counted_code.specs.View.{steps_before}
use Rattle.counted_laws.specs.placing.Placing.{placing}
use Rattle.ref_rules.specs.declared.listed_uses.list.Entry.{Entry}
use Rattle.ref_rules.specs.declared.listed_uses.list.Entry.TheVariants.{Use}
use Rattle.ref_rules.specs.listed_uses.Latest.{section, EndsAt}
use Rattle.ref_counts.specs.declared.held.Owned.{Owned}
use Rattle.ref_counts.specs.Listing.{each, listed, listed_right}
use Rattle.ref_counts.specs.Owning.{owned_vars, IsSound}
use Rattle.ref_counts.proofs.Collected.{assoc, let_listed, gen_listed, part_listed, with_listed, parted_listed}

-- how far the walk over a block is: what is used from its place on, in the list of all uses and up to the block's end, and what is placed
pub record IsPlacedTo (uses own : List Entry) (from : ℕ) (owned : Owned) (steps : List CodeStep) (refs rs : List Var) (here items : List Let) (later : List Entry) : Type 0 where
  pub all : drop from uses ≡ let_listed here ++ (each rs ++ later)
  pub left : drop from own ≡ let_listed here ++ each rs
  pub sound : IsSound own owned
  pub placed : steps_before steps (placing (owned_vars owned) (chain (map let_term here) (Gives rs))) ≡ placing refs (chain (map let_term items) (Gives rs))

-- the two blocks of a conditional
pub if_places : (uses : List Entry) (from first second : ℕ) (c : Var) (a b : BlockTerm) (r : RightTerm) (later : List Entry) → drop from uses ≡ listed_right r ++ later → r ≡ RightTerm.If c a b → EndsAt uses from (Use c ∷ []) first → EndsAt uses first (section (listed a)) second →
    (drop first uses ≡ section (listed a) ++ (section (listed b) ++ later)) × (drop second uses ≡ section (listed b) ++ later)
if_places uses from first second c a b r later h is skips ends =
    let blocks = section (listed a) ++ section (listed b) in
    let one = (skips (blocks ++ later) (h ∙ ap (λ s. listed_right s ++ later) is)).1 ∙ sym (assoc (section (listed a)) (section (listed b)) later) in
    (one, (ends (section (listed b) ++ later) one).1)

-- and of a loop
pub loop_places : (uses : List Entry) (from first second : ℕ) (start : List Var) (test body : BlockTerm) (r : RightTerm) (later : List Entry) → drop from uses ≡ listed_right r ++ later → listed_right r ≡ each start ++ (section (listed test) ++ section (listed body)) →
    EndsAt uses from (each start) first → EndsAt uses first (section (listed test)) second → (drop first uses ≡ section (listed test) ++ (section (listed body) ++ later)) × (drop second uses ≡ section (listed body) ++ later)
loop_places uses from first second start test body r later h is skips ends =
    let blocks = section (listed test) ++ section (listed body) in
    let one = (skips (blocks ++ later) (h ∙ ap (λ es. es ++ later) is ∙ sym (assoc (each start) blocks later))).1 ∙ sym (assoc (section (listed test)) (section (listed body)) later) in
    (one, (ends (section (listed body) ++ later) one).1)

pub length_each : (xs : List Var) → length xs ≡ length (each xs)
length_each [] = refl
length_each (x ∷ xs) = ap suc (length_each xs)

-- ---- the generators of a with-loop

pub first_gen : (w : WithLoop) (uses : List Entry) (from at : ℕ) (items : List CoreGen) (later : List Entry) → drop from uses ≡ listed_right (with_term w) ++ later → EndsAt uses from (section (each (op_uses (out-WithLoop w).op))) at → items ≡ (out-WithLoop w).gens.items → drop at uses ≡ gen_listed items ++ later
first_gen w uses from at items later h ends same =
    let gens = (out-WithLoop w).gens.items in
    (ends (gen_listed gens ++ later) (h ∙ ap (λ es. es ++ later) (with_listed w) ∙ sym (assoc (section (each (op_uses (out-WithLoop w).op))) (gen_listed gens) later))).1
    ∙ ap (λ gs. gen_listed gs ++ later) (sym same)

pub next_gen : (uses : List Entry) (at body next : ℕ) (g : CoreGen) (here more : List CoreGen) (later : List Entry) → here ≡ g ∷ more → drop at uses ≡ gen_listed here ++ later → EndsAt uses at (section (each (head_uses (gen_term g).head))) body → EndsAt uses body (section (listed (gen_term g).body)) next →
    (drop body uses ≡ section (listed (gen_term g).body) ++ (gen_listed more ++ later)) × (drop next uses ≡ gen_listed more ++ later)
next_gen uses at body next g here more later is h bounds ends =
    let rest = section (listed (gen_term g).body) ++ gen_listed more in
    let one = (bounds (rest ++ later) (h ∙ ap (λ gs. gen_listed gs ++ later) is ∙ sym (assoc (section (each (head_uses (gen_term g).head))) rest later))).1 ∙ sym (assoc (section (listed (gen_term g).body)) (gen_listed more) later) in
    (one, (ends (gen_listed more ++ later) one).1)

-- ---- the parts of a parted loop

pub first_part : (p : PartedLoop) (uses : List Entry) (from at : ℕ) (items : List CorePart) (later : List Entry) → drop from uses ≡ listed_right (parted_term p) ++ later → EndsAt uses from (section (each (parted_uses (out-PartedLoop p).op))) at → items ≡ (out-PartedLoop p).parts.items → drop at uses ≡ part_listed items ++ later
first_part p uses from at items later h ends same =
    let parts = (out-PartedLoop p).parts.items in
    (ends (part_listed parts ++ later) (h ∙ ap (λ es. es ++ later) (parted_listed p) ∙ sym (assoc (section (each (parted_uses (out-PartedLoop p).op))) (part_listed parts) later))).1
    ∙ ap (λ ps. part_listed ps ++ later) (sym same)

pub next_part : (uses : List Entry) (at next : ℕ) (p : CorePart) (here more : List CorePart) (later : List Entry) → here ≡ p ∷ more → drop at uses ≡ part_listed here ++ later → EndsAt uses at (section (listed (part_term p).body)) next →
    (drop at uses ≡ section (listed (part_term p).body) ++ (part_listed more ++ later)) × (drop next uses ≡ part_listed more ++ later)
next_part uses at next p here more later is h ends =
    let one = h ∙ ap (λ ps. part_listed ps ++ later) is ∙ sym (assoc (section (listed (part_term p).body)) (part_listed more) later) in
    (one, (ends (part_listed more ++ later) one).1)

-- ---- bodies, and lists that are made of lists

pub gen_body : (g : CoreGen) → (gen_term g).body ≡ block_term (out-CoreGen g).body
unfolding out-CoreGen denote.Hole.Carrier.out
gen_body (CoreGen' lower lower_closed upper upper_closed step width index names body site) = refl

pub part_body : (p : CorePart) → (part_term p).body ≡ block_term (out-CorePart p).body
unfolding out-CorePart denote.Hole.Carrier.out
part_body (CorePart' grid index body site) = refl

map_append : {A C : Type 0} (f : A → C) (xs : List A) (y : A) → map f (xs ++ y ∷ []) ≡ map f xs ++ f y ∷ []
map_append f [] y = refl
map_append f (x ∷ xs) y = ap (λ l. f x ∷ l) (map_append f xs y)

pub mapped_more : {A B C : Type 0} (f : A → C) (g : B → C) (xs ys : List A) (y : A) (items : List B) (i : ℕ) (d : B) → map f xs ≡ map g (take i items) → ys ≡ xs ++ y ∷ [] → i < length items → d ≡ slice_index_or items i d → f y ≡ g d → map f ys ≡ map g (take (i + 1) items)
mapped_more f g xs ys y items i d was pushed lt here same =
    ap (map f) pushed ∙ map_append f xs y ∙ (λ j. was j ++ same j ∷ []) ∙ sym (map_append g (take i items) d)
    ∙ ap (λ e. map g (take i items ++ e ∷ [])) here ∙ ap (map g) (sym (take_more items i d lt))
