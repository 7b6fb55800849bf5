-- A moved grid lies inside of a shape exactly where its least and its greatest members do.
use Rattle.std.proofs.Common.{◌≡◌, ℕ, ◌+◌, ◌<◌, ◌≤◌, ◌↔◌, Bool, true, false, ◌&&◌, cond, List, [], ◌∷◌, map, length, refl, sym, ap, ◌∙◌, arith, ℤ, pos, negsuc, ◌+ℤ◌, ◌≤ℤ◌, ◌<ℤ◌}
use Rattle.std.proofs.Common.{Some, None, nat_lt}
use Rattle.std.specs.Prelude.{filter, if◌then◌else◌, IsTrue, nat_le}
use Rattle.std.specs.List.{list_all}
use Rattle.std.proofs.lemmas.Bool.Decides.{nat_tests}
use Rattle.std.proofs.lemmas.Int.{ints}
use Rattle.sac_base.specs.declared.grid.Grid1.{Grid1}
use Rattle.sac_base.specs.Grids.{has_index, has_vector, members}
use Rattle.sac_base.specs.Parts.{part_at, further}
use Rattle.sac_base.specs.Shapes.{IsShape}
use Rattle.core_facts.specs.Facts.{is_some}
use Rattle.core_facts.proofs.Extents.{is_shape_decides}
use Rattle.core_loops.specs.Indices.{at_offset, are_extents}
use Rattle.core_loops.proofs.index_facts.Members.{and_both, member_has}
use Rattle.generator_sets.specs.Pieces.{moved}
use Rattle.grid_spans.specs.Spans.{IsSpan}
use Rattle.grid_spans.specs.moved.Within.{number_at_first, numbers_behind, HaveMembers}
use Rattle.grid_spans.proofs.moved.WithinFacts.{both, never, by_moved, some_vector}
use Rattle.operand_checks.proofs.Index.{further_some}
use Rattle.total_cells.specs.Inside.{IsAxisInside, AreInside}

-- ---- all members

kept_all : (p q : List ℤ → Bool) (vs : List (List ℤ)) → ((v : List ℤ) → q v ≡ true → p v ≡ true) → list_all p (filter q vs) ≡ true
kept_all p q [] h = refl
kept_all p q (v ∷ vs) h = go (q v) (h v) (kept_all p q vs h)
  where
    go : (b : Bool) → (b ≡ true → p v ≡ true) → list_all p (filter q vs) ≡ true → list_all p (cond b (v ∷ filter q vs) (filter q vs)) ≡ true
    go true f rest = (λ i. f refl i && list_all p (filter q vs)) ∙ rest
    go false f rest = rest

all_members : (p : List ℤ → Bool) (g : List Grid1) → ((v : List ℤ) → has_vector g v ≡ true → p v ≡ true) → list_all p (members g) ≡ true
all_members p g h = kept_all p (has_vector g) _ h

-- ---- one axis

lesser : (n w : ℕ) → n < w → nat_lt n w ≡ true
lesser n w h = first_of (grind (arith, nat_tests))

is_less : (n w : ℕ) → nat_lt n w ≡ true → n < w
is_less n w h = first_of (grind (arith, nat_tests))

part_inside : (n : ℕ) (ns : List ℕ) (z : ℤ) (is : List ℤ) → pos 0 ≤ℤ z → z <ℤ pos n → is_some (part_at (n ∷ ns) (z ∷ is)) ≡ is_some (part_at ns is)
part_inside n ns (pos i) is l h =
    let less : i < n = omega (arith, ints) in
    (λ j. is_some (if lesser i n less j then further i ns (part_at ns is) else None)) ∙ further_some i ns (part_at ns is)
part_inside n ns (negsuc i) is l h = absurd (omega (arith, ints))

inside_part : (n : ℕ) (ns : List ℕ) (z : ℤ) (is : List ℤ) → is_some (part_at (n ∷ ns) (z ∷ is)) ≡ true → (pos 0 ≤ℤ z) × (z <ℤ pos n) × (is_some (part_at ns is) ≡ true)
inside_part n ns (pos i) is h = go (nat_lt i n) refl h
  where
    go : (b : Bool) → nat_lt i n ≡ b → is_some (if b then further i ns (part_at ns is) else None) ≡ true → (pos 0 ≤ℤ pos i) × (pos i <ℤ pos n) × (is_some (part_at ns is) ≡ true)
    go true e h = (omega (arith, ints), (let less = is_less i n e in omega (arith, ints)), sym (further_some i ns (part_at ns is)) ∙ h)
    go false e h = absurd (never false h refl)
inside_part n ns (negsuc i) is h = absurd (never false h refl)

-- ---- all axes

all_in : (gs : List Grid1) (ns : List ℕ) (cs : List ℤ) → AreInside gs (map pos ns) cs → (v : List ℤ) → has_vector gs v ≡ true → is_some (part_at ns (moved v cs)) ≡ true
all_in [] ns cs b [] h = refl
all_in [] ns cs b (x ∷ v) h = absurd (never false h refl)
all_in (g ∷ gs) [] cs b v h = absurd b
all_in (g ∷ gs) (n ∷ ns) cs b [] h = absurd (never false h refl)
all_in (g ∷ gs) (n ∷ ns) cs b (x ∷ v) h =
    let w = and_both (has_index g x) (has_vector gs v) h in
    let f = b.0 x w.0 in
    ap (λ u. is_some (part_at (n ∷ ns) u)) (by_moved x v cs)
    ∙ part_inside n ns (x +ℤ number_at_first cs) (moved v (numbers_behind cs)) f.0 f.1
    ∙ all_in gs ns (numbers_behind cs) b.1 v w.1

from_all : (gs : List Grid1) (ns : List ℕ) (cs : List ℤ) → HaveMembers gs → ((v : List ℤ) → has_vector gs v ≡ true → is_some (part_at ns (moved v cs)) ≡ true) → AreInside gs (map pos ns) cs
from_all [] ns cs m all = tt
from_all (g ∷ gs) [] cs m all =
    let t = some_vector gs m.1 in
    absurd (never false (ap (λ u. is_some (part_at [] u)) (sym (by_moved m.0.0 t.0 cs)) ∙ all (m.0.0 ∷ t.0) (both (has_index g m.0.0) (has_vector gs t.0) m.0.1 t.1)) refl)
from_all (g ∷ gs) (n ∷ ns) cs m all =
    (λ x h. let s = some_vector gs m.1 in let r = at x s.0 h s.1 in (r.0, r.1), from_all gs ns (numbers_behind cs) m.1 (λ v h. (at m.0.0 v m.0.1 h).2))
  where
    at : (x : ℤ) (v : List ℤ) → has_index g x ≡ true → has_vector gs v ≡ true → (pos 0 ≤ℤ (x +ℤ number_at_first cs)) × ((x +ℤ number_at_first cs) <ℤ pos n) × (is_some (part_at ns (moved v (numbers_behind cs))) ≡ true)
    at x v h k =
        inside_part n ns (x +ℤ number_at_first cs) (moved v (numbers_behind cs))
        (ap (λ u. is_some (part_at (n ∷ ns) u)) (sym (by_moved x v cs)) ∙ all (x ∷ v) (both (has_index g x) (has_vector gs v) h k))

extents_fit : (ns : List ℕ) → IsShape ns → are_extents ns ≡ true
extents_fit ns s = (and_both (nat_le (length ns) 8) (are_extents ns) ((is_shape_decides ns).1 s)).1

abbrev here : List ℕ → List ℤ → List ℤ → Bool
here ns cs v = is_some (part_at ns (moved v cs))

-- the test is that of all members
pub inside_is : (b : Bool) (g : List Grid1) (ns : List ℕ) (cs : List ℤ) → IsShape ns → HaveMembers g → (IsTrue b ↔ AreInside g (map pos ns) cs) → b ≡ at_offset g ns (Some cs)
inside_is true g ns cs s m d = sym ((λ i. extents_fit ns s i && list_all (here ns cs) (members g)) ∙ all_members (here ns cs) g (all_in g ns cs (d.0 refl)))
inside_is false g ns cs s m d = sym ((λ i. extents_fit ns s i && list_all (here ns cs) (members g)) ∙ go (list_all (here ns cs) (members g)) refl)
  where
    go : (b : Bool) → list_all (here ns cs) (members g) ≡ b → b ≡ false
    go true e = absurd (never false (d.1 (from_all g ns cs m (λ v h. member_has (here ns cs) g v e h))) refl)
    go false e = refl

pub nowhere_is : (g : List Grid1) (ns : List ℕ) (cs : List ℤ) → IsShape ns → ((v : List ℤ) → has_vector g v ≡ false) → true ≡ at_offset g ns (Some cs)
nowhere_is g ns cs s h =
    sym ((λ i. extents_fit ns s i && list_all (here ns cs) (members g)) ∙ all_members (here ns cs) g (λ v k. absurd (never (has_vector g v) k (h v))))

-- ---- the ends of an axis

pub none_inside : (g : Grid1) (n c : ℤ) → ((x : ℤ) → has_index g x ≡ false) → IsAxisInside g n c
none_inside g n c h = λ x k. absurd (never (has_index g x) k (h x))

ends_inside : (g : Grid1) (n c least greatest : ℤ) → IsSpan g least greatest → pos 0 ≤ℤ (least +ℤ c) → (greatest +ℤ c) <ℤ n → IsAxisInside g n c
ends_inside g n c least greatest s l h = λ x k. let a = s.0.below x k in let b = s.1.above x k in (omega (arith, ints), omega (arith, ints))

inside_ends : (g : Grid1) (n c least greatest : ℤ) → IsSpan g least greatest → IsAxisInside g n c → (pos 0 ≤ℤ (least +ℤ c)) × ((greatest +ℤ c) <ℤ n)
inside_ends g n c least greatest s h = ((h least s.0.member).0, (h greatest s.1.member).1)

pub axis_is : (b : Bool) (g : Grid1) (n c least greatest : ℤ) → IsSpan g least greatest → (b ≡ true → (pos 0 ≤ℤ (least +ℤ c)) × ((greatest +ℤ c) <ℤ n)) → (pos 0 ≤ℤ (least +ℤ c) → (greatest +ℤ c) <ℤ n → b ≡ true)
    → IsTrue b ↔ IsAxisInside g n c
axis_is b g n c least greatest s there back =
    (λ t. let e = there t in ends_inside g n c least greatest s e.0 e.1, λ h. let e = inside_ends g n c least greatest s h in back e.0 e.1)
