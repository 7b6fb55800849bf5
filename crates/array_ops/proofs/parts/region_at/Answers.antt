use Rattle.std.proofs.Common.{◌≡◌, ℕ, ◌+◌, ◌≤◌, ◌<◌, ◌^◌, ap, ◌∙◌, sym, length, drop, List, ℤ, Option, Some, None, SomeIff, if◌then◌else◌, le-leb, arith, rules}
use Rattle.sac_base.specs.Arrays.{ArrayValue, size, MOST}
use Rattle.sac_base.specs.Parts.{part_at, part_at_index, numbers_of}
use Rattle.sac_base.specs.Places.{place_of}
use Rattle.sac_base.proofs.RowMajor.{part_from_place}
use Rattle.array_ops.proofs.parts.region_at.Goals as goal

-- the part at the place that was found
found : (a index : ArrayValue) (ns : List ℕ) (is : List ℤ) (place : Option ℕ) (s : ℕ) → place ≡ Some s → place ≡ place_of ns is → ns ≡ a.shape → is ≡ index.cells
    → (part_at a.shape index.cells ≡ Some (record { start = s; shape = drop (length index.cells) a.shape })) × (length index.cells ≤ length a.shape) × (s + size (drop (length index.cells) a.shape) ≤ size a.shape)
found a index ns is place s e h en ei = part_from_place a.shape index.cells s (sym (h ∙ ap (λ xs. place_of xs is) en ∙ ap (place_of a.shape) ei) ∙ e)

rest_is : (a index : ArrayValue) (ns : List ℕ) (is : List ℤ) (rest : List ℕ) → rest ≡ drop (length is) ns → ns ≡ a.shape → is ≡ index.cells → rest ≡ drop (length index.cells) a.shape
rest_is a index ns is rest h en ei = h ∙ ap (λ xs. drop (length is) xs) en ∙ ap (λ zs. drop (length zs) a.shape) ei

counted : (r : Option ℕ) (n : ℕ) → SomeIff r (n ≤ MOST) n → n ≤ MOST → r ≡ Some n
counted None n h small = absurd (h small)
counted (Some m) n h small = ap Some h.1

some_value : (r : Option ℕ) (n m : ℕ) → r ≡ Some n → r ≡ Some m → m ≡ n
some_value r n m e f = let same : Some m ≡ Some n = sym f ∙ e in cc

vector_index : (a index : ArrayValue) (n : ℕ) (ms : List ℕ) → n ≤ 1 → n ≡ length ms → ms ≡ index.shape → part_at_index a (numbers_of index) ≡ part_at a.shape index.cells
vector_index a index n ms small e em =
    ap (λ b. part_at_index a (if b then Some index.cells else None)) (le-leb (length index.shape) 1 (omega (arith, e, ap length em)))

pub rest-shape-requires : goal.rest-shape-requires
rest-shape-requires c =
    let at = found c.args.a.now c.args.index.now _ _ c.offset.result c.in-Some.start c.in-Some.is c.offset.ensures c.shape-2.ensures c.cells-vector.ensures.value in
    omega (arith, at.1, ap length c.cells-vector.ensures.value, ap length c.shape-in-Some.ensures)

pub unwrap-requires : goal.unwrap-requires
unwrap-requires c =
    let at = found c.args.a.now c.args.index.now _ _ c.offset.result c.in-Some.start c.in-Some.is c.offset.ensures c.shape-2.ensures c.cells-vector.ensures.value in
    let rest = rest_is c.args.a.now c.args.index.now _ _ c.rest-shape.result c.rest-shape.ensures c.shape-in-Some.ensures c.cells-vector.ensures.value in
    let n = counted c.elements.result (size c.rest-shape.result) c.elements.ensures (omega (arith, at.2, ap size rest, c.cells-cells.ensures.array.most)) in
    rw n (search rules)

pub overflow_add-end : goal.overflow_add-end
overflow_add-end c =
    let at = found c.args.a.now c.args.index.now _ _ c.offset.result c.in-Some.start c.in-Some.is c.offset.ensures c.shape-2.ensures c.cells-vector.ensures.value in
    let rest = rest_is c.args.a.now c.args.index.now _ _ c.rest-shape.result c.rest-shape.ensures c.shape-in-Some.ensures c.cells-vector.ensures.value in
    let n = counted c.elements.result (size c.rest-shape.result) c.elements.ensures (omega (arith, at.2, ap size rest, c.cells-cells.ensures.array.most)) in
    let same = some_value c.elements.result _ c.unwrap.result n c.unwrap.ensures in
    let small : c.in-Some.start + c.unwrap.result < 2 ^ 64 = omega (arith, at.2, same, ap size rest, c.cells-cells.ensures.array.most) in
    record { fits = small }

pub returns-in-Some : goal.returns-in-Some
returns-in-Some c =
    let a = c.args.a.now in
    let index = c.args.index.now in
    let at = found a index _ _ c.offset.result c.in-Some.start c.in-Some.is c.offset.ensures c.shape-2.ensures c.cells-vector.ensures.value in
    let rest = rest_is a index _ _ c.rest-shape.result c.rest-shape.ensures c.shape-in-Some.ensures c.cells-vector.ensures.value in
    let n = counted c.elements.result (size c.rest-shape.result) c.elements.ensures (omega (arith, at.2, ap size rest, c.cells-cells.ensures.array.most)) in
    let same = some_value c.elements.result _ c.unwrap.result n c.unwrap.ensures in (
      vector_index a index c.rank.result c.shape.result.now c.if-rank-gt1.false c.rank.ensures.value c.shape.ensures ∙ at.0 ∙ ap (λ ns. Some (record { start = c.in-Some.start; shape = ns })) (sym rest),
      omega (arith, same),
      omega (arith, at.2, same, ap size rest, c.cells-cells.ensures.array.full),
    )
