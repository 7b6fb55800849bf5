-- How far a run may still go: by the levels that are left, then by the height of the tree.
use Rattle.std.proofs.Common.{ℕ, ◌+◌, ◌*◌, ◌<◌, ◌≤◌, Bool, true, false, List, length, arith, get_or, sym, subst, Ok}
use Rattle.std.proofs.Math.Nat.{mul-le-mul_right, add-mul}
use denote.Param.Weighed.{most, at_most}
use Rattle.sac_base.specs.declared.site.Site.{Site}
use Rattle.counted_code.specs.declared.tree.CodeBlock.{size-CodeBlock}
use Rattle.counted_code.specs.declared.tree.CodeFun.{CodeFun}
use Rattle.counted_code.proofs.Sizes.{gens_size, parts_size}
use Rattle.run_loops.specs.declared.cell_loop.CellSource.{CellSource}
use Rattle.run_loops.specs.declared.cell_loop.CellSource.TheVariants.{Generators, Parts}
use Rattle.run_loops.specs.declared.state.Context.{Context}
use Rattle.run_loops.specs.Running.{Deeper}

abbrev pub body_size : CodeFun → ℕ
body_size f = size-CodeBlock f.body

abbrev pub source_size : CellSource → ℕ
source_size (Generators gens) = gens_size gens.now
source_size (Parts parts) = parts_size parts.now

-- more than any body of the functions
unfoldable pub height : List CodeFun → ℕ
height fs = 8 * most body_size fs + 8

unfoldable pub rank : ℕ → ℕ → List CodeFun → ℕ
rank left nest fs = (left * (length fs + 1) + nest) * height fs

abbrev pub rank_of : Context → ℕ
rank_of c = rank c.left c.nest c.code.now.functions.items

more : (a b h : ℕ) → a + 1 ≤ b → a * h + h ≤ b * h
more a b h le = omega (arith, mul-le-mul_right h le, add-mul a 1 h)

-- one level deeper
rank_falls : (left nest : ℕ) (fs : List CodeFun) → rank left (length fs) fs + height fs ≤ rank (left + 1) nest fs
unfolding rank
rank_falls left nest fs = more (left * (length fs + 1) + length fs) ((left + 1) * (length fs + 1) + nest) (height fs) (omega (arith, add-mul left 1 (length fs + 1)))

-- one inline function further
rank_falls_inline : (left nest : ℕ) (fs : List CodeFun) → rank left nest fs + height fs ≤ rank left (nest + 1) fs
unfolding rank
rank_falls_inline left nest fs = more (left * (length fs + 1) + nest) (left * (length fs + 1) + (nest + 1)) (height fs) (omega arith)

-- the same of the evaluator's levels
pub falls : (inner context : Context) (inline : Bool) (site : Site) → Deeper (Ok inner) context inline site → rank_of inner + height context.code.now.functions.items ≤ rank_of context
falls inner context true site d =
    subst (λ r. r + height context.code.now.functions.items ≤ rank_of context) (sym ((λ i. rank (d.1 i) inner.nest ((d.3 i).functions.items))))
    (subst (λ n. rank context.left inner.nest context.code.now.functions.items + height context.code.now.functions.items ≤ rank context.left n context.code.now.functions.items) (sym d.0) (rank_falls_inline context.left inner.nest context.code.now.functions.items))
falls inner context false site d =
    subst (λ r. r + height context.code.now.functions.items ≤ rank_of context) (sym ((λ i. rank inner.left (d.1 i) ((d.3 i).functions.items))))
    (subst (λ l. rank inner.left (length context.code.now.functions.items) context.code.now.functions.items + height context.code.now.functions.items ≤ rank l context.nest context.code.now.functions.items) (sym d.0) (rank_falls inner.left context.nest context.code.now.functions.items))

pub body_below : (fs : List CodeFun) (i : ℕ) (d : CodeFun) → i < length fs → 8 * body_size (get_or fs i d) + 8 ≤ height fs
unfolding height
body_below fs i d h = omega (arith, at_most body_size fs i d h)
