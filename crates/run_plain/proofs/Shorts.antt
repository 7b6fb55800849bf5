-- Short vectors and words as values.
use Rattle.std.proofs.Common.{◌≡◌, ◌≤◌, ℤ, pos, List, length, Result, Ok, Err, refl, ap, ◌∙◌, sym, subst, arith, le-leb, map, ◌∷◌, []}
use Rattle.std.specs.Prelude.{unsigned_abs}
use Rattle.std.proofs.lemmas.List.{length-take, length-map}
use Rattle.sac_base.specs.declared.base.Base.{Base}
use Rattle.sac_base.specs.declared.base.Base.TheVariants.{Int}
use Rattle.sac_base.specs.declared.faults.FaultKind.{FaultKind}
use Rattle.sac_base.specs.declared.op.Op.{Op}
use Rattle.sac_base.specs.declared.site.Site.{Site}
use Rattle.sac_base.specs.Arrays.{ArrayValue, scalar, vector}
use Rattle.sac_base.specs.Operators.{apply_one, result_base, unary}
use Rattle.sac_base.specs.Outcomes.{Ends, at_site}
use Rattle.sac_base.specs.Parts.{shape_vector}
use Rattle.run_store.specs.declared.store.Store.{Store}
use Rattle.counted_code.specs.Values.{Heap, Value, Small, Ref, place_value, read}
use Rattle.sac_base.specs.declared.stop.Stop.{Stop}
use Rattle.sac_base.specs.declared.stop.Stop.TheVariants.{Faulted, Memory}
use Rattle.array_ops.specs.Tells.{TellsStop}
use Rattle.run_store.specs.Stands.{Stands, Placed, TellsPlaced}
use Rattle.run_store.proofs.Placing.{small_placed}
use Rattle.run_values.specs.declared.few.Few.{Few}
use Rattle.run_values.specs.declared.value.RunValue.{RunValue}
use Rattle.run_values.specs.declared.value.RunValue.TheVariants.{Unbound, Word, Short, Buffer}
use Rattle.run_values.specs.Numbers.{numbers}
use Rattle.run_values.specs.Shown.{value_of, shape_of}

pub numbers_few : (few : Few) → length (numbers few) ≤ 8
numbers_few few = let size = length-take few.len few.items in omega (arith, size, few.few)

-- a short vector is placed in the value
pub short_placed : (h : Store) (m : Heap) (base : Base) (few : Few) (a : ArrayValue) → vector base (numbers few) ≡ a → Stands h m → Placed (Short base few) h (place_value a m)
short_placed h m base few a is stands =
    subst (λ (b : ArrayValue). Placed (Short base few) h (place_value b m)) is
    (small_placed h m (vector base (numbers few)) (Short base few) (sym (le-leb (length (numbers few)) 8 (numbers_few few))) refl stands)

-- an operator at each element
pub unary_is : (op : Op) (base : Base) (ns : List ℤ) (few : Few) → numbers few ≡ map (apply_one op) ns → vector (result_base op) (numbers few) ≡ unary op (vector base ns)
unary_is op base ns few is = λ i. record { base = result_base op; shape = (ap length is ∙ length-map ns (apply_one op)) i ∷ []; cells = is i }

-- ---- answers by what is meant

pub short_tells : (h : Store) (m : Heap) (site : Site) (base : Base) (few : Few) (meant : Result ArrayValue FaultKind) → meant ≡ Ok (vector base (numbers few)) → Stands h m → TellsPlaced (Ok (Short base few)) h m (at_site site meant)
short_tells h m site base few meant is stands =
    subst (λ (r : Result ArrayValue FaultKind). TellsPlaced (Ok (Short base few)) h m (at_site site r)) (sym is) (short_placed h m base few (vector base (numbers few)) refl stands)

pub word_tells : (h : Store) (m : Heap) (site : Site) (base : Base) (n : ℤ) (meant : Result ArrayValue FaultKind) → meant ≡ Ok (scalar base n) → Stands h m → TellsPlaced (Ok (Word base n)) h m (at_site site meant)
word_tells h m site base n meant is stands =
    subst (λ (r : Result ArrayValue FaultKind). TellsPlaced (Ok (Word base n)) h m (at_site site r)) (sym is) (refl, stands)

pub fault_tells : (h : Store) (m : Heap) (site : Site) (kind : FaultKind) (stop : Stop) (meant : Result ArrayValue FaultKind) → meant ≡ Err kind → stop ≡ Faulted (record { kind = kind; site = site }) → TellsPlaced (Err stop) h m (at_site site meant)
fault_tells h m site kind stop meant is stopped =
    subst (λ (r : Result ArrayValue FaultKind). TellsPlaced (Err stop) h m (at_site site r)) (sym is)
    (subst (λ (s : Stop). TellsPlaced (Err s) h m (at_site site (Err kind))) (sym stopped) refl)

-- an answer of whole arrays
pub stop_tells : (h : Store) (m : Heap) (stop : Stop) (meant : Ends ArrayValue) → TellsStop stop meant → TellsPlaced (Err stop) h m meant
stop_tells h m (Faulted f) meant is = subst (λ (r : Ends ArrayValue). TellsPlaced (Err (Faulted f)) h m r) (sym is) refl
stop_tells h m Memory meant is = tt

-- ---- shapes

pub read_shape : (m : Heap) (v : Value) → (read m v).shape ≡ shape_of v
read_shape m (Small a) = refl
read_shape m (Ref place base shape) = refl

pub rank_few : (v : RunValue) → length (shape_of (value_of v)) ≤ 8
rank_few Unbound = omega arith
rank_few (Word base n) = omega arith
rank_few (Short base few) = omega arith
rank_few (Buffer base id extents) = let size = length-map (numbers extents) unsigned_abs in let few = numbers_few extents in omega (arith, size, few)

-- extents as a vector
pub extents_are : (m : Heap) (v : RunValue) (ns : List ℤ) → map unsigned_abs ns ≡ shape_of (value_of v) → map pos (map unsigned_abs ns) ≡ ns → shape_vector (read m (value_of v)) ≡ vector Int ns
extents_are m v ns is naturals = ap (λ shape. vector Int (map pos shape)) (read_shape m (value_of v) ∙ sym is) ∙ ap (vector Int) naturals
