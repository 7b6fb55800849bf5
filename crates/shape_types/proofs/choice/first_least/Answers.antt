use Rattle.std.proofs.Common.{◌≡◌, ℕ, ◌<◌, ap, ◌∙◌, sym, List, [], length, get_or, arith}
use Rattle.std.proofs.lemmas.List.{get_or-map, length-map}
use Rattle.sac_base.specs.Types.{is_least}
use Rattle.shape_types.specs.declared.choice.Instance.{Instance}
use Rattle.shape_types.specs.Instances.{types_of}
use Rattle.shape_types.proofs.Lists.{turn, hit}
use Rattle.shape_types.proofs.choice.first_least.Goals as goal

-- the list of types at a place
types_at : (instances : List Instance) (k : ℕ) (item : Instance) → k < length instances → item ≡ get_or instances k item → (k < length (types_of instances)) × (get_or (types_of instances) k [] ≡ item.params.items)
types_at instances k item lt e = (
  omega (arith, length-map instances (λ (i : Instance). i.params.items)),
  get_or-map (λ (i : Instance). i.params.items) instances k item [] lt ∙ ap (λ (i : Instance). i.params.items) (sym e),
)

pub returns-then-is_least_instance : goal.returns-then-is_least_instance
returns-then-is_least_instance c =
    let lists = types_of c.args.instances.now in
    let at = types_at c.args.instances.now c.loop-k.k c.index-instances-k.result c.loop-k-test.true c.index-instances-k.is in
    hit (is_least lists c.args.args.now) lists c.loop-k.k _ [] at.0 at.1 (sym c.is_least_instance.ensures ∙ c.if-is_least_instance.true) c.loop-k.invariant

pub loop-k-preserved : goal.loop-k-preserved
loop-k-preserved c =
    let lists = types_of c.args.instances.now in
    let at = types_at c.args.instances.now c.loop-k.k c.index-instances-k.result c.loop-k-test.true c.index-instances-k.is in
    turn (is_least lists c.args.args.now) lists c.loop-k.k _ _ [] at.0 at.1 (sym c.is_least_instance.ensures ∙ c.if-is_least_instance.false) c.loop-k.invariant
