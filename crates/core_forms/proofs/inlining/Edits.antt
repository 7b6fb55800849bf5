-- One place inside a block is changed, whose calls have a property.
use Rattle.std.proofs.Common.{◌≡◌, ℕ, List, [], ◌∷◌, map, refl}
use Rattle.sac_base.specs.declared.base.Base.TheVariants.{Int}
use Rattle.sac_base.specs.Arrays.{vector}
use Rattle.sac_base.specs.Outcomes.{and_then, choose}
use Rattle.sac_base.specs.Parts.{condition}
use Rattle.sac_base.specs.WithLoops.{with_value}
use Rattle.core_ir.specs.Edits.{Edited, EditedRight, EditedGens, EditedParts, here, later, inside, in_then, in_else, in_test, in_body, in_gens, in_parts, this_gen, later_gen, this_part, later_part}
use Rattle.core_ir.specs.Meaning.{CallMeaning, bind, bind_all, first, one, loop_value, parted_value, generator, operation, with_index, run, right_value, generators, cells}
use Rattle.core_ir.specs.Terms.{BlockTerm, RightTerm, GensTerm, PartsTerm}
use Rattle.core_facts.specs.calls.Nests.{CallsAll, CallsAllRight, CallsAllGens, CallsAllParts}
use Rattle.core_forms.specs.inlining.Step.{Nothing, no_ways}

module _ (calls : CallMeaning) (turns : ℕ) (P : ℕ → Type 0) (Rule : Nothing → BlockTerm → BlockTerm → Type 0)
    (same : (k : Nothing) (b c : BlockTerm) → Rule k b c → CallsAll P b → run calls turns b ≡ run calls turns c) where
  mutual
    pub edited : {k : Nothing} {b c : BlockTerm} → Edited Nothing no_ways Rule k b c → CallsAll P b → run calls turns b ≡ run calls turns c
    edited (here r) h = same _ _ _ r h
    edited (later {xs = xs} {s = s} {r = r} d) h = λ i e. and_then (right_value calls turns r s e) (λ vs. edited d h.1 i (bind_all e xs vs))
    edited (inside {xs = xs} {s = s} {b = b} d) h = λ i e. and_then (edited_right d h.0 i s e) (λ vs. run calls turns b (bind_all e xs vs))

    edited_right : {k : Nothing} {r q : RightTerm} → EditedRight Nothing no_ways Rule k r q → CallsAllRight P r → right_value calls turns r ≡ right_value calls turns q
    edited_right (in_then {x = x} {b = b} d) h = λ i s e. choose s (condition (e x)) (edited d h.0 i e) (run calls turns b e)
    edited_right (in_else {x = x} {a = a} d) h = λ i s e. choose s (condition (e x)) (run calls turns a e) (edited d h.1 i e)
    edited_right (in_test {first = f} {start = start} {params = params} {b = b} {s = u} d) h =
        λ i s e. loop_value f turns s u (λ vs. first (edited d h.0 i (bind_all e params vs))) (λ vs. run calls turns b (bind_all e params vs)) (map e start)
    edited_right (in_body {first = f} {start = start} {params = params} {a = a} {s = u} d) h =
        λ i s e. loop_value f turns s u (λ vs. first (run calls turns a (bind_all e params vs))) (λ vs. edited d h.1 i (bind_all e params vs)) (map e start)
    edited_right (in_gens {op = op} d) h = λ i s e. one (with_value (edited_gens d h i e) (operation op s e))
    edited_right (in_parts {f = f} {t = t} {cell = cell} {op = op} d) h = λ i s e. one (parted_value f t cell op (edited_parts d h i e) s e)

    edited_gens : {k : Nothing} {g h : GensTerm} → EditedGens Nothing no_ways Rule k g h → CallsAllGens P g → generators calls turns g ≡ generators calls turns h
    edited_gens (this_gen {h = g} {rest = rest} d) h = λ i e. generator g (λ index. first (edited d h.0 i (with_index e g index))) e ∷ generators calls turns rest e
    edited_gens (later_gen {h = g} {b = b} d) h = λ i e. generator g (λ index. first (run calls turns b (with_index e g index))) e ∷ edited_gens d h.1 i e

    edited_parts : {k : Nothing} {p q : PartsTerm} → EditedParts Nothing no_ways Rule k p q → CallsAllParts P p → cells calls turns p ≡ cells calls turns q
    edited_parts (this_part {h = g} {rest = rest} d) h =
        λ i e. record { grid = g.grid; site = g.site; cell = λ index. first (edited d h.0 i (bind e g.index (vector Int index))) } ∷ cells calls turns rest e
    edited_parts (later_part {h = g} {b = b} d) h =
        λ i e. record { grid = g.grid; site = g.site; cell = λ index. first (run calls turns b (bind e g.index (vector Int index))) } ∷ edited_parts d h.1 i e
