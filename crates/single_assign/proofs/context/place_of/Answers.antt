use Rattle.std.proofs.Common.{sym, ◌∙◌, Bor, List, ℕ}
use Rattle.std.specs.Prelude.{bytes_eq, position}
use Rattle.core_scopes.proofs.Once.{place_found, place_missed}
use Rattle.single_assign.proofs.context.place_of.Goals as goal

pub returns-in-Some : goal.returns-in-Some
returns-in-Some c =
    place_found c.args.names.now.keys c.args.name.now c.in-Some.place
    (sym c.in-Some.is ∙ c.get_index_of.ensures.index ∙ (λ i. position {X = Bor (List ℕ)} (λ k. bytes_eq (c.as_str.ensures.bytes i) k.now) c.args.names.now.keys))

pub returns-in-None : goal.returns-in-None
returns-in-None c =
    c.len.ensures.len
    ∙ place_missed c.args.names.now.keys c.args.name.now
    (sym c.in-None.is ∙ c.get_index_of.ensures.index ∙ (λ i. position {X = Bor (List ℕ)} (λ k. bytes_eq (c.as_str.ensures.bytes i) k.now) c.args.names.now.keys))
