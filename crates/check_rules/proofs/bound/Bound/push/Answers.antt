use Rattle.std.proofs.Common.{rules, ◌≡◌, refl, if◌then◌else◌, sym, ap, ◌∙◌, Some, List, ℕ, Bor, length, subst, bytes_eq, is_ok}
use Rattle.std.specs.Map.{lookup}
use Rattle.std.proofs.lemmas.Map.Text.{hash_map_updates_str}
use Rattle.check_rules.specs.Tables.{place_of}
use Rattle.check_rules.proofs.Places.{placed_either}
use Rattle.check_rules.proofs.bound.Bound.push.Goals as goal

pub invariant_of-self : goal.invariant_of-self
invariant_of-self c = record { placed = λ k text e. ap (λ es. lookup {K = Bor (List ℕ)} (λ key. bytes_eq text.now key.now) es) c.in_err-insert.ensures.err ∙ c.args.self.now.placed k text e }

pub invariant_of-self-2 : goal.invariant_of-self-2
invariant_of-self-2 c =
    let b = c.args.self.now in
    let updated = hash_map_updates_str c.args.name.now b.places c.insert.new.self (Some c.len.result) c.in_ok-insert.ensures.updates in
    let len_is : c.len.result ≡ length b.trail.items = search rules in
    let at_length = subst (λ n. (other : List ℕ) → place_of c.insert.new.self other ≡ (if bytes_eq c.args.name.now other then Some n else place_of b.places other)) len_is updated in
    record { placed = placed_either b.trail.items b.places b.placed c.args.name.now c.insert.new.self (sym c.contains.ensures ∙ c.if-contains.false) at_length c.args.name c.push.new.self.items (is_ok c.push.result) refl c.push.ensures.items }
