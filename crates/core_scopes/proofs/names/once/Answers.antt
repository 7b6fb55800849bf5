use Rattle.std.proofs.Common.{rules, ◌≡◌, ◌<◌, ◌+◌, ◌++◌, List, ℕ, Bor, [], sym, ◌∙◌, length, drop, get_or, true, false}
use Rattle.core_scopes.specs.Looks.{texts}
use Rattle.core_scopes.proofs.Once.{among, once_but, once_start, once_kept, once_left, once_next, inserted, not_met, was_met}
use Rattle.core_scopes.proofs.names.once.Goals.{then-branch+in_ok-push, else-branch}
use Rattle.core_scopes.proofs.names.once.Goals as goal

pub loop-name-init : goal.loop-name-init
loop-name-init c = (λ i. texts (c.new-kept.ensures.items i) ++ once_but (among (c.new-met.ensures.empty i)) (texts c.args.names.now)) ∙ once_start (texts c.args.names.now)

pub loop-name-preserved : goal.loop-name-preserved
loop-name-preserved c =
    let ns = c.args.names.now in
    let k = c.loop-name.name-index in
    let none : Bor (List ℕ) = record { ref_ptr = (0, 0); now = [] } in
    let x = get_or ns k none in
    let below : k < length ns = search rules in
    let rest = texts (drop (k + 1) ns) in
    let met = c.loop-name.met.keys in
    elim c.if-branch.branch [
      | then-branch+in_ok-push w ↦
          let fresh : among met x.now ≡ false = not_met _ (sym w.if-branch.true ∙ c.in_ok-insert.ensures.added) in
          (λ i. texts (w.kept-is i).items ++ once_but (among (c.in_ok-insert.ensures.keys i)) rest)
          ∙ (λ i. texts (w.in_ok-push.ensures.items i) ++ once_but (inserted met x i) rest)
          ∙ once_kept c.loop-name.kept.items x rest (among met) fresh
          ∙ (λ i. texts c.loop-name.kept.items ++ once_but (among met) (sym (once_next ns k none below) i))
          ∙ c.loop-name.invariant
      | else-branch w ↦
          let old : among met x.now ≡ true = was_met _ (sym w.if-branch.false ∙ c.in_ok-insert.ensures.added) in
          (λ i. texts (w.kept-is i).items ++ once_but (among (c.in_ok-insert.ensures.keys i)) rest)
          ∙ (λ i. texts c.loop-name.kept.items ++ once_but (inserted met x i) rest)
          ∙ (λ i. texts c.loop-name.kept.items ++ once_left x.now rest (among met) old i)
          ∙ (λ i. texts c.loop-name.kept.items ++ once_but (among met) (sym (once_next ns k none below) i))
          ∙ c.loop-name.invariant
    ]
