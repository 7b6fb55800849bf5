use Rattle.std.proofs.Common.{rules, ◌≡◌, ◌<◌, ◌+◌, List, ℕ, Bor, [], sym, ap, ◌∙◌, length, drop, take, get_or, true, false}
use Rattle.std.proofs.lemmas.List.{get_or_default}
use Rattle.check_rules.specs.Tables.{among, has, with_common}
use Rattle.check_rules.proofs.Places.{common_step, common_skip, kept_twice}
use Rattle.check_rules.proofs.bound.Bound.push_common.Goals.{then-contains+in_ok-push, else-contains}
use Rattle.check_rules.proofs.bound.Bound.push_common.Goals as goal

pub loop-name-preserved : goal.loop-name-preserved
loop-name-preserved c =
    let texts = c.as_slice-name-items.result.now in
    let k = c.loop-name.name-index in
    let none : Bor (List ℕ) = record { ref_ptr = (0, 0); now = [] } in
    let text = get_or texts k none in
    let below : k < length texts = search rules in
    let it = get_or_default texts k none text below in
    let old = c.loop-name.self.trail.items in
    let start = c.args.self.now.trail.items in
    let before = c.loop-name.invariant in
    elim c.if-contains.branch [
      | then-contains+in_ok-push w ↦
          let found : has c.args.first.now text.now ≡ true = sym c.contains.ensures ∙ w.if-contains.true in
          record {
            names = λ other. ap (λ b. with_common (has c.args.first.now) (among (drop (k + 1) texts)) (among b.trail.items) other) w.self-is
                ∙ common_step (has c.args.first.now) texts k text below it other (among old) (among w.push.new.self.trail.items) found w.in_ok-push.ensures.names
                ∙ before.names other;
            kept = ap (λ b. take (length start) b.trail.items) w.self-is ∙ kept_twice start old w.push.new.self.trail.items before.kept w.in_ok-push.ensures.kept;
          }
      | else-contains w ↦
          let missed : has c.args.first.now text.now ≡ false = sym c.contains.ensures ∙ w.if-contains.false in
          record {
            names = λ other. ap (λ b. with_common (has c.args.first.now) (among (drop (k + 1) texts)) (among b.trail.items) other) w.self-is
                ∙ common_skip (has c.args.first.now) texts k text below it other (among old) missed
                ∙ before.names other;
            kept = ap (λ b. take (length start) b.trail.items) w.self-is ∙ before.kept;
          }
    ]
