use Rattle.std.proofs.Common.{◌≡◌, ◌∙◌, ◌&&◌, sym, ap, map}
use Rattle.std.proofs.lemmas.Result.{IfOk-weaker}
use Rattle.std.specs.BTreeSet.{BTreeSet}
use Rattle.std.proofs.Common.{ℕ}
use Rattle.core_ir.specs.View.{let_term}
use Rattle.unused_bindings.specs.Passed.{passed_term}
use Rattle.unused_bindings.specs.Swept.{IsStep}
use Rattle.removal_rules.specs.Uses.{used_of, either, is_not_used}
use Rattle.unused_bindings.proofs.Backward.{goes, stays}
use Rattle.unused_bindings.proofs.Turns.{map_snoc}
use Rattle.unused_bindings.proofs.needed.add_needed.Goals as goal

pub returns-then-is_needless : goal.returns-then-is_needless
returns-then-is_needless c =
    goes (passed_term c.args.passed) (map let_term c.args.needed.now.items) (used_of c.args.used) (ap (λ ts. c.args.passed.may_go && is_not_used ts (used_of c.args.used)) (sym c.deref.ensures.value) ∙ sym c.is_needless.ensures ∙ c.if-is_needless.true)

pub returns : goal.returns
returns c =
    let l = passed_term c.args.passed in
    let old = map let_term c.args.needed.now.items in
    let new = map let_term c.push.new.self.items in
    IfOk-weaker c.united.result (λ (now : BTreeSet ℕ). used_of now ≡ either (used_of c.args.passed.used) (used_of c.args.used)) (λ (now : BTreeSet ℕ). IsStep l old new (used_of c.args.used) (used_of now))
    (λ now p. stays l old (used_of c.args.used) (ap (λ ts. c.args.passed.may_go && is_not_used ts (used_of c.args.used)) (sym c.deref.ensures.value) ∙ sym c.is_needless.ensures ∙ c.if-is_needless.false) new (used_of c.args.passed.used) (used_of now) (ap (map let_term) c.in_ok-push.ensures.items ∙ map_snoc let_term c.args.needed.now.items c.args.passed.binding) c.args.passed.uses p)
    c.united.ensures
