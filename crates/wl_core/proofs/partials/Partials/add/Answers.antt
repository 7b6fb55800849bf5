use Rattle.std.proofs.Common.{◌≡◌, ◌<◌, true, false, get_or, set, length, sym, ap, ◌∙◌, subst, arith}
use Rattle.std.proofs.lemmas.List.{get_or_read}
use Rattle.wl_core.specs.Rows.{PartialsValue, AddsValue}
use Rattle.wl_core.proofs.Buffers.{adds_more, adds_first}
use Rattle.wl_core.proofs.partials.Partials.add.Goals as goal

pub returns-then-index : goal.returns-then-index
returns-then-index c =
    let lt : c.args.worker < length c.self.inside.started.items = let e = ap (λ (p : PartialsValue). p.rows.count) c.self.view_is in let r = c.requires.worker in let i = c.self.invariant in omega arith in
    let began : get_or c.self.inside.started.items c.args.worker false ≡ true = sym (get_or_read c.self.inside.started.items c.args.worker c.index.result.now lt c.index.ensures false) ∙ c.if-index.true in
    subst (λ (p : PartialsValue). AddsValue p (record { started = c.self.inside.started.items; rows = c.combine.new.self }) c.args.worker c.args.op c.args.value.now) c.self.view_is
    (adds_more c.self.inside.started.items c.self.inside.rows c.combine.new.self c.args.worker c.args.op c.args.value.now began c.combine.ensures)

pub returns-else-index : goal.returns-else-index
returns-else-index c =
    let lt : c.args.worker < length c.self.inside.started.items = let e = ap (λ (p : PartialsValue). p.rows.count) c.self.view_is in let r = c.requires.worker in let i = c.self.invariant in omega arith in
    let fresh : get_or c.self.inside.started.items c.args.worker false ≡ false = sym (get_or_read c.self.inside.started.items c.args.worker c.index.result.now lt c.index.ensures false) ∙ c.if-index.false in
    subst (λ (p : PartialsValue). AddsValue p (record { started = set c.self.inside.started.items c.args.worker true; rows = c.put.new.self }) c.args.worker c.args.op c.args.value.now) c.self.view_is
    (adds_first c.self.inside.started.items c.self.inside.rows c.put.new.self c.args.worker c.args.op c.args.value.now lt fresh c.put.ensures)
