use Rattle.std.proofs.Common.{rules, ◌≡◌, ℕ, length, sym, ap, subst, ◌∙◌, ◌++◌, ◌∷◌, [], FitsSigned, w32}
use Rattle.std.proofs.lemmas.Int.{to_z-of_z}
use Rattle.sac_base.specs.Arrays.{ArrayValue, scalar, vector}
use Rattle.kernel_tree.specs.declared.tree.Held.{Held}
use Rattle.kernel_tree.specs.declared.tree.Held.TheVariants.{Number, Numbers}
use Rattle.kernel_code.specs.Relations.{HasForm, IsScope}
use Rattle.kernel_code.proofs.Scopes.{scope_add, scope_pushed}
use Rattle.run_values.specs.Numbers.{numbers}
use Rattle.run_values.specs.Shown.{value_of}
use Rattle.run_kernels.specs.Scopes.{IsShown}
use Rattle.run_kernels.proofs.scope.add_value.Goals as goal

pub returns-in_ok-push-in-Word : goal.returns-in_ok-push-in-Word
returns-in_ok-push-in-Word g c e shown scope =
    let a = c.args in
    let here : e a.x ≡ scalar c.in-Word.base c.in-Word.n = subst (λ v. IsShown (g.H.ReadsBuffers.has a.heap.now) (value_of v) (e a.x)) c.in-Word.is shown in
    let fits : FitsSigned w32 c.in-Word.n = search rules in
    let items = c.in_ok-push-in-Word.ensures.items ∙ ap (λ m. a.known.now.items ++ (a.x, Number c.in-Word.base m) ∷ []) (to_z-of_z w32 c.in-Word.n fits) in
    subst (IsScope a.buffers.now.items e) (sym items) (scope_add a.buffers.now.items e a.known.now.items a.x (Number c.in-Word.base c.in-Word.n) scope tt (λ r. here))

pub returns-in_ok-push-in-Buffer-2 : goal.returns-in_ok-push-in-Buffer-2
returns-in_ok-push-in-Buffer-2 g c e shown scope =
    let a = c.args in
    let b : ArrayValue = c.in-Some.buffer in
    let told = c.in-Some.ensures in
    let base = c.in-Buffer.base in
    let rank = c.rank-rank.result in
    let number : ℕ = length a.buffers.now.items in
    let same : e a.x ≡ b = subst (λ v. IsShown (g.H.ReadsBuffers.has a.heap.now) (value_of v) (e a.x)) c.in-Buffer.is shown told.0 told.1 ∙ sym told.2 in
    let form : HasForm base rank b = (ap (λ (z : ArrayValue). z.base) told.2, sym (c.rank-rank.ensures.value ∙ ap length c.shape.ensures.value), c.shape.ensures.array.full) in
    scope_pushed a.buffers.now.items c.push-in-Buffer.new.self.items b e a.known.now.items c.push-in-Buffer-2.new.self.items a.x c.whole.result base rank _ c.in_ok-push-in-Buffer.ensures.items c.in_ok-push-in-Buffer-2.ensures.items c.whole.ensures scope (search rules) form same

pub returns-in_ok-push-in-Short : goal.returns-in_ok-push-in-Short
returns-in_ok-push-in-Short g c e shown scope =
    let a = c.args in
    let base = c.in-Short.base in
    let told = c.numbers_of.ensures in
    let n : ℕ = length (numbers c.in-Short.few) in
    let here : e a.x ≡ vector base (numbers c.in-Short.few) = subst (λ v. IsShown (g.H.ReadsBuffers.has a.heap.now) (value_of v) (e a.x)) c.in-Short.is shown in
    let items = c.in_ok-push-in-Short.ensures.items ∙ ap (λ (h : Held). a.known.now.items ++ (a.x, h) ∷ []) told.1 in
    subst (IsScope a.buffers.now.items e) (sym items)
    (scope_add a.buffers.now.items e a.known.now.items a.x (Numbers base told.0 n) scope tt (λ r. here ∙ ap (vector base) (sym told.2)))
