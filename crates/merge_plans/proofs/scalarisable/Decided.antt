-- What the tests decide.
use Rattle.std.proofs.Common.{◌≡◌, ℕ, Bool, true, false, ◌&&◌, List, [], ◌∷◌, length, Option, refl, sym, ◌∙◌}
use Rattle.std.specs.Prelude.{◌↔◌, IsTrue}
use Rattle.sac_base.specs.declared.site.Site.{Site}
use Rattle.core_ir.specs.declared.tree.Var.{Var}
use Rattle.core_ir.specs.Terms.{RightTerm, LetTerm, PartHead, Bind, Gives, chain}
use Rattle.core_facts.specs.Facts.{Facts, in_part}
use Rattle.core_loops.specs.Indices.{own_index}
use Rattle.core_loops.specs.Pairs.{AvoidsLets, total_around}
use Rattle.core_uses.specs.Tests.{is_avoided_right}
use Rattle.core_uses.proofs.Decided.{right_decided}
use Rattle.core_forms.proofs.merge.Around.{total_alike}
use Rattle.merge_plans.specs.scalarisable.Around.{are_total, none_uses}

both_true : (a b : Bool) → (a && b) ≡ true → (a ≡ true) × (b ≡ true)
both_true true b h = (refl, h)
both_true false b h = absurd (cc)

uses_in : (z : Var) (ls : List LetTerm) → none_uses z ls ≡ true → AvoidsLets z ls
uses_in z [] h = tt
uses_in z (l ∷ ls) h =
    let w = both_true (is_avoided_right z l.right) (none_uses z ls) h in
    ((right_decided z l.right).0 w.0, uses_in z ls w.1)

uses_out : (z : Var) (ls : List LetTerm) → AvoidsLets z ls → none_uses z ls ≡ true
uses_out z [] h = refl
uses_out z (l ∷ ls) h = λ i. (right_decided z l.right).1 h.0 i && uses_out z ls h.1 i

pub uses_decided : (z : Var) (ls : List LetTerm) → IsTrue (none_uses z ls) ↔ AvoidsLets z ls
uses_decided z ls = (uses_in z ls, uses_out z ls)

pub totals_decided :
    (called : ℕ → List (Option (List ℕ))) (k : Facts) (h : PartHead) (before after : List LetTerm) (z : Var) (s : Site) (r : RightTerm) (xs : List Var) → AvoidsLets z after →
    total_around called h.grid before (Bind (z ∷ []) s r (chain after (Gives xs))) (in_part k h) (own_index (length h.grid) h.index) ≡ are_total called h.grid k h.index before after
totals_decided called k h before after z s r xs n = total_alike called h.grid before after z s r xs (in_part k h) (own_index (length h.grid) h.index) n
