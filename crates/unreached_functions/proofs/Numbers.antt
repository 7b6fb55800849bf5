-- Variables that are numbered one after another.
use Rattle.std.proofs.Common.{◌≡◌, ℕ, suc, ◌+◌, ◌-◌, ◌<◌, ◌≤◌, List, [], ◌∷◌, ◌++◌, map, sym, ap, ◌∙◌, append_assoc, append-nil, arith}
use Rattle.sac_base.specs.declared.faults.FaultKind.TheVariants.{F10}
use Rattle.sac_base.specs.declared.site.Site.{Site}
use Rattle.core_ir.specs.declared.tree.Block.{Block-F, roll-Block}
use Rattle.core_ir.specs.declared.tree.Let.{Let}
use Rattle.core_ir.specs.declared.tree.Right.TheBlock.{the_data, the_data-1, the_data-2, the_data-3, the_data-4, the_data-5, the_data-6}
use Rattle.core_ir.specs.declared.tree.Var.{Var}
use Rattle.core_ir.specs.Terms.{Gives, Bind, Plain, Always, chain}
use Rattle.core_ir.specs.View.{block_term, let_term}
use Rattle.core_ir.proofs.Trees.{block_roll}
use Rattle.core_subst.specs.Names.{variable}
use Rattle.unreached_functions.specs.Emptied.{numbered}

numbered_first : (from n m : ℕ) → n ≡ suc m → numbered from n ≡ variable from ∷ numbered (suc from) m
numbered_first from n m e = ap (numbered from) e

-- a variable more is pushed
pub numbered_turn : (vars vars' whole : List Var) (next k count : ℕ) (x : Var) → vars ++ numbered next (count - k) ≡ whole → k < count → vars' ≡ vars ++ (x ∷ []) → x.0 ≡ next → vars' ++ numbered (next + 1) (count - (k + 1)) ≡ whole
numbered_turn vars vars' whole next k count x p l e is =
    let fewer : count - k ≡ suc (count - (k + 1)) = omega (arith, l) in
    let up : next + 1 ≡ suc next = omega arith in
    let var : x ≡ variable next = λ i. record { 0 = is i } in
    (λ i. e i ++ numbered (up i) (count - (k + 1)))
    ∙ append_assoc vars (x ∷ []) (numbered (suc next) (count - (k + 1)))
    ∙ (λ i. vars ++ (var i ∷ numbered (suc next) (count - (k + 1))))
    ∙ (λ i. vars ++ sym (numbered_first next (count - k) (count - (k + 1)) fewer) i)
    ∙ p

pub numbered_done : (vars whole : List Var) (next k count : ℕ) → vars ++ numbered next (count - k) ≡ whole → count ≤ k → vars ≡ whole
numbered_done vars whole next k count p l =
    let none : count - k ≡ 0 = omega (arith, l) in
    sym (append-nil vars) ∙ (λ i. vars ++ numbered next (sym none i)) ∙ p

-- a block of one binding that always faults
pub fault_body : (x : Block-F the_data the_data-1 the_data-2 the_data-3 the_data-4 the_data-5 the_data-6) (l : Let) (start : List Let) (targets : List Var) (site : Site) → x.lets.items ≡ start ++ (l ∷ []) → start ≡ []
    → let_term l ≡ record { targets = targets; site = site; right = Plain (Always F10) } → x.results.items ≡ targets → block_term (roll-Block x) ≡ Bind targets site (Plain (Always F10)) (Gives targets)
fault_body x l start targets site p q b r =
    block_roll x
    ∙ (λ i. chain (map let_term (p i)) (Gives (r i)))
    ∙ (λ i. chain (map let_term (q i ++ (l ∷ []))) (Gives targets))
    ∙ (λ i. chain (b i ∷ []) (Gives targets))
