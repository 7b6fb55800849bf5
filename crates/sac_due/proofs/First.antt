-- One violation is the first.
use Rattle.std.proofs.Common.{◌≡◌, ℕ, zero, suc, [], inl, inr, refl, sym, ap, subst, ◌∙◌, arith}
use Rattle.std.specs.Prelude.{Contains}
use Rattle.std.proofs.lemmas.List.Elements.{All-contains}
use Rattle.sac_base.specs.declared.site.Site.{Site}
use Rattle.check_rules.specs.declared.code.CheckCode.{CheckCode}
use Rattle.check_rules.specs.declared.code.CheckCode.TheVariants.{C1, C2, C3, C4, C5, C6, C7, C8, C9, C10}
use Rattle.sac_ast.specs.Tree.{ProgramTree}
use Rattle.check_rules.specs.declared.violation.Violation.{Violation}
use Rattle.check_rules.specs.Accepted.{code_number, IsAccepted, IsFirstViolation, IsNoLater}

abbrev code_by : ℕ → CheckCode
code_by zero = C1
code_by (suc zero) = C1
code_by (suc (suc zero)) = C2
code_by (suc (suc (suc zero))) = C3
code_by (suc (suc (suc (suc zero)))) = C4
code_by (suc (suc (suc (suc (suc zero))))) = C5
code_by (suc (suc (suc (suc (suc (suc zero)))))) = C6
code_by (suc (suc (suc (suc (suc (suc (suc zero))))))) = C7
code_by (suc (suc (suc (suc (suc (suc (suc (suc zero)))))))) = C8
code_by (suc (suc (suc (suc (suc (suc (suc (suc (suc zero))))))))) = C9
code_by _ = C10

decoded : (c : CheckCode) → code_by (code_number c) ≡ c
decoded C1 = refl
decoded C2 = refl
decoded C3 = refl
decoded C4 = refl
decoded C5 = refl
decoded C6 = refl
decoded C7 = refl
decoded C8 = refl
decoded C9 = refl
decoded C10 = refl

same_code : (c d : CheckCode) → code_number c ≡ code_number d → c ≡ d
same_code c d e = sym (decoded c) ∙ ap code_by e ∙ decoded d

same_violation : (v w : Violation) → v.site.line ≡ w.site.line → v.site.col ≡ w.site.col → code_number v.code ≡ code_number w.code → v ≡ w
same_violation v w line col code =
    λ i. record { code = same_code v.code w.code code i; site = record { line = line i; col = col i } }

-- of two violations that are no later than each other both are the same
no_later_both : (v w : Violation) → IsNoLater v w → IsNoLater w v → v ≡ w
no_later_both v w (inl a) (inl b) = absurd (omega (arith, a, b))
no_later_both v w (inl a) (inr b) = absurd (omega (arith, a, b.0))
no_later_both v w (inr a) (inl b) = absurd (omega (arith, a.0, b))
no_later_both v w (inr (line, inl a)) (inr (_, inl b)) = absurd (omega (arith, a, b))
no_later_both v w (inr (line, inl a)) (inr (_, inr b)) = absurd (omega (arith, a, b.0))
no_later_both v w (inr (line, inr a)) (inr (_, inl b)) = absurd (omega (arith, a.0, b))
no_later_both v w (inr (line, inr (col, a))) (inr (_, inr (_, b))) = same_violation v w line col (omega (arith, a, b))

pub first_once : (p : ProgramTree) (c d : CheckCode) (s t : Site) → IsFirstViolation p c s → IsFirstViolation p d t → (c ≡ d) × (s ≡ t)
first_once p c d s t a b =
    let v : Violation = record { code = c; site = s } in
    let w : Violation = record { code = d; site = t } in
    let same : v ≡ w = no_later_both v w (All-contains (IsNoLater v) _ w a.1 b.0) (All-contains (IsNoLater w) _ v b.1 a.0) in
    (ap (λ (x : Violation). x.code) same, ap (λ (x : Violation). x.site) same)

pub accepted_not_refused : (p : ProgramTree) (c : CheckCode) (s : Site) → IsAccepted p → IsFirstViolation p c s → ⊥
accepted_not_refused p c s accepted first = none_contained _ (subst (λ vs. Contains vs (record { code = c; site = s })) accepted first.0)
  where
    none_contained : (v : Violation) → Contains [] v → ⊥
    none_contained v h = omega (arith, h.1)
