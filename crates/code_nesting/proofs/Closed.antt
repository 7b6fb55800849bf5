-- What a table has of a place is what the body there needs.
use Rattle.std.proofs.Common.{◌≡◌, ℕ, ◌≤◌, ◌<◌, ◌+◌, ◌⊎◌, inl, inr, Some, length, map, option_map, refl, ap, sym, subst, ◌∙◌, List, arith, get_or, unwrap_or}
use Rattle.std.proofs.lemmas.Option.{slice_get-map, slice_get_read, slice_get_within}
use Rattle.std.proofs.lemmas.Bool.{cases_lt}
use Rattle.std.proofs.lemmas.List.{length-map}
use Rattle.std.specs.Prelude.{slice_get, slice_index}
use Rattle.counted_code.specs.declared.tree.Code.{Code}
use Rattle.counted_code.specs.declared.tree.CodeFun.{CodeFun}
use Rattle.counted_code.specs.Terms.{CodeFunTerm}
use Rattle.counted_code.specs.View.{code_program, code_fun_term, code_term}
use Rattle.code_nesting.specs.Needs.{Needs, IsClosedAt, IsClosed}
use Rattle.code_nesting.proofs.Needed.{needs_more}

pub closed_at : (c : Code) (below here : List ℕ) (place need : ℕ) (x : CodeFun) → place < length c.functions.items → x ≡ get_or c.functions.items place x
    → (need ≤ 1000 → Needs (code_program c) below here (code_term x.body) need) → need ≤ slice_index here place → IsClosedAt (code_program c) below here place
closed_at c below here place need x lt is h le f there small =
    let same : slice_get (map code_fun_term c.functions.items) place ≡ Some (code_fun_term x) =
    slice_get-map code_fun_term c.functions.items place ∙ ap (option_map code_fun_term) (slice_get_read c.functions.items (length c.functions.items) place x refl lt is) in
    let e : code_fun_term x ≡ f = ap (λ o. unwrap_or o (code_fun_term x)) (sym same ∙ there) in
    subst (λ (g : CodeFunTerm). Needs (code_program c) below here g.body (slice_index here place)) e
    (needs_more (code_program c) below here (code_term x.body) need (slice_index here place) le (h (omega (arith, le, small))))

-- no place so far is not closed
abbrev pub ClosedBelow : Code → List ℕ → List ℕ → ℕ → Type 0
ClosedBelow c below here end = (place : ℕ) → place < end → IsClosedAt (code_program c) below here place

pub closed_more : (c : Code) (below old here : List ℕ) (place : ℕ) → ClosedBelow c below old place → here ≡ old → IsClosedAt (code_program c) below old place
    → ClosedBelow c below here (place + 1)
closed_more c below old here place so same at = subst (λ (t : List ℕ). ClosedBelow c below t (place + 1)) (sym same) all
  where
    one : (q : ℕ) → q < place + 1 → (q < place) ⊎ (place ≤ q) → IsClosedAt (code_program c) below old q
    one q lt (inl less) = so q less
    one q lt (inr not_less) = subst (λ (k : ℕ). IsClosedAt (code_program c) below old k) (let e : place ≡ q = omega (arith, lt, not_less) in e) at

    all : ClosedBelow c below old (place + 1)
    all q lt = one q lt (cases_lt q place)

pub closed_all : (c : Code) (below here : List ℕ) → ClosedBelow c below here (length c.functions.items) → IsClosed (code_program c) below here
closed_all c below here so place f there small =
    so place (subst (λ (n : ℕ). place < n) (length-map c.functions.items code_fun_term) (slice_get_within (map code_fun_term c.functions.items) place f there)) f there small
