-- The `main` of an accepted program's core stands at its place, and is not inline.
use Rattle.std.proofs.Common.{◌≡◌, ℕ, zero, suc, Bool, true, false, not, List, [], ◌∷◌, Option, Some, None, is_some, IsTrue, if◌then◌else◌, refl, ap, sym, subst, ◌∙◌}
use Rattle.std.specs.Prelude.{filter, flat_map, position, slice_get, unwrap_or, option_map}
use Rattle.std.proofs.lemmas.Option.{slice_get-map}
use Rattle.check_rules.specs.declared.code.CheckCode.TheVariants.{C8}
use Rattle.sac_ast.specs.Tree.{FunctionTree, ProgramTree}
use Rattle.core_ir.specs.Terms.{FunTerm}
use Rattle.check_rules.specs.Accepted.{unless, is_named, main_name, main_count, main_rules, in_functions, IsAccepted}
use Rattle.check_rules.specs.declared.violation.Violation.{Violation}
use Rattle.source_meaning.specs.Calls.{is_main}
use Rattle.core_lowering.specs.Programs.{lowered_function, lowered_program}
use Rattle.core_lowering.proofs.Chosen.{position_at}
use Rattle.core_lowering.specs.acceptance.Stands.{MainStands}
use Rattle.core_lowering.proofs.acceptance.Clean.{nil_left, nil_right, nil2, holds}
use Rattle.core_lowering.proofs.acceptance.Whole.{main_there}

abbrev pub outer : FunctionTree → List Violation
outer g = unless (not g.inline) C8 g.site

not_false : (b : Bool) → not b ≡ true → b ≡ false
not_false true h = absurd (cc)
not_false false h = refl

pub not_inline : (gs : List FunctionTree) (place : ℕ) (f : FunctionTree) → flat_map outer (filter (is_named main_name) gs) ≡ [] → slice_get gs place ≡ Some f → is_main f ≡ true → f.inline ≡ false
not_inline [] place f h e k = absurd (cc)
not_inline (g ∷ gs) zero f h e k =
    let alike : g ≡ f = cc in
    let rest = filter (is_named main_name) gs in
    let q : is_main g ≡ true = ap is_main alike ∙ k in
    let here = subst (λ (b : Bool). flat_map outer (if b then g ∷ rest else rest) ≡ []) q h in
    ap (λ (x : FunctionTree). x.inline) (sym alike) ∙ not_false g.inline (holds (not g.inline) C8 g.site (nil_left (outer g) (flat_map outer rest) here))
not_inline (g ∷ gs) (suc place) f h e k = go (is_named main_name g) h (λ q. not_inline gs place f q e k)
  where
    go : (b : Bool) → flat_map outer (if b then g ∷ filter (is_named main_name) gs else filter (is_named main_name) gs) ≡ [] → (flat_map outer (filter (is_named main_name) gs) ≡ [] → f.inline ≡ false) → f.inline ≡ false
    go true q again = again (nil_right (outer g) (flat_map outer (filter (is_named main_name) gs)) q)
    go false q again = again q

stands : (p : ProgramTree) (o : Option ℕ) → position is_main p.functions ≡ o → IsTrue (is_some o) → flat_map outer (filter (is_named main_name) p.functions) ≡ []
    → (f : FunTerm) × ((slice_get (lowered_program p).functions (unwrap_or o 0) ≡ Some f) × (f.is_inline ≡ false))
stands p None e t h = absurd (cc)
stands p (Some place) e t h =
    let a = position_at is_main p.functions place e in (
      lowered_function p.functions a.function,
      (slice_get-map (lowered_function p.functions) p.functions place ∙ ap (option_map (lowered_function p.functions)) a.there, not_inline p.functions place a.function h a.there a.passes),
    )

pub accepted_main : (p : ProgramTree) → IsAccepted p → MainStands (lowered_program p)
accepted_main p h =
    let mains = filter (is_named main_name) p.functions in
    let r = nil2 (in_functions p.functions [] p.functions) (main_rules p.functions p.end) h in
    let m = nil2 (main_count mains p.end) (flat_map outer mains) r.1 in
    stands p (position is_main p.functions) refl (main_there p.functions p.end m.0) m.1
