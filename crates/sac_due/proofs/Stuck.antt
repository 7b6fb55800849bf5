-- Refusals of a token list.
use Rattle.std.proofs.Common.{◌≡◌, ◌⊎◌, List, [], ◌∷◌, ◌++◌, inl, inr, sym, ap, subst, ◌∙◌, append_assoc}
use Rattle.sac_base.specs.declared.site.Site.{Site}
use Rattle.sac_ast.specs.Texts.{Lexeme}
use Rattle.sac_ast.specs.Tree.{ProgramTree}
use Rattle.sac_ast.specs.Grammar.{IsProgram}
use Rattle.sac_ast.specs.Heights.{IsTreeOf}
use Rattle.sac_ast.specs.Refusals.{Starts, IsStuckAt, IsTooDeepAt}

-- one of two fronts with the item behind it is a front of the other, or the items are one
Before : {A : Type 0} → List A → A → List A → Type 0
Before {A} u x v = (m : List A) × (v ≡ (u ++ (x ∷ [])) ++ m)

more : {A : Type 0} (c d x : A) (u v : List A) → c ≡ d → Before u x v → Before (c ∷ u) x (d ∷ v)
unfolding Before
more c d x u v e b = (b.0, cc (e, b.1))

cut : {A : Type 0} (u v xs ys : List A) (x y : A) → u ++ (x ∷ xs) ≡ v ++ (y ∷ ys) → Before u x v ⊎ (Before v y u ⊎ (x ≡ y))
unfolding Before
cut [] [] xs ys x y e = inr (inr (cc (e)))
cut [] (d ∷ v) xs ys x y e = inl (v, cc (e))
cut (c ∷ u) [] xs ys x y e = inr (inl (u, cc (e)))
cut (c ∷ u) (d ∷ v) xs ys x y e = elim (cut u v xs ys x y (cc (e))) [
  | inl b ↦ inl (more c d x u v (cc (e)) b)
  | inr o ↦ inr (elim o [ inl b ↦ inl (more d c y v u (cc (e)) b) | inr same ↦ inr same ])
]

starts_before : (u v : List Lexeme) (x : Lexeme) → Before u x v → Starts v → Starts (u ++ (x ∷ []))
unfolding Before
starts_before u v x b s = (b.0 ++ s.0, s.1, subst (λ ts. IsProgram ts s.1) (ap (λ l. l ++ s.0) b.1 ∙ append_assoc (u ++ (x ∷ [])) b.0 s.0) s.2)

pub stuck_once : (ts : List Lexeme) (s t : Site) → IsStuckAt ts s → IsStuckAt ts t → s ≡ t
stuck_once ts s t a b = elim (cut a.before b.before a.behind b.behind a.token b.token (sym a.whole ∙ b.whole)) [
  | inl early ↦ absurd (a.none (starts_before a.before b.before a.token early b.begun))
  | inr o ↦ elim o [
    | inl late ↦ absurd (b.none (starts_before b.before a.before b.token late a.begun))
    | inr same ↦ a.at ∙ ap (λ (l : Lexeme). l.site) same ∙ sym b.at
  ]
]

whole_tree : (ts before behind : List Lexeme) (token : Lexeme) → ts ≡ before ++ (token ∷ behind) → ts ≡ (before ++ (token ∷ [])) ++ behind
whole_tree ts before behind token e = e ∙ sym (append_assoc before (token ∷ []) behind)

pub tree_not_stuck : (ts : List Lexeme) (p : ProgramTree) (s : Site) → IsTreeOf ts p → IsStuckAt ts s → ⊥
tree_not_stuck ts p s tree a = a.none (a.behind, p, subst (λ l. IsProgram l p) (whole_tree ts a.before a.behind a.token a.whole) tree.0)

pub tree_not_too_deep : (ts : List Lexeme) (p : ProgramTree) (s : Site) → IsTreeOf ts p → IsTooDeepAt ts s → ⊥
tree_not_too_deep ts p s tree a = a.none (a.behind, p, subst (λ l. IsTreeOf l p) (whole_tree ts a.before a.behind a.token a.whole) tree)
