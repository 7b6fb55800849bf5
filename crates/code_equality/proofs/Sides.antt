-- What is equal part by part is equal.
use Rattle.std.proofs.Common.{◌≡◌, ℕ, ◌+◌, ◌<◌, Bool, List, ◌∷◌, length, get_or, drop, drop-cons, ap, sym, ◌∙◌, Vec, Global, add-one}
use Rattle.sac_base.specs.declared.site.Site.{Site}
use Rattle.core_ir.specs.declared.tree.Var.{Var}
use Rattle.counted_code.specs.declared.tree.CodeBlock.{CodeBlock}
use Rattle.counted_code.specs.declared.tree.CodeParted.{CodeParted, out-CodeParted}
use Rattle.counted_code.specs.declared.tree.CodeRight.TheVariants as right
use Rattle.counted_code.specs.declared.tree.CodeStep.{CodeStep}
use Rattle.counted_code.specs.declared.tree.CodeWith.{CodeWith, out-CodeWith}
use Rattle.counted_code.specs.Terms.{Giving, IfCode, LoopCode, WithCode, PartedCode}
use Rattle.counted_code.specs.View.{code_term, code_right_term, code_with_term, code_parted_term, step_term, steps_before}
use Rattle.counted_code.specs.Pieces.{gens_term, parts_term}
use Rattle.counted_code.proofs.Trees.{if_term, loop_term, with_out, parted_out}

-- ---- blocks and steps

pub block_same : (a b : CodeBlock) → a.results.items ≡ b.results.items → steps_before a.steps.items ≡ steps_before b.steps.items → code_term a ≡ code_term b
block_same a b p q = λ i. q i (Giving (p i))

pub steps_same : (a b : List CodeStep) (k : ℕ) (d e : CodeStep) → k < length a → k < length b → step_term (get_or a k d) ≡ step_term (get_or b k e)
    → steps_before (drop (k + 1) a) ≡ steps_before (drop (k + 1) b) → steps_before (drop k a) ≡ steps_before (drop k b)
steps_same a b k d e h j p q =
    ap steps_before (at a d h) ∙ (λ i rest. p i (q i rest)) ∙ sym (ap steps_before (at b e j))
  where
    at : (ss : List CodeStep) (d : CodeStep) → k < length ss → drop k ss ≡ get_or ss k d ∷ drop (k + 1) ss
    at ss d h = rw (add-one k) (drop-cons ss k d h)

-- ---- right sides

pub if_same : (c d : Var) (a b x y : CodeBlock) → c ≡ d → code_term a ≡ code_term x → code_term b ≡ code_term y
    → code_right_term (right.If c a b) ≡ code_right_term (right.If d x y)
if_same c d a b x y p q r = if_term c a b ∙ (λ i. IfCode (p i) (q i) (r i)) ∙ sym (if_term d x y)

pub loop_same : (f g : Bool) (start params starts others : Vec Var Global) (a b x y : CodeBlock) (s t : Site)
    → f ≡ g → start.items ≡ starts.items → params.items ≡ others.items → code_term a ≡ code_term x → code_term b ≡ code_term y → s ≡ t
    → code_right_term (right.Loop f start params a b s) ≡ code_right_term (right.Loop g starts others x y t)
loop_same f g start params starts others a b x y s t p q r u v w =
    loop_term f start params a b s ∙ (λ i. LoopCode (p i) (q i) (r i) (u i) (v i) (w i)) ∙ sym (loop_term g starts others x y t)

pub with_same : (a b : CodeWith) → (out-CodeWith a).op ≡ (out-CodeWith b).op → gens_term (out-CodeWith a).gens.items ≡ gens_term (out-CodeWith b).gens.items
    → code_with_term a ≡ code_with_term b
with_same a b p q = with_out a ∙ (λ i. WithCode (p i) (q i)) ∙ sym (with_out b)

pub parted_same : (a b : CodeParted) → (out-CodeParted a).frame ≡ (out-CodeParted b).frame → (out-CodeParted a).base ≡ (out-CodeParted b).base
    → (out-CodeParted a).cell ≡ (out-CodeParted b).cell → (out-CodeParted a).op ≡ (out-CodeParted b).op
    → parts_term (out-CodeParted a).parts.items ≡ parts_term (out-CodeParted b).parts.items → (out-CodeParted a).reuse ≡ (out-CodeParted b).reuse
    → code_parted_term a ≡ code_parted_term b
parted_same a b p q r s t u = parted_out a ∙ (λ i. PartedCode (p i) (q i) (r i) (s i) (t i) (u i)) ∙ sym (parted_out b)
