-- Whether a term has no mark and calls groups alone that are clear, as a truth value.
use Rattle.std.specs.Prelude.{ℕ, Bool, true, not, ◌&&◌, is_some}
use Rattle.counted_code.specs.declared.tree.CodeStep.{CodeStep}
use Rattle.counted_code.specs.declared.tree.CodeStep.TheVariants as step
use Rattle.counted_code.specs.Terms.{CodeTerm, CodeRightTerm, CodeGensTerm, CodePartsTerm, Giving, Binding, Keeping, Releasing, PlainCode, IfCode, LoopCode}
use Rattle.counted_code.specs.Terms.{CallCode, WithCode, PartedCode, NoCodeGens, GenCode, NoCodeParts, PartCode}
use Rattle.counted_code.specs.View.{code_right_term}

module _ (clear : ℕ → Bool) where
  abbrev mutual
    pub is_clear : CodeTerm → Bool
    is_clear (Giving xs) = true
    is_clear (Binding xs s r b) = right_is_clear r && is_clear b
    is_clear (Keeping x b) = is_clear b
    is_clear (Releasing x b) = is_clear b

    pub right_is_clear : CodeRightTerm → Bool
    right_is_clear (PlainCode p) = true
    right_is_clear (IfCode c a b) = is_clear a && is_clear b
    right_is_clear (LoopCode first start params test body s) = is_clear test && is_clear body
    right_is_clear (CallCode g xs) = clear g
    right_is_clear (WithCode op gens) = gens_are_clear gens
    right_is_clear (PartedCode f b c op parts reuse) = not (is_some reuse) && parts_are_clear parts

    pub gens_are_clear : CodeGensTerm → Bool
    gens_are_clear NoCodeGens = true
    gens_are_clear (GenCode h b rest) = is_clear b && gens_are_clear rest

    pub parts_are_clear : CodePartsTerm → Bool
    parts_are_clear NoCodeParts = true
    parts_are_clear (PartCode h b rest) = is_clear b && parts_are_clear rest

  abbrev pub step_is_clear : CodeStep → Bool
  step_is_clear (step.Bind' targets site r) = right_is_clear (code_right_term r)
  step_is_clear (step.Keep x) = true
  step_is_clear (step.Release x) = true
