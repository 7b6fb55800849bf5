-- Which well-counted code is prompt: a reference ends at the last use, and one is added only where it is handed on next.
use Rattle.std.specs.Prelude.{◌≡◌, ℕ, suc, ◌≤◌, true, cond, eqb, List, [], ◌∷◌, ◌++◌, length}
use Rattle.core_ir.specs.declared.tree.Var.{Var}
use Rattle.core_ir.specs.Terms.{BlockTerm, RightTerm, GensTerm, PartsTerm, Gives, Bind, Plain, NoGens, Gen, NoParts, Part}
use Rattle.core_ir.specs.Binders.{is_in}
use Rattle.core_ir.specs.Scopes.{AllIn, plain_uses, op_uses, parted_uses, head_uses}
use Rattle.counted_code.specs.Terms.{CodeTerm, CodeRightTerm, CodeGensTerm, CodePartsTerm, CodeFunTerm, CodeProgram, Giving, Binding, Keeping}
use Rattle.counted_code.specs.Terms.{Releasing, PlainCode, IfCode, LoopCode, CallCode, WithCode, PartedCode, NoCodeGens, GenCode, NoCodeParts}
use Rattle.counted_code.specs.Terms.{PartCode, core_of, core_of_right, core_of_code}
use Rattle.counted_code.specs.Outcome.{code_param_vars}
use Rattle.counted_code.specs.Counts.{Reordered, plain_hands, CountedRight, group_results}

-- what a term uses, nested terms included
abbrev mutual
  pub uses : BlockTerm → List Var
  uses (Gives xs) = xs
  uses (Bind xs s r b) = uses_right r ++ uses b

  pub uses_right : RightTerm → List Var
  uses_right (Plain p) = plain_uses p
  uses_right (RightTerm.If c a b) = c ∷ (uses a ++ uses b)
  uses_right (RightTerm.Loop first start params test body s) = start ++ (uses test ++ uses body)
  uses_right (RightTerm.Call g xs) = xs
  uses_right (RightTerm.With op gens) = op_uses op ++ uses_gens gens
  uses_right (RightTerm.Parted f b c op parts) = parted_uses op ++ uses_parts parts

  pub uses_gens : GensTerm → List Var
  uses_gens NoGens = []
  uses_gens (Gen h b rest) = head_uses h ++ (uses b ++ uses_gens rest)

  pub uses_parts : PartsTerm → List Var
  uses_parts NoParts = []
  uses_parts (Part h b rest) = uses b ++ uses_parts rest

-- the references that a right side hands on
abbrev pub hands : RightTerm → List Var
hands (Plain p) = plain_hands p
hands (RightTerm.Loop first start params test body s) = start
hands (RightTerm.Call g xs) = xs
hands _ = []

-- what the next binding, or the results, hand on
abbrev pub next_hands : BlockTerm → List Var
next_hands (Gives xs) = xs
next_hands (Bind xs s r b) = hands r

-- how often the variable stands in the list
abbrev pub times : Var → List Var → ℕ
times x [] = 0
times x (y ∷ ys) = cond (eqb y.0 x.0) (suc (times x ys)) (times x ys)

-- `outside` are the variables bound outside the cell, loop test, loop body or function in which the term stands, and `later` those that are used
-- after the term, both in it.
-- `above` are references that the blocks around the term end, and `refs` those that it ends itself. They are split as in well-counted code.
module _ (results_of : ℕ → ℕ) where
  abbrev mutual
    pub Prompt : (outside later above refs : List Var) → CodeTerm → Type 0
    -- at the end of a block each variable whose reference has not ended is used by the results or later, or comes from outside
    Prompt outside later above refs (Giving xs) = AllIn (refs ++ above) (xs ++ (later ++ outside))
    -- and before a binding it is used by the binding or later, or comes from outside
    Prompt outside later above refs (Binding xs s r b) =
        AllIn (refs ++ above) (uses_right (core_of_right r) ++ (uses (core_of b) ++ (later ++ outside)))
        × (mine : List Var) × (after : List Var) × Reordered refs (mine ++ after) × CountedRight results_of (length xs) (above ++ outside) mine after r
        × PromptRight outside (uses (core_of b) ++ later) above mine after r × Prompt outside later above (xs ++ after) b
    -- a reference is added where the next binding or the results hand one on, and the variable is used once more by these or later, or comes from outside
    Prompt outside later above refs (Keeping x b) =
        (is_in x (next_hands (core_of b)) ≡ true) × (2 ≤ times x (uses (core_of b) ++ (later ++ outside))) × Prompt outside later above (x ∷ refs) b
    Prompt outside later above refs (Releasing x b) = (after : List Var) × Reordered refs (x ∷ after) × Prompt outside later above after b

    pub PromptRight : (outside later above mine after : List Var) → CodeRightTerm → Type 0
    PromptRight outside later above mine after (PlainCode p) = Unit {0}
    PromptRight outside later above mine after (IfCode c a b) = Prompt outside later (after ++ above) mine a × Prompt outside later (after ++ above) mine b
    -- the parameters come from outside the test, and are bound in the body
    PromptRight outside later above mine after (LoopCode first start params test body s) =
        Prompt (params ++ (after ++ (above ++ outside))) [] [] [] test × Prompt (after ++ (above ++ outside)) [] [] params body
    PromptRight outside later above mine after (CallCode g xs) = Unit {0}
    PromptRight outside later above mine after (WithCode op gens) = PromptGens (after ++ (above ++ outside)) gens
    PromptRight outside later above mine after (PartedCode f b c op parts reuse) = PromptParts (mine ++ (after ++ (above ++ outside))) parts

    pub PromptGens : (outside : List Var) → CodeGensTerm → Type 0
    PromptGens outside NoCodeGens = Unit {0}
    PromptGens outside (GenCode h b rest) = Prompt outside [] [] (h.index ∷ h.names) b × PromptGens outside rest

    pub PromptParts : (outside : List Var) → CodePartsTerm → Type 0
    PromptParts outside NoCodeParts = Unit {0}
    PromptParts outside (PartCode h b rest) = Prompt outside [] [] (h.index ∷ []) b × PromptParts outside rest

  abbrev pub PromptFunctions : List CodeFunTerm → Type 0
  PromptFunctions [] = Unit {0}
  PromptFunctions (f ∷ fs) = Prompt [] [] [] (code_param_vars f) f.body × PromptFunctions fs

abbrev pub IsPrompt : CodeProgram → Type 0
IsPrompt code = PromptFunctions (group_results (core_of_code code)) code.functions
