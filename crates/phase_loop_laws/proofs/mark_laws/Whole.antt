-- Whole terms do what their core means, where marks are right.
use Rattle.std.proofs.Common.{ℕ, Some, None}
use Rattle.core_ir.specs.Meaning.{CallMeaning}
use Rattle.counted_code.specs.Terms.{CodeTerm, CodeRightTerm, CodeGensTerm, CodePartsTerm, Giving, Binding, Keeping, Releasing, PlainCode, IfCode, LoopCode, CallCode, WithCode, PartedCode, NoCodeGens, GenCode, NoCodeParts, PartCode}
use Rattle.counted_code.specs.Machine.{DoesCalls}
use Rattle.counted_laws.proofs.Plains.{plain_matches}
use Rattle.phase_loop_laws.specs.mark_laws.Holds.{ArrayCallsMatch}
use Rattle.phase_loop_laws.proofs.mark_laws.Blocks.{RightDoes, BlockDoes, giving_does, keeping_does, releasing_does, binding_does}
use Rattle.phase_loop_laws.proofs.mark_laws.Gens.{GensDo, with_does}
use Rattle.phase_loop_laws.proofs.mark_laws.Parts.{PartsDo, parted_does, marked_does}
use Rattle.phase_loop_laws.proofs.mark_laws.Rights.{call_does, if_does, loop_does}

module _ (results_of : ℕ → ℕ) (does_calls : DoesCalls) (calls : CallMeaning) (turns : ℕ) (match : ArrayCallsMatch results_of does_calls calls) where
  mutual
    pub block_does : (t : CodeTerm) → BlockDoes results_of does_calls calls turns t
    block_does (Giving xs) = giving_does results_of does_calls calls turns xs
    block_does (Binding xs s r t) = binding_does results_of does_calls calls turns xs s r t (right_does_it r) (block_does t)
    block_does (Keeping x t) = keeping_does results_of does_calls calls turns x t (block_does t)
    block_does (Releasing x t) = releasing_does results_of does_calls calls turns x t (block_does t)

    right_does_it : (r : CodeRightTerm) → RightDoes results_of does_calls calls turns r
    right_does_it (PlainCode p) = λ n outer mine after counted s h e ρ others ready marks. plain_matches results_of does_calls calls turns p n outer mine after counted s h e ρ others ready
    right_does_it (IfCode c a b) = if_does results_of does_calls calls turns c a b (block_does a) (block_does b)
    right_does_it (LoopCode b start params test body s) = loop_does results_of does_calls calls turns b start params test body s (block_does test) (block_does body)
    right_does_it (CallCode g xs) = call_does results_of does_calls calls turns match g xs
    right_does_it (WithCode op gens) = with_does results_of does_calls calls turns op gens (gens_do gens)
    right_does_it (PartedCode f b c op parts None) = parted_does results_of does_calls calls turns f b c op parts (parts_do parts)
    right_does_it (PartedCode f b c op parts (Some v)) = marked_does results_of does_calls calls turns f b c op parts v (parts_do parts)

    gens_do : (gens : CodeGensTerm) → GensDo results_of does_calls calls turns gens
    gens_do NoCodeGens = tt
    gens_do (GenCode g b rest) = (block_does b, gens_do rest)

    parts_do : (parts : CodePartsTerm) → PartsDo results_of does_calls calls turns parts
    parts_do NoCodeParts = tt
    parts_do (PartCode g b rest) = (block_does b, parts_do rest)
