-- Whole terms do what their core means.
use Rattle.std.proofs.Common.{ℕ, Option, subst, sym}
use Rattle.core_ir.specs.declared.tree.Var.{Var}
use Rattle.core_ir.specs.Meaning.{CallMeaning}
use Rattle.counted_code.specs.Terms.{CodeTerm, CodeRightTerm, CodeGensTerm, CodePartsTerm, Giving, Binding, Keeping, Releasing, PlainCode, IfCode, LoopCode, CallCode, WithCode, PartedCode, NoCodeGens, GenCode, NoCodeParts, PartCode}
use Rattle.counted_code.specs.Machine.{DoesCalls}
use Rattle.counted_code.specs.Counts.{Unmarked, UnmarkedRight, UnmarkedGens, UnmarkedParts}
use Rattle.counted_laws.specs.Simulation.{CallsMatch}
use Rattle.counted_laws.proofs.Blocks.{RightMatches, BlockMatches, giving_matches, keeping_matches, releasing_matches, binding_matches}
use Rattle.counted_laws.proofs.Plains.{plain_matches}
use Rattle.counted_laws.proofs.Rights.{call_matches, if_matches, loop_matches}
use Rattle.counted_laws.proofs.Loops.{GensMatch, PartsMatch, with_matches, parted_matches}

module _ (results_of : ℕ → ℕ) (does_calls : DoesCalls) (calls : CallMeaning) (turns : ℕ) (calls_match : CallsMatch results_of does_calls calls) where
  mutual
    pub block_matches : (t : CodeTerm) → Unmarked t → BlockMatches results_of does_calls calls turns t
    block_matches (Giving xs) u = giving_matches results_of does_calls calls turns xs
    block_matches (Binding xs s r t) u = binding_matches results_of does_calls calls turns xs s r t (right_matches r u.0) (block_matches t u.1)
    block_matches (Keeping x t) u = keeping_matches results_of does_calls calls turns x t (block_matches t u)
    block_matches (Releasing x t) u = releasing_matches results_of does_calls calls turns x t (block_matches t u)

    pub right_matches : (r : CodeRightTerm) → UnmarkedRight r → RightMatches results_of does_calls calls turns r
    right_matches (PlainCode p) u = plain_matches results_of does_calls calls turns p
    right_matches (IfCode c a b) u = if_matches results_of does_calls calls turns c a b (block_matches a u.0) (block_matches b u.1)
    right_matches (LoopCode b start params test body s) u = loop_matches results_of does_calls calls turns b start params test body s (block_matches test u.0) (block_matches body u.1)
    right_matches (CallCode g xs) u = call_matches results_of does_calls calls turns calls_match g xs
    right_matches (WithCode op gens) u = with_matches results_of does_calls calls turns op gens (gens_match gens u)
    right_matches (PartedCode f b c op parts m) u =
        subst (λ (o : Option Var). RightMatches results_of does_calls calls turns (PartedCode f b c op parts o)) (sym u.0) (parted_matches results_of does_calls calls turns f b c op parts (parts_match parts u.1))

    pub gens_match : (gens : CodeGensTerm) → UnmarkedGens gens → GensMatch results_of does_calls calls turns gens
    gens_match NoCodeGens u = tt
    gens_match (GenCode g b rest) u = (block_matches b u.0, gens_match rest u.1)

    pub parts_match : (parts : CodePartsTerm) → UnmarkedParts parts → PartsMatch results_of does_calls calls turns parts
    parts_match NoCodeParts u = tt
    parts_match (PartCode g b rest) u = (block_matches b u.0, parts_match rest u.1)
