-- Whole terms spend on a heap what they spend on arrays.
use Rattle.std.proofs.Common.{Option, subst, sym}
use Rattle.core_ir.specs.declared.tree.Var.{Var}
use Rattle.counted_code.specs.Counts.{Unmarked, UnmarkedRight, UnmarkedGens, UnmarkedParts}
use Rattle.counted_code.specs.Terms.{CodeTerm, CodeRightTerm, CodeGensTerm, CodePartsTerm, Giving, Binding, Keeping, Releasing, PlainCode, IfCode, LoopCode, CallCode, WithCode, PartedCode, NoCodeGens, GenCode, NoCodeParts, PartCode}
use Rattle.counted_laws.proofs.Whole.{block_matches, right_matches}
use Rattle.phase_laws.specs.Alone.{Context}
use Rattle.phase_laws.proofs.Loops.{GensSpend, PartsSpend, right_with_spends, right_parted_spends}
use Rattle.phase_laws.proofs.Steps.{Means, BlockSpends, RightSpends, giving_spends, keeping_spends, releasing_spends, binding_spends, right_plain_spends, if_spends, call_spends, loop_spends}

module _ (c : Context) where
  means : (t : CodeTerm) → Unmarked t → Means c t
  means t u = block_matches c.results_of c.does_calls c.calls c.turns c.matching t u

  mutual
    pub block_spends : (t : CodeTerm) → Unmarked t → BlockSpends c t
    block_spends (Giving xs) u = giving_spends c xs
    block_spends (Binding xs s r t) u = binding_spends c xs s r t (right_matches c.results_of c.does_calls c.calls c.turns c.matching r u.0) (right_side_spends r u.0) (block_spends t u.1)
    block_spends (Keeping x t) u = keeping_spends c x t (block_spends t u)
    block_spends (Releasing x t) u = releasing_spends c x t (block_spends t u)

    right_side_spends : (r : CodeRightTerm) → UnmarkedRight r → RightSpends c r
    right_side_spends (PlainCode p) u = right_plain_spends c p
    right_side_spends (IfCode x a b) u = if_spends c x a b (block_spends a u.0) (block_spends b u.1)
    right_side_spends (LoopCode b start params test body s) u = loop_spends c b start params test body s (means test u.0) (block_spends test u.0) (means body u.1) (block_spends body u.1)
    right_side_spends (CallCode g xs) u = call_spends c g xs
    right_side_spends (WithCode op gens) u = right_with_spends c op gens (gens_spend gens u)
    right_side_spends (PartedCode f b shape op parts m) u =
        subst (λ (o : Option Var). RightSpends c (PartedCode f b shape op parts o)) (sym u.0) (right_parted_spends c f b shape op parts (parts_spend parts u.1))

    pub gens_spend : (gens : CodeGensTerm) → UnmarkedGens gens → GensSpend c gens
    gens_spend NoCodeGens u = tt
    gens_spend (GenCode g b rest) u = (means b u.0, block_spends b u.0, gens_spend rest u.1)

    pub parts_spend : (parts : CodePartsTerm) → UnmarkedParts parts → PartsSpend c parts
    parts_spend NoCodeParts u = tt
    parts_spend (PartCode g b rest) u = (means b u.0, block_spends b u.0, parts_spend rest u.1)
