-- A block does the same where the calls in it do the same.
use Rattle.std.proofs.Common.{◌≡◌, ℕ, ◌∷◌, map, None, refl}
use Rattle.std.specs.Prelude.{option_map}
use Rattle.sac_base.specs.declared.base.Base.TheVariants.{Int}
use Rattle.sac_base.specs.Arrays.{vector}
use Rattle.sac_base.specs.Parts.{condition}
use Rattle.core_ir.specs.Meaning.{operation}
use Rattle.core_facts.specs.calls.Nests.{CallsAll, CallsAllRight, CallsAllGens, CallsAllParts}
use Rattle.counted_code.specs.Loops.{with_job, parted_job, loop_does}
use Rattle.counted_code.specs.Machine.{DoesCalls, bind_value, bind_values, reads, one_value, first_value, turns_do, bounds_of, with_index_value, does, right_does, code_generators, code_cells}
use Rattle.counted_code.specs.Terms.{CodeTerm, CodeRightTerm, CodeGensTerm, CodePartsTerm, Giving, Binding, Keeping, Releasing, PlainCode, IfCode, LoopCode, CallCode, WithCode, PartedCode, NoCodeGens, GenCode, NoCodeParts, PartCode, core_of, core_of_right, core_of_gens, core_of_parts}
use Rattle.counted_code.specs.Values.{Small, then_go, choose_does, keep, release, read}

module _ (calls others : DoesCalls) (turns : ℕ) where
  mutual
    pub block_agrees : (t : CodeTerm) → CallsAll (λ g. calls g ≡ others g) (core_of t) → does calls turns t ≡ does others turns t
    block_agrees (Giving xs) c = refl
    block_agrees (Binding xs s r b) c = λ i e h. then_go (right_agrees r c.0 i s e) (λ vs. block_agrees b c.1 i (bind_values e xs vs)) h
    block_agrees (Keeping x b) c = λ i e h. block_agrees b c i e (keep (e x) h)
    block_agrees (Releasing x b) c = λ i e h. block_agrees b c i e (release (e x) h)

    right_agrees : (r : CodeRightTerm) → CallsAllRight (λ g. calls g ≡ others g) (core_of_right r) → right_does calls turns r ≡ right_does others turns r
    right_agrees (PlainCode p) c = refl
    right_agrees (IfCode x a b) c = λ i s e h. choose_does s (condition (read h (e x))) (block_agrees a c.0 i e) (block_agrees b c.1 i e) h
    right_agrees (LoopCode first_body start params test body u) c =
        λ i s e h. turns_do first_body turns s u (λ vs. first_value (block_agrees test c.0 i (bind_values e params vs))) (λ vs. block_agrees body c.1 i (bind_values e params vs)) (map e start) h
    right_agrees (CallCode g xs) c = λ i s e h. c i (map e xs) s h
    right_agrees (WithCode op gens) c =
        λ i s e h. one_value (loop_does (λ before. with_job (gens_agree gens c i e before) (operation op s (reads before e))) None) h
    right_agrees (PartedCode f b cell op parts reuse) c =
        λ i s e h. one_value (loop_does (λ before. parted_job f b cell op (parts_agree parts c i e) s (reads before e)) (option_map e reuse)) h

    pub gens_agree : (gens : CodeGensTerm) → CallsAllGens (λ g. calls g ≡ others g) (core_of_gens gens) → code_generators calls turns gens ≡ code_generators others turns gens
    gens_agree NoCodeGens c = refl
    gens_agree (GenCode g b rest) c =
        λ i e h. record { bounds = bounds_of g (reads h e); cell = λ index. first_value (block_agrees b c.0 i (with_index_value e g index)) } ∷ gens_agree rest c.1 i e h

    pub parts_agree : (parts : CodePartsTerm) → CallsAllParts (λ g. calls g ≡ others g) (core_of_parts parts) → code_cells calls turns parts ≡ code_cells others turns parts
    parts_agree NoCodeParts c = refl
    parts_agree (PartCode g b rest) c =
        λ i e. record { grid = g.grid; cell = λ index. first_value (block_agrees b c.0 i (bind_value e g.index (Small (vector Int index)))); site = g.site } ∷ parts_agree rest c.1 i e
