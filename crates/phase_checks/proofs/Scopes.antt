-- What is well counted in a scope is so in each scope with the same variables.
use Rattle.std.proofs.Common.{ℕ, List, [], ◌∷◌, ◌++◌, length, ◌∙◌, sym}
use Rattle.core_ir.specs.declared.tree.Var.{Var}
use Rattle.core_ir.specs.Scopes.{plain_uses, op_uses, parted_uses, head_uses}
use Rattle.counted_code.specs.Counts.{Counted, CountedRight, CountedGens, CountedParts}
use Rattle.counted_code.specs.Terms.{CodeTerm, CodeRightTerm, CodeGensTerm, CodePartsTerm, Giving, Binding, Keeping, Releasing, PlainCode, IfCode, LoopCode, CallCode, WithCode, PartedCode, NoCodeGens, GenCode, NoCodeParts, PartCode}
use Rattle.phase_checks.proofs.Orders.{SameIn, same_behind, all_in_same, none_in_same}

module _ (results_of : ℕ → ℕ) where
  mutual
    pub same_scope : (t : CodeTerm) (n : ℕ) (outer other refs : List Var) → SameIn outer other → Counted results_of n outer refs t → Counted results_of n other refs t
    same_scope (Giving xs) n outer other refs s c = c
    same_scope (Binding xs site r b) n outer other refs s c = (
      c.0,
      c.1,
      c.2,
      same_scope_right r (length xs) outer other c.0 c.1 s c.3,
      c.4,
      none_in_same xs (same_behind c.1 s) c.5,
      same_scope b n outer other (xs ++ c.1) s c.6,
    )
    same_scope (Keeping x b) n outer other refs s c = (sym ((same_behind refs s).at x) ∙ c.0, same_scope b n outer other (x ∷ refs) s c.1)
    same_scope (Releasing x b) n outer other refs s c = (c.0, c.1, same_scope b n outer other c.0 s c.2)

    pub same_scope_right : (r : CodeRightTerm) (n : ℕ) (outer other mine after : List Var) → SameIn outer other → CountedRight results_of n outer mine after r → CountedRight results_of n other mine after r
    same_scope_right (PlainCode p) n outer other mine after s c = (c.0, c.1, all_in_same (plain_uses p) (same_behind mine (same_behind after s)) c.2)
    same_scope_right (IfCode x a b) n outer other mine after s c = (
      sym ((same_behind mine (same_behind after s)).at x) ∙ c.0,
      same_scope a n (after ++ outer) (after ++ other) mine (same_behind after s) c.1,
      same_scope b n (after ++ outer) (after ++ other) mine (same_behind after s) c.2,
    )
    same_scope_right (LoopCode first start params test body site) n outer other mine after s c = (
      c.0,
      c.1,
      c.2,
      none_in_same params (same_behind after s) c.3,
      c.4,
      same_scope test 1 (params ++ (after ++ outer)) (params ++ (after ++ other)) [] (same_behind params (same_behind after s)) c.5,
      same_scope body n (after ++ outer) (after ++ other) params (same_behind after s) c.6,
    )
    same_scope_right (CallCode g xs) n outer other mine after s c = c
    same_scope_right (WithCode op gens) n outer other mine after s c = (
      c.0,
      c.1,
      all_in_same (op_uses op) (same_behind after s) c.2,
      same_scope_gens gens (after ++ outer) (after ++ other) (same_behind after s) c.3,
    )
    same_scope_right (PartedCode f b x op parts reuse) n outer other mine after s c = (
      c.0,
      c.1,
      all_in_same (parted_uses op) (same_behind mine (same_behind after s)) c.2,
      same_scope_parts parts (mine ++ (after ++ outer)) (mine ++ (after ++ other)) (same_behind mine (same_behind after s)) c.3,
    )

    same_scope_gens : (gens : CodeGensTerm) (outer other : List Var) → SameIn outer other → CountedGens results_of outer gens → CountedGens results_of other gens
    same_scope_gens NoCodeGens outer other s c = tt
    same_scope_gens (GenCode h b rest) outer other s c = (
      all_in_same (head_uses h) s c.0,
      none_in_same (h.index ∷ h.names) s c.1,
      same_scope b 1 outer other (h.index ∷ h.names) s c.2,
      same_scope_gens rest outer other s c.3,
    )

    same_scope_parts : (parts : CodePartsTerm) (outer other : List Var) → SameIn outer other → CountedParts results_of outer parts → CountedParts results_of other parts
    same_scope_parts NoCodeParts outer other s c = tt
    same_scope_parts (PartCode h b rest) outer other s c =
        (sym (s.at h.index) ∙ c.0, same_scope b 1 outer other (h.index ∷ []) s c.1, same_scope_parts rest outer other s c.2)
