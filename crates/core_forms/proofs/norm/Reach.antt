-- All variables of a scoped block are below a number where those in scope and those that it binds are.
use Rattle.std.proofs.Common.{ℕ, suc, ◌≤◌, List, [], ◌∷◌, ◌++◌, Option, Some, None, arith}
use Rattle.std.specs.Prelude.{max, option_to_list}
use Rattle.core_ir.specs.declared.tree.Var.{Var}
use Rattle.core_ir.specs.Binders.{bound_in, bound_in_right, bound_in_gens, bound_in_parts}
use Rattle.core_ir.specs.Scopes.{AllIn, Scoped, ScopedRight, ScopedGens, ScopedParts, plain_uses, op_uses, parted_uses, head_uses}
use Rattle.core_ir.specs.Terms.{BlockTerm, RightTerm, GensTerm, PartsTerm, GenHead, Gives, Bind, Plain, NoGens, Gen, NoParts, Part}
use Rattle.core_subst.specs.Names.{above_all, above_option, above_head, above, above_right, above_gens, above_parts}
use Rattle.core_forms.proofs.inlined_bodies.Names.{Fresh, fresh_both, fresh_left, fresh_right, fresh_below, itself}

pub most : (a b n : ℕ) → a ≤ n → b ≤ n → max a b ≤ n
most a b n p q = omega arith

none : (n : ℕ) → 0 ≤ n
none n = omega arith

module _ (n : ℕ) where
  pub fresh_above : (xs : List Var) → Fresh xs n → above_all xs ≤ n
  fresh_above [] f = none n
  fresh_above (x ∷ xs) f = most (suc x.0) (above_all xs) n (fresh_below (x ∷ xs) n x f (itself x xs)) (fresh_above xs (fresh_right (x ∷ []) xs n f))

  module _ (scope : List Var) (f : Fresh scope n) where
    used_above : (xs : List Var) → AllIn xs scope → above_all xs ≤ n
    used_above [] h = none n
    used_above (x ∷ xs) h = most (suc x.0) (above_all xs) n (fresh_below scope n x f h.0) (used_above xs h.1)

    option_above : (x : Option Var) (us : List Var) (rest : ℕ) → AllIn (option_to_list x ++ us) scope → (AllIn us scope → rest ≤ n) → max (above_option x) rest ≤ n
    option_above None us rest h k = most 0 rest n (none n) (k h)
    option_above (Some x) us rest h k = most (suc x.0) rest n (fresh_below scope n x f h.0) (k h.1)

    last_above : (x : Option Var) → AllIn (option_to_list x) scope → above_option x ≤ n
    last_above None h = none n
    last_above (Some x) h = fresh_below scope n x f h.0

    head_above : (h : GenHead) → AllIn (head_uses h) scope → above_head h ≤ n
    head_above h m = option_above h.lower _ _ m (λ m. option_above h.upper _ _ m (λ m. option_above h.step _ _ m (λ m. last_above h.width m)))

  mutual
    pub block_above : (b : BlockTerm) (scope : List Var) → Fresh scope n → Scoped scope b → Fresh (bound_in b) n → above b ≤ n
    block_above (Gives xs) scope f s d = used_above scope f xs s
    block_above (Bind xs t r b) scope f s d =
        let own = fresh_left xs (bound_in_right r ++ bound_in b) n d in
        let rest = fresh_right xs (bound_in_right r ++ bound_in b) n d in
        most (above_all xs) (max (above_right r) (above b)) n (fresh_above xs own)
        (most (above_right r) (above b) n (right_above r scope f s.0 (fresh_left (bound_in_right r) (bound_in b) n rest)) (block_above b (xs ++ scope) (fresh_both xs scope n own f) s.2 (fresh_right (bound_in_right r) (bound_in b) n rest)))

    right_above : (r : RightTerm) (scope : List Var) → Fresh scope n → ScopedRight scope r → Fresh (bound_in_right r) n → above_right r ≤ n
    right_above (Plain p) scope f s d = used_above scope f (plain_uses p) s
    right_above (RightTerm.If x a b) scope f s d =
        most (suc x.0) (max (above a) (above b)) n (fresh_below scope n x f s.0)
        (most (above a) (above b) n (block_above a scope f s.1 (fresh_left (bound_in a) (bound_in b) n d)) (block_above b scope f s.2 (fresh_right (bound_in a) (bound_in b) n d)))
    right_above (RightTerm.Loop fb start params test body t) scope f s d =
        let own = fresh_left params (bound_in test ++ bound_in body) n d in
        let rest = fresh_right params (bound_in test ++ bound_in body) n d in
        most (above_all start) (max (above_all params) (max (above test) (above body))) n (used_above scope f start s.0)
        (most (above_all params) (max (above test) (above body)) n (fresh_above params own)
        (most (above test) (above body) n (block_above test (params ++ scope) (fresh_both params scope n own f) s.2 (fresh_left (bound_in test) (bound_in body) n rest)) (block_above body (params ++ scope) (fresh_both params scope n own f) s.3 (fresh_right (bound_in test) (bound_in body) n rest))))
    right_above (RightTerm.Call g xs) scope f s d = used_above scope f xs s
    right_above (RightTerm.With op gens) scope f s d = most (above_all (op_uses op)) (above_gens gens) n (used_above scope f (op_uses op) s.0) (gens_above gens scope f s.1 d)
    right_above (RightTerm.Parted frame t cell op parts) scope f s d =
        most (above_all (parted_uses op)) (above_parts parts) n (used_above scope f (parted_uses op) s.0) (parts_above parts scope f s.1 d)

    gens_above : (g : GensTerm) (scope : List Var) → Fresh scope n → ScopedGens scope g → Fresh (bound_in_gens g) n → above_gens g ≤ n
    gens_above NoGens scope f s d = none n
    gens_above (Gen h b rest) scope f s d =
        let xs = h.index ∷ h.names in
        let own = fresh_left xs (bound_in b ++ bound_in_gens rest) n d in
        let more = fresh_right xs (bound_in b ++ bound_in_gens rest) n d in
        most (above_head h) (max (above_all xs) (max (above b) (above_gens rest))) n (head_above scope f h s.0)
        (most (above_all xs) (max (above b) (above_gens rest)) n (fresh_above xs own)
        (most (above b) (above_gens rest) n (block_above b (xs ++ scope) (fresh_both xs scope n own f) s.2 (fresh_left (bound_in b) (bound_in_gens rest) n more)) (gens_above rest scope f s.3 (fresh_right (bound_in b) (bound_in_gens rest) n more))))

    parts_above : (p : PartsTerm) (scope : List Var) → Fresh scope n → ScopedParts scope p → Fresh (bound_in_parts p) n → above_parts p ≤ n
    parts_above NoParts scope f s d = none n
    parts_above (Part h b rest) scope f s d =
        let xs = h.index ∷ [] in
        let own = fresh_left xs (bound_in b ++ bound_in_parts rest) n d in
        let more = fresh_right xs (bound_in b ++ bound_in_parts rest) n d in
        most (suc h.index.0) (max (above b) (above_parts rest)) n (fresh_below xs n h.index own (itself h.index []))
        (most (above b) (above_parts rest) n (block_above b (xs ++ scope) (fresh_both xs scope n own f) s.1 (fresh_left (bound_in b) (bound_in_parts rest) n more)) (parts_above rest scope f s.2 (fresh_right (bound_in b) (bound_in_parts rest) n more)))
