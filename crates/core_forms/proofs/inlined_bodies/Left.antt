-- The calls that are left in a block with calls inlined, and how great it is.
use Rattle.std.proofs.Common.{◌≡◌, ℕ, suc, ◌+◌, ◌-◌, ◌^◌, ◌<◌, ◌≤◌, true, List, [], ◌∷◌, map, length, Option, Some, None, refl, sym, ap, subst, ◌∙◌, arith, inl, inr}
use Rattle.std.specs.Prelude.{max, option_map}
use Rattle.sac_base.specs.declared.site.Site.{Site}
use Rattle.sac_base.specs.declared.types.ArrayType.{ArrayType}
use Rattle.core_ir.specs.declared.tree.Var.{Var}
use Rattle.core_ir.specs.Counts.{bindings as many, bindings_right as many_right, bindings_gens as many_gens, bindings_parts as many_parts}
use Rattle.core_ir.specs.Outcome.{param_types, param_vars}
use Rattle.core_ir.specs.Scopes.{plain_uses, op_uses, parted_uses}
use Rattle.core_ir.specs.Terms.{BlockTerm, RightTerm, GensTerm, PartsTerm, GenHead, LetTerm, FunTerm, CoreTerm, Gives, Bind, Plain, NoGens, Gen, NoParts, Part, chain}
use Rattle.core_facts.specs.calls.Nests.{CallsAll, CallsAllRight, CallsAllGens, CallsAllParts, StandsIn, InlineBelow}
use Rattle.core_facts.proofs.calls.Agreeing.{weaker, weaker_right}
use Rattle.core_subst.specs.Names.{above, above_all, above_option, above_head, above_right, above_gens, above_parts, above_function}
use Rattle.core_subst.specs.Substitution.{plain_with, core_op_with, parted_op_with}
use Rattle.core_subst.specs.copy.Mapped.{raised, mapped, mapped_right, mapped_gens, mapped_parts, mapped_gen_head}
use Rattle.core_forms.proofs.edits.Mapping.{plain_uses_mapped, op_uses_mapped, parted_uses_mapped}
use Rattle.core_forms.specs.inlining.Inlined.{bindings, results, checks, inlined, CanInline}
use Rattle.core_forms.proofs.inlining.Backward.{inlined_calls}
use Rattle.core_forms.proofs.inlining.Bodies.{results_mapped}
use Rattle.core_forms.specs.declared.inlined_bodies.growth.Growth.{Growth}
use Rattle.core_forms.specs.inlined_bodies.Inlining.{IsInstance, IsLeft, TooGreat, grown, weight, greatest, BlockInlined, RightInlined, GensInlined, PartsInlined, ends, placed, kept, plain, left, branches, turns, generated, divided, no_gens, a_gen, no_parts, a_part}
use Rattle.core_forms.specs.inlined_bodies.Functions.{AreTooLarge, LeavesLarge, DoneBelow, unchanged}
use Rattle.core_forms.proofs.inlined_bodies.Counts.{Rises, rises, rises_gens, rises_parts, mapped_length, trans}

-- ---- how many bindings

module _ (f : Var → Var) where
  mutual
    many_mapped : (b : BlockTerm) → many (mapped f b) ≡ many b
    many_mapped (Gives xs) = refl
    many_mapped (Bind xs s r b) = λ i. suc (many_mapped_right r i + many_mapped b i)

    many_mapped_right : (r : RightTerm) → many_right (mapped_right f r) ≡ many_right r
    many_mapped_right (Plain p) = refl
    many_mapped_right (RightTerm.If x a b) = λ i. many_mapped a i + many_mapped b i
    many_mapped_right (RightTerm.Loop first start params a b s) = λ i. many_mapped a i + many_mapped b i
    many_mapped_right (RightTerm.Call g xs) = refl
    many_mapped_right (RightTerm.With o gens) = many_mapped_gens gens
    many_mapped_right (RightTerm.Parted fr t c o parts) = many_mapped_parts parts

    many_mapped_gens : (g : GensTerm) → many_gens (mapped_gens f g) ≡ many_gens g
    many_mapped_gens NoGens = refl
    many_mapped_gens (Gen h b rest) = λ i. many_mapped b i + many_mapped_gens rest i

    many_mapped_parts : (p : PartsTerm) → many_parts (mapped_parts f p) ≡ many_parts p
    many_mapped_parts NoParts = refl
    many_mapped_parts (Part h b rest) = λ i. many_mapped b i + many_mapped_parts rest i

none_before : (n : ℕ) → n ≡ 0 + n
none_before n = omega arith

one_more : (a b c : ℕ) → a ≡ b + c → suc (0 + a) ≡ suc b + c
one_more a b c p = omega arith

many_checks : (s : Site) (ts : List Var) (tys : List ArrayType) (zs : List Var) (rest : BlockTerm) → length ts ≡ length tys → length zs ≡ length tys → many (chain (checks s ts tys zs) rest) ≡ length tys + many rest
many_checks s [] [] [] rest p q = none_before (many rest)
many_checks s (t ∷ ts) (ty ∷ tys) (z ∷ zs) rest p q = one_more _ (length tys) (many rest) (many_checks s ts tys zs rest (omega (arith, p)) (omega (arith, q)))
many_checks s [] (ty ∷ tys) zs rest p q = absurd (omega arith)
many_checks s (t ∷ ts) [] zs rest p q = absurd (omega arith)
many_checks s [] [] (z ∷ zs) rest p q = absurd (omega arith)
many_checks s (t ∷ ts) (ty ∷ tys) [] rest p q = absurd (omega arith)

one_deeper : (r m n k : ℕ) → m ≡ n + k → suc (r + m) ≡ suc (r + n) + k
one_deeper r m n k p = omega arith

many_bindings : (b rest : BlockTerm) → many (chain (bindings b) rest) ≡ many b + many rest
many_bindings (Gives xs) rest = none_before (many rest)
many_bindings (Bind xs s r b) rest = one_deeper (many_right r) _ (many b) (many rest) (many_bindings b rest)

sums : (c p r b n p' b' e : ℕ) → c ≡ p' + b' → b' ≡ b + e → e ≡ r + n → p' ≡ p → c ≡ (b + (p + r)) + n
sums c p r b n p' b' e h k l m = omega arith

module _ (by : ℕ) (f : FunTerm) (ts xs : List Var) (s : Site) (old rest : BlockTerm) (can : CanInline by f ts xs old) where
  abbrev body : BlockTerm
  body = mapped (raised by) f.body

  abbrev end : BlockTerm
  end = chain (checks f.ends ts f.results (results (mapped (raised by) f.body))) rest

  params_count : length (map (raised by) (param_vars f)) ≡ length (param_types f)
  params_count = mapped_length (raised by) (param_vars f) ∙ mapped_length (λ (p : Var × ArrayType). p.0) f.params ∙ sym (mapped_length (λ (p : Var × ArrayType). p.1) f.params)

  args_count : length xs ≡ length (param_types f)
  args_count = can.takes ∙ sym (mapped_length (λ (p : Var × ArrayType). p.1) f.params)

  results_count : length (results (mapped (raised by) f.body)) ≡ length f.results
  results_count = ap length (results_mapped (raised by) f.body) ∙ mapped_length (raised by) (results f.body) ∙ can.ends

  many_inlined : many (inlined by f ts s xs rest) ≡ weight f + many rest
  many_inlined =
      sums (many (inlined by f ts s xs rest)) (length f.params) (length f.results) (many f.body) (many rest) (length (param_types f)) (many (chain (bindings body) end)) (many end)
      (many_checks s (map (raised by) (param_vars f)) (param_types f) xs (chain (bindings body) end) params_count args_count)
      (many_bindings body end ∙ (λ i. many_mapped (raised by) f.body i + many end))
      (many_checks f.ends ts f.results (results body) rest can.gives results_count)
      (mapped_length (λ (p : Var × ArrayType). p.1) f.params)

-- ---- how great the numbers are

raised_pair : (a b c d n : ℕ) → a + n ≤ max n c → b + n ≤ max n d → max a b + n ≤ max n (max c d)
raised_pair a b c d n p q = omega arith

raised_one : (x n : ℕ) → suc x + n ≤ max n (suc (x + n))
raised_one x n = omega arith

raised_none : (n : ℕ) → 0 + n ≤ max n 0
raised_none n = omega arith

module _ (n : ℕ) where
  vars_up : (xs : List Var) → above_all xs + n ≤ max n (above_all (map (raised n) xs))
  vars_up [] = raised_none n
  vars_up (x ∷ xs) = raised_pair (suc x.0) (above_all xs) (suc (x.0 + n)) (above_all (map (raised n) xs)) n (raised_one x.0 n) (vars_up xs)

  uses_up : (us xs : List Var) → us ≡ map (raised n) xs → above_all xs + n ≤ max n (above_all us)
  uses_up us xs p = subst (λ (ys : List Var). above_all xs + n ≤ max n (above_all ys)) (sym p) (vars_up xs)

  option_up : (x : Option Var) → above_option x + n ≤ max n (above_option (option_map (raised n) x))
  option_up None = raised_none n
  option_up (Some x) = raised_one x.0 n

  head_up : (h : GenHead) → above_head h + n ≤ max n (above_head (mapped_gen_head (raised n) h))
  head_up h =
      raised_pair (above_option h.lower) _ (above_option (option_map (raised n) h.lower)) _ n (option_up h.lower)
      (raised_pair (above_option h.upper) _ (above_option (option_map (raised n) h.upper)) _ n (option_up h.upper)
      (raised_pair (above_option h.step) (above_option h.width) (above_option (option_map (raised n) h.step)) (above_option (option_map (raised n) h.width)) n (option_up h.step) (option_up h.width)))

  mutual
    block_up : (b : BlockTerm) → above b + n ≤ max n (above (mapped (raised n) b))
    block_up (Gives xs) = vars_up xs
    block_up (Bind xs s r b) =
        raised_pair (above_all xs) _ (above_all (map (raised n) xs)) _ n (vars_up xs) (raised_pair (above_right r) (above b) (above_right (mapped_right (raised n) r)) (above (mapped (raised n) b)) n (right_up r) (block_up b))

    right_up : (r : RightTerm) → above_right r + n ≤ max n (above_right (mapped_right (raised n) r))
    right_up (Plain p) = uses_up (plain_uses (plain_with (raised n) p)) (plain_uses p) (plain_uses_mapped (raised n) p)
    right_up (RightTerm.If x a b) =
        raised_pair (suc x.0) _ (suc (x.0 + n)) _ n (raised_one x.0 n) (raised_pair (above a) (above b) (above (mapped (raised n) a)) (above (mapped (raised n) b)) n (block_up a) (block_up b))
    right_up (RightTerm.Loop first start params a b s) =
        raised_pair (above_all start) _ (above_all (map (raised n) start)) _ n (vars_up start)
        (raised_pair (above_all params) _ (above_all (map (raised n) params)) _ n (vars_up params) (raised_pair (above a) (above b) (above (mapped (raised n) a)) (above (mapped (raised n) b)) n (block_up a) (block_up b)))
    right_up (RightTerm.Call g xs) = vars_up xs
    right_up (RightTerm.With o gens) =
        raised_pair (above_all (op_uses o)) (above_gens gens) (above_all (op_uses (core_op_with (raised n) o))) (above_gens (mapped_gens (raised n) gens)) n (uses_up (op_uses (core_op_with (raised n) o)) (op_uses o) (op_uses_mapped (raised n) o)) (gens_up gens)
    right_up (RightTerm.Parted fr t c o parts) =
        raised_pair (above_all (parted_uses o)) (above_parts parts) (above_all (parted_uses (parted_op_with (raised n) o))) (above_parts (mapped_parts (raised n) parts)) n (uses_up (parted_uses (parted_op_with (raised n) o)) (parted_uses o) (parted_uses_mapped (raised n) o)) (parts_up parts)

    gens_up : (g : GensTerm) → above_gens g + n ≤ max n (above_gens (mapped_gens (raised n) g))
    gens_up NoGens = raised_none n
    gens_up (Gen h b rest) =
        raised_pair (above_head h) _ (above_head (mapped_gen_head (raised n) h)) _ n (head_up h)
        (raised_pair (above_all (h.index ∷ h.names)) _ (above_all (map (raised n) (h.index ∷ h.names))) _ n (vars_up (h.index ∷ h.names)) (raised_pair (above b) (above_gens rest) (above (mapped (raised n) b)) (above_gens (mapped_gens (raised n) rest)) n (block_up b) (gens_up rest)))

    parts_up : (p : PartsTerm) → above_parts p + n ≤ max n (above_parts (mapped_parts (raised n) p))
    parts_up NoParts = raised_none n
    parts_up (Part h b rest) =
        raised_pair (suc h.index.0) _ (suc (h.index.0 + n)) _ n (raised_one h.index.0 n) (raised_pair (above b) (above_parts rest) (above (mapped (raised n) b)) (above_parts (mapped_parts (raised n) rest)) n (block_up b) (parts_up rest))

-- ---- a chain is as great as what stands in it

within_bind : (a b c : ℕ) → c ≤ max a (max b c)
within_bind a b c = omega arith

chain_end : (ls : List LetTerm) (rest : BlockTerm) → above rest ≤ above (chain ls rest)
chain_end [] rest = omega arith
chain_end (l ∷ ls) rest = trans (above rest) (above (chain ls rest)) _ (chain_end ls rest) (within_bind (above_all l.targets) (above_right l.right) (above (chain ls rest)))

first_check : (x t z c : ℕ) → t ≤ c → max (suc x) t ≤ max (max (suc x) 0) (max z c)
first_check x t z c p = omega arith

second_check : (x t z c : ℕ) → z ≤ c → max (suc x) z ≤ max t (max (max (suc x) 0) c)
second_check x t z c p = omega arith

check_targets : (s : Site) (ts : List Var) (tys : List ArrayType) (zs : List Var) (rest : BlockTerm) → length ts ≡ length tys → length zs ≡ length tys → above_all ts ≤ above (chain (checks s ts tys zs) rest)
check_targets s [] [] [] rest p q = omega arith
check_targets s (t ∷ ts) (ty ∷ tys) (z ∷ zs) rest p q = first_check t.0 (above_all ts) (above_all (z ∷ [])) (above (chain (checks s ts tys zs) rest)) (check_targets s ts tys zs rest (omega (arith, p)) (omega (arith, q)))
check_targets s [] (ty ∷ tys) zs rest p q = absurd (omega arith)
check_targets s (t ∷ ts) [] zs rest p q = absurd (omega arith)
check_targets s [] [] (z ∷ zs) rest p q = absurd (omega arith)
check_targets s (t ∷ ts) (ty ∷ tys) [] rest p q = absurd (omega arith)

check_sources : (s : Site) (ts : List Var) (tys : List ArrayType) (zs : List Var) (rest : BlockTerm) → length ts ≡ length tys → length zs ≡ length tys → above_all zs ≤ above (chain (checks s ts tys zs) rest)
check_sources s [] [] [] rest p q = omega arith
check_sources s (t ∷ ts) (ty ∷ tys) (z ∷ zs) rest p q = second_check z.0 (above_all (t ∷ [])) (above_all zs) (above (chain (checks s ts tys zs) rest)) (check_sources s ts tys zs rest (omega (arith, p)) (omega (arith, q)))
check_sources s [] (ty ∷ tys) zs rest p q = absurd (omega arith)
check_sources s (t ∷ ts) [] zs rest p q = absurd (omega arith)
check_sources s [] [] (z ∷ zs) rest p q = absurd (omega arith)
check_sources s (t ∷ ts) (ty ∷ tys) [] rest p q = absurd (omega arith)

deeper : (a b c d : ℕ) → c ≤ d → max a (max b c) ≤ max a (max b d)
deeper a b c d p = omega arith

body_within : (b rest : BlockTerm) → above_all (results b) ≤ above rest → above b ≤ above (chain (bindings b) rest)
body_within (Gives xs) rest h = h
body_within (Bind xs s r b) rest h = deeper (above_all xs) (above_right r) (above b) (above (chain (bindings b) rest)) (body_within b rest h)

-- ---- how far it grows

pub record Sized (s t : Growth) (n old new : ℕ) : Type 0 where
  pub counted : t.count ≤ s.count + n
  pub numbered : t.above ≤ max s.above new
  pub keeps : old ≤ new

nothing : (s : Growth) (n k : ℕ) → Sized s s k n n
nothing s n k = record { counted = omega arith; numbered = omega arith; keeps = omega arith }

two_counts : (a b c k l : ℕ) → b ≤ a + k → c ≤ b + l → c ≤ a + (k + l)
two_counts a b c k l p q = omega arith

two_aboves : (a b c k l : ℕ) → b ≤ max a k → c ≤ max b l → c ≤ max a (max k l)
two_aboves a b c k l p q = omega arith

two_olds : (a b c d : ℕ) → a ≤ c → b ≤ d → max a b ≤ max c d
two_olds a b c d p q = omega arith

sized_both : (s m t : Growth) (k l a b c d : ℕ) → Sized s m k a c → Sized m t l b d → Sized s t (k + l) (max a b) (max c d)
sized_both s m t k l a b c d p q =
    record { counted = two_counts s.count m.count t.count k l p.counted q.counted; numbered = two_aboves s.above m.above t.above c d p.numbered q.numbered; keeps = two_olds a b c d p.keeps q.keeps }

wider_above : (t s x a : ℕ) → t ≤ max s a → t ≤ max s (max x a)
wider_above t s x a p = omega arith

wider_keeps : (x a b : ℕ) → a ≤ b → max x a ≤ max x b
wider_keeps x a b p = omega arith

sized_more : (s t : Growth) (k x a b : ℕ) → Sized s t k a b → Sized s t k (max x a) (max x b)
sized_more s t k x a b p = record { counted = p.counted; numbered = wider_above t.above s.above x b p.numbered; keeps = wider_keeps x a b p.keeps }

sized_one : (s t : Growth) (k a b : ℕ) → Sized s t k a b → Sized s t (suc k) a b
sized_one s t k a b p = record { counted = more t.count s.count k p.counted; numbered = p.numbered; keeps = p.keeps }
  where
    more : (t s k : ℕ) → t ≤ s + k → t ≤ s + suc k
    more t s k p = omega arith

placed_count : (t s w n c : ℕ) → t ≤ (s + w) + n → c ≡ w + n → t ≤ s + c
placed_count t s w n c p q = omega arith

placed_above : (t s a n c p b p' b' : ℕ) → t ≤ max (s + a) n → n ≤ c → a ≡ max p b → p + s ≤ max s p' → b + s ≤ max s b' → p' ≤ c → b' ≤ c → t ≤ max s c
placed_above t s a n c p b p' b' h1 h2 h3 h4 h5 h6 h7 = omega arith

three_most : (a b c n : ℕ) → a ≤ n → b ≤ n → c ≤ n → max a (max b c) ≤ n
three_most a b c n p q r = omega arith

module _ (core : CoreTerm) where
  placed_sized : (s t : Growth) (f : FunTerm) (ts xs : List Var) (site : Site) (old new : BlockTerm) → CanInline s.above f ts xs old → Sized (grown s f) t (many new) (above old) (above new)
      → Sized s t (many (inlined s.above f ts site xs new)) (max (above_all ts) (max (above_all xs) (above old))) (above (inlined s.above f ts site xs new))
  placed_sized s t f ts xs site old new can rec =
      let by = s.above in
      let whole = above (inlined by f ts site xs new) in
      let P = map (raised by) (param_vars f) in
      let inner = mapped (raised by) f.body in
      let last = chain (checks f.ends ts f.results (results inner)) new in
      let mid = chain (bindings inner) last in
      let pc = params_count by f ts xs site old new can in
      let ac = args_count by f ts xs site old new can in
      let rc = results_count by f ts xs site old new can in
      let in_mid : above mid ≤ whole = chain_end (checks site P (param_types f) xs) mid in
      let in_last : above last ≤ whole = trans (above last) (above mid) whole (chain_end (bindings inner) last) in_mid in
      let in_new : above new ≤ whole = trans (above new) (above last) whole (chain_end (checks f.ends ts f.results (results inner)) new) in_last in
      let in_targets : above_all ts ≤ whole = trans (above_all ts) (above last) whole (check_targets f.ends ts f.results (results inner) new can.gives rc) in_last in
      let in_args : above_all xs ≤ whole = check_sources site P (param_types f) xs mid pc ac in
      let in_params : above_all P ≤ whole = check_targets site P (param_types f) xs mid pc ac in
      let in_body : above inner ≤ whole = trans (above inner) (above mid) whole (body_within inner last (check_sources f.ends ts f.results (results inner) new can.gives rc)) in_mid in
      record {
        counted = placed_count t.count s.count (weight f) (many new) (many (inlined by f ts site xs new)) rec.counted (many_inlined by f ts xs site old new can);
        numbered = placed_above t.above by (above_function f) (above new) whole (above_all (param_vars f)) (above f.body) (above_all P) (above inner) rec.numbered in_new refl (vars_up by (param_vars f)) (block_up by f.body) in_params in_body;
        keeps = three_most (above_all ts) (above_all xs) (above old) whole in_targets in_args (trans (above old) (above new) whole rec.keeps in_new);
      }

  mutual
    pub sized : {s t : Growth} {b c : BlockTerm} → BlockInlined core CanInline s b c t → Sized s t (many c) (above b) (above c)
    sized (ends {s = s} {xs = xs}) = nothing s (above_all xs) 0
    sized (placed {s = s} {t = t} {f = f} {ts = ts} {xs = xs} {site = site} {rest = rest} {new = new} i fits can d) = placed_sized s t f ts xs site rest new can (sized d)
    sized (kept {s = s} {m = m} {t = t} {xs = xs} {r = r} {q = q} {rest = rest} {new = new} d e) =
        let both = sized_both s m t (many_right q) (many new) (above_right r) (above rest) (above_right q) (above new) (sized_right d) (sized e) in
        sized_one s t (many_right q + many new) (max (above_all xs) (max (above_right r) (above rest))) (max (above_all xs) (max (above_right q) (above new)))
        (sized_more s t (many_right q + many new) (above_all xs) (max (above_right r) (above rest)) (max (above_right q) (above new)) both)

    sized_right : {s t : Growth} {b c : RightTerm} → RightInlined core CanInline s b c t → Sized s t (many_right c) (above_right b) (above_right c)
    sized_right (plain {s = s} {p = p}) = nothing s (above_all (plain_uses p)) 0
    sized_right (left {s = s} {xs = xs} l) = nothing s (above_all xs) 0
    sized_right (branches {s = s} {m = m} {t = t} {x = x} {a = a} {b = b} {c = c} {d = v} d e) =
        sized_more s t (many c + many v) (suc x.0) (max (above a) (above b)) (max (above c) (above v)) (sized_both s m t (many c) (many v) (above a) (above b) (above c) (above v) (sized d) (sized e))
    sized_right (turns {s = s} {m = m} {t = t} {start = start} {params = params} {a = a} {b = b} {c = c} {d = v} d e) =
        sized_more s t (many c + many v) (above_all start) (max (above_all params) (max (above a) (above b))) (max (above_all params) (max (above c) (above v)))
        (sized_more s t (many c + many v) (above_all params) (max (above a) (above b)) (max (above c) (above v)) (sized_both s m t (many c) (many v) (above a) (above b) (above c) (above v) (sized d) (sized e)))
    sized_right (generated {s = s} {t = t} {op = op} {g = g} {h = h} d) = sized_more s t (many_gens h) (above_all (op_uses op)) (above_gens g) (above_gens h) (sized_gens d)
    sized_right (divided {s = s} {t = t} {op = op} {p = p} {q = q} d) = sized_more s t (many_parts q) (above_all (parted_uses op)) (above_parts p) (above_parts q) (sized_parts d)

    sized_gens : {s t : Growth} {b c : GensTerm} → GensInlined core CanInline s b c t → Sized s t (many_gens c) (above_gens b) (above_gens c)
    sized_gens (no_gens {s = s}) = nothing s 0 0
    sized_gens (a_gen {s = s} {m = m} {t = t} {h = h} {b = b} {c = c} {g = g} {k = k} d e) =
        let vs = h.index ∷ h.names in
        sized_more s t (many c + many_gens k) (above_head h) (max (above_all vs) (max (above b) (above_gens g))) (max (above_all vs) (max (above c) (above_gens k)))
        (sized_more s t (many c + many_gens k) (above_all vs) (max (above b) (above_gens g)) (max (above c) (above_gens k)) (sized_both s m t (many c) (many_gens k) (above b) (above_gens g) (above c) (above_gens k) (sized d) (sized_gens e)))

    sized_parts : {s t : Growth} {b c : PartsTerm} → PartsInlined core CanInline s b c t → Sized s t (many_parts c) (above_parts b) (above_parts c)
    sized_parts (no_parts {s = s}) = nothing s 0 0
    sized_parts (a_part {s = s} {m = m} {t = t} {h = h} {b = b} {c = c} {p = g} {q = k} d e) =
        sized_more s t (many c + many_parts k) (suc h.index.0) (max (above b) (above_parts g)) (max (above c) (above_parts k)) (sized_both s m t (many c) (many_parts k) (above b) (above_parts g) (above c) (above_parts k) (sized d) (sized_parts e))

-- ---- the calls that are left

higher : (a b c d : ℕ) → a ≤ b → c ≤ a - 1 + d → c ≤ b - 1 + d
higher a b c d p q = omega arith

pub still_great : (s t : Growth) (f : FunTerm) → Rises s t → TooGreat s f → TooGreat t f
still_great s t f r (inl p) = inl (let q = r.count in omega (arith, q, p))
still_great s t f r (inr p) = inr (higher s.above t.above (2 ^ 32 - 1) (greatest f) r.above p)

module _ (core : CoreTerm) (n : ℕ) (done : DoneBelow core true n) where
  later_left : (s t : Growth) → Rises s t → (g : ℕ) → IsLeft core s g → IsLeft core t g
  later_left s t r g l place f i = still_great s t f r (l place f i)

  counted_in : (a b c d e : ℕ) → 65536 < a + e → d + (a + (b + c)) ≤ d + (a + (b + c)) → 65536 < (d + (a + (b + c))) + e
  counted_in a b c d e p q = omega arith

  numbered_in : (a b c d : ℕ) → a ≤ b → c ≤ (a - 1) + d → c ≤ (b - 1) + d
  numbered_in a b c d p q = omega arith

  own_left : (s : Growth) (h : FunTerm) → LeavesLarge core h → CallsAll (IsLeft core (grown s h)) h.body
  own_left s h l =
      weaker (λ group. (place : ℕ) (k : FunTerm) → IsInstance core group place k → AreTooLarge h k) (IsLeft core (grown s h)) (λ group w place k i. go k (w place k i)) h.body l
    where
      under : above_function h ≤ s.above + above_function h
      under = omega arith

      go : (k : FunTerm) → AreTooLarge h k → TooGreat (grown s h) k
      go k (inl p) = inl (counted_in (many h.body) (length h.params) (length h.results) s.count (weight k) p (omega arith))
      go k (inr p) = inr (numbered_in (above_function h) (s.above + above_function h) (2 ^ 32 - 1) (greatest k) under p)

  module _ (May : ℕ → FunTerm → List Var → List Var → BlockTerm → Type 0) where
    mutual
      pub calls_left : {s t : Growth} {b c : BlockTerm} → BlockInlined core May s b c t → CallsAll (InlineBelow core n) b → CallsAll (IsLeft core t) c
      calls_left ends h = h
      calls_left (placed {s = s} {t = t} {place = place} {f = f} {ts = ts} {xs = xs} {site = site} {new = new} i fits may d) h =
          let lt : place < n = h.0 place f (subst (λ (places : List ℕ). StandsIn places place) (sym i.alone) (inl refl)) i.found i.inlines in
          inlined_calls (IsLeft core t) s.above f ts xs site new
          (weaker (IsLeft core (grown s f)) (IsLeft core t) (λ g l. later_left (grown s f) t (rises core May d) g l) f.body (own_left s f (done place f lt i.found i.inlines)))
          (calls_left d h.1)
      calls_left (kept {m = m} {t = t} {q = q} d e) h = (weaker_right (IsLeft core m) (IsLeft core t) (λ g l. later_left m t (rises core May e) g l) q (calls_left_right d h.0), calls_left e h.1)

      calls_left_right : {s t : Growth} {b c : RightTerm} → RightInlined core May s b c t → CallsAllRight (InlineBelow core n) b → CallsAllRight (IsLeft core t) c
      calls_left_right plain h = h
      calls_left_right (left l) h = l
      calls_left_right (branches {m = m} {t = t} {c = c} d e) h = (weaker (IsLeft core m) (IsLeft core t) (λ g l. later_left m t (rises core May e) g l) c (calls_left d h.0), calls_left e h.1)
      calls_left_right (turns {m = m} {t = t} {c = c} d e) h = (weaker (IsLeft core m) (IsLeft core t) (λ g l. later_left m t (rises core May e) g l) c (calls_left d h.0), calls_left e h.1)
      calls_left_right (generated d) h = calls_left_gens d h
      calls_left_right (divided d) h = calls_left_parts d h

      calls_left_gens : {s t : Growth} {b c : GensTerm} → GensInlined core May s b c t → CallsAllGens (InlineBelow core n) b → CallsAllGens (IsLeft core t) c
      calls_left_gens no_gens h = h
      calls_left_gens (a_gen {m = m} {t = t} {c = c} d e) h = (weaker (IsLeft core m) (IsLeft core t) (λ g l. later_left m t (rises_gens core May e) g l) c (calls_left d h.0), calls_left_gens e h.1)

      calls_left_parts : {s t : Growth} {b c : PartsTerm} → PartsInlined core May s b c t → CallsAllParts (InlineBelow core n) b → CallsAllParts (IsLeft core t) c
      calls_left_parts no_parts h = h
      calls_left_parts (a_part {m = m} {t = t} {c = c} d e) h = (weaker (IsLeft core m) (IsLeft core t) (λ g l. later_left m t (rises_parts core May e) g l) c (calls_left d h.0), calls_left_parts e h.1)

-- the calls left in a function are of functions that are too large
pub large_left : (core : CoreTerm) (f : FunTerm) (c : BlockTerm) (t : Growth) → Sized (unchanged f) t (many c) (above f.body) (above c) → CallsAll (IsLeft core t) c → LeavesLarge core (record f { body = c })
large_left core f c t size l =
    weaker (IsLeft core t) (λ group. (place : ℕ) (h : FunTerm) → IsInstance core group place h → AreTooLarge (record f { body = c }) h) (λ group w place h i. go h (w place h i)) c l
  where
    counted : (t k w : ℕ) → t ≤ 0 + k → 65536 < t + w → 65536 < k + w
    counted t k w p q = omega arith

    numbered : (t p b n k w : ℕ) → t ≤ max (max p b) n → b ≤ n → w ≤ (t - 1) + k → w ≤ (max p n - 1) + k
    numbered t p b n k w h i j = omega arith

    go : (h : FunTerm) → TooGreat t h → AreTooLarge (record f { body = c }) h
    go h (inl p) = inl (counted t.count (many c) (weight h) size.counted p)
    go h (inr p) = inr (numbered t.above (above_all (param_vars f)) (above f.body) (above c) (greatest h) (2 ^ 32 - 1) size.numbered size.keeps p)
