-- A copy weighs as much as what it is a copy of and has as many parted loops, and a parted loop with few parts is lighter than its with-loop.
use Rattle.std.proofs.Common.{◌≡◌, ℕ, zero, suc, ◌+◌, ◌*◌, ◌<◌, ◌≤◌, List, [], ◌∷◌, refl, sym, ap, subst, ◌∙◌, inl, inr, arith}
use Rattle.std.proofs.Math.Nat.{suc-mul, mul-le-mul_right}
use Rattle.core_ir.specs.declared.tree.Var.{Var}
use Rattle.core_ir.specs.Edits.{Ways, Edited, EditedRight, EditedGens, EditedParts, here, later, inside, in_then, in_else, in_test, in_body, in_gens, in_parts, this_gen, later_gen, this_part, later_part}
use Rattle.core_ir.specs.Renaming.{Link, Renamed, RenamedRight, RenamedGens, RenamedParts, under, under_all}
use Rattle.core_ir.specs.Terms.{BlockTerm, RightTerm, GensTerm, PartsTerm, GenHead, PartHead, Gives, Bind, Plain, NoGens, Gen, NoParts, Part}
use Rattle.core_loops.specs.Loops.{weight, weight_right, weight_gens, weight_parts, parted_in, parted_in_right, parted_in_gens, parted_in_parts}
use Rattle.core_loops.specs.norm_steps.Genarray.{GenAt, NamedBody}
use Rattle.core_forms.specs.norm.Fresh.{count_parts}
use Rattle.core_forms.proofs.norm.Made.{Made, MadeParts}

mutual
  pub weights : (S : Link) (b c : BlockTerm) → Renamed S b c → weight c ≡ weight b
  weights S (Gives xs) (Gives ys) h = refl
  weights S (Bind xs s r b) (Bind ys t q c) h = λ i. weights_right S r q h.1 i + weights (under_all S xs ys) b c h.2 i
  weights S (Gives xs) (Bind ys t q c) h = absurd h
  weights S (Bind xs s r b) (Gives ys) h = absurd h

  weights_right : (S : Link) (r q : RightTerm) → RenamedRight S r q → weight_right q ≡ weight_right r
  weights_right S (Plain p) (Plain q) h = refl
  weights_right S (RightTerm.If x a b) (RightTerm.If y c d) h = λ i. weights S a c h.1 i + weights S b d h.2 i
  weights_right S (RightTerm.Loop f xs ps a b u) (RightTerm.Loop g ys qs c d w) h = λ i. weights (under_all S ps qs) a c h.3 i + weights (under_all S ps qs) b d h.4 i
  weights_right S (RightTerm.Call g xs) (RightTerm.Call k ys) h = refl
  weights_right S (RightTerm.With o g) (RightTerm.With p k) h = λ i. 1 + 65 * weights_gens S g k h.1 i
  weights_right S (RightTerm.Parted f b c o p) (RightTerm.Parted f' b' c' o' q) h = weights_parts S p q h.4
  weights_right S _ _ h = absurd h

  weights_gens : (S : Link) (g k : GensTerm) → RenamedGens S g k → weight_gens k ≡ weight_gens g
  weights_gens S NoGens NoGens h = refl
  weights_gens S (Gen x b r) (Gen y c q) h = λ i. weights (under_all (under S x.index y.index) x.names y.names) b c h.1 i + weights_gens S r q h.2 i
  weights_gens S _ _ h = absurd h

  weights_parts : (S : Link) (p q : PartsTerm) → RenamedParts S p q → weight_parts q ≡ weight_parts p
  weights_parts S NoParts NoParts h = refl
  weights_parts S (Part x b r) (Part y c q) h = λ i. weights (under S x.index y.index) b c h.2 i + weights_parts S r q h.3 i
  weights_parts S _ _ h = absurd h

mutual
  pub copy_parted : (S : Link) (b c : BlockTerm) → Renamed S b c → parted_in c ≡ parted_in b
  copy_parted S (Gives xs) (Gives ys) h = refl
  copy_parted S (Bind xs s r b) (Bind ys t q c) h = λ i. copy_parted_right S r q h.1 i + copy_parted (under_all S xs ys) b c h.2 i
  copy_parted S (Gives xs) (Bind ys t q c) h = absurd h
  copy_parted S (Bind xs s r b) (Gives ys) h = absurd h

  copy_parted_right : (S : Link) (r q : RightTerm) → RenamedRight S r q → parted_in_right q ≡ parted_in_right r
  copy_parted_right S (Plain p) (Plain q) h = refl
  copy_parted_right S (RightTerm.If x a b) (RightTerm.If y c d) h = λ i. copy_parted S a c h.1 i + copy_parted S b d h.2 i
  copy_parted_right S (RightTerm.Loop f xs ps a b u) (RightTerm.Loop g ys qs c d w) h = λ i. copy_parted (under_all S ps qs) a c h.3 i + copy_parted (under_all S ps qs) b d h.4 i
  copy_parted_right S (RightTerm.Call g xs) (RightTerm.Call k ys) h = refl
  copy_parted_right S (RightTerm.With o g) (RightTerm.With p k) h = copy_parted_gens S g k h.1
  copy_parted_right S (RightTerm.Parted f b c o p) (RightTerm.Parted f' b' c' o' q) h = ap suc (copy_parted_parts S p q h.4)
  copy_parted_right S _ _ h = absurd h

  copy_parted_gens : (S : Link) (g k : GensTerm) → RenamedGens S g k → parted_in_gens k ≡ parted_in_gens g
  copy_parted_gens S NoGens NoGens h = refl
  copy_parted_gens S (Gen x b r) (Gen y c q) h = λ i. copy_parted (under_all (under S x.index y.index) x.names y.names) b c h.1 i + copy_parted_gens S r q h.2 i
  copy_parted_gens S _ _ h = absurd h

  copy_parted_parts : (S : Link) (p q : PartsTerm) → RenamedParts S p q → parted_in_parts q ≡ parted_in_parts p
  copy_parted_parts S NoParts NoParts h = refl
  copy_parted_parts S (Part x b r) (Part y c q) h = λ i. copy_parted (under S x.index y.index) b c h.2 i + copy_parted_parts S r q h.3 i
  copy_parted_parts S _ _ h = absurd h

-- ---- a parted loop

more_in : (a b c : ℕ) → a ≤ c → a ≤ b + c
more_in a b c h = omega arith

gen_weight : (gens : GensTerm) (n : ℕ) (h : GenHead) (b : BlockTerm) → GenAt gens n h b → weight b ≤ weight_gens gens
gen_weight NoGens n h b p = absurd p
gen_weight (Gen x y rest) zero h b p = subst (λ (k : ℕ). k ≤ weight y + weight_gens rest) (ap weight p.1) (omega arith)
gen_weight (Gen x y rest) (suc n) h b p = more_in (weight b) (weight y) (weight_gens rest) (gen_weight rest n h b p)

nothing_more : (n : ℕ) → 0 + (0 + n) ≡ n
nothing_more n = omega arith

named_weight : (S : Link) (i : Var) (j : ℕ) (xs : List Var) (body b : BlockTerm) → NamedBody S i j xs body b → weight b ≡ weight body
named_weight S i j [] body b h = weights S body b h
named_weight S i j (x ∷ xs) body b h =
    let q = h.1.1.1.1.1 in
    ap weight q.0 ∙ nothing_more (weight h.1.1.1.1.0) ∙ named_weight (under S x h.1.0) i (suc j) xs body h.1.1.1.1.0 q.4

made_weight : (axes : ℕ) (v : Var) (gens : GensTerm) (h : PartHead) (b : BlockTerm) → Made axes v gens h b → weight b ≤ weight_gens gens
made_weight axes v gens h b (inl c) =
    subst (λ (k : ℕ). k ≤ weight_gens gens) (sym (named_weight _ h.index 0 c.head.names c.body b c.named)) (gen_weight gens c.place c.head c.body c.stands)
made_weight axes v gens h b (inr (inl d)) = subst (λ (k : ℕ). k ≤ weight_gens gens) (sym (ap weight d.0)) (omega arith)
made_weight axes v gens h b (inr (inr d)) = subst (λ (k : ℕ). k ≤ weight_gens gens) (sym (ap weight d.1.1.0)) (omega arith)

add_one : (a b n w : ℕ) → a ≤ w → b ≤ n * w → a + b ≤ suc n * w
add_one a b n w p q = subst (λ (k : ℕ). a + b ≤ k) (sym (suc-mul n w)) (omega (arith, p, q))

parts_weight : (axes : ℕ) (v : Var) (gens : GensTerm) (parts : PartsTerm) → MadeParts axes v gens parts → weight_parts parts ≤ count_parts parts * weight_gens gens
parts_weight axes v gens NoParts h = omega arith
parts_weight axes v gens (Part x b rest) h =
    add_one (weight b) (weight_parts rest) (count_parts rest) (weight_gens gens) (made_weight axes v gens x b h.0) (parts_weight axes v gens rest h.1)

below_with : (a n w : ℕ) → a ≤ n * w → n ≤ 64 → a < 1 + 65 * w
below_with a n w p q = let r : n * w ≤ 64 * w = mul-le-mul_right w q in omega (arith, p, r)

pub parted_weight : (axes : ℕ) (v : Var) (gens : GensTerm) (parts : PartsTerm) → MadeParts axes v gens parts → count_parts parts ≤ 64 → weight_parts parts < 1 + 65 * weight_gens gens
parted_weight axes v gens parts h few = below_with (weight_parts parts) (count_parts parts) (weight_gens gens) (parts_weight axes v gens parts h) few

-- ---- a place in a block

pub first_falls : (a b c : ℕ) → a < b → a + c < b + c
first_falls a b c h = omega arith

pub second_falls : (a b c : ℕ) → a < b → c + a < c + b
second_falls a b c h = omega arith

with_falls : (a b : ℕ) → a < b → 1 + 65 * a < 1 + 65 * b
with_falls a b h = omega arith

module _ (Facts : Type 0) (ways : Ways Facts) (Rule : Facts → BlockTerm → BlockTerm → Type 0) (rule : (k : Facts) (b c : BlockTerm) → Rule k b c → weight c < weight b) where
  mutual
    pub falls : {k : Facts} {b c : BlockTerm} → Edited Facts ways Rule k b c → weight c < weight b
    falls (here {known = k} {b = b} {c = c} h) = rule k b c h
    falls (later {r = r} {b = b} {c = c} h) = second_falls (weight c) (weight b) (weight_right r) (falls h)
    falls (inside {r = r} {q = q} {b = b} h) = first_falls (weight_right q) (weight_right r) (weight b) (falls_right h)

    falls_right : {k : Facts} {r q : RightTerm} → EditedRight Facts ways Rule k r q → weight_right q < weight_right r
    falls_right (in_then {a = a} {b = b} {c = c} h) = first_falls (weight c) (weight a) (weight b) (falls h)
    falls_right (in_else {a = a} {b = b} {c = c} h) = second_falls (weight c) (weight b) (weight a) (falls h)
    falls_right (in_test {a = a} {b = b} {c = c} h) = first_falls (weight c) (weight a) (weight b) (falls h)
    falls_right (in_body {a = a} {b = b} {c = c} h) = second_falls (weight c) (weight b) (weight a) (falls h)
    falls_right (in_gens {g = g} {h = k} h) = with_falls (weight_gens k) (weight_gens g) (falls_gens h)
    falls_right (in_parts h) = falls_parts h

    falls_gens : {k : Facts} {g c : GensTerm} → EditedGens Facts ways Rule k g c → weight_gens c < weight_gens g
    falls_gens (this_gen {b = b} {c = c} {rest = rest} h) = first_falls (weight c) (weight b) (weight_gens rest) (falls h)
    falls_gens (later_gen {b = b} {g = g} {k = k} h) = second_falls (weight_gens k) (weight_gens g) (weight b) (falls_gens h)

    falls_parts : {k : Facts} {p q : PartsTerm} → EditedParts Facts ways Rule k p q → weight_parts q < weight_parts p
    falls_parts (this_part {b = b} {c = c} {rest = rest} h) = first_falls (weight c) (weight b) (weight_parts rest) (falls h)
    falls_parts (later_part {b = b} {p = p} {q = q} h) = second_falls (weight_parts q) (weight_parts p) (weight b) (falls_parts h)
