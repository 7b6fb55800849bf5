-- Tables of needs that are closed bound how deep blocks nest.
use Rattle.std.proofs.Common.{◌≡◌, ℕ, zero, suc, ◌-◌, ◌+◌, ◌≤◌, ◌<◌, inl, inr, Bool, true, false, List, [], ◌∷◌, length, refl, ap, subst, ◌∙◌, arith}
use Rattle.std.specs.Prelude.{slice_get, slice_index, slice_index_or, cond}
use Rattle.counted_code.specs.declared.tree.CodeGen.{CodeGen}
use Rattle.counted_code.specs.declared.tree.CodePart.{CodePart}
use Rattle.counted_code.specs.View.{code_term}
use Rattle.code_nesting.specs.Promised.{AreShallowGens, AreShallowParts}
use Rattle.counted_code.specs.Pieces.{gens_term, parts_term}
use Rattle.counted_code.specs.Terms.{CodeTerm, CodeRightTerm, CodeGensTerm, CodePartsTerm, CodeFunTerm, CodeProgram, Giving, Binding, Keeping, Releasing, PlainCode, IfCode, LoopCode, CallCode, WithCode, PartedCode, NoCodeGens, GenCode, NoCodeParts, PartCode}
use Rattle.code_nesting.specs.Needs.{inlines, called_need, PlacesNeed, Needs, RightNeeds, GensNeed, PartsNeed, IsClosed, IsBound}
use Rattle.code_nesting.specs.Nested.{HasBlock, RightHasBlock, GensHaveBlock, PartsHaveBlock, HasCall, IsInstance, Nests, alone, within, in_inline_call, in_call, most_nested}

module _ (code : CodeProgram) (below here : List ℕ) where
  -- ---- the blocks and calls of a block

  gens_inner : (gs : CodeGensTerm) (u : CodeTerm) (m : ℕ) → GensNeed code below here gs m → GensHaveBlock gs u → Needs code below here u m
  gens_inner NoCodeGens u m h has = absurd has
  gens_inner (GenCode head b rest) u m h (inl is) = subst (λ (t : CodeTerm). Needs code below here t m) is h.0
  gens_inner (GenCode head b rest) u m h (inr has) = gens_inner rest u m h.1 has

  parts_inner : (ps : CodePartsTerm) (u : CodeTerm) (m : ℕ) → PartsNeed code below here ps m → PartsHaveBlock ps u → Needs code below here u m
  parts_inner NoCodeParts u m h has = absurd has
  parts_inner (PartCode head b rest) u m h (inl is) = subst (λ (t : CodeTerm). Needs code below here t m) is h.0
  parts_inner (PartCode head b rest) u m h (inr has) = parts_inner rest u m h.1 has

  right_inner : (r : CodeRightTerm) (u : CodeTerm) (m : ℕ) → RightNeeds code below here r m → RightHasBlock r u → (1 ≤ m) × Needs code below here u (m - 1)
  right_inner (PlainCode p) u m h has = absurd has
  right_inner (IfCode c a b) u m h (inl is) = (h.0, subst (λ (t : CodeTerm). Needs code below here t (m - 1)) is h.1)
  right_inner (IfCode c a b) u m h (inr is) = (h.0, subst (λ (t : CodeTerm). Needs code below here t (m - 1)) is h.2)
  right_inner (LoopCode first start params test body s) u m h (inl is) = (h.0, subst (λ (t : CodeTerm). Needs code below here t (m - 1)) is h.1)
  right_inner (LoopCode first start params test body s) u m h (inr is) = (h.0, subst (λ (t : CodeTerm). Needs code below here t (m - 1)) is h.2)
  right_inner (CallCode group xs) u m h has = absurd has
  right_inner (WithCode op gens) u m h has = (h.0, gens_inner gens u (m - 1) h.1 has)
  right_inner (PartedCode f b c op parts reuse) u m h has = (h.0, parts_inner parts u (m - 1) h.1 has)

  inner_needs : (b u : CodeTerm) (m : ℕ) → Needs code below here b m → HasBlock b u → (1 ≤ m) × Needs code below here u (m - 1)
  inner_needs (Giving xs) u m h has = absurd has
  inner_needs (Binding xs s r rest) u m h (inl has) = right_inner r u m h.0 has
  inner_needs (Binding xs s r rest) u m h (inr has) = inner_needs rest u m h.1 has
  inner_needs (Keeping x rest) u m h has = inner_needs rest u m h has
  inner_needs (Releasing x rest) u m h has = inner_needs rest u m h has

  group_needs : (b : CodeTerm) (group m : ℕ) → Needs code below here b m → HasCall b group → (1 ≤ m) × PlacesNeed code below here (slice_index_or code.groups group []) (m - 1)
  group_needs (Giving xs) group m h has = absurd has
  group_needs (Binding xs s (CallCode called args) rest) group m h (inl is) =
      subst (λ (g : ℕ). (1 ≤ m) × PlacesNeed code below here (slice_index_or code.groups g []) (m - 1)) is h.0
  group_needs (Binding xs s (CallCode called args) rest) group m h (inr has) = group_needs rest group m h.1 has
  group_needs (Binding xs s (PlainCode p) rest) group m h has = group_needs rest group m h.1 has
  group_needs (Binding xs s (IfCode c a b) rest) group m h has = group_needs rest group m h.1 has
  group_needs (Binding xs s (LoopCode first start params test body site) rest) group m h has = group_needs rest group m h.1 has
  group_needs (Binding xs s (WithCode op gens) rest) group m h has = group_needs rest group m h.1 has
  group_needs (Binding xs s (PartedCode f b c op parts reuse) rest) group m h has = group_needs rest group m h.1 has
  group_needs (Keeping x rest) group m h has = group_needs rest group m h has
  group_needs (Releasing x rest) group m h has = group_needs rest group m h has

  place_needs : (places : List ℕ) (place m k : ℕ) → PlacesNeed code below here places m → k < length places → slice_index_or places k place ≡ place
      → called_need code below here place ≤ m
  place_needs [] place m k h lt is = absurd (omega (arith, lt))
  place_needs (p ∷ ps) place m zero h lt is = subst (λ (q : ℕ). called_need code below here q ≤ m) is h.0
  place_needs (p ∷ ps) place m (suc k) h lt is = place_needs ps place m k h.1 (omega (arith, lt)) is

  -- a function that is called needs one less than the block with the call
  called : (b : CodeTerm) (group place m : ℕ) (f : CodeFunTerm) (r : Bool) → Needs code below here b m → HasCall b group → IsInstance code group place f
      → f.is_inline ≡ r → cond r (slice_index here place) (slice_index below place) + 1 ≤ m
  called b group place m f r h has of is =
      let g = group_needs b group m h has in
      let p = place_needs (slice_index_or code.groups group []) place (m - 1) of.in_group.0 g.1 of.in_group.1 of.in_group.2 in
      let e : inlines (slice_get code.functions place) ≡ r = ap inlines of.is_there ∙ is in
      let q : cond r (slice_index here place) (slice_index below place) ≤ m - 1 =
      subst (λ (x : Bool). cond x (slice_index here place) (slice_index below place) ≤ m - 1) e p in
      omega (arith, q, g.0)

  -- ---- a level

  pub nested : IsClosed code below here → (level : ℕ) → ((k : ℕ) → level ≡ suc k → IsBound code k below) → (b : CodeTerm) (n m : ℕ)
      → Nests code level b n → m ≤ most_nested → Needs code below here b m → n ≤ m
  nested closed level lower b n m alone small h = omega arith
  nested closed level lower b n m (within {n = k} {inner = u} has d) small h =
      let i = inner_needs b u m h has in
      let q = nested closed level lower u k (m - 1) d (omega (arith, small)) i.1 in
      omega (arith, q, i.0)
  nested closed level lower b n m (in_inline_call {n = k} {group = group} {place = place} {f = f} has of is d) small h =
      let c = called b group place m f true h has of is in
      let s : slice_index here place ≤ most_nested = omega (arith, c, small) in
      let q = nested closed level lower f.body k (slice_index here place) d s (closed place f of.is_there s) in
      omega (arith, q, c)
  nested closed level lower b n m (in_call {level = l} {n = k} {group = group} {place = place} {f = f} has of is d) small h =
      let c = called b group place m f false h has of is in
      let s : slice_index below place ≤ most_nested = omega (arith, c, small) in
      let q = lower l refl place k f of.is_there d s in
      omega (arith, q, c)

  pub level_bound : IsClosed code below here → (level : ℕ) → ((k : ℕ) → level ≡ suc k → IsBound code k below) → IsBound code level here
  level_bound closed level lower place n f is d small = nested closed level lower f.body n (slice_index here place) d small (closed place f is small)

-- ---- all levels, where one more changes nothing
module _ (code : CodeProgram) (needs : List ℕ) (closed : IsClosed code needs needs) where
  pub all_bound : (level : ℕ) → IsBound code level needs
  all_bound zero = level_bound code needs needs closed zero (λ k is. absurd (omega (arith, is)))
  all_bound (suc l) =
      level_bound code needs needs closed (suc l)
      (λ k is. subst (λ (x : ℕ). IsBound code x needs) (let q : l ≡ k = omega (arith, is) in q) (all_bound l))

-- ---- what nests where calls go less deep nests where they go deeper

pub deeper : (code : CodeProgram) (level : ℕ) (b : CodeTerm) (n : ℕ) → Nests code level b n → Nests code (suc level) b n
deeper code level b n alone = alone
deeper code level b n (within {n = k} {inner = u} has d) = within has (deeper code level u k d)
deeper code level b n (in_inline_call {n = k} {f = f} has of is d) = in_inline_call has of is (deeper code level f.body k d)
deeper code level b n (in_call {level = l} {n = k} {f = f} has of is d) = in_call has of is (deeper code l f.body k d)

-- ---- blocks of which the functions that they call have bounds

module _ (code : CodeProgram) (needs : List ℕ) where
  pub bounded : (level : ℕ) → IsBound code level needs → (b : CodeTerm) (n m : ℕ) → Nests code level b n → m ≤ most_nested → Needs code needs needs b m → n ≤ m
  bounded level bound b n m alone small h = omega arith
  bounded level bound b n m (within {n = k} {inner = u} has d) small h =
      let i = inner_needs code needs needs b u m h has in
      let q = bounded level bound u k (m - 1) d (omega (arith, small)) i.1 in
      omega (arith, q, i.0)
  bounded level bound b n m (in_inline_call {n = k} {group = group} {place = place} {f = f} has of is d) small h =
      let c = called code needs needs b group place m f true h has of is in
      let q = bound place k f of.is_there d (omega (arith, c, small)) in
      omega (arith, q, c)
  bounded level bound b n m (in_call {level = l} {n = k} {group = group} {place = place} {f = f} has of is d) small h =
      let c = called code needs needs b group place m f false h has of is in
      let q = bound place k f of.is_there (deeper code l f.body k d) (omega (arith, c, small)) in
      omega (arith, q, c)

  pub gens_shallow : (level : ℕ) → IsBound code level needs → (gs : List CodeGen) (m : ℕ) → m ≤ most_nested → GensNeed code needs needs (gens_term gs) m → AreShallowGens code level gs
  gens_shallow level bound [] m small h k d lt n nests = absurd (omega (arith, lt))
  gens_shallow level bound (g ∷ gs) m small h zero d lt n nests = let q = bounded level bound (code_term g.body) n m nests small h.0 in omega (arith, q, small)
  gens_shallow level bound (g ∷ gs) m small h (suc k) d lt n nests = gens_shallow level bound gs m small h.1 k d (omega (arith, lt)) n nests

  pub parts_shallow : (level : ℕ) → IsBound code level needs → (ps : List CodePart) (m : ℕ) → m ≤ most_nested → PartsNeed code needs needs (parts_term ps) m → AreShallowParts code level ps
  parts_shallow level bound [] m small h k d lt n nests = absurd (omega (arith, lt))
  parts_shallow level bound (p ∷ ps) m small h zero d lt n nests = let q = bounded level bound (code_term p.body) n m nests small h.0 in omega (arith, q, small)
  parts_shallow level bound (p ∷ ps) m small h (suc k) d lt n nests = parts_shallow level bound ps m small h.1 k d (omega (arith, lt)) n nests
