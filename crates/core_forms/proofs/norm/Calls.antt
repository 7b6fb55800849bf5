-- A copy calls the groups that it is a copy of, and the parts of a loop that stands for a with-loop call no other groups than its generators.
use Rattle.std.proofs.Common.{ℕ, zero, suc, List, [], ◌∷◌, sym, subst, inl, inr}
use Rattle.core_ir.specs.declared.tree.Var.{Var}
use Rattle.core_ir.specs.Renaming.{Link, Renamed, RenamedRight, RenamedGens, RenamedParts, under, under_all}
use Rattle.core_ir.specs.Terms.{BlockTerm, RightTerm, GensTerm, PartsTerm, GenHead, PartHead, Gives, Bind, Plain, NoGens, Gen, NoParts, Part}
use Rattle.core_facts.specs.calls.Nests.{CallsAll, CallsAllRight, CallsAllGens, CallsAllParts}
use Rattle.core_loops.specs.norm_steps.Genarray.{GenAt, NamedBody}
use Rattle.core_forms.proofs.norm.Made.{Made, MadeParts}

module _ (P : ℕ → Type 0) where
  mutual
    pub copy_calls : (S : Link) (b c : BlockTerm) → Renamed S b c → CallsAll P b → CallsAll P c
    copy_calls S (Gives xs) (Gives ys) h a = tt
    copy_calls S (Bind xs s r b) (Bind ys t q c) h a = (copy_right S r q h.1 a.0, copy_calls (under_all S xs ys) b c h.2 a.1)
    copy_calls S (Gives xs) (Bind ys t q c) h a = absurd h
    copy_calls S (Bind xs s r b) (Gives ys) h a = absurd h

    copy_right : (S : Link) (r q : RightTerm) → RenamedRight S r q → CallsAllRight P r → CallsAllRight P q
    copy_right S (Plain p) (Plain q) h a = tt
    copy_right S (RightTerm.If x b c) (RightTerm.If y d e) h a = (copy_calls S b d h.1 a.0, copy_calls S c e h.2 a.1)
    copy_right S (RightTerm.Loop f xs ps b c u) (RightTerm.Loop g ys qs d e w) h a =
        (copy_calls (under_all S ps qs) b d h.3 a.0, copy_calls (under_all S ps qs) c e h.4 a.1)
    copy_right S (RightTerm.Call g xs) (RightTerm.Call k ys) h a = subst P h.0 a
    copy_right S (RightTerm.With o g) (RightTerm.With p k) h a = copy_gens S g k h.1 a
    copy_right S (RightTerm.Parted f b c o p) (RightTerm.Parted f' b' c' o' q) h a = copy_parts S p q h.4 a
    copy_right S _ _ h a = absurd h

    copy_gens : (S : Link) (g k : GensTerm) → RenamedGens S g k → CallsAllGens P g → CallsAllGens P k
    copy_gens S NoGens NoGens h a = tt
    copy_gens S (Gen x b r) (Gen y c q) h a = (copy_calls (under_all (under S x.index y.index) x.names y.names) b c h.1 a.0, copy_gens S r q h.2 a.1)
    copy_gens S _ _ h a = absurd h

    copy_parts : (S : Link) (p q : PartsTerm) → RenamedParts S p q → CallsAllParts P p → CallsAllParts P q
    copy_parts S NoParts NoParts h a = tt
    copy_parts S (Part x b r) (Part y c q) h a = (copy_calls (under S x.index y.index) b c h.2 a.0, copy_parts S r q h.3 a.1)
    copy_parts S _ _ h a = absurd h

  named_calls : (S : Link) (i : Var) (j : ℕ) (xs : List Var) (body b : BlockTerm) → NamedBody S i j xs body b → CallsAll P body → CallsAll P b
  named_calls S i j [] body b h a = copy_calls S body b h a
  named_calls S i j (x ∷ xs) body b h a =
      let q = h.1.1.1.1.1 in
      subst (CallsAll P) (sym q.0) (tt, (tt, named_calls (under S x h.1.0) i (suc j) xs body h.1.1.1.1.0 q.4 a))

  gen_calls : (gens : GensTerm) (n : ℕ) (h : GenHead) (b : BlockTerm) → GenAt gens n h b → CallsAllGens P gens → CallsAll P b
  gen_calls NoGens n h b p a = absurd p
  gen_calls (Gen x y rest) zero h b p a = subst (CallsAll P) p.1 a.0
  gen_calls (Gen x y rest) (suc n) h b p a = gen_calls rest n h b p a.1

  made_calls : (axes : ℕ) (v : Var) (gens : GensTerm) (h : PartHead) (b : BlockTerm) → Made axes v gens h b → CallsAllGens P gens → CallsAll P b
  made_calls axes v gens h b (inl c) a = named_calls (under Rattle.core_loops.specs.Steps.itself c.head.index h.index) h.index 0 c.head.names c.body b c.named (gen_calls gens c.place c.head c.body c.stands a)
  made_calls axes v gens h b (inr (inl d)) a = subst (CallsAll P) (sym d.0) tt
  made_calls axes v gens h b (inr (inr d)) a = subst (CallsAll P) (sym d.1.1.0) (tt, tt)

  pub parts_calls : (axes : ℕ) (v : Var) (gens : GensTerm) (parts : PartsTerm) → MadeParts axes v gens parts → CallsAllGens P gens → CallsAllParts P parts
  parts_calls axes v gens NoParts h a = tt
  parts_calls axes v gens (Part x b rest) h a = (made_calls axes v gens x b h.0 a, parts_calls axes v gens rest h.1 a)
