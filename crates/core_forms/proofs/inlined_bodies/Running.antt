-- A block with calls inlined means what it meant.
use Rattle.std.proofs.Common.{◌≡◌, ℕ, List, [], ◌∷◌, map, refl, sym, subst, ◌∙◌, inl}
use Rattle.sac_base.specs.declared.base.Base.TheVariants.{Int}
use Rattle.sac_base.specs.Arrays.{vector}
use Rattle.sac_base.specs.Outcomes.{and_then, choose}
use Rattle.sac_base.specs.Parts.{condition}
use Rattle.sac_base.specs.WithLoops.{with_value}
use Rattle.sac_base.specs.declared.site.Site.{Site}
use Rattle.core_ir.specs.declared.tree.Var.{Var}
use Rattle.core_ir.specs.Meaning.{CallMeaning, bind, bind_all, first, one, loop_value, parted_value, generator, operation, with_index, run, right_value, generators, cells}
use Rattle.core_ir.specs.Outcome.{RunMeaning, param_types, param_vars, call_by, run_inline}
use Rattle.core_ir.specs.Terms.{BlockTerm, RightTerm, GensTerm, PartsTerm, LetTerm, FunTerm, CoreTerm, chain}
use Rattle.core_facts.specs.calls.Nests.{CallsAll, CallsAllRight, CallsAllGens, CallsAllParts, StandsIn, InlineBelow, CallsBelow}
use Rattle.core_subst.specs.copy.Mapped.{raised, mapped}
use Rattle.core_forms.specs.inlining.Inlined.{bindings, results, checks, inlined, CanInline}
use Rattle.core_forms.proofs.inlining.Calls.{inlined_call}
use Rattle.core_forms.specs.declared.inlined_bodies.growth.Growth.{Growth}
use Rattle.core_forms.specs.inlined_bodies.Inlining.{BlockInlined, RightInlined, GensInlined, PartsInlined, ends, placed, kept, plain, left, branches, turns, generated, divided, no_gens, a_gen, no_parts, a_part}

module _ (calls : CallMeaning) (count : ℕ) where
  -- what follows bindings may be changed
  behind : (ls : List LetTerm) (b c : BlockTerm) → run calls count b ≡ run calls count c → run calls count (chain ls b) ≡ run calls count (chain ls c)
  behind [] b c p = p
  behind (l ∷ ls) b c p = λ i e. and_then (right_value calls count l.right l.site e) (λ vs. behind ls b c p i (bind_all e l.targets vs))

module _ (core : CoreTerm) (count : ℕ) (outer : RunMeaning) (backward : CallsBelow core) (nest : ℕ) where
  abbrev calls : CallMeaning
  calls = call_by core outer (run_inline core count outer nest)

  -- the order of the bindings of an inlined call
  behind_call : (by : ℕ) (f : FunTerm) (ts xs : List Var) (s : Site) (b c : BlockTerm) → run calls count b ≡ run calls count c → run calls count (inlined by f ts s xs b) ≡ run calls count (inlined by f ts s xs c)
  behind_call by f ts xs s b c p =
      let body = mapped (raised by) f.body in
      let end = checks f.ends ts f.results (results body) in
      behind calls count (checks s (map (raised by) (param_vars f)) (param_types f) xs) (chain (bindings body) (chain end b)) (chain (bindings body) (chain end c))
      (behind calls count (bindings body) (chain end b) (chain end c) (behind calls count end b c p))

  mutual
    pub running : {s t : Growth} {b c : BlockTerm} → BlockInlined core CanInline s b c t → CallsAll (InlineBelow core nest) b → run calls count b ≡ run calls count c
    running ends h = refl
    running (placed {s = s} {group = group} {place = place} {f = f} {ts = ts} {xs = xs} {site = site} {rest = rest} {new = new} i fits can d) h =
        sym (λ j e. inlined_call core count outer backward nest s.above group place f ts xs site rest e i.alone i.found i.inlines (h.0 place f (subst (λ (places : List ℕ). StandsIn places place) (sym i.alone) (inl refl)) i.found i.inlines) can j)
        ∙ behind_call s.above f ts xs site rest new (running d h.1)
    running (kept {xs = xs} {site = site} {q = q} {rest = rest} d e) h =
        (λ i env. and_then (running_right d h.0 i site env) (λ vs. run calls count rest (bind_all env xs vs)))
        ∙ (λ i env. and_then (right_value calls count q site env) (λ vs. running e h.1 i (bind_all env xs vs)))

    running_right : {s t : Growth} {r q : RightTerm} → RightInlined core CanInline s r q t → CallsAllRight (InlineBelow core nest) r → right_value calls count r ≡ right_value calls count q
    running_right plain h = refl
    running_right (left l) h = refl
    running_right (branches {x = x} d e) h = λ i s env. choose s (condition (env x)) (running d h.0 i env) (running e h.1 i env)
    running_right (turns {first = f} {start = start} {params = params} {u = u} d e) h =
        λ i s env. loop_value f count s u (λ vs. first (running d h.0 i (bind_all env params vs))) (λ vs. running e h.1 i (bind_all env params vs)) (map env start)
    running_right (generated {op = op} d) h = λ i s env. one (with_value (running_gens d h i env) (operation op s env))
    running_right (divided {frame = f} {base = t} {cell = cell} {op = op} d) h = λ i s env. one (parted_value f t cell op (running_parts d h i env) s env)

    running_gens : {s t : Growth} {r q : GensTerm} → GensInlined core CanInline s r q t → CallsAllGens (InlineBelow core nest) r → generators calls count r ≡ generators calls count q
    running_gens no_gens h = refl
    running_gens (a_gen {h = g} d e) h = λ i env. generator g (λ index. first (running d h.0 i (with_index env g index))) env ∷ running_gens e h.1 i env

    running_parts : {s t : Growth} {r q : PartsTerm} → PartsInlined core CanInline s r q t → CallsAllParts (InlineBelow core nest) r → cells calls count r ≡ cells calls count q
    running_parts no_parts h = refl
    running_parts (a_part {h = g} d e) h =
        λ i env. record { grid = g.grid; site = g.site; cell = λ index. first (running d h.0 i (bind env g.index (vector Int index))) } ∷ running_parts e h.1 i env
