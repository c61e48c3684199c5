-- Bodies without faults name variables that are bound, fork known protocols and divide by positive numbers.
use Rattle.std.proofs.Common.{◌≡◌, ℕ, zero, suc, ◌+◌, ◌≤◌, not, nat_eq, List, [], ◌∷◌, ◌++◌, map, length, Option, Some, None, slice_get, unwrap_or, refl, arith}
use Rattle.std.proofs.lemmas.Bool.{eqb-false, not-true}
use Rattle.core_language.specs.Names.{Ident}
use Rattle.core_language.specs.Terms as core
use Rattle.core_language.specs.Resources as written
use Rattle.core_language.specs.Programs.{Body}
use Rattle.core_language.specs.Computing.{bare_name}
use Rattle.chan_base.specs.declared.spans.Span.{Span}
use Rattle.chan_syntax.specs.declared.linear.Part.{Part}
use Rattle.chan_syntax.specs.declared.linear.Term.{Term}
use Rattle.chan_syntax.specs.declared.operands.Supply.{Supply, Unit, Pair', Arm', Sum, Row_of-Supply, end_of-Supply, more_of-Supply}
use Rattle.chan_syntax.specs.declared.operands.Proof.{Proof}
use Rattle.chan_syntax.specs.declared.resources.Proto.{Proto}
use Rattle.chan_syntax.specs.Reading.{part_of, term_of, supply_of, supply_in, proto_of}
use Rattle.form_faults.specs.declared.sorts.Naming.TheVariants as naming
use Rattle.form_faults.specs.declared.sorts.Sort.TheVariants as sort
use Rattle.form_faults.specs.declared.sorts.Known.{Known}
use Rattle.form_faults.specs.declared.signatures.Signature.{Signature}
use Rattle.form_faults.specs.Faults.{unless}
use Rattle.form_faults.specs.Scopes.{unscoped, bind_all}
use Rattle.form_faults.specs.Terms.{name_faults, part_faults, parts_faults, term_faults, terms_faults, use_faults, ref_faults}
use Rattle.form_faults.specs.Operands.{supply_faults, supply_in_faults, supplies_faults, proof_faults, path_faults}
use Rattle.core_programs.specs.declared.nodes.Arm.{Arm}
use Rattle.core_programs.specs.declared.nodes.Node.{Node}
use Rattle.core_programs.specs.declared.nodes.Node.TheVariants as node
use Rattle.core_programs.specs.Bodies.{arms_opened, opened, opened_at, rest_within}
use Rattle.core_programs.specs.Formed.{nexts}
use Rattle.core_programs.specs.Trees.{Tree, grown_at, tree_within}
use Rattle.core_programs.specs.Passes.{call_faults, operand_faults, arm_binders, binders_at, body_faults, proto_signatures}
use Rattle.core_programs.proofs.Clean.{operands_clean, body_clean}
use Rattle.frame_laws.proofs.Tests.{faultless, none_left, none_right}
use Rattle.frame_laws.proofs.Variables.{named_variable}
use Rattle.outline_values.specs.Formed.{IsOne, NamesAre, NamesIn, SupplyNames, SuppliesNames, NamesBound, ArmsBound}
use Rattle.form_soundness.proofs.References.{ref_knows}
use Rattle.form_soundness.proofs.Scopes.{Covers, covers_more, covers_pattern, covers_patterns}

-- ---- names in operands

module _ (scope : List Known) (xs : List Ident) (covers : Covers scope xs) where
  name_is : (name : Option Ident) (span : Span) → name_faults naming.Variables scope name span ≡ [] → IsOne xs name
  name_is None span none = tt
  name_is (Some x) span none = covers x (named_variable scope x span none)

  parts_are : (span : Span) (ps : List Part) → parts_faults naming.Variables scope span ps ≡ [] → NamesAre xs (map part_of ps)
  unfolding parts_faults part_faults
  parts_are span [] none = tt
  parts_are span (p ∷ ps) none =
      let here = name_faults naming.Variables scope p.name (unwrap_or p.name_span span) in
      let there = parts_faults naming.Variables scope span ps in
      (name_is p.name (unwrap_or p.name_span span) (none_left here there none), parts_are span ps (none_right here there none))

  term_is : (t : Term) → term_faults naming.Variables scope t ≡ [] → NamesAre xs (term_of t)
  unfolding term_faults
  term_is t none = parts_are t.span t.parts none

  terms_are : (s t : Term) → term_faults naming.Variables scope s ++ term_faults naming.Variables scope t ≡ [] → NamesAre xs (term_of s) × NamesAre xs (term_of t)
  terms_are s t none =
      let first = term_faults naming.Variables scope s in
      let second = term_faults naming.Variables scope t in
      (term_is s (none_left first second none), term_is t (none_right first second none))

  names_in : (bare : Option Ident) (term : core.Term) → NamesAre xs term → NamesIn xs bare term
  names_in None term are = are
  names_in (Some x) term are = tt

  mutual
    unfolding supply_faults supply_in_faults

    supply_names : (s : Supply) → supply_faults scope s ≡ [] → SupplyNames xs (supply_of s)
    supply_names Unit none = tt
    supply_names (Pair' m first n second) none =
        let here = supply_in_faults scope first in
        let there = supply_in_faults scope second in
        (row_names first (none_left here there none), row_names second (none_right here there none))
    supply_names (Arm' i m value) none = row_names value none
    supply_names (Sum term) none = names_in (bare_name (term_of term)) (term_of term) (term_is term none)

    row_names : {m : _} (row : Row_of-Supply m) → supply_in_faults scope row ≡ [] → SupplyNames xs (supply_in row)
    row_names end_of-Supply none = tt
    row_names (more_of-Supply value rest) none = supply_names value none

  supplies_name : (values : List Supply) → supplies_faults scope values ≡ [] → SuppliesNames xs (map supply_of values)
  unfolding supplies_faults
  supplies_name [] none = tt
  supplies_name (v ∷ vs) none =
      let here = supply_faults scope v in
      let there = supplies_faults scope vs in
      (supply_names v (none_left here there none), supplies_name vs (none_right here there none))

  call_names : (funcs : List Signature) (func : Ident) (span : Span) (count : ℕ) (values : List Supply) (proof : Proof) → call_faults funcs scope func span count values proof ≡ []
      → SuppliesNames xs (map supply_of values)
  unfolding call_faults
  call_names funcs func span count values proof none =
      supplies_name values (none_left (supplies_faults scope values) (proof_faults scope proof) (none_right (use_faults funcs func span count) _ none))

positive : (n : ℕ) (span : Span) → unless (not (nat_eq n 0)) span ≡ [] → 1 ≤ n
unfolding unless
positive n span none = let other = eqb-false n 0 (not-true (nat_eq n 0) (faultless (not (nat_eq n 0)) _ [] none)) in omega (arith, other)

-- ---- bodies

-- one variable more
one_more : (name : Ident) (span : Span) (scope : List Known) (xs : List Ident) → Covers scope xs
    → Covers (bind_all scope (record { name = name; sort = sort.Variable; span = span } ∷ [])) (xs ++ name ∷ [])
one_more name span scope xs covers = covers_more (record { name = name; sort = sort.Variable; span = span } ∷ []) scope xs (name ∷ []) (λ x is. is) covers

-- one variable more, that is an integer variable too
one_more_both : (name : Ident) (span : Span) (scope : List Known) (xs : List Ident) → Covers scope xs
    → Covers (bind_all scope (record { name = name; sort = sort.Both; span = span } ∷ [])) (xs ++ name ∷ [])
one_more_both name span scope xs covers = covers_more (record { name = name; sort = sort.Both; span = span } ∷ []) scope xs (name ∷ []) (λ x is. is) covers

module _ (table : List Proto) (funcs : List Signature) where
  abbrev protos : List Signature
  protos = proto_signatures table

  -- the protocols as the core language has them
  abbrev known : List written.Proto
  known = map proto_of table

  -- the body names variables that are bound, where the list has each variable of the scope
  abbrev IsBoundIn : List Known → Body → Type 0
  IsBoundIn scope next = (xs : List Ident) → Covers scope xs → NamesBound known xs next

  arms_bound : (arms : List Arm) (scope : List Known) (xs : List Ident) (at : ℕ → Body) → Covers scope xs
      → ((turn m : ℕ) → slice_get (map (λ arm. arm.next) arms) turn ≡ Some m → IsBoundIn (bind_all scope (arm_binders (slice_get arms turn))) (at m))
      → ArmsBound known xs (arms_opened arms at)
  arms_bound [] scope xs at covers follow = tt
  arms_bound (arm ∷ arms) scope xs at covers follow =
      (follow 0 arm.next refl (xs ++ arm.pat.name ∷ []) (covers_pattern arm.pat scope xs covers), arms_bound arms scope xs at covers (λ turn m goes. follow (suc turn) m goes))

  -- the body of a node, where the bodies that follow are bound in their scopes
  node_bound : (y : Node) (scope : List Known) (at : ℕ → Body) → operand_faults protos funcs scope y ≡ []
      → ((turn m : ℕ) → slice_get (nexts y) turn ≡ Some m → IsBoundIn (bind_all scope (binders_at y turn)) (at m))
      → IsBoundIn scope (opened y at)
  unfolding operand_faults binders_at bind_all ref_faults
  node_bound (node.Let name name_at term next span) scope at none follow xs covers =
      (term_is scope xs covers term none, follow 0 next refl (xs ++ name ∷ []) (one_more name name_at scope xs covers))
  node_bound (node.Mul name name_at left right next span) scope at none follow xs covers =
      let both = terms_are scope xs covers left right none in
      (both.0, both.1, follow 0 next refl (xs ++ name ∷ []) (one_more_both name name_at scope xs covers))
  node_bound (node.Div name name_at term divisor divisor_at next span) scope at none follow xs covers =
      let here = term_faults naming.Variables scope term in
      let there = unless (not (nat_eq divisor 0)) divisor_at in
      (term_is scope xs covers term (none_left here there none), positive divisor divisor_at (none_right here there none), follow 0 next refl (xs ++ name ∷ []) (one_more_both name name_at scope xs covers))
  node_bound (node.Rem name name_at term divisor divisor_at next span) scope at none follow xs covers =
      let here = term_faults naming.Variables scope term in
      let there = unless (not (nat_eq divisor 0)) divisor_at in
      (term_is scope xs covers term (none_left here there none), positive divisor divisor_at (none_right here there none), follow 0 next refl (xs ++ name ∷ []) (one_more_both name name_at scope xs covers))
  node_bound (node.Call pat func func_at values proof next span) scope at none follow xs covers =
      (call_names scope xs covers funcs func func_at (length values) values proof none, follow 0 next refl (xs ++ pat.name ∷ []) (covers_pattern pat scope xs covers))
  node_bound (node.Tail func func_at values proof span) scope at none follow xs covers = call_names scope xs covers funcs func func_at (length values) values proof none
  node_bound (node.Fork name name_at proto func func_at values proof next span) scope at none follow xs covers =
      let used = use_faults protos proto.name proto.name_span (length proto.args) in
      let args = terms_faults naming.Either scope proto.args in
      let call = call_faults funcs scope func func_at (length values + 1) values proof in (
        ref_knows table proto (none_left used args (none_left (used ++ args) call none)),
        call_names scope xs covers funcs func func_at (length values + 1) values proof (none_right (used ++ args) call none),
        follow 0 next refl (xs ++ name ∷ []) (one_more name name_at scope xs covers),
      )
  node_bound (node.Send1 channel channel_at path path_at value proof next span) scope at none follow xs covers =
      let its_value = none_right (path_faults path path_at span) _ (none_right (unscoped naming.Variables scope channel channel_at) _ none) in
      (supply_names scope xs covers value (none_left (supply_faults scope value) _ its_value), follow 0 next refl xs covers)
  node_bound (node.Recv1 pat channel channel_at path path_at proof next span) scope at none follow xs covers =
      follow 0 next refl (xs ++ pat.name ∷ []) (covers_pattern pat scope xs covers)
  node_bound (node.Print term next span) scope at none follow xs covers = (term_is scope xs covers term none, follow 0 next refl xs covers)
  node_bound (node.If left right this other span) scope at none follow xs covers =
      let both = terms_are scope xs covers left right none in
      (both.0, both.1, follow 0 this refl xs covers, follow 1 other refl xs covers)
  node_bound (node.Split first second name name_at next span) scope at none follow xs covers =
      follow 0 next refl ((xs ++ first.name ∷ []) ++ second.name ∷ []) (covers_patterns first second scope xs covers)
  node_bound (node.Match name name_at arms span) scope at none follow xs covers = arms_bound arms scope xs at covers follow
  node_bound (node.Absurd proof span) scope at none follow xs covers = tt
  node_bound (node.Ret value proof span) scope at none follow xs covers = supply_names scope xs covers value (none_left (supply_faults scope value) _ none)

  -- the same one node deeper
  one_deeper : (at : ℕ → Body) (trees : ℕ → Tree) → ((m : ℕ) (scope : List Known) → body_faults protos funcs scope (trees m) ≡ [] → IsBoundIn scope (at m))
      → (o : Option Node) (scope : List Known) → body_faults protos funcs scope (grown_at o trees) ≡ [] → IsBoundIn scope (opened_at o at)
  one_deeper at trees bound None scope none xs covers = tt
  one_deeper at trees bound (Some y) scope none xs covers =
      node_bound y scope at (operands_clean protos funcs trees y scope none)
      (λ turn m goes. bound m (bind_all scope (binders_at y turn)) (body_clean protos funcs trees y scope turn m none goes)) xs covers

  -- a body without faults in a scope is bound in it
  pub body_bound : (depth : ℕ) (nodes : List Node) (n : ℕ) (scope : List Known) → body_faults protos funcs scope (tree_within depth nodes n) ≡ [] → IsBoundIn scope (rest_within depth nodes n)
  unfolding tree_within rest_within
  body_bound zero nodes n scope none xs covers = tt
  body_bound (suc d) nodes n scope none xs covers = one_deeper (rest_within d nodes) (tree_within d nodes) (body_bound d nodes) (slice_get nodes n) scope none xs covers
