-- What a body without faults needs is variables of its scope.
use Rattle.std.proofs.Common.{◌≡◌, ℕ, zero, suc, Bool, true, false, not, ◌&&◌, ◌||◌, List, [], ◌∷◌, ◌++◌, map, length, ◌+◌, Option, Some, None, slice_get, unwrap_or, refl, sym, subst}
use Rattle.std.proofs.lemmas.Bool.{or_parts, or_from}
use Rattle.core_language.specs.Names.{Ident, same}
use Rattle.core_language.specs.Programs.{Body}
use Rattle.core_language.specs.Configurations.{is_name, in_term, in_supply, in_supplies}
use Rattle.chan_base.specs.declared.spans.Span.{Span}
use Rattle.chan_syntax.specs.declared.linear.Part.{Part}
use Rattle.chan_syntax.specs.declared.linear.Term.{Term}
use Rattle.chan_syntax.specs.declared.operands.Supply.{Supply, Unit, Pair', Arm', Sum, Row_of-Supply, end_of-Supply, more_of-Supply}
use Rattle.chan_syntax.specs.Reading.{part_of, term_of, supply_of, supply_in}
use Rattle.form_faults.specs.declared.sorts.Naming.TheVariants as naming
use Rattle.form_faults.specs.declared.sorts.Known.{Known}
use Rattle.form_faults.specs.declared.signatures.Signature.{Signature}
use Rattle.form_faults.specs.Scopes.{unscoped, Binder, bind_all}
use Rattle.form_faults.specs.Terms.{name_faults, part_faults, parts_faults, term_faults, use_faults, ref_faults}
use Rattle.form_faults.specs.Operands.{supply_faults, supply_in_faults, supplies_faults, path_faults, pat_binders}
use Rattle.core_programs.specs.declared.nodes.Arm.{Arm}
use Rattle.core_programs.specs.declared.nodes.Node.{Node}
use Rattle.core_programs.specs.declared.nodes.Node.TheVariants as node
use Rattle.core_programs.specs.Bodies.{arms_opened, opened, opened_at, rest_within}
use Rattle.core_programs.specs.Formed.{nexts}
use Rattle.core_programs.specs.Trees.{Tree, grown_at, tree_within}
use Rattle.core_programs.specs.Passes.{call_faults, operand_faults, arm_binders, binders_at, body_faults}
use Rattle.core_programs.proofs.Clean.{operands_clean, body_clean}
use Rattle.frame_laws.specs.Needs.{needs, arms_need}
use Rattle.frame_laws.proofs.Tests.{same_is, either, past, none_left, none_right}
use Rattle.frame_laws.proofs.Variables.{IsVariable, named_variable, was_variable, binds, binds-pattern, binds-append}

-- ---- names in operands

same_variable : (scope : List Known) (x y : Ident) (span : Span) → unscoped naming.Variables scope y span ≡ [] → same x y ≡ true → IsVariable scope x
same_variable scope x y span none is = subst (IsVariable scope) (sym (same_is x y is)) (named_variable scope y span none)

in_name : (scope : List Known) (name : Option Ident) (span : Span) (x : Ident) → name_faults naming.Variables scope name span ≡ [] → is_name x name ≡ true → IsVariable scope x
in_name scope None span x none is = cc
in_name scope (Some y) span x none is = same_variable scope x y span none is

in_parts : (scope : List Known) (span : Span) (parts : List Part) (x : Ident) → parts_faults naming.Variables scope span parts ≡ [] → in_term x (map part_of parts) ≡ true → IsVariable scope x
unfolding parts_faults part_faults
in_parts scope span [] x none is = cc
in_parts scope span (p ∷ ps) x none is =
    let here = name_faults naming.Variables scope p.name (unwrap_or p.name_span span) in
    let there = parts_faults naming.Variables scope span ps in
    either (is_name x p.name) (in_term x (map part_of ps))
    (in_name scope p.name (unwrap_or p.name_span span) x (none_left here there none))
    (in_parts scope span ps x (none_right here there none))
    is

in_a_term : (scope : List Known) (t : Term) (x : Ident) → term_faults naming.Variables scope t ≡ [] → in_term x (term_of t) ≡ true → IsVariable scope x
unfolding term_faults
in_a_term scope t x none is = in_parts scope t.span t.parts x none is

in_terms : (scope : List Known) (s t : Term) (x : Ident) → term_faults naming.Variables scope s ++ term_faults naming.Variables scope t ≡ []
    → in_term x (term_of s) || in_term x (term_of t) ≡ true → IsVariable scope x
in_terms scope s t x none is =
    let first = term_faults naming.Variables scope s in
    let second = term_faults naming.Variables scope t in
    either (in_term x (term_of s)) (in_term x (term_of t)) (in_a_term scope s x (none_left first second none)) (in_a_term scope t x (none_right first second none)) is

mutual
  unfolding supply_faults supply_in_faults

  in_a_supply : (scope : List Known) (s : Supply) (x : Ident) → supply_faults scope s ≡ [] → in_supply x (supply_of s) ≡ true → IsVariable scope x
  in_a_supply scope Unit x none is = cc
  in_a_supply scope (Pair' m first n second) x none is =
      let here = supply_in_faults scope first in
      let there = supply_in_faults scope second in
      either (in_supply x (supply_in first)) (in_supply x (supply_in second))
      (in_a_row scope first x (none_left here there none))
      (in_a_row scope second x (none_right here there none))
      is
  in_a_supply scope (Arm' i m value) x none is = in_a_row scope value x none is
  in_a_supply scope (Sum term) x none is = in_a_term scope term x none is

  in_a_row : {m : _} (scope : List Known) (row : Row_of-Supply m) (x : Ident) → supply_in_faults scope row ≡ [] → in_supply x (supply_in row) ≡ true → IsVariable scope x
  in_a_row scope end_of-Supply x none is = cc
  in_a_row scope (more_of-Supply value rest) x none is = in_a_supply scope value x none is

in_values : (scope : List Known) (values : List Supply) (x : Ident) → supplies_faults scope values ≡ [] → in_supplies x (map supply_of values) ≡ true → IsVariable scope x
unfolding supplies_faults
in_values scope [] x none is = cc
in_values scope (v ∷ vs) x none is =
    let here = supply_faults scope v in
    let there = supplies_faults scope vs in
    either (in_supply x (supply_of v)) (in_supplies x (map supply_of vs)) (in_a_supply scope v x (none_left here there none)) (in_values scope vs x (none_right here there none)) is

-- ---- names that are bound

-- what is needed behind binders, and isn't what they bind as a variable
behind : (scope : List Known) (bs : List Binder) (x : Ident) (more bound : Bool) → (bound ≡ false → binds bs x ≡ false) → (more ≡ true → IsVariable (bind_all scope bs) x)
    → more && not bound ≡ true → IsVariable scope x
behind scope bs x more bound others go = past more bound (λ is other. was_variable bs scope x (others other) (go is))

-- one name alone is bound
alone : (b : Bool) → b ≡ false → b || false ≡ false
alone b other = or_from b false other refl

-- what the arms of a match need
arms_scoped : (arms : List Arm) (scope : List Known) (at : ℕ → Body) (x : Ident)
    → ((turn m : ℕ) → slice_get (map (λ arm. arm.next) arms) turn ≡ Some m → needs (at m) x ≡ true → IsVariable (bind_all scope (arm_binders (slice_get arms turn))) x)
    → arms_need (arms_opened arms at) x ≡ true → IsVariable scope x
arms_scoped [] scope at x follow is = cc
arms_scoped (arm ∷ arms) scope at x follow is =
    either (needs (at arm.next) x && not (same arm.pat.name x)) (arms_need (arms_opened arms at) x)
    (behind scope (pat_binders arm.pat) x (needs (at arm.next) x) (same arm.pat.name x) (binds-pattern arm.pat x) (follow 0 arm.next refl))
    (arms_scoped arms scope at x (λ turn m goes. follow (suc turn) m goes))
    is

module _ (protos funcs : List Signature) where
  -- what the body of a node needs, where the bodies that follow need variables of their scopes
  node_scoped : (y : Node) (scope : List Known) (at : ℕ → Body) (x : Ident) → operand_faults protos funcs scope y ≡ []
      → ((turn m : ℕ) → slice_get (nexts y) turn ≡ Some m → needs (at m) x ≡ true → IsVariable (bind_all scope (binders_at y turn)) x)
      → needs (opened y at) x ≡ true → IsVariable scope x
  unfolding operand_faults call_faults binders_at bind_all
  node_scoped (node.Let name name_at term next span) scope at x none follow =
      either (in_term x (term_of term)) (needs (at next) x && not (same name x))
      (in_a_term scope term x none)
      (behind scope (binders_at (node.Let name name_at term next span) 0) x (needs (at next) x) (same name x) (alone (same name x)) (follow 0 next refl))
  node_scoped (node.Mul name name_at left right next span) scope at x none follow =
      either (in_term x (term_of left) || in_term x (term_of right)) (needs (at next) x && not (same name x))
      (in_terms scope left right x none)
      (behind scope (binders_at (node.Mul name name_at left right next span) 0) x (needs (at next) x) (same name x) (alone (same name x)) (follow 0 next refl))
  node_scoped (node.Div name name_at term divisor divisor_at next span) scope at x none follow =
      either (in_term x (term_of term)) (needs (at next) x && not (same name x))
      (in_a_term scope term x (none_left (term_faults naming.Variables scope term) _ none))
      (behind scope (binders_at (node.Div name name_at term divisor divisor_at next span) 0) x (needs (at next) x) (same name x) (alone (same name x)) (follow 0 next refl))
  node_scoped (node.Rem name name_at term divisor divisor_at next span) scope at x none follow =
      either (in_term x (term_of term)) (needs (at next) x && not (same name x))
      (in_a_term scope term x (none_left (term_faults naming.Variables scope term) _ none))
      (behind scope (binders_at (node.Rem name name_at term divisor divisor_at next span) 0) x (needs (at next) x) (same name x) (alone (same name x)) (follow 0 next refl))
  node_scoped (node.Call pat func func_at values proof next span) scope at x none follow =
      either (in_supplies x (map supply_of values)) (needs (at next) x && not (same pat.name x))
      (in_values scope values x (none_left (supplies_faults scope values) _ (none_right (use_faults funcs func func_at (length values)) _ none)))
      (behind scope (pat_binders pat) x (needs (at next) x) (same pat.name x) (binds-pattern pat x) (follow 0 next refl))
  node_scoped (node.Tail func func_at values proof span) scope at x none follow =
      in_values scope values x (none_left (supplies_faults scope values) _ (none_right (use_faults funcs func func_at (length values)) _ none))
  node_scoped (node.Fork name name_at proto func func_at values proof next span) scope at x none follow =
      let called = none_right (ref_faults protos scope proto) _ none in
      either (in_supplies x (map supply_of values)) (needs (at next) x && not (same name x))
      (in_values scope values x (none_left (supplies_faults scope values) _ (none_right (use_faults funcs func func_at (length values + 1)) _ called)))
      (behind scope (binders_at (node.Fork name name_at proto func func_at values proof next span) 0) x (needs (at next) x) (same name x) (alone (same name x)) (follow 0 next refl))
  node_scoped (node.Send1 channel channel_at path path_at value proof next span) scope at x none follow =
      let its_channel = unscoped naming.Variables scope channel channel_at in
      let its_value = none_right (path_faults path path_at span) _ (none_right its_channel _ none) in
      either (same x channel || in_supply x (supply_of value)) (needs (at next) x)
      (either (same x channel) (in_supply x (supply_of value))
      (same_variable scope x channel channel_at (none_left its_channel _ none))
      (in_a_supply scope value x (none_left (supply_faults scope value) _ its_value)))
      (follow 0 next refl)
  node_scoped (node.Recv1 pat channel channel_at path path_at proof next span) scope at x none follow =
      either (same x channel) (needs (at next) x && not (same pat.name x))
      (same_variable scope x channel channel_at (none_left (unscoped naming.Variables scope channel channel_at) _ none))
      (behind scope (pat_binders pat) x (needs (at next) x) (same pat.name x) (binds-pattern pat x) (follow 0 next refl))
  node_scoped (node.Print term next span) scope at x none follow =
      either (in_term x (term_of term)) (needs (at next) x) (in_a_term scope term x none) (follow 0 next refl)
  node_scoped (node.If left right this other span) scope at x none follow =
      either (in_term x (term_of left) || in_term x (term_of right)) (needs (at this) x || needs (at other) x)
      (in_terms scope left right x none)
      (either (needs (at this) x) (needs (at other) x) (follow 0 this refl) (follow 1 other refl))
  node_scoped (node.Split one two name name_at next span) scope at x none follow =
      either (same x name) (needs (at next) x && not (same one.name x || same two.name x))
      (same_variable scope x name name_at none)
      (behind scope (pat_binders one ++ pat_binders two) x (needs (at next) x) (same one.name x || same two.name x)
      (λ others. let both = or_parts (same one.name x) (same two.name x) others in
      binds-append (pat_binders one) (pat_binders two) x (binds-pattern one x both.0) (binds-pattern two x both.1))
      (follow 0 next refl))
  node_scoped (node.Match name name_at arms span) scope at x none follow =
      either (same x name) (arms_need (arms_opened arms at) x) (same_variable scope x name name_at none) (arms_scoped arms scope at x follow)
  node_scoped (node.Absurd proof span) scope at x none follow = λ is. cc
  node_scoped (node.Ret value proof span) scope at x none follow = in_a_supply scope value x (none_left (supply_faults scope value) _ none)

  -- the same one node deeper
  one_deeper : (at : ℕ → Body) (trees : ℕ → Tree) (x : Ident)
      → ((m : ℕ) (scope : List Known) → body_faults protos funcs scope (trees m) ≡ [] → needs (at m) x ≡ true → IsVariable scope x)
      → (o : Option Node) (scope : List Known) → body_faults protos funcs scope (grown_at o trees) ≡ [] → needs (opened_at o at) x ≡ true → IsVariable scope x
  one_deeper at trees x scoped None scope none is = cc
  one_deeper at trees x scoped (Some y) scope none is =
      node_scoped y scope at x (operands_clean protos funcs trees y scope none)
      (λ turn m goes. scoped m (bind_all scope (binders_at y turn)) (body_clean protos funcs trees y scope turn m none goes)) is

  -- what the body at a number needs is variables of a scope in which it has no faults
  pub body_scoped : (depth : ℕ) (nodes : List Node) (x : Ident) (n : ℕ) (scope : List Known) → body_faults protos funcs scope (tree_within depth nodes n) ≡ []
      → needs (rest_within depth nodes n) x ≡ true → IsVariable scope x
  unfolding tree_within rest_within
  body_scoped zero nodes x n scope none is = cc
  body_scoped (suc d) nodes x n scope none is =
      one_deeper (rest_within d nodes) (tree_within d nodes) x (body_scoped d nodes x) (slice_get nodes n) scope none is
