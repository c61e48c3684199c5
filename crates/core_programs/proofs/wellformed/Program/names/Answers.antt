use Rattle.std.proofs.Common.{◌≡◌, [], Some, sym, ap, ◌∙◌, subst}
use Rattle.core_language.specs.Configurations.{names}
use Rattle.core_programs.specs.declared.nodes.Parts.{Parts}
use Rattle.core_programs.specs.Bodies.{rest}
use Rattle.core_programs.specs.Formed.{IsNumbered}
use Rattle.core_programs.specs.Uses.{uses_from, AreStarts, IsContiguous}
use Rattle.core_programs.proofs.Using.{ascending}
use Rattle.core_programs.proofs.Spans.{start_within, start_below, spanned}
use Rattle.core_programs.proofs.wellformed.Program.names.Goals as goal

pub bounds-starts-number : goal.bounds-starts-number
bounds-starts-number c =
    let numbered = subst IsNumbered c.self.view_is c.self.invariant.0.numbered in
    let known : AreStarts c.self.inside.parts.nodes (Some c.in-Some.starts) = subst (AreStarts c.self.inside.parts.nodes) c.in-Some.is c.self.invariant.3 in
    let held = subst (IsContiguous c.self.inside.parts.nodes) (sym c.as_slice-starts.ensures.value) known in
    let contiguous = subst (λ (p : Parts). IsContiguous p.nodes c.as_slice-starts.result.now) c.self.view_is held in
    start_within c.args.self.now numbered [] c.as_slice-starts.result.now contiguous c.args.number c.requires

pub has_between-requires-clause-ascending : goal.has_between-requires-clause-ascending
has_between-requires-clause-ascending c =
    let are = c.uses_of-numbers.ensures ∙ c.self.invariant.2 c.args.name.now ∙ ap (λ (p : Parts). uses_from 0 p.nodes c.args.name.now) c.self.view_is in
    ascending c.uses_of-numbers.result.now c.args.self.now.nodes c.args.name.now are

pub has_between-requires-clause-order : goal.has_between-requires-clause-order
has_between-requires-clause-order c =
    let numbered = subst IsNumbered c.self.view_is c.self.invariant.0.numbered in
    let known : AreStarts c.self.inside.parts.nodes (Some c.in-Some.starts) = subst (AreStarts c.self.inside.parts.nodes) c.in-Some.is c.self.invariant.3 in
    let held = subst (IsContiguous c.self.inside.parts.nodes) (sym c.as_slice-starts.ensures.value) known in
    let contiguous = subst (λ (p : Parts). IsContiguous p.nodes c.as_slice-starts.result.now) c.self.view_is held in
    start_below c.args.self.now numbered [] c.as_slice-starts.result.now contiguous c.args.number c.requires

pub returns-in-Some : goal.returns-in-Some
returns-in-Some c =
    let numbered = subst IsNumbered c.self.view_is c.self.invariant.0.numbered in
    let are = c.uses_of-numbers.ensures ∙ c.self.invariant.2 c.args.name.now ∙ ap (λ (p : Parts). uses_from 0 p.nodes c.args.name.now) c.self.view_is in
    let known : AreStarts c.self.inside.parts.nodes (Some c.in-Some.starts) = subst (AreStarts c.self.inside.parts.nodes) c.in-Some.is c.self.invariant.3 in
    let held = subst (IsContiguous c.self.inside.parts.nodes) (sym c.as_slice-starts.ensures.value) known in
    let contiguous = subst (λ (p : Parts). IsContiguous p.nodes c.as_slice-starts.result.now) c.self.view_is held in
    c.has_between.ensures ∙ spanned c.args.self.now numbered c.args.name.now c.as_slice-starts.result.now contiguous c.uses_of-numbers.result.now c.args.number are c.requires

pub has_use-requires-clause-ascending : goal.has_use-requires-clause-ascending
has_use-requires-clause-ascending c =
    let are = c.uses_of-numbers.ensures ∙ c.self.invariant.2 c.args.name.now ∙ ap (λ (p : Parts). uses_from 0 p.nodes c.args.name.now) c.self.view_is in
    ascending c.uses_of-numbers.result.now c.args.self.now.nodes c.args.name.now are

pub returns-in-None : goal.returns-in-None
returns-in-None c =
    let are = c.uses_of-numbers.ensures ∙ c.self.invariant.2 c.args.name.now ∙ ap (λ (p : Parts). uses_from 0 p.nodes c.args.name.now) c.self.view_is in
    subst (λ (p : Parts). c.has_use.result ≡ names (rest p.nodes c.args.number) c.args.name.now) c.parts.ensures.parts
    (c.has_use.ensures c.args.name.now (are ∙ ap (λ (p : Parts). uses_from 0 p.nodes c.args.name.now) (sym c.parts.ensures.parts)))
