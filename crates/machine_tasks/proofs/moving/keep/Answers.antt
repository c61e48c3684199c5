use Rattle.std.proofs.Common.{◌≡◌, filter, sym, ap, subst, ◌∙◌, ◌≤◌, length, arith}
use Rattle.std.proofs.lemmas.List.Elements.{All-filter}
use Rattle.core_language.specs.Configurations.{names}
use Rattle.core_programs.specs.Bodies.{rest}
use Rattle.machine_values.specs.Ends.{BindsPass, ValuePasses}
use Rattle.machine_values.specs.Reading.{env_of}
use Rattle.machine_tasks.proofs.Keeping.{sift_over, kept_binds}
use Rattle.machine_tasks.proofs.moving.keep.Goals as goal

pub returns-clause-kept : goal.returns-clause-kept
returns-clause-kept c =
    let named = names (rest c.args.program.now.nodes c.args.node) in
    let past : length c.binds.binds.items ≤ c.binds.at = omega (arith, c.binds-test.false, c.len.ensures) in
    ap env_of (sym (sift_over (λ b. named b.name) c.binds.binds.items c.binds.at past) ∙ c.binds.invariant) ∙ kept_binds named c.args.binds.now.items

pub returns-clause-ends : goal.returns-clause-ends
returns-clause-ends c = λ test passes.
    let named = names (rest c.args.program.now.nodes c.args.node) in
    let past : length c.binds.binds.items ≤ c.binds.at = omega (arith, c.binds-test.false, c.len.ensures) in
    subst (BindsPass test) (sym (sym (sift_over (λ b. named b.name) c.binds.binds.items c.binds.at past) ∙ c.binds.invariant))
    (All-filter (λ b. named b.name) (λ b. ValuePasses test b.value) c.args.binds.now.items passes)
