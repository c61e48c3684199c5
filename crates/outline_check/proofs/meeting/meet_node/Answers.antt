use Rattle.std.proofs.Common.{◌≡◌, ℕ, List, All, Ok, OnOk, sym, subst}
use Rattle.core_language.specs.Programs.{Body}
use Rattle.chan_syntax.specs.Bounds.{IsBounded}
use Rattle.core_programs.specs.declared.nodes.Node.{Node}
use Rattle.core_programs.specs.declared.nodes.Arm.{Arm}
use Rattle.core_programs.specs.Bodies.{arms_opened, rest}
use Rattle.outline_language.specs.Contexts.{Context}
use Rattle.outline_language.specs.Rules.{rule_match}
use Rattle.outline_contexts.specs.Trails.{context_in}
use Rattle.outline_walk.specs.Forms.{Meets, form_at}
use Rattle.value_rules.specs.Arms.{IsTaken}
use Rattle.outline_check.specs.Settings.{setting_of}
use Rattle.unfold_laws.specs.Certs.{certs_of_node}
use Rattle.outline_check.proofs.Ruled.{bounded, both_ok}
use Rattle.outline_check.proofs.meeting.meet_node.Goals as goal

pub meet_call-requires : goal.meet_call-requires
meet_call-requires c =
    record { certs = subst (λ (x : Node). All IsBounded (certs_of_node x)) c.in-Call.is (bounded c.args.tables.now.program.now c.parts-formed.ensures.formed c.args.node.now c.requires) }

pub meet_tail-requires : goal.meet_tail-requires
meet_tail-requires c =
    record { certs = subst (λ (x : Node). All IsBounded (certs_of_node x)) c.in-Tail.is (bounded c.args.tables.now.program.now c.parts-formed.ensures.formed c.args.node.now c.requires) }

pub meet_fork-requires : goal.meet_fork-requires
meet_fork-requires c =
    record { certs = subst (λ (x : Node). All IsBounded (certs_of_node x)) c.in-Fork.is (bounded c.args.tables.now.program.now c.parts-formed.ensures.formed c.args.node.now c.requires) }

pub meet_send-requires : goal.meet_send-requires
meet_send-requires c =
    record { certs = subst (λ (x : Node). All IsBounded (certs_of_node x)) c.in-Send1.is (bounded c.args.tables.now.program.now c.parts-formed.ensures.formed c.args.node.now c.requires) }

pub meet_recv-requires : goal.meet_recv-requires
meet_recv-requires c =
    record { certs = subst (λ (x : Node). All IsBounded (certs_of_node x)) c.in-Recv1.is (bounded c.args.tables.now.program.now c.parts-formed.ensures.formed c.args.node.now c.requires) }

pub meet_absurd-requires : goal.meet_absurd-requires
meet_absurd-requires c =
    subst (λ (x : Node). All IsBounded (certs_of_node x)) c.in-Absurd.is (bounded c.args.tables.now.program.now c.parts-formed.ensures.formed c.args.node.now c.requires)

pub meet_ret-requires : goal.meet_ret-requires
meet_ret-requires c =
    record { certs = subst (λ (x : Node). All IsBounded (certs_of_node x)) c.in-Ret.is (bounded c.args.tables.now.program.now c.parts-formed.ensures.formed c.args.node.now c.requires) }

pub returns-in-Match-clause-ok : goal.returns-in-Match-clause-ok
returns-in-Match-clause-ok c =
    let s = setting_of c.args.tables.now c.args.own.now in
    let old = context_in c.args.ctx.now in
    let new = context_in c.meet_match.new.ctx in
    subst (λ (x : Node). OnOk c.meet_match.result (Meets s old new (form_at s x))) (sym c.in-Match.is)
    (subst (λ (arms : List Arm). OnOk c.meet_match.result (IsTaken old c.in-Match.name new × ((each : List Context) × (rule_match old c.in-Match.name (arms_opened arms (rest s.parts.nodes)) ≡ Ok each))))
    c.as_slice-in-Match.ensures
    (both_ok _ (λ (at : ℕ → Body). (each : List Context) × (rule_match old c.in-Match.name (arms_opened c.as_slice-in-Match.result.now at) ≡ Ok each))
    c.meet_match.result (rest s.parts.nodes) c.meet_match.ensures.taken c.meet_match.ensures.ok))
