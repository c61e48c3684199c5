use Rattle.std.proofs.Common.{int_le, if◌then◌else◌, sym, ap, ◌∙◌}
use Rattle.core_language.specs.Computing.{machine, value_of, sum_of, supplied}
use Rattle.core_language.specs.Acts.{act_at, at, bound, on_pair, on_sum, chosen}
use Rattle.core_language.specs.Acts as act
use Rattle.core_language.specs.Programs.{arm_at}
use Rattle.chan_syntax.specs.Reading.{term_of, supply_of}
use Rattle.core_programs.specs.Bodies.{arms_opened, opened}
use Rattle.std.specs.Option.{option_map}
use Rattle.machine_values.specs.Reading.{env_of, value_as}
use Rattle.machine_values.specs.Troubles.{done_of}
use Rattle.machine_tasks.specs.Kinds.{Silent, Send, kind_as, kind_of, kind_after, kind_at_end}
use Rattle.machine_tasks.proofs.ActKinds.{sends, chooses}
use Rattle.machine_tasks.proofs.acts.act_at.Goals as goal

pub returns-in-Send1 : goal.returns-in-Send1
returns-in-Send1 c = λ program forks rest callers last.
    let env = env_of c.args.binds.now in
    c.after-in-Send1.ensures ∙ ap (λ m. kind_after m (kind_as c.at_end.result)) c.weighed.ensures
    ∙ ap (kind_after (done_of (supplied machine env (supply_of c.in-Send1.value)))) (c.at_end.ensures ∙ ap (λ o. kind_at_end o Send) c.lookup.ensures.value)
    ∙ sends (supplied machine env (supply_of c.in-Send1.value)) (value_of env c.in-Send1.channel) (λ v channel. at (rest c.in-Send1.next) env callers)
    ∙ ap (λ x. kind_of (act_at machine program c.args.name.now forks (opened x rest) env callers)) (sym c.in-Send1.is)

pub returns-in-If : goal.returns-in-If
returns-in-If c = λ program forks rest callers last.
    let env = env_of c.args.binds.now in
    c.after_number-in-If-2.ensures ∙ ap (λ m. kind_after m (kind_as c.after_number-in-If.result)) c.sum-in-If.ensures
    ∙ ap (kind_after (sum_of machine env (term_of c.in-If.left))) (c.after_number-in-If.ensures ∙ ap (λ u. kind_after u Silent) c.sum-in-If-2.ensures)
    ∙ chooses (sum_of machine env (term_of c.in-If.left)) (sum_of machine env (term_of c.in-If.right)) (λ a b. at (if int_le a b then rest c.in-If.yes else rest c.in-If.no) env callers)
    ∙ ap (λ x. kind_of (act_at machine program c.args.name.now forks (opened x rest) env callers)) (sym c.in-If.is)

pub returns-in-Split : goal.returns-in-Split
returns-in-Split c = λ program forks rest callers last.
    let env = env_of c.args.binds.now in
    let go = λ (a b : _). at (rest c.in-Split.next) (bound (bound env c.in-Split.first.name a) c.in-Split.second.name b) callers in
    c.at_pair.ensures go ∙ ap (λ o. kind_of (on_pair o (λ a b. act.Silent (go a b)))) c.lookup-in-Split.ensures.value
    ∙ ap (λ x. kind_of (act_at machine program c.args.name.now forks (opened x rest) env callers)) (sym c.in-Split.is)

pub returns-in-Match : goal.returns-in-Match
returns-in-Match c = λ program forks rest callers last.
    let env = env_of c.args.binds.now in
    c.at_sum.ensures rest env callers
    ∙ ap (λ arms. kind_of (on_sum (option_map (λ v. value_as v.now) c.lookup-in-Match.result) (λ i v. chosen (arm_at (arms_opened arms rest) i) env callers v))) c.as_slice-in-Match.ensures
    ∙ ap (λ o. kind_of (on_sum o (λ i v. chosen (arm_at (arms_opened c.in-Match.arms rest) i) env callers v))) c.lookup-in-Match.ensures.value
    ∙ ap (λ x. kind_of (act_at machine program c.args.name.now forks (opened x rest) env callers)) (sym c.in-Match.is)
