use Rattle.std.proofs.Common.{◌≡◌, List, [], ◌∷◌, ◌++◌, length, Some, None, sym, ap, subst, ◌∙◌}
use Rattle.std.specs.Ordering.{nat_cmp}
use Rattle.std.specs.Cmp.Lexicographic.{slice_cmp}
use Rattle.std.specs.BTreeMap.{Updates}
use Rattle.std.specs.FinMap.{from_entries, get, insert}
use Rattle.core_language.specs.Names.{Name}
use Rattle.machine_tasks.specs.declared.tasks.Task.{Task}
use Rattle.task_tables.specs.Numbered.{IsTable, rows_of}
use Rattle.task_tables.proofs.Indexed.{number_in, table_more, unnumbered}
use Rattle.task_tables.proofs.Rows.{row_added}
use Rattle.task_tables.proofs.tables.TaskTable.add.Goals as goal

pub invariant_of-self-2 : goal.invariant_of-self-2
invariant_of-self-2 c =
    let names = c.self.inside.names.items in
    let tasks = c.self.inside.tasks.items in
    let p = c.args.task.name in
    let names_are : c.push_reserved.new.self.items ≡ names ++ p ∷ [] = c.push_reserved.ensures.items ∙ ap (λ (ns : List Name). ns ++ c.in_ok-name.name ∷ []) c.reserve.ensures.items
    ∙ ap (λ (q : Name). names ++ q ∷ []) (c.in_ok-name.ensures ∙ c.name.ensures) in
    let tasks_are : c.push_reserved-2.new.self.items ≡ tasks ++ c.args.task ∷ [] = c.push_reserved-2.ensures.items ∙ ap (λ (ts : List Task). ts ++ c.args.task ∷ []) c.reserve-2.ensures.items in
    let numbers = c.self.inside.numbers in
    let later = c.insert.new.self in
    let fresh : number_in numbers p ≡ None = unnumbered names numbers c.self.invariant.numbered tasks p c.self.invariant.as_many (ap (λ x. get x p) c.self.view_is ∙ c.requires) in
    let put = subst (λ q. Updates (slice_cmp nat_cmp) numbers later q (Some (length names))) (c.in_ok-key.ensures ∙ c.name-2.ensures)
    (subst (λ n. Updates (slice_cmp nat_cmp) numbers later c.in_ok-key.key (Some n)) (c.len-number.ensures ∙ c.self.inside.names.ok.0) c.in_ok-insert.ensures.updates) in
    subst (λ ns. IsTable ns c.push_reserved-2.new.self.items later) (sym names_are)
    (subst (λ ts. IsTable (names ++ p ∷ []) ts later) (sym tasks_are) (table_more names tasks numbers later p c.args.task c.self.invariant fresh put))

pub returns-clause-ok : goal.returns-clause-ok
returns-clause-ok c =
    let names = c.self.inside.names.items in
    let tasks = c.self.inside.tasks.items in
    let p = c.args.task.name in
    let names_are : c.push_reserved.new.self.items ≡ names ++ p ∷ [] = c.push_reserved.ensures.items ∙ ap (λ (ns : List Name). ns ++ c.in_ok-name.name ∷ []) c.reserve.ensures.items
    ∙ ap (λ (q : Name). names ++ q ∷ []) (c.in_ok-name.ensures ∙ c.name.ensures) in
    let tasks_are : c.push_reserved-2.new.self.items ≡ tasks ++ c.args.task ∷ [] = c.push_reserved-2.ensures.items ∙ ap (λ (ts : List Task). ts ++ c.args.task ∷ []) c.reserve-2.ensures.items in
    ap (λ ns. from_entries {R = slice_cmp nat_cmp} (rows_of ns c.push_reserved-2.new.self.items)) names_are
    ∙ ap (λ ts. from_entries {R = slice_cmp nat_cmp} (rows_of (names ++ p ∷ []) ts)) tasks_are
    ∙ row_added names tasks p c.args.task c.self.invariant.as_many (ap (λ x. get x p) c.self.view_is ∙ c.requires)
    ∙ ap (λ x. insert x p c.args.task) c.self.view_is
