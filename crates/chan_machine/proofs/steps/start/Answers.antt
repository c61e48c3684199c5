use Rattle.std.proofs.Common.{◌≡◌, ℤ, List, [], map, Option, None, rules, refl, sym, ap, ◌∙◌}
use Rattle.std.specs.Option.{option_map}
use Rattle.std.specs.Ordering.{nat_cmp}
use Rattle.std.specs.Cmp.Lexicographic.{slice_cmp}
use Rattle.std.specs.FinMap.{empty, from_entries, get, get-empty, insert}
use Rattle.std.specs.BTreeMap.{get as looked_up}
use Rattle.core_language.specs.Names.{Name, NameMap}
use Rattle.core_language.specs.Configurations as core
use Rattle.core_language.specs.Programs.{main_function}
use Rattle.core_language.specs.Values.{Value}
use Rattle.core_programs.specs.Bodies.{program_of}
use Rattle.machine_values.specs.Reading.{value_as}
use Rattle.machine_tasks.specs.declared.tasks.Task.{Task}
use Rattle.task_tables.specs.Tables.{tasks_of}
use Rattle.task_tables.proofs.Putting.{fits_put, passes_put, placed}
use Rattle.chan_machine.specs.Reading.{map_of, prints_of, read_entry}
use Rattle.chan_machine.specs.declared.configurations.Put.{Put}
use Rattle.chan_machine.proofs.Keeping.{empty_read}
use Rattle.chan_machine.proofs.steps.start.Goals as goal

pub returns-clause-value : goal.returns-clause-value
returns-clause-value c =
    let program = c.args.program.now in
    let main = c.in_ok-main.main in
    let starts = c.in_ok-main.ensures.starts in
    let first = core.started (main_function (program_of program)) in
    let made : NameMap core.Task → NameMap (Option Value) → List (Name × ℤ) → core.Config = λ ts cs ps. record { tasks = ts; channels = cs; prints = ps } in
    let alone = placed c.new-tasks.result c.put.new.self main.name main c.in_ok-put.ensures.ok program first 0 starts.place_is starts.forks_are
    ∙ ap (λ m. insert (tasks_of program m) main.name (record { place = first; forks = 0 })) c.new-tasks.ensures
    ∙ ap (λ m. insert m main.name (record { place = first; forks = 0 })) (empty_read program)
    ∙ ap (λ (q : Name). insert empty q (record { place = first; forks = 0 })) starts.name_is in
    let tasks = insert empty [] (record { place = first; forks = 0 }) in
    ap (λ ts. made ts (map_of (option_map value_as) c.new.result) (prints_of c.new-2.result)) alone
    ∙ ap (λ es. made tasks (from_entries {R = slice_cmp nat_cmp} (map (read_entry (option_map value_as)) es)) (prints_of c.new-2.result)) c.new.ensures.empty
    ∙ ap (λ (ps : List Put). made tasks empty (prints_of ps)) c.new-2.ensures

pub returns-clause-fits : goal.returns-clause-fits
returns-clause-fits c =
    let program = c.args.program.now in
    let main = c.in_ok-main.main in
    fits_put c.new-tasks.result c.put.new.self main.name main c.in_ok-put.ensures.ok program
    (λ p t found. let both = sym (get-empty (slice_cmp nat_cmp) p) ∙ sym (ap (λ m. get m p) c.new-tasks.ensures) ∙ found in let bad : ⊥ = cc in absurd bad)
    refl c.in_ok-main.ensures.starts.fits

pub returns-clause-ends : goal.returns-clause-ends
returns-clause-ends c = λ test. (
  passes_put c.new-tasks.result c.put.new.self c.in_ok-main.main.name c.in_ok-main.main c.in_ok-put.ensures.ok test
      (λ p t found. let both = sym (get-empty (slice_cmp nat_cmp) p) ∙ sym (ap (λ m. get m p) c.new-tasks.ensures) ∙ found in let bad : ⊥ = cc in absurd bad)
      (c.in_ok-main.ensures.ends test),
  λ p v found. let none : looked_up (slice_cmp nat_cmp) c.new.result p ≡ None = search rules in let bad : ⊥ = cc in absurd bad,
)
