use Rattle.std.proofs.Common.{◌≡◌, Some, ap, sym, refl, ◌∙◌}
use Rattle.std.specs.Cmp.Lexicographic.{bytes_decides}
use Rattle.std.proofs.lemmas.Option.{slice_get_read}
use Rattle.task_tables.proofs.tables.is_number.Goals as goal

pub returns-in-Some : goal.returns-in-Some
returns-in-Some c = λ yes.
    slice_get_read c.args.names.now _ c.args.guess c.in-Some.there.now refl c.in-Some.ensures.lookup.3.0 (c.in-Some.ensures.lookup.3.1 _)
    ∙ ap Some ((bytes_decides c.in-Some.there.now c.args.name.now).0 (sym c.eq.ensures ∙ yes))
