use Rattle.std.proofs.Common.{◌≡◌, map, ap, sym, ◌∙◌, Some, Err}
use Rattle.std.proofs.lemmas.Result.{err_from_is_err_and}
use Rattle.std.specs.Option.{option_map, option_copied}
use Rattle.linear_forms.specs.Terms.{put_of}
use Rattle.chan_syntax.specs.Reading.{ref_of, equation_of, proto_of, letter_of, term_of}
use Rattle.protocols.specs.Unfolding.{Stop, Steps}
use Rattle.protocols.specs.Unfolding as spec
use Rattle.protocols.specs.Places.{picked_of}
use Rattle.protocols.specs.Settings.{setting_of}
use Rattle.protocols.proofs.Forming.{arity_at}
use Rattle.protocols.proofs.Stepping.{fault_to, large_fault, stepped, row_too_large, not_met, end_too_large, left_named, right_named, asked_narrow, args_large}
use Rattle.protocols.proofs.unfolding.step.Goals as goal

pub formed_row-requires-clause-arity : goal.formed_row-requires-clause-arity
formed_row-requires-clause-arity c =
    let named = rw c.as_slice.ensures at (sym c.proto_named.ensures.read ∙ ap (λ o. option_map proto_of (option_copied o)) c.in-Some.is) in
    arity_at (map proto_of c.args.setting.now.protos.now) c.args.at.now.end c.in-Some.proto.now c.requires.arity named

pub formed_row-requires-clause-left : goal.formed_row-requires-clause-left
formed_row-requires-clause-left c =
    let named = rw c.as_slice.ensures at (sym c.proto_named.ensures.read ∙ ap (λ o. option_map proto_of (option_copied o)) c.in-Some.is) in
    left_named (map proto_of c.args.setting.now.protos.now) c.args.at.now.end.name (proto_of c.in-Some.proto.now) (term_of c.in-Branch.left) (term_of c.in-Branch.right) (ref_of c.in-Branch.this) (ref_of c.in-Branch.other) c.requires.ready.protos named (ap equation_of c.in-Branch.is)

pub formed_row-requires-clause-right : goal.formed_row-requires-clause-right
formed_row-requires-clause-right c =
    let named = rw c.as_slice.ensures at (sym c.proto_named.ensures.read ∙ ap (λ o. option_map proto_of (option_copied o)) c.in-Some.is) in
    right_named (map proto_of c.args.setting.now.protos.now) c.args.at.now.end.name (proto_of c.in-Some.proto.now) (term_of c.in-Branch.left) (term_of c.in-Branch.right) (ref_of c.in-Branch.this) (ref_of c.in-Branch.other) c.requires.ready.protos named (ap equation_of c.in-Branch.is)

pub returns-in_err-row-clause-err : goal.returns-in_err-row-clause-err
returns-in_err-row-clause-err c =
    let named = rw c.as_slice.ensures at (sym c.proto_named.ensures.read ∙ ap (λ o. option_map proto_of (option_copied o)) c.in-Some.is) in
    let p = err_from_is_err_and c.from_residual.result c.from_residual.ensures.1 in
    rw (p.1, p.2) (large_fault (λ fault. Steps (setting_of c.args.setting.now) c.args.at.now.used (ref_of c.args.at.now.end) (letter_of c.args.letter) (Stop fault)) _ (λ e. row_too_large (setting_of c.args.setting.now) c.args.at.now.used (ref_of c.args.at.now.end) (proto_of c.in-Some.proto.now) (letter_of c.args.letter) (term_of c.in-Branch.left) (term_of c.in-Branch.right) (ref_of c.in-Branch.this) (ref_of c.in-Branch.other) named (ap equation_of c.in-Branch.is) (c.in_err-row.ensures.err e)))

pub oblige-requires-clause-row : goal.oblige-requires-clause-row
oblige-requires-clause-row c = asked_narrow (setting_of c.args.setting.now) (put_of c.in-Some.proto.now.params (map term_of c.args.at.now.end.args)) (letter_of c.args.letter) (term_of c.in-Branch.left) (term_of c.in-Branch.right) c.in_ok-row.row c.requires.ready.ints c.in_ok-row.ensures.row

pub returns-in_err-used-clause-err : goal.returns-in_err-used-clause-err
returns-in_err-used-clause-err c =
    let named = rw c.as_slice.ensures at (sym c.proto_named.ensures.read ∙ ap (λ o. option_map proto_of (option_copied o)) c.in-Some.is) in
    let p = err_from_is_err_and c.from_residual-in_err-used.result c.from_residual-in_err-used.ensures.1 in
    let failed = rw c.in_ok-row.ensures.row at c.in_err-used.ensures.err in
    rw (p.1, p.2) (fault_to (λ fault. spec.obligation (setting_of c.args.setting.now) c.args.at.now.used (spec.asked_row (setting_of c.args.setting.now) (put_of c.in-Some.proto.now.params (map term_of c.args.at.now.end.args)) (letter_of c.args.letter) (term_of c.in-Branch.left) (term_of c.in-Branch.right)) ≡ Err fault) (λ fault. Steps (setting_of c.args.setting.now) c.args.at.now.used (ref_of c.args.at.now.end) (letter_of c.args.letter) (Stop fault)) _ (λ fault e. not_met (setting_of c.args.setting.now) c.args.at.now.used (ref_of c.args.at.now.end) (proto_of c.in-Some.proto.now) (letter_of c.args.letter) (term_of c.in-Branch.left) (term_of c.in-Branch.right) (ref_of c.in-Branch.this) (ref_of c.in-Branch.other) named (ap equation_of c.in-Branch.is) fault c.in_ok-row.ensures.formed e) failed)

pub next_end-requires : goal.next_end-requires
next_end-requires c =
    let named = rw c.as_slice.ensures at (sym c.proto_named.ensures.read ∙ ap (λ o. option_map proto_of (option_copied o)) c.in-Some.is) in
    arity_at (map proto_of c.args.setting.now.protos.now) c.args.at.now.end c.in-Some.proto.now c.requires.arity named

pub returns-in_err-end-clause-err : goal.returns-in_err-end-clause-err
returns-in_err-end-clause-err c =
    let named = rw c.as_slice.ensures at (sym c.proto_named.ensures.read ∙ ap (λ o. option_map proto_of (option_copied o)) c.in-Some.is) in
    let p = err_from_is_err_and c.from_residual-in_err-end.result c.from_residual-in_err-end.ensures.1 in
    let met = rw c.in_ok-row.ensures.row at c.in_ok-used.ensures.ok in
    rw (p.1, p.2) (large_fault (λ fault. Steps (setting_of c.args.setting.now) c.args.at.now.used (ref_of c.args.at.now.end) (letter_of c.args.letter) (Stop fault)) _ (λ e. end_too_large (setting_of c.args.setting.now) c.args.at.now.used (ref_of c.args.at.now.end) (proto_of c.in-Some.proto.now) (letter_of c.args.letter) (term_of c.in-Branch.left) (term_of c.in-Branch.right) (ref_of c.in-Branch.this) (ref_of c.in-Branch.other) named (ap equation_of c.in-Branch.is) c.in_ok-used.used c.in_ok-row.ensures.formed met (args_large _ _ _ c.on_way.ensures.read (c.in_err-end.ensures.err e))))

pub returns-clause-ok : goal.returns-clause-ok
returns-clause-ok c =
    let named = rw c.as_slice.ensures at (sym c.proto_named.ensures.read ∙ ap (λ o. option_map proto_of (option_copied o)) c.in-Some.is) in
    let met = rw c.in_ok-row.ensures.row at c.in_ok-used.ensures.ok in
    stepped (setting_of c.args.setting.now) c.args.at.now.used (ref_of c.args.at.now.end) (proto_of c.in-Some.proto.now) (letter_of c.args.letter) (term_of c.in-Branch.left) (term_of c.in-Branch.right) (ref_of c.in-Branch.this) (ref_of c.in-Branch.other) named (ap equation_of c.in-Branch.is) (ref_of c.on_way.result.now) (ref_of c.in_ok-end.end) c.in_ok-used.used c.in_ok-row.ensures.formed met c.on_way.ensures.read c.in_ok-end.ensures.ok

pub returns-clause-places : goal.returns-clause-places
returns-clause-places c =
    let found = rw c.as_slice.ensures at (sym c.proto_named.ensures.placed ∙ ap option_copied c.in-Some.is) in
    (c.in-Some.proto.now, c.on_way.result.now, found, ap (picked_of c.args.letter) c.in-Branch.is ∙ ap Some (sym c.on_way.ensures.placed), c.in_ok-end.ensures.ok, c.in_ok-end.ensures.places)
