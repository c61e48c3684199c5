use Rattle.std.proofs.Common.{◌≡◌, map, false, subst}
use Rattle.std.specs.Prelude.{IfOk, IfErr}
use Rattle.linear_forms.specs.Terms.{put_of}
use Rattle.farkas_check.specs.declared.cert.Row.{Row}
use Rattle.linear_forms.specs.Normal.{row_fits}
use Rattle.chan_syntax.specs.Reading.{term_of, letter_of}
use Rattle.substitution.specs.declared.faults.SubstFault.TheVariants as cause
use Rattle.protocols.proofs.Asked.{all_known, row_asked, as_many}
use Rattle.protocols.proofs.asking.asked_row.Goals as goal

pub row_of-requires : goal.row_of-requires
row_of-requires c =
    all_known c.in_ok-names.names c.in_ok-term.term c.args.setting.now.ints.now c.args.params.now (map term_of c.args.args.now) (letter_of c.args.letter) (term_of c.args.left.now) (term_of c.args.right.now) c.in_ok-names.ensures (as_many c.args.args.now c.args.params.now c.requires.arity) c.in_ok-term.ensures c.requires.left c.requires.right

pub returns-clause-row : goal.returns-clause-row
returns-clause-row c =
    subst (λ (wanted : Row). IfOk c.row_of.result (λ row. row ≡ wanted))
    (row_asked c.in_ok-names.names c.in_ok-term.term c.args.setting.now.ints.now (put_of c.args.params.now (map term_of c.args.args.now)) (letter_of c.args.letter) (term_of c.args.left.now) (term_of c.args.right.now) c.in_ok-names.ensures c.in_ok-term.ensures)
    c.row_of.ensures.row

pub returns-clause-err : goal.returns-clause-err
returns-clause-err c =
    subst (λ (wanted : Row). IfErr c.row_of.result (λ fault. fault ≡ cause.TooLarge → row_fits wanted ≡ false))
    (row_asked c.in_ok-names.names c.in_ok-term.term c.args.setting.now.ints.now (put_of c.args.params.now (map term_of c.args.args.now)) (letter_of c.args.letter) (term_of c.args.left.now) (term_of c.args.right.now) c.in_ok-names.ensures c.in_ok-term.ensures)
    c.row_of.ensures.err
