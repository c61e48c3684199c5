use Rattle.std.proofs.Common.{◌≡◌, ◌<◌, ◌^◌, None, Some, get_or, length, ap, sym, subst, ◌∙◌, rules, arith}
use Rattle.std.specs.Fmt.{decimal}
use Rattle.std.specs.Option.{IfSome}
use Rattle.std.specs.Str.{IsUtf8}
use Rattle.std.specs.Str.Parse.{ParsesUnsigned}
use Rattle.name_texts.proofs.Digits.{no_err, no_zero, number_complete, number_sound, number_utf8, some_ok}
use Rattle.name_texts.proofs.parts.number.Goals as goal

pub returns-then-has_zero_in_front-clause-complete : goal.returns-then-has_zero_in_front-clause-complete
returns-then-has_zero_in_front-clause-complete c = λ k small is.
    let zero = c.has_zero_in_front.ensures.yes (search rules) in
    let first : get_or (decimal k) 0 0 ≡ 48 = subst (λ t. get_or t 0 0 ≡ 48) is zero.1 in
    absurd (omega (arith, no_zero k small first, ap length is, zero.0))

pub returns-in_err-text-clause-complete : goal.returns-in_err-text-clause-complete
returns-in_err-text-clause-complete c = λ k small is.
    let none : c.ok.result ≡ None = search rules in
    absurd (no_err c.from_utf8.result _ _ (λ e h. h.0 (subst IsUtf8 (sym is) (number_utf8 k small))) c.from_utf8.ensures.cases (sym c.ok.ensures.value ∙ none))

pub returns-clause-sound : goal.returns-clause-sound
returns-clause-sound c =
    let some : c.ok.result ≡ Some c.in_ok-text.text = search rules in
    let text : c.in_ok-text.text.now ≡ c.args.digits.now = (some_ok c.from_utf8.result _ _ c.in_ok-text.text c.from_utf8.ensures.cases (sym c.ok.ensures.value ∙ some)).0 in
    let parses : ParsesUnsigned 32 10 c.args.digits.now c.parse.result = subst (λ t. ParsesUnsigned 32 10 t c.parse.result) text c.parse.ensures.value.0 in
    subst (λ o. IfSome o (λ k. (c.args.digits.now ≡ decimal k) × (k < 2 ^ 32))) (sym c.ok-2.ensures.value)
    (number_sound c.args.digits.now c.parse.result c.requires (c.has_zero_in_front.ensures.no (search rules)) parses)

pub returns-clause-complete : goal.returns-clause-complete
returns-clause-complete c = λ k small is.
    let some : c.ok.result ≡ Some c.in_ok-text.text = search rules in
    let text : c.in_ok-text.text.now ≡ c.args.digits.now = (some_ok c.from_utf8.result _ _ c.in_ok-text.text c.from_utf8.ensures.cases (sym c.ok.ensures.value ∙ some)).0 in
    let parses : ParsesUnsigned 32 10 c.args.digits.now c.parse.result = subst (λ t. ParsesUnsigned 32 10 t c.parse.result) text c.parse.ensures.value.0 in
    c.ok-2.ensures.value ∙ number_complete c.args.digits.now c.parse.result k small is parses
