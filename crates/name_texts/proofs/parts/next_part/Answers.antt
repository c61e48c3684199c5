use Rattle.std.proofs.Common.{◌≡◌, ◌-◌, ◌∙◌, ℕ, List, None, Some, length, take, drop, ap, rules}
use Rattle.std.specs.Char.{is_ascii_digit}
use Rattle.std.specs.Fmt.{decimal}
use Rattle.std.specs.List.{list_all, prefix_len}
use Rattle.name_texts.proofs.Digits.{list_all-take, part_digits, part_rest, to_the_end}
use Rattle.name_texts.proofs.parts.next_part.Goals as goal

pub number-requires : goal.number-requires
number-requires c =
    let rest = take (length c.args.text.now - 1) (drop 1 c.args.text.now) in
    ap (λ (n : ℕ). list_all is_ascii_digit (take n rest)) c.count_digits-count.ensures.count ∙ list_all-take is_ascii_digit rest

pub returns-in_err-part-clause-complete : goal.returns-in_err-part-clause-complete
returns-in_err-part-clause-complete c = λ k parts small is.
    let text = c.args.text.now in
    let rest = take (length text - 1) (drop 1 text) in
    let digits : take c.count_digits-count.result rest ≡ decimal k =
    ap (λ (n : ℕ). take n rest) c.count_digits-count.ensures.count ∙ ap (λ (r : List ℕ). take (prefix_len is_ascii_digit r) r) (to_the_end text 1)
    ∙ part_digits text k parts small is in
    let some : c.number.result ≡ Some k = c.number.ensures.complete k small digits in
    let none : c.number.result ≡ None = search rules in
    let bad : ⊥ = cc in
    absurd bad

pub returns-clause-complete : goal.returns-clause-complete
returns-clause-complete c = λ k parts small is.
    let text = c.args.text.now in
    let rest = take (length text - 1) (drop 1 text) in
    let count = c.count_digits-count.result in
    let digits : take count rest ≡ decimal k =
    ap (λ (n : ℕ). take n rest) c.count_digits-count.ensures.count ∙ ap (λ (r : List ℕ). take (prefix_len is_ascii_digit r) r) (to_the_end text 1)
    ∙ part_digits text k parts small is in
    let some : c.number.result ≡ Some k = c.number.ensures.complete k small digits in
    let found : c.number.result ≡ Some c.in_ok-part.part = search rules in
    let same : c.in_ok-part.part ≡ k = cc in (
      same,
      to_the_end rest count ∙ ap (λ (n : ℕ). drop n rest) c.count_digits-count.ensures.count
          ∙ ap (λ (r : List ℕ). drop (prefix_len is_ascii_digit r) r) (to_the_end text 1) ∙ part_rest text k parts small is,
    )
