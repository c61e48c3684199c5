use Rattle.std.proofs.Common.{◌≡◌, ℕ, [], ◌∷◌, IfNone, map, string_bytes, rules, sym, subst}
use Rattle.chanl_words.specs.Words.{HasRounds}
use Rattle.chanl_words.proofs.Numbers.{one_item, two_items}
use Rattle.chanl_words.proofs.rounds.Goals as goal

pub returns-in-len1-clause-none : goal.returns-in-len1-clause-none
returns-in-len1-clause-none c =
    let whole = one_item c.args.option.now c.word-item.result c.in-len1.len_at_least c.in-len1.len_below c.word-item.is in
    let is : map string_bytes c.args.option.now ≡ c.as_str.result.now ∷ [] = search (rules, whole) in
    subst (λ option. IfNone c.joined.result ((n : ℕ) → ¬ HasRounds option n)) (sym is) c.joined.ensures.none

pub returns-in-len2-clause-none : goal.returns-in-len2-clause-none
returns-in-len2-clause-none c =
    let whole = two_items c.args.option.now c.name-item.result c.text-item.result c.in-len2.len_at_least c.in-len2.len_below c.name-item.is c.text-item.is in
    let is : map string_bytes c.args.option.now ≡ c.as_str-in-len2.result.now ∷ c.as_str-in-len2-2.result.now ∷ [] = search (rules, whole) in
    subst (λ option. IfNone c.apart.result ((n : ℕ) → ¬ HasRounds option n)) (sym is) c.apart.ensures.none
