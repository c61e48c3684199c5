use Rattle.std.proofs.Common.{◌≡◌, ◌∷◌, [], IfNone, codes, map, string_bytes, rules, sym, subst}
use Rattle.std.proofs.lemmas.List.{nil_from_length}
use Rattle.chanl_words.specs.Words.{IsUsage}
use Rattle.chanl_words.proofs.Numbers.{replay_usage}
use Rattle.chanl_words.proofs.Command.named.Goals as goal

pub returns-in_err-rounds-clause-none : goal.returns-in_err-rounds-clause-none
returns-in_err-rounds-clause-none c =
    let is : c.args.name.now ≡ codes "replay" = search rules in
    let usage = replay_usage (map string_bytes c.args.option.now) c.in_err-rounds.ensures.none in
    subst (λ name. IfNone c.from_residual.result (IsUsage (name ∷ map string_bytes c.args.option.now))) (sym is) (search (rules, usage))

pub returns-then-is_empty-clause-some : goal.returns-then-is_empty-clause-some
returns-then-is_empty-clause-some c =
    let is : c.args.name.now ≡ codes "fmt" = search rules in
    let empty = nil_from_length c.args.option.now (search rules) in
    subst (λ name. name ∷ map string_bytes c.args.option.now ≡ codes "fmt" ∷ []) (sym is) (search (rules, empty))
