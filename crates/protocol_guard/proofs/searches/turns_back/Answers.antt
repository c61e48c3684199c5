use Rattle.std.proofs.Common.{◌≡◌, ℕ, ◌-◌, ◌<◌, List, [], ◌∷◌, ◌++◌, length, reverse, get_or, Some, slice_get, sym, ap, ◌∙◌, arith, append_assoc}
use Rattle.chan_syntax.specs.declared.operands.Letter.{Letter}
use Rattle.chan_syntax.specs.declared.operands.Letter.TheVariants as letter
use Rattle.protocol_guard.specs.declared.searches.Step.{Step}
use Rattle.protocol_guard.specs.Searches.{way_to}
use Rattle.protocol_guard.proofs.Ways.{way_by, way_first, read, reverse-push}
use Rattle.protocol_guard.proofs.searches.turns_back.Goals as goal

pub back-preserved : goal.back-preserved
back-preserved c =
    let steps = c.args.steps.now in
    let k : ℕ = c.back.at - 1 in
    let step : Step = get_or steps k (record { from = 0; turn = letter.Left }) in
    let within : k < length steps = let le = c.back.invariant.0 in let more = c.back-test.true in omega (arith, le, more) in
    let here : slice_get steps k ≡ Some step = read steps k (record { from = 0; turn = letter.Left }) within in
    let early = c.requires.before k step here in
    let way : way_to steps c.back.at ≡ way_to steps step.from ++ step.turn ∷ [] = way_by steps k c.back.at step here (let more = c.back-test.true in omega (arith, more)) early in (
      omega (arith, early, within),
      ap (λ (ts : List Letter). way_to steps step.from ++ reverse ts) c.in_ok-push.ensures.items
          ∙ ap (λ (ts : List Letter). way_to steps step.from ++ ts) (reverse-push c.back.turns.items step.turn)
          ∙ sym (append_assoc (way_to steps step.from) (step.turn ∷ []) (reverse c.back.turns.items))
          ∙ ap (λ (ts : List Letter). ts ++ reverse c.back.turns.items) (sym way)
          ∙ c.back.invariant.1,
    )

pub returns : goal.returns
returns c =
    let steps = c.args.steps.now in
    let first : c.back.at ≡ 0 = let le = c.back-test.false in omega (arith, le) in
    ap (λ (ts : List Letter). ts ++ reverse c.back.turns.items) (sym (ap (way_to steps) first ∙ way_first steps)) ∙ c.back.invariant.1
