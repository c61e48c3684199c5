use Rattle.std.proofs.Common.{◌≡◌, ◌<◌, ◌≤◌, arith, ⊎_elim, subst}
use Rattle.std.proofs.lemmas.Bool.{cases_lt}
use Rattle.protocol_guard.specs.Guards.{Returns}
use Rattle.protocol_guard.specs.Searches.{IsAnswer}
use Rattle.protocol_guard.proofs.Tables.{outside}
use Rattle.protocol_guard.proofs.cycles.first_cycle.Goals as goal

pub returns-in-Some : goal.returns-in-Some
returns-in-Some c = record { first = c.starts.invariant.1; returns = subst (IsAnswer c.args.graph.now c.starts.start) c.in-Some.is c.in_ok-way.ensures }

pub starts-preserved : goal.starts-preserved
starts-preserved c =
    let none = subst (IsAnswer c.args.graph.now c.starts.start) c.in-None.is c.in_ok-way.ensures in (
      omega arith,
      λ j other lt back. ⊎_elim
          (λ (before : j < c.starts.start). c.starts.invariant.1 j other before back)
          (λ (not : c.starts.start ≤ j). let same : j ≡ c.starts.start = omega (arith, lt, not) in none other (subst (λ i. Returns c.args.graph.now i other) same back))
          (cases_lt j c.starts.start),
    )

pub returns : goal.returns
returns c i way back = ⊎_elim
    (λ (lt : i < c.starts.start). c.starts.invariant.1 i way lt back)
    (λ (le : c.starts.start ≤ i). outside c.args.graph.now i way (let end = c.starts-test.false in omega (arith, end, le)) back)
    (cases_lt i c.starts.start)
