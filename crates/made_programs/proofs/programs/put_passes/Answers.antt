use Rattle.std.proofs.Common.{◌++◌, ◌+◌, ◌-◌, ◌≤◌, ◌∙◌, ℕ, List, ap, sym, append_assoc, arith}
use Rattle.std.specs.List.{flat_map, range_with_len}
use Rattle.made_programs.specs.Texts.{pass_line}
use Rattle.made_programs.proofs.Counted.{next_number}
use Rattle.made_programs.proofs.programs.put_passes.Goals as goal

pub numbers-preserved : goal.numbers-preserved
numbers-preserved c =
    let n = c.numbers.number in
    let count = c.args.count in
    let within : n ≤ count = c.numbers-test.true in
    let rest : List ℕ = range_with_len (n + 1) (count + 1 - (n + 1)) in (
      omega arith,
      omega (arith, within),
      ap (λ (t : List ℕ). t ++ flat_map pass_line rest) c.in_ok-put_pass.ensures ∙ append_assoc c.numbers.text.items (pass_line n) (flat_map pass_line rest)
          ∙ ap (λ (ns : List ℕ). c.numbers.text.items ++ flat_map pass_line ns) (sym (next_number n count within)) ∙ c.numbers.invariant.2,
    )
