use Rattle.std.proofs.Common.{◌≡◌, ◌+◌, ◌^◌, ℕ, pos, ap, refl, ◌∙◌, sym, length, map, find, Some, None, option_copied, to_z, of_z, arith}
use Rattle.std.specs.Int.{w128}
use Rattle.core_language.specs.Names.{same}
use Rattle.chan_syntax.specs.Reading.{part_of, term_of}
use Rattle.outline_rules.specs.Naming.{int_var_of}
use Rattle.outline_rules.specs.Sums.{IsWithin, AddsPart, AddsTerm}
use Rattle.outline_rules.proofs.Terms.{meaning_from_part, meaning_from_term, named_none, named_some, looser}
use Rattle.wide_sums.proofs.Sizes.{kept}
use Rattle.outline_rules.proofs.sums.add_meaning.Goals as goal

pub returns-in-None-clause-adds : goal.returns-in-None-clause-adds
returns-in-None-clause-adds c =
    let adds : AddsPart c.as_slice-ints.result.now (pos 1) (part_of c.args.part.now) c.args.sums.now c.add_part.new.sums = c.add_part.ensures.adds in
    meaning_from_part c.args.names.now.ints (map int_var_of c.args.names.now.vars) (part_of c.args.part.now) _ _ (λ u a. rw c.in-None.is refl) (rw c.as_slice-ints.ensures at adds)

pub returns-in-None-clause-within : goal.returns-in-None-clause-within
returns-in-None-clause-within c =
    let within : (size : ℕ) → IsWithin (length c.as_slice-ints.result.now) size c.args.sums.now → IsWithin (length c.as_slice-ints.result.now) (size + 2 ^ 126) c.add_part.new.sums = c.add_part.ensures.within in
    let here = rw c.as_slice-ints.ensures at within in
    λ size w. looser (length c.args.names.now.ints) (size + 2 ^ 126) (size + 2 ^ 185) _ (omega arith) (here size w)

pub returns-in-None-var_named-clause-adds : goal.returns-in-None-var_named-clause-adds
returns-in-None-var_named-clause-adds c =
    let adds : AddsPart c.as_slice-ints.result.now (pos 1) (part_of c.args.part.now) c.args.sums.now c.add_part-in-None-var_named.new.sums = c.add_part-in-None-var_named.ensures.adds in
    let none : find (λ v. same v.name c.in-Some.name) c.args.names.now.vars ≡ None = rw c.as_slice.ensures at (sym c.var_named.ensures ∙ ap option_copied c.in-None-var_named.is) in
    meaning_from_part c.args.names.now.ints (map int_var_of c.args.names.now.vars) (part_of c.args.part.now) _ _ (λ u a. rw c.in-Some.is (named_none c.args.names.now.vars u a _ none)) (rw c.as_slice-ints.ensures at adds)

pub returns-in-None-var_named-clause-within : goal.returns-in-None-var_named-clause-within
returns-in-None-var_named-clause-within c =
    let within : (size : ℕ) → IsWithin (length c.as_slice-ints.result.now) size c.args.sums.now → IsWithin (length c.as_slice-ints.result.now) (size + 2 ^ 126) c.add_part-in-None-var_named.new.sums = c.add_part-in-None-var_named.ensures.within in
    let here = rw c.as_slice-ints.ensures at within in
    λ size w. looser (length c.args.names.now.ints) (size + 2 ^ 126) (size + 2 ^ 185) _ (omega arith) (here size w)

pub returns-in-Some-var_named-clause-adds : goal.returns-in-Some-var_named-clause-adds
returns-in-Some-var_named-clause-adds c =
    let adds : AddsTerm c.as_slice-ints.result.now (to_z w128 (of_z w128 c.times.result)) (map part_of c.as_slice-in-Some-var_named.result.now) c.args.sums.now c.add_term.new.sums = c.add_term.ensures.adds in
    let some : find (λ v. same v.name c.in-Some.name) c.args.names.now.vars ≡ Some c.in-Some-var_named.var.now = rw c.as_slice.ensures at (sym c.var_named.ensures ∙ ap option_copied c.in-Some-var_named.is) in
    meaning_from_term c.args.names.now.ints (map int_var_of c.args.names.now.vars) (part_of c.args.part.now) (term_of c.in-Some-var_named.var.now.term) _ _ (λ u a. rw c.in-Some.is (named_some c.args.names.now.vars u a _ c.in-Some-var_named.var.now some)) (rw (c.as_slice-ints.ensures, kept c.times.result (omega arith), c.times.ensures.value, c.as_slice-in-Some-var_named.ensures) at adds)

pub returns-in-Some-var_named-clause-within : goal.returns-in-Some-var_named-clause-within
returns-in-Some-var_named-clause-within c =
    let within : (size : ℕ) → IsWithin (length c.as_slice-ints.result.now) size c.args.sums.now → IsWithin (length c.as_slice-ints.result.now) (size + 2 ^ 185) c.add_term.new.sums = c.add_term.ensures.within in
    rw c.as_slice-ints.ensures at within
