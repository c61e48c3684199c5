use Rattle.std.proofs.Common.{◌≡◌, ◌+◌, ◌≤◌, List, [], ◌++◌, flat_map, map, drop, length, Option, Some, None, refl, sym, ap, ◌∙◌, subst, arith}
use Rattle.std.specs.List.{slice_get, AllByRecursion}
use Rattle.std.proofs.lemmas.List.{drop_more, drop_all}
use Rattle.std.proofs.lemmas.List.Elements.{All-from_recursion}
use Rattle.std.proofs.lemmas.Option.{slice_get_read}
use Rattle.core_programs.specs.declared.nodes.Func.{Func}
use Rattle.core_programs.specs.Bodies.{function_of}
use Rattle.narrow_headers.specs.Narrow.{IsNarrowHeader}
use Rattle.narrow_headers.proofs.Headers.{headers_narrow}
use Rattle.outline_language.specs.Outlined.{Fault, least, faults_of_function}
use Rattle.outline_walk.specs.Refusals.{found}
use Rattle.outline_walk.proofs.Walks.{least-append, least-nil}
use Rattle.call_rules.specs.Reading.{program_in}
use Rattle.outline_check.proofs.checking.walk_functions.Goals as goal

abbrev narrow : Func → Type 0
narrow f = IsNarrowHeader (function_of [] f)

pub walk_function-requires-clause-narrow : goal.walk_function-requires-clause-narrow
walk_function-requires-clause-narrow c =
    let all = subst (AllByRecursion narrow) (sym c.requires.funcs) (headers_narrow c.args.tables.now.program.now c.requires.formed.form) in
    subst narrow (sym c.func-item.is) (All-from_recursion narrow c.args.funcs.now all c.loop-func.func-index c.func-item.result c.loop-func-test.true)

pub walk_function-requires-clause-within : goal.walk_function-requires-clause-within
walk_function-requires-clause-within c =
    let there = slice_get_read c.args.funcs.now _ c.loop-func.func-index c.func-item.result refl c.loop-func-test.true c.func-item.is in
    c.requires.formed.numbered.firsts c.loop-func.func-index c.func-item.result
    (subst (λ (fs : List Func). slice_get fs c.loop-func.func-index ≡ Some c.func-item.result) c.requires.funcs there)

pub loop-func-init : goal.loop-func-init
loop-func-init c =
    let P = program_in c.args.tables.now in
    record {
      first = ap (λ (fs : List Func). least None (flat_map (faults_of_function P) (map (function_of c.args.tables.now.program.now.nodes) fs))) c.requires.funcs;
      placed = tt;
    }

pub loop-func-preserved : goal.loop-func-preserved
loop-func-preserved c =
    let P = program_in c.args.tables.now in
    let nodes = c.args.tables.now.program.now.nodes in
    let i = c.loop-func.func-index in
    let funcs = c.args.funcs.now in
    let best = found c.loop-func.first in
    let rest = flat_map (faults_of_function P) (map (function_of nodes) (drop (i + 1) funcs)) in
    let next = drop_more funcs i c.func-item.result c.loop-func-test.true in
    record {
      first =
          ap (λ (b : Option Fault). least b rest) c.in_ok-walk_function.ensures.first
          ∙ sym (least-append best (faults_of_function P (function_of nodes c.func-item.result)) rest)
          ∙ ap (λ (f : Func). least best (faults_of_function P (function_of nodes f) ++ rest)) c.func-item.is
          ∙ ap (λ (fs : List Func). least best (flat_map (faults_of_function P) (map (function_of nodes) fs))) (sym next)
          ∙ c.loop-func.invariant.first;
      placed = c.in_ok-walk_function.ensures.placed c.loop-func.invariant.placed;
    }

pub returns-clause-first : goal.returns-clause-first
returns-clause-first c =
    let P = program_in c.args.tables.now in
    let i = c.loop-func.func-index in
    let none : length c.args.funcs.now ≤ i = omega (arith, c.loop-func-test.false) in
    sym (least-nil (found c.loop-func.first))
    ∙ ap (λ (fs : List Func). least (found c.loop-func.first) (flat_map (faults_of_function P) (map (function_of c.args.tables.now.program.now.nodes) fs))) (sym (drop_all i c.args.funcs.now none))
    ∙ c.loop-func.invariant.first
