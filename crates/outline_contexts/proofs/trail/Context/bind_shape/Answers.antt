use Rattle.std.proofs.Common.{◌≡◌, ℕ, ◌-◌, length, map, sym, ap, ◌∙◌, Ok, arith}
use Rattle.std.proofs.lemmas.Result.{err_from_is_err_and}
use Rattle.nameless_forms.specs.Limits.{limit_of}
use Rattle.chan_syntax.specs.Reading.{pat_of}
use Rattle.outline_language.specs.Nameless.{Binds}
use Rattle.outline_language.specs.Contexts.{add_ints, variables_from, put_in_shape, bind}
use Rattle.outline_obligations.proofs.Reasons.{reason_to}
use Rattle.outline_contexts.specs.Trails.{context_in}
use Rattle.outline_contexts.proofs.Meanings.{too_large_to}
use Rattle.outline_contexts.proofs.Bound.{nat_same, ints_added, limits_fail, shape_fails, bound}
use Rattle.outline_contexts.proofs.trail.Context.bind_shape.Goals as goal

pub returns-in_err-assume_limits-clause-err : goal.returns-in_err-assume_limits-clause-err
returns-in_err-assume_limits-clause-err c =
    let ctx = context_in c.args.self.now in
    let same : length c.args.pat.now.names ≡ c.args.binders = sym c.len.ensures ∙ c.if-len-binders.false in
    let added : add_ints ctx c.args.pat.now.names ≡ Ok (context_in c.add_ints.new.self) = ap (add_ints ctx) (sym c.as_slice.ensures) ∙ c.in_ok-add_ints.ensures.ok in
    let long = ints_added ctx (context_in c.add_ints.new.self) c.args.pat.now.names added in
    let many : c.variables.result - c.variables-first.result ≡ c.args.binders = omega (arith, long, same, c.variables.ensures.count, c.variables-first.ensures.count) in
    let are : c.in_ok-variables.variables ≡ variables_from (length ctx.ints) c.args.binders =
    c.in_ok-variables.ensures ∙ ap (variables_from c.variables-first.result) many ∙ ap (λ (k : ℕ). variables_from k c.args.binders) c.variables-first.ensures.count in
    let p = err_from_is_err_and c.from_residual-in_err-assume_limits.result c.from_residual-in_err-assume_limits.ensures.1 in
    rw (p.1, p.2) (reason_to _ _ (λ w e. limits_fail ctx (pat_of c.args.pat.now) c.args.binders (map limit_of c.args.limits.now) c.args.shape.now (context_in c.add_ints.new.self)
    c.as_slice-2.result.now c.as_slice-2.result.now (nat_same (length c.args.pat.now.names) c.args.binders same) added (c.as_slice-2.ensures ∙ are) (c.as_slice-2.ensures ∙ are) w e) _ c.in_err-assume_limits.ensures.err)

pub returns-in_err-shape-clause-err : goal.returns-in_err-shape-clause-err
returns-in_err-shape-clause-err c =
    let ctx = context_in c.args.self.now in
    let same : length c.args.pat.now.names ≡ c.args.binders = sym c.len.ensures ∙ c.if-len-binders.false in
    let added : add_ints ctx c.args.pat.now.names ≡ Ok (context_in c.add_ints.new.self) = ap (add_ints ctx) (sym c.as_slice.ensures) ∙ c.in_ok-add_ints.ensures.ok in
    let long = ints_added ctx (context_in c.add_ints.new.self) c.args.pat.now.names added in
    let many : c.variables.result - c.variables-first.result ≡ c.args.binders = omega (arith, long, same, c.variables.ensures.count, c.variables-first.ensures.count) in
    let are : c.in_ok-variables.variables ≡ variables_from (length ctx.ints) c.args.binders =
    c.in_ok-variables.ensures ∙ ap (variables_from c.variables-first.result) many ∙ ap (λ (k : ℕ). variables_from k c.args.binders) c.variables-first.ensures.count in
    let p = err_from_is_err_and c.from_residual-in_err-shape.result c.from_residual-in_err-shape.ensures.1 in
    rw (p.1, p.2) (too_large_to (put_in_shape c.as_slice-3.result.now c.args.shape.now) (bind ctx (pat_of c.args.pat.now) (Binds c.args.binders (map limit_of c.args.limits.now) c.args.shape.now))
    (λ w e. shape_fails ctx (pat_of c.args.pat.now) c.args.binders (map limit_of c.args.limits.now) c.args.shape.now (context_in c.add_ints.new.self)
    c.as_slice-2.result.now c.as_slice-3.result.now (nat_same (length c.args.pat.now.names) c.args.binders same) added (c.as_slice-2.ensures ∙ are) (c.as_slice-3.ensures ∙ are)
    (context_in c.assume_limits.new.self) c.in_ok-assume_limits.ensures.ok w e) _ c.in_err-shape.ensures.err)

pub returns-clause-ok : goal.returns-clause-ok
returns-clause-ok c =
    let ctx = context_in c.args.self.now in
    let same : length c.args.pat.now.names ≡ c.args.binders = sym c.len.ensures ∙ c.if-len-binders.false in
    let added : add_ints ctx c.args.pat.now.names ≡ Ok (context_in c.add_ints.new.self) = ap (add_ints ctx) (sym c.as_slice.ensures) ∙ c.in_ok-add_ints.ensures.ok in
    let long = ints_added ctx (context_in c.add_ints.new.self) c.args.pat.now.names added in
    let many : c.variables.result - c.variables-first.result ≡ c.args.binders = omega (arith, long, same, c.variables.ensures.count, c.variables-first.ensures.count) in
    let are : c.in_ok-variables.variables ≡ variables_from (length ctx.ints) c.args.binders =
    c.in_ok-variables.ensures ∙ ap (variables_from c.variables-first.result) many ∙ ap (λ (k : ℕ). variables_from k c.args.binders) c.variables-first.ensures.count in
    bound ctx (pat_of c.args.pat.now) c.args.binders (map limit_of c.args.limits.now) c.args.shape.now (context_in c.add_ints.new.self)
    c.as_slice-2.result.now c.as_slice-3.result.now (nat_same (length c.args.pat.now.names) c.args.binders same) added (c.as_slice-2.ensures ∙ are) (c.as_slice-3.ensures ∙ are)
    (context_in c.assume_limits.new.self) c.in_ok-assume_limits.ensures.ok c.in_ok-shape.shape (context_in c.hold.new.self) c.in_ok-shape.ensures.ok c.in_ok-hold.ensures.context
