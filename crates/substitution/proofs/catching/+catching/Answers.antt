use Rattle.std.proofs.Common.{◌≡◌, List, map, flat_map, IfOk, sym, ◌∙◌, ap, subst}
use Rattle.std.specs.List.{list_any}
use Rattle.chan_syntax.proofs.Rows.{shape_pair as pair_of, shape_sum as sum_of}
use Rattle.chan_syntax.specs.Reading.{res_of, shape_of}
use Rattle.linear_forms.specs.Substitution.{Scoped, puts, terms_of_shape, terms_of_res}
use Rattle.substitution.specs.Scopes.{put_in, before_of}
use Rattle.substitution.proofs.Lookups.{either_then, either_else}
use Rattle.substitution.proofs.Listed.{terms_from}
use Rattle.substitution.proofs.catching.+catching.Goals as goal

pub shape_puts-returns-then-in_first : goal.shape_puts-returns-then-in_first
shape_puts-returns-then-in_first n c =
    subst (λ x. c.in_ok-in_first-in-Pair.in_first ≡ list_any (puts (map put_in c.args.put.now) c.args.name.now) (terms_of_shape (before_of c.args.scope.now) x)) (sym (ap shape_of c.in-Pair.is ∙ pair_of c.in-Pair.first c.in-Pair.second)) (either_then (puts (map put_in c.args.put.now) c.args.name.now) (terms_of_res (before_of c.args.scope.now) (res_of c.in-Pair.first)) (terms_of_res (before_of c.args.scope.now) (res_of c.in-Pair.second)) c.in_ok-in_first-in-Pair.in_first (rw c.get.ensures at c.in_ok-in_first-in-Pair.ensures) c.if-in_first.true)

pub shape_puts-returns-else-in_first : goal.shape_puts-returns-else-in_first
shape_puts-returns-else-in_first n c =
    subst (λ x. c.in_ok-in_second-in-Pair.in_second ≡ list_any (puts (map put_in c.args.put.now) c.args.name.now) (terms_of_shape (before_of c.args.scope.now) x)) (sym (ap shape_of c.in-Pair.is ∙ pair_of c.in-Pair.first c.in-Pair.second)) (either_else (puts (map put_in c.args.put.now) c.args.name.now) (terms_of_res (before_of c.args.scope.now) (res_of c.in-Pair.first)) (terms_of_res (before_of c.args.scope.now) (res_of c.in-Pair.second)) c.in_ok-in_first-in-Pair.in_first c.in_ok-in_second-in-Pair.in_second (rw c.get.ensures at c.in_ok-in_first-in-Pair.ensures) c.if-in_first.false (rw c.get-in-Pair.ensures at c.in_ok-in_second-in-Pair.ensures))

pub shape_puts-returns-in-Sum : goal.shape_puts-returns-in-Sum
shape_puts-returns-in-Sum n c =
    let before = before_of c.args.scope.now in
    let same : flat_map (terms_of_res before) (map res_of c.in-Sum.arms) ≡ terms_of_shape before (shape_of c.args.shape.now) = sym (ap (terms_of_shape before) (ap shape_of c.in-Sum.is ∙ sum_of c.in-Sum.arms) ∙ terms_from before (map res_of c.in-Sum.arms)) in
    subst (λ (l : List Scoped). IfOk c.resources_put.result (λ caught. caught ≡ list_any (puts (map put_in c.args.put.now) c.args.name.now) l)) same (rw c.as_slice-in-Sum.ensures at c.resources_put.ensures)
