use Rattle.std.proofs.Common.{◌≡◌, Bool, true, false, ◌&&◌, List, [], ◌∷◌, map, refl, sym, ap, ◌∙◌}
use Rattle.std.specs.Prelude.{IsTrue}
use Rattle.core_language.specs.Resources as written
use Rattle.chan_syntax.specs.declared.linear.Limit.{Limit}
use Rattle.chan_syntax.specs.Reading.{limit_of, bound_of, shape_of}
use Rattle.core_language.specs.Endings.{is_nil}
use Rattle.outline_language.specs.Rules.{is_bare_unit}
use Rattle.function_headers.proofs.reading.gives_unit.Goals as goal

-- the test of a list that is read
none_read : (r : Bool) (ls : List Limit) → (IsTrue r → ls ≡ []) × (ls ≡ [] → IsTrue r) → r ≡ is_nil (map limit_of ls)
none_read true [] tested = refl
none_read true (l ∷ ls) tested = let none = tested.0 refl in cc
none_read false [] tested = tested.1 refl
none_read false (l ∷ ls) tested = refl

pub returns-then-is_empty : goal.returns-then-is_empty
returns-then-is_empty c =
    let bound = bound_of c.args.res.now.bound in
    none_read c.is_empty-then-is_empty.result c.args.res.now.bound.limits c.is_empty-then-is_empty.ensures
    ∙ ap (λ xs. is_nil xs && is_nil bound.limits) (sym (c.is_empty.ensures.0 c.if-is_empty.true))
    ∙ ap (λ s. is_bare_unit (written.Binds bound (shape_of s))) (sym c.in-Unit.is)
