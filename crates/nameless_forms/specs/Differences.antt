-- Differences of forms in which instances stand for the binders around.
use Rattle.std.specs.Prelude.{List}
use Rattle.outline_language.specs.LinearForms.{LinearForm, minus}
use Rattle.outline_language.specs.Nameless.{form_with}

-- the first form less the second, each with the instances
abbrev pub difference_at : List LinearForm → LinearForm → LinearForm → LinearForm
difference_at instances left right = minus (form_with instances 0 left) (form_with instances 0 right)
