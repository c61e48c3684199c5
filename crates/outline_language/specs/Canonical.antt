-- Linear forms of which there is one for each value.
use Rattle.std.specs.Prelude.{◌≡◌, ◌≢◌, ℤ, pos, List, [], ◌∷◌}
use Rattle.std.specs.List.{AllByRecursion}
use Rattle.std.specs.declared.cmp.Ordering.TheVariants.{Less}
use Rattle.outline_language.specs.LinearForms.{Var, Multiple, LinearForm, variable_order, form_at, add_times}

-- the variables stand in order, each once, and none counts 0 times
abbrev pub AreCanonical : List Multiple → Type 0
AreCanonical [] = Unit {0}
AreCanonical (m ∷ ms) = AllByRecursion (λ n. variable_order m.0 n.0 ≡ Less) ms × (m.1 ≢ pos 0) × AreCanonical ms

abbrev pub IsCanonical : LinearForm → Type 0
IsCanonical f = AreCanonical f.multiples

-- two forms with one value everywhere are one form
abbrev pub OneForm : Type 0
OneForm = (f g : LinearForm) → IsCanonical f → IsCanonical g → ((at : Var → ℤ) → form_at at f ≡ form_at at g) → f ≡ g

-- sums are canonical
abbrev pub SumsAreCanonical : Type 0
SumsAreCanonical = (weight : ℤ) (f g : LinearForm) → IsCanonical g → IsCanonical (add_times weight f g)
