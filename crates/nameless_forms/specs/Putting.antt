-- What a sum becomes where forms are put for the variables of multiples.
use Rattle.std.specs.Prelude.{◌≡◌, ℤ, List, Result, OnOk}
use Rattle.outline_language.specs.LinearForms.{Var, Multiple, LinearForm, constant_form, add_times, put_multiples}
use Rattle.outline_language.specs.Canonical.{IsCanonical}

-- before, so many times a constant was added to some form; after, so many times the constant and the multiples are
abbrev pub AddsPut : {A E : Type 0} → (Var → LinearForm) → ℤ → List Multiple → Result A E → (before after : LinearForm) → Type 0
AddsPut put weight multiples result before after = (constant : ℤ) (start : LinearForm) → IsCanonical start
    → before ≡ add_times weight (constant_form constant) start
    → OnOk result (after ≡ add_times weight (put_multiples put constant multiples) start)
