-- How the code has variables.
use Rattle.std.specs.Prelude.{◌≡◌, ⊤, ◌+◌, ◌<◌, ◌^◌}
use Rattle.std.proofs.Common.{refl}
use Rattle.outline_language.specs.LinearForms as form
use Rattle.nameless_forms.specs.declared.variables.Place.{Place}
use Rattle.nameless_forms.specs.declared.variables.Place.TheVariants.{Inside, Free}

abbrev pub var_of : Place → form.Var
var_of (Inside i) = form.Inside i
var_of (Free i) = form.Free i

abbrev pub place_of : form.Var → Place
place_of (form.Inside i) = Inside i
place_of (form.Free i) = Free i

pub place_back : (p : Place) → place_of (var_of p) ≡ p
place_back (Inside i) = refl
place_back (Free i) = refl

-- 64 bits hold how many binders outwards it stands
abbrev pub IsNear : Place → Type 0
IsNear (Inside i) = i + 1 < 2 ^ 64
IsNear (Free i) = ⊤
