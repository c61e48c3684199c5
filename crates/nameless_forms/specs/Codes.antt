-- Variables and forms as tuples, by which a proof tells them apart.
use Rattle.std.specs.Prelude.{◌≡◌, ℕ, ℤ, List, ◌⊎◌}
use Rattle.std.proofs.Common.{inl, inr, refl}
use Rattle.std.specs.Coded.{Coded, code_by, coded_ℤ, coded_ℕ, coded_list, coded×, coded⊎}
use Rattle.outline_language.specs.LinearForms.{Var, Free, Inside, Multiple, LinearForm}

abbrev pub side_of : Var → ℕ ⊎ ℕ
side_of (Inside i) = inl i
side_of (Free i) = inr i

abbrev pub var_at : ℕ ⊎ ℕ → Var
var_at (inl i) = Inside i
var_at (inr i) = Free i

pub var_back : (v : Var) → var_at (side_of v) ≡ v
var_back (Inside i) = refl
var_back (Free i) = refl

abbrev pub var_code : Coded Var
var_code = code_by (ℕ ⊎ ℕ) (coded⊎ coded_ℕ coded_ℕ) side_of var_at var_back

abbrev pub form_code : Coded LinearForm
form_code = code_by (List Multiple × ℤ) (coded× (coded_list (coded× var_code coded_ℤ)) coded_ℤ)
    (λ f. (f.multiples, f.constant)) (λ p. record { multiples = p.0; constant = p.1 }) (λ f. refl)
