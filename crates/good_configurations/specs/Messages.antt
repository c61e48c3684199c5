-- What an end does next, and the values that it carries.
use Rattle.std.specs.Prelude.{◌≡◌, ℕ, List}
use Rattle.core_language.specs.Resources.{Proto}
use Rattle.core_language.specs.Values.{Value}
use Rattle.outline_language.specs.Equations.{Direction, Concrete}
use Rattle.good_configurations.specs.Ends.{Head, HasHead, no_values}
use Rattle.good_configurations.specs.Values.{Use, Has}

-- the end does this next
abbrev pub Does : List Proto → Concrete → Direction → Type 0
Does protos e direction = (n : ℕ) × (head : Head) × HasHead protos n e head × (head.direction ≡ direction)

-- the value with these uses is the message of the end
abbrev pub Carries : List Proto → Concrete → Value → List Use → Type 0
Carries protos e v us = (n : ℕ) × (head : Head) × HasHead protos n e head × Has no_values head.args head.res v us
