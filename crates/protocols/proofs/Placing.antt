-- Where the parts of messages and of ends that are followed stand.
use Rattle.std.proofs.Common.{◌≡◌, ℕ, ◌+◌, ◌<◌, ◌≤◌, List, drop, get_or, length, Option, Some, None, option_map, refl, sym, ap, subst}
use Rattle.chan_syntax.specs.declared.operands.Letter.{Letter}
use Rattle.chan_syntax.specs.declared.resources.Ref.{Ref}
use Rattle.chan_syntax.specs.declared.resources.Res.{Res}
use Rattle.chan_syntax.specs.declared.resources.Equation.{Equation}
use Rattle.chan_syntax.specs.declared.resources.Equation.TheVariants as equation
use Rattle.chan_syntax.specs.declared.resources.Proto.{Proto}
use Rattle.protocols.specs.Places.{other_end, other_equation, pieces_with_end, pieces_of_message, LeadsTo, LeadTo}
use Rattle.protocols.proofs.Letters.{drop_next}
use Rattle.protocols.proofs.Stepping.{none_left}

-- a mark is no place
pub with_other_end : (res : Res) (next : Option Ref) → pieces_with_end res (option_map other_end next) ≡ pieces_with_end res next
with_other_end res None = refl
with_other_end res (Some next) = refl

pub message_of_other : (e : Equation) → pieces_of_message (other_equation e) ≡ pieces_of_message e
message_of_other (equation.Send res next) = ap Some (with_other_end res next)
message_of_other (equation.Recv res next) = ap Some (with_other_end res next)
message_of_other equation.Close = refl
message_of_other equation.Wait = refl
message_of_other (equation.Branch left right this other) = refl

-- ---- letters that are left

-- what the rest of the letters leads to, all of them lead to
abbrev pub AreLeft : List Proto → Ref → List Letter → Ref → List Letter → Type 0
AreLeft protos from letters at rest = (last : Ref) → LeadTo protos rest at last → LeadTo protos letters from last

pub led_on : (protos : List Proto) (from at next : Ref) (letters : List Letter) (i : ℕ) (letter : Letter) → i < length letters → AreLeft protos from letters at (drop i letters) → LeadsTo protos (get_or letters i letter) at next → AreLeft protos from letters next (drop (i + 1) letters)
led_on protos from at next letters i letter l left leads = λ last rest.
    left last (subst (λ (ls : List Letter). LeadTo protos ls at last) (sym (drop_next letters i letter l)) (next, leads, rest))

pub led_to : (protos : List Proto) (from at : Ref) (letters : List Letter) (i : ℕ) → i ≤ length letters → length letters ≤ i → AreLeft protos from letters at (drop i letters) → LeadTo protos letters from at
led_to protos from at letters i h k left = left at (subst (λ (ls : List Letter). LeadTo protos ls at at) (sym (none_left letters i h k)) refl)
