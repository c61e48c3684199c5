-- The heads of duals.
use Rattle.std.proofs.Common.{◌≡◌, ℤ, Bool, true, false, not, List, [], ◌∷◌, Some, None, refl, sym, ◌∙◌, ap}
use Rattle.std.specs.Option.{option_map}
use Rattle.core_language.specs.Names.{Ident}
use Rattle.core_language.specs.Resources.{Ref, Equation, Proto, Send, Recv, Close, Wait, Branch}
use Rattle.core_language.specs.Operands.{Letter, First, Second}
use Rattle.protocols.specs.Duals.{dual_equation, message_of, turned}
use Rattle.outline_language.specs.Equations.{dual_written, with_end, Sends, Concrete, opposite}
use Rattle.protocols.specs.Heads.{concrete, argument, equation_of_end, Head, turned_head, on_way, HasHead}

twice_not : (b : Bool) → not (not b) ≡ b
twice_not true = refl
twice_not false = refl

pub twice_ref : (r : Ref) → dual_written (dual_written r) ≡ r
twice_ref r = ap (λ (b : Bool). record { dual = b; name = r.name; args = r.args }) (twice_not r.dual)

pub twice_equation : (e : Equation) → dual_equation (dual_equation e) ≡ e
twice_equation (Send res None) = refl
twice_equation (Send res (Some next)) = ap (λ (r : Ref). Send res (Some r)) (twice_ref next)
twice_equation (Recv res None) = refl
twice_equation (Recv res (Some next)) = ap (λ (r : Ref). Recv res (Some r)) (twice_ref next)
twice_equation Close = refl
twice_equation Wait = refl
twice_equation (Branch left right this other) = rw (twice_ref this, twice_ref other)

pub same_message : (e : Equation) → message_of (dual_equation e) ≡ option_map turned (message_of e)
same_message (Send res None) = refl
same_message (Send res (Some next)) = refl
same_message (Recv res None) = refl
same_message (Recv res (Some next)) = ap (λ (r : Ref). Some (record { direction = Sends; res = with_end res (Some r) })) (twice_ref next)
same_message Close = refl
same_message Wait = refl
same_message (Branch left right this other) = refl

-- the equation of the other end
turned_equation : (dual : Bool) (proto : Proto) → equation_of_end (not dual) proto ≡ dual_equation (equation_of_end dual proto)
turned_equation true proto = sym (twice_equation proto.equation)
turned_equation false proto = refl

turned_way : (at : Ident → ℤ) (letter : Letter) (this other : Ref) → concrete at (on_way letter (dual_written this) (dual_written other)) ≡ opposite (concrete at (on_way letter this other))
turned_way at First this other = refl
turned_way at Second this other = refl

pub dual_turns_the_head : (protos : List Proto) (e : Concrete) (ways : List Letter) (head : Head) → HasHead protos e ways head → HasHead protos (opposite e) ways (turned_head head)
dual_turns_the_head protos e [] head (proto, equation, (named, is), message, params, args) =
    (proto, dual_equation equation, (named, turned_equation e.dual proto ∙ ap dual_equation is), same_message equation ∙ ap (option_map turned) message, params, args)
dual_turns_the_head protos e (letter ∷ ways) head (proto, left, right, this, other, (named, is), letter_is, rest) =
    (proto, left, right, dual_written this, dual_written other, (named, turned_equation e.dual proto ∙ ap dual_equation is), letter_is, rw (turned_way (argument proto.params e.args) letter this other) (dual_turns_the_head protos (concrete (argument proto.params e.args) (on_way letter this other)) ways head rest))
