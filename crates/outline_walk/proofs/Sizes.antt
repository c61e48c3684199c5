-- How much of a walk is left.
use Rattle.std.proofs.Common.{◌≡◌, suc, ◌+◌, [], ◌∷◌, refl, ap, arith}
use Rattle.core_language.specs.Programs.{Body, Let, Mul, Div, Rem, Call, Tail, Fork, Send1, Recv1, Print, If, Split, Match, Absurd, Ret, Arms, NoArm, Arm}
use Rattle.core_programs.specs.Following.{size, arms_size}
use Rattle.outline_walk.specs.Forms.{bodies_after}
use Rattle.outline_walk.specs.Walking.{sizes}
use Rattle.outline_walk.proofs.Arms.{arm_bodies}

arms_sizes : (arms : Arms) → arms_size arms ≡ sizes (arm_bodies arms)
arms_sizes NoArm = refl
arms_sizes (Arm pat next more) = ap (λ n. size next + n) (arms_sizes more)

one_more : (next : Body) → suc (size next) ≡ suc (sizes (next ∷ []))
one_more next = omega arith

-- a form, and the bodies that follow it
pub size_after : (b : Body) → size b ≡ suc (sizes (bodies_after b))
size_after (Let span x term next) = one_more next
size_after (Mul span x left right next) = one_more next
size_after (Div span x term divisor next) = one_more next
size_after (Rem span x term divisor next) = one_more next
size_after (Call span pat f values proof next) = one_more next
size_after (Tail span f values proof) = refl
size_after (Fork span x ref f values proof next) = one_more next
size_after (Send1 span c path value proof next) = one_more next
size_after (Recv1 span pat c path proof next) = one_more next
size_after (Print span term next) = one_more next
size_after (If span left right this other) = omega arith
size_after (Split span first second x next) = one_more next
size_after (Match span x arms) = ap suc (arms_sizes arms)
size_after (Absurd span proof) = refl
size_after (Ret span value proof) = refl
