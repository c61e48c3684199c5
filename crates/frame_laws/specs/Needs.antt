-- The variables that a body needs: those that it names before it binds them.
use Rattle.std.specs.Prelude.{Bool, false, not, ◌||◌, ◌&&◌}
use Rattle.core_language.specs.Names.{Ident, same}
use Rattle.core_language.specs.Programs.{Body, Arms}
use Rattle.core_language.specs.Programs as body
use Rattle.core_language.specs.Configurations.{in_term, in_supply, in_supplies}

abbrev mutual
  -- the body names the variable in an operand, a value, a channel or what it takes apart, before a form binds the name
  pub needs : Body → Ident → Bool
  needs (body.Let span y term next) x = in_term x term || (needs next x && not (same y x))
  needs (body.Mul span y left right next) x = (in_term x left || in_term x right) || (needs next x && not (same y x))
  needs (body.Div span y term divisor next) x = in_term x term || (needs next x && not (same y x))
  needs (body.Rem span y term divisor next) x = in_term x term || (needs next x && not (same y x))
  needs (body.Call span pat func values proof next) x = in_supplies x values || (needs next x && not (same pat.name x))
  needs (body.Tail span func values proof) x = in_supplies x values
  needs (body.Fork span y proto func values proof next) x = in_supplies x values || (needs next x && not (same y x))
  needs (body.Send1 span channel path value proof next) x = (same x channel || in_supply x value) || needs next x
  needs (body.Recv1 span pat channel path proof next) x = same x channel || (needs next x && not (same pat.name x))
  needs (body.Print span term next) x = in_term x term || needs next x
  needs (body.If span left right this other) x = (in_term x left || in_term x right) || (needs this x || needs other x)
  needs (body.Split span first second y next) x = same x y || (needs next x && not (same first.name x || same second.name x))
  needs (body.Match span y arms) x = same x y || arms_need arms x
  needs (body.Absurd span proof) x = false
  needs (body.Ret span value proof) x = in_supply x value

  -- the body of some arm needs it, and the arm's value doesn't get its name
  pub arms_need : Arms → Ident → Bool
  arms_need body.NoArm x = false
  arms_need (body.Arm pat next more) x = (needs next x && not (same pat.name x)) || arms_need more x
