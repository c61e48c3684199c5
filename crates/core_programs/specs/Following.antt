-- How many nodes a body has.
use Rattle.std.specs.Prelude.{ℕ, suc, ◌+◌}
use Rattle.core_language.specs.Programs.{Body, Arms}
use Rattle.core_language.specs.Programs as body

abbrev mutual
  pub size : Body → ℕ
  size (body.Let span x term next) = suc (size next)
  size (body.Mul span x left right next) = suc (size next)
  size (body.Div span x term divisor next) = suc (size next)
  size (body.Rem span x term divisor next) = suc (size next)
  size (body.Call span pat func values proof next) = suc (size next)
  size (body.Tail span func values proof) = 1
  size (body.Fork span x proto func values proof next) = suc (size next)
  size (body.Send1 span channel path value proof next) = suc (size next)
  size (body.Recv1 span pat channel path proof next) = suc (size next)
  size (body.Print span term next) = suc (size next)
  size (body.If span left right this other) = suc (size this + size other)
  size (body.Split span first second x next) = suc (size next)
  size (body.Match span x arms) = suc (arms_size arms)
  size (body.Absurd span proof) = 1
  size (body.Ret span value proof) = 1

  pub arms_size : Arms → ℕ
  arms_size body.NoArm = 0
  arms_size (body.Arm pat next arms) = size next + arms_size arms
