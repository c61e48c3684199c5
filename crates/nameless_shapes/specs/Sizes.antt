-- How large shapes and resources are, by which a recursion over them ends.
use Rattle.std.specs.Prelude.{ℕ, suc, ◌+◌}
use Rattle.outline_language.specs.Nameless as nameless
use Rattle.outline_language.specs.Nameless.{Shape, Res, Resources}

abbrev mutual
  pub shape_size : Shape → ℕ
  shape_size nameless.Unit = 0
  shape_size (nameless.Int form) = 0
  shape_size (nameless.End ref) = 0
  shape_size (nameless.Pair r s) = suc (res_size r + res_size s)
  shape_size (nameless.Sum rs) = suc (resources_size rs)

  pub res_size : Res → ℕ
  res_size (nameless.Binds n limits s) = suc (shape_size s)

  pub resources_size : Resources → ℕ
  resources_size nameless.NoMore = 0
  resources_size (nameless.More r rs) = res_size r + resources_size rs
