-- The form of a statement.
use Rattle.std.specs.Prelude.{Bool, true, false}
use Rattle.chan_syntax.specs.declared.surface_tree.Stmt.{Stmt, Let, Mul, Div, Rem, Call, Fork, Send1, Recv1, Split, Print}

abbrev pub is_let : Stmt → Bool
is_let (Let _ _ _ _) = true
is_let other = false

abbrev pub is_mul : Stmt → Bool
is_mul (Mul _ _ _ _ _) = true
is_mul other = false

abbrev pub is_div : Stmt → Bool
is_div (Div _ _ _ _ _ _) = true
is_div other = false

abbrev pub is_rem : Stmt → Bool
is_rem (Rem _ _ _ _ _ _) = true
is_rem other = false

abbrev pub is_call : Stmt → Bool
is_call (Call _ _ _ _ _ _) = true
is_call other = false

abbrev pub is_fork : Stmt → Bool
is_fork (Fork _ _ _ _ _ _ _ _) = true
is_fork other = false

abbrev pub is_send : Stmt → Bool
is_send (Send1 _ _ _ _ _ _ _) = true
is_send other = false

abbrev pub is_recv : Stmt → Bool
is_recv (Recv1 _ _ _ _ _ _ _) = true
is_recv other = false

abbrev pub is_split : Stmt → Bool
is_split (Split _ _ _ _ _) = true
is_split other = false

abbrev pub is_print : Stmt → Bool
is_print (Print _ _) = true
is_print other = false
