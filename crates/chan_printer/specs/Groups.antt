-- Forms of statements, and of how blocks end, that one function writes.
use Rattle.chan_syntax.specs.declared.surface_tree.Stmt.{Stmt, Let, Mul, Div, Rem, Call, Fork, ForkDo', Send1, Recv1, Send, Recv, Close, Wait, Choose, Split, Print}
use Rattle.chan_syntax.specs.declared.surface_tree.Last.{Last, Ret, Tail, If', Match', Branch', Absurd, Loop', Again}

pub data Group : Type 0 where
  computation : Group
  start : Group
  exchange : Group
  message : Group
  signal : Group
  task : Group
  choice : Group
  session : Group
  end : Group

-- the group of a statement
abbrev pub group : Stmt → Group
group (Let _ _ _ _) = computation
group (Mul _ _ _ _ _) = computation
group (Div _ _ _ _ _ _) = computation
group (Rem _ _ _ _ _ _) = computation
group (Call _ _ _ _ _ _) = start
group (Fork _ _ _ _ _ _ _ _) = start
group (Print _ _) = start
group (Send1 _ _ _ _ _ _ _) = exchange
group (Recv1 _ _ _ _ _ _ _) = exchange
group (Split _ _ _ _ _) = exchange
group (Send _ _ _ _ _ _ _ _ _ _) = message
group (Recv _ _ _ _ _ _ _ _ _ _) = message
group (Close _ _ _ _ _ _) = signal
group (Wait _ _ _ _ _ _) = signal
group (Choose _ _ _ _ _ _ _ _ _ _) = signal
group (ForkDo' _ _ _ _ _ _ _ _ _ _ _ _ _ _) = task

-- the group of an end
abbrev pub group_of_last : Last → Group
group_of_last (If' _ _ _ _ _ _ _ _ _ _ _) = choice
group_of_last (Match' _ _ _ _ _) = choice
group_of_last (Branch' _ _ _ _ _ _ _ _ _ _ _ _) = session
group_of_last (Loop' _ _ _ _ _ _ _ _ _ _ _) = session
group_of_last (Again _ _ _) = session
group_of_last (Ret _ _ _) = end
group_of_last (Tail _ _ _ _ _) = end
group_of_last (Absurd _ _) = end
