-- Which act a task has, by the kind that `Task::act` tells: for who asks it and makes the step then.
use Rattle.std.proofs.Common.{◌≡◌, ℤ}
use Rattle.core_language.specs.Acts as act
use Rattle.machine_tasks.specs.Kinds.{Silent, Print, Fork, Send, Recv, End, kind_of}
use Rattle.machine_tasks.specs.Moving.{IsPrint, IsQuiet}
use Rattle.machine_tasks.specs.Sharing.{IsFork, IsSend, IsRecv}

pub prints : (a : act.Act) (z : ℤ) → kind_of a ≡ Print z → IsQuiet a
prints (act.Silent place) z e = tt
prints (act.Print y place) z e = tt
prints (act.Fork child parent its) z e = let bad : ⊥ = cc in absurd bad
prints (act.Send channel v place) z e = let bad : ⊥ = cc in absurd bad
prints (act.Recv channel place) z e = let bad : ⊥ = cc in absurd bad
prints act.End z e = tt
prints act.IsEnded z e = let bad : ⊥ = cc in absurd bad
prints (act.IsHalted why) z e = let bad : ⊥ = cc in absurd bad
prints (act.IsStuck why) z e = let bad : ⊥ = cc in absurd bad

pub printing : (a : act.Act) (z : ℤ) → kind_of a ≡ Print z → IsPrint a
printing (act.Print y place) z e = tt
printing (act.Silent place) z e = let bad : ⊥ = cc in absurd bad
printing (act.Fork child parent its) z e = let bad : ⊥ = cc in absurd bad
printing (act.Send channel v place) z e = let bad : ⊥ = cc in absurd bad
printing (act.Recv channel place) z e = let bad : ⊥ = cc in absurd bad
printing act.End z e = let bad : ⊥ = cc in absurd bad
printing act.IsEnded z e = let bad : ⊥ = cc in absurd bad
printing (act.IsHalted why) z e = let bad : ⊥ = cc in absurd bad
printing (act.IsStuck why) z e = let bad : ⊥ = cc in absurd bad

pub forks : (a : act.Act) → kind_of a ≡ Fork → IsFork a
forks (act.Fork child parent its) e = tt
forks (act.Silent place) e = let bad : ⊥ = cc in absurd bad
forks (act.Print y place) e = let bad : ⊥ = cc in absurd bad
forks (act.Send channel v place) e = let bad : ⊥ = cc in absurd bad
forks (act.Recv channel place) e = let bad : ⊥ = cc in absurd bad
forks act.End e = let bad : ⊥ = cc in absurd bad
forks act.IsEnded e = let bad : ⊥ = cc in absurd bad
forks (act.IsHalted why) e = let bad : ⊥ = cc in absurd bad
forks (act.IsStuck why) e = let bad : ⊥ = cc in absurd bad

pub sends : (a : act.Act) → kind_of a ≡ Send → IsSend a
sends (act.Send channel v place) e = tt
sends (act.Silent place) e = let bad : ⊥ = cc in absurd bad
sends (act.Print y place) e = let bad : ⊥ = cc in absurd bad
sends (act.Fork child parent its) e = let bad : ⊥ = cc in absurd bad
sends (act.Recv channel place) e = let bad : ⊥ = cc in absurd bad
sends act.End e = let bad : ⊥ = cc in absurd bad
sends act.IsEnded e = let bad : ⊥ = cc in absurd bad
sends (act.IsHalted why) e = let bad : ⊥ = cc in absurd bad
sends (act.IsStuck why) e = let bad : ⊥ = cc in absurd bad

pub receives : (a : act.Act) → kind_of a ≡ Recv → IsRecv a
receives (act.Recv channel place) e = tt
receives (act.Silent place) e = let bad : ⊥ = cc in absurd bad
receives (act.Print y place) e = let bad : ⊥ = cc in absurd bad
receives (act.Fork child parent its) e = let bad : ⊥ = cc in absurd bad
receives (act.Send channel v place) e = let bad : ⊥ = cc in absurd bad
receives act.End e = let bad : ⊥ = cc in absurd bad
receives act.IsEnded e = let bad : ⊥ = cc in absurd bad
receives (act.IsHalted why) e = let bad : ⊥ = cc in absurd bad
receives (act.IsStuck why) e = let bad : ⊥ = cc in absurd bad

pub is_silent : (a : act.Act) → kind_of a ≡ Silent → IsQuiet a
is_silent (act.Silent place) e = tt
is_silent (act.Print y place) e = tt
is_silent (act.Fork child parent its) e = let bad : ⊥ = cc in absurd bad
is_silent (act.Send channel v place) e = let bad : ⊥ = cc in absurd bad
is_silent (act.Recv channel place) e = let bad : ⊥ = cc in absurd bad
is_silent act.End e = tt
is_silent act.IsEnded e = let bad : ⊥ = cc in absurd bad
is_silent (act.IsHalted why) e = let bad : ⊥ = cc in absurd bad
is_silent (act.IsStuck why) e = let bad : ⊥ = cc in absurd bad

pub ends : (a : act.Act) → kind_of a ≡ End → IsQuiet a
ends (act.Silent place) e = tt
ends (act.Print y place) e = tt
ends (act.Fork child parent its) e = let bad : ⊥ = cc in absurd bad
ends (act.Send channel v place) e = let bad : ⊥ = cc in absurd bad
ends (act.Recv channel place) e = let bad : ⊥ = cc in absurd bad
ends act.End e = tt
ends act.IsEnded e = let bad : ⊥ = cc in absurd bad
ends (act.IsHalted why) e = let bad : ⊥ = cc in absurd bad
ends (act.IsStuck why) e = let bad : ⊥ = cc in absurd bad
