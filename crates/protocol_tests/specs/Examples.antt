-- The protocols of the cases of `unfold`, as the core language has them.
use Rattle.std.specs.Prelude.{ℤ, pos, negsuc, false, List, [], ◌∷◌, Option, Some, None}
use Rattle.core_language.specs.Names.{Ident}
use Rattle.core_language.specs.Terms.{Part, Term, Limit, Bound, AtMost}
use Rattle.core_language.specs.Resources.{Ref, Res, Equation, Proto, Send, Recv, Close, Wait, Branch, Binds, Int}
use Rattle.outline_language.specs.Equations.{no_bound}

-- ---- names

abbrev pub n : Ident
n = 110 ∷ []

abbrev pub k : Ident
k = 107 ∷ []

abbrev pub Ping : Ident
Ping = 80 ∷ 105 ∷ 110 ∷ 103 ∷ []

abbrev pub Go : Ident
Go = 71 ∷ 111 ∷ []

abbrev pub Pong : Ident
Pong = 80 ∷ 111 ∷ 110 ∷ 103 ∷ []

abbrev pub Stop : Ident
Stop = 83 ∷ 116 ∷ 111 ∷ 112 ∷ []

abbrev pub Twice : Ident
Twice = 84 ∷ 119 ∷ 105 ∷ 99 ∷ 101 ∷ []

abbrev pub Big : Ident
Big = 66 ∷ 105 ∷ 103 ∷ []

abbrev pub Wide : Ident
Wide = 87 ∷ 105 ∷ 100 ∷ 101 ∷ []

abbrev pub Far : Ident
Far = 70 ∷ 97 ∷ 114 ∷ []

abbrev pub Quiet : Ident
Quiet = 81 ∷ 117 ∷ 105 ∷ 101 ∷ 116 ∷ []

abbrev pub Load : Ident
Load = 76 ∷ 111 ∷ 97 ∷ 100 ∷ []

abbrev pub Rest : Ident
Rest = 82 ∷ 101 ∷ 115 ∷ 116 ∷ []

abbrev pub Ask : Ident
Ask = 65 ∷ 115 ∷ 107 ∷ []

-- ---- parts of protocols

abbrev pub part : ℤ → Option Ident → Part
part factor name = record { negative = false; factor = factor; name = name }

-- `factor*n + constant`
abbrev pub sum : ℤ → ℤ → Term
sum factor constant = part factor (Some n) ∷ part constant None ∷ []

abbrev pub bare : Ident → Term
bare name = part (pos 1) (Some name) ∷ []

abbrev pub at_most : Term → Term → Limit
at_most left right = record { left = left; relation = AtMost; right = right }

-- 0 <= k
abbrev pub low : Limit
low = at_most (sum (pos 0) (pos 0)) (bare k)

-- k <= n
abbrev pub high : Limit
high = at_most (bare k) (sum (pos 1) (pos 0))

-- k: 0 <= k, k <= n
abbrev pub within : Bound
within = record { names = k ∷ []; limits = low ∷ high ∷ [] }

-- [k: 0 <= k, k <= n] int(k)
abbrev pub asked : Res
asked = Binds within (Int (bare k))

abbrev pub most : ℤ
most = pos 9223372036854775807

abbrev pub least : ℤ
least = negsuc 9223372036854775807

abbrev pub int : ℤ → ℤ → Res
int factor constant = Binds no_bound (Int (sum factor constant))

abbrev pub end : Ident → Term → Ref
end name arg = record { dual = false; name = name; args = arg ∷ [] }

abbrev pub stop_end : Ref
stop_end = record { dual = false; name = Stop; args = [] }

abbrev pub defined : Ident → List Ident → Equation → Proto
defined name params equation = record { name = name; params = params; equation = equation }

-- a protocol with the parameter `n`
abbrev pub proto : Ident → Equation → Proto
proto name equation = defined name (n ∷ []) equation

-- ---- protocols

-- if n <= 0 then Stop() else Go(n)
abbrev pub ping : Proto
ping = proto Ping (Branch (sum (pos 1) (pos 0)) (sum (pos 0) (pos 0)) stop_end (end Go (sum (pos 1) (pos 0))))

-- send int(n) then Pong(n)
abbrev pub go : Proto
go = proto Go (Send (int (pos 1) (pos 0)) (Some (end Pong (sum (pos 1) (pos 0)))))

-- recv int(n) then Ping(n - 1)
abbrev pub pong : Proto
pong = proto Pong (Recv (int (pos 1) (pos 0)) (Some (end Ping (sum (pos 1) (negsuc 0)))))

-- close
abbrev pub stop : Proto
stop = defined Stop [] Close

-- if n <= 0 then Ping(n) else Ping(n - 1)
abbrev pub twice : Proto
twice = proto Twice (Branch (sum (pos 1) (pos 0)) (sum (pos 0) (pos 0)) (end Ping (sum (pos 1) (pos 0))) (end Ping (sum (pos 1) (negsuc 0))))

-- if most*n <= 0 then Stop() else Stop()
abbrev pub big : Proto
big = proto Big (Branch (sum most (pos 0)) (sum (pos 0) (pos 0)) stop_end stop_end)

-- if n <= least then Stop() else Stop()
abbrev pub wide : Proto
wide = proto Wide (Branch (sum (pos 1) (pos 0)) (sum (pos 0) least) stop_end stop_end)

-- if n <= 0 then Quiet(most*n) else Stop()
abbrev pub far : Proto
far = proto Far (Branch (sum (pos 1) (pos 0)) (sum (pos 0) (pos 0)) (end Quiet (sum most (pos 0))) stop_end)

-- close
abbrev pub quiet : Proto
quiet = proto Quiet Close

-- send int(most*n)
abbrev pub load : Proto
load = proto Load (Send (int most (pos 0)) None)

-- wait
abbrev pub rest : Proto
rest = proto Rest Wait

-- recv [k: 0 <= k, k <= n] int(k) then Stop()
abbrev pub ask : Proto
ask = proto Ask (Recv asked (Some stop_end))

abbrev pub examples : List Proto
examples = ping ∷ go ∷ pong ∷ stop ∷ twice ∷ big ∷ wide ∷ far ∷ quiet ∷ load ∷ rest ∷ ask ∷ []
