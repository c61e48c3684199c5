-- Statements that send and go on, and where their references lead along their paths.
use Rattle.std.specs.Prelude.{ℕ, codes, ◌+◌, Bool, true, false, not, ◌||◌, if◌then◌else◌, nat_eq, List, [], ◌∷◌, ◌++◌, length, Option, Some, None}
use Rattle.core_language.specs.Names.{Ident}
use Rattle.chan_base.specs.declared.spans.Span.{Span}
use Rattle.chan_syntax.specs.declared.linear.Term.{Term}
use Rattle.chan_syntax.specs.declared.resources.Ref.{Ref}
use Rattle.chan_syntax.specs.declared.resources.Res.{Res}
use Rattle.chan_syntax.specs.declared.resources.Equation.{Equation}
use Rattle.chan_syntax.specs.declared.resources.Equation.TheVariants as equation
use Rattle.chan_syntax.specs.declared.operands.Letter.{Letter}
use Rattle.chan_syntax.specs.declared.operands.Letter.TheVariants as letter
use Rattle.session_lowering.specs.declared.events.Sending.{Sending}
use Rattle.session_lowering.specs.MadeNames.{dotted}
use Rattle.session_lowering.specs.declared.puts.Put.{Put}
use Rattle.session_lowering.specs.PutTerms.{puts, put_ref}
use Rattle.session_lowering.specs.declared.sources.Source.{Source}
use Rattle.session_lowering.specs.Choices.{source_named}

-- ---- along a path

-- the other end, where the mark is set
abbrev pub turned_if : Bool → Ref → Ref
turned_if mark r = if mark then record r { dual = not r.dual } else r

-- an `if` equation
pub record Fork : Type 0 where
  pub left : Term
  pub right : Term
  pub this : Ref
  pub other : Ref

abbrev pub fork_of : Equation → Option Fork
fork_of (equation.Branch left right this other) = Some (record { left = left; right = right; this = this; other = other })
fork_of _ = None

abbrev pub on_way : Letter → Fork → Ref
on_way letter.Left fork = fork.this
on_way letter.Right fork = fork.other

-- a reference that was come to, its arguments put in and its mark applied, and its protocol where one is declared
pub record Stop : Type 0 where
  pub ref : Ref
  pub source : Option Source

abbrev pub stop_at : List Source → Ref → Stop
stop_at sources r = record { ref = r; source = source_named sources r.name }

abbrev pub fork_at : Option Source → Option Fork
fork_at None = None
fork_at (Some source) = fork_of source.proto.equation

abbrev pub params_at : Option Source → List Ident
params_at None = []
params_at (Some source) = source.proto.params

-- the arguments for the parameters
abbrev pub puts_at : Stop → List Put
puts_at stop = puts (params_at stop.source) stop.ref.args

-- the reference that the letter picks, the arguments put in and the mark applied
abbrev pub next_ref : Span → Stop → Fork → Letter → Ref
next_ref span stop fork letter = turned_if stop.ref.dual (put_ref span (puts_at stop) (on_way letter fork))

-- what lies beyond an `if` equation, if it is one
abbrev pub beyond : {A : Type 0} → Option Fork → (Fork → List A) → List A
beyond None go = []
beyond (Some fork) go = go fork

abbrev pub next_stop : List Source → Span → Stop → Fork → Letter → Stop
next_stop sources span stop fork letter = stop_at sources (next_ref span stop fork letter)

-- where the reference leads, one stop for each letter, as far as it leads
abbrev pub stops : List Source → Span → List Letter → Stop → List Stop
stops sources span [] stop = []
stops sources span (l ∷ ls) stop =
    beyond (fork_at stop.source) (λ fork. next_stop sources span stop fork l ∷ stops sources span ls (next_stop sources span stop fork l))

abbrev pub last_of : Stop → List Stop → Stop
last_of stop [] = stop
last_of stop (s ∷ ss) = last_of s ss

-- ---- where it ends

-- what is sent, and the reference that goes on; the mark isn't applied to it yet
pub record Message : Type 0 where
  pub res : Res
  pub next : Ref

abbrev pub and_then_next : Res → Option Ref → Option Message
and_then_next res None = None
and_then_next res (Some next) = Some (record { res = res; next = next })

-- an equation that sends, or one that receives where the mark is set
abbrev pub sent_by : (dual : Bool) → Equation → Option Message
sent_by false (equation.Send res next) = and_then_next res next
sent_by true (equation.Recv res next) = and_then_next res next
sent_by _ _ = None

abbrev pub sent_by_source : (chooses dual : Bool) → Option Source → Option Message
sent_by_source chooses dual None = None
sent_by_source chooses dual (Some source) = if not chooses || source.chooses then sent_by dual source.proto.equation else None

-- ---- of a statement

abbrev pub first_stop : List Source → Sending → Stop
first_stop sources s = stop_at sources s.proto

abbrev pub stops_of : List Source → Sending → List Stop
stops_of sources s = stops sources s.span s.path (first_stop sources s)

abbrev pub end_of : List Source → Sending → Stop
end_of sources s = last_of (first_stop sources s) (stops_of sources s)

-- each letter has its stop
abbrev pub leads_on : List Source → Sending → Bool
leads_on sources s = nat_eq (length (stops_of sources s)) (length s.path)

abbrev pub message_of : List Source → Sending → Option Message
message_of sources s = if leads_on sources s then sent_by_source s.chooses (end_of sources s).ref.dual (end_of sources s).source else None

-- the first instances stand for the binders, the arguments for the parameters
abbrev pub goes_on_as : List Source → Sending → Message → Ref
goes_on_as sources s m =
    turned_if (end_of sources s).ref.dual (put_ref s.span (puts m.res.bound.names s.proof.instances ++ puts_at (end_of sources s)) m.next)

abbrev pub or_itself : List Source → Sending → Option Message → Ref
or_itself sources s None = s.proto
or_itself sources s (Some m) = goes_on_as sources s m

-- the reference of the end that the statement gives
abbrev pub rest_of : List Source → Sending → Ref
rest_of sources s = or_itself sources s (message_of sources s)

abbrev pub letter_codes : Letter → List ℕ
letter_codes letter.Left = codes "l"
letter_codes letter.Right = codes "r"

abbrev pub path_codes : List Letter → List ℕ
path_codes [] = []
path_codes (l ∷ ls) = letter_codes l ++ path_codes ls

abbrev pub with_path : Ident → List Letter → Ident
with_path name [] = name
with_path name (l ∷ ls) = dotted name (path_codes (l ∷ ls))

-- P.send or P.dual, and the path where there is one
abbrev pub helper_name : Sending → Ident
helper_name s = with_path (dotted s.proto.name (if s.proto.dual then codes "dual" else codes "send")) s.path
