-- Where the references of sends lead, spans are those of the protocols and of the statement.
use Rattle.std.proofs.Common.{Bool, true, false, not, ◌||◌, if◌then◌else◌, Option, Some, None, List, [], ◌∷◌, ◌++◌}
use Rattle.core_language.specs.Names.{Ident, same}
use Rattle.chan_base.specs.declared.spans.Span.{Span}
use Rattle.chan_syntax.specs.declared.resources.Ref.{Ref}
use Rattle.chan_syntax.specs.declared.resources.Res.{Res}
use Rattle.chan_syntax.specs.declared.resources.Equation.{Equation}
use Rattle.chan_syntax.specs.declared.resources.Equation.TheVariants as equation
use Rattle.chan_syntax.specs.declared.operands.Letter.{Letter}
use Rattle.chan_syntax.specs.declared.operands.Letter.TheVariants as letter
use Rattle.session_lowering.specs.declared.sources.Source.{Source}
use Rattle.session_lowering.specs.declared.events.Sending.{Sending}
use Rattle.session_lowering.specs.PutTerms.{puts, put_ref}
use Rattle.session_lowering.specs.Choices.{source_named}
use Rattle.session_lowering.specs.Sends.{Stop, Fork, Message, turned_if, fork_of, on_way, stop_at, fork_at, params_at, puts_at, next_ref, beyond, next_stop, stops, last_of, and_then_next, sent_by, sent_by_source, first_stop, stops_of, end_of, leads_on, message_of, goes_on_as, or_itself, rest_of}
use Rattle.fault_places.specs.Spans.{Every, OfAny, InTerm, InRef, InRes, InNext, InEquation, InSupply, InProof}
use Rattle.fault_places.specs.Programs.{InProto}
use Rattle.lowered_places.proofs.PutSpans.{every_append, InPut, puts_in, put_ref_in}

module _ (P : Span → Type 0) where
  abbrev pub InSource : Source → Type 0
  InSource s = InProto P s.proto

  abbrev pub InSome : Option Source → Type 0
  InSome None = Unit {0}
  InSome (Some s) = InSource s

  abbrev pub InSending : Sending → Type 0
  InSending s = P s.name_span × P s.channel_span × InRef P s.proto × OfAny P s.path_span × InSupply P s.value × InProof P s.proof × P s.span

  some_in : (t : Bool) (a b : Option Source) → InSome a → InSome b → InSome (if t then a else b)
  some_in true a b here there = here
  some_in false a b here there = there

  named_in : (ss : List Source) (x : Ident) → Every InSource ss → InSome (source_named ss x)
  named_in [] x all = tt
  named_in (s ∷ ss) x all = some_in (same s.proto.name x) (Some s) (source_named ss x) all.0 (named_in ss x all.1)

  abbrev pub InStop : Stop → Type 0
  InStop stop = InRef P stop.ref × InSome stop.source

  pub turned_in : (mark : Bool) (r : Ref) → InRef P r → InRef P (turned_if mark r)
  turned_in true r in_r = (in_r.0, in_r.1, in_r.2)
  turned_in false r in_r = in_r

  abbrev pub InFork : Fork → Type 0
  InFork f = InTerm P f.left × InTerm P f.right × InRef P f.this × InRef P f.other

  abbrev pub InSomeFork : Option Fork → Type 0
  InSomeFork None = Unit {0}
  InSomeFork (Some f) = InFork f

  fork_of_in : (e : Equation) → InEquation P e → InSomeFork (fork_of e)
  fork_of_in (equation.Send res next) in_e = tt
  fork_of_in (equation.Recv res next) in_e = tt
  fork_of_in equation.Close in_e = tt
  fork_of_in equation.Wait in_e = tt
  fork_of_in (equation.Branch left right this other) in_e = in_e

  pub fork_at_in : (o : Option Source) → InSome o → InSomeFork (fork_at o)
  fork_at_in None in_o = tt
  fork_at_in (Some s) in_o = fork_of_in s.proto.equation in_o.2

  way_in : (l : Letter) (f : Fork) → InFork f → InRef P (on_way l f)
  way_in letter.Left f in_f = in_f.2
  way_in letter.Right f in_f = in_f.3

  abbrev pub InMessage : Option Message → Type 0
  InMessage None = Unit {0}
  InMessage (Some m) = InRes P m.res × InRef P m.next

  next_in : (res : Res) (next : Option Ref) → InRes P res → InNext P next → InMessage (and_then_next res next)
  next_in res None in_res in_next = tt
  next_in res (Some r) in_res in_next = (in_res, in_next)

  sent_in : (dual : Bool) (e : Equation) → InEquation P e → InMessage (sent_by dual e)
  sent_in false (equation.Send res next) in_e = next_in res next in_e.0 in_e.1
  sent_in true (equation.Send res next) in_e = tt
  sent_in false (equation.Recv res next) in_e = tt
  sent_in true (equation.Recv res next) in_e = next_in res next in_e.0 in_e.1
  sent_in false equation.Close in_e = tt
  sent_in true equation.Close in_e = tt
  sent_in false equation.Wait in_e = tt
  sent_in true equation.Wait in_e = tt
  sent_in false (equation.Branch left right this other) in_e = tt
  sent_in true (equation.Branch left right this other) in_e = tt

  message_or : (t : Bool) (m : Option Message) → InMessage m → InMessage (if t then m else None)
  message_or true m in_m = in_m
  message_or false m in_m = tt

  by_source_in : (chooses dual : Bool) (o : Option Source) → InSome o → InMessage (sent_by_source chooses dual o)
  by_source_in chooses dual None in_o = tt
  by_source_in chooses dual (Some s) in_o = message_or (not chooses || s.chooses) (sent_by dual s.proto.equation) (sent_in dual s.proto.equation in_o.2)

  module _ (ss : List Source) (all : Every InSource ss) where
    pub stop_in : (r : Ref) → InRef P r → InStop (stop_at ss r)
    stop_in r in_r = (in_r, named_in ss r.name all)

    module _ (span : Span) (here : P span) where
      pub stop_puts_in : (stop : Stop) → InStop stop → Every (InPut P) (puts_at stop)
      stop_puts_in stop in_stop = puts_in P (params_at stop.source) stop.ref.args in_stop.0.1

      pub next_stop_in : (stop : Stop) (fork : Fork) (l : Letter) → InStop stop → InFork fork → InStop (next_stop ss span stop fork l)
      next_stop_in stop fork l in_stop in_fork =
          stop_in (next_ref span stop fork l)
          (turned_in stop.ref.dual (put_ref span (puts_at stop) (on_way l fork)) (put_ref_in P span here (puts_at stop) (stop_puts_in stop in_stop) (on_way l fork) (way_in l fork in_fork)))

      -- what holds beyond each fork holds of what lies beyond one, if any
      pub beyond_in : {X : Type 0} (Q : X → Type 0) (o : Option Fork) (go : Fork → List X) → InSomeFork o → ((f : Fork) → InFork f → Every Q (go f)) → Every Q (beyond o go)
      beyond_in Q None go in_o each = tt
      beyond_in Q (Some f) go in_o each = each f in_o

      pub stops_in : (ls : List Letter) (stop : Stop) → InStop stop → Every InStop (stops ss span ls stop)
      stops_in [] stop in_stop = tt
      stops_in (l ∷ ls) stop in_stop =
          beyond_in InStop (fork_at stop.source) (λ fork. next_stop ss span stop fork l ∷ stops ss span ls (next_stop ss span stop fork l)) (fork_at_in stop.source in_stop.1)
          (λ fork in_fork. let next = next_stop_in stop fork l in_stop in_fork in (next, stops_in ls (next_stop ss span stop fork l) next))

    pub last_in : (stop : Stop) (more : List Stop) → InStop stop → Every InStop more → InStop (last_of stop more)
    last_in stop [] in_stop in_more = in_stop
    last_in stop (s ∷ more) in_stop in_more = last_in s more in_more.0 in_more.1

    module _ (s : Sending) (in_s : InSending s) where
      pub first_in : InStop (first_stop ss s)
      first_in = stop_in s.proto in_s.2

      pub all_in : Every InStop (stops_of ss s)
      all_in = stops_in s.span in_s.6 s.path (first_stop ss s) first_in

      pub end_in : InStop (end_of ss s)
      end_in = last_in (first_stop ss s) (stops_of ss s) first_in all_in

      pub message_in : InMessage (message_of ss s)
      message_in =
          message_or (leads_on ss s) (sent_by_source s.chooses (end_of ss s).ref.dual (end_of ss s).source) (by_source_in s.chooses (end_of ss s).ref.dual (end_of ss s).source end_in.1)

      pub goes_on_in : (m : Message) → InMessage (Some m) → InRef P (goes_on_as ss s m)
      goes_on_in m in_m =
          let ps = puts m.res.bound.names s.proof.instances ++ puts_at (end_of ss s) in
          let in_ps = every_append (InPut P) (puts m.res.bound.names s.proof.instances) (puts_at (end_of ss s)) (puts_in P m.res.bound.names s.proof.instances in_s.5.0) (stop_puts_in s.span in_s.6 (end_of ss s) end_in) in
          turned_in (end_of ss s).ref.dual (put_ref s.span ps m.next) (put_ref_in P s.span in_s.6 ps in_ps m.next in_m.1)

      or_itself_in : (m : Option Message) → InMessage m → InRef P (or_itself ss s m)
      or_itself_in None in_m = in_s.2
      or_itself_in (Some m) in_m = goes_on_in m in_m

      pub rest_in : InRef P (rest_of ss s)
      rest_in = or_itself_in (message_of ss s) message_in
