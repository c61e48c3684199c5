-- Over protocols without names an end is followed as over the protocols.
use Rattle.std.proofs.Common.{◌≡◌, ℕ, Bool, true, false, if◌then◌else◌, List, [], ◌∷◌, map, length, Option, Some, None, Result, Ok, Err, IfOk, IfErr, refl, sym, ap, ◌∙◌, subst}
use Rattle.std.specs.Option.{option_map}
use Rattle.core_language.specs.Names.{Ident, same}
use Rattle.core_language.specs.Operands.{Letter, First, Second}
use Rattle.core_language.specs.Resources.{Proto, Equation, Res, Send, Recv, Close, Wait, Branch}
use Rattle.farkas_check.specs.declared.cert.Row.{Row}
use Rattle.outline_language.specs.Nameless.{Ref}
use Rattle.outline_language.specs.Contexts.{Context, Cursor, Why, WrongForm, and_then, or_why, provided}
use Rattle.outline_language.specs.Equations as equations
use Rattle.outline_language.specs.Paths as written
use Rattle.outline_language.specs.Paths.{Followed, Message, Unfolded}
use Rattle.outline_language.specs.Equations.{Direction}
use Rattle.chan_syntax.specs.Reading.{letter_of}
use Rattle.chan_syntax.specs.declared.operands.Letter.{Letter as Written}
use Rattle.chan_syntax.specs.declared.operands.Proof.{Proof}
use Rattle.nameless_shapes.specs.Parts.{ref_of}
use Rattle.nameless_shapes.specs.declared.shapes.Ref.{Ref as End}
use Rattle.outline_obligations.specs.Cursors.{cursor_at}
use Rattle.outline_obligations.specs.Reasons.{IsReason}
use Rattle.outline_obligations.specs.declared.cursors.Taken.{Taken}
use Rattle.outline_obligations.specs.declared.faults.ContextFault.{ContextFault}
use Rattle.protocol_tables.specs.Protocols.{Protocol, fork_read, message_read, protocol_read, protocol_named}
use Rattle.outline_paths.specs.Answers.{Serves, Unfolds, unfolded_of}
use Rattle.outline_paths.specs.declared.unfolding.Unfolded.{Unfolded as Found}
use Rattle.outline_paths.specs.Following as spec

named_read : (x : Ident) (ps : List Proto) → protocol_named x (map protocol_read ps) ≡ option_map protocol_read (equations.proto_named x ps)
named_read x [] = refl
named_read x (p ∷ ps) = pick (same p.name x) (named_read x ps)
  where
    pick : (b : Bool) → protocol_named x (map protocol_read ps) ≡ option_map protocol_read (equations.proto_named x ps)
        → (if b then Some (protocol_read p) else protocol_named x (map protocol_read ps)) ≡ option_map protocol_read (if b then Some p else equations.proto_named x ps)
    pick true rest = refl
    pick false rest = rest

then_same : {A B : Type 0} (f g : A → Result B Why) → ((a : A) → f a ≡ g a) → (r : Result A Why) → and_then r f ≡ and_then r g
then_same f g same (Ok a) = same a
then_same f g same (Err why) = refl

-- ---- the form of a path

end_read : (o : Option Proto) → spec.is_there (spec.message_at (option_map protocol_read o)) ≡ written.is_end o
end_read None = refl
end_read (Some p) = by p.equation
  where
    by : (e : Equation) → spec.is_there (option_map (message_read p.params) (equations.written_message e)) ≡ written.is_end (Some (record { name = p.name; params = p.params; equation = e }))
    by (Send res next) = refl
    by (Recv res next) = refl
    by Close = refl
    by Wait = refl
    by (Branch left right this other) = refl

module _ (again here : Ident → Bool) (same : (x : Ident) → again x ≡ here x) where
  fork_goes_on : (letter : Letter) (params : List Ident) (o : Option equations.Fork) → spec.goes_on again letter (option_map (fork_read params) o) ≡ written.goes_on here letter o
  fork_goes_on letter params None = refl
  fork_goes_on First params (Some fork) = same fork.this.name
  fork_goes_on Second params (Some fork) = same fork.other.name

  proto_goes_on : (letter : Letter) (o : Option Proto) → spec.goes_on again letter (spec.fork_at (option_map protocol_read o)) ≡ written.goes_on here letter (written.fork_at o)
  proto_goes_on letter None = refl
  proto_goes_on letter (Some p) = fork_goes_on letter p.params (equations.fork_of p.equation)

path_read : (ps : List Proto) (path : List Letter) (x : Ident) → spec.is_path (map protocol_read ps) path x ≡ written.is_path ps path x
path_read ps [] x = ap (λ o. spec.is_there (spec.message_at o)) (named_read x ps) ∙ end_read (equations.proto_named x ps)
path_read ps (letter ∷ letters) x =
    ap (λ o. spec.goes_on (spec.is_path (map protocol_read ps) letters) letter (spec.fork_at o)) (named_read x ps)
    ∙ proto_goes_on (spec.is_path (map protocol_read ps) letters) (written.is_path ps letters) (path_read ps letters) letter (equations.proto_named x ps)

-- ---- letters and the message

module _ (ps : List Proto) (ctx : Context) where
  letter_read : (letter : Letter) (at : Followed) → spec.follow_letter (map protocol_read ps) (length ctx.ints) ctx.hyps letter at ≡ written.follow_letter ps ctx letter at
  letter_read letter at =
      ap (λ o. and_then (or_why (spec.fork_at o) WrongForm) (λ fork. spec.take_letter (length ctx.ints) ctx.hyps letter fork at)) (named_read at.end.name ps)
      ∙ at_proto (equations.proto_named at.end.name ps)
    where
      at_fork : (letter : Letter) (params : List Ident) (o : Option equations.Fork)
          → and_then (or_why (option_map (fork_read params) o) WrongForm) (λ fork. spec.take_letter (length ctx.ints) ctx.hyps letter fork at)
          ≡ and_then (or_why o WrongForm) (λ fork. written.take_letter params ctx letter fork at)
      at_fork letter params None = refl
      at_fork First params (Some fork) = refl
      at_fork Second params (Some fork) = refl

      at_proto : (o : Option Proto)
          → and_then (or_why (spec.fork_at (option_map protocol_read o)) WrongForm) (λ fork. spec.take_letter (length ctx.ints) ctx.hyps letter fork at)
          ≡ and_then (or_why o WrongForm) (λ proto. and_then (or_why (equations.fork_of proto.equation) WrongForm) (λ fork. written.take_letter proto.params ctx letter fork at))
      at_proto None = refl
      at_proto (Some p) = at_fork letter p.params (equations.fork_of p.equation)

  follow_read : (path : List Letter) (at : Followed) → spec.follow (map protocol_read ps) (length ctx.ints) ctx.hyps path at ≡ written.follow ps ctx path at
  follow_read [] at = refl
  follow_read (letter ∷ letters) at =
      ap (λ r. and_then r (spec.follow (map protocol_read ps) (length ctx.ints) ctx.hyps letters)) (letter_read letter at)
      ∙ then_same (spec.follow (map protocol_read ps) (length ctx.ints) ctx.hyps letters) (written.follow ps ctx letters) (follow_read letters) (written.follow_letter ps ctx letter at)

  message_of_read : (end : Ref) → spec.message_of (map protocol_read ps) end ≡ written.message_at ps end
  message_of_read end =
      ap (λ o. and_then (or_why (spec.message_at o) WrongForm) (spec.told end)) (named_read end.name ps) ∙ at_proto (equations.proto_named end.name ps)
    where
      at_message : (params : List Ident) (o : Option (Direction × Res))
          → and_then (or_why (option_map (message_read params) o) WrongForm) (spec.told end)
          ≡ and_then (or_why o WrongForm) (λ message. spec.told end (message_read params message))
      at_message params None = refl
      at_message params (Some m) = refl

      at_proto : (o : Option Proto)
          → and_then (or_why (spec.message_at (option_map protocol_read o)) WrongForm) (spec.told end)
          ≡ and_then (or_why o WrongForm) (λ proto. and_then (or_why (equations.written_message proto.equation) WrongForm) (λ message. spec.told end (message_read proto.params message)))
      at_proto None = refl
      at_proto (Some p) = at_message p.params (equations.written_message p.equation)

  unfolded_read : (end : Ref) (path : List Letter) (cursor : Cursor) → spec.unfolded (map protocol_read ps) (length ctx.ints) ctx.hyps end path cursor ≡ written.unfolded ps ctx end path cursor
  unfolded_read end path cursor =
      ap (λ b. and_then (provided b WrongForm (record { end = end; cursor = cursor })) goes) (path_read ps path end.name)
      ∙ then_same goes goes_on followed (provided (written.is_path ps path end.name) WrongForm (record { end = end; cursor = cursor }))
    where
      ends : Followed → Message → Result Unfolded Why
      ends last message = Ok (record { message = message; cursor = last.cursor })

      tells : Followed → Result Unfolded Why
      tells last = and_then (spec.message_of (map protocol_read ps) last.end) (ends last)

      tells_on : Followed → Result Unfolded Why
      tells_on last = and_then (written.message_at ps last.end) (ends last)

      goes : Followed → Result Unfolded Why
      goes at = and_then (spec.follow (map protocol_read ps) (length ctx.ints) ctx.hyps path at) tells

      goes_on : Followed → Result Unfolded Why
      goes_on at = and_then (written.follow ps ctx path at) tells_on

      followed : (at : Followed) → goes at ≡ goes_on at
      followed at = ap (λ r. and_then r tells) (follow_read path at)
          ∙ then_same tells tells_on (λ last. ap (λ r. and_then r (ends last)) (message_of_read last.end)) (written.follow ps ctx path at)

-- the answer over what protocols and a context serve
served : (protocols : List Protocol) (variables : ℕ) (hyps : List Row) (ps : List Proto) (ctx : Context) → Serves protocols variables hyps ps ctx
    → (end : Ref) (path : List Letter) (cursor : Cursor) → written.unfolded ps ctx end path cursor ≡ spec.unfolded protocols variables hyps end path cursor
served protocols variables hyps ps ctx serves end path cursor =
    sym (unfolded_read ps ctx end path cursor)
    ∙ ap (λ all. spec.unfolded all (length ctx.ints) ctx.hyps end path cursor) (sym serves.table)
    ∙ ap (λ n. spec.unfolded protocols n ctx.hyps end path cursor) serves.ints
    ∙ ap (λ rows. spec.unfolded protocols variables rows end path cursor) serves.rows

module _ (protocols : List Protocol) (variables : ℕ) (hyps : List Row) (end : End) (letters : List Written) (proof : Proof) (taken : Taken) where
  pub served_ok : (r : Result Found ContextFault) → IfOk r (λ u. spec.unfolded protocols variables hyps (ref_of end) (map letter_of letters) (cursor_at proof taken) ≡ Ok (unfolded_of proof u))
      → IfOk r (λ u. Unfolds (λ answer. answer ≡ Ok (unfolded_of proof u)) protocols variables hyps end letters proof taken)
  served_ok (Ok u) is = λ ps ctx serves. served protocols variables hyps ps ctx serves (ref_of end) (map letter_of letters) (cursor_at proof taken) ∙ is
  served_ok (Err fault) is = tt

  pub served_err : (r : Result Found ContextFault) → IfErr r (IsReason (spec.unfolded protocols variables hyps (ref_of end) (map letter_of letters) (cursor_at proof taken)))
      → IfErr r (λ fault. Unfolds (λ answer. IsReason answer fault) protocols variables hyps end letters proof taken)
  served_err (Ok u) is = tt
  served_err (Err fault) is = λ ps ctx serves.
      subst (λ (answer : Result Unfolded Why). IsReason answer fault) (sym (served protocols variables hyps ps ctx serves (ref_of end) (map letter_of letters) (cursor_at proof taken))) is
