-- The functions that send have the spans of the protocols and of their statements.
use Rattle.std.proofs.Common.{ℕ, suc, ◌+◌, pos, Bool, true, false, not, codes, if◌then◌else◌, Some, List, [], ◌∷◌, ◌++◌, map, length}
use Rattle.core_language.specs.Names.{Ident}
use Rattle.core_language.specs.Terms as core
use Rattle.chan_base.specs.declared.spans.Span.{Span}
use Rattle.chan_syntax.specs.declared.linear.Term.{Term}
use Rattle.chan_syntax.specs.declared.linear.Bound.{Bound}
use Rattle.chan_syntax.specs.declared.operands.Letter.{Letter}
use Rattle.chan_syntax.specs.declared.operands.Letter.TheVariants as letter
use Rattle.chan_syntax.specs.declared.operands.Supply.TheVariants as supply
use Rattle.chan_syntax.specs.declared.operands.WrittenCert.{WrittenCert}
use Rattle.chan_syntax.specs.declared.resources.Shape.{Shape, Unit, Int, End, Pair', Sum', Row_of-Res, end_of-Res, more_of-Res}
use Rattle.session_lowering.specs.declared.puts.Put.{Put}
use Rattle.session_lowering.specs.MadeNames.{numbered_from}
use Rattle.session_lowering.specs.declared.sources.Source.{Source}
use Rattle.session_lowering.specs.declared.events.Sending.{Sending}
use Rattle.session_lowering.specs.PutTerms.{puts, put_in_parts, number_term, put_limit, put_ref}
use Rattle.session_lowering.specs.Sends.{Message, Stop, Fork, next_stop, puts_at, turned_if, fork_at}
use Rattle.session_lowering.specs.Helpers.{at_all, names_as_terms, own_names, own_ref, own_stop, own_stops, own_end, put_term_more, letter_limit, path_limits, sent_names, sent_puts, binders_of, binders_in, inside_names, inside_puts, renamed_bound, renamed_shape, renamed_row, asks_nothing, rows_of_limits, hypothesis, hypotheses_from, limits_of, params, helper_proof, variable, helper}
use Rattle.fault_places.specs.Spans.{Every, OfNames, InPart, InTerm, InLimit, InBound, InRef, InShape, InBoxedRes, InResources, InParam, InSupply, InCert, InProof}
use Rattle.fault_places.specs.SurfaceTrees.{InSurfaceFunc}
use Rattle.fault_places.proofs.PlacedOperands.{in_pair}
use Rattle.lowered_places.proofs.PutSpans.{every_append, every_map, InPut, parts_in, name_in, number_in, normal_in, puts_in, names_in, at_all_in, put_term_in, put_limit_in, put_ref_in}
use Rattle.lowered_places.proofs.PathSpans.{InSource, InSending, InStop, InFork, InMessage, turned_in, fork_at_in, stop_in, stop_puts_in, next_stop_in, beyond_in, stops_in, last_in}

module _ (P : Span → Type 0) (span : Span) (here : P span) where
  -- ---- shapes whose binders are renamed

  inside_in : (n : ℕ) (b : Bound) (ps : List Put) → Every (InPut P) ps → Every (InPut P) (inside_puts span n b ps)
  inside_in n b ps all =
      every_append (InPut P) (puts b.names (names_as_terms span (inside_names n b))) ps (puts_in P b.names (names_as_terms span (inside_names n b)) (names_in P span here (inside_names n b))) all

  -- there are as many new names as old ones
  spans_in : (base : Ident) (k : ℕ) (names : List Ident) → OfNames P (numbered_from base k names) (at_all span names)
  spans_in base k [] = tt
  spans_in base k (x ∷ xs) = (here, spans_in base (suc k) xs)

  bound_in : (n : ℕ) (b : Bound) (ps : List Put) → Every (InPut P) ps → InBound P b → InBound P (renamed_bound span n b ps)
  bound_in n b ps all in_b =
      (spans_in (codes "s") n b.names, every_map (InLimit P) (InLimit P) (put_limit span (inside_puts span n b ps)) (put_limit_in P span here (inside_puts span n b ps) (inside_in n b ps all)) b.limits in_b.1)

  mutual
    unfolding renamed_shape renamed_row

    pub shape_in : (n : ℕ) (ps : List Put) → Every (InPut P) ps → (x : Shape) → InShape P x → InShape P (renamed_shape span n ps x)
    shape_in n ps all Unit in_x = tt
    shape_in n ps all (Int t) in_x = put_term_in P span here ps all t in_x
    shape_in n ps all (End r) in_x = put_ref_in P span here ps all r in_x
    shape_in n ps all (Pair' m a k b) in_x = (boxed_in n ps all a in_x.0, boxed_in (n + binders_in a) ps all b in_x.1)
    shape_in n ps all (Sum' m arms) in_x = all_in n ps all arms in_x

    boxed_in : {m : _} (n : ℕ) (ps : List Put) → Every (InPut P) ps → (r : Row_of-Res m) → InBoxedRes P r → InBoxedRes P (renamed_row span n ps r)
    boxed_in n ps all end_of-Res in_r = tt
    boxed_in n ps all (more_of-Res b x rest) in_r = (bound_in n b ps all in_r.0, shape_in (n + length b.names) (inside_puts span n b ps) (inside_in n b ps all) x in_r.1)

    all_in : {m : _} (n : ℕ) (ps : List Put) → Every (InPut P) ps → (r : Row_of-Res m) → InResources P r → InResources P (renamed_row span n ps r)
    all_in n ps all end_of-Res in_r = tt
    all_in n ps all (more_of-Res b x rest) in_r =
        ((bound_in n b ps all in_r.0.0, shape_in (n + length b.names) (inside_puts span n b ps) (inside_in n b ps all) x in_r.0.1), all_in ((n + length b.names) + binders_of x) ps all rest in_r.1)

  -- ---- certificates

  one_or_none : (t : Bool) (c : WrittenCert) (cs : List WrittenCert) → InCert P c → Every (InCert P) cs → Every (InCert P) (if t then cs else (c ∷ cs))
  one_or_none true c cs in_c in_cs = in_cs
  one_or_none false c cs in_c in_cs = (in_c, in_cs)

  pub hypotheses_in : (i : ℕ) (rows : List core.Term) → Every (InCert P) (hypotheses_from span i rows)
  hypotheses_in i [] = tt
  hypotheses_in i (row ∷ rows) = one_or_none (asks_nothing row) (hypothesis span i) (hypotheses_from span (i + 1) rows) (tt, ((here, here, here), tt), here) (hypotheses_in (i + 1) rows)

  -- ---- limits along the path

  more_in : (ps : List Put) → Every (InPut P) ps → (t : Term) → InTerm P t → InTerm P (put_term_more span ps t)
  more_in ps all t in_t =
      normal_in P span (put_in_parts ps t.parts ++ (number_term span (pos 1)).parts) here
      (every_append (InPart P) (put_in_parts ps t.parts) (number_term span (pos 1)).parts (parts_in P ps t.parts all in_t.0) (number_in P span (pos 1) here).0)

  letter_in : (ps : List Put) → Every (InPut P) ps → (fork : Fork) (l : Letter) → InFork P fork → InLimit P (letter_limit span ps fork l)
  letter_in ps all fork letter.Left in_fork = (put_term_in P span here ps all fork.left in_fork.0, put_term_in P span here ps all fork.right in_fork.1)
  letter_in ps all fork letter.Right in_fork = (more_in ps all fork.right in_fork.1, put_term_in P span here ps all fork.left in_fork.0)

  pub path_limits_in : (ss : List Source) → Every (InSource P) ss → (ls : List Letter) (stop : Stop) → InStop P stop → Every (InLimit P) (path_limits ss span ls stop)
  path_limits_in ss all [] stop in_stop = tt
  path_limits_in ss all (l ∷ ls) stop in_stop =
      beyond_in P ss all span here (InLimit P) (fork_at stop.source) (λ fork. letter_limit span (puts_at stop) fork l ∷ path_limits ss span ls (next_stop ss span stop fork l)) (fork_at_in P stop.source in_stop.1)
      (λ fork in_fork. (
        letter_in (puts_at stop) (stop_puts_in P ss all span here stop in_stop) fork l in_fork,
        path_limits_in ss all ls (next_stop ss span stop fork l) (next_stop_in P ss all span here stop fork l in_stop in_fork),
      ))

-- ---- the function

module _ (P : Span → Type 0) (ss : List Source) (all : Every (InSource P) ss) (s : Sending) (in_s : InSending P s) (m : Message) (in_m : InMessage P (Some m)) where
  at_s : P s.span
  at_s = in_s.6

  own_ref_in : InRef P (own_ref ss s)
  own_ref_in = let r = in_s.2 in (r.0, names_in P s.span at_s (own_names ss s), r.2)

  own_stop_in : InStop P (own_stop ss s)
  own_stop_in = stop_in P ss all (own_ref ss s) own_ref_in

  own_end_in : InStop P (own_end ss s)
  own_end_in = last_in P ss all (own_stop ss s) (own_stops ss s) own_stop_in (stops_in P ss all s.span at_s s.path (own_stop ss s) own_stop_in)

  sent_puts_in : Every (InPut P) (sent_puts ss s m)
  sent_puts_in =
      every_append (InPut P) (puts m.res.bound.names (names_as_terms s.span (sent_names m))) (puts_at (own_end ss s))
      (puts_in P m.res.bound.names (names_as_terms s.span (sent_names m)) (names_in P s.span at_s (sent_names m)))
      (stop_puts_in P ss all s.span at_s (own_end ss s) own_end_in)

  limits_in : Every (InLimit P) (limits_of ss s m)
  limits_in =
      every_append (InLimit P) (path_limits ss s.span s.path (own_stop ss s)) (map (put_limit s.span (sent_puts ss s m)) m.res.bound.limits)
      (path_limits_in P s.span at_s ss all s.path (own_stop ss s) own_stop_in)
      (every_map (InLimit P) (InLimit P) (put_limit s.span (sent_puts ss s m)) (put_limit_in P s.span at_s (sent_puts ss s m) sent_puts_in) m.res.bound.limits in_m.0.0.1)

  given_in : InRef P (turned_if (not (own_end ss s).ref.dual) (put_ref s.span (sent_puts ss s m) m.next))
  given_in = turned_in P (not (own_end ss s).ref.dual) (put_ref s.span (sent_puts ss s m) m.next) (put_ref_in P s.span at_s (sent_puts ss s m) sent_puts_in m.next in_m.1)

  params_in : Every (InParam P) (params ss s m)
  params_in = ((at_s, given_in), ((at_s, own_ref_in), ((at_s, shape_in P s.span at_s 0 (sent_puts ss s m) sent_puts_in m.res.shape in_m.0.1), tt)))

  value_in : InSupply P (supply.Pair (variable s.span (codes "v")) (variable s.span (codes "d")))
  value_in = in_pair P (variable s.span (codes "v")) (variable s.span (codes "d")) (name_in P s.span (codes "v") s.span at_s at_s) (name_in P s.span (codes "d") s.span at_s at_s)

  proof_in : InProof P (helper_proof ss s m)
  proof_in = (names_in P s.span at_s (sent_names m), hypotheses_in P s.span at_s 0 (rows_of_limits (limits_of ss s m)))

  pub helper_in : InSurfaceFunc P (helper ss s m)
  helper_in = (
    at_s,
    (at_all_in P s.span at_s (own_names ss s ++ sent_names m), limits_in),
    params_in,
    ((tt, tt), tt),
    (((at_s, in_s.3, value_in, proof_in, at_s), tt), (tt, (tt, tt), at_s)),
    at_s,
  )
