-- Core trees and the faults of first passes have the spans of their trees.
use Rattle.std.proofs.Common.{◌≡◌, Bool, true, false, if◌then◌else◌, ◌||◌, nat_eq, nat_le, length, Option, Some, None, Ok, Err, IsTrue, List, [], ◌∷◌, ◌++◌, map, flat_map, subst}
use Rattle.core_language.specs.Names.{Ident}
use Rattle.chan_base.specs.declared.spans.Span.{Span}
use Rattle.chan_syntax.specs.declared.surface_tree.SurfaceFunc.{SurfaceFunc}
use Rattle.chan_syntax.specs.declared.surface_tree.Decl.{Decl}
use Rattle.chan_syntax.specs.declared.surface_tree.Decl.TheVariants as decl
use Rattle.chan_syntax.specs.declared.surface_tree.Surface.{Surface}
use Rattle.form_faults.specs.declared.faults.Ill.{Ill}
use Rattle.form_faults.specs.declared.faults.IllKind.TheVariants as kind
use Rattle.form_faults.specs.Faults.{least, sooner_of, is_sooner, of_name, unless}
use Rattle.session_lowering.specs.declared.sources.Source.{Source}
use Rattle.session_lowering.specs.declared.events.Sending.{Sending}
use Rattle.session_lowering.specs.declared.events.Event.{Event}
use Rattle.session_lowering.specs.declared.events.Event.TheVariants.{Sends, Strays}
use Rattle.session_lowering.specs.Choices.{sources}
use Rattle.session_lowering.specs.Sends.{Message, Stop, message_of, helper_name, first_stop, stops_of, end_of}
use Rattle.session_lowering.specs.FirstPass.{name_faults, stop_faults, way_faults, message_faults, end_faults, sending_fits, sending_faults, event_faults, or_else, first_pass}
use Rattle.session_lowering.specs.Lowered.{surface_proto, funcs_of, events_of, sendings, is_among, one_helper, helpers_but, helpers, events, core_tree, or_fault, desugared}
use Rattle.fault_places.specs.Spans.{Every}
use Rattle.fault_places.specs.SurfaceTrees.{InSurfaceFunc, InDecl, InSurface}
use Rattle.lowered_places.specs.Agains.{AgainsInDecl, AgainsIn}
use Rattle.lowered_places.specs.Laws.{KeepsSpans, StandsInTree}
use Rattle.lowered_places.proofs.PutSpans.{every_append, every_map, every_flat}
use Rattle.lowered_places.proofs.PathSpans.{InSource, InSending, InStop, InMessage, first_in, all_in, message_in}
use Rattle.lowered_places.proofs.ChoiceSpans.{sources_in}
use Rattle.lowered_places.proofs.HelperSpans.{helper_in}
use Rattle.lowered_places.proofs.BlockSpans.{InEvent, event_block, core_block_in, block_funcs_in}

-- ---- the least of some faults is one of them

module _ (Q : Ill → Type 0) where
  abbrev OfBest : Option Ill → Type 0
  OfBest None = Unit {0}
  OfBest (Some f) = Q f

  chosen : (t : Bool) (a b : Option Ill) → OfBest a → OfBest b → OfBest (if t then a else b)
  chosen true a b here there = here
  chosen false a b here there = there

  sooner : (best : Option Ill) (f : Ill) → OfBest best → Q f → OfBest (sooner_of best f)
  sooner None f in_best in_f = in_f
  sooner (Some g) f in_best in_f = chosen (is_sooner f g) (Some f) (Some g) in_f in_best

  least_of : (best : Option Ill) (fs : List Ill) → OfBest best → Every Q fs → OfBest (least best fs)
  unfolding least
  least_of best [] in_best all = in_best
  least_of best (f ∷ fs) in_best all = least_of (sooner_of best f) fs (sooner best f in_best all.0) all.1

  or_later : (a b : Option Ill) → OfBest a → OfBest b → OfBest (or_else a b)
  or_later None b in_a in_b = in_b
  or_later (Some f) b in_a in_b = in_a

module _ (P : Span → Type 0) where
  abbrev AtIll : Ill → Type 0
  AtIll f = P f.span

  module _ (ss : List Source) (all : Every (InSource P) ss) where
    -- ---- the first pass

    arity_in : (right : Bool) (s : Sending) → P s.proto.span → Every AtIll (if right then [] else of_name kind.Arity s.proto.name s.proto.span)
    arity_in true s here = tt
    arity_in false s here = (here, tt)

    stop_faults_in : (s : Sending) → InSending P s → (stop : Stop) → InStop P stop → Every AtIll (stop_faults s stop)
    stop_faults_in s p stop in_stop = by_source stop.source
      where
        by_source : (o : Option Source) → Every AtIll (name_faults s stop o)
        by_source None = (in_stop.0.2, tt)
        by_source (Some source) = arity_in (nat_eq (length stop.ref.args) (length source.proto.params)) s p.2.2

    ends_in : (s : Sending) → InSending P s → (o : Option Source) (m : Option Message) → Every AtIll (message_faults s m)
    ends_in s p o None = (p.2.2, tt)
    ends_in s p o (Some m) = arity_in (s.chooses || nat_le (length m.res.bound.names) (length s.proof.instances)) s p.2.2

    end_faults_in : (s : Sending) → InSending P s → (o : Option Source) → Every AtIll (end_faults ss s o)
    end_faults_in s p None = tt
    end_faults_in s p (Some source) = ends_in s p (Some source) (message_of ss s)

    unless_in : (t : Bool) (span : Span) → P span → Every AtIll (unless t span)
    unfolding unless
    unless_in true span here = tt
    unless_in false span here = (here, tt)

    sending_in : (s : Sending) → InSending P s → Every AtIll (sending_faults ss s)
    sending_in s p =
        every_append AtIll (way_faults ss s) (end_faults ss s (end_of ss s).source ++ unless (sending_fits ss s) s.proto.span)
        (every_append AtIll (stop_faults s (first_stop ss s)) (flat_map (stop_faults s) (stops_of ss s)) (stop_faults_in s p (first_stop ss s) (first_in P ss all s p))
        (every_flat (InStop P) AtIll (stop_faults s) (stop_faults_in s p) (stops_of ss s) (all_in P ss all s p)))
        (every_append AtIll (end_faults ss s (end_of ss s).source) (unless (sending_fits ss s) s.proto.span) (end_faults_in s p (end_of ss s).source) (unless_in (sending_fits ss s) s.proto.span p.2.2))

    event_in : (e : Event) → InEvent P e → Every AtIll (event_faults ss e)
    event_in (Sends s) p = sending_in s p
    event_in (Strays span) p = (p, tt)

    pass_in : (es : List Event) → Every (InEvent P) es → OfBest AtIll (first_pass ss es)
    pass_in [] p = tt
    pass_in (e ∷ es) p = or_later AtIll (least None (event_faults ss e)) (first_pass ss es) (least_of AtIll None (event_faults ss e) tt (event_in e p.0)) (pass_in es p.1)

    -- ---- declarations

    protos_in : (ps : List Source) → Every (InSource P) ps → Every (InDecl P) (map (λ s. decl.Proto (surface_proto s.proto)) ps)
    protos_in ps p = every_map (InSource P) (InDecl P) (λ s. decl.Proto (surface_proto s.proto)) (λ s in_s. in_s) ps p

    decl_funcs_in : (d : Decl) → InDecl P d → AgainsInDecl P d → Every (InSurfaceFunc P) (funcs_of ss d)
    decl_funcs_in (decl.Proto x) p a = tt
    decl_funcs_in (decl.Func f) p a = ((p.0, p.1, p.2, p.3, core_block_in P ss all None f.block p.4 a, p.5), block_funcs_in P ss all None f.block p.4 a)

    text_funcs_in : (ds : List Decl) → Every (InDecl P) ds → Every (AgainsInDecl P) ds → Every (InSurfaceFunc P) (flat_map (funcs_of ss) ds)
    text_funcs_in [] p a = tt
    text_funcs_in (d ∷ ds) p a = every_append (InSurfaceFunc P) (funcs_of ss d) (flat_map (funcs_of ss) ds) (decl_funcs_in d p.0 a.0) (text_funcs_in ds p.1 a.1)

    one_in : (s : Sending) → InSending P s → (m : Option Message) → InMessage P m → Every (InSurfaceFunc P) (one_helper ss s m)
    one_in s p None in_m = tt
    one_in s p (Some m) in_m = (helper_in P ss all s p m in_m, tt)

    some_funcs : (t : Bool) (a b : List SurfaceFunc) → Every (InSurfaceFunc P) a → Every (InSurfaceFunc P) b → Every (InSurfaceFunc P) (if t then a else b)
    some_funcs true a b here there = here
    some_funcs false a b here there = there

    helpers_in : (names : List Ident) (sends : List Sending) → Every (InSending P) sends → Every (InSurfaceFunc P) (helpers_but names ss sends)
    helpers_in names [] p = tt
    helpers_in names (s ∷ rest) p =
        some_funcs (is_among names (helper_name s)) (helpers_but names ss rest) (one_helper ss s (message_of ss s) ++ helpers_but (helper_name s ∷ names) ss rest)
        (helpers_in names rest p.1)
        (every_append (InSurfaceFunc P) (one_helper ss s (message_of ss s)) (helpers_but (helper_name s ∷ names) ss rest) (one_in s p.0 (message_of ss s) (message_in P ss all s p.0)) (helpers_in (helper_name s ∷ names) rest p.1))

    func_decls_in : (fs : List SurfaceFunc) → Every (InSurfaceFunc P) fs → Every (InDecl P) (map decl.Func fs)
    func_decls_in fs p = every_map (InSurfaceFunc P) (InDecl P) decl.Func (λ f in_f. in_f) fs p

  sendings_in : (es : List Event) → Every (InEvent P) es → Every (InSending P) (sendings es)
  sendings_in [] p = tt
  sendings_in (Sends s ∷ es) p = (p.0, sendings_in es p.1)
  sendings_in (Strays span ∷ es) p = sendings_in es p.1

  decl_events_in : (d : Decl) → InDecl P d → AgainsInDecl P d → Every (InEvent P) (events_of d)
  decl_events_in (decl.Proto x) p a = tt
  decl_events_in (decl.Func f) p a = event_block P false f.block p.4 a

  text_events_in : (ds : List Decl) → Every (InDecl P) ds → Every (AgainsInDecl P) ds → Every (InEvent P) (flat_map events_of ds)
  text_events_in [] p a = tt
  text_events_in (d ∷ ds) p a = every_append (InEvent P) (events_of d) (flat_map events_of ds) (decl_events_in d p.0 a.0) (text_events_in ds p.1 a.1)

  core_in : (tree : Surface) → InSurface P tree → AgainsIn P tree → InSurface P (core_tree tree)
  core_in tree p a =
      let ss = sources tree.decls in
      let in_ss = sources_in P tree.decls p in
      every_append (InDecl P) (map (λ s. decl.Proto (surface_proto s.proto)) ss) (map decl.Func (flat_map (funcs_of ss) tree.decls) ++ map decl.Func (helpers ss (sendings (events tree))))
      (protos_in ss in_ss ss in_ss)
      (every_append (InDecl P) (map decl.Func (flat_map (funcs_of ss) tree.decls)) (map decl.Func (helpers ss (sendings (events tree))))
      (func_decls_in ss in_ss (flat_map (funcs_of ss) tree.decls) (text_funcs_in ss in_ss tree.decls p a))
      (func_decls_in ss in_ss (helpers ss (sendings (events tree))) (helpers_in ss in_ss [] (sendings (events tree)) (sendings_in (events tree) (text_events_in tree.decls p a)))))

  -- the tree where there is no fault, or the fault
  kept : (fault : Option Ill) (made core : Surface) → or_fault fault made ≡ Ok core → made ≡ core
  kept None made core is = cc
  kept (Some f) made core is = cc

  fault_is : (fault : Option Ill) (made : Surface) (ill : Ill) → or_fault fault made ≡ Err ill → fault ≡ Some ill
  fault_is None made ill is = cc
  fault_is (Some f) made ill is = cc

  pub core_kept : (tree core : Surface) → InSurface P tree → AgainsIn P tree → desugared tree ≡ Ok core → InSurface P core
  core_kept tree core p a is = subst (InSurface P) (kept (first_pass (sources tree.decls) (events tree)) (core_tree tree) core is) (core_in tree p a)

  pub fault_kept : (tree : Surface) (ill : Ill) → InSurface P tree → AgainsIn P tree → desugared tree ≡ Err ill → P ill.span
  fault_kept tree ill p a is =
      subst (OfBest AtIll) (fault_is (first_pass (sources tree.decls) (events tree)) (core_tree tree) ill is)
      (pass_in (sources tree.decls) (sources_in P tree.decls p) (events tree) (text_events_in tree.decls p a))

pub keeps_spans : KeepsSpans
keeps_spans holds tree core p a is = core_kept (λ span. IsTrue (holds span)) tree core p a is

pub stands_in_tree : StandsInTree
stands_in_tree holds tree ill p a is = fault_kept (λ span. IsTrue (holds span)) tree ill p a is
