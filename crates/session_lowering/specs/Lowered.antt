-- The core tree of a tree with sessions, or the first fault of its sends.
use Rattle.std.specs.Prelude.{Bool, false, if◌then◌else◌, List, [], ◌∷◌, ◌++◌, map, flat_map, Option, Some, None, Result, Ok, Err}
use Rattle.std.specs.List.{list_any}
use Rattle.core_language.specs.Names.{Ident, same}
use Rattle.chan_syntax.specs.declared.resources.Proto.{Proto}
use Rattle.chan_syntax.specs.declared.surface_tree.Body.TheVariants as body
use Rattle.chan_syntax.specs.declared.surface_tree.SurfaceProto.{SurfaceProto}
use Rattle.chan_syntax.specs.declared.surface_tree.SurfaceFunc.{SurfaceFunc}
use Rattle.chan_syntax.specs.declared.surface_tree.Decl.{Decl}
use Rattle.chan_syntax.specs.declared.surface_tree.Decl.TheVariants as decl
use Rattle.chan_syntax.specs.declared.surface_tree.Surface.{Surface}
use Rattle.form_faults.specs.declared.faults.Ill.{Ill}
use Rattle.session_lowering.specs.declared.sources.Source.{Source}
use Rattle.session_lowering.specs.Choices.{sources}
use Rattle.session_lowering.specs.declared.events.Sending.{Sending}
use Rattle.session_lowering.specs.Sends.{Message, message_of, helper_name}
use Rattle.session_lowering.specs.Helpers.{helper}
use Rattle.session_lowering.specs.declared.events.Event.{Event}
use Rattle.session_lowering.specs.declared.events.Event.TheVariants.{Sends, Strays}
use Rattle.session_lowering.specs.FirstPass.{first_pass}
use Rattle.session_lowering.specs.Blocks.{core_block, funcs_of_block, events_of_block}

-- ---- protocols and functions of the text

abbrev pub surface_proto : Proto → SurfaceProto
surface_proto p = record { name = p.name; name_span = p.name_span; params = p.params; params_spans = p.params_spans; body = body.Plain p.equation; span = p.span }

-- a function, and those that its loops and `do` blocks make
abbrev pub funcs_of : List Source → Decl → List SurfaceFunc
funcs_of ss (decl.Proto p) = []
funcs_of ss (decl.Func f) = record f { block = core_block ss None f.block } ∷ funcs_of_block ss None f.block

abbrev pub events_of : Decl → List Event
events_of (decl.Proto p) = []
events_of (decl.Func f) = events_of_block false f.block

-- ---- helpers, in the order in which they are used first

abbrev pub sendings : List Event → List Sending
sendings [] = []
sendings (Sends s ∷ es) = s ∷ sendings es
sendings (Strays span ∷ es) = sendings es

abbrev pub is_among : List Ident → Ident → Bool
is_among names x = list_any (λ y. same y x) names

abbrev pub one_helper : List Source → Sending → Option Message → List SurfaceFunc
one_helper ss s None = []
one_helper ss s (Some m) = helper ss s m ∷ []

-- the helpers of those sends whose helper hasn't one of these names
abbrev pub helpers_but : List Ident → List Source → List Sending → List SurfaceFunc
helpers_but names ss [] = []
helpers_but names ss (s ∷ rest) =
    if is_among names (helper_name s) then helpers_but names ss rest else (one_helper ss s (message_of ss s) ++ helpers_but (helper_name s ∷ names) ss rest)

abbrev pub helpers : List Source → List Sending → List SurfaceFunc
helpers ss sends = helpers_but [] ss sends

-- ---- the tree

abbrev pub events : Surface → List Event
events tree = flat_map events_of tree.decls

-- the protocols, the functions of the text in the order of their words, and then the helpers
abbrev pub core_decls : List Source → Surface → List Decl
core_decls ss tree =
    map (λ s. decl.Proto (surface_proto s.proto)) ss
    ++ (map decl.Func (flat_map (funcs_of ss) tree.decls) ++ map decl.Func (helpers ss (sendings (events tree))))

abbrev pub core_tree : Surface → Surface
core_tree tree = record { decls = core_decls (sources tree.decls) tree }

abbrev pub or_fault : Option Ill → Surface → Result Surface Ill
or_fault (Some fault) tree = Err fault
or_fault None tree = Ok tree

-- the core tree that stands for a tree, unless its sends have a fault
abbrev pub desugared : Surface → Result Surface Ill
desugared tree = or_fault (first_pass (sources tree.decls) (events tree)) (core_tree tree)
