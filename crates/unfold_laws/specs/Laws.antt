-- What programs of form have, and what unfolding answers.
use Rattle.std.specs.Prelude.{◌≡◌, ℕ, List, All, map, Some, slice_get, Result, Ok}
use Rattle.core_language.specs.Resources.{Ref, Res, Proto}
use Rattle.core_language.specs.Operands.{Letter}
use Rattle.linear_forms.specs.Terms.{IntVar}
use Rattle.linear_forms.specs.Substitution.{IsSubst}
use Rattle.chan_syntax.specs.Bounds.{IsBounded}
use Rattle.chan_syntax.specs.Reading.{proto_of}
use Rattle.core_programs.specs.declared.nodes.Node.{Node}
use Rattle.core_programs.specs.declared.nodes.Parts.{Parts}
use Rattle.core_programs.specs.Bodies.{program_of}
use Rattle.core_programs.specs.Form.{HasForm, IsFormed}
use Rattle.protocols.specs.Heads.{Head, HasHead}
use Rattle.outline_language.specs.Equations.{Concrete, proto_named}
use Rattle.protocols.specs.Unfolding.{Fault, Setting, HasArity, AreFormed, Found, Unfolds}
use Rattle.unfold_laws.specs.References.{refs_of_res, refs_of_program, IsKnown, AreKnown, KnowTheirs}
use Rattle.unfold_laws.specs.Forks.{refs_of_node}
use Rattle.unfold_laws.specs.Certs.{certs_of_node}
use Rattle.unfold_laws.specs.Answers.{AreOneRes, AreAlike}

-- ---- programs of form

-- the protocols of a program of form are as `unfold` asks
abbrev pub FormHasFormedProtocols : Type 0
FormHasFormedProtocols = (parts : Parts) → HasForm parts → AreFormed (map proto_of parts.protos)

-- each reference of a program of form names a protocol that is there, and has as many terms as that has parameters
abbrev pub FormKnowsReferences : Type 0
FormKnowsReferences = (parts : Parts) → HasForm parts → AreKnown (map proto_of parts.protos) (refs_of_program (program_of parts))

-- so does the reference of each of its nodes that forks
abbrev pub NodesKnowReferences : Type 0
NodesKnowReferences =
    (parts : Parts) (n : ℕ) (x : Node) → IsFormed parts → slice_get parts.nodes n ≡ Some x → AreKnown (map proto_of parts.protos) (refs_of_node x)

-- a reference of which this is known has the arity that `unfold` asks for
abbrev pub KnownHasArity : Type 0
KnownHasArity = (protos : List Proto) (ref : Ref) → IsKnown protos ref → HasArity protos ref

-- each certificate of a node of such a program is within the bounds that `unfold` asks for
abbrev pub NodesHaveBoundedCerts : Type 0
NodesHaveBoundedCerts = (parts : Parts) (n : ℕ) (x : Node) → IsFormed parts → slice_get parts.nodes n ≡ Some x → All IsBounded (certs_of_node x)

-- the table of such a program is guarded, so that each end of a protocol that is there does something next
abbrev pub EndsHaveHeads : Type 0
EndsHaveHeads =
    (parts : Parts) (e : Concrete) (proto : Proto) → HasForm parts → proto_named e.name (map proto_of parts.protos) ≡ Some proto
    → (ways : List Letter) × (head : Head) × HasHead (map proto_of parts.protos) e ways head

-- ---- what unfolding finds

-- the protocols of a program of form know the references of their equations
abbrev pub FormKnowsTheirs : Type 0
FormKnowsTheirs = (parts : Parts) → HasForm parts → KnowTheirs (map proto_of parts.protos)

-- then those of what unfolding finds are known too
abbrev pub FindsKnown : Type 0
FindsKnown = (s : Setting) (ref : Ref) (letters : List Letter) (found : Found) → KnowTheirs s.protos → Unfolds s ref letters (Ok found) → AreKnown s.protos (refs_of_res found.res)

-- ---- one answer

-- a substitution has one result, up to the names of binders
abbrev pub SubstHasOneResult : Type 0
SubstHasOneResult = (put : List IntVar) (res first second : Res) → IsSubst put res first → IsSubst put res second → AreOneRes first second

-- unfolding has one answer: one fault, or one direction, one number of certificates and one resource up to the names of binders
abbrev pub UnfoldingHasOneAnswer : Type 0
UnfoldingHasOneAnswer =
    (s : Setting) (ref : Ref) (letters : List Letter) (first second : Result Found Fault) → Unfolds s ref letters first → Unfolds s ref letters second → AreAlike first second
