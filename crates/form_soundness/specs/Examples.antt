-- A program of form that forks, sends, receives and prints, as its parts.
use Rattle.std.specs.Prelude.{ℕ, pos, true, false, codes, List, [], ◌∷◌, Some, None}
use Rattle.core_language.specs.Names.{Ident}
use Rattle.chan_base.specs.declared.spans.Span.{Span}
use Rattle.chan_syntax.specs.declared.linear.Term.{Term}
use Rattle.chan_syntax.specs.declared.linear.Bound.{Bound}
use Rattle.chan_syntax.specs.declared.resources.Shape.{Shape}
use Rattle.chan_syntax.specs.declared.resources.Shape as shape
use Rattle.chan_syntax.specs.declared.resources.Res.{Res}
use Rattle.chan_syntax.specs.declared.resources.Proto.{Proto}
use Rattle.chan_syntax.specs.declared.resources.Equation.TheVariants as equation
use Rattle.chan_syntax.specs.declared.operands.Supply as supply
use Rattle.chan_syntax.specs.declared.operands.Pat.{Pat}
use Rattle.chan_syntax.specs.declared.operands.Proof.{Proof}
use Rattle.core_programs.specs.declared.nodes.Node.{Node}
use Rattle.core_programs.specs.declared.nodes.Node.TheVariants as node
use Rattle.core_programs.specs.declared.nodes.Func.{Func}
use Rattle.core_programs.specs.declared.nodes.Parts.{Parts}

abbrev pub at : ℕ → Span
at start = record { start = start; stop = start; line = 1; column = start }

abbrev pub number : ℕ → Term
number n = record { parts = record { negative = false; factor = pos n; name = None; name_span = None } ∷ []; span = at 0 }

abbrev pub named : Ident → Term
named x = record { parts = record { negative = false; factor = pos 1; name = Some x; name_span = None } ∷ []; span = at 0 }

abbrev pub no_bound : Bound
no_bound = record { names = []; names_spans = []; limits = [] }

abbrev pub bare : Shape → Res
bare its = record { bound = no_bound; shape = its }

abbrev pub with_instances : List Term → Proof
with_instances terms = record { instances = terms; certs = [] }

abbrev pub pattern : Ident → Pat
pattern x = record { name = x; name_span = at 0; names = []; names_spans = [] }

-- proto One(n) = recv int(n);
abbrev pub one : Proto
one = record {
  name = codes "One";
  name_span = at 0;
  params = codes "n" ∷ [];
  params_spans = [];
  equation = equation.Recv (bare (shape.Int (named (codes "n")))) None;
  span = at 0;
}

-- fn seed [n](y: end ~One(n), a: int(n)) -> unit { .. }
abbrev pub seed : Func
seed = record {
  name = codes "seed";
  name_span = at 0;
  bound = record { names = codes "n" ∷ []; names_spans = []; limits = [] };
  params =
      record { name = codes "y"; name_span = at 0; shape = shape.End (record { dual = true; name = codes "One"; name_span = at 0; args = named (codes "n") ∷ []; span = at 0 }) }
      ∷ record { name = codes "a"; name_span = at 0; shape = shape.Int (named (codes "n")) } ∷ [];
  result = bare shape.Unit;
  first = 0;
  span = at 0;
}

-- fn main() -> unit { .. }
abbrev pub main : Func
main = record { name = codes "main"; name_span = at 0; bound = no_bound; params = []; result = bare shape.Unit; first = 2; span = at 3 }

-- send1 y a; ret () and let c = fork One(7) seed(7) with [7]; let v = recv1 c; print v; ret ()
abbrev pub nodes : List Node
nodes =
    node.Send1 (codes "y") (at 0) [] None (supply.Sum (named (codes "a"))) (with_instances []) 1 (at 1)
    ∷ node.Ret supply.Unit (with_instances []) (at 2)
    ∷ node.Fork (codes "c") (at 0) (record { dual = false; name = codes "One"; name_span = at 0; args = number 7 ∷ []; span = at 0 }) (codes "seed") (at 0) (supply.Sum (number 7) ∷ []) (with_instances (number 7 ∷ [])) 3 (at 4)
    ∷ node.Recv1 (pattern (codes "v")) (codes "c") (at 0) [] None (with_instances []) 4 (at 5)
    ∷ node.Print (named (codes "v")) 5 (at 6)
    ∷ node.Ret supply.Unit (with_instances []) (at 7)
    ∷ []

abbrev pub receives : Parts
receives = record { protos = one ∷ []; funcs = seed ∷ main ∷ []; nodes = nodes }
