-- A program that is outlined, and one that leaves an end.
use Rattle.std.specs.Prelude.{◌≡◌, ℕ, pos, true, false, codes, List, [], ◌∷◌, Some, None}
use Rattle.core_language.specs.Names.{Ident}
use Rattle.core_language.specs.Terms.{Term, Bound}
use Rattle.core_language.specs.Resources.{Ref, Shape, Res, Proto, Binds, Recv}
use Rattle.core_language.specs.Resources as resource
use Rattle.core_language.specs.Operands.{Supply, Pat, Proof}
use Rattle.core_language.specs.Operands as supply
use Rattle.core_language.specs.Programs.{Span, Body, Fork, Send1, Recv1, Print, Ret, Function, Program}
use Rattle.outline_language.specs.Contexts.{Left}
use Rattle.outline_language.specs.Outlined.{first_fault}

-- a place in a text of one line
abbrev pub at : ℕ → Span
at start = record { start = start; stop = start; line = 1; column = start }

abbrev pub number : ℕ → Term
number n = record { negative = false; factor = pos n; name = None } ∷ []

abbrev pub named : Ident → Term
named x = record { negative = false; factor = pos 1; name = Some x } ∷ []

abbrev pub no_bound : Bound
no_bound = record { names = []; limits = [] }

abbrev pub bare : Shape → Res
bare shape = Binds no_bound shape

abbrev pub with_instances : List Term → Proof
with_instances terms = record { instances = terms; certs = [] }

abbrev pub pattern : Ident → Pat
pattern x = record { name = x; names = [] }

-- proto One(n) = recv int(n);
abbrev pub one : Proto
one = record { name = codes "One"; params = codes "n" ∷ []; equation = Recv (bare (resource.Int (named (codes "n")))) None }

-- fn seed [n](y: end ~One(n), a: int(n)) -> unit { send1 y a; ret () }
abbrev pub seed : Function
seed = record {
  name = codes "seed";
  bound = record { names = codes "n" ∷ []; limits = [] };
  params =
      record { name = codes "y"; shape = resource.End (record { dual = true; name = codes "One"; args = named (codes "n") ∷ [] }) }
      ∷ record { name = codes "a"; shape = resource.Int (named (codes "n")) } ∷ [];
  result = bare resource.Unit;
  body = Send1 (at 1) (codes "y") [] (supply.Sum (named (codes "a"))) (with_instances []) (Ret (at 2) supply.Unit (with_instances []));
  span = at 0;
}

-- fn main() -> unit { let c = fork One(7) seed(7) with [7]; .. }
abbrev pub main_with : Body → Function
main_with body = record {
  name = codes "main";
  bound = no_bound;
  params = [];
  result = bare resource.Unit;
  body =
      Fork (at 4) (codes "c") (record { dual = false; name = codes "One"; args = number 7 ∷ [] })
      (codes "seed") (supply.Sum (number 7) ∷ []) (with_instances (number 7 ∷ [])) body;
  span = at 3;
}

abbrev pub program_with : Body → Program
program_with body = record { protos = one ∷ []; funcs = seed ∷ main_with body ∷ [] }

-- .. let v = recv1 c; print v; ret ()
abbrev pub receives : Program
receives =
    program_with
    (Recv1 (at 5) (pattern (codes "v")) (codes "c") [] (with_instances [])
    (Print (at 6) (named (codes "v")) (Ret (at 7) supply.Unit (with_instances []))))

-- .. ret ()
abbrev pub drops_the_end : Program
drops_the_end = program_with (Ret (at 5) supply.Unit (with_instances []))

abbrev pub ReceivingIsOutlined : Type 0
ReceivingIsOutlined = first_fault receives ≡ None

-- the end is left at the second `ret`
abbrev pub DroppingIsNot : Type 0
DroppingIsNot = first_fault drops_the_end ≡ Some (record { span = at 5; why = Left (codes "c"); names = [] })
