-- A tree of tasks that add up their sums: limits, certificates, forks of oneself and both bodies of an `if`.
use Rattle.std.specs.Prelude.{◌≡◌, ℕ, Bool, pos, true, false, codes, List, [], ◌∷◌, Option, Some, None}
use Rattle.core_language.specs.Names.{Ident}
use Rattle.core_language.specs.Terms.{Part, AtMost}
use Rattle.core_language.specs.Resources.{Ref, Shape, Res, Proto, Binds, Recv}
use Rattle.core_language.specs.Resources as resource
use Rattle.core_language.specs.Operands.{Supply, Pat, Proof, Cert}
use Rattle.core_language.specs.Operands as supply
use Rattle.core_language.specs.Programs.{Body, Let, Fork, Send1, Recv1, If, Ret, Function, Program}
use Rattle.farkas_check.specs.declared.cert.CertFault.TheVariants.{Constant}
use Rattle.outline_language.specs.Contexts.{NotProved, CertCount}
use Rattle.outline_language.specs.Outlined.{first_fault}
use Rattle.outline_language.specs.Examples.{at, number, named, bare, with_instances}

abbrev pub part : (negative : Bool) → (factor : ℕ) → Option Ident → Part
part negative factor name = record { negative = negative; factor = pos factor; name = name }

abbrev pub n : Ident
n = codes "n"

-- proto Sum() = recv [s] int(s);
abbrev pub sum : Proto
sum = record {
  name = codes "Sum";
  params = [];
  equation = Recv (Binds (record { names = codes "s" ∷ []; limits = [] }) (resource.Int (named (codes "s")))) None;
}

abbrev pub sum_end : (dual : Bool) → Ref
sum_end dual = record { dual = dual; name = codes "Sum"; args = [] }

-- by [{1 #1}]
abbrev pub by_one : (hypothesis : ℕ) → List Cert
by_one hypothesis = record { divisor = 1; mentions = record { factor = pos 1; index = hypothesis } ∷ [] } ∷ []

-- let x = fork Sum() tree(e) with [n - 1] by ..;
abbrev pub grow : ℕ → Ident → List Cert → Body → Body
grow start x certs next =
    Fork (at start) x (sum_end false) (codes "tree") (supply.Sum (named (codes "e")) ∷ [])
    (record { instances = (part false 1 (Some n) ∷ part true 1 None ∷ []) ∷ []; certs = certs }) next

-- fn tree [n: 0 <= n](y: end ~Sum(), d: int(n)) -> unit { .. }
abbrev pub tree : (certs : List Cert) → Function
tree certs = record {
  name = codes "tree";
  bound = record { names = n ∷ []; limits = record { left = number 0; relation = AtMost; right = named n } ∷ [] };
  params = record { name = codes "y"; shape = resource.End (sum_end true) } ∷ record { name = codes "d"; shape = resource.Int (named n) } ∷ [];
  result = bare resource.Unit;
  body =
      If (at 1) (named (codes "d")) (number 0)
      (Send1 (at 2) (codes "y") [] (supply.Sum (number 1)) (with_instances (number 1 ∷ [])) (Ret (at 3) supply.Unit (with_instances [])))
      (Let (at 4) (codes "e") (part false 1 (Some (codes "d")) ∷ part true 1 None ∷ [])
      (grow 5 (codes "a") certs
      (grow 6 (codes "b") (by_one 1)
      (Recv1 (at 7) (record { name = codes "u"; names = codes "s" ∷ [] }) (codes "a") [] (with_instances [])
      (Recv1 (at 8) (record { name = codes "w"; names = codes "t" ∷ [] }) (codes "b") [] (with_instances [])
      (Let (at 9) (codes "z") (part false 1 (Some (codes "u")) ∷ part false 1 (Some (codes "w")) ∷ [])
      (Send1 (at 10) (codes "y") [] (supply.Sum (named (codes "z")))
      (with_instances ((part false 1 (Some (codes "s")) ∷ part false 1 (Some (codes "t")) ∷ []) ∷ []))
      (Ret (at 11) supply.Unit (with_instances [])))))))));
  span = at 0;
}

abbrev pub adds_up : (certs : List Cert) → Program
adds_up certs = record { protos = sum ∷ []; funcs = tree certs ∷ [] }

abbrev pub TreeIsOutlined : Type 0
TreeIsOutlined = first_fault (adds_up (by_one 1)) ≡ None

-- 0 <= n doesn't show 0 <= n - 1, and nothing shows it without a certificate
abbrev pub TreeNeedsTheBranch : Type 0
TreeNeedsTheBranch = first_fault (adds_up (by_one 0)) ≡ Some (record { span = at 5; why = NotProved 0 (Constant (pos 1) 1); names = n ∷ [] })

abbrev pub TreeNeedsACertificate : Type 0
TreeNeedsACertificate = first_fault (adds_up []) ≡ Some (record { span = at 5; why = CertCount; names = n ∷ [] })
