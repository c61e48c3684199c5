-- A program that is outlined and formed: it forks, sends, receives and prints.
use Rattle.std.proofs.Common.{◌≡◌, ℕ, ◌≤◌, Bool, true, false, if◌then◌else◌, codes, [], ◌∷◌, Option, Some, None, refl, ap, sym, subst, ◌∙◌, ◌⊎◌, inl, inr, arith}
use Rattle.core_language.specs.Names.{Ident, same}
use Rattle.core_language.specs.Resources.{Proto}
use Rattle.core_language.specs.Resources as written
use Rattle.core_language.specs.Programs.{Function, Program, function_named, Print, Recv1, Ret}
use Rattle.core_language.specs.Operands as supply
use Rattle.outline_language.specs.Equations.{Direction, Sends, Receives, Fork, fork_of, proto_named, written_message, Concrete}
use Rattle.outline_language.specs.Outlined.{faults_of_program, least, IsOutlined}
use Rattle.outline_language.specs.Examples.{one, seed, main_with, receives, at, named, pattern, with_instances}
use Rattle.outline_language.proofs.Bodies.{functions_of_none}
use Rattle.outline_language.proofs.FirstFaults.{least_is_none}
use Rattle.outline_language.proofs.Examples.{receiving}
use Rattle.good_configurations.specs.Ends.{next_in}
use Rattle.good_configurations.specs.Messages.{Does}
use Rattle.outline_values.specs.Formed.{Knows, KnowsRes, nest_resource, deepest, FunctionFormed, MainFormed, IsFormed}
use Rattle.soundness.specs.Laws.{SomeProgramHolds}

some_same : {A : Type 0} {a b : A} → Some a ≡ Some b → a ≡ b
some_same e = cc

none_some : {A Z : Type 0} {a : A} → None ≡ Some a → Z
none_some e = cc

is_outlined : IsOutlined receives
is_outlined = functions_of_none receives (receives.funcs) (least_is_none (faults_of_program receives) receiving)

known : Knows (receives.protos) (codes "One") 1
known = (one, refl, refl)

seed_formed : FunctionFormed (receives.protos) seed
seed_formed = record { params = ((known, omega arith), ((tt, omega arith), tt)); result = tt; shallow = omega arith; body = (tt, tt) }

main_formed : FunctionFormed (receives.protos) (main_with (Recv1 (at 5) (pattern (codes "v")) (codes "c") [] (with_instances []) (Print (at 6) (named (codes "v")) (Ret (at 7) supply.Unit (with_instances [])))))
main_formed = record { params = tt; result = tt; shallow = omega arith; body = (known, ((tt, tt), tt), ((refl, tt), tt)) }

each_function : (x : Ident) (f : Function) → function_named x (receives.funcs) ≡ Some f → FunctionFormed (receives.protos) f
each_function x f e = go (same (codes "seed") x) (same (codes "main") x) e
  where
    go : (a b : Bool) → (if a then Some seed else (if b then Some (main_with (Recv1 (at 5) (pattern (codes "v")) (codes "c") [] (with_instances []) (Print (at 6) (named (codes "v")) (Ret (at 7) supply.Unit (with_instances []))))) else None)) ≡ Some f → FunctionFormed (receives.protos) f
    go true b e = subst (FunctionFormed (receives.protos)) (some_same e) seed_formed
    go false true e = subst (FunctionFormed (receives.protos)) (some_same e) main_formed
    go false false e = none_some e

is_one : (x : Ident) (proto : Proto) → proto_named x (receives.protos) ≡ Some proto → one ≡ proto
is_one x proto e = go (same (codes "One") x) e
  where
    go : (a : Bool) → (if a then Some one else None) ≡ Some proto → one ≡ proto
    go true e = some_same e
    go false e = none_some e

each_message : (x : Ident) (proto : Proto) (m : Direction × written.Res) → proto_named x (receives.protos) ≡ Some proto → written_message (proto.equation) ≡ Some m → KnowsRes (receives.protos) m.1 × (nest_resource m.1 ≤ deepest)
each_message x proto m e f = subst (λ z. KnowsRes (receives.protos) z.1 × (nest_resource z.1 ≤ deepest)) (some_same (ap (λ z. written_message (z.equation)) (is_one x proto e) ∙ f)) (tt, omega arith)

each_end : (e : Concrete) (proto : Proto) → proto_named (e.name) (receives.protos) ≡ Some proto → Does (receives.protos) e Sends ⊎ Does (receives.protos) e Receives
each_end e proto h = go (e.dual) refl
  where
    there : proto_named (e.name) (receives.protos) ≡ Some one
    there = h ∙ ap Some (sym (is_one (e.name) proto h))

    go : (b : Bool) → e.dual ≡ b → Does (receives.protos) e Sends ⊎ Does (receives.protos) e Receives
    go true d = inl (0, _, ap (next_in e) there, rw d refl)
    go false d = inr (0, _, ap (next_in e) there, rw d refl)

is_formed : IsFormed receives
is_formed = record {
  main = (main_with (Recv1 (at 5) (pattern (codes "v")) (codes "c") [] (with_instances []) (Print (at 6) (named (codes "v")) (Ret (at 7) supply.Unit (with_instances [])))), refl, record { ints = refl; limits = refl; params = refl; result = refl });
  functions = each_function;
  messages = each_message;
  forks = λ x proto fork e f. none_some (ap (λ z. fork_of (z.equation)) (is_one x proto e) ∙ f);
  heads = each_end;
}

pub some_program : SomeProgramHolds
some_program = (receives, is_outlined, is_formed)
