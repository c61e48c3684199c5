-- A body has more nodes than each body that its node names.
use Rattle.std.proofs.Common.{◌≡◌, ℕ, zero, suc, ◌+◌, ◌<◌, ◌≤◌, List, [], ◌∷◌, map, Some, slice_get, refl, ap, arith}
use Rattle.core_language.specs.Programs.{Body}
use Rattle.core_programs.specs.declared.nodes.Arm.{Arm}
use Rattle.core_programs.specs.declared.nodes.Node.{Node}
use Rattle.core_programs.specs.declared.nodes.Node.TheVariants as node
use Rattle.core_programs.specs.Bodies.{arms_opened, opened}
use Rattle.core_programs.specs.Following.{size, arms_size}
use Rattle.core_programs.specs.Formed.{nexts}

abbrev summed : (ℕ → ℕ) → List ℕ → ℕ
summed f [] = 0
summed f (n ∷ ns) = f n + summed f ns

at_most_all : (f : ℕ → ℕ) (ns : List ℕ) (k m : ℕ) → slice_get ns k ≡ Some m → f m ≤ summed f ns
at_most_all f [] k m is = cc
at_most_all f (n ∷ ns) zero m is = let same : n ≡ m = cc in let equal : f n ≡ f m = ap f same in omega (arith, equal)
at_most_all f (n ∷ ns) (suc k) m is = omega (arith, at_most_all f ns k m is)

arms_sum : (arms : List Arm) (at : ℕ → Body) → arms_size (arms_opened arms at) ≡ summed (λ n. size (at n)) (map (λ arm. arm.next) arms)
arms_sum [] at = refl
arms_sum (arm ∷ arms) at = ap (λ s. size (at arm.next) + s) (arms_sum arms at)

one : (a : ℕ) → suc a ≡ suc (a + 0)
one a = omega arith

two : (a b : ℕ) → suc (a + b) ≡ suc (a + (b + 0))
two a b = omega arith

size_opened : (x : Node) (at : ℕ → Body) → size (opened x at) ≡ suc (summed (λ n. size (at n)) (nexts x))
size_opened (node.Let name name_at term next span) at = one (size (at next))
size_opened (node.Mul name name_at left right next span) at = one (size (at next))
size_opened (node.Div name name_at term divisor divisor_at next span) at = one (size (at next))
size_opened (node.Rem name name_at term divisor divisor_at next span) at = one (size (at next))
size_opened (node.Call pat func func_at values proof next span) at = one (size (at next))
size_opened (node.Tail func func_at values proof span) at = refl
size_opened (node.Fork name name_at proto func func_at values proof next span) at = one (size (at next))
size_opened (node.Send1 channel channel_at path path_at value proof next span) at = one (size (at next))
size_opened (node.Recv1 pat channel channel_at path path_at proof next span) at = one (size (at next))
size_opened (node.Print term next span) at = one (size (at next))
size_opened (node.If left right this other span) at = two (size (at this)) (size (at other))
size_opened (node.Split first second name name_at next span) at = one (size (at next))
size_opened (node.Match name name_at arms span) at = ap suc (arms_sum arms at)
size_opened (node.Absurd proof span) at = refl
size_opened (node.Ret value proof span) at = refl

pub smaller : (x : Node) (at : ℕ → Body) (k m : ℕ) → slice_get (nexts x) k ≡ Some m → size (at m) < size (opened x at)
smaller x at k m is = omega (arith, size_opened x at, at_most_all (λ n. size (at n)) (nexts x) k m is)
