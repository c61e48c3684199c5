-- An end has one head, and the other end has the other direction and the same message.
use Rattle.std.proofs.Common.{◌≡◌, ℕ, zero, suc, Bool, true, false, not, Option, Some, None, List, [], refl, ap, sym, ◌∙◌}
use Rattle.core_language.specs.Names.{Ident}
use Rattle.core_language.specs.Resources.{Proto}
use Rattle.core_language.specs.Resources as written
use Rattle.core_language.specs.Values.{Value}
use Rattle.outline_language.specs.Nameless.{nameless_res}
use Rattle.outline_language.specs.Paths.{turned}
use Rattle.outline_language.specs.Equations.{Direction, Sends, Receives, other_direction, Fork, fork_of, proto_named, written_message, Concrete, opposite}
use Rattle.good_configurations.specs.Ends.{opposite_if, Head, Next, Gives, Goes, Lost, next_at, next_in, next_of, HasHead, letter_of, picked}
use Rattle.good_configurations.specs.Values.{Use}
use Rattle.good_configurations.specs.Messages.{Does, Carries}

one_head : {h k : Head} → Gives h ≡ Gives k → h ≡ k
one_head e = cc

one_way : {e f : Concrete} → Goes e ≡ Goes f → e ≡ f
one_way e = cc

gives_goes : {A : Type 0} {h : Head} {e : Concrete} → Gives h ≡ Goes e → A
gives_goes e = cc

pub head_is_one : (protos : List Proto) (n m : ℕ) (e : Concrete) (h k : Head) → HasHead protos n e h → HasHead protos m e k → h ≡ k
head_is_one protos zero zero e h k a b = one_head (sym a ∙ b)
head_is_one protos zero (suc m) e h k a (f, b, rest) = gives_goes (sym a ∙ b)
head_is_one protos (suc n) zero e h k (f, a, rest) b = gives_goes (sym b ∙ a)
head_is_one protos (suc n) (suc m) e h k (f, a, first) (g, b, second) = head_is_one protos n m f h k first (rw (← one_way (sym a ∙ b)) at second)

not_not : (b : Bool) → not (not b) ≡ b
not_not true = refl
not_not false = refl

pub twice : (e : Concrete) → opposite (opposite e) ≡ e
twice e = λ i. record { dual = not_not (e.dual) i; name = e.name; args = e.args }

other_twice : (d : Direction) → other_direction (other_direction d) ≡ d
other_twice Sends = refl
other_twice Receives = refl

turned-not : (b : Bool) (d : Direction) → turned (not b) d ≡ other_direction (turned b d)
turned-not true d = sym (other_twice d)
turned-not false d = refl

opposite_if-not : (b : Bool) (e : Concrete) → opposite_if (not b) e ≡ opposite (opposite_if b e)
opposite_if-not true e = sym (twice e)
opposite_if-not false e = refl

-- the other end's head, with the same message
abbrev pub other_head : Head → Head
other_head h = record { direction = other_direction h.direction; res = h.res; args = h.args }

abbrev other_next : Next → Next
other_next (Gives h) = Gives (other_head h)
other_next (Goes e) = Goes (opposite e)
other_next Lost = Lost

next_at-opposite : (e : Concrete) (params : List Ident) (message : Option (Direction × written.Res)) (fork : Option Fork) → next_at (opposite e) params message fork ≡ other_next (next_at e params message fork)
next_at-opposite e params (Some message) fork = λ i. Gives (record { direction = turned-not (e.dual) message.0 i; res = nameless_res [] params message.1; args = e.args })
next_at-opposite e params None (Some fork) = ap Goes (opposite_if-not (e.dual) (picked params (e.args) fork (letter_of params (e.args) fork)))
next_at-opposite e params None None = refl

next-opposite : (protos : List Proto) (e : Concrete) → next_of protos (opposite e) ≡ other_next (next_of protos e)
next-opposite protos e = go (proto_named (e.name) protos)
  where
    go : (o : Option Proto) → next_in (opposite e) o ≡ other_next (next_in e o)
    go None = refl
    go (Some proto) = next_at-opposite e (proto.params) (written_message (proto.equation)) (fork_of (proto.equation))

pub opposite_head : (protos : List Proto) (n : ℕ) (e : Concrete) (h : Head) → HasHead protos n e h → HasHead protos n (opposite e) (other_head h)
opposite_head protos zero e h a = next-opposite protos e ∙ ap other_next a
opposite_head protos (suc n) e h (f, a, rest) = (opposite f, next-opposite protos e ∙ ap other_next a, opposite_head protos n f h rest)

pub opposite_does : (protos : List Proto) (e : Concrete) (d : Direction) → Does protos e d → Does protos (opposite e) (other_direction d)
opposite_does protos e d (n, h, has, is) = (n, other_head h, opposite_head protos n e h has, ap other_direction is)

pub opposite_carries : (protos : List Proto) (e : Concrete) (v : Value) (us : List Use) → Carries protos e v us → Carries protos (opposite e) v us
opposite_carries protos e v us (n, h, head, has) = (n, other_head h, opposite_head protos n e h head, has)

pub not_both : {A : Type 0} (protos : List Proto) (e : Concrete) → Does protos e Sends → Does protos e Receives → A
not_both protos e (n, h, has, is) (m, k, has', is') = apart (sym is ∙ ap (λ (z : Head). z.direction) (head_is_one protos n m e h k has has') ∙ is')
  where
    apart : {A : Type 0} → Sends ≡ Receives → A
    apart e = cc
