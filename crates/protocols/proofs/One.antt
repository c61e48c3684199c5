-- An end has one head.
use Rattle.std.proofs.Common.{◌≡◌, ℤ, List, [], ◌∷◌, Option, Some, None, refl, sym, ◌∙◌, ap}
use Rattle.core_language.specs.Names.{Ident}
use Rattle.core_language.specs.Terms.{Term}
use Rattle.core_language.specs.Resources.{Ref, Equation, Proto, Branch}
use Rattle.core_language.specs.Operands.{Letter}
use Rattle.protocols.specs.Duals.{Message, message_of}
use Rattle.protocols.specs.Heads.{concrete, argument, equation_of_end, Head, way, on_way, HasEquation, HasHead}
use Rattle.outline_language.specs.Equations.{Concrete, proto_named}

one_proto : (o : Option Proto) (p q : Proto) → o ≡ Some p → o ≡ Some q → q ≡ p
one_proto o p q e f = cc

one_equation : (protos : List Proto) (e : Concrete) (p q : Proto) (a b : Equation) → HasEquation protos e p a → HasEquation protos e q b → (q ≡ p) × (b ≡ a)
one_equation protos e p q a b (n, i) (m, j) =
    let same = one_proto (proto_named e.name protos) p q n m in
    (same, sym j ∙ ap (equation_of_end e.dual) same ∙ i)

one_message : (o : Option Message) (m n : Message) → o ≡ Some m → o ≡ Some n → n ≡ m
one_message o m n e f = cc

made_head : (h k : Head) → k.message ≡ h.message → k.params ≡ h.params → k.args ≡ h.args → k ≡ h
made_head h k m p a = rebuilt h.message k.message h.params k.params h.args k.args m p a
  where
    rebuilt : (m n : Message) (ps qs : List Ident) (xs ys : List ℤ) → n ≡ m → qs ≡ ps → ys ≡ xs → ◌≡◌ {A = Head} (record { message = n; params = qs; args = ys }) (record { message = m; params = ps; args = xs })
    rebuilt m n ps qs xs ys e f g = rw (e, f, g)

left_same : (l r l' r' : Term) (t o t' o' : Ref) → Branch l' r' t' o' ≡ Branch l r t o → l' ≡ l
left_same l r l' r' t o t' o' e = cc

right_same : (l r l' r' : Term) (t o t' o' : Ref) → Branch l' r' t' o' ≡ Branch l r t o → r' ≡ r
right_same l r l' r' t o t' o' e = cc

this_same : (l r l' r' : Term) (t o t' o' : Ref) → Branch l' r' t' o' ≡ Branch l r t o → t' ≡ t
this_same l r l' r' t o t' o' e = cc

other_same : (l r l' r' : Term) (t o t' o' : Ref) → Branch l' r' t' o' ≡ Branch l r t o → o' ≡ o
other_same l r l' r' t o t' o' e = cc

same_way : (ks : List ℤ) (p q : Proto) (l r l' r' : Term) → q ≡ p → l' ≡ l → r' ≡ r → way (argument q.params ks) l' r' ≡ way (argument p.params ks) l r
same_way ks p q l r l' r' e f g = rw (e, f, g)

same_end : (ks : List ℤ) (p q : Proto) (letter letter' : Letter) (t o t' o' : Ref) → q ≡ p → letter' ≡ letter → t' ≡ t → o' ≡ o → concrete (argument q.params ks) (on_way letter' t' o') ≡ concrete (argument p.params ks) (on_way letter t o)
same_end ks p q letter letter' t o t' o' e k f g = rw (e, k, f, g)

longer : (x y : Letter) (xs ys : List Letter) → y ≡ x → ys ≡ xs → y ∷ ys ≡ x ∷ xs
longer x y xs ys e f = rw (e, f)

no_message : (l r : Term) (t o : Ref) (q : Equation) (m : Message) → q ≡ Branch l r t o → message_of q ≡ Some m → ⊥
no_message l r t o q m e f = let none : None ≡ Some m = rw e at f in absurd cc

pub head_is_one : (protos : List Proto) (e : Concrete) (ways others : List Letter) (h k : Head) → HasHead protos e ways h → HasHead protos e others k → (others ≡ ways) × (k ≡ h)
head_is_one protos e [] [] h k (p, q, i, m, s, a) (p', q', i', m', s', a') =
    let same = one_equation protos e p p' q q' i i' in
    (refl, made_head h k (one_message (message_of q) h.message k.message m (ap message_of (sym same.1) ∙ m')) (s' ∙ ap (λ (x : Proto). x.params) same.0 ∙ sym s) (a' ∙ sym a))
head_is_one protos e [] (y ∷ ys) h k (p, q, i, m, s, a) (p', l, r, t, o, i', w, rest) =
    absurd (no_message l r t o q h.message (sym (one_equation protos e p p' q (Branch l r t o) i i').1) m)
head_is_one protos e (x ∷ xs) [] h k (p, l, r, t, o, i, w, rest) (p', q, i', m, s, a) =
    absurd (no_message l r t o q k.message (one_equation protos e p p' (Branch l r t o) q i i').1 m)
head_is_one protos e (x ∷ xs) (y ∷ ys) h k (p, l, r, t, o, i, w, rest) (p', l', r', t', o', i', w', rest') =
    let same = one_equation protos e p p' (Branch l r t o) (Branch l' r' t' o') i i' in
    let letter : y ≡ x = w' ∙ same_way e.args p p' l r l' r' same.0 (left_same l r l' r' t o t' o' same.1) (right_same l r l' r' t o t' o' same.1) ∙ sym w in
    let end : concrete (argument p'.params e.args) (on_way y t' o') ≡ concrete (argument p.params e.args) (on_way x t o) = same_end e.args p p' x y t o t' o' same.0 letter (this_same l r l' r' t o t' o' same.1) (other_same l r l' r' t o t' o' same.1) in
    let both = head_is_one protos (concrete (argument p.params e.args) (on_way x t o)) xs ys h k rest (rw end at rest') in
    (longer x y xs ys letter both.0, both.1)
