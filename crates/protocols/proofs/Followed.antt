-- Where the hypotheses are true, an end has the head that it is followed to.
use Rattle.std.proofs.Common.{◌≡◌, inl, inr, ℕ, ℤ, pos, ◌≤ℤ◌, Bool, true, false, zero, suc, List, [], ◌∷◌, ◌++◌, All, map, length, refl, sym, ◌∙◌, subst}
use Rattle.std.proofs.lemmas.List.Elements.{All-head, All-tail}
use Rattle.core_language.specs.Names.{Ident}
use Rattle.core_language.specs.Terms.{Term}
use Rattle.core_language.specs.Resources.{Ref, Equation, Proto, Send, Recv, Close, Wait, Branch}
use Rattle.core_language.specs.Operands.{Letter, First, Second}
use Rattle.farkas_check.specs.Rows.{value_at}
use Rattle.linear_forms.specs.Terms.{sum_of, by_place, put_of}
use Rattle.linear_forms.specs.Substitution.{Each, IsNormalPut, IsRefLike}
use Rattle.linear_forms.proofs.Shorts.{all_left, all_right}
use Rattle.protocols.specs.Duals.{dual_equation, branches_of}
use Rattle.outline_language.specs.Equations.{dual_written, Concrete}
use Rattle.protocols.specs.Heads.{Head, HasHead, concrete, argument, equation_of_end, way, on_way}
use Rattle.protocols.specs.Unfolding.{Setting, asked_row, On, Follows, NamesOnly, branch_terms, HasArity, IsWellFormed, FollowsTheWays, var_at}
use Rattle.protocols.proofs.Ways.{term_value_is, met, letter_is_way}

-- ---- the equation of a dual

terms_of_dual : (e : Equation) → branch_terms (dual_equation e) ≡ branch_terms e
terms_of_dual (Send res next) = refl
terms_of_dual (Recv res next) = refl
terms_of_dual Close = refl
terms_of_dual Wait = refl
terms_of_dual (Branch left right this other) = refl

terms_of_end : (dual : Bool) (proto : Proto) → branch_terms (equation_of_end dual proto) ≡ branch_terms proto.equation
terms_of_end true proto = terms_of_dual proto.equation
terms_of_end false proto = refl

arity_of_dual : (protos : List Proto) (e : Equation) → All (HasArity protos) (branches_of e) → All (HasArity protos) (branches_of (dual_equation e))
arity_of_dual protos (Send res next) h = h
arity_of_dual protos (Recv res next) h = h
arity_of_dual protos Close h = h
arity_of_dual protos Wait h = h
arity_of_dual protos (Branch left right this other) h = by
  where
    by : All (HasArity protos) (dual_written this ∷ dual_written other ∷ [])
    by zero d b = h zero d b
    by (suc zero) d b = h (suc zero) d b
    by (suc (suc k)) d b = h (suc (suc k)) d b

pub arity_of_end : (protos : List Proto) (dual : Bool) (proto : Proto) → All (HasArity protos) (branches_of proto.equation) → All (HasArity protos) (branches_of (equation_of_end dual proto))
arity_of_end protos true proto h = arity_of_dual protos proto.equation h
arity_of_end protos false proto h = h

-- ---- the next end

next_args : (at : Ident → ℤ) (params : List Ident) (args ts us : List Term) → length args ≡ length params → All (NamesOnly params) ts → Each (IsNormalPut (put_of params args) [] []) ts us → map (sum_of (pos 1) at) us ≡ map (sum_of (pos 1) (argument params (map (sum_of (pos 1) at) args))) ts
next_args at params args [] [] l only each = refl
next_args at params args [] (u ∷ us) l only each = absurd each
next_args at params args (t ∷ ts) [] l only each = absurd each
next_args at params args (t ∷ ts) (u ∷ us) l only each =
    let here : sum_of (pos 1) at u ≡ sum_of (pos 1) (argument params (map (sum_of (pos 1) at) args)) t = each.0.value (var_at at (λ i. pos 0)) ∙ term_value_is at params args t l (All-head (NamesOnly params) t ts only) in
    rw (here, next_args at params args ts us l (All-tail (NamesOnly params) t ts only) each.1) refl

next_is : (at : Ident → ℤ) (params : List Ident) (args : List Term) (picked next : Ref) → length args ≡ length params → All (NamesOnly params) picked.args → IsRefLike (IsNormalPut (put_of params args)) [] [] picked next → concrete at next ≡ concrete (argument params (map (sum_of (pos 1) at) args)) picked
next_is at params args picked next l only like =
    rw (sym like.dual, sym like.name, next_args at params args picked.args next.args l only like.args) refl

each_long : {X : Type 0} (R : X → X → Type 0) (xs ys : List X) → Each R xs ys → length ys ≡ length xs
each_long R [] [] e = refl
each_long R [] (y ∷ ys) e = absurd e
each_long R (x ∷ xs) [] e = absurd e
each_long R (x ∷ xs) (y ∷ ys) e = rw (each_long R xs ys e.1) refl

pub next_arity : (protos : List Proto) (params : List Ident) (args : List Term) (picked next : Ref) → IsRefLike (IsNormalPut (put_of params args)) [] [] picked next → HasArity protos picked → HasArity protos next
next_arity protos params args picked next like h = λ proto e. each_long (IsNormalPut (put_of params args) [] []) picked.args next.args like.args ∙ h proto (rw like.name e)

-- ---- the way that a letter picks

picked_terms : (params : List Ident) (letter : Letter) (left right : Term) (this other : Ref) → All (NamesOnly params) (branch_terms (Branch left right this other)) → All (NamesOnly params) (on_way letter this other).args
picked_terms params letter left right this other h = by letter
  where
    both : All (NamesOnly params) (this.args ++ other.args)
    both = All-tail (NamesOnly params) right (this.args ++ other.args) (All-tail (NamesOnly params) left (right ∷ this.args ++ other.args) h)

    by : (letter : Letter) → All (NamesOnly params) (on_way letter this other).args
    by First = all_left (NamesOnly params) this.args other.args both
    by Second = all_right (NamesOnly params) this.args other.args both

pub picked_arity : (protos : List Proto) (letter : Letter) (left right : Term) (this other : Ref) → All (HasArity protos) (branches_of (Branch left right this other)) → HasArity protos (on_way letter this other)
picked_arity protos First left right this other h = All-head (HasArity protos) this (other ∷ []) h
picked_arity protos Second left right this other h = All-head (HasArity protos) other [] (All-tail (HasArity protos) this (other ∷ []) h)

module _ (s : Setting) (values : ℕ → ℤ) (formed : IsWellFormed s) (hyps : All (λ row. value_at values row ≤ℤ pos 0) s.hyps) where
  abbrev at : Ident → ℤ
  at = by_place s.ints values

  followed : (letters : List Letter) (used n : ℕ) (ref last : Ref) (head : Head) → HasArity s.protos ref → Follows s used ref letters (On last n) → HasHead s.protos (concrete at last) [] head → HasHead s.protos (concrete at ref) letters head
  followed [] used n ref last head arity f h = let same_end : last ≡ ref = cc in subst (λ (r : Ref). HasHead s.protos (concrete at r) [] head) same_end h
  followed (letter ∷ letters) used n ref last head arity (inl (fault, e, t)) h = absurd cc
  followed (letter ∷ letters) used n ref last head arity (inr (next, more, (proto, left, right, this, other, has, takes), rest)) h =
      (proto, left, right, this, other, has, way_is, subst (λ (e : Concrete). HasHead s.protos e letters head) next_end (followed letters more n next last head arity_next rest h))
    where
      terms : All (NamesOnly proto.params) (branch_terms (Branch left right this other))
      terms = subst (λ (e : Equation). All (NamesOnly proto.params) (branch_terms e)) has.1 (subst (λ (l : List Term). All (NamesOnly proto.params) l) (sym (terms_of_end ref.dual proto)) (formed.protos.named ref.name proto has.0))

      arities : All (HasArity s.protos) (branches_of (Branch left right this other))
      arities = subst (λ (e : Equation). All (HasArity s.protos) (branches_of e)) has.1 (arity_of_end s.protos ref.dual proto (formed.protos.arity ref.name proto has.0))

      long : length ref.args ≡ length proto.params
      long = arity proto has.0

      low : value_at values (asked_row s (put_of proto.params ref.args) letter left right) ≤ℤ pos 0
      low = met s values used more (asked_row s (put_of proto.params ref.args) letter left right) formed.divisors hyps takes.1

      way_is : letter ≡ way (argument proto.params (map (sum_of (pos 1) at) ref.args)) left right
      way_is = letter_is_way s values proto.params ref.args letter left right long (All-head (NamesOnly proto.params) left (right ∷ this.args ++ other.args) terms) (All-head (NamesOnly proto.params) right (this.args ++ other.args) (All-tail (NamesOnly proto.params) left (right ∷ this.args ++ other.args) terms)) low

      next_end : concrete at next ≡ concrete (argument proto.params (map (sum_of (pos 1) at) ref.args)) (on_way letter this other)
      next_end = next_is at proto.params ref.args (on_way letter this other) next long (picked_terms proto.params letter left right this other terms) takes.2

      arity_next : HasArity s.protos next
      arity_next = next_arity s.protos proto.params ref.args (on_way letter this other) next takes.2 (picked_arity s.protos letter left right this other arities)

pub follows_the_ways : FollowsTheWays
follows_the_ways s values ref last letters used head formed arity hyps f h = followed s values formed hyps letters 0 used ref last head arity f h
