-- What unfolding answers is the head of the end where the hypotheses are true.
use Rattle.std.proofs.Common.{◌≡◌, inl, inr, ℕ, suc, ℤ, pos, Bool, true, false, List, [], ◌∷◌, ◌++◌, All, map, flat_map, length, Option, Some, None, option_map, refl, sym, ◌∙◌, ap, subst}
use Rattle.std.specs.List.{list_any}
use Rattle.std.proofs.lemmas.List.Elements.{All-head, All-tail}
use Rattle.core_language.specs.Names.{Ident, same}
use Rattle.core_language.specs.Terms.{Term, Limit}
use Rattle.core_language.specs.Resources.{Ref, Shape, Res, Resources, Equation, Proto}
use Rattle.core_language.specs.Resources as resource
use Rattle.core_language.specs.Operands.{Letter}
use Rattle.linear_forms.specs.Terms.{IntVar, sum_of, named, by_place, put_of}
use Rattle.linear_forms.specs.Substitution.{place_of, at_place, Scoped, scoped, terms_of_limit, terms_of_shape, terms_of_res, terms_of_resources, Each, OnNames, OnTerms, AnyNames, IsLimitLike, IsShapeLike, IsResLike, AreResourcesLike, IsRenamed, IsNormalPut}
use Rattle.linear_forms.proofs.Shorts.{all_left, all_right}
use Rattle.protocols.specs.Duals.{Message, message_of, turned}
use Rattle.protocols.specs.Heads.{Head, argument, equation_of_end}
use Rattle.protocols.specs.Unfolding.{Setting, On, Follows, NamesUnder, message_terms, HasArity, AreFormed, var_at, HaveOneValue, FindsTheHead}
use Rattle.protocols.proofs.Turned.{same_message}
use Rattle.protocols.proofs.Ways.{argument_value, sum_only}
use Rattle.protocols.proofs.Followed.{follows_the_ways}
use Rattle.protocols.proofs.Stepping.{step_arity}

-- ---- resources whose terms have one value

each_to : {X : Type 0} (R Q : X → X → Type 0) (xs ys : List X) → ((x y : X) → R x y → Q x y) → Each R xs ys → Each Q xs ys
each_to R Q [] [] k h = tt
each_to R Q [] (y ∷ ys) k h = absurd h
each_to R Q (x ∷ xs) [] k h = absurd h
each_to R Q (x ∷ xs) (y ∷ ys) k h = (k x y h.0, each_to R Q xs ys k h.1)

module _ (N : OnNames) (T Q : OnTerms) (params : List Ident) (same_value : (before after : List Ident) (t u : Term) → NamesUnder params (record { binders = before; term = t }) → T before after t u → Q before after t u) where
  terms_to : (before after : List Ident) (ts us : List Term) → All (NamesUnder params) (scoped before ts) → Each (T before after) ts us → Each (Q before after) ts us
  terms_to before after [] [] only h = tt
  terms_to before after [] (u ∷ us) only h = absurd h
  terms_to before after (t ∷ ts) [] only h = absurd h
  terms_to before after (t ∷ ts) (u ∷ us) only h =
      (same_value before after t u (All-head (NamesUnder params) (record { binders = before; term = t }) (scoped before ts) only) h.0, terms_to before after ts us (All-tail (NamesUnder params) (record { binders = before; term = t }) (scoped before ts) only) h.1)

  limits_to : (before after : List Ident) (ls ms : List Limit) → All (NamesUnder params) (scoped before (flat_map terms_of_limit ls)) → Each (IsLimitLike T before after) ls ms → Each (IsLimitLike Q before after) ls ms
  limits_to before after [] [] only h = tt
  limits_to before after [] (m ∷ ms) only h = absurd h
  limits_to before after (l ∷ ls) [] only h = absurd h
  limits_to before after (l ∷ ls) (m ∷ ms) only h =
      let later = All-tail (NamesUnder params) (record { binders = before; term = l.left }) (record { binders = before; term = l.right } ∷ scoped before (flat_map terms_of_limit ls)) only in
      let both : IsLimitLike Q before after l m = record {
        left = same_value before after l.left m.left (All-head (NamesUnder params) (record { binders = before; term = l.left }) (record { binders = before; term = l.right } ∷ scoped before (flat_map terms_of_limit ls)) only) h.0.left;
        relation = h.0.relation;
        right = same_value before after l.right m.right (All-head (NamesUnder params) (record { binders = before; term = l.right }) (scoped before (flat_map terms_of_limit ls)) later) h.0.right;
      } in
      (both, limits_to before after ls ms (All-tail (NamesUnder params) (record { binders = before; term = l.right }) (scoped before (flat_map terms_of_limit ls)) later) h.1)

  mutual
    shape_to : (before after : List Ident) (s t : Shape) → All (NamesUnder params) (terms_of_shape before s) → IsShapeLike N T before after s t → IsShapeLike AnyNames Q before after s t
    shape_to before after resource.Unit resource.Unit only h = tt
    shape_to before after (resource.Int t) (resource.Int u) only h = same_value before after t u (All-head (NamesUnder params) (record { binders = before; term = t }) [] only) h
    shape_to before after (resource.End r) (resource.End q) only h = record { dual = h.dual; name = h.name; args = terms_to before after r.args q.args only h.args }
    shape_to before after (resource.Pair a b) (resource.Pair c d) only h =
        (res_to before after a c (all_left (NamesUnder params) (terms_of_res before a) (terms_of_res before b) only) h.0, res_to before after b d (all_right (NamesUnder params) (terms_of_res before a) (terms_of_res before b) only) h.1)
    shape_to before after (resource.Sum rs) (resource.Sum qs) only h = resources_to before after rs qs only h
    shape_to before after resource.Unit (resource.Int u) only h = absurd h
    shape_to before after resource.Unit (resource.End q) only h = absurd h
    shape_to before after resource.Unit (resource.Pair c d) only h = absurd h
    shape_to before after resource.Unit (resource.Sum qs) only h = absurd h
    shape_to before after (resource.Int t) resource.Unit only h = absurd h
    shape_to before after (resource.Int t) (resource.End q) only h = absurd h
    shape_to before after (resource.Int t) (resource.Pair c d) only h = absurd h
    shape_to before after (resource.Int t) (resource.Sum qs) only h = absurd h
    shape_to before after (resource.End r) resource.Unit only h = absurd h
    shape_to before after (resource.End r) (resource.Int u) only h = absurd h
    shape_to before after (resource.End r) (resource.Pair c d) only h = absurd h
    shape_to before after (resource.End r) (resource.Sum qs) only h = absurd h
    shape_to before after (resource.Pair a b) resource.Unit only h = absurd h
    shape_to before after (resource.Pair a b) (resource.Int u) only h = absurd h
    shape_to before after (resource.Pair a b) (resource.End q) only h = absurd h
    shape_to before after (resource.Pair a b) (resource.Sum qs) only h = absurd h
    shape_to before after (resource.Sum rs) resource.Unit only h = absurd h
    shape_to before after (resource.Sum rs) (resource.Int u) only h = absurd h
    shape_to before after (resource.Sum rs) (resource.End q) only h = absurd h
    shape_to before after (resource.Sum rs) (resource.Pair c d) only h = absurd h

    res_to : (before after : List Ident) (r q : Res) → All (NamesUnder params) (terms_of_res before r) → IsResLike N T before after r q → IsResLike AnyNames Q before after r q
    res_to before after (resource.Binds b s) (resource.Binds c t) only h =
        let limits : All (NamesUnder params) (scoped (b.names ++ before) (flat_map terms_of_limit b.limits)) = all_left (NamesUnder params) (scoped (b.names ++ before) (flat_map terms_of_limit b.limits)) (terms_of_shape (b.names ++ before) s) only in
        let shapes : All (NamesUnder params) (terms_of_shape (b.names ++ before) s) = all_right (NamesUnder params) (scoped (b.names ++ before) (flat_map terms_of_limit b.limits)) (terms_of_shape (b.names ++ before) s) only in
        (each_to (N before (c.names ++ after) (resource.Binds b s)) (AnyNames before (c.names ++ after) (resource.Binds b s)) b.names c.names (λ x y k. tt) h.0, limits_to (b.names ++ before) (c.names ++ after) b.limits c.limits limits h.1, shape_to (b.names ++ before) (c.names ++ after) s t shapes h.2)

    resources_to : (before after : List Ident) (rs qs : Resources) → All (NamesUnder params) (terms_of_resources before rs) → AreResourcesLike N T before after rs qs → AreResourcesLike AnyNames Q before after rs qs
    resources_to before after resource.NoMore resource.NoMore only h = tt
    resources_to before after resource.NoMore (resource.More q qs) only h = absurd h
    resources_to before after (resource.More r rs) resource.NoMore only h = absurd h
    resources_to before after (resource.More r rs) (resource.More q qs) only h =
        (res_to before after r q (all_left (NamesUnder params) (terms_of_res before r) (terms_of_resources before rs) only) h.0, resources_to before after rs qs (all_right (NamesUnder params) (terms_of_res before r) (terms_of_resources before rs) only) h.1)

-- ---- terms with arguments put in

some_none : (i : ℕ) → Some i ≡ None → ⊥
some_none i e = absurd cc

unbound : (before params : List Ident) (x : Ident) → place_of before x ≡ None → list_any (λ p. same p x) (before ++ params) ≡ true → list_any (λ p. same p x) params ≡ true
unbound [] params x n m = m
unbound (y ∷ ys) params x n m = pick (same y x) refl (unbound ys params x)
  where
    lower : (o : Option ℕ) → option_map suc o ≡ None → o ≡ None
    lower None e = refl
    lower (Some i) e = absurd cc

    pick : (b : Bool) → same y x ≡ b → (place_of ys x ≡ None → list_any (λ p. same p x) (ys ++ params) ≡ true → list_any (λ p. same p x) params ≡ true) → list_any (λ p. same p x) params ≡ true
    pick true q again = absurd (some_none 0 (rw q at n))
    pick false q again =
        let none : option_map suc (place_of ys x) ≡ None = rw q at n in
        let rest : list_any (λ p. same p x) (ys ++ params) ≡ true = rw q at m in
        again (lower (place_of ys x) none) rest

-- a term of a message has one value, by the arguments or by what the parameters have
put_value : (at : Ident → ℤ) (params : List Ident) (args : List Term) (before after : List Ident) (t u : Term) → length args ≡ length params → NamesUnder params (record { binders = before; term = t }) → IsNormalPut (put_of params args) before after t u → HaveOneValue (argument params (map (sum_of (pos 1) at) args)) at before after t u
put_value at params args before after t u l only put inside =
    sym (put.value (var_at at inside) ∙ sum_only (pos 1) (λ x. at_place (var_at at inside) (named (put_of params args) (pos 1) at x) (place_of before x)) (λ x. at_place (var_at free inside) (free x) (place_of before x)) (λ x. list_any (λ p. same p x) (before ++ params) ≡ true) t only one)
  where
    free : Ident → ℤ
    free = argument params (map (sum_of (pos 1) at) args)

    one : (x : Ident) → list_any (λ p. same p x) (before ++ params) ≡ true → at_place (var_at at inside) (named (put_of params args) (pos 1) at x) (place_of before x) ≡ at_place (var_at free inside) (free x) (place_of before x)
    one x m = pick (place_of before x) refl
      where
        pick : (o : Option ℕ) → place_of before x ≡ o → at_place (var_at at inside) (named (put_of params args) (pos 1) at x) o ≡ at_place (var_at free inside) (free x) o
        pick None e = argument_value at params args x l (unbound before params x e m)
        pick (Some i) e = refl

-- ---- the message of an end

terms_turned : (o : Option Message) → message_terms (option_map turned o) ≡ message_terms o
terms_turned None = refl
terms_turned (Some m) = refl

terms_of_message : (d : Bool) (proto : Proto) → message_terms (message_of (equation_of_end d proto)) ≡ message_terms (message_of proto.equation)
terms_of_message true proto = ap message_terms (same_message proto.equation) ∙ terms_turned (message_of proto.equation)
terms_of_message false proto = refl

last_arity : (s : Setting) (used n : ℕ) (ref last : Ref) (letters : List Letter) → AreFormed s.protos → HasArity s.protos ref → Follows s used ref letters (On last n) → HasArity s.protos last
last_arity s used n ref last [] formed arity f = let is : ref ≡ last = cc in subst (HasArity s.protos) is arity
last_arity s used n ref last (letter ∷ letters) formed arity (inl (fault, e, step)) = absurd cc
last_arity s used n ref last (letter ∷ letters) formed arity (inr (next, more, step, rest)) = last_arity s more n next last letters formed (step_arity s used more ref next letter formed step) rest

pub the_head : FindsTheHead
the_head s ref letters found formed arity (form, (last, follows, (message, put, (proto, equation, at, is, put_is), direction, like))) values true_hyps =
    (head, follows_the_ways s values ref last letters found.used head formed arity true_hyps follows (proto, equation, at, is, refl, refl), sym direction, res_to (IsRenamed put) (IsNormalPut put) (HaveOneValue (argument proto.params head.args) ints) proto.params value [] [] message.res found.res named_terms like)
  where
    ints : Ident → ℤ
    ints = by_place s.ints values

    head : Head
    head = record { message = message; params = proto.params; args = map (sum_of (pos 1) ints) last.args }

    long : length last.args ≡ length proto.params
    long = last_arity s 0 found.used ref last letters formed.protos arity follows proto at.0

    terms : message_terms (message_of proto.equation) ≡ message_terms (Some message)
    terms = sym (terms_of_message last.dual proto) ∙ ap (λ (e : Equation). message_terms (message_of e)) at.1 ∙ ap message_terms is

    named_terms : All (NamesUnder proto.params) (terms_of_res [] message.res)
    named_terms = subst (λ (ts : List Scoped). All (NamesUnder proto.params) ts) terms (formed.protos.scoped last.name proto at.0)

    value : (before after : List Ident) (t u : Term) → NamesUnder proto.params (record { binders = before; term = t }) → IsNormalPut put before after t u → HaveOneValue (argument proto.params (map (sum_of (pos 1) ints) last.args)) ints before after t u
    value before after t u only h = put_value ints proto.params last.args before after t u long only (subst (λ (p : List IntVar). IsNormalPut p before after t u) put_is h)
