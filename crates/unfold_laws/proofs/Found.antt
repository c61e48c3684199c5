-- The references of what unfolding finds are known.
use Rattle.std.proofs.Common.{◌≡◌, Bool, true, false, List, [], ◌∷◌, ◌++◌, All, length, Option, Some, None, Ok, refl, ◌∙◌, subst}
use Rattle.std.proofs.lemmas.List.Elements.{All-nil, All-cons, All-append, All-head, All-tail}
use Rattle.core_language.specs.Names.{Ident}
use Rattle.core_language.specs.Resources.{Ref, Shape, Res, Resources, Equation, Proto, Send, Recv, Close, Wait, Branch}
use Rattle.core_language.specs.Resources as resource
use Rattle.core_language.specs.Operands.{Letter}
use Rattle.linear_forms.specs.Substitution.{Each, OnNames, OnTerms, IsRefLike, IsShapeLike, IsResLike, AreResourcesLike, IsRenamed, IsNormalPut}
use Rattle.linear_forms.proofs.Shorts.{all_left, all_right}
use Rattle.protocols.specs.Duals.{dual_equation, Message, message_of}
use Rattle.outline_language.specs.Equations.{dual_written, proto_named}
use Rattle.protocols.specs.Heads.{equation_of_end}
use Rattle.protocols.specs.Unfolding.{Setting, Found, Unfolds}
use Rattle.unfold_laws.specs.References.{refs_of_shape, refs_of_res, refs_of_resources, refs_of_equation, refs_of_message, IsKnown, AreKnown, KnowTheirs}

each_long : {X : Type 0} (R : X → X → Type 0) (xs ys : List X) → Each R xs ys → length ys ≡ length xs
each_long R [] [] e = refl
each_long R [] (y ∷ ys) e = absurd e
each_long R (x ∷ xs) [] e = absurd e
each_long R (x ∷ xs) (y ∷ ys) e = rw (each_long R xs ys e.1) refl

module _ (protos : List Proto) where
  -- the reference is known
  abbrev Is : Ref → Type 0
  Is = IsKnown protos

  -- ---- messages

  dual_known : (e : Equation) → All Is (refs_of_equation e) → All Is (refs_of_equation (dual_equation e))
  dual_known (Send res None) h = h
  dual_known (Send res (Some r)) h =
      All-append Is (refs_of_res res) (dual_written r ∷ []) (all_left Is (refs_of_res res) (r ∷ []) h) (All-cons Is (dual_written r) [] (All-head Is r [] (all_right Is (refs_of_res res) (r ∷ []) h)) (All-nil Is))
  dual_known (Recv res None) h = h
  dual_known (Recv res (Some r)) h =
      All-append Is (refs_of_res res) (dual_written r ∷ []) (all_left Is (refs_of_res res) (r ∷ []) h) (All-cons Is (dual_written r) [] (All-head Is r [] (all_right Is (refs_of_res res) (r ∷ []) h)) (All-nil Is))
  dual_known Close h = h
  dual_known Wait h = h
  dual_known (Branch left right this other) h =
      All-cons Is (dual_written this) (dual_written other ∷ []) (All-head Is this (other ∷ []) h) (All-cons Is (dual_written other) [] (All-head Is other [] (All-tail Is this (other ∷ []) h)) (All-nil Is))

  end_known : (dual : Bool) (proto : Proto) → All Is (refs_of_equation proto.equation) → All Is (refs_of_equation (equation_of_end dual proto))
  end_known true proto h = dual_known proto.equation h
  end_known false proto h = h

  message_known : (e : Equation) → All Is (refs_of_equation e) → All Is (refs_of_message (message_of e))
  message_known (Send res None) h = all_left Is (refs_of_res res) [] h
  message_known (Send (resource.Binds bound shape) (Some r)) h =
      All-append Is (refs_of_shape shape) (dual_written r ∷ []) (all_left Is (refs_of_shape shape) (r ∷ []) h) (All-cons Is (dual_written r) [] (All-head Is r [] (all_right Is (refs_of_shape shape) (r ∷ []) h)) (All-nil Is))
  message_known (Recv res None) h = all_left Is (refs_of_res res) [] h
  message_known (Recv (resource.Binds bound shape) (Some r)) h = h
  message_known Close h = All-nil Is
  message_known Wait h = All-nil Is
  message_known (Branch left right this other) h = All-nil Is

  -- ---- resources of one form

  module _ (N : OnNames) (T : OnTerms) where
    ref_kept : (before after : List Ident) (r q : Ref) → IsRefLike T before after r q → Is r → Is q
    ref_kept before after r q like (proto, named, long) =
        (proto, subst (λ x. proto_named x protos ≡ Some proto) like.name named, each_long (T before after) r.args q.args like.args ∙ long)

    mutual
      shape_kept : (before after : List Ident) (x y : Shape) → IsShapeLike N T before after x y → All Is (refs_of_shape x) → All Is (refs_of_shape y)
      shape_kept before after resource.Unit resource.Unit like h = h
      shape_kept before after (resource.Int t) (resource.Int u) like h = All-nil Is
      shape_kept before after (resource.End r) (resource.End q) like h = All-cons Is q [] (ref_kept before after r q like (All-head Is r [] h)) (All-nil Is)
      shape_kept before after (resource.Pair a b) (resource.Pair c d) like h =
          All-append Is (refs_of_res c) (refs_of_res d) (res_kept before after a c like.0 (all_left Is (refs_of_res a) (refs_of_res b) h)) (res_kept before after b d like.1 (all_right Is (refs_of_res a) (refs_of_res b) h))
      shape_kept before after (resource.Sum rs) (resource.Sum qs) like h = resources_kept before after rs qs like h
      shape_kept before after resource.Unit (resource.Int u) like h = absurd like
      shape_kept before after resource.Unit (resource.End q) like h = absurd like
      shape_kept before after resource.Unit (resource.Pair c d) like h = absurd like
      shape_kept before after resource.Unit (resource.Sum qs) like h = absurd like
      shape_kept before after (resource.Int t) resource.Unit like h = absurd like
      shape_kept before after (resource.Int t) (resource.End q) like h = absurd like
      shape_kept before after (resource.Int t) (resource.Pair c d) like h = absurd like
      shape_kept before after (resource.Int t) (resource.Sum qs) like h = absurd like
      shape_kept before after (resource.End r) resource.Unit like h = absurd like
      shape_kept before after (resource.End r) (resource.Int u) like h = absurd like
      shape_kept before after (resource.End r) (resource.Pair c d) like h = absurd like
      shape_kept before after (resource.End r) (resource.Sum qs) like h = absurd like
      shape_kept before after (resource.Pair a b) resource.Unit like h = absurd like
      shape_kept before after (resource.Pair a b) (resource.Int u) like h = absurd like
      shape_kept before after (resource.Pair a b) (resource.End q) like h = absurd like
      shape_kept before after (resource.Pair a b) (resource.Sum qs) like h = absurd like
      shape_kept before after (resource.Sum rs) resource.Unit like h = absurd like
      shape_kept before after (resource.Sum rs) (resource.Int u) like h = absurd like
      shape_kept before after (resource.Sum rs) (resource.End q) like h = absurd like
      shape_kept before after (resource.Sum rs) (resource.Pair c d) like h = absurd like

      res_kept : (before after : List Ident) (x y : Res) → IsResLike N T before after x y → All Is (refs_of_res x) → All Is (refs_of_res y)
      res_kept before after (resource.Binds b s) (resource.Binds c t) like h = shape_kept (b.names ++ before) (c.names ++ after) s t like.2 h

      resources_kept : (before after : List Ident) (rs qs : Resources) → AreResourcesLike N T before after rs qs → All Is (refs_of_resources rs) → All Is (refs_of_resources qs)
      resources_kept before after resource.NoMore resource.NoMore like h = h
      resources_kept before after resource.NoMore (resource.More q qs) like h = absurd like
      resources_kept before after (resource.More r rs) resource.NoMore like h = absurd like
      resources_kept before after (resource.More r rs) (resource.More q qs) like h =
          All-append Is (refs_of_res q) (refs_of_resources qs) (res_kept before after r q like.0 (all_left Is (refs_of_res r) (refs_of_resources rs) h)) (resources_kept before after rs qs like.1 (all_right Is (refs_of_res r) (refs_of_resources rs) h))

pub found_known : (s : Setting) (ref : Ref) (letters : List Letter) (found : Found) → KnowTheirs s.protos → Unfolds s ref letters (Ok found) → AreKnown s.protos (refs_of_res found.res)
found_known s ref letters found theirs (form, (last, follows, (message, put, (proto, equation, (named, is), sends, put_is), direction, like))) =
    res_kept s.protos (IsRenamed put) (IsNormalPut put) [] [] message.res found.res like known
  where
    known : AreKnown s.protos (refs_of_message (Some message))
    known = subst (λ (o : Option Message). AreKnown s.protos (refs_of_message o)) sends (message_known s.protos equation
        (subst (λ (e : Equation). AreKnown s.protos (refs_of_equation e)) is (end_known s.protos last.dual proto (theirs last.name proto named))))
