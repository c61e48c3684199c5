-- Shapes whose binders are renamed and in which terms are put in.
use Rattle.std.proofs.Common.{◌≡◌, ℕ, suc, ◌+◌, ◌≤◌, ◌^◌, codes, List, [], ◌∷◌, ◌++◌, map, length, refl, sym, ap, ◌∙◌, subst, arith}
use Rattle.std.specs.List.{AllByRecursion}
use Rattle.core_language.specs.Names.{Ident}
use Rattle.core_language.specs.Resources as resource
use Rattle.linear_forms.specs.Substitution.{Each, IsShapeLike, IsResLike, AreResourcesLike, IsLimitLike, AnyNames, IsPutTerm}
use Rattle.chan_base.specs.declared.spans.Span.{Span}
use Rattle.chan_syntax.specs.declared.linear.Term.{Term}
use Rattle.chan_syntax.specs.declared.linear.Limit.{Limit}
use Rattle.chan_syntax.specs.declared.linear.Bound.{Bound}
use Rattle.chan_syntax.specs.declared.resources.Shape.{Shape, Unit, Int, End, Pair', Sum', Row_of-Res, end_of-Res, more_of-Res}
use Rattle.chan_syntax.specs.Reading.{term_of, limit_of, bound_of, shape_of, res_in, resources_in}
use Rattle.session_lowering.specs.MadeNames.{numbered, numbered_from}
use Rattle.session_lowering.specs.declared.puts.Put.{Put}
use Rattle.session_lowering.specs.PutTerms.{puts, name_term, put_term, put_limit}
use Rattle.session_lowering.specs.Helpers.{names_as_terms, binders_of, binders_in, renamed_shape, renamed_row, renamed_bound, inside_names, inside_puts}
use Rattle.put_term_laws.specs.PutTerms.{vars_of}
use Rattle.put_term_laws.specs.Under.{AsMany}
use Rattle.put_term_laws.specs.Shapes.{IsOtherTerm, IsOtherLimit, IsOtherShape, IsOtherRes, AreOther, ArePutOther, RenamedShapeIsPut}
use Rattle.put_term_laws.proofs.Renamed.{renamed_is_put}
use Rattle.put_term_laws.proofs.Numbers.{names, AllBelow, AreApart, clear_term, clear_puts, all_stand, numbers_from, group_names, group_apart, group_below, all_small, group_many}

-- the binders around, with their new names s.j, all below a number
record Around (n : ℕ) (before after : List Ident) : Type 0 where
  numbers : List ℕ
  after_is : after ≡ names numbers
  apart : AreApart numbers
  below : AllBelow n numbers
  many : AsMany before after

abbrev all_puts : Span → List Put → (before after : List Ident) → List Put
all_puts span ps before after = puts before (names_as_terms span after) ++ ps

term_like : (span : Span) (ps : List Put) (n : ℕ) (before after : List Ident) (t : Term) → n ≤ 2 ^ 64 → Around n before after → ArePutOther ps → IsOtherTerm (term_of t)
    → IsPutTerm (vars_of ps) before after (term_of t) (term_of (put_term span (all_puts span ps before after) t))
term_like span ps n before after t le a others is =
    subst (λ names. IsPutTerm (vars_of ps) before names (term_of t) (term_of (put_term span (all_puts span ps before names) t))) (sym a.after_is)
    (renamed_is_put span before (names a.numbers) ps t (subst (AsMany before) a.after_is a.many) (all_stand a.numbers a.apart (all_small n a.numbers le a.below))
    (clear_puts a.numbers ps others) (clear_term a.numbers (term_of t) is))

args_like : (span : Span) (ps : List Put) (n : ℕ) (before after : List Ident) (ts : List Term) → n ≤ 2 ^ 64 → Around n before after → ArePutOther ps → AllByRecursion IsOtherTerm (map term_of ts)
    → Each (IsPutTerm (vars_of ps) before after) (map term_of ts) (map term_of (map (put_term span (all_puts span ps before after)) ts))
args_like span ps n before after [] le a others are = tt
args_like span ps n before after (t ∷ ts) le a others (first, rest) =
    (term_like span ps n before after t le a others first, args_like span ps n before after ts le a others rest)

limits_like : (span : Span) (ps : List Put) (n : ℕ) (before after : List Ident) (ls : List Limit) → n ≤ 2 ^ 64 → Around n before after → ArePutOther ps → AllByRecursion IsOtherLimit (map limit_of ls)
    → Each (IsLimitLike (IsPutTerm (vars_of ps)) before after) (map limit_of ls) (map limit_of (map (put_limit span (all_puts span ps before after)) ls))
limits_like span ps n before after [] le a others are = tt
limits_like span ps n before after (l ∷ ls) le a others (first, rest) = (
  record { left = term_like span ps n before after l.left le a others first.0; relation = refl; right = term_like span ps n before after l.right le a others first.1 },
  limits_like span ps n before after ls le a others rest,
)

-- a group more around
group : (n : ℕ) (before after xs : List Ident) → Around n before after → Around (n + length xs) (xs ++ before) (numbered_from (codes "s") n xs ++ after)
group n before after xs a = record {
  numbers = numbers_from n xs ++ a.numbers;
  after_is = ap (λ ys. numbered_from (codes "s") n xs ++ ys) a.after_is ∙ sym (group_names n xs a.numbers);
  apart = group_apart n xs a.numbers a.below a.apart;
  below = group_below n xs a.numbers a.below;
  many = group_many n xs before after a.many;
}

wide : (n m : ℕ) (before after : List Ident) → n ≤ m → Around n before after → Around m before after
wide n m before after le a = record { numbers = a.numbers; after_is = a.after_is; apart = a.apart; below = below_more a.numbers a.below; many = a.many }
  where
    below_more : (js : List ℕ) → AllBelow n js → AllBelow m js
    below_more [] all = tt
    below_more (j ∷ js) (first, rest) = (omega (arith, le, first), below_more js rest)

puts_more : (span : Span) (ps : List Put) (n : ℕ) (before after xs : List Ident)
    → all_puts span ps (xs ++ before) (numbered_from (codes "s") n xs ++ after) ≡ puts xs (names_as_terms span (numbered_from (codes "s") n xs)) ++ all_puts span ps before after
puts_more span ps n before after [] = refl
puts_more span ps n before after (x ∷ xs) = ap (λ qs. record { name = x; term = name_term span (numbered (codes "s") n) span } ∷ qs) (puts_more span ps (suc n) before after xs)

each_name : (before scope : List Ident) (res : resource.Res) (n : ℕ) (xs : List Ident) → Each (AnyNames before scope res) xs (numbered_from (codes "s") n xs)
each_name before scope res n [] = tt
each_name before scope res n (x ∷ xs) = (tt, each_name before scope res (suc n) xs)

-- a resource, once its shape is known
one_like : (span : Span) (ps : List Put) (n : ℕ) (before after : List Ident) (b : Bound) (x : Shape) → n + length b.names ≤ 2 ^ 64 → Around n before after → ArePutOther ps
    → AllByRecursion IsOtherLimit (map limit_of b.limits)
    → IsShapeLike AnyNames (IsPutTerm (vars_of ps)) (b.names ++ before) (inside_names n b ++ after) (shape_of x)
    (shape_of (renamed_shape span (n + length b.names) (all_puts span ps (b.names ++ before) (inside_names n b ++ after)) x))
    → IsResLike AnyNames (IsPutTerm (vars_of ps)) before after (resource.Binds (bound_of b) (shape_of x))
    (resource.Binds (bound_of (renamed_bound span n b (all_puts span ps before after))) (shape_of (renamed_shape span (n + length b.names) (inside_puts span n b (all_puts span ps before after)) x)))
one_like span ps n before after b x le a others limits inside = (
  each_name before (inside_names n b ++ after) (resource.Binds (bound_of b) (shape_of x)) n b.names,
  subst (λ qs. Each (IsLimitLike (IsPutTerm (vars_of ps)) (b.names ++ before) (inside_names n b ++ after)) (map limit_of b.limits) (map limit_of (map (put_limit span qs) b.limits)))
      (puts_more span ps n before after b.names)
      (limits_like span ps (n + length b.names) (b.names ++ before) (inside_names n b ++ after) b.limits le (group n before after b.names a) others limits),
  subst (λ qs. IsShapeLike AnyNames (IsPutTerm (vars_of ps)) (b.names ++ before) (inside_names n b ++ after) (shape_of x) (shape_of (renamed_shape span (n + length b.names) qs x)))
      (puts_more span ps n before after b.names) inside,
)

mutual
  unfolding renamed_shape renamed_row binders_of binders_in

  shape_like : (span : Span) (ps : List Put) (n : ℕ) (before after : List Ident) (x : Shape) → n + binders_of x ≤ 2 ^ 64 → Around n before after → ArePutOther ps → IsOtherShape (shape_of x)
      → IsShapeLike AnyNames (IsPutTerm (vars_of ps)) before after (shape_of x) (shape_of (renamed_shape span n (all_puts span ps before after) x))
  shape_like span ps n before after Unit le a others is = tt
  shape_like span ps n before after (Int t) le a others is = term_like span ps n before after t (omega (arith, le)) a others is
  shape_like span ps n before after (End r) le a others is = record { dual = refl; name = refl; args = args_like span ps n before after r.args (omega (arith, le)) a others is }
  shape_like span ps n before after (Pair' _ r _ s) le a others (first, second) = (
    res_like span ps n before after r (omega (arith, le)) a others first,
    res_like span ps (n + binders_in r) before after s (omega (arith, le)) (wide n (n + binders_in r) before after (omega arith) a) others second,
  )
  shape_like span ps n before after (Sum' _ rs) le a others is = resources_like span ps n before after rs le a others is

  res_like : {m : _} (span : Span) (ps : List Put) (n : ℕ) (before after : List Ident) (r : Row_of-Res m) → n + binders_in r ≤ 2 ^ 64 → Around n before after → ArePutOther ps → IsOtherRes (res_in r)
      → IsResLike AnyNames (IsPutTerm (vars_of ps)) before after (res_in r) (res_in (renamed_row span n (all_puts span ps before after) r))
  res_like span ps n before after end_of-Res le a others is = (tt, tt, tt)
  res_like span ps n before after (more_of-Res b x rest) le a others is =
      one_like span ps n before after b x (omega (arith, le)) a others is.0
      (shape_like span ps (n + length b.names) (b.names ++ before) (inside_names n b ++ after) x (omega (arith, le)) (group n before after b.names a) others is.1)

  resources_like : {m : _} (span : Span) (ps : List Put) (n : ℕ) (before after : List Ident) (rs : Row_of-Res m) → n + binders_in rs ≤ 2 ^ 64 → Around n before after → ArePutOther ps → AreOther (resources_in rs)
      → AreResourcesLike AnyNames (IsPutTerm (vars_of ps)) before after (resources_in rs) (resources_in (renamed_row span n (all_puts span ps before after) rs))
  resources_like span ps n before after end_of-Res le a others is = tt
  resources_like span ps n before after (more_of-Res b x rest) le a others (first, more) = (
    one_like span ps n before after b x (omega (arith, le)) a others first.0
        (shape_like span ps (n + length b.names) (b.names ++ before) (inside_names n b ++ after) x (omega (arith, le)) (group n before after b.names a) others first.1),
    resources_like span ps ((n + length b.names) + binders_of x) before after rest (omega (arith, le)) (wide n ((n + length b.names) + binders_of x) before after (omega arith) a) others more,
  )

none_around : Around 0 [] []
none_around = record { numbers = []; after_is = refl; apart = tt; below = tt; many = tt }

pub renamed_shape_is_put : RenamedShapeIsPut
renamed_shape_is_put span ps x le others is = shape_like span ps 0 [] [] x (omega (arith, le)) none_around others is
