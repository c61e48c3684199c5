-- The words of terms, resources, values and proofs stand apart.
use Rattle.std.proofs.Common.{ℕ, true, false, Bool, if◌then◌else◌, List, [], ◌∷◌, ◌++◌, codes, Option, Some, None, refl, unsigned_abs}
use Rattle.chan_syntax.specs.declared.linear.Part.{Part}
use Rattle.chan_syntax.specs.declared.linear.Term.{Term}
use Rattle.chan_syntax.specs.declared.linear.Relation.{Relation}
use Rattle.chan_syntax.specs.declared.linear.Relation.TheVariants as relation
use Rattle.chan_syntax.specs.declared.linear.Limit.{Limit}
use Rattle.chan_syntax.specs.declared.resources.Ref.{Ref}
use Rattle.chan_syntax.specs.declared.resources.Shape.{Shape, Unit, Int, End, Pair', Sum', Row_of-Res, end_of-Res, more_of-Res}
use Rattle.chan_syntax.specs.declared.resources.Res.{Res}
use Rattle.chan_syntax.specs.declared.resources.Param.{Param}
use Rattle.chan_syntax.specs.declared.operands.Supply.{Supply, Unit as SupplyUnit, Pair' as SupplyPair', Arm', Sum as SupplySum, Row_of-Supply, end_of-Supply, more_of-Supply}
use Rattle.chan_syntax.specs.declared.operands.Pat.{Pat}
use Rattle.chan_syntax.specs.declared.operands.Letter.{Letter}
use Rattle.chan_syntax.specs.declared.operands.WrittenMention.{WrittenMention}
use Rattle.chan_syntax.specs.declared.operands.WrittenCert.{WrittenCert}
use Rattle.chan_syntax.specs.declared.operands.Proof.{Proof}
use Rattle.text_tokens.specs.Text.{Piece}
use Rattle.surface_spelling.specs.Layout.{mark, name, number, space, listed, in_parens, in_brackets}
use Rattle.surface_spelling.specs.Operands.{a_name, product, has_minus, first_part, next_part, more_parts, sum, term, relation_mark, limit, limits, binds, binds_before, binds_behind, reference, shape, boxed_res, row_of_res, res_behind, res, param, tag, value, boxed_value, values, names_behind, pat, two_pats, path, mention, mentions_behind, cert, instances, certificates, proof}
use Rattle.spelling_cuts.proofs.Apart.{Next, a_word, a_mark, Apart, Soft, apart_rules, layout_rules, apart_nil, apart_open, apart_less, apart_mark, apart_gap, apart_append, soft_gap, soft_front}

-- ---- terms

product_apart : (factor : ℕ) (n : Option (List ℕ)) → Apart a_mark (product factor n)
unfolding product
product_apart factor None = search apart_rules depth 12
product_apart factor (Some n) = search layout_rules depth 12

-- a sign that may stand before a word
sign_apart : (b : Bool) (c : Piece) → Apart a_word (c ∷ []) → Apart a_word (if b then c ∷ [] else [])
sign_apart true c a = a
sign_apart false c a = apart_nil a_word

first_apart : (p : Part) → Apart a_mark (first_part p)
unfolding first_part
first_apart p =
    apart_open a_mark (if has_minus p then mark (codes "-") ∷ [] else []) (product (unsigned_abs p.factor) p.name)
    (sign_apart (has_minus p) (mark (codes "-")) (record { is = refl })) (product_apart (unsigned_abs p.factor) p.name)

next_apart : (p : Part) → Apart a_mark (next_part p)
unfolding next_part
next_apart p = search (layout_rules, product_apart) depth 12

next_soft : (k : Next) (p : Part) → Soft k (next_part p)
unfolding next_part
next_soft k p = record { is = refl }

more_soft : (ps : List Part) → Soft a_mark (more_parts ps)
unfolding more_parts
more_soft [] = record { is = refl }
more_soft (p ∷ ps) = soft_front a_mark (next_part p) (more_parts ps) (next_soft a_word p)

more_apart : (ps : List Part) → Apart a_mark (more_parts ps)
unfolding more_parts
more_apart [] = record { is = refl }
more_apart (p ∷ ps) = apart_append a_mark (next_part p) (more_parts ps) (next_apart p) (more_soft ps) (more_apart ps)

sum_apart : (ps : List Part) → Apart a_mark (sum ps)
unfolding sum
sum_apart [] = search apart_rules depth 12
sum_apart (p ∷ ps) = apart_append a_mark (first_part p) (more_parts ps) (first_apart p) (more_soft ps) (more_apart ps)

pub term_apart : (t : Term) → Apart a_mark (term t)
unfolding term
term_apart t = sum_apart t.parts

-- ---- binders

relation_apart : (k : Next) (r : Relation) (ps : List Piece) → Apart k ps → Apart k (relation_mark r ∷ space ∷ ps)
relation_apart k relation.AtMost ps a = record { is = a.is }
relation_apart k relation.Less ps a = apart_less k ps a
relation_apart k relation.Same ps a = record { is = a.is }

limit_apart : (l : Limit) → Apart a_mark (limit l)
unfolding limit
limit_apart l = search (apart_rules, relation_apart, term_apart) depth 12

limits_soft : (ls : List Limit) → Soft a_mark (limits ls)
unfolding limits
limits_soft [] = record { is = refl }
limits_soft (l ∷ ls) = record { is = refl }

limits_apart : (ls : List Limit) → Apart a_mark (limits ls)
unfolding limits
limits_apart [] = record { is = refl }
limits_apart (l ∷ ls) = search (layout_rules, limit_apart) depth 12

pub name_apart : (n : List ℕ) → Apart a_mark (a_name n)
name_apart n = record { is = refl }

binds_apart : (k : Next) (ns : List (List ℕ)) (ls : List Limit) → Apart k (binds ns ls)
unfolding binds
binds_apart k ns ls = search (layout_rules, name_apart, limits_soft, limits_apart) depth 12

binds_soft : (k : Next) (ns : List (List ℕ)) (ls : List Limit) → Soft k (binds ns ls)
unfolding binds in_brackets
binds_soft k ns ls = record { is = refl }

before_apart : (k : Next) (ns : List (List ℕ)) (ls : List Limit) → Apart k (binds_before ns ls)
unfolding binds_before
before_apart k [] [] = record { is = refl }
before_apart k [] (l ∷ ls) = search (apart_rules, binds_apart) depth 12
before_apart k (n ∷ ns) ls = search (apart_rules, binds_apart) depth 12

pub behind_soft : (ns : List (List ℕ)) (ls : List Limit) → Soft a_mark (binds_behind ns ls)
unfolding binds_behind
behind_soft [] [] = record { is = refl }
behind_soft [] (l ∷ ls) = record { is = refl }
behind_soft (n ∷ ns) ls = record { is = refl }

pub behind_apart : (ns : List (List ℕ)) (ls : List Limit) → Apart a_mark (binds_behind ns ls)
unfolding binds_behind
behind_apart [] [] = record { is = refl }
behind_apart [] (l ∷ ls) = search (apart_rules, binds_apart) depth 12
behind_apart (n ∷ ns) ls = search (apart_rules, binds_apart) depth 12

-- ---- resources

pub reference_apart : (r : Ref) → Apart a_mark (reference r)
unfolding reference
reference_apart r =
    apart_open a_mark (if r.dual then mark (codes "~") ∷ [] else []) (name r.name ∷ in_parens (listed term r.args)) (sign_apart r.dual (mark (codes "~")) (record { is = refl }))
    (search (layout_rules, term_apart) depth 12)

behind_row_soft : {m : _} (r : Row_of-Res m) → Soft a_mark (res_behind r)
unfolding res_behind
behind_row_soft end_of-Res = record { is = refl }
behind_row_soft (more_of-Res b s rest) = record { is = refl }

mutual
  unfolding shape boxed_res row_of_res res_behind

  pub shape_apart : (s : Shape) → Apart a_mark (shape s)
  shape_apart Unit = record { is = refl }
  shape_apart (Int t) = search (layout_rules, term_apart) depth 12
  shape_apart (End r) = search (layout_rules, reference_apart) depth 12
  shape_apart (Pair' m a n b) = let first = boxed_res_apart a in let second = boxed_res_apart b in search layout_rules depth 12
  shape_apart (Sum' m arms) = let inner = row_apart arms in search layout_rules depth 12

  boxed_res_apart : {m : _} (r : Row_of-Res m) → Apart a_mark (boxed_res r)
  boxed_res_apart end_of-Res = record { is = refl }
  boxed_res_apart (more_of-Res b s rest) = apart_open a_mark (binds_before b.names b.limits) (shape s) (before_apart a_word b.names b.limits) (shape_apart s)

  row_apart : {m : _} (r : Row_of-Res m) → Apart a_mark (row_of_res r)
  row_apart end_of-Res = record { is = refl }
  row_apart (more_of-Res b s rest) =
      apart_append a_mark (binds_before b.names b.limits ++ shape s) (res_behind rest)
      (apart_open a_mark (binds_before b.names b.limits) (shape s) (before_apart a_word b.names b.limits) (shape_apart s)) (behind_row_soft rest) (behind_row_apart rest)

  behind_row_apart : {m : _} (r : Row_of-Res m) → Apart a_mark (res_behind r)
  behind_row_apart end_of-Res = record { is = refl }
  behind_row_apart (more_of-Res b s rest) =
      let first = apart_append a_mark (binds_before b.names b.limits ++ shape s) (res_behind rest)
      (apart_open a_mark (binds_before b.names b.limits) (shape s) (before_apart a_word b.names b.limits) (shape_apart s)) (behind_row_soft rest) (behind_row_apart rest) in
      record { is = first.is }

pub res_apart : (r : Res) → Apart a_mark (res r)
unfolding res
res_apart r = apart_open a_mark (binds_before r.bound.names r.bound.limits) (shape r.shape) (before_apart a_word r.bound.names r.bound.limits) (shape_apart r.shape)

pub param_apart : (p : Param) → Apart a_mark (param p)
unfolding param
param_apart p = search (layout_rules, shape_apart) depth 12

-- ---- operands

pub tag_apart : (i : ℕ) → Apart a_mark (tag i)
unfolding tag
tag_apart i = search layout_rules depth 12

mutual
  unfolding value boxed_value

  pub value_apart : (v : Supply) → Apart a_mark (value v)
  value_apart SupplyUnit = search layout_rules depth 12
  value_apart (SupplyPair' m a n b) = let first = boxed_value_apart a in let second = boxed_value_apart b in search layout_rules depth 12
  value_apart (Arm' i m a) = apart_append a_mark (tag i) (space ∷ boxed_value a) (tag_apart i) (soft_gap a_mark (boxed_value a)) (apart_gap a_mark (boxed_value a) (boxed_value_apart a))
  value_apart (SupplySum t) = term_apart t

  boxed_value_apart : {m : _} (r : Row_of-Supply m) → Apart a_mark (boxed_value r)
  boxed_value_apart end_of-Supply = record { is = refl }
  boxed_value_apart (more_of-Supply v rest) = value_apart v

pub values_apart : (k : Next) (vs : List Supply) → Apart k (values vs)
unfolding values
values_apart k vs = search (layout_rules, value_apart) depth 12

pub values_soft : (k : Next) (vs : List Supply) → Soft k (values vs)
unfolding values in_parens
values_soft k vs = record { is = refl }

pub names_soft : (ns : List (List ℕ)) → Soft a_mark (names_behind ns)
unfolding names_behind
names_soft [] = record { is = refl }
names_soft (n ∷ ns) = record { is = refl }

pub names_apart : (ns : List (List ℕ)) → Apart a_mark (names_behind ns)
unfolding names_behind
names_apart [] = record { is = refl }
names_apart (n ∷ ns) = search (layout_rules, name_apart) depth 12

pub pat_apart : (p : Pat) → Apart a_mark (pat p)
unfolding pat
pat_apart p = search (apart_rules, names_soft, names_apart) depth 12

pub two_pats_apart : (k : Next) (p q : Pat) → Apart k (two_pats p q)
unfolding two_pats
two_pats_apart k p q = search (layout_rules, pat_apart) depth 12

pub path_soft : (ls : List Letter) → Soft a_mark (path ls)
unfolding path
path_soft [] = record { is = refl }
path_soft (l ∷ ls) = record { is = refl }

pub path_apart : (ls : List Letter) → Apart a_mark (path ls)
unfolding path
path_apart [] = record { is = refl }
path_apart (l ∷ ls) = record { is = refl }

-- ---- proofs

mention_apart : (m : WrittenMention) → Apart a_mark (mention m)
unfolding mention
mention_apart m =
    apart_open a_mark (if m.negative then mark (codes "-") ∷ [] else []) (number m.factor ∷ space ∷ mark (codes "#") ∷ number m.index ∷ []) (sign_apart m.negative (mark (codes "-")) (record { is = refl }))
    (search apart_rules depth 12)

mentions_soft : (ms : List WrittenMention) → Soft a_mark (mentions_behind ms)
unfolding mentions_behind
mentions_soft [] = record { is = refl }
mentions_soft (m ∷ ms) = record { is = refl }

mentions_apart : (ms : List WrittenMention) → Apart a_mark (mentions_behind ms)
unfolding mentions_behind
mentions_apart [] = record { is = refl }
mentions_apart (m ∷ ms) = search (layout_rules, mention_apart) depth 12

cert_apart : (c : WrittenCert) → Apart a_mark (cert c)
unfolding cert
cert_apart c = search (layout_rules, mention_apart, mentions_apart) depth 12

instances_soft : (ts : List Term) → Soft a_mark (instances ts)
unfolding instances
instances_soft [] = record { is = refl }
instances_soft (t ∷ ts) = record { is = refl }

instances_apart : (ts : List Term) → Apart a_mark (instances ts)
unfolding instances
instances_apart [] = record { is = refl }
instances_apart (t ∷ ts) = search (layout_rules, term_apart) depth 12

certificates_soft : (cs : List WrittenCert) → Soft a_mark (certificates cs)
unfolding certificates
certificates_soft [] = record { is = refl }
certificates_soft (c ∷ cs) = record { is = refl }

certificates_apart : (cs : List WrittenCert) → Apart a_mark (certificates cs)
unfolding certificates
certificates_apart [] = record { is = refl }
certificates_apart (c ∷ cs) = search (layout_rules, cert_apart) depth 12

pub proof_soft : (q : Proof) → Soft a_mark (proof q)
unfolding proof
proof_soft q = search (apart_rules, instances_soft, certificates_soft) depth 12

pub proof_apart : (q : Proof) → Apart a_mark (proof q)
unfolding proof
proof_apart q = search (apart_rules, instances_apart, certificates_soft, certificates_apart) depth 12

pub ruleset operand_rules = (layout_rules, term_apart, name_apart, behind_soft, behind_apart, reference_apart, shape_apart, res_apart, param_apart, value_apart, values_apart, values_soft, names_soft, names_apart, pat_apart, two_pats_apart, path_soft, path_apart, proof_soft, proof_apart)
