-- Places change no word of a spelling.
use Rattle.std.proofs.Common.{◌≡◌, ℕ, codes, List, [], ◌∷◌, map, refl, ap}
use Rattle.chan_syntax.specs.declared.linear.Part.{Part}
use Rattle.chan_syntax.specs.declared.linear.Term.{Term}
use Rattle.chan_syntax.specs.declared.linear.Limit.{Limit}
use Rattle.chan_syntax.specs.declared.resources.Ref.{Ref}
use Rattle.chan_syntax.specs.declared.resources.Shape.{Shape, Unit, Int, End, Pair', Sum', Row_of-Res, end_of-Res, more_of-Res}
use Rattle.chan_syntax.specs.declared.resources.Res.{Res}
use Rattle.chan_syntax.specs.declared.resources.Param.{Param}
use Rattle.chan_syntax.specs.declared.operands.Supply.{Supply, Unit as SupplyUnit, Pair' as SupplyPair', Arm', Sum as SupplySum, Row_of-Supply, end_of-Supply, more_of-Supply}
use Rattle.chan_syntax.specs.declared.operands.WrittenMention.{WrittenMention}
use Rattle.chan_syntax.specs.declared.operands.WrittenCert.{WrittenCert}
use Rattle.chan_syntax.specs.declared.operands.Proof.{Proof}
use Rattle.chan_syntax.specs.declared.surface_tree.Start.{Start}
use Rattle.text_tokens.specs.Text.{Piece}
use Rattle.surface_spelling.specs.Layout.{mark, space, listed, behind_commas}
use Rattle.surface_spelling.specs.Operands.{has_minus, first_part, next_part, more_parts, sum, term, limit, limits, binds, binds_before, binds_behind, reference, shape, boxed_res, row_of_res, res_behind, res, param, value, boxed_value, values, mention, mentions_behind, cert, instances, certificates, proof}
use Rattle.surface_spelling.specs.Blocks.{start}
use Rattle.surface_spelling.specs.Erased as e

-- ---- lists

pub behind_same : {A : Type 0} (item : A → List Piece) (f : A → A) → ((x : A) → item (f x) ≡ item x) → (xs : List A) → behind_commas item (map f xs) ≡ behind_commas item xs
unfolding behind_commas
behind_same item f same [] = refl
behind_same item f same (x ∷ xs) = rw (same x, behind_same item f same xs) refl

pub listed_same : {A : Type 0} (item : A → List Piece) (f : A → A) → ((x : A) → item (f x) ≡ item x) → (xs : List A) → listed item (map f xs) ≡ listed item xs
unfolding listed
listed_same item f same [] = refl
listed_same item f same (x ∷ xs) = rw (same x, behind_same item f same xs) refl

-- ---- terms and binders

next_same : (p : Part) → next_part (e.part p) ≡ next_part p
unfolding next_part has_minus
next_same p = refl

more_same : (ps : List Part) → more_parts (map e.part ps) ≡ more_parts ps
unfolding more_parts
more_same [] = refl
more_same (p ∷ ps) = rw (next_same p, more_same ps) refl

sum_same : (ps : List Part) → sum (map e.part ps) ≡ sum ps
unfolding sum first_part has_minus
sum_same [] = refl
sum_same (p ∷ ps) = rw (more_same ps) refl

pub term_same : (t : Term) → term (e.term t) ≡ term t
unfolding term
term_same t = sum_same t.parts

limit_same : (l : Limit) → limit (e.limit l) ≡ limit l
unfolding limit
limit_same l = rw (term_same l.left, term_same l.right) refl

limits_same : (ls : List Limit) → limits (map e.limit ls) ≡ limits ls
unfolding limits
limits_same [] = refl
limits_same (l ∷ ls) = ap (λ v. mark (codes ":") ∷ space ∷ v) (listed_same limit e.limit limit_same (l ∷ ls))

binds_same : (ns : List (List ℕ)) (ls : List Limit) → binds ns (map e.limit ls) ≡ binds ns ls
unfolding binds
binds_same ns ls = rw (limits_same ls) refl

pub before_same : (ns : List (List ℕ)) (ls : List Limit) → binds_before ns (map e.limit ls) ≡ binds_before ns ls
unfolding binds_before
before_same [] [] = refl
before_same [] (l ∷ ls) = rw (binds_same [] (l ∷ ls)) refl
before_same (n ∷ ns) ls = rw (binds_same (n ∷ ns) ls) refl

pub binds_behind_same : (ns : List (List ℕ)) (ls : List Limit) → binds_behind ns (map e.limit ls) ≡ binds_behind ns ls
unfolding binds_behind
binds_behind_same [] [] = refl
binds_behind_same [] (l ∷ ls) = rw (binds_same [] (l ∷ ls)) refl
binds_behind_same (n ∷ ns) ls = rw (binds_same (n ∷ ns) ls) refl

-- ---- resources

pub reference_same : (r : Ref) → reference (e.reference r) ≡ reference r
unfolding reference
reference_same r = rw (listed_same term e.term term_same r.args) refl

mutual
  unfolding shape boxed_res

  pub shape_same : (s : Shape) → shape (e.shape s) ≡ shape s
  shape_same Unit = refl
  shape_same (Int t) = rw (term_same t) refl
  shape_same (End r) = rw (reference_same r) refl
  shape_same (Pair' m a n b) = rw (boxed_res_same a, boxed_res_same b) refl
  shape_same (Sum' m arms) = rw (row_of_res_same arms) refl

  boxed_res_same : {m : _} (r : Row_of-Res m) → boxed_res (e.boxed_res r) ≡ boxed_res r
  boxed_res_same end_of-Res = refl
  boxed_res_same (more_of-Res b s rest) = rw (before_same b.names b.limits, shape_same s) refl

  row_of_res_same : {m : _} (r : Row_of-Res m) → row_of_res (e.boxed_res r) ≡ row_of_res r
  row_of_res_same end_of-Res = refl
  row_of_res_same (more_of-Res b s rest) = rw (before_same b.names b.limits, shape_same s, res_behind_same rest) refl

  res_behind_same : {m : _} (r : Row_of-Res m) → res_behind (e.boxed_res r) ≡ res_behind r
  res_behind_same end_of-Res = refl
  res_behind_same (more_of-Res b s rest) = rw (before_same b.names b.limits, shape_same s, res_behind_same rest) refl

pub res_same : (r : Res) → res (e.res r) ≡ res r
unfolding res
res_same r = rw (before_same r.bound.names r.bound.limits, shape_same r.shape) refl

pub param_same : (p : Param) → param (e.param p) ≡ param p
unfolding param
param_same p = rw (shape_same p.shape) refl

-- ---- operands

mutual
  unfolding value boxed_value

  pub value_same : (v : Supply) → value (e.value v) ≡ value v
  value_same SupplyUnit = refl
  value_same (SupplyPair' m a n b) = rw (boxed_value_same a, boxed_value_same b) refl
  value_same (Arm' i m a) = rw (boxed_value_same a) refl
  value_same (SupplySum t) = term_same t

  boxed_value_same : {m : _} (r : Row_of-Supply m) → boxed_value (e.boxed_value r) ≡ boxed_value r
  boxed_value_same end_of-Supply = refl
  boxed_value_same (more_of-Supply v rest) = value_same v

pub values_same : (vs : List Supply) → values (map e.value vs) ≡ values vs
unfolding values
values_same vs = rw (listed_same value e.value value_same vs) refl

mention_same : (m : WrittenMention) → mention (e.mention m) ≡ mention m
unfolding mention
mention_same m = refl

mentions_same : (ms : List WrittenMention) → mentions_behind (map e.mention ms) ≡ mentions_behind ms
unfolding mentions_behind
mentions_same [] = refl
mentions_same (m ∷ ms) = ap (λ v. space ∷ v) (listed_same mention e.mention mention_same (m ∷ ms))

cert_same : (c : WrittenCert) → cert (e.cert c) ≡ cert c
unfolding cert
cert_same c = rw (listed_same mention e.mention mention_same c.mentions, mentions_same c.mentions) refl

instances_same : (ts : List Term) → instances (map e.term ts) ≡ instances ts
unfolding instances
instances_same [] = refl
instances_same (t ∷ ts) = rw (listed_same term e.term term_same (t ∷ ts)) refl

certificates_same : (cs : List WrittenCert) → certificates (map e.cert cs) ≡ certificates cs
unfolding certificates
certificates_same [] = refl
certificates_same (c ∷ cs) = rw (listed_same cert e.cert cert_same (c ∷ cs)) refl

pub proof_same : (q : Proof) → proof (e.proof q) ≡ proof q
unfolding proof
proof_same q = rw (instances_same q.instances, certificates_same q.certs) refl

pub start_same : (x : Start) → start (e.start x) ≡ start x
unfolding start
start_same x = rw (shape_same x.shape, value_same x.value) refl
