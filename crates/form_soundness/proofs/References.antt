-- References of a program of form are known, and its shapes are shallow.
use Rattle.std.proofs.Common.{◌≡◌, ℕ, suc, max, ◌≤◌, Bool, true, false, cond, nat_eq, List, [], ◌∷◌, ◌++◌, map, length, Option, Some, None, refl, sym, ap, ◌∙◌, subst, arith}
use Rattle.std.proofs.lemmas.Bool.{eqb-true, leb-true, and_parts}
use Rattle.std.proofs.lemmas.List.{length-map}
use Rattle.std.proofs.lemmas.Option.{none-some, same_Some}
use Rattle.core_language.specs.Names.{Ident, same}
use Rattle.core_language.specs.Resources as written
use Rattle.chan_base.specs.declared.spans.Span.{Span}
use Rattle.chan_syntax.specs.declared.resources.Ref.{Ref}
use Rattle.chan_syntax.specs.declared.resources.Shape.{Shape, Unit, Int, End, Pair', Sum', Row_of-Res, end_of-Res, more_of-Res}
use Rattle.chan_syntax.specs.declared.resources.Res.{Res}
use Rattle.chan_syntax.specs.declared.resources.Param.{Param}
use Rattle.chan_syntax.specs.declared.resources.Equation.{Equation}
use Rattle.chan_syntax.specs.declared.resources.Equation.TheVariants as equation
use Rattle.chan_syntax.specs.declared.resources.Proto.{Proto}
use Rattle.chan_syntax.specs.Reading.{term_of, shape_of, res_in, resources_in, res_of, equation_of, proto_of}
use Rattle.form_faults.specs.declared.signatures.Signature.{Signature}
use Rattle.form_faults.specs.declared.sorts.Known.{Known}
use Rattle.form_faults.specs.declared.sorts.Sort.TheVariants as sort
use Rattle.form_faults.specs.Scopes.{bind, bind_all, twice, twice_all, names_past}
use Rattle.form_faults.specs.Terms.{fixed_term_faults, fixed_terms_faults, bound_scope, bound_faults, count_of, counted, use_faults, fixed_ref_faults}
use Rattle.form_faults.specs.Resources.{shape_faults, res_in_faults, row_faults, res_faults, depth_of, depth_in, row_depth, is_shallow, unless_shallow, are_shallow, next_faults, message_faults, branch_faults, equation_faults, proto_binders, proto_faults, params_are_shallow, param_faults, params_faults}
use Rattle.core_programs.specs.Bodies.{param_of}
use Rattle.core_programs.specs.Passes.{proto_signatures, protos_faults}
use Rattle.frame_laws.proofs.Tests.{none_left, none_right, faultless}
use Rattle.outline_language.specs.Equations.{Direction, Sends, Receives, Fork, fork_of, proto_named, written_message}
use Rattle.outline_values.specs.Formed.{Knows, KnowsShape, KnowsRes, KnowsResources, nest_shape, nest_resource, nest_arms, deepest, ParamsFormed}

-- ---- references

-- a use without faults is of a protocol that is there
pub use_knows : (ps : List Proto) (name : Ident) (span : Span) (count : ℕ) → use_faults (proto_signatures ps) name span count ≡ [] → Knows (map proto_of ps) name count
unfolding use_faults count_of
use_knows [] name span count none = cc
use_knows (p ∷ ps) name span count none =
    by (same p.name name) (count_of (proto_signatures ps) name) (proto_named name (map proto_of ps)) (use_knows ps name span count) none
  where
    by : (t : Bool) (other : Option ℕ) (o : Option written.Proto) → (counted other name span count ≡ [] → (proto : written.Proto) × (o ≡ Some proto) × (count ≡ length proto.params))
        → counted (cond t (Some (length p.params)) other) name span count ≡ []
        → (proto : written.Proto) × (cond t (Some (proto_of p)) o ≡ Some proto) × (count ≡ length proto.params)
    by true other o more none = (proto_of p, refl, sym (eqb-true (length p.params) count (faultless (nat_eq (length p.params) count) _ [] none)))
    by false other o more none = more none

-- ---- how deep shapes nest

mutual
  unfolding depth_of depth_in

  shape_nests : (shape : Shape) → nest_shape (shape_of shape) ≡ depth_of shape
  shape_nests Unit = refl
  shape_nests (Int term) = refl
  shape_nests (End ref) = refl
  shape_nests (Pair' _ first _ second) =
      ap (λ n. suc (max n (nest_resource (res_in second)))) (row_nests first) ∙ ap (λ n. suc (max (depth_in first) n)) (row_nests second)
  shape_nests (Sum' _ arms) = ap suc (rows_nest arms)

  row_nests : {m : _} (row : Row_of-Res m) → nest_resource (res_in row) ≡ depth_in row
  row_nests end_of-Res = refl
  row_nests (more_of-Res bound shape rest) = shape_nests shape

  rows_nest : {m : _} (row : Row_of-Res m) → nest_arms (resources_in row) ≡ row_depth row
  rows_nest end_of-Res = refl
  rows_nest (more_of-Res bound shape rest) =
      ap (λ n. max n (nest_arms (resources_in rest))) (shape_nests shape) ∙ ap (λ n. max (depth_of shape) n) (rows_nest rest)

pub nests_less : (shape : Shape) → is_shallow shape ≡ true → nest_shape (shape_of shape) ≤ 200
nests_less shape shallow = subst (λ n. n ≤ 200) (sym (shape_nests shape)) (leb-true (depth_of shape) 200 shallow)

pub is_deepest : (n : ℕ) → n ≤ 200 → n ≤ deepest
is_deepest n less = omega (arith, less)

-- one level more, above a shape and an end
pub nests_one_more : (n : ℕ) → n ≤ 200 → suc (max n 0) ≤ deepest
nests_one_more n less = omega (arith, less)

pub all_shallow : (shallow : Bool) (span : Span) → unless_shallow shallow span ≡ [] → shallow ≡ true
unfolding unless_shallow
all_shallow shallow span none = faultless shallow _ [] none

-- ---- resources

module _ (table : List Proto) where
  abbrev protos : List Signature
  protos = proto_signatures table

  -- the protocols as the core language has them
  abbrev known : List written.Proto
  known = map proto_of table

  pub ref_knows : (ref : Ref) → use_faults protos ref.name ref.name_span (length ref.args) ≡ [] → Knows known ref.name (length (map term_of ref.args))
  ref_knows ref none = subst (Knows known ref.name) (sym (length-map ref.args term_of)) (use_knows table ref.name ref.name_span (length ref.args) none)

  pub fixed_ref_knows : (scope : List Known) (ref : Ref) → fixed_ref_faults protos scope ref ≡ [] → Knows known ref.name (length (map term_of ref.args))
  unfolding fixed_ref_faults
  fixed_ref_knows scope ref none = ref_knows ref (none_left (use_faults protos ref.name ref.name_span (length ref.args)) (fixed_terms_faults scope ref.args) none)

  mutual
    unfolding shape_faults res_in_faults

    pub shape_knows : (scope : List Known) (shape : Shape) → shape_faults protos scope shape ≡ [] → KnowsShape known (shape_of shape)
    shape_knows scope Unit none = tt
    shape_knows scope (Int term) none = tt
    shape_knows scope (End ref) none = fixed_ref_knows scope ref none
    shape_knows scope (Pair' _ first _ second) none =
        let one = res_in_faults protos scope first in
        let two = res_in_faults protos scope second in
        (row_knows scope first (none_left one two none), row_knows scope second (none_right one two none))
    shape_knows scope (Sum' _ arms) none = rows_know scope arms none

    row_knows : {m : _} (scope : List Known) (row : Row_of-Res m) → res_in_faults protos scope row ≡ [] → KnowsRes known (res_in row)
    row_knows scope end_of-Res none = tt
    row_knows scope (more_of-Res bound shape rest) none =
        shape_knows (bound_scope scope bound) shape (none_right (bound_faults scope bound) (shape_faults protos (bound_scope scope bound) shape) none)

    rows_know : {m : _} (scope : List Known) (row : Row_of-Res m) → row_faults protos scope row ≡ [] → KnowsResources known (resources_in row)
    rows_know scope end_of-Res none = tt
    rows_know scope (more_of-Res bound shape rest) none =
        let binds = bound_faults scope bound in
        let inner = shape_faults protos (bound_scope scope bound) shape in
        let others = row_faults protos scope rest in
        (shape_knows (bound_scope scope bound) shape (none_right binds inner (none_left (binds ++ inner) others none)), rows_know scope rest (none_right (binds ++ inner) others none))

  pub res_knows : (scope : List Known) (res : Res) → res_faults protos scope res ≡ [] → KnowsRes known (res_of res)
  unfolding res_faults
  res_knows scope res none =
      shape_knows (bound_scope scope res.bound) res.shape (none_right (bound_faults scope res.bound) (shape_faults protos (bound_scope scope res.bound) res.shape) none)

  pub params_formed : (scope : List Known) (ps : List Param) → params_faults protos scope ps ≡ [] → params_are_shallow ps ≡ true → ParamsFormed known (map param_of ps)
  unfolding params_faults param_faults
  params_formed scope [] none shallow = tt
  params_formed scope (p ∷ ps) none shallow =
      let names = twice scope p.name p.name_span in
      let shape = shape_faults protos scope p.shape in
      let others = params_faults protos (bind scope p.name sort.Variable) ps in
      let both = and_parts (is_shallow p.shape) (params_are_shallow ps) shallow in
      ((shape_knows scope p.shape (none_right names shape (none_left (names ++ shape) others none)), is_deepest (nest_shape (shape_of p.shape)) (nests_less p.shape both.0)), params_formed (bind scope p.name sort.Variable) ps (none_right (names ++ shape) others none) both.1)

  -- ---- messages

  -- the message is known and shallow
  abbrev pub MessageFormed : Direction × written.Res → Type 0
  MessageFormed m = KnowsRes known m.1 × (nest_resource m.1 ≤ deepest)

  formed_as : (direction : Direction) (res : written.Res) (m : Direction × written.Res) → Some (direction, res) ≡ Some m → KnowsRes known res → nest_resource res ≤ deepest → MessageFormed m
  formed_as direction res m is knows shallow = subst MessageFormed (same_Some (direction, res) m is) (knows, shallow)

  sent_clean : (scope : List Known) (res : Res) (next : Option Ref) → message_faults protos scope res next ≡ [] → (res_faults protos scope res ≡ []) × (next_faults protos (bound_scope scope res.bound) next ≡ [])
  unfolding message_faults
  sent_clean scope res next none =
      let sent = res_faults protos scope res in
      let on = next_faults protos (bound_scope scope res.bound) next in
      (none_left sent on none, none_right sent on none)

  next_knows : (scope : List Known) (ref : Ref) → next_faults protos scope (Some ref) ≡ [] → Knows known ref.name (length (map term_of ref.args))
  unfolding next_faults
  next_knows scope ref none = fixed_ref_knows scope ref none

  pub message_formed : (scope : List Known) (e : Equation) (m : Direction × written.Res) → equation_faults protos scope e ≡ [] → are_shallow e ≡ true → written_message (equation_of e) ≡ Some m → MessageFormed m
  unfolding equation_faults
  message_formed scope (equation.Send res None) m none shallow is =
      formed_as Sends (res_of res) m is (res_knows scope res (sent_clean scope res None none).0) (is_deepest (nest_shape (shape_of res.shape)) (nests_less res.shape shallow))
  message_formed scope (equation.Send res (Some ref)) m none shallow is =
      let clean = sent_clean scope res (Some ref) none in
      formed_as Sends _ m is (res_knows scope res clean.0, next_knows (bound_scope scope res.bound) ref clean.1) (nests_one_more (nest_shape (shape_of res.shape)) (nests_less res.shape shallow))
  message_formed scope (equation.Recv res None) m none shallow is =
      formed_as Receives (res_of res) m is (res_knows scope res (sent_clean scope res None none).0) (is_deepest (nest_shape (shape_of res.shape)) (nests_less res.shape shallow))
  message_formed scope (equation.Recv res (Some ref)) m none shallow is =
      let clean = sent_clean scope res (Some ref) none in
      formed_as Receives _ m is (res_knows scope res clean.0, next_knows (bound_scope scope res.bound) ref clean.1) (nests_one_more (nest_shape (shape_of res.shape)) (nests_less res.shape shallow))
  message_formed scope equation.Close m none shallow is = formed_as Sends _ m is tt (omega arith)
  message_formed scope equation.Wait m none shallow is = formed_as Receives _ m is tt (omega arith)
  message_formed scope (equation.Branch left right this other) m none shallow is = absurd (none-some m is)

  -- ---- `if` equations

  -- both references are known
  abbrev pub ForkFormed : Fork → Type 0
  ForkFormed fork = Knows known fork.this.name (length fork.this.args) × Knows known fork.other.name (length fork.other.args)

  pub fork_formed : (scope : List Known) (e : Equation) (fork : Fork) → equation_faults protos scope e ≡ [] → fork_of (equation_of e) ≡ Some fork → ForkFormed fork
  unfolding equation_faults branch_faults
  fork_formed scope (equation.Send res next) fork none is = absurd (none-some fork is)
  fork_formed scope (equation.Recv res next) fork none is = absurd (none-some fork is)
  fork_formed scope equation.Close fork none is = absurd (none-some fork is)
  fork_formed scope equation.Wait fork none is = absurd (none-some fork is)
  fork_formed scope (equation.Branch left right this other) fork none is =
      let one = fixed_term_faults scope left in
      let two = fixed_term_faults scope right in
      let three = fixed_ref_faults protos scope this in
      let four = fixed_ref_faults protos scope other in
      let refs = none_right two (three ++ four) (none_right one (two ++ (three ++ four)) none) in
      subst ForkFormed (same_Some _ fork is) (fixed_ref_knows scope this (none_left three four refs), fixed_ref_knows scope other (none_right three four refs))

-- ---- protocols

-- a protocol that is named has no fault
pub named_clean : (protos : List Signature) (ps : List Proto) (x : Ident) (proto : written.Proto) → protos_faults protos ps ≡ [] → proto_named x (map proto_of ps) ≡ Some proto
    → (p : Proto) × (proto_of p ≡ proto) × (proto_faults protos p ≡ [])
unfolding protos_faults
named_clean protos [] x proto none is = cc
named_clean protos (p ∷ ps) x proto none is = by (same p.name x) (proto_named x (map proto_of ps)) (named_clean protos ps x proto (none_right (proto_faults protos p) (protos_faults protos ps) none)) is
  where
    by : (t : Bool) (o : Option written.Proto) → (o ≡ Some proto → (q : Proto) × (proto_of q ≡ proto) × (proto_faults protos q ≡ []))
        → cond t (Some (proto_of p)) o ≡ Some proto → (q : Proto) × (proto_of q ≡ proto) × (proto_faults protos q ≡ [])
    by true o again e = (p, same_Some (proto_of p) proto e, none_left (proto_faults protos p) (protos_faults protos ps) none)
    by false o again e = again e

pub proto_clean : (protos : List Signature) (p : Proto) → proto_faults protos p ≡ [] → (are_shallow p.equation ≡ true) × (equation_faults protos (bind_all [] (proto_binders p)) p.equation ≡ [])
unfolding proto_faults
proto_clean protos p none =
    let shallow = unless_shallow (are_shallow p.equation) p.name_span in
    let names = twice_all [] (proto_binders p) in
    let many = names_past 16 (proto_binders p) in
    let whole = equation_faults protos (bind_all [] (proto_binders p)) p.equation in
    (all_shallow (are_shallow p.equation) p.name_span (none_left shallow (names ++ (many ++ whole)) none), none_right many whole (none_right names (many ++ whole) (none_right shallow (names ++ (many ++ whole)) none)))
