-- What the passes find in a program stands at one of its spans.
use Rattle.std.proofs.Common.{ℕ, zero, suc, Bool, true, false, ◌&&◌, ◌||◌, not, nat_eq, nat_le, nat_lt, is_some, if◌then◌else◌, List, [], ◌∷◌, ◌++◌, length, map, Option, Some, None, unwrap_or, slice_get, ◌⊎◌, inl, inr, refl, sym, ap, subst}
use Rattle.std.specs.List.{list_any}
use Rattle.core_language.specs.Names.{Ident}
use Rattle.chan_base.specs.declared.spans.Span.{Span}
use Rattle.chan_syntax.specs.declared.linear.Part.{Part}
use Rattle.chan_syntax.specs.declared.linear.Term.{Term}
use Rattle.chan_syntax.specs.declared.linear.Limit.{Limit}
use Rattle.chan_syntax.specs.declared.linear.Bound.{Bound}
use Rattle.chan_syntax.specs.declared.resources.Ref.{Ref}
use Rattle.chan_syntax.specs.declared.resources.Shape.{Shape, Unit as NoShape, Int, End, Pair', Sum', Row_of-Res, end_of-Res, more_of-Res}
use Rattle.chan_syntax.specs.declared.resources.Res.{Res}
use Rattle.chan_syntax.specs.declared.resources.Param.{Param}
use Rattle.chan_syntax.specs.declared.resources.Equation.{Equation}
use Rattle.chan_syntax.specs.declared.resources.Equation.TheVariants as equation
use Rattle.chan_syntax.specs.declared.resources.Proto.{Proto}
use Rattle.chan_syntax.specs.declared.operands.Supply.{Supply, Unit as NoSupply, Pair' as SupplyPair', Arm', Sum, Row_of-Supply, end_of-Supply, more_of-Supply}
use Rattle.chan_syntax.specs.declared.operands.Pat.{Pat}
use Rattle.chan_syntax.specs.declared.operands.Letter.{Letter}
use Rattle.chan_syntax.specs.declared.operands.WrittenMention.{WrittenMention}
use Rattle.chan_syntax.specs.declared.operands.WrittenCert.{WrittenCert}
use Rattle.chan_syntax.specs.declared.operands.Proof.{Proof}
use Rattle.chan_syntax.specs.Reading.{term_of, limit_of}
use Rattle.form_faults.specs.declared.faults.IllKind.TheVariants as kind
use Rattle.form_faults.specs.declared.faults.Ill.{Ill}
use Rattle.form_faults.specs.declared.sorts.Sort.{Sort}
use Rattle.form_faults.specs.declared.sorts.Sort.TheVariants as sort
use Rattle.form_faults.specs.declared.sorts.Naming.{Naming}
use Rattle.form_faults.specs.declared.sorts.Known.{Known}
use Rattle.form_faults.specs.declared.signatures.Signature.{Signature}
use Rattle.form_faults.specs.Faults.{at_span, at_element, past, unless, IsFirst}
use Rattle.form_faults.specs.Scopes.{sort_of, is_usable, unscoped, Binder, twice, bind, bind_all, twice_all, binders, most_of, names_past}
use Rattle.narrow_terms.specs.Numbers.{is_narrow, is_narrow_limit}
use Rattle.form_faults.specs.Terms.{name_faults as names_in_parts, part_faults, parts_faults, term_faults, terms_faults, fixed_term_faults, fixed_terms_faults, limit_faults, limits_faults, limits_past, bound_binders, bound_scope, bound_faults, count_of, counted, use_faults, fixed_ref_faults, ref_faults}
use Rattle.form_faults.specs.Resources.{shape_faults, res_in_faults, row_faults, res_faults, unless_shallow, are_shallow, is_shallow, next_faults, message_faults, branch_faults, equation_faults, proto_binders, proto_faults, params_are_shallow, param_faults, params_faults, params_past, header_faults}
use Rattle.form_faults.specs.Operands.{supply_faults, supply_in_faults, supplies_faults, greatest, divisor_faults, mention_faults, mentions_faults, mentions_past, cert_faults, certs_faults, proof_faults, path_faults, pat_binders}
use Rattle.core_programs.specs.declared.nodes.Node.{Node}
use Rattle.core_programs.specs.declared.nodes.Node.TheVariants as node
use Rattle.core_programs.specs.declared.nodes.Arm.{Arm}
use Rattle.core_programs.specs.declared.nodes.Func.{Func}
use Rattle.core_programs.specs.declared.nodes.Parts.{Parts}
use Rattle.core_programs.specs.Trees.{Tree, Nothing, Grown, Trees, NoMore, More, tree}
use Rattle.core_programs.specs.Passes.{proto_names, func_names, twice_faults, call_faults, operand_faults, arm_binders, binders_at as node_binders, body_faults, bodies_faults, func_faults, funcs_faults, protos_faults, name_faults, count_faults, is_main, no_main, main_faults}
use Rattle.core_programs.specs.Form.{IsUnguarded, IsFault}
use Rattle.fault_places.specs.Spans.{Every, OfAny, OfNames, InPart, InTerm, InLimit, InBound, InRef, InShape, InBoxedRes, InResources, InRes, InParam, InNext, InEquation, InSupply, InBoxedSupply, InPat, InMention, InCert, InProof}
use Rattle.fault_places.specs.Programs.{InProto, InArmOf, InNode, InTree, InTrees, InFunc, InParts}
use Rattle.fault_places.specs.Laws.{TellsNoMain}
use Rattle.fault_places.proofs.Lists.{every_append, every_map, every_to, every_middle, every_get}

-- the property holds of where each of the faults stands
record Stand (P : Span → Type 0) (faults : List Ill) : Type 0 where
  each : Every (λ (ill : Ill). P ill.span) faults

-- what holds of each fault holds of the first
first_has : (Q : Ill → Type 0) (faults : List Ill) (ill : Ill) → Every Q faults → IsFirst faults ill → Q ill
first_has Q faults ill each first = every_middle Q first.0 first.1 ill (subst (Every Q) first.2 each)

module _ (P : Span → Type 0) where
  none : Stand P []
  none = record { each = tt }

  one : (ill : Ill) → P ill.span → Stand P (ill ∷ [])
  one ill p = record { each = (p, tt) }

  both : {a b : List Ill} → Stand P a → Stand P b → Stand P (a ++ b)
  both {a = a} {b = b} p q = record { each = every_append (λ (ill : Ill). P ill.span) a b p.each q.each }

  under : (test : Bool) {a b : List Ill} → Stand P a → Stand P b → Stand P (if test then a else b)
  under true p q = p
  under false p q = q

  or_else : (at : Option Span) (span : Span) → OfAny P at → P span → P (unwrap_or at span)
  or_else None span p q = q
  or_else (Some s) span p q = p

  -- ---- single faults

  unless_stand : (fits : Bool) (span : Span) → P span → Stand P (unless fits span)
  unfolding unless
  unless_stand fits span p = under fits none (one (record { kind = kind.BadNumber; names = []; span = span }) p)

  element_stand : (spans : List Span) (most : ℕ) → Every P spans → Stand P (at_element (slice_get spans most))
  element_stand [] most p = none
  element_stand (s ∷ ss) zero p = one (record { kind = kind.TooMany; names = []; span = s }) p.0
  element_stand (s ∷ ss) (suc most) p = element_stand ss most p.1

  past_stand : (most : ℕ) (spans : List Span) → Every P spans → Stand P (past most spans)
  unfolding past
  past_stand most spans p = element_stand spans most p

  -- ---- names

  unscoped_stand : (may : Naming) (scope : List Known) (x : Ident) (span : Span) → P span → Stand P (unscoped may scope x span)
  unfolding unscoped
  unscoped_stand may scope x span p = under (is_usable may (sort_of scope x)) none (one (record { kind = kind.Unscoped; names = x ∷ []; span = span }) p)

  twice_stand : (scope : List Known) (x : Ident) (span : Span) → P span → Stand P (twice scope x span)
  unfolding twice
  twice_stand scope x span p = under (is_some (sort_of scope x)) (one (record { kind = kind.Twice; names = x ∷ []; span = span }) p) none

  -- it holds of where each of the names is bound
  abbrev AtBinders : List Binder → Type 0
  AtBinders bs = Every (λ (b : Binder). P b.span) bs

  twice_all_stand : (scope : List Known) (bs : List Binder) → AtBinders bs → Stand P (twice_all scope bs)
  unfolding twice_all
  twice_all_stand scope [] p = none
  twice_all_stand scope (b ∷ bs) p = both (twice_stand scope b.name b.span p.0) (twice_all_stand (bind scope b.name b.sort) bs p.1)

  binders_at : (its : Sort) (xs : List Ident) (ss : List Span) → OfNames P xs ss → AtBinders (binders its xs ss)
  unfolding binders
  binders_at its [] ss p = tt
  binders_at its (x ∷ xs) [] p = absurd p
  binders_at its (x ∷ xs) (s ∷ ss) p = (p.0, binders_at its xs ss p.1)

  names_past_stand : (most : ℕ) (bs : List Binder) → AtBinders bs → Stand P (names_past most bs)
  names_past_stand most bs p = past_stand most (map (λ (b : Binder). b.span) bs) (every_map P (λ (b : Binder). b.span) bs p)

  -- ---- terms

  name_stand : (may : Naming) (scope : List Known) (x : Option Ident) (span : Span) → P span → Stand P (names_in_parts may scope x span)
  name_stand _ _ None span p = none
  name_stand _ _ (Some x) span p = unscoped_stand _ _ x span p

  part_stand : (may : Naming) (scope : List Known) (span : Span) (part : Part) → P span → InPart P part → Stand P (part_faults may scope span part)
  unfolding part_faults
  part_stand _ _ span part p q = name_stand _ _ part.name (unwrap_or part.name_span span) (or_else part.name_span span q p)

  parts_stand : (may : Naming) (scope : List Known) (span : Span) (parts : List Part) → P span → Every (InPart P) parts → Stand P (parts_faults may scope span parts)
  unfolding parts_faults
  parts_stand _ _ span [] p q = none
  parts_stand _ _ span (x ∷ xs) p q = both (part_stand _ _ span x p q.0) (parts_stand _ _ span xs p q.1)

  term_stand : (may : Naming) (scope : List Known) (term : Term) → InTerm P term → Stand P (term_faults may scope term)
  unfolding term_faults
  term_stand _ _ term p = parts_stand _ _ term.span term.parts p.1 p.0

  terms_stand : (may : Naming) (scope : List Known) (terms : List Term) → Every (InTerm P) terms → Stand P (terms_faults may scope terms)
  unfolding terms_faults
  terms_stand _ _ [] p = none
  terms_stand _ _ (t ∷ ts) p = both (term_stand _ _ t p.0) (terms_stand _ _ ts p.1)

  fixed_term_stand : (scope : List Known) (term : Term) → InTerm P term → Stand P (fixed_term_faults scope term)
  unfolding fixed_term_faults
  fixed_term_stand _ term p = both (unless_stand (is_narrow (term_of term)) term.span p.1) (term_stand _ _ term p)

  fixed_terms_stand : (scope : List Known) (terms : List Term) → Every (InTerm P) terms → Stand P (fixed_terms_faults scope terms)
  unfolding fixed_terms_faults
  fixed_terms_stand _ [] p = none
  fixed_terms_stand _ (t ∷ ts) p = both (fixed_term_stand _ t p.0) (fixed_terms_stand _ ts p.1)

  -- ---- binders

  limit_stand : (scope : List Known) (limit : Limit) → InLimit P limit → Stand P (limit_faults scope limit)
  unfolding limit_faults
  limit_stand _ limit p = both (unless_stand (is_narrow_limit (limit_of limit)) limit.left.span p.0.1) (both (fixed_term_stand _ limit.left p.0) (fixed_term_stand _ limit.right p.1))

  limits_stand : (scope : List Known) (limits : List Limit) → Every (InLimit P) limits → Stand P (limits_faults scope limits)
  unfolding limits_faults
  limits_stand _ [] p = none
  limits_stand _ (l ∷ ls) p = both (limit_stand _ l p.0) (limits_stand _ ls p.1)

  limits_past_stand : (most : ℕ) (limits : List Limit) → Every (InLimit P) limits → Stand P (limits_past most limits)
  unfolding limits_past
  limits_past_stand most limits p =
      past_stand most (map (λ (l : Limit). l.left.span) limits)
      (every_map P (λ (l : Limit). l.left.span) limits (every_to (InLimit P) (λ (l : Limit). P l.left.span) (λ l q. q.0.1) limits p))

  bound_stand : (scope : List Known) (bound : Bound) → InBound P bound → Stand P (bound_faults scope bound)
  unfolding bound_faults
  bound_stand _ bound p =
      let bs = binders_at sort.Integer bound.names bound.names_spans p.0 in
      both (twice_all_stand _ (bound_binders bound) bs)
      (both (names_past_stand (most_of bound.names) (bound_binders bound) bs) (both (limits_stand _ bound.limits p.1) (limits_past_stand (most_of bound.names) bound.limits p.1)))

  -- ---- references and calls

  counted_stand : (known : Option ℕ) (x : Ident) (span : Span) (count : ℕ) → P span → Stand P (counted known x span count)
  counted_stand None x span count p = one (record { kind = kind.UnknownName; names = x ∷ []; span = span }) p
  counted_stand (Some its) x span count p = under (nat_eq its count) none (one (record { kind = kind.Arity; names = x ∷ []; span = span }) p)

  use_stand : (table : List Signature) (x : Ident) (span : Span) (count : ℕ) → P span → Stand P (use_faults table x span count)
  unfolding use_faults
  use_stand table x span count p = counted_stand (count_of table x) x span count p

  fixed_ref_stand : (protos : List Signature) (scope : List Known) (ref : Ref) → InRef P ref → Stand P (fixed_ref_faults protos scope ref)
  unfolding fixed_ref_faults
  fixed_ref_stand _ _ ref p = both (use_stand _ ref.name ref.name_span (length ref.args) p.0) (fixed_terms_stand _ ref.args p.1)

  ref_stand : (protos : List Signature) (scope : List Known) (ref : Ref) → InRef P ref → Stand P (ref_faults protos scope ref)
  unfolding ref_faults
  ref_stand _ _ ref p = both (use_stand _ ref.name ref.name_span (length ref.args) p.0) (terms_stand _ _ ref.args p.1)

  -- ---- resources

  mutual
    unfolding shape_faults res_in_faults row_faults

    shape_stand : (protos : List Signature) (scope : List Known) (shape : Shape) → InShape P shape → Stand P (shape_faults protos scope shape)
    shape_stand protos scope NoShape p = none
    shape_stand protos scope (Int term) p = fixed_term_stand scope term p
    shape_stand protos scope (End ref) p = fixed_ref_stand protos scope ref p
    shape_stand protos scope (Pair' _ first _ second) p = both (res_in_stand protos scope first p.0) (res_in_stand protos scope second p.1)
    shape_stand protos scope (Sum' _ arms) p = row_stand protos scope arms p

    res_in_stand : {m : _} (protos : List Signature) (scope : List Known) (row : Row_of-Res m) → InBoxedRes P row → Stand P (res_in_faults protos scope row)
    res_in_stand protos scope end_of-Res p = none
    res_in_stand protos scope (more_of-Res bound shape rest) p = both (bound_stand scope bound p.0) (shape_stand protos (bound_scope scope bound) shape p.1)

    row_stand : {m : _} (protos : List Signature) (scope : List Known) (row : Row_of-Res m) → InResources P row → Stand P (row_faults protos scope row)
    row_stand protos scope end_of-Res p = none
    row_stand protos scope (more_of-Res bound shape rest) p =
        both (both (bound_stand scope bound p.0.0) (shape_stand protos (bound_scope scope bound) shape p.0.1)) (row_stand protos scope rest p.1)

  res_stand : (protos : List Signature) (scope : List Known) (res : Res) → InRes P res → Stand P (res_faults protos scope res)
  unfolding res_faults
  res_stand _ _ res p = both (bound_stand _ res.bound p.0) (shape_stand _ _ res.shape p.1)

  shallow_stand : (shallow : Bool) (span : Span) → P span → Stand P (unless_shallow shallow span)
  unfolding unless_shallow
  shallow_stand shallow span p = under shallow none (one (record { kind = kind.TooMany; names = []; span = span }) p)

  -- ---- protocols

  next_stand : (protos : List Signature) (scope : List Known) (next : Option Ref) → InNext P next → Stand P (next_faults protos scope next)
  unfolding next_faults
  next_stand _ _ None p = none
  next_stand _ _ (Some ref) p = fixed_ref_stand _ _ ref p

  message_stand : (protos : List Signature) (scope : List Known) (res : Res) (next : Option Ref) → InRes P res → InNext P next → Stand P (message_faults protos scope res next)
  unfolding message_faults
  message_stand _ _ res next p q = both (res_stand _ _ res p) (next_stand _ _ next q)

  equation_stand : (protos : List Signature) (scope : List Known) (e : Equation) → InEquation P e → Stand P (equation_faults protos scope e)
  unfolding equation_faults branch_faults
  equation_stand _ _ (equation.Send res next) p = message_stand _ _ res next p.0 p.1
  equation_stand _ _ (equation.Recv res next) p = message_stand _ _ res next p.0 p.1
  equation_stand _ _ equation.Close p = none
  equation_stand _ _ equation.Wait p = none
  equation_stand _ _ (equation.Branch left right this other) p =
      both (fixed_term_stand _ left p.0) (both (fixed_term_stand _ right p.1) (both (fixed_ref_stand _ _ this p.2) (fixed_ref_stand _ _ other p.3)))

  proto_stand : (protos : List Signature) (proto : Proto) → InProto P proto → Stand P (proto_faults protos proto)
  unfolding proto_faults
  proto_stand _ proto p =
      let bs = binders_at sort.Integer proto.params proto.params_spans p.1 in
      both (shallow_stand (are_shallow proto.equation) proto.name_span p.0)
      (both (twice_all_stand _ (proto_binders proto) bs) (both (names_past_stand 16 (proto_binders proto) bs) (equation_stand _ _ proto.equation p.2)))

  -- ---- headers of functions

  param_stand : (protos : List Signature) (scope : List Known) (param : Param) → InParam P param → Stand P (param_faults protos scope param)
  unfolding param_faults
  param_stand _ _ param p = both (twice_stand _ param.name param.name_span p.0) (shape_stand _ _ param.shape p.1)

  params_stand : (protos : List Signature) (scope : List Known) (params : List Param) → Every (InParam P) params → Stand P (params_faults protos scope params)
  unfolding params_faults
  params_stand protos scope [] p = none
  params_stand protos scope (x ∷ xs) p = both (param_stand protos scope x p.0) (params_stand protos (bind scope x.name sort.Variable) xs p.1)

  params_past_stand : (params : List Param) → Every (InParam P) params → Stand P (params_past params)
  unfolding params_past
  params_past_stand params p =
      past_stand 16 (map (λ (x : Param). x.name_span) params)
      (every_map P (λ (x : Param). x.name_span) params (every_to (InParam P) (λ (x : Param). P x.name_span) (λ x q. q.0) params p))

  header_stand : (protos : List Signature) (name_span : Span) (bound : Bound) (params : List Param) (result : Res) → P name_span → InBound P bound → Every (InParam P) params → InRes P result
      → Stand P (header_faults protos name_span bound params result)
  unfolding header_faults
  header_stand _ name_span bound params result p b xs r =
      both (shallow_stand (params_are_shallow params && is_shallow result.shape) name_span p)
      (both (bound_stand _ bound b) (both (params_stand _ _ params xs) (both (params_past_stand params xs) (res_stand _ _ result r))))

  -- ---- values

  mutual
    unfolding supply_faults supply_in_faults

    supply_stand : (scope : List Known) (value : Supply) → InSupply P value → Stand P (supply_faults scope value)
    supply_stand _ NoSupply p = none
    supply_stand _ (SupplyPair' _ first _ second) p = both (supply_in_stand _ first p.0) (supply_in_stand _ second p.1)
    supply_stand _ (Arm' _ _ value) p = supply_in_stand _ value p
    supply_stand _ (Sum term) p = term_stand _ _ term p

    supply_in_stand : {m : _} (scope : List Known) (row : Row_of-Supply m) → InBoxedSupply P row → Stand P (supply_in_faults scope row)
    supply_in_stand _ end_of-Supply p = none
    supply_in_stand _ (more_of-Supply value rest) p = supply_stand _ value p

  supplies_stand : (scope : List Known) (values : List Supply) → Every (InSupply P) values → Stand P (supplies_faults scope values)
  unfolding supplies_faults
  supplies_stand _ [] p = none
  supplies_stand _ (v ∷ vs) p = both (supply_stand _ v p.0) (supplies_stand _ vs p.1)

  -- ---- proofs

  mention_stand : (mention : WrittenMention) → InMention P mention → Stand P (mention_faults mention)
  unfolding mention_faults
  mention_stand mention p = both (unless_stand (nat_le mention.factor greatest) mention.factor_span p.0) (unless_stand (nat_le mention.index greatest) mention.index_span p.1)

  mentions_stand : (mentions : List WrittenMention) → Every (InMention P) mentions → Stand P (mentions_faults mentions)
  unfolding mentions_faults
  mentions_stand [] p = none
  mentions_stand (m ∷ ms) p = both (mention_stand m p.0) (mentions_stand ms p.1)

  mentions_past_stand : (mentions : List WrittenMention) → Every (InMention P) mentions → Stand P (mentions_past mentions)
  unfolding mentions_past
  mentions_past_stand mentions p =
      past_stand 256 (map (λ (m : WrittenMention). m.span) mentions)
      (every_map P (λ (m : WrittenMention). m.span) mentions (every_to (InMention P) (λ (m : WrittenMention). P m.span) (λ m q. q.2) mentions p))

  cert_stand : (cert : WrittenCert) → InCert P cert → Stand P (cert_faults cert)
  unfolding cert_faults divisor_faults
  cert_stand cert p =
      both (unless_stand (not (nat_eq cert.divisor 0 || nat_lt greatest cert.divisor)) (unwrap_or cert.divisor_span cert.span) (or_else cert.divisor_span cert.span p.0 p.2))
      (both (mentions_stand cert.mentions p.1) (mentions_past_stand cert.mentions p.1))

  certs_stand : (certs : List WrittenCert) → Every (InCert P) certs → Stand P (certs_faults certs)
  unfolding certs_faults
  certs_stand [] p = none
  certs_stand (c ∷ cs) p = both (cert_stand c p.0) (certs_stand cs p.1)

  proof_stand : (scope : List Known) (proof : Proof) → InProof P proof → Stand P (proof_faults scope proof)
  unfolding proof_faults
  proof_stand _ proof p = both (terms_stand _ _ proof.instances p.0) (certs_stand proof.certs p.1)

  -- ---- paths and patterns

  path_stand : (path : List Letter) (at : Option Span) (span : Span) → OfAny P at → P span → Stand P (path_faults path at span)
  unfolding path_faults
  path_stand path at span p q = under (nat_le (length path) 16) none (one (record { kind = kind.TooMany; names = []; span = unwrap_or at span }) (or_else at span p q))

  pat_binders_at : (pat : Pat) → InPat P pat → AtBinders (pat_binders pat)
  pat_binders_at pat p = (p.0, binders_at sort.Integer pat.names pat.names_spans p.1)

  -- ---- bodies

  call_stand : (funcs : List Signature) (scope : List Known) (count : ℕ) (func : Ident) (at : Span) (values : List Supply) (proof : Proof) → P at → Every (InSupply P) values → InProof P proof
      → Stand P (call_faults funcs scope func at count values proof)
  unfolding call_faults
  call_stand funcs scope count func at values proof p vs q = both (use_stand _ func at count p) (both (supplies_stand _ values vs) (proof_stand _ proof q))

  operands_stand : (protos funcs : List Signature) (scope : List Known) (x : Node) → InNode P x → Stand P (operand_faults protos funcs scope x)
  unfolding operand_faults
  operands_stand _ _ _ (node.Let _ _ term _ _) p = term_stand _ _ term p.1
  operands_stand _ _ _ (node.Mul _ _ left right _ _) p = both (term_stand _ _ left p.1) (term_stand _ _ right p.2)
  operands_stand _ _ _ (node.Div _ _ term divisor divisor_at _ _) p = both (term_stand _ _ term p.1) (unless_stand (not (nat_eq divisor 0)) divisor_at p.2)
  operands_stand _ _ _ (node.Rem _ _ term divisor divisor_at _ _) p = both (term_stand _ _ term p.1) (unless_stand (not (nat_eq divisor 0)) divisor_at p.2)
  operands_stand _ _ _ (node.Call _ func func_at values proof _ _) p = call_stand _ _ _ func func_at values proof p.1 p.2 p.3
  operands_stand _ _ _ (node.Tail func func_at values proof _) p = call_stand _ _ _ func func_at values proof p.0 p.1 p.2
  operands_stand _ _ _ (node.Fork _ _ proto func func_at values proof _ _) p = both (ref_stand _ _ proto p.1) (call_stand _ _ _ func func_at values proof p.2 p.3 p.4)
  operands_stand _ _ _ (node.Send1 channel channel_at path path_at value proof _ span) p =
      both (unscoped_stand _ _ channel channel_at p.0) (both (path_stand path path_at span p.1 p.4) (both (supply_stand _ value p.2) (proof_stand _ proof p.3)))
  operands_stand _ _ _ (node.Recv1 _ channel channel_at path path_at proof _ span) p =
      both (unscoped_stand _ _ channel channel_at p.1) (both (path_stand path path_at span p.2 p.4) (proof_stand _ proof p.3))
  operands_stand _ _ _ (node.Print term _ _) p = term_stand _ _ term p.0
  operands_stand _ _ _ (node.If left right _ _ _) p = both (term_stand _ _ left p.0) (term_stand _ _ right p.1)
  operands_stand _ _ _ (node.Split _ _ name name_at _ _) p = unscoped_stand _ _ name name_at p.2
  operands_stand _ _ _ (node.Match name name_at _ _) p = unscoped_stand _ _ name name_at p.0
  operands_stand _ _ _ (node.Absurd proof _) p = proof_stand _ proof p.0
  operands_stand _ _ _ (node.Ret value proof _) p = both (supply_stand _ value p.0) (proof_stand _ proof p.1)

  arms_at : (arms : List Arm) (turn : ℕ) → Every (InArmOf P) arms → AtBinders (arm_binders (slice_get arms turn))
  arms_at [] turn p = tt
  arms_at (a ∷ arms) zero p = pat_binders_at a.pat p.0
  arms_at (a ∷ arms) (suc turn) p = arms_at arms turn p.1

  node_at : (x : Node) (turn : ℕ) → InNode P x → AtBinders (node_binders x turn)
  unfolding node_binders
  node_at (node.Let _ _ _ _ _) turn p = (p.0, tt)
  node_at (node.Mul _ _ _ _ _ _) turn p = (p.0, tt)
  node_at (node.Div _ _ _ _ _ _ _) turn p = (p.0, tt)
  node_at (node.Rem _ _ _ _ _ _ _) turn p = (p.0, tt)
  node_at (node.Call pat _ _ _ _ _ _) turn p = pat_binders_at pat p.0
  node_at (node.Tail _ _ _ _ _) turn p = tt
  node_at (node.Fork _ _ _ _ _ _ _ _ _) turn p = (p.0, tt)
  node_at (node.Send1 _ _ _ _ _ _ _ _) turn p = tt
  node_at (node.Recv1 pat _ _ _ _ _ _ _) turn p = pat_binders_at pat p.0
  node_at (node.Print _ _ _) turn p = tt
  node_at (node.If _ _ _ _ _) turn p = tt
  node_at (node.Split first second _ _ _ _) turn p = every_append (λ (b : Binder). P b.span) (pat_binders first) (pat_binders second) (pat_binders_at first p.0) (pat_binders_at second p.1)
  node_at (node.Match _ _ arms _) turn p = arms_at arms turn p.1
  node_at (node.Absurd _ _) turn p = tt
  node_at (node.Ret _ _ _) turn p = tt

  mutual
    unfolding body_faults bodies_faults

    body_stand : (protos funcs : List Signature) (scope : List Known) (t : Tree) → InTree P t → Stand P (body_faults protos funcs scope t)
    body_stand protos funcs scope Nothing p = none
    body_stand protos funcs scope (Grown x bodies) p = both (operands_stand protos funcs scope x p.0) (bodies_stand protos funcs scope x 0 bodies p.0 p.1)

    bodies_stand : (protos funcs : List Signature) (scope : List Known) (x : Node) (turn : ℕ) (ts : Trees) → InNode P x → InTrees P ts → Stand P (bodies_faults protos funcs scope x turn ts)
    bodies_stand protos funcs scope x turn NoMore at p = none
    bodies_stand protos funcs scope x turn (More body bodies) at p =
        both
        (both (twice_all_stand scope (node_binders x turn) (node_at x turn at)) (body_stand protos funcs (bind_all scope (node_binders x turn)) body p.0))
        (bodies_stand protos funcs scope x (suc turn) bodies at p.1)

  -- ---- protocols and functions

  funcs_stand : (protos funcs : List Signature) (nodes : List Node) (fs : List Func) → Every (InFunc P nodes) fs → Stand P (funcs_faults protos funcs nodes fs)
  unfolding funcs_faults func_faults
  funcs_stand _ _ nodes [] p = none
  funcs_stand _ _ nodes (f ∷ fs) p =
      both (both (header_stand _ f.name_span f.bound f.params f.result p.0.0 p.0.1 p.0.2 p.0.3) (body_stand _ _ _ (tree nodes f.first) p.0.4)) (funcs_stand _ _ nodes fs p.1)

  protos_stand : (protos : List Signature) (ps : List Proto) → Every (InProto P) ps → Stand P (protos_faults protos ps)
  unfolding protos_faults
  protos_stand _ [] p = none
  protos_stand _ (x ∷ xs) p = both (proto_stand _ x p.0) (protos_stand _ xs p.1)

  -- ---- passes

  proto_names_at : (ps : List Proto) → Every (InProto P) ps → AtBinders (proto_names ps)
  proto_names_at [] p = tt
  proto_names_at (x ∷ xs) p = (p.0.0, proto_names_at xs p.1)

  func_names_at : (nodes : List Node) (fs : List Func) → Every (InFunc P nodes) fs → AtBinders (func_names fs)
  func_names_at nodes [] p = tt
  func_names_at nodes (f ∷ fs) p = (p.0.0, func_names_at nodes fs p.1)

  twice_pass : (parts : Parts) → InParts P parts → Stand P (twice_faults parts)
  twice_pass parts p = both (twice_all_stand _ (proto_names parts.protos) (proto_names_at parts.protos p.0)) (twice_all_stand _ (func_names parts.funcs) (func_names_at parts.nodes parts.funcs p.1))

  name_pass : (parts : Parts) → InParts P parts → Stand P (name_faults parts)
  name_pass parts p = both (protos_stand _ parts.protos p.0) (funcs_stand _ _ parts.nodes parts.funcs p.1)

  count_pass : (parts : Parts) → InParts P parts → Stand P (count_faults parts)
  count_pass parts p =
      both
      (past_stand 4096 (map (λ (x : Proto). x.span) parts.protos) (every_map P (λ (x : Proto). x.span) parts.protos (every_to (InProto P) (λ (x : Proto). P x.span) (λ x q. q.3) parts.protos p.0)))
      (past_stand 4096 (map (λ (f : Func). f.span) parts.funcs) (every_map P (λ (f : Func). f.span) parts.funcs (every_to (InFunc P parts.nodes) (λ (f : Func). P f.span) (λ f q. q.5) parts.funcs p.1)))

  cycle_pass : (protos : List Proto) (ill : Ill) → Every (InProto P) protos → IsUnguarded protos ill → P ill.span
  cycle_pass protos ill p (i, way, x, first, at, is) = subst P (sym (ap (λ (f : Ill). f.span) is)) (every_get (InProto P) protos i x p at).0

  main_pass : (funcs : List Func) → Every TellsNoMain (no_main funcs)
  unfolding no_main
  main_pass funcs = by_test (list_any is_main funcs)
    where
      by_test : (has : Bool) → Every TellsNoMain (if has then [] else at_span kind.NoMain (record { start = 0; stop = 0; line = 1; column = 1 }))
      by_test true = tt
      by_test false = ((refl, refl), tt)

  pub stands_in_parts : (parts : Parts) (ill : Ill) → InParts P parts → IsFault parts ill → P ill.span ⊎ TellsNoMain ill
  stands_in_parts parts ill p (inl first) = inl (first_has (λ (f : Ill). P f.span) (twice_faults parts) ill (twice_pass parts p).each first)
  stands_in_parts parts ill p (inr (_, inl first)) = inl (first_has (λ (f : Ill). P f.span) (name_faults parts) ill (name_pass parts p).each first)
  stands_in_parts parts ill p (inr (_, inr (_, inl first))) = inl (first_has (λ (f : Ill). P f.span) (count_faults parts) ill (count_pass parts p).each first)
  stands_in_parts parts ill p (inr (_, inr (_, inr (_, inl cycle)))) = inl (cycle_pass parts.protos ill p.0 cycle)
  stands_in_parts parts ill p (inr (_, inr (_, inr (_, inr (_, first))))) = inr (first_has TellsNoMain (main_faults parts) ill (main_pass parts.funcs) first)
