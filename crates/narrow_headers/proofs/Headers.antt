-- Headers and protocols of a program of form.
use Rattle.std.proofs.Common.{◌≡◌, ◌≤◌, ◌&&◌, List, [], ◌∷◌, ◌++◌, map, Option, Some, None, refl, sym, ap, ◌∙◌, subst}
use Rattle.std.specs.List.{list_all, AllByRecursion}
use Rattle.std.proofs.lemmas.List.{length-map}
use Rattle.std.proofs.lemmas.Option.{none-some, same_Some}
use Rattle.core_language.specs.Resources as written
use Rattle.chan_syntax.specs.declared.resources.Ref.{Ref}
use Rattle.chan_syntax.specs.declared.resources.Res.{Res}
use Rattle.chan_syntax.specs.declared.resources.Equation.{Equation}
use Rattle.chan_syntax.specs.declared.resources.Equation.TheVariants as equation
use Rattle.chan_syntax.specs.declared.resources.Proto.{Proto}
use Rattle.chan_syntax.specs.Reading.{term_of, limit_of, ref_of, shape_of, res_of, equation_of, proto_of}
use Rattle.form_faults.specs.declared.signatures.Signature.{Signature}
use Rattle.form_faults.specs.declared.sorts.Known.{Known}
use Rattle.form_faults.specs.Scopes.{twice_all, bind_all, names_past}
use Rattle.form_faults.specs.Terms.{fixed_term_faults, bound_faults, bound_scope, fixed_ref_faults}
use Rattle.form_faults.specs.Resources.{is_shallow, unless_shallow, are_shallow, params_are_shallow, shape_faults, res_faults, next_faults, message_faults, branch_faults, equation_faults, proto_binders, proto_faults, params_faults, params_past, header_scope, header_faults}
use Rattle.core_programs.specs.declared.nodes.Node.{Node}
use Rattle.core_programs.specs.declared.nodes.Func.{Func}
use Rattle.core_programs.specs.Bodies.{function_of}
use Rattle.core_programs.specs.Trees.{tree}
use Rattle.core_programs.specs.Passes.{proto_signatures, func_signatures, body_faults, func_faults, funcs_faults, protos_faults}
use Rattle.frame_laws.proofs.Tests.{none_left, none_right}
use Rattle.outline_language.specs.Nameless.{nameless_limit, nameless_shape, limit_fits, shape_fits}
use Rattle.outline_language.specs.Equations.{Direction, Sends, Receives, Fork, fork_of, written_message, with_end, dual_written}
use Rattle.narrow_headers.specs.Narrow.{NarrowRes, IsNarrowHeader, IsNarrowFork, IsNarrowProtocol, most}
use Rattle.narrow_headers.specs.Laws.{HeadersAreNarrow, ProtocolsAreNarrow}
use Rattle.narrow_headers.proofs.Resources.{and_true, term_narrow, ref_narrow, bound_narrow, shape_narrow, res_narrow, params_narrow}

-- ---- headers

header_narrow : (protos : List Signature) (f : Func) → header_faults protos f.name_span f.bound f.params f.result ≡ [] → IsNarrowHeader (function_of [] f)
unfolding header_faults
header_narrow protos f none =
    let one = unless_shallow (params_are_shallow f.params && is_shallow f.result.shape) f.name_span in
    let two = bound_faults [] f.bound in
    let three = params_faults protos (bound_scope [] f.bound) f.params in
    let four = params_past f.params in
    let five = res_faults protos (header_scope f.bound f.params) f.result in
    let after_one = none_right one (two ++ (three ++ (four ++ five))) none in
    let after_two = none_right two (three ++ (four ++ five)) after_one in
    let binds = bound_narrow [] f.bound (none_left two (three ++ (four ++ five)) after_one) in
    record {
      few_names = binds.few_names;
      few_limits = subst (λ n. n ≤ most) (sym (length-map f.bound.limits limit_of)) binds.few_limits;
      limits = binds.limits;
      rows = binds.rows;
      shapes = params_narrow protos (bound_scope [] f.bound) f.params (none_left three (four ++ five) after_two);
      result = res_narrow protos (header_scope f.bound f.params) f.result (none_right four five (none_right three (four ++ five) after_two));
    }

funcs_narrow : (protos funcs : List Signature) (nodes : List Node) (fs : List Func) → funcs_faults protos funcs nodes fs ≡ [] → AllByRecursion (λ f. IsNarrowHeader (function_of [] f)) fs
unfolding funcs_faults func_faults
funcs_narrow protos funcs nodes [] none = tt
funcs_narrow protos funcs nodes (f ∷ fs) none =
    let header = header_faults protos f.name_span f.bound f.params f.result in
    let body = body_faults protos funcs (header_scope f.bound f.params) (tree nodes f.first) in
    let others = funcs_faults protos funcs nodes fs in
    (header_narrow protos f (none_left header body (none_left (header ++ body) others none)), funcs_narrow protos funcs nodes fs (none_right (header ++ body) others none))

pub headers_narrow : HeadersAreNarrow
headers_narrow parts form =
    let protos = proto_signatures parts.protos in
    let funcs = func_signatures parts.funcs in
    funcs_narrow protos funcs parts.nodes parts.funcs (none_right (protos_faults protos parts.protos) (funcs_faults protos funcs parts.nodes parts.funcs) form.1.0)

-- ---- messages

module _ (protos : List Signature) where
  -- a resource, with the end at which the receiver goes on
  with_end_narrow : (scope : List Known) (res : Res) (ref : Ref) (end : written.Ref) → end.args ≡ map term_of ref.args → res_faults protos scope res ≡ [] → fixed_ref_faults protos (bound_scope scope res.bound) ref ≡ []
      → NarrowRes (with_end (res_of res) (Some end))
  unfolding res_faults
  with_end_narrow scope res ref end same none none_too ints around =
      let binds = bound_faults scope res.bound in
      let inner = shape_faults protos (bound_scope scope res.bound) res.shape in
      let within = res.bound.names ++ around in
      and_true (list_all limit_fits (map (nameless_limit ints within) (map limit_of res.bound.limits))) _ ((bound_narrow scope res.bound (none_left binds inner none)).limits ints within)
      (and_true (shape_fits (nameless_shape ints within (shape_of res.shape))) _ (shape_narrow protos (bound_scope scope res.bound) res.shape (none_right binds inner none) ints within)
      (ap (λ ts. shape_fits (nameless_shape ints within (written.End (record { dual = end.dual; name = end.name; args = ts })))) same ∙ ref_narrow protos (bound_scope scope res.bound) ref none_too ints within))

  sent_narrow : (scope : List Known) (res : Res) (next : Option Ref) → message_faults protos scope res next ≡ [] → (res_faults protos scope res ≡ []) × (next_faults protos (bound_scope scope res.bound) next ≡ [])
  unfolding message_faults
  sent_narrow scope res next none =
      let sent = res_faults protos scope res in
      let on = next_faults protos (bound_scope scope res.bound) next in
      (none_left sent on none, none_right sent on none)

  next_clean : (scope : List Known) (ref : Ref) → next_faults protos scope (Some ref) ≡ [] → fixed_ref_faults protos scope ref ≡ []
  unfolding next_faults
  next_clean scope ref none = none

  told : (direction : Direction) (res : written.Res) (m : Direction × written.Res) → Some (direction, res) ≡ Some m → NarrowRes res → NarrowRes m.1
  told direction res m is narrow = subst (λ (n : Direction × written.Res). NarrowRes n.1) (same_Some (direction, res) m is) narrow

  message_narrow : (scope : List Known) (e : Equation) (m : Direction × written.Res) → equation_faults protos scope e ≡ [] → written_message (equation_of e) ≡ Some m → NarrowRes m.1
  unfolding equation_faults
  message_narrow scope (equation.Send res None) m none is = told Sends _ m is (res_narrow protos scope res (sent_narrow scope res None none).0)
  message_narrow scope (equation.Send res (Some ref)) m none is =
      let clean = sent_narrow scope res (Some ref) none in
      told Sends _ m is (with_end_narrow scope res ref (dual_written (ref_of ref)) refl clean.0 (next_clean (bound_scope scope res.bound) ref clean.1))
  message_narrow scope (equation.Recv res None) m none is = told Receives _ m is (res_narrow protos scope res (sent_narrow scope res None none).0)
  message_narrow scope (equation.Recv res (Some ref)) m none is =
      let clean = sent_narrow scope res (Some ref) none in
      told Receives _ m is (with_end_narrow scope res ref (ref_of ref) refl clean.0 (next_clean (bound_scope scope res.bound) ref clean.1))
  message_narrow scope equation.Close m none is = told Sends _ m is (λ ints around. refl)
  message_narrow scope equation.Wait m none is = told Receives _ m is (λ ints around. refl)
  message_narrow scope (equation.Branch left right this other) m none is = absurd (none-some m is)

  -- ---- `if` equations

  fork_narrow : (scope : List Known) (e : Equation) (fork : Fork) → equation_faults protos scope e ≡ [] → fork_of (equation_of e) ≡ Some fork → IsNarrowFork fork
  unfolding equation_faults branch_faults
  fork_narrow scope (equation.Send res next) fork none is = absurd (none-some fork is)
  fork_narrow scope (equation.Recv res next) fork none is = absurd (none-some fork is)
  fork_narrow scope equation.Close fork none is = absurd (none-some fork is)
  fork_narrow scope equation.Wait fork none is = absurd (none-some fork is)
  fork_narrow scope (equation.Branch left right this other) fork none is =
      let one = fixed_term_faults scope left in
      let two = fixed_term_faults scope right in
      let three = fixed_ref_faults protos scope this in
      let four = fixed_ref_faults protos scope other in
      let after_one = none_right one (two ++ (three ++ four)) none in
      let refs = none_right two (three ++ four) after_one in
      subst IsNarrowFork (same_Some _ fork is)
      (record {
        left = term_narrow scope left (none_left one (two ++ (three ++ four)) none);
        right = term_narrow scope right (none_left two (three ++ four) after_one);
        this = ref_narrow protos scope this (none_left three four refs);
        other = ref_narrow protos scope other (none_right three four refs);
      })

  proto_clean : (p : Proto) → proto_faults protos p ≡ [] → equation_faults protos (bind_all [] (proto_binders p)) p.equation ≡ []
  unfolding proto_faults
  proto_clean p none =
      let shallow = unless_shallow (are_shallow p.equation) p.name_span in
      let names = twice_all [] (proto_binders p) in
      let many = names_past 16 (proto_binders p) in
      let whole = equation_faults protos (bind_all [] (proto_binders p)) p.equation in
      none_right many whole (none_right names (many ++ whole) (none_right shallow (names ++ (many ++ whole)) none))

  protos_narrow : (ps : List Proto) → protos_faults protos ps ≡ [] → AllByRecursion (λ p. IsNarrowProtocol (proto_of p)) ps
  unfolding protos_faults
  protos_narrow [] none = tt
  protos_narrow (p ∷ ps) none =
      let clean = proto_clean p (none_left (proto_faults protos p) (protos_faults protos ps) none) in
      let scope = bind_all [] (proto_binders p) in (
        record { forks = λ fork is. fork_narrow scope p.equation fork clean is; messages = λ m is. message_narrow scope p.equation m clean is },
        protos_narrow ps (none_right (proto_faults protos p) (protos_faults protos ps) none),
      )

pub protocols_narrow : ProtocolsAreNarrow
protocols_narrow parts form =
    let protos = proto_signatures parts.protos in
    let funcs = func_signatures parts.funcs in
    protos_narrow protos parts.protos (none_left (protos_faults protos parts.protos) (funcs_faults protos funcs parts.nodes parts.funcs) form.1.0)
