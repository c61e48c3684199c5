-- Terms, resources, protocols and values as the core language has them: what the declared trees say,
-- spans and pointers aside.
use Rattle.std.specs.Prelude.{pos, ◌-ℤ◌, if◌then◌else◌, [], map}
use Rattle.std.specs.Option.{option_map}
use Rattle.core_language.specs.Terms as core
use Rattle.core_language.specs.Resources as resource
use Rattle.core_language.specs.Operands as operand
use Rattle.chan_syntax.specs.declared.linear.Part.{Part}
use Rattle.chan_syntax.specs.declared.linear.Term.{Term}
use Rattle.chan_syntax.specs.declared.linear.Relation.{Relation}
use Rattle.chan_syntax.specs.declared.linear.Relation.TheVariants as relation
use Rattle.chan_syntax.specs.declared.linear.Limit.{Limit}
use Rattle.chan_syntax.specs.declared.linear.Bound.{Bound}
use Rattle.chan_syntax.specs.declared.resources.Ref.{Ref}
use Rattle.chan_syntax.specs.declared.resources.Shape.{Shape, Unit, Int, End, Pair', Sum', Row_of-Res, end_of-Res, more_of-Res}
use Rattle.chan_syntax.specs.declared.resources.Res.{Res}
use Rattle.chan_syntax.specs.declared.resources.Equation.{Equation}
use Rattle.chan_syntax.specs.declared.resources.Equation.TheVariants as equation
use Rattle.chan_syntax.specs.declared.resources.Proto.{Proto}
use Rattle.chan_syntax.specs.declared.operands.Supply.{Supply, Unit as SupplyUnit, Pair' as SupplyPair', Arm', Sum as SupplySum, Row_of-Supply, end_of-Supply, more_of-Supply}
use Rattle.chan_syntax.specs.declared.operands.Pat.{Pat}
use Rattle.chan_syntax.specs.declared.operands.Letter.{Letter}
use Rattle.chan_syntax.specs.declared.operands.Letter.TheVariants as letter
use Rattle.chan_syntax.specs.declared.operands.WrittenMention.{WrittenMention}
use Rattle.chan_syntax.specs.declared.operands.WrittenCert.{WrittenCert}
use Rattle.chan_syntax.specs.declared.operands.Proof.{Proof}

abbrev pub part_of : Part → core.Part
part_of part = record { negative = part.negative; factor = part.factor; name = part.name }

abbrev pub term_of : Term → core.Term
term_of term = map part_of term.parts

abbrev pub relation_of : Relation → core.Relation
relation_of relation.AtMost = core.AtMost
relation_of relation.Less = core.Less
relation_of relation.Same = core.Same

abbrev pub limit_of : Limit → core.Limit
limit_of limit = record { left = term_of limit.left; relation = relation_of limit.relation; right = term_of limit.right }

abbrev pub bound_of : Bound → core.Bound
bound_of bound = record { names = bound.names; limits = map limit_of bound.limits }

abbrev pub ref_of : Ref → resource.Ref
ref_of ref = record { dual = ref.dual; name = ref.name; args = map term_of ref.args }

-- ---- resources

abbrev mutual
  pub shape_of : Shape → resource.Shape
  shape_of Unit = resource.Unit
  shape_of (Int term) = resource.Int (term_of term)
  shape_of (End ref) = resource.End (ref_of ref)
  shape_of (Pair' _ first _ second) = resource.Pair (res_in first) (res_in second)
  shape_of (Sum' _ arms) = resource.Sum (resources_in arms)

  -- what a box holds: a row of one resource
  pub res_in : {m : _} → Row_of-Res m → resource.Res
  res_in end_of-Res = resource.Binds (record { names = []; limits = [] }) resource.Unit
  res_in (more_of-Res bound shape rest) = resource.Binds (bound_of bound) (shape_of shape)

  -- the resources of a row
  pub resources_in : {m : _} → Row_of-Res m → resource.Resources
  resources_in end_of-Res = resource.NoMore
  resources_in (more_of-Res bound shape rest) = resource.More (resource.Binds (bound_of bound) (shape_of shape)) (resources_in rest)

abbrev pub res_of : Res → resource.Res
res_of res = resource.Binds (bound_of res.bound) (shape_of res.shape)

abbrev pub equation_of : Equation → resource.Equation
equation_of (equation.Send res next) = resource.Send (res_of res) (option_map ref_of next)
equation_of (equation.Recv res next) = resource.Recv (res_of res) (option_map ref_of next)
equation_of equation.Close = resource.Close
equation_of equation.Wait = resource.Wait
equation_of (equation.Branch left right this other) = resource.Branch (term_of left) (term_of right) (ref_of this) (ref_of other)

abbrev pub proto_of : Proto → resource.Proto
proto_of proto = record { name = proto.name; params = proto.params; equation = equation_of proto.equation }

-- ---- operands

abbrev mutual
  pub supply_of : Supply → operand.Supply
  supply_of SupplyUnit = operand.Unit
  supply_of (SupplyPair' _ first _ second) = operand.Pair (supply_in first) (supply_in second)
  supply_of (Arm' number _ value) = operand.Arm number (supply_in value)
  supply_of (SupplySum term) = operand.Sum (term_of term)

  pub supply_in : {m : _} → Row_of-Supply m → operand.Supply
  supply_in end_of-Supply = operand.Unit
  supply_in (more_of-Supply value rest) = supply_of value

abbrev pub pat_of : Pat → operand.Pat
pat_of pat = record { name = pat.name; names = pat.names }

abbrev pub letter_of : Letter → operand.Letter
letter_of letter.Left = operand.First
letter_of letter.Right = operand.Second

abbrev pub mention_of : WrittenMention → operand.Mention
mention_of mention = record { factor = if mention.negative then pos 0 -ℤ pos mention.factor else pos mention.factor; index = mention.index }

abbrev pub cert_of : WrittenCert → operand.Cert
cert_of cert = record { divisor = cert.divisor; mentions = map mention_of cert.mentions }

abbrev pub proof_of : Proof → operand.Proof
proof_of proof = record { instances = map term_of proof.instances; certs = map cert_of proof.certs }
