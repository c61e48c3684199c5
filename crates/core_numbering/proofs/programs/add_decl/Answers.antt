use Rattle.std.proofs.Common.{OnOk, subst, sym}
use Rattle.core_numbering.specs.Drafts.{Numbers}
use Rattle.core_numbering.proofs.programs.add_decl.Goals as goal

pub returns-in-Proto : goal.returns-in-Proto
returns-in-Proto c = subst (λ d. OnOk c.add_proto.result (Numbers d c.args.parts.now c.add_proto.new.parts)) (sym c.in-Proto.is) c.add_proto.ensures

pub returns-in-Func : goal.returns-in-Func
returns-in-Func c = subst (λ d. OnOk c.add_func.result (Numbers d c.args.parts.now c.add_func.new.parts)) (sym c.in-Func.is) c.add_func.ensures
