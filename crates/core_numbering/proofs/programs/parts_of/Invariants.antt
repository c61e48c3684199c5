use Rattle.std.proofs.Common.{◌≡◌, true, drop}
use Rattle.std.specs.List.{list_all}
use Rattle.core_trees.specs.Core.{is_core_decl}
use Rattle.core_numbering.specs.Drafts.{IsDraft}
use Rattle.core_numbering.proofs.programs.parts_of.Given as goal

abbrev pub invariant-decls : goal.invariant-decls
invariant-decls l = IsDraft l.surface.decls (drop l.decl-index l.surface.decls) l.parts × (list_all is_core_decl (drop l.decl-index l.surface.decls) ≡ true)
