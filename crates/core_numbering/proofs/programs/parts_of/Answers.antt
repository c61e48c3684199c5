use Rattle.std.proofs.Common.{◌≡◌, ◌≤◌, length, ◌∷◌, List, ◌+◌, drop, ap, sym, subst, ◌∙◌}
use Rattle.std.proofs.lemmas.List.{at_drop_more, drop_all}
use Rattle.std.specs.List.{list_all}
use Rattle.chan_syntax.specs.declared.surface_tree.Decl.{Decl}
use Rattle.core_trees.specs.Core.{is_core_decl}
use Rattle.core_numbering.specs.Drafts.{IsDraft}
use Rattle.core_trees.proofs.CoreBlocks.{other_core}
use Rattle.core_numbering.proofs.Drafted.{all_numbered}
use Rattle.core_numbering.proofs.programs.parts_of.Goals as goal

pub decls-preserved : goal.decls-preserved
decls-preserved c =
    let (draft, core) = c.decls.invariant in
    let rest = drop (c.decls.decl-index + 1) c.args.surface.now.decls in
    let split = subst (λ ds. drop c.decls.decl-index ds ≡ c.decl-item.result ∷ drop (c.decls.decl-index + 1) ds) c.as_slice-decl-items.ensures
    (at_drop_more (λ (ds : List Decl). ds) c.as_slice-decl-items.result.now c.decls.decl-index c.decl-item.result c.decls-test.true ∙ ap (λ d. d ∷ drop (c.decls.decl-index + 1) c.as_slice-decl-items.result.now) (sym c.decl-item.is)) in (
      c.in_ok-add_decl.ensures c.args.surface.now.decls rest (subst (λ ds. IsDraft c.args.surface.now.decls ds c.decls.parts) split draft),
      other_core (is_core_decl c.decl-item.result) (list_all is_core_decl rest) (ap (list_all is_core_decl) (sym split) ∙ core),
    )

pub returns : goal.returns
returns c =
    let (draft, core) = c.decls.invariant in
    let past : length c.args.surface.now.decls ≤ c.decls.decl-index = subst (λ ds. length ds ≤ c.decls.decl-index) c.as_slice-decl-items.ensures c.decls-test.false in
    all_numbered c.args.surface.now c.decls.parts (subst (λ ds. IsDraft c.args.surface.now.decls ds c.decls.parts) (drop_all c.decls.decl-index c.args.surface.now.decls past) draft)
