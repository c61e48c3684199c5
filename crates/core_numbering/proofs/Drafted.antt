-- Declarations that are numbered one by one.
use Rattle.std.proofs.Common.{◌≡◌, List, [], ◌∷◌, ◌++◌, map, append-nil, append_assoc, refl, sym, ap, ◌∙◌, subst}
use Rattle.chan_syntax.specs.declared.surface_tree.Body.TheVariants as body
use Rattle.chan_syntax.specs.declared.surface_tree.Decl.{Decl}
use Rattle.chan_syntax.specs.declared.surface_tree.Decl.TheVariants as decl
use Rattle.chan_syntax.specs.declared.surface_tree.SurfaceProto.{SurfaceProto}
use Rattle.chan_syntax.specs.declared.surface_tree.SurfaceFunc.{SurfaceFunc}
use Rattle.chan_syntax.specs.declared.surface_tree.Surface.{Surface}
use Rattle.chan_syntax.specs.declared.resources.Equation.{Equation}
use Rattle.chan_syntax.specs.declared.resources.Proto.{Proto}
use Rattle.core_programs.specs.declared.nodes.Node.{Node}
use Rattle.core_programs.specs.declared.nodes.Func.{Func}
use Rattle.core_programs.specs.declared.nodes.Parts.{Parts}
use Rattle.core_numbering.specs.Numbering.{AreOf, IsBodyAt, IsNumbering, proto_of, func_of}
use Rattle.core_numbering.specs.Rooted.{IsRooted, Adds}
use Rattle.core_numbering.specs.Drafts.{IsDraft, Numbers}
use Rattle.core_numbering.proofs.Grown.{kept_body}
use Rattle.core_numbering.proofs.Roots.{nothing_rooted, numbered}

pub nothing_numbered : (decls : List Decl) → IsDraft decls decls (record { protos = []; funcs = []; nodes = [] })
nothing_numbered decls = record { follows = λ more protos funcs are. are; rooted = nothing_rooted }

pub proto_numbered : (p : SurfaceProto) (e : Equation) (before : Parts) (x : Proto) (protos : List Proto) → p.body ≡ body.Plain e → x ≡ proto_of p e → protos ≡ before.protos ++ x ∷ []
    → Numbers (decl.Proto p) before (record { protos = protos; funcs = before.funcs; nodes = before.nodes })
unfolding AreOf
proto_numbered p e before x pushed_protos plain is longer decls rest draft =
    subst (λ ps. IsDraft decls rest (record { protos = ps; funcs = before.funcs; nodes = before.nodes })) (sym longer) (record {
      follows = λ more protos funcs are. subst (λ ps. AreOf (before.nodes ++ more) decls ps (before.funcs ++ funcs)) (sym (append_assoc before.protos (x ∷ []) protos))
          (draft.follows more (x ∷ protos) funcs (e, protos, plain, ap (λ y. y ∷ protos) is, are));
      rooted = draft.rooted;
    })

pushed : (fs : List Func) (f : Func) → map (λ (g : Func). g.first) (fs ++ f ∷ []) ≡ map (λ (g : Func). g.first) fs ++ f.first ∷ []
pushed [] f = refl
pushed (g ∷ gs) f = ap (λ ns. g.first ∷ ns) (pushed gs f)

pub func_numbered : (f : SurfaceFunc) (before : Parts) (nodes : List Node) (x : Func) (funcs : List Func) → Adds before.nodes nodes [] x.first → x ≡ func_of f x.first → IsBodyAt nodes f.block x.first
    → funcs ≡ before.funcs ++ x ∷ [] → Numbers (decl.Func f) before (record { protos = before.protos; funcs = funcs; nodes = nodes })
unfolding AreOf
func_numbered f before nodes x pushed_funcs adds is at longer decls rest draft =
    subst (λ fs. IsDraft decls rest (record { protos = before.protos; funcs = fs; nodes = nodes })) (sym longer) (record {
      follows = λ more protos funcs are.
          let whole : nodes ++ more ≡ before.nodes ++ (adds.more ++ more) = ap (λ ns. ns ++ more) adds.longer ∙ append_assoc before.nodes adds.more more in
          let there = subst (λ ns. AreOf ns decls (before.protos ++ protos) (before.funcs ++ x ∷ funcs)) (sym whole)
          (draft.follows (adds.more ++ more) protos (x ∷ funcs) (subst (λ ns. AreOf ns (decl.Func f ∷ rest) protos (x ∷ funcs)) whole
          (x.first, funcs, ap (λ y. y ∷ funcs) is, kept_body nodes (nodes ++ more) more f.block x.first refl at, are))) in
          subst (AreOf (nodes ++ more) decls (before.protos ++ protos)) (sym (append_assoc before.funcs (x ∷ []) funcs)) there;
      rooted = subst (IsRooted nodes) (sym (pushed before.funcs x))
          (adds.rooted (map (λ (g : Func). g.first) before.funcs) (subst (IsRooted before.nodes) (sym (append-nil (map (λ (g : Func). g.first) before.funcs))) draft.rooted));
    })

-- nothing is left
pub all_numbered : (surface : Surface) (parts : Parts) → IsDraft surface.decls [] parts → IsNumbering surface parts
unfolding AreOf
all_numbered surface parts draft = record {
  declared = subst (λ ps. AreOf parts.nodes surface.decls ps parts.funcs) (append-nil parts.protos)
      (subst (AreOf parts.nodes surface.decls (parts.protos ++ [])) (append-nil parts.funcs)
      (subst (λ ns. AreOf ns surface.decls (parts.protos ++ []) (parts.funcs ++ [])) (append-nil parts.nodes)
      (draft.follows [] [] [] (refl, refl))));
  numbered = numbered parts draft.rooted;
}
