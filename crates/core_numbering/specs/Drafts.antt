-- For the proof alone: what is kept while declarations are numbered one by one.
use Rattle.std.specs.Prelude.{List, ◌∷◌, ◌++◌, map}
use Rattle.chan_syntax.specs.declared.surface_tree.Decl.{Decl}
use Rattle.chan_syntax.specs.declared.resources.Proto.{Proto}
use Rattle.core_programs.specs.declared.nodes.Node.{Node}
use Rattle.core_programs.specs.declared.nodes.Func.{Func}
use Rattle.core_programs.specs.declared.nodes.Parts.{Parts}
use Rattle.core_numbering.specs.Numbering.{AreOf}
use Rattle.core_numbering.specs.Rooted.{IsRooted}

-- The declarations were numbered up to the rest: what the rest makes comes after these parts, and each function is a root.
pub record IsDraft (decls rest : List Decl) (parts : Parts) : Type 0 where
  pub follows : (more : List Node) (protos : List Proto) (funcs : List Func) → AreOf (parts.nodes ++ more) rest protos funcs
      → AreOf (parts.nodes ++ more) decls (parts.protos ++ protos) (parts.funcs ++ funcs)
  pub rooted : IsRooted parts.nodes (map (λ f. f.first) parts.funcs)

-- one declaration more was numbered
abbrev pub Numbers : Decl → Parts → Parts → Type 0
Numbers decl before after = (decls rest : List Decl) → IsDraft decls (decl ∷ rest) before → IsDraft decls rest after
