-- Functions that are found by their names.
use Rattle.std.proofs.Common.{◌≡◌, ℕ, suc, ◌<◌, Bool, true, false, cond, List, [], ◌∷◌, map, length, Option, Some, None, Bor, IfSome, slice_get, refl, sym}
use Rattle.std.specs.Option.{option_map, option_copied}
use Rattle.core_language.specs.Names.{Ident, same}
use Rattle.core_language.specs.Programs.{function_named}
use Rattle.core_programs.specs.declared.nodes.Node.{Node}
use Rattle.core_programs.specs.declared.nodes.Func.{Func}
use Rattle.core_programs.specs.declared.nodes.Parts.{Parts}
use Rattle.core_programs.specs.Bodies.{function_of, func_named}
use Rattle.core_programs.specs.Formed.{IsNumbered}

-- the function found is that of the core program
pub function_found : (nodes : List Node) (name : Ident) (fs : List Func) → function_named name (map (function_of nodes) fs) ≡ option_map (function_of nodes) (func_named name fs)
function_found nodes name [] = refl
function_found nodes name (f ∷ fs) = by (same f.name name) (function_found nodes name fs)
  where
    by : (b : Bool) → function_named name (map (function_of nodes) fs) ≡ option_map (function_of nodes) (func_named name fs)
        → cond b (Some (function_of nodes f)) (function_named name (map (function_of nodes) fs)) ≡ option_map (function_of nodes) (cond b (Some f) (func_named name fs))
    by true e = refl
    by false e = e

stands : (name : Ident) (fs : List Func) (f : Func) → func_named name fs ≡ Some f → (k : ℕ) × (slice_get fs k ≡ Some f)
stands name [] f is = cc
stands name (g ∷ gs) f is = by (same g.name name) (stands name gs f) is
  where
    by : (b : Bool) → (func_named name gs ≡ Some f → (k : ℕ) × (slice_get gs k ≡ Some f)) → cond b (Some g) (func_named name gs) ≡ Some f
        → (k : ℕ) × (slice_get (g ∷ gs) k ≡ Some f)
    by true later e = (0, e)
    by false later e = let (k, at) = later e in (suc k, at)

pub begins_within : (parts : Parts) (name : Ident) (found : Option (Bor Func)) → IsNumbered parts → option_copied found ≡ func_named name parts.funcs
    → IfSome found (λ f. f.now.first < length parts.nodes)
begins_within parts name None formed is = tt
begins_within parts name (Some f) formed is = let (k, at) = stands name parts.funcs f.now (sym is) in formed.firsts k f.now at
