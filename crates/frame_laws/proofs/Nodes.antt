-- The nodes of a well-formed program: which bodies follow at them, and which functions they find.
use Rattle.std.proofs.Common.{◌≡◌, ℕ, zero, suc, ◌+◌, ◌<◌, Bool, true, false, cond, nat_eq, List, [], ◌∷◌, map, length, Option, Some, slice_get, ⊎_elim, refl, sym, ap, ◌∙◌, subst, arith, eqb-true}
use Rattle.std.specs.List.{AllByRecursion, list_any}
use Rattle.std.proofs.lemmas.List.{length-map}
use Rattle.std.proofs.lemmas.Option.{slice_get_cases}
use Rattle.core_language.specs.Names.{Ident, same}
use Rattle.core_language.specs.Programs.{Body, Function, Param, function_named, arm_list}
use Rattle.core_language.specs.Programs as body
use Rattle.chan_base.specs.declared.spans.Span.{Span}
use Rattle.chan_syntax.specs.Reading.{supply_of}
use Rattle.form_faults.specs.declared.sorts.Known.{Known}
use Rattle.form_faults.specs.declared.signatures.Signature.{Signature}
use Rattle.form_faults.specs.Scopes.{bind_all}
use Rattle.form_faults.specs.Terms.{use_faults, ref_faults, count_of, counted}
use Rattle.form_faults.specs.Resources.{header_scope, header_faults}
use Rattle.core_programs.specs.declared.nodes.Arm.{Arm}
use Rattle.core_programs.specs.declared.nodes.Node.{Node}
use Rattle.core_programs.specs.declared.nodes.Node.TheVariants as node
use Rattle.core_programs.specs.declared.nodes.Func.{Func}
use Rattle.core_programs.specs.declared.nodes.Parts.{Parts}
use Rattle.core_programs.specs.Bodies.{arms_opened, opened, rest, param_of, function_of, program_of}
use Rattle.core_programs.specs.Formed.{nexts, Leads, IsNumbered}
use Rattle.core_programs.specs.Trees.{grown, tree}
use Rattle.core_programs.specs.Passes.{call_faults, operand_faults, binders_at, body_faults, func_faults, funcs_faults, protos_faults, proto_signatures, func_signatures}
use Rattle.core_programs.specs.Form.{IsFormed}
use Rattle.core_programs.proofs.Forests.{rest_opened}
use Rattle.core_programs.proofs.Growing.{tree_grown}
use Rattle.core_programs.proofs.Clean.{operands_clean, body_clean}
use Rattle.frame_laws.specs.Needs.{needs}
use Rattle.frame_laws.specs.Fits.{StandsAtNode}
use Rattle.frame_laws.specs.Calls.{HasFunction, FindsFunction}
use Rattle.frame_laws.specs.Laws.{CallsFindFunctions}
use Rattle.frame_laws.proofs.Tests.{faultless, none_left, none_right}
use Rattle.frame_laws.proofs.Variables.{of_header}
use Rattle.frame_laws.proofs.Scoped.{body_scoped}

-- ---- bodies that follow

-- the bodies that may follow a form
abbrev pub follows : Body → List Body
follows (body.Let span x term next) = next ∷ []
follows (body.Mul span x left right next) = next ∷ []
follows (body.Div span x term divisor next) = next ∷ []
follows (body.Rem span x term divisor next) = next ∷ []
follows (body.Call span pat func values proof next) = next ∷ []
follows (body.Tail span func values proof) = []
follows (body.Fork span x proto func values proof next) = next ∷ []
follows (body.Send1 span channel path value proof next) = next ∷ []
follows (body.Recv1 span pat channel path proof next) = next ∷ []
follows (body.Print span term next) = next ∷ []
follows (body.If span left right this other) = this ∷ other ∷ []
follows (body.Split span first second x next) = next ∷ []
follows (body.Match span x arms) = map (λ arm. arm.1) (arm_list arms)
follows (body.Absurd span proof) = []
follows (body.Ret span value proof) = []

arms_follow : (arms : List Arm) (at : ℕ → Body) → map at (map (λ arm. arm.next) arms) ≡ map (λ arm. arm.1) (arm_list (arms_opened arms at))
arms_follow [] at = refl
arms_follow (arm ∷ arms) at = ap (λ bs. at arm.next ∷ bs) (arms_follow arms at)

follows_opened : (y : Node) (at : ℕ → Body) → map at (nexts y) ≡ follows (opened y at)
follows_opened (node.Let name name_at term next span) at = refl
follows_opened (node.Mul name name_at left right next span) at = refl
follows_opened (node.Div name name_at term divisor divisor_at next span) at = refl
follows_opened (node.Rem name name_at term divisor divisor_at next span) at = refl
follows_opened (node.Call pat func func_at values proof next span) at = refl
follows_opened (node.Tail func func_at values proof span) at = refl
follows_opened (node.Fork name name_at proto func func_at values proof next span) at = refl
follows_opened (node.Send1 channel channel_at path path_at value proof next span) at = refl
follows_opened (node.Recv1 pat channel channel_at path path_at proof next span) at = refl
follows_opened (node.Print term next span) at = refl
follows_opened (node.If left right this other span) at = refl
follows_opened (node.Split first second name name_at next span) at = refl
follows_opened (node.Match name name_at arms span) at = arms_follow arms at
follows_opened (node.Absurd proof span) at = refl
follows_opened (node.Ret value proof span) at = refl

node_at : (nodes : List Node) (n : ℕ) → n < length nodes → (y : Node) × (slice_get nodes n ≡ Some y)
node_at nodes n lt = ⊎_elim (λ found. (found.0, found.2)) (λ past. absurd (omega (arith, lt, past.0))) (slice_get_cases nodes n).1

all_stand : (parts : Parts) (ns : List ℕ) → ((k m : ℕ) → slice_get ns k ≡ Some m → m < length parts.nodes) → AllByRecursion (StandsAtNode parts) (map (rest parts.nodes) ns)
all_stand parts [] below = tt
all_stand parts (n ∷ ns) below = ((n, below 0 n refl, refl), all_stand parts ns (λ k. below (suc k)))

-- what follows a body at a node stands at nodes
pub followers_stand : (parts : Parts) (here : Body) → IsNumbered parts → StandsAtNode parts here → AllByRecursion (StandsAtNode parts) (follows here)
followers_stand parts here numbered (n, lt, is) =
    let (y, at) = node_at parts.nodes n lt in
    subst (λ b. AllByRecursion (StandsAtNode parts) (follows b)) (sym (is ∙ rest_opened parts n y numbered lt at))
    (subst (AllByRecursion (StandsAtNode parts)) (follows_opened y (rest parts.nodes)) (all_stand parts (nexts y) (numbered.follow n y at)))

-- ---- functions

-- a use without faults finds its function
use_finds : (nodes : List Node) (fs : List Func) (name : Ident) (span : Span) (count : ℕ) → use_faults (func_signatures fs) name span count ≡ []
    → (f : Function) × (function_named name (map (function_of nodes) fs) ≡ Some f) × (length f.params ≡ count)
unfolding use_faults count_of
use_finds nodes [] name span count none = cc
use_finds nodes (g ∷ gs) name span count none =
    by (same g.name name) (count_of (func_signatures gs) name) (function_named name (map (function_of nodes) gs)) (use_finds nodes gs name span count) none
  where
    by : (t : Bool) (other : Option ℕ) (o : Option Function) → (counted other name span count ≡ [] → (f : Function) × (o ≡ Some f) × (length f.params ≡ count))
        → counted (cond t (Some (length g.params)) other) name span count ≡ []
        → (f : Function) × (cond t (Some (function_of nodes g)) o ≡ Some f) × (length f.params ≡ count)
    by true other o more none = (
      function_of nodes g,
      refl,
      length-map g.params param_of ∙ eqb-true (length g.params) count (faultless (nat_eq (length g.params) count) _ [] none),
    )
    by false other o more none = more none

-- a function that is found is one of the list
found_at : (nodes : List Node) (fs : List Func) (name : Ident) (f : Function) → function_named name (map (function_of nodes) fs) ≡ Some f
    → (k : ℕ) × (g : Func) × (slice_get fs k ≡ Some g) × (function_of nodes g ≡ f)
found_at nodes [] name f is = cc
found_at nodes (g ∷ gs) name f is = by (same g.name name) (function_named name (map (function_of nodes) gs)) (found_at nodes gs name f) is
  where
    by : (t : Bool) (o : Option Function) → (o ≡ Some f → (k : ℕ) × (h : Func) × (slice_get gs k ≡ Some h) × (function_of nodes h ≡ f))
        → cond t (Some (function_of nodes g)) o ≡ Some f → (k : ℕ) × (h : Func) × (slice_get (g ∷ gs) k ≡ Some h) × (function_of nodes h ≡ f)
    by true o more is = (0, g, refl, cc)
    by false o more is = let (k, h, at, same) = more is in (suc k, h, at, same)

func_clean : (protos funcs : List Signature) (nodes : List Node) (fs : List Func) (k : ℕ) (g : Func) → slice_get fs k ≡ Some g → funcs_faults protos funcs nodes fs ≡ []
    → body_faults protos funcs (header_scope g.bound g.params) (tree nodes g.first) ≡ []
unfolding funcs_faults func_faults
func_clean protos funcs nodes [] k g is none = cc
func_clean protos funcs nodes (h ∷ hs) zero g is none =
    let same : h ≡ g = cc in
    subst (λ (f : Func). body_faults protos funcs (header_scope f.bound f.params) (tree nodes f.first) ≡ []) same
    (none_right (header_faults protos h.name_span h.bound h.params h.result) _ (none_left (func_faults protos funcs nodes h) _ none))
func_clean protos funcs nodes (h ∷ hs) (suc k) g is none = func_clean protos funcs nodes hs k g is (none_right (func_faults protos funcs nodes h) _ none)

module _ (parts : Parts) (formed : IsFormed parts) where
  abbrev protos : List Signature
  protos = proto_signatures parts.protos

  abbrev funcs : List Signature
  funcs = func_signatures parts.funcs

  funcs_clean : funcs_faults protos funcs parts.nodes parts.funcs ≡ []
  funcs_clean = none_right (protos_faults protos parts.protos) _ formed.form.1.0

  -- the body of a function that is found stands at a node, and needs parameters alone
  pub body_of : (name : Ident) (f : Function) → function_named name (map (function_of parts.nodes) parts.funcs) ≡ Some f
      → StandsAtNode parts f.body × ((x : Ident) → needs f.body x ≡ true → list_any (λ (p : Param). same p.name x) f.params ≡ true)
  body_of name f is =
      let (k, g, at, made) = found_at parts.nodes parts.funcs name f is in
      let none = func_clean protos funcs parts.nodes parts.funcs k g at funcs_clean in
      subst (λ (h : Function). StandsAtNode parts h.body × ((x : Ident) → needs h.body x ≡ true → list_any (λ (p : Param). same p.name x) h.params ≡ true)) made (
        (g.first, formed.numbered.firsts k g at, refl),
        λ x need. of_header g.bound g.params x (body_scoped protos funcs (length parts.nodes) parts.nodes x g.first (header_scope g.bound g.params) none need),
      )

  -- no fault in the body at a number, in some scope
  abbrev IsClean : ℕ → Type 0
  IsClean n = (scope : List Known) × (body_faults protos funcs scope (tree parts.nodes n) ≡ [])

  clean_here : (n : ℕ) (y : Node) (scope : List Known) → n < length parts.nodes → slice_get parts.nodes n ≡ Some y → body_faults protos funcs scope (tree parts.nodes n) ≡ []
      → body_faults protos funcs scope (grown y (tree parts.nodes)) ≡ []
  clean_here n y scope lt is none = ap (body_faults protos funcs scope) (sym (tree_grown parts n y formed.numbered lt is)) ∙ none

  -- nor in the bodies that its node names
  turned : (n : ℕ) (y : Node) (turn next : ℕ) → n < length parts.nodes → slice_get parts.nodes n ≡ Some y → slice_get (nexts y) turn ≡ Some next → IsClean n → IsClean next
  turned n y turn next lt is picked (scope, none) = (bind_all scope (binders_at y turn), body_clean protos funcs (tree parts.nodes) y scope turn next (clean_here n y scope lt is none) picked)

  led : (turns : List ℕ) (n m : ℕ) → n < length parts.nodes → Leads parts.nodes n turns m → IsClean n → IsClean m
  led [] n m lt leads clean = subst IsClean leads clean
  led (turn ∷ turns) n m lt (y, next, is, picked, leads) clean =
      led turns next m (formed.numbered.follow n y is turn next picked) leads (turned n y turn next lt is picked clean)

  all_clean : (n : ℕ) → n < length parts.nodes → IsClean n
  all_clean n lt =
      let (f, turns, (g, has, leads), unique) = formed.numbered.once n lt in
      led turns g.first n (formed.numbered.firsts f g has) leads (header_scope g.bound g.params, func_clean protos funcs parts.nodes parts.funcs f g has funcs_clean)

  finds : (name : Ident) (span : Span) (count many : ℕ) → many ≡ count → use_faults funcs name span count ≡ [] → HasFunction (program_of parts) name many
  finds name span count many same none = subst (HasFunction (program_of parts) name) (sym same) (use_finds parts.nodes parts.funcs name span count none)

  node_finds : (y : Node) (scope : List Known) (at : ℕ → Body) → operand_faults protos funcs scope y ≡ [] → FindsFunction (program_of parts) (opened y at)
  unfolding operand_faults call_faults
  node_finds (node.Let name name_at term next span) scope at none = tt
  node_finds (node.Mul name name_at left right next span) scope at none = tt
  node_finds (node.Div name name_at term divisor divisor_at next span) scope at none = tt
  node_finds (node.Rem name name_at term divisor divisor_at next span) scope at none = tt
  node_finds (node.Call pat func func_at values proof next span) scope at none =
      finds func func_at (length values) (length (map supply_of values)) (length-map values supply_of) (none_left (use_faults funcs func func_at (length values)) _ none)
  node_finds (node.Tail func func_at values proof span) scope at none =
      finds func func_at (length values) (length (map supply_of values)) (length-map values supply_of) (none_left (use_faults funcs func func_at (length values)) _ none)
  node_finds (node.Fork name name_at proto func func_at values proof next span) scope at none =
      let many : suc (length (map supply_of values)) ≡ length values + 1 = ap suc (length-map values supply_of) ∙ omega arith in
      finds func func_at (length values + 1) (suc (length (map supply_of values))) many
      (none_left (use_faults funcs func func_at (length values + 1)) _ (none_right (ref_faults protos scope proto) _ none))
  node_finds (node.Send1 channel channel_at path path_at value proof next span) scope at none = tt
  node_finds (node.Recv1 pat channel channel_at path path_at proof next span) scope at none = tt
  node_finds (node.Print term next span) scope at none = tt
  node_finds (node.If left right this other span) scope at none = tt
  node_finds (node.Split first second name name_at next span) scope at none = tt
  node_finds (node.Match name name_at arms span) scope at none = tt
  node_finds (node.Absurd proof span) scope at none = tt
  node_finds (node.Ret value proof span) scope at none = tt

pub calls_find_functions : CallsFindFunctions
calls_find_functions parts formed here (n, lt, is) =
    let (y, at) = node_at parts.nodes n lt in
    let (scope, none) = all_clean parts formed n lt in
    subst (FindsFunction (program_of parts)) (sym (is ∙ rest_opened parts n y formed.numbered lt at))
    (node_finds parts formed y scope (rest parts.nodes) (operands_clean (protos parts formed) (funcs parts formed) (tree parts.nodes) y scope (clean_here parts formed n y scope lt at none)))
