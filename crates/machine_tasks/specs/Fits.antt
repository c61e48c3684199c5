-- When a program fits the frames of a task.
use Rattle.std.specs.Prelude.{◌≡◌, ◌<◌, List, [], ◌∷◌, ◌++◌, length, reverse}
use Rattle.std.specs.List.{AllByRecursion}
use Rattle.core_language.specs.Programs.{Body}
use Rattle.core_language.specs.Programs as body
use Rattle.core_programs.specs.declared.nodes.Node.{Node}
use Rattle.core_programs.specs.Bodies.{rest}
use Rattle.machine_values.specs.declared.binds.Bind.{Bind}
use Rattle.machine_tasks.specs.declared.tasks.Frame.{Frame}

abbrev pub IsCall : Body → Type 0
IsCall (body.Call span pat func values proof next) = Unit {0}
IsCall other = ⊥

-- the frame stands at a Call
abbrev pub AtCall : List Node → Frame → Type 0
AtCall nodes frame = (frame.node < length nodes) × IsCall (rest nodes frame.node)

-- the frames from the top one to the bottom one: the top one stands at a node, and each caller at a Call
abbrev pub FitFrom : List Node → List Frame → Type 0
FitFrom nodes [] = Unit {0}
FitFrom nodes (top ∷ callers) = (top.node < length nodes) × AllByRecursion (AtCall nodes) callers

abbrev pub FramesFit : List Node → List Frame → Type 0
FramesFit nodes frames = FitFrom nodes (reverse frames)

-- the last of a list
abbrev pub EndsIn : {X : Type 0} → List X → X → Type 0
EndsIn {X} xs x = (front : List X) × (xs ≡ front ++ x ∷ [])

-- the frame below the top one gets one more variable
abbrev pub BindsBelow : List Frame → List Frame → Bind → Type 0
BindsBelow before after bind = (front : List Frame) (f top : Frame) → before ≡ front ++ f ∷ top ∷ []
    → (g : Frame) × (after ≡ front ++ g ∷ top ∷ []) × (g.node ≡ f.node) × (g.binds.items ≡ f.binds.items ++ bind ∷ [])
