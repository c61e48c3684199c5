-- Frames at the same nodes with the same variables: one place, which a program fits or not, and the same ends.
use Rattle.std.proofs.Common.{◌≡◌, ℕ, ◌-◌, ◌<◌, List, [], ◌∷◌, ◌++◌, map, reverse, set, length, refl, sym, ap, subst, ◌∙◌}
use Rattle.std.specs.List.{AllByRecursion}
use Rattle.std.proofs.lemmas.List.{map-append, reverse-append}
use Rattle.std.proofs.lemmas.List.Elements.{All-from_recursion, recursion_from_All}
use Rattle.core_language.specs.Configurations.{Caller, Place, Running, Ended}
use Rattle.core_programs.specs.declared.nodes.Node.{Node}
use Rattle.core_programs.specs.declared.nodes.Parts.{Parts}
use Rattle.core_programs.specs.Bodies.{rest}
use Rattle.machine_values.specs.declared.binds.Bind.{Bind}
use Rattle.machine_values.specs.Cells.{EndTest}
use Rattle.machine_values.specs.Ends.{BindsPass}
use Rattle.machine_values.specs.Reading.{env_of}
use Rattle.machine_tasks.specs.declared.tasks.Frame.{Frame}
use Rattle.machine_tasks.specs.declared.tasks.Task.{Task}
use Rattle.machine_tasks.specs.Ends.{FramePasses, FramesPass, TaskPasses}
use Rattle.machine_tasks.specs.Fits.{AtCall, FitFrom, IsCall}
use Rattle.machine_tasks.specs.Reading.{caller_at, caller_of, place_from}
use Rattle.machine_tasks.specs.Steps.{FitsTask, IsUnmoved, frame_read, place_in}
use Rattle.machine_tasks.proofs.Places.{Written}

abbrev pub Read : Type 0
Read = ℕ × List Bind

reads_reversed : (fs : List Frame) → map frame_read (reverse fs) ≡ reverse (map frame_read fs)
reads_reversed [] = refl
reads_reversed (f ∷ fs) =
    ap (map frame_read) (reverse-append (f ∷ []) fs) ∙ map-append frame_read (reverse fs) (f ∷ []) ∙ ap (λ rs. rs ++ frame_read f ∷ []) (reads_reversed fs)
    ∙ sym (reverse-append (frame_read f ∷ []) (map frame_read fs))

reversed_same : (fs gs : List Frame) → map frame_read gs ≡ map frame_read fs → map frame_read (reverse gs) ≡ map frame_read (reverse fs)
reversed_same fs gs same = reads_reversed gs ∙ ap reverse same ∙ sym (reads_reversed fs)

module _ (nodes : List Node) where
  abbrev pub caller_read : Read → Caller
  caller_read r = caller_at (rest nodes r.0) (env_of r.1)

  abbrev pub place_read : List Read → Place
  place_read [] = Ended
  place_read (top ∷ callers) = Running (rest nodes top.0) (env_of top.1) (map caller_read callers)

  callers_read : (fs : List Frame) → map (caller_of nodes) fs ≡ map caller_read (map frame_read fs)
  callers_read [] = refl
  callers_read (f ∷ fs) = ap (λ cs. caller_of nodes f ∷ cs) (callers_read fs)

  placed : (fs : List Frame) → place_from nodes fs ≡ place_read (map frame_read fs)
  placed [] = refl
  placed (f ∷ fs) = ap (Running (rest nodes f.node) (env_of f.binds.items)) (callers_read fs)

  abbrev pub IsCaller : Read → Type 0
  IsCaller r = (r.0 < length nodes) × IsCall (rest nodes r.0)

  abbrev pub FitsRead : List Read → Type 0
  FitsRead [] = Unit {0}
  FitsRead (top ∷ callers) = (top.0 < length nodes) × AllByRecursion IsCaller callers

  calls_read : (fs : List Frame) → AllByRecursion (AtCall nodes) fs → AllByRecursion IsCaller (map frame_read fs)
  calls_read [] all = tt
  calls_read (f ∷ fs) all = (all.0, calls_read fs all.1)

  read_calls : (fs : List Frame) → AllByRecursion IsCaller (map frame_read fs) → AllByRecursion (AtCall nodes) fs
  read_calls [] all = tt
  read_calls (f ∷ fs) all = (all.0, read_calls fs all.1)

  fits_read : (fs : List Frame) → FitFrom nodes fs → FitsRead (map frame_read fs)
  fits_read [] fits = tt
  fits_read (f ∷ fs) fits = (fits.0, calls_read fs fits.1)

  read_fits : (fs : List Frame) → FitsRead (map frame_read fs) → FitFrom nodes fs
  read_fits [] fits = tt
  read_fits (f ∷ fs) fits = (fits.0, read_calls fs fits.1)

passes_read : (test : EndTest) (fs : List Frame) → AllByRecursion (FramePasses test) fs → AllByRecursion (λ (r : Read). BindsPass test r.1) (map frame_read fs)
passes_read test [] all = tt
passes_read test (f ∷ fs) all = (all.0, passes_read test fs all.1)

read_passes : (test : EndTest) (fs : List Frame) → AllByRecursion (λ (r : Read). BindsPass test r.1) (map frame_read fs) → AllByRecursion (FramePasses test) fs
read_passes test [] all = tt
read_passes test (f ∷ fs) all = (all.0, read_passes test fs all.1)

-- a task that didn't move stands where it stood, fits as it did, and has the ends that it had
pub unmoved_place : (program : Parts) (old new : Task) → IsUnmoved old new → place_in program new ≡ place_in program old
unmoved_place program old new u =
    let same = reversed_same old.frames.items new.frames.items u.frames_are in
    placed program.nodes (reverse new.frames.items) ∙ ap (place_read program.nodes) same ∙ sym (placed program.nodes (reverse old.frames.items))

pub unmoved_fits : (program : Parts) (old new : Task) → IsUnmoved old new → FitsTask program old → FitsTask program new
unmoved_fits program old new u fits =
    let same = reversed_same old.frames.items new.frames.items u.frames_are in
    read_fits program.nodes (reverse new.frames.items) (subst (FitsRead program.nodes) (sym same) (fits_read program.nodes (reverse old.frames.items) fits))

pub unmoved_passes : (test : EndTest) (old new : Task) → IsUnmoved old new → TaskPasses test old → TaskPasses test new
unmoved_passes test old new u passes =
    All-from_recursion (FramePasses test) new.frames.items
    (read_passes test new.frames.items (subst (AllByRecursion (λ (r : Read). BindsPass test r.1)) (sym u.frames_are)
    (passes_read test old.frames.items (recursion_from_All (FramePasses test) old.frames.items passes))))

-- a frame that was written with what it had
pub reads_written : (frames : List Frame) (n : ℕ) (old new : Frame) → Written frames n old new → new.node ≡ old.node → new.binds.items ≡ old.binds.items
    → map frame_read (set frames (n - 1) new) ≡ map frame_read frames
reads_written frames n old new w node items =
    let one : frame_read new ≡ frame_read old = ap (λ k. (k, new.binds.items)) node ∙ ap (λ (bs : List Bind). (old.node, bs)) items in
    ap (map frame_read) w.after ∙ map-append frame_read w.front (new ∷ []) ∙ ap (λ r. map frame_read w.front ++ r ∷ []) one
    ∙ sym (map-append frame_read w.front (old ∷ [])) ∙ ap (map frame_read) (sym w.before)
