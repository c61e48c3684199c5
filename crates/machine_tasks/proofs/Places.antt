-- What becomes of a place when the last frame is written.
use Rattle.std.proofs.Common.{◌≡◌, ℕ, suc, ◌+◌, ◌-◌, ◌<◌, ◌≤◌, List, [], ◌∷◌, ◌++◌, map, reverse, set, get_or, length, Some, slice_get, Result, Ok, Err, OnErr, IsOk, is_ok, if◌then◌else◌, sym, ap, subst, ◌∙◌, arith}
use Rattle.std.specs.Prelude.{vec_len, vec_capacity}
use Rattle.std.specs.List.{AllByRecursion}
use Rattle.std.proofs.lemmas.List.{reverse-append, map-append}
use Rattle.core_language.specs.Names.{Name}
use Rattle.core_language.specs.Computing.{Env, machine}
use Rattle.core_language.specs.Programs.{Body, Program}
use Rattle.core_language.specs.Configurations.{Place, Running, kept}
use Rattle.core_language.specs.Acts.{Act, act_of, act_at}
use Rattle.core_programs.specs.declared.nodes.Node.{Node}
use Rattle.core_programs.specs.declared.nodes.Parts.{Parts}
use Rattle.core_programs.specs.Bodies.{opened, program_of, rest}
use Rattle.machine_values.specs.declared.binds.Bind.{Bind}
use Rattle.machine_values.specs.Reading.{env_of, value_as}
use Rattle.machine_tasks.specs.declared.tasks.Frame.{Frame}
use Rattle.machine_tasks.specs.declared.tasks.Task.{Task}
use Rattle.machine_tasks.specs.Fits.{AtCall, FitFrom, FramesFit, EndsIn}
use Rattle.machine_tasks.specs.Reading.{act_in, caller_of, place_from, place_of}
use Rattle.machine_tasks.specs.Moving.{at_node, bound_in, HasRoom, RoomFrom}

-- a list before and after its last element is written
pub record Written {X : Type 0} (xs : List X) (n : ℕ) (x y : X) : Type 0 where
  pub front : List X
  pub before : xs ≡ front ++ x ∷ []
  pub after : set xs (n - 1) y ≡ front ++ y ∷ []

pub written : {X : Type 0} (xs : List X) (n : ℕ) (x y : X) → n ≡ length xs → 0 < length xs → x ≡ get_or xs (n - 1) x → Written xs n x y
written [] n x y long some is = absurd (omega (arith, some))
written (z ∷ []) n x y long some is =
    let first : n - 1 ≡ 0 = omega (arith, long) in
    record {
      front = [];
      before = ap (λ w. w ∷ []) (sym (is ∙ ap (λ k. get_or (z ∷ []) k x) first));
      after = ap (λ k. set (z ∷ []) k y) first;
    }
written (z ∷ w ∷ xs) n x y long some is =
    let later : n - 1 ≡ suc (n - 1 - 1) = omega (arith, long) in
    let inner = written (w ∷ xs) (n - 1) x y (omega (arith, long)) (omega arith) (is ∙ ap (λ k. get_or (z ∷ w ∷ xs) k x) later) in
    record {
      front = z ∷ inner.front;
      before = ap (λ zs. z ∷ zs) inner.before;
      after = ap (λ k. set (z ∷ w ∷ xs) k y) later ∙ ap (λ zs. z ∷ zs) inner.after;
    }

-- the last of a list that is read at its index
pub ends_in : {X : Type 0} (xs : List X) (x : X) → slice_get xs (length xs - 1) ≡ Some x → EndsIn xs x
ends_in [] x is = cc
ends_in (y ∷ []) x is = let same : y ≡ x = cc in ([], ap (λ z. z ∷ []) same)
ends_in (y ∷ z ∷ xs) x is =
    let later : length (y ∷ z ∷ xs) - 1 ≡ suc (length (z ∷ xs) - 1) = omega arith in
    let (front, whole) = ends_in (z ∷ xs) x (ap (slice_get (y ∷ z ∷ xs)) (sym later) ∙ is) in
    (y ∷ front, ap (λ zs. y ∷ zs) whole)

module _ (nodes : List Node) where
  pub place_last : (frames front : List Frame) (f : Frame) → frames ≡ front ++ f ∷ [] → place_of nodes frames ≡ Running (rest nodes f.node) (env_of f.binds.items) (map (caller_of nodes) (reverse front))
  place_last frames front f is = ap (place_of nodes) is ∙ ap (place_from nodes) (reverse-append front (f ∷ []))

  -- the act of a task whose top frame stands at the node
  pub act_here : (program : Program) (p : Name) (forks : ℕ) (frames front : List Frame) (f : Frame) (x : Node) → frames ≡ front ++ f ∷ [] → rest nodes f.node ≡ opened x (rest nodes)
      → act_of machine program p forks (place_of nodes frames) ≡ act_at machine program p forks (opened x (rest nodes)) (env_of f.binds.items) (map (caller_of nodes) (reverse front))
  act_here program p forks frames front f x is opens =
      ap (act_of machine program p forks) (place_last frames front f is)
      ∙ ap (λ body. act_at machine program p forks body (env_of f.binds.items) (map (caller_of nodes) (reverse front))) opens

  pub fits_last : (frames front : List Frame) (f : Frame) → frames ≡ front ++ f ∷ [] → FramesFit nodes frames → (f.node < length nodes) × AllByRecursion (AtCall nodes) (reverse front)
  fits_last frames front f is fits = subst (FitFrom nodes) (ap reverse is ∙ reverse-append front (f ∷ [])) fits

  pub makes_fit : (frames front : List Frame) (f : Frame) → frames ≡ front ++ f ∷ [] → f.node < length nodes → AllByRecursion (AtCall nodes) (reverse front) → FramesFit nodes frames
  makes_fit frames front f is within callers = subst (FitFrom nodes) (sym (ap reverse is ∙ reverse-append front (f ∷ []))) (within, callers)

  pub goes_to : (frames : List Frame) (n : ℕ) (old new : Frame) (node : ℕ) → Written frames n old new → new.node ≡ node
      → env_of new.binds.items ≡ kept (rest nodes node) (env_of old.binds.items) → place_of nodes (set frames (n - 1) new) ≡ at_node nodes node (place_of nodes frames)
  goes_to frames n old new node w stands keeps =
      let running : Body → Env → Place = λ body env. Running body env (map (caller_of nodes) (reverse w.front)) in
      place_last (set frames (n - 1) new) w.front new w.after ∙ ap (λ k. running (rest nodes k) (env_of new.binds.items)) stands ∙ ap (running (rest nodes node)) keeps
      ∙ ap (at_node nodes node) (sym (place_last frames w.front old w.before))

  pub gains : (frames : List Frame) (n : ℕ) (old new : Frame) (bind : Bind) → Written frames n old new → new.node ≡ old.node
      → new.binds.items ≡ old.binds.items ++ bind ∷ [] → place_of nodes (set frames (n - 1) new) ≡ bound_in bind.name (value_as bind.value) (place_of nodes frames)
  gains frames n old new bind w stands more =
      let running : Body → Env → Place = λ body env. Running body env (map (caller_of nodes) (reverse w.front)) in
      place_last (set frames (n - 1) new) w.front new w.after ∙ ap (λ k. running (rest nodes k) (env_of new.binds.items)) stands
      ∙ ap (λ (bs : List Bind). running (rest nodes old.node) (env_of bs)) more
      ∙ ap (running (rest nodes old.node)) (map-append (λ (b : Bind). (b.name, value_as b.value)) old.binds.items (bind ∷ []))
      ∙ ap (bound_in bind.name (value_as bind.value)) (sym (place_last frames w.front old w.before))

  pub same_place : (frames : List Frame) (n : ℕ) (old new : Frame) → Written frames n old new → new.node ≡ old.node
      → new.binds.items ≡ old.binds.items → place_of nodes (set frames (n - 1) new) ≡ place_of nodes frames
  same_place frames n old new w stands kept =
      let running : Body → Env → Place = λ body env. Running body env (map (caller_of nodes) (reverse w.front)) in
      place_last (set frames (n - 1) new) w.front new w.after ∙ ap (λ k. running (rest nodes k) (env_of new.binds.items)) stands
      ∙ ap (λ (bs : List Bind). running (rest nodes old.node) (env_of bs)) kept
      ∙ sym (place_last frames w.front old w.before)

  pub still_fits : (frames : List Frame) (n : ℕ) (old new : Frame) → Written frames n old new → new.node ≡ old.node → FramesFit nodes frames → FramesFit nodes (set frames (n - 1) new)
  still_fits frames n old new w stands fits =
      let (within, callers) = fits_last frames w.front old w.before fits in
      makes_fit (set frames (n - 1) new) w.front new w.after (subst (λ k. k < length nodes) (sym stands) within) callers

  pub fits_at : (frames : List Frame) (n : ℕ) (old new : Frame) (node : ℕ) → Written frames n old new → new.node ≡ node → node < length nodes → FramesFit nodes frames → FramesFit nodes (set frames (n - 1) new)
  fits_at frames n old new node w stands within fits =
      makes_fit (set frames (n - 1) new) w.front new w.after (subst (λ k. k < length nodes) (sym stands) within) (fits_last frames w.front old w.before fits).1

pub gets_room : (frames : List Frame) (n k : ℕ) (old new : Frame) → Written frames n old new → vec_len new.binds + k ≤ vec_capacity new.binds → HasRoom (set frames (n - 1) new) k
gets_room frames n k old new w room = subst (λ fs. RoomFrom fs k) (sym (ap reverse w.after ∙ reverse-append w.front (new ∷ []))) room

pub room_in : (frames : List Frame) (n k : ℕ) (old new : Frame) → Written frames n old new → HasRoom frames k → vec_len old.binds + k ≤ vec_capacity old.binds
room_in frames n k old new w room = subst (λ fs. RoomFrom fs k) (ap reverse w.before ∙ reverse-append w.front (old ∷ [])) room

pub less_room : (frames : List Frame) (n : ℕ) → HasRoom frames (n + 1) → HasRoom frames n
less_room frames n = go (reverse frames)
  where
    go : (fs : List Frame) → RoomFrom fs (n + 1) → RoomFrom fs n
    go [] room = room
    go (f ∷ fs) room = omega (arith, room)

-- what holds anyhow holds after a failure
pub on_err : {X E : Type 0} (r : Result X E) (P : Type 0) → P → OnErr r P
on_err (Ok x) P p = tt
on_err (Err e) P p = p

-- what a push made, where it succeeded
pub pushed : {X E Y : Type 0} (r : Result X E) (y a b : Y) → IsOk r → y ≡ (if is_ok r then a else b) → y ≡ a
pushed r y a b ok is = is ∙ ap (λ t. if t then a else b) ok

-- tasks of one name, count and place have one act
pub act_same : (program : Parts) (old new : Task) → new.name ≡ old.name → new.forks ≡ old.forks → place_of program.nodes new.frames.items ≡ place_of program.nodes old.frames.items
    → act_in program new ≡ act_in program old
act_same program old new name forks place =
    let act : Name → ℕ → Place → Act = act_of machine (program_of program) in
    ap (λ p. act p new.forks (place_of program.nodes new.frames.items)) name ∙ ap (λ k. act old.name k (place_of program.nodes new.frames.items)) forks ∙ ap (act old.name old.forks) place
