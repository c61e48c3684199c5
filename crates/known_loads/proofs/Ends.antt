-- The ends of a task pass just the tests that all members of their list pass.
use Rattle.std.proofs.Common.{◌≡◌, ◌⊎◌, ℕ, Bool, true, false, ◌||◌, ◌&&◌, nat_eq, List, [], ◌∷◌, ◌++◌, inl, inr, ⊎_elim, refl, sym, ap, subst, ◌∙◌, eqb-true, eq-eqb}
use Rattle.std.specs.List.{AllByRecursion}
use Rattle.std.proofs.lemmas.List.Elements.{All-from_recursion, recursion_from_All}
use Rattle.core_language.specs.Names.{Name, same_name}
use Rattle.machine_rounds.proofs.Rounded.{same-is, same-self}
use Rattle.cell_rules.specs.Lists.{In}
use Rattle.cell_rules.proofs.Totals.{In-append, In-left, In-right}
use Rattle.machine_values.specs.Cells.{Celled, Int, Unit, Pair, Arm, End, EndTest, Passes}
use Rattle.machine_values.specs.Ends.{BindsPass, ValuePasses}
use Rattle.machine_values.specs.Reading.{celled_of}
use Rattle.machine_values.specs.declared.values.Channel.{Channel}
use Rattle.machine_values.specs.declared.values.Value.{Value}
use Rattle.machine_values.specs.declared.binds.Bind.{Bind}
use Rattle.machine_tasks.specs.Ends.{FramePasses, TaskPasses}
use Rattle.machine_tasks.specs.declared.tasks.Frame.{Frame}
use Rattle.machine_tasks.specs.declared.tasks.Task.{Task}
use Rattle.machine_tasks.specs.Steps.{IsUnmoved}
use Rattle.machine_tasks.proofs.Unmoved.{unmoved_passes}
use Rattle.known_loads.specs.Ends.{ends_in, value_ends, bind_ends, frame_ends, task_ends}

-- ---- the test of the members of a list

abbrev pub among : List (ℕ × Name) → EndTest
among [] c m = false
among (x ∷ xs) c m = (nat_eq x.0 m && same_name x.1 c) || among xs c m

pub in_among : (e : ℕ × Name) (xs : List (ℕ × Name)) → In e xs → among xs e.1 e.0 ≡ true
in_among e [] h = absurd h
in_among e (x ∷ xs) h = ⊎_elim
    (λ is. subst (λ (y : ℕ × Name). among (y ∷ xs) e.1 e.0 ≡ true) is (ap (λ b. (b && same_name e.1 e.1) || among xs e.1 e.0) (nat_self e.0) ∙ ap (λ b. b || among xs e.1 e.0) (same-self e.1)))
    (λ t. ap (λ b. (nat_eq x.0 e.0 && same_name x.1 e.1) || b) (in_among e xs t) ∙ or_true (nat_eq x.0 e.0 && same_name x.1 e.1)) h
  where
    nat_self : (n : ℕ) → nat_eq n n ≡ true
    nat_self n = eq-eqb n n refl

    or_true : (b : Bool) → (b || true) ≡ true
    or_true true = refl
    or_true false = refl

pub among_in : (c : Name) (m : ℕ) (xs : List (ℕ × Name)) → among xs c m ≡ true → In (m, c) xs
among_in c m [] h = let bad : ⊥ = cc in absurd bad
among_in c m (x ∷ xs) h = by (nat_eq x.0 m) (same_name x.1 c) refl refl h (among_in c m xs)
  where
    by : (a b : Bool) → nat_eq x.0 m ≡ a → same_name x.1 c ≡ b → ((a && b) || among xs c m) ≡ true → (among xs c m ≡ true → In (m, c) xs) → In (m, c) (x ∷ xs)
    by true true p q h later = inl (λ i. (sym (eqb-true x.0 m p) i, sym (same-is x.1 c q) i))
    by true false p q h later = inr (later h)
    by false b p q h later = inr (later h)

-- ---- what passes a test

module _ (test : EndTest) where
  -- each member of the list passes
  abbrev pub AllPass : List (ℕ × Name) → Type 0
  AllPass xs = (e : ℕ × Name) → In e xs → test e.1 e.0 ≡ true

  both_pass : (xs ys : List (ℕ × Name)) → AllPass xs → AllPass ys → AllPass (xs ++ ys)
  both_pass xs ys p q e h = ⊎_elim (p e) (q e) (In-append e xs ys h)

  celled_all : (v : Celled) → Passes test v → AllPass (ends_in v)
  celled_all (Int z) p e h = absurd h
  celled_all Unit p e h = absurd h
  celled_all (Pair a b) p e h = both_pass (ends_in a) (ends_in b) (celled_all a p.0) (celled_all b p.1) e h
  celled_all (Arm i a) p e h = celled_all a p e h
  celled_all (End c cell) p e h = ⊎_elim (λ is. ap (λ (x : ℕ × Name). test x.1 x.0) is ∙ p) (λ t. absurd t) h

  all_celled : (v : Celled) → AllPass (ends_in v) → Passes test v
  all_celled (Int z) p = tt
  all_celled Unit p = tt
  all_celled (Pair a b) p = (all_celled a (λ e h. p e (In-left e (ends_in a) (ends_in b) h)), all_celled b (λ e h. p e (In-right e (ends_in a) (ends_in b) h)))
  all_celled (Arm i a) p = all_celled a p
  all_celled (End c cell) p = p (cell, c) (inl refl)

  binds_all : (bs : List Bind) → AllByRecursion (λ b. ValuePasses test b.value) bs → AllPass (bind_ends bs)
  binds_all [] p e h = absurd h
  binds_all (b ∷ bs) p e h = both_pass (value_ends b.value) (bind_ends bs) (celled_all (celled_of b.value) p.0) (binds_all bs p.1) e h

  all_binds : (bs : List Bind) → AllPass (bind_ends bs) → AllByRecursion (λ b. ValuePasses test b.value) bs
  all_binds [] p = tt
  all_binds (b ∷ bs) p = (all_celled (celled_of b.value) (λ e h. p e (In-left e (value_ends b.value) (bind_ends bs) h)), all_binds bs (λ e h. p e (In-right e (value_ends b.value) (bind_ends bs) h)))

  frames_all : (fs : List Frame) → AllByRecursion (FramePasses test) fs → AllPass (frame_ends fs)
  frames_all [] p e h = absurd h
  frames_all (f ∷ fs) p e h = both_pass (bind_ends f.binds.items) (frame_ends fs) (binds_all f.binds.items (recursion_from_All (λ b. ValuePasses test b.value) f.binds.items p.0)) (frames_all fs p.1) e h

  all_frames : (fs : List Frame) → AllPass (frame_ends fs) → AllByRecursion (FramePasses test) fs
  all_frames [] p = tt
  all_frames (f ∷ fs) p = (
    All-from_recursion (λ b. ValuePasses test b.value) f.binds.items (all_binds f.binds.items (λ e h. p e (In-left e (bind_ends f.binds.items) (frame_ends fs) h))),
    all_frames fs (λ e h. p e (In-right e (bind_ends f.binds.items) (frame_ends fs) h)),
  )

  pub value_all : (v : Value) → ValuePasses test v → AllPass (value_ends v)
  value_all v p = celled_all (celled_of v) p

  pub all_value : (v : Value) → AllPass (value_ends v) → ValuePasses test v
  all_value v p = all_celled (celled_of v) p

  pub task_all : (t : Task) → TaskPasses test t → AllPass (task_ends t)
  task_all t p = frames_all t.frames.items (recursion_from_All (FramePasses test) t.frames.items p)

  pub all_task : (t : Task) → AllPass (task_ends t) → TaskPasses test t
  all_task t p = All-from_recursion (FramePasses test) t.frames.items (all_frames t.frames.items p)

-- ---- lists of ends

-- each of a task's ends is one of these
abbrev pub Within : List (ℕ × Name) → List (ℕ × Name) → Type 0
Within xs ys = (e : ℕ × Name) → In e xs → In e ys

all_among : (xs ys : List (ℕ × Name)) → Within xs ys → AllPass (among ys) xs
all_among xs ys within e h = in_among e ys (within e h)

pub task_passes : (t : Task) (ys : List (ℕ × Name)) → Within (task_ends t) ys → TaskPasses (among ys) t
task_passes t ys within = all_task (among ys) t (all_among (task_ends t) ys within)

pub value_passes : (v : Value) (ys : List (ℕ × Name)) → Within (value_ends v) ys → ValuePasses (among ys) v
value_passes v ys within = all_value (among ys) v (all_among (value_ends v) ys within)

pub task_within : (t : Task) (ys : List (ℕ × Name)) → TaskPasses (among ys) t → Within (task_ends t) ys
task_within t ys p e h = among_in e.1 e.0 ys (task_all (among ys) t p e h)

pub value_within : (v : Value) (ys : List (ℕ × Name)) → ValuePasses (among ys) v → Within (value_ends v) ys
value_within v ys p e h = among_in e.1 e.0 ys (value_all (among ys) v p e h)

-- what keeps every test keeps the list
pub task_keeps : (old new : Task) (more : List (ℕ × Name)) → ((test : EndTest) → AllPass test more → TaskPasses test old → TaskPasses test new) → Within (task_ends new) (more ++ task_ends old)
task_keeps old new more keeps =
    let ys = more ++ task_ends old in
    task_within new ys (keeps (among ys) (all_among more ys (λ e h. In-left e more (task_ends old) h)) (task_passes old ys (λ e h. In-right e more (task_ends old) h)))

pub value_keeps : (old : Task) (v : Value) → ((test : EndTest) → TaskPasses test old → ValuePasses test v) → Within (value_ends v) (task_ends old)
value_keeps old v keeps = value_within v (task_ends old) (keeps (among (task_ends old)) (task_passes old (task_ends old) (λ e h. h)))

-- a task that didn't move has the ends that it had
pub unmoved_ends : (old new : Task) → IsUnmoved old new → Within (task_ends new) (task_ends old)
unmoved_ends old new u = task_within new (task_ends old) (unmoved_passes (among (task_ends old)) old new u (task_passes old (task_ends old) (λ e h. h)))

-- an end of which each test that the task passes tells is one of its ends
pub end_in : (t : Task) (c : Channel) → ((test : EndTest) → TaskPasses test t → test c.name c.cell.0 ≡ true) → In (c.cell.0, c.name) (task_ends t)
end_in t c tells = among_in c.name c.cell.0 (task_ends t) (tells (among (task_ends t)) (task_passes t (task_ends t) (λ e h. h)))
