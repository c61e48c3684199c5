-- The numbers that a known task tells are those of what it did.
use Rattle.std.proofs.Common.{◌≡◌, ◌⊎◌, inl, inr, ⊎_elim, ℕ, List, [], ◌∷◌, ◌++◌, map, Option, Some, None, refl, sym, ap, subst, ◌∙◌}
use Rattle.core_language.specs.Names.{Name}
use Rattle.core_language.specs.Acts as act
use Rattle.core_language.specs.Steps as steps
use Rattle.core_language.specs.Rounds.{Entry}
use Rattle.core_programs.specs.declared.nodes.Parts.{Parts}
use Rattle.cell_rules.specs.Lists.{In}
use Rattle.cell_rules.proofs.Totals.{In-append, In-left, In-right}
use Rattle.machine_values.specs.Reading.{value_as}
use Rattle.machine_tasks.specs.Reading.{act_in}
use Rattle.task_rounds.specs.Members as member
use Rattle.gathered_runs.specs.Closing.{HasShown, HasTaken}
use Rattle.known_loads.specs.declared.notes.Deed.{Deed}
use Rattle.known_loads.specs.declared.notes.Deed.TheVariants as deed
use Rattle.known_loads.specs.declared.notes.Note.{Note}
use Rattle.known_loads.specs.declared.states.Late.{Late}
use Rattle.known_loads.specs.declared.states.State.{State}
use Rattle.known_loads.specs.Ends.{task_ends}
use Rattle.known_loads.specs.Following.{Waits}
use Rattle.known_loads.specs.Holding.{Holds}
use Rattle.known_loads.specs.Meaning.{forked_by, sent_by, received_by, noted, late_channel, numbered, forks, sends, receives, mentions, numbers}
use Rattle.known_loads.specs.Reading.{event_of, entry_of, known_of, late_value}

-- ---- one deed

forks_on : (d : Deed) (c : Name) → event_of d ≡ steps.Fork c → (m : ℕ) × In (m, c) (forked_by d)
forks_on (deed.Fork channel) c is = let same : channel.name ≡ c = cc in (channel.cell.0, inl (λ i. (channel.cell.0, sym same i)))
forks_on (deed.Send channel) c is = let bad : ⊥ = cc in absurd bad
forks_on (deed.Recv channel) c is = let bad : ⊥ = cc in absurd bad
forks_on (deed.Print number) c is = let bad : ⊥ = cc in absurd bad
forks_on deed.End c is = let bad : ⊥ = cc in absurd bad

sends_on : (d : Deed) (c : Name) → event_of d ≡ steps.Send c → (m : ℕ) × In (m, c) (sent_by d)
sends_on (deed.Send channel) c is = let same : channel.name ≡ c = cc in (channel.cell.0, inl (λ i. (channel.cell.0, sym same i)))
sends_on (deed.Fork channel) c is = let bad : ⊥ = cc in absurd bad
sends_on (deed.Recv channel) c is = let bad : ⊥ = cc in absurd bad
sends_on (deed.Print number) c is = let bad : ⊥ = cc in absurd bad
sends_on deed.End c is = let bad : ⊥ = cc in absurd bad

receives_on : (d : Deed) (m : ℕ) (c : Name) → In (m, c) (received_by d) → event_of d ≡ steps.Recv c
receives_on (deed.Recv channel) m c h = ⊎_elim (λ is. ap (λ (e : ℕ × Name). steps.Recv e.1) (sym is)) (λ b. absurd b) h
receives_on (deed.Fork channel) m c h = absurd h
receives_on (deed.Send channel) m c h = absurd h
receives_on (deed.Print number) m c h = absurd h
receives_on deed.End m c h = absurd h

-- ---- all deeds of a task

told : (name : Name) (reads : Deed → List (ℕ × Name)) (event : steps.Event) (c : Name) → ((d : Deed) → event_of d ≡ event → (m : ℕ) × In (m, c) (reads d))
    → (notes : List Note) (e : Entry) → member.In e (map (entry_of name) notes) → e.event ≡ event → (m : ℕ) × In (m, c) (noted reads notes)
told name reads event c one [] e h is = absurd h
told name reads event c one (n ∷ ns) e h is = ⊎_elim
    (λ same. let (m, here) = one n.deed (sym (ap (λ (x : Entry). x.event) same) ∙ is) in (m, In-left (m, c) (reads n.deed) (noted reads ns) here))
    (λ t. let (m, there) = told name reads event c one ns e t is in (m, In-right (m, c) (reads n.deed) (noted reads ns) there)) h

shown : (name : Name) (m : ℕ) (c : Name) (notes : List Note) → In (m, c) (noted received_by notes) → (e : Entry) × member.In e (map (entry_of name) notes) × (e.event ≡ steps.Recv c)
shown name m c [] h = absurd h
shown name m c (n ∷ ns) h = ⊎_elim
    (λ a. (entry_of name n, inl refl, receives_on n.deed m c a))
    (λ b. let (e, there, is) = shown name m c ns b in (e, inr there, is)) (In-append (m, c) (received_by n.deed) (noted received_by ns) h)

pub of_numbers : (m : ℕ) (xs : List (ℕ × Name)) → In m (numbers xs) → (c : Name) × In (m, c) xs
of_numbers m [] h = absurd h
of_numbers m (x ∷ xs) h = ⊎_elim (λ is. (x.1, inl (λ i. (is i, x.1)))) (λ t. let (c, there) = of_numbers m xs t in (c, inr there)) h

in_numbers : (e : ℕ × Name) (xs : List (ℕ × Name)) → In e xs → In e.0 (numbers xs)
in_numbers e [] h = absurd h
in_numbers e (x ∷ xs) h = ⊎_elim (λ is. inl (ap (λ (y : ℕ × Name). y.0) is)) (λ t. inr (in_numbers e xs t)) h

-- ---- what a task tells

module _ (k : Parts × State) where
  forks_in : (e : ℕ × Name) → In e (forks k.1) → In e (mentions k.1)
  forks_in e h = inr (In-right e (task_ends k.1.task) (forks k.1 ++ (sends k.1 ++ receives k.1)) (In-left e (forks k.1) (sends k.1 ++ receives k.1) h))

  sends_in : (e : ℕ × Name) → In e (sends k.1) → In e (mentions k.1)
  sends_in e h = inr (In-right e (task_ends k.1.task) (forks k.1 ++ (sends k.1 ++ receives k.1)) (In-right e (forks k.1) (sends k.1 ++ receives k.1) (In-left e (sends k.1) (receives k.1) h)))

  receives_in : (e : ℕ × Name) → In e (receives k.1) → In e (mentions k.1)
  receives_in e h = inr (In-right e (task_ends k.1.task) (forks k.1 ++ (sends k.1 ++ receives k.1)) (In-right e (forks k.1) (sends k.1 ++ receives k.1) (In-right e (sends k.1) (receives k.1) h)))

  pub tells_fork : (c : Name) → HasShown (known_of k) (steps.Fork c) → (m : ℕ) × In m (numbers (forks k.1)) × In (m, c) (mentions k.1)
  tells_fork c h =
      let (m, here) = told k.1.task.name forked_by (steps.Fork c) c (λ d same. forks_on d c same) k.1.notes.items h.0 h.1 h.2 in
      (m, in_numbers (m, c) (forks k.1) here, forks_in (m, c) here)

  pub tells_send : (c : Name) → HasShown (known_of k) (steps.Send c) → (m : ℕ) × In m (numbers (sends k.1)) × In (m, c) (mentions k.1)
  tells_send c h =
      let (m, here) = told k.1.task.name sent_by (steps.Send c) c (λ d same. sends_on d c same) k.1.notes.items h.0 h.1 h.2 in
      (m, in_numbers (m, c) (sends k.1) here, sends_in (m, c) here)

  kept : (m : ℕ) (c : Name) (o : Option Late) → k.1.late ≡ o → ((l : Late) → k.1.late ≡ Some l → Waits k.0 k.1 l) → In (m, c) (late_channel o) → HasTaken (known_of k) c
  kept m c None is waits h = absurd h
  kept m c (Some l) is waits h = ⊎_elim
      (λ same. let w = waits l is in
      inr (value_as l.value, w.0, w.1 ∙ ap (λ (e : ℕ × Name). act.Recv e.1 w.0) (sym same), ap (λ (x : Option Late). late_value x) is))
      (λ b. absurd b) h

  pub tells_receive : Holds k → (m : ℕ) → In m (numbers (receives k.1)) → (c : Name) × In (m, c) (mentions k.1) × HasTaken (known_of k) c
  tells_receive holds m h =
      let (c, there) = of_numbers m (receives k.1) h in
      (c, receives_in (m, c) there, ⊎_elim (λ a. inl (shown k.1.task.name m c k.1.notes.items a)) (λ b. kept m c k.1.late refl holds.late b) (In-append (m, c) (noted received_by k.1.notes.items) (late_channel k.1.late) there))
