-- Runs from their start on.
use Rattle.std.proofs.Common.{◌≡◌, ◌≤◌, ◌-◌, ◌+◌, ℕ, suc, Bool, true, false, ◌||◌, List, [], ◌∷◌, length, refl, ap, sym, subst, ◌∙◌, arith}
use Rattle.std.specs.Ordering.{nat_cmp}
use Rattle.std.specs.Cmp.Lexicographic.{slice_cmp}
use Rattle.std.specs.List.Sorted.{IsStrictlySortedBy}
use Rattle.core_language.specs.Names.{Name, same_name}
use Rattle.core_language.specs.Programs.{Program}
use Rattle.core_language.specs.Configurations as core
use Rattle.core_language.specs.Rounds.{Run, round, run_of}
use Rattle.core_programs.specs.declared.nodes.Parts.{Parts}
use Rattle.core_programs.specs.Bodies.{program_of}
use Rattle.machine_rounds.proofs.Rounded.{still_round, still_from}
use Rattle.chan_machine.specs.declared.runs.Run.{Run as Machine}
use Rattle.chan_machine.specs.declared.runs.Queue.{Queue}
use Rattle.chan_machine.specs.declared.runs.Seat.{Seat}
use Rattle.chan_machine.specs.Parking.{names_of, seats, waits}
use Rattle.chan_machine.specs.Turning.{Parked, run_as}
use Rattle.chan_machine.proofs.Turned.{made}

pub next_run : (program : Program) (t : ℕ) (run : Run) → run ≡ run_of program t → round program (suc t) run ≡ run_of program (suc t)
unfolding run_of
next_run program t run is = ap (round program (suc t)) is

pub first_run : (program : Program) (D : core.Config) → D ≡ core.start program → made D [] ≡ run_of program 0
unfolding run_of
first_run program D is = ap (λ E. made E []) is

-- one seat alone, that of `main`
pub only_main : (xs : List Seat) (s : Seat) → xs ≡ s ∷ [] → s.name ≡ [] → (q : Name) → seats xs q ≡ false → same_name q [] ≡ false
only_main xs s alone main q out = ap (same_name q) (sym main) ∙ by (same_name q s.name) (ap (λ zs. seats zs q) (sym alone) ∙ out)
  where
    by : (b : Bool) → (b || false) ≡ false → b ≡ false
    by true e = e
    by false e = refl

pub one_ascends : (xs : List Seat) (s : Seat) → xs ≡ s ∷ [] → IsStrictlySortedBy (slice_cmp nat_cmp) (names_of xs)
unfolding IsStrictlySortedBy
one_ascends xs s alone = subst (λ zs. IsStrictlySortedBy (slice_cmp nat_cmp) (names_of zs)) (sym alone) (tt, tt)

pub no_seats : (xs : List Seat) → length xs ≡ 0 → xs ≡ []
no_seats [] e = refl
no_seats (x ∷ xs) e = let bad : ⊥ = omega arith in absurd bad

-- all rounds are made
pub at_last : (program : Program) (t u : ℕ) (run : Run) → t ≡ u → run ≡ run_of program t → run ≡ run_of program u
at_last program t u run same_time is = is ∙ ap (run_of program) same_time

-- nobody is ready: no round to come changes anything
pub at_rest : (program : Parts) (t u : ℕ) (run : Machine) (queue : Queue) → t ≤ u → run_as program run ≡ run_of (program_of program) t → queue.ready.items ≡ []
    → Parked program run (seats queue.ready.items) queue.waiting → run_as program run ≡ run_of (program_of program) u
at_rest program t u run queue less is none parked =
    let apart : u ≡ (u - t) + t = omega arith in
    is ∙ sym (still_from (program_of program) (u - t) t u apart (λ time. ap (round (program_of program) time) (sym is)
    ∙ still_round (program_of program) time (run_as program run) (seats queue.ready.items) (waits queue.waiting) nobody parked ∙ is))
  where
    nobody : (q : Name) → seats queue.ready.items q ≡ false
    nobody q = ap (λ xs. seats xs q) none

pub first_off : (a b : Bool) → (a || b) ≡ false → a ≡ false
first_off true b e = e
first_off false b e = refl
