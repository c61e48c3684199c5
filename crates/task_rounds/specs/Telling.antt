-- What the entries of a run tell of its configuration.
use Rattle.std.specs.Prelude.{◌≡◌, ◌⊎◌, ℕ, ℤ, ◌<◌, Bool, true, false, List, [], ◌∷◌, Option, Some, None, is_some}
use Rattle.std.specs.List.{list_any, flat_map}
use Rattle.std.specs.FinMap.{get}
use Rattle.core_language.specs.Names.{Name, child, same_name}
use Rattle.core_language.specs.Values.{Value}
use Rattle.core_language.specs.Configurations.{Config, Task}
use Rattle.core_language.specs.Steps.{Event, Silent, Fork, Send, Recv, Print, End}
use Rattle.core_language.specs.Rounds.{Entry}
use Rattle.task_rounds.specs.Members.{In}

abbrev pub is_fork_of : Name → Event → Bool
is_fork_of c (Fork d) = same_name c d
is_fork_of c Silent = false
is_fork_of c (Send d) = false
is_fork_of c (Recv d) = false
is_fork_of c (Print z) = false
is_fork_of c End = false

abbrev pub is_send_on : Name → Event → Bool
is_send_on c (Send d) = same_name c d
is_send_on c Silent = false
is_send_on c (Fork d) = false
is_send_on c (Recv d) = false
is_send_on c (Print z) = false
is_send_on c End = false

abbrev pub is_receive_on : Name → Event → Bool
is_receive_on c (Recv d) = same_name c d
is_receive_on c Silent = false
is_receive_on c (Fork d) = false
is_receive_on c (Send d) = false
is_receive_on c (Print z) = false
is_receive_on c End = false

-- an entry makes the channel; one sends on it; one receives on it
abbrev pub was_made : Name → List Entry → Bool
was_made c entries = list_any (λ e. is_fork_of c e.event) entries

abbrev pub was_sent : Name → List Entry → Bool
was_sent c entries = list_any (λ e. is_send_on c e.event) entries

abbrev pub was_received : Name → List Entry → Bool
was_received c entries = list_any (λ e. is_receive_on c e.event) entries

-- a channel that isn't there was never made, or was received; an Empty one was only made; a Full one was sent on besides
abbrev pub IsTold : (made sent received : Bool) → Option (Option Value) → Type 0
IsTold made sent received None = ((made ≡ false) × (sent ≡ false) × (received ≡ false)) ⊎ ((made ≡ true) × (sent ≡ true) × (received ≡ true))
IsTold made sent received (Some None) = (made ≡ true) × (sent ≡ false) × (received ≡ false)
IsTold made sent received (Some (Some v)) = (made ≡ true) × (sent ≡ true) × (received ≡ false)

-- how many forks the task has made, where there is one
abbrev pub forks_made : Option Task → ℕ
forks_made None = 0
forks_made (Some t) = t.forks

-- at most one entry has the event
abbrev pub HasOnce : Event → List Entry → Type 0
HasOnce event entries = (e f : Entry) → In e entries → In f entries → e.event ≡ event → f.event ≡ event → e ≡ f

-- what a task prints by an event, with its name
abbrev pub printed_by : Name → Event → List (Name × ℤ)
printed_by p (Print z) = (p, z) ∷ []
printed_by p Silent = []
printed_by p (Fork c) = []
printed_by p (Send c) = []
printed_by p (Recv c) = []
printed_by p End = []

-- the prints that the entries tell, each with the name of its task
abbrev pub named_prints : List Entry → List (Name × ℤ)
named_prints entries = flat_map (λ e. printed_by e.name e.event) entries

-- the entries tell what the configuration is made of, and no name is used twice
pub record Tells (entries : List Entry) (C : Config) : Type 0 where
  pub tasks : (p : Name) (k : ℕ) → is_some (get C.tasks (child p k)) ≡ true → k < forks_made (get C.tasks p)
  pub channels : (p : Name) (k : ℕ) → is_some (get C.channels (child p k)) ≡ true → k < forks_made (get C.tasks p)
  pub made : (p : Name) (k : ℕ) → was_made (child p k) entries ≡ true → k < forks_made (get C.tasks p)
  pub stages : (c : Name) → IsTold (was_made c entries) (was_sent c entries) (was_received c entries) (get C.channels c)
  pub owners : (e : Entry) → In e entries → is_some (get C.tasks e.name) ≡ true
  pub sends : (c : Name) → HasOnce (Send c) entries
  pub receives : (c : Name) → HasOnce (Recv c) entries
  pub prints : C.prints ≡ named_prints entries
