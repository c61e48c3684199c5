-- The ownership graph of a configuration: an edge for each end that a task or a channel holds, in order.
use Rattle.std.specs.Prelude.{ℕ, Bool, ◌||◌, ◌==◌, List, [], ◌∷◌, ◌++◌, map, reverse, find, Option, Some, None}
use Rattle.std.specs.List.{flat_map}
use Rattle.std.specs.FinMap.{get, keys}
use Rattle.core_language.specs.Names.{Name, same_name}
use Rattle.core_language.specs.Values.{Value}
use Rattle.core_language.specs.Values as value
use Rattle.core_language.specs.Computing.{Env}
use Rattle.core_language.specs.Configurations.{Place, Running, Ended, Task, Config}
use Rattle.graphs.specs.Graph.{Node, task, channel, same_node, degree}

-- the holder of an end, and the end's channel
abbrev pub Edge : Type 0
Edge = Node Name × Node Name

-- the ends of a value, in its order
abbrev pub value_edges : Node Name → Value → List Edge
value_edges holder (value.Int z) = []
value_edges holder value.Unit = []
value_edges holder (value.Pair a b) = value_edges holder a ++ value_edges holder b
value_edges holder (value.Arm i a) = value_edges holder a
value_edges holder (value.End c) = (holder, channel c) ∷ []

-- those of variables, in the order in which they were bound
abbrev pub env_edges : Node Name → Env → List Edge
env_edges holder env = flat_map (λ b. value_edges holder b.1) env

-- the variables of each frame, from the bottom one, which has no caller, to the top one
abbrev pub frames_of : Place → List Env
frames_of Ended = []
frames_of (Running rest env callers) = reverse (env ∷ map (λ c. c.env) callers)

abbrev pub frames_edges : Node Name → List Env → List Edge
frames_edges holder frames = flat_map (env_edges holder) frames

-- the ends that the task holds, where there is one
abbrev pub task_edges : Name → Option Task → List Edge
task_edges p None = []
task_edges p (Some t) = frames_edges (task p) (frames_of t.place)

-- the ends that the channel holds, where it is there and is Full
abbrev pub channel_edges : Name → Option (Option Value) → List Edge
channel_edges c None = []
channel_edges c (Some None) = []
channel_edges c (Some (Some v)) = value_edges (channel c) v

abbrev pub tasks_edges : Config → List Name → List Edge
tasks_edges C names = flat_map (λ p. task_edges p (get C.tasks p)) names

abbrev pub channels_edges : Config → List Name → List Edge
channels_edges C names = flat_map (λ c. channel_edges c (get C.channels c)) names

-- first those of the tasks and then those of the channels, each in the order of names
abbrev pub edges_of : Config → List Edge
edges_of C = tasks_edges C (keys C.tasks) ++ channels_edges C (keys C.channels)

-- how often the edges count the node: once as a holder, once as a channel
abbrev pub times : List Edge → Node Name → ℕ
times edges n = degree (same_node same_name) n edges

-- by these counts one of the nodes of the edge is counted once
abbrev pub has_single : (Node Name → ℕ) → Edge → Bool
has_single count e = (count e.0 == 1) || (count e.1 == 1)

-- the first of the edges one of whose nodes is counted once on all of them
abbrev pub leaf_of : List Edge → Option Edge
leaf_of edges = find (has_single (times edges)) edges
