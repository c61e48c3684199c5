-- What an act tells of the node at which the task stands, and of the results of its operands.
use Rattle.std.proofs.Common.{◌≡◌, ◌<◌, ℤ, int_le, ℕ, zero, suc, Bool, true, false, if◌then◌else◌, List, [], ◌∷◌, ◌++◌, map, reverse, length, nat_lt, Option, Some, None, IsSome, Result, Ok, Err, IsOk, refl, sym, ap, subst, ◌∙◌, arith}
use Rattle.std.specs.Global.{Vec}
use Rattle.core_language.specs.Names.{Name, child}
use Rattle.core_language.specs.Values as core
use Rattle.core_language.specs.Programs.{Body, Program, arm_at, function_named}
use Rattle.core_language.specs.Programs as body
use Rattle.core_language.specs.Operands.{Pat}
use Rattle.core_language.specs.Computing.{Computed, Done, Sticks, Halts, Depth, Env, machine, all_supplied, sum_of, supplied, value_of}
use Rattle.core_language.specs.Configurations.{Caller, Ended, Place}
use Rattle.core_language.specs.Acts.{Act, act_of, act_at, channel_in, chosen, on_end, on_pair, on_sum, returned, with_result}
use Rattle.core_language.specs.Acts as act
use Rattle.chan_syntax.specs.Reading.{supply_of, term_of}
use Rattle.core_programs.specs.declared.nodes.Arm.{Arm}
use Rattle.core_programs.specs.declared.nodes.Node.{Node}
use Rattle.core_programs.specs.declared.nodes.Parts.{Parts}
use Rattle.core_programs.specs.Bodies.{arms_opened, opened, program_of, rest}
use Rattle.machine_values.specs.declared.computing.Trouble.{Trouble}
use Rattle.machine_values.specs.declared.computing.Trouble.TheVariants as trouble
use Rattle.machine_values.specs.declared.values.Value.{Value}
use Rattle.machine_values.specs.Reading.{env_of}
use Rattle.machine_values.specs.Troubles.{all_made_of, computed_of, made_of}
use Rattle.machine_tasks.specs.declared.tasks.Frame.{Frame}
use Rattle.machine_tasks.specs.declared.tasks.Task.{Task}
use Rattle.machine_tasks.specs.Fits.{EndsIn, IsCall}
use Rattle.machine_tasks.specs.Channels.{channel_named}
use Rattle.machine_tasks.specs.Moving.{IsPrint}
use Rattle.machine_tasks.specs.Reading.{act_in, place_of}
use Rattle.machine_tasks.specs.Sharing.{IsFork, IsRecv, IsSend}
use Rattle.machine_tasks.specs.Steps.{callers_of}
use Rattle.machine_tasks.proofs.Places.{act_here}
use Rattle.core_programs.specs.declared.nodes.Node.TheVariants as node

-- the act of a task whose top frame stands at this node
pub act_there : (program : Parts) (task : Task) (f : Frame) (x y : Node) (top : EndsIn task.frames.items f) → rest program.nodes f.node ≡ opened x (rest program.nodes) → x ≡ y
    → act_in program task ≡ act_at machine (program_of program) task.name task.forks (opened y (rest program.nodes)) (env_of f.binds.items) (callers_of program.nodes top.0)
act_there program task f x y top opens is =
    act_here program.nodes (program_of program) task.name task.forks task.frames.items top.0 f x top.1 opens
    ∙ ap (λ z. act_at machine (program_of program) task.name task.forks (opened z (rest program.nodes)) (env_of f.binds.items) (callers_of program.nodes top.0)) is

-- a task without a frame has ended
pub act_ended : (program : Parts) (task : Task) → task.frames.items ≡ [] → act_in program task ≡ act.IsEnded
act_ended program task none = ap (λ (fs : List Frame). act_of machine (program_of program) task.name task.forks (place_of program.nodes fs)) none

-- acts that need a result have it
pub computed_ok : {A : Type 0} (P : Act → Type 0) → ((why : _) → P (act.IsStuck why) → ⊥) → ((why : _) → P (act.IsHalted why) → ⊥)
    → (r : Result A Trouble) (m : Computed A) (go : A → Act) → computed_of r ≡ m → P (with_result m go) → IsOk r
computed_ok P stuck halted (Ok a) m go is p = refl
computed_ok P stuck halted (Err (trouble.Stuck why)) m go is p = absurd (stuck _ (subst (λ u. P (with_result u go)) (sym is) p))
computed_ok P stuck halted (Err (trouble.Halts why)) m go is p = absurd (halted _ (subst (λ u. P (with_result u go)) (sym is) p))

pub made_ok : (P : Act → Type 0) → ((why : _) → P (act.IsStuck why) → ⊥) → ((why : _) → P (act.IsHalted why) → ⊥)
    → (r : Result Value Trouble) (m : Computed core.Value) (go : core.Value → Act) → made_of r ≡ m → P (with_result m go) → IsOk r
made_ok P stuck halted (Ok a) m go is p = refl
made_ok P stuck halted (Err (trouble.Stuck why)) m go is p = absurd (stuck _ (subst (λ u. P (with_result u go)) (sym is) p))
made_ok P stuck halted (Err (trouble.Halts why)) m go is p = absurd (halted _ (subst (λ u. P (with_result u go)) (sym is) p))

pub all_made_ok : (P : Act → Type 0) → ((why : _) → P (act.IsStuck why) → ⊥) → ((why : _) → P (act.IsHalted why) → ⊥)
    → (r : Result (Vec Value) Trouble) (m : Computed (List core.Value)) (go : List core.Value → Act) → all_made_of r ≡ m → P (with_result m go) → IsOk r
all_made_ok P stuck halted (Ok a) m go is p = refl
all_made_ok P stuck halted (Err (trouble.Stuck why)) m go is p = absurd (stuck _ (subst (λ u. P (with_result u go)) (sym is) p))
all_made_ok P stuck halted (Err (trouble.Halts why)) m go is p = absurd (halted _ (subst (λ u. P (with_result u go)) (sym is) p))

-- what an exchange finds
pub sends_end : (o : Option core.Value) (go : Name → Act) → IsSend (on_end o go) → (c : Name) × (o ≡ Some (core.End c))
sends_end (Some (core.End c)) go s = (c, refl)
sends_end (Some (core.Int z)) go s = absurd s
sends_end (Some core.Unit) go s = absurd s
sends_end (Some (core.Arm i a)) go s = absurd s
sends_end (Some (core.Pair a b)) go s = absurd s
sends_end None go s = absurd s

pub receives_end : (o : Option core.Value) (go : Name → Act) → IsRecv (on_end o go) → (c : Name) × (o ≡ Some (core.End c))
receives_end (Some (core.End c)) go s = (c, refl)
receives_end (Some (core.Int z)) go s = absurd s
receives_end (Some core.Unit) go s = absurd s
receives_end (Some (core.Arm i a)) go s = absurd s
receives_end (Some (core.Pair a b)) go s = absurd s
receives_end None go s = absurd s

-- ---- which node there is

-- what holds of an act without a result, and of each that a result leads to, holds anyhow
module _ (Q : Act → Type 0) (stuck : (why : _) → Q (act.IsStuck why)) (halted : (why : _) → Q (act.IsHalted why)) where
  pub of_result : {A : Type 0} (m : Computed A) (go : A → Act) → ((a : A) → Q (go a)) → Q (with_result m go)
  of_result (Done a) go all = all a
  of_result (Sticks why) go all = stuck why
  of_result (Halts why) go all = halted why

  pub of_end : (o : Option core.Value) (go : Name → Act) → ((c : Name) → Q (go c)) → Q (on_end o go)
  of_end (Some (core.End c)) go all = all c
  of_end (Some (core.Int z)) go all = stuck _
  of_end (Some core.Unit) go all = stuck _
  of_end (Some (core.Arm i a)) go all = stuck _
  of_end (Some (core.Pair a b)) go all = stuck _
  of_end None go all = stuck _

  of_pair : (o : Option core.Value) (go : core.Value → core.Value → Act) → ((a b : core.Value) → Q (go a b)) → Q (on_pair o go)
  of_pair (Some (core.Pair a b)) go all = all a b
  of_pair (Some (core.Int z)) go all = stuck _
  of_pair (Some core.Unit) go all = stuck _
  of_pair (Some (core.Arm i a)) go all = stuck _
  of_pair (Some (core.End c)) go all = stuck _
  of_pair None go all = stuck _

  of_sum : (o : Option core.Value) (go : ℕ → core.Value → Act) → ((i : ℕ) (a : core.Value) → Q (go i a)) → Q (on_sum o go)
  of_sum (Some (core.Arm i a)) go all = all i a
  of_sum (Some (core.Int z)) go all = stuck _
  of_sum (Some core.Unit) go all = stuck _
  of_sum (Some (core.Pair a b)) go all = stuck _
  of_sum (Some (core.End c)) go all = stuck _
  of_sum None go all = stuck _

  pub of_forked : (b : Bool) (c : Name) (mine its : Place) → Q (act.Fork c mine its) → Q (if b then act.Fork c mine its else act.IsHalted Depth)
  of_forked true c mine its fork = fork
  of_forked false c mine its fork = halted _

  module _ (silent : (place : Place) → Q (act.Silent place)) (end : Q act.End) (program : Program) (p : Name) (k : ℕ) (at : ℕ → Body) (env : Env) (callers : List Caller) where
    of_returned : (cs : List Caller) (v : core.Value) → Q (returned cs v)
    of_returned [] v = end
    of_returned (c ∷ cs) v = silent _

    of_chosen : (o : Option (Pat × Body)) (v : core.Value) → Q (chosen o env callers v)
    of_chosen (Some arm) v = silent _
    of_chosen None v = stuck _

    abbrev pub formed : Node → Act
    formed x = act_at machine program p k (opened x at) env callers

    -- four forms are told by themselves, and the others have no act but these
    pub of_form : (R : Node → Type 0) → ((x : Node) → Q (formed x) → R x)
        → ((term : _) (next : _) (span : _) → R (node.Print term next span))
        → ((name : _) (name_at : _) (proto : _) (func : _) (func_at : _) (values : _) (proof : _) (next : _) (span : _) → R (node.Fork name name_at proto func func_at values proof next span))
        → ((channel : _) (channel_at : _) (path : _) (path_at : _) (value : _) (proof : _) (next : _) (span : _) → R (node.Send1 channel channel_at path path_at value proof next span))
        → ((pat : _) (channel : _) (channel_at : _) (path : _) (path_at : _) (proof : _) (next : _) (span : _) → R (node.Recv1 pat channel channel_at path path_at proof next span))
        → (x : Node) → R x
    of_form R lift print fork send receive (node.Print term next span) = print term next span
    of_form R lift print fork send receive (node.Fork name name_at proto func func_at values proof next span) = fork name name_at proto func func_at values proof next span
    of_form R lift print fork send receive (node.Send1 channel channel_at path path_at value proof next span) = send channel channel_at path path_at value proof next span
    of_form R lift print fork send receive (node.Recv1 pat channel channel_at path path_at proof next span) = receive pat channel channel_at path path_at proof next span
    of_form R lift print fork send receive (node.Let name name_at term next span) = lift _ (of_result _ _ (λ z. silent _))
    of_form R lift print fork send receive (node.Mul name name_at left right next span) = lift _ (of_result _ _ (λ z. silent _))
    of_form R lift print fork send receive (node.Div name name_at term divisor divisor_at next span) = lift _ (of_result _ _ (λ z. silent _))
    of_form R lift print fork send receive (node.Rem name name_at term divisor divisor_at next span) = lift _ (of_result _ _ (λ z. silent _))
    of_form R lift print fork send receive (node.Call pat func func_at values proof next span) = lift _ (of_result _ _ (λ vs. silent _))
    of_form R lift print fork send receive (node.Tail func func_at values proof span) = lift _ (of_result _ _ (λ vs. silent _))
    of_form R lift print fork send receive (node.If left right this other span) = lift _
        (of_result {A = ℤ} (sum_of machine env (term_of left)) _ (λ a. of_result {A = ℤ} (sum_of machine env (term_of right)) _
        (λ b. silent (act.at (if◌then◌else◌ {A = Body} (int_le a b) (at this) (at other)) env callers))))
    of_form R lift print fork send receive (node.Split first second name name_at next span) = lift _ (of_pair _ _ (λ a b. silent _))
    of_form R lift print fork send receive (node.Match name name_at arms span) = lift _ (of_sum (value_of env name) _ (λ i a. of_chosen (arm_at (arms_opened arms at) i) a))
    of_form R lift print fork send receive (node.Absurd proof span) = lift _ (stuck _)
    of_form R lift print fork send receive (node.Ret value proof span) = lift _ (of_result _ _ (of_returned callers))

-- a caller stands at a Call
pub at_call : (x : Node) (at : ℕ → Body) → IsCall (opened x at) → ((pat : _) (func : _) (func_at : _) (values : _) (proof : _) (next : _) (span : _) → x ≡ node.Call pat func func_at values proof next span → ⊥) → ⊥
at_call (node.Call pat func func_at values proof next span) at call not = not pat func func_at values proof next span refl
at_call (node.Let name name_at term next span) at call not = call
at_call (node.Mul name name_at left right next span) at call not = call
at_call (node.Div name name_at term divisor divisor_at next span) at call not = call
at_call (node.Rem name name_at term divisor divisor_at next span) at call not = call
at_call (node.Tail func func_at values proof span) at call not = call
at_call (node.Fork name name_at proto func func_at values proof next span) at call not = call
at_call (node.Send1 channel channel_at path path_at value proof next span) at call not = call
at_call (node.Recv1 pat channel channel_at path path_at proof next span) at call not = call
at_call (node.Print term next span) at call not = call
at_call (node.If left right this other span) at call not = call
at_call (node.Split first second name name_at next span) at call not = call
at_call (node.Match name name_at arms span) at call not = call
at_call (node.Absurd proof span) at call not = call
at_call (node.Ret value proof span) at call not = call

-- the act of each of these four forms, where it isn't one of its kind, is none that has a result
module _ (P : Act → Type 0) (stuck : (why : _) → P (act.IsStuck why) → ⊥) (halted : (why : _) → P (act.IsHalted why) → ⊥) (program : Program) (p : Name) (k : ℕ) (at : ℕ → Body) (env : Env) (callers : List Caller) where
  abbrev pub stands : Node → Act
  stands x = act_at machine program p k (opened x at) env callers

  no_print : ((z : ℤ) (place : Place) → P (act.Print z place) → ⊥) → (term : _) (next : _) (span : _) → P (stands (node.Print term next span)) → ⊥
  no_print print term next span = of_result (λ a. P a → ⊥) stuck halted {A = ℤ} (sum_of machine env (term_of term)) _ (λ z. print z (act.at (at next) env callers))

  no_fork : ((c : Name) (a b : Place) → P (act.Fork c a b) → ⊥) → (name : _) (name_at : _) (proto : _) (func : _) (func_at : _) (values : _) (proof : _) (next : _) (span : _) → P (stands (node.Fork name name_at proto func func_at values proof next span)) → ⊥
  no_fork fork name name_at proto func func_at values proof next span =
      of_result (λ a. P a → ⊥) stuck halted {A = List core.Value} (all_supplied machine env (map supply_of values)) _ (λ vs. of_forked (λ a. P a → ⊥) stuck halted (nat_lt (length p) 1024) (child p k)
      (act.at (at next) (act.bound env name (core.End (child p k))) callers) (act.entered (function_named func program.funcs) (core.End (child p k) ∷ vs) []) (fork _ _ _))

  no_send : ((c : Name) (v : core.Value) (a : Place) → P (act.Send c v a) → ⊥) → (channel : _) (channel_at : _) (path : _) (path_at : _) (value : _) (proof : _) (next : _) (span : _) → P (stands (node.Send1 channel channel_at path path_at value proof next span)) → ⊥
  no_send send channel channel_at path path_at value proof next span =
      of_result (λ a. P a → ⊥) stuck halted {A = core.Value} (supplied machine env (supply_of value)) _
      (λ v. of_end (λ a. P a → ⊥) stuck halted (value_of env channel) (λ d. act.Send d v (act.at (at next) env callers)) (λ d. send d v (act.at (at next) env callers)))

  no_receive : ((c : Name) (a : core.Value → Place) → P (act.Recv c a) → ⊥) → (pat : _) (channel : _) (channel_at : _) (path : _) (path_at : _) (proof : _) (next : _) (span : _) → P (stands (node.Recv1 pat channel channel_at path path_at proof next span)) → ⊥
  no_receive receive pat channel channel_at path path_at proof next span =
      let go : core.Value → Place = λ v. act.at (at next) (act.bound env pat.name v) callers in
      of_end (λ a. P a → ⊥) stuck halted (value_of env channel) (λ d. act.Recv d go) (λ d. receive d go)

module _ (program : Program) (p : Name) (k : ℕ) (at : ℕ → Body) (env : Env) (callers : List Caller) (x : Node) where
  -- who prints stands at a Print
  pub at_print : IsPrint (act_at machine program p k (opened x at) env callers) → ((term : _) (next : _) (span : _) → x ≡ node.Print term next span → ⊥) → ⊥
  at_print = of_form (λ a. IsPrint a → ⊥) (λ why q. q) (λ why q. q) (λ place q. q) (λ q. q) program p k at env callers
      (λ y. IsPrint (act_at machine program p k (opened y at) env callers) → ((term : _) (next : _) (span : _) → y ≡ node.Print term next span → ⊥) → ⊥)
      (λ y none q not. none q)
      (λ term next span q not. not term next span refl)
      (λ name name_at proto func func_at values proof next span q not. no_fork IsPrint (λ why r. r) (λ why r. r) program p k at env callers (λ c a b r. r) name name_at proto func func_at values proof next span q)
      (λ channel channel_at path path_at value proof next span q not. no_send IsPrint (λ why r. r) (λ why r. r) program p k at env callers (λ c v a r. r) channel channel_at path path_at value proof next span q)
      (λ pat channel channel_at path path_at proof next span q not. no_receive IsPrint (λ why r. r) (λ why r. r) program p k at env callers (λ c a r. r) pat channel channel_at path path_at proof next span q)
      x

  -- who forks at a Fork
  pub at_fork : IsFork (act_at machine program p k (opened x at) env callers)
      → ((name : _) (name_at : _) (proto : _) (func : _) (func_at : _) (values : _) (proof : _) (next : _) (span : _) → x ≡ node.Fork name name_at proto func func_at values proof next span → ⊥) → ⊥
  at_fork = of_form (λ a. IsFork a → ⊥) (λ why q. q) (λ why q. q) (λ place q. q) (λ q. q) program p k at env callers
      (λ y. IsFork (act_at machine program p k (opened y at) env callers)
      → ((name : _) (name_at : _) (proto : _) (func : _) (func_at : _) (values : _) (proof : _) (next : _) (span : _) → y ≡ node.Fork name name_at proto func func_at values proof next span → ⊥) → ⊥)
      (λ y none q not. none q)
      (λ term next span q not. no_print IsFork (λ why r. r) (λ why r. r) program p k at env callers (λ z place r. r) term next span q)
      (λ name name_at proto func func_at values proof next span q not. not name name_at proto func func_at values proof next span refl)
      (λ channel channel_at path path_at value proof next span q not. no_send IsFork (λ why r. r) (λ why r. r) program p k at env callers (λ c v a r. r) channel channel_at path path_at value proof next span q)
      (λ pat channel channel_at path path_at proof next span q not. no_receive IsFork (λ why r. r) (λ why r. r) program p k at env callers (λ c a r. r) pat channel channel_at path path_at proof next span q)
      x

  -- who sends at a Send1
  pub at_send : IsSend (act_at machine program p k (opened x at) env callers)
      → ((channel : _) (channel_at : _) (path : _) (path_at : _) (value : _) (proof : _) (next : _) (span : _) → x ≡ node.Send1 channel channel_at path path_at value proof next span → ⊥) → ⊥
  at_send = of_form (λ a. IsSend a → ⊥) (λ why q. q) (λ why q. q) (λ place q. q) (λ q. q) program p k at env callers
      (λ y. IsSend (act_at machine program p k (opened y at) env callers)
      → ((channel : _) (channel_at : _) (path : _) (path_at : _) (value : _) (proof : _) (next : _) (span : _) → y ≡ node.Send1 channel channel_at path path_at value proof next span → ⊥) → ⊥)
      (λ y none q not. none q)
      (λ term next span q not. no_print IsSend (λ why r. r) (λ why r. r) program p k at env callers (λ z place r. r) term next span q)
      (λ name name_at proto func func_at values proof next span q not. no_fork IsSend (λ why r. r) (λ why r. r) program p k at env callers (λ c a b r. r) name name_at proto func func_at values proof next span q)
      (λ channel channel_at path path_at value proof next span q not. not channel channel_at path path_at value proof next span refl)
      (λ pat channel channel_at path path_at proof next span q not. no_receive IsSend (λ why r. r) (λ why r. r) program p k at env callers (λ c a r. r) pat channel channel_at path path_at proof next span q)
      x

  -- and who receives at a Recv1
  pub at_receive : IsRecv (act_at machine program p k (opened x at) env callers)
      → ((pat : _) (channel : _) (channel_at : _) (path : _) (path_at : _) (proof : _) (next : _) (span : _) → x ≡ node.Recv1 pat channel channel_at path path_at proof next span → ⊥) → ⊥
  at_receive = of_form (λ a. IsRecv a → ⊥) (λ why q. q) (λ why q. q) (λ place q. q) (λ q. q) program p k at env callers
      (λ y. IsRecv (act_at machine program p k (opened y at) env callers)
      → ((pat : _) (channel : _) (channel_at : _) (path : _) (path_at : _) (proof : _) (next : _) (span : _) → y ≡ node.Recv1 pat channel channel_at path path_at proof next span → ⊥) → ⊥)
      (λ y none q not. none q)
      (λ term next span q not. no_print IsRecv (λ why r. r) (λ why r. r) program p k at env callers (λ z place r. r) term next span q)
      (λ name name_at proto func func_at values proof next span q not. no_fork IsRecv (λ why r. r) (λ why r. r) program p k at env callers (λ c a b r. r) name name_at proto func func_at values proof next span q)
      (λ channel channel_at path path_at value proof next span q not. no_send IsRecv (λ why r. r) (λ why r. r) program p k at env callers (λ c v a r. r) channel channel_at path path_at value proof next span q)
      (λ pat channel channel_at path path_at proof next span q not. not pat channel channel_at path path_at proof next span refl)
      x

  -- only a Send1 and a Recv1 have a channel
  pub channel_none : channel_named x ≡ None → channel_in (act_at machine program p k (opened x at) env callers) ≡ None
  channel_none = of_form (λ a. channel_in a ≡ None) (λ why. refl) (λ why. refl) (λ place. refl) refl program p k at env callers
      (λ y. channel_named y ≡ None → channel_in (act_at machine program p k (opened y at) env callers) ≡ None)
      (λ y none named. none)
      (λ term next span named. of_result (λ a. channel_in a ≡ None) (λ why. refl) (λ why. refl) {A = ℤ} (sum_of machine env (term_of term)) _ (λ z. refl))
      (λ name name_at proto func func_at values proof next span named.
      of_result (λ a. channel_in a ≡ None) (λ why. refl) (λ why. refl) {A = List core.Value} (all_supplied machine env (map supply_of values)) _
      (λ vs. of_forked (λ a. channel_in a ≡ None) (λ why. refl) (λ why. refl) (nat_lt (length p) 1024) _ _ _ refl))
      (λ channel channel_at path path_at value proof next span named. cc)
      (λ pat channel channel_at path path_at proof next span named. cc)
      x

-- who forks has a name that isn't too long
pub forked_short : (b : Bool) (c : Name) (mine its : Place) → IsFork (if b then act.Fork c mine its else act.IsHalted Depth) → b ≡ true
forked_short true c mine its f = refl
forked_short false c mine its f = absurd f
