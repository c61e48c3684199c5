-- What a task does next, by the kind of its act.
use Rattle.std.proofs.Common.{◌≡◌, Bool, true, false, nat_eq, if◌then◌else◌, Option, Some, None, refl, sym, ap, ◌∙◌, eq-eqb, ne_eqb}
use Rattle.core_language.specs.Names.{Name}
use Rattle.core_language.specs.Acts.{Act, channel_in}
use Rattle.core_language.specs.Acts as act
use Rattle.core_programs.specs.declared.nodes.Parts.{Parts}
use Rattle.machine_tasks.specs.Kinds.{Kind, Silent, Print, Fork, Send, Recv, End, IsEnded, IsHalted, IsStuck, kind_of}
use Rattle.machine_tasks.specs.Reading.{act_in}
use Rattle.known_tasks.specs.Nexts.{Next, next, next_by}
use Rattle.known_tasks.specs.Nexts as nexts
use Rattle.known_loads.specs.declared.states.State.{State}
use Rattle.known_loads.specs.Reading.{known_of}

abbrev pub at_channel : Option Name → (Name → Next) → Option Next
at_channel (Some c) go = Some (go c)
at_channel None go = None

abbrev pub by_kind : Kind → Option Name → Option Next
by_kind Silent c = Some nexts.Silent
by_kind (Print z) c = Some nexts.Silent
by_kind Fork c = Some nexts.Fork
by_kind Send c = at_channel c nexts.Send
by_kind Recv c = at_channel c nexts.Recv
by_kind End c = Some nexts.End
by_kind IsEnded c = None
by_kind (IsHalted why) c = Some (nexts.Halt why)
by_kind (IsStuck why) c = None

of_kind : (a : Act) → next_by a ≡ by_kind (kind_of a) (channel_in a)
of_kind (act.Silent place) = refl
of_kind (act.Print z place) = refl
of_kind (act.Fork c parent its) = refl
of_kind (act.Send c v place) = refl
of_kind (act.Recv c place) = refl
of_kind act.End = refl
of_kind act.IsEnded = refl
of_kind (act.IsHalted why) = refl
of_kind (act.IsStuck why) = refl

pub looks : (a : Act) (kind : Kind) (go : Name → Next) → kind ≡ kind_of a → ((c : Option Name) → by_kind kind c ≡ at_channel c go) → (n : Next) → next_by a ≡ Some n → (c : Name) × (channel_in a ≡ Some c)
looks a kind go same is n some = by (channel_in a) refl
  where
    by : (o : Option Name) → channel_in a ≡ o → (c : Name) × (channel_in a ≡ Some c)
    by (Some c) there = (c, there)
    by None there =
        let both = sym some ∙ of_kind a ∙ ap (λ k. by_kind k (channel_in a)) (sym same) ∙ is (channel_in a) ∙ ap (λ o. at_channel o go) there in
        let bad : ⊥ = cc in absurd bad

pub spent : (program : Parts) (s : State) → s.time ≡ s.limit → next (known_of (program, s)) ≡ Some nexts.Spent
spent program s same = ap (λ b. if b then Some nexts.Spent else next_by (act_in program s.task)) (eq-eqb s.time s.limit same)

pub early : (program : Parts) (s : State) → (s.time ≡ s.limit → ⊥) → next (known_of (program, s)) ≡ next_by (act_in program s.task)
early program s other = ap (λ b. if b then Some nexts.Spent else next_by (act_in program s.task)) (ne_eqb s.time s.limit other)

-- before the limit it is that of the kind
pub coming : (program : Parts) (s : State) (kind : Kind) → (s.time ≡ s.limit → ⊥) → kind ≡ kind_of (act_in program s.task) → next (known_of (program, s)) ≡ by_kind kind (channel_in (act_in program s.task))
coming program s kind other same = early program s other ∙ of_kind (act_in program s.task) ∙ ap (λ k. by_kind k (channel_in (act_in program s.task))) (sym same)
