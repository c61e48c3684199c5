-- Channels that are written, and a child beside its parent.
use Rattle.std.proofs.Common.{◌≡◌, ◌+◌, ◌++◌, ◌∷◌, [], List, length, arith, ℕ, Bool, true, false, cond, Option, Some, None, refl, ap, subst, sym, ◌∙◌}
use Rattle.std.specs.Prelude.{IfSome}
use Rattle.std.specs.Option.{option_map}
use Rattle.std.specs.Ordering.{nat_cmp, eq_by_cmp}
use Rattle.std.specs.Cmp.Lexicographic.{slice_cmp, nat_list_cmp_total}
use Rattle.std.proofs.lemmas.Map.Lookups.{exact_bytes}
use Rattle.std.proofs.lemmas.Cmp.{eq_by_cmp_equiv}
use Rattle.std.proofs.lemmas.List.{length-append}
use Rattle.std.specs.FinMap.{empty, get, get-empty, insert, get-insert, same_map, slice_cmp-IsAntisymmetric, nat_cmp-IsAntisymmetric}
use Rattle.std.specs.BTreeMap.{BTreeMap, Updates, get as looked_up}
use Rattle.core_language.specs.Names.{Name, NameMap}
use Rattle.core_language.specs.Configurations as core
use Rattle.core_programs.specs.declared.nodes.Parts.{Parts}
use Rattle.machine_tasks.specs.declared.tasks.Task.{Task}
use Rattle.machine_tasks.specs.Fits.{FramesFit}
use Rattle.machine_tasks.specs.Reading.{task_of}
use Rattle.std.proofs.lemmas.List.Elements.{All-head, All-tail}
use Rattle.task_tables.specs.Tables.{tasks_of}
use Rattle.task_tables.proofs.Reading.{get-tasks_of, holds_put, insert-tasks_of}
use Rattle.chan_machine.specs.Reading.{put_by_name, tasks_named}
use Rattle.machine_values.specs.declared.values.Value.{Value}
use Rattle.machine_values.specs.Cells.{EndTest}
use Rattle.machine_values.specs.Ends.{ValuePasses}
use Rattle.chan_machine.specs.Ends.{ChannelsPass}
use Rattle.chan_machine.specs.Fits.{AllFit, TasksFit}
use Rattle.chan_machine.proofs.Maps.{equal_from}

pub channels_put : (test : EndTest) (m n : BTreeMap Name (Option Value)) (k : Name) (w : Option Value) → ChannelsPass test m → Updates (slice_cmp nat_cmp) m n k (Some w) → IfSome w (ValuePasses test) → ChannelsPass test n
channels_put test m n k w passes put one c v found = by (eq_by_cmp (slice_cmp nat_cmp) k c) (sym (put.0 c) ∙ found)
  where
    by : (b : Bool) → cond b (Some w) (looked_up (slice_cmp nat_cmp) m c) ≡ Some (Some v) → ValuePasses test v
    by true is = let same : w ≡ Some v = cc in subst (λ o. IfSome o (ValuePasses test)) same one
    by false is = passes c v is

pub channels_taken : (test : EndTest) (m n : BTreeMap Name (Option Value)) (k : Name) → ChannelsPass test m → Updates (slice_cmp nat_cmp) m n k None → ChannelsPass test n
channels_taken test m n k passes put c v found = by (eq_by_cmp (slice_cmp nat_cmp) k c) (sym (put.0 c) ∙ found)
  where
    by : (b : Bool) → cond b None (looked_up (slice_cmp nat_cmp) m c) ≡ Some (Some v) → ValuePasses test v
    by true is = let bad : ⊥ = cc in absurd bad
    by false is = passes c v is

-- the name of a child is another one
pub child_other : (p c : Name) (k : ℕ) → c ≡ p ++ k ∷ [] → eq_by_cmp (slice_cmp nat_cmp) c p ≡ false
child_other p c k is = by (eq_by_cmp (slice_cmp nat_cmp) c p) refl
  where
    by : (b : Bool) → eq_by_cmp (slice_cmp nat_cmp) c p ≡ b → eq_by_cmp (slice_cmp nat_cmp) c p ≡ false
    by true e =
        let same : length (p ++ k ∷ []) ≡ length p = ap length (sym is ∙ exact_bytes c p (equal_from (slice_cmp nat_cmp c p) e)) in
        let long : length (p ++ k ∷ []) ≡ length p + 1 = length-append p (k ∷ []) in
        absurd (omega (arith, same, long))
    by false e = e

-- what is said of the task under another name stays so
pub other_kept : (m n : NameMap Task) (c p : Name) (v : Task) → n ≡ insert m c v → eq_by_cmp (slice_cmp nat_cmp) c p ≡ false → get n p ≡ get m p
other_kept m n c p v put off = ap (λ x. get x p) put ∙ get-insert nat_list_cmp_total m c v p
    ∙ ap (λ b. cond b (Some v) (get m p)) ((eq_by_cmp_equiv nat_list_cmp_total).symm p c ∙ off)

-- two names that differ are put in either order
pub put_swapped : {X : Type 0} (m : NameMap X) (p c : Name) (x y : X) → eq_by_cmp (slice_cmp nat_cmp) c p ≡ false → insert (insert m p x) c y ≡ insert (insert m c y) p x
put_swapped m p c x y off = same_map nat_list_cmp_total (slice_cmp-IsAntisymmetric nat_cmp-IsAntisymmetric) _ _ (λ q.
    get-insert nat_list_cmp_total (insert m p x) c y q ∙ ap (cond (eq_by_cmp (slice_cmp nat_cmp) q c) (Some y)) (get-insert nat_list_cmp_total m p x q)
    ∙ by q (eq_by_cmp (slice_cmp nat_cmp) q c) (eq_by_cmp (slice_cmp nat_cmp) q p) refl refl
    ∙ sym (get-insert nat_list_cmp_total (insert m c y) p x q ∙ ap (cond (eq_by_cmp (slice_cmp nat_cmp) q p) (Some x)) (get-insert nat_list_cmp_total m c y q)))
  where
    by : (q : Name) (a b : Bool) → eq_by_cmp (slice_cmp nat_cmp) q c ≡ a → eq_by_cmp (slice_cmp nat_cmp) q p ≡ b
        → cond a (Some y) (cond b (Some x) (get m q)) ≡ cond b (Some x) (cond a (Some y) (get m q))
    by q true true e f =
        let same : eq_by_cmp (slice_cmp nat_cmp) q p ≡ false = ap (λ r. eq_by_cmp (slice_cmp nat_cmp) r p) (exact_bytes q c (equal_from (slice_cmp nat_cmp q c) e)) ∙ off in
        let both : true ≡ false = sym f ∙ same in cc
    by q true false e f = refl
    by q false true e f = refl
    by q false false e f = refl

-- ---- tasks put in turn

pub empty_read : (program : Parts) → tasks_of program empty ≡ empty
empty_read program = same_map nat_list_cmp_total (slice_cmp-IsAntisymmetric nat_cmp-IsAntisymmetric) _ _ (λ q.
    get-tasks_of program empty q ∙ ap (option_map (task_of program.nodes)) (get-empty (slice_cmp nat_cmp) q) ∙ sym (get-empty (slice_cmp nat_cmp) q))

pub named_read : (program : Parts) (ts : List Task) → tasks_of program (put_by_name ts) ≡ tasks_named program ts
named_read program [] = empty_read program
named_read program (t ∷ ts) = insert-tasks_of program (put_by_name ts) t.name t ∙ ap (λ m. insert m t.name (task_of program.nodes t)) (named_read program ts)

pub named_fit : (program : Parts) (ts : List Task) → AllFit program ts → TasksFit program (put_by_name ts)
named_fit program [] fit = λ p t found. let both = sym (get-empty (slice_cmp nat_cmp) p) ∙ found in let bad : ⊥ = cc in absurd bad
named_fit program (t ∷ ts) fit = holds_put (λ q (u : Task). (u.name ≡ q) × FramesFit program.nodes u.frames.items) (put_by_name ts) t.name t
    (refl, All-head (λ (u : Task). FramesFit program.nodes u.frames.items) t ts fit)
    (named_fit program ts (All-tail (λ (u : Task). FramesFit program.nodes u.frames.items) t ts fit))
