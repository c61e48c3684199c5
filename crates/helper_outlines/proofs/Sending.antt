-- A helper is outlined.
use Rattle.std.proofs.Common.{◌≡◌, ℕ, suc, ◌+◌, Bool, true, false, not, ◌&&◌, nat_le, codes, List, [], ◌∷◌, ◌++◌, length, map, flat_map, Option, Some, None, Result, Ok, refl, sym, ap, ◌∙◌, subst, append-nil, arith}
use Rattle.std.proofs.lemmas.Bool.Decides.{nat_tests}
use Rattle.farkas_check.specs.declared.cert.Row.{Row}
use Rattle.core_language.specs.Names.{Ident}
use Rattle.core_language.specs.Resources as written
use Rattle.core_language.specs.Operands.{Proof, Supply}
use Rattle.core_language.specs.Operands as supply
use Rattle.core_language.specs.Programs.{Body, Send1, Ret, Function, Program}
use Rattle.outline_language.specs.LinearForms.{LinearForm}
use Rattle.outline_language.specs.Nameless.{Ref, Limit, Shape, Res, Unit as UnitShape, End, Pair, Binds, has_end, limit_with, forms_of_limit, nameless_shape, nameless_res}
use Rattle.outline_language.specs.Contexts.{Why, WrongForm, InstanceCount, CertCount, Left, Context, Entry, Cursor, Supplied, and_then, or_why, provided, nothing, entry_named, take, take_instances, oblige_all, instances, put_in_shape, leftovers, nothing_left, start, start_of, Taken}
use Rattle.outline_language.specs.Giving.{Given, accept, give, give_shape, give_variable, at_res, pair_of}
use Rattle.outline_language.specs.Paths.{Message, Followed, Unfolded, unfolded, follow, is_path, message_at}
use Rattle.outline_language.specs.Equations.{Sends, bare, sends}
use Rattle.outline_language.specs.Rules.{Opened, opened, end_of, rule_send, rule_ret}
use Rattle.outline_language.specs.Outlined.{Meets, OutlinedBody, OutlinedFunction, own_result}
use Rattle.helper_outlines.specs.Helpers.{hypotheses_from, named, variable, no_proof, unbound, IsBinder, IsHelper, HelpersAreOutlined}
use Rattle.helper_outlines.proofs.Steps.{chain, there, holds}
use Rattle.helper_outlines.proofs.Standing.{Standing, cursor_at, obliges_all, ObligesAll}
use Rattle.helper_outlines.proofs.Alike.{accepts_itself}
use Rattle.helper_outlines.proofs.Ways.{Follows, follows_way}
use Rattle.helper_outlines.proofs.Instances.{three, no_entry, takes_binders}

-- ---- what a helper has

abbrev in_context : (P : Program) (f : Function) → IsHelper P f → (end_held channel_held value_held : Bool) → Context
in_context P f h a b c = record { ints = f.bound.names; hyps = (start f).hyps; entries = three (End h.rest) (End h.own) h.value a b c }

abbrev all_rows : (P : Program) (f : Function) → IsHelper P f → List Row
all_rows P f h = h.path_rows ++ h.message_rows

abbrev its_proof : (P : Program) (f : Function) → IsHelper P f → Proof
its_proof P f h = record { instances = map named h.names; certs = hypotheses_from 0 (all_rows P f h) }

abbrev its_value : Supply
its_value = supply.Pair (variable (codes "v")) (variable (codes "d"))

abbrev its_message : (P : Program) (f : Function) → IsHelper P f → Message
its_message P f h = record { direction = Sends; res = Binds (length h.names) h.limits h.shape }

-- ---- the channel is opened

abbrev Opens : (P : Program) (f : Function) → IsHelper P f → ℕ → Type 0
Opens P f h used =
    opened P (in_context P f h true true true) (codes "c") h.path (its_proof P f h)
    ≡ Ok (record { message = its_message P f h; context = in_context P f h true false true; cursor = cursor_at (its_proof P f h) 0 used })

at_first : (P : Program) (f : Function) (h : IsHelper P f) → Standing (start f).hyps (hypotheses_from 0 (all_rows P f h)) (all_rows P f h) 0
at_first P f h = record { done = []; before = []; hyps_are = h.hyps; certs_are = refl; used_is = refl }

opens : (P : Program) (f : Function) (h : IsHelper P f)
    → (used : ℕ) × Opens P f h used × Standing (start f).hyps (hypotheses_from 0 (all_rows P f h)) h.message_rows used
opens P f h = after (follows_way P.protos here h.path h.own h.last h.path_rows h.message_rows (its_proof P f h) 0 0 h.way (at_first P f h))
  where
    here : Context
    here = in_context P f h true false true

    found : Unfolded → Result Opened Why
    found u = Ok (record { message = u.message; context = here; cursor = u.cursor })

    message_there : Followed → Result Unfolded Why
    message_there last = and_then (message_at P.protos last.end) (λ message. Ok (record { message = message; cursor = last.cursor }))

    unfolds : (used : ℕ) → follow P.protos here h.path (record { end = h.own; cursor = cursor_at (its_proof P f h) 0 0 }) ≡ Ok (record { end = h.last; cursor = cursor_at (its_proof P f h) 0 used })
        → unfolded P.protos here h.own h.path (start_of (its_proof P f h)) ≡ Ok (record { message = its_message P f h; cursor = cursor_at (its_proof P f h) 0 used })
    unfolds used follows =
        chain (provided (is_path P.protos h.path h.own.name) WrongForm (record { end = h.own; cursor = cursor_at (its_proof P f h) 0 0 })) (λ at. and_then (follow P.protos here h.path at) message_there)
        (record { end = h.own; cursor = cursor_at (its_proof P f h) 0 0 }) (record { message = its_message P f h; cursor = cursor_at (its_proof P f h) 0 used })
        (holds (is_path P.protos h.path h.own.name) WrongForm (record { end = h.own; cursor = cursor_at (its_proof P f h) 0 0 }) h.is_path)
        (chain (follow P.protos here h.path (record { end = h.own; cursor = cursor_at (its_proof P f h) 0 0 })) message_there (record { end = h.last; cursor = cursor_at (its_proof P f h) 0 used })
        (record { message = its_message P f h; cursor = cursor_at (its_proof P f h) 0 used }) follows
        (ap (λ m. and_then m (λ message. Ok (record { message = message; cursor = cursor_at (its_proof P f h) 0 used }))) h.sends))

    after : Follows P.protos here h.path h.own h.last (its_proof P f h) 0 0 h.message_rows
        → (used : ℕ) × Opens P f h used × Standing (start f).hyps (hypotheses_from 0 (all_rows P f h)) h.message_rows used
    after (used, follows, standing) = (used, ap (λ u. and_then u found) (unfolds used follows), standing)

-- ---- the message is given

abbrev given_at : (P : Program) (f : Function) → IsHelper P f → (end_held channel_held value_held : Bool) → ℕ → Given
given_at P f h a b c used = record { context = in_context P f h a b c; cursor = cursor_at (its_proof P f h) (length h.names) used }

supplies : (P : Program) (f : Function) (h : IsHelper P f) (used : ℕ) → Standing (start f).hyps (hypotheses_from 0 (all_rows P f h)) h.message_rows used
    → (next : ℕ)
    × (instances (in_context P f h true false true) (length h.names) h.limits (cursor_at (its_proof P f h) 0 used) ≡ Ok (record { forms = h.forms; cursor = cursor_at (its_proof P f h) (length h.names) next }))
    × Standing (start f).hyps (hypotheses_from 0 (all_rows P f h)) [] next
supplies P f h used s = after (obliges_all here asked h.message_rows [] (its_proof P f h) (length h.names) used h.are_rows standing)
  where
    here : Context
    here = in_context P f h true false true

    asked : List LinearForm
    asked = flat_map (λ l. forms_of_limit (limit_with h.forms 0 l)) h.limits

    standing : Standing (start f).hyps (hypotheses_from 0 (all_rows P f h)) (h.message_rows ++ []) used
    standing = subst (λ rows. Standing (start f).hyps (hypotheses_from 0 (all_rows P f h)) rows used) (sym (append-nil h.message_rows)) s

    from_none : (n : ℕ) → 0 + n ≡ n
    from_none n = omega arith

    takes_from_none : take_instances here (length h.names) (cursor_at (its_proof P f h) 0 used) ≡ Ok (record { forms = h.forms; cursor = cursor_at (its_proof P f h) (0 + length h.names) used })
    takes_from_none = takes_binders here h.names h.forms [] (its_proof P f h) 0 used (λ x form is. no_entry (End h.rest) (End h.own) h.value true false true f.bound.names x form is) h.are_binders refl refl

    takes : take_instances here (length h.names) (cursor_at (its_proof P f h) 0 used) ≡ Ok (record { forms = h.forms; cursor = cursor_at (its_proof P f h) (length h.names) used })
    takes = takes_from_none ∙ ap (λ n. Ok (record { forms = h.forms; cursor = cursor_at (its_proof P f h) n used })) (from_none (length h.names))

    with_limits : Supplied → Result Supplied Why
    with_limits taken =
        and_then (oblige_all here (flat_map (λ l. forms_of_limit (limit_with taken.forms 0 l)) h.limits) taken.cursor) (λ last. Ok (record { forms = taken.forms; cursor = last }))

    after : ObligesAll here asked (its_proof P f h) (length h.names) used []
        → (next : ℕ)
        × (instances here (length h.names) h.limits (cursor_at (its_proof P f h) 0 used) ≡ Ok (record { forms = h.forms; cursor = cursor_at (its_proof P f h) (length h.names) next }))
        × Standing (start f).hyps (hypotheses_from 0 (all_rows P f h)) [] next
    after (next, obliged, rest) = (
      next,
      chain (take_instances here (length h.names) (cursor_at (its_proof P f h) 0 used)) with_limits (record { forms = h.forms; cursor = cursor_at (its_proof P f h) (length h.names) used })
          (record { forms = h.forms; cursor = cursor_at (its_proof P f h) (length h.names) next }) takes
          (ap (λ r. and_then r (λ last. Ok (record { forms = h.forms; cursor = last }))) obliged),
      rest,
    )

-- v is given first, and then d
gives_value : (P : Program) (f : Function) (h : IsHelper P f) (used : ℕ)
    → at_res (give_shape (variable (codes "v"))) (unbound h.value) (given_at P f h true false true used) ≡ Ok (given_at P f h true false (not (has_end h.value)) used)
gives_value P f h used =
    ap (λ r. and_then r (λ cursor. Ok (record { context = in_context P f h true false (not (has_end h.value)); cursor = cursor })))
    (accepts_itself (in_context P f h true false (not (has_end h.value))) h.value (cursor_at (its_proof P f h) (length h.names) used))

gives_end : (P : Program) (f : Function) (h : IsHelper P f) (held : Bool) (used : ℕ)
    → at_res (give_shape (variable (codes "d"))) (unbound (End h.rest)) (given_at P f h true false held used) ≡ Ok (given_at P f h false false held used)
gives_end P f h held used =
    ap (λ r. and_then r (λ cursor. Ok (record { context = in_context P f h false false held; cursor = cursor })))
    (accepts_itself (in_context P f h false false held) (End h.rest) (cursor_at (its_proof P f h) (length h.names) used))

gives_both : (P : Program) (f : Function) (h : IsHelper P f) (used : ℕ)
    → give_shape its_value (Pair (unbound h.value) (unbound (End h.rest))) (given_at P f h true false true used) ≡ Ok (given_at P f h false false (not (has_end h.value)) used)
gives_both P f h used =
    chain (at_res (give_shape (variable (codes "v"))) (unbound h.value) (given_at P f h true false true used)) (at_res (give_shape (variable (codes "d"))) (unbound (End h.rest)))
    (given_at P f h true false (not (has_end h.value)) used) (given_at P f h false false (not (has_end h.value)) used)
    (gives_value P f h used) (gives_end P f h (not (has_end h.value)) used)

-- ---- nothing is left

no_more : (n m : ℕ) → n ≡ m → nat_le n m ≡ true
no_more n m same = grind (arith, nat_tests, same)

length_map : {A B : Type 0} (g : A → B) (xs : List A) → length (map g xs) ≡ length xs
length_map g [] = refl
length_map g (x ∷ xs) = ap suc (length_map g xs)

leaves_nothing : (P : Program) (f : Function) (h : IsHelper P f) (used : ℕ) → Standing (start f).hyps (hypotheses_from 0 (all_rows P f h)) [] used
    → leftovers (cursor_at (its_proof P f h) (length h.names) used) ≡ Ok tt
leaves_nothing P f h used s =
    chain (provided (nat_le (length (map named h.names)) (length h.names)) InstanceCount nothing) (λ _. provided (nat_le (length (hypotheses_from 0 (all_rows P f h))) used) CertCount nothing) tt tt
    (holds (nat_le (length (map named h.names)) (length h.names)) InstanceCount nothing (no_more (length (map named h.names)) (length h.names) (length_map named h.names)))
    (holds (nat_le (length (hypotheses_from 0 (all_rows P f h))) used) CertCount nothing (no_more (length (hypotheses_from 0 (all_rows P f h))) used (ap length (s.certs_are ∙ append-nil s.before) ∙ sym s.used_is)))

-- ---- the rules

sends_it : (P : Program) (f : Function) (h : IsHelper P f)
    → rule_send P (in_context P f h true true true) (codes "c") h.path its_value (its_proof P f h) ≡ Ok (in_context P f h false false (not (has_end h.value)))
sends_it P f h = after_opened (opens P f h)
  where
    goal : Context
    goal = in_context P f h false false (not (has_end h.value))

    finish : Given → Result Context Why
    finish given = and_then (leftovers given.cursor) (λ _. Ok given.context)

    give_it : Opened → Result Context Why
    give_it end =
        and_then (provided (sends end.message.direction) WrongForm nothing) (λ _. and_then (give its_value end.message.res (record { context = end.context; cursor = end.cursor })) finish)

    with_supplied : ℕ → Supplied → Result Given Why
    with_supplied used supplied =
        and_then (put_in_shape supplied.forms h.shape) (λ asked. give_shape its_value asked (record { context = in_context P f h true false true; cursor = supplied.cursor }))

    after_supplied : (used next : ℕ) → Opens P f h used
        → instances (in_context P f h true false true) (length h.names) h.limits (cursor_at (its_proof P f h) 0 used) ≡ Ok (record { forms = h.forms; cursor = cursor_at (its_proof P f h) (length h.names) next })
        → Standing (start f).hyps (hypotheses_from 0 (all_rows P f h)) [] next
        → rule_send P (in_context P f h true true true) (codes "c") h.path its_value (its_proof P f h) ≡ Ok goal
    after_supplied used next opened_is supplied_is rest =
        let given_is : give its_value (Binds (length h.names) h.limits h.shape) (record { context = in_context P f h true false true; cursor = cursor_at (its_proof P f h) 0 used }) ≡ Ok (given_at P f h false false (not (has_end h.value)) next) =
        chain (instances (in_context P f h true false true) (length h.names) h.limits (cursor_at (its_proof P f h) 0 used)) (with_supplied used)
        (record { forms = h.forms; cursor = cursor_at (its_proof P f h) (length h.names) next }) (given_at P f h false false (not (has_end h.value)) next) supplied_is
        (ap (λ r. and_then r (λ asked. give_shape its_value asked (given_at P f h true false true next))) h.parts ∙ gives_both P f h next) in
        chain (opened P (in_context P f h true true true) (codes "c") h.path (its_proof P f h)) give_it
        (record { message = its_message P f h; context = in_context P f h true false true; cursor = cursor_at (its_proof P f h) 0 used }) goal opened_is
        (chain (give its_value (Binds (length h.names) h.limits h.shape) (record { context = in_context P f h true false true; cursor = cursor_at (its_proof P f h) 0 used })) finish
        (given_at P f h false false (not (has_end h.value)) next) goal given_is
        (ap (λ r. and_then r (λ _. Ok goal)) (leaves_nothing P f h next rest)))

    after_opened : (used : ℕ) × Opens P f h used × Standing (start f).hyps (hypotheses_from 0 (all_rows P f h)) h.message_rows used
        → rule_send P (in_context P f h true true true) (codes "c") h.path its_value (its_proof P f h) ≡ Ok goal
    after_opened (used, opened_is, standing) = with_rest (supplies P f h used standing)
      where
        with_rest : (next : ℕ)
            × (instances (in_context P f h true false true) (length h.names) h.limits (cursor_at (its_proof P f h) 0 used) ≡ Ok (record { forms = h.forms; cursor = cursor_at (its_proof P f h) (length h.names) next }))
            × Standing (start f).hyps (hypotheses_from 0 (all_rows P f h)) [] next
            → rule_send P (in_context P f h true true true) (codes "c") h.path its_value (its_proof P f h) ≡ Ok goal
        with_rest (next, supplied_is, rest) = after_supplied used next opened_is supplied_is rest

not_both : (b : Bool) → not (not b && b) ≡ true
not_both true = refl
not_both false = refl

returns : (P : Program) (f : Function) (h : IsHelper P f) → rule_ret (unbound UnitShape) (in_context P f h false false (not (has_end h.value))) supply.Unit no_proof ≡ Ok tt
returns P f h = ap (λ r. and_then r (λ _. Ok tt)) (holds (not (not (has_end h.value) && has_end h.value)) (Left (codes "v")) nothing (not_both (has_end h.value)))

-- ---- the function

its_entries : (P : Program) (f : Function) (h : IsHelper P f) → (start f).entries ≡ three (End h.rest) (End h.own) h.value true true true
its_entries P f h =
    ap (λ ps. map (λ p. record { name = p.name; shape = nameless_shape f.bound.names [] p.shape; held = true }) ps) h.params
    ∙ ap (λ s. three s (nameless_shape f.bound.names [] h.channel_shape) (nameless_shape f.bound.names [] h.value_shape) true true true) h.end_is
    ∙ ap (λ s. three (End h.rest) s (nameless_shape f.bound.names [] h.value_shape) true true true) h.channel_is
    ∙ ap (λ s. three (End h.rest) (End h.own) s true true true) h.value_is

its_start : (P : Program) (f : Function) (h : IsHelper P f) → start f ≡ in_context P f h true true true
its_start P f h = ap (λ es. record { ints = f.bound.names; hyps = (start f).hyps; entries = es }) (its_entries P f h)

abbrev its_body : (P : Program) (f : Function) → IsHelper P f → Body
its_body P f h = Send1 h.at (codes "c") h.path its_value (its_proof P f h) (Ret h.at_last supply.Unit no_proof)

pub helpers_are_outlined : HelpersAreOutlined
helpers_are_outlined P f h =
    subst (λ own. OutlinedBody P own (start f) f.body) (sym (ap (nameless_res f.bound.names []) h.result))
    (subst (λ ctx. OutlinedBody P (unbound UnitShape) ctx f.body) (sym (its_start P f h))
    (subst (λ body. OutlinedBody P (unbound UnitShape) (in_context P f h true true true) body) (sym h.body)
    (in_context P f h false false (not (has_end h.value)), sends_it P f h, (tt, returns P f h, tt))))
