-- Sends and receives fit the uses of their task.
use Rattle.standing_contexts.specs.Places.{Agree, BodyAt, Owed, Pays, PlaceAt, StackAt, Standing, names_of_env}
use Rattle.std.proofs.Common.{◌≡◌, ℕ, zero, suc, ◌+◌, ◌≤◌, ◌<◌, ℤ, pos, negsuc, neg_ℤ, ◌+ℤ◌, ◌-ℤ◌, ◌*ℤ◌, ◌≤ℤ◌, int_le, Bool, true, false, not, ◌||◌, ◌&&◌, if◌then◌else◌, List, [], ◌∷◌, ◌++◌, map, length, append-nil, Option, Some, None, Result, Ok, Err, refl, ap, sym, subst, ◌∙◌, arith}
use Rattle.std.proofs.lemmas.Int.{ints}
use Rattle.core_language.specs.Names.{Name, Ident, same}
use Rattle.core_language.specs.Terms.{Term}
use Rattle.core_language.specs.Operands.{Letter, Pat, Proof, Supply}
use Rattle.core_language.specs.Resources.{Proto}
use Rattle.core_language.specs.Programs.{Span, Body, Arms, NoArm, Arm, Program, arm_at}
use Rattle.core_language.specs.Programs as body
use Rattle.core_language.specs.Values.{Value}
use Rattle.core_language.specs.Values as value
use Rattle.core_language.specs.Computing.{unbounded, supplied, Done, Env, value_of, sum_of, multiplied}
use Rattle.core_language.specs.Computing as computing
use Rattle.core_language.specs.Configurations.{in_term, in_supply, names, arms_name, kept, Caller, Place, Ended, Running}
use Rattle.core_language.specs.Acts.{Act, act_at, at, bound, chosen, on_sum}
use Rattle.core_language.specs.Acts as act
use Rattle.graphs.specs.Graph.{count}
use Rattle.graphs.proofs.Counts.{count-append}
use Rattle.outline_language.specs.LinearForms.{LinearForm, constant_form, minus, plus_one, form_at}
use Rattle.outline_language.specs.Nameless.{Ref, Shape, Res, Resources, Int, Pair, Sum, NoMore, More}
use Rattle.outline_language.specs.Nameless as shape
use Rattle.outline_language.specs.Contexts.{Entry, Why, WrongForm, and_then, or_why, provided, nothing, Context, Taken, without, start_of, meaning, oblige, leftovers, take, hold, add_hyp, bind}
use Rattle.outline_language.specs.Giving.{Given, give}
use Rattle.outline_language.specs.Giving as giving
use Rattle.outline_language.specs.Rules.{end_of, Opened, opened}
use Rattle.outline_language.specs.Outlined.{OutlinedBody, OutlinedArms}
use Rattle.good_configurations.specs.Ends.{concrete, no_values, integer_at}
use Rattle.good_configurations.specs.Ends as ends
use Rattle.good_configurations.specs.Values.{Use, Has, HasShape, HasArm}
use Rattle.good_configurations.specs.Uses.{AreSame}
use Rattle.good_configurations.specs.Acts.{Stands, Fits}
use Rattle.outline_values.specs.Proper.{HasEntries, ProperRef, ProperRes, ProperShape}
use Rattle.outline_values.specs.Formed.{NamesBound, IsFormed}
use Rattle.outline_values.proofs.Answers.{one_ok, err_ok, and_then-ok, provided-ok, or_why-ok, one_some, none_some}
use Rattle.outline_language.proofs.Values.{minus-at, plus_one-at, constant-at}
use Rattle.given_values.proofs.Obliging.{oblige-true}
use Rattle.given_values.proofs.Entries.{take-typed, TakenAs}
use Rattle.given_values.proofs.Giving.{give-typed, GivenAs}
use Rattle.good_configurations.specs.Messages.{Carries}
use Rattle.good_steps.proofs.Heads.{head_is_one}
use Rattle.outline_language.specs.Paths.{Unfolded, unfolded}
use Rattle.outline_language.specs.Equations.{Direction, Sends, Receives, sends}
use Rattle.standing_contexts.proofs.Unfolding.{HeadTyped, unfolded-typed}
use Rattle.standing_contexts.proofs.Standing.{hyps-true, grow_hyps, grow_entries, other_entries, add_hyp-is, res-moves}
use Rattle.standing_contexts.proofs.Binding.{Grown, bind-typed, new_int-typed}
use Rattle.standing_contexts.proofs.Operands.{supplied-agrees, either_left, either_right, bound-value, same-self}
use Rattle.standing_contexts.proofs.Places.{goes_on, names-bound, term-typed, term-proper}

sends-is : (d : Direction) → sends d ≡ true → d ≡ Sends
sends-is Sends e = refl
sends-is Receives e = cc

receives-is : (d : Direction) → not (sends d) ≡ true → d ≡ Receives
receives-is Sends e = cc
receives-is Receives e = refl

end_of-is : (sh : Shape) (e : Ref) → end_of sh ≡ Some e → sh ≡ shape.End e
end_of-is (shape.End r) e is = ap shape.End (one_some is)
end_of-is shape.Unit e is = none_some is
end_of-is (Int f) e is = none_some is
end_of-is (Pair a b) e is = none_some is
end_of-is (Sum rs) e is = none_some is

-- an end that is taken, with its head
record OpenedTyped (P : Program) (formed : IsFormed P) (owed : Owed) (own : Res) (ctx : Context) (ks : List ℤ) (F : Env) (uses : List Use) (s : Standing (P.protos) owed own ctx ks F uses) (c : Ident) (o : Opened) : Type 0 where
  channel : Name
  at_c : value_of F c ≡ Some (value.End channel)
  end : Ref
  rest : List Use
  es : List Entry
  split : AreSame uses ((channel, concrete (ends.at (integer_at ks) []) end) ∷ rest)
  context : o.context ≡ record { ints = ctx.ints; hyps = ctx.hyps; entries = es }
  stays : HasEntries (P.protos) (length (ctx.ints)) (integer_at ks) F es rest
  head : HeadTyped P formed ctx ks (s.len) (hyps-true (length (ctx.ints)) (integer_at ks) (ctx.hyps) (s.rows)) end (o.message)

open-typed : (P : Program) (formed : IsFormed P) (owed : Owed) (own : Res) (ctx : Context) (ks : List ℤ) (F : Env) (uses : List Use) (s : Standing (P.protos) owed own ctx ks F uses) (c : Ident) (path : List Letter) (proof : Proof) (o : Opened) → opened P ctx c path proof ≡ Ok o → OpenedTyped P formed owed own ctx ks F uses s c o
open-typed P formed owed own ctx ks F uses s c path proof o e = with_taken (and_then-ok (take ctx c) (λ taken.
    and_then (or_why (end_of (taken.shape)) WrongForm) (λ end.
    and_then (unfolded (P.protos) (taken.context) end path (start_of proof)) (λ found.
    Ok (record { message = found.message; context = taken.context; cursor = found.cursor })))) o e)
  where
    with_taken : (t : Taken) × (take ctx c ≡ Ok t) × (and_then (or_why (end_of (t.shape)) WrongForm) (λ end.
        and_then (unfolded (P.protos) (t.context) end path (start_of proof)) (λ found.
        Ok (record { message = found.message; context = t.context; cursor = found.cursor }))) ≡ Ok o) → OpenedTyped P formed owed own ctx ks F uses s c o
    with_taken (t, e₁, e₂) = by (take-typed (P.protos) (length (ctx.ints)) (integer_at ks) ctx F uses (s.entries) c t e₁) (and_then-ok (or_why (end_of (t.shape)) WrongForm) (λ end.
        and_then (unfolded (P.protos) (t.context) end path (start_of proof)) (λ found.
        Ok (record { message = found.message; context = t.context; cursor = found.cursor }))) o e₂)
      where
        by : (t.context ≡ record { ints = ctx.ints; hyps = ctx.hyps; entries = without c (ctx.entries) }) × TakenAs (P.protos) (length (ctx.ints)) (integer_at ks) F c (t.shape) (without c (ctx.entries)) uses → (end : Ref) × (or_why (end_of (t.shape)) WrongForm ≡ Ok end) × (and_then (unfolded (P.protos) (t.context) end path (start_of proof)) (λ found. Ok (record { message = found.message; context = t.context; cursor = found.cursor })) ≡ Ok o) → OpenedTyped P formed owed own ctx ks F uses s c o
        by (ctx_is, (v, used, rest, at_c, typed, proper, stays, parted)) (end, e₃, e₄) = with_found (and_then-ok (unfolded (P.protos) (t.context) end path (start_of proof)) (λ found. Ok (record { message = found.message; context = t.context; cursor = found.cursor })) o e₄)
          where
            is_end : t.shape ≡ shape.End end
            is_end = end_of-is (t.shape) end (or_why-ok _ WrongForm end e₃)

            end_proper : ProperRef (P.protos) (length (ctx.ints)) 0 end
            end_proper = subst (ProperShape (P.protos) (length (ctx.ints)) 0) is_end proper

            with_found : (found : Unfolded) × (unfolded (P.protos) (t.context) end path (start_of proof) ≡ Ok found) × (◌≡◌ {A = Result Opened Why} (Ok (record { message = found.message; context = t.context; cursor = found.cursor })) (Ok o)) → OpenedTyped P formed owed own ctx ks F uses s c o
            with_found (found, e₅, last) = made (subst (λ z. HasShape (integer_at ks) [] z v used) is_end typed)
              where
                same_unfold : (es : List Entry) → unfolded (P.protos) (record { ints = ctx.ints; hyps = ctx.hyps; entries = es }) end path (start_of proof) ≡ Ok found → HeadTyped P formed (record { ints = ctx.ints; hyps = ctx.hyps; entries = es }) ks (s.len) (hyps-true (length (ctx.ints)) (integer_at ks) (ctx.hyps) (s.rows)) end (found.message)
                same_unfold es e = unfolded-typed P formed (record { ints = ctx.ints; hyps = ctx.hyps; entries = es }) ks (s.len) (hyps-true (length (ctx.ints)) (integer_at ks) (ctx.hyps) (s.rows)) end end_proper path (start_of proof) found e

                headed : HeadTyped P formed (record { ints = ctx.ints; hyps = ctx.hyps; entries = without c (ctx.entries) }) ks (s.len) (hyps-true (length (ctx.ints)) (integer_at ks) (ctx.hyps) (s.rows)) end (found.message)
                headed = same_unfold (without c (ctx.entries)) (subst (λ z. unfolded (P.protos) z end path (start_of proof) ≡ Ok found) ctx_is e₅)

                in_ctx : HeadTyped P formed ctx ks (s.len) (hyps-true (length (ctx.ints)) (integer_at ks) (ctx.hyps) (s.rows)) end (found.message)
                in_ctx = record { m = headed.m; head = headed.head; has = headed.has; direction = headed.direction; into = headed.into; out = headed.out; proper = headed.proper; deep = headed.deep }

                made : HasShape (integer_at ks) [] (shape.End end) v used → OpenedTyped P formed owed own ctx ks F uses s c o
                made (channel, v_is, used_is) = record {
                  channel = channel;
                  at_c = at_c ∙ ap Some v_is;
                  end = end;
                  rest = rest;
                  es = without c (ctx.entries);
                  split = λ q. omega (arith, parted q, count-append q used rest, ap (count q) used_is);
                  context = sym (ap (λ z. z.context) (one_ok last)) ∙ ctx_is;
                  stays = stays;
                  head = subst (λ z. HeadTyped P formed ctx ks (s.len) (hyps-true (length (ctx.ints)) (integer_at ks) (ctx.hyps) (s.rows)) end (z.message)) (one_ok last) in_ctx;
                }

module _ (P : Program) (formed : IsFormed P) (p : Name) (k : ℕ) (env : Env) (callers : List Caller) (F : Env) (owed : Owed) (us vs ws : List Use) (split : AreSame us (vs ++ ws)) (stack : StackAt P callers owed ws)
    (own : Res) (ctx : Context) (ks : List ℤ) (uses : List Use) (alike : AreSame vs uses) (s : Standing (P.protos) owed own ctx ks F uses) where
  abbrev Fit : Body → Type 0
  Fit rest = Fits (P.protos) (PlaceAt P) p k (act_at unbounded P p k rest env callers) us

  abbrev w : ℕ → ℤ
  w = integer_at ks

  pub send_fits : (span : Span) (c : Ident) (path : List Letter) (value : Supply) (proof : Proof) (next : Body) → OutlinedBody P own ctx (body.Send1 span c path value proof next) → NamesBound (P.protos) (names_of_env F) (body.Send1 span c path value proof next) → Agree (names (body.Send1 span c path value proof next)) env F → Fit (body.Send1 span c path value proof next)
  send_fits span c path value proof next (after, rule, out) (value_names, next_names) agree = with_end (and_then-ok (opened P ctx c path proof) (λ end.
      and_then (provided (sends (end.message.direction)) WrongForm nothing) (λ _.
      and_then (give value (end.message.res) (record { context = end.context; cursor = end.cursor })) (λ given.
      and_then (leftovers (given.cursor)) (λ _. Ok (given.context))))) after rule)
    where
      with_end : (o : Opened) × (opened P ctx c path proof ≡ Ok o) × (and_then (provided (sends (o.message.direction)) WrongForm nothing) (λ _.
          and_then (give value (o.message.res) (record { context = o.context; cursor = o.cursor })) (λ given.
          and_then (leftovers (given.cursor)) (λ _. Ok (given.context)))) ≡ Ok after) → Fit (body.Send1 span c path value proof next)
      with_end (o, e₁, e₂) = with_way (open-typed P formed owed own ctx ks F uses s c path proof o e₁) (and_then-ok (provided (sends (o.message.direction)) WrongForm nothing) (λ _.
          and_then (give value (o.message.res) (record { context = o.context; cursor = o.cursor })) (λ given.
          and_then (leftovers (given.cursor)) (λ _. Ok (given.context)))) after e₂)
        where
          with_way : OpenedTyped P formed owed own ctx ks F uses s c o → (t : Unit {0}) × (provided (sends (o.message.direction)) WrongForm nothing ≡ Ok t) × (and_then (give value (o.message.res) (record { context = o.context; cursor = o.cursor })) (λ given. and_then (leftovers (given.cursor)) (λ _. Ok (given.context))) ≡ Ok after) → Fit (body.Send1 span c path value proof next)
          with_way h (t, e₃, e₄) = with_given (and_then-ok (give value (o.message.res) (record { context = o.context; cursor = o.cursor })) (λ given. and_then (leftovers (given.cursor)) (λ _. Ok (given.context))) after e₄)
            where
              sending : o.message.direction ≡ Sends
              sending = sends-is (o.message.direction) ((provided-ok _ WrongForm nothing t e₃).0)

              with_given : (g : Given) × (give value (o.message.res) (record { context = o.context; cursor = o.cursor }) ≡ Ok g) × (and_then (leftovers (g.cursor)) (λ _. Ok (g.context)) ≡ Ok after) → Fit (body.Send1 span c path value proof next)
              with_given (g, e₅, e₆) = with_left (give-typed (P.protos) (ctx.ints) (ctx.hyps) ks (s.len) (hyps-true (length (ctx.ints)) w (ctx.hyps) (s.rows)) F value value_names (h.es) (h.rest) (h.stays) (o.message.res) (h.head.proper) (h.head.deep) (o.cursor) g (subst (λ z. give value (o.message.res) (record { context = z; cursor = o.cursor }) ≡ Ok g) (h.context) e₅)) (and_then-ok (leftovers (g.cursor)) (λ _. Ok (g.context)) after e₆)
                where
                  with_left : GivenAs (P.protos) (ctx.ints) (ctx.hyps) ks (s.len) (hyps-true (length (ctx.ints)) w (ctx.hyps) (s.rows)) F (supplied unbounded F value) (Has w [] (o.message.res)) g (h.rest) → (t' : Unit {0}) × (leftovers (g.cursor) ≡ Ok t') × (◌≡◌ {A = Result Context Why} (Ok (g.context)) (Ok after)) → Fit (body.Send1 span c path value proof next)
                  with_left (v, used, rest, es, is, typed, ctx_is, stays, parted) (t', e₇, e₈) =
                      rw (
                        supplied-agrees unbounded env F value (λ y e. agree y (either_left (same y c || in_supply y value) (names next y) (either_right (same y c) (in_supply y value) e))) ∙ is,
                        agree c (either_left (same c c || in_supply c value) (names next c) (either_left (same c c) (in_supply c value) (same-self c))) ∙ h.at_c,
                      ) (
                        concrete (ends.at (integer_at ks) []) (h.end),
                        used,
                        rest ++ ws,
                        (λ q. omega (arith, split q, alike q, h.split q, parted q, count-append q vs ws, count-append q used rest, count-append q used (rest ++ ws), count-append q rest ws)),
                        (h.head.m, h.head.head, h.head.has, h.head.direction ∙ sending),
                        (h.head.m, h.head.head, h.head.has, h.head.into v used typed),
                        goes_on P next env F callers owed (rest ++ ws) rest ws (λ q. refl) (λ y e. agree y (either_right (same y c || in_supply y value) (names next y) e))
                            (own, after, ks, rest, out, next_names, (λ q. refl), subst (λ z. Standing (P.protos) owed own z ks F rest) (sym ctx_is ∙ one_ok e₈) (other_entries (P.protos) owed own ctx ks F uses s es rest stays)) stack,
                      )

  pub recv_fits : (span : Span) (pat : Pat) (c : Ident) (path : List Letter) (proof : Proof) (next : Body) → OutlinedBody P own ctx (body.Recv1 span pat c path proof next) → NamesBound (P.protos) (names_of_env F) (body.Recv1 span pat c path proof next) → Agree (names (body.Recv1 span pat c path proof next)) env F → Fit (body.Recv1 span pat c path proof next)
  recv_fits span pat c path proof next (after, rule, out) next_names agree = with_end (and_then-ok (opened P ctx c path proof) (λ end.
      and_then (provided (not (sends (end.message.direction))) WrongForm nothing) (λ _.
      and_then (leftovers (end.cursor)) (λ _. bind (end.context) pat (end.message.res)))) after rule)
    where
      with_end : (o : Opened) × (opened P ctx c path proof ≡ Ok o) × (and_then (provided (not (sends (o.message.direction))) WrongForm nothing) (λ _.
          and_then (leftovers (o.cursor)) (λ _. bind (o.context) pat (o.message.res))) ≡ Ok after) → Fit (body.Recv1 span pat c path proof next)
      with_end (o, e₁, e₂) = with_way (open-typed P formed owed own ctx ks F uses s c path proof o e₁) (and_then-ok (provided (not (sends (o.message.direction))) WrongForm nothing) (λ _.
          and_then (leftovers (o.cursor)) (λ _. bind (o.context) pat (o.message.res))) after e₂)
        where
          with_way : OpenedTyped P formed owed own ctx ks F uses s c o → (t : Unit {0}) × (provided (not (sends (o.message.direction))) WrongForm nothing ≡ Ok t) × (and_then (leftovers (o.cursor)) (λ _. bind (o.context) pat (o.message.res)) ≡ Ok after) → Fit (body.Recv1 span pat c path proof next)
          with_way h (t, e₃, e₄) = with_left (and_then-ok (leftovers (o.cursor)) (λ _. bind (o.context) pat (o.message.res)) after e₄)
            where
              receiving : o.message.direction ≡ Receives
              receiving = receives-is (o.message.direction) ((provided-ok _ WrongForm nothing t e₃).0)

              standing : Standing (P.protos) owed own (o.context) ks F (h.rest)
              standing = subst (λ z. Standing (P.protos) owed own z ks F (h.rest)) (sym (h.context)) (other_entries (P.protos) owed own ctx ks F uses s (h.es) (h.rest) (h.stays))

              with_left : (t' : Unit {0}) × (leftovers (o.cursor) ≡ Ok t') × (bind (o.context) pat (o.message.res) ≡ Ok after) → Fit (body.Recv1 span pat c path proof next)
              with_left (t', e₅, e₆) =
                  rw (agree c (either_left (same c c) (names next c) (same-self c)) ∙ h.at_c)
                  (concrete (ends.at (integer_at ks) []) (h.end), h.rest ++ ws, (λ q. omega (arith, split q, alike q, h.split q, count-append q vs ws, count-append q (h.rest) ws)), (h.head.m, h.head.head, h.head.has, h.head.direction ∙ receiving), goes)
                where
                  goes : (v : Value) (paid : List Use) → Carries (P.protos) (concrete (ends.at (integer_at ks) []) (h.end)) v paid → Stands (PlaceAt P) (at next (bound env (pat.name) v) callers) (paid ++ (h.rest ++ ws))
                  goes v paid (m, head, has_head, has) = last (bind-typed (P.protos) owed own (o.context) ks F (h.rest) standing pat (o.message.res) (subst (λ z. ProperRes (P.protos) (length (z.ints)) 0 (o.message.res)) (sym (h.context)) (h.head.proper)) v paid (h.head.out v paid (subst (λ z. Has no_values (z.args) (z.res) v paid) (head_is_one (P.protos) m (h.head.m) (concrete (ends.at (integer_at ks) []) (h.end)) head (h.head.head) has_head (h.head.has)) has)) after e₆)
                    where
                      last : (ks' : List ℤ) × Grown (o.context) ks after ks' × Standing (P.protos) owed own after ks' (bound F (pat.name) v) (h.rest ++ paid) → Stands (PlaceAt P) (at next (bound env (pat.name) v) callers) (paid ++ (h.rest ++ ws))
                      last (ks', grown, stands) = goes_on P next (bound env (pat.name) v) (bound F (pat.name) v) callers owed (paid ++ (h.rest ++ ws)) (h.rest ++ paid) ws
                          (λ q. omega (arith, count-append q paid (h.rest ++ ws), count-append q (h.rest) ws, count-append q (h.rest ++ paid) ws, count-append q (h.rest) paid))
                          (λ y e. bound-value env F (pat.name) v y (agree y (either_right (same y c) (names next y) e)))
                          (own, after, ks', h.rest ++ paid, out, subst (λ z. NamesBound (P.protos) z next) (sym (names-bound F (pat.name) v)) next_names, (λ q. refl), stands) stack
