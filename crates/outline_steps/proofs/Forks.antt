-- Forks fit the uses of their task.
use Rattle.standing_contexts.specs.Places.{Agree, BodyAt, Owed, Pays, PlaceAt, StackAt, Standing, names_of_env}
use Rattle.std.proofs.Common.{◌≡◌, ℕ, zero, suc, ◌+◌, ◌≤◌, ◌<◌, ℤ, pos, negsuc, neg_ℤ, ◌+ℤ◌, ◌-ℤ◌, ◌*ℤ◌, ◌≤ℤ◌, int_le, Bool, true, false, not, ◌||◌, ◌&&◌, if◌then◌else◌, List, [], ◌∷◌, ◌++◌, map, length, append-nil, Option, Some, None, Result, Ok, Err, refl, ap, sym, subst, ◌∙◌, ◌⊎◌, inl, inr, arith}
use Rattle.std.proofs.lemmas.Int.{ints}
use Rattle.core_language.specs.Names.{Name, Ident, same, child}
use Rattle.core_language.specs.Terms.{Term}
use Rattle.core_language.specs.Operands.{Pat, Proof, Supply}
use Rattle.core_language.specs.Resources.{Proto}
use Rattle.core_language.specs.Resources as written
use Rattle.core_language.specs.Programs.{Span, Body, Arms, NoArm, Arm, Function, Program, function_named}
use Rattle.core_language.specs.Programs as body
use Rattle.core_language.specs.Values.{Value}
use Rattle.core_language.specs.Values as value
use Rattle.core_language.specs.Computing.{unbounded, all_supplied, Done, Env, value_of, sum_of, multiplied}
use Rattle.core_language.specs.Computing as computing
use Rattle.core_language.specs.Configurations.{in_term, in_supplies, names, arms_name, kept, Caller, Place, Ended, Running}
use Rattle.core_language.specs.Acts.{Act, act_at, at, bound, params_env}
use Rattle.core_language.specs.Acts as act
use Rattle.graphs.specs.Graph.{count}
use Rattle.graphs.proofs.Counts.{count-append}
use Rattle.outline_language.specs.LinearForms.{LinearForm, constant_form, minus, plus_one, form_at}
use Rattle.outline_language.specs.Nameless.{Ref, nameless_res, same_res, dual_ref, Shape, Res, Resources, Int, Pair, Sum, NoMore, More}
use Rattle.outline_language.specs.Nameless as shape
use Rattle.outline_language.specs.Contexts.{Why, ForkForm, Cursor, WrongForm, NotProved, and_then, or_why, provided, nothing, Entry, Context, Supplied, put_in_shape, put_in_res, meanings, nothing_left, Taken, without, start_of, meaning, oblige, leftovers, take, hold, add_hyp, bind}
use Rattle.outline_language.specs.Giving.{Given, give_all, accept, pair_of}
use Rattle.outline_language.specs.Giving as giving
use Rattle.outline_language.specs.Rules.{Called, limits_of, param_shapes, result_of, instances_for, called_with, called, first_end, is_bare_unit, fork_form, give_end, forked_with}
use Rattle.outline_language.specs.Outlined.{own_result, OutlinedBody, OutlinedFunction, IsOutlined}
use Rattle.outline_language.specs.Equations.{Sends, Receives, Concrete, opposite}
use Rattle.good_configurations.specs.Ends.{concrete, integer_at}
use Rattle.good_configurations.specs.Messages.{Does}
use Rattle.good_configurations.specs.Ends as ends
use Rattle.good_configurations.specs.Values.{Use, KeepsAll, Has, HasShape}
use Rattle.good_configurations.specs.Uses.{AreSame}
use Rattle.good_configurations.specs.Acts.{Stands, Fits}
use Rattle.outline_values.specs.Proper.{HasEntries, ProperForms, ProperRes, ProperShape, nest, nest_res}
use Rattle.outline_values.specs.Formed.{deepest, NamesAre, SuppliesNames, NamesBound, FunctionFormed, IsFormed}
use Rattle.outline_values.proofs.Answers.{one_ok, err_ok, and_then-ok, provided-ok, or_why-ok, one_some, none_some}
use Rattle.outline_language.proofs.Values.{minus-at, plus_one-at, constant-at}
use Rattle.outline_values.proofs.Proper.{length-map}
use Rattle.given_values.proofs.Obliging.{oblige-true}
use Rattle.given_values.proofs.Entries.{meanings-proper}
use Rattle.outline_values.proofs.Shapes.{same_res-is}
use Rattle.given_values.proofs.Obliging.{AreTrue}
use Rattle.given_values.proofs.Giving.{HasShapes, ProperShapes, GivenAs, AllGivenAs, instances-typed, give_all-typed, put-typed, put_res-typed, accept-typed}
use Rattle.standing_contexts.proofs.Entering.{outlined-named, params-proper, limits-proper, result-proper, own-result, own-back, entered-typed}
use Rattle.standing_contexts.proofs.Standing.{hyps-true, grow_entries, other_entries}
use Rattle.standing_contexts.proofs.Binding.{Grown, bind-typed, new_int-typed}
use Rattle.standing_contexts.proofs.Operands.{all_supplied-agrees, kept-value, either_left, either_right, bound-value, same-self}
use Rattle.standing_contexts.proofs.Places.{left-none, goes_on, names-bound, term-typed, term-proper}

first_end-is : (ss : List Shape) (form : Ref × List Shape) → first_end ss ≡ Some form → ss ≡ shape.End form.0 ∷ form.1
first_end-is [] form e = none_some e
first_end-is (shape.End r ∷ ss) form e = ap (λ z. shape.End z.0 ∷ z.1) (one_some e)
first_end-is (shape.Unit ∷ ss) form e = none_some e
first_end-is (Int f ∷ ss) form e = none_some e
first_end-is (Pair a b ∷ ss) form e = none_some e
first_end-is (Sum rs ∷ ss) form e = none_some e

pub unit-unused : (r : written.Res) → is_bare_unit r ≡ true → (u : ℕ → ℤ) (ns : List Ident) (v : Value) (vs : List Use) → Has u [] (nameless_res ns [] r) v vs → vs ≡ []
unit-unused (written.Binds b written.Unit) e u ns v vs (js, len, keeps, has) = has.1
unit-unused (written.Binds b (written.Int t)) e u ns v vs has = cc
unit-unused (written.Binds b (written.End r)) e u ns v vs has = cc
unit-unused (written.Binds b (written.Pair r q)) e u ns v vs has = cc
unit-unused (written.Binds b (written.Sum rs)) e u ns v vs has = cc

module _ (P : Program) (outlined : IsOutlined P) (formed : IsFormed P) (p : Name) (k : ℕ) (env : Env) (callers : List Caller) (F : Env) (owed : Owed) (us vs ws : List Use) (split : AreSame us (vs ++ ws)) (stack : StackAt P callers owed ws)
    (own : Res) (ctx : Context) (ks : List ℤ) (uses : List Use) (alike : AreSame vs uses) (s : Standing (P.protos) owed own ctx ks F uses) where
  abbrev Fit : Body → Type 0
  Fit rest = Fits (P.protos) (PlaceAt P) p k (act_at unbounded P p k rest env callers) us

  abbrev w : ℕ → ℤ
  w = integer_at ks

  abbrev true_hyps : AreTrue (integer_at ks) (ctx.hyps)
  true_hyps = hyps-true (length (ctx.ints)) (integer_at ks) (ctx.hyps) (s.rows)

  fork-typed : (span : Span) (x : Ident) (ref : written.Ref) (f : Ident) (values : List Supply) (proof : Proof) (next : Body) (g : Function) → function_named f (P.funcs) ≡ Some g → (form : Ref × List Shape) → is_bare_unit (g.result) ≡ true → param_shapes g ≡ shape.End form.0 ∷ form.1 → (after : Context) → forked_with ctx x ref g form values proof ≡ Ok after
      → OutlinedBody P own after next → NamesBound (P.protos) (names_of_env F) (body.Fork span x ref f values proof next) → Agree (names (body.Fork span x ref f values proof next)) env F → Fit (body.Fork span x ref f values proof next)
  fork-typed span x ref f values proof next g is_g form bare shapes after e out (knows, value_names, next_names) agree = with_args (and_then-ok (meanings ctx (ref.args)) (λ args.
      and_then (instances_for ctx g proof) (λ supplied.
      and_then (give_end (supplied.forms) (dual_ref (record { dual = ref.dual; name = ref.name; args = args })) form.0 (record { context = ctx; cursor = supplied.cursor })) (λ first.
      and_then (give_all (supplied.forms) values form.1 first) (λ given.
      and_then (leftovers (given.cursor)) (λ _.
      Ok (hold (given.context) x (shape.End (record { dual = ref.dual; name = ref.name; args = args })))))))) after e)
    where
      g_formed : FunctionFormed (P.protos) g
      g_formed = formed.functions f g is_g

      with_args : (args : List LinearForm) × (meanings ctx (ref.args) ≡ Ok args) × (and_then (instances_for ctx g proof) (λ supplied.
          and_then (give_end (supplied.forms) (dual_ref (record { dual = ref.dual; name = ref.name; args = args })) form.0 (record { context = ctx; cursor = supplied.cursor })) (λ first.
          and_then (give_all (supplied.forms) values form.1 first) (λ given.
          and_then (leftovers (given.cursor)) (λ _.
          Ok (hold (given.context) x (shape.End (record { dual = ref.dual; name = ref.name; args = args }))))))) ≡ Ok after) → Fit (body.Fork span x ref f values proof next)
      with_args (args, e₁, e₂) = with_instances (and_then-ok (instances_for ctx g proof) (λ supplied.
          and_then (give_end (supplied.forms) (dual_ref (record { dual = ref.dual; name = ref.name; args = args })) form.0 (record { context = ctx; cursor = supplied.cursor })) (λ first.
          and_then (give_all (supplied.forms) values form.1 first) (λ given.
          and_then (leftovers (given.cursor)) (λ _.
          Ok (hold (given.context) x (shape.End (record { dual = ref.dual; name = ref.name; args = args }))))))) after e₂)
        where
          mine : Ref
          mine = record { dual = ref.dual; name = ref.name; args = args }

          args_proper : ProperForms (length (ctx.ints)) 0 args × (length args ≡ length (ref.args))
          args_proper = meanings-proper (P.protos) (length (ctx.ints)) w ctx refl F uses (s.entries) (ref.args) args e₁

          end : Concrete
          end = concrete (ends.at (integer_at ks) []) (record { dual = ref.dual; name = ref.name; args = args })

          c : Name
          c = child p k

          with_instances : (t : Supplied) × (instances_for ctx g proof ≡ Ok t) × (and_then (give_end (t.forms) (dual_ref (record { dual = ref.dual; name = ref.name; args = args })) form.0 (record { context = ctx; cursor = t.cursor })) (λ first.
              and_then (give_all (t.forms) values form.1 first) (λ given.
              and_then (leftovers (given.cursor)) (λ _.
              Ok (hold (given.context) x (shape.End (record { dual = ref.dual; name = ref.name; args = args })))))) ≡ Ok after) → Fit (body.Fork span x ref f values proof next)
          with_instances (t, e₃, e₄) = with_end (instances-typed (P.protos) (ctx.ints) (ctx.hyps) ks (s.len) true_hyps F (ctx.entries) uses (s.entries) (length (g.bound.names)) (limits_of g) (limits-proper (P.protos) g g_formed (length (ctx.ints))) (start_of proof) t e₃)
              (and_then-ok (give_end (t.forms) (dual_ref (record { dual = ref.dual; name = ref.name; args = args })) form.0 (record { context = ctx; cursor = t.cursor })) (λ first.
              and_then (give_all (t.forms) values form.1 first) (λ given.
              and_then (leftovers (given.cursor)) (λ _.
              Ok (hold (given.context) x (shape.End (record { dual = ref.dual; name = ref.name; args = args })))))) after e₄)
            where
              with_end : ProperForms (length (ctx.ints)) 0 (t.forms) × (length (t.forms) ≡ length (g.bound.names)) × KeepsAll (ends.at (integer_at ks) (map (form_at (ends.at (integer_at ks) [])) (t.forms))) (limits_of g)
                  → (h : Given) × (give_end (t.forms) (dual_ref (record { dual = ref.dual; name = ref.name; args = args })) form.0 (record { context = ctx; cursor = t.cursor }) ≡ Ok h) × (and_then (give_all (t.forms) values form.1 h) (λ given. and_then (leftovers (given.cursor)) (λ _. Ok (hold (given.context) x (shape.End (record { dual = ref.dual; name = ref.name; args = args }))))) ≡ Ok after) → Fit (body.Fork span x ref f values proof next)
              with_end (forms_proper, count, kept) (h, e₅, e₆) = with_asked (and_then-ok (put_in_shape (t.forms) (shape.End form.0)) (λ asked. and_then (accept ctx (shape.End (dual_ref (record { dual = ref.dual; name = ref.name; args = args }))) asked (t.cursor)) (λ cursor. Ok (record { context = ctx; cursor = cursor }))) h e₅)
                where
                  all_proper : ProperShapes (P.protos) (length (ctx.ints)) (length (t.forms)) (shape.End form.0 ∷ form.1)
                  all_proper = subst (ProperShapes (P.protos) (length (ctx.ints)) (length (t.forms))) shapes (subst (λ z. ProperShapes (P.protos) (length (ctx.ints)) z (param_shapes g)) (sym count) (params-proper (P.protos) g g_formed (length (ctx.ints)) (g.params) (g_formed.params)))

                  js : List ℤ
                  js = map (form_at (ends.at (integer_at ks) [])) (t.forms)

                  with_asked : (asked : Shape) × (put_in_shape (t.forms) (shape.End form.0) ≡ Ok asked) × (and_then (accept ctx (shape.End (dual_ref (record { dual = ref.dual; name = ref.name; args = args }))) asked (t.cursor)) (λ cursor. Ok (record { context = ctx; cursor = cursor })) ≡ Ok h) → Fit (body.Fork span x ref f values proof next)
                  with_asked (asked, e₇, e₈) = with_accepted (and_then-ok (accept ctx (shape.End (dual_ref (record { dual = ref.dual; name = ref.name; args = args }))) asked (t.cursor)) (λ cursor. Ok (record { context = ctx; cursor = cursor })) h e₈)
                    where
                      put : ProperShape (P.protos) (length (ctx.ints)) 0 asked × (nest asked ≡ nest (shape.End form.0)) × ((v : Value) (us : List Use) → HasShape w [] asked v us → HasShape w (map (form_at (ends.at (integer_at ks) [])) (t.forms)) (shape.End form.0) v us) × ((v : Value) (us : List Use) → HasShape w (map (form_at (ends.at (integer_at ks) [])) (t.forms)) (shape.End form.0) v us → HasShape w [] asked v us)
                      put = put-typed (P.protos) (ctx.ints) (ctx.hyps) ks (s.len) true_hyps F (t.forms) forms_proper (shape.End form.0) asked ((all_proper.0).0) e₇

                      with_accepted : (cursor : Cursor) × (accept ctx (shape.End (dual_ref (record { dual = ref.dual; name = ref.name; args = args }))) asked (t.cursor) ≡ Ok cursor) × (◌≡◌ {A = Result Given Why} (Ok (record { context = ctx; cursor = cursor })) (Ok h)) → Fit (body.Fork span x ref f values proof next)
                      with_accepted (cursor, e₉, last) = with_given (and_then-ok (give_all (t.forms) values form.1 (record { context = ctx; cursor = cursor })) (λ given. and_then (leftovers (given.cursor)) (λ _. Ok (hold (given.context) x (shape.End (record { dual = ref.dual; name = ref.name; args = args }))))) after (subst (λ z. and_then (give_all (t.forms) values form.1 z) (λ given. and_then (leftovers (given.cursor)) (λ _. Ok (hold (given.context) x (shape.End (record { dual = ref.dual; name = ref.name; args = args }))))) ≡ Ok after) (sym (one_ok last)) e₆))
                        where
                          -- the child's end
                          has_first : HasShape w (map (form_at (ends.at (integer_at ks) [])) (t.forms)) (shape.End form.0) (value.End (child p k)) ((child p k, opposite (concrete (ends.at (integer_at ks) []) (record { dual = ref.dual; name = ref.name; args = args }))) ∷ [])
                          has_first = (put.2) (value.End (child p k)) ((child p k, opposite (concrete (ends.at (integer_at ks) []) (record { dual = ref.dual; name = ref.name; args = args }))) ∷ []) (accept-typed (P.protos) (ctx.ints) (ctx.hyps) ks (s.len) true_hyps F (ctx.entries) (shape.End (dual_ref (record { dual = ref.dual; name = ref.name; args = args }))) asked (t.cursor) cursor e₉ (value.End (child p k)) ((child p k, opposite (concrete (ends.at (integer_at ks) []) (record { dual = ref.dual; name = ref.name; args = args }))) ∷ []) (child p k, refl, refl))

                          with_given : (given : Given) × (give_all (t.forms) values form.1 (record { context = ctx; cursor = cursor }) ≡ Ok given) × (and_then (leftovers (given.cursor)) (λ _. Ok (hold (given.context) x (shape.End (record { dual = ref.dual; name = ref.name; args = args })))) ≡ Ok after) → Fit (body.Fork span x ref f values proof next)
                          with_given (given, e₁₀, e₁₁) = with_left (give_all-typed (P.protos) (ctx.ints) (ctx.hyps) ks (s.len) true_hyps F (t.forms) forms_proper values value_names form.1 (all_proper.1) (ctx.entries) uses (s.entries) cursor given e₁₀) (and_then-ok (leftovers (given.cursor)) (λ _. Ok (hold (given.context) x (shape.End (record { dual = ref.dual; name = ref.name; args = args })))) after e₁₁)
                            where
                              with_left : AllGivenAs (P.protos) (ctx.ints) (ctx.hyps) ks (s.len) true_hyps F (t.forms) values form.1 given uses → (t' : Unit {0}) × (leftovers (given.cursor) ≡ Ok t') × (◌≡◌ {A = Result Context Why} (Ok (hold (given.context) x (shape.End (record { dual = ref.dual; name = ref.name; args = args })))) (Ok after)) → Fit (body.Fork span x ref f values proof next)
                              with_left (values', used, rest, es, all, typed, ctx_is, stays, parted) (t', e₁₂, e₁₃) =
                                  rw (all_supplied-agrees unbounded env F values (λ y e. agree y (either_left (in_supplies y values) (names next y) e)) ∙ all, is_g)
                                  (end, used, rest ++ ws, refl, (λ q. omega (arith, split q, alike q, parted q, count-append q vs ws, count-append q used rest, count-append q used (rest ++ ws), count-append q rest ws)), does, parent, born)
                                where
                                  does : Does (P.protos) end Sends ⊎ Does (P.protos) end Receives
                                  does = formed.heads end (knows.0) (knows.1)

                                  held : Standing (P.protos) owed own after ks (bound F x (value.End c)) (rest ++ (c, end) ∷ [])
                                  held = subst (λ z. Standing (P.protos) owed own z ks (bound F x (value.End c)) (rest ++ (c, end) ∷ [])) (ap (λ z. hold z x (shape.End mine)) (sym ctx_is) ∙ one_ok e₁₃)
                                      (grow_entries (P.protos) owed own (record { ints = ctx.ints; hyps = ctx.hyps; entries = es }) ks F rest (other_entries (P.protos) owed own ctx ks F uses s es rest stays) x (value.End c) (shape.End mine) ((c, end) ∷ []) (args_proper.0, (knows.0, knows.1, args_proper.1 ∙ knows.2)) (c, refl, refl))

                                  parent : Stands (PlaceAt P) (at next (bound env x (value.End c)) callers) ((c, end) ∷ (rest ++ ws))
                                  parent = goes_on P next (bound env x (value.End c)) (bound F x (value.End c)) callers owed ((c, end) ∷ (rest ++ ws)) (rest ++ (c, end) ∷ []) ws
                                      (λ q. omega (arith, count-append q rest ws, count-append q (rest ++ (c, end) ∷ []) ws, count-append q rest ((c, end) ∷ [])))
                                      (λ y e. bound-value env F x (value.End c) y (agree y (either_right (in_supplies y values) (names next y) e)))
                                      (own, after, ks, rest ++ (c, end) ∷ [], out, subst (λ z. NamesBound (P.protos) z next) (sym (names-bound F x (value.End c))) next_names, (λ q. refl), held) stack

                                  born : Stands (PlaceAt P) (at (g.body) (params_env (g.params) (value.End c ∷ values')) []) ((c, opposite end) ∷ used)
                                  born = goes_on P (g.body) (params_env (g.params) (value.End c ∷ values')) (params_env (g.params) (value.End c ∷ values')) [] (js, own_result g) ((c, opposite end) ∷ used) ((c, opposite end) ∷ used) []
                                      (λ q. omega (arith, count-append q ((c, opposite end) ∷ used) [])) (λ y e. refl)
                                      (entered-typed (P.protos) g g_formed w js (length-map (form_at (ends.at (integer_at ks) [])) (t.forms) ∙ count) P refl (outlined-named P (P.funcs) outlined f g is_g) (js, own_result g) (λ v us h. own-back (P.protos) g g_formed w js (length-map (form_at (ends.at (integer_at ks) [])) (t.forms) ∙ count) v us h) kept (value.End c ∷ values') ((c, opposite end) ∷ used)
                                      (subst (λ z. HasShapes w js z (value.End c ∷ values') ((c, opposite end) ∷ used)) (sym shapes) ((c, opposite end) ∷ [], used, refl, has_first, typed)))
                                      (refl, λ v vs h. unit-unused (g.result) bare (integer_at js) (g.bound.names) v vs h)

  pub fork_fits : (span : Span) (x : Ident) (ref : written.Ref) (f : Ident) (values : List Supply) (proof : Proof) (next : Body) → OutlinedBody P own ctx (body.Fork span x ref f values proof next) → NamesBound (P.protos) (names_of_env F) (body.Fork span x ref f values proof next) → Agree (names (body.Fork span x ref f values proof next)) env F → Fit (body.Fork span x ref f values proof next)
  fork_fits span x ref f values proof next (after, rule, out) bound_names agree = go (and_then-ok (or_why (function_named f (P.funcs)) WrongForm) (λ func. and_then (fork_form func) (λ form. forked_with ctx x ref func form values proof)) after rule)
    where
      go : (g : Function) × (or_why (function_named f (P.funcs)) WrongForm ≡ Ok g) × (and_then (fork_form g) (λ form. forked_with ctx x ref g form values proof) ≡ Ok after) → Fit (body.Fork span x ref f values proof next)
      go (g, e₁, e₂) = with_form (and_then-ok (fork_form g) (λ form. forked_with ctx x ref g form values proof) after e₂)
        where
          with_form : (form : Ref × List Shape) × (fork_form g ≡ Ok form) × (forked_with ctx x ref g form values proof ≡ Ok after) → Fit (body.Fork span x ref f values proof next)
          with_form (form, e₃, e₄) = with_bare (and_then-ok (provided (is_bare_unit (g.result)) ForkForm nothing) (λ _. or_why (first_end (param_shapes g)) ForkForm) form e₃)
            where
              with_bare : (t : Unit {0}) × (provided (is_bare_unit (g.result)) ForkForm nothing ≡ Ok t) × (or_why (first_end (param_shapes g)) ForkForm ≡ Ok form) → Fit (body.Fork span x ref f values proof next)
              with_bare (t, e₅, e₆) = fork-typed span x ref f values proof next g (or_why-ok _ WrongForm g e₁) form ((provided-ok _ ForkForm nothing t e₅).0) (first_end-is (param_shapes g) form (or_why-ok _ ForkForm form e₆)) after e₄ out bound_names agree
