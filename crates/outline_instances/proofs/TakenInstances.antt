-- Instances that are taken one after the other, and then the limits.
use Rattle.std.proofs.Common.{◌≡◌, ℕ, suc, List, [], ◌∷◌, ◌++◌, flat_map, refl, sym, ap, ◌∙◌, Result, Ok, Err, append_assoc}
use Rattle.outline_language.specs.LinearForms.{LinearForm}
use Rattle.outline_language.specs.Nameless.{Limit}
use Rattle.outline_language.specs.Contexts.{Why, Context, Cursor, Supplied, and_then, oblige_all, next_instance, take_instances, instances}
use Rattle.outline_obligations.proofs.Reasons.{then_ok, then_err}
use Rattle.outline_contexts.specs.Growing.{limit_forms}

abbrev pub supplied : List LinearForm → Cursor → Result Supplied Why
supplied forms cursor = Ok (record { forms = forms; cursor = cursor })

-- instances after some that were taken
abbrev pub behind : List LinearForm → Result Supplied Why → Result Supplied Why
behind forms r = and_then r (λ rest. supplied (forms ++ rest.forms) rest.cursor)

pub behind_nothing : (r : Result Supplied Why) → behind [] r ≡ r
behind_nothing (Ok s) = refl
behind_nothing (Err w) = refl

behind_one : (forms : List LinearForm) (form : LinearForm) (r : Result Supplied Why)
    → behind forms (and_then r (λ rest. supplied (form ∷ rest.forms) rest.cursor)) ≡ behind (forms ++ form ∷ []) r
behind_one forms form (Ok rest) = ap (λ (fs : List LinearForm). supplied fs rest.cursor) (sym (append_assoc forms (form ∷ []) rest.forms))
behind_one forms form (Err w) = refl

module _ (ctx : Context) (rest : ℕ) (cursor : Cursor) (forms : List LinearForm) where
  abbrev then_rest : LinearForm → Result Supplied Why
  then_rest form = and_then (take_instances ctx rest (record cursor { instance = suc cursor.instance })) (λ more. supplied (form ∷ more.forms) more.cursor)

  pub one_taken : (form : LinearForm) → next_instance ctx cursor ≡ Ok form
      → behind forms (take_instances ctx (suc rest) cursor) ≡ behind (forms ++ form ∷ []) (take_instances ctx rest (record cursor { instance = suc cursor.instance }))
  one_taken form is = ap (λ o. behind forms (and_then o then_rest)) is ∙ behind_one forms form (take_instances ctx rest (record cursor { instance = suc cursor.instance }))

  pub none_taken : (why : Why) → next_instance ctx cursor ≡ Err why → behind forms (take_instances ctx (suc rest) cursor) ≡ Err why
  none_taken why is = ap (λ o. behind forms (and_then o then_rest)) is

module _ (ctx : Context) (n : ℕ) (limits : List Limit) (cursor : Cursor) (s : Supplied) (taken : take_instances ctx n cursor ≡ Ok s) (fs : List LinearForm) (are : fs ≡ s.forms) where
  abbrev shown : List LinearForm → Result Cursor Why
  shown forms = oblige_all ctx (flat_map (limit_forms forms) limits) s.cursor

  after_instances : instances ctx n limits cursor ≡ and_then (shown fs) (supplied s.forms)
  after_instances =
      then_ok _ s (λ t. and_then (oblige_all ctx (flat_map (limit_forms t.forms) limits) t.cursor) (supplied t.forms)) taken
      ∙ ap (λ forms. and_then (shown forms) (supplied s.forms)) (sym are)

  pub all_shown : (after : Cursor) → shown fs ≡ Ok after → instances ctx n limits cursor ≡ supplied s.forms after
  all_shown after ok = after_instances ∙ then_ok _ after (supplied s.forms) ok

  pub not_all_shown : (why : Why) → shown fs ≡ Err why → instances ctx n limits cursor ≡ Err why
  not_all_shown why err = after_instances ∙ then_err _ why (supplied s.forms) err
