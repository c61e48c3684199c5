use Rattle.std.proofs.Common.{[], ◌∷◌, Option, IfSome, sym, ◌∙◌, subst, inl, inr}
use Rattle.form_faults.specs.declared.faults.Ill.{Ill}
use Rattle.form_faults.proofs.First.{least_is_first, least_is_none}
use Rattle.core_programs.specs.Passes.{twice_faults, name_faults, count_faults}
use Rattle.core_programs.specs.Form.{Twice, Names, Counts, Guards, Mains, IsUnguarded}
use Rattle.core_programs.proofs.Verdicts.{behind, last_pass}
use Rattle.core_programs.proofs.forms.first_fault.Goals as goal

pub returns-in-Some : goal.returns-in-Some
returns-in-Some c = inl (least_is_first (twice_faults c.args.parts.now) c.in-Some.ill (sym c.in_ok-ill.ensures ∙ c.in-Some.is))

pub returns-in-Some-2 : goal.returns-in-Some-2
returns-in-Some-2 c =
    let once = least_is_none (twice_faults c.args.parts.now) (sym c.in_ok-ill.ensures ∙ c.in_default.is) in
    inr (once, inl (least_is_first (name_faults c.args.parts.now) c.in-Some-2.ill (sym c.in_ok-ill-2.ensures ∙ c.in-Some-2.is)))

pub returns-in-Some-find_count : goal.returns-in-Some-find_count
returns-in-Some-find_count c =
    let once = least_is_none (twice_faults c.args.parts.now) (sym c.in_ok-ill.ensures ∙ c.in_default.is) in
    let named = least_is_none (name_faults c.args.parts.now) (sym c.in_ok-ill-2.ensures ∙ c.in_default-2.is) in
    inr (once, inr (named, inl (least_is_first (count_faults c.args.parts.now) c.in-Some-find_count.ill (sym c.find_count.ensures ∙ c.in-Some-find_count.is))))

pub returns-in-Some-3 : goal.returns-in-Some-3
returns-in-Some-3 c =
    let once = least_is_none (twice_faults c.args.parts.now) (sym c.in_ok-ill.ensures ∙ c.in_default.is) in
    let named = least_is_none (name_faults c.args.parts.now) (sym c.in_ok-ill-2.ensures ∙ c.in_default-2.is) in
    let few = least_is_none (count_faults c.args.parts.now) (sym c.find_count.ensures ∙ c.in_default-find_count.is) in
    inr (once, inr (named, inr (few, inl (subst (λ (found : Option Ill). IfSome found (IsUnguarded c.args.parts.now.protos)) c.in-Some-3.is c.in_ok-ill-3.ensures.found))))

pub returns : goal.returns
returns c =
    let once = least_is_none (twice_faults c.args.parts.now) (sym c.in_ok-ill.ensures ∙ c.in_default.is) in
    let named = least_is_none (name_faults c.args.parts.now) (sym c.in_ok-ill-2.ensures ∙ c.in_default-2.is) in
    let few = least_is_none (count_faults c.args.parts.now) (sym c.find_count.ensures ∙ c.in_default-find_count.is) in
    let guarded = c.in_ok-ill-3.ensures.silent c.in_default-3.is in
    let parts = c.args.parts.now in
    let found = c.find_main.result in
    behind parts Twice Names (Counts ∷ Guards ∷ Mains ∷ []) found once
    (behind parts Names Counts (Guards ∷ Mains ∷ []) found named
    (behind parts Counts Guards (Mains ∷ []) found few
    (behind parts Guards Mains [] found guarded (last_pass parts found c.find_main.ensures))))
