-- Lists of binders, one behind the other.
use Rattle.std.proofs.Common.{◌≡◌, List, [], ◌∷◌, ◌++◌, refl, sym, ap, ◌∙◌, append_assoc}
use Rattle.form_faults.specs.declared.sorts.Known.{Known}
use Rattle.form_faults.specs.Scopes.{Binder, bind, bind_all, twice, twice_all}

pub twice-append : (scope : List Known) (bs cs : List Binder) → twice_all scope (bs ++ cs) ≡ twice_all scope bs ++ twice_all (bind_all scope bs) cs
unfolding twice_all bind_all
twice-append scope [] cs = refl
twice-append scope (b ∷ bs) cs =
    ap (λ fs. twice scope b.name b.span ++ fs) (twice-append (bind scope b.name b.sort) bs cs)
    ∙ sym (append_assoc (twice scope b.name b.span) (twice_all (bind scope b.name b.sort) bs) (twice_all (bind_all (bind scope b.name b.sort) bs) cs))

pub ruleset pattern_rules = (twice-append)
