-- Terms that are ready, as they are put in.
use Rattle.std.proofs.lemmas.List.Elements.{All-nil, All-cons}
use Rattle.linear_forms.specs.Normal.{names_of}
use Rattle.linear_forms.proofs.Shorts.{name_bound, put_bound, longer_names}
use Rattle.std.proofs.Common.{◌≡◌, ℕ, ◌+◌, ◌<◌, ℤ, arith, List, [], ◌∷◌, All, map, get_or, length, ◌∙◌, ap, subst}
use Rattle.std.proofs.lemmas.List.{length-map}
use Rattle.std.proofs.Math.ListN.{get_or-map}
use Rattle.core_language.specs.Names.{Ident}
use Rattle.core_language.specs.Terms.{Term}
use Rattle.linear_forms.specs.Terms.{IntVar, sum_of}
use Rattle.linear_forms.specs.NormalTerms.{IsNormal, IsSameSum, NumbersFit}
use Rattle.linear_forms.specs.Substitution.{Var, sum_under, Fits, IsNormalPut}
use Rattle.linear_forms.specs.Replacing.{replaced, IsReady}
use Rattle.linear_forms.proofs.Replaced.{seen_at, replaced-value}
use Rattle.linear_forms.proofs.Fitting.{is_put, they_fit, numbers_fit}

module _ (put : List IntVar) (before after : List Ident) (t : Term) (ready : IsReady put before after t) where
  value : (u : ℤ) (at : Var → ℤ) → sum_of u (seen_at after at) (replaced before after put t) ≡ sum_under before put u at t
  value u at = replaced-value ready.most put before after 0 ready.put_short u at t ready.safe ready.short

  pub normal_put : (u : Term) → IsSameSum u (replaced before after put t) → IsNormal u → NumbersFit (replaced before after put t) → IsNormalPut put before after t u
  normal_put u same normal fit = record {
    value = is_put put before after t (replaced before after put t) value u same;
    normal = normal;
    fits = they_fit put before after t (replaced before after put t) value fit;
  }

  pub not_fit : (NumbersFit (replaced before after put t) → ⊥) → Fits put before t → ⊥
  not_fit none h = none (numbers_fit put before after t (replaced before after put t) value h)

-- what is so of all is so of the one at a place
pub all_at_map : {X Y : Type 0} (P : Y → Type 0) (f : X → Y) (xs : List X) (i : ℕ) (x : X) → All P (map f xs) → i < length xs → get_or xs i x ≡ x → P (f x)
all_at_map P f xs i x h l e = subst P (get_or-map f xs i x ∙ ap f e) (h i (f x) (rw (length-map xs f) l))

-- with no binders around, each term is ready
pub ready_bare : (put : List IntVar) (ts : List Term) → All (IsReady put [] []) ts
ready_bare put [] = All-nil (IsReady put [] [])
ready_bare put (t ∷ ts) = All-cons (IsReady put [] []) t ts here (ready_bare put ts)
  where
    here : IsReady put [] [] t
    here =
        let p = put_bound put in
        let n = name_bound (names_of t) in
        record {
          most = p.0 + n.0;
          safe = tt;
          short = longer_names n.0 (p.0 + n.0) (names_of t) (omega arith) n.1;
          put_short = λ k d b. longer_names p.0 (p.0 + n.0) (names_of (get_or put k d).term) (omega arith) (p.1 k d b);
        }
