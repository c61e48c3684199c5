-- The order of variables is one.
use Rattle.std.specs.Prelude.{◌≡◌, Some}
use Rattle.std.proofs.Common.{refl, sym, ◌∙◌}
use Rattle.std.specs.declared.cmp.Ordering.TheVariants.{Less, Equal}
use Rattle.std.specs.Ordering.{eq_by_cmp, ordering_reverse}
use Rattle.std.specs.Cmp.{IsTotalOrder, IsEquivalence, IsPartialOrder, nat_cmp_total, unsigned_ties, eq_by_cmp_equiv, po}
use Rattle.outline_language.specs.LinearForms.{Var, Free, Inside, variable_order, same_var}

pub order_total : IsTotalOrder variable_order
order_total = record { antisymm = antisymm; trans = trans; congr = congr }
  where
    antisymm : (v w : Var) → variable_order v w ≡ ordering_reverse (variable_order w v)
    antisymm (Inside i) (Inside j) = nat_cmp_total.antisymm i j
    antisymm (Inside i) (Free j) = refl
    antisymm (Free i) (Inside j) = refl
    antisymm (Free i) (Free j) = nat_cmp_total.antisymm i j

    trans : (u v w : Var) → variable_order u v ≡ Less → variable_order v w ≡ Less → variable_order u w ≡ Less
    trans (Inside i) (Inside j) (Inside k) p q = nat_cmp_total.trans i j k p q
    trans (Inside i) (Inside j) (Free k) p q = refl
    trans (Inside i) (Free j) (Inside k) p q = absurd cc
    trans (Inside i) (Free j) (Free k) p q = refl
    trans (Free i) (Inside j) w p q = absurd cc
    trans (Free i) (Free j) (Inside k) p q = absurd cc
    trans (Free i) (Free j) (Free k) p q = nat_cmp_total.trans i j k p q

    congr : (u v w : Var) → variable_order u v ≡ Equal → variable_order u w ≡ variable_order v w
    congr (Inside i) (Inside j) (Inside k) p = nat_cmp_total.congr i j k p
    congr (Inside i) (Inside j) (Free k) p = refl
    congr (Inside i) (Free j) w p = absurd cc
    congr (Free i) (Inside j) w p = absurd cc
    congr (Free i) (Free j) (Inside k) p = refl
    congr (Free i) (Free j) (Free k) p = nat_cmp_total.congr i j k p

pub order_ties : (v w : Var) → same_var v w ≡ eq_by_cmp variable_order v w
order_ties (Inside i) (Inside j) = unsigned_ties i j
order_ties (Inside i) (Free j) = refl
order_ties (Free i) (Inside j) = refl
order_ties (Free i) (Free j) = unsigned_ties i j

pub same_equiv : IsEquivalence same_var
same_equiv = record {
  refl = λ v. order_ties v v ∙ tied.refl v;
  symm = λ v w. order_ties v w ∙ tied.symm v w ∙ sym (order_ties w v);
  congr = λ u v w e. order_ties u w ∙ tied.congr u v w (sym (order_ties u v) ∙ e) ∙ sym (order_ties v w);
}
  where
    tied : IsEquivalence (eq_by_cmp variable_order)
    tied = eq_by_cmp_equiv order_total

pub order_po : IsPartialOrder same_var (λ v w. Some (variable_order v w))
order_po = po order_total order_ties
